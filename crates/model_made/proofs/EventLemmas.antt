-- What an event grants: steps of events, and the events that bring macros, constants and packages.
use Rattle.std.proofs.Common.{◌≡◌, ℕ, [], ◌∷◌, ◌++◌, Bool, true, false, Option, Some, None, refl}
use Rattle.std.specs.Prelude.{option_map, option_and_then, if◌then◌else◌}
use Rattle.model_objects.specs.Object.{Object}
use Rattle.model_terms.specs.Worlds.{World, Definition, definition, Macro, Constant, Concrete}
use Rattle.model_terms.specs.Classes.{class_in}
use Rattle.model_terms.specs.Accessors.{accessor_in}
use Rattle.model_eval.specs.Outcomes.{Outcome, Gives, Stops, Unknown}
use Rattle.model_expansion.specs.Forms.{elements, symbol_or_nil}
use Rattle.model_terms.specs.Faults.{constant_fault}
use Rattle.model_eval.specs.Checked.{checked, begun}
use Rattle.model_expansion.specs.Faults.{Refusal, Thread}
use Rattle.model_expansion.specs.Expansion.{Setting, Progress, Expanded, Makes, Fails}
use Rattle.model_stobjs.specs.Answers.{EventResult, Grants, Refuses, Halts, then_grant, unless, needing, expanding}
use Rattle.model_events.specs.Macros.{WrittenMacro, written_macro, body_then, macro_then, macro_read}
use Rattle.model_events.specs.Macros as macros
use Rattle.model_events.specs.Constants.{valued, constant_evaluated, constant_value, name_and_form, constant_then, constant_read}
use Rattle.model_made.proofs.WorldLemmas.{EachDefinition, each_found}
use Rattle.model_made.proofs.GrowthLemmas.{Brings}
use Rattle.model_made.proofs.OpeningLemmas.{IsPlain, plain_closed, plain_made, plain_class, plain_accessor}

-- ---- steps

-- where an event grants something, it is such a thing
abbrev pub IfGrants : {A : Type 0} → (A → Type 0) → EventResult A → Type 0
IfGrants P (Grants a p) = P a
IfGrants P (Refuses r p) = Unit {0}
IfGrants P (Halts stop inside p) = Unit {0}

module _ {A B : Type 0} (P : A → Type 0) (Q : B → Type 0) where
  pub grants_then : (r : EventResult A) (go : A → Progress → EventResult B) → IfGrants P r → ((a : A) (p : Progress) → P a → IfGrants Q (go a p)) → IfGrants Q (then_grant r go)
  grants_then (Grants a p) go h k = k a p h
  grants_then (Refuses r p) go h k = tt
  grants_then (Halts stop inside p) go h k = tt

module _ {A : Type 0} (P : A → Type 0) where
  pub grants_unless : (r : Option Refusal) (go : Progress → EventResult A) (p : Progress) → (r ≡ None → IfGrants P (go p)) → IfGrants P (unless r go p)
  grants_unless None go p h = h refl
  grants_unless (Some r) go p h = tt

  pub grants_if : (b : Bool) (r s : EventResult A) → IfGrants P r → IfGrants P s → IfGrants P (if b then r else s)
  grants_if true r s h k = h
  grants_if false r s h k = k

  pub grants_valued : (e : Outcome ℕ) (go : Object ℕ → Progress → EventResult A) (p : Progress) → ((o : Object ℕ) (q : Progress) → IfGrants P (go o q)) → IfGrants P (valued e go p)
  grants_valued (Gives values state) go p h = h _ _
  grants_valued (Stops stop inside state) go p h = tt
  grants_valued Unknown go p h = tt

module _ {A B : Type 0} (Q : B → Type 0) where
  pub grants_needing : (v : Option A) (r : Refusal) (go : A → Progress → EventResult B) (p : Progress) → ((a : A) → v ≡ Some a → IfGrants Q (go a p)) → IfGrants Q (needing v r go p)
  grants_needing None r go p h = tt
  grants_needing (Some a) r go p h = h a refl

  pub grants_expanding : (e : Expanded A) (go : A → Progress → EventResult B) → ((a : A) (p : Progress) → e ≡ Makes a p → IfGrants Q (go a p)) → IfGrants Q (expanding e go)
  grants_expanding (Makes a p) go h = h a p refl
  grants_expanding (Fails fault p) go h = tt

-- ---- macros and constants

pub none_some : {A B : Type 0} {a : A} (v : Option A) → v ≡ None → v ≡ Some a → B
none_some v e f = cc

pub plain_brings : (w new : World) → EachDefinition IsPlain new → Brings w new
plain_brings w new plain =
    let is : ((x : ℕ) (d : Definition) → definition new x ≡ Some d → IsPlain d) = λ x d e. each_found IsPlain new plain x d e in
    record {
      closed = λ x d n e. plain_closed (w ++ new) d (is x d e);
      made = λ x d n e. plain_made (w ++ new) d (is x d e);
      alike = λ x k d n e c. none_some (class_in d) (plain_class d (is x d e)) c;
      there = λ x k d n e c. none_some (class_in d) (plain_class d (is x d e)) c;
      accessors = λ x d a n e c. none_some (accessor_in (w ++ new) d) (plain_accessor (w ++ new) d (is x d e)) c;
      children = λ x class d n e. absurd (is x (Concrete d class) e);
      nested = λ x class d n e. absurd (is x (Concrete d class) e);
    }

pub macro_plain : (x : Setting) (d : Object ℕ) (p : Progress) → IfGrants (EachDefinition IsPlain) (macro_read x d p)
unfolding macro_read
macro_plain x d p =
    grants_needing (EachDefinition IsPlain) (written_macro d) _ (macro_then x) p (λ m same.
    grants_unless (EachDefinition IsPlain) (macros.written_fault p.symbols x.world m) _ p (λ free.
    grants_expanding (EachDefinition IsPlain) _ (body_then x.world m) (λ body q made.
    grants_unless (EachDefinition IsPlain) _ (Grants (Macro (symbol_or_nil m.name) (macros.macro_formals m.formals) body ∷ [])) q (λ ruled. (tt, tt)))))

pub constant_plain : (x : Setting) (d : Object ℕ) (p : Progress) → IfGrants (EachDefinition IsPlain) (constant_read x d p)
unfolding constant_read
constant_plain x d p =
    grants_needing (EachDefinition IsPlain) (option_and_then name_and_form (elements d)) _ (constant_then x) p (λ c same.
    grants_unless (EachDefinition IsPlain) _ (constant_value x c.1 (λ value. Grants (Constant (symbol_or_nil c.0) value ∷ []))) p (λ free.
    grants_expanding (EachDefinition IsPlain) _ (constant_evaluated x (λ value. Grants (Constant (symbol_or_nil c.0) value ∷ []))) (λ f q made.
    grants_unless (EachDefinition IsPlain) (option_map Thread (constant_fault x.world f))
    (λ after. valued (checked x.world x.packages x.steps x.depth f [] (begun after.symbols [] after.calls)) (λ value. Grants (Constant (symbol_or_nil c.0) value ∷ [])) after) q (λ ruled.
    grants_valued (EachDefinition IsPlain) (checked x.world x.packages x.steps x.depth f [] (begun q.symbols [] q.calls)) (λ value. Grants (Constant (symbol_or_nil c.0) value ∷ [])) q (λ o after. (tt, tt))))))
