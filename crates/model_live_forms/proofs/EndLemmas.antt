-- A machine that is begun on the tree of a form over live stobjs ends with what checked evaluation of the form gives.
use Rattle.std.specs.Prelude.{◌≡◌, ℕ, suc, List, [], ◌∷◌, length, Bool, true, false, ◌||◌, nat_eq, if◌then◌else◌, refl}
use Rattle.std.proofs.Common.{sym, ap, ◌∙◌, subst}
use Rattle.std.proofs.lemmas.Bool.{eqb-true}
use Rattle.model_prims.specs.Kinds.{by_number}
use Rattle.model_symbols.specs.Symbols.{QualifiedName, Package}
use Rattle.model_terms.specs.Cores.{Core}
use Rattle.model_terms.specs.Worlds.{World, Out}
use Rattle.model_terms.specs.Worlds as worlds
use Rattle.model_terms.specs.Outputs.{outs}
use Rattle.model_eval.specs.Outcomes.{Shown, StobjNamed, Stobjs, Outcome}
use Rattle.model_eval.specs.ListsKeeping.{lists_keeping}
use Rattle.model_eval.specs.Variables.{Variables, variable_in, inner_variables}
use Rattle.model_eval.specs.Checked.{checked, checked_keeping, begun, live}
use Rattle.model_eval_laws.specs.Scope.{names, is_among}
use Rattle.model_accepted.specs.StobjScopes.{IsOfKind, AreVariables}
use Rattle.model_accepted.proofs.AcceptLemmas.{false_true}
use Rattle.model_in_place.specs.Commands.{live_scope}
use Rattle.model_in_place.proofs.BeginLemmas.{live_object}
use Rattle.model_slots.specs.Trees.{Tree}
use Rattle.model_slots.specs.Environments.{formal_environment, variables_in}
use Rattle.model_slots.specs.Laws.{Holds, as_formals}
use Rattle.model_slots.proofs.SlotLemmas.{binds_as_evaluation, are_bound}
use Rattle.model_window.specs.Windows.{Memory}
use Rattle.model_window.specs.Frames.{Code, Going}
use Rattle.model_window.specs.Turns.{begun_on}
use Rattle.model_window.specs.Stands.{IsEarlier}
use Rattle.model_window.specs.Laws.{EndsIn}
use Rattle.model_window_laws.specs.Laws.{AcceptedFormsEnd}
use Rattle.model_macro_bodies.specs.Bodies.{AreRun}
use Rattle.model_live_forms.specs.Trees.{live_values, HasLiveTree}
use Rattle.model_live_forms.specs.Laws.{live_value, LiveFormsEnd}

-- ---- variables

live_variable : (os : Stobjs ℕ) (x : ℕ) → is_among x (names os) ≡ true → variable_in by_number (live os) x ≡ StobjNamed x
live_variable [] x h = false_true h
live_variable (o ∷ os) x h = go (nat_eq x o.0) refl h (live_variable os x)
  where
    go : (b : Bool) → nat_eq x o.0 ≡ b → (b || is_among x (names os)) ≡ true → (is_among x (names os) ≡ true → variable_in by_number (live os) x ≡ StobjNamed x) → (if b then StobjNamed o.0 else variable_in by_number (live os) x) ≡ StobjNamed x
    go true e f later = ap StobjNamed (sym (eqb-true x o.0 e))
    go false e f later = later f

live_variables : (os : Stobjs ℕ) → AreVariables (live_scope os) (live os)
live_variables os = record {
  each = λ x k h.
      let is : (is_among x (names os) ≡ true) × (k ≡ worlds.Stobj x) = live_object os x k h in
      subst (λ (m : Out). IsOfKind x m (variable_in by_number (live os) x)) (sym is.1) (refl, live_variable os x is.0);
}

-- ---- the window

live_inner : (os : Stobjs ℕ) → live os ≡ inner_variables (names os) (live_values os)
live_inner [] = refl
live_inner (o ∷ os) = ap (λ (vs : Variables ℕ). (o.0, StobjNamed o.0) ∷ vs) (live_inner os)

live_formals : (os : Stobjs ℕ) → as_formals (names os) (live_values os) ≡ live_values os
live_formals [] = refl
live_formals (o ∷ os) = ap (λ (vs : List (Shown ℕ)). StobjNamed o.0 ∷ vs) (live_formals os)

live_many : (os : Stobjs ℕ) → length (names os) ≡ length (live_values os)
live_many [] = refl
live_many (o ∷ os) = ap (λ (n : ℕ). suc n) (live_many os)

in_window : (os : Stobjs ℕ) (memory : Memory ℕ) → Holds memory 0 (live_values os) → live os ≡ variables_in memory (formal_environment (names os))
in_window os memory h =
    live_inner os ∙ binds_as_evaluation.formals memory (names os) (live_values os) (live_many os) (subst (λ (vs : List (Shown ℕ)). Holds memory 0 vs) (sym (live_formals os)) h)

-- ---- ends

same_world : (w : World) → IsEarlier w w
same_world w = record { number = λ f n e. e }

module _ (ends : AcceptedFormsEnd lists_keeping) (w : World) (packages : List Package) (limit : ℕ) (code : Code) (run : AreRun w code) (stobjs : Stobjs ℕ) (form : Core) (tree : Tree) (has : HasLiveTree w stobjs form tree)
    (memory : Memory ℕ) (lie : Holds memory 0 (live_values stobjs)) (depth : ℕ) (symbols : List QualifiedName) (used : ℕ) where
  abbrev inside : Variables ℕ
  inside = variables_in memory (formal_environment (names stobjs))

  same : live stobjs ≡ inside
  same = in_window stobjs memory lie

  variables : AreVariables (live_scope stobjs) inside
  variables = subst (λ (vs : Variables ℕ). AreVariables (live_scope stobjs) vs) same (live_variables stobjs)

  abbrev value_over : Variables ℕ → Outcome ℕ
  value_over vs = checked w packages limit depth form vs (begun symbols stobjs used)

  abbrev EndsWith : ℕ → Outcome ℕ → Type 0
  EndsWith n outcome = EndsIn (checked_keeping lists_keeping w packages limit) code n (Going (begun_on depth tree memory (begun symbols stobjs used))) outcome

  form_ends : (n : ℕ) × EndsWith n (live_value w packages limit depth form stobjs symbols used)
  form_ends =
      let found = ends.ends w run.threaded packages limit run.origins code run.are run.holds w has.suits (same_world w) (live_scope stobjs) form (outs w (live_scope stobjs) form) has.formed has.accepted
      (formal_environment (names stobjs)) (length (names stobjs)) (are_bound.formals (names stobjs)) tree has.is memory variables depth (begun symbols stobjs used) in
      (found.0, subst (λ (vs : Variables ℕ). EndsWith found.0 (value_over vs)) (sym same) found.1)

  form_alone : (n : ℕ) (outcome : Outcome ℕ) → EndsWith n outcome → outcome ≡ live_value w packages limit depth form stobjs symbols used
  form_alone n outcome e =
      ends.alone w run.threaded packages limit run.origins code run.are run.holds w has.suits (same_world w) (live_scope stobjs) form (outs w (live_scope stobjs) form) has.formed has.accepted
      (formal_environment (names stobjs)) (length (names stobjs)) (are_bound.formals (names stobjs)) tree has.is memory variables depth (begun symbols stobjs used) n outcome e
      ∙ ap value_over (sym same)

pub live_forms : AcceptedFormsEnd lists_keeping → LiveFormsEnd
live_forms ends = record {
  ends = λ w packages limit code run stobjs form tree has memory lie depth symbols used. form_ends ends w packages limit code run stobjs form tree has memory lie depth symbols used;
  alone = λ w packages limit code run stobjs form tree has memory lie depth symbols used n outcome e.
      form_alone ends w packages limit code run stobjs form tree has memory lie depth symbols used n outcome e;
}
