-- A machine that is begun on the tree of a macro's body ends with what checked evaluation of the body gives.
use Rattle.std.specs.Prelude.{◌≡◌, ℕ, ◌+◌, List, [], ◌∷◌, length, map, Bool, true, false, Option, Some, None, nat_eq, refl, cond}
use Rattle.std.specs.Option.{option_or}
use Rattle.std.specs.List.{list_any}
use Rattle.std.proofs.Common.{sym, ap, ◌∙◌, arith, subst}
use Rattle.model_objects.specs.Object.{Object}
use Rattle.model_symbols.specs.Symbols.{QualifiedName, Package}
use Rattle.model_prims.specs.Kinds.{by_number}
use Rattle.model_terms.specs.declared.rule.Rule.TheVariants.{S15}
use Rattle.model_terms.specs.declared.rule.Mode.TheVariants.{Executable, Macro}
use Rattle.model_terms.specs.Cores.{Core, Place}
use Rattle.model_terms.specs.Worlds.{World, Out, Ordinary, Scope, MacroFormals}
use Rattle.model_terms.specs.Worlds as worlds
use Rattle.model_terms.specs.Classes.{is_stobj_name}
use Rattle.model_terms.specs.Scopes.{kind_in}
use Rattle.model_terms.specs.Sites.{one_ordinary}
use Rattle.model_terms.specs.Faults.{Fault, at, first_fault, ordinary_scope, formal_names, macro_fault}
use Rattle.model_eval.specs.Outcomes.{Shown, Plain, StobjNamed, Outcome}
use Rattle.model_eval.specs.ListsKeeping.{lists_keeping}
use Rattle.model_eval.specs.Variables.{Variables, variable_in, bound, plain, inner_variables}
use Rattle.model_eval.specs.Checked.{checked, checked_keeping, begun}
use Rattle.model_accepted.specs.StobjScopes.{IsOfKind, AreVariables}
use Rattle.model_slots.specs.Trees.{Tree}
use Rattle.model_slots.specs.Environments.{formal_environment, variables_in}
use Rattle.model_slots.specs.Laws.{Holds, as_formals}
use Rattle.model_slots.proofs.SlotLemmas.{binds_as_evaluation, are_bound}
use Rattle.model_window.specs.Windows.{Memory}
use Rattle.model_window.specs.Frames.{Code, Going}
use Rattle.model_window.specs.Turns.{begun_on}
use Rattle.model_window.specs.Laws.{EndsIn}
use Rattle.model_window_laws.specs.Laws.{AcceptedFormsEnd}
use Rattle.model_macro_bodies.specs.Bodies.{AreRun, HasBody}
use Rattle.model_macro_bodies.specs.Counts.{AreOrdinary}
use Rattle.model_macro_bodies.specs.Laws.{body_value, MacroBodiesEnd}
use Rattle.model_macro_bodies.proofs.CountLemmas.{bound_ordinary}
use Rattle.model_macro_bodies.proofs.ExecutableLemmas.{executable_form}

-- ---- the rules

none_at : (outer : Place) (fault : Option Fault) → at outer fault ≡ None → fault ≡ None
none_at outer None e = refl
none_at outer (Some f) e = cc

body_accepted : (w : World) (formals : MacroFormals) (f : Core) → macro_fault w formals f ≡ None → first_fault w Macro (ordinary_scope (formal_names formals)) f one_ordinary ≡ None
body_accepted w formals f n = go (list_any (is_stobj_name w) (formal_names formals)) n
  where
    go : (b : Bool) → cond b (Some (record { rule = S15; place = 0 ∷ [] })) (at (0 ∷ 1 ∷ []) (first_fault w Macro (ordinary_scope (formal_names formals)) f one_ordinary)) ≡ None
        → first_fault w Macro (ordinary_scope (formal_names formals)) f one_ordinary ≡ None
    go true e = absurd cc
    go false e = none_at (0 ∷ 1 ∷ []) _ e

-- ---- variables

IsPlain : Shown ℕ → Type 0
IsPlain (Plain o) = Unit {0}
IsPlain (StobjNamed y) = ⊥

ordinary_value : (vs : Variables ℕ) → AreOrdinary vs → (x : ℕ) → IsPlain (variable_in by_number vs x)
unfolding IsPlain
ordinary_value [] a x = tt
ordinary_value ((y, Plain o) ∷ vs) a x = go (nat_eq x y) (ordinary_value vs a x)
  where
    go : (b : Bool) → IsPlain (variable_in by_number vs x) → IsPlain (cond b (Plain o) (variable_in by_number vs x))
    go true h = tt
    go false h = h
ordinary_value ((y, StobjNamed z) ∷ vs) a x = elim a [ ]

-- a kind that is there is ordinary
IsOrdinary : Option Out → Type 0
IsOrdinary None = Unit {0}
IsOrdinary (Some Ordinary) = Unit {0}
IsOrdinary (Some (worlds.Stobj y)) = ⊥

ordinary_kind : (names : List ℕ) (x : ℕ) → IsOrdinary (kind_in (ordinary_scope names) x)
unfolding IsOrdinary
ordinary_kind [] x = tt
ordinary_kind (y ∷ ys) x = go (kind_in (ordinary_scope ys) x) (nat_eq x y) (ordinary_kind ys x)
  where
    go : (o : Option Out) (b : Bool) → IsOrdinary o → IsOrdinary (option_or o (cond b (Some Ordinary) None))
    go None true h = tt
    go None false h = tt
    go (Some k) b h = h

of_kind : (x : ℕ) (k : Out) (v : Shown ℕ) → IsOrdinary (Some k) → IsPlain v → IsOfKind x k v
unfolding IsOrdinary IsPlain
of_kind x Ordinary (Plain o) a b = tt
of_kind x Ordinary (StobjNamed y) a b = elim b [ ]
of_kind x (worlds.Stobj y) v a b = elim a [ ]

are_variables : (names : List ℕ) (vs : Variables ℕ) → AreOrdinary vs → AreVariables (ordinary_scope names) vs
are_variables names vs a = record {
  each = λ x k e. of_kind x k (variable_in by_number vs x) (subst (λ o. IsOrdinary o) e (ordinary_kind names x)) (ordinary_value vs a x);
}

-- ---- the window

bound_inner : (xs : List ℕ) (os : List (Object ℕ)) → bound xs (plain os) [] ≡ inner_variables xs (plain os)
bound_inner [] os = refl
bound_inner (x ∷ xs) [] = refl
bound_inner (x ∷ xs) (o ∷ os) = rw (bound_inner xs os) refl

plain_formals : (xs : List ℕ) (os : List (Object ℕ)) → length os ≡ length xs → as_formals xs (plain os) ≡ plain os
plain_formals [] [] n = refl
plain_formals [] (o ∷ os) n = absurd (omega arith)
plain_formals (x ∷ xs) [] n = refl
plain_formals (x ∷ xs) (o ∷ os) n = rw (plain_formals xs os (omega arith)) refl

plain_many : (os : List (Object ℕ)) → length (plain os) ≡ length os
plain_many [] = refl
plain_many (o ∷ os) = rw (plain_many os) refl

in_window : (xs : List ℕ) (os : List (Object ℕ)) (memory : Memory ℕ) → length os ≡ length xs → Holds memory 0 (plain os)
    → bound xs (plain os) [] ≡ variables_in memory (formal_environment xs)
in_window xs os memory n h =
    let many : length xs ≡ length (plain os) = sym n ∙ sym (plain_many os) in
    bound_inner xs os ∙ binds_as_evaluation.formals memory xs (plain os) many (subst (λ vs. Holds memory 0 vs) (sym (plain_formals xs os n)) h)

-- ---- ends

module _ (ends : AcceptedFormsEnd lists_keeping) (w : World) (packages : List Package) (limit : ℕ) (code : Code) (run : AreRun w code) (formals : MacroFormals) (body : Core) (tree : Tree) (has : HasBody w formals body tree)
    (values : List (Object ℕ)) (many : length values ≡ length (formal_names formals)) (memory : Memory ℕ) (lie : Holds memory 0 (plain values)) (depth : ℕ) (symbols : List QualifiedName) (used : ℕ) where
  abbrev names : List ℕ
  names = formal_names formals

  abbrev inside : Variables ℕ
  inside = variables_in memory (formal_environment names)

  same : bound names (plain values) [] ≡ inside
  same = in_window names values memory many lie

  accepted : first_fault has.world Executable (ordinary_scope names) body one_ordinary ≡ None
  accepted = executable_form has.world (ordinary_scope names) body one_ordinary (body_accepted has.world formals body has.accepted)

  variables : AreVariables (ordinary_scope names) inside
  variables = subst (λ (vs : Variables ℕ). AreVariables (ordinary_scope names) vs) same (are_variables names (bound names (plain values) []) (bound_ordinary names values))

  abbrev value_over : Variables ℕ → Outcome ℕ
  value_over vs = checked w packages limit depth body vs (begun symbols [] used)

  abbrev EndsWith : ℕ → Outcome ℕ → Type 0
  EndsWith n outcome = EndsIn (checked_keeping lists_keeping w packages limit) code n (Going (begun_on depth tree memory (begun symbols [] used))) outcome

  body_ends : (n : ℕ) × EndsWith n (body_value w packages limit depth formals body values symbols used)
  body_ends =
      let found = ends.ends w run.threaded packages limit run.origins code run.are run.holds has.world has.suits has.earlier (ordinary_scope names) body one_ordinary has.formed accepted
      (formal_environment names) (length names) (are_bound.formals names) tree has.is memory variables depth (begun symbols [] used) in
      (found.0, subst (λ (vs : Variables ℕ). EndsWith found.0 (value_over vs)) (sym same) found.1)

  body_alone : (n : ℕ) (outcome : Outcome ℕ) → EndsWith n outcome → outcome ≡ body_value w packages limit depth formals body values symbols used
  body_alone n outcome e =
      ends.alone w run.threaded packages limit run.origins code run.are run.holds has.world has.suits has.earlier (ordinary_scope names) body one_ordinary has.formed accepted
      (formal_environment names) (length names) (are_bound.formals names) tree has.is memory variables depth (begun symbols [] used) n outcome e
      ∙ ap value_over (sym same)

pub bodies_end : AcceptedFormsEnd lists_keeping → MacroBodiesEnd
bodies_end ends = record {
  ends = λ w packages limit code run formals body tree has values many memory lie depth symbols used. body_ends ends w packages limit code run formals body tree has values many memory lie depth symbols used;
  alone = λ w packages limit code run formals body tree has values many memory lie depth symbols used n outcome e.
      body_alone ends w packages limit code run formals body tree has values many memory lie depth symbols used n outcome e;
}
