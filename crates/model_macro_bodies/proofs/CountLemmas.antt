-- What an evaluation without stobjs leaves and counts.
use Rattle.std.specs.Prelude.{◌≡◌, ℕ, ◌+◌, ◌≤◌, List, [], ◌∷◌, ◌++◌, refl}
use Rattle.std.proofs.Common.{arith}
use Rattle.model_objects.specs.Object.{Object}
use Rattle.model_symbols.specs.Symbols.{QualifiedName, Package}
use Rattle.model_terms.specs.Cores.{Core}
use Rattle.model_terms.specs.Worlds.{World}
use Rattle.model_terms.specs.Faults.{formal_names}
use Rattle.model_lists.specs.Lists.{StobjList}
use Rattle.model_eval.specs.Outcomes.{Shown, Plain, StobjNamed, Stobjs, Stop, State, Outcome, Gives, Stops, Unknown}
use Rattle.model_eval.specs.Variables.{Variables, bound, plain}
use Rattle.model_eval.specs.Checked.{checked, begun}
use Rattle.model_eval_laws.specs.Counting.{Grown, Counts}
use Rattle.model_eval_laws.specs.Scope.{names, AllInScope, HasNames}
use Rattle.model_eval_laws.proofs.CountLemmas.{counts_calls}
use Rattle.model_eval_laws.proofs.FrameLemmas.{leaves_others}
use Rattle.model_macro_bodies.specs.Counts.{AreOrdinary, IsCounted, EndsCounted}
use Rattle.model_macro_bodies.specs.Laws.{body_value, PlainFormsCount}

no_names : (stobjs : Stobjs ℕ) → names stobjs ≡ [] → stobjs ≡ []
no_names [] e = refl
no_names (o ∷ os) e = cc

in_scope_all : (vs : Variables ℕ) → AreOrdinary vs → AllInScope [] vs
in_scope_all [] a = tt
in_scope_all ((x, Plain o) ∷ vs) a = (tt, in_scope_all vs a)
in_scope_all ((x, StobjNamed y) ∷ vs) a = elim a [ ]

module _ (limit used : ℕ) (symbols : List QualifiedName) (some : used ≤ limit) where
  counted : (state : State ℕ) → Grown limit (begun symbols [] used) state → names state.stobjs ≡ [] → IsCounted limit used symbols state
  counted state g e = record {
    within = g.within some;
    outer = omega (arith, g.outer_calls);
    stobjs = no_names state.stobjs e;
    added = g.symbols.0;
    symbols_are = g.symbols.1;
  }

  ends_counted : (o : Outcome ℕ) → Counts limit (begun symbols [] used) o → HasNames [] o → EndsCounted limit used symbols o
  ends_counted (Gives values state) c n = counted state c n
  ends_counted (Stops stop origin state) c n = counted state c.0 n
  ends_counted Unknown c n = c

form_counts : (w : World) (packages : List Package) (limit depth : ℕ) (f : Core) (variables : Variables ℕ) → AreOrdinary variables → (symbols : List QualifiedName) (used : ℕ) → used ≤ limit
    → EndsCounted limit used symbols (checked w packages limit depth f variables (begun symbols [] used))
form_counts w packages limit depth f variables a symbols used some =
    ends_counted limit used symbols some (checked w packages limit depth f variables (begun symbols [] used))
    (counts_calls.counts w packages limit depth f variables (begun symbols [] used))
    (leaves_others.kept w packages limit depth f variables (begun symbols [] used) (in_scope_all variables a))

pub bound_ordinary : (xs : List ℕ) (values : List (Object ℕ)) → AreOrdinary (bound xs (plain values) [])
bound_ordinary [] values = tt
bound_ordinary (x ∷ xs) [] = tt
bound_ordinary (x ∷ xs) (o ∷ os) = bound_ordinary xs os

pub plain_forms_count : PlainFormsCount
plain_forms_count = record {
  form = form_counts;
  body = λ w packages limit depth formals f values symbols used some.
      form_counts w packages limit depth f (bound (formal_names formals) (plain values) []) (bound_ordinary (formal_names formals) values) symbols used some;
}
