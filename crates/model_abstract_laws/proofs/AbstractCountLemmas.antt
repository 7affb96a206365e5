-- Abstract evaluation counts: its outcomes are those of rules that know every list and value.
use Rattle.std.proofs.Common.{ℕ, ◌≤◌, List, [], Option, Some, None, refl, subst}
use Rattle.std.specs.Prelude.{nat_le, ℤ, pos, negsuc, unwrap_or}
use Rattle.model_objects.specs.Object.{weight, max_weight}
use Rattle.model_symbols.specs.Symbols.{QualifiedName, Package}
use Rattle.model_prims.specs.Kinds.{by_name}
use Rattle.model_prims.specs.Numbers.{shifted, in_range, power_in_range, shift_in_range}
use Rattle.model_prims.specs.Lists.{updated}
use Rattle.model_prims.specs.Values.{Wanted, Old, Number, Made, Power, Shift, Update, Interned, wanted}
use Rattle.model_prims.specs.Guards.{guard}
use Rattle.model_prims.specs.Applied.{argument}
use Rattle.model_prims.specs.declared.prim.Prim.{Prim}
use Rattle.model_lists.specs.Lists.{StobjList, End}
use Rattle.model_terms.specs.Cores.{Core}
use Rattle.model_terms.specs.Worlds.{FunctionOfAbstract}
use Rattle.model_eval.specs.Outcomes.{Shown, Guard, State, Outcome, Gives, Stops, Unknown, Stobjs, stops_here}
use Rattle.model_eval.specs.Variables.{Variables, ordinary}
use Rattle.model_eval.specs.Evaluated.{Rules, evaluated}
use Rattle.model_logic.specs.Logic.{Theory, Thing}
use Rattle.model_abstract.specs.Rules.{gives_number, gives_weighed, gives_old, gives_shifted, bounded_value, abstract_applied, abstract_primitive, abstract_export, abstract_rules, abstractly}
use Rattle.model_abstract_laws.specs.Budgets.{HasOutcome}
use Rattle.model_eval_laws.specs.Counting.{Counts, HasStobjs}
use Rattle.model_abstract_laws.specs.Counting.{AbstractCountsCalls}
use Rattle.model_eval_laws.proofs.Counts.{grown_same, grown_objects, counts_if, RulesCount, counts_evaluated, stays_evaluated}
use Rattle.model_abstract_laws.proofs.Kept.{Kept, ListKept, Keeps, fuller_rules, kept_evaluated}

-- ---- primitives

module _ (limit f : ℕ) (state : State QualifiedName) where
  counts_number : (packages : List Package) (n : Option ℤ) → Counts limit state (gives_number packages f state n)
  counts_number packages None = (grown_same limit state, λ q. absurd q)
  counts_number packages (Some n) = grown_same limit state

  counts_weighed : (packages : List Package) (o : Thing) → Counts limit state (gives_weighed packages f state o)
  counts_weighed packages o = counts_if limit state (nat_le (weight o) max_weight) _ _ (grown_same limit state) (grown_same limit state, λ q. absurd q)

  counts_old : (packages : List Package) (o : Thing) → Counts limit state (gives_old packages f state o)
  counts_old packages o = grown_same limit state

  counts_shifted : (packages : List Package) (i c : ℤ) → Counts limit state (gives_shifted packages f state i c)
  counts_shifted packages i (pos c) = counts_number packages (shift_in_range i (pos c))
  counts_shifted packages i (negsuc c) = counts_number packages (in_range (shifted i (negsuc c)))

  counts_bounded : (packages : List Package) (w : Wanted QualifiedName) → Counts limit state (bounded_value packages f state w)
  unfolding bounded_value
  counts_bounded packages (Old o) = counts_old packages o
  counts_bounded packages (Number n) = counts_number packages (in_range n)
  counts_bounded packages (Made o) = counts_weighed packages o
  counts_bounded packages (Power b n) = counts_number packages (power_in_range b n)
  counts_bounded packages (Shift i c) = counts_shifted packages i c
  counts_bounded packages (Update n o l) =
      counts_if limit state (nat_le n max_weight) _ _ (counts_weighed packages (updated by_name n o l)) (grown_same limit state, λ q. absurd q)
  counts_bounded packages (Interned name s) = grown_same limit state

  counts_refused : (values : List (Shown QualifiedName)) → Counts limit state (stops_here (Guard f values) state)
  counts_refused values = (grown_same limit state, λ q. absurd q)

  counts_applied : (packages : List Package) (p : Prim) (values : List (Shown QualifiedName)) (x y z : Thing) → Counts limit state (abstract_applied packages f state p values x y z)
  counts_applied packages p values x y z =
      counts_if limit state (guard by_name p x y z) _ (stops_here (Guard f values) state) (counts_bounded packages (wanted by_name (λ s. s) p x y z)) (counts_refused values)

  counts_primitive : (packages : List Package) (p : Prim) (values : List (Shown QualifiedName)) → Counts limit state (abstract_primitive packages f p values state)
  counts_primitive packages p values =
      let args = ordinary values in
      counts_applied packages p values (argument by_name args 0) (argument by_name args 1) (argument by_name args 2)

-- ---- rules that know all

-- an outcome, whatever is not known
abbrev known_or : State QualifiedName → Outcome QualifiedName → Outcome QualifiedName
known_or state (Gives values after) = Gives values after
known_or state (Stops stop origin after) = Stops stop origin after
known_or state Unknown = Gives [] state

kept_known : (state : State QualifiedName) (r : Outcome QualifiedName) → Kept r (known_or state r)
kept_known state (Gives values after) = refl
kept_known state (Stops stop origin after) = refl
kept_known state Unknown = tt

kept_list_or : (x : Option (StobjList QualifiedName)) → ListKept x (Some (unwrap_or x End))
kept_list_or None = tt
kept_list_or (Some l) = refl

module _ (b : Theory) (budget k : ℕ) where
  abbrev known_fresh : ℕ → Option (StobjList QualifiedName)
  known_fresh x = Some (unwrap_or ((abstract_rules b budget k).fresh x) End)

  abbrev known_export : FunctionOfAbstract → List (Shown QualifiedName) → Stobjs QualifiedName → (State QualifiedName → Outcome QualifiedName) → State QualifiedName → Outcome QualifiedName
  known_export f values before exec state = known_or state ((abstract_rules b budget k).export f values before exec state)

  abbrev known_rules : Rules QualifiedName
  known_rules = fuller_rules (abstract_rules b budget k) known_fresh known_export

  known_keep : Keeps (abstract_rules b budget k) known_fresh known_export
  known_keep = record {
    freshly = λ x. kept_list_or ((abstract_rules b budget k).fresh x);
    exports = λ f values before go to h state. kept_known state ((abstract_rules b budget k).export f values before go state);
  }

  counts_export : (f : FunctionOfAbstract) (values : List (Shown QualifiedName)) (state : State QualifiedName) (v : Option Thing) → Counts k state (known_or state (abstract_export b budget f values state v))
  counts_export f values state None = grown_same k state
  counts_export f values state (Some v) = grown_objects k state state _ _ (grown_same k state)

  known_count : RulesCount known_rules
  known_count = record {
    primitives = λ f p values state. counts_primitive k f state b.packages p values;
    exports = λ f values before go h state. counts_export f values state _;
    known = λ x. (_, refl);
  }

-- ---- the laws

counts_kept : (k : ℕ) (state : State QualifiedName) (r s : Outcome QualifiedName) → Kept r s → Counts k state s → HasOutcome r → Counts k state r
counts_kept k state (Gives values after) s e c h = subst (Counts k state) e c
counts_kept k state (Stops stop origin after) s e c h = subst (Counts k state) e c
counts_kept k state Unknown s e c h = absurd h

objects_kept : (stobjs : Stobjs QualifiedName) (r s : Outcome QualifiedName) → Kept r s → HasStobjs stobjs s → HasStobjs stobjs r
objects_kept stobjs (Gives values after) s e h = subst (HasStobjs stobjs) e h
objects_kept stobjs (Stops stop origin after) s e h = subst (HasStobjs stobjs) e h
objects_kept stobjs Unknown s e h = tt

module _ (b : Theory) (budget k d : ℕ) (form : Core) (variables : Variables QualifiedName) (state : State QualifiedName) where
  known_kept : Kept (abstractly b budget k d form variables state) (evaluated (known_rules b budget k) d form variables state)
  known_kept = kept_evaluated (abstract_rules b budget k) _ _ (known_keep b budget k) d form variables state

  counts_abstractly : HasOutcome (abstractly b budget k d form variables state) → Counts k state (abstractly b budget k d form variables state)
  counts_abstractly = counts_kept k state _ _ known_kept (counts_evaluated (known_rules b budget k) (known_count b budget k) d form variables state)

  stays_abstractly : k ≤ state.calls → HasStobjs state.stobjs (abstractly b budget k d form variables state)
  stays_abstractly h =
      objects_kept state.stobjs _ _ known_kept (stays_evaluated (known_rules b budget k) (known_count b budget k) d form variables state h)

pub abstract_counts_calls : AbstractCountsCalls
abstract_counts_calls = record { counts = counts_abstractly; cut = stays_abstractly }
