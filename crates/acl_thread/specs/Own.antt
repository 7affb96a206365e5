-- The rule that fails at a form itself.
use Rattle.std.specs.Prelude.{ℕ, List, [], ◌∷◌, map, Bool, true, false, not, Option, Some, None, option_to_list, unwrap_or, if◌then◌else◌}
use Rattle.std.specs.List.{filter_map}
use Rattle.std.specs.Option.{option_map_or}
use Rattle.model_terms.specs.declared.rule.Rule.{Rule}
use Rattle.model_terms.specs.declared.rule.Mode.{Mode}
use Rattle.model_terms.specs.declared.rule.Mode.TheVariants.{Executable, Logic, Macro}
use Rattle.model_terms.specs.Cores.{Core, Cores, variable}
use Rattle.model_terms.specs.Worlds.{World, Out, Ordinary, Stobj, Scope, Signature}
use Rattle.model_terms.specs.Outputs.{stobj_actuals}
use Rattle.model_terms.specs.Sites.{ins_of, one_ordinary}
use Rattle.model_terms.specs.Nested.{same_kinds}
use Rattle.model_terms.specs.Faults.{first_rule}

-- the smallest rule that fails at a form in a scope
unfoldable pub own_rule : World → Mode → Scope → Core → Option ℕ → List Out → Option Rule
own_rule w mode scope f formal expected = first_rule w mode (record { form = f; scope = scope; formal = formal; expected = expected })

-- whether all rules are tested
abbrev pub full : Mode → Bool
full Executable = true
full Logic = false
full Macro = true

-- a rule where it fails, else the one that comes later
abbrev pub when : Bool → Rule → Option Rule → Option Rule
when fails rule later = if fails then Some rule else later

-- outputs where they are known, else one ordinary
abbrev pub known_or_one : Option (List Out) → List Out
known_or_one outputs = unwrap_or outputs (Ordinary ∷ [])

-- whether an object is bound to what does not give exactly that object
abbrev pub is_bound_wrongly : Out → Option (List Out) → Bool
is_bound_wrongly Ordinary outputs = false
is_bound_wrongly (Stobj x) outputs = not (same_kinds (known_or_one outputs) (Stobj x ∷ []))

-- the variable that stands in an object position
abbrev pub object_variable : Out → Core → List ℕ
object_variable Ordinary f = []
object_variable (Stobj x) f = option_to_list (variable f)

-- the variables in the object positions of a call
abbrev pub object_variables : List Out → Cores → List ℕ
object_variables ins actuals = filter_map (λ v. v) (stobj_actuals ins actuals)

-- the kinds of the formals of a signature
abbrev pub own_ins : Option Signature → List Out
own_ins signature = option_map_or (λ (s : Signature). s.ins) signature []
