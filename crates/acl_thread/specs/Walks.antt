-- Faults on their way out of a form, and kinds of formals by which actuals are taken alike.
use Rattle.std.specs.Prelude.{◌≡◌, ℕ, List, [], ◌∷◌, reverse, Bool, ◌||◌, Option, option_map, drop}
use Rattle.std.specs.Option.{option_or}
use Rattle.model_terms.specs.declared.rule.Rule.{Rule}
use Rattle.model_terms.specs.declared.rule.Mode.{Mode}
use Rattle.model_terms.specs.Cores as cores
use Rattle.model_terms.specs.Cores.{Cores}
use Rattle.model_terms.specs.Worlds.{World, Out, Scope}
use Rattle.model_terms.specs.Scopes.{name_kinds}
use Rattle.model_terms.specs.Outputs.{outputs, stobj_actuals}
use Rattle.model_terms.specs.Sites.{ins_of}
use Rattle.model_terms.specs.Rules.{any_gives_another}
use Rattle.model_terms.specs.Faults as faults
use Rattle.model_terms.specs.Faults.{first_at}
use Rattle.model_terms_laws.specs.Parts.{parts_fault, actuals_fault}
use Rattle.acl_terms.specs.declared.fault.ThreadFault.{ThreadFault}
use Rattle.acl_terms.specs.declared.fault.ThreadFault.TheVariants as fault
use Rattle.acl_terms.specs.declared.signature.Entry.{Entry}
use Rattle.acl_terms.specs.Signatures.{seen_scope}
use Rattle.acl_thread.specs.declared.fault.Fault.{Fault}

-- a fault with its place from the root inwards
abbrev pub seen_fault : Fault → faults.Fault
seen_fault f = record { rule = f.rule; place = reverse f.outward }

-- the fault of a rule that fails at the form itself
abbrev pub at_form : Option Rule → Option faults.Fault
at_form rule = option_map (λ r. record { rule = r; place = [] }) rule

-- an answer names this fault
abbrev pub Names : faults.Fault → ThreadFault → Type 0
Names first (fault.Rule rule place) = first ≡ record { rule = rule; place = place }
Names first fault.Memory = ⊥

-- kinds of formals by which actuals are taken alike
pub record AlikeIns (first second : List Out) : Type 0 where
  pub faults : (w : World) (mode : Mode) (scope : Scope) (k : ℕ) (fs : Cores) → actuals_fault w mode scope first k fs ≡ actuals_fault w mode scope second k fs
  pub actuals : (fs : Cores) → stobj_actuals first fs ≡ stobj_actuals second fs

-- outputs by text and the first fault of a form in a scope, as an actual in the position of a stobj or not
pub record IsWalked (w : World) (mode : Mode) (scope : Scope) (f : cores.Core) (formal : Option ℕ) (expected : List Out) (os : Option (List Out)) (found : Option faults.Fault) : Type 0 where
  pub gives : os ≡ outputs w [] scope f
  pub finds : found ≡ first_at w mode scope f formal expected

-- the faults of the parts so far, and then of those left, are all; the scope stands
pub record PartsSoFar (w : World) (mode : Mode) (start now : List Entry) (all found : Option faults.Fault) (kinds : List Out) (k : ℕ) (left : Cores) : Type 0 where
  pub same : now ≡ start
  pub finds : all ≡ option_or found (parts_fault w mode (seen_scope start) kinds k left)

-- the same of the actuals of a call
pub record ActualsSoFar (w : World) (mode : Mode) (start now : List Entry) (all found : Option faults.Fault) (ins : List Out) (k : ℕ) (left : Cores) : Type 0 where
  pub same : now ≡ start
  pub finds : all ≡ option_or found (actuals_fault w mode (seen_scope start) ins k left)

-- the same of what is bound to names, and whether an object is bound to what does not give it
pub record BoundSoFar (w : World) (mode : Mode) (start now : List Entry) (all found : Option faults.Fault) (any wrong : Bool) (names : List ℕ) (k : ℕ) (left : Cores) : Type 0 where
  pub same : now ≡ start
  pub finds : all ≡ option_or found (parts_fault w mode (seen_scope start) (name_kinds w names) k left)
  pub tells : any ≡ (wrong || any_gives_another w (seen_scope start) names left)
