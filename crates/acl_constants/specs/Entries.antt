-- A constant whose form was evaluated.
use Rattle.std.specs.Prelude.{◌≡◌, ◌≢◌, ℕ, ◌≤◌, List, [], ◌∷◌, length, Bool, true, false, Some, None}
use Rattle.model_objects.specs.Object.{Object}
use Rattle.model_symbols.specs.Symbols.{QualifiedName}
use Rattle.model_terms.specs.Worlds as worlds
use Rattle.model_eval.specs.Outcomes as outcomes
use Rattle.model_expansion.specs.Expansion.{Progress, evaluated_to}
use Rattle.model_stobjs.specs.Answers as answer
use Rattle.model_events.specs.Constants.{valued}
use Rattle.acl_base.specs.declared.SymId.{SymId}
use Rattle.acl_base.specs.declared.Word.{Word}
use Rattle.acl_heap.specs.Objects.{Objects, object_of, Lies}
use Rattle.acl_terms.specs.Signatures.{seen_name}
use Rattle.acl_terms.specs.declared.definition.Definition.TheVariants as definition
use Rattle.acl_terms.specs.declared.outcome.Stop.{Stop}
use Rattle.acl_terms.specs.declared.outcome.Stop.TheVariants as stop
use Rattle.acl_engine.specs.declared.outcome.Outcome.{Outcome}
use Rattle.acl_worlds.specs.Contents.{Content, with_definition}
use Rattle.acl_engine.specs.Outcomes.{IsOutcome, seen_stop, state_at, origin_at}
use Rattle.acl_constants.specs.declared.draft.EntryFault.{EntryFault}
use Rattle.acl_constants.specs.declared.draft.EntryFault.TheVariants as fault

abbrev pub is_memory : Stop → Bool
is_memory (stop.Guard f args) = false
is_memory stop.Steps = false
is_memory stop.Depth = false
is_memory (stop.Range f) = false
is_memory (stop.Large f) = false
is_memory (stop.Symbols f) = false
is_memory stop.Memory = true

-- what a value of the form grants
abbrev pub granting : ℕ → Object ℕ → Progress → answer.EventResult worlds.World
granting name value p = answer.Grants (worlds.Constant name value ∷ []) p

-- the outcome, whichever of the definitions it stands for, grants the constant that comes last in the world
pub record EntersConstant (h : Objects) (name : SymId) (o : Outcome) (old new : Content) (value : Word) : Type 0 where
  pub world : new ≡ with_definition old (definition.Constant name value)
  pub lies : Lies h value
  pub grants : (symbols : List QualifiedName) (e : outcomes.Outcome ℕ) → IsOutcome h symbols [] o e → (p : Progress)
      → valued e (granting name.0) p ≡ answer.Grants (worlds.Constant name.0 (object_of h value) ∷ []) (evaluated_to p (outcomes.here (state_at symbols [] o)) (state_at symbols [] o))

-- the outcome is this stop
pub record HaltsConstant (h : Objects) (name : SymId) (o : Outcome) (s : Stop) : Type 0 where
  pub stop : o.stop ≡ Some s
  pub halts : (symbols : List QualifiedName) (e : outcomes.Outcome ℕ) → IsOutcome h symbols [] o e → (p : Progress)
      → valued e (granting name.0) p ≡ answer.Halts (seen_stop h s) (seen_name o.inside) (evaluated_to p (origin_at o) (state_at symbols [] o))

-- what is said of the stop that was answered; nothing is said where memory was refused
abbrev pub ToldEntry : Objects → SymId → Outcome → EntryFault → Type 0
ToldEntry h name o (fault.Stopped s) = HaltsConstant h name o s
ToldEntry h name o fault.Memory = Unit {0}
