-- A call of a function that a concrete stobj comes with (ACL2's manual, topic DEFSTOBJ).
use Rattle.std.specs.Prelude.{ℕ, List, [], ◌∷◌, true, Option, Some, None, unwrap_or}
use Rattle.model_objects.specs.Object.{Object}
use Rattle.model_prims.specs.Kinds.{SymbolKind, truth_of}
use Rattle.model_prims.specs.Applied.{argument}
use Rattle.model_lists.specs.Lists.{StobjList, End}
use Rattle.model_lists.specs.Layouts.{Layout, field_layout, field_recognizes}
use Rattle.model_lists.specs.Effects.{Effect, Refuses, Reads, Writes, reads, accessed, changed, measured, lengthened, hash_read, hash_bound, hash_looked_up, hash_put, hash_removed, hash_counted, hash_cleared}
use Rattle.model_terms.specs.Worlds.{GeneratedFunction}
use Rattle.model_terms.specs.declared.role.Role.{Role}
use Rattle.model_terms.specs.declared.role.Role.TheVariants as role
use Rattle.model_eval.specs.Outcomes.{Shown, StobjNamed, Guard, StateOf, OutcomeOf, Gives, stops_here}
use Rattle.model_eval.specs.Keeping.{Keeping}
use Rattle.model_eval.specs.Variables.{plain, ordinary, first_stobj}

module _ {S : Type 0} (k : SymbolKind S) where
  -- what a function does to the list of its stobj: of a field with this layout and number, or of the stobj itself
  unfoldable pub effect : Role → Layout S → ℕ → List (Object S) → StobjList S → Effect S
  effect role.Recognizer layout f args l = reads k (truth_of k true)
  effect role.Creator layout f args l = Refuses
  effect role.FieldRecognizer layout f args l = reads k (truth_of k (field_recognizes k layout (argument k args 0)))
  effect role.Access layout f args l = accessed k layout f args l
  effect role.Update layout f args l = changed k layout f args l
  effect role.Length layout f args l = measured k f l
  effect role.Resize layout f args l = lengthened k layout f args l
  effect role.HashGet layout f args l = hash_read k layout f args l
  effect role.HashBoundp layout f args l = hash_bound k layout f args l
  effect role.HashGetBound layout f args l = hash_looked_up k layout f args l
  effect role.HashPut layout f args l = hash_put k layout f args l
  effect role.HashRem layout f args l = hash_removed k layout f args l
  effect role.HashCount layout f args l = hash_counted k f l
  effect role.HashClear layout f args l = hash_cleared k f l

module _ {S O B : Type 0} (keeping : Keeping S O B) where
  -- the outcome of a function on the stobj that this variable names; without one nothing can be written
  abbrev pub effected : ℕ → List (Shown S) → Option ℕ → StateOf O → Effect S → OutcomeOf S O
  effected function values x state Refuses = stops_here (Guard function values) state
  effected function values x state (Reads os) = Gives (plain os) state
  effected function values None state (Writes l) = stops_here (Guard function values) state
  effected function values (Some x) state (Writes l) = Gives (StobjNamed x ∷ []) (record state { stobjs = keeping.write x l state.stobjs })

  abbrev pub list_or_none : O → Option ℕ → StobjList S
  list_or_none stobjs None = End
  list_or_none stobjs (Some x) = keeping.read stobjs x

  -- a call; the layout is that of the function's stobj
  abbrev pub generated : SymbolKind S → GeneratedFunction → Layout S → List (Shown S) → StateOf O → OutcomeOf S O
  generated k g layout values state =
      let f = unwrap_or g.field 0 in
      let x = first_stobj values in
      effected g.name values x state (effect k g.role (field_layout f layout) f (ordinary values) (list_or_none state.stobjs x))
