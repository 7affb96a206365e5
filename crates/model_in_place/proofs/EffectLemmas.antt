-- What the functions of a stobj do, by their outputs.
use Rattle.std.proofs.Common.{◌≡◌, ℕ, List, [], ◌∷◌, Bool, true, false, refl}
use Rattle.std.specs.Prelude.{◌&&◌}
use Rattle.model_objects.specs.Object.{Object}
use Rattle.model_prims.specs.Kinds.{SymbolKind}
use Rattle.model_prims.specs.Numbers.{natural_of}
use Rattle.model_prims.specs.Applied.{argument}
use Rattle.model_lists.specs.Lists.{StobjList, Value, size, item, with_item, resized}
use Rattle.model_lists.specs.Types.{meets}
use Rattle.model_lists.specs.Layouts.{Layout, Scalar, Array, Hash, Children, NoField, Field, field_layout}
use Rattle.model_lists.specs.LiveLists.{HasFields}
use Rattle.model_lists.specs.Effects.{Effect, Refuses, Reads, Writes, is_index, is_up_to, may_be_key, most_elements, when, with_key, accessed, changed, lengthened, hash_read, hash_bound, hash_looked_up, hash_put, hash_removed}
use Rattle.model_lists_laws.specs.LiveListLaws.{KeepsFields}
use Rattle.model_lists_laws.proofs.KeptFields.{accessed_keeps, changed_keeps, lengthened_keeps, hash_read_keeps, hash_bound_keeps, hash_looked_up_keeps, put_keeps, removed_keeps, cleared_keeps}
use Rattle.model_terms.specs.Worlds.{Out, Ordinary, Stobj}
use Rattle.model_terms.specs.declared.role.Role.{Role}
use Rattle.model_terms.specs.declared.role.Role.TheVariants as role
use Rattle.model_eval.specs.GeneratedCalls.{effect}
use Rattle.model_eval_alike.specs.FunctionLaws.{SuitsRole}
use Rattle.model_accepted.specs.Threaded.{role_outs}

-- as many ordinary outputs as values
abbrev pub AreOrdinary : {S : Type 0} → List Out → List (Object S) → Type 0
AreOrdinary [] [] = Unit {0}
AreOrdinary [] (o ∷ os) = ⊥
AreOrdinary (k ∷ ks) [] = ⊥
AreOrdinary (Ordinary ∷ ks) (o ∷ os) = AreOrdinary ks os
AreOrdinary (Stobj x ∷ ks) (o ∷ os) = ⊥

-- it gives such outputs, where it gives any
abbrev pub HasOuts : {S : Type 0} → ℕ → List Out → Effect S → Type 0
HasOuts stobj outs Refuses = Unit {0}
HasOuts stobj outs (Reads os) = AreOrdinary outs os
HasOuts stobj outs (Writes l) = outs ≡ Stobj stobj ∷ []

module _ {S : Type 0} (k : SymbolKind S) (stobj : ℕ) where
  outs_when : (outs : List Out) (b : Bool) (e : Effect S) → HasOuts stobj outs e → HasOuts stobj outs (when k b e)
  outs_when outs true e h = h
  outs_when outs false e h = tt

  outs_key : (outs : List Out) (layout : Layout S) (key : Object S) (e : Effect S) → HasOuts stobj outs e → HasOuts stobj outs (with_key k layout key e)
  outs_key outs (Hash test) key e h = outs_when outs (may_be_key test key) e h
  outs_key outs (Scalar t o) key e h = tt
  outs_key outs (Array t o n resizable) key e h = tt
  outs_key outs (Children n child) key e h = tt
  outs_key outs NoField key e h = tt
  outs_key outs (Field first others) key e h = tt

  outs_accessed : (layout : Layout S) (f : ℕ) (args : List (Object S)) (l : StobjList S) → HasOuts stobj (Ordinary ∷ []) (accessed k layout f args l)
  unfolding accessed
  outs_accessed (Scalar t o) f args l = tt
  outs_accessed (Array t o n resizable) f args l = outs_when (Ordinary ∷ []) (is_index (argument k args 0) (size (item f l))) _ tt
  outs_accessed (Hash test) f args l = tt
  outs_accessed (Children n child) f args l = tt
  outs_accessed NoField f args l = tt
  outs_accessed (Field first others) f args l = tt

  outs_changed : (layout : Layout S) (f : ℕ) (args : List (Object S)) (l : StobjList S) → HasOuts stobj (Stobj stobj ∷ []) (changed k layout f args l)
  unfolding changed
  outs_changed (Scalar t o) f args l = outs_when (Stobj stobj ∷ []) (meets k t (argument k args 0)) _ refl
  outs_changed (Array t o n resizable) f args l = outs_when (Stobj stobj ∷ []) (is_index (argument k args 0) (size (item f l)) && meets k t (argument k args 1)) _ refl
  outs_changed (Hash test) f args l = tt
  outs_changed (Children n child) f args l = tt
  outs_changed NoField f args l = tt
  outs_changed (Field first others) f args l = tt

  outs_lengthened : (layout : Layout S) (f : ℕ) (args : List (Object S)) (l : StobjList S) → HasOuts stobj (Stobj stobj ∷ []) (lengthened k layout f args l)
  unfolding lengthened
  outs_lengthened (Scalar t o) f args l = tt
  outs_lengthened (Array t o n resizable) f args l =
      outs_when (Stobj stobj ∷ []) (resizable && is_up_to most_elements (argument k args 0)) (Writes (with_item f (resized (natural_of (argument k args 0)) (Value o) (item f l)) l)) refl
  outs_lengthened (Hash test) f args l = tt
  outs_lengthened (Children n child) f args l = tt
  outs_lengthened NoField f args l = tt
  outs_lengthened (Field first others) f args l = tt

  -- each function gives the outputs of its role
  pub effect_outs : (r : Role) (layout : Layout S) (f : ℕ) (args : List (Object S)) (l : StobjList S) → HasOuts stobj (role_outs r stobj) (effect k r layout f args l)
  unfolding effect hash_read hash_bound hash_looked_up hash_put hash_removed
  effect_outs role.Recognizer layout f args l = tt
  effect_outs role.Creator layout f args l = tt
  effect_outs role.FieldRecognizer layout f args l = tt
  effect_outs role.Access layout f args l = outs_accessed layout f args l
  effect_outs role.Update layout f args l = outs_changed layout f args l
  effect_outs role.Length layout f args l = tt
  effect_outs role.Resize layout f args l = outs_lengthened layout f args l
  effect_outs role.HashGet layout f args l = outs_key (Ordinary ∷ []) layout (argument k args 0) _ tt
  effect_outs role.HashBoundp layout f args l = outs_key (Ordinary ∷ []) layout (argument k args 0) _ tt
  effect_outs role.HashGetBound layout f args l = outs_key (Ordinary ∷ Ordinary ∷ []) layout (argument k args 0) _ tt
  effect_outs role.HashPut layout f args l = outs_key (Stobj stobj ∷ []) layout (argument k args 0) _ refl
  effect_outs role.HashRem layout f args l = outs_key (Stobj stobj ∷ []) layout (argument k args 0) _ refl
  effect_outs role.HashCount layout f args l = tt
  effect_outs role.HashClear layout f args l = refl

  -- what is written has the fields of the layout
  pub effect_keeps : (r : Role) (whole : Layout S) (f : ℕ) (args : List (Object S)) (l : StobjList S) → SuitsRole r (field_layout f whole) → HasFields whole l → KeepsFields whole (effect k r (field_layout f whole) f args l)
  unfolding effect
  effect_keeps role.Recognizer whole f args l s h = tt
  effect_keeps role.Creator whole f args l s h = tt
  effect_keeps role.FieldRecognizer whole f args l s h = tt
  effect_keeps role.Access whole f args l s h = accessed_keeps k (field_layout f whole) f args whole l
  effect_keeps role.Update whole f args l s h = changed_keeps k (field_layout f whole) f args whole l refl h
  effect_keeps role.Length whole f args l s h = tt
  effect_keeps role.Resize whole f args l s h = lengthened_keeps k (field_layout f whole) f args whole l refl h
  effect_keeps role.HashGet whole f args l s h = hash_read_keeps k (field_layout f whole) f args whole l
  effect_keeps role.HashBoundp whole f args l s h = hash_bound_keeps k (field_layout f whole) f args whole l
  effect_keeps role.HashGetBound whole f args l s h = hash_looked_up_keeps k (field_layout f whole) f args whole l
  effect_keeps role.HashPut whole f args l s h = put_keeps k (field_layout f whole) f args whole l refl h
  effect_keeps role.HashRem whole f args l s h = removed_keeps k (field_layout f whole) f args whole l refl h
  effect_keeps role.HashCount whole f args l s h = tt
  effect_keeps role.HashClear whole f args l s h = cleared_keeps k (field_layout f whole) f whole l refl s h
