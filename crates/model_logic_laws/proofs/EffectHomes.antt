-- The symbols in what a function of a concrete stobj gives in the logic are those of its arguments and of initial values, `T` and `NIL`.
use Rattle.std.proofs.Common.{◌≡◌, ℕ, zero, suc, ◌<◌, List, [], ◌∷◌, map, length, Bool, true, false, Option, Some, None}
use Rattle.std.specs.Prelude.{slice_get, unwrap_or, if◌then◌else◌}
use Rattle.model_objects.specs.Object.{Object, Integer, Symbol, Text, Pair, named}
use Rattle.model_objects.specs.Named.{Symbols}
use Rattle.model_symbols.specs.Symbols.{QualifiedName}
use Rattle.model_symbols.specs.Opening.{truth_name, nil_name}
use Rattle.model_prims.specs.Kinds.{by_name, is_pair}
use Rattle.model_prims.specs.Numbers.{natural_of}
use Rattle.model_prims.specs.Lists.{updated}
use Rattle.model_prims.specs.Applied.{argument}
use Rattle.model_lists.specs.Lists.{StobjList, Value, Pairs, End, Item, as_object}
use Rattle.model_lists.specs.Layouts.{Layout, Scalar, Array, Hash, Children, NoField, Field, initial, repeated, field_layout, recognizes, field_recognizes}
use Rattle.model_lists.specs.Logical.{field_of, with_length, has_this_key, pair_with, without_pairs}
use Rattle.model_terms.specs.declared.role.Role.{Role}
use Rattle.model_terms.specs.declared.role.Role.TheVariants as role
use Rattle.model_logic.specs.LogicFunctions.{as_list, logic_access, logic_update, filling, logic_effect, child_stobj, with_child_stobj}
use Rattle.model_follows.specs.FollowedWorlds.{LayoutSymbols}
use Rattle.model_follows.proofs.LayoutThings.{named_layout}
use Rattle.model_logic_laws.proofs.PrimHomes.{either, truth_homes, car_homes, cdr_homes, element_homes, updated_homes}

abbrev pub Thing : Type 0
Thing = Object QualifiedName

-- each object has symbols with the property
abbrev pub All : (QualifiedName → Type 0) → List (Object QualifiedName) → Type 0
All P [] = Unit {0}
All P (o ∷ os) = Symbols P o × All P os

-- initial values have it
abbrev pub Initials : (QualifiedName → Type 0) → Layout QualifiedName → Type 0
Initials P (Scalar t o) = Symbols P o
Initials P (Array t o n resizable) = Symbols P o
Initials P (Hash test) = Unit {0}
Initials P (Children n child) = Initials P child
Initials P NoField = Unit {0}
Initials P (Field first others) = Initials P first × Initials P others

module _ (P : QualifiedName → Type 0) (at_truth : P truth_name) (at_nil : P nil_name) where
  pub argument_homes : (os : List (Object QualifiedName)) (n : ℕ) → All P os → Symbols P (argument by_name os n)
  argument_homes [] n h = at_nil
  argument_homes (o ∷ os) zero h = h.0
  argument_homes (o ∷ os) (suc n) h = argument_homes os n h.1

  pub list_homes : (os : List (Object QualifiedName)) → All P os → Symbols P (as_list by_name os)
  list_homes [] h = at_nil
  list_homes (o ∷ os) h = (h.0, list_homes os h.1)

  -- ---- layouts

  pub named_homes : (n : ℕ) (f : ℕ → QualifiedName) → ((s : ℕ) → s < n → P (f s)) → (o : Object ℕ) → Symbols (λ s. s < n) o → Symbols P (named f o)
  named_homes n f h (Integer m) k = tt
  named_homes n f h (Symbol s) k = h s k
  named_homes n f h (Text bytes) k = tt
  named_homes n f h (Pair a d) k = (named_homes n f h a k.0, named_homes n f h d k.1)

  pub layout_homes : (n : ℕ) (f : ℕ → QualifiedName) → ((s : ℕ) → s < n → P (f s)) → (l : Layout ℕ) → LayoutSymbols (λ s. s < n) l → Initials P (named_layout f l)
  layout_homes n f h (Scalar t o) k = named_homes n f h o k.1
  layout_homes n f h (Array t o m resizable) k = named_homes n f h o k.1
  layout_homes n f h (Hash test) k = tt
  layout_homes n f h (Children m child) k = layout_homes n f h child k
  layout_homes n f h NoField k = tt
  layout_homes n f h (Field first others) k = (layout_homes n f h first k.0, layout_homes n f h others k.1)

  field_initials : (n : ℕ) (l : Layout QualifiedName) → Initials P l → Initials P (field_layout n l)
  field_initials n (Scalar t o) h = tt
  field_initials n (Array t o m resizable) h = tt
  field_initials n (Hash test) h = tt
  field_initials n (Children m child) h = tt
  field_initials n NoField h = tt
  field_initials zero (Field first others) h = h.0
  field_initials (suc n) (Field first others) h = field_initials n others h.1

  repeated_homes : (n : ℕ) (l : StobjList QualifiedName) → Symbols P (as_object by_name l) → Symbols P (as_object by_name (repeated n l))
  repeated_homes zero l h = at_nil
  repeated_homes (suc n) l h = (h, repeated_homes n l h)

  pub initial_homes : (l : Layout QualifiedName) → Initials P l → Symbols P (as_object by_name (initial l))
  initial_homes (Scalar t o) h = h
  initial_homes (Array t o n resizable) h = repeated_homes n (Value o) h
  initial_homes (Hash test) h = at_nil
  initial_homes (Children n child) h = repeated_homes n (initial child) (initial_homes child h)
  initial_homes NoField h = at_nil
  initial_homes (Field first others) h = (initial_homes first h.0, initial_homes others h.1)

  -- ---- functions

  length_homes : (n : ℕ) (fill l : Object QualifiedName) → Symbols P fill → Symbols P l → Symbols P (with_length by_name n fill l)
  length_homes zero fill l h k = at_nil
  length_homes (suc n) fill (Integer m) h k = (h, length_homes n fill _ h at_nil)
  length_homes (suc n) fill (Symbol s) h k = (h, length_homes n fill _ h at_nil)
  length_homes (suc n) fill (Text bytes) h k = (h, length_homes n fill _ h at_nil)
  length_homes (suc n) fill (Pair a d) h k = (k.0, length_homes n fill d h k.1)

  pair_homes : (key l : Object QualifiedName) → Symbols P l → Symbols P (pair_with by_name key l)
  pair_homes key (Integer n) h = at_nil
  pair_homes key (Symbol s) h = at_nil
  pair_homes key (Text bytes) h = at_nil
  pair_homes key (Pair a d) h = either P (has_this_key by_name key a) a (pair_with by_name key d) h.0 (pair_homes key d h.1)

  without_homes : (key l : Object QualifiedName) → Symbols P l → Symbols P (without_pairs by_name key l)
  without_homes key (Integer n) h = at_nil
  without_homes key (Symbol s) h = at_nil
  without_homes key (Text bytes) h = at_nil
  without_homes key (Pair a d) h = either P (has_this_key by_name key a) (without_pairs by_name key d) (Pair a (without_pairs by_name key d)) (without_homes key d h.1) (h.0, without_homes key d h.1)

  field_homes : (f : ℕ) (st : Object QualifiedName) → Symbols P st → Symbols P (field_of by_name f st)
  field_homes f st h = element_homes P at_truth at_nil f st h

  put_homes : (f : ℕ) (new st : Object QualifiedName) → Symbols P new → Symbols P st → Symbols P (updated by_name f new st)
  put_homes f new st h k = updated_homes P at_truth at_nil f new st h k

  module _ (f : ℕ) (args : List (Object QualifiedName)) (h : All P args) where
    abbrev arg : ℕ → Object QualifiedName
    arg n = argument by_name args n

    given : (n : ℕ) → Symbols P (arg n)
    given n = argument_homes args n h

    element_of : Symbols P (logic_access by_name NoField f args)
    unfolding logic_access
    element_of = field_homes f (arg 0) (given 0)

    access_homes : (l : Layout QualifiedName) → Symbols P (logic_access by_name l f args)
    unfolding logic_access
    access_homes (Scalar t o) = field_homes f (arg 0) (given 0)
    access_homes (Array t o n resizable) = element_homes P at_truth at_nil (natural_of (arg 0)) (field_of by_name f (arg 1)) (field_homes f (arg 1) (given 1))
    access_homes (Hash test) = field_homes f (arg 0) (given 0)
    access_homes (Children n child) = element_homes P at_truth at_nil (natural_of (arg 0)) (field_of by_name f (arg 1)) (field_homes f (arg 1) (given 1))
    access_homes NoField = field_homes f (arg 0) (given 0)
    access_homes (Field first others) = field_homes f (arg 0) (given 0)

    update_homes : (l : Layout QualifiedName) → Symbols P (logic_update by_name l f args)
    unfolding logic_update
    update_homes (Scalar t o) = put_homes f (arg 0) (arg 1) (given 0) (given 1)
    update_homes (Array t o n resizable) =
        put_homes f (updated by_name (natural_of (arg 0)) (arg 1) (field_of by_name f (arg 2))) (arg 2) (put_homes (natural_of (arg 0)) (arg 1) (field_of by_name f (arg 2)) (given 1) (field_homes f (arg 2) (given 2))) (given 2)
    update_homes (Hash test) = put_homes f (arg 0) (arg 1) (given 0) (given 1)
    update_homes (Children n child) =
        put_homes f (updated by_name (natural_of (arg 0)) (arg 1) (field_of by_name f (arg 2))) (arg 2) (put_homes (natural_of (arg 0)) (arg 1) (field_of by_name f (arg 2)) (given 1) (field_homes f (arg 2) (given 2))) (given 2)
    update_homes NoField = put_homes f (arg 0) (arg 1) (given 0) (given 1)
    update_homes (Field first others) = put_homes f (arg 0) (arg 1) (given 0) (given 1)

    filling_homes : (l : Layout QualifiedName) → Initials P l → Symbols P (filling by_name l)
    filling_homes (Scalar t o) k = k
    filling_homes (Array t o n resizable) k = k
    filling_homes (Hash test) k = at_nil
    filling_homes (Children n child) k = initial_homes child k
    filling_homes NoField k = at_nil
    filling_homes (Field first others) k = at_nil

    pub effect_homes : (r : Role) (l : Layout QualifiedName) → Initials P l → Symbols P (logic_effect by_name r l f args)
    unfolding logic_effect
    effect_homes role.Recognizer l k = truth_homes P at_truth at_nil (recognizes by_name l (arg 0))
    effect_homes role.Creator l k = initial_homes l k
    effect_homes role.FieldRecognizer l k = truth_homes P at_truth at_nil (field_recognizes by_name (field_layout f l) (arg 0))
    effect_homes role.Access l k = access_homes (field_layout f l)
    effect_homes role.Update l k = update_homes (field_layout f l)
    effect_homes role.Length l k = tt
    effect_homes role.Resize l k =
        put_homes f (with_length by_name (natural_of (arg 0)) (filling by_name (field_layout f l)) (field_of by_name f (arg 1))) (arg 1)
        (length_homes (natural_of (arg 0)) (filling by_name (field_layout f l)) (field_of by_name f (arg 1)) (filling_homes (field_layout f l) (field_initials f l k)) (field_homes f (arg 1) (given 1))) (given 1)
    effect_homes role.HashGet l k = cdr_homes P at_truth at_nil (pair_with by_name (arg 0) (field_of by_name f (arg 1))) (pair_homes (arg 0) (field_of by_name f (arg 1)) (field_homes f (arg 1) (given 1)))
    effect_homes role.HashBoundp l k = truth_homes P at_truth at_nil (is_pair (pair_with by_name (arg 0) (field_of by_name f (arg 1))))
    effect_homes role.HashGetBound l k = (
      cdr_homes P at_truth at_nil (pair_with by_name (arg 0) (field_of by_name f (arg 1))) (pair_homes (arg 0) (field_of by_name f (arg 1)) (field_homes f (arg 1) (given 1))),
      (truth_homes P at_truth at_nil (is_pair (pair_with by_name (arg 0) (field_of by_name f (arg 1)))), at_nil),
    )
    effect_homes role.HashPut l k = put_homes f (Pair (Pair (arg 0) (arg 1)) (field_of by_name f (arg 2))) (arg 2) ((given 0, given 1), field_homes f (arg 2) (given 2)) (given 2)
    effect_homes role.HashRem l k = put_homes f (without_pairs by_name (arg 0) (field_of by_name f (arg 1))) (arg 1) (without_homes (arg 0) (field_of by_name f (arg 1)) (field_homes f (arg 1) (given 1))) (given 1)
    effect_homes role.HashCount l k = tt
    effect_homes role.HashClear l k = put_homes f _ (arg 0) at_nil (given 0)

  -- ---- children

  pub child_homes : (f : ℕ) (index : Option (Object QualifiedName)) (parent : Object QualifiedName) → Symbols P parent → Symbols P (child_stobj by_name f index parent)
  child_homes f None parent h = field_homes f parent h
  child_homes f (Some i) parent h = element_homes P at_truth at_nil (natural_of i) (field_of by_name f parent) (field_homes f parent h)

  pub with_child_homes : (f : ℕ) (index : Option (Object QualifiedName)) (child parent : Object QualifiedName) → Symbols P child → Symbols P parent → Symbols P (with_child_stobj by_name f index child parent)
  with_child_homes f None child parent h k = put_homes f child parent h k
  with_child_homes f (Some i) child parent h k =
      put_homes f (updated by_name (natural_of i) child (field_of by_name f parent)) parent (put_homes (natural_of i) child (field_of by_name f parent) h (field_homes f parent k)) k
