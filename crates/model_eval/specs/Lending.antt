-- The children that a `STOBJ-LET` binds (ACL2's manual, topic STOBJ-LET).
use Rattle.std.specs.Prelude.{ℕ, List, [], ◌∷◌, ◌++◌, Bool, true, false, ◌&&◌, ◌||◌, Option, Some, None, nat_eq, unwrap_or}
use Rattle.std.specs.List.{list_any}
use Rattle.model_objects.specs.Object.{Object}
use Rattle.model_prims.specs.Kinds.{SymbolKind, same_object}
use Rattle.model_prims.specs.Numbers.{natural_of}
use Rattle.model_lists.specs.Lists.{StobjList, size, item, with_item}
use Rattle.model_lists.specs.Effects.{is_index}
use Rattle.model_terms.specs.Worlds.{Definition, Primitive, Defined, Macro, Constant, Concrete, Generated, Abstract, OfAbstract, Named, Signed}
use Rattle.model_eval.specs.Outcomes.{Shown, Plain, StobjNamed, Stobjs}
pub use Rattle.model_eval.specs.Keeping.{Loan}
use Rattle.model_eval.specs.Variables.{list_of, with_list}

-- the field of which a function is one
abbrev pub field_number : Option Definition → ℕ
field_number None = 0
field_number (Some (Primitive name row)) = 0
field_number (Some (Defined f)) = 0
field_number (Some (Macro name formals body)) = 0
field_number (Some (Constant name value)) = 0
field_number (Some (Concrete d class)) = 0
field_number (Some (Generated g)) = unwrap_or g.field 0
field_number (Some (Abstract d)) = 0
field_number (Some (OfAbstract f)) = 0
field_number (Some (Named name formals)) = 0
field_number (Some (Signed name formals signature executable)) = 0

-- an index is one of the array of children
abbrev pub is_reached : {S : Type 0} → Option (Object S) → StobjList S → Bool
is_reached None field = true
is_reached (Some i) field = is_index i (size field)

abbrev pub child_in : {S : Type 0} → Option (Object S) → StobjList S → StobjList S
child_in None field = field
child_in (Some i) field = item (natural_of i) field

abbrev pub with_child_in : {S : Type 0} → Option (Object S) → StobjList S → StobjList S → StobjList S
with_child_in None child field = child
with_child_in (Some i) child field = with_item (natural_of i) child field

-- the parent's list with another child
abbrev pub with_child : {S : Type 0} → Loan S → StobjList S → StobjList S → StobjList S
with_child loan child parent = with_item loan.field (with_child_in loan.index child (item loan.field parent)) parent

-- ---- the indices

abbrev pub index_list : {S : Type 0} → Option (Object S) → List (Shown S)
index_list None = []
index_list (Some i) = Plain i ∷ []

-- what an accessor was called on
abbrev pub loan_values : {S : Type 0} → Loan S → List (Shown S)
loan_values loan = index_list loan.index ++ StobjNamed loan.parent ∷ []

-- the indices in arrays, in order
abbrev pub indices : {S : Type 0} → List (Loan S) → List (Shown S)
indices [] = []
indices (l ∷ ls) = index_list l.index ++ indices ls

abbrev pub same_index : {S : Type 0} → SymbolKind S → Option (Object S) → Option (Object S) → Bool
same_index k None j = false
same_index k (Some i) None = false
same_index k (Some i) (Some j) = same_object k i j

-- whether one element of an array is bound twice
abbrev pub are_twins : {S : Type 0} → SymbolKind S → List (Loan S) → Bool
are_twins k [] = false
are_twins k (l ∷ ls) = list_any (λ (m : Loan _). nat_eq l.field m.field && same_index k l.index m.index) ls || are_twins k ls

-- ---- lending and returning

abbrev pub lent : {S : Type 0} → List (Loan S) → Stobjs S → Stobjs S
lent [] stobjs = []
lent (l ∷ ls) stobjs = (l.child, child_in l.index (item l.field (list_of stobjs l.parent))) ∷ lent ls stobjs

-- the child's list is put into its parent's
abbrev pub put_into_parent : {S : Type 0} → Loan S → Stobjs S → Stobjs S
put_into_parent loan stobjs = with_list loan.parent (with_child loan (list_of stobjs loan.child) (list_of stobjs loan.parent)) stobjs
