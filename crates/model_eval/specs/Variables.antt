-- Variables and the lists of stobjs in scope, and how a call hands them over and back (ACL2's manual, topics LET, STOBJ).
use Rattle.std.specs.Prelude.{ℕ, List, [], ◌∷◌, map, Option, Some, None, nat_eq, if◌then◌else◌}
use Rattle.model_objects.specs.Object.{Object}
use Rattle.model_prims.specs.Kinds.{SymbolKind, nil_of}
use Rattle.model_lists.specs.Lists.{StobjList, End}
use Rattle.model_eval.specs.Outcomes.{Shown, Plain, StobjNamed, Stobjs}
pub use Rattle.model_eval.specs.Keeping.{actual_for, outer_value}

-- variables with what they are, the innermost first
abbrev pub Variables : Type 0 → Type 0
Variables S = List (ℕ × Shown S)

-- ---- variables

abbrev pub nothing : {S : Type 0} → SymbolKind S → Shown S
nothing k = Plain (nil_of k)

abbrev pub variable_in : {S : Type 0} → SymbolKind S → Variables S → ℕ → Shown S
variable_in k [] x = nothing k
variable_in k (v ∷ vs) x = if nat_eq x v.0 then v.1 else variable_in k vs x

-- more variables, bound to ordinary values; a stobj keeps its variable
abbrev pub bound : {S : Type 0} → List ℕ → List (Shown S) → Variables S → Variables S
bound [] values variables = variables
bound (x ∷ xs) [] variables = variables
bound (x ∷ xs) (Plain o ∷ vs) variables = (x, Plain o) ∷ bound xs vs variables
bound (x ∷ xs) (StobjNamed y ∷ vs) variables = bound xs vs variables

-- ---- values

abbrev pub object_of : {S : Type 0} → SymbolKind S → Shown S → Object S
object_of k (Plain o) = o
object_of k (StobjNamed x) = nil_of k

-- the only value
abbrev pub single : {S : Type 0} → SymbolKind S → List (Shown S) → Shown S
single k [] = nothing k
single k (v ∷ vs) = v

abbrev pub plain : {S : Type 0} → List (Object S) → List (Shown S)
plain os = map Plain os

-- the ordinary values
abbrev pub ordinary : {S : Type 0} → List (Shown S) → List (Object S)
ordinary [] = []
ordinary (Plain o ∷ vs) = o ∷ ordinary vs
ordinary (StobjNamed x ∷ vs) = ordinary vs

-- the variable of the first stobj
abbrev pub first_stobj : {S : Type 0} → List (Shown S) → Option ℕ
first_stobj [] = None
first_stobj (Plain o ∷ vs) = first_stobj vs
first_stobj (StobjNamed x ∷ vs) = Some x

-- ---- lists of stobjs

abbrev pub list_of : {S : Type 0} → Stobjs S → ℕ → StobjList S
list_of [] x = End
list_of (o ∷ os) x = if nat_eq x o.0 then o.1 else list_of os x

abbrev pub with_list : {S : Type 0} → ℕ → StobjList S → Stobjs S → Stobjs S
with_list x l [] = []
with_list x l (o ∷ os) = if nat_eq x o.0 then (o.0, l) ∷ os else o ∷ with_list x l os

-- ---- calls: formals and actuals

-- the variables of a call's body: a stobj has the name of its formal there
abbrev pub inner_variables : {S : Type 0} → List ℕ → List (Shown S) → Variables S
inner_variables [] actuals = []
inner_variables (x ∷ xs) [] = []
inner_variables (x ∷ xs) (Plain o ∷ vs) = (x, Plain o) ∷ inner_variables xs vs
inner_variables (x ∷ xs) (StobjNamed y ∷ vs) = (x, StobjNamed x) ∷ inner_variables xs vs

-- the stobjs that are handed over
abbrev pub inner_stobjs : {S : Type 0} → List ℕ → List (Shown S) → Stobjs S → Stobjs S
inner_stobjs [] actuals stobjs = []
inner_stobjs (x ∷ xs) [] stobjs = []
inner_stobjs (x ∷ xs) (Plain o ∷ vs) stobjs = inner_stobjs xs vs stobjs
inner_stobjs (x ∷ xs) (StobjNamed y ∷ vs) stobjs = (x, list_of stobjs y) ∷ inner_stobjs xs vs stobjs

-- the lists of the formals are handed back to the variables of the actuals
abbrev pub handed_back : {S : Type 0} → List ℕ → List (Shown S) → Stobjs S → Stobjs S → Stobjs S
handed_back [] actuals inner stobjs = stobjs
handed_back (x ∷ xs) [] inner stobjs = stobjs
handed_back (x ∷ xs) (Plain o ∷ vs) inner stobjs = handed_back xs vs inner stobjs
handed_back (x ∷ xs) (StobjNamed y ∷ vs) inner stobjs = handed_back xs vs inner (with_list y (list_of inner x) stobjs)
