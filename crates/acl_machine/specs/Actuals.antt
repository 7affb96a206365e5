-- The actuals of a call: the names of the objects among them, and how callee and caller see them.
use Rattle.std.specs.Prelude.{ℕ, List, [], ◌∷◌, ◌++◌, nat_eq, if◌then◌else◌}
use Rattle.acl_base.specs.declared.SymId.{SymId}
use Rattle.acl_terms.specs.declared.outcome.Shown.{Shown}
use Rattle.acl_terms.specs.declared.outcome.Shown.TheVariants as shown
use Rattle.acl_machine.specs.declared.machine.Machine.{Machine}
use Rattle.acl_machine.specs.Cells.{cells_from, top}

-- the names of the objects among values
abbrev pub names_of : List Shown → List SymId
names_of [] = []
names_of (shown.Value w ∷ vs) = names_of vs
names_of (shown.Object x ∷ vs) = x ∷ names_of vs

-- values in which the objects have these names, the first the first one
abbrev pub with_names : List Shown → List SymId → List Shown
with_names [] names = []
with_names (shown.Value w ∷ vs) names = shown.Value w ∷ with_names vs names
with_names (shown.Object x ∷ vs) [] = shown.Object x ∷ with_names vs []
with_names (shown.Object x ∷ vs) (y ∷ ys) = shown.Object y ∷ with_names vs ys

-- an actual as the callee has it: an object under the name of its formal
abbrev pub under_formal : SymId → Shown → Shown
under_formal x (shown.Value w) = shown.Value w
under_formal x (shown.Object y) = shown.Object x

abbrev pub under_formals : List SymId → List Shown → List Shown
under_formals [] vs = []
under_formals (x ∷ xs) [] = []
under_formals (x ∷ xs) (v ∷ vs) = under_formal x v ∷ under_formals xs vs

-- the name that a name of the callee has outside: that of the object at this formal, where it is this one's, or else the later one
abbrev pub name_at : SymId → Shown → SymId → SymId → SymId
name_at y (shown.Value w) x later = later
name_at y (shown.Object z) x later = if nat_eq x.0 y.0 then z else later

abbrev pub outer_name : List SymId → List Shown → SymId → SymId
outer_name [] vs x = x
outer_name (y ∷ ys) [] x = x
outer_name (y ∷ ys) (v ∷ vs) x = name_at y v x (outer_name ys vs x)

-- a result as the caller has it
abbrev pub outer_shown : List SymId → List Shown → Shown → Shown
outer_shown formals actuals (shown.Value w) = shown.Value w
outer_shown formals actuals (shown.Object x) = shown.Object (outer_name formals actuals x)

-- ---- machines

-- the actuals of a call whose window begins at this number, so many, with so many objects among them
abbrev pub actuals_in : Machine → ℕ → ℕ → ℕ → List Shown
actuals_in m base count n = with_names (cells_from m.values base count) (top n m.names)

-- they lie ready
abbrev pub taking : ℕ → ℕ → ℕ → Machine → Machine
taking base count n m = record m { actuals = actuals_in m base count n }

-- those of the export's call around it do
abbrev pub taking_outer : ℕ → ℕ → ℕ → Machine → Machine
taking_outer base count n m = record m { outer_actuals = actuals_in m base count n }

-- these values are on the stack, and the names of the objects among the actuals behind all others
abbrev pub naming : List Shown → Machine → Machine
naming values m = record m { values = values; names = m.names ++ names_of m.actuals }

-- the actuals are what is given, and what was given lies in their room
abbrev pub exchanged : Machine → Machine
exchanged m = record m { given = m.actuals; actuals = m.given }
