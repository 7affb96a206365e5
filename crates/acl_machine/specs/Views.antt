-- The machine over trees that a machine stands for.
use Rattle.std.specs.Prelude.{ℕ, List, [], ◌∷◌, map, drop, Option, Some, None, slice_get}
use Rattle.model_symbols.specs.Symbols.{Table}
use Rattle.model_terms.specs.Cores.{Const}
use Rattle.model_objects.specs.Object.{Integer}
use Rattle.std.specs.Prelude.{pos}
use Rattle.model_terms.specs.Worlds.{World, FunctionOfAbstract, Definition, Primitive, Defined, Macro, Constant, Concrete, Generated, Abstract, OfAbstract, Named, Signed}
use Rattle.model_terms.specs.declared.role.AbstractRole.TheVariants as abstract_role
use Rattle.model_eval.specs.Outcomes as outcomes
use Rattle.model_eval.specs.Outcomes.{Origin}
use Rattle.model_slots.specs.Trees as trees
use Rattle.model_slots.specs.Trees.{Tree, Child}
use Rattle.model_window.specs.Frames as windows
use Rattle.model_window.specs.Frames.{Code}
use Rattle.model_window.specs.Turns.{called_name}
use Rattle.acl_base.specs.declared.SymId.{SymId}
use Rattle.acl_heap.specs.Objects.{Objects}
use Rattle.acl_terms.specs.Forms.{numbers}
use Rattle.acl_terms.specs.Signatures.{seen_name}
use Rattle.acl_terms.specs.declared.definition.Definition as coded
use Rattle.acl_terms.specs.declared.definition.Definition.TheVariants as definition
use Rattle.acl_terms.specs.declared.outcome.Shown.{Shown}
use Rattle.acl_worlds.specs.Contents.{Content, seen_world}
use Rattle.acl_code.specs.declared.term.Term.{Term}
use Rattle.acl_code.specs.Tables.{tree_in, trees_in, forest, no_tree}
use Rattle.acl_keep.specs.Seen.{all_seen, seen_loan}
use Rattle.acl_machine.specs.declared.frame.Goal.{Goal}
use Rattle.acl_machine.specs.declared.frame.Goal.TheVariants as goal
use Rattle.acl_machine.specs.declared.frame.Inside.{Inside}
use Rattle.acl_machine.specs.declared.frame.Step.{Step}
use Rattle.acl_machine.specs.declared.frame.Step.TheVariants as step
use Rattle.acl_machine.specs.declared.frame.Frame.{Frame}
use Rattle.acl_machine.specs.declared.frame.Halt.{Halt}
use Rattle.acl_machine.specs.declared.frame.Halt.TheVariants as halt
use Rattle.acl_machine.specs.declared.frame.Control.{Control}
use Rattle.acl_machine.specs.declared.frame.Control.TheVariants as control
use Rattle.acl_machine.specs.declared.frame.Borrowed.{Borrowed}
use Rattle.acl_machine.specs.declared.machine.Machine.{Machine}
use Rattle.acl_machine.specs.Cells.{memory_of, top, below}

-- what a machine is seen in
pub record Around : Type 0 where
  pub heap : Objects
  pub content : Content
  pub terms : List Term
  pub table : Table
  pub limit : ℕ

abbrev pub around : Objects → Content → List Term → Table → ℕ → Around
around h content terms table limit = record { heap = h; content = content; terms = terms; table = table; limit = limit }

abbrev pub world_of : Around → World
world_of a = seen_world a.heap a.content

abbrev pub trees_of : Around → List Tree
trees_of a = forest a.heap a.terms

-- ---- the terms of a world's functions

abbrev pub guard_of : List Tree → Option coded.Definition → Tree
guard_of ts None = no_tree
guard_of ts (Some (definition.Primitive name row arity)) = no_tree
guard_of ts (Some (definition.Function f)) = tree_in ts f.guard_term
guard_of ts (Some (definition.Macro m)) = no_tree
guard_of ts (Some (definition.Constant name value)) = no_tree
guard_of ts (Some (definition.Object descriptor layout class)) = no_tree
guard_of ts (Some (definition.Generated f)) = no_tree
guard_of ts (Some (definition.Abstract descriptor)) = no_tree
guard_of ts (Some (definition.OfAbstract f)) = tree_in ts f.guard_term
guard_of ts (Some (definition.Named name formals)) = no_tree
guard_of ts (Some (definition.Signed name formals signature executable)) = no_tree

abbrev pub body_of : List Tree → Option coded.Definition → Tree
body_of ts None = no_tree
body_of ts (Some (definition.Primitive name row arity)) = no_tree
body_of ts (Some (definition.Function f)) = tree_in ts f.body_term
body_of ts (Some (definition.Macro m)) = no_tree
body_of ts (Some (definition.Constant name value)) = no_tree
body_of ts (Some (definition.Object descriptor layout class)) = no_tree
body_of ts (Some (definition.Generated f)) = no_tree
body_of ts (Some (definition.Abstract descriptor)) = no_tree
body_of ts (Some (definition.OfAbstract f)) = no_tree
body_of ts (Some (definition.Named name formals)) = no_tree
body_of ts (Some (definition.Signed name formals signature executable)) = no_tree

abbrev pub code_with : List Tree → List coded.Definition → Code
code_with ts ds = record { guard = λ n. guard_of ts (slice_get ds n); body = λ n. body_of ts (slice_get ds n) }

abbrev pub code_of : Around → Code
code_of a = code_with (trees_of a) a.content.definitions

-- ---- frames

-- the formals of a function
abbrev pub formals_of : Option Definition → List ℕ
formals_of None = []
formals_of (Some (Primitive f row)) = []
formals_of (Some (Defined f)) = f.formals
formals_of (Some (Macro f formals body)) = []
formals_of (Some (Constant f value)) = []
formals_of (Some (Concrete d class)) = []
formals_of (Some (Generated g)) = []
formals_of (Some (Abstract d)) = []
formals_of (Some (OfAbstract f)) = f.formals
formals_of (Some (Named f formals)) = []
formals_of (Some (Signed f formals signature executable)) = []

abbrev pub no_export : FunctionOfAbstract
no_export = record {
  name = 0;
  stobj = 0;
  role = abstract_role.Creator;
  formals = [];
  signature = record { ins = []; outs = [] };
  guard = Const (Integer (pos 0));
  logic = 0;
  exec = 0;
}

-- the function of an abstract stobj
abbrev pub export_of : Option Definition → FunctionOfAbstract
export_of None = no_export
export_of (Some (Primitive f row)) = no_export
export_of (Some (Defined f)) = no_export
export_of (Some (Macro f formals body)) = no_export
export_of (Some (Constant f value)) = no_export
export_of (Some (Concrete d class)) = no_export
export_of (Some (Generated g)) = no_export
export_of (Some (Abstract d)) = no_export
export_of (Some (OfAbstract f)) = f
export_of (Some (Named f formals)) = no_export
export_of (Some (Signed f formals signature executable)) = no_export

abbrev pub children_of : Tree → List Child
children_of (trees.Leaf operand) = []
children_of (trees.If s a b c) = []
children_of (trees.Let s bound body) = []
children_of (trees.Mv s parts) = []
children_of (trees.MvLet s bound body) = []
children_of (trees.StobjLet s children producer consumer) = children
children_of (trees.WithLocal s stobj producer body) = []
children_of (trees.MustBeEqual logic) = []
children_of (trees.Call s n actuals) = []

abbrev pub producer_of : Tree → Tree
producer_of (trees.Leaf operand) = no_tree
producer_of (trees.If s a b c) = no_tree
producer_of (trees.Let s bound body) = no_tree
producer_of (trees.Mv s parts) = no_tree
producer_of (trees.MvLet s bound body) = no_tree
producer_of (trees.StobjLet s children producer consumer) = producer
producer_of (trees.WithLocal s stobj producer body) = no_tree
producer_of (trees.MustBeEqual logic) = no_tree
producer_of (trees.Call s n actuals) = no_tree

abbrev pub consumer_of : Tree → Tree
consumer_of (trees.Leaf operand) = no_tree
consumer_of (trees.If s a b c) = no_tree
consumer_of (trees.Let s bound body) = no_tree
consumer_of (trees.Mv s parts) = no_tree
consumer_of (trees.MvLet s bound body) = no_tree
consumer_of (trees.StobjLet s children producer consumer) = consumer
consumer_of (trees.WithLocal s stobj producer body) = no_tree
consumer_of (trees.MustBeEqual logic) = no_tree
consumer_of (trees.Call s n actuals) = no_tree

-- what calls left behind, the innermost first; where there is nothing it is `d`
abbrev pub first_left : {B : Type 0} → B → List B → B
first_left d [] = d
first_left d (l ∷ ls) = l

abbrev pub seen_goal : List Tree → Goal → windows.Then
seen_goal ts (goal.Body t) = windows.ThenBody (tree_in ts t)
seen_goal ts goal.Values = windows.ThenValues
seen_goal ts (goal.Call f) = windows.ThenCall f.0

abbrev pub seen_inside : {B : Type 0} → B → List SymId → Option Inside → Option (windows.Export B)
seen_inside before names None = None
seen_inside before names (Some x) = Some (record {
  name = x.name.0;
  count = x.count;
  names = numbers (top x.names names);
  begun = record { before = before; number = x.number };
  outer = x.outer;
})

abbrev pub seen_borrowed : Objects → Borrowed → windows.Borrowed ℕ
seen_borrowed h b = record { loan = seen_loan h b.loan; returns = b.returns }

abbrev pub all_borrowed : Objects → List Borrowed → List (windows.Borrowed ℕ)
all_borrowed h bs = map (seen_borrowed h) bs

-- what is below an export's part of a stack
abbrev pub below_inside : {X : Type 0} → Option Inside → List X → List X
below_inside None xs = xs
below_inside (Some x) xs = below x.names xs

abbrev pub lefts_inside : {B : Type 0} → Option Inside → List B → List B
lefts_inside None ls = ls
lefts_inside (Some x) ls = drop 1 ls

-- what is left of the stacks below a frame
abbrev pub lefts_below : {B : Type 0} → Step → List B → List B
lefts_below (step.Test held other) ls = ls
lefts_below (step.Parts at count next left goal) ls = ls
lefts_below (step.Several at body) ls = ls
lefts_below (step.Calling at function count) ls = ls
lefts_below (step.Guarding inside function names) ls = lefts_inside inside (drop 1 ls)
lefts_below (step.Running inside function names) ls = lefts_inside inside (drop 1 ls)
lefts_below (step.Allowing function names number) ls = drop 2 ls
lefts_below (step.Exporting function names number) ls = drop 1 ls
lefts_below (step.Borrowing at term bound) ls = ls
lefts_below (step.Producing at loans consumer) ls = ls
lefts_below (step.Putting at put loans consumer) ls = ls
lefts_below (step.Local at body) ls = ls
lefts_below (step.Last inside) ls = lefts_inside inside ls

abbrev pub names_below : {X : Type 0} → Step → List X → List X
names_below (step.Test held other) xs = xs
names_below (step.Parts at count next left goal) xs = xs
names_below (step.Several at body) xs = xs
names_below (step.Calling at function count) xs = xs
names_below (step.Guarding inside function names) xs = below_inside inside (below names xs)
names_below (step.Running inside function names) xs = below_inside inside (below names xs)
names_below (step.Allowing function names number) xs = below names xs
names_below (step.Exporting function names number) xs = below names xs
names_below (step.Borrowing at term bound) xs = xs
names_below (step.Producing at loans consumer) xs = xs
names_below (step.Putting at put loans consumer) xs = xs
names_below (step.Local at body) xs = xs
names_below (step.Last inside) xs = below_inside inside xs

abbrev pub loans_below : {X : Type 0} → Step → List X → List X
loans_below (step.Test held other) xs = xs
loans_below (step.Parts at count next left goal) xs = xs
loans_below (step.Several at body) xs = xs
loans_below (step.Calling at function count) xs = xs
loans_below (step.Guarding inside function names) xs = xs
loans_below (step.Running inside function names) xs = xs
loans_below (step.Allowing function names number) xs = xs
loans_below (step.Exporting function names number) xs = xs
loans_below (step.Borrowing at term bound) xs = below bound xs
loans_below (step.Producing at loans consumer) xs = below loans xs
loans_below (step.Putting at put loans consumer) xs = below loans xs
loans_below (step.Local at body) xs = xs
loans_below (step.Last inside) xs = xs

module _ {B : Type 0} (h : Objects) (w : World) (ts : List Tree) (code : Code) (d : B) where
  -- a step over what calls left behind, the names of stobjs among actuals, and loans
  abbrev pub seen_step : List B → List SymId → List Borrowed → Step → windows.Step ℕ B
  seen_step ls names loans (step.Test held other) = windows.Test (tree_in ts held) (tree_in ts other)
  seen_step ls names loans (step.Parts at count next left goal) = windows.Parts at count (trees.trees (trees_in ts (record { first = next; count = left }))) (seen_goal ts goal)
  seen_step ls names loans (step.Several at body) = windows.Several at (tree_in ts body)
  seen_step ls names loans (step.Calling at function count) = windows.Calling at function.0 count
  seen_step ls names loans (step.Guarding inside function n) =
      windows.Guarding (seen_inside (first_left d (drop 1 ls)) (below n names) inside) (called_name w function.0) (formals_of (slice_get w function.0)) (numbers (top n names)) (code.body function.0) (first_left d ls)
  seen_step ls names loans (step.Running inside function n) =
      windows.Running (seen_inside (first_left d (drop 1 ls)) (below n names) inside) (formals_of (slice_get w function.0)) (numbers (top n names)) (first_left d ls)
  seen_step ls names loans (step.Allowing function n number) =
      windows.Allowing (export_of (slice_get w function.0)) (numbers (top n names)) (record { before = first_left d (drop 1 ls); number = number }) (first_left d ls)
  seen_step ls names loans (step.Exporting function n number) =
      windows.Exporting (export_of (slice_get w function.0)) (numbers (top n names)) (record { before = first_left d ls; number = number })
  seen_step ls names loans (step.Borrowing at term bound) =
      windows.Borrowing at (drop bound (children_of (tree_in ts term))) (all_borrowed h (top bound loans)) (producer_of (tree_in ts term)) (consumer_of (tree_in ts term))
  seen_step ls names loans (step.Producing at n consumer) = windows.Producing at (all_borrowed h (top n loans)) (tree_in ts consumer)
  seen_step ls names loans (step.Putting at put n consumer) = windows.Putting at (drop put (all_borrowed h (top n loans))) (all_borrowed h (top n loans)) (tree_in ts consumer)
  seen_step ls names loans (step.Local at body) = windows.Local at (tree_in ts body)
  seen_step ls names loans (step.Last inside) = windows.Last (seen_inside (first_left d ls) names inside)

  -- all frames, the innermost first
  abbrev pub seen_frames : List B → List SymId → List Borrowed → List Frame → List (windows.Frame ℕ B)
  seen_frames ls names loans [] = []
  seen_frames ls names loans (f ∷ fs) =
      record { step = seen_step ls names loans f.step; base = f.base }
      ∷ seen_frames (lefts_below f.step ls) (names_below f.step names) (loans_below f.step loans) fs

-- ---- what is done next

abbrev pub seen_stop : Objects → List Shown → Halt → outcomes.Stop ℕ
seen_stop h values (halt.Guard f) = outcomes.Guard f.0 (all_seen h values)
seen_stop h values halt.Steps = outcomes.Steps
seen_stop h values halt.Depth = outcomes.Depth
seen_stop h values (halt.Range f) = outcomes.Range f.0
seen_stop h values (halt.Large f) = outcomes.Large f.0
seen_stop h values (halt.Symbols f) = outcomes.Symbols f.0

abbrev pub seen_origin : Option SymId → ℕ → Origin
seen_origin inside cut = record { inside = seen_name inside; cut = cut }

abbrev pub seen_control : Objects → List Tree → List Shown → Origin → Control → windows.Control ℕ
seen_control h ts given origin (control.Begin term base) = windows.Begin (tree_in ts term) base
seen_control h ts given origin control.Give = windows.Give (all_seen h given)
seen_control h ts given origin (control.Stopped stop) = windows.Stopped (seen_stop h given stop) origin

-- the machine, over what is kept and what calls left behind
abbrev pub machine_of : {O B : Type 0} → Around → B → O → List B → Machine → windows.Machine ℕ O B
machine_of a d kept ls m = record {
  room = m.room;
  frames = seen_frames a.heap (world_of a) (trees_of a) (code_of a) d ls m.names m.loans m.frames;
  memory = memory_of a.heap m.values;
  control = seen_control a.heap (trees_of a) m.given (seen_origin m.inside m.cut) m.control;
  state = record { stobjs = kept; symbols = a.table.symbols; calls = m.calls; outer = m.outer };
}
