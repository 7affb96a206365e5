-- The table of trees that a world has.
use Rattle.std.specs.Prelude.{map, ◌++◌, true, ◌≡◌, ℕ, List, length, Option, Some, None, slice_get, unwrap_or}
use Rattle.model_terms.specs.Cores.{Core}
use Rattle.model_terms.specs.Worlds.{World, definition_name, Function, FunctionOfAbstract, Definition, Primitive, Defined, Macro, Constant, Concrete, Generated, Abstract, OfAbstract, Named, Signed}
use Rattle.model_terms.specs.declared.role.AbstractRole.TheVariants as abstract_role
use Rattle.model_slots.specs.Trees.{Tree, Leaf, Slot}
use Rattle.model_slots.specs.Environments.{formal_environment}
use Rattle.model_slots.specs.Resolved.{resolved}
use Rattle.model_window.specs.Frames.{Code}
use Rattle.model_window.specs.Stands.{Origins, IsEarlier, HoldsTrees}

-- what stands for the tree of a form that has none
abbrev pub no_tree : Tree
no_tree = Leaf (Slot 0)

-- the tree of a guard or a body over these formals
abbrev pub tree_over : World → List ℕ → Core → Tree
tree_over w formals form = unwrap_or (resolved w (formal_environment formals) (length formals) form) no_tree

abbrev pub guard_tree : World → Option Definition → Tree
guard_tree w None = no_tree
guard_tree w (Some (Primitive f row)) = no_tree
guard_tree w (Some (Defined f)) = tree_over w f.formals f.guard
guard_tree w (Some (Macro f formals body)) = no_tree
guard_tree w (Some (Constant f value)) = no_tree
guard_tree w (Some (Concrete d class)) = no_tree
guard_tree w (Some (Generated g)) = no_tree
guard_tree w (Some (Abstract d)) = no_tree
guard_tree w (Some (OfAbstract f)) = tree_over w f.formals f.guard
guard_tree w (Some (Named f formals)) = no_tree
guard_tree w (Some (Signed f formals signature executable)) = no_tree

abbrev pub body_tree : World → Option Definition → Tree
body_tree w None = no_tree
body_tree w (Some (Primitive f row)) = no_tree
body_tree w (Some (Defined f)) = tree_over w f.formals f.body
body_tree w (Some (Macro f formals body)) = no_tree
body_tree w (Some (Constant f value)) = no_tree
body_tree w (Some (Concrete d class)) = no_tree
body_tree w (Some (Generated g)) = no_tree
body_tree w (Some (Abstract d)) = no_tree
body_tree w (Some (OfAbstract f)) = no_tree
body_tree w (Some (Named f formals)) = no_tree
body_tree w (Some (Signed f formals signature executable)) = no_tree

abbrev pub code_of : World → Code
code_of w = record { guard = λ n. guard_tree w (slice_get w n); body = λ n. body_tree w (slice_get w n) }

-- a form has a tree over these formals
pub record HasTree (w : World) (formals : List ℕ) (form : Core) : Type 0 where
  pub tree : Tree
  pub is : resolved w (formal_environment formals) (length formals) form ≡ Some tree

-- so has each guard and each body of a function that may be called
pub record HaveTrees (w : World) : Type 0 where
  pub guard : (n : ℕ) (f : Function) → slice_get w n ≡ Some (Defined f) → f.executable ≡ true → HasTree w f.formals f.guard
  pub body : (n : ℕ) (f : Function) → slice_get w n ≡ Some (Defined f) → f.executable ≡ true → HasTree w f.formals f.body
  pub export : (n : ℕ) (f : FunctionOfAbstract) → slice_get w n ≡ Some (OfAbstract f) → f.role ≡ abstract_role.Export → HasTree w f.formals f.guard

-- all is resolved in one world
abbrev pub all_in : World → Origins
all_in w = record { guard = λ f. w; body = λ f. w }

-- the table holds the trees, where there are trees
pub record TablesHold : Type 0 where
  pub holds : (w : World) → HaveTrees w → HoldsTrees w (all_in w) (code_of w)

-- a world whose names stand first among those of another is an earlier one, also where a definition has taken another's place
pub record NamesTell : Type 0 where
  pub earlier : (c w : World) (others : List ℕ) → map definition_name w ≡ map definition_name c ++ others → IsEarlier c w
