-- A function that gives a stobj that it is not given: by the rules it may, since nothing but its own call gives the stobj. Its
-- call never ends.
use Rattle.std.specs.Prelude.{◌≡◌, pos, [], ◌∷◌, true, Some, None}
use Rattle.model_objects.specs.Object.{Integer}
use Rattle.model_prims.specs.Kinds.{by_number, nil_of}
use Rattle.model_terms.specs.Cores.{Core, Const, Var, Let, Call, none, more}
use Rattle.model_terms.specs.Worlds.{World, Definition, Concrete, Named, Signed, Stobj, Signature}
use Rattle.model_terms.specs.Rounds.{Member, clique}
use Rattle.model_terms.specs.Faults.{clique_fault}
use Rattle.model_slots.specs.Trees as trees
use Rattle.model_slots.specs.Trees.{Tree}
use Rattle.model_slots.specs.Resolved.{resolved}

-- a stobj of no fields, number 1
abbrev pub cell : Definition
cell = Concrete (record { name = 1; recognizer = 2; creator = 3; fields = []; congruent_to = None }) 1

-- `(defun f () (let ((cell (f))) cell))`, f number 0
abbrev pub circular_body : Core
circular_body = Let (1 ∷ []) (more (Call 0 none) none) (Var 1)

abbrev pub circular : Member
circular = record { name = 0; formals = []; stobjs = []; guard = Const (Integer (pos 1)); body = circular_body }

abbrev pub circular_signature : Signature
circular_signature = record { ins = []; outs = Stobj 1 ∷ [] }

-- the world in which its signature is found, and that in which the rules are tested
abbrev pub while_named : World
while_named = cell ∷ (Named 0 [] ∷ [])

abbrev pub while_signed : World
while_signed = cell ∷ (Signed 0 [] circular_signature true ∷ [])

-- the tree of its body: the stobj's name has no variable there, and is NIL
abbrev pub circular_tree : Tree
circular_tree = trees.Let 0 (trees.more (trees.Call 0 1 trees.none) trees.none) (trees.Leaf (trees.Const (nil_of by_number)))

-- its signature gives the stobj, no rule fails in it, and its body has this tree
pub record IsAcceptedWithTree : Type 0 where
  pub signature : clique while_named (circular ∷ []) ≡ circular_signature ∷ []
  pub accepted : clique_fault while_signed 0 (circular ∷ []) ≡ None
  pub tree : resolved while_signed [] 0 circular_body ≡ Some circular_tree
