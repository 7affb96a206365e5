-- A world of a stobj with a child, and a function that writes the child: what is asked of worlds, and what comes of it.
use Rattle.std.specs.Prelude.{◌≡◌, ℕ, pos, List, [], ◌∷◌, true, Option, Some, None}
use Rattle.model_objects.specs.Object.{Integer}
use Rattle.model_lists.specs.Lists.{StobjList, Value, End, Item}
use Rattle.model_prims.specs.Kinds.{by_number, truth_of}
use Rattle.model_terms.specs.declared.role.Role.{Role}
use Rattle.model_terms.specs.declared.role.Role.TheVariants as role
use Rattle.model_terms.specs.Cores.{Core, Var, Const, StobjLet, Call, none, more}
use Rattle.model_terms.specs.Worlds.{World, Definition, Concrete, Generated, Defined, Function, Field, Scalar, Child, Out, Ordinary, Stobj}
use Rattle.model_eval.specs.Outcomes.{Stobjs, OutcomeOf, Outcome, Gives, Stops, Unknown}
use Rattle.model_eval.specs.PlacesKeeping.{Store}
use Rattle.model_eval.specs.Checked.{checked, begun, live}
use Rattle.model_eval.specs.InPlace.{in_place, begun_in_place}
use Rattle.model_accepted.specs.Threaded.{Suits, IsThreaded}

-- (defstobj 1 (4 :type t :initially 0)), (defstobj 10 (14 :type 1))
abbrev pub child_fields : List Field
child_fields = record { name = 7; shape = Scalar (truth_of by_number true) (Integer (pos 0)); made = 4 ∷ 5 ∷ 6 ∷ [] } ∷ []

abbrev pub parent_fields : List Field
parent_fields = record { name = 17; shape = Child 1; made = 14 ∷ 15 ∷ 16 ∷ [] } ∷ []

abbrev pub made_function : ℕ → ℕ → Option ℕ → Role → List Out → List Out → Definition
made_function name stobj field r ins outs = Generated (record { name = name; stobj = stobj; field = field; role = r; signature = record { ins = ins; outs = outs } })

-- (stobj-let ((1 (15 10))) (1) (6 5 1) 10)
abbrev pub body : Core
body = StobjLet (1 ∷ []) (more (Call 15 (more (Var 10) none)) none) (1 ∷ []) (Call 6 (more (Const (Integer (pos 5))) (more (Var 1) none))) (Var 10)

abbrev pub writer : Function
writer = record {
  name = 20;
  formals = 10 ∷ [];
  signature = record { ins = Stobj 10 ∷ []; outs = Stobj 10 ∷ [] };
  guard = Const (truth_of by_number true);
  body = body;
  executable = true;
}

abbrev pub world : World
world =
    Concrete (record { name = 1; recognizer = 2; creator = 3; fields = child_fields; congruent_to = None }) 1
    ∷ made_function 5 1 (Some 0) role.Access (Stobj 1 ∷ []) (Ordinary ∷ [])
    ∷ made_function 6 1 (Some 0) role.Update (Ordinary ∷ Stobj 1 ∷ []) (Stobj 1 ∷ [])
    ∷ Concrete (record { name = 10; recognizer = 12; creator = 13; fields = parent_fields; congruent_to = None }) 10
    ∷ made_function 15 10 (Some 0) role.Access (Stobj 10 ∷ []) (Stobj 1 ∷ [])
    ∷ made_function 16 10 (Some 0) role.Update (Stobj 1 ∷ Stobj 10 ∷ []) (Stobj 10 ∷ [])
    ∷ Defined writer
    ∷ []

abbrev pub call : Core
call = Call 20 (more (Var 10) none)

abbrev pub stobjs : Stobjs ℕ
stobjs = (10, Item (Item (Value (Integer (pos 0))) End) End) ∷ []

-- the list of the first stobj, or of the first root, after an evaluation
abbrev pub first_stobj : Stobjs ℕ → Option (StobjList ℕ)
first_stobj [] = None
first_stobj (o ∷ os) = Some o.1

abbrev pub first_root : List (StobjList ℕ) → Option (StobjList ℕ)
first_root [] = None
first_root (l ∷ ls) = Some l

abbrev pub list_after : Outcome ℕ → Option (StobjList ℕ)
list_after (Gives values s) = first_stobj s.stobjs
list_after (Stops stop origin s) = None
list_after Unknown = None

abbrev pub root_after : OutcomeOf ℕ (Store ℕ) → Option (StobjList ℕ)
root_after (Gives values s) = first_root s.stobjs.roots
root_after (Stops stop origin s) = None
root_after Unknown = None

abbrev pub written : StobjList ℕ
written = Item (Item (Value (Integer (pos 5))) End) End

-- the world is as is asked, so that the law holds of it; and both ways the call writes the child in its parent
pub record IsExample : Type 0 where
  pub threaded : IsThreaded world
  pub suits : Suits world world
  pub on_lists : list_after (checked world [] 100 10 call (live stobjs) (begun [] stobjs 0)) ≡ Some written
  pub at_places : root_after (in_place world [] 100 10 call (live stobjs) (begun_in_place [] stobjs 0)) ≡ Some written
