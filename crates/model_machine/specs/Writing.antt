-- What a turn that counts no call writes, where stobjs are kept in place.
use Rattle.std.specs.Prelude.{◌≡◌, ◌-◌, List, [], ◌∷◌, take, length, Option, Some, None}
use Rattle.model_lists.specs.Lists.{StobjList}
use Rattle.model_eval.specs.PlacesKeeping.{Places, Store, roots_restored, places_keeping}
use Rattle.model_eval.specs.Evaluated.{RulesOf}
use Rattle.model_machine.specs.Frames.{Export, Step, Test, Parts, Several, Calling, Guarding, Running, Allowing, Exporting, Borrowing, Producing, Putting, Local, Last, Frame, Control, Begin, Give, Stopped, Machine, Going}
use Rattle.model_machine.specs.Turns.{turn_of}
use Rattle.model_machine.specs.Cutting.{PrimitivesCountNone}

-- the lists of the roots after a stop in what may be an export: the outermost brings them back
abbrev pub roots_undone : {S B : Type 0} → Option (Export S B) → Store S → List (StobjList S)
roots_undone None store = store.roots
roots_undone (Some x) store = roots_restored store.journal store.roots

-- without the local stobj that was made last
abbrev pub roots_without_last : {S : Type 0} → Store S → List (StobjList S)
roots_without_last store = take (length store.roots - 1) store.roots

-- once a form has the values that it waited for, and once it is closed by a stop
abbrev pub roots_given : {S B : Type 0} → Step S B → Store S → List (StobjList S)
roots_given (Test b c) store = store.roots
roots_given (Parts forms before goal) store = store.roots
roots_given (Several names body) store = store.roots
roots_given (Calling f actuals) store = store.roots
roots_given (Guarding export name formals actuals body behind) store = store.roots
roots_given (Running export formals actuals behind) store = store.roots
roots_given (Allowing f actuals begun behind) store = store.roots
roots_given (Exporting f actuals begun) store = store.roots
roots_given (Borrowing names forms loans vars producer consumer) store = store.roots
roots_given (Producing vars loans consumer) store = store.roots
roots_given (Putting vars left loans consumer given) store = store.roots
roots_given (Local names body) store = roots_without_last store
roots_given (Last export) store = store.roots

abbrev pub roots_stopped : {S B : Type 0} → Step S B → Store S → List (StobjList S)
roots_stopped (Test b c) store = store.roots
roots_stopped (Parts forms before goal) store = store.roots
roots_stopped (Several names body) store = store.roots
roots_stopped (Calling f actuals) store = store.roots
roots_stopped (Guarding export name formals actuals body behind) store = roots_undone export store
roots_stopped (Running export formals actuals behind) store = roots_undone export store
roots_stopped (Allowing f actuals begun behind) store = store.roots
roots_stopped (Exporting f actuals begun) store = store.roots
roots_stopped (Borrowing names forms loans vars producer consumer) store = store.roots
roots_stopped (Producing vars loans consumer) store = store.roots
roots_stopped (Putting vars left loans consumer given) store = store.roots
roots_stopped (Local names body) store = roots_without_last store
roots_stopped (Last export) store = roots_undone export store

-- after a turn that counts no call: as they were, but where the innermost form had a local stobj, or runs an export and is closed by a stop
abbrev pub roots_left : {S B : Type 0} → Control S → List (Frame S B) → Store S → List (StobjList S)
roots_left (Begin form variables) frames store = store.roots
roots_left (Give values) [] store = store.roots
roots_left (Give values) (f ∷ fs) store = roots_given f.step store
roots_left (Stopped stop origin) [] store = store.roots
roots_left (Stopped stop origin) (f ∷ fs) store = roots_stopped f.step store

-- what is written is written in a turn that counts a call; any other leaves just these lists, and the symbols
pub record WritesWhereItCounts (S : Type 0) : Type 0 where
  pub lists : (r : RulesOf (places_keeping {S = S})) → PrimitivesCountNone r → (m after : Machine S (Store S) Places) → turn_of r m ≡ Going after → after.state.calls ≡ m.state.calls
      → after.state.stobjs.roots ≡ roots_left m.control m.frames m.state.stobjs
  pub symbols : (r : RulesOf (places_keeping {S = S})) → PrimitivesCountNone r → (m after : Machine S (Store S) Places) → turn_of r m ≡ Going after → after.state.calls ≡ m.state.calls
      → after.state.symbols ≡ m.state.symbols
