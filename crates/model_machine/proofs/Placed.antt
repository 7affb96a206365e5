-- The machine with stobjs in place.
use Rattle.std.proofs.Common.{subst}
use Rattle.model_eval.specs.PlacesKeeping.{places_keeping}
use Rattle.model_eval.specs.Checked.{checked_rules}
use Rattle.model_eval.specs.InPlace.{in_place_rules}
use Rattle.model_machine.specs.Turns.{turn_of}
use Rattle.model_machine.specs.Ending.{EndsIn, begun_on}
use Rattle.model_machine.specs.InPlace.{begins, RunsInPlace, RunsOnLists}
use Rattle.model_machine.proofs.Ends.{turns_left, ends_so, begins_so}
use Rattle.model_machine.proofs.Closing.{cut_now}
use Rattle.model_machine.proofs.Steady.{places_steady, exports_under_way, places_nest, checked_primitives, primitives_write_none}

pub runs_in_place : RunsInPlace
runs_in_place = record {
  ends = λ w packages limit depth form variables state.
      let r = in_place_rules w packages limit in
      let m = begins depth form variables state in
      (turns_left r m, subst (EndsIn r (turns_left r m) (turn_of r m)) (begins_so r depth form variables state) (ends_so r m));
  now = λ w packages limit depth form variables state n m closed h e.
      cut_now places_steady exports_under_way places_nest (in_place_rules w packages limit) (checked_primitives places_keeping w packages limit) (primitives_write_none places_keeping w packages limit) depth form variables state n m h e;
}

pub runs_on_lists : RunsOnLists
runs_on_lists = record {
  ends = λ w packages limit depth form variables state.
      let r = checked_rules w packages limit in
      (turns_left r (begun_on depth form variables state), subst (EndsIn r (turns_left r (begun_on depth form variables state)) (turn_of r (begun_on depth form variables state))) (begins_so r depth form variables state) (ends_so r (begun_on depth form variables state)));
}
