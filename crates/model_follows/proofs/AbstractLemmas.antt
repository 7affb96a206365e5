-- The logic follows checked evaluation where stobjs may be abstract: from any lists that belong together.
use Rattle.std.proofs.Common.{ℕ, List, None, refl, sym, ap, ◌∙◌}
use Rattle.model_eval.specs.Outcomes.{Shown, Stobjs, StateOf, State}
use Rattle.model_eval.specs.PlacesKeeping.{Store}
use Rattle.model_eval.specs.InPlace.{placed}
use Rattle.model_eval.specs.Evaluated.{evaluated}
use Rattle.model_eval_laws.specs.Scope.{names}
use Rattle.model_accepted.proofs.AcceptLemmas.{accepted_first}
use Rattle.model_in_place.proofs.CallLemmas.{names_after}
use Rattle.model_in_place.proofs.CallMeeting.{May, on_lists, at_places}
use Rattle.model_in_place.proofs.FormMeeting.{meets_evaluated}
use Rattle.model_in_place.proofs.WriteLemmas.{stands_moved}
use Rattle.model_follows.specs.Costs.{Counted, form_counted}
use Rattle.model_follows.proofs.EndedLemmas.{Ended, ended_outs}
use Rattle.model_follows.proofs.PartThings.{length_things, length_outputs}
use Rattle.model_follows.specs.Abstract.{abstract_ground, FollowedWith, LogicFollowsAbstract}
use Rattle.model_follows.proofs.HeldThings.{Ground, all_held, ground_book}
use Rattle.model_follows.proofs.CostLemmas.{ends_with}
use Rattle.model_follows.proofs.Following.{gives_map, unchanged, held_after, after_unreturned, kin_then, ends_held, Did, did, Stage}
use Rattle.model_follows.proofs.PartFollowing.{book}
use Rattle.model_follows.proofs.FormFollowing.{follows_evaluated}
use Rattle.model_follows.proofs.ExportFollowing.{abstracts_follow}
use Rattle.model_follows.proofs.LawLemmas.{stands_anywhere}

pub logic_follows_abstract : LogicFollowsAbstract
logic_follows_abstract = record {
  follows = λ w base symbols threaded followed bg obligations c mode scope form expected suits seen_in n accepted formed suited k d variables s lists values are fits sound kin named.
      let t : StateOf (Store ℕ) = record { stobjs = placed s.stobjs; symbols = s.symbols; calls = s.calls; outer = s.outer } in
      let ground : Ground = abstract_ground w base symbols in
      let logic : Counted = form_counted (ground_book w ground) form values in
      let stage : Stage w ground scope variables s t values
      = record { are = are; stands = stands_anywhere w scope s.stobjs fits; same = record { symbols = refl; calls = refl; outer = refl }; sound = sound; lists = lists; kin = kin; named = named } in
      let ended : ((vs : List (Shown ℕ)) (u : State ℕ) (e : Did w ground scope expected s t logic vs u) → Ended w logic (all_held u.symbols (held_after scope expected lists e.mine.last) vs))
      = λ vs u e. ends_held w ground scope expected variables s t values logic vs u stage e in
      gives_map (Did w ground scope expected s t logic) (FollowedWith w ground scope expected form values s lists) (evaluated (on_lists w threaded base.packages k) d form variables s)
      (λ vs u e. record {
        outputs = e.outputs;
        unreturned = λ x o h. unchanged w scope expected s t u e.to e.moves x h;
        same_names = ap (λ (o : Stobjs ℕ). names o) e.moves.stobjs ∙ names_after e.moves.writes s.stobjs;
        grown = e.mine.grown;
        sound = e.mine.sound;
        fits = λ x o. (stands_moved w scope (May scope expected) s t u e.to (λ y i. i.1) (stands_anywhere w scope s.stobjs fits) e.moves).fits x o;
        known = e.mine.known;
        last = held_after scope expected lists e.mine.last;
        kin = kin_then w ground scope expected variables s t values logic vs u stage e;
        leaves = λ x h. after_unreturned scope expected lists e.mine.last x h;
        value = (ended vs u e).value;
        ends = ends_with (ground_book w ground) form values (ended vs u e).value (ended vs u e).ends;
        parts =
            ended_outs w logic (all_held u.symbols (held_after scope expected lists e.mine.last) vs) (ended vs u e) (ground_book w ground) expected
            (sym (length_things u.symbols (held_after scope expected lists e.mine.last) vs ∙ length_outputs scope expected vs e.outputs));
      })
      (did w ground threaded k (book w ground threaded k symbols) (evaluated (on_lists w threaded base.packages k) d) (evaluated (at_places w threaded base.packages k) d)
      (meets_evaluated w threaded base.packages k d) (follows_evaluated w ground threaded followed.lawful k symbols bg (abstracts_follow w base symbols threaded followed k bg obligations) d) c mode scope form None expected
      (record { suited_world = record { suits = suits; seen = seen_in }; runs = n; accepted = accepted_first c mode scope form expected accepted; formed = formed; suited = suited }) variables s t values stage);
}
