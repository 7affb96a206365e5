-- The logic follows checked evaluation: from any lists that fit.
use Rattle.std.proofs.Common.{ℕ, List, [], None, refl, sym, ap, ◌∙◌, subst, inl}
use Rattle.model_symbols.specs.Symbols.{QualifiedName, Table}
use Rattle.model_terms.specs.Worlds.{World, Scope, definition}
use Rattle.model_eval.specs.Outcomes.{Stobjs, StateOf, State}
use Rattle.model_eval.specs.PlacesKeeping.{Place, At, Store, place_of, list_at}
use Rattle.model_eval.specs.InPlace.{placed}
use Rattle.model_eval.specs.Evaluated.{evaluated}
use Rattle.model_eval_laws.specs.Scope.{names}
use Rattle.model_places.specs.Places.{AreApart, IsPlace}
use Rattle.model_in_place.specs.Standing.{Stands, AreSame}
use Rattle.model_accepted.proofs.AcceptLemmas.{accepted_first}
use Rattle.model_in_place.proofs.BeginLemmas.{root_of, placed_first, root_list_of, root_below, root_differs}
use Rattle.model_in_place.proofs.CallLemmas.{names_after}
use Rattle.model_in_place.proofs.CallMeeting.{on_lists, at_places, May}
use Rattle.model_in_place.proofs.FormMeeting.{meets_evaluated}
use Rattle.model_follows.specs.Costs.{form_counted, Ends}
use Rattle.model_symbols.specs.Growth.{Extends}
use Rattle.std.specs.Prelude.{length}
use Rattle.model_prims.specs.Kinds.{by_number}
use Rattle.model_eval.specs.Variables.{Variables, variable_in, list_of}
use Rattle.model_logic.specs.Logic.{Thing, Values, creator_of}
use Rattle.model_accepted.specs.Threaded.{IsThreaded}
use Rattle.model_accepted.specs.StobjScopes.{AreVariables}
use Rattle.model_in_place.proofs.WriteLemmas.{stands_moved}
use Rattle.model_follows.specs.FollowedWorlds.{IsFollowed}
use Rattle.model_follows.specs.Follows.{Followed, AreFitting, LogicFollows, things_of, one_thing, table_of, IsSound, AreNamed}
use Rattle.model_follows.proofs.HeldThings.{Ground, by_names, held_named, all_named, kin_plain, plain_kin}
use Rattle.model_follows.proofs.ThingLemmas.{outputs_in, same_held}
use Rattle.model_follows.proofs.CalledFollowing.{AbstractsFollow}
use Rattle.model_follows.proofs.CostLemmas.{ends_with}
use Rattle.model_follows.proofs.Following.{gives_map, unchanged, Did, did, Lawful, Stage}
use Rattle.model_follows.proofs.PartFollowing.{book}
use Rattle.model_follows.proofs.FormFollowing.{follows_evaluated}

-- any lists stand at places, each with a root of its own
pub stands_anywhere : (w : World) (scope : Scope) (os : Stobjs ℕ) → AreFitting w scope os → Stands w scope os (placed os)
stands_anywhere w scope os fits = record {
  same = λ x h. sym (ap (list_at (placed os).roots) (placed_first os x (fits.known x h)) ∙ root_list_of os x (fits.known x h));
  known = fits.known;
  places = λ x h. subst (IsPlace (placed os).roots) (sym (placed_first os x (fits.known x h))) (root_below os x (fits.known x h), tt);
  apart = λ x y h i d.
      subst (λ (p : Place). AreApart p (place_of (placed os).scope y)) (sym (placed_first os x (fits.known x h)))
      (subst (AreApart (At (root_of os x) [])) (sym (placed_first os y (fits.known y i))) (inl (root_differs os x y (fits.known x h) (fits.known y i) d)));
  fits = fits.fits;
}

-- ---- where every stobj is seen as it is

abbrev as_they_are : Table → List QualifiedName → Ground
as_they_are base symbols = record { table = base; written = symbols; view = λ x. None }

lawful : (w : World) (base : Table) (symbols : List QualifiedName) (threaded : IsThreaded w) → IsFollowed w (length base.symbols) → Lawful w (as_they_are base symbols) threaded
lawful w base symbols threaded followed = record {
  functions = followed.functions;
  worlds = λ x f there runs. (record { alike = λ y z e. refl; plain = λ g a e. (refl, refl) }, record { alike = λ y z e. refl; plain = λ g a e. (refl, refl) });
  made = followed.made;
  plain = λ x g there. refl;
  layouts = followed.layouts;
  initials = followed.initials;
}

no_abstracts : (w : World) (base : Table) (symbols : List QualifiedName) (threaded : IsThreaded w) (followed : IsFollowed w (length base.symbols)) (limit : ℕ) (bg : Extends base (table_of base.packages symbols))
    → AbstractsFollow w (as_they_are base symbols) threaded (lawful w base symbols threaded followed) limit symbols bg
no_abstracts w base symbols threaded followed limit bg = record {
  follows = λ ev el h f scope name g vs a seen r there s t before. absurd (followed.concrete name g there);
  makes = λ stobj creator scope now stobjs sound. absurd (followed.concrete (creator_of (definition w stobj)) creator.creator creator.there);
}

begins : (w : World) (base : Table) (symbols : List QualifiedName) (scope : Scope) (variables : Variables ℕ) (s : State ℕ) (t : StateOf (Store ℕ)) (values : Values) → AreVariables scope variables → Stands w scope s.stobjs t.stobjs → AreSame s t
    → IsSound w base scope s.symbols s.stobjs → AreNamed scope variables s.symbols s.stobjs values → Stage w (as_they_are base symbols) scope variables s t values
begins w base symbols scope variables s t values are stands same sound named = record {
  are = are;
  stands = stands;
  same = same;
  sound = sound;
  lists = by_names s.symbols s.stobjs;
  kin = record { each = λ x i. kin_plain w (as_they_are base symbols) s.symbols x (list_of s.stobjs x) refl };
  named = record { known = named.known; same = λ x k i. named.same x k i ∙ sym (held_named s.symbols s.stobjs (variable_in by_number variables x)) };
}

pub logic_follows : LogicFollows
logic_follows = record {
  follows = λ w base threaded followed symbols bg c mode scope form expected suits n accepted formed suited k d variables s values are fits sound named.
      let t : StateOf (Store ℕ) = record { stobjs = placed s.stobjs; symbols = s.symbols; calls = s.calls; outer = s.outer } in
      let ground : Ground = as_they_are base symbols in
      let law : Lawful w ground threaded = lawful w base symbols threaded followed in
      let stage : Stage w ground scope variables s t values
      = begins w base symbols scope variables s t values are (stands_anywhere w scope s.stobjs fits) (record { symbols = refl; calls = refl; outer = refl }) sound named in
      gives_map (Did w ground scope expected s t (form_counted (book w ground threaded k symbols) form values)) (Followed w base (book w ground threaded k symbols) scope expected form values s)
      (evaluated (on_lists w threaded base.packages k) d form variables s)
      (λ vs u e. record {
        outputs = e.outputs;
        unreturned = λ x o h. unchanged w scope expected s t u e.to e.moves x h;
        same_names = ap (λ (o : Stobjs ℕ). names o) e.moves.stobjs ∙ names_after e.moves.writes s.stobjs;
        grown = e.mine.grown;
        sound = e.mine.sound;
        fits = λ x o. (stands_moved w scope (May scope expected) s t u e.to (λ y i. i.1) (stands_anywhere w scope s.stobjs fits) e.moves).fits x o;
        known = e.mine.known;
        ends =
            ends_with (book w ground threaded k symbols) form values (one_thing (things_of u.symbols u.stobjs vs))
            (subst (λ (v : Thing). Ends (form_counted (book w ground threaded k symbols) form values) v)
            (e.mine.ends.exact followed.concrete
            ∙ ap one_thing
            (same_held u.symbols scope vs (by_names u.symbols u.stobjs) e.mine.last (outputs_in scope expected vs e.outputs) (λ x i. plain_kin w ground u.symbols x (list_of u.stobjs x) (e.mine.last x) refl (e.mine.kin.each x i))
            ∙ all_named u.symbols u.stobjs vs))
            e.mine.ends.ends);
      })
      (did w ground threaded k (book w ground threaded k symbols) (evaluated (on_lists w threaded base.packages k) d) (evaluated (at_places w threaded base.packages k) d)
      (meets_evaluated w threaded base.packages k d) (follows_evaluated w ground threaded law k symbols bg (no_abstracts w base symbols threaded followed k bg) d) c mode scope form None expected
      (record {
        suited_world = record { suits = suits; seen = record { alike = λ x y q. refl; plain = λ f a q. (refl, refl) } };
        runs = n;
        accepted = accepted_first c mode scope form expected accepted;
        formed = formed;
        suited = suited;
      }) variables s t values stage);
}
