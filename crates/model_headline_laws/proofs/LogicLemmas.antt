-- The logic follows checked evaluation in every session that commands have made.
use Rattle.std.proofs.Common.{◌≡◌, ℕ, Some}
use Rattle.model_symbols.specs.Symbols.{Table}
use Rattle.model_symbols.specs.Growth.{Extends}
use Rattle.model_symbols.proofs.TableLemmas.{Extends-self}
use Rattle.model_prims.specs.Laws.{NamesTruth}
use Rattle.model_terms.specs.Worlds.{World, FunctionOfAbstract, OfAbstract, definition}
use Rattle.model_eval.specs.Checked.{checked}
use Rattle.model_logic.specs.Logic.{creator_of}
use Rattle.model_follows.specs.Abstract.{ObligationsInLogic}
use Rattle.model_follows.specs.Follows.{table_of}
use Rattle.model_follows.specs.Corresponding.{theory_with}
use Rattle.model_follows.specs.AbstractLists.{FollowInParts}
use Rattle.model_follows.proofs.AbstractListLemmas.{follows_abstract_on_lists}
use Rattle.model_follows.proofs.Following.{gives_map}
use Rattle.model_books.specs.Opening.{Session}
use Rattle.model_abstract_books.specs.Commands.{theory_of}
use Rattle.model_made.specs.Made.{IsMade}
use Rattle.model_made_logic.specs.Followed.{IsFollowedHere}
use Rattle.model_made_logic.proofs.FollowedLemmas.{made_worlds_followed_here}
use Rattle.model_made_logic.proofs.LawLemmas.{made_sessions_known, made_worlds_followed}
use Rattle.model_headline.specs.Logic.{LogicGives}
use Rattle.model_headline_laws.specs.FromValues.{FollowsIn, LogicFollowsFromValues}

truth_stays : (old new : Table) → Extends old new → NamesTruth old → NamesTruth new
truth_stays old new e n = record { at_truth = e.same _ _ n.at_truth; at_nil = e.same _ _ n.at_nil }

pub follows_in : (s : Session) → IsMade s → ObligationsInLogic (theory_of s.environment s.symbols) → FollowsIn s
follows_in s made hold = record {
  follows = λ mode scope form expected n accepted formed suited k d variables state lists values table grown are live correspond vals.
      let w : World = s.environment.world in
      let base : Table = table_of s.environment.packages s.symbols in
      let here : IsFollowedHere w base = made_worlds_followed_here.followed s made in
      gives_map (FollowInParts w base (theory_with w base s.symbols) scope expected form values lists) (LogicGives s scope expected form values lists) (checked w base.packages k d form variables state)
      (λ given u e. record { last = e.last; correspond = e.correspond; leaves = e.leaves; value = e.value; ends = e.ends; parts = e.parts })
      (follows_abstract_on_lists.follows w base s.symbols here.threaded here.followed here.written here.laid_out (Extends-self base) hold
      w mode scope form expected here.suits here.seen n accepted formed suited k d variables state lists values
      table (truth_stays base (table_of s.environment.packages state.symbols) grown (made_sessions_known.truth s made)) grown are live correspond vals);
}

-- without abstract stobjs there are no obligations
none_asked : (s : Session) → IsMade s → ((x : ℕ) (f : FunctionOfAbstract) → definition s.environment.world x ≡ Some (OfAbstract f) → ⊥) → ObligationsInLogic (theory_of s.environment s.symbols)
none_asked s made none = record {
  creators = λ x d e. let c = made_worlds_followed.creators s made x d e in absurd (none (creator_of (definition s.environment.world x)) c.creator c.there);
  exports = λ x d f e role there. absurd (none x f e);
}

pub logic_follows_from_values : LogicFollowsFromValues
logic_follows_from_values = record { follows = follows_in; plainly = λ s made none. follows_in s made (none_asked s made none) }
