-- A keeper stays sound as heap and symbols grow.
use Rattle.std.specs.Prelude.{◌≡◌, ℕ, ◌≤◌, List, [], ◌∷◌, Option, Some, None, length}
use Rattle.std.proofs.Common.{sym, subst, arith}
use Rattle.model_objects.specs.Named.{Knows}
use Rattle.model_lists.specs.Lists.{Value}
use Rattle.model_terms.specs.Worlds as worlds
use Rattle.model_known.specs.Known.{KnowsStarts}
use Rattle.model_known.proofs.MoreLemmas.{more_known}
use Rattle.acl_base.specs.declared.Word.{Word}
use Rattle.acl_heap.specs.Objects.{Objects, object_of, Lies, Extends}
use Rattle.acl_terms.specs.Definitions.{definitions_reach}
use Rattle.acl_terms.specs.Growth.{seen_definitions-later}
use Rattle.acl_worlds.specs.Contents.{Content, seen_world}
use Rattle.acl_keep.specs.Seen.{answer_words}
use Rattle.acl_lists.specs.declared.cell.Cell.{Cell}
use Rattle.acl_layouts.specs.Typed.{AcceptsTypes}
use Rattle.acl_list_parts.specs.Parts.{list_given}
use Rattle.acl_list_scope.specs.declared.scoped.ScopedLists.{ScopedLists}
use Rattle.acl_list_keeper.specs.declared.ready.Change.{Change}
use Rattle.acl_list_keeper.specs.declared.ready.Ready.{Ready}
use Rattle.acl_list_keeper.specs.Sound.{WordsFit, ChangeFits, ReadyFits, WorldFits, IsSound}

pub world_fits_later : (h h' : Objects) (w : Content) (n n' : ℕ) → Extends h h' → n ≤ n' → WorldFits h w n → WorldFits h' w n'
world_fits_later h h' w n n' e l f =
    let same : seen_world h' w ≡ seen_world h w = seen_definitions-later e w.definitions f.lies in
    let lies : definitions_reach w.definitions ≤ length h' = omega (arith, f.lies, e.longer) in
    record {
      lies = lies;
      accepts = subst (λ (x : worlds.World). AcceptsTypes x) (sym same) f.accepts;
      knows = subst (λ (x : worlds.World). KnowsStarts n' x) (sym same) (more_known.starts n n' (seen_world h w) l f.knows);
      some = omega (arith, f.some, l);
    }

words_later : (h h' : Objects) (n n' : ℕ) (ws : List Word) → Extends h h' → n ≤ n' → WordsFit h n ws → WordsFit h' n' ws
words_later h h' n n' [] e l f = tt
words_later h h' n n' (w ∷ ws) e l f =
    let lies : Lies h' w = omega (arith, f.0.0, e.longer) in
    ((lies, subst (Knows n') (sym (e.same w f.0.0)) (more_known.list n n' (Value (object_of h w)) l f.0.1)), words_later h h' n n' ws e l f.1)

change_later : (cs : List Cell) (n n' : ℕ) (c : Option Change) → n ≤ n' → ChangeFits cs n c → ChangeFits cs n' c
change_later cs n n' None l f = tt
change_later cs n n' (Some c) l f = more_known.list n n' (list_given cs c.list) l f

ready_later : (cs : List Cell) (h h' : Objects) (n n' : ℕ) (r : Option Ready) → Extends h h' → n ≤ n' → ReadyFits cs h n r → ReadyFits cs h' n' r
ready_later cs h h' n n' None e l f = tt
ready_later cs h h' n n' (Some r) e l f = (words_later h h' n n' (answer_words r.effect) e l f.0, change_later cs n n' r.change l f.1)

pub sound_later : (s : ScopedLists) (r : Option Ready) (h h' : Objects) (w : Content) (n n' : ℕ) → Extends h h' → n ≤ n' → IsSound s r h w n → IsSound s r h' w n'
sound_later s r h h' w n n' e l i = record {
  kept = i.kept;
  lefts = i.lefts;
  keeps = i.keeps;
  known = more_known.stobjs n n' i.kept l i.known;
  known_lefts = more_known.left n n' i.lefts l i.known_lefts;
  readies = ready_later s.lists h h' n n' r e l i.readies;
  world = world_fits_later h h' w n n' e l i.world;
}
