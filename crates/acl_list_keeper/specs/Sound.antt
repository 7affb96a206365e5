-- A keeper that goes with a world, with the symbols that it holds.
use Rattle.std.specs.Prelude.{ℕ, ◌<◌, List, [], ◌∷◌, Option, Some, None}
use Rattle.model_objects.specs.Named.{Knows}
use Rattle.model_eval.specs.Outcomes.{Stobjs}
use Rattle.model_known.specs.Known.{KnowsList, KnowsStobjs, KnowsLeft, KnowsStarts}
use Rattle.acl_base.specs.declared.Word.{Word}
use Rattle.acl_heap.specs.Objects.{Objects, object_of, Lies}
use Rattle.acl_worlds.specs.Contents.{Content, seen_world, WorldLies}
use Rattle.acl_keep.specs.Seen.{answer_words}
use Rattle.acl_lists.specs.declared.cell.Cell.{Cell}
use Rattle.acl_layouts.specs.Typed.{AcceptsTypes}
use Rattle.acl_list_parts.specs.Parts.{list_given}
use Rattle.acl_list_scope.specs.declared.scoped.ScopedLists.{ScopedLists}
use Rattle.acl_list_scope.specs.Kept.{Keeps}
use Rattle.acl_list_keeper.specs.declared.ready.Change.{Change}
use Rattle.acl_list_keeper.specs.declared.ready.Ready.{Ready}

-- ---- what is ready

-- words that lie in the heap, of symbols with numbers below this one
abbrev pub WordsFit : Objects → ℕ → List Word → Type 0
WordsFit h n [] = Unit {0}
WordsFit h n (w ∷ ws) = (Lies h w × Knows n (object_of h w)) × WordsFit h n ws

abbrev pub ChangeFits : List Cell → ℕ → Option Change → Type 0
ChangeFits cs n None = Unit {0}
ChangeFits cs n (Some c) = KnowsList n (list_given cs c.list)

abbrev pub ReadyFits : List Cell → Objects → ℕ → Option Ready → Type 0
ReadyFits cs h n None = Unit {0}
ReadyFits cs h n (Some r) = WordsFit h n (answer_words r.effect) × ChangeFits cs n r.change

-- ---- the world

-- the words of the world lie in the heap, its fields have accepted types, and their initial values known symbols
pub record WorldFits (h : Objects) (w : Content) (n : ℕ) : Type 0 where
  pub lies : WorldLies h w
  pub accepts : AcceptsTypes (seen_world h w)
  pub knows : KnowsStarts n (seen_world h w)
  pub some : 1 < n

-- ---- the keeper

pub record IsSound (s : ScopedLists) (ready : Option Ready) (h : Objects) (w : Content) (n : ℕ) : Type 0 where
  pub kept : Stobjs ℕ
  pub lefts : List (Stobjs ℕ)
  pub keeps : Keeps s kept lefts
  pub known : KnowsStobjs n kept
  pub known_lefts : KnowsLeft n lefts
  pub readies : ReadyFits s.lists h n ready
  pub world : WorldFits h w n
