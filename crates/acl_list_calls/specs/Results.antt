-- What comes of a call, in a heap and in a table.
use Rattle.std.specs.Prelude.{◌≡◌, ℕ, List, [], ◌∷◌}
use Rattle.acl_heap.specs.Objects.{Objects, object_of, Lies}
use Rattle.acl_terms.specs.declared.outcome.Shown.{Shown}
use Rattle.acl_terms.specs.declared.outcome.Shown.TheVariants as shown
use Rattle.model_lists.specs.Effects.{Effect, Refuses, Reads, Writes}
use Rattle.acl_lists.specs.declared.cell.Cell.{Cell}
use Rattle.acl_lists.specs.Pairs.{Within}
use Rattle.acl_list_parts.specs.Parts.{list_given}
use Rattle.acl_list_calls.specs.declared.done.Done.{Done}
use Rattle.acl_list_calls.specs.declared.done.Done.TheVariants as done

-- the ordinary values lie in the heap
abbrev pub ValuesLie : Objects → List Shown → Type 0
ValuesLie h [] = Unit {0}
ValuesLie h (shown.Value w ∷ vs) = Lies h w × ValuesLie h vs
ValuesLie h (shown.Object x ∷ vs) = ValuesLie h vs

abbrev pub seen_done : Objects → List Cell → Done → Effect ℕ
seen_done h cs done.Refuses = Refuses
seen_done h cs (done.Reads w) = Reads (object_of h w ∷ [])
seen_done h cs (done.ReadsBoth v w) = Reads (object_of h v ∷ object_of h w ∷ [])
seen_done h cs (done.Writes n) = Writes (list_given cs n)

-- its words and its number are those of the heap and of the table
abbrev pub DoneLies : Objects → List Cell → Done → Type 0
DoneLies h cs done.Refuses = Unit {0}
DoneLies h cs (done.Reads w) = Lies h w
DoneLies h cs (done.ReadsBoth v w) = Lies h v × Lies h w
DoneLies h cs (done.Writes n) = Within cs n

-- it is what the definition says
pub record Does (h : Objects) (cs : List Cell) (e : Effect ℕ) (d : Done) : Type 0 where
  pub lies : DoneLies h cs d
  pub is : seen_done h cs d ≡ e
