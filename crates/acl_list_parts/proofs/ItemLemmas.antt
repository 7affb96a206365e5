-- Items that are read and put.
use Rattle.std.specs.Prelude.{◌≡◌, ℕ, zero, suc, ◌+◌, ◌<◌, ◌≤◌, ◌^◌, ◌↔◌, IsSome, List, length, Option, Some, None, option_map, refl}
use Rattle.std.proofs.Common.{sym, ap, ◌∙◌, arith}
use Rattle.acl_base.specs.declared.Word.{Word}
use Rattle.acl_heap.specs.Objects.{Objects, object_of}
use Rattle.model_objects.specs.Object.{Object}
use Rattle.model_prims.specs.Numbers.{natural_of}
use Rattle.model_lists.specs.Lists.{StobjList, Value, Pairs, End, Item, size, item, with_item}
use Rattle.model_eval.specs.Lending.{child_in, with_child_in}
use Rattle.acl_lists.specs.declared.cell.ListId.{ListId}
use Rattle.acl_lists.specs.declared.cell.Cell.{Cell}
use Rattle.acl_lists.specs.Tables.{list_at, Grown}
use Rattle.acl_lists.specs.Pairs.{Within}
use Rattle.acl_lists.proofs.TableLemmas.{list_later}
use Rattle.acl_list_parts.specs.Parts.{list_given}

pub item_beyond : (l : StobjList ℕ) (n : ℕ) → size l ≤ n → End ≡ item n l
item_beyond (Value o) zero h = refl
item_beyond (Value o) (suc n) h = refl
item_beyond (Pairs ps) zero h = refl
item_beyond (Pairs ps) (suc n) h = refl
item_beyond End zero h = refl
item_beyond End (suc n) h = refl
item_beyond (Item x rest) zero h = absurd (omega (arith, h))
item_beyond (Item x rest) (suc n) h = item_beyond rest n (omega (arith, h))

pub put_beyond : (l y : StobjList ℕ) (n : ℕ) → size l ≤ n → l ≡ with_item n y l
put_beyond (Value o) y zero h = refl
put_beyond (Value o) y (suc n) h = refl
put_beyond (Pairs ps) y zero h = refl
put_beyond (Pairs ps) y (suc n) h = refl
put_beyond End y zero h = refl
put_beyond End y (suc n) h = refl
put_beyond (Item x rest) y zero h = absurd (omega (arith, h))
put_beyond (Item x rest) y (suc n) h = ap (λ r. Item x r) (put_beyond rest y n (omega (arith, h)))

less_or_not : (n m : ℕ) → (n < m → ⊥) → m ≤ n
less_or_not n m h = grind (arith, h)

pub no_item : (l : StobjList ℕ) (n : ℕ) (o : Option ListId) → o ≡ None → (IsSome o ↔ (n < size l)) → End ≡ item n l
no_item l n o e h = item_beyond l n (less_or_not n (size l) (λ b. none o e (h.1 b))) where
  none : (o : Option ListId) → o ≡ None → IsSome o → ⊥
  none None e s = cc
  none (Some x) e s = cc

pub nothing_put : (n : ℕ) (y : StobjList ℕ) → End ≡ with_item n y End
nothing_put zero y = refl
nothing_put (suc n) y = refl

-- ---- a table that grows

pub given_later : (old new : List Cell) (n : Option ListId) → Grown old new → Within old n → list_given new n ≡ list_given old n
given_later old new None g w = refl
given_later old new (Some n) g w = list_later old new n g w

pub given_within : (old new : List Cell) (n : Option ListId) → Grown old new → Within old n → Within new n
given_within old new None g w = tt
given_within old new (Some n) g w = omega (arith, g.longer, w)

pub still_within : (old new : List Cell) (n : ListId) → Grown old new → n.0 < length old → n.0 < length new
still_within old new n g w = omega (arith, g.longer, w)

pub item_put : (old mid new : List Cell) (list put made : ListId) (y : StobjList ℕ) (index : ℕ) → Grown old mid → list.0 < length old → list_at mid put ≡ y
    → list_at new made ≡ with_item index (list_at mid put) (list_at mid list) → list_at new made ≡ with_item index y (list_at old list)
item_put old mid new list put made y index g l p e = e ∙ (ap (λ z. with_item index z (list_at mid list)) p ∙ ap (with_item index y) (list_later old mid list g l))

-- ---- children

pub item_of_natural : (cs : List Cell) (h : Objects) (field made : Option ListId) (index : Option Word) (w : Word) (n : ℕ) → index ≡ Some w → n ≡ natural_of (object_of h w)
    → list_given cs made ≡ item n (list_given cs field) → list_given cs made ≡ child_in (option_map (object_of h) index) (list_given cs field)
item_of_natural cs h field made index w n e i g = g ∙ (ap (λ k. item k (list_given cs field)) i ∙ ap (λ o. child_in (option_map (object_of h) o) (list_given cs field)) (sym e))

pub far_item : (cs : List Cell) (h : Objects) (field : Option ListId) (index : Option Word) (w : Word) → index ≡ Some w → 2 ^ 64 ≤ natural_of (object_of h w) → size (list_given cs field) < 2 ^ 64
    → End ≡ child_in (option_map (object_of h) index) (list_given cs field)
far_item cs h field index w e f s =
    let b : size (list_given cs field) ≤ natural_of (object_of h w) = omega (arith, f, s) in
    item_beyond (list_given cs field) (natural_of (object_of h w)) b ∙ ap (λ o. child_in (option_map (object_of h) o) (list_given cs field)) (sym e)

pub put_at_natural : (old new : List Cell) (h : Objects) (field child made : Option ListId) (index : Option Word) (w : Word) (n : ℕ) → index ≡ Some w → n ≡ natural_of (object_of h w)
    → list_given new made ≡ with_item n (list_given old child) (list_given old field) → list_given new made ≡ with_child_in (option_map (object_of h) index) (list_given old child) (list_given old field)
put_at_natural old new h field child made index w n e i g =
    g ∙ (ap (λ k. with_item k (list_given old child) (list_given old field)) i ∙ ap (λ o. with_child_in (option_map (object_of h) o) (list_given old child) (list_given old field)) (sym e))

pub far_put : (cs : List Cell) (h : Objects) (field child : Option ListId) (index : Option Word) (w : Word) → index ≡ Some w → 2 ^ 64 ≤ natural_of (object_of h w) → size (list_given cs field) < 2 ^ 64
    → list_given cs field ≡ with_child_in (option_map (object_of h) index) (list_given cs child) (list_given cs field)
far_put cs h field child index w e f s =
    let b : size (list_given cs field) ≤ natural_of (object_of h w) = omega (arith, f, s) in
    put_beyond (list_given cs field) (list_given cs child) (natural_of (object_of h w)) b ∙ ap (λ o. with_child_in (option_map (object_of h) o) (list_given cs child) (list_given cs field)) (sym e)

pub child_put : (old mid new : List Cell) (parent field put made : Option ListId) (child : StobjList ℕ) (index : Option (Object ℕ)) (f : ℕ) → Grown old mid → Within old parent
    → list_given old field ≡ item f (list_given old parent) → list_given mid put ≡ with_child_in index child (list_given old field)
    → list_given new made ≡ with_item f (list_given mid put) (list_given mid parent)
    → list_given new made ≡ with_item f (with_child_in index child (item f (list_given old parent))) (list_given old parent)
child_put old mid new parent field put made child index f g w i p e =
    e
    ∙ (ap (λ z. with_item f z (list_given mid parent)) (p ∙ ap (with_child_in index child) i)
    ∙ ap (with_item f (with_child_in index child (item f (list_given old parent)))) (given_later old mid parent g w))
