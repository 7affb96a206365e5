-- Lists as they are walked along.
use Rattle.std.specs.Prelude.{◌≡◌, ℕ, suc, ◌+◌, ◌-◌, ◌<◌, ◌≤◌, List, Some, slice_get, refl}
use Rattle.std.proofs.Common.{sym, ap, ◌∙◌, arith}
use Rattle.model_objects.specs.Object.{Object}
use Rattle.model_lists.specs.Lists.{StobjList, Item, size, item}
use Rattle.acl_lists.specs.declared.cell.ListId.{ListId}
use Rattle.acl_lists.specs.declared.cell.Cell.{Cell}
use Rattle.acl_lists.specs.declared.cell.Cell.TheVariants as cell
use Rattle.acl_lists.specs.Tables.{list_at, IsTable}
use Rattle.acl_lists.proofs.TableLemmas.{value_seen, no_pairs_seen, pair_seen, end_seen}

-- ---- what has no item

pub no_size_value : (cs : List Cell) (n : ListId) (o : Object ℕ) → IsTable cs → slice_get cs n.0 ≡ Some (cell.Value o) → size (list_at cs n) ≡ 0
no_size_value cs n o t e = ap size (value_seen cs n o t e)

pub no_size_pairs : (cs : List Cell) (n : ListId) → IsTable cs → slice_get cs n.0 ≡ Some cell.NoPairs → size (list_at cs n) ≡ 0
no_size_pairs cs n t e = ap size (no_pairs_seen cs n t e)

pub no_size_pair : (cs : List Cell) (n : ListId) (key value older : ListId) → IsTable cs → slice_get cs n.0 ≡ Some (cell.Pair key value older) → size (list_at cs n) ≡ 0
no_size_pair cs n key value older t e = ap size (pair_seen cs n key value older t e)

pub no_size_end : (cs : List Cell) (n : ListId) → IsTable cs → slice_get cs n.0 ≡ Some cell.End → size (list_at cs n) ≡ 0
no_size_end cs n t e = ap size (end_seen cs n t e)

-- ---- items that were passed

pub size_step : (all l first rest : StobjList ℕ) (count : ℕ) → size l + count ≡ size all → l ≡ Item first rest → size rest + (count + 1) ≡ size all
size_step all l first rest count h e = let d : size l ≡ size rest + 1 = ap size e in omega (arith, h, d)

pub size_whole : (all l : StobjList ℕ) (count : ℕ) → size l + count ≡ size all → size l ≡ 0 → count ≡ size all
size_whole all l count h e = omega (arith, h, e)

-- the list that is left has the item that many further
pub record Walked (all l : StobjList ℕ) (index passed : ℕ) : Type 0 where
  pub same : item (index - passed) l ≡ item index all
  pub sizes : size l + passed ≡ size all

pub walk_start : (all : StobjList ℕ) (index : ℕ) → Walked all all index 0
walk_start all index = let e : index - 0 ≡ index = omega arith in record { same = ap (λ n. item n all) e; sizes = omega arith }

item_more : (l first rest : StobjList ℕ) (n m : ℕ) → l ≡ Item first rest → n ≡ suc m → item m rest ≡ item n l
item_more l first rest n m e h = rw (e, h) refl

pub walk_step : (all l first rest : StobjList ℕ) (index passed : ℕ) → Walked all l index passed → passed < index → l ≡ Item first rest → Walked all rest index (passed + 1)
walk_step all l first rest index passed w b e =
    let h : index - passed ≡ suc (index - (passed + 1)) = omega (arith, b) in
    record {
      same = item_more l first rest (index - passed) (index - (passed + 1)) e h ∙ w.same;
      sizes = size_step all l first rest passed w.sizes e;
    }

pub walk_short : (all l : StobjList ℕ) (index passed : ℕ) → Walked all l index passed → passed ≤ index → size l ≡ 0 → size all ≤ index
walk_short all l index passed w b e = omega (arith, w.sizes, b, e)

pub walk_item : (all l first rest : StobjList ℕ) (index passed : ℕ) → Walked all l index passed → passed ≡ index → l ≡ Item first rest → first ≡ item index all
walk_item all l first rest index passed w b e =
    let h : index - passed ≡ 0 = omega (arith, b) in
    sym (rw (e, h) refl) ∙ w.same

pub walk_has : (all l first rest : StobjList ℕ) (index passed : ℕ) → Walked all l index passed → passed ≡ index → l ≡ Item first rest → index < size all
walk_has all l first rest index passed w b e = let d : size l ≡ size rest + 1 = ap size e in omega (arith, w.sizes, b, d)
