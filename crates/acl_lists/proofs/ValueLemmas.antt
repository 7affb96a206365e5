-- What values are.
use Rattle.std.specs.Prelude.{◌≡◌, ℕ, List, Some, slice_get, refl}
use Rattle.std.proofs.Common.{sym, ap, arith, subst}
use Rattle.model_objects.specs.Object.{Object, Symbol}
use Rattle.model_prims.specs.Kinds.{by_number}
use Rattle.model_lists.specs.Lists.{scalar_of}
use Rattle.acl_base.specs.declared.Word.{Word}
use Rattle.acl_base.specs.declared.Word.TheVariants.{Sym}
use Rattle.acl_heap.specs.Objects.{Objects, Denotes}
use Rattle.acl_lists.specs.declared.cell.ListId.{ListId}
use Rattle.acl_lists.specs.declared.cell.Cell.{Cell}
use Rattle.acl_lists.specs.declared.cell.Cell.TheVariants as cell
use Rattle.acl_lists.specs.Tables.{list_at, IsTable}
use Rattle.acl_lists.proofs.TableLemmas.{value_seen, no_pairs_seen, pair_seen, end_seen, item_seen}

pub scalar_value : (cs : List Cell) (n : ListId) (o : Object ℕ) (h : Objects) (w : Word) → IsTable cs → slice_get cs n.0 ≡ Some (cell.Value o) → Denotes h w o
    → Denotes h w (scalar_of by_number (list_at cs n))
scalar_value cs n o h w t e d = subst (Denotes h w) (sym (ap (scalar_of by_number) (value_seen cs n o t e))) d

pub nil_there : (h : Objects) → Denotes h (Sym (record { 0 = 1 })) (Symbol 1)
nil_there h = record { lies = omega arith; is = refl }

pub scalar_no_pairs : (cs : List Cell) (n : ListId) → IsTable cs → slice_get cs n.0 ≡ Some cell.NoPairs → scalar_of by_number (list_at cs n) ≡ Symbol 1
scalar_no_pairs cs n t e = ap (scalar_of by_number) (no_pairs_seen cs n t e)

pub scalar_pair : (cs : List Cell) (n key value older : ListId) → IsTable cs → slice_get cs n.0 ≡ Some (cell.Pair key value older) → scalar_of by_number (list_at cs n) ≡ Symbol 1
scalar_pair cs n key value older t e = ap (scalar_of by_number) (pair_seen cs n key value older t e)

pub scalar_end : (cs : List Cell) (n : ListId) → IsTable cs → slice_get cs n.0 ≡ Some cell.End → scalar_of by_number (list_at cs n) ≡ Symbol 1
scalar_end cs n t e = ap (scalar_of by_number) (end_seen cs n t e)

pub scalar_item : (cs : List Cell) (n first rest : ListId) → IsTable cs → slice_get cs n.0 ≡ Some (cell.Item first rest) → scalar_of by_number (list_at cs n) ≡ Symbol 1
scalar_item cs n first rest t e = ap (scalar_of by_number) (item_seen cs n first rest t e)
