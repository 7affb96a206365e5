-- The laws of a store.
use Rattle.std.proofs.Common.{◌≡◌, ℕ, ◌+◌, ◌<◌, [], ◌∷◌, Some, sym, ap, ◌∙◌, arith}
use Rattle.std.specs.Prelude.{refl}
use Rattle.model_lists.specs.Lists.{StobjList}
use Rattle.model_lists.specs.Normal.{canonical}
use Rattle.model_lists_laws.proofs.CanonicalLemmas.{canonical_lists}
use Rattle.model_eval.specs.PlacesKeeping.{Place, list_at, with_list_at}
use Rattle.model_places.proofs.PathLemmas.{write_below}
use Rattle.acl_nodes.specs.Kept.{Kept, place_at}
use Rattle.acl_nodes.specs.Nodes.{Part, Own, Child, Children, part_at}
use Rattle.acl_nodes.proofs.NodeLemmas.{part_within}
use Rattle.acl_nodes.proofs.SeenLemmas.{all_stand}
use Rattle.acl_maps.specs.Cells.{pairs_in}
use Rattle.acl_maps.proofs.CountLemmas.{pairs_found}
use Rattle.acl_fields.specs.Fields.{Field, One, Many, Any, Anys, Table, shown, list_of, HasValue}
use Rattle.acl_store.specs.Calls.{Nodes, Holds, place_in}
use Rattle.acl_store.specs.Laws.{NodesStand, updated, WritesAreUpdates}

one_list : (o : Field) (l : StobjList ℕ) → shown o l → canonical l ≡ canonical (list_of o)
one_list (One v) l s = ap canonical s
one_list (Many kind x vs) l s = ap canonical s
one_list (Any o) l s = ap canonical s
one_list (Anys x os) l s = ap canonical s
one_list (Table cs) l s = ap canonical s.is ∙ canonical_lists.found s.pairs (pairs_in cs) (λ q. s.finds q ∙ sym (pairs_found q cs))

pub nodes_stand : NodesStand
nodes_stand ns kept h k there = let w : k < k + 1 = omega arith in all_stand canonical refl (λ x r. refl) shown list_of one_list ns kept h (k + 1) k w there

update : (ns : Nodes) (kept : Kept) (h : Holds ns kept) (n f i : ℕ) (p : Part Field) (x : StobjList ℕ) → part_at ns n f ≡ Some p → HasValue p i
    → with_list_at (place_in kept p n f i) x kept.roots ≡ with_list_at (place_at kept.places n) (updated p f i x (list_at kept.roots (place_at kept.places n))) kept.roots
update ns kept h n f i (Own (One v)) x at e = write_below (place_at kept.places n) (f ∷ []) x kept.roots (h.there n (part_within ns n f (Own (One v)) at))
update ns kept h n f i (Own (Many kind y vs)) x at e = write_below (place_at kept.places n) (f ∷ i ∷ []) x kept.roots (h.there n (part_within ns n f (Own (Many kind y vs)) at))
update ns kept h n f i (Own (Any o)) x at e = write_below (place_at kept.places n) (f ∷ []) x kept.roots (h.there n (part_within ns n f (Own (Any o)) at))
update ns kept h n f i (Own (Anys y os)) x at e = write_below (place_at kept.places n) (f ∷ i ∷ []) x kept.roots (h.there n (part_within ns n f (Own (Anys y os)) at))
update ns kept h n f i (Own (Table cs)) x at e = absurd e
update ns kept h n f i (Child c) x at e = absurd e
update ns kept h n f i (Children cs) x at e = absurd e

pub updates : WritesAreUpdates
updates ns kept h n f i p v at e scope journal x q =
    update ns kept h n f i p v at e
    ∙ ap (λ (r : Place). with_list_at r (updated p f i v (list_at kept.roots r)) kept.roots) (sym q)
