-- Lists of items.
use Rattle.std.specs.Prelude.{◌≡◌, ◌+◌, ◌≤◌, List, [], ◌∷◌, ◌++◌, refl}
use Rattle.std.proofs.Common.{sym, ap, ◌∙◌, arith}
use Rattle.model_objects.specs.Object.{weight}
use Rattle.model_symbols.specs.Symbols.{Table}
use Rattle.model_text.specs.Backquote as backquote
use Rattle.model_text.specs.Backquote.{item_form, joined, joined_onto}
use Rattle.acl_heap.specs.Objects.{Objects}
use Rattle.acl_read_build.specs.declared.Item.{Item}
use Rattle.acl_read_build.specs.Slots.{item_at, items_at, IsWholeItem, AreWholeItems, Grows}
use Rattle.acl_read_build.specs.Building.{Refuses}
use Rattle.acl_read_build.specs.declared.Refusal.{Refusal}
use Rattle.acl_read_build.specs.declared.Refusal.TheVariants.{TooLarge, Memory}
use Rattle.std.proofs.lemmas.List.{map_push}

pub AreWholeItems-push : (t : Table) (h : Objects) (is : List Item) (i : Item) → AreWholeItems t h is → IsWholeItem t h i → AreWholeItems t h (is ++ i ∷ [])
AreWholeItems-push t h [] i a k = (k, tt)
AreWholeItems-push t h (j ∷ is) i a k = (a.0, AreWholeItems-push t h is i a.1 k)

pub AreWholeItems-pop : (t : Table) (h : Objects) (is : List Item) (i : Item) → AreWholeItems t h (is ++ i ∷ []) → AreWholeItems t h is × IsWholeItem t h i
AreWholeItems-pop t h [] i a = (tt, a.0)
AreWholeItems-pop t h (j ∷ is) i a = let r = AreWholeItems-pop t h is i a.1 in ((a.0, r.0), r.1)

pub joined_push : (is : List backquote.Item) (i end : backquote.Item) → joined_onto (is ++ i ∷ []) end ≡ joined_onto is (joined i end)
joined_push [] i end = refl
joined_push (j ∷ is) i end = ap (joined j) (joined_push is i end)

-- a pair is no lighter than its parts
pub joined_first : (i d : backquote.Item) → weight (item_form i) ≤ weight (item_form (joined i d))
joined_first (backquote.Plain a) (backquote.Plain d) = omega arith
joined_first (backquote.Plain a) (backquote.Made d) = omega arith
joined_first (backquote.Plain a) (backquote.Spliced d) = omega arith
joined_first (backquote.Made a) (backquote.Plain d) = omega arith
joined_first (backquote.Made a) (backquote.Made d) = omega arith
joined_first (backquote.Made a) (backquote.Spliced d) = omega arith
joined_first (backquote.Spliced a) (backquote.Plain d) = omega arith
joined_first (backquote.Spliced a) (backquote.Made d) = omega arith
joined_first (backquote.Spliced a) (backquote.Spliced d) = omega arith

pub joined_weight : (i d : backquote.Item) → weight (item_form i) + weight (item_form d) ≤ weight (item_form (joined i d))
joined_weight (backquote.Plain a) (backquote.Plain d) = omega arith
joined_weight (backquote.Plain a) (backquote.Made d) = omega arith
joined_weight (backquote.Plain a) (backquote.Spliced d) = omega arith
joined_weight (backquote.Made a) (backquote.Plain d) = omega arith
joined_weight (backquote.Made a) (backquote.Made d) = omega arith
joined_weight (backquote.Made a) (backquote.Spliced d) = omega arith
joined_weight (backquote.Spliced a) (backquote.Plain d) = omega arith
joined_weight (backquote.Spliced a) (backquote.Made d) = omega arith
joined_weight (backquote.Spliced a) (backquote.Spliced d) = omega arith

pub joined_onto_weight : (is : List backquote.Item) (end : backquote.Item) → weight (item_form end) ≤ weight (item_form (joined_onto is end))
joined_onto_weight [] end = omega arith
joined_onto_weight (i ∷ is) end = omega (arith, joined_weight i (joined_onto is end), joined_onto_weight is end)

-- one item more stands in front of the list
pub listed : (t : Table) (h h' : Objects) (is : List Item) (i end made : Item) → Grows t h h' → AreWholeItems t h is → item_at t h' made ≡ joined (item_at t h i) (item_at t h end)
    → joined_onto (items_at t h' is) (item_at t h' made) ≡ joined_onto (items_at t h (is ++ i ∷ [])) (item_at t h end)
listed t h h' is i end made g a e =
    ap (λ (xs : List backquote.Item). joined_onto xs (item_at t h' made)) (g.same_items is a)
    ∙ (ap (λ (x : backquote.Item). joined_onto (items_at t h is) x) e
    ∙ (sym (joined_push (items_at t h is) (item_at t h i) (item_at t h end))
    ∙ ap (λ (xs : List backquote.Item). joined_onto xs (item_at t h end)) (sym (map_push (item_at t h) is i))))

pub refused_list : (t : Table) (h : Objects) (is : List Item) (i end : Item) (e : Refusal) → Refuses (weight (item_form (joined (item_at t h i) (item_at t h end)))) e
    → Refuses (weight (item_form (joined_onto (items_at t h (is ++ i ∷ [])) (item_at t h end)))) e
refused_list t h is i end Memory r = tt
refused_list t h is i end TooLarge r =
    let q : joined_onto (items_at t h (is ++ i ∷ [])) (item_at t h end) ≡ joined_onto (items_at t h is) (joined (item_at t h i) (item_at t h end)) =
    ap (λ (xs : List backquote.Item). joined_onto xs (item_at t h end)) (map_push (item_at t h) is i) ∙ joined_push (items_at t h is) (item_at t h i) (item_at t h end) in
    omega (arith, r, joined_onto_weight (items_at t h is) (joined (item_at t h i) (item_at t h end)), ap (λ (x : backquote.Item). weight (item_form x)) q)
