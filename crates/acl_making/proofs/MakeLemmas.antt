-- The nodes of a new object, by its layout.
use Rattle.std.proofs.Common.{◌≡◌, ℕ, zero, suc, ◌+◌, ◌<◌, ◌≤◌, List, [], ◌∷◌, ◌++◌, map, length, replicate, Some, None, refl, sym, ap, ◌∙◌, subst, arith, inl, inr, Bool}
use Rattle.std.specs.Prelude.{◌≢◌, ◌⊎◌, ◌^◌, slice_get, option_map}
use Rattle.std.proofs.lemmas.List.{length-append, length-replicate, length-map, map_push}
use Rattle.std.proofs.lemmas.Option.{slice_get-map}
use Rattle.acl_base.specs.declared.layout.Field.{Field}
use Rattle.acl_base.specs.declared.layout.Field.TheVariants as fields
use Rattle.acl_base.specs.declared.layout.Kind.{Kind}
use Rattle.acl_base.specs.declared.layout.Kind.TheVariants.{Byte, I32, I64, General}
use Rattle.acl_base.specs.declared.layout.Layout.{Layout}
use Rattle.acl_base.specs.declared.LayoutId.{LayoutId}
use Rattle.acl_base.specs.declared.Word.{Word}
use Rattle.acl_base.specs.declared.Word.TheVariants.{Small, Big, Sym, Str, Cons}
use Rattle.acl_heap.specs.Objects.{Objects, object_of}
use Rattle.model_lists.specs.Lists.{StobjList, Value, Pairs}
use Rattle.acl_base.specs.declared.layout.Test.{Test}
use Rattle.acl_nodes.specs.Kept.{items_of}
use Rattle.acl_nodes.specs.Nodes.{Part, Own, Child, Children, Node, part_at, width, layout_at}
use Rattle.acl_nodes.specs.Making.{MakesNode, MakesParts, Extends}
use Rattle.acl_nodes.proofs.ExtendLemmas.{extends_self, extends_then, extends_push, extended_layout}
use Rattle.acl_nodes.proofs.MakingLemmas.{own_part, child_part, children_part, parts_start, parts_step, parts_end}
use Rattle.acl_nodes.proofs.PushLemmas.{part_one, width_old, width_last, layout_old, layout_last}
use Rattle.acl_fields.specs.Fields as kept
use Rattle.acl_fields.specs.Fields.{One, Many, Any, Anys, Table, shown, integer, plain, IsSmall, number_of}
use Rattle.acl_fields.specs.Layouts.{IsInitial, born, field_in, size_in, IsOlder, Matches, Follow}
use Rattle.acl_fields.specs.Parts.{part_of}
use Rattle.acl_fields.specs.Views.{parts_of, node_of, view}
use Rattle.acl_fields.specs.declared.node.Node.{Node as Memory}
use Rattle.acl_making.specs.Making.{NodeFor, PartFor, AllMatch, PartsFor, ChildrenFor, one_of, many_of}

none_some : {X : Type 0} {x : X} → None ≡ Some x → ⊥
none_some e = cc

some_same : {X : Type 0} {x y : X} → Some x ≡ Some y → x ≡ y
some_same e = cc

-- ---- layouts stay as nodes are pushed

older_more : (nodes after : List (Node kept.Field)) (k k' id c : ℕ) → Extends nodes after → k ≤ length nodes → k ≤ k' → IsOlder nodes k id c → IsOlder after k' id c
older_more nodes after k k' id c e w u o = let h = o.0 in let low : c < length nodes = omega (arith, h, w) in (omega (arith, h, u), extended_layout nodes after c e low ∙ o.1)

matches_more : (nodes after : List (Node kept.Field)) (k k' : ℕ) (field : Field) (part : Part kept.Field) → Extends nodes after → k ≤ length nodes → k ≤ k' → Matches nodes k field part → Matches after k' field part
matches_more nodes after k k' (fields.Scalar kind w) part e l u m = m
matches_more nodes after k k' (fields.Array kind w n r) part e l u m = m
matches_more nodes after k k' (fields.Hash test) part e l u m = m
matches_more nodes after k k' (fields.Child id) (Own o) e l u m = m
matches_more nodes after k k' (fields.Child id) (Child c) e l u m = older_more nodes after k k' id.0 c e l u m
matches_more nodes after k k' (fields.Child id) (Children cs) e l u m = m
matches_more nodes after k k' (fields.Children id n) (Own o) e l u m = m
matches_more nodes after k k' (fields.Children id n) (Child c) e l u m = m
matches_more nodes after k k' (fields.Children id n) (Children cs) e l u m = (m.0, λ i c g. older_more nodes after k k' id.0 c e l u (m.1 i c g))

all_more : (mid after : List (Node kept.Field)) (fs : List Field) (made : List (Part kept.Field)) → Extends mid after → AllMatch mid fs made → AllMatch after fs made
all_more mid after fs made e a f part g = let m = a f part g in (m.0, m.1, matches_more mid after (length mid) (length after) m.0 part e (omega arith) e.0 m.2)

get_one : {X : Type 0} (xs : List X) (y : X) (i : ℕ) (x : X) → slice_get (xs ++ y ∷ []) i ≡ Some x → (slice_get xs i ≡ Some x) ⊎ ((i ≡ length xs) × (y ≡ x))
get_one [] y zero x e = inr (refl, some_same e)
get_one [] y (suc i) x e = absurd (none_some e)
get_one (z ∷ xs) y zero x e = inl e
get_one (z ∷ xs) y (suc i) x e = elim (get_one xs y i x e) [ inl a ↦ inl a | inr a ↦ inr (ap suc a.0, a.1) ]

field_is : (layouts : List Layout) (id : ℕ) (layout : Layout) (f : ℕ) → slice_get layouts id ≡ Some layout → field_in layouts id f ≡ slice_get layout.fields.items f
field_is [] id layout f e = absurd (none_some e)
field_is (l ∷ layouts) zero layout f e = ap (λ (m : Layout). slice_get m.fields.items f) (some_same e)
field_is (l ∷ layouts) (suc id) layout f e = field_is layouts id layout f e

size_is : (layouts : List Layout) (id : ℕ) (layout : Layout) → slice_get layouts id ≡ Some layout → size_in layouts id ≡ Some (length layout.fields.items)
size_is [] id layout e = absurd (none_some e)
size_is (l ∷ layouts) zero layout e = ap (λ (m : Layout). Some (length m.fields.items)) (some_same e)
size_is (l ∷ layouts) (suc id) layout e = size_is layouts id layout e

follow_push : (layouts : List Layout) (id : ℕ) (layout : Layout) (mid : List (Node kept.Field)) (node : Node kept.Field) → slice_get layouts id ≡ Some layout → node.layout ≡ id
    → length node.parts ≡ length layout.fields.items → AllMatch mid layout.fields.items node.parts → Follow layouts mid → Follow layouts (mid ++ node ∷ [])
follow_push layouts id layout mid node g e l a h = record {
  sizes = λ k w. sizes k (position k w);
  fields = λ k f part p. at k f part (part_one mid node k f part p);
}
  where
    last_or : (n k : ℕ) → k < n + 1 → (k < n) ⊎ (k ≡ n)
    last_or n k h = grind (arith, h)

    position : (k : ℕ) → k < length (mid ++ node ∷ []) → (k < length mid) ⊎ (k ≡ length mid)
    position k w = let s = length-append mid (node ∷ []) in let m : k < length mid + 1 = omega (arith, w, s) in last_or (length mid) k m

    sizes : (k : ℕ) → (k < length mid) ⊎ (k ≡ length mid) → size_in layouts (layout_at (mid ++ node ∷ []) k) ≡ Some (width (mid ++ node ∷ []) k)
    sizes k (inl w) = ap (size_in layouts) (layout_old mid node k w) ∙ (h.sizes k w ∙ ap Some (sym (width_old mid node k w)))
    sizes k (inr q) = ap (size_in layouts) (ap (layout_at (mid ++ node ∷ [])) q ∙ (layout_last mid node ∙ e)) ∙ (size_is layouts id layout g
        ∙ ap Some (sym l ∙ sym (ap (width (mid ++ node ∷ [])) q ∙ width_last mid node)))

    at : (k f : ℕ) (part : Part kept.Field) → ((k < length mid) × (part_at mid k f ≡ Some part)) ⊎ ((k ≡ length mid) × (slice_get node.parts f ≡ Some part))
        → (field : Field) × (field_in layouts (layout_at (mid ++ node ∷ []) k) f ≡ Some field) × Matches (mid ++ node ∷ []) k field part
    at k f part (inl w) = let m = h.fields k f part w.1 in let low = w.0 in (
      m.0,
      ap (λ (i : ℕ). field_in layouts i f) (layout_old mid node k w.0) ∙ m.1,
      matches_more mid (mid ++ node ∷ []) k k m.0 part (extends_push mid node) (omega (arith, low)) (omega arith) m.2,
    )
    at k f part (inr w) = let m = a f part w.1 in let here = w.0 in (
      m.0,
      ap (λ (i : ℕ). field_in layouts i f) (ap (layout_at (mid ++ node ∷ [])) w.0 ∙ (layout_last mid node ∙ e)) ∙ (field_is layouts id layout f g ∙ m.1),
      matches_more mid (mid ++ node ∷ []) (length mid) k m.0 part (extends_push mid node) (omega arith) (omega (arith, here)) m.2,
    )

byte_apart : Byte ≢ General
byte_apart e = cc

int_apart : I32 ≢ General
int_apart e = cc

long_apart : I64 ≢ General
long_apart e = cc

-- ---- fields in turn

module _ (h : Objects) (layouts : List Layout) where
  pub parts_for_start : (fs : List Field) (nodes : List (Node kept.Field)) → PartsFor h layouts fs nodes nodes []
  parts_for_start fs nodes = record {
    grows = extends_self nodes;
    makes = λ lists b. parts_start shown (map (born h lists) fs) nodes;
    follows = λ f. (f, λ i part e. absurd (none_some e));
  }

  pub parts_for_step : (fs : List Field) (nodes mid after : List (Node kept.Field)) (made : List (Part kept.Field)) (part : Part kept.Field) (field : Field) → PartsFor h layouts fs nodes mid made
      → slice_get fs (length made) ≡ Some field → PartFor h layouts field mid after part → PartsFor h layouts fs nodes after (made ++ part ∷ [])
  parts_for_step fs nodes mid after made part field s e t = record {
    grows = extends_then nodes mid after s.grows t.grows;
    makes = λ lists b. parts_step shown (map (born h lists) fs) nodes mid after made part (born h lists field) (s.makes lists b) (slice_get-map (born h lists) fs (length made) ∙ ap (option_map (born h lists)) e) (t.makes lists b);
    follows = λ f. let a = s.follows f in let b = t.follows a.0 in (b.0, λ i q g. all a.1 b.1 i q (get_one made part i q g));
  }
    where
      all : AllMatch mid fs made → Matches after (length after) field part → (i : ℕ) (q : Part kept.Field) → (slice_get made i ≡ Some q) ⊎ ((i ≡ length made) × (part ≡ q))
          → (g : Field) × (slice_get fs i ≡ Some g) × Matches after (length after) g q
      all a m i q (inl g) = all_more mid after fs made t.grows a i q g
      all a m i q (inr g) = (field, ap (slice_get fs) g.0 ∙ e, subst (Matches after (length after) field) g.1 m)

  pub node_for : (id : ℕ) (layout : Layout) (nodes mid : List (Node kept.Field)) (node : Node kept.Field) → slice_get layouts id ≡ Some layout
      → PartsFor h layouts layout.fields.items nodes mid node.parts → length node.parts ≡ length layout.fields.items → node.layout ≡ id → NodeFor h layouts id nodes (mid ++ node ∷ []) (length mid)
  node_for id layout nodes mid node e s l i = record {
    grows = extends_then nodes mid (mid ++ node ∷ []) s.grows (extends_push mid node);
    makes = λ lists b. subst (λ (k : StobjList ℕ). MakesNode shown k nodes (mid ++ node ∷ []) (length mid)) (sym (b id layout e))
        (parts_end shown (map (born h lists) layout.fields.items) nodes mid node (s.makes lists b) (l ∙ sym (length-map layout.fields.items (born h lists))));
    follows = λ f. let a = s.follows f in (follow_push layouts id layout mid node e i l a.1 a.0, ((let n = length-append mid (node ∷ []) in omega (arith, n)), layout_last mid node ∙ i));
  }

  pub children_for_start : (id n : ℕ) (nodes : List (Node kept.Field)) → ChildrenFor h layouts id n nodes nodes []
  children_for_start id n nodes = record {
    grows = extends_self nodes;
    makes = λ lists b. parts_start shown (replicate n (lists id)) nodes;
    follows = λ f. (f, λ i c e. absurd (none_some e));
  }

  get_replicate : {X : Type 0} (n i : ℕ) (x : X) → i < n → slice_get (replicate n x) i ≡ Some x
  get_replicate zero i x h = absurd (omega (arith, h))
  get_replicate (suc n) zero x h = refl
  get_replicate (suc n) (suc i) x h = let less : i < n = omega (arith, h) in get_replicate n i x less

  pub children_for_step : (id n : ℕ) (nodes mid after : List (Node kept.Field)) (made : List ℕ) (c : ℕ) → ChildrenFor h layouts id n nodes mid made → length made < n
      → NodeFor h layouts id mid after c → ChildrenFor h layouts id n nodes after (made ++ c ∷ [])
  children_for_step id n nodes mid after made c s w t = record {
    grows = extends_then nodes mid after s.grows t.grows;
    makes = λ lists b. subst (MakesParts shown (replicate n (lists id)) nodes after) (sym (map_push Child made c))
        (parts_step shown (replicate n (lists id)) nodes mid after (map Child made) (Child c) (lists id) (s.makes lists b)
        (ap (slice_get (replicate n (lists id))) (length-map made Child) ∙ get_replicate n (length made) (lists id) w) (child_part shown (lists id) mid after c (t.makes lists b)));
    follows = λ f. let a = s.follows f in let b = t.follows a.0 in (b.0, λ i q g. older a.1 b.1 i q (get_one made c i q g));
  }
    where
      older : ((i q : ℕ) → slice_get made i ≡ Some q → IsOlder mid (length mid) id q) → IsOlder after (length after) id c → (i q : ℕ) → (slice_get made i ≡ Some q) ⊎ ((i ≡ length made) × (c ≡ q)) → IsOlder after (length after) id q
      older a m i q (inl g) = let u = t.grows.0 in older_more mid after (length mid) (length after) id q t.grows (omega arith) u (a i q g)
      older a m i q (inr g) = subst (IsOlder after (length after) id) g.1 m

  small_born : (w : Word) → IsSmall w → Value (object_of h w) ≡ integer (number_of w)
  small_born (Small v) s = refl
  small_born (Big n) s = absurd s
  small_born (Sym n) s = absurd s
  small_born (Str n) s = absurd s
  small_born (Cons n) s = absurd s

  one_small : (kind : Kind) (w : Word) (nodes : List (Node kept.Field)) (part : Part kept.Field) → kind ≢ General → IsSmall w → part ≡ Own (One (number_of w)) → PartFor h layouts (fields.Scalar kind w) nodes nodes part
  one_small kind w nodes part d s e = subst (PartFor h layouts (fields.Scalar kind w) nodes nodes) (sym e) (record {
    grows = extends_self nodes;
    makes = λ lists b. own_part shown (Value (object_of h w)) nodes (One (number_of w)) (small_born w s);
    follows = λ f. (f, d);
  })

  pub one_for : (kind : Kind) (w : Word) (nodes : List (Node kept.Field)) (part : Part kept.Field) → IsInitial h kind w → part ≡ one_of h kind w → PartFor h layouts (fields.Scalar kind w) nodes nodes part
  one_for Byte w nodes part s e = one_small Byte w nodes part byte_apart s.0 e
  one_for I32 w nodes part s e = one_small I32 w nodes part int_apart s.0 e
  one_for I64 w nodes part s e = one_small I64 w nodes part long_apart s.0 e
  one_for General w nodes part s e = subst (PartFor h layouts (fields.Scalar General w) nodes nodes) (sym e) (record {
    grows = extends_self nodes;
    makes = λ lists b. own_part shown (Value (object_of h w)) nodes (Any (object_of h w)) refl;
    follows = λ f. (f, refl);
  })

  replicated : {X : Type 0} (g : X → StobjList ℕ) (n : ℕ) (v : X) → replicate n (g v) ≡ map g (replicate n v)
  replicated g zero v = refl
  replicated g (suc n) v = ap (λ (ls : List (StobjList ℕ)). g v ∷ ls) (replicated g n v)

  many_small : (kind : Kind) (w : Word) (n : ℕ) (r : Bool) (nodes : List (Node kept.Field)) (part : Part kept.Field) → kind ≢ General → IsSmall w → n < 2 ^ 32
      → part ≡ Own (Many kind (number_of w) (replicate n (number_of w))) → PartFor h layouts (fields.Array kind w n r) nodes nodes part
  many_small kind w n r nodes part d s u e = subst (PartFor h layouts (fields.Array kind w n r) nodes nodes) (sym e) (record {
    grows = extends_self nodes;
    makes = λ lists b. own_part shown (items_of (replicate n (Value (object_of h w)))) nodes (Many kind (number_of w) (replicate n (number_of w)))
        (ap (λ (l : StobjList ℕ). items_of (replicate n l)) (small_born w s) ∙ ap items_of (replicated integer n (number_of w)));
    follows = λ f. (f, (refl, refl, subst (λ (k : ℕ). k < 2 ^ 32) (sym (length-replicate n (number_of w))) u, λ q. length-replicate n (number_of w), d));
  })

  pub many_for : (kind : Kind) (w : Word) (n : ℕ) (r : Bool) (nodes : List (Node kept.Field)) (part : Part kept.Field) → IsInitial h kind w → n < 2 ^ 32 → part ≡ many_of h kind w n
      → PartFor h layouts (fields.Array kind w n r) nodes nodes part
  many_for Byte w n r nodes part s u e = many_small Byte w n r nodes part byte_apart s.0 u e
  many_for I32 w n r nodes part s u e = many_small I32 w n r nodes part int_apart s.0 u e
  many_for I64 w n r nodes part s u e = many_small I64 w n r nodes part long_apart s.0 u e
  many_for General w n r nodes part s u e = subst (PartFor h layouts (fields.Array General w n r) nodes nodes) (sym e) (record {
    grows = extends_self nodes;
    makes = λ lists b. own_part shown (items_of (replicate n (Value (object_of h w)))) nodes (Anys w (replicate n (object_of h w))) (ap items_of (replicated plain n (object_of h w)));
    follows = λ f. (f, (refl, refl, subst (λ (k : ℕ). k < 2 ^ 32) (sym (length-replicate n (object_of h w))) u, λ q. length-replicate n (object_of h w)));
  })

  pub hash_for : (test : Test) (nodes : List (Node kept.Field)) (part : Part kept.Field) → part ≡ Own (Table []) → PartFor h layouts (fields.Hash test) nodes nodes part
  hash_for test nodes part e = subst (PartFor h layouts (fields.Hash test) nodes nodes) (sym e) (record {
    grows = extends_self nodes;
    makes = λ lists b. own_part shown (Pairs []) nodes (Table []) (record { pairs = []; is = refl; finds = λ k. refl });
    follows = λ f. (f, refl);
  })

  pub child_for : (id : LayoutId) (nodes after : List (Node kept.Field)) (c : ℕ) → NodeFor h layouts id.0 nodes after c → PartFor h layouts (fields.Child id) nodes after (Child c)
  child_for id nodes after c t = record {
    grows = t.grows;
    makes = λ lists b. child_part shown (lists id.0) nodes after c (t.makes lists b);
    follows = t.follows;
  }

  pub children_for : (id : LayoutId) (n : ℕ) (nodes after : List (Node kept.Field)) (cs : List ℕ) → length cs ≡ n → ChildrenFor h layouts id.0 n nodes after cs → PartFor h layouts (fields.Children id n) nodes after (Children cs)
  children_for id n nodes after cs e t = record {
    grows = t.grows;
    makes = λ lists b. children_part shown (lists id.0) n nodes after cs e (t.makes lists b);
    follows = λ f. let a = t.follows f in (a.0, (e, a.1));
  }

  pub node_pushed : (id : ℕ) (layout : Layout) (old : List (Node kept.Field)) (mid after : List Memory) (node : Memory) (c : ℕ) → after ≡ mid ++ node ∷ [] → slice_get layouts id ≡ Some layout
      → PartsFor h layouts layout.fields.items old (view mid) (parts_of node) → length node.slots.items ≡ length layout.fields.items → node.layout.0 ≡ id → length mid ≡ c → NodeFor h layouts id old (view after) c
  node_pushed id layout old mid after node c e g p l i q =
      subst (λ (ns : List (Node kept.Field)). NodeFor h layouts id old ns c) (sym (ap view e ∙ map_push node_of mid node))
      (subst (NodeFor h layouts id old (view mid ++ node_of node ∷ [])) (length-map mid node_of ∙ q)
      (node_for id layout old (view mid) (node_of node) g p (length-map node.slots.items part_of ∙ l) i))

  pub view_push : (old : List (Node kept.Field)) (mid after : List Memory) (node : Memory) → after ≡ mid ++ node ∷ [] → Extends old (view mid) → Extends old (view after)
  view_push old mid after node e g = subst (Extends old) (sym (ap view e ∙ map_push node_of mid node)) (extends_then old (view mid) (view mid ++ node_of node ∷ []) g (extends_push (view mid) (node_of node)))
