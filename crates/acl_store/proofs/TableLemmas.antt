-- Hash fields with other cells.
use Rattle.std.proofs.Common.{◌≡◌, ℕ, ◌<◌, ◌≤◌, List, [], ◌∷◌, reverse, Option, Some, None, refl, sym, ap, ◌∙◌, subst, Bool, true, false}
use Rattle.std.specs.Prelude.{IsSome, IsSomeAnd, IfSome, if◌then◌else◌}
use Rattle.std.specs.Option.{option_map}
use Rattle.acl_base.specs.declared.layout.Field.{Field as LayoutField}
use Rattle.acl_base.specs.declared.layout.Field.TheVariants as fields
use Rattle.acl_base.specs.declared.Word.{Word}
use Rattle.acl_heap.specs.Objects.{Objects}
use Rattle.model_objects.specs.Object.{Object}
use Rattle.model_prims.specs.Kinds.{by_number}
use Rattle.model_lists.specs.Lists.{StobjList, Pairs, pairs_of, value_at, without_key, key_count}
use Rattle.model_eval.specs.PlacesKeeping.{list_at}
use Rattle.model_symbols.specs.Symbols.{QualifiedName}
use Rattle.acl_hash.specs.Same.{same_key, same_equiv}
use Rattle.acl_hash.specs.Sorting.{KnowsPairs}
use Rattle.acl_maps.specs.Listing.{IsListing}
use Rattle.acl_maps.specs.Cells.{Cells, full, hole, with_cell, opened_in, found_in, pairs_in, count_in, Finds}
use Rattle.acl_maps.proofs.CellLemmas.{found_without, value_with}
use Rattle.acl_maps.proofs.CountLemmas.{pairs_found, one_count}
use Rattle.acl_nodes.specs.Kept.{Kept, field_at, with_field}
use Rattle.acl_nodes.specs.Nodes.{Part, Own, Child, Children, part_at, with_part, IsOwn}
use Rattle.acl_nodes.proofs.NodeLemmas.{with_changed}
use Rattle.acl_nodes.proofs.FieldLemmas.{written}
use Rattle.acl_fields.specs.Fields.{Field, One, Many, Any, Anys, Table, IsTable, table_in, shown}
use Rattle.acl_fields.specs.Layouts.{Matches, Follow}
use Rattle.acl_store.specs.Calls.{Nodes, Holds, StayTyped}
use Rattle.acl_store.specs.Journals.{Remembers, StayWritable}
use Rattle.acl_fields.specs.Changes.{changed, tabled_in, tabled, FindsIn, Counts, IsKnownTable, Lists, GivesBack}
use Rattle.acl_store.specs.Tables.{pairs_changed, CountsAt, IsKnownHash, ListsAt, IsHash, pairs_at, FindsAt, IsTabled, WritesPairs, IsTableNoted, PairsRemember}
use Rattle.acl_fields.specs.declared.change.Change.{Change}
use Rattle.acl_fields.specs.declared.change.Change.TheVariants.{Put, Empty, Clear}
use Rattle.acl_store.specs.declared.notes.Old.{Old}
use Rattle.acl_store.proofs.StoreLemmas.{out_of, by_some, follow_changed}
use Rattle.acl_store.proofs.JournalLemmas.{newest_is}
use Rattle.acl_store.proofs.KeepLemmas.{own_shown, field_local, field_noted, stay_pushed}

none_some : {X : Type 0} {x : X} → None ≡ Some x → ⊥
none_some e = cc

some_same : {X : Type 0} {x y : X} → Some x ≡ Some y → x ≡ y
some_same e = cc

pub table_is : (p : Part Field) (cs : Cells) → table_in p ≡ Some cs → p ≡ Own (Table cs)
table_is (Own (One w)) cs e = absurd (none_some e)
table_is (Own (Many kind x vs)) cs e = absurd (none_some e)
table_is (Own (Any o)) cs e = absurd (none_some e)
table_is (Own (Anys x os)) cs e = absurd (none_some e)
table_is (Own (Table ds)) cs e = ap (λ (x : Cells). Own (Table x)) (some_same e)
table_is (Child c) cs e = absurd (none_some e)
table_is (Children ds) cs e = absurd (none_some e)

-- ---- pairs follow cells

-- where pairs find what cells find, they do so after a change of both
pub record FollowCells (u g : Cells → Cells) : Type 0 where
  pub finds : (cs ps : Cells) → ((k : Object ℕ) → value_at by_number k ps ≡ found_in k cs) → (k : Object ℕ) → value_at by_number k (g ps) ≡ found_in k (u cs)

put_follows : (k v : Object ℕ) → FollowCells (with_cell k (Some (full v))) (λ ps. (k, v) ∷ ps)
put_follows k v = record { finds = λ cs ps h q. go cs ps h q (same_key q k) (same_key k q) (same_equiv.symm q k) ∙ ap opened_in (sym (value_with q k (Some (full v)) cs)) }
  where
    go : (cs ps : Cells) → ((k : Object ℕ) → value_at by_number k ps ≡ found_in k cs) → (q : Object ℕ) (a b : Bool) → a ≡ b → (if a then Some v else value_at by_number q ps) ≡ opened_in (if b then Some (full v) else value_at by_number q cs)
    go cs ps h q true true e = refl
    go cs ps h q true false e = absurd (apart e)
      where
        apart : true ≡ false → ⊥
        apart e = cc
    go cs ps h q false true e = absurd (apart e)
      where
        apart : false ≡ true → ⊥
        apart e = cc
    go cs ps h q false false e = h q

-- the key has nothing that is found
gone_follows : (k : Object ℕ) (w : Cells → Option (Object ℕ)) → ((cs : Cells) → opened_in (w cs) ≡ None) → FollowCells (λ cs. with_cell k (w cs) cs) (without_key by_number k)
gone_follows k w n = record { finds = λ cs ps h q. found_without q k ps ∙ (go cs ps h q (same_key k q) ∙ ap opened_in (sym (value_with q k (w cs) cs))) }
  where
    go : (cs ps : Cells) → ((k : Object ℕ) → value_at by_number k ps ≡ found_in k cs) → (q : Object ℕ) (b : Bool) → (if b then None else value_at by_number q ps) ≡ opened_in (if b then w cs else value_at by_number q cs)
    go cs ps h q true = sym (n cs)
    go cs ps h q false = h q

pub remove_follows : (k : Object ℕ) → FollowCells (with_cell k None) (without_key by_number k)
remove_follows k = gone_follows k (λ cs. None) (λ cs. refl)

pub clear_follows : FollowCells (λ cs. []) (λ ps. [])
clear_follows = record { finds = λ cs ps h q. refl }

pub change_follows : (c : Change) → FollowCells (changed c) (pairs_changed c)
change_follows (Put k e) = put_follows k e.value
change_follows (Empty k) = gone_follows k (λ cs. option_map (λ c. hole) (value_at by_number k cs)) (λ cs. holes (value_at by_number k cs))
  where
    holes : (o : Option (Object ℕ)) → opened_in (option_map (λ c. hole) o) ≡ None
    holes None = refl
    holes (Some c) = refl
change_follows Clear = clear_follows

-- ---- one field

-- the list of a hash field
pub table_shows : (ns : Nodes) (kept : Kept) (h : Holds ns kept) (n f : ℕ) (p : Part Field) (cs : Cells) → part_at ns n f ≡ Some p → table_in p ≡ Some cs → IsTable cs (list_at kept.roots (field_at kept.places n f))
table_shows ns kept h n f p cs at i = h.shows n f (Own (Table cs)) (at ∙ ap Some (table_is p cs i))

pub finds_pairs : (cs : Cells) (l : StobjList ℕ) → IsTable cs l → (k : Object ℕ) → value_at by_number k (pairs_of l) ≡ found_in k cs
finds_pairs cs l t k = ap (λ (m : StobjList ℕ). value_at by_number k (pairs_of m)) t.is ∙ t.finds k

-- by the cells of the field
by_cells : (R : Part Field → Type 0) (p : Part Field) (u : Cells → Cells) → IsSome (table_in p) → ((cs : Cells) → table_in p ≡ Some cs → R (Own (Table (u cs)))) → R (tabled u p)
by_cells R p u i g = go (table_in p) refl i
  where
    absent : IsSome {T = Cells} None → ⊥
    absent h = cc

    go : (t : Option Cells) → table_in p ≡ t → IsSome t → R (tabled_in t u p)
    go None e i = absurd (absent i)
    go (Some cs) e i = g cs e

field_holds : (u g : Cells → Cells) → FollowCells u g → (ns : Nodes) (kept : Kept) (h : Holds ns kept) (n f : ℕ) (p : Part Field) → part_at ns n f ≡ Some p → IsSome (table_in p)
    → Holds (with_part n f (tabled u p) ns) (with_field n f (Pairs (g (pairs_at kept n f))) kept)
field_holds u g fo ns kept h n f p at i = by_cells (λ q. Holds (with_part n f q ns) (with_field n f (Pairs (g (pairs_at kept n f))) kept)) p u i (λ cs e.
    written shown ns (with_part n f (Own (Table (u cs))) ns) kept h n f (Own (Table cs)) (Table (u cs)) (Pairs (g (pairs_at kept n f))) (at ∙ ap Some (table_is p cs e)) tt
    (record { pairs = g (pairs_at kept n f); is = refl; finds = fo.finds cs (pairs_at kept n f) (finds_pairs cs (list_at kept.roots (field_at kept.places n f)) (table_shows ns kept h n f p cs at e)) })
    (with_changed ns n f p (Own (Table (u cs))) at))

table_matches : (ns : Nodes) (k : ℕ) (field : LayoutField) (cs ds : Cells) → Matches ns k field (Own (Table cs)) → Matches ns k field (Own (Table ds))
table_matches ns k (fields.Scalar kind w) cs ds m = m
table_matches ns k (fields.Array kind w n r) cs ds m = m
table_matches ns k (fields.Hash test) cs ds m = refl
table_matches ns k (fields.Child id) cs ds m = m
table_matches ns k (fields.Children id n) cs ds m = m

-- ---- calls

pub writes_pairs : (u g : Cells → Cells) (ns after : Nodes) (n f : ℕ) → FollowCells u g → IsHash ns n f → IsTabled ns n f u after → WritesPairs ns n f g after
unfolding WritesPairs
writes_pairs u g ns after n f fo p q kept h = out_of (part_at ns n f) (λ s. IsSome (table_in s)) (Holds after (with_field n f (Pairs (g (pairs_at kept n f))) kept)) p
    (by_some (part_at ns n f) (λ s. IsSome (table_in s)) (λ s. after ≡ with_part n f (tabled u s) ns) (λ s. Holds after (with_field n f (Pairs (g (pairs_at kept n f))) kept))
    (λ s at a b. subst (λ (ms : Nodes). Holds ms (with_field n f (Pairs (g (pairs_at kept n f))) kept)) (sym b) (field_holds u g fo ns kept h n f s at a)) p q)

pub pairs_typed : (u : Cells → Cells) (ns after : Nodes) (n f : ℕ) → IsHash ns n f → IsTabled ns n f u after → StayTyped ns after
unfolding StayTyped
pairs_typed u ns after n f p q layouts h = out_of (part_at ns n f) (λ s. IsSome (table_in s)) (Follow layouts after) p
    (by_some (part_at ns n f) (λ s. IsSome (table_in s)) (λ s. after ≡ with_part n f (tabled u s) ns) (λ s. Follow layouts after)
    (λ s at a b. subst (Follow layouts) (sym b) (follows s at a)) p q)
  where
    follows : (s : Part Field) → part_at ns n f ≡ Some s → IsSome (table_in s) → Follow layouts (with_part n f (tabled u s) ns)
    follows s at a = by_cells (λ r. Follow layouts (with_part n f r ns)) s u a (λ cs e.
        follow_changed layouts ns (with_part n f (Own (Table (u cs))) ns) n f s (Own (Table (u cs))) at (with_changed ns n f s (Own (Table (u cs))) at)
        (λ field g m. table_matches ns n field cs (u cs) (subst (Matches ns n field) (table_is s cs e) m)) h)

pub pairs_local : (u g : Cells → Cells) (ns after : Nodes) (olds : List Old) (first n f : ℕ) → FollowCells u g → first ≤ n → IsHash ns n f → IsTabled ns n f u after → PairsRemember ns olds first n f g after olds
unfolding PairsRemember
pairs_local u g ns after olds first n f fo w p q kept before r = out_of (part_at ns n f) (λ s. IsSome (table_in s)) (Remembers after olds first (with_field n f (Pairs (g (pairs_at kept n f))) kept) before) p
    (by_some (part_at ns n f) (λ s. IsSome (table_in s)) (λ s. after ≡ with_part n f (tabled u s) ns) (λ s. Remembers after olds first (with_field n f (Pairs (g (pairs_at kept n f))) kept) before)
    (λ s at a b. subst (λ (ms : Nodes). Remembers ms olds first (with_field n f (Pairs (g (pairs_at kept n f))) kept) before) (sym b)
    (field_local ns olds first n f s (tabled u s) (Pairs (g (pairs_at kept n f))) at w kept before r (field_holds u g fo ns kept r.holds n f s at a))) p q)

pairs_old : (u g : Cells → Cells) (ns after : Nodes) (olds : List Old) (first : ℕ) (o : Old) → FollowCells u g → o.node < first → IsHash ns o.node o.field
    → IfSome (part_at ns o.node o.field) (λ s. GivesBack o.part (tabled u s) s) → IsTabled ns o.node o.field u after → PairsRemember ns olds first o.node o.field g after (o ∷ olds)
unfolding PairsRemember
pairs_old u g ns after olds first o fo w p b q kept before r = by (part_at ns o.node o.field) refl p b q
  where
    own : (s : Part Field) (cs : Cells) → table_in s ≡ Some cs → IsOwn s
    own s cs e = subst IsOwn (sym (table_is s cs e)) tt

    owns : (s : Part Field) (t : Option Cells) → table_in s ≡ t → IsSome t → IsOwn s
    owns s None e i = absurd (absent i)
      where
        absent : IsSome {T = Cells} None → ⊥
        absent h = cc
    owns s (Some cs) e i = own s cs e

    by : (t : Option (Part Field)) → part_at ns o.node o.field ≡ t → IsSomeAnd t (λ s. IsSome (table_in s)) → IfSome t (λ s. GivesBack o.part (tabled u s) s) → IfSome t (λ s. after ≡ with_part o.node o.field (tabled u s) ns)
        → Remembers after (o ∷ olds) first (with_field o.node o.field (Pairs (g (pairs_at kept o.node o.field))) kept) before
    by None at p b q = absurd p
    by (Some s) at p b q = subst (λ (ms : Nodes). Remembers ms (o ∷ olds) first (with_field o.node o.field (Pairs (g (pairs_at kept o.node o.field))) kept) before) (sym q)
        (field_noted ns olds first o s (tabled u s) (Pairs (g (pairs_at kept o.node o.field))) at w kept before r
        (record {
          suits = b.suits;
          back_is = b.is;
          path = b.path o.field;
          restored = b.restored (list_at kept.roots (field_at kept.places o.node o.field)) (own_shown kept o.node (field_at kept.places o.node o.field) s (owns s (table_in s) refl p) (r.holds.shows o.node o.field s at));
        })
        (field_holds u g fo ns kept r.holds o.node o.field s at p))

pub pairs_noted : (u g : Cells → Cells) (ns after : Nodes) (olds news : List Old) (first n f : ℕ) → FollowCells u g → n < first → IsHash ns n f → IsTableNoted ns n f u olds news → IsTabled ns n f u after
    → PairsRemember ns (reverse olds) first n f g after (reverse news)
pairs_noted u g ns after olds news first n f fo h p i q =
    subst (λ (os : List Old). PairsRemember ns (reverse olds) first n f g after os) (sym (newest_is news olds i.note i.last))
    (subst (λ (k : ℕ). PairsRemember ns (reverse olds) first k f g after (i.note ∷ reverse olds)) i.is_node
    (subst (λ (x : ℕ). PairsRemember ns (reverse olds) first i.note.node x g after (i.note ∷ reverse olds)) i.is_field
    (pairs_old u g ns after (reverse olds) first i.note fo (subst (λ (k : ℕ). k < first) (sym i.is_node) h)
    (at (λ k x. IsHash ns k x) p) (at (λ k x. IfSome (part_at ns k x) (λ s. GivesBack i.note.part (tabled u s) s)) i.is) (at (λ k x. IsTabled ns k x u after) q))))
  where
    at : (P : ℕ → ℕ → Type 0) → P n f → P i.note.node i.note.field
    at P x = subst (λ (k : ℕ). P k i.note.field) (sym i.is_node) (subst (P n) (sym i.is_field) x)

pub stay_tabled : (u : Cells → Cells) (ns : Nodes) (n f : ℕ) (olds news : List Old) (first : ℕ) → IsTableNoted ns n f u olds news → StayWritable (reverse olds) first (reverse news)
stay_tabled u ns n f olds news first i = stay_pushed olds news first i.note i.last

-- what is found in the field is found in its list
pub finds_at : (ns : Nodes) (n f : ℕ) (k : Object ℕ) (hs : Objects) (r : Option Word) → IsHash ns n f → IfSome (part_at ns n f) (λ p. FindsIn p k hs r) → FindsAt ns n f k hs r
finds_at ns n f k hs r p q kept h = out_of (part_at ns n f) (λ s. IsSome (table_in s)) (Finds hs (value_at by_number k (pairs_at kept n f)) r) p
    (by_some (part_at ns n f) (λ s. IsSome (table_in s)) (λ s. FindsIn s k hs r) (λ s. Finds hs (value_at by_number k (pairs_at kept n f)) r)
    (λ s at a b. go s at (table_in s) refl a b) p q)
  where
    absent : IsSome {T = Cells} None → ⊥
    absent h = cc

    go : (s : Part Field) → part_at ns n f ≡ Some s → (t : Option Cells) → table_in s ≡ t → IsSome t → IfSome t (λ cs. Finds hs (found_in k cs) r) → Finds hs (value_at by_number k (pairs_at kept n f)) r
    go s at None e i b = absurd (absent i)
    go s at (Some cs) e i b = subst (λ (o : Option (Object ℕ)). Finds hs o r) (sym (finds_pairs cs (list_at kept.roots (field_at kept.places n f)) (table_shows ns kept h n f s cs at e) k)) b

-- ---- changes, and what may not be undone

pub writes_change : (c : Change) (ns after : Nodes) (n f : ℕ) → IsHash ns n f → IsTabled ns n f (changed c) after → WritesPairs ns n f (pairs_changed c) after
writes_change c ns after n f p q = writes_pairs (changed c) (pairs_changed c) ns after n f (change_follows c) p q

pub local_change : (c : Change) (ns after : Nodes) (olds : List Old) (first n f : ℕ) → first ≤ n → IsHash ns n f → IsTabled ns n f (changed c) after → PairsRemember ns olds first n f (pairs_changed c) after olds
local_change c ns after olds first n f w p q = pairs_local (changed c) (pairs_changed c) ns after olds first n f (change_follows c) w p q

pub noted_change : (c : Change) (ns after : Nodes) (olds news : List Old) (first n f : ℕ) → n < first → IsHash ns n f → IsTableNoted ns n f (changed c) olds news → IsTabled ns n f (changed c) after
    → PairsRemember ns (reverse olds) first n f (pairs_changed c) after (reverse news)
noted_change c ns after olds news first n f w p i q = pairs_noted (changed c) (pairs_changed c) ns after olds news first n f (change_follows c) w p i q

pub writes_removed : (k : Object ℕ) (ns after : Nodes) (n f : ℕ) → IsHash ns n f → IsTabled ns n f (with_cell k None) after → WritesPairs ns n f (without_key by_number k) after
writes_removed k ns after n f p q = writes_pairs (with_cell k None) (without_key by_number k) ns after n f (remove_follows k) p q

pub local_removed : (k : Object ℕ) (ns after : Nodes) (olds : List Old) (first n f : ℕ) → first ≤ n → IsHash ns n f → IsTabled ns n f (with_cell k None) after → PairsRemember ns olds first n f (without_key by_number k) after olds
local_removed k ns after olds first n f w p q = pairs_local (with_cell k None) (without_key by_number k) ns after olds first n f (remove_follows k) w p q

pub writes_cleared : (ns after : Nodes) (n f : ℕ) → IsHash ns n f → IsTabled ns n f (λ cs. []) after → WritesPairs ns n f (λ ps. []) after
writes_cleared ns after n f p q = writes_pairs (λ cs. []) (λ ps. []) ns after n f clear_follows p q

pub local_cleared : (ns after : Nodes) (olds : List Old) (first n f : ℕ) → first ≤ n → IsHash ns n f → IsTabled ns n f (λ cs. []) after → PairsRemember ns olds first n f (λ ps. []) after olds
local_cleared ns after olds first n f w p q = pairs_local (λ cs. []) (λ ps. []) ns after olds first n f clear_follows w p q

count_is : (cs : Cells) → key_count by_number (pairs_in cs) ≡ count_in cs
unfolding count_in
count_is cs = refl

pub counts_at : (ns : Nodes) (n f m : ℕ) → IsHash ns n f → IfSome (part_at ns n f) (λ p. Counts p m) → CountsAt ns n f m
counts_at ns n f m p q kept h = out_of (part_at ns n f) (λ s. IsSome (table_in s)) (key_count by_number (pairs_at kept n f) ≡ m) p
    (by_some (part_at ns n f) (λ s. IsSome (table_in s)) (λ s. Counts s m) (λ s. key_count by_number (pairs_at kept n f) ≡ m)
    (λ s at a b. go s at (table_in s) refl a b) p q)
  where
    absent : IsSome {T = Cells} None → ⊥
    absent h = cc

    go : (s : Part Field) → part_at ns n f ≡ Some s → (t : Option Cells) → table_in s ≡ t → IsSome t → IfSome t (λ cs. m ≡ count_in cs) → key_count by_number (pairs_at kept n f) ≡ m
    go s at None e i b = absurd (absent i)
    go s at (Some cs) e i b =
        one_count (pairs_at kept n f) (pairs_in cs) (λ k. finds_pairs cs (list_at kept.roots (field_at kept.places n f)) (table_shows ns kept h n f s cs at e) k ∙ sym (pairs_found k cs))
        ∙ (count_is cs ∙ sym b)

pub lists_at : (symbols : List QualifiedName) (ns : Nodes) (n f : ℕ) (hs : Objects) (ws : List (Word × Word)) → IsKnownHash symbols ns n f → IfSome (part_at ns n f) (λ p. Lists symbols p hs ws) → ListsAt symbols ns n f hs ws
lists_at symbols ns n f hs ws p q = by (part_at ns n f) refl p q
  where
    go : (s : Part Field) → part_at ns n f ≡ Some s → (t : Option Cells) → table_in s ≡ t → IsSomeAnd t (λ cs. KnowsPairs symbols (pairs_in cs)) → IfSome t (λ cs. IsListing symbols cs hs ws) → ListsAt symbols ns n f hs ws
    go s at None e i b = absurd i
    go s at (Some cs) e i b = record {
      lie = b.lie;
      pairs = λ kept h m. b.normal (pairs_at kept n f) (finds_pairs cs (list_at kept.roots (field_at kept.places n f)) (table_shows ns kept h n f s cs at e)) m;
    }

    by : (r : Option (Part Field)) → part_at ns n f ≡ r → IsSomeAnd r (λ s. IsKnownTable symbols s) → IfSome r (λ s. Lists symbols s hs ws) → ListsAt symbols ns n f hs ws
    by None at p q = absurd p
    by (Some s) at p q = go s at (table_in s) refl p q
