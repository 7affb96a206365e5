-- Hash fields.
use Rattle.std.specs.Prelude.{◌≡◌, ℕ, ◌<◌, Bool, true, false, ℤ, pos, List, [], ◌∷◌, length, Option, Some, None, option_map, unwrap_or, refl}
use Rattle.std.specs.Option.{is_some}
use Rattle.std.proofs.Common.{sym, ap, ◌∙◌, subst, arith}
use Rattle.acl_base.specs.declared.SymId.{SymId}
use Rattle.acl_base.specs.declared.Word.{Word}
use Rattle.acl_base.specs.declared.layout.Test.{Test}
use Rattle.model_objects.specs.Object.{Object, Integer}
use Rattle.model_prims.specs.Kinds.{by_number, nil_of, truth_of}
use Rattle.model_prims.specs.Applied.{argument}
use Rattle.model_lists.specs.Lists.{StobjList, Value, Pairs, End, size, item, with_item, pairs_of, value_at, has_key, without_key, key_count, scalar_of}
use Rattle.model_lists.specs.Effects.{Effect, Refuses, Reads, Writes, reads, when, with_key, may_be_key, value_or_nil, is_bound, hash_read, hash_bound, hash_looked_up, hash_put, hash_removed, hash_counted, hash_cleared}
use Rattle.acl_heap.specs.Objects.{Objects, object_of, Lies, Denotes, Extends}
use Rattle.acl_terms.specs.declared.stobj.Shape.{Shape}
use Rattle.acl_terms.specs.declared.stobj.Shape.TheVariants as shape
use Rattle.acl_terms.specs.Definitions.{seen_shape}
use Rattle.acl_lists.specs.declared.cell.ListId.{ListId}
use Rattle.acl_lists.specs.declared.cell.Cell.{Cell}
use Rattle.acl_lists.specs.Tables.{list_at, Grown}
use Rattle.acl_lists.specs.Pairs.{Within, scalar_at, scalar_found}
use Rattle.acl_lists.proofs.TableLemmas.{list_later, grown_then}
use Rattle.acl_list_parts.specs.Parts.{list_given}
use Rattle.acl_list_parts.proofs.ItemLemmas.{given_later}
use Rattle.acl_list_calls.specs.declared.done.Done.{Done}
use Rattle.acl_list_calls.specs.declared.done.Done.TheVariants as done
use Rattle.acl_list_calls.specs.Results.{Does}
use Rattle.acl_list_calls.specs.Plain.{plain_layout, Takes}
use Rattle.acl_list_calls.proofs.ReadLemmas.{refused}

-- ---- what may be a key of a field

module _ (g : Objects) (s : Shape) (key : Word) (b : Bool) where
  pub hash_key : (test : Test) → s ≡ shape.Hash test → b ≡ may_be_key test (object_of g key) → Takes g s key b
  unfolding plain_layout
  hash_key test i m = record { each = λ e. ap (λ t. with_key by_number (plain_layout (seen_shape g t)) (object_of g key) e) i ∙ ap (λ q. when by_number q e) (sym m) }

  pub scalar_key : (spec start : Word) → s ≡ shape.Scalar spec start → b ≡ false → Takes g s key b
  unfolding plain_layout
  scalar_key spec start i m = record { each = λ e. ap (λ t. with_key by_number (plain_layout (seen_shape g t)) (object_of g key) e) i ∙ ap (λ q. when by_number q e) (sym m) }

  pub array_key : (spec start : Word) (n : ℕ) (resizable : Bool) → s ≡ shape.Array spec start n resizable → b ≡ false → Takes g s key b
  unfolding plain_layout
  array_key spec start n resizable i m = record { each = λ e. ap (λ t. with_key by_number (plain_layout (seen_shape g t)) (object_of g key) e) i ∙ ap (λ q. when by_number q e) (sym m) }

  pub child_key : (x : SymId) → s ≡ shape.Child x → b ≡ false → Takes g s key b
  unfolding plain_layout
  child_key x i m = record { each = λ e. ap (λ t. with_key by_number (plain_layout (seen_shape g t)) (object_of g key) e) i ∙ ap (λ q. when by_number q e) (sym m) }

  pub children_key : (x : SymId) (n : ℕ) → s ≡ shape.Children x n → b ≡ false → Takes g s key b
  unfolding plain_layout
  children_key x n i m = record { each = λ e. ap (λ t. with_key by_number (plain_layout (seen_shape g t)) (object_of g key) e) i ∙ ap (λ q. when by_number q e) (sym m) }

-- ---- what is found

pub none_found : (cs : List Cell) (field : Option ListId) (f : ℕ) (key : Object ℕ) (l : StobjList ℕ) → field ≡ None → list_given cs field ≡ item f l → None ≡ value_at by_number key (pairs_of (item f l))
none_found cs field f key l e i = ap (λ k. value_at by_number key (pairs_of k)) (sym (ap (list_given cs) e) ∙ i)

found_value : (cs : List Cell) (found : Option ListId) (key : Object ℕ) (field : StobjList ℕ) → scalar_found cs found ≡ value_at by_number key (pairs_of field) → scalar_of by_number (list_given cs found) ≡ value_or_nil by_number key field
found_value cs None key field e = ap (λ o. unwrap_or o (nil_of by_number)) e
found_value cs (Some n) key field e = ap (λ o. unwrap_or o (nil_of by_number)) e

found_bound : (cs : List Cell) (found : Option ListId) (key : Object ℕ) (field : StobjList ℕ) → scalar_found cs found ≡ value_at by_number key (pairs_of field) → is_some found ≡ has_key by_number key (pairs_of field)
found_bound cs None key field e = ap is_some e
found_bound cs (Some n) key field e = ap is_some e

module _ (h g : Objects) (cs : List Cell) (s : Shape) (f : ℕ) (args : List (Object ℕ)) (l : StobjList ℕ) (b : Bool) (w : Word) where
  key_of_call : object_of g w ≡ argument by_number args 0 → Takes g s w b → (e : Effect ℕ) → when by_number b e ≡ with_key by_number (plain_layout (seen_shape g s)) (argument by_number args 0) e
  key_of_call i t e = sym (t.each e) ∙ ap (λ o. with_key by_number (plain_layout (seen_shape g s)) o e) i

  pub key_refused : object_of g w ≡ argument by_number args 0 → Takes g s w b → b ≡ false → Does h cs (hash_read by_number (plain_layout (seen_shape g s)) f args l) done.Refuses
  unfolding hash_read
  key_refused i t p = let e : Effect ℕ = reads by_number (value_or_nil by_number (argument by_number args 0) (item f l)) in refused h cs _ (ap (λ q. when by_number q e) (sym p) ∙ key_of_call i t e)

  pub key_read : (found : Option ListId) (v : Word) → object_of g w ≡ argument by_number args 0 → Takes g s w b → b ≡ true → scalar_found cs found ≡ value_at by_number (object_of g w) (pairs_of (item f l))
      → Denotes h v (scalar_of by_number (list_given cs found)) → Does h cs (hash_read by_number (plain_layout (seen_shape g s)) f args l) (done.Reads v)
  unfolding hash_read
  key_read found v i t p j d =
      let e : Effect ℕ = reads by_number (value_or_nil by_number (argument by_number args 0) (item f l)) in
      record {
        lies = d.lies;
        is = ap (reads by_number) (d.is ∙ (found_value cs found (object_of g w) (item f l) j ∙ ap (λ o. value_or_nil by_number o (item f l)) i))
            ∙ (ap (λ q. when by_number q e) (sym p) ∙ key_of_call i t e);
      }

  pub bound_refused : object_of g w ≡ argument by_number args 0 → Takes g s w b → b ≡ false → Does h cs (hash_bound by_number (plain_layout (seen_shape g s)) f args l) done.Refuses
  unfolding hash_bound
  bound_refused i t p = let e : Effect ℕ = reads by_number (is_bound by_number (argument by_number args 0) (item f l)) in refused h cs _ (ap (λ q. when by_number q e) (sym p) ∙ key_of_call i t e)

  pub bound_read : (found : Option ListId) (v : Word) → object_of g w ≡ argument by_number args 0 → Takes g s w b → b ≡ true → scalar_found cs found ≡ value_at by_number (object_of g w) (pairs_of (item f l))
      → Lies h v → object_of h v ≡ truth_of by_number (is_some found) → Does h cs (hash_bound by_number (plain_layout (seen_shape g s)) f args l) (done.Reads v)
  unfolding hash_bound
  bound_read found v i t p j y d =
      let e : Effect ℕ = reads by_number (is_bound by_number (argument by_number args 0) (item f l)) in
      record {
        lies = y;
        is = ap (reads by_number) (d ∙ (ap (truth_of by_number) (found_bound cs found (object_of g w) (item f l) j) ∙ ap (λ o. is_bound by_number o (item f l)) i))
            ∙ (ap (λ q. when by_number q e) (sym p) ∙ key_of_call i t e);
      }

  pub both_refused : object_of g w ≡ argument by_number args 0 → Takes g s w b → b ≡ false → Does h cs (hash_looked_up by_number (plain_layout (seen_shape g s)) f args l) done.Refuses
  unfolding hash_looked_up
  both_refused i t p =
      let e : Effect ℕ = Reads (value_or_nil by_number (argument by_number args 0) (item f l) ∷ is_bound by_number (argument by_number args 0) (item f l) ∷ []) in refused h cs _ (ap (λ q. when by_number q e) (sym p) ∙ key_of_call i t e)

  pub both_read : (found : Option ListId) (v u : Word) → object_of g w ≡ argument by_number args 0 → Takes g s w b → b ≡ true → scalar_found cs found ≡ value_at by_number (object_of g w) (pairs_of (item f l))
      → Denotes h v (scalar_of by_number (list_given cs found)) → Lies h u → object_of h u ≡ truth_of by_number (is_some found)
      → Does h cs (hash_looked_up by_number (plain_layout (seen_shape g s)) f args l) (done.ReadsBoth v u)
  unfolding hash_looked_up
  both_read found v u i t p j d y k =
      let e : Effect ℕ = Reads (value_or_nil by_number (argument by_number args 0) (item f l) ∷ is_bound by_number (argument by_number args 0) (item f l) ∷ []) in
      record {
        lies = (d.lies, y);
        is = ap (λ o. Reads (o ∷ object_of h u ∷ [])) (d.is ∙ (found_value cs found (object_of g w) (item f l) j ∙ ap (λ o. value_or_nil by_number o (item f l)) i))
            ∙ (ap (λ o. Reads (value_or_nil by_number (argument by_number args 0) (item f l) ∷ o ∷ [])) (k ∙ (ap (truth_of by_number) (found_bound cs found (object_of g w) (item f l) j) ∙ ap (λ o. is_bound by_number o (item f l)) i))
            ∙ (ap (λ q. when by_number q e) (sym p) ∙ key_of_call i t e));
      }

  pub put_refused : object_of g w ≡ argument by_number args 0 → Takes g s w b → b ≡ false → Does h cs (hash_put by_number (plain_layout (seen_shape g s)) f args l) done.Refuses
  unfolding hash_put
  put_refused i t p =
      let e : Effect ℕ = Writes (with_item f (Pairs ((argument by_number args 0, argument by_number args 1) ∷ pairs_of (item f l))) l) in refused h cs _ (ap (λ q. when by_number q e) (sym p) ∙ key_of_call i t e)

  pub put_written : (made : Option ListId) (v : Word) → object_of g w ≡ argument by_number args 0 → object_of g v ≡ argument by_number args 1 → Takes g s w b → b ≡ true → Within cs made
      → list_given cs made ≡ with_item f (Pairs ((object_of g w, object_of g v) ∷ pairs_of (item f l))) l → Does h cs (hash_put by_number (plain_layout (seen_shape g s)) f args l) (done.Writes made)
  unfolding hash_put
  put_written made v i k t p y d =
      let e : Effect ℕ = Writes (with_item f (Pairs ((argument by_number args 0, argument by_number args 1) ∷ pairs_of (item f l))) l) in
      record {
        lies = y;
        is = ap Writes (d ∙ (ap (λ o. with_item f (Pairs ((o, object_of g v) ∷ pairs_of (item f l))) l) i ∙ ap (λ o. with_item f (Pairs ((argument by_number args 0, o) ∷ pairs_of (item f l))) l) k))
            ∙ (ap (λ q. when by_number q e) (sym p) ∙ key_of_call i t e);
      }

  pub removal_refused : object_of g w ≡ argument by_number args 0 → Takes g s w b → b ≡ false → Does h cs (hash_removed by_number (plain_layout (seen_shape g s)) f args l) done.Refuses
  unfolding hash_removed
  removal_refused i t p = let e : Effect ℕ = Writes (with_item f (Pairs (without_key by_number (argument by_number args 0) (pairs_of (item f l)))) l) in refused h cs _ (ap (λ q. when by_number q e) (sym p) ∙ key_of_call i t e)

  pub removal_written : (made : Option ListId) → object_of g w ≡ argument by_number args 0 → Takes g s w b → b ≡ true → Within cs made
      → list_given cs made ≡ with_item f (Pairs (without_key by_number (object_of g w) (pairs_of (item f l)))) l → Does h cs (hash_removed by_number (plain_layout (seen_shape g s)) f args l) (done.Writes made)
  unfolding hash_removed
  removal_written made i t p y d =
      let e : Effect ℕ = Writes (with_item f (Pairs (without_key by_number (argument by_number args 0) (pairs_of (item f l)))) l) in
      record {
        lies = y;
        is = ap Writes (d ∙ ap (λ o. with_item f (Pairs (without_key by_number o (pairs_of (item f l)))) l) i) ∙ (ap (λ q. when by_number q e) (sym p) ∙ key_of_call i t e);
      }

-- ---- fields that are put

pub field_put : (old new : List Cell) (list made : Option ListId) (field : ListId) (f : ℕ) → list_given new made ≡ with_item f (list_given old (Some field)) (list_given old list)
    → list_given new made ≡ with_item f (list_at old field) (list_given old list)
field_put old new list made field f e = e

pub pair_put : (old first second third fourth new : List Cell) (list field made : Option ListId) (older key value pairs : ListId) (f : ℕ) (k v : Object ℕ) → Grown old first → Grown first second → Grown second third → Grown third fourth
    → Within old list → older.0 < length first → key.0 < length second → list_given old field ≡ item f (list_given old list) → list_at first older ≡ list_given old field → list_at second key ≡ Value k → list_at third value ≡ Value v
    → list_at fourth pairs ≡ Pairs ((scalar_of by_number (list_at third key), scalar_of by_number (list_at third value)) ∷ pairs_of (list_at third older))
    → list_given new made ≡ with_item f (list_at fourth pairs) (list_given fourth list)
    → list_given new made ≡ with_item f (Pairs ((k, v) ∷ pairs_of (item f (list_given old list)))) (list_given old list)
pair_put old first second third fourth new list field made older key value pairs f k v g1 g2 g3 g4 w o y p a b c d e =
    let whole : list_given fourth list ≡ list_given old list = given_later old fourth list (grown_then old first fourth g1 (grown_then first second fourth g2 (grown_then second third fourth g3 g4))) w in
    let left : list_at third older ≡ item f (list_given old list) = list_later first third older (grown_then first second third g2 g3) o ∙ (a ∙ p) in
    let one : list_at third key ≡ Value k = list_later second third key g3 y ∙ b in
    e
    ∙ (ap (λ x. with_item f x (list_given fourth list))
    (d ∙ (ap (λ x. Pairs ((scalar_of by_number x, scalar_of by_number (list_at third value)) ∷ pairs_of (list_at third older))) one
    ∙ (ap (λ x. Pairs ((k, scalar_of by_number x) ∷ pairs_of (list_at third older))) c ∙ ap (λ x. Pairs ((k, v) ∷ pairs_of x)) left)))
    ∙ ap (with_item f (Pairs ((k, v) ∷ pairs_of (item f (list_given old list))))) whole)

pub pairs_left : (old first second new : List Cell) (list field made : Option ListId) (array pairs : ListId) (f : ℕ) (key : Object ℕ) → Grown old first → Grown first second → Within old list
    → list_given old field ≡ item f (list_given old list) → list_at first array ≡ list_given old field → list_at second pairs ≡ Pairs (without_key by_number key (pairs_of (list_at first array)))
    → list_given new made ≡ with_item f (list_at second pairs) (list_given second list)
    → list_given new made ≡ with_item f (Pairs (without_key by_number key (pairs_of (item f (list_given old list))))) (list_given old list)
pairs_left old first second new list field made array pairs f key g1 g2 w p a d e =
    e
    ∙ (ap (λ x. with_item f x (list_given second list)) (d ∙ ap (λ x. Pairs (without_key by_number key (pairs_of x))) (a ∙ p))
    ∙ ap (with_item f (Pairs (without_key by_number key (pairs_of (item f (list_given old list)))))) (given_later old second list (grown_then old first second g1 g2) w))

pub cleared : (h : Objects) (old mid new : List Cell) (list made : Option ListId) (none : ListId) (f : ℕ) → Grown old mid → Within old list → Within new made → list_at mid none ≡ Pairs []
    → list_given new made ≡ with_item f (list_at mid none) (list_given mid list) → Does h new (hash_cleared by_number f (list_given old list)) (done.Writes made)
cleared h old mid new list made none f g w y p e = record {
  lies = y;
  is = ap Writes (e ∙ (ap (λ x. with_item f x (list_given mid list)) p ∙ ap (with_item f (Pairs [])) (given_later old mid list g w)));
}

-- ---- how many keys

pub keys_counted : (h : Objects) (cs : List Cell) (found : Option ListId) (field : ListId) (f n : ℕ) (l : StobjList ℕ) (d : Done) → found ≡ Some field → list_given cs found ≡ item f l → n ≡ key_count by_number (pairs_of (list_at cs field))
    → Does h cs (Reads (Integer (pos n) ∷ [])) d → Does h cs (hash_counted by_number f l) d
keys_counted h cs found field f n l d e i k j = record {
  lies = j.lies;
  is = j.is ∙ ap (λ m. Reads (Integer (pos m) ∷ [])) (k ∙ ap (λ x. key_count by_number (pairs_of x)) (sym (ap (list_given cs) e) ∙ i));
}

pub no_keys : (h : Objects) (cs : List Cell) (found : Option ListId) (f : ℕ) (l : StobjList ℕ) (d : Done) → found ≡ None → list_given cs found ≡ item f l
    → Does h cs (Reads (Integer (pos 0) ∷ [])) d → Does h cs (hash_counted by_number f l) d
no_keys h cs found f l d e i j = record {
  lies = j.lies;
  is = j.is ∙ ap (λ x. Reads (Integer (pos (key_count by_number (pairs_of x))) ∷ [])) (sym (ap (list_given cs) e) ∙ i);
}
