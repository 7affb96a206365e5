-- What the calls of the map of places do.
use Rattle.std.specs.Prelude.{◌≡◌, ℕ, ◌+◌, ◌<◌, ◌≤◌, ◌^◌, [], ◌∷◌, length, Bool, true, false, Option, Some, None, IsSome, refl, if◌then◌else◌}
use Rattle.std.proofs.Common.{ap, sym, ◌∙◌, arith, subst}
use Rattle.std.specs.Option.{option_flatten, option_map, unwrap_or, is_some}
use Rattle.std.specs.Map.{values_of, remove_entry, set_value}
use Rattle.std.specs.HashMap.{HashMap, get, Updates, UpdatesBy, PutsEntry, WritesThrough, IsReordered}
use Rattle.std.specs.List.Sorted.{IsPermutation}
use Rattle.std.proofs.lemmas.Map.Entries.{sum_by_values_permutation, sum_by-remove_entry, sum_by-set_value, sum_by_puts_entry}
use Rattle.std.proofs.lemmas.List.Sums.{sum_by-cons}
use Rattle.model_objects.specs.Object.{Object}
use Rattle.model_prims.proofs.Same.{same_tells}
use Rattle.acl_hash.specs.declared.entry.Entry.{Entry}
use Rattle.acl_hash.specs.Same.{same_key}
use Rattle.acl_hash.specs.Places.{Places, place_at, entry_at, sum_of, one_of, entry_count, Changes, AreSame, tidied, is_hole}

abbrev Place : Type 0
Place = Option Entry

one_small : (o : Place) → one_of o ≤ 1
one_small None = omega arith
one_small (Some e) = omega arith

pub few_entries : (ps : Places) → entry_count ps ≤ length ps
few_entries [] = omega arith
few_entries (p ∷ ps) = omega (arith, few_entries ps, one_small p.1, sum_by-cons one_of p.1 (values_of ps))

pub few : (ps : Places) → length ps < 2 ^ 63 → entry_count ps < 2 ^ 63
few ps l = omega (arith, few_entries ps)

weighs : (f : Place → ℕ) → f None ≡ 0 → (old : Option Place) → f (option_flatten old) ≡ unwrap_or (option_map f old) 0
weighs f z None = z
weighs f z (Some o) = refl

pub changes_put : {S : Type 0} (m n : HashMap (Object ℕ) Place S) (k : Object ℕ) (v : Place) (old : Option Place)
    → old ≡ get same_key m k → Updates same_key m n k (Some v) → PutsEntry same_key m n k v old → Changes m.entries n.entries k (Some v)
changes_put m n k v old e u p = record {
  at = u.0;
  sums = λ f z. ap (λ (w : ℕ). sum_of f n.entries + w) (ap (λ o. f (option_flatten o)) (sym e) ∙ weighs f z old) ∙ sum_by_puts_entry f same_key m n k v old e p;
}

pub changes_remove : {S : Type 0} (m n : HashMap (Object ℕ) Place S) (k : Object ℕ)
    → UpdatesBy same_key (same_key k) m n None → IsPermutation (remove_entry (same_key k) m.entries) n.entries → Changes m.entries n.entries k None
changes_remove m n k u p = record {
  at = u.0;
  sums = λ f z.
      let a : sum_of f n.entries ≡ sum_of f (remove_entry (same_key k) m.entries) = sum_by_values_permutation f (remove_entry (same_key k) m.entries) n.entries p in
      let b : sum_of f (remove_entry (same_key k) m.entries) + unwrap_or (option_map f (place_at m.entries k)) 0 ≡ sum_of f m.entries = sum_by-remove_entry f (same_key k) m.entries in
      let d : f (entry_at m.entries k) ≡ unwrap_or (option_map f (place_at m.entries k)) 0 = weighs f z (place_at m.entries k) in
      omega (arith, a, b, d, z);
}

some_place : (o : Option Place) → IsSome o → (v : Place) × (o ≡ Some v)
some_place None h = cc
some_place (Some v) h = (v, refl)

pub changes_write : {S : Type 0} (m n : HashMap (Object ℕ) Place S) (k : Object ℕ) (w : Place)
    → WritesThrough same_key (same_key k) m w n → IsSome (place_at m.entries k) → Changes m.entries n.entries k (Some w)
changes_write m n k w h s =
    let v = some_place (place_at m.entries k) s in
    record {
      at = (h.3 s).0;
      sums = λ f z.
          let a : sum_of f n.entries ≡ sum_of f (set_value (same_key k) m.entries w) = ap (sum_of f) h.0 in
          let b : sum_of f (set_value (same_key k) m.entries w) + f v.0 ≡ sum_of f m.entries + f w = sum_by-set_value f (same_key k) m.entries v.0 w v.1 in
          let d : f (entry_at m.entries k) ≡ f v.0 = ap (λ (o : Option Place). f (option_flatten o)) v.1 in
          omega (arith, a, b, d);
    }

chosen : (b : Bool) (w v : Option Place) → (b ≡ true → v ≡ w) → v ≡ (if b then w else v)
chosen true w v h = h refl
chosen false w v h = refl

pub changes_nothing : (ps : Places) (k : Object ℕ) (w : Option Place) → place_at ps k ≡ w → Changes ps ps k w
changes_nothing ps k w e = record {
  at = λ q. chosen (same_key k q) w (place_at ps q) (λ t. ap (place_at ps) (sym (same_tells k q t)) ∙ e);
  sums = λ f z. ap (λ (o : Option Place). sum_of f ps + f (option_flatten o)) e;
}

some_again : (o : Option Place) → is_some o ≡ true → o ≡ Some (option_flatten o)
some_again None e = cc
some_again (Some v) e = refl

none_again : (o : Option Place) → is_some o ≡ false → Some (option_flatten o) ≡ Some None
none_again None e = refl
none_again (Some v) e = cc

-- there is a place already
pub place_is_there : (ps : Places) (k : Object ℕ) → is_some (place_at ps k) ≡ true → Changes ps ps k (Some (entry_at ps k))
place_is_there ps k e = changes_nothing ps k (Some (entry_at ps k)) (some_again (place_at ps k) e)

-- an empty place is made
pub place_is_made : {S : Type 0} (m n : HashMap (Object ℕ) Place S) (k : Object ℕ) (old : Option Place) → is_some (place_at m.entries k) ≡ false
    → old ≡ get same_key m k → Updates same_key m n k (Some None) → PutsEntry same_key m n k None old → Changes m.entries n.entries k (Some (entry_at m.entries k))
place_is_made m n k old a e u p =
    subst (λ (w : Option Place). Changes m.entries n.entries k w) (sym (none_again (place_at m.entries k) a)) (changes_put m n k None old e u p)

pub same_reordered : {S : Type 0} (m n : HashMap (Object ℕ) Place S) → IsReordered same_key m n → AreSame m.entries n.entries
same_reordered m n r = record { at = r.2; sums = λ f. sum_by_values_permutation f m.entries n.entries r.0 }

hole_tidied : (o : Option Place) → is_hole o ≡ true → None ≡ tidied o
hole_tidied None h = refl
hole_tidied (Some None) h = refl
hole_tidied (Some (Some e)) h = cc

full_tidied : (o : Option Place) → is_hole o ≡ false → o ≡ tidied o
full_tidied None h = refl
full_tidied (Some None) h = cc
full_tidied (Some (Some e)) h = refl

pub tidies_hole : {S : Type 0} (m n : HashMap (Object ℕ) Place S) (k : Object ℕ) → is_hole (place_at m.entries k) ≡ true
    → UpdatesBy same_key (same_key k) m n None → IsPermutation (remove_entry (same_key k) m.entries) n.entries → Changes m.entries n.entries k (tidied (place_at m.entries k))
tidies_hole m n k h u p = subst (λ (w : Option Place). Changes m.entries n.entries k w) (hole_tidied (place_at m.entries k) h) (changes_remove m n k u p)

pub tidies_nothing : (ps : Places) (k : Object ℕ) → is_hole (place_at ps k) ≡ false → Changes ps ps k (tidied (place_at ps k))
tidies_nothing ps k h = changes_nothing ps k (tidied (place_at ps k)) (full_tidied (place_at ps k) h)

-- how many entries there are after a change
pub changes_count : {old new : Places} {k : Object ℕ} {w : Option Place} → Changes old new k w
    → entry_count new + one_of (entry_at old k) ≡ entry_count old + one_of (option_flatten w)
changes_count c = c.sums one_of refl
