-- Keys that are counted.
use Rattle.std.specs.Prelude.{◌≡◌, ℕ, ◌+◌, ◌≤◌, Bool, true, false, if◌then◌else◌, List, [], ◌∷◌, length, Some, refl}
use Rattle.std.specs.Option.{is_some}
use Rattle.std.proofs.Common.{sym, ap, ◌∙◌, arith}
use Rattle.model_objects.specs.Object.{Object}
use Rattle.model_prims.specs.Kinds.{by_number, same_object}
use Rattle.model_lists.specs.Lists.{has_key, value_at, key_count}
use Rattle.acl_lists.specs.Pairs.{keys_of, is_among, different}

-- ---- one key

pub among_here : (key other : Object ℕ) (all left more : List (Object ℕ)) → is_among key left ≡ is_among key all → left ≡ other ∷ more → same_object by_number key other ≡ true → true ≡ is_among key all
among_here key other all left more h e s = sym (rw (e, s) refl) ∙ h

pub among_further : (key other : Object ℕ) (all left more : List (Object ℕ)) → is_among key left ≡ is_among key all → left ≡ other ∷ more → same_object by_number key other ≡ false → is_among key more ≡ is_among key all
among_further key other all left more h e s = sym (rw (e, s) refl) ∙ h

pub among_none : (key : Object ℕ) (all left : List (Object ℕ)) → is_among key left ≡ is_among key all → left ≡ [] → false ≡ is_among key all
among_none key all left h e = sym (ap (is_among key) e) ∙ h

-- ---- all keys

pub record CountSoFar (all left : List (Object ℕ)) (count : ℕ) : Type 0 where
  pub same : count + different left ≡ different all
  pub few : count + length left ≤ length all

pub count_start : (all : List (Object ℕ)) → CountSoFar all all 0
count_start all = record { same = omega arith; few = omega arith }

one_more : (b : Bool) (n : ℕ) → (if b then n else n + 1) ≡ (if b then 0 else 1) + n
one_more true n = omega arith
one_more false n = omega arith

at_most_one : (b : Bool) → (if b then 0 else 1) ≤ 1
at_most_one true = omega arith
at_most_one false = omega arith

pub count_step : (all left others : List (Object ℕ)) (key : Object ℕ) (count one : ℕ) → CountSoFar all left count → left ≡ key ∷ others → one ≡ (if is_among key others then 0 else 1) → CountSoFar all others (count + one)
count_step all left others key count one s e o =
    let d : different left ≡ (if is_among key others then 0 else 1) + different others = ap different e ∙ one_more (is_among key others) (different others) in
    let l : length left ≡ length others + 1 = ap length e ∙ omega arith in
    record {
      same = omega (arith, s.same, d, o);
      few = omega (arith, s.few, l, o, at_most_one (is_among key others));
    }

pub count_fits : (all left others : List (Object ℕ)) (key : Object ℕ) (count one : ℕ) → CountSoFar all left count → left ≡ key ∷ others → one ≡ (if is_among key others then 0 else 1) → count + one ≤ length all
count_fits all left others key count one s e o = let t = count_step all left others key count one s e o in omega (arith, t.few)

pub count_end : (all left : List (Object ℕ)) (count : ℕ) → CountSoFar all left count → left ≡ [] → count ≡ different all
count_end all left count s e = let d : different left ≡ 0 = ap different e in omega (arith, s.same, d)

-- ---- by the pairs

among_keys : (key : Object ℕ) (ps : List (Object ℕ × Object ℕ)) → is_among key (keys_of ps) ≡ has_key by_number key ps
among_keys key [] = refl
among_keys key (p ∷ ps) = go (same_object by_number key p.0) (among_keys key ps)
  where
    go : (b : Bool) → is_among key (keys_of ps) ≡ has_key by_number key ps → (if b then true else is_among key (keys_of ps)) ≡ is_some (if b then Some p.1 else value_at by_number key ps)
    go true h = refl
    go false h = h

different_keys : (ps : List (Object ℕ × Object ℕ)) → different (keys_of ps) ≡ key_count by_number ps
different_keys [] = refl
different_keys (p ∷ ps) = rw (among_keys p.0 ps, different_keys ps) refl

pub count_whole : (n : ℕ) (keys : List (Object ℕ)) (ps : List (Object ℕ × Object ℕ)) → keys ≡ keys_of ps → n ≡ different keys → n ≡ key_count by_number ps
count_whole n keys ps e d = d ∙ (ap different e ∙ different_keys ps)
