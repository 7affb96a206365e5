-- The core form of a part, step by step.
use Rattle.std.specs.Prelude.{◌≡◌, ℕ, zero, suc, ◌-◌, ◌+◌, ◌<◌, ◌≤◌, drop, get_or, map, List, [], ◌∷◌, ◌++◌, length, refl}
use Rattle.std.proofs.Common.{ap, sym, ◌∙◌, subst, arith, sub-one, add-one, drop-cons}
use Rattle.std.proofs.Math.ListN.{drop_of_length-le}
use Rattle.std.proofs.lemmas.List.{length-map, map-append}
use Rattle.model_terms.specs.Cores as cores
use Rattle.model_expansion.specs.Faults.{ExpandFault, TooNested}
use Rattle.model_expansion.specs.Layers as layers
use Rattle.model_expansion.specs.Expansion.{Setting, Progress, Makes, Fails, Grow, part_found, grown, grown_all, grown_found, core_of_node, then_make}
use Rattle.model_expansion_parts.specs.Parts as parts
use Rattle.model_expansion_parts.specs.Known.{KnowsForm, KnowsPart, KnowsParts}
use Rattle.model_expansion_parts.proofs.KnownLemmas.{form_later, part_later}
use Rattle.acl_heap.specs.Objects.{Objects, Extends}
use Rattle.acl_terms.specs.declared.form.Core.{Core}
use Rattle.acl_terms.specs.Forms.{seen_core, seen_cores, core_reach, most}
use Rattle.acl_terms.specs.Growth.{seen_core-later}
use Rattle.acl_layers.specs.declared.layer.Part.{Part}
use Rattle.acl_layers.specs.Layers.{seen_part, seen_parts, part_reach, parts_reach, PartFits, PartsFit}
use Rattle.acl_layers.specs.Growth.{seen_part-later, part_fits-later}
use Rattle.acl_growing.specs.Ends.{KnowsForms}

-- ---- one part

module _ (x : Setting) where
  pub grown_end : (q : layers.Part) (p : Progress) → grown x 0 q p ≡ Fails TooNested p
  unfolding grown
  grown_end q p = refl

  pub grown_at : (left : ℕ) (q : layers.Part) (p : Progress) → 0 < left → grown x left q p ≡ then_make (part_found x left q p) (grown_found (grown x (left - 1)))
  unfolding grown
  grown_at zero q p l = absurd (omega (arith, l))
  grown_at (suc left) q p l = rw sub-one refl

  pub grown_fails : (left : ℕ) (q : layers.Part) (p r : Progress) (f : ExpandFault) → 0 < left → part_found x left q p ≡ Fails f r → grown x left q p ≡ Fails f r
  grown_fails left q p r f l e = grown_at left q p l ∙ rw e refl

  pub grown_leaf : (left : ℕ) (q : layers.Part) (p r : Progress) (f : cores.Core) → 0 < left → part_found x left q p ≡ Makes (layers.Leaf f) r → grown x left q p ≡ Makes f r
  grown_leaf left q p r f l e = grown_at left q p l ∙ rw e refl

  pub node_fails : (left : ℕ) (q : layers.Part) (p r s : Progress) (k : layers.Kind) (ps : List layers.Part) (f : ExpandFault) → 0 < left → part_found x left q p ≡ Makes (layers.Node k ps) r
      → grown_all (grown x (left - 1)) ps [] r ≡ Fails f s → grown x left q p ≡ Fails f s
  node_fails left q p r s k ps f l e a = grown_at left q p l ∙ rw (e, a) refl

  pub node_grown : (left : ℕ) (q : layers.Part) (p r s : Progress) (k : layers.Kind) (ps : List layers.Part) (fs : List cores.Core) → 0 < left → part_found x left q p ≡ Makes (layers.Node k ps) r
      → grown_all (grown x (left - 1)) ps [] r ≡ Makes fs s → grown x left q p ≡ Makes (core_of_node k fs) s
  node_grown left q p r s k ps fs l e a = grown_at left q p l ∙ rw (e, a) refl

-- ---- parts in order

pub reach_at : (ps : List Part) (i : ℕ) (d : Part) → i < length ps → part_reach (get_or ps i d) ≤ parts_reach ps
reach_at [] i d l = absurd (omega (arith, l))
reach_at (p ∷ ps) zero d l = omega arith
reach_at (p ∷ ps) (suc i) d l = let k : i < length ps = omega (arith, l) in let r : part_reach (get_or ps i d) ≤ parts_reach ps = reach_at ps i d k in omega (arith, r)

pub fits_at : (h : Objects) (ps : List Part) (i : ℕ) (d : Part) → i < length ps → PartsFit h ps → PartFits h (get_or ps i d)
fits_at h [] i d l f = absurd (omega (arith, l))
fits_at h (p ∷ ps) zero d l f = f.0
fits_at h (p ∷ ps) (suc i) d l f = fits_at h ps i d (omega (arith, l)) f.1

module _ (gr : Grow) where
  all_at : (h : Objects) (ps : List Part) (i : ℕ) (d : Part) (done : List cores.Core) (p : Progress) → i < length ps
      → grown_all gr (seen_parts h (drop i ps)) done p ≡ then_make (gr (seen_part h (get_or ps i d)) p) (λ f after. grown_all gr (seen_parts h (drop (i + 1) ps)) (done ++ f ∷ []) after)
  unfolding grown_all
  all_at h ps i d done p l = rw (add-one i, drop-cons ps i d l) refl

  pub all_past : (h : Objects) (ps : List Part) (i : ℕ) (done : List cores.Core) (p : Progress) → length ps ≤ i → grown_all gr (seen_parts h (drop i ps)) done p ≡ Makes done p
  unfolding grown_all
  all_past h ps i done p l = rw (drop_of_length-le ps l) refl

  module _ {a b : Objects} (e : Extends a b) (ps : List Part) (i : ℕ) (d g : Part) (done : List cores.Core) (p q : Progress) (l : i < length ps) (s : g ≡ get_or ps i d) (lies : parts_reach ps ≤ length a) where
    same : seen_part b g ≡ seen_part a (get_or ps i d)
    same = let r : part_reach (get_or ps i d) ≤ length a = omega (arith, reach_at ps i d l, lies) in rw s (seen_part-later e (get_or ps i d) r)

    pub all_fails : (f : ExpandFault) → gr (seen_part b g) p ≡ Fails f q → grown_all gr (seen_parts a (drop i ps)) done p ≡ Fails f q
    all_fails f k = all_at a ps i d done p l ∙ rw (sym same, k) refl

    pub all_goes : (f : cores.Core) → gr (seen_part b g) p ≡ Makes f q → grown_all gr (seen_parts a (drop i ps)) done p ≡ grown_all gr (seen_parts a (drop (i + 1) ps)) (done ++ f ∷ []) q
    all_goes f k = all_at a ps i d done p l ∙ rw (sym same, k) refl

-- a part at a heap that has grown
module _ {a b : Objects} (e : Extends a b) (ps : List Part) (i : ℕ) (d : Part) (l : i < length ps) (lies : parts_reach ps ≤ length a) where
  pub lies_there : part_reach (get_or ps i d) ≤ length b
  lies_there = let r : part_reach (get_or ps i d) ≤ parts_reach ps = reach_at ps i d l in omega (arith, r, lies, e.longer)

  pub fits_there : PartsFit a ps → PartFits b (get_or ps i d)
  fits_there f = let r : part_reach (get_or ps i d) ≤ length a = omega (arith, reach_at ps i d l, lies) in part_fits-later e (get_or ps i d) r (fits_at a ps i d l f)

known_at : (n : ℕ) (h : Objects) (ps : List Part) (i : ℕ) (d : Part) → i < length ps → KnowsParts n (seen_parts h ps) → KnowsPart n (seen_part h (get_or ps i d))
known_at n h [] i d l k = absurd (omega (arith, l))
known_at n h (p ∷ ps) zero d l k = k.0
known_at n h (p ∷ ps) (suc i) d l k = known_at n h ps i d (omega (arith, l)) k.1

-- where more symbols are known
module _ (m n : ℕ) (le : m ≤ n) where
  pub known_there : {a b : Objects} → Extends a b → (ps : List Part) (i : ℕ) (d : Part) → i < length ps → parts_reach ps ≤ length a → KnowsParts m (seen_parts a ps) → KnowsPart n (seen_part b (get_or ps i d))
  known_there {a} {b} e ps i d l lies k =
      let r : part_reach (get_or ps i d) ≤ length a = omega (arith, reach_at ps i d l, lies) in
      subst (λ (q : layers.Part). KnowsPart n q) (sym (seen_part-later e (get_or ps i d) r)) (part_later m n le (seen_part a (get_or ps i d)) (known_at m a ps i d l k))

  pub known_pushed : (fs : List cores.Core) (f : cores.Core) → KnowsForms m fs → KnowsForm n f → KnowsForms n (fs ++ f ∷ [])
  known_pushed [] f k j = (j, tt)
  known_pushed (g ∷ fs) f k j = (form_later m n le g k.0, known_pushed fs f k.1 j)

-- ---- core forms as the heap grows

pub cores_later : {a b : Objects} → Extends a b → (fs : List Core) → most (map core_reach fs) ≤ length a → seen_cores b fs ≡ seen_cores a fs
cores_later e [] l = refl
cores_later e (f ∷ fs) l = rw (seen_core-later e f (omega (arith, l)), cores_later e fs (omega (arith, l))) refl

pub cores_pushed : {a b : Objects} → Extends a b → (fs : List Core) (f : Core) → most (map core_reach fs) ≤ length a → seen_cores b (fs ++ f ∷ []) ≡ seen_cores a fs ++ seen_core b f ∷ []
cores_pushed {a} {b} e fs f l = map-append (seen_core b) fs (f ∷ []) ∙ ap (λ xs. xs ++ seen_core b f ∷ []) (cores_later e fs l)

pub reach_pushed : (fs : List Core) (f : Core) (n : ℕ) → most (map core_reach fs) ≤ n → core_reach f ≤ n → most (map core_reach (fs ++ f ∷ [])) ≤ n
reach_pushed [] f n l k = omega (arith, k)
reach_pushed (g ∷ fs) f n l k = let r : most (map core_reach (fs ++ f ∷ [])) ≤ n = reach_pushed fs f n (omega (arith, l)) k in omega (arith, l, r)

pub node_count : (h : Objects) (k : layers.Kind) (fs : List Core) → parts.HasParts k (length (seen_cores h fs)) → parts.HasParts k (length fs)
node_count h k fs l = subst (λ (n : ℕ). parts.HasParts k n) (length-map fs (seen_core h)) l
