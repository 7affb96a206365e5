-- All that a guard asks, one thing after another.
use Rattle.std.specs.Prelude.{◌≡◌, ℕ, zero, suc, ◌-◌, ◌<◌, ◌≤◌, List, [], ◌∷◌, length, None, refl}
use Rattle.std.proofs.Common.{ap, sym, ◌∙◌, arith, subst}
use Rattle.model_terms.specs.Cores as cores
use Rattle.model_expansion.specs.TypeTerms.{true_core, false_core}
use Rattle.model_expansion.specs.Faults.{ExpandFault}
use Rattle.model_expansion.specs.Layers as layers
use Rattle.model_expansion.specs.Layers.{false_part}
use Rattle.model_expansion.specs.Expansion.{Setting, Progress, Makes, Fails, Grow, item_part, grown, grown_all, ready_fault}
use Rattle.model_expansion_forms.specs.Rows.{IsKnownItem, AreKnownItems}
use Rattle.model_expansion_parts.proofs.KnownLemmas.{part_later}
use Rattle.acl_heap.specs.Objects.{Objects, Extends}
use Rattle.acl_terms.specs.declared.fault.ExpandFault.TheVariants as fault
use Rattle.acl_terms.specs.Growth.{seen_core-later}
use Rattle.acl_terms.specs.Signatures.{seen_name}
use Rattle.acl_declare.specs.declared.said.GuardItem.{GuardItem}
use Rattle.acl_declare.specs.declared.said.GuardItem.TheVariants as item
use Rattle.acl_declare.specs.Said.{seen_item, seen_items, item_reach, items_reach}
use Rattle.acl_expand.specs.declared.progress.Refused.{Refused}
use Rattle.acl_expand.specs.Looks.{seen_fault}
use Rattle.acl_growing.proofs.GrowLemmas.{grown_end, grown_at, grown_leaf, node_fails, node_grown}
use Rattle.acl_guards.proofs.ItemLemmas.{ready_stands}

-- ---- as it is defined

module _ (gr : Grow) where
  first_fails : (a : layers.Part) (ps : List layers.Part) (p q : Progress) (f : ExpandFault) → gr a p ≡ Fails f q → grown_all gr (a ∷ ps) [] p ≡ Fails f q
  unfolding grown_all
  first_fails a ps p q f i = rw i refl

  second_fails : (a b : layers.Part) (ps : List layers.Part) (p q r : Progress) (c : cores.Core) (f : ExpandFault) → gr a p ≡ Makes c q → gr b q ≡ Fails f r → grown_all gr (a ∷ (b ∷ ps)) [] p ≡ Fails f r
  unfolding grown_all
  second_fails a b ps p q r c f i j = rw (i, j) refl

  all_three : (a b c : layers.Part) (p q r s : Progress) (f g e : cores.Core) → gr a p ≡ Makes f q → gr b q ≡ Makes g r → gr c r ≡ Makes e s → grown_all gr (a ∷ (b ∷ (c ∷ []))) [] p ≡ Makes (f ∷ (g ∷ (e ∷ []))) s
  unfolding grown_all
  all_three a b c p q r s f g e i j k = rw (i, j, k) refl

module _ (x : Setting) where
  positive : (left : ℕ) (q : layers.Part) (p r : Progress) (f : cores.Core) → grown x left q p ≡ Makes f r → 0 < left
  positive zero q p r f e = let k = sym (grown_end x q p) ∙ e in absurd (cc)
  positive (suc left) q p r f e = omega arith

  stands : (left : ℕ) → 0 < left → None ≡ ready_fault x false_core left
  stands zero l = absurd (omega (arith, l))
  stands (suc left) l = refl

  guard_none : (left : ℕ) (p : Progress) → 0 < left → grown x left (layers.Guard []) p ≡ Makes true_core p
  guard_none left p l = grown_leaf x left (layers.Guard []) p p true_core l refl

  guard_one : (left : ℕ) (g : layers.GuardItem) (p : Progress) → 0 < left → grown x left (layers.Guard (g ∷ [])) p ≡ grown x left (item_part x g) p
  guard_one left (layers.FormHolds o) p l = grown_at x left (layers.Guard (layers.FormHolds o ∷ [])) p l ∙ sym (grown_at x left (layers.Form o) p l)
  guard_one left (layers.Meets f) p l = grown_at x left (layers.Guard (layers.Meets f ∷ [])) p l ∙ sym (grown_at x left (layers.Ready f) p l)

  module _ (left : ℕ) (l : 0 < left) (g h : layers.GuardItem) (gs : List layers.GuardItem) where
    abbrev parts : List layers.Part
    parts = item_part x g ∷ (layers.Guard (h ∷ gs) ∷ (false_part ∷ []))

    more_first : (p q : Progress) (f : ExpandFault) → grown x (left - 1) (item_part x g) p ≡ Fails f q → grown x left (layers.Guard (g ∷ (h ∷ gs))) p ≡ Fails f q
    more_first p q f i =
        node_fails x left (layers.Guard (g ∷ (h ∷ gs))) p p q layers.IfNode parts f l refl
        (first_fails (grown x (left - 1)) (item_part x g) (layers.Guard (h ∷ gs) ∷ (false_part ∷ [])) p q f i)

    more_rest : (p q r : Progress) (a : cores.Core) (f : ExpandFault) → grown x (left - 1) (item_part x g) p ≡ Makes a q → grown x (left - 1) (layers.Guard (h ∷ gs)) q ≡ Fails f r
        → grown x left (layers.Guard (g ∷ (h ∷ gs))) p ≡ Fails f r
    more_rest p q r a f i j =
        node_fails x left (layers.Guard (g ∷ (h ∷ gs))) p p r layers.IfNode parts f l refl
        (second_fails (grown x (left - 1)) (item_part x g) (layers.Guard (h ∷ gs)) (false_part ∷ []) p q r a f i j)

    more_makes : (p q r : Progress) (a b : cores.Core) → grown x (left - 1) (item_part x g) p ≡ Makes a q → grown x (left - 1) (layers.Guard (h ∷ gs)) q ≡ Makes b r
        → grown x left (layers.Guard (g ∷ (h ∷ gs))) p ≡ Makes (cores.If a b false_core) r
    more_makes p q r a b i j =
        node_grown x left (layers.Guard (g ∷ (h ∷ gs))) p p r layers.IfNode parts (a ∷ (b ∷ (false_core ∷ []))) l refl
        (all_three (grown x (left - 1)) (item_part x g) (layers.Guard (h ∷ gs)) false_part p q r r a b false_core i j
        (ready_stands x (left - 1) false_core r (stands (left - 1) (positive (left - 1) (item_part x g) p q a i))))

-- ---- items in a row

module _ (h : Objects) (g : GuardItem) (items others : List GuardItem) (e : items ≡ g ∷ others) where
  pub item_lies : (n : ℕ) → items_reach items ≤ n → item_reach g ≤ n
  item_lies n l = let k : items_reach (g ∷ others) ≤ n = rw e at l in omega (arith, k)

  pub others_lie : (n : ℕ) → items_reach items ≤ n → items_reach others ≤ n
  others_lie n l = let k : items_reach (g ∷ others) ≤ n = rw e at l in omega (arith, k)

  pub item_known : (n : ℕ) → AreKnownItems n (seen_items h items) → IsKnownItem n (seen_item h g)
  item_known n k = (subst (λ xs. AreKnownItems n (seen_items h xs)) e k).0

  pub others_known : (n : ℕ) → AreKnownItems n (seen_items h items) → AreKnownItems n (seen_items h others)
  others_known n k = (subst (λ xs. AreKnownItems n (seen_items h xs)) e k).1

item_later : {h h' : Objects} → Extends h h' → (g : GuardItem) → item_reach g ≤ length h → seen_item h' g ≡ seen_item h g
item_later e (item.FormHolds w) l = ap layers.FormHolds (e.same w l)
item_later e (item.Meets f) l = ap layers.Meets (seen_core-later e f l)

pub items_later : {h h' : Objects} → Extends h h' → (gs : List GuardItem) → items_reach gs ≤ length h → seen_items h' gs ≡ seen_items h gs
items_later e [] l = refl
items_later e (g ∷ gs) l = rw (item_later e g (omega (arith, l)), items_later e gs (omega (arith, l))) refl

-- items where the heap has grown and more symbols are known
pub known_later : {h h' : Objects} → Extends h h' → (gs : List GuardItem) → items_reach gs ≤ length h → (m n : ℕ) → m ≤ n → AreKnownItems m (seen_items h gs) → AreKnownItems n (seen_items h' gs)
known_later {h} e gs l m n le k = subst (λ xs. AreKnownItems n xs) (sym (items_later e gs l)) (part_later m n le (layers.Guard (seen_items h gs)) k)

module _ (x : Setting) (h : Objects) (left : ℕ) (l : 0 < left) where
  pub guard_empty : (items : List GuardItem) (p : Progress) → length items ≡ 0 → grown x left (layers.Guard (seen_items h items)) p ≡ Makes true_core p
  guard_empty [] p e = guard_none x left p l
  guard_empty (g ∷ items) p e = absurd (omega (arith, e))

  module _ (g : GuardItem) (items others : List GuardItem) (e : items ≡ g ∷ others) where
    pub guard_last : (p : Progress) → length others ≡ 0 → grown x left (layers.Guard (seen_items h items)) p ≡ grown x left (item_part x (seen_item h g)) p
    guard_last p n = ap (λ gs. grown x left (layers.Guard (seen_items h gs)) p) e ∙ last others n where
      last : (os : List GuardItem) → length os ≡ 0 → grown x left (layers.Guard (seen_items h (g ∷ os))) p ≡ grown x left (item_part x (seen_item h g)) p
      last [] n = guard_one x left (seen_item h g) p l
      last (o ∷ os) n = absurd (omega (arith, n))

    pub item_fails : (p q : Progress) (f : ExpandFault) → 0 < length others → grown x (left - 1) (item_part x (seen_item h g)) p ≡ Fails f q → grown x left (layers.Guard (seen_items h items)) p ≡ Fails f q
    item_fails p q f n i = ap (λ gs. grown x left (layers.Guard (seen_items h gs)) p) e ∙ more others n where
      more : (os : List GuardItem) → 0 < length os → grown x left (layers.Guard (seen_items h (g ∷ os))) p ≡ Fails f q
      more [] n = absurd (omega (arith, n))
      more (o ∷ os) n = more_first x left l (seen_item h g) (seen_item h o) (seen_items h os) p q f i

    pub rest_fails : (p q r : Progress) (a : cores.Core) (f : ExpandFault) → 0 < length others → grown x (left - 1) (item_part x (seen_item h g)) p ≡ Makes a q
        → grown x (left - 1) (layers.Guard (seen_items h others)) q ≡ Fails f r → grown x left (layers.Guard (seen_items h items)) p ≡ Fails f r
    rest_fails p q r a f n i j = ap (λ gs. grown x left (layers.Guard (seen_items h gs)) p) e ∙ more others n j where
      more : (os : List GuardItem) → 0 < length os → grown x (left - 1) (layers.Guard (seen_items h os)) q ≡ Fails f r → grown x left (layers.Guard (seen_items h (g ∷ os))) p ≡ Fails f r
      more [] n j = absurd (omega (arith, n))
      more (o ∷ os) n j = more_rest x left l (seen_item h g) (seen_item h o) (seen_items h os) p q r a f i j

    pub all_made : (p q r : Progress) (a b : cores.Core) → 0 < length others → grown x (left - 1) (item_part x (seen_item h g)) p ≡ Makes a q
        → grown x (left - 1) (layers.Guard (seen_items h others)) q ≡ Makes b r → grown x left (layers.Guard (seen_items h items)) p ≡ Makes (cores.If a b false_core) r
    all_made p q r a b n i j = ap (λ gs. grown x left (layers.Guard (seen_items h gs)) p) e ∙ more others n j where
      more : (os : List GuardItem) → 0 < length os → grown x (left - 1) (layers.Guard (seen_items h os)) q ≡ Makes b r → grown x left (layers.Guard (seen_items h (g ∷ os))) p ≡ Makes (cores.If a b false_core) r
      more [] n j = absurd (omega (arith, n))
      more (o ∷ os) n j = more_makes x left l (seen_item h g) (seen_item h o) (seen_items h os) p q r a b i j

-- one thing at most
pub none_behind : (g : GuardItem) (items others : List GuardItem) → items ≡ g ∷ others → length items ≤ 1 → length others ≡ 0
none_behind g items others e l = let k : length (g ∷ others) ≤ 1 = rw e at l in omega (arith, k)

pub one_at_most : (g : GuardItem) (items others : List GuardItem) → items ≡ g ∷ others → length others ≡ 0 → length items ≤ 1
one_at_most g items others e l = omega (arith, ap length e, l)

-- no level left
pub nothing_left : (x : Setting) (h : Objects) (left : ℕ) (q : layers.Part) (p : Progress) (r : Refused) → left ≡ 0 → r ≡ record { fault = fault.TooNested; inside = None } → grown x left q p ≡ Fails (seen_fault h (seen_name r.inside) r.fault) p
nothing_left x h left q p r z e = rw (z, e) (grown_end x q p)
