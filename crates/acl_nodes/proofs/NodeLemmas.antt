-- Nodes with one part changed.
use Rattle.std.proofs.Common.{◌≡◌, ℕ, zero, suc, ◌<◌, List, [], ◌∷◌, length, Some, None, refl, ap, arith, inl, inr, set}
use Rattle.std.specs.Prelude.{◌≢◌, ◌⊎◌, slice_get}
use Rattle.std.proofs.lemmas.List.{length-set}
use Rattle.std.proofs.lemmas.Option.{slice_get_within}
use Rattle.acl_nodes.specs.Nodes.{Part, Node, part_at, width, layout_at, with_part, IsChanged}

none_some : {X : Type 0} {x : X} → None ≡ Some x → ⊥
none_some e = cc

some_same : {X : Type 0} {x y : X} → Some x ≡ Some y → x ≡ y
some_same e = cc

pub nat_or : (j k : ℕ) → (j ≡ k) ⊎ (j ≢ k)
nat_or j k = grind arith

pub get_set : {X : Type 0} (xs : List X) (i : ℕ) (x : X) → i < length xs → slice_get (set xs i x) i ≡ Some x
get_set [] i x h = absurd (omega (arith, h))
get_set (y ∷ ys) zero x h = refl
get_set (y ∷ ys) (suc i) x h = let fewer : i < length ys = omega (arith, h) in get_set ys i x fewer

pub get_other : {X : Type 0} (xs : List X) (i j : ℕ) (x : X) → j ≢ i → slice_get (set xs i x) j ≡ slice_get xs j
get_other [] i j x d = refl
get_other (y ∷ ys) zero zero x d = absurd (d refl)
get_other (y ∷ ys) zero (suc j) x d = refl
get_other (y ∷ ys) (suc i) zero x d = refl
get_other (y ∷ ys) (suc i) (suc j) x d = get_other ys i j x (λ e. d (ap suc e))

module _ {O : Type 0} where
  pub part_is : (nodes : List (Node O)) (k f : ℕ) (node : Node O) → slice_get nodes k ≡ Some node → part_at nodes k f ≡ slice_get node.parts f
  part_is [] k f node e = absurd (none_some e)
  part_is (n ∷ nodes) zero f node e = ap (λ (m : Node O). slice_get m.parts f) (some_same e)
  part_is (n ∷ nodes) (suc k) f node e = part_is nodes k f node e

  pub part_within : (nodes : List (Node O)) (k f : ℕ) (part : Part O) → part_at nodes k f ≡ Some part → k < length nodes
  part_within [] k f part e = absurd (none_some e)
  part_within (n ∷ nodes) zero f part e = omega arith
  part_within (n ∷ nodes) (suc k) f part e = let h = part_within nodes k f part e in omega (arith, h)

  pub part_width : (nodes : List (Node O)) (k f : ℕ) (part : Part O) → part_at nodes k f ≡ Some part → f < width nodes k
  part_width [] k f part e = absurd (none_some e)
  part_width (n ∷ nodes) zero f part e = slice_get_within n.parts f part e
  part_width (n ∷ nodes) (suc k) f part e = part_width nodes k f part e

  with_length : (nodes : List (Node O)) (k f : ℕ) (part : Part O) → length (with_part k f part nodes) ≡ length nodes
  with_length [] k f part = refl
  with_length (n ∷ nodes) zero f part = refl
  with_length (n ∷ nodes) (suc k) f part = ap suc (with_length nodes k f part)

  with_width : (nodes : List (Node O)) (k f : ℕ) (part : Part O) (j : ℕ) → width (with_part k f part nodes) j ≡ width nodes j
  with_width [] k f part j = refl
  with_width (n ∷ nodes) zero f part zero = length-set n.parts f part
  with_width (n ∷ nodes) zero f part (suc j) = refl
  with_width (n ∷ nodes) (suc k) f part zero = refl
  with_width (n ∷ nodes) (suc k) f part (suc j) = with_width nodes k f part j

  with_layout : (nodes : List (Node O)) (k f : ℕ) (part : Part O) (j : ℕ) → layout_at (with_part k f part nodes) j ≡ layout_at nodes j
  with_layout [] k f part j = refl
  with_layout (n ∷ nodes) zero f part zero = refl
  with_layout (n ∷ nodes) zero f part (suc j) = refl
  with_layout (n ∷ nodes) (suc k) f part zero = refl
  with_layout (n ∷ nodes) (suc k) f part (suc j) = with_layout nodes k f part j

  pub with_same : (nodes : List (Node O)) (k f : ℕ) (old part : Part O) → part_at nodes k f ≡ Some old → part_at (with_part k f part nodes) k f ≡ Some part
  with_same [] k f old part e = absurd (none_some e)
  with_same (n ∷ nodes) zero f old part e = get_set n.parts f part (slice_get_within n.parts f old e)
  with_same (n ∷ nodes) (suc k) f old part e = with_same nodes k f old part e

  pub with_other : (nodes : List (Node O)) (k f : ℕ) (part : Part O) (j g : ℕ) → (j ≢ k) ⊎ (g ≢ f) → part_at (with_part k f part nodes) j g ≡ part_at nodes j g
  with_other [] k f part j g d = refl
  with_other (n ∷ nodes) zero f part zero g (inl d) = absurd (d refl)
  with_other (n ∷ nodes) zero f part zero g (inr d) = get_other n.parts f g part d
  with_other (n ∷ nodes) zero f part (suc j) g d = refl
  with_other (n ∷ nodes) (suc k) f part zero g d = refl
  with_other (n ∷ nodes) (suc k) f part (suc j) g (inl d) = with_other nodes k f part j g (inl (λ e. d (ap suc e)))
  with_other (n ∷ nodes) (suc k) f part (suc j) g (inr d) = with_other nodes k f part j g (inr d)

  pub with_changed : (nodes : List (Node O)) (k f : ℕ) (old part : Part O) → part_at nodes k f ≡ Some old → IsChanged k f part nodes (with_part k f part nodes)
  with_changed nodes k f old part e = record {
    counted = with_length nodes k f part;
    widths = with_width nodes k f part;
    layouts = with_layout nodes k f part;
    changed = with_same nodes k f old part e;
    others = λ j g d. with_other nodes k f part j g d;
  }
