-- Nodes with more behind them.
use Rattle.std.proofs.Common.{◌≡◌, ℕ, zero, suc, ◌<◌, ◌≤◌, List, [], ◌∷◌, ◌++◌, length, take, refl, sym, ap, ◌∙◌, arith}
use Rattle.std.proofs.lemmas.List.{length-append}
use Rattle.acl_nodes.specs.Nodes.{Node, part_at, layout_at}
use Rattle.acl_nodes.specs.Making.{Extends}
use Rattle.acl_nodes.proofs.CutLemmas.{taken_layout, taken_same}

module _ {O : Type 0} where
  take_all : (ns : List (Node O)) → take (length ns) ns ≡ ns
  take_all [] = refl
  take_all (n ∷ ns) = ap (λ (ms : List (Node O)). n ∷ ms) (take_all ns)

  pub extends_self : (nodes : List (Node O)) → Extends nodes nodes
  extends_self nodes = (omega arith, take_all nodes)

  take_of : (ns after : List (Node O)) → Extends ns after → (m : ℕ) → m ≤ length ns → take m after ≡ take m ns
  take_of ns after e zero h = refl
  take_of [] after e (suc m) h = absurd (omega (arith, h))
  take_of (n ∷ ns) [] e (suc m) h = absurd (let l = e.0 in omega (arith, l))
  take_of (n ∷ ns) (k ∷ after) e (suc m) h =
      let low : m ≤ length ns = omega (arith, h) in
      both (heads e.1) (take_of ns after ((let l = e.0 in omega (arith, l)), tails e.1) m low)
    where
      heads : {xs ys : List (Node O)} {x y : Node O} → x ∷ xs ≡ y ∷ ys → x ≡ y
      heads h = cc

      tails : {xs ys : List (Node O)} {x y : Node O} → x ∷ xs ≡ y ∷ ys → xs ≡ ys
      tails h = cc

      both : {x y : Node O} {xs ys : List (Node O)} → x ≡ y → xs ≡ ys → x ∷ xs ≡ y ∷ ys
      both h k = cc

  pub extends_then : (a b c : List (Node O)) → Extends a b → Extends b c → Extends a c
  extends_then a b c e f = ((let l = e.0 in let m = f.0 in omega (arith, l, m)), take_of b c f (length a) e.0 ∙ e.1)

  take_append : (ns more : List (Node O)) → take (length ns) (ns ++ more) ≡ ns
  take_append [] more = refl
  take_append (n ∷ ns) more = ap (λ (ms : List (Node O)). n ∷ ms) (take_append ns more)

  pub extends_push : (ns : List (Node O)) (n : Node O) → Extends ns (ns ++ n ∷ [])
  extends_push ns n = ((let l = length-append ns (n ∷ []) in omega (arith, l)), take_append ns (n ∷ []))

  pub extended_layout : (ns after : List (Node O)) (k : ℕ) → Extends ns after → k < length ns → layout_at after k ≡ layout_at ns k
  extended_layout ns after k e h = sym (taken_layout after (length ns) k h) ∙ ap (λ (ms : List (Node O)). layout_at ms k) e.1

  pub extended_part : (ns after : List (Node O)) (k f : ℕ) → Extends ns after → k < length ns → part_at after k f ≡ part_at ns k f
  extended_part ns after k f e h = sym (taken_same after (length ns) k f h) ∙ ap (λ (ms : List (Node O)). part_at ms k f) e.1
