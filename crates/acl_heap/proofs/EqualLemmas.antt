-- A list of pairs to compare, the newest at its end.
use Rattle.std.specs.Prelude.{IsTrue, ◌↔◌, Bool, ◌≡◌, ◌≢◌, ◌+◌, ◌<◌, List, [], ◌∷◌, ◌++◌}
use Rattle.std.proofs.Common.{sym, ap, ◌∙◌, arith}
use Rattle.model_objects.specs.Object.{Object, Integer, Symbol, Text, Pair, weight}
use Rattle.acl_base.specs.declared.Word.{Word}
use Rattle.acl_heap.specs.Objects.{Objects, object_of, Lies}
use Rattle.acl_heap.specs.Equal.{ArePairs, AllSame, AllLie, work_of}

-- P holds exactly where the pairs that are left are of equal objects
pub record Left (h : Objects) (P : Type 0) (ps : List (Word × Word)) : Type 0 where
  pub lie : AllLie h ps
  pub only : AllSame h ps → P
  pub back : P → AllSame h ps

pub weight_positive : {S : Type 0} (o : Object S) → 0 < weight o
weight_positive (Integer n) = omega arith
weight_positive (Symbol s) = omega arith
weight_positive (Text bytes) = omega arith
weight_positive (Pair a d) = omega arith

pub work_of-push : (h : Objects) (ps : List (Word × Word)) (p : Word × Word) → work_of h (ps ++ p ∷ []) ≡ work_of h ps + weight (object_of h p.0)
work_of-push h [] p = omega arith
work_of-push h (q ∷ ps) p = omega (arith, work_of-push h ps p)

pub AllSame-push : (h : Objects) (ps : List (Word × Word)) (p : Word × Word) → AllSame h ps → object_of h p.0 ≡ object_of h p.1 → AllSame h (ps ++ p ∷ [])
AllSame-push h [] p a e = (e, tt)
AllSame-push h (q ∷ ps) p a e = (a.0, AllSame-push h ps p a.1 e)

pub AllSame-pop : (h : Objects) (ps : List (Word × Word)) (p : Word × Word) → AllSame h (ps ++ p ∷ []) → AllSame h ps × (object_of h p.0 ≡ object_of h p.1)
AllSame-pop h [] p a = (tt, a.0)
AllSame-pop h (q ∷ ps) p a = let r = AllSame-pop h ps p a.1 in ((a.0, r.0), r.1)

pub AllLie-push : (h : Objects) (ps : List (Word × Word)) (p : Word × Word) → AllLie h ps → Lies h p.0 → Lies h p.1 → AllLie h (ps ++ p ∷ [])
AllLie-push h [] p a k l = (k, l, tt)
AllLie-push h (q ∷ ps) p a k l = (a.0, a.1, AllLie-push h ps p a.2 k l)

pub AllLie-pop : (h : Objects) (ps : List (Word × Word)) (p : Word × Word) → AllLie h (ps ++ p ∷ []) → AllLie h ps × Lies h p.0 × Lies h p.1
AllLie-pop h [] p a = (tt, a.0, a.1)
AllLie-pop h (q ∷ ps) p a = let r = AllLie-pop h ps p a.2 in ((a.0, a.1, r.0), r.1, r.2)

pub pop_same : {h : Objects} {P : Type 0} (ps : List (Word × Word)) (x y : Word) → Left h P (ps ++ (x, y) ∷ []) → object_of h x ≡ object_of h y → Left h P ps
pop_same {h} ps x y l e = record {
  lie = (AllLie-pop h ps (x, y) l.lie).0;
  only = λ a. l.only (AllSame-push h ps (x, y) a e);
  back = λ p. (AllSame-pop h ps (x, y) (l.back p)).0;
}

pub pop_apart : {h : Objects} {P : Type 0} (ps : List (Word × Word)) (x y : Word) → Left h P (ps ++ (x, y) ∷ []) → object_of h x ≢ object_of h y → P → ⊥
pop_apart {h} ps x y l n p = n (AllSame-pop h ps (x, y) (l.back p)).1

both : {h : Objects} {x y a b d e : Word} → ArePairs h x y a b d e → object_of h a ≡ object_of h b → object_of h d ≡ object_of h e → object_of h x ≡ object_of h y
both r p q = r.left ∙ (rw (p, q) (sym r.right))

cars : {h : Objects} {x y a b d e : Word} → ArePairs h x y a b d e → object_of h x ≡ object_of h y → (object_of h a ≡ object_of h b) × (object_of h d ≡ object_of h e)
cars {h} {x} {y} {a} {b} {d} {e} r q =
    let s : Pair (object_of h a) (object_of h d) ≡ Pair (object_of h b) (object_of h e) = sym r.left ∙ (q ∙ r.right) in
    (cc, cc)

pub pop_parts : {h : Objects} {P : Type 0} (ps : List (Word × Word)) (x y a b d e : Word) → Left h P (ps ++ (x, y) ∷ []) → ArePairs h x y a b d e → Left h P ((ps ++ (d, e) ∷ []) ++ (a, b) ∷ [])
pop_parts {h} ps x y a b d e l r = record {
  lie = AllLie-push h (ps ++ (d, e) ∷ []) (a, b) (AllLie-push h ps (d, e) (AllLie-pop h ps (x, y) l.lie).0 r.d_lies r.e_lies) r.a_lies r.b_lies;
  only = λ s.
      let s1 = AllSame-pop h (ps ++ (d, e) ∷ []) (a, b) s in
      let s2 = AllSame-pop h ps (d, e) s1.0 in
      l.only (AllSame-push h ps (x, y) s2.0 (both r s1.1 s2.1));
  back = λ p.
      let s = AllSame-pop h ps (x, y) (l.back p) in
      let c = cars r s.1 in
      AllSame-push h (ps ++ (d, e) ∷ []) (a, b) (AllSame-push h ps (d, e) s.0 c.1) c.0;
}

pub parts_smaller : {h : Objects} (ps : List (Word × Word)) (x y a b d e : Word) → ArePairs h x y a b d e → work_of h ((ps ++ (d, e) ∷ []) ++ (a, b) ∷ []) < work_of h (ps ++ (x, y) ∷ [])
parts_smaller {h} ps x y a b d e r =
    omega (arith, work_of-push h (ps ++ (d, e) ∷ []) (a, b), work_of-push h ps (d, e), work_of-push h ps (x, y), ap weight r.left)

-- two pairs are the same where their parts are
pub parts_same : {h : Objects} {x y a b d e : Word} → ArePairs h x y a b d e → (same : Bool) → (IsTrue same ↔ AllSame h ((d, e) ∷ (a, b) ∷ [])) → (IsTrue same ↔ (object_of h x ≡ object_of h y))
parts_same r same k = (
  (λ t. let s = k.0 t in both r s.1.0 s.0),
  (λ q. let c = cars r q in k.1 (c.1, (c.0, tt))),
)
