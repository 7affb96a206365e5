-- Writing an object item by item.
use Rattle.std.specs.Prelude.{◌≡◌, ℕ, ◌+◌, ◌<◌, List, [], ◌∷◌, ◌++◌, refl, ℤ, pos, negsuc}
use Rattle.std.proofs.Common.{ap, sym, ◌∙◌, arith, subst}
use Rattle.std.proofs.lemmas.List.{append_assoc, append-nil}
use Rattle.model_objects.specs.Object.{Object, Pair, weight}
use Rattle.acl_base.specs.declared.Word.{Word}
use Rattle.acl_heap.specs.Objects.{Objects, object_of, Lies}
use Rattle.acl_hash.specs.declared.bytes.Kind.TheVariants as kind
use Rattle.acl_hash.specs.Bytes.{key_bytes, kind_byte, HasBytes, object_in, number_bytes, integer_bytes}
use Rattle.acl_hash.specs.Making.{left_bytes, LeftLies, LeftHasBytes, left_weight, Writes, IsPart}
use Rattle.acl_hash.proofs.ReadLemmas.{object_back}

left_bytes-push : (h : Objects) (ws : List Word) (w : Word) → left_bytes h (ws ++ w ∷ []) ≡ key_bytes (object_of h w) ++ left_bytes h ws
left_bytes-push h [] w = sym (append-nil (key_bytes (object_of h w)))
left_bytes-push h (x ∷ ws) w =
    ap (λ l. l ++ key_bytes (object_of h x)) (left_bytes-push h ws w) ∙ append_assoc (key_bytes (object_of h w)) (left_bytes h ws) (key_bytes (object_of h x))

left_weight-push : (h : Objects) (ws : List Word) (w : Word) → left_weight h (ws ++ w ∷ []) ≡ left_weight h ws + weight (object_of h w)
left_weight-push h [] w = omega arith
left_weight-push h (x ∷ ws) w = omega (arith, left_weight-push h ws w)

LeftLies-push : (h : Objects) (ws : List Word) (w : Word) → LeftLies h ws → Lies h w → LeftLies h (ws ++ w ∷ [])
LeftLies-push h [] w a l = (l, tt)
LeftLies-push h (x ∷ ws) w a l = (a.0, LeftLies-push h ws w a.1 l)

LeftLies-pop : (h : Objects) (ws : List Word) (w : Word) → LeftLies h (ws ++ w ∷ []) → LeftLies h ws × Lies h w
LeftLies-pop h [] w a = (tt, a.0)
LeftLies-pop h (x ∷ ws) w a = let r = LeftLies-pop h ws w a.1 in ((a.0, r.0), r.1)

LeftHasBytes-push : (h : Objects) (ws : List Word) (w : Word) → LeftHasBytes h ws → HasBytes (object_of h w) → LeftHasBytes h (ws ++ w ∷ [])
LeftHasBytes-push h [] w a l = (l, tt)
LeftHasBytes-push h (x ∷ ws) w a l = (a.0, LeftHasBytes-push h ws w a.1 l)

LeftHasBytes-pop : (h : Objects) (ws : List Word) (w : Word) → LeftHasBytes h (ws ++ w ∷ []) → LeftHasBytes h ws × HasBytes (object_of h w)
LeftHasBytes-pop h [] w a = (tt, a.0)
LeftHasBytes-pop h (x ∷ ws) w a = let r = LeftHasBytes-pop h ws w a.1 in ((a.0, r.0), r.1)

-- an object without parts is written whole
pub writes_whole : {h : Objects} {o : Object ℕ} {bytes bytes' : List ℕ} {left : List Word} (written : List ℕ) → 0 < weight o
    → bytes' ≡ bytes ++ written → written ≡ key_bytes o → HasBytes o → Writes h o bytes bytes' left left
writes_whole {h} {o} {bytes} {bytes'} {left} written p e f b = record {
  lies = λ l. l;
  same = ap (λ l. l ++ left_bytes h left) (e ∙ ap (λ l. bytes ++ l) f);
  has = λ l. (b, l);
  less = omega arith;
}

-- of a pair the first byte is written, and its parts are left
pub writes_pair : {h : Objects} {o : Object ℕ} {bytes bytes' : List ℕ} {left left' : List Word} (a d : Word) → o ≡ Pair (object_of h a) (object_of h d)
    → Lies h a → Lies h d → bytes' ≡ bytes ++ (kind_byte kind.Parted ∷ []) → left' ≡ (left ++ d ∷ []) ++ a ∷ [] → Writes h o bytes bytes' left left'
writes_pair {h} {o} {bytes} {bytes'} {left} {left'} a d is la ld e f =
    let all : left_bytes h left' ≡ key_bytes (object_of h a) ++ (key_bytes (object_of h d) ++ left_bytes h left)
    = ap (left_bytes h) f ∙ (left_bytes-push h (left ++ d ∷ []) a ∙ ap (λ l. key_bytes (object_of h a) ++ l) (left_bytes-push h left d)) in
    record {
      lies = λ l. subst (LeftLies h) (sym f) (LeftLies-push h (left ++ d ∷ []) a (LeftLies-push h left d l ld) la);
      same = same_pair bytes (key_bytes (object_of h a)) (key_bytes (object_of h d)) (left_bytes h left) bytes' (left_bytes h left') (key_bytes o) e all (ap key_bytes is);
      has = λ l.
          let k = LeftHasBytes-pop h (left ++ d ∷ []) a (subst (LeftHasBytes h) f l) in
          let m = LeftHasBytes-pop h left d k.0 in
          (subst HasBytes (sym is) (k.1, m.1), m.0);
      less = omega (arith, ap (left_weight h) f, left_weight-push h (left ++ d ∷ []) a, left_weight-push h left d, ap weight is);
    }
  where
    same_pair : (bytes a d left bytes' left' o : List ℕ) → bytes' ≡ bytes ++ (6 ∷ []) → left' ≡ a ++ (d ++ left) → o ≡ 6 ∷ (a ++ d) → bytes' ++ left' ≡ (bytes ++ o) ++ left
    same_pair bytes a d left bytes' left' o e f g =
        rw (e, f, g, append_assoc bytes (6 ∷ []) (a ++ (d ++ left)), append_assoc bytes (6 ∷ (a ++ d)) left, append_assoc a d left) refl

-- ---- the loop

pub part_begins : {h : Objects} {o : Object ℕ} {none bytes : List ℕ} {nothing left : List Word} → none ≡ [] → nothing ≡ [] → Writes h o none bytes nothing left → IsPart h o bytes left
part_begins {h} {o} {none} {bytes} {nothing} {left} e f w =
    let begun : Writes h o [] bytes [] left = subst (λ n. Writes h o n bytes [] left) e (subst (λ n. Writes h o none bytes n left) f w) in
    record { lies = begun.lies tt; whole = begun.same ∙ append-nil (key_bytes o); has = λ l. (begun.has l).0 }

pub part_lies : {h : Objects} {o : Object ℕ} {bytes : List ℕ} (left : List Word) (w : Word) → IsPart h o bytes (left ++ w ∷ []) → Lies h w
part_lies {h} left w p = (LeftLies-pop h left w p.lies).1

pub part_goes_on : {h : Objects} {o : Object ℕ} {bytes bytes' : List ℕ} {left' : List Word} (left : List Word) (w : Word)
    → IsPart h o bytes (left ++ w ∷ []) → Writes h (object_of h w) bytes bytes' left left' → IsPart h o bytes' left'
part_goes_on {h} {o} {bytes} {bytes'} {left'} left w p s = record {
  lies = s.lies (LeftLies-pop h left w p.lies).0;
  whole = s.same ∙ (append_assoc bytes (key_bytes (object_of h w)) (left_bytes h left) ∙ (ap (λ l. bytes ++ l) (sym (left_bytes-push h left w)) ∙ p.whole));
  has = λ l. let k = s.has l in p.has (LeftHasBytes-push h left w k.1 k.0);
}

pub part_shrinks : {h : Objects} {bytes bytes' : List ℕ} {left' : List Word} (left : List Word) (w : Word)
    → Writes h (object_of h w) bytes bytes' left left' → left_weight h left' < left_weight h (left ++ w ∷ [])
part_shrinks {h} left w s = omega (arith, s.less, left_weight-push h left w)

-- with nothing left, the bytes are those of the object
pub part_ends : {h : Objects} {o : Object ℕ} {bytes : List ℕ} → IsPart h o bytes [] → object_in bytes ≡ o
part_ends {h} {o} {bytes} p = ap object_in (sym (append-nil bytes) ∙ p.whole) ∙ object_back o (p.has tt)

pub part_is_key : {h : Objects} {o : Object ℕ} {bytes : List ℕ} → IsPart h o bytes [] → key_bytes (object_in bytes) ≡ bytes
part_is_key {h} {o} {bytes} p = ap key_bytes (part_ends p) ∙ sym (sym (append-nil bytes) ∙ p.whole)

-- ---- integers

pub natural_bytes : (n : ℤ) (size : ℕ) → n ≡ pos size → number_bytes kind.Natural kind.WideNatural size ≡ integer_bytes n
unfolding integer_bytes
natural_bytes n size e = rw e refl

pub negative_bytes : (n : ℤ) (size : ℕ) → n ≡ negsuc size → number_bytes kind.Negative kind.WideNegative size ≡ integer_bytes n
unfolding integer_bytes
negative_bytes n size e = rw e refl
