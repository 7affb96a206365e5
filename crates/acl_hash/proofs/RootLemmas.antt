-- Roots put in and given back.
use Rattle.std.specs.Prelude.{◌≡◌, ℕ, zero, suc, ◌<◌, Bool, true, false, Option, Some, refl}
use Rattle.std.proofs.Common.{ap, sym, ◌∙◌, arith, subst, inl, inr}
use Rattle.model_objects.specs.Object.{Object, cells}
use Rattle.acl_pool.specs.Roots.{Held, IsLive, Stays, PutsIn, GivesBack}
use Rattle.acl_pool.specs.declared.Root.{Root}
use Rattle.acl_hash.specs.declared.entry.Entry.{Entry}
use Rattle.acl_hash.specs.Places.{part_of}
use Rattle.acl_hash.specs.Pools.{Holds, EntryFits, PutsEntry, GivesEntry}

pub stays_self : {p : Held} (r : Root) → IsLive p r → Stays p p r
stays_self r l = record { live = l; same = refl }

pub stays_then : {a b c : Held} (r : Root) → Stays a b r → Stays b c r → Stays a c r
stays_then r s t = record { live = t.live; same = t.same ∙ s.same }

-- a root other than the one that is given back stays
pub stays_give : {p q : Held} {x : Root} → GivesBack p q x → (r : Root) → IsLive p r → (0 < x.cells → r ≡ x → ⊥) → Stays p q r
stays_give {p} {q} {x} g r l apart = go x.cells refl
  where
    go : (n : ℕ) → x.cells ≡ n → Stays p q r
    go zero e = subst (λ h. Stays p h r) (sym (g.value e)) (stays_self r l)
    go (suc n) e = g.stays r l (apart (omega (arith, e)))

positive : (r x : Root) → r ≡ x → 0 < x.cells → 0 < r.cells
positive r x e l = subst (λ (y : Root). 0 < y.cells) (sym e) l

value_apart : {p : Held} (e : Entry) → EntryFits p (Some e) → 0 < e.key.cells → e.value ≡ e.key → ⊥
value_apart e f pos h = f.two e.key pos refl (ap Some h)

pub key_lives : {p : Held} {o : Option Entry} {e : Entry} → EntryFits p o → o ≡ Some e → IsLive p e.key
key_lives {p} {o} {e} f h = f.live true e.key (ap (part_of true) h)

pub value_lives : {p q : Held} {o : Option Entry} {e : Entry} → EntryFits p o → o ≡ Some e → GivesBack p q e.key → IsLive q e.value
value_lives {p} {q} {o} {e} f h g =
    let k : EntryFits p (Some e) = subst (EntryFits p) h f in
    (stays_give g e.value (k.live false e.value refl) (value_apart e k)).live

gives_some : {p q s : Held} (e : Entry) → EntryFits p (Some e) → GivesBack p q e.key → GivesBack q s e.value → GivesEntry p s (Some e)
gives_some {p} {q} {s} e f g h = record {
  stays = λ r l apart.
      let first : Stays p q r = stays_give g r l (λ pos same. apart (positive r e.key same pos) true (ap Some (sym same))) in
      stays_then r first (stays_give h r first.live (λ pos same. apart (positive r e.value same pos) false (ap Some (sym same))));
  no_more = λ r pos l. g.no_more r (h.no_more r l);
  uses = omega (arith, g.uses, h.uses);
  spares = omega (arith, g.spares, h.spares);
}

pub gives_entry : {p q s : Held} {o : Option Entry} {e : Entry} → EntryFits p o → o ≡ Some e → GivesBack p q e.key → GivesBack q s e.value → GivesEntry p s o
gives_entry {p} {q} {s} {o} {e} f h a b = subst (GivesEntry p s) (sym h) (gives_some e (subst (EntryFits p) h f) a b)

inner : (a r : Root) → Some a ≡ Some r → a ≡ r
inner a r e = cc

pub puts_entry : {p q s : Held} {key value : Root} {ko vo : Object ℕ} → PutsIn p q key ko → PutsIn q s value vo → PutsEntry p s (record { key = key; value = value }) ko vo
puts_entry {p} {q} {s} {key} {value} {ko} {vo} a b =
    let kept : Stays q s key = b.stays key a.live in
    let kc : key.cells ≡ cells ko = a.takes in
    let vc : value.cells ≡ cells vo = b.takes in
    record {
      fits = record {
        live = lives kept.live;
        two = λ r pos e f. b.fresh (subst (λ (y : Root). 0 < y.cells) (sym (inner value r f)) pos) (subst (IsLive q) (inner key r e ∙ sym (inner value r f)) a.live);
      };
      is_key = kept.same ∙ a.is;
      is_value = b.is;
      fresh = fresh;
      stays = λ r l. let first = a.stays r l in stays_then r first (b.stays r first.live);
      no_more = λ r pos l. elim (b.no_more r l) [
        | inl m ↦ elim (a.no_more r m) [ inl n ↦ inl n | inr e ↦ inr (true, ap Some (sym e)) ]
        | inr e ↦ inr (false, ap Some (sym e))
      ];
      takes = omega (arith, kc, vc);
      uses = omega (arith, a.uses, b.uses);
      spares = omega (arith, a.spares, b.spares);
    }
  where
    lives : IsLive s key → (c : Bool) (r : Root) → part_of c (Some (record { key = key; value = value })) ≡ Some r → IsLive s r
    lives k true r e = subst (IsLive s) (inner key r e) k
    lives k false r e = subst (IsLive s) (inner value r e) b.live

    fresh : (c : Bool) (r : Root) → part_of c (Some (record { key = key; value = value })) ≡ Some r → 0 < r.cells → IsLive p r → ⊥
    fresh true r e pos l = let h = inner key r e in a.fresh (subst (λ (y : Root). 0 < y.cells) (sym h) pos) (subst (IsLive p) (sym h) l)
    fresh false r e pos l = let h = inner value r e in b.fresh (subst (λ (y : Root). 0 < y.cells) (sym h) pos) (subst (IsLive q) (sym h) (a.stays r l).live)

-- nothing changed
pub holds_same : {p q : Held} → q ≡ p → Holds p q
holds_same {p} {q} e = subst (Holds p) (sym e) (record { stays = λ r l. stays_self r l; no_more = λ r pos l. l; uses = refl; spares = omega arith })

-- the value was refused, and the key is given back
pub holds_given : {p q q' s : Held} {key : Root} {ko : Object ℕ} → PutsIn p q key ko → q' ≡ q → GivesBack q' s key → Holds p s
holds_given {p} {q} {q'} {s} {key} {ko} a e h =
    let g : GivesBack q s key = subst (λ (x : Held). GivesBack x s key) e h in
    let kc : key.cells ≡ cells ko = a.takes in
    record {
      stays = λ r l. let first = a.stays r l in stays_then r first (stays_give g r first.live (λ pos same. a.fresh pos (subst (IsLive p) same l)));
      no_more = λ r pos l. elim (a.no_more r (g.no_more r l)) [
        | inl m ↦ m
        | inr same ↦ absurd (g.gone (subst (λ (y : Root). 0 < y.cells) same pos) (subst (IsLive s) same l))
      ];
      uses = omega (arith, a.uses, g.uses, kc);
      spares = omega (arith, a.spares, g.spares, kc);
    }
