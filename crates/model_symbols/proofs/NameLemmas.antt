-- The number of a symbol and of a package, and what a package has under a name.
use Rattle.std.specs.Prelude.{◌≡◌, ℕ, ◌<◌, List, [], ◌∷◌, ◌++◌, length, Bool, true, false, ◌&&◌, ◌||◌, Option, Some, None, slice_get, refl, is_some, cond, unwrap_or, zero, suc, ◌+◌}
use Rattle.std.proofs.Common.{sym, ap, ◌∙◌, true≢false, add-one}
use Rattle.std.specs.List.{list_any}
use Rattle.std.specs.Bool.{Decides}
use Rattle.std.specs.Option.{option_or}
use Rattle.std.specs.Str.{bytes_eq}
use Rattle.std.proofs.lemmas.Slice.Eq.{bytes_eq-Decides}
use Rattle.std.proofs.lemmas.Bool.{and_parts}
use Rattle.std.proofs.lemmas.Option.{unwrap_or-slice_get, slice_get-get_or, slice_get_within}
use Rattle.model_symbols.specs.Symbols.{QualifiedName, Package, same_name, symbol_at, no_name, number_of, package_number, package_at, no_package, import_of, symbol_in, is_known, interned}
use Rattle.model_symbols.specs.Growth.{IsSymbol, IsPackage, AreDistinct}
use Rattle.model_symbols.specs.Tables.{AreApart}
use Rattle.model_symbols.proofs.Positions.{found, unfound, position-push, only_place}

-- ---- two symbols are one where their names are

pub symbol_is : (a b : QualifiedName) → a.home ≡ b.home → a.name ≡ b.name → a ≡ b
symbol_is a b p q = λ i. record { home = p i; name = q i }

pub same_name-Decides : (a b : QualifiedName) → Decides (same_name a b) (a ≡ b)
same_name-Decides a b = (
  (λ h. let s = and_parts (bytes_eq a.home b.home) (bytes_eq a.name b.name) h in
      symbol_is a b ((bytes_eq-Decides a.home b.home).0 s.0) ((bytes_eq-Decides a.name b.name).0 s.1)),
  (λ e. λ i. (bytes_eq-Decides a.home b.home).1 (ap (λ (s : QualifiedName). s.home) e) i && (bytes_eq-Decides a.name b.name).1 (ap (λ (s : QualifiedName). s.name) e) i),
)

pub same_self : (s : QualifiedName) → same_name s s ≡ true
same_self s = (same_name-Decides s s).1 refl

-- ---- the number of a symbol

pub number-Some : (ss : List QualifiedName) (s : QualifiedName) (n : ℕ) → number_of ss s ≡ Some n → IsSymbol ss n s
number-Some ss s n h =
    let f = found (same_name s) ss n h in
    f.1 ∙ ap Some (sym ((same_name-Decides s f.0).0 f.2))

pub number-None : (ss : List QualifiedName) (s : QualifiedName) (n : ℕ) → number_of ss s ≡ None → IsSymbol ss n s → ⊥
number-None ss s n h g = true≢false (sym (same_self s) ∙ unfound (same_name s) ss n s h g)

pub number_within : (ss : List QualifiedName) (s : QualifiedName) (n : ℕ) → number_of ss s ≡ Some n → n < length ss
number_within ss s n h = slice_get_within ss n s (number-Some ss s n h)

pub number-known : (ss : List QualifiedName) (s : QualifiedName) (n : ℕ) → AreDistinct ss → IsSymbol ss n s → number_of ss s ≡ Some n
number-known ss s n d h = only_place (same_name s) ss n s h (same_self s) (λ j t g e. d j n s (g ∙ ap Some (sym ((same_name-Decides s t).0 e))) h)

pub number-push_same : (ss : List QualifiedName) (s : QualifiedName) → number_of ss s ≡ None → number_of (ss ++ s ∷ []) s ≡ Some (length ss)
number-push_same ss s h = position-push (same_name s) ss s ∙ rw (h, same_self s) refl

or_none : (o : Option ℕ) → option_or o None ≡ o
or_none (Some n) = refl
or_none None = refl

false_from : (b : Bool) {P : Type 0} → (b ≡ true → P) → (P → ⊥) → b ≡ false
false_from true f g = absurd (g (f refl))
false_from false f g = refl

pub number-push_other : (ss : List QualifiedName) (s t : QualifiedName) → (t ≡ s → ⊥) → number_of (ss ++ s ∷ []) t ≡ number_of ss t
number-push_other ss s t apart =
    let e : same_name t s ≡ false = false_from (same_name t s) (same_name-Decides t s).0 apart in
    position-push (same_name t) ss s ∙ (ap (λ b. option_or (number_of ss t) (cond b (Some (length ss)) None)) e ∙ or_none (number_of ss t))

or_true : (b : Bool) → (b || true) ≡ true
or_true true = refl
or_true false = refl

pub is_known-is : (ss : List QualifiedName) (s : QualifiedName) → is_known ss s ≡ is_some (number_of ss s)
is_known-is ss s = go (number_of ss s) refl
  where
    none : (xs : List QualifiedName) → ((k : ℕ) (x : QualifiedName) → slice_get xs k ≡ Some x → same_name s x ≡ false) → list_any (same_name s) xs ≡ false
    none [] h = refl
    none (x ∷ xs) h = rw (h 0 x refl) (none xs (λ k y g. h (k + 1) y (rw add-one g)))

    some : (xs : List QualifiedName) (k : ℕ) (x : QualifiedName) → slice_get xs k ≡ Some x → same_name s x ≡ true → list_any (same_name s) xs ≡ true
    some [] k x g h = cc
    some (y ∷ xs) zero x g h = let e : y ≡ x = cc in rw (ap (same_name s) e ∙ h) refl
    some (y ∷ xs) (suc k) x g h = rw (some xs k x g h) (or_true (same_name s y))

    go : (o : Option ℕ) → number_of ss s ≡ o → list_any (same_name s) ss ≡ is_some o
    go None e = none ss (λ k x g. unfound (same_name s) ss k x e g)
    go (Some n) e = let f = found (same_name s) ss n e in some ss n f.0 f.1 f.2

pub interned-known : (ss : List QualifiedName) (s : QualifiedName) (n : ℕ) → number_of ss s ≡ Some n → interned ss s ≡ ss
interned-known ss s n h = rw (is_known-is ss s, h) refl

pub interned-new : (ss : List QualifiedName) (s : QualifiedName) → number_of ss s ≡ None → interned ss s ≡ ss ++ s ∷ []
interned-new ss s h = rw (is_known-is ss s, h) refl

pub symbol_at-is : (ss : List QualifiedName) (n : ℕ) (s : QualifiedName) → IsSymbol ss n s → symbol_at ss n ≡ s
symbol_at-is ss n s h = ap (λ o. unwrap_or o no_name) h

pub symbol-at : (ss : List QualifiedName) (n : ℕ) → n < length ss → IsSymbol ss n (symbol_at ss n)
symbol-at ss n l = slice_get-get_or ss n no_name l ∙ ap Some (sym (unwrap_or-slice_get ss n no_name))

-- ---- packages

pub package_at-is : (ps : List Package) (n : ℕ) (p : Package) → IsPackage ps n p → package_at ps n ≡ p
package_at-is ps n p h = ap (λ o. unwrap_or o no_package) h

pub package-at : (ps : List Package) (n : ℕ) → n < length ps → IsPackage ps n (package_at ps n)
package-at ps n l = slice_get-get_or ps n no_package l ∙ ap Some (sym (unwrap_or-slice_get ps n no_package))

pub package-Some : (ps : List Package) (name : List ℕ) (n : ℕ) → package_number ps name ≡ Some n → (p : Package) × IsPackage ps n p × (p.name ≡ name)
package-Some ps name n h =
    let f = found (λ (p : Package). bytes_eq name p.name) ps n h in
    (f.0, f.1, sym ((bytes_eq-Decides name f.0.name).0 f.2))

pub package-None : (ps : List Package) (name : List ℕ) (n : ℕ) (p : Package) → package_number ps name ≡ None → IsPackage ps n p → p.name ≡ name → ⊥
package-None ps name n p h g e = true≢false (sym ((bytes_eq-Decides name p.name).1 (sym e)) ∙ unfound (λ (q : Package). bytes_eq name q.name) ps n p h g)

pub package-known : (ps : List Package) (n : ℕ) (p : Package) → AreApart ps → IsPackage ps n p → package_number ps p.name ≡ Some n
package-known ps n p d h = only_place (λ (q : Package). bytes_eq p.name q.name) ps n p h ((bytes_eq-Decides p.name p.name).1 refl)
    (λ j q g e. d j n q p g h (sym ((bytes_eq-Decides p.name q.name).0 e)))

pub package-push : (ps : List Package) (p : Package) (name : List ℕ) (n : ℕ) → package_number ps name ≡ Some n → package_number (ps ++ p ∷ []) name ≡ Some n
package-push ps p name n h = position-push (λ (q : Package). bytes_eq name q.name) ps p ∙ rw h refl

-- ---- imports

pub import-Some : (ss : List QualifiedName) (name : List ℕ) (s : QualifiedName) → import_of ss name ≡ Some s → (k : ℕ) × (slice_get ss k ≡ Some s) × (s.name ≡ name)
import-Some [] name s h = cc
import-Some (t ∷ ss) name s h = go (bytes_eq name t.name) refl h (import-Some ss name s)
  where
    go : (b : Bool) → bytes_eq name t.name ≡ b → cond b (Some t) (import_of ss name) ≡ Some s
        → (import_of ss name ≡ Some s → (k : ℕ) × (slice_get ss k ≡ Some s) × (s.name ≡ name))
        → (k : ℕ) × (slice_get (t ∷ ss) k ≡ Some s) × (s.name ≡ name)
    go true e h rest = let i : t ≡ s = cc in (0, h, ap (λ (x : QualifiedName). x.name) (sym i) ∙ sym ((bytes_eq-Decides name t.name).0 e))
    go false e h rest = let r = rest h in (suc r.0, r.1, r.2)

pub symbol_in-name : (p : Package) (name : List ℕ) → (symbol_in p name).name ≡ name
symbol_in-name p name = go (import_of p.imports name) refl
  where
    go : (o : Option QualifiedName) → import_of p.imports name ≡ o → (unwrap_or o (record { home = p.name; name = name })).name ≡ name
    go None e = refl
    go (Some s) e = (import-Some p.imports name s e).2
