-- A table stays one when it takes a symbol or a package, and it extends what it was.
use Rattle.std.specs.Prelude.{◌≡◌, ℕ, ◌<◌, List, [], ◌∷◌, ◌++◌, length, Option, Some, None, slice_get, refl, unwrap_or}
use Rattle.std.proofs.Common.{sym, ap, ◌∙◌, arith, ◌⊎◌, inl, inr}
use Rattle.std.proofs.lemmas.List.{length_push}
use Rattle.model_symbols.specs.Symbols.{QualifiedName, Package, Table, number_of, package_number, import_of, symbol_in, interned, import_clash, most_symbols}
use Rattle.model_symbols.specs.Growth.{IsSymbol, IsPackage, Extends}
use Rattle.model_symbols.specs.Tables.{no_table, with_symbol, with_package, IsTable}
use Rattle.model_symbols.proofs.Positions.{slice_get-left, slice_get-push}
use Rattle.model_symbols.proofs.NameLemmas.{number-None, interned-known, interned-new, package-Some, package-None, package-known, package-push, import-Some}

-- the symbol that a package's own is
abbrev pub own_symbol : Package → List ℕ → QualifiedName
own_symbol p name = record { home = p.name; name = name }

-- ---- growth

pub Extends-self : (t : Table) → Extends t t
Extends-self t = record { longer = omega arith; same = λ n s h. h; more_packages = omega arith; same_package = λ n p h. h }

pub Extends-then : {a b c : Table} → Extends a b → Extends b c → Extends a c
Extends-then {a} {b} {c} e f = record {
  longer = omega (arith, e.longer, f.longer);
  same = λ n s h. f.same n s (e.same n s h);
  more_packages = omega (arith, e.more_packages, f.more_packages);
  same_package = λ n p h. f.same_package n p (e.same_package n p h);
}

pub Extends-symbol : (t : Table) (s : QualifiedName) → Extends t (with_symbol t s)
Extends-symbol t s = go (number_of t.symbols s) refl
  where
    grown : (ss : List QualifiedName) → (ss ≡ t.symbols) ⊎ (ss ≡ t.symbols ++ s ∷ []) → Extends t (record { packages = t.packages; symbols = ss })
    grown ss (inl e) = record { longer = omega (arith, ap length e); same = λ n x h. ap (λ xs. slice_get xs n) e ∙ h; more_packages = omega arith; same_package = λ n p h. h }
    grown ss (inr e) = record {
      longer = omega (arith, ap length e, length_push t.symbols s);
      same = λ n x h. ap (λ xs. slice_get xs n) e ∙ slice_get-left t.symbols (s ∷ []) n x h;
      more_packages = omega arith;
      same_package = λ n p h. h;
    }

    go : (o : Option ℕ) → number_of t.symbols s ≡ o → Extends t (with_symbol t s)
    go None e = grown (interned t.symbols s) (inr (interned-new t.symbols s e))
    go (Some n) e = grown (interned t.symbols s) (inl (interned-known t.symbols s n e))

pub Extends-package : (t : Table) (p : Package) → Extends t (with_package t p)
Extends-package t p = record {
  longer = omega arith;
  same = λ n s h. h;
  more_packages = omega (arith, length_push t.packages p);
  same_package = λ n q h. slice_get-left t.packages (p ∷ []) n q h;
}

-- ---- a new symbol

pub own_or_known : {t : Table} → IsTable t → (i : ℕ) (p : Package) → IsPackage t.packages i p → (name : List ℕ)
    → (symbol_in p name ≡ own_symbol p name) ⊎ ((n : ℕ) × IsSymbol t.symbols n (symbol_in p name))
own_or_known {t} is i p at name = go (import_of p.imports name) refl
  where
    go : (o : Option QualifiedName) → import_of p.imports name ≡ o
        → (unwrap_or o (own_symbol p name) ≡ own_symbol p name) ⊎ ((n : ℕ) × IsSymbol t.symbols n (unwrap_or o (own_symbol p name)))
    go None e = inl refl
    go (Some s) e = let f = import-Some p.imports name s e in inr (is.imports i f.0 p s at f.1)

-- a symbol that is not known is its package's own
pub new_is_own : {t : Table} → IsTable t → (i : ℕ) (p : Package) → IsPackage t.packages i p → (name : List ℕ)
    → number_of t.symbols (symbol_in p name) ≡ None → symbol_in p name ≡ own_symbol p name
new_is_own {t} is i p at name new = elim (own_or_known is i p at name) [
  | inl e ↦ e
  | inr k ↦ absurd (number-None t.symbols (symbol_in p name) k.0 new k.1)
]

-- and no other package has it under any name
pub new_is_only : {t : Table} → IsTable t → (i j : ℕ) (p q : Package) → IsPackage t.packages i p → IsPackage t.packages j q → (name other : List ℕ)
    → number_of t.symbols (symbol_in p name) ≡ None → symbol_in q other ≡ symbol_in p name → (j ≡ i) × (other ≡ name)
new_is_only {t} is i j p q at under name other new same = elim (own_or_known is j q under other) [
  | inl e ↦
      let h : own_symbol q other ≡ own_symbol p name = sym e ∙ (same ∙ new_is_own is i p at name new) in
      (is.apart j i q p under at (ap (λ (s : QualifiedName). s.home) h), ap (λ (s : QualifiedName). s.name) h)
  | inr k ↦ absurd (number-None t.symbols (symbol_in p name) k.0 new (k.1 ∙ ap Some same))
]

pub IsTable-symbol : (t : Table) → IsTable t → (i : ℕ) (p : Package) → IsPackage t.packages i p → (name : List ℕ)
    → number_of t.symbols (symbol_in p name) ≡ None → length t.symbols < most_symbols
    → IsTable (record { packages = t.packages; symbols = t.symbols ++ symbol_in p name ∷ [] })
IsTable-symbol t is i p at name new room =
    let s = symbol_in p name in
    let own = new_is_own is i p at name new in
    let split = slice_get-push t.symbols s in
    record {
      distinct = λ m n x h g. elim (split m x h) [
        | inl a ↦ elim (split n x g) [
          | inl b ↦ is.distinct m n x a b
          | inr b ↦ absurd (number-None t.symbols s m new (a ∙ ap Some b.1))
        ]
        | inr a ↦ elim (split n x g) [
          | inl b ↦ absurd (number-None t.symbols s n new (b ∙ ap Some a.1))
          | inr b ↦ a.0 ∙ sym b.0
        ]
      ];
      apart = is.apart;
      homes = λ n x h. elim (split n x h) [
        | inl a ↦ is.homes n x a
        | inr a ↦ (i, ap (package_number t.packages) (ap (λ (y : QualifiedName). y.home) (a.1 ∙ own)) ∙ package-known t.packages i p is.apart at)
      ];
      imports = λ m k q x h g. let r = is.imports m k q x h g in (r.0, slice_get-left t.symbols (s ∷ []) r.0 x r.1);
      no_clash = is.no_clash;
      own = λ n m x q h g e. elim (split n x h) [
        | inl a ↦ is.own n m x q a g e
        | inr a ↦
            let b : x ≡ own_symbol p name = a.1 ∙ own in
            let j : m ≡ i = is.apart m i q p g at (e ∙ ap (λ (y : QualifiedName). y.home) b) in
            let r : q ≡ p = some_same (sym g ∙ (ap (slice_get t.packages) j ∙ at)) in
            ap (λ (y : List ℕ). symbol_in q y) (ap (λ (y : QualifiedName). y.name) b) ∙ (ap (λ (y : Package). symbol_in y name) r ∙ sym a.1)
      ];
      few = omega (arith, length_push t.symbols s, room);
    }
  where
    some_same : {X : Type 0} {a b : X} → Some a ≡ Some b → a ≡ b
    some_same h = cc

-- ---- a new package

pub IsTable-package : (t : Table) → IsTable t → (p : Package) → package_number t.packages p.name ≡ None
    → ((k : ℕ) (s : QualifiedName) → slice_get p.imports k ≡ Some s → (n : ℕ) × IsSymbol t.symbols n s)
    → import_clash p.imports ≡ None → IsTable (with_package t p)
IsTable-package t is p new known no_clash =
    let split = slice_get-push t.packages p in
    record {
      distinct = is.distinct;
      apart = λ m n a b h g e. elim (split m a h) [
        | inl x ↦ elim (split n b g) [
          | inl y ↦ is.apart m n a b x y e
          | inr y ↦ absurd (package-None t.packages p.name m a new x (e ∙ ap (λ (q : Package). q.name) y.1))
        ]
        | inr x ↦ elim (split n b g) [
          | inl y ↦ absurd (package-None t.packages p.name n b new y (sym e ∙ ap (λ (q : Package). q.name) x.1))
          | inr y ↦ x.0 ∙ sym y.0
        ]
      ];
      homes = λ n s h. let r = is.homes n s h in (r.0, package-push t.packages p s.home r.0 r.1);
      imports = λ m k q s h g. elim (split m q h) [
        | inl x ↦ is.imports m k q s x g
        | inr x ↦ known k s (ap (λ (y : Package). slice_get y.imports k) (sym x.1) ∙ g)
      ];
      no_clash = λ m q h. elim (split m q h) [ inl x ↦ is.no_clash m q x | inr x ↦ ap (λ (y : Package). import_clash y.imports) x.1 ∙ no_clash ];
      own = λ n m s q h g e. elim (split m q g) [
        | inl x ↦ is.own n m s q h x e
        | inr x ↦
            let r = is.homes n s h in
            let f = package-Some t.packages s.home r.0 r.1 in
            absurd (package-None t.packages p.name r.0 f.0 new f.1 (f.2 ∙ (sym e ∙ ap (λ (y : Package). y.name) x.1)))
      ];
      few = is.few;
    }

pub IsTable-empty : IsTable no_table
IsTable-empty = record {
  distinct = λ m n s h g. cc;
  apart = λ m n p q h g e. cc;
  homes = λ n s h. cc;
  imports = λ m k p s h g. cc;
  no_clash = λ m p h. cc;
  own = λ n m s p h g e. cc;
  few = omega arith;
}

pub empty_table : IsTable no_table
empty_table = IsTable-empty

pub ruleset table_growth = (Extends-then, Extends-self)
