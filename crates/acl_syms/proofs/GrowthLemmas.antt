-- The fields of a table, once a symbol or a package is put into them.
use Rattle.std.specs.Prelude.{◌≡◌, ℕ, zero, suc, ◌<◌, ◌≤◌, List, [], ◌∷◌, ◌++◌, length, map, set, Bool, true, false, Some, None, slice_get, refl, if◌then◌else◌, not, ◌&&◌, nat_lt, is_some}
use Rattle.std.proofs.Common.{get_or, sym, ap, ◌∙◌, arith, subst, ◌⊎◌, inl, inr}
use Rattle.std.specs.Str.{bytes_eq}
use Rattle.std.proofs.lemmas.List.{length-map, length-set, length_push, map_push}
use Rattle.std.proofs.lemmas.Bool.Decides.{nat_tests}
use Rattle.std.proofs.lemmas.Slice.Eq.{bytes_eq-Decides}
use Rattle.std.proofs.lemmas.Option.{slice_get_within}
use Rattle.model_symbols.specs.Symbols as model
use Rattle.model_symbols.specs.Symbols.{QualifiedName, Table, symbol_at, package_at, package_number, number_of, symbol_in, most_symbols, is_one_too_many}
use Rattle.model_symbols.specs.Growth.{IsPackage}
use Rattle.model_symbols.specs.Tables.{IsTable, number_in, symbols_at, symbol_under}
use Rattle.model_symbols.proofs.Positions.{slice_get-left, slice_get-last, slice_get-push}
use Rattle.model_symbols.proofs.NameLemmas.{symbol_is, number-Some, is_known-is, interned-known, interned-new, number-push_same, number-push_other, symbol-at, symbol_at-is}
use Rattle.model_symbols.proofs.TableLemmas.{own_symbol, new_is_own, new_is_only, IsTable-symbol}
use Rattle.acl_base.specs.declared.SymId.{SymId}
use Rattle.acl_syms.specs.Answers.{numbers, AreKnown, package_with, Interns}
use Rattle.acl_syms.specs.Fields.{name_of, names_of, symbol_of, symbols_of, package_of, packages_of, table_of, known_number, IsStored, AreFields, Learns}
use Rattle.acl_syms.specs.declared.Package.{Package}
use Rattle.acl_syms.specs.declared.Symbol.{Symbol}
use Rattle.acl_syms.proofs.FieldLemmas.{package-kept, home-kept, kept_package}

true_is_false : true ≡ false → ⊥
true_is_false e = cc

-- ---- one element changed

pub map_set_same : {X Y : Type 0} (f : X → Y) (xs : List X) (i : ℕ) (x y : X) → slice_get xs i ≡ Some x → f y ≡ f x → map f (set xs i y) ≡ map f xs
map_set_same f [] i x y h e = refl
map_set_same f (z ∷ xs) zero x y h e = let q : z ≡ x = cc in ap (λ k. k ∷ map f xs) (e ∙ ap f (sym q))
map_set_same f (z ∷ xs) (suc i) x y h e = ap (λ ks. f z ∷ ks) (map_set_same f xs i x y h e)

pub slice_get-set : {X : Type 0} (xs : List X) (i : ℕ) (y : X) (n : ℕ) (x : X) → slice_get (set xs i y) n ≡ Some x → ((n ≡ i) × (x ≡ y)) ⊎ ((slice_get xs n ≡ Some x) × (n ≡ i → ⊥))
slice_get-set [] i y n x h = cc
slice_get-set (z ∷ xs) zero y zero x h = inl (refl, cc)
slice_get-set (z ∷ xs) zero y (suc n) x h = inr (h, λ e. absurd (omega arith))
slice_get-set (z ∷ xs) (suc i) y zero x h = inr (h, λ e. absurd (omega arith))
slice_get-set (z ∷ xs) (suc i) y (suc n) x h = elim (slice_get-set xs i y n x h) [ inl a ↦ inl (ap suc a.0, a.1) | inr b ↦ inr (b.0, λ e. b.1 (omega arith)) ]

-- ---- packages that say the same of their names and imports

-- a package with the same name and imports
pub record IsLike (new old : Package) : Type 0 where
  pub name : new.name.items ≡ old.name.items
  pub imports : new.imports.items ≡ old.imports.items

pub package_of-like : (symbols : List QualifiedName) (new old : Package) → IsLike new old → package_of symbols new ≡ package_of symbols old
package_of-like symbols new old l = λ i. package_with symbols (l.name i) (l.imports i)

module _ (ps : List Package) (i : ℕ) (p q : Package) (at : slice_get ps i ≡ Some p) (like : IsLike q p) where
  pub names-set : names_of (set ps i q) ≡ names_of ps
  names-set = map_set_same name_of ps i p q at like.name

  pub symbols-set : (ss : List Symbol) → symbols_of (set ps i q) ss ≡ symbols_of ps ss
  symbols-set ss = ap (λ names. map (symbol_of names) ss) names-set

  pub packages-set : (symbols : List QualifiedName) → packages_of symbols (set ps i q) ≡ packages_of symbols ps
  packages-set symbols = map_set_same (package_of symbols) ps i p q at (package_of-like symbols q p like)

  pub table-set : (ss : List Symbol) → table_of (set ps i q) ss ≡ table_of ps ss
  table-set ss =
      ap (λ (x : List QualifiedName). record { packages = packages_of x (set ps i q); symbols = x }) (symbols-set ss)
      ∙ ap (λ (x : List model.Package). record { packages = x; symbols = symbols_of ps ss }) (packages-set (symbols_of ps ss))

-- ---- a package that knows the same

pub AreFields-same : (ps : List Package) (ss : List Symbol) (names : List (List ℕ)) → AreFields ps ss names → (i : ℕ) (p q : Package) → slice_get ps i ≡ Some p → IsLike q p
    → ((name : List ℕ) → known_number q name ≡ known_number p name) → AreFields (set ps i q) ss names
AreFields-same ps ss names f i p q at like knows = record {
  table = subst (λ (t : Table). IsTable t) (sym (table-set ps i p q at like ss)) f.table;
  homes = λ n s h. omega (arith, f.homes n s h, length-set ps i q);
  stored = λ n r h. subst (λ (x : List QualifiedName). IsStored x r) (sym (symbols-set ps i p q at like ss))
      (elim (slice_get-set ps i q n r h) [
        | inl a ↦ subst (λ (x : Package). IsStored (symbols_of ps ss) x) (sym a.1) (record {
          imports = subst (λ (x : List SymId). AreKnown (symbols_of ps ss) x) (sym like.imports) (f.stored i p at).imports;
          knows = λ name. knows name ∙ ((f.stored i p at).knows name ∙ ap (λ (x : model.Package). number_of (symbols_of ps ss) (symbol_in x name)) (sym (package_of-like (symbols_of ps ss) q p like)));
        })
        | inr b ↦ f.stored n r b.0
      ]);
  listed = f.listed ∙ sym (names-set ps i p q at like);
}

-- ---- one more symbol

pub symbols_at-left : (symbols : List QualifiedName) (x : QualifiedName) (ids : List SymId) → AreKnown symbols ids → symbols_at (symbols ++ x ∷ []) (numbers ids) ≡ symbols_at symbols (numbers ids)
symbols_at-left symbols x [] h = refl
symbols_at-left symbols x (s ∷ ids) h =
    let low : s.0 < length symbols = h 0 s (omega arith) in
    let e : symbol_at (symbols ++ x ∷ []) s.0 ≡ symbol_at symbols s.0 = symbol_at-is (symbols ++ x ∷ []) s.0 (symbol_at symbols s.0) (slice_get-left symbols (x ∷ []) s.0 (symbol_at symbols s.0) (symbol-at symbols s.0 low)) in
    let rest = symbols_at-left symbols x ids (λ k d l. h (suc k) d (omega arith)) in
    λ i. e i ∷ rest i

pub package_of-left : (symbols : List QualifiedName) (x : QualifiedName) (p : Package) → AreKnown symbols p.imports.items → package_of (symbols ++ x ∷ []) p ≡ package_of symbols p
package_of-left symbols x p h = ap (λ (ys : List QualifiedName). record { name = p.name.items; imports = ys }) (symbols_at-left symbols x p.imports.items h)

pub packages_of-left : (symbols : List QualifiedName) (x : QualifiedName) (ps : List Package) → ((n : ℕ) (p : Package) → slice_get ps n ≡ Some p → AreKnown symbols p.imports.items) → packages_of (symbols ++ x ∷ []) ps ≡ packages_of symbols ps
packages_of-left symbols x [] h = refl
packages_of-left symbols x (p ∷ ps) h =
    let e = package_of-left symbols x p (h 0 p refl) in
    let rest = packages_of-left symbols x ps (λ n q g. h (suc n) q g) in
    λ i. e i ∷ rest i

known-more : (symbols : List QualifiedName) (x : QualifiedName) (ids : List SymId) → AreKnown symbols ids → AreKnown (symbols ++ x ∷ []) ids
known-more symbols x ids h = λ k d l. omega (arith, h k d l, length_push symbols x)

module _ (ps : List Package) (ss : List Symbol) (names : List (List ℕ)) (f : AreFields ps ss names) (i : ℕ) (p q : Package) (at : slice_get ps i ≡ Some p) (like : IsLike q p)
    (s : Symbol) (name : List ℕ) (home : s.home.0 ≡ i) (named : s.name.items ≡ name)
    (unknown : number_of (symbols_of ps ss) (symbol_in (package_of (symbols_of ps ss) p) name) ≡ None) where
  here : IsPackage (packages_of (symbols_of ps ss) ps) i (package_of (symbols_of ps ss) p)
  here = package-kept (symbols_of ps ss) ps i p at

  pub symbols-put : symbols_of (set ps i q) (ss ++ s ∷ []) ≡ symbols_of ps ss ++ symbol_in (package_of (symbols_of ps ss) p) name ∷ []
  symbols-put =
      let own : symbol_of (names_of ps) s ≡ own_symbol (package_of (symbols_of ps ss) p) name = symbol_is (symbol_of (names_of ps) s) (own_symbol (package_of (symbols_of ps ss) p) name) (ap (λ n. get_or (names_of ps) n []) home ∙ home-kept ps i p at) named in
      let e : symbol_of (names_of ps) s ≡ symbol_in (package_of (symbols_of ps ss) p) name = own ∙ sym (new_is_own f.table i (package_of (symbols_of ps ss) p) here name unknown) in
      symbols-set ps i p q at like (ss ++ s ∷ []) ∙ (map_push (symbol_of (names_of ps)) ss s ∙ ap (λ (x : QualifiedName). symbols_of ps ss ++ x ∷ []) e)

  pub packages-put : packages_of (symbols_of ps ss ++ symbol_in (package_of (symbols_of ps ss) p) name ∷ []) (set ps i q) ≡ packages_of (symbols_of ps ss) ps
  packages-put =
      packages-set ps i p q at like (symbols_of ps ss ++ symbol_in (package_of (symbols_of ps ss) p) name ∷ [])
      ∙ packages_of-left (symbols_of ps ss) (symbol_in (package_of (symbols_of ps ss) p) name) ps (λ n r g. (f.stored n r g).imports)

  pub table-put : table_of (set ps i q) (ss ++ s ∷ []) ≡ record { packages = packages_of (symbols_of ps ss) ps; symbols = symbols_of ps ss ++ symbol_in (package_of (symbols_of ps ss) p) name ∷ [] }
  table-put =
      ap (λ (x : List QualifiedName). record { packages = packages_of x (set ps i q); symbols = x }) symbols-put
      ∙ ap (λ (x : List model.Package). record { packages = x; symbols = symbols_of ps ss ++ symbol_in (package_of (symbols_of ps ss) p) name ∷ [] }) packages-put

  module _ (learnt : Learns (λ k. k.items) p.known q.known name (length ss)) (room : length ss < most_symbols) where
    -- what each package knows, once the symbol is there
    changed : IsStored (symbols_of ps ss ++ symbol_in (package_of (symbols_of ps ss) p) name ∷ []) q
    changed =
        let x = symbol_in (package_of (symbols_of ps ss) p) name in
        let was = f.stored i p at in
        let same : package_of (symbols_of ps ss ++ x ∷ []) q ≡ package_of (symbols_of ps ss) p =
        package_of-like (symbols_of ps ss ++ x ∷ []) q p like ∙ package_of-left (symbols_of ps ss) x p was.imports in
        record {
          imports = subst (λ (ids : List SymId). AreKnown (symbols_of ps ss ++ x ∷ []) ids) (sym like.imports) (known-more (symbols_of ps ss) x p.imports.items was.imports);
          knows = λ other. learnt other ∙ (go other (bytes_eq other name) refl ∙ ap (λ (r : model.Package). number_of (symbols_of ps ss ++ x ∷ []) (symbol_in r other)) (sym same));
        }
      where
        go : (other : List ℕ) (b : Bool) → bytes_eq other name ≡ b
            → (if b then Some (length ss) else known_number p other) ≡ number_of (symbols_of ps ss ++ symbol_in (package_of (symbols_of ps ss) p) name ∷ []) (symbol_in (package_of (symbols_of ps ss) p) other)
        go other true e =
            sym (ap (λ n. number_of (symbols_of ps ss ++ symbol_in (package_of (symbols_of ps ss) p) name ∷ []) (symbol_in (package_of (symbols_of ps ss) p) n)) ((bytes_eq-Decides other name).0 e)
            ∙ (number-push_same (symbols_of ps ss) (symbol_in (package_of (symbols_of ps ss) p) name) unknown ∙ ap Some (length-map ss (symbol_of (names_of ps)))))
        go other false e =
            (f.stored i p at).knows other
            ∙ sym (number-push_other (symbols_of ps ss) (symbol_in (package_of (symbols_of ps ss) p) name) (symbol_in (package_of (symbols_of ps ss) p) other)
            (λ eq. true_is_false (sym ((bytes_eq-Decides other name).1 (new_is_only f.table i i (package_of (symbols_of ps ss) p) (package_of (symbols_of ps ss) p) here here name other unknown eq).1) ∙ e)))

    unchanged : (n : ℕ) (r : Package) → slice_get ps n ≡ Some r → (n ≡ i → ⊥) → IsStored (symbols_of ps ss ++ symbol_in (package_of (symbols_of ps ss) p) name ∷ []) r
    unchanged n r g apart =
        let x = symbol_in (package_of (symbols_of ps ss) p) name in
        let was = f.stored n r g in
        let same : package_of (symbols_of ps ss ++ x ∷ []) r ≡ package_of (symbols_of ps ss) r = package_of-left (symbols_of ps ss) x r was.imports in
        record {
          imports = known-more (symbols_of ps ss) x r.imports.items was.imports;
          knows = λ other.
              was.knows other
              ∙ (sym (number-push_other (symbols_of ps ss) x (symbol_in (package_of (symbols_of ps ss) r) other)
              (λ eq. apart (new_is_only f.table i n (package_of (symbols_of ps ss) p) (package_of (symbols_of ps ss) r) here (package-kept (symbols_of ps ss) ps n r g) name other unknown eq).0))
              ∙ ap (λ (y : model.Package). number_of (symbols_of ps ss ++ x ∷ []) (symbol_in y other)) (sym same));
        }

    pub AreFields-symbol : AreFields (set ps i q) (ss ++ s ∷ []) names
    AreFields-symbol = record {
      table = subst (λ (t : Table). IsTable t) (sym table-put)
          (IsTable-symbol (table_of ps ss) f.table i (package_of (symbols_of ps ss) p) here name unknown (omega (arith, room, length-map ss (symbol_of (names_of ps)))));
      homes = λ n r h. elim (slice_get-push ss s n r h) [
        | inl a ↦ omega (arith, f.homes n r a, length-set ps i q)
        | inr b ↦ omega (arith, ap (λ (y : Symbol). y.home.0) b.1, home, slice_get_within ps i p at, length-set ps i q)
      ];
      stored = λ n r h. subst (λ (y : List QualifiedName). IsStored y r) (sym symbols-put) (by_place n r h);
      listed = f.listed ∙ sym (names-set ps i p q at like);
    }
      where
        by_place : (n : ℕ) (r : Package) → slice_get (set ps i q) n ≡ Some r → IsStored (symbols_of ps ss ++ symbol_in (package_of (symbols_of ps ss) p) name ∷ []) r
        by_place n r h = elim (slice_get-set ps i q n r h) [
          | inl a ↦ subst (λ (y : Package). IsStored (symbols_of ps ss ++ symbol_in (package_of (symbols_of ps ss) p) name ∷ []) y) (sym a.1) changed
          | inr b ↦ unchanged n r b.0 b.1
        ]

-- ---- a name that a package does not have

pub unknown_at : (ps : List Package) (ss : List Symbol) (names : List (List ℕ)) (t : Table) → AreFields ps ss names → table_of ps ss ≡ t → (i : ℕ) (p : Package) → slice_get ps i ≡ Some p
    → (name : List ℕ) → number_in t i name ≡ None → known_number p name ≡ None
unknown_at ps ss names t f view i p at name h =
    (kept_package ps ss names f i p at).knows name ∙ (ap (λ (x : Table). number_in x i name) view ∙ h)

pub unknown_symbol : (ps : List Package) (ss : List Symbol) (names : List (List ℕ)) (t : Table) → AreFields ps ss names → table_of ps ss ≡ t → (i : ℕ) (p : Package) → slice_get ps i ≡ Some p
    → (name : List ℕ) → number_in t i name ≡ None → number_of (symbols_of ps ss) (symbol_in (package_of (symbols_of ps ss) p) name) ≡ None
unknown_symbol ps ss names t f view i p at name h =
    sym ((f.stored i p at).knows name) ∙ unknown_at ps ss names t f view i p at name h

-- ---- what interning answers

pub interns_known : (t : Table) (i : ℕ) (name : List ℕ) (n : ℕ) → number_in t i name ≡ Some n → Interns t t i name n
interns_known t i name n h = record {
  table = ap (λ (x : List QualifiedName). record { packages = t.packages; symbols = x }) (sym (interned-known t.symbols (symbol_under t i name) n h));
  number = number-Some t.symbols (symbol_under t i name) n h;
  room = ap (λ b. not b && not (nat_lt (length t.symbols) most_symbols)) (is_known-is t.symbols (symbol_under t i name) ∙ ap is_some h);
}

pub one_too_many : (t : Table) (i : ℕ) (name : List ℕ) → number_in t i name ≡ None → most_symbols ≤ length t.symbols → is_one_too_many t.symbols (symbol_under t i name) ≡ true
one_too_many t i name h l =
    let e : nat_lt (length t.symbols) most_symbols ≡ false = grind (arith, nat_tests) in
    ap (λ b. not b && not (nat_lt (length t.symbols) most_symbols)) (is_known-is t.symbols (symbol_under t i name) ∙ ap is_some h) ∙ ap not e

pub has_room : (t : Table) (i : ℕ) (name : List ℕ) → number_in t i name ≡ None → length t.symbols < most_symbols → is_one_too_many t.symbols (symbol_under t i name) ≡ false
has_room t i name h l =
    let e : nat_lt (length t.symbols) most_symbols ≡ true = grind (arith, nat_tests) in
    ap (λ b. not b && not (nat_lt (length t.symbols) most_symbols)) (is_known-is t.symbols (symbol_under t i name) ∙ ap is_some h) ∙ ap not e

pub interns_new : (t new : Table) (i : ℕ) (name : List ℕ) (n : ℕ) → number_in t i name ≡ None → length t.symbols < most_symbols
    → new ≡ record { packages = t.packages; symbols = t.symbols ++ symbol_under t i name ∷ [] } → n ≡ length t.symbols → Interns t new i name n
interns_new t new i name n h l e at = record {
  table = e ∙ ap (λ (x : List QualifiedName). record { packages = t.packages; symbols = x }) (sym (interned-new t.symbols (symbol_under t i name) h));
  number = ap (λ (x : Table). slice_get x.symbols n) e ∙ (ap (slice_get (t.symbols ++ symbol_under t i name ∷ [])) at ∙ slice_get-last t.symbols (symbol_under t i name));
  room = has_room t i name h l;
}

-- the table that the fields make with the symbol put in
pub table_put : (ps : List Package) (ss : List Symbol) (names : List (List ℕ)) (t : Table) (f : AreFields ps ss names) → table_of ps ss ≡ t → (i : ℕ) (p q : Package) → slice_get ps i ≡ Some p → IsLike q p
    → (s : Symbol) (name : List ℕ) → s.home.0 ≡ i → s.name.items ≡ name → number_in t i name ≡ None
    → table_of (set ps i q) (ss ++ s ∷ []) ≡ record { packages = t.packages; symbols = t.symbols ++ symbol_under t i name ∷ [] }
table_put ps ss names t f view i p q at like s name home named h =
    table-put ps ss names f i p q at like s name home named (unknown_symbol ps ss names t f view i p at name h)
    ∙ (ap (λ (r : model.Package). record { packages = packages_of (symbols_of ps ss) ps; symbols = symbols_of ps ss ++ symbol_in r name ∷ [] }) (kept_package ps ss names f i p at).is
    ∙ ap (λ (x : Table). record { packages = x.packages; symbols = x.symbols ++ symbol_under x i name ∷ [] }) view)
