-- The fields of a table, once a package is put into them.
use Rattle.std.specs.Prelude.{◌≡◌, ℕ, zero, suc, ◌<◌, List, [], ◌∷◌, ◌++◌, length, map, Option, Some, None, slice_get, refl, unwrap_or, false, ◌||◌, position, if◌then◌else◌}
use Rattle.std.specs.List.{list_any}
use Rattle.std.specs.Str.{bytes_eq}
use Rattle.std.proofs.Common.{sym, ap, ◌∙◌, arith, subst, inl, inr}
use Rattle.std.proofs.lemmas.List.{length-map, length_push, map_push, get_or_append_left}
use Rattle.std.specs.Option.{option_and_then}
use Rattle.model_symbols.specs.Symbols as model
use Rattle.model_symbols.specs.Symbols.{QualifiedName, Table, symbol_at, package_number, number_of, import_of, symbol_in}
use Rattle.model_symbols.specs.Growth.{IsSymbol}
use Rattle.model_symbols.specs.Tables.{IsTable, symbols_at, with_package}
use Rattle.model_symbols.proofs.Positions.{slice_get-push, unfound, none_later}
use Rattle.model_symbols.proofs.NameLemmas.{number-Some, symbol-at}
use Rattle.model_symbols.proofs.TableLemmas.{own_symbol, IsTable-package}
use Rattle.acl_base.specs.declared.SymId.{SymId}
use Rattle.acl_syms.specs.Answers.{numbers, AreKnown}
use Rattle.acl_syms.specs.Fields.{name_of, names_of, symbol_of, symbols_of, package_of, packages_of, table_of, IsStored, AreFields}
use Rattle.acl_syms.specs.Imports.{Gathers}
use Rattle.acl_syms.specs.declared.Package.{Package}
use Rattle.acl_syms.specs.declared.Symbol.{Symbol}

none_some : {n : ℕ} → Some n ≡ None → ⊥
none_some h = cc

-- ---- a name put last

pub key_absent : {K : Type 0} (items : K → List ℕ) (ks : List K) (name : List ℕ) → position (bytes_eq name) (map items ks) ≡ None → list_any (λ k. bytes_eq name (items k)) ks ≡ false
key_absent items [] name h = refl
key_absent items (k ∷ ks) name h =
    let first : bytes_eq name (items k) ≡ false = unfound (bytes_eq name) (map items (k ∷ ks)) 0 (items k) h refl in
    let rest : position (bytes_eq name) (map items ks) ≡ None = none_later (bytes_eq name) (items k) (map items ks) first h in
    ap (λ b. b || list_any (λ x. bytes_eq name (items x)) ks) first ∙ key_absent items ks name rest

pub keys_put : {K : Type 0} (items : K → List ℕ) (old new : List K) (key : K) → position (bytes_eq (items key)) (map items old) ≡ None
    → new ≡ (if list_any (λ k. bytes_eq (items key) (items k)) old then old else (old ++ key ∷ [])) → map items new ≡ map items old ++ items key ∷ []
keys_put items old new key h e =
    ap (map items) (e ∙ ap (λ b. if b then old else (old ++ key ∷ [])) (key_absent items old (items key) h)) ∙ map_push items old key

-- ---- imports are known

imports-known : (symbols : List QualifiedName) (ids : List SymId) → AreKnown symbols ids → (k : ℕ) (s : QualifiedName) → slice_get (symbols_at symbols (numbers ids)) k ≡ Some s → (n : ℕ) × IsSymbol symbols n s
imports-known symbols [] h k s g = cc
imports-known symbols (i ∷ ids) h zero s g =
    let low : i.0 < length symbols = h 0 i (omega arith) in
    (i.0, symbol-at symbols i.0 low ∙ g)
imports-known symbols (i ∷ ids) h (suc k) s g = imports-known symbols ids (λ j d l. h (suc j) d (omega arith)) k s g

-- ---- symbols among more packages

symbols-more : (ps : List Package) (p : Package) (ss : List Symbol) → ((n : ℕ) (s : Symbol) → slice_get ss n ≡ Some s → s.home.0 < length ps) → symbols_of (ps ++ p ∷ []) ss ≡ symbols_of ps ss
symbols-more ps p ss h = ap (λ names. map (symbol_of names) ss) (map_push name_of ps p) ∙ among ss h
  where
    among : (xs : List Symbol) → ((n : ℕ) (s : Symbol) → slice_get xs n ≡ Some s → s.home.0 < length ps) → map (symbol_of (names_of ps ++ name_of p ∷ [])) xs ≡ map (symbol_of (names_of ps)) xs
    among [] g = refl
    among (s ∷ xs) g =
        let low : s.home.0 < length (names_of ps) = omega (arith, g 0 s refl, length-map ps name_of) in
        let e = get_or_append_left (names_of ps) (name_of p ∷ []) [] s.home.0 low in
        let rest = among xs (λ n t q. g (suc n) t q) in
        λ i. record { home = e i; name = s.name.items } ∷ rest i

module _ (ps : List Package) (ss : List Symbol) (names : List (List ℕ)) (f : AreFields ps ss names) (p : Package) where
  pub symbols-added : symbols_of (ps ++ p ∷ []) ss ≡ symbols_of ps ss
  symbols-added = symbols-more ps p ss f.homes

  pub table-added : table_of (ps ++ p ∷ []) ss ≡ with_package (table_of ps ss) (package_of (symbols_of ps ss) p)
  table-added =
      ap (λ (x : List QualifiedName). record { packages = packages_of x (ps ++ p ∷ []); symbols = x }) symbols-added
      ∙ ap (λ (x : List model.Package). record { packages = x; symbols = symbols_of ps ss }) (map_push (package_of (symbols_of ps ss)) ps p)

  module _ (fresh : package_number (packages_of (symbols_of ps ss) ps) p.name.items ≡ None) (known : AreKnown (symbols_of ps ss) p.imports.items)
      (g : Gathers (λ k. k.items) (symbols_of ps ss) (symbols_at (symbols_of ps ss) (numbers p.imports.items)) p.known) where
    -- no symbol of the new package is known
    none_yet : (name : List ℕ) → number_of (symbols_of ps ss) (own_symbol (package_of (symbols_of ps ss) p) name) ≡ None
    none_yet name = go (number_of (symbols_of ps ss) (own_symbol (package_of (symbols_of ps ss) p) name)) refl
      where
        go : (o : Option ℕ) → number_of (symbols_of ps ss) (own_symbol (package_of (symbols_of ps ss) p) name) ≡ o → number_of (symbols_of ps ss) (own_symbol (package_of (symbols_of ps ss) p) name) ≡ None
        go None e = e
        go (Some n) e =
            let r = f.table.homes n (own_symbol (package_of (symbols_of ps ss) p) name) (number-Some (symbols_of ps ss) (own_symbol (package_of (symbols_of ps ss) p) name) n e) in
            absurd (none_some (sym r.1 ∙ fresh))

    stored : IsStored (symbols_of ps ss) p
    stored = record {
      imports = known;
      knows = λ name. g.knows name ∙ go name (import_of (symbols_at (symbols_of ps ss) (numbers p.imports.items)) name);
    }
      where
        go : (name : List ℕ) (o : Option QualifiedName) → option_and_then (number_of (symbols_of ps ss)) o ≡ number_of (symbols_of ps ss) (unwrap_or o (own_symbol (package_of (symbols_of ps ss) p) name))
        go name None = sym (none_yet name)
        go name (Some s) = refl

    pub AreFields-package : AreFields (ps ++ p ∷ []) ss (names ++ p.name.items ∷ [])
    AreFields-package = record {
      table = subst (λ (t : Table). IsTable t) (sym table-added)
          (IsTable-package (table_of ps ss) f.table (package_of (symbols_of ps ss) p) fresh (imports-known (symbols_of ps ss) p.imports.items known) g.no_clash);
      homes = λ n s h. omega (arith, f.homes n s h, length_push ps p);
      stored = λ n r h. subst (λ (x : List QualifiedName). IsStored x r) (sym symbols-added)
          (elim (slice_get-push ps p n r h) [ inl a ↦ f.stored n r a | inr b ↦ subst (λ (x : Package). IsStored (symbols_of ps ss) x) (sym b.1) stored ]);
      listed = ap (λ (x : List (List ℕ)). x ++ p.name.items ∷ []) f.listed ∙ sym (map_push name_of ps p);
    }
