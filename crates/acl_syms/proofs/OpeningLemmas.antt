-- Many symbols made known one after another, and the opening table step by step.
use Rattle.std.specs.Prelude.{◌≡◌, ℕ, ◌+◌, ◌<◌, ◌≤◌, List, [], ◌∷◌, ◌++◌, length, map, take, Bool, true, false, ◌&&◌, ◌||◌, not, Option, Some, None, refl, if◌then◌else◌, unwrap_or}
use Rattle.std.proofs.Common.{get_or, sym, ap, ◌∙◌, arith, true≢false}
use Rattle.std.specs.List.{list_any}
use Rattle.std.specs.Str.{bytes_eq}
use Rattle.std.proofs.lemmas.List.{length-take-le, ext_get_or, get_or-map, take_more, map_push, length_push, length-map}
use Rattle.std.proofs.lemmas.Bool.{and_parts}
use Rattle.std.proofs.lemmas.Option.{unwrap_or-slice_get}
use Rattle.model_symbols.specs.Symbols.{QualifiedName, Table, is_known, interned, all_interned, symbol_at, symbol_in, import_of, no_name}
use Rattle.model_symbols.specs.Opening.{symbols_of}
use Rattle.model_symbols.specs.Tables.{with_symbol, symbol_under, symbols_at}
use Rattle.acl_base.specs.declared.SymId.{SymId}
use Rattle.acl_syms.specs.Answers.{numbers}
use Rattle.acl_syms.specs.Opening.{with_all, names_in, AreFirst}

-- ---- one by one

pub all_interned-push : (ss xs : List QualifiedName) (x : QualifiedName) → all_interned ss (xs ++ x ∷ []) ≡ interned (all_interned ss xs) x
all_interned-push ss [] x = refl
all_interned-push ss (y ∷ xs) x = all_interned-push (interned ss y) xs x

length-interned : (ss : List QualifiedName) (s : QualifiedName) → length (interned ss s) ≤ length ss + 1
length-interned ss s = go (is_known ss s)
  where
    go : (b : Bool) → length (if b then ss else (ss ++ s ∷ [])) ≤ length ss + 1
    go true = omega arith
    go false = omega (arith, length_push ss s)

pub length-all_interned : (ss xs : List QualifiedName) → length (all_interned ss xs) ≤ length ss + length xs
length-all_interned ss [] = omega arith
length-all_interned ss (x ∷ xs) = omega (arith, length-interned ss x, length-all_interned (interned ss x) xs)

pub with_all-more : (t u v : Table) (p : ℕ) (names : List (List ℕ)) (i : ℕ) (name : List ℕ) → u ≡ with_all t (names_in t p (take i names)) → i < length names → name ≡ get_or names i []
    → v ≡ with_symbol u (symbol_under u p name) → v ≡ with_all t (names_in t p (take (i + 1) names))
with_all-more t u v p names i name e l n h =
    let more : names_in t p (take (i + 1) names) ≡ names_in t p (take i names) ++ symbol_under t p name ∷ [] =
    ap (names_in t p) (take_more names i [] l) ∙ (map_push (symbol_under t p) (take i names) (get_or names i []) ∙ ap (λ (x : List ℕ). names_in t p (take i names) ++ symbol_under t p x ∷ []) (sym n)) in
    h ∙ (ap (λ (x : Table). with_symbol x (symbol_under x p name)) e
    ∙ ap (λ (x : List QualifiedName). record { packages = t.packages; symbols = x }) (sym (ap (all_interned t.symbols) more ∙ all_interned-push t.symbols (names_in t p (take i names)) (symbol_under t p name))))

pub room_left : (t u : Table) (p : ℕ) (names : List (List ℕ)) (i : ℕ) → u ≡ with_all t (names_in t p (take i names)) → i ≤ length names → length u.symbols ≤ length t.symbols + i
room_left t u p names i e l =
    omega (arith, length-take-le i names l, ap (λ (x : Table). length x.symbols) e, length-all_interned t.symbols (names_in t p (take i names)), length-map (take i names) (symbol_under t p))

-- ---- the first symbols

pub symbols_at_first : (ss : List QualifiedName) (ids : List SymId) → AreFirst (length ss) ids → symbols_at ss (numbers ids) ≡ ss
symbols_at_first ss ids f = ext_get_or no_name (symbols_at ss (numbers ids)) ss
    (omega (arith, f.many, length-map (numbers ids) (symbol_at ss), length-map ids (λ (s : SymId). s.0)))
    (λ i l.
    let low : i < length ids = omega (arith, l, length-map (numbers ids) (symbol_at ss), length-map ids (λ (s : SymId). s.0)) in
    let low' : i < length (numbers ids) = omega (arith, low, length-map ids (λ (s : SymId). s.0)) in
    let d : SymId = record { 0 = 0 } in
    let n : get_or (numbers ids) i 0 ≡ i = get_or-map (λ (s : SymId). s.0) ids i d 0 low ∙ f.each i d low in
    get_or-map (symbol_at ss) (numbers ids) i 0 no_name low' ∙ (ap (symbol_at ss) n ∙ unwrap_or-slice_get ss i no_name))

-- ---- names that a package does not import

not_imported : (home : List ℕ) (xs : List (List ℕ)) (name : List ℕ) → list_any (bytes_eq name) xs ≡ false → import_of (symbols_of home xs) name ≡ None
not_imported home [] name h = refl
not_imported home (x ∷ xs) name h = go (bytes_eq name x) h (not_imported home xs name)
  where
    go : (b : Bool) → (b || list_any (bytes_eq name) xs) ≡ false → (list_any (bytes_eq name) xs ≡ false → import_of (symbols_of home xs) name ≡ None)
        → (if b then Some (record { home = home; name = x }) else import_of (symbols_of home xs) name) ≡ None
    go true g rest = absurd (true≢false g)
    go false g rest = rest g

-- none of the names is among the others
abbrev pub are_others : List (List ℕ) → List (List ℕ) → Bool
are_others xs [] = true
are_others xs (n ∷ ns) = not (list_any (bytes_eq n) xs) && are_others xs ns

not_false : (b : Bool) → not b ≡ true → b ≡ false
not_false true h = sym h
not_false false h = refl

pub own_names : (name home : List ℕ) (xs ns : List (List ℕ)) → are_others xs ns ≡ true → map (symbol_in (record { name = name; imports = symbols_of home xs })) ns ≡ symbols_of name ns
own_names name home xs [] h = refl
own_names name home xs (n ∷ ns) h =
    let s = and_parts (not (list_any (bytes_eq n) xs)) (are_others xs ns) h in
    let e : symbol_in (record { name = name; imports = symbols_of home xs }) n ≡ record { home = name; name = n } =
    ap (λ (o : Option QualifiedName). unwrap_or o (record { home = name; name = n })) (not_imported home xs n (not_false (list_any (bytes_eq n) xs) s.0)) in
    let rest = own_names name home xs ns s.1 in
    λ i. e i ∷ rest i
