-- The session that every run begins with is known: its symbols are a table, and those of its constants are among them.
use Rattle.std.proofs.Common.{◌≡◌, ℕ, zero, suc, List, [], ◌∷◌, ◌++◌, length, Bool, true, false, Option, Some, None, refl, sym, ap, ◌∙◌, subst, arith, true≢false}
use Rattle.std.specs.Prelude.{◌&&◌, ◌||◌, not, nat_lt, is_some, slice_get, if◌then◌else◌}
use Rattle.std.specs.List.{list_all, list_any}
use Rattle.std.specs.Str.{bytes_eq}
use Rattle.std.proofs.lemmas.Bool.{and_parts}
use Rattle.std.proofs.lemmas.Bool.Decides.{nat_tests}
use Rattle.std.proofs.lemmas.Slice.Eq.{bytes_eq-Decides}
use Rattle.model_objects.specs.Object.{Object, Integer, Symbol, Text, Pair}
use Rattle.model_objects.specs.Named.{Knows}
use Rattle.model_symbols.specs.Symbols.{QualifiedName, Package, same_name, package_number, symbol_in, import_clash}
use Rattle.model_symbols.specs.Growth.{IsSymbol, IsPackage}
use Rattle.model_symbols.specs.Tables.{IsTable}
use Rattle.model_symbols.specs.Opening.{common_lisp_text, acl2_text, common_lisp_symbols, acl2_symbols, hidden_symbols, without_imports, common_lisp, keyword, hidden, acl2_package, opening}
use Rattle.model_symbols.proofs.Positions.{slice_get-left}
use Rattle.model_symbols.proofs.NameLemmas.{same_name-Decides}
use Rattle.model_symbols.proofs.LawLemmas.{opens_right}
use Rattle.model_prims.specs.Rows.{Row, table}
use Rattle.model_terms.specs.Worlds.{World}
use Rattle.model_expansion.specs.Forms.{list}
use Rattle.model_books.specs.Opening.{primitive_numbers, primitives_named, symbols_from, first_export, opening_constants, opening_world, opening_session}
use Rattle.model_made.proofs.WorldLemmas.{EachDefinition, each_found}
use Rattle.model_made_logic.specs.Known.{KnowsDefinition, KnowsDefinitions, IsKnownSession}

-- ---- tests over lists

module _ {A : Type 0} (key : A → List ℕ) where
  -- no two have one key
  abbrev pub differ : List A → Bool
  differ [] = true
  differ (x ∷ xs) = not (list_any (λ (y : A). bytes_eq (key x) (key y)) xs) && differ xs

  not_later : (x : A) (xs : List A) → not (list_any (λ (y : A). bytes_eq (key x) (key y)) xs) ≡ true → (n : ℕ) (b : A) → slice_get xs n ≡ Some b → key x ≡ key b → ⊥
  not_later x [] h n b e same = cc
  not_later x (y ∷ xs) h zero b e same =
      let here : y ≡ b = cc in
      go (bytes_eq (key x) (key y)) ((bytes_eq-Decides (key x) (key y)).1 (same ∙ ap key (sym here))) h
    where
      go : (q : Bool) → q ≡ true → not (q || list_any (λ (z : A). bytes_eq (key x) (key z)) xs) ≡ true → ⊥
      go true f g = true≢false (sym g)
      go false f g = true≢false (sym f)
  not_later x (y ∷ xs) h (suc n) b e same = not_later x xs (rest (bytes_eq (key x) (key y)) h) n b e same
    where
      rest : (q : Bool) → not (q || list_any (λ (z : A). bytes_eq (key x) (key z)) xs) ≡ true → not (list_any (λ (z : A). bytes_eq (key x) (key z)) xs) ≡ true
      rest true g = absurd (true≢false (sym g))
      rest false g = g

  pub one_place : (xs : List A) → differ xs ≡ true → (m n : ℕ) (a b : A) → slice_get xs m ≡ Some a → slice_get xs n ≡ Some b → key a ≡ key b → m ≡ n
  one_place [] h m n a b e f same = cc
  one_place (x ∷ xs) h zero zero a b e f same = refl
  one_place (x ∷ xs) h zero (suc n) a b e f same =
      let here : x ≡ a = cc in
      absurd (not_later x xs (and_parts (not (list_any (λ (y : A). bytes_eq (key x) (key y)) xs)) (differ xs) h).0 n b f (ap key here ∙ same))
  one_place (x ∷ xs) h (suc m) zero a b e f same =
      let here : x ≡ b = cc in
      absurd (not_later x xs (and_parts (not (list_any (λ (y : A). bytes_eq (key x) (key y)) xs)) (differ xs) h).0 m a e (ap key here ∙ sym same))
  one_place (x ∷ xs) h (suc m) (suc n) a b e f same =
      let rest : m ≡ n = one_place xs (and_parts (not (list_any (λ (y : A). bytes_eq (key x) (key y)) xs)) (differ xs) h).1 m n a b e f same in
      omega (arith, rest)

all_at : {A : Type 0} (test : A → Bool) (xs : List A) → list_all test xs ≡ true → (n : ℕ) (a : A) → slice_get xs n ≡ Some a → test a ≡ true
all_at test [] h n a e = cc
all_at test (x ∷ xs) h zero a e =
    let here : x ≡ a = cc in
    ap test (sym here) ∙ (and_parts (test x) (list_all test xs) h).0
all_at test (x ∷ xs) h (suc n) a e = all_at test xs (and_parts (test x) (list_all test xs) h).1 n a e

there_is : {A : Type 0} (v : Option A) → is_some v ≡ true → (a : A) × (v ≡ Some a)
there_is None h = absurd (true≢false (sym h))
there_is (Some a) h = (a, refl)

-- ---- the table

abbrev name_of : QualifiedName → List ℕ
name_of s = s.name

abbrev package_name : Package → List ℕ
package_name p = p.name

abbrev has_home : QualifiedName → Bool
has_home s = is_some (package_number opening.packages s.home)

abbrev is_own_in : QualifiedName → Package → Bool
is_own_in s p = if bytes_eq p.name s.home then same_name (symbol_in p s.name) s else true

abbrev is_own : QualifiedName → Bool
is_own s = list_all (is_own_in s) opening.packages

abbrev has_no_clash : Package → Bool
has_no_clash p = not (is_some (import_clash p.imports))

symbols_differ : differ name_of opening.symbols ≡ true
unfolding opening common_lisp_symbols acl2_symbols common_lisp_text acl2_text
symbols_differ = refl

packages_differ : differ package_name opening.packages ≡ true
unfolding opening acl2_package
packages_differ = refl

all_have_homes : list_all has_home opening.symbols ≡ true
unfolding opening acl2_package common_lisp_symbols acl2_symbols common_lisp_text acl2_text
all_have_homes = refl

all_own : list_all is_own opening.symbols ≡ true
unfolding opening acl2_package common_lisp_symbols acl2_symbols common_lisp_text acl2_text
all_own = refl

none_clash : list_all has_no_clash opening.packages ≡ true
unfolding opening acl2_package common_lisp_symbols common_lisp_text
none_clash = refl

imports_there : (m k : ℕ) (p : Package) (s : QualifiedName) → IsPackage opening.packages m p → slice_get p.imports k ≡ Some s → (n : ℕ) × IsSymbol opening.symbols n s
unfolding opening acl2_package
imports_there zero k p s e f =
    let here : without_imports common_lisp ≡ p = cc in
    let none : None ≡ Some s = ap (λ (q : Package). slice_get q.imports k) here ∙ f in cc
imports_there (suc zero) k p s e f =
    let here : without_imports keyword ≡ p = cc in
    let none : None ≡ Some s = ap (λ (q : Package). slice_get q.imports k) here ∙ f in cc
imports_there (suc (suc zero)) k p s e f =
    let here : acl2_package ≡ p = cc in
    (k, slice_get-left common_lisp_symbols (acl2_symbols ++ hidden_symbols) k s (ap (λ (q : Package). slice_get q.imports k) here ∙ f))
imports_there (suc (suc (suc zero))) k p s e f =
    let here : without_imports hidden ≡ p = cc in
    let none : None ≡ Some s = ap (λ (q : Package). slice_get q.imports k) here ∙ f in cc
imports_there (suc (suc (suc (suc m)))) k p s e f = cc

own_there : (n m : ℕ) (s : QualifiedName) (p : Package) → IsSymbol opening.symbols n s → IsPackage opening.packages m p → p.name ≡ s.home → symbol_in p s.name ≡ s
own_there n m s p e f same =
    go (bytes_eq p.name s.home) ((bytes_eq-Decides p.name s.home).1 same) (all_at (is_own_in s) opening.packages (all_at is_own opening.symbols all_own n s e) m p f)
  where
    go : (b : Bool) → b ≡ true → (if b then same_name (symbol_in p s.name) s else true) ≡ true → symbol_in p s.name ≡ s
    go true g h = (same_name-Decides (symbol_in p s.name) s).0 h
    go false g h = absurd (true≢false (sym g))

clash_none : {A : Type 0} (v : Option A) → not (is_some v) ≡ true → v ≡ None
clash_none None h = refl
clash_none (Some a) h = absurd (true≢false (sym h))

pub opening_table : IsTable opening
opening_table = record {
  distinct = λ m n s e f. one_place name_of opening.symbols symbols_differ m n s s e f refl;
  apart = λ m n p q e f same. one_place package_name opening.packages packages_differ m n p q e f same;
  homes = λ n s e. there_is (package_number opening.packages s.home) (all_at has_home opening.symbols all_have_homes n s e);
  imports = imports_there;
  no_clash = λ m p e. clash_none (import_clash p.imports) (all_at has_no_clash opening.packages none_clash m p e);
  own = own_there;
  few = let h : length opening.symbols ≡ 196 = opens_right.symbols in omega (arith, h);
}

-- ---- the constants

abbrev knows : ℕ → Object ℕ → Bool
knows n (Integer i) = true
knows n (Symbol s) = nat_lt s n
knows n (Text bytes) = true
knows n (Pair a d) = knows n a && knows n d

knows_so : (n : ℕ) (o : Object ℕ) → knows n o ≡ true → Knows n o
knows_so n (Integer i) h = tt
knows_so n (Symbol s) h = grind (arith, nat_tests)
knows_so n (Text bytes) h = tt
knows_so n (Pair a d) h = let both = and_parts (knows n a) (knows n d) h in (knows_so n a both.0, knows_so n d both.1)

exports_known : knows 196 (list (symbols_from first_export 76)) ≡ true
exports_known = refl

main_known : knows 196 (list (symbols_from 0 first_export)) ≡ true
main_known = refl

primitives_known : (n : ℕ) (ns : List ℕ) (rows : List Row) (w : World) → EachDefinition (KnowsDefinition n) w → EachDefinition (KnowsDefinition n) (primitives_named ns rows ++ w)
primitives_known n [] rows w h = h
primitives_known n (x ∷ ns) [] w h = h
primitives_known n (x ∷ ns) (r ∷ rs) w h = (tt, primitives_known n ns rs w h)

definitions_known : EachDefinition (KnowsDefinition 196) opening_world
unfolding opening_world
definitions_known = primitives_known 196 primitive_numbers table opening_constants (knows_so 196 (list (symbols_from first_export 76)) exports_known, (knows_so 196 (list (symbols_from 0 first_export)) main_known, tt))

pub opening_known : IsKnownSession opening_session
unfolding opening_session
opening_known =
    let many : length opening.symbols ≡ 196 = opens_right.symbols in
    record {
      enough = omega (arith, many);
      table = opening_table;
      definitions = subst (λ (n : ℕ). KnowsDefinitions opening_world n) (sym many) (record { each = each_found (KnowsDefinition 196) opening_world definitions_known });
      live = tt;
    }
