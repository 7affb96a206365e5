-- The home of a symbol, and whether the current package has it.
use Rattle.std.specs.Prelude.{◌≡◌, ℕ, ◌<◌, ◌==◌, List, length, Bool, true, false, Option, Some, None, refl}
use Rattle.std.proofs.Common.{sym, ap, ◌∙◌, eq-eqb, arith}
use Rattle.std.proofs.lemmas.Bool.Decides.{nat_tests}
use Rattle.model_symbols.specs.Symbols.{Package, Table, symbol_at, same_name, number_of, package_number, package_at}
use Rattle.model_symbols.specs.Tables.{IsTable, symbol_under, number_in}
use Rattle.model_symbols.proofs.NameLemmas.{package-Some, package_at-is, same_name-Decides, number-Some, number-None, number-known, symbol_at-is, symbol-at}
use Rattle.model_text.specs.Text.{is_at_home}
use Rattle.acl_print.specs.Views.{packages_in}

pub home_named : (packages : List Package) (home : List ℕ) (n : ℕ) → package_number packages home ≡ Some n → (package_at packages n).name ≡ home
home_named packages home n e = let f = package-Some packages home n e in ap (λ (p : Package). p.name) (package_at-is packages n f.0 f.1) ∙ f.2

same_truth : (a b : Bool) → (a ≡ true → b ≡ true) → (b ≡ true → a ≡ true) → a ≡ b
same_truth true true f g = refl
same_truth true false f g = sym (f refl)
same_truth false true f g = g refl
same_truth false false f g = refl

never : (b : Bool) → (b ≡ true → ⊥) → false ≡ b
never true f = absurd (f refl)
never false f = refl

same_number : (m n : ℕ) → (let o : Option ℕ = Some m in o) ≡ Some n → m ≡ n
same_number m n e = cc

equal_number : (m n : ℕ) → (m == n) ≡ true → m ≡ n
equal_number m n h = grind (arith, nat_tests)

-- the package has this symbol under its name where the number that it has there is the symbol's
pub found_home : (t : Table) (p n m : ℕ) (name : List ℕ) → IsTable t → n < length t.symbols → name ≡ (symbol_at t.symbols n).name → number_in t p name ≡ Some m
    → (m == n) ≡ is_at_home (packages_in t p) (symbol_at t.symbols n)
found_home t p n m name i l e f =
    let s = symbol_at t.symbols n in
    let x = symbol_under t p name in
    let here : (m == n) ≡ same_name x s =
    same_truth (m == n) (same_name x s)
    (λ h. (same_name-Decides x s).1 (sym (symbol_at-is t.symbols m x (number-Some t.symbols x m f)) ∙ ap (symbol_at t.symbols) (equal_number m n h)))
    (λ h. eq-eqb m n (same_number m n (sym f ∙ (ap (number_of t.symbols) ((same_name-Decides x s).0 h) ∙ number-known t.symbols s n i.distinct (symbol-at t.symbols n l))))) in
    here ∙ ap (λ (b : List ℕ). same_name (symbol_under t p b) s) e

pub lost_home : (t : Table) (p n : ℕ) (name : List ℕ) → n < length t.symbols → name ≡ (symbol_at t.symbols n).name → number_in t p name ≡ None
    → false ≡ is_at_home (packages_in t p) (symbol_at t.symbols n)
lost_home t p n name l e f =
    let s = symbol_at t.symbols n in
    let x = symbol_under t p name in
    let here : false ≡ same_name x s =
    never (same_name x s) (λ h. number-None t.symbols s n (sym (ap (number_of t.symbols) ((same_name-Decides x s).0 h)) ∙ f) (symbol-at t.symbols n l)) in
    here ∙ ap (λ (b : List ℕ). same_name (symbol_under t p b) s) e
