-- A symbol's package, and a symbol that becomes known, as a table of symbols answers them.
use Rattle.std.specs.Prelude.{◌≡◌, ℕ, List, Some, true, false, unwrap_or, refl}
use Rattle.std.proofs.Common.{arith, ap, sym, ◌∙◌}
use Rattle.model_objects.specs.Object.{Symbol}
use Rattle.model_symbols.specs.Symbols.{QualifiedName, Package, Table, symbol_at, symbol_in, package_at, package_number, number_of, interned, is_one_too_many}
use Rattle.model_symbols.specs.Growth.{AreDistinct}
use Rattle.model_symbols.specs.Tables.{symbol_under}
use Rattle.model_symbols.proofs.NameLemmas.{number-known, package-Some, package_at-is}
use Rattle.model_prims.specs.Values.{Interned}
use Rattle.model_prims.specs.Applied.{Gives, Stops, Symbols, bounded, package_or, interned_or, beside, number_then}
use Rattle.acl_base.specs.declared.SymId.{SymId}
use Rattle.acl_base.specs.declared.Word.TheVariants.{Sym}
use Rattle.acl_heap.specs.Objects.{Objects}
use Rattle.acl_syms.specs.Answers.{Interns}
use Rattle.acl_numbers.specs.Answers.{IsGiven}

pub home_of : (ps : List Package) (name : List ℕ) (n : ℕ) → package_number ps name ≡ Some n → (package_at ps n).name ≡ name
home_of ps name n e =
    let found = package-Some ps name n e in
    ap (λ (p : Package). p.name) (package_at-is ps n found.0 found.1) ∙ found.2

beside_is : (t : Table) (name : List ℕ) (s p : ℕ) → package_number t.packages (symbol_at t.symbols s).home ≡ Some p → beside t name s ≡ symbol_under t p name
beside_is t name s p e = ap (λ o. symbol_in (package_or t.packages (symbol_at t.symbols s).home o) name) e

room : (ss : List QualifiedName) (q : QualifiedName) → is_one_too_many ss q ≡ false → interned_or ss q ≡ Gives (Symbol (number_then ss q)) (interned ss q)
room ss q e = rw e refl

no_room : (ss : List QualifiedName) (q : QualifiedName) → is_one_too_many ss q ≡ true → interned_or ss q ≡ Stops Symbols
no_room ss q e = rw e refl

pub stops_there : (t : Table) (name : List ℕ) (s p : ℕ) → package_number t.packages (symbol_at t.symbols s).home ≡ Some p
    → is_one_too_many t.symbols (symbol_under t p name) ≡ true → bounded t (Interned name s) ≡ Stops Symbols
unfolding bounded
stops_there t name s p e many = ap (interned_or t.symbols) (beside_is t name s p e) ∙ no_room t.symbols (symbol_under t p name) many

given_there : (t new : Table) (name : List ℕ) (s p n : ℕ) → package_number t.packages (symbol_at t.symbols s).home ≡ Some p
    → Interns t new p name n → AreDistinct new.symbols → bounded t (Interned name s) ≡ Gives (Symbol n) new.symbols
unfolding bounded
given_there t new name s p n e i d =
    let q = symbol_under t p name in
    let symbols : interned t.symbols q ≡ new.symbols = sym (ap (λ (u : Table). u.symbols) i.table) in
    let number : number_of new.symbols q ≡ Some n = number-known new.symbols q n d i.number in
    let same : number_then t.symbols q ≡ n = ap (λ ss. unwrap_or (number_of ss q) 0) symbols ∙ ap (λ o. unwrap_or o 0) number in
    ap (interned_or t.symbols) (beside_is t name s p e) ∙ (room t.symbols q i.room ∙ rw (same, symbols) refl)

pub interned_there : (h : Objects) (t new : Table) (name : List ℕ) (s p : ℕ) (n : SymId) → package_number t.packages (symbol_at t.symbols s).home ≡ Some p
    → Interns t new p name n.0 → AreDistinct new.symbols → IsGiven h new.symbols (bounded t (Interned name s)) (Sym n)
interned_there h t new name s p n e i d = record { lies = omega arith; gives = given_there t new name s p n.0 e i d }

pub ruleset interning = (stops_there, interned_there)
