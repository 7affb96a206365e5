-- Names of symbols and of their packages.
use Rattle.std.specs.Prelude.{◌≡◌, ℕ, suc, ◌-◌, ◌≤◌, List, [], ◌∷◌, length, Some, refl}
use Rattle.std.proofs.Common.{ap, ◌∙◌, get_or, arith}
use Rattle.model_symbols.specs.Symbols.{Package, package_at, package_number}
use Rattle.model_symbols.proofs.NameLemmas.{package-Some, package_at-is}

pub home_is : (ps : List Package) (name : List ℕ) (n : ℕ) → package_number ps name ≡ Some n → (package_at ps n).name ≡ name
home_is ps name n e =
    let found = package-Some ps name n e in
    ap (λ (p : Package). p.name) (package_at-is ps n found.0 found.1) ∙ found.2

abbrev pub last_byte : List ℕ → ℕ
last_byte [] = 0
last_byte (b ∷ []) = b
last_byte (b ∷ (c ∷ bs)) = last_byte (c ∷ bs)

pub last_is : (bs : List ℕ) → 1 ≤ length bs → last_byte bs ≡ get_or bs (length bs - 1) 0
last_is [] l = omega arith
last_is (b ∷ []) l = refl
last_is (b ∷ (c ∷ bs)) l =
    let e : suc (length (c ∷ bs) - 1) ≡ length (b ∷ (c ∷ bs)) - 1 = omega arith in
    last_is (c ∷ bs) (omega arith) ∙ ap (λ n. get_or (b ∷ (c ∷ bs)) n 0) e
