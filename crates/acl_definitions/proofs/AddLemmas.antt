-- Definitions that go from a list into a world.
use Rattle.std.specs.Prelude.{◌≡◌, ℕ, zero, suc, ◌+◌, ◌≤◌, List, [], ◌∷◌, ◌++◌, length, map, take, None, nat_eq, position, refl}
use Rattle.std.specs.List.{All, IsDistinct}
use Rattle.std.proofs.Common.{sym, ap, ◌∙◌, subst, arith, append_assoc}
use Rattle.std.proofs.lemmas.List.{map-append, append-nil}
use Rattle.acl_terms.specs.declared.definition.Definition.{Definition}
use Rattle.acl_terms.specs.Definitions.{name_in, FitsTable}
use Rattle.acl_worlds.specs.Contents.{Content, names_in, with_definition}
use Rattle.acl_worlds.proofs.NameLemmas.{none_before}

pub new_name : (xs rest all : List Definition) (d : Definition) → xs ++ d ∷ rest ≡ all → IsDistinct nat_eq (names_in all) → position (nat_eq (name_in d)) (names_in xs) ≡ None
new_name xs rest all d e i =
    let names : names_in all ≡ names_in xs ++ name_in d ∷ names_in rest = ap names_in (sym e) ∙ map-append name_in xs (d ∷ rest) in
    none_before (names_in xs) (names_in rest) (name_in d) (subst (λ ns. IsDistinct nat_eq ns) names i)

pub take_all : {A : Type 0} (xs : List A) → take (length xs) xs ≡ xs
take_all [] = refl
take_all (x ∷ xs) = ap (λ ys. x ∷ ys) (take_all xs)

pub take_more : {A : Type 0} (ys xs : List A) (x : A) → take (length ys) xs ≡ ys → take (length ys) (xs ++ x ∷ []) ≡ ys
take_more [] xs x e = refl
take_more (y ∷ ys) [] x e = absurd (cc)
take_more (y ∷ ys) (z ∷ xs) x e =
    let first : z ≡ y = cc in
    let rest : take (length ys) xs ≡ ys = cc in
    rw (first, take_more ys xs x rest) refl

pub kept : (w0 w w' : Content) (ds items rest : List Definition) (d : Definition) → w' ≡ with_definition w d → items ≡ d ∷ rest
    → w.definitions ++ items ≡ w0.definitions ++ ds → w.layouts ≡ w0.layouts → take (length w0.definitions) w.definitions ≡ w0.definitions → All FitsTable items
    → (w'.definitions ++ rest ≡ w0.definitions ++ ds) × (w'.layouts ≡ w0.layouts) × (take (length w0.definitions) w'.definitions ≡ w0.definitions) × All FitsTable rest
kept w0 w w' ds items rest d e s i l t a =
    let fits : All FitsTable (d ∷ rest) = subst (λ xs. All FitsTable xs) s a in (
      ap (λ (x : Content). x.definitions ++ rest) e ∙ (append_assoc w.definitions (d ∷ []) rest ∙ (ap (λ xs. w.definitions ++ xs) (sym s) ∙ i)),
      ap (λ (x : Content). x.layouts) e ∙ l,
      ap (λ (x : Content). take (length w0.definitions) x.definitions) e ∙ take_more w0.definitions w.definitions d t,
      λ k z b. fits (suc k) z (omega (arith, b)),
    )
