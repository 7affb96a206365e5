-- A world of primitives, as it is made.
use Rattle.std.specs.Prelude.{◌≡◌, ℕ, ◌+◌, ◌<◌, List, [], ◌∷◌, ◌++◌, length, map, Some, None, nat_eq, position, drop, refl}
use Rattle.std.specs.List.{IsDistinct}
use Rattle.std.proofs.Common.{sym, ap, ◌∙◌, arith, subst, get_or, drop-cons, add-one}
use Rattle.std.proofs.lemmas.List.{map-append}
use Rattle.std.proofs.lemmas.Option.{slice_get-get_or}
use Rattle.acl_base.specs.declared.SymId.{SymId}
use Rattle.model_prims.specs.Rows.{table, arity_of}
use Rattle.acl_terms.specs.declared.definition.Definition.{Definition}
use Rattle.acl_terms.specs.Definitions.{name_in}
use Rattle.acl_worlds.specs.Contents.{names_in, primitives_from, ArePrimitives}
use Rattle.acl_worlds.proofs.NameLemmas.{none_before}

table_count : length table ≡ 59
unfolding table
table_count = refl

pub row_within : (ps : List (SymId × ℕ)) (i : ℕ) → ArePrimitives ps → i < length ps → i < 59
row_within ps i are l = omega (arith, are.rows, table_count, l)

primitive_names : (n : ℕ) (ps : List (SymId × ℕ)) → names_in (primitives_from n ps) ≡ map (λ p. p.0.0) ps
primitive_names n [] = refl
primitive_names n (p ∷ ps) = ap (λ ns. p.0.0 ∷ ns) (primitive_names (n + 1) ps)

left_at : (ps : List (SymId × ℕ)) (i : ℕ) (d : SymId × ℕ) → i < length ps → drop i ps ≡ get_or ps i d ∷ drop (i + 1) ps
left_at ps i d l = rw (add-one i, drop-cons ps i d l) refl

-- the name of the next one is new
pub next_fresh : (ps : List (SymId × ℕ)) (i : ℕ) (d : SymId × ℕ) (ds : List Definition) → ArePrimitives ps → i < length ps → ds ++ primitives_from i (drop i ps) ≡ primitives_from 0 ps
    → position (nat_eq (get_or ps i d).0.0) (names_in ds) ≡ None
next_fresh ps i d ds are l all =
    let rest = primitives_from (i + 1) (drop (i + 1) ps) in
    let split : names_in ds ++ (get_or ps i d).0.0 ∷ names_in rest ≡ map (λ p. p.0.0) ps =
    sym (map-append name_in ds (primitives_from i (get_or ps i d ∷ drop (i + 1) ps)))
    ∙ (ap (λ qs. names_in (ds ++ primitives_from i qs)) (sym (left_at ps i d l))
    ∙ (ap names_in all ∙ primitive_names 0 ps)) in
    none_before (names_in ds) (names_in rest) (get_or ps i d).0.0 (subst (λ ns. IsDistinct nat_eq ns) (sym split) are.distinct)

pub next_fits : (ps : List (SymId × ℕ)) (i : ℕ) (d : SymId × ℕ) → ArePrimitives ps → i < length ps → (i < length table) × ((get_or ps i d).1 ≡ arity_of i)
next_fits ps i d are l = (omega (arith, are.rows, l), are.arities i (get_or ps i d) (slice_get-get_or ps i d l))

none_there : {p : SymId × ℕ} → None ≡ Some p → ⊥
none_there h = cc

pub no_primitives : ArePrimitives []
unfolding IsDistinct
no_primitives = record { distinct = tt; rows = omega arith; arities = λ n p h. absurd (none_there h) }
