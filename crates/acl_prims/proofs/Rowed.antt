-- The primitives in the order of the table.
use Rattle.std.specs.Prelude.{◌≡◌, ℕ, zero, suc, ◌<◌, List, [], ◌∷◌, Bool, ◌&&◌, Some, length, map, position, slice_get, slice_index_or, unwrap_or, refl}
use Rattle.std.specs.Str.{bytes_eq}
use Rattle.std.proofs.Common.{arith, ap, sym, ◌∙◌}
use Rattle.std.proofs.lemmas.List.Quantifiers.{position-Some}
use Rattle.model_symbols.specs.Symbols.{QualifiedName, same_name}
use Rattle.model_symbols.proofs.Positions.{position-map}
use Rattle.model_prims.specs.Rows.{Row, table, no_row, row_called}
use Rattle.model_prims.specs.declared.prim.Prim.{Prim}
use Rattle.acl_prims.specs.declared.rows.PrimRow.{PrimRow}
use Rattle.acl_prims.specs.Tabled.{Named, names_of, named_rows}

pub few : (n : ℕ) → n < length table → n < 59
unfolding table
few n l = l

pub row_prim : (rows : List Row) (i : ℕ) (d : Prim) → i < length rows → slice_index_or (map (λ (r : Row). r.prim) rows) i d ≡ (unwrap_or (slice_get rows i) no_row).prim
row_prim [] i d l = absurd (omega arith)
row_prim (r ∷ rows) zero d l = refl
row_prim (r ∷ rows) (suc i) d l = row_prim rows i d (omega arith)

-- ---- what the code's table says of a row

row_named : (x : PrimRow) (r : Row) → names_of x ≡ (r.symbol, r.arity) → x.arity ≡ r.arity
row_named x r e = ap (λ (n : Named). n.1) e

pub row_arity : (xs : List PrimRow) (rows : List Row) (i : ℕ) (d : PrimRow) → map names_of xs ≡ map (λ (r : Row). (r.symbol, r.arity)) rows → i < length rows
    → (slice_index_or xs i d).arity ≡ (unwrap_or (slice_get rows i) no_row).arity
row_arity xs [] i d e l = absurd (omega arith)
row_arity [] (r ∷ rows) i d e l = cc
row_arity (x ∷ xs) (r ∷ rows) zero d e l = row_named x r (cc)
row_arity (x ∷ xs) (r ∷ rows) (suc i) d e l = row_arity xs rows i d (cc) (omega arith)

-- a row is found by its symbol
pub row_place : (xs : List PrimRow) (name home : List ℕ) → map names_of xs ≡ named_rows
    → position (λ (r : PrimRow). bytes_eq home r.package.now && bytes_eq name r.name.now) xs ≡ row_called (record { home = home; name = name })
row_place xs name home e =
    let s : QualifiedName = record { home = home; name = name } in
    let q : Named → Bool = λ n. same_name s n.0 in
    position-map names_of q xs ∙ (ap (position q) e ∙ sym (position-map (λ (r : Row). (r.symbol, r.arity)) q table))

row_within : (s : QualifiedName) (i : ℕ) → row_called s ≡ Some i → i < 59
row_within s i e = few i (position-Some (λ (r : Row). same_name s r.symbol) table i no_row e).0

pub found_row : (xs : List PrimRow) (name home : List ℕ) (i : ℕ) → map names_of xs ≡ named_rows
    → position (λ (r : PrimRow). bytes_eq home r.package.now && bytes_eq name r.name.now) xs ≡ Some i → i < 59
found_row xs name home i e f = row_within (record { home = home; name = name }) i (sym (row_place xs name home e) ∙ f)
