-- Symbols by their numbers and by their names.
use Rattle.std.specs.Prelude.{◌≡◌, ℕ, ◌+◌, ◌<◌, List, [], ◌∷◌, length, Bool, true, false, nat_eq, position, Some, refl}
use Rattle.std.proofs.Common.{sym, ap, ◌∙◌}
use Rattle.std.specs.Bool.{Decides}
use Rattle.std.specs.List.{All, position_from}
use Rattle.std.proofs.lemmas.Iterator.Adapters.{position_from-zero}
use Rattle.std.proofs.lemmas.Bool.Decides.{Decides-eqb}
use Rattle.model_symbols.specs.Symbols.{Table, symbol_at, same_name}
use Rattle.model_symbols.specs.Tables.{IsTable}
use Rattle.model_symbols.proofs.NameLemmas.{same_name-Decides, symbol-at}
use Rattle.model_symbols.proofs.Positions.{position-map}
use Rattle.model_output_so_far.specs.Sessions as model
use Rattle.acl_base.specs.declared.SymId.{SymId}
use Rattle.acl_answers.specs.declared.stobj.Field.{Field}
use Rattle.acl_answers.specs.Views.{name_of, field_view, fields_view}
use Rattle.acl_answers.specs.Whole.{IsKnown, IsKnownField, AreKnownFields}
use Rattle.acl_answers.proofs.AllLemmas.{all_first, all_rest, all_map}

-- two tests of one question tell the same
same_tests : {A : Type 0} (a b : Bool) → Decides a A → Decides b A → a ≡ b
same_tests true true p q = refl
same_tests true false p q = sym (q.1 (p.0 refl))
same_tests false true p q = p.1 (q.0 refl)
same_tests false false p q = refl

-- the names of a table tell its numbers apart
pub same_number : (t : Table) → IsTable t → (m n : ℕ) → m < length t.symbols → n < length t.symbols → same_name (symbol_at t.symbols m) (symbol_at t.symbols n) ≡ nat_eq m n
same_number t i m n k l =
    let names = same_name-Decides (symbol_at t.symbols m) (symbol_at t.symbols n) in
    let numbers = Decides-eqb m n in
    let apart : symbol_at t.symbols m ≡ symbol_at t.symbols n → m ≡ n =
    λ e. i.distinct m n (symbol_at t.symbols n) (symbol-at t.symbols m k ∙ ap Some e) (symbol-at t.symbols n l) in
    same_tests {A = m ≡ n} (same_name (symbol_at t.symbols m) (symbol_at t.symbols n)) (nat_eq m n) (λ e. apart (names.0 e), λ e. names.1 (ap (symbol_at t.symbols) e)) numbers

-- tests that agree find the same place
from_agrees : {X : Type 0} (p q : X → Bool) (i : ℕ) (xs : List X) → All (λ x. p x ≡ q x) xs → position_from p i xs ≡ position_from q i xs
from_agrees p q i [] a = refl
from_agrees {X} p q i (x ∷ xs) a = rw (all_first (λ (y : X). p y ≡ q y) x xs a, from_agrees p q (i + 1) xs (all_rest (λ (y : X). p y ≡ q y) x xs a)) refl

position_agrees : {X : Type 0} (p q : X → Bool) (xs : List X) → All (λ x. p x ≡ q x) xs → position p xs ≡ position q xs
position_agrees p q xs a = position_from-zero p xs ∙ (from_agrees p q 0 xs a ∙ sym (position_from-zero q xs))

module _ (t : Table) (i : IsTable t) (f : SymId) (k : IsKnown t f) where
  all_read : (fields : List Field) → AreKnownFields t fields → All (λ (g : Field). nat_eq f.0 g.name.0 ≡ same_name (name_of t f) (field_view t g).name) fields
  all_read fields a = all_map (IsKnownField t) (λ (g : Field). nat_eq f.0 g.name.0 ≡ same_name (name_of t f) (field_view t g).name) (λ g l. sym (same_number t i f.0 g.name.0 k l.0)) fields a

  all_updated : (fields : List Field) → AreKnownFields t fields → All (λ (g : Field). nat_eq f.0 g.updater.0 ≡ same_name (name_of t f) (field_view t g).updater) fields
  all_updated fields a = all_map (IsKnownField t) (λ (g : Field). nat_eq f.0 g.updater.0 ≡ same_name (name_of t f) (field_view t g).updater) (λ g l. sym (same_number t i f.0 g.updater.0 k l.1)) fields a

  pub read_position : (fields : List Field) → AreKnownFields t fields
      → position (λ (g : Field). nat_eq f.0 g.name.0) fields ≡ position (λ (g : model.Field). same_name (name_of t f) g.name) (fields_view t fields)
  read_position fields a =
      position_agrees (λ (g : Field). nat_eq f.0 g.name.0) (λ (g : Field). same_name (name_of t f) (field_view t g).name) fields (all_read fields a)
      ∙ position-map (field_view t) (λ (g : model.Field). same_name (name_of t f) g.name) fields

  pub updated_position : (fields : List Field) → AreKnownFields t fields
      → position (λ (g : Field). nat_eq f.0 g.updater.0) fields ≡ position (λ (g : model.Field). same_name (name_of t f) g.updater) (fields_view t fields)
  updated_position fields a =
      position_agrees (λ (g : Field). nat_eq f.0 g.updater.0) (λ (g : Field). same_name (name_of t f) (field_view t g).updater) fields (all_updated fields a)
      ∙ position-map (field_view t) (λ (g : model.Field). same_name (name_of t f) g.updater) fields
