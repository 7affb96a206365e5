-- Refusals that come at 16,777,216 cells or symbols.
use Rattle.std.specs.Prelude.{◌≡◌, ◌↔◌, ℕ, ◌<◌, ◌≤◌, List, [], ◌∷◌, ◌++◌, length, Some, None, is_some, if◌then◌else◌}
use Rattle.std.specs.List.{AllByRecursion}
use Rattle.model_objects.specs.Object.{weight, max_weight}
use Rattle.model_symbols.specs.Symbols.{QualifiedName, Package, all_interned, most_symbols}
use Rattle.model_terms.specs.Worlds.{World}
use Rattle.model_expansion.specs.Faults.{Refusal, SymbolLimit, TooLarge}
use Rattle.model_expansion.specs.Expansion.{Progress}
use Rattle.model_stobjs.specs.Answers.{Refuses}
use Rattle.model_stobjs.specs.Obligations.{Obligation, too_large, obligation_form}
use Rattle.model_stobjs.specs.Descriptors.{Making, ShapedField, WrittenStobj, symbol_beside, new_name, names_made, room_for, names_then, stobj_makings}
use Rattle.model_expansion.specs.Forms.{symbol_or_nil}

-- ---- obligations that are too heavy

abbrev pub IsLight : Obligation → Type 0
IsLight o = weight (obligation_form o) ≤ max_weight

-- the first obligation with a form above the limit, and its owner's refusal
pub record IsOfTheFirst (os : List Obligation) (r : Refusal) : Type 0 where
  pub light : List Obligation
  pub heavy : Obligation
  pub others : List Obligation
  pub all : os ≡ light ++ heavy ∷ others
  pub before : AllByRecursion IsLight light
  pub above : max_weight < weight (obligation_form heavy)
  pub owner : r ≡ TooLarge heavy.owner

-- no refusal where all forms are light enough, else that of the first which is not
pub record TooLargeIsTheFirst : Type 0 where
  pub none : (os : List Obligation) → (too_large os ≡ None) ↔ AllByRecursion IsLight os
  pub some : (os : List Obligation) (r : Refusal) → (too_large os ≡ Some r) ↔ IsOfTheFirst os r

-- ---- names for which there is no room

-- names are made beside symbols that are known, and symbols that are known have other names
pub record AreKnown (symbols : List QualifiedName) (renaming : List (ℕ × ℕ)) (makings : List Making) : Type 0 where
  pub beside : AllByRecursion (λ (m : Making). m.0 < length symbols) makings
  pub renamed : AllByRecursion (λ (p : ℕ × ℕ). p.0 < length symbols) renaming

module _ (packages : List Package) (renaming : List (ℕ × ℕ)) (symbols : List QualifiedName) where
  abbrev unless_renamed : QualifiedName → List QualifiedName → List QualifiedName
  unless_renamed q others = if is_some (new_name packages renaming symbols q) then others else q ∷ others

  -- the symbols that the names are; without those for which another name stands
  abbrev pub symbols_named : List Making → List QualifiedName
  symbols_named [] = []
  symbols_named (m ∷ ms) = unless_renamed (symbol_beside packages renaming symbols m) (symbols_named ms)

  -- the symbols that are known once the names are
  abbrev pub symbols_with : List Making → List QualifiedName
  symbols_with makings = all_interned symbols (symbols_named makings)

-- the refusal comes exactly where the names would make more symbols than there may be, and else they are known
pub record SymbolLimitIsExact : Type 0 where
  pub refused : (packages : List Package) (renaming : List (ℕ × ℕ)) (symbols : List QualifiedName) (makings : List Making)
      → length symbols ≤ most_symbols → AreKnown symbols renaming makings
      → (room_for (names_made packages renaming makings symbols) ≡ Some SymbolLimit) ↔ (most_symbols < length (symbols_with packages renaming symbols makings))
  pub made : (packages : List Package) (renaming : List (ℕ × ℕ)) (symbols : List QualifiedName) (makings : List Making)
      → length symbols ≤ most_symbols → AreKnown symbols renaming makings
      → room_for (names_made packages renaming makings symbols) ≡ None
      → (names_made packages renaming makings symbols).symbols ≡ symbols_with packages renaming symbols makings
  -- the same of the definition of a stobj, once its fields have shapes
  pub stobj : (w : World) (packages : List Package) (o : WrittenStobj) (fields : List ShapedField) (p : Progress)
      → length p.symbols ≤ most_symbols → AreKnown p.symbols o.renaming (stobj_makings p.symbols (symbol_or_nil o.name) fields)
      → ((after : Progress) × (names_then w packages o fields p ≡ Refuses SymbolLimit after))
      ↔ (most_symbols < length (symbols_with packages o.renaming p.symbols (stobj_makings p.symbols (symbol_or_nil o.name) fields)))
