-- What is written in a definition of functions, of a macro or of a constant: its symbols are known where those of its form are,
-- and the tests in guards are shaped.
use Rattle.std.specs.Prelude.{◌≡◌, ℕ, ◌≤◌, List, [], ◌∷◌, Some, option_and_then}
use Rattle.model_objects.specs.Object.{Object}
use Rattle.model_objects.specs.Named.{Knows}
use Rattle.model_symbols.specs.Symbols.{QualifiedName}
use Rattle.model_expansion.specs.Forms.{elements}
use Rattle.model_expansion_forms.specs.Rows.{AreShapedItems, AreKnownItems}
use Rattle.model_expansion_parts.specs.Known.{KnowsFormals}
use Rattle.model_events.specs.Constants.{name_and_form}
use Rattle.model_events.specs.Declarations.{Declared, declarations}
use Rattle.model_events.specs.Functions.{WrittenFunction, Draft, written_functions, drafts_of}
use Rattle.model_events.specs.Macros.{WrittenMacro, written_macro, macro_formals}
use Rattle.model_standing.specs.Laws.{HaveShapedGuards}

pub record DraftsAreShaped : Type 0 where
  pub items : (symbols : List QualifiedName) (formals : List ℕ) (written : List (Object ℕ)) (d : Declared) → declarations symbols formals written ≡ Some d → AreShapedItems d.guards
  pub drafts : (symbols : List QualifiedName) (fs : List WrittenFunction) → HaveShapedGuards (drafts_of symbols fs)

-- the symbols in what a guard asks, and in a body as it is written
abbrev pub KnowsDraft : ℕ → Draft → Type 0
KnowsDraft n d = AreKnownItems n d.declared.guards × Knows n d.body

abbrev pub KnowsDrafts : ℕ → List Draft → Type 0
KnowsDrafts n [] = Unit {0}
KnowsDrafts n (d ∷ ds) = KnowsDraft n d × KnowsDrafts n ds

-- of what stands behind the head of a definition of functions
pub record DraftsAreKnown : Type 0 where
  pub drafts : (n : ℕ) (symbols : List QualifiedName) (head : ℕ) (d : Object ℕ) (fs : List WrittenFunction) → 2 ≤ n → Knows n d → written_functions head d ≡ Some fs → KnowsDrafts n (drafts_of symbols fs)

-- of what stands behind the head of a definition of a macro
pub record MacrosAreKnown : Type 0 where
  pub written : (n : ℕ) (d : Object ℕ) (m : WrittenMacro) → 2 ≤ n → Knows n d → written_macro d ≡ Some m → KnowsFormals n (macro_formals m.formals) × Knows n m.body

-- of what stands behind the head of a definition of a constant, or of a package
pub record ConstantsAreKnown : Type 0 where
  pub written : (n : ℕ) (d : Object ℕ) (c : Object ℕ × Object ℕ) → 2 ≤ n → Knows n d → option_and_then name_and_form (elements d) ≡ Some c → Knows n c.0 × Knows n c.1
