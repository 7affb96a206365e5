-- What an expansion takes from its world, and what is given to it.
use Rattle.std.specs.Prelude.{◌≡◌, ℕ, ◌≤◌, List, [], ◌∷◌, length, Some, unwrap_or}
use Rattle.model_objects.specs.Object.{Object}
use Rattle.model_objects.specs.Named.{Knows}
use Rattle.model_prims.specs.Kinds.{by_number}
use Rattle.model_lists.specs.Types.{cons_word, not_word}
use Rattle.model_terms.specs.Cores.{Core}
use Rattle.model_terms.specs.Worlds.{World, OptionalFormal, MacroFormals, Macro, Constant, definition}
use Rattle.model_eval.specs.Outcomes.{Outcome, Gives, Stops, Unknown}
use Rattle.model_eval.specs.Variables.{single, object_of}
use Rattle.model_expansion.specs.Words.{car_word, cdr_word, below_word, binary_plus_word, binary_times_word, unary_minus_word, binary_logand_word, binary_logior_word, binary_logxor_word, binary_append_word, member_equal_word, assoc_equal_word, union_equal_word, the_check_word}
use Rattle.model_expansion.specs.Layers.{GuardItem, FormHolds, Meets}
use Rattle.model_expansion.specs.Expansion.{Setting, Progress, arity_of, body_value}
use Rattle.model_expansion_forms.specs.Nodes.{EachNode, HasForms, HasSeveral, HasConstant, IsBelow}

-- a function of the world that takes so many arguments
abbrev pub Takes : World → ℕ → ℕ → Type 0
Takes w f n = arity_of (definition w f) ≡ Some n

-- what the built-in macros call
pub record HasRowFunctions (w : World) : Type 0 where
  pub first : Takes w car_word 1
  pub others : Takes w cdr_word 1
  pub pair : Takes w cons_word 2
  pub negation : Takes w not_word 1
  pub below : Takes w below_word 2
  pub minus : Takes w unary_minus_word 1
  pub plus : Takes w binary_plus_word 2
  pub times : Takes w binary_times_word 2
  pub bits_of_both : Takes w binary_logand_word 2
  pub bits_of_either : Takes w binary_logior_word 2
  pub bits_of_one : Takes w binary_logxor_word 2
  pub joined : Takes w binary_append_word 2
  pub member : Takes w member_equal_word 2
  pub entry : Takes w assoc_equal_word 2
  pub union : Takes w union_equal_word 2
  pub checked : Takes w the_check_word 3

-- ---- tests of a guard

-- a test binds as many forms as names, and has two parts where it has several
abbrev pub IsShapedItem : GuardItem → Type 0
IsShapedItem (FormHolds o) = Unit {0}
IsShapedItem (Meets f) = EachNode HasForms f × EachNode HasSeveral f

abbrev pub AreShapedItems : List GuardItem → Type 0
AreShapedItems [] = Unit {0}
AreShapedItems (g ∷ gs) = IsShapedItem g × AreShapedItems gs

-- the symbols of a form, or of the constants in a test, are known
abbrev pub IsKnownItem : ℕ → GuardItem → Type 0
IsKnownItem n (FormHolds o) = Knows n o
IsKnownItem n (Meets f) = EachNode (HasConstant (IsBelow n)) f

abbrev pub AreKnownItems : ℕ → List GuardItem → Type 0
AreKnownItems n [] = Unit {0}
AreKnownItems n (g ∷ gs) = IsKnownItem n g × AreKnownItems n gs

-- ---- known symbols

abbrev pub AllKnown : ℕ → List (Object ℕ) → Type 0
AllKnown n [] = Unit {0}
AllKnown n (o ∷ os) = Knows n o × AllKnown n os

abbrev pub AreKnownDefaults : ℕ → List OptionalFormal → Type 0
AreKnownDefaults n [] = Unit {0}
AreKnownDefaults n (f ∷ fs) = Knows n f.default × AreKnownDefaults n fs

-- the only value of a macro's body, where it has one
abbrev pub IsKnownValue : Outcome ℕ → Type 0
IsKnownValue (Gives values state) = Knows (length state.symbols) (object_of by_number (single by_number values))
IsKnownValue (Stops stop inside state) = Unit {0}
IsKnownValue Unknown = Unit {0}

-- so many symbols are known to begin with: those of constants and of what formals may be by default; and a macro's body
-- gives known symbols where it is given known symbols
pub record Supplies (x : Setting) (n : ℕ) : Type 0 where
  pub enough : 2 ≤ n
  pub constants : (s name : ℕ) (value : Object ℕ) → definition x.world s ≡ Some (Constant name value) → Knows n value
  pub optional : (s name : ℕ) (formals : MacroFormals) (body : Core) → definition x.world s ≡ Some (Macro name formals body) → AreKnownDefaults n formals.optional
  pub keys : (s name : ℕ) (formals : MacroFormals) (body : Core) → definition x.world s ≡ Some (Macro name formals body) → AreKnownDefaults n (unwrap_or formals.keys [])
  pub values : (s name : ℕ) (formals : MacroFormals) (body : Core) → definition x.world s ≡ Some (Macro name formals body) → (values : List (Object ℕ)) (p : Progress)
      → n ≤ length p.symbols → AllKnown (length p.symbols) values → IsKnownValue (body_value x formals body values p)
