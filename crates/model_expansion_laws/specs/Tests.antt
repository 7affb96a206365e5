-- The test of a type, evaluated where an object stands, is `NIL` exactly where the object does not meet the type.
use Rattle.std.specs.Prelude.{◌≡◌, ℕ, List, [], ◌∷◌, Bool, true, not, Some}
use Rattle.model_objects.specs.Object.{Object}
use Rattle.model_symbols.specs.Symbols.{Package}
use Rattle.model_prims.specs.Kinds.{by_number, is_nil}
use Rattle.model_prims.specs.Lists.{is_true_list}
use Rattle.model_prims.specs.Rows.{Row}
use Rattle.model_prims.specs.declared.prim.Prim.{Prim}
use Rattle.model_prims.specs.declared.prim.Prim.TheVariants.{Recognizer, Relation, Listing}
use Rattle.model_prims.specs.declared.prim.Recognizer.{Recognizer as OneRecognizer}
use Rattle.model_prims.specs.declared.prim.Recognizer.TheVariants as recognizer
use Rattle.model_prims.specs.declared.prim.Relation.TheVariants as relation
use Rattle.model_prims.specs.declared.prim.Listing.TheVariants as listing
use Rattle.model_lists.specs.Types.{ValueType, Anything, Nothing, Integers, Recognized, OneOf, Either, Both, Other, meets, type_of, not_word, atom_word, null_word}
use Rattle.model_terms.specs.Cores.{Core}
use Rattle.model_terms.specs.Worlds.{World, Primitive, definition}
use Rattle.model_eval.specs.Outcomes.{Plain, Stop, Guard, Steps, Depth, Range, Large, Symbols, State, Outcome, Gives, Stops, Unknown}
use Rattle.model_eval.specs.Variables.{Variables}
use Rattle.model_eval.specs.Evaluated.{leaf}
use Rattle.model_eval.specs.Checked.{checked, checked_rules}
use Rattle.model_expansion.specs.Words.{symbolp_word, stringp_word, integerp_word, booleanp_word, below_word, member_equal_word}
use Rattle.model_expansion.specs.TypeTerms.{test_of, accepted_type, type_term}

-- a primitive stands in the world under this name
pub record Stands (w : World) (f : ℕ) (p : Prim) : Type 0 where
  pub row : Row
  pub found : definition w f ≡ Some (Primitive f row)
  pub prim : row.prim ≡ p

-- what tests call stands in the world
pub record HasTestFunctions (w : World) : Type 0 where
  pub symbolp : Stands w symbolp_word (Recognizer recognizer.Symbolp)
  pub stringp : Stands w stringp_word (Recognizer recognizer.Stringp)
  pub consp : Stands w 9 (Recognizer recognizer.Consp)
  pub atom : Stands w atom_word (Recognizer recognizer.Atom)
  pub null : Stands w null_word (Recognizer recognizer.Null)
  pub booleanp : Stands w booleanp_word (Recognizer recognizer.Booleanp)
  pub integerp : Stands w integerp_word (Recognizer recognizer.Integerp)
  pub negation : Stands w not_word (Recognizer recognizer.Not)
  pub below : Stands w below_word (Relation relation.Below)
  pub member : Stands w member_equal_word (Listing listing.Member)

-- a predicate that types name
abbrev pub IsPredicate : OneRecognizer → Type 0
IsPredicate recognizer.Symbolp = Unit {0}
IsPredicate recognizer.Stringp = Unit {0}
IsPredicate recognizer.Consp = Unit {0}
IsPredicate recognizer.Atom = Unit {0}
IsPredicate recognizer.Null = Unit {0}
IsPredicate recognizer.Booleanp = Unit {0}
IsPredicate r = ⊥

-- a type that can be written
abbrev pub IsWritten : ValueType ℕ → Type 0
IsWritten Anything = Unit {0}
IsWritten Nothing = Unit {0}
IsWritten (Integers low high) = Unit {0}
IsWritten (Recognized r) = IsPredicate r
IsWritten (OneOf l) = is_true_list by_number l ≡ true
IsWritten (Either a b) = IsWritten a × IsWritten b
IsWritten (Both a b) = IsWritten a × IsWritten b
IsWritten (Other a) = IsWritten a

abbrev pub IsLimit : Stop ℕ → Type 0
IsLimit (Guard f values) = ⊥
IsLimit Steps = Unit {0}
IsLimit Depth = Unit {0}
IsLimit (Range f) = ⊥
IsLimit (Large f) = ⊥
IsLimit (Symbols f) = ⊥

-- one ordinary value, other than `NIL` exactly where b; or a stop at a limit
abbrev pub Says : Bool → Outcome ℕ → Type 0
Says b (Gives values state) = (v : Object ℕ) × (values ≡ Plain v ∷ []) × (is_nil by_number v ≡ not b)
Says b (Stops stop inside state) = IsLimit stop
Says b Unknown = ⊥

pub record TestsSay : Type 0 where
  pub says : (w : World) (packages : List Package) (limit depth : ℕ) (t : ValueType ℕ) (x : Core) (o : Object ℕ) (variables : Variables ℕ) (state : State ℕ)
      → HasTestFunctions w → IsWritten t → leaf (checked_rules w packages limit) x variables ≡ Some (Plain o)
      → Says (meets by_number t o) (checked w packages limit depth (test_of x t) variables state)

-- each type that is written is of this kind
pub record TypesAreWritten : Type 0 where
  pub written : (o : Object ℕ) (t : ValueType ℕ) → type_of (λ (o : Object ℕ). o) o ≡ Some t → IsWritten t

-- the test of a written type, evaluated where an object stands, is `NIL` exactly where the object does not meet the type
pub record TermsSay : Type 0 where
  pub says : (w : World) (packages : List Package) (limit depth : ℕ) (written : Object ℕ) (t : ValueType ℕ) (x f : Core) (o : Object ℕ) (variables : Variables ℕ) (state : State ℕ)
      → HasTestFunctions w → leaf (checked_rules w packages limit) x variables ≡ Some (Plain o)
      → accepted_type written ≡ Some t → type_term written x ≡ Some f
      → Says (meets by_number t o) (checked w packages limit depth f variables state)
