-- What is said of the kind of a type, as laws, and kinds of types as they are written (ACL2's manual, topic TYPE-SPEC).
use Rattle.std.specs.Prelude.{◌≡◌, ℕ, ◌<◌, List, [], ◌∷◌, true, false, Option, Some, option_map, ℤ, pos, negsuc}
use Rattle.acl_base.specs.declared.layout.Kind.{Kind}
use Rattle.acl_base.specs.declared.layout.Kind.TheVariants.{Byte, I32, I64, General}
use Rattle.model_objects.specs.Object.{Object, Integer, Symbol, list_onto}
use Rattle.model_symbols.specs.Opening.{truth, nil}
use Rattle.model_prims.specs.Kinds.{by_number}
use Rattle.model_lists.specs.Types.{ValueType, meets, type_of, star_word, not_word, member_word, and_word, or_word, integer_word, signed_byte_word, unsigned_byte_word, bit_word, string_word}
use Rattle.model_lists.specs.Kinds.{is_kept, kind_of}

-- the kinds by their size
abbrev pub rank : Kind → ℕ
rank Byte = 0
rank I32 = 1
rank I64 = 2
rank General = 3

-- an object meets the type that the kind does not keep: for 64 bits, one that is no integer, or an integer of more
abbrev pub Exceeds : Kind → ValueType ℕ → Type 0
Exceeds kind t = (x : Object ℕ) × (meets by_number t x ≡ true) × (is_kept kind x ≡ false)

-- the kind keeps each object that meets the type, and no smaller kind does
pub record IsKindOf (t : ValueType ℕ) (kind : Kind) : Type 0 where
  pub keeps : (x : Object ℕ) → meets by_number t x ≡ true → is_kept kind x ≡ true
  pub smallest : (less : Kind) → rank less < rank kind → Exceeds less t
  pub general : Exceeds I64 t → kind ≡ General
  pub exceeds : kind ≡ General → Exceeds I64 t

pub record KindsAreOfTypes : Type 0 where
  pub kinds : (t : ValueType ℕ) → IsKindOf t (kind_of t)

-- ---- rows

abbrev pub word : ℕ → Object ℕ
word s = Symbol s

abbrev pub form : List (Object ℕ) → Object ℕ
form os = list_onto os (Symbol nil)

-- the kind of the type that an object is written for
abbrev pub written_kind : Object ℕ → Option Kind
written_kind o = option_map kind_of (type_of (λ (x : Object ℕ). x) o)

abbrev pub number : ℤ → Object ℕ
number n = Integer n

pub record KindRows : Type 0 where
  -- (AND INTEGER (NOT (OR (INTEGER * -1) (INTEGER 256 *))))
  pub cut : written_kind (form (word and_word ∷ word integer_word ∷ form (word not_word ∷ form (word or_word ∷ form (word integer_word ∷ word star_word ∷ number (negsuc 0) ∷ []) ∷ form (word integer_word ∷ number (pos 256) ∷ word star_word ∷ []) ∷ []) ∷ []) ∷ [])) ≡ Some Byte
  -- (OR BIT (MEMBER 300))
  pub more : written_kind (form (word or_word ∷ word bit_word ∷ form (word member_word ∷ number (pos 300) ∷ []) ∷ [])) ≡ Some I32
  -- (NOT (NOT BIT))
  pub twice : written_kind (form (word not_word ∷ form (word not_word ∷ word bit_word ∷ []) ∷ [])) ≡ Some Byte
  -- INTEGER, T
  pub integers : written_kind (word integer_word) ≡ Some General
  pub all : written_kind (word truth) ≡ Some General
  -- (OR BIT STRING)
  pub mixed : written_kind (form (word or_word ∷ word bit_word ∷ word string_word ∷ [])) ≡ Some General
  -- (SIGNED-BYTE 64), (UNSIGNED-BYTE 64), (UNSIGNED-BYTE 8), (SIGNED-BYTE 8), (SIGNED-BYTE 32)
  pub signed : written_kind (form (word signed_byte_word ∷ number (pos 64) ∷ [])) ≡ Some I64
  pub unsigned : written_kind (form (word unsigned_byte_word ∷ number (pos 64) ∷ [])) ≡ Some General
  pub byte : written_kind (form (word unsigned_byte_word ∷ number (pos 8) ∷ [])) ≡ Some Byte
  pub small : written_kind (form (word signed_byte_word ∷ number (pos 8) ∷ [])) ≡ Some I32
  pub half : written_kind (form (word signed_byte_word ∷ number (pos 32) ∷ [])) ≡ Some I32
  -- (INTEGER 0 4294967296)
  pub wide : written_kind (form (word integer_word ∷ number (pos 0) ∷ number (pos 4294967296) ∷ [])) ≡ Some I64
  -- (MEMBER 1 2 A), of a symbol that is new; (MEMBER 1 2 NIL), (MEMBER 1 2)
  pub fresh : written_kind (form (word member_word ∷ number (pos 1) ∷ number (pos 2) ∷ word 196 ∷ [])) ≡ Some General
  pub member : written_kind (form (word member_word ∷ number (pos 1) ∷ number (pos 2) ∷ word nil ∷ [])) ≡ Some General
  pub numbers : written_kind (form (word member_word ∷ number (pos 1) ∷ number (pos 2) ∷ [])) ≡ Some Byte
  -- (INTEGER 5 3), of which there is none; (AND STRING (MEMBER 7))
  pub empty : written_kind (form (word integer_word ∷ number (pos 5) ∷ number (pos 3) ∷ [])) ≡ Some Byte
  pub neither : written_kind (form (word and_word ∷ word string_word ∷ form (word member_word ∷ number (pos 7) ∷ []) ∷ [])) ≡ Some Byte
