-- The commands that are known: the definition of an object of integer fields, the choice of a package, and the call of a
-- function on constants and an object.
use Rattle.std.specs.Prelude.{ℤ, ℕ, List, [], ◌∷◌, map, Bool, ◌&&◌, ◌||◌, codes, Option, Some, None, if◌then◌else◌, false}
use Rattle.std.specs.Option.{option_map, option_and_then}
use Rattle.std.specs.Str.{bytes_eq}
use Rattle.model_objects.specs.Object.{Integer, Symbol, Text, Pair}
use Rattle.model_symbols.specs.Symbols.{QualifiedName, same_name}
use Rattle.model_symbols.specs.Opening.{acl2, common_lisp, keyword, nil_name, truth_name, quote_name}
use Rattle.model_text.specs.Token.{Form}

-- ---- names

abbrev pub defstobj_name : QualifiedName
defstobj_name = record { home = acl2; name = codes "DEFSTOBJ" }

abbrev pub in_package_name : QualifiedName
in_package_name = record { home = common_lisp; name = codes "IN-PACKAGE" }

abbrev pub integer_name : QualifiedName
integer_name = record { home = common_lisp; name = codes "INTEGER" }

abbrev pub type_name : QualifiedName
type_name = record { home = keyword; name = codes "TYPE" }

abbrev pub initially_name : QualifiedName
initially_name = record { home = keyword; name = codes "INITIALLY" }

-- `T`, `NIL` and the keywords stand for themselves
abbrev pub is_constant : QualifiedName → Bool
is_constant s = bytes_eq s.home keyword || (same_name s truth_name || same_name s nil_name)

-- ---- parts of forms

-- the elements of a true list
abbrev pub elements : Form → Option (List Form)
elements (Integer n) = None
elements (Symbol s) = if same_name s nil_name then Some [] else None
elements (Text bytes) = None
elements (Pair a d) = option_map (λ (fs : List Form). a ∷ fs) (elements d)

abbrev pub symbol_of : Form → Option QualifiedName
symbol_of (Integer n) = None
symbol_of (Symbol s) = Some s
symbol_of (Text bytes) = None
symbol_of (Pair a d) = None

abbrev pub integer_of : Form → Option ℤ
integer_of (Integer n) = Some n
integer_of (Symbol s) = None
integer_of (Text bytes) = None
integer_of (Pair a d) = None

abbrev pub string_of : Form → Option (List ℕ)
string_of (Integer n) = None
string_of (Symbol s) = None
string_of (Text bytes) = Some bytes
string_of (Pair a d) = None

abbrev pub is_symbol : QualifiedName → Form → Bool
is_symbol s (Integer n) = false
is_symbol s (Symbol t) = same_name t s
is_symbol s (Text bytes) = false
is_symbol s (Pair a d) = false

-- the element of a list of one
abbrev pub only_one : List Form → Option Form
only_one [] = None
only_one (f ∷ []) = Some f
only_one (f ∷ g ∷ fs) = None

-- ---- actuals

-- what stands as an actual of a call
pub data Actual : Type 0 where
  Literal : Form → Actual  -- an integer, a string, `T`, `NIL` or a keyword
  Quoted : Form → Actual
  Variable : QualifiedName → Actual
  Nested : Actual  -- any other form

abbrev pub quoted : Option Form → Actual
quoted None = Nested
quoted (Some f) = Quoted f

abbrev pub actual_of : Form → Actual
actual_of (Integer n) = Literal (Integer n)
actual_of (Symbol s) = if is_constant s then Literal (Symbol s) else Variable s
actual_of (Text bytes) = Literal (Text bytes)
actual_of (Pair a d) = if is_symbol quote_name a then quoted (option_and_then only_one (elements d)) else Nested

-- ---- commands

pub record NewField : Type 0 where
  pub name : QualifiedName
  pub initial : ℤ

pub data Command : Type 0 where
  Define : QualifiedName → List NewField → Command  -- an object of this name, with these fields
  Enter : List ℕ → Command  -- the package of this name
  Misshapen : QualifiedName → Command  -- an event whose form has a wrong shape, by its head
  Call : QualifiedName → List Actual → Command
  Other : Command  -- any other form

abbrev pub new_field : Option QualifiedName → Option ℤ → Option NewField
new_field None initial = None
new_field (Some name) None = None
new_field (Some name) (Some initial) = Some (record { name = name; initial = initial })

-- `(F :type integer :initially N)`
abbrev pub field_in : List Form → Option NewField
field_in [] = None
field_in (f ∷ []) = None
field_in (f ∷ a ∷ []) = None
field_in (f ∷ a ∷ b ∷ []) = None
field_in (f ∷ a ∷ b ∷ c ∷ []) = None
field_in (f ∷ a ∷ b ∷ c ∷ n ∷ []) =
    if is_symbol type_name a && (is_symbol integer_name b && is_symbol initially_name c)
    then new_field (symbol_of f) (integer_of n)
    else None
field_in (f ∷ a ∷ b ∷ c ∷ n ∷ m ∷ more) = None

abbrev pub field_of : Form → Option NewField
field_of f = option_and_then field_in (elements f)

abbrev pub fields_of : List Form → Option (List NewField)
fields_of [] = Some []
fields_of (f ∷ fs) = option_and_then (λ field. option_map (λ (rest : List NewField). field ∷ rest) (fields_of fs)) (field_of f)

-- an object has at least one field
abbrev pub with_fields : QualifiedName → List NewField → Command
with_fields s [] = Other
with_fields s (f ∷ fs) = Define s (f ∷ fs)

abbrev pub defined : Option QualifiedName → Option (List NewField) → Command
defined None fields = Other
defined (Some s) None = Other
defined (Some s) (Some fields) = with_fields s fields

-- `(defstobj S (F :type integer :initially N) ..)`, by what stands behind the head
abbrev pub definition : List Form → Command
definition [] = Other
definition (s ∷ fields) = defined (symbol_of s) (fields_of fields)

abbrev pub entered : Option (List ℕ) → Command
entered None = Misshapen in_package_name
entered (Some name) = Enter name

-- `(in-package "P")`, by what stands behind the head
abbrev pub entry : List Form → Command
entry fs = entered (option_and_then string_of (only_one fs))

abbrev pub event_or_call : QualifiedName → List Form → Command
event_or_call f rest =
    if same_name f in_package_name then entry rest
    else (if same_name f defstobj_name then definition rest
    else Call f (map actual_of rest))

-- what stands behind the head is no true list
abbrev pub improper : QualifiedName → Command
improper f = if same_name f in_package_name then Misshapen in_package_name else Other

abbrev pub headed : QualifiedName → Option (List Form) → Command
headed f None = improper f
headed f (Some rest) = event_or_call f rest

abbrev pub with_head : Option QualifiedName → Form → Command
with_head None d = Other
with_head (Some f) d = headed f (elements d)

-- the command that a form is
unfoldable pub command_of : Form → Command
command_of (Integer n) = Other
command_of (Symbol s) = Other
command_of (Text bytes) = Other
command_of (Pair a d) = with_head (symbol_of a) d
