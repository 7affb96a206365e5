-- The events that are known: the definition of an object, and the choice of a package.
use Rattle.std.specs.Prelude.{ℕ, ◌-◌, unwrap_or, slice_get, List, [], ◌∷◌, ◌++◌, length, map, Bool, ◌&&◌, ◌||◌, not, nat_le, ◌==◌, codes, Option, Some, None, if◌then◌else◌, true, false}
use Rattle.std.specs.Str.{bytes_eq}
use Rattle.model_objects.specs.Object.{Text}
use Rattle.model_symbols.specs.Symbols.{QualifiedName, Package, symbol_in, package_number, is_known, interned, is_one_too_many}
use Rattle.model_symbols.specs.Opening.{common_lisp, keyword, hidden}
use Rattle.model_prims.specs.Applied.{package_called}
use Rattle.model_output_so_far.specs.Commands.{NewField}
use Rattle.model_output_so_far.specs.Reserved.{is_reserved}
use Rattle.model_output_so_far.specs.Sessions.{Field, Stobj, Session, knowing, Answered}
use Rattle.model_output_so_far.specs.Lines.{printed, printed_symbol, refused, NotYet, BadName, SymbolLimit, NameInUse, UnknownPackage}

-- ---- names

abbrev pub byte_at : List ℕ → ℕ → ℕ
byte_at bytes n = unwrap_or (slice_get bytes n) 0

-- at least three bytes that begin and end with `*`
abbrev pub has_constant_shape : List ℕ → Bool
has_constant_shape name = nat_le 3 (length name) && ((byte_at name 0 == 42) && (byte_at name (length name - 1) == 42))

-- a symbol of a package whose symbols nobody may define
abbrev pub is_of_closed_package : QualifiedName → Bool
is_of_closed_package s = bytes_eq s.home common_lisp || (bytes_eq s.home keyword || bytes_eq s.home hidden)

-- the symbol may name an object or a field
abbrev pub may_name : QualifiedName → Bool
may_name s = not (is_of_closed_package s) && not (has_constant_shape s.name)

abbrev pub first_bad : List QualifiedName → Option QualifiedName
first_bad [] = None
first_bad (s ∷ ss) = if may_name s then first_bad ss else Some s

-- ---- the functions of an object

-- the symbol of a name in the package of another symbol
abbrev pub beside : List Package → QualifiedName → List ℕ → QualifiedName
beside packages s name = symbol_in (package_called packages s.home) name

abbrev pub recognizer : List Package → QualifiedName → QualifiedName
recognizer packages s = beside packages s (s.name ++ codes "P")

abbrev pub creator : List Package → QualifiedName → QualifiedName
creator packages s = beside packages s (codes "CREATE-" ++ s.name)

abbrev pub updater : List Package → QualifiedName → QualifiedName
updater packages f = beside packages f (codes "UPDATE-" ++ f.name)

-- the functions of a field: its recognizer, the one that reads it, and the one that updates it
abbrev pub field_names : List Package → QualifiedName → List QualifiedName
field_names packages f = recognizer packages f ∷ f ∷ updater packages f ∷ []

abbrev pub fields_names : List Package → List QualifiedName → List QualifiedName
fields_names packages [] = []
fields_names packages (f ∷ fs) = field_names packages f ++ fields_names packages fs

-- all new names of a definition, in their order
abbrev pub new_names : List Package → QualifiedName → List QualifiedName → List QualifiedName
new_names packages s fields = s ∷ recognizer packages s ∷ creator packages s ∷ fields_names packages fields

-- the first name that is taken, or that comes again
abbrev pub first_in_use : List QualifiedName → Option QualifiedName
first_in_use [] = None
first_in_use (s ∷ ss) = if is_reserved s || is_known ss s then Some s else first_in_use ss

-- the symbols once these are known, as far as there is room
pub record Room : Type 0 where
  pub symbols : List QualifiedName
  pub is_full : Bool

abbrev pub with_names : List QualifiedName → List QualifiedName → Room
with_names symbols [] = record { symbols = symbols; is_full = false }
with_names symbols (s ∷ ss) =
    if is_one_too_many symbols s then record { symbols = symbols; is_full = true }
    else with_names (interned symbols s) ss

-- ---- definitions

abbrev pub names_of : List NewField → List QualifiedName
names_of fields = map (λ (f : NewField). f.name) fields

abbrev pub new_field : List Package → NewField → Field
new_field packages f = record { name = f.name; updater = updater packages f.name }

abbrev pub new_object : List Package → QualifiedName → List NewField → Stobj
new_object packages s fields = record {
  name = s;
  fields = map (new_field packages) fields;
  values = map (λ (f : NewField). f.initial) fields;
}

abbrev pub defined : Session → QualifiedName → List NewField → Answered
defined s name fields = record {
  session = record s { object = Some (new_object s.table.packages name fields) };
  line = printed_symbol s name;
  calls = 0;
  is_error = false;
}

-- no new name is taken, or this one is
abbrev pub if_free : Session → QualifiedName → List NewField → Option QualifiedName → Answered
if_free s name fields None = defined s name fields
if_free s name fields (Some taken) = refused s (NameInUse taken)

abbrev pub if_room : Session → QualifiedName → List NewField → List QualifiedName → Room → Answered
if_room s name fields names room =
    if room.is_full then refused (knowing s room.symbols) SymbolLimit
    else if_free (knowing s room.symbols) name fields (first_in_use names)

-- the names can be given, or this one cannot
abbrev pub if_good : Session → QualifiedName → List NewField → Option QualifiedName → Answered
if_good s name fields (Some bad) = refused s (BadName bad)
if_good s name fields None =
    let names = new_names s.table.packages name (names_of fields) in
    if_room s name fields names (with_names s.table.symbols names)

-- one object is all that there can be yet
abbrev pub define : Session → Option Stobj → QualifiedName → List NewField → Answered
define s (Some o) name fields = refused s NotYet
define s None name fields = if_good s name fields (first_bad (name ∷ names_of fields))

-- ---- packages

abbrev pub entered : Session → List ℕ → ℕ → Answered
entered s name n = record { session = record s { current = n }; line = printed s (Text name); calls = 0; is_error = false }

abbrev pub enter_found : Session → List ℕ → Option ℕ → Answered
enter_found s name None = refused s (UnknownPackage name)
enter_found s name (Some n) = entered s name n

-- the package of this name is now the current one; the hidden one can not be
abbrev pub enter : Session → List ℕ → Answered
enter s name =
    if bytes_eq name hidden then refused s (UnknownPackage name)
    else enter_found s name (package_number s.table.packages name)
