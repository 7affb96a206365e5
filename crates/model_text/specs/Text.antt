-- The one printed form of an object (Common Lisp the Language, second edition, 22.1.6).
use Rattle.std.specs.Prelude.{ℕ, ◌==◌, List, [], ◌∷◌, ◌++◌, Bool, true, false, ◌&&◌, ◌||◌, not, if◌then◌else◌, is_some, codes}
use Rattle.std.specs.Char.{is_ascii_digit, is_ascii_uppercase}
use Rattle.std.specs.List.{list_all, list_any}
use Rattle.std.specs.Str.{bytes_eq}
use Rattle.std.specs.Fmt.{signed_decimal}
use Rattle.model_objects.specs.Object.{Object, Integer, Symbol, Text, Pair}
use Rattle.model_symbols.specs.Symbols.{QualifiedName, Package, package_at, symbol_in, same_name, form_of}
use Rattle.model_symbols.specs.Opening.{keyword, nil_name}
use Rattle.model_text.specs.Token.{Form, Packages, is_empty, integer_of, is_ratio, is_float, are_dots}

-- ---- names

-- a letter, a digit or one of these signs
abbrev pub is_plain_byte : ℕ → Bool
is_plain_byte b = is_ascii_uppercase b || (is_ascii_digit b || list_any (λ c. c == b) (codes "!$%&*+-./<=>?@[]^_{}~"))

-- as a token it would be a number, a ratio, a float or dots
abbrev pub is_like_number : List ℕ → Bool
is_like_number name = is_some (integer_of name) || (is_ratio name || (is_float name || are_dots name))

abbrev pub is_plain : List ℕ → Bool
is_plain name = not (is_empty name) && (list_all is_plain_byte name && not (is_like_number name))

-- the bytes, with a backslash before each one that is `end` or a backslash
abbrev pub escaped : ℕ → List ℕ → List ℕ
escaped end [] = []
escaped end (b ∷ bs) = if (b == end) || (b == 92) then 92 ∷ b ∷ escaped end bs else b ∷ escaped end bs

-- a name or a package: plainly, or between bars
abbrev pub name_text : List ℕ → List ℕ
name_text name = if is_plain name then name else 124 ∷ (escaped 124 name ++ 124 ∷ [])

-- ---- atoms

-- the current package has this very symbol under its name
abbrev pub is_at_home : Packages → QualifiedName → Bool
is_at_home packages s = same_name (symbol_in (package_at packages.all packages.current) s.name) s

-- what stands before the name of a symbol: a colon, nothing, or the package and two colons
abbrev pub prefix_text : Packages → QualifiedName → List ℕ
prefix_text packages s =
    if bytes_eq s.home keyword then 58 ∷ []
    else (if is_at_home packages s then []
    else name_text s.home ++ 58 ∷ 58 ∷ [])

abbrev pub symbol_text : Packages → QualifiedName → List ℕ
symbol_text packages s = prefix_text packages s ++ name_text s.name

abbrev pub string_text : List ℕ → List ℕ
string_text bytes = 34 ∷ (escaped 34 bytes ++ 34 ∷ [])

-- ---- objects

abbrev pub is_nil : Form → Bool
is_nil (Integer n) = false
is_nil (Symbol s) = same_name s nil_name
is_nil (Text bytes) = false
is_nil (Pair a d) = false

-- the end of a list, with its bracket: nothing but the bracket for NIL, else a dot and the last atom
abbrev pub end_text : Bool → List ℕ → List ℕ
end_text true atom = 41 ∷ []
end_text false atom = 32 ∷ 46 ∷ 32 ∷ (atom ++ 41 ∷ [])

-- an atom (false), or the end of a list that it is (true)
abbrev pub atom_text : Form → List ℕ → Bool → List ℕ
atom_text o text false = text
atom_text o text true = end_text (is_nil o) text

-- what stands before a pair: a bracket where a list begins (false), a blank where it goes on (true)
abbrev pub pair_start : Bool → ℕ
pair_start false = 40
pair_start true = 32

-- the text of an object (false), or of the rest of a list with its bracket (true)
abbrev pub spelled : Packages → Form → Bool → List ℕ
spelled packages (Integer n) rest = atom_text (Integer n) (signed_decimal n) rest
spelled packages (Symbol s) rest = atom_text (Symbol s) (symbol_text packages s) rest
spelled packages (Text bytes) rest = atom_text (Text bytes) (string_text bytes) rest
spelled packages (Pair a d) rest = pair_start rest ∷ (spelled packages a false ++ spelled packages d true)

-- the text of an object, given the packages and the number of the current one
abbrev pub text : List Package → ℕ → Form → List ℕ
text all current o = spelled (record { all = all; current = current }) o false

-- the same of an object whose symbols are numbers in this list
abbrev pub text_of : List Package → ℕ → List QualifiedName → Object ℕ → List ℕ
text_of all current symbols o = text all current (form_of symbols o)
