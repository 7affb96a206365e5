-- Lexemes as the code has them, and the parts that they leave open.
use Rattle.std.specs.Prelude.{ℕ, ◌<◌, List, [], ◌∷◌, map}
use Rattle.model_objects.specs.Object.{Integer, Symbol, Text}
use Rattle.model_symbols.specs.Symbols.{QualifiedName, symbol_at}
use Rattle.model_text.specs.Token.{Form}
use Rattle.model_text.specs.Backquote.{nil_form}
use Rattle.model_text.specs.Parts as parts
use Rattle.model_text.specs.Parts.{Part, Put, put_all}
use Rattle.acl_read_lexemes.specs.declared.Lexeme.{Lexeme}
use Rattle.acl_read_lexemes.specs.declared.Lexeme.TheVariants.{Number, Name, Text as Bytes, Open, Close, Dot, Quote, Backquote, Comma, CommaAt}
use Rattle.acl_read_lexemes.specs.declared.Placed.{Placed}

-- the lexeme, its symbols by name
abbrev pub lexeme_at : List QualifiedName → Lexeme → parts.Lexeme
lexeme_at symbols (Number n) = parts.Atom (Integer n)
lexeme_at symbols (Name s) = parts.Atom (Symbol (symbol_at symbols s.0))
lexeme_at symbols (Bytes bytes) = parts.Atom (Text bytes.items)
lexeme_at symbols Open = parts.Open
lexeme_at symbols Close = parts.Close
lexeme_at symbols Dot = parts.Dot
lexeme_at symbols Quote = parts.Quote
lexeme_at symbols Backquote = parts.Backquote
lexeme_at symbols Comma = parts.Comma
lexeme_at symbols CommaAt = parts.CommaAt

abbrev pub placed_at : List QualifiedName → Placed → parts.Placed
placed_at symbols p = record { lexeme = lexeme_at symbols p.lexeme; at = p.at }

-- what the lexemes do, where nothing is open before them
abbrev pub put_of : List QualifiedName → List Placed → Put
put_of symbols ls = put_all [] (map (placed_at symbols) ls)

-- the parts that are open then
abbrev pub open_parts : Put → List Part
open_parts (parts.Parts ps) = ps
open_parts (parts.Whole f) = []
open_parts (parts.Bad c n) = []

abbrev pub parts_of : List QualifiedName → List Placed → List Part
parts_of symbols ls = open_parts (put_of symbols ls)

-- the form that they are
abbrev pub whole_form : Put → Form
whole_form (parts.Parts ps) = nil_form
whole_form (parts.Whole f) = f
whole_form (parts.Bad c n) = nil_form

abbrev pub form_of : List QualifiedName → List Placed → Form
form_of symbols ls = whole_form (put_of symbols ls)

-- the lexeme's symbol has a number below n
abbrev pub IsKnown : ℕ → Lexeme → Type 0
IsKnown n (Number i) = Unit {0}
IsKnown n (Name s) = s.0 < n
IsKnown n (Bytes bytes) = Unit {0}
IsKnown n Open = Unit {0}
IsKnown n Close = Unit {0}
IsKnown n Dot = Unit {0}
IsKnown n Quote = Unit {0}
IsKnown n Backquote = Unit {0}
IsKnown n Comma = Unit {0}
IsKnown n CommaAt = Unit {0}

abbrev pub AreKnown : ℕ → List Placed → Type 0
AreKnown n [] = Unit {0}
AreKnown n (p ∷ ps) = IsKnown n p.lexeme × AreKnown n ps
