-- The lines of commands.
use Rattle.std.specs.Prelude.{ℕ, List, [], ◌∷◌, ◌++◌, map, true, codes}
use Rattle.std.specs.Char.{to_ascii_lowercase}
use Rattle.model_objects.specs.Object.{Symbol, Text}
use Rattle.model_symbols.specs.Symbols.{QualifiedName}
use Rattle.model_text.specs.Token.{Form}
use Rattle.model_text.specs.Text.{text}
use Rattle.model_output_so_far.specs.Sessions.{Session, Answered}

-- a form's text in a session
abbrev pub printed : Session → Form → List ℕ
printed s f = text s.table.packages s.current f

abbrev pub printed_symbol : Session → QualifiedName → List ℕ
printed_symbol s f = printed s (Symbol f)

-- an object's name in lower case in angle brackets
abbrev pub shown_name : List ℕ → List ℕ
shown_name name = codes "<" ++ (map to_ascii_lowercase name ++ codes ">")

-- ---- refusals

-- why a command is refused
pub data Refusal : Type 0 where
  NotYet : Refusal  -- it is of a kind that is not known yet
  BadShape : QualifiedName → Refusal  -- a form of this head has a wrong shape
  BadName : QualifiedName → Refusal  -- this cannot be the name of an object or a field
  SymbolLimit : Refusal  -- there is no room for the names of its functions
  NameInUse : QualifiedName → Refusal  -- this name of a function is taken
  UnknownPackage : List ℕ → Refusal

abbrev pub refusal_text : Session → Refusal → List ℕ
refusal_text s NotYet = codes "NotYet"
refusal_text s (BadShape f) = codes "BadShape " ++ printed_symbol s f
refusal_text s (BadName f) = codes "BadName " ++ printed_symbol s f
refusal_text s SymbolLimit = codes "SymbolLimit"
refusal_text s (NameInUse f) = codes "NameInUse " ++ printed_symbol s f
refusal_text s (UnknownPackage name) = codes "UnknownPackage " ++ printed s (Text name)

-- a refused command leaves the session that it came to
abbrev pub refused : Session → Refusal → Answered
refused s r = record { session = s; line = codes "Refused: " ++ refusal_text s r; calls = 0; is_error = true }

-- ---- stops

abbrev pub spaced : List (List ℕ) → List ℕ
spaced [] = []
spaced (t ∷ ts) = 32 ∷ (t ++ spaced ts)

-- a guard violation: the function and its arguments
abbrev pub violation_text : List ℕ → List (List ℕ) → List ℕ
violation_text function arguments = codes "Guard violation: (" ++ (function ++ (spaced arguments ++ codes ")"))

-- a call that stopped
abbrev pub stopped : Session → List ℕ → Answered
stopped s line = record { session = s; line = line; calls = 1; is_error = true }
