-- The parts of a form that are open, and what each lexeme does to them (Common Lisp the Language, second edition, 22.1).
use Rattle.std.specs.Prelude.{ℕ, nat_lt, List, [], ◌∷◌, ◌++◌, length, Bool, true, false, Option, Some, None, if◌then◌else◌}
use Rattle.model_text.specs.Token.{Form}
use Rattle.model_text.specs.Backquote.{Item, Plain, Made, Spliced, item_form, item_expansion, joined_onto, quoted_item, nil_form}
use Rattle.model_text.specs.declared.TextCause.{TextCause}
use Rattle.model_text.specs.declared.TextCause.TheVariants.{StrayClose, BadDot, CommaOutside, BadToken, TooDeep}

-- what the bytes are made of, besides blanks and comments: an integer, a symbol or a string, or a mark
pub data Lexeme : Type 0 where
  Atom : Form → Lexeme
  Open : Lexeme
  Close : Lexeme
  Dot : Lexeme
  Quote : Lexeme
  Backquote : Lexeme
  Comma : Lexeme
  CommaAt : Lexeme

-- a part that is open: a quote, a backquote or a comma that waits for its form, or a list with what it holds, the oldest first
pub data Part : Type 0 where
  Quoted : Part
  Backquoted : Part
  Unquoted : Part
  Splicing : Part
  Opened : List Item → Part
  Dotted : List Item → ℕ → Part  -- with a dot at this offset
  Ended : List Item → ℕ → Item → Part  -- and with a form behind the dot

-- how many parts may be open
abbrev pub most_parts : ℕ
most_parts = 200

-- what a lexeme does: other parts are open then, or a whole form was read, or it is a fault
pub data Put : Type 0 where
  Parts : List Part → Put
  Whole : Form → Put
  Bad : TextCause → ℕ → Put

abbrev pub after_put : Put → (List Part → Put) → Put
after_put (Parts ps) f = f ps
after_put (Whole g) f = Whole g
after_put (Bad c n) f = Bad c n

-- the nearest backquote or comma around is a backquote
abbrev pub in_backquote : List Part → Bool
in_backquote [] = false
in_backquote (Quoted ∷ ps) = in_backquote ps
in_backquote (Backquoted ∷ ps) = true
in_backquote (Unquoted ∷ ps) = false
in_backquote (Splicing ∷ ps) = false
in_backquote (Opened is ∷ ps) = in_backquote ps
in_backquote (Dotted is d ∷ ps) = in_backquote ps
in_backquote (Ended is d i ∷ ps) = in_backquote ps

-- an element may stand here, between the brackets of a list and before its dot
abbrev pub takes_element : List Part → Bool
takes_element [] = false
takes_element (Quoted ∷ ps) = false
takes_element (Backquoted ∷ ps) = false
takes_element (Unquoted ∷ ps) = false
takes_element (Splicing ∷ ps) = false
takes_element (Opened is ∷ ps) = true
takes_element (Dotted is d ∷ ps) = false
takes_element (Ended is d i ∷ ps) = false

-- where the dot of the innermost list stands, if a form stands behind it already
abbrev pub full_dot : List Part → Option ℕ
full_dot [] = None
full_dot (Quoted ∷ ps) = None
full_dot (Backquoted ∷ ps) = None
full_dot (Unquoted ∷ ps) = None
full_dot (Splicing ∷ ps) = None
full_dot (Opened is ∷ ps) = None
full_dot (Dotted is d ∷ ps) = None
full_dot (Ended is d i ∷ ps) = Some d

-- no second form begins behind a dot
abbrev pub unless_full : Option ℕ → Put → Put
unless_full None put = put
unless_full (Some d) put = Bad BadDot d

-- what was read goes where it belongs
abbrev pub delivered : Item → List Part → Put
delivered i [] = Whole (item_form i)
delivered i (Quoted ∷ ps) = delivered (quoted_item i) ps
delivered i (Backquoted ∷ ps) = delivered (Plain (item_expansion i)) ps
delivered i (Unquoted ∷ ps) = delivered (Made (item_form i)) ps
delivered i (Splicing ∷ ps) = delivered (Spliced (item_form i)) ps
delivered i (Opened is ∷ ps) = Parts (Opened (is ++ i ∷ []) ∷ ps)
delivered i (Dotted is d ∷ ps) = Parts (Ended is d i ∷ ps)
delivered i (Ended is d j ∷ ps) = Bad BadDot d

-- a part opens, with the byte at this offset
abbrev pub opened : Part → ℕ → List Part → Put
opened p at ps = if nat_lt (length ps) most_parts then Parts (p ∷ ps) else Bad TooDeep at

-- a list closes
abbrev pub closed : ℕ → List Part → Put
closed at [] = Bad StrayClose at
closed at (Quoted ∷ ps) = Bad StrayClose at
closed at (Backquoted ∷ ps) = Bad StrayClose at
closed at (Unquoted ∷ ps) = Bad StrayClose at
closed at (Splicing ∷ ps) = Bad StrayClose at
closed at (Opened is ∷ ps) = delivered (joined_onto is (Plain nil_form)) ps
closed at (Dotted is d ∷ ps) = Bad BadDot d
closed at (Ended is d i ∷ ps) = delivered (joined_onto is i) ps

-- a dot stands behind the first elements of a list
abbrev pub dotted : ℕ → List Part → Put
dotted at [] = Bad BadDot at
dotted at (Quoted ∷ ps) = Bad BadDot at
dotted at (Backquoted ∷ ps) = Bad BadDot at
dotted at (Unquoted ∷ ps) = Bad BadDot at
dotted at (Splicing ∷ ps) = Bad BadDot at
dotted at (Opened [] ∷ ps) = Bad BadDot at
dotted at (Opened (i ∷ is) ∷ ps) = Parts (Dotted (i ∷ is) at ∷ ps)
dotted at (Dotted is d ∷ ps) = Bad BadDot at
dotted at (Ended is d i ∷ ps) = Bad BadDot at

-- a lexeme that begins at this offset
abbrev pub put : Lexeme → ℕ → List Part → Put
put (Atom f) at ps = delivered (Plain f) ps
put Open at ps = unless_full (full_dot ps) (opened (Opened []) at ps)
put Close at ps = closed at ps
put Dot at ps = dotted at ps
put Quote at ps = unless_full (full_dot ps) (opened Quoted at ps)
put Backquote at ps = unless_full (full_dot ps) (if in_backquote ps then Bad BadToken at else opened Backquoted at ps)
put Comma at ps = unless_full (full_dot ps) (if in_backquote ps then opened Unquoted at ps else Bad CommaOutside at)
put CommaAt at ps = unless_full (full_dot ps) (if in_backquote ps then (if takes_element ps then opened Splicing at ps else Bad CommaOutside at) else Bad CommaOutside at)

-- ---- all lexemes of a form

-- a lexeme, and the offset of its first byte
pub record Placed : Type 0 where
  pub lexeme : Lexeme
  pub at : ℕ

-- what is open after these lexemes, where these parts were open before them
abbrev pub put_all : List Part → List Placed → Put
put_all ps [] = Parts ps
put_all ps (l ∷ ls) = after_put (put l.lexeme l.at ps) (λ qs. put_all qs ls)
