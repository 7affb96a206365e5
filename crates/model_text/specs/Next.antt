-- What stands first in the bytes (Common Lisp the Language, second edition, 22.1).
use Rattle.std.specs.Prelude.{ℕ, ◌+◌, ◌-◌, ◌==◌, nat_lt, nat_le, List, [], ◌∷◌, ◌++◌, length, Bool, true, false, ◌&&◌, ◌||◌, if◌then◌else◌}
use Rattle.std.specs.Str.{bytes_eq}
use Rattle.model_objects.specs.Object.{Integer, Symbol, Text, weight, max_weight}
use Rattle.model_symbols.specs.Symbols.{QualifiedName, Package, interned}
use Rattle.model_text.specs.Token.{Form, Packages, is_empty, ends_token, is_graphic, is_bar, Token, Number, Name, Wrong, token_of, with_room}
use Rattle.model_text.specs.Token as token
use Rattle.model_text.specs.Parts.{Lexeme, Atom, Open, Close, Dot, Quote, Backquote, Comma, CommaAt, Part, Put, Parts, Whole, Bad, in_backquote, full_dot, unless_full, put}
use Rattle.model_text.specs.declared.TextCause.{TextCause}
use Rattle.model_text.specs.declared.TextCause.TheVariants.{CommaOutside, BadByte, FormTooLong, TooLarge, Unfinished, InputTooLong}

abbrev pub most_bytes : ℕ
most_bytes = 1048576

abbrev pub most_input : ℕ
most_input = 67108864

-- what the bytes so far end in
pub data Inside : Type 0 where
  Free : Inside  -- between tokens, or in a token outside its bars
  Bars : Inside  -- between two bars of a token
  BarsEscape : Inside  -- behind a backslash there
  String : Inside
  StringEscape : Inside  -- behind a backslash in a string
  Line : Inside  -- a comment up to the end of its line
  Block : ℕ → Inside  -- so many block comments
  BlockHash : ℕ → Inside  -- behind a `#` there, which may begin one more
  BlockBar : ℕ → Inside  -- behind a `|` there, which may end one
  AfterComma : Inside  -- behind a comma, which the next byte may make `,@`

-- what has been read
pub record State : Type 0 where
  pub parts : List Part  -- the parts that are open, the innermost first
  pub inside : Inside
  pub token : List ℕ  -- the bytes of the token that has begun, or of the text of the string
  pub at : ℕ  -- the offset of the next byte
  pub first : ℕ  -- where the outermost form begins, or the comment that stands in no form
  pub symbols : List QualifiedName

abbrev pub nothing_read : List QualifiedName → ℕ → State
nothing_read symbols at = record { parts = []; inside = Free; token = []; at = at; first = at; symbols = symbols }

-- what bytes lead to: a state, a form with the offset behind it and the symbols then known, or a fault
pub data Step : Type 0 where
  Goes : State → Step
  Gives : Form → ℕ → List QualifiedName → Step
  Fails : TextCause → ℕ → Step

abbrev pub after : Step → (State → Step) → Step
after (Goes s) f = f s
after (Gives o n symbols) f = Gives o n symbols
after (Fails c n) f = Fails c n

abbrev pub is_free : Inside → Bool
is_free Free = true
is_free Bars = false
is_free BarsEscape = false
is_free String = false
is_free StringEscape = false
is_free Line = false
is_free (Block n) = false
is_free (BlockHash n) = false
is_free (BlockBar n) = false
is_free AfterComma = false

abbrev pub is_comment : Inside → Bool
is_comment Free = false
is_comment Bars = false
is_comment BarsEscape = false
is_comment String = false
is_comment StringEscape = false
is_comment Line = true
is_comment (Block n) = true
is_comment (BlockHash n) = true
is_comment (BlockBar n) = true
is_comment AfterComma = false

-- ---- the limits on bytes and on weight

-- no form and no comment has begun
abbrev pub is_idle : State → Bool
is_idle s = is_empty s.parts && (is_empty s.token && is_free s.inside)

-- where the outermost form begins, if the byte at this offset belongs to it
abbrev pub first_of : State → ℕ
first_of s = if is_idle s then s.at else s.first

-- the byte at this offset stands in no form, or the form has room for it
abbrev pub has_room : State → ℕ → Bool
has_room s at = (is_empty s.parts && is_comment s.inside) || nat_lt (at - first_of s) most_bytes

-- a whole form, which ends before this offset
abbrev pub whole : Form → ℕ → ℕ → List QualifiedName → Step
whole f at first symbols = if nat_le (weight f) max_weight then Gives f at symbols else Fails TooLarge first

-- the byte at this offset did this, and is taken, if there is room for it
abbrev pub counted : Put → Inside → List ℕ → ℕ → State → Step
counted (Parts ps) inside token at s =
    if has_room s at then Goes (record { parts = ps; inside = inside; token = token; at = at + 1; first = first_of s; symbols = s.symbols })
    else Fails FormTooLong at
counted (Whole f) inside token at s = if has_room s at then whole f (at + 1) (first_of s) s.symbols else Fails FormTooLong at
counted (Bad c n) inside token at s = Fails c n

-- the byte only goes on with what has begun
abbrev pub goes_on : Inside → List ℕ → State → Step
goes_on inside token s = counted (Parts s.parts) inside token s.at s

-- the byte is a whole lexeme
abbrev pub marked : Lexeme → State → Step
marked lexeme s = counted (put lexeme s.at s.parts) Free [] s.at s

-- ---- tokens

-- the token did this, and takes no further byte
abbrev pub placed : Put → List QualifiedName → State → Step
placed (Parts ps) symbols s = Goes (record { parts = ps; inside = Free; token = []; at = s.at; first = s.first; symbols = symbols })
placed (Whole f) symbols s = whole f s.at s.first symbols
placed (Bad c n) symbols s = Fails c n

-- a token that began at this offset
abbrev pub token_put : Token → ℕ → State → Step
token_put token.Dot start s = placed (put Dot start s.parts) s.symbols s
token_put (Number n) start s = placed (put (Atom (Integer n)) start s.parts) s.symbols s
token_put (Name q) start s = placed (put (Atom (Symbol q)) start s.parts) (interned s.symbols q) s
token_put (Wrong c) start s = Fails c start

-- the token ends here, if one has begun
abbrev pub token_ended : Packages → State → Step
token_ended packages s =
    if is_empty s.token then Goes s
    else token_put (with_room s.symbols (token_of packages s.token)) (s.at - length s.token) s

-- the first byte of a token does not yet show that a second form begins behind a dot: the dot may stand alone, and `#` may begin a comment
abbrev pub is_open_question : List ℕ → ℕ → Bool
is_open_question token b = is_empty token && ((b == 46) || (b == 35))

-- a byte of a token, outside its bars
abbrev pub letter : ℕ → State → Step
letter b s =
    if bytes_eq s.token (35 ∷ []) && is_bar b then goes_on (Block 1) [] s
    else (if is_open_question s.token b then goes_on Free (s.token ++ b ∷ []) s
    else counted (unless_full (full_dot s.parts) (Parts s.parts)) (if is_bar b then Bars else Free) (s.token ++ b ∷ []) s.at s)

-- ---- marks

-- a comma: what it is shows at the next byte
abbrev pub comma_begun : State → Step
comma_begun s = begun (unless_full (full_dot s.parts) (if in_backquote s.parts then Parts s.parts else Bad CommaOutside s.at)) where
  begun : Put → Step
  begun (Parts ps) = Goes (record { parts = ps; inside = AfterComma; token = []; at = s.at + 1; first = s.first; symbols = s.symbols })
  begun (Whole f) = Goes s
  begun (Bad c n) = Fails c n

-- the comma before this byte is a comma, or the first byte of `,@`
abbrev pub comma_ended : Lexeme → State → Step
comma_ended lexeme s = counted (put lexeme (s.at - 1) s.parts) Free [] (s.at - 1) s

-- a byte before which a token ends, where none has begun
abbrev pub mark : ℕ → State → Step
mark b s =
    if b == 40 then marked Open s
    else (if b == 41 then marked Close s
    else (if b == 39 then marked Quote s
    else (if b == 96 then marked Backquote s
    else (if b == 44 then comma_begun s
    else (if b == 34 then counted (unless_full (full_dot s.parts) (Parts s.parts)) String [] s.at s
    else (if b == 59 then goes_on Line [] s
    else goes_on Free [] s))))))

-- a byte outside bars, strings and comments
abbrev pub free_byte : Packages → ℕ → State → Step
free_byte packages b s =
    if ends_token b then after (token_ended packages s) (mark b)
    else (if is_graphic b then letter b s
    else Fails BadByte s.at)

-- ---- bars, strings and comments

abbrev pub bars_byte : ℕ → State → Step
bars_byte b s = goes_on (if is_bar b then Free else (if b == 92 then BarsEscape else Bars)) (s.token ++ b ∷ []) s

abbrev pub string_byte : ℕ → State → Step
string_byte b s =
    if b == 34 then marked (Atom (Text s.token)) s
    else (if b == 92 then goes_on StringEscape s.token s
    else goes_on String (s.token ++ b ∷ []) s)

-- a byte in so many block comments, of which the byte before makes nothing
abbrev pub in_block : ℕ → ℕ → Inside
in_block n b = if b == 35 then BlockHash n else (if is_bar b then BlockBar n else Block n)

-- one block comment ends
abbrev pub block_ended : ℕ → Inside
block_ended n = if nat_le n 1 then Free else Block (n - 1)

-- ---- all bytes

-- one byte more, where no comma waits for it
abbrev pub taken_inside : Packages → ℕ → State → Inside → Step
taken_inside packages b s Free = free_byte packages b s
taken_inside packages b s Bars = bars_byte b s
taken_inside packages b s BarsEscape = goes_on Bars (s.token ++ b ∷ []) s
taken_inside packages b s String = string_byte b s
taken_inside packages b s StringEscape = goes_on String (s.token ++ b ∷ []) s
taken_inside packages b s Line = goes_on (if b == 10 then Free else Line) [] s
taken_inside packages b s (Block n) = goes_on (in_block n b) [] s
taken_inside packages b s (BlockHash n) = goes_on (if is_bar b then Block (n + 1) else in_block n b) [] s
taken_inside packages b s (BlockBar n) = goes_on (if b == 35 then block_ended n else in_block n b) [] s
taken_inside packages b s AfterComma = goes_on Free [] s

abbrev pub taken : Packages → ℕ → State → Step
taken packages b s = taken_inside packages b s s.inside

-- the input is not too long for this byte
abbrev pub if_in_input : State → Step → Step
if_in_input s r = if nat_lt s.at most_input then r else Fails InputTooLong s.at

-- the byte behind a comma
abbrev pub comma_byte : Packages → ℕ → State → Step
comma_byte packages b s =
    if b == 64 then after (comma_ended CommaAt s) (λ t. if_in_input t (goes_on Free [] t))
    else after (comma_ended Comma s) (λ t. if_in_input t (taken packages b t))

abbrev pub is_after_comma : Inside → Bool
is_after_comma Free = false
is_after_comma Bars = false
is_after_comma BarsEscape = false
is_after_comma String = false
is_after_comma StringEscape = false
is_after_comma Line = false
is_after_comma (Block n) = false
is_after_comma (BlockHash n) = false
is_after_comma (BlockBar n) = false
is_after_comma AfterComma = true

-- one byte more
unfoldable pub step : Packages → State → ℕ → Step
step packages s b = if is_after_comma s.inside then comma_byte packages b s else if_in_input s (taken packages b s)

-- all bytes, until a form or a fault is found
abbrev pub run : Packages → State → List ℕ → Step
run packages s [] = Goes s
run packages s (b ∷ bs) = after (step packages s b) (λ t. run packages t bs)

-- ---- the end of the input, and the answer

-- the input ends behind these bytes, and with it the token, or the question what a comma is
abbrev pub ended_inside : Packages → State → Inside → Step
ended_inside packages s Free = token_ended packages s
ended_inside packages s Bars = Goes s
ended_inside packages s BarsEscape = Goes s
ended_inside packages s String = Goes s
ended_inside packages s StringEscape = Goes s
ended_inside packages s Line = Goes s
ended_inside packages s (Block n) = Goes s
ended_inside packages s (BlockHash n) = Goes s
ended_inside packages s (BlockBar n) = Goes s
ended_inside packages s AfterComma = comma_ended Comma s

abbrev pub ended_step : Packages → Bool → Step → Step
ended_step packages false r = r
ended_step packages true r = after r (λ s. ended_inside packages s s.inside)

-- what stands first: a form with the offset behind it and the symbols then known, nothing yet, the end, or a fault
pub data Next : Type 0 where
  Stands : Form → ℕ → List QualifiedName → Next
  Nothing : Next
  End : Next
  Faulty : TextCause → ℕ → Next

-- no form, string, bar or block comment has begun that has not ended
abbrev pub may_end : Inside → Bool
may_end Free = true
may_end Bars = false
may_end BarsEscape = false
may_end String = false
may_end StringEscape = false
may_end Line = true
may_end (Block n) = false
may_end (BlockHash n) = false
may_end (BlockBar n) = false
may_end AfterComma = false

abbrev pub at_end : State → Next
at_end s = if is_empty s.parts && may_end s.inside then End else Faulty Unfinished s.first

abbrev pub answer : Bool → Step → Next
answer false (Goes s) = Nothing
answer true (Goes s) = at_end s
answer ended (Gives f n symbols) = Stands f n symbols
answer ended (Fails c n) = Faulty c n

-- what stands first in the bytes, given the packages, the number of the current one, the symbols that are known, the offset of
-- the first byte, and whether the input has ended
unfoldable pub next_at : List Package → ℕ → List QualifiedName → ℕ → List ℕ → Bool → Next
next_at all current symbols offset bytes ended =
    let packages : Packages = record { all = all; current = current } in
    answer ended (ended_step packages ended (run packages (nothing_read symbols offset) bytes))
