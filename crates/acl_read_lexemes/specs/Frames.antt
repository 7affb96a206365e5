-- The parts that are open, without what they hold.
use Rattle.std.specs.Prelude.{ℕ, nat_lt, List, [], ◌∷◌, length, map, Bool, true, false, Option, Some, None, if◌then◌else◌, reverse}
use Rattle.model_text.specs.Parts.{Part, Quoted, Backquoted, Unquoted, Splicing, Opened, Dotted, Ended, Put, Parts, Whole, Bad, most_parts}
use Rattle.model_text.specs.declared.TextCause.{TextCause}
use Rattle.model_text.specs.declared.TextCause.TheVariants.{StrayClose, BadDot, CommaOutside, BadToken, TooDeep}
use Rattle.acl_read_lexemes.specs.declared.Lexeme.{Lexeme}
use Rattle.acl_read_lexemes.specs.declared.Lexeme.TheVariants as lexeme
use Rattle.acl_read_lexemes.specs.declared.Frame.{Frame}
use Rattle.acl_read_lexemes.specs.declared.Frame.TheVariants as frame

abbrev pub frame_of : Part → Frame
frame_of Quoted = frame.Quoted
frame_of Backquoted = frame.Backquoted
frame_of Unquoted = frame.Unquoted
frame_of Splicing = frame.Splicing
frame_of (Opened []) = frame.Empty
frame_of (Opened (i ∷ is)) = frame.Holding
frame_of (Dotted is d) = frame.Dotted d
frame_of (Ended is d i) = frame.Ended d

abbrev pub frames_of : List Part → List Frame
frames_of ps = map frame_of ps

-- what a lexeme does to the frames
pub data FramePut : Type 0 where
  Frames : List Frame → FramePut
  Done : FramePut
  Wrong : TextCause → ℕ → FramePut

abbrev pub shaped : Put → FramePut
shaped (Parts ps) = Frames (frames_of ps)
shaped (Whole f) = Done
shaped (Bad c n) = Wrong c n

abbrev pub in_backquote : List Frame → Bool
in_backquote [] = false
in_backquote (frame.Quoted ∷ fs) = in_backquote fs
in_backquote (frame.Backquoted ∷ fs) = true
in_backquote (frame.Unquoted ∷ fs) = false
in_backquote (frame.Splicing ∷ fs) = false
in_backquote (frame.Empty ∷ fs) = in_backquote fs
in_backquote (frame.Holding ∷ fs) = in_backquote fs
in_backquote (frame.Dotted d ∷ fs) = in_backquote fs
in_backquote (frame.Ended d ∷ fs) = in_backquote fs

abbrev pub takes_element : List Frame → Bool
takes_element [] = false
takes_element (frame.Quoted ∷ fs) = false
takes_element (frame.Backquoted ∷ fs) = false
takes_element (frame.Unquoted ∷ fs) = false
takes_element (frame.Splicing ∷ fs) = false
takes_element (frame.Empty ∷ fs) = true
takes_element (frame.Holding ∷ fs) = true
takes_element (frame.Dotted d ∷ fs) = false
takes_element (frame.Ended d ∷ fs) = false

abbrev pub full_dot : List Frame → Option ℕ
full_dot [] = None
full_dot (frame.Quoted ∷ fs) = None
full_dot (frame.Backquoted ∷ fs) = None
full_dot (frame.Unquoted ∷ fs) = None
full_dot (frame.Splicing ∷ fs) = None
full_dot (frame.Empty ∷ fs) = None
full_dot (frame.Holding ∷ fs) = None
full_dot (frame.Dotted d ∷ fs) = None
full_dot (frame.Ended d ∷ fs) = Some d

abbrev pub unless_full : Option ℕ → FramePut → FramePut
unless_full None p = p
unless_full (Some d) p = Wrong BadDot d

abbrev pub delivered : List Frame → FramePut
delivered [] = Done
delivered (frame.Quoted ∷ fs) = delivered fs
delivered (frame.Backquoted ∷ fs) = delivered fs
delivered (frame.Unquoted ∷ fs) = delivered fs
delivered (frame.Splicing ∷ fs) = delivered fs
delivered (frame.Empty ∷ fs) = Frames (frame.Holding ∷ fs)
delivered (frame.Holding ∷ fs) = Frames (frame.Holding ∷ fs)
delivered (frame.Dotted d ∷ fs) = Frames (frame.Ended d ∷ fs)
delivered (frame.Ended d ∷ fs) = Wrong BadDot d

abbrev pub opened : Frame → ℕ → List Frame → FramePut
opened f at fs = if nat_lt (length fs) most_parts then Frames (f ∷ fs) else Wrong TooDeep at

abbrev pub closed : ℕ → List Frame → FramePut
closed at [] = Wrong StrayClose at
closed at (frame.Quoted ∷ fs) = Wrong StrayClose at
closed at (frame.Backquoted ∷ fs) = Wrong StrayClose at
closed at (frame.Unquoted ∷ fs) = Wrong StrayClose at
closed at (frame.Splicing ∷ fs) = Wrong StrayClose at
closed at (frame.Empty ∷ fs) = delivered fs
closed at (frame.Holding ∷ fs) = delivered fs
closed at (frame.Dotted d ∷ fs) = Wrong BadDot d
closed at (frame.Ended d ∷ fs) = delivered fs

abbrev pub dotted : ℕ → List Frame → FramePut
dotted at [] = Wrong BadDot at
dotted at (frame.Quoted ∷ fs) = Wrong BadDot at
dotted at (frame.Backquoted ∷ fs) = Wrong BadDot at
dotted at (frame.Unquoted ∷ fs) = Wrong BadDot at
dotted at (frame.Splicing ∷ fs) = Wrong BadDot at
dotted at (frame.Empty ∷ fs) = Wrong BadDot at
dotted at (frame.Holding ∷ fs) = Frames (frame.Dotted at ∷ fs)
dotted at (frame.Dotted d ∷ fs) = Wrong BadDot at
dotted at (frame.Ended d ∷ fs) = Wrong BadDot at

abbrev pub backquoted : ℕ → List Frame → FramePut
backquoted at fs = if in_backquote fs then Wrong BadToken at else opened frame.Backquoted at fs

abbrev pub unquoted : ℕ → List Frame → FramePut
unquoted at fs = if in_backquote fs then opened frame.Unquoted at fs else Wrong CommaOutside at

abbrev pub spliced : ℕ → List Frame → FramePut
spliced at fs = if in_backquote fs then (if takes_element fs then opened frame.Splicing at fs else Wrong CommaOutside at) else Wrong CommaOutside at

abbrev pub frame_put : Lexeme → ℕ → List Frame → FramePut
frame_put (lexeme.Number n) at fs = delivered fs
frame_put (lexeme.Name s) at fs = delivered fs
frame_put (lexeme.Text bytes) at fs = delivered fs
frame_put lexeme.Open at fs = unless_full (full_dot fs) (opened frame.Empty at fs)
frame_put lexeme.Close at fs = closed at fs
frame_put lexeme.Dot at fs = dotted at fs
frame_put lexeme.Quote at fs = unless_full (full_dot fs) (opened frame.Quoted at fs)
frame_put lexeme.Backquote at fs = unless_full (full_dot fs) (backquoted at fs)
frame_put lexeme.Comma at fs = unless_full (full_dot fs) (unquoted at fs)
frame_put lexeme.CommaAt at fs = unless_full (full_dot fs) (spliced at fs)

-- the frames, the innermost first, where the code has it last
abbrev pub inmost_first : List Frame → List Frame
inmost_first fs = reverse fs

-- the lexeme begins a part
abbrev pub IsOpening : Lexeme → Type 0
IsOpening (lexeme.Number n) = ⊥
IsOpening (lexeme.Name s) = ⊥
IsOpening (lexeme.Text bytes) = ⊥
IsOpening lexeme.Open = Unit {0}
IsOpening lexeme.Close = ⊥
IsOpening lexeme.Dot = ⊥
IsOpening lexeme.Quote = Unit {0}
IsOpening lexeme.Backquote = Unit {0}
IsOpening lexeme.Comma = Unit {0}
IsOpening lexeme.CommaAt = Unit {0}
