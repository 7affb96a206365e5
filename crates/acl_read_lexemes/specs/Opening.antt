-- What has been read of a form that is open.
use Rattle.std.specs.Prelude.{◌<◌, ◌≡◌, ◌≢◌, ℕ, List, length, Result, Ok, Err}
use Rattle.model_symbols.specs.Symbols.{QualifiedName}
use Rattle.model_text.specs.Parts.{Put, Parts, Whole, Bad}
use Rattle.model_text.specs.declared.TextFault.{TextFault}
use Rattle.model_text.specs.declared.TextCause.{TextCause}
use Rattle.model_text.specs.declared.TextCause.TheVariants.{Memory}
use Rattle.acl_read_lexemes.specs.declared.Frame.{Frame}
use Rattle.acl_read_lexemes.specs.declared.Placed.{Placed}
use Rattle.acl_read_lexemes.specs.declared.Progress.{Progress}
use Rattle.acl_read_lexemes.specs.declared.Progress.TheVariants.{Going, Ended}
use Rattle.acl_read_lexemes.specs.Lexemes.{put_of, parts_of, form_of, AreKnown}
use Rattle.acl_read_lexemes.specs.Frames.{FramePut, Frames, Done, Wrong, frames_of, inmost_first}

-- want of memory, or this fault
abbrev pub IsFault : {A : Type 0} → A → (TextCause → ℕ → A) → TextFault → Type 0
IsFault a fails e = e.cause ≢ Memory → a ≡ fails e.cause e.offset

-- what came is what the frames say
abbrev pub PutsFrames : List Frame → FramePut → Result Progress TextFault → Type 0
PutsFrames fs put (Ok Going) = put ≡ Frames (inmost_first fs)
PutsFrames fs put (Ok Ended) = put ≡ Done
PutsFrames fs put (Err e) = IsFault put Wrong e

-- these lexemes leave parts open, whose frames are these
pub record IsOpen (symbols : List QualifiedName) (frames : List Frame) (lexemes : List Placed) : Type 0 where
  pub open_parts : put_of symbols lexemes ≡ Parts (parts_of symbols lexemes)
  pub shape : inmost_first frames ≡ frames_of (parts_of symbols lexemes)
  pub known : AreKnown (length symbols) lexemes

-- these lexemes are a form
pub record IsForm (symbols : List QualifiedName) (lexemes : List Placed) : Type 0 where
  pub whole : put_of symbols lexemes ≡ Whole (form_of symbols lexemes)
  pub known : AreKnown (length symbols) lexemes

-- what came is what the lexeme does
abbrev pub Puts : List QualifiedName → List Frame → List Placed → Put → Result Progress TextFault → Type 0
Puts symbols frames lexemes put (Ok Going) = (put ≡ Parts (parts_of symbols lexemes)) × IsOpen symbols frames lexemes
Puts symbols frames lexemes put (Ok Ended) = (put ≡ Whole (form_of symbols lexemes)) × IsForm symbols lexemes
Puts symbols frames lexemes put (Err e) = IsFault put Bad e

-- where the form goes on, a part is open
abbrev pub LeavesOpen : List Frame → Result Progress TextFault → Type 0
LeavesOpen frames (Ok Going) = 0 < length frames
LeavesOpen frames (Ok Ended) = Unit {0}
LeavesOpen frames (Err e) = Unit {0}
