-- What comes of bytes.
use Rattle.std.specs.Prelude.{◌≡◌, ◌≢◌, ℕ, ◌+◌, ◌≤◌, Bool, if◌then◌else◌, Result, Ok, Err}
use Rattle.model_symbols.specs.Symbols.{Table, symbol_at, interned}
use Rattle.model_text.specs.Token.{Token, Name, Wrong, with_room}
use Rattle.model_text.specs.Next.{Step, Goes, Fails, whole, most_input, Nothing, End, Faulty, answer, ended_step}
use Rattle.model_text.specs.Token.{Packages}
use Rattle.model_text.specs.declared.TextFault.{TextFault}
use Rattle.model_text.specs.declared.TextCause.TheVariants.{Memory}
use Rattle.acl_base.specs.declared.SymId.{SymId}
use Rattle.acl_read_lexemes.specs.declared.Progress.{Progress}
use Rattle.acl_read_lexemes.specs.declared.Progress.TheVariants.{Going, Ended}
use Rattle.acl_read_lexemes.specs.Lexemes.{form_of}
use Rattle.acl_read_lexemes.specs.Opening.{IsFault, IsForm}
use Rattle.acl_read_scan.specs.declared.Built.{Built}
use Rattle.acl_read_scan.specs.Built.{state_at, IsBuilt}

-- where the form has been read whole: it stands, or it is too large
abbrev pub form_step : Table → Built → Step
form_step t b = whole (form_of t.symbols b.lexemes.items) b.at b.first t.symbols

-- what came is the step
abbrev pub Does : Table → Built → Step → Result Progress TextFault → Type 0
Does t b s (Ok Going) = (s ≡ Goes (state_at t b)) × IsBuilt t b
Does t b s (Ok Ended) = (s ≡ form_step t b) × IsForm t.symbols b.lexemes.items × (b.at ≤ most_input)
Does t b s (Err e) = IsFault s Fails e

-- the token is a symbol, which has become known under this number, or it is wrong
abbrev pub Resolves : Table → Table → ℕ → Token → Result SymId TextFault → Type 0
Resolves old new start token (Ok s) = (with_room old.symbols token ≡ Name (symbol_at new.symbols s.0)) × (new.symbols ≡ interned old.symbols (symbol_at new.symbols s.0))
Resolves old new start token (Err e) = e.cause ≢ Memory → (with_room old.symbols token ≡ Wrong e.cause) × (e.offset ≡ start)

-- the place behind at most n bytes, and behind all of them where no form has ended
abbrev pub IsNear : ℕ → ℕ → ℕ → Progress → Type 0
IsNear old new n Going = new ≡ old + n
IsNear old new n Ended = (old ≤ new) × (new ≤ old + n)

-- what comes of bytes that lead to a step, and of the end of the input behind them
abbrev pub Advances : Packages → Table → Step → Bool → Built → Result Progress TextFault → Type 0
Advances packages t s ended b (Ok Going) = (answer ended (ended_step packages ended s) ≡ (if ended then End else Nothing)) × (s ≡ Goes (state_at t b)) × IsBuilt t b
Advances packages t s ended b (Ok Ended) = (ended_step packages ended s ≡ form_step t b) × IsForm t.symbols b.lexemes.items × (b.at ≤ most_input)
Advances packages t s ended b (Err e) = IsFault (answer ended (ended_step packages ended s)) Faulty e
