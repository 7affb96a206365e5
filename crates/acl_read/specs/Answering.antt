-- What stands first in bytes that lead to a step.
use Rattle.std.specs.Prelude.{◌≡◌, ℕ, ◌+◌, ◌≤◌, Bool, if◌then◌else◌, Result, Ok, Err, Option, Some, None}
use Rattle.model_symbols.specs.Symbols.{Table}
use Rattle.model_text.specs.Token.{Packages}
use Rattle.model_text.specs.Next.{Step, Goes, Stands, Nothing, End, Faulty, answer, ended_step, most_input}
use Rattle.model_text.specs.declared.TextFault.{TextFault}
use Rattle.acl_base.specs.declared.Word.{Word}
use Rattle.acl_heap.specs.Objects.{Objects}
use Rattle.acl_forms.specs.Forms.{form_at, IsWhole}
use Rattle.acl_read_lexemes.specs.Opening.{IsFault}
use Rattle.acl_read_scan.specs.declared.Built.{Built}
use Rattle.acl_read_scan.specs.Built.{state_at, IsBuilt}

-- what came is what stands first
abbrev pub Answers : Packages → Table → Objects → Step → Bool → Built → Result (Option Word) TextFault → Type 0
Answers packages t h s ended b (Ok None) = (answer ended (ended_step packages ended s) ≡ (if ended then End else Nothing)) × (s ≡ Goes (state_at t b)) × IsBuilt t b
Answers packages t h s ended b (Ok (Some w)) = (answer ended (ended_step packages ended s) ≡ Stands (form_at t h w) b.at t.symbols) × IsWhole t h w × (b.at ≤ most_input)
Answers packages t h s ended b (Err e) = IsFault (answer ended (ended_step packages ended s)) Faulty e

-- the place behind at most n bytes, and behind all of them where no form was found
abbrev pub IsFoundNear : ℕ → ℕ → ℕ → Option Word → Type 0
IsFoundNear old new n None = new ≡ old + n
IsFoundNear old new n (Some w) = (old ≤ new) × (new ≤ old + n)
