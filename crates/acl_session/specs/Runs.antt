-- What a run reads and writes.
use Rattle.std.specs.Prelude.{◌≡◌, ℕ, ◌≤◌, ◌+◌, List, ◌++◌, length, Option, Some, None}
use Rattle.acl_edge.specs.Outside.{Takes, TakesPart}
use Rattle.acl_base.specs.declared.status.Status.{Status}
use Rattle.acl_base.specs.declared.status.Status.TheVariants.{Done, Errors, Words, Text, ReadFault, WriteFault, Memory}
use Rattle.model_text.specs.declared.TextFault.{TextFault}
use Rattle.model_output_so_far.specs.Output.{Output, Totals, output, before, one_if, most_bytes, ended, faulty, cause_name}
use Rattle.acl_session.specs.declared.totals.Totals as code
use Rattle.acl_answers.specs.declared.Answer.{Answer}

-- the source tells these bytes, or tells none
abbrev pub Tells : Option (List ℕ) → List ℕ → Type 0
Tells None input = Unit {0}
Tells (Some left) input = left ≡ input

-- all that is left, or a first part that is longer than a book may be
pub record IsFirstPart (left bytes : List ℕ) : Type 0 where
  pub rest : List ℕ
  pub whole : left ≡ bytes ++ rest
  pub long : length bytes ≤ most_bytes → length rest ≡ 0

abbrev pub IsInput : Option (List ℕ) → List ℕ → Type 0
IsInput None bytes = Unit {0}
IsInput (Some left) bytes = IsFirstPart left bytes

-- how a run ends, by its status: what a source had, what was written to a sink before and after, for this output
abbrev pub Ends : Option (List ℕ) → Option (List ℕ) → Output → Status → Type 0
Ends old new out Done = Takes old new out.bytes × (out.status ≡ Done)
Ends old new out Errors = Takes old new out.bytes × (out.status ≡ Errors)
Ends old new out Words = new ≡ old
Ends old new out Text = Takes old new out.bytes × (out.status ≡ Text)
Ends old new out ReadFault = new ≡ old
Ends old new out WriteFault = TakesPart old new out.bytes
Ends old new out Memory = TakesPart old new out.bytes

-- the run is that of some input, which the source tells if it tells any
pub record IsRun (left old new : Option (List ℕ)) (status : Status) : Type 0 where
  pub input : List ℕ
  pub told : Tells left input
  pub ends : Ends old new (output input) status

-- ---- within a run

abbrev pub totals_view : code.Totals → Totals
totals_view t = record { commands = t.commands; calls = t.calls; errors = t.errors }

abbrev pub counted_by : Totals → Answer → Totals
counted_by t a = record { commands = t.commands + 1; calls = t.calls + a.calls; errors = t.errors + one_if a.is_error }

-- all of an output was written, and this is its status
abbrev pub Finishes : Option (List ℕ) → Option (List ℕ) → Output → Status → Type 0
Finishes old new out status = Takes old new out.bytes × (status ≡ out.status)

-- a part of an output was written, and this is left of it
pub record Writing (old new : Option (List ℕ)) (left all : Output) : Type 0 where
  pub part : List ℕ
  pub takes : Takes old new part
  pub whole : before part left ≡ all

-- what is left of an output where a book has ended, or a text fault ends it
abbrev pub end_output : Totals → Option TextFault → Output
end_output t None = ended t
end_output t (Some e) = faulty t (cause_name e.cause) e.offset

-- the status of a run in which nothing failed
abbrev pub IsPlain : Status → Type 0
IsPlain Done = Unit {0}
IsPlain Errors = Unit {0}
IsPlain Words = ⊥
IsPlain Text = Unit {0}
IsPlain ReadFault = ⊥
IsPlain WriteFault = ⊥
IsPlain Memory = ⊥
