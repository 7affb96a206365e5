-- The exit status of the program.
use Rattle.std.specs.Prelude.{ℕ}
use Rattle.acl_base.specs.declared.status.Status.{Status}
use Rattle.acl_base.specs.declared.status.Status.TheVariants.{Done, Errors, Words, Text, ReadFault, WriteFault, Memory}

abbrev pub code_of : Status → ℕ
code_of Done = 0
code_of Errors = 1
code_of Words = 2
code_of Text = 3
code_of ReadFault = 4
code_of WriteFault = 5
code_of Memory = 6
