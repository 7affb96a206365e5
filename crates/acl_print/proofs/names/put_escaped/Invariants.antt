use Rattle.std.specs.Prelude.{◌≡◌, ◌++◌, drop}
use Rattle.model_text.specs.Text.{escaped}
use Rattle.acl_print.proofs.names.put_escaped.Given as goal

abbrev pub invariant-loop-byte : goal.invariant-loop-byte
invariant-loop-byte l = l.out.items ++ escaped l.end (drop l.byte-index l.bytes) ≡ l.fn.out.items ++ escaped l.end l.bytes
