use Rattle.std.specs.Prelude.{◌≡◌, drop}
use Rattle.model_text.specs.Token.{after_digits}
use Rattle.acl_read_tokens.proofs.ratios.after_digits.Given as goal

abbrev pub invariant-loop-i : goal.invariant-loop-i
invariant-loop-i l = after_digits (drop l.i l.bytes) ≡ after_digits l.bytes
