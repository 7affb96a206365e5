use Rattle.std.specs.Prelude.{◌≡◌, drop}
use Rattle.std.specs.Char.{is_digit}
use Rattle.std.specs.List.{list_all}
use Rattle.acl_read_tokens.proofs.numerals.are_digits.Given as goal

abbrev pub invariant-loop-byte : goal.invariant-loop-byte
invariant-loop-byte l = list_all (λ b. is_digit b l.base) (drop l.byte-index l.bytes) ≡ list_all (λ b. is_digit b l.base) l.bytes
