use Rattle.std.specs.Prelude.{◌≡◌, ◌++◌, drop, take}
use Rattle.model_text.specs.Token.{before_colon, from_colon}
use Rattle.acl_read_tokens.specs.Kinds.{letters_of}
use Rattle.acl_read_tokens.proofs.spelling.colon_at.Given as goal

abbrev pub invariant-loop-i : goal.invariant-loop-i
invariant-loop-i l = record {
  before : letters_of (take l.i l.letters) ++ before_colon (letters_of (drop l.i l.letters)) ≡ before_colon (letters_of l.letters);
  from : from_colon (letters_of (drop l.i l.letters)) ≡ from_colon (letters_of l.letters);
}
