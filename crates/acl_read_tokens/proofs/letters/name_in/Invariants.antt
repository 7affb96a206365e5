use Rattle.std.specs.Prelude.{◌≡◌, ◌++◌, drop}
use Rattle.model_text.specs.Token.{name_of}
use Rattle.acl_read_tokens.specs.Kinds.{letters_of}
use Rattle.acl_read_tokens.proofs.letters.name_in.Given as goal

abbrev pub invariant-loop-letter : goal.invariant-loop-letter
invariant-loop-letter l = l.bytes.items ++ name_of (letters_of (drop l.letter-index l.letters)) ≡ name_of (letters_of l.letters)
