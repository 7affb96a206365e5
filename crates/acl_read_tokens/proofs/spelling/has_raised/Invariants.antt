use Rattle.std.specs.Prelude.{◌≡◌, drop}
use Rattle.std.specs.List.{list_any}
use Rattle.model_text.specs.Token.{is_raised}
use Rattle.acl_read_tokens.specs.Kinds.{letters_of}
use Rattle.acl_read_tokens.proofs.spelling.has_raised.Given as goal

abbrev pub invariant-loop-letter : goal.invariant-loop-letter
invariant-loop-letter l = list_any (is_raised l.byte) (letters_of (drop l.letter-index l.letters)) ≡ list_any (is_raised l.byte) (letters_of l.letters)
