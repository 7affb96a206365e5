use Rattle.std.specs.Prelude.{◌≡◌, ◌++◌, drop}
use Rattle.model_text.specs.Token.{letters}
use Rattle.model_text.specs.Token as token
use Rattle.acl_read_tokens.specs.Kinds.{letters_of, place_of}
use Rattle.acl_read_tokens.proofs.letters.letters_in.Given as goal

abbrev pub invariant-loop-byte : goal.invariant-loop-byte
invariant-loop-byte l = letters_of l.letters.items ++ letters (place_of l.place) (drop l.byte-index l.text) ≡ letters token.Outside l.text
