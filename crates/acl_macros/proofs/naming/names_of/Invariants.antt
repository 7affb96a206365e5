use Rattle.std.specs.Prelude.{◌≡◌, ◌≤◌, ◌++◌, length, map}
use Rattle.model_expansion.specs.Forms.{symbol_or_nil}
use Rattle.acl_terms.specs.Forms.{numbers}
use Rattle.acl_declare.specs.Said.{words_at, words_reach}
use Rattle.acl_macros.proofs.naming.names_of.Given as goal

abbrev pub invariant-words : goal.invariant-words
invariant-words l = record {
  lies : words_reach l.rest ≤ length l.heap;
  same : map symbol_or_nil (words_at l.heap l.words) ≡ numbers l.names ++ map symbol_or_nil (words_at l.heap l.rest);
}

abbrev pub decreases-words : goal.decreases-words
decreases-words l = length l.rest
