use Rattle.std.specs.Prelude.{◌≡◌, ◌≤◌, length}
use Rattle.model_stobjs.specs.Answers.{first_given}
use Rattle.model_events.specs.Declarations.{bad_formal}
use Rattle.acl_declare.specs.Said.{words_at, words_reach}
use Rattle.acl_macros.proofs.objects.bad_formal.Given as goal

abbrev pub invariant-words : goal.invariant-words
invariant-words l = record {
  lies : words_reach l.rest ≤ length l.heap;
  same : first_given (bad_formal l.syms.symbols) (words_at l.heap l.words) ≡ first_given (bad_formal l.syms.symbols) (words_at l.heap l.rest);
}

abbrev pub decreases-words : goal.decreases-words
decreases-words l = length l.rest
