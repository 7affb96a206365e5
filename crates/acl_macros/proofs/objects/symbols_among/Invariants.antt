use Rattle.std.specs.Prelude.{◌≡◌, ◌≤◌, ◌++◌, length}
use Rattle.model_events.specs.Declarations.{formals_of}
use Rattle.acl_terms.specs.Forms.{numbers}
use Rattle.acl_declare.specs.Said.{words_at, words_reach}
use Rattle.acl_macros.proofs.objects.symbols_among.Given as goal

abbrev pub invariant-words : goal.invariant-words
invariant-words l = record {
  lies : words_reach l.rest ≤ length l.heap;
  same : formals_of l._syms.symbols (words_at l.heap l.words) ≡ numbers l.names ++ formals_of l._syms.symbols (words_at l.heap l.rest);
}

abbrev pub decreases-words : goal.decreases-words
decreases-words l = length l.rest
