use Rattle.std.proofs.Common.{◌≡◌, ◌++◌, map, drop}
use Rattle.model_output_so_far.specs.Lines.{spaced, printed}
use Rattle.acl_forms.specs.Forms.{forms_at, AreWhole}
use Rattle.acl_answers.specs.Views.{session_in}
use Rattle.acl_answers.proofs.primitives.push_texts.Given as goal

abbrev pub invariant-loop-word : goal.invariant-loop-word
invariant-loop-word l = record {
  left : AreWhole l.syms l.heap (drop l.word-index l.words);
  same : l.line.items ++ spaced (map (printed (session_in l.syms l.fn.current.0)) (forms_at l.syms l.heap (drop l.word-index l.words))) ≡ l.fn.line.items ++ spaced (map (printed (session_in l.syms l.fn.current.0)) (forms_at l.syms l.heap l.words));
}
