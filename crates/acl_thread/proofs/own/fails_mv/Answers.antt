use Rattle.std.specs.Prelude.{◌||◌, not, nat_eq, length}
use Rattle.std.proofs.Common.{sym, ap, ◌∙◌}
use Rattle.model_terms.specs.Cores as cores
use Rattle.model_terms.specs.Classes.{repeats}
use Rattle.model_terms.specs.Rules.{any_wrong_part}
use Rattle.acl_terms.specs.Forms.{numbers, seen_cores}
use Rattle.acl_terms.specs.Signatures.{seen_outs}
use Rattle.acl_thread.proofs.PartLemmas.{mv_is}
use Rattle.acl_thread.proofs.own.fails_mv.Goals as goal

pub returns : goal.returns
returns c =
    ap (λ b. not (nat_eq (length c.args.parts.now) (length c.args.expected.now)) || (b || c.repeats-twice.result)) c.any_wrong_part-wrong.ensures
    ∙ (ap (λ b. not (nat_eq (length c.args.parts.now) (length c.args.expected.now)) || (any_wrong_part (seen_outs c.args.expected.now) (cores.cores (seen_cores c.args.heap.now c.args.parts.now)) || b))
    (c.repeats-twice.ensures ∙ (ap (λ xs. repeats (numbers xs)) c.as_slice.ensures ∙ ap repeats c.in_ok-wanted.ensures))
    ∙ sym (mv_is c.args.heap.now c.args.expected.now c.args.parts.now))
