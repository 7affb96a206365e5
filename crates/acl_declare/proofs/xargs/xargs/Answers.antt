use Rattle.std.proofs.Common.{◌∙◌}
use Rattle.acl_declare.specs.Said.{seen_declared}
use Rattle.acl_declare.proofs.KeyLemmas.{xargs_more}
use Rattle.acl_declare.proofs.xargs.xargs.Goals as goal

pub pairs-preserved : goal.pairs-preserved
pairs-preserved c =
    let added = c.in_ok-keyed-in-Pair-look.ensures in
    record {
      lies = c.in-Pair-look.ensures.sees.2;
      reach = added.reach;
      same = c.pairs.invariant.same ∙ xargs_more c.args.syms.now.symbols (seen_declared c.args.heap.now c.pairs.said) (seen_declared c.args.heap.now c.keyed.new.said)
          c.in_ok-keyed-in-Pair-look.field-0 _ _ _ _ _ c.in-Pair.ensures.sees.0 c.in-Pair-look.ensures.sees.0 added.is c.if-not-branch.false;
    }
