use Rattle.std.proofs.Common.{sym, subst}
use Rattle.acl_forms.specs.Forms.{AreWhole}
use Rattle.acl_commands.proofs.PartLemmas.{wholes_push}
use Rattle.acl_answers.proofs.PrimitiveLemmas.{constants_more}
use Rattle.acl_answers.proofs.primitives.constants.Goals as goal

pub loop-actual-preserved : goal.loop-actual-preserved
loop-actual-preserved c =
    let t = c.args.syms.now in
    let h = c.args.heap.now in
    record {
      words = subst (AreWhole t h) (sym c.in_ok-push-in-Some.ensures.items) (wholes_push t h c.loop-actual.words.items c.in-Some.w c.loop-actual.invariant.words c.in-Some.ensures.whole);
      same = constants_more t h c.args.actuals.now c.loop-actual.actual-index _ c.in-Some.w c.loop-actual.words.items c.push.new.self.items _ c.loop-actual-test.true c.in-Some.ensures.is
          c.in_ok-push-in-Some.ensures.items c.loop-actual.invariant.same;
    }
