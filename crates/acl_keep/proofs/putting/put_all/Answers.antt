use Rattle.acl_keep.proofs.PutLemmas.{stepped, whole_index}
use Rattle.acl_keep.proofs.putting.put_all.Goals as goal

pub loop-loan-preserved : goal.loop-loan-preserved
loop-loan-preserved g c = record {
  puts = λ k ls keeps.
      stepped g.K.Keeper.keeping c.args.heap.now c.args.loans.now (g.K.Keeper.Keeps c.loop-loan.keeper) (g.K.Keeper.Keeps c.put.new.self) c.loop-loan.loan-index _ k ls c.loop-loan-test.true
      c.in_ok-put.ensures.ok (c.loop-loan.invariant.puts k ls keeps);
  sound = λ h w n s. c.put.ensures.sound h w n (c.loop-loan.invariant.sound h w n s);
}

pub put-requires : goal.put-requires
put-requires g c = record { whole = whole_index c.args.syms.now c.args.heap.now c.args.loans.now c.loop-loan.loan-index _ c.loop-loan-test.true c.requires.whole }
