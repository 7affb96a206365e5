use Rattle.std.specs.Prelude.{◌≡◌}
use Rattle.std.proofs.Common.{arith, refl}
use Rattle.acl_heap.specs.Objects.{object_of}
use Rattle.acl_pool.proofs.LoopLemmas.{copies_begun, copies_on, copying_now, copied_whole}
use Rattle.acl_pool.proofs.region.Region.copy.Goals as goal

pub loop-waiting-init : goal.loop-waiting-init
loop-waiting-init c = copies_begun c.args.heap.now c.args.self.now c.begin-part.new.self (record { first = 0; count = 0 }) c.begin-part.new.waiting c.begin-part.result (object_of c.args.heap.now c.args.w) refl c.requires.light c.requires.room.enough c.begin-part.ensures

pub copy_pair-requires-clause-copying : goal.copy_pair-requires-clause-copying
copy_pair-requires-clause-copying c = copying_now c.args.heap.now c.args.self.now c.loop-waiting.self c.loop-waiting.waiting c.begin-part.result (object_of c.args.heap.now c.args.w) _ c.requires.room c.loop-waiting.invariant

pub loop-waiting-preserved : goal.loop-waiting-preserved
loop-waiting-preserved c =
    copies_on c.args.heap.now c.args.self.now c.loop-waiting.self c.copy_pair.new.self c.loop-waiting.waiting c.copy_pair.new.waiting c.begin-part.result (object_of c.args.heap.now c.args.w) c.loop-waiting.invariant c.copy_pair.ensures.goes

pub returns : goal.returns
returns c =
    let none : c.loop-waiting.waiting.count ≡ 0 = omega (arith, c.loop-waiting-test.false) in
    copied_whole c.args.heap.now c.args.self.now c.loop-waiting.self c.loop-waiting.waiting c.begin-part.result (object_of c.args.heap.now c.args.w) none c.loop-waiting.invariant
