use Rattle.std.proofs.Common.{ℕ, List}
use Rattle.acl_heap.specs.Objects.{Objects}
use Rattle.acl_worlds.specs.Contents.{Content}
use Rattle.acl_keep.specs.Seen.{seen_loans}
use Rattle.acl_keep.specs.Calls.{ArePut}
use Rattle.acl_keep.proofs.putting.put_all.Given as goal

abbrev pub invariant-loop-loan : goal.invariant-loop-loan
invariant-loop-loan g l = record {
  puts : (k : g.K.Keeper.Kept) (ls : List g.K.Keeper.Left) → g.K.Keeper.Keeps l.fn.keeper k ls → ArePut g.K.Keeper.keeping (g.K.Keeper.Keeps l.keeper) l.loan-index (seen_loans l.heap l.loans) k ls;
  sound : (h : Objects) (w : Content) (n : ℕ) → g.K.Keeper.IsSound l.fn.keeper h w n → g.K.Keeper.IsSound l.keeper h w n;
}
