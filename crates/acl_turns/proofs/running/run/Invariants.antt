use Rattle.std.proofs.Common.{◌≡◌, ℕ, length}
use Rattle.acl_forms.specs.Forms.{Grown}
use Rattle.acl_machine.specs.Steps.{IsSound}
use Rattle.acl_machine.specs.Views.{around}
use Rattle.acl_turns.specs.Runs.{RunsTo}
use Rattle.acl_turns.specs.Surroundings.{Surrounds}
use Rattle.acl_turns.proofs.running.run.Given as goal

abbrev pub invariant-turns : goal.invariant-turns
invariant-turns g l = record {
  runs : RunsTo g.K.Keeper.keeping (g.K.Keeper.Keeps l.fn.keeper) (g.K.Keeper.Keeps l.keeper) (around l.fn.heap l.world l.terms l.fn.syms l.limit) (around l.heap l.world l.terms l.syms l.limit) l.fn.machine l.machine;
  grows : Grown l.fn.syms l.syms l.fn.heap l.heap;
  packages : l.syms.packages ≡ l.fn.syms.packages;
  surrounds : Surrounds l.syms l.heap l.world l.terms;
  sound : IsSound l.syms l.heap l.machine;
  keeper : g.K.Keeper.IsSound l.keeper l.heap l.world (length l.syms.symbols);
}
