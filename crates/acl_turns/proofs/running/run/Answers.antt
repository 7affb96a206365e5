use Rattle.std.proofs.Common.{◌≡◌, ◌∙◌, refl}
use Rattle.acl_forms.specs.Growth.{Grown-self, Grown-then}
use Rattle.acl_turns.proofs.LeadLemmas.{run_ends}
use Rattle.acl_turns.proofs.RunLemmas.{run_starts, run_more, run_ended, run_fails, run_stays, may_next, taken_going, taken_over}
use Rattle.acl_turns.proofs.running.run.Goals as goal

pub turns-init : goal.turns-init
turns-init g c = record {
  runs = run_starts g.K.Keeper.keeping (g.K.Keeper.Keeps c.args.keeper.now) _ c.args.machine.now;
  grows = Grown-self c.args.syms.now c.args.heap.now;
  packages = refl;
  surrounds = c.requires.surrounds;
  sound = c.requires.sound;
  keeper = c.requires.keeper;
}

pub turn-requires : goal.turn-requires
turn-requires g c = record {
  may =
      may_next g.K.Keeper.keeping g.K.Keeper.MayCall g.K.Keeper.MayReach g.K.Keeper.MayLend g.K.Keeper.MayMake g.K.Keeper.MayUnmake g.K.Keeper.MayAbandon (g.K.Keeper.Keeps c.args.keeper.now) (g.K.Keeper.Keeps c.turns.keeper) _ _ c.args.machine.now c.turns.machine c.requires.may
      c.turns.invariant.runs;
  surrounds = c.turns.invariant.surrounds;
  sound = c.turns.invariant.sound;
  keeper = c.turns.invariant.keeper;
}

pub turns-preserved : goal.turns-preserved
turns-preserved g c = record {
  runs =
      run_more g.K.Keeper.keeping (g.K.Keeper.Keeps c.args.keeper.now) (g.K.Keeper.Keeps c.turns.keeper) (g.K.Keeper.Keeps c.turn.new.keeper) _ c.turns.heap c.turn.new.heap _ _ c.turns.syms c.turn.new.syms _ c.args.machine.now c.turns.machine c.turn.new.machine
      c.turns.invariant.runs c.in-Ok.ensures.grows c.in-Ok.ensures.packages (taken_going g.K.Keeper.keeping _ _ _ _ _ _ c.in-Ok.did c.in-Going.is c.in-Ok.ensures.ok);
  grows = Grown-then c.turns.invariant.grows c.in-Ok.ensures.grows;
  packages = c.in-Ok.ensures.packages ∙ c.turns.invariant.packages;
  surrounds = c.in-Ok.ensures.surrounds;
  sound = c.in-Ok.ensures.sound;
  keeper = c.in-Ok.ensures.keeper_sound;
}

pub returns-in-Over-clause-runs : goal.returns-in-Over-clause-runs
returns-in-Over-clause-runs g c =
    run_ended g.K.Keeper.keeping (g.K.Keeper.Keeps c.args.keeper.now) (g.K.Keeper.Keeps c.turns.keeper) (g.K.Keeper.Keeps c.turn.new.keeper) _ _ _ c.args.machine.now c.turns.machine c.turn.new.machine c.turns.invariant.runs
    (taken_over g.K.Keeper.keeping _ _ _ _ _ _ c.in-Ok.did c.in-Over.is c.in-Ok.ensures.ok)

pub returns-in-Over-clause-over : goal.returns-in-Over-clause-over
returns-in-Over-clause-over g c = (taken_over g.K.Keeper.keeping _ _ _ _ _ _ c.in-Ok.did c.in-Over.is c.in-Ok.ensures.ok).over

pub returns-in-Over-clause-ends : goal.returns-in-Over-clause-ends
returns-in-Over-clause-ends g c =
    run_ends g.K.Keeper.keeping (g.K.Keeper.Keeps c.args.keeper.now) (g.K.Keeper.Keeps c.turn.new.keeper) _ _ c.args.machine.now c.turn.new.machine c.requires.surrounds.world c.requires.surrounds.lie (returns-in-Over-clause-runs g c) (returns-in-Over-clause-over g c)

pub returns-in-Over-clause-late : goal.returns-in-Over-clause-late
returns-in-Over-clause-late g c = (taken_over g.K.Keeper.keeping _ _ _ _ _ _ c.in-Ok.did c.in-Over.is c.in-Ok.ensures.ok).late

pub returns-in-Over-clause-closed : goal.returns-in-Over-clause-closed
returns-in-Over-clause-closed g c = (taken_over g.K.Keeper.keeping _ _ _ _ _ _ c.in-Ok.did c.in-Over.is c.in-Ok.ensures.ok).closed

pub returns-in-Err-clause-err : goal.returns-in-Err-clause-err
returns-in-Err-clause-err g c =
    run_fails g.K.Keeper.keeping (g.K.Keeper.Keeps c.args.keeper.now) (g.K.Keeper.Keeps c.turns.keeper) (g.K.Keeper.Keeps c.turn.new.keeper) _ _ c.args.machine.now c.turns.machine c.turns.invariant.runs c.in-Err.ensures.err

pub returns-clause-err : goal.returns-clause-err
returns-clause-err g c = run_stays g.K.Keeper.keeping (g.K.Keeper.Keeps c.args.keeper.now) (g.K.Keeper.Keeps c.turns.keeper) _ _ c.args.machine.now c.turns.machine c.turns.invariant.runs
