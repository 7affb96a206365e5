use Rattle.acl_turns.proofs.MetLemmas.{met_turn, met_run}
use Rattle.acl_turns.proofs.laws.may_run.Goals as goal

pub returns-clause-turn : goal.returns-clause-turn
returns-clause-turn g c =
    met_turn g.K.Keeper.keeping g.K.Keeper.MayCall g.K.Keeper.MayReach g.K.Keeper.MayLend g.K.Keeper.MayMake g.K.Keeper.MayUnmake g.K.Keeper.MayAbandon c.requires.asks _ _ _ c.requires.kept.kept c.requires.kept.lefts c.requires.kept.goes

pub returns-clause-run : goal.returns-clause-run
returns-clause-run g c =
    met_run g.K.Keeper.keeping g.K.Keeper.MayCall g.K.Keeper.MayReach g.K.Keeper.MayLend g.K.Keeper.MayMake g.K.Keeper.MayUnmake g.K.Keeper.MayAbandon c.requires.asks _ _ _ c.requires.kept.default c.requires.kept.kept c.requires.kept.lefts c.requires.kept.goes
