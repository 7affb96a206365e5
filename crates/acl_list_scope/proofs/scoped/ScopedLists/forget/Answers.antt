use Rattle.std.proofs.Common.{[], refl}
use Rattle.acl_list_scope.proofs.KeptLemmas.{kept_with, kept_before, kept_same, none_behind, some_behind}
use Rattle.acl_list_scope.proofs.scoped.ScopedLists.forget.Goals as goal

pub returns-in-Some-clause-keeps : goal.returns-in-Some-clause-keeps
returns-in-Some-clause-keeps c k l ls i = kept_with _ _ _ _ l k ls (kept_before _ _ _ _ c.in-Some._before k l ls c.in-Some.ensures.some i) i.is i.within

pub returns-in-None-clause-keeps : goal.returns-in-None-clause-keeps
returns-in-None-clause-keeps c k l ls i = absurd (none_behind _ _ _ k l ls c.in-None.ensures.none i)

pub returns-in-Some-clause-none : goal.returns-in-Some-clause-none
returns-in-Some-clause-none c k i = absurd (some_behind _ _ _ _ c.in-Some._before k c.in-Some.ensures.some i)

pub returns-in-None-clause-none : goal.returns-in-None-clause-none
returns-in-None-clause-none c k i = kept_same _ _ _ _ _ k [] refl c.in-None.ensures.same i
