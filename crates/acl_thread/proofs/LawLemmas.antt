-- The laws of the rules, put together.
use Rattle.acl_thread.specs.Laws.{AreOwn}
use Rattle.acl_thread.proofs.RuleLemmas.{own_var, own_const, own_if, own_let, own_mv, own_mv_let, own_stobj_let, own_with_local, own_must_be_equal, own_call}

pub are_own : AreOwn
are_own = record { var = own_var; const = own_const; if_ = own_if; let_ = own_let; mv = own_mv; mv_let = own_mv_let; stobj_let = own_stobj_let; with_local = own_with_local; must_be_equal = own_must_be_equal; call = own_call }
