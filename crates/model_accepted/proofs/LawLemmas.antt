-- Accepted forms and their scopes: the laws.
use Rattle.std.proofs.Common.{refl}
use Rattle.model_accepted.specs.Loans.{children}
use Rattle.model_accepted.specs.Laws.{PartsAreAccepted, VariablesFit}
use Rattle.model_accepted.proofs.AcceptLemmas as accepted
use Rattle.model_accepted.proofs.ScopeLemmas as scopes
use Rattle.model_accepted.proofs.KidScopes as kids

pub parts_are_accepted : PartsAreAccepted
parts_are_accepted = record {
  whole = accepted.accepted_first;
  of_if = accepted.of_if;
  of_let = accepted.of_let;
  of_mv = accepted.of_mv;
  of_mv_let = accepted.of_mv_let;
  of_stobj_let = accepted.of_stobj_let;
  of_with_local = accepted.of_with_local;
  of_must_be_equal = accepted.of_must_be_equal;
  of_call = accepted.of_call;
}

pub variables_fit : VariablesFit
variables_fit = record {
  of_bound = λ c scope names values variables a v. scopes.bound_variables c scope names values variables a v;
  of_local = scopes.local_variables;
  of_body = λ c scope stobj names values variables a v. scopes.body_variables c scope stobj names values variables a v;
  of_producer = λ c scope parent ls variables o v. kids.producer_variables c scope parent (children ls) ls refl variables o v;
  of_consumer = λ c scope inside ls vars values variables a v. kids.consumer_variables c scope 0 (children ls) ls refl inside vars values variables a v;
}
