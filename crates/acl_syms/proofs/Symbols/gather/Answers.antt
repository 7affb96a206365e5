use Rattle.std.proofs.Common.{subst}
use Rattle.std.proofs.lemmas.Result.{err_from_is_err_and}
use Rattle.model_symbols.specs.Symbols.{Table}
use Rattle.model_symbols.specs.Tables.{IsTable}
use Rattle.acl_syms.proofs.ImportLemmas.{gather_more, gather_fault}
use Rattle.acl_syms.proofs.Symbols.gather.Goals as goal

pub loop-s-preserved : goal.loop-s-preserved
loop-s-preserved c =
    let is = subst (λ (t : Table). IsTable t) c.self.view_is c.self.invariant.table in
    gather_more (λ k. k.items) c.args.self.now.symbols is.distinct c.args.imports.now c.requires c.loop-s.s-index c.loop-s-test.true (record { 0 = 0 }) c.loop-s.known c.loop-s.invariant c.enter_import.new.known c.in_ok-enter_import.ensures.ok

pub returns-in_err-enter_import-clause-fault : goal.returns-in_err-enter_import-clause-fault
returns-in_err-enter_import-clause-fault c =
    let is = subst (λ (t : Table). IsTable t) c.self.view_is c.self.invariant.table in
    let p = err_from_is_err_and c.from_residual.result c.from_residual.ensures.1 in
    rw (p.1, p.2)
    (gather_fault (λ k. k.items) c.args.self.now.symbols is.distinct c.args.imports.now c.requires c.loop-s.s-index c.loop-s-test.true (record { 0 = 0 }) c.loop-s.known c.loop-s.invariant c.in_err-enter_import.field-0.0 c.in_err-enter_import.ensures.fault)
