use Rattle.std.proofs.Common.{sym}
use Rattle.acl_layers.proofs.ScopingLemmas.{local_no_name, local_no_form, local_no_parts}
use Rattle.acl_layers.proofs.scoping.with_local.Goals as goal

pub returns-in-None-variable_name : goal.returns-in-None-variable_name
returns-in-None-variable_name c = local_no_name c.args.syms.now.symbols _ _ _ c.in-Some.ensures.0 (sym c.in-None-variable_name.ensures)

pub returns-in-None-written_mv_let : goal.returns-in-None-written_mv_let
returns-in-None-written_mv_let c = local_no_form c.args.syms.now.symbols _ _ _ c.in-Some.ensures.0 c.in-None-written_mv_let.ensures

pub returns-in-None-2 : goal.returns-in-None-2
returns-in-None-2 c =
    local_no_parts c.args.syms.now.symbols _ _ _ _ c.in-Some.ensures.0 c.in-Some-written_mv_let.ensures.0
    (rw c.in-None-2.is at c.in_ok-mv_let_parts-in-Some-written_mv_let.ensures)
