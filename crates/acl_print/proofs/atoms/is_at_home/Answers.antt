use Rattle.std.proofs.Common.{sym}
use Rattle.acl_print.proofs.SymbolLemmas.{found_home, lost_home}
use Rattle.acl_print.proofs.atoms.is_at_home.Goals as goal

pub returns-in-Some : goal.returns-in-Some
returns-in-Some c = found_home c.args.syms.now c.args.current.0 c.args.s.0 c.in-Some.found.0 c.name.result.now c.is_table.ensures c.requires.known c.name.ensures (sym c.in-Some.ensures.found)

pub returns-in-None : goal.returns-in-None
returns-in-None c = lost_home c.args.syms.now c.args.current.0 c.args.s.0 c.name.result.now c.requires.known c.name.ensures (sym c.in-None.ensures.found)
