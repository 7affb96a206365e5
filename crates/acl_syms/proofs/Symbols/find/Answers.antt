use Rattle.std.proofs.Common.{sym, ◌∙◌}
use Rattle.model_symbols.specs.Tables.{symbol_under}
use Rattle.model_symbols.proofs.NameLemmas.{number_within}
use Rattle.acl_syms.proofs.Symbols.find.Goals as goal

pub returns-in-Some-clause-within : goal.returns-in-Some-clause-within
returns-in-Some-clause-within c =
    number_within c.args.self.now.symbols (symbol_under c.args.self.now c.args.p.0 c.args.name.now) c.in-Some.number.now
    (sym (c.kept.ensures.knows c.args.name.now) ∙ sym c.in-Some.ensures.value)
