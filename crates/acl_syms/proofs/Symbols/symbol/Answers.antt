use Rattle.std.proofs.Common.{◌<◌, arith, ap, subst, length}
use Rattle.std.proofs.lemmas.List.{length-map}
use Rattle.model_symbols.specs.Symbols.{Table}
use Rattle.acl_syms.specs.Fields.{KeptSymbol, symbol_of, names_of}
use Rattle.acl_syms.proofs.FieldLemmas.{read, kept_symbol}
use Rattle.acl_syms.proofs.Symbols.symbol.Goals as goal

pub returns : goal.returns
returns c =
    let ps = c.self.inside.packages.items in
    let ss = c.self.inside.symbols.items in
    let low : c.args.s.0 < length ss = omega (arith, c.requires, ap (λ (t : Table). length t.symbols) c.self.view_is, length-map ss (symbol_of (names_of ps))) in
    subst (λ (t : Table). KeptSymbol t c.args.s.0 c.index.result.now) c.self.view_is
    (kept_symbol ps ss _ c.self.invariant c.args.s.0 c.index.result.now (read ss c.args.s.0 c.index.result.now low c.index.ensures))
