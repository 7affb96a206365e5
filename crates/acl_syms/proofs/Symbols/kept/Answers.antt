use Rattle.std.proofs.Common.{◌<◌, arith, ap, subst, length}
use Rattle.std.proofs.lemmas.List.{length-map}
use Rattle.model_symbols.specs.Symbols.{Table}
use Rattle.acl_syms.specs.Fields.{KeptPackage, package_of, symbols_of}
use Rattle.acl_syms.proofs.FieldLemmas.{read, kept_package}
use Rattle.acl_syms.proofs.Symbols.kept.Goals as goal

pub returns : goal.returns
returns c =
    let ps = c.self.inside.packages.items in
    let ss = c.self.inside.symbols.items in
    let low : c.args.p.0 < length ps = omega (arith, c.requires, ap (λ (t : Table). length t.packages) c.self.view_is, length-map ps (package_of (symbols_of ps ss))) in
    subst (λ (t : Table). KeptPackage t c.args.p.0 c.index.result.now) c.self.view_is
    (kept_package ps ss _ c.self.invariant c.args.p.0 c.index.result.now (read ps c.args.p.0 c.index.result.now low c.index.ensures))
