use Rattle.std.proofs.Common.{ap, ◌∙◌}
use Rattle.model_symbols.specs.Symbols.{Table, package_number}
use Rattle.acl_syms.proofs.FieldLemmas.{package_found}
use Rattle.acl_syms.proofs.Symbols.find_package.Goals as goal

pub returns-in-Some-clause-found : goal.returns-in-Some-clause-found
returns-in-Some-clause-found c =
    c.in-Some.ensures.index
    ∙ (package_found (λ k. k.items) c.self.inside.names.keys c.self.inside.packages.items c.self.inside.symbols.items c.args.name.now c.self.invariant.listed
    ∙ ap (λ (t : Table). package_number t.packages c.args.name.now) c.self.view_is)

pub returns-in-None-clause-found : goal.returns-in-None-clause-found
returns-in-None-clause-found c =
    c.in-None.ensures.index
    ∙ (package_found (λ k. k.items) c.self.inside.names.keys c.self.inside.packages.items c.self.inside.symbols.items c.args.name.now c.self.invariant.listed
    ∙ ap (λ (t : Table). package_number t.packages c.args.name.now) c.self.view_is)
