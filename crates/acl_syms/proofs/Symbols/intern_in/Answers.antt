use Rattle.std.specs.Prelude.{length, ◌≤◌}
use Rattle.std.proofs.Common.{arith, sym, ap}
use Rattle.std.proofs.lemmas.List.{length-map}
use Rattle.model_symbols.specs.Symbols.{Table, most_symbols}
use Rattle.acl_syms.specs.Fields.{names_of, symbol_of}
use Rattle.acl_syms.proofs.GrowthLemmas.{interns_known, one_too_many}
use Rattle.acl_syms.proofs.Symbols.intern_in.Goals as goal

pub returns-in-Some-clause-ok : goal.returns-in-Some-clause-ok
returns-in-Some-clause-ok c = interns_known c.args.self.now c.args.p.0 c.args.name.now c.in-Some.known.0 (sym c.in-Some.ensures.found)

pub returns-then-len-ge-MOST_SYMBOLS-clause-fault :
    goal.returns-then-len-ge-MOST_SYMBOLS-clause-fault
returns-then-len-ge-MOST_SYMBOLS-clause-fault c =
    let full : most_symbols ≤ length c.args.self.now.symbols = omega (arith, ap (λ (t : Table). length t.symbols) c.self.view_is, length-map c.self.inside.symbols.items (symbol_of (names_of c.self.inside.packages.items))) in
    one_too_many c.args.self.now c.args.p.0 c.args.name.now (sym c.in_default.ensures.found) full
