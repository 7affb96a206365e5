use Rattle.std.specs.Prelude.{false}
use Rattle.std.proofs.Common.{◌≡◌, rules, sym, ◌∙◌}
use Rattle.acl_layers.proofs.ScopingLemmas.{star_stops}
use Rattle.acl_layers.proofs.scoping.let_star.Goals as goal

pub returns-then-not-branch : goal.returns-then-not-branch
returns-then-not-branch c =
    let f : c.in_ok-are_bindings.field-0 ≡ false = search rules in
    star_stops c.args.syms.now.symbols _ _ _ c.in-Some.ensures.0 (sym c.in_ok-are_bindings.ensures ∙ f)
