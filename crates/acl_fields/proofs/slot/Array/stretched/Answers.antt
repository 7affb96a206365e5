use Rattle.std.proofs.Common.{◌≡◌, ◌∙◌, ◌++◌, ap, subst, take, drop, length, List, ◌≤◌, ℕ}
use Rattle.std.specs.Prelude.{◌⊎◌}
use Rattle.acl_fields.proofs.SlotLemmas.{copied_all}
use Rattle.acl_fields.proofs.slot.Array.stretched.Goals as goal

pub returns-clause-elements : goal.returns-clause-elements
returns-clause-elements g c =
    let e : c.len.result ≡ length c.args.self.now.elements = c.len.ensures in
    c.copy_first.ensures
    ∙ (ap (λ (ys : List _). take c.shorter-shared.result c.args.self.now.elements ++ drop c.shorter-shared.result ys) c.in_ok-elements.ensures.elements
    ∙ copied_all c.args.self.now.elements c.args.count c.shorter-shared.result c.args.self.now.initial c.shorter-shared.ensures.first
    (subst (λ (m : ℕ). c.shorter-shared.result ≤ m) e c.shorter-shared.ensures.second)
    (subst (λ (m : ℕ). (c.shorter-shared.result ≡ c.args.count) ⊎ (c.shorter-shared.result ≡ m)) e c.shorter-shared.ensures.one))
