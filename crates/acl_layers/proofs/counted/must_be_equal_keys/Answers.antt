use Rattle.std.proofs.Common.{rules, sym, ◌∙◌}
use Rattle.acl_layers.proofs.RowLemmas.{mbe_straight, mbe_turned, mbe_other}
use Rattle.acl_layers.proofs.counted.must_be_equal_keys.Goals as goal

pub returns-then-keys_are : goal.returns-then-keys_are
returns-then-keys_are c =
    let e = mbe_straight c.args.syms.now.symbols _ _ _ _ _ c.in-Some.ensures.0 (sym c.keys_are.ensures ∙ c.if-keys_are.true) in
    search (rules, e)

pub returns-then-keys_are-2 : goal.returns-then-keys_are-2
returns-then-keys_are-2 c =
    let e = mbe_turned c.args.syms.now.symbols _ _ _ _ _ c.in-Some.ensures.0 (sym c.keys_are.ensures ∙ c.if-keys_are.false) (sym c.keys_are-2.ensures ∙ c.if-keys_are-2.true) in
    search (rules, e)

pub returns : goal.returns
returns c = mbe_other c.args.syms.now.symbols _ _ _ _ _ c.in-Some.ensures.0 (sym c.keys_are.ensures ∙ c.if-keys_are.false) (sym c.keys_are-2.ensures ∙ c.if-keys_are-2.false)
