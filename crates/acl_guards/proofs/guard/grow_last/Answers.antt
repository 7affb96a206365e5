-- A guard that asks nothing, or one thing.
use Rattle.std.specs.Prelude.{◌≡◌, ◌∷◌, length}
use Rattle.std.proofs.Common.{rules, sym, ap, ◌∙◌}
use Rattle.model_terms.specs.Cores as cores
use Rattle.model_expansion.specs.Expansion as expansion
use Rattle.acl_expand.specs.Looks.{setting_at}
use Rattle.acl_expand.specs.Progresses.{seen_progress}
use Rattle.acl_guards.proofs.GuardLemmas.{item_lies, item_known, guard_empty, guard_last, none_behind}
use Rattle.acl_guards.proofs.guard.grow_last.Goals as goal

pub returns-in-None-clause-ends : goal.returns-in-None-clause-ends
returns-in-None-clause-ends g c =
    let x = setting_at c.args.heap.now c.args.world.now c.args.syms.now c.args.limits.steps c.args.limits.depth in
    let p = seen_progress c.args.syms.now.symbols c.args.progress.now in
    let n : length c.args.items.now ≡ 0 = search rules in
    (guard_empty x c.args.heap.now c.args.left c.requires.some c.args.items.now p n ∙ ap (λ (f : cores.Core). expansion.Makes f p) (sym c.constant.ensures.0), c.constant.ensures.1)

pub grow_item-requires-clause-item : goal.grow_item-requires-clause-item
grow_item-requires-clause-item g c =
    let e : c.args.items.now ≡ c.in-Some.item.now ∷ c.in-Some._others.now = search rules in
    item_lies c.args.heap.now c.in-Some.item.now c.args.items.now c.in-Some._others.now e (length c.args.heap.now) c.requires.items

pub grow_item-requires-clause-known : goal.grow_item-requires-clause-known
grow_item-requires-clause-known g c =
    let e : c.args.items.now ≡ c.in-Some.item.now ∷ c.in-Some._others.now = search rules in
    item_known c.args.heap.now c.in-Some.item.now c.args.items.now c.in-Some._others.now e (length c.args.syms.now.symbols) c.requires.known

pub returns-in-Err-clause-ends : goal.returns-in-Err-clause-ends
returns-in-Err-clause-ends g c =
    let x = setting_at c.args.heap.now c.args.world.now c.args.syms.now c.args.limits.steps c.args.limits.depth in
    let e : c.args.items.now ≡ c.in-Some.item.now ∷ c.in-Some._others.now = search rules in
    let n = none_behind c.in-Some.item.now c.args.items.now c.in-Some._others.now e c.requires.few in
    λ known. guard_last x c.args.heap.now c.args.left c.requires.some c.in-Some.item.now c.args.items.now c.in-Some._others.now e (seen_progress c.args.syms.now.symbols c.args.progress.now) n ∙ c.in-Err.ensures.ends known

pub returns-in-Ok-clause-ends : goal.returns-in-Ok-clause-ends
returns-in-Ok-clause-ends g c =
    let x = setting_at c.args.heap.now c.args.world.now c.args.syms.now c.args.limits.steps c.args.limits.depth in
    let e : c.args.items.now ≡ c.in-Some.item.now ∷ c.in-Some._others.now = search rules in
    let n = none_behind c.in-Some.item.now c.args.items.now c.in-Some._others.now e c.requires.few in
    (guard_last x c.args.heap.now c.args.left c.requires.some c.in-Some.item.now c.args.items.now c.in-Some._others.now e (seen_progress c.args.syms.now.symbols c.args.progress.now) n ∙ c.in-Ok.ensures.ends.0, c.in-Ok.ensures.ends.1)
