use Rattle.std.proofs.Common.{rules, ◌≡◌, ◌∷◌, length, refl}
use Rattle.std.specs.Prelude.{None}
use Rattle.acl_list_keeper.specs.declared.keeper.ListKeeper.{ListKeeper}
use Rattle.acl_live_lists.proofs.CreateLemmas.{bound_to, lists_created, live_created, lists_refused, live_refused}
use Rattle.acl_live_lists.proofs.creating.create.Goals as goal

pub returns-in-Ok-clause-ok : goal.returns-in-Ok-clause-ok
returns-in-Ok-clause-ok c =
    let one : c.in-Ok.made.items ≡ bound_to c.args.stobj c.in_ok-list.list ∷ c.args.keeper.now.scoped.bindings.items = search rules in
    let after : ListKeeper = record { scoped = record { alloc = c.args.keeper.now.scoped.alloc; lists = c.new_list.new.lists; bindings = c.in-Ok.made; behind = c.args.keeper.now.scoped.behind }; ready = None } in
    lists_created c.args.heap.now c.args.world.now (length c.args._syms.now.symbols) c.args.keeper.now after c.args.stobj c.in_ok-list.list c.requires c.in_ok-list.ensures.grows one c.in_ok-list.ensures.is

pub returns-in-Ok-clause-live : goal.returns-in-Ok-clause-live
returns-in-Ok-clause-live c =
    let one : c.in-Ok.made.items ≡ bound_to c.args.stobj c.in_ok-list.list ∷ c.args.keeper.now.scoped.bindings.items = search rules in
    live_created c.args.heap.now c.args.world.now (length c.args._syms.now.symbols) c.args.keeper.now _ c.args.stobj c.in_ok-list.list c.requires c.in_ok-list.ensures.grows c.in_ok-list.ensures.within one
    c.in_ok-list.ensures.is refl refl

pub returns-in-Err-clause-err : goal.returns-in-Err-clause-err
returns-in-Err-clause-err c =
    lists_refused c.args.heap.now c.args.world.now (length c.args._syms.now.symbols) c.args.keeper.now c.new_list.new.lists c.requires c.in_ok-list.ensures.grows

pub returns-in-Err-clause-live : goal.returns-in-Err-clause-live
returns-in-Err-clause-live c =
    live_refused c.args.heap.now c.args.world.now (length c.args._syms.now.symbols) c.args.keeper.now _ c.requires c.in_ok-list.ensures.grows refl refl refl
