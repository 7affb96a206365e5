-- One function after another.
use Rattle.std.specs.Prelude.{◌≡◌, ◌∷◌, length}
use Rattle.std.proofs.Common.{rules}
use Rattle.std.specs.Vec.Iter.{into_iter_items, into_iter_len}
use Rattle.acl_enter_stobj.proofs.AddLemmas.{adding_fresh, adding_more}
use Rattle.acl_enter_stobj.proofs.adding.add_functions.Goals as goal

pub add_function-requires : goal.add_function-requires
add_function-requires c =
    let split : into_iter_items c.functions.function-iterator ≡ c.in-Some.function ∷ into_iter_items c.next.new.self = search rules in
    record { fresh = adding_fresh c.args.world.now c.functions.world c.in-Some.function (into_iter_items c.functions.function-iterator) (into_iter_items c.next.new.self) c.args.functions.items c.functions.invariant.0 split }

pub functions-preserved : goal.functions-preserved
functions-preserved c =
    let split : into_iter_items c.functions.function-iterator ≡ c.in-Some.function ∷ into_iter_items c.next.new.self = search rules in
    let counted : into_iter_len c.next.new.self ≡ length (into_iter_items c.next.new.self) = search rules in (
      adding_more c.args.world.now c.functions.world c.in-Some.function (into_iter_items c.functions.function-iterator) (into_iter_items c.next.new.self) c.args.functions.items c.functions.invariant.0 split
          c.add_function.new.world c.in_ok-add_function.ensures.ok,
      counted,
    )
