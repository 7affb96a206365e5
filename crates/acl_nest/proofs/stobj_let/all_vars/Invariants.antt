use Rattle.std.specs.Prelude.{◌||◌, not}
use Rattle.std.specs.List.{list_all}
use Rattle.std.proofs.Common.{◌≡◌, drop}
use Rattle.model_terms.specs.Classes.{has, is_stobj_name}
use Rattle.acl_terms.specs.Forms.{numbers}
use Rattle.acl_worlds.specs.Contents.{seen_world}
use Rattle.acl_nest.proofs.stobj_let.all_vars.Given as goal

abbrev pub invariant-loop-name : goal.invariant-loop-name
invariant-loop-name l =
    list_all (λ x. has (numbers l.children) x || not (is_stobj_name (seen_world l.heap l.world) x)) (numbers l.vars)
    ≡ list_all (λ x. has (numbers l.children) x || not (is_stobj_name (seen_world l.heap l.world) x)) (numbers (drop l.name-index l.vars))
