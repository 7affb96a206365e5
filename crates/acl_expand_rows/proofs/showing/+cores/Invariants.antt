use Rattle.std.specs.Prelude.{◌*◌, ◌+◌}
use Rattle.acl_expand_rows.proofs.showing.+cores.Given as goal

abbrev pub decreases-put_core : goal.decreases-put_core
decreases-put_core l = 5 * l.left

abbrev pub decreases-put_part : goal.decreases-put_part
decreases-put_part l = 5 * l.left + 1

abbrev pub decreases-put_two : goal.decreases-put_two
decreases-put_two l = 5 * l.left + 2

abbrev pub decreases-put_parts : goal.decreases-put_parts
decreases-put_parts l = 5 * l.left + 2

abbrev pub decreases-put_bindings : goal.decreases-put_bindings
decreases-put_bindings l = 5 * l.left + 2

abbrev pub decreases-put_scope : goal.decreases-put_scope
decreases-put_scope l = 5 * l.left + 3

abbrev pub decreases-put_stobj_form : goal.decreases-put_stobj_form
decreases-put_stobj_form l = 5 * l.left + 4
