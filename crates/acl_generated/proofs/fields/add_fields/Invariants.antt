use Rattle.std.specs.Prelude.{◌≡◌, ◌++◌, map, length}
use Rattle.model_stobjs.specs.Entries.{field_functions}
use Rattle.acl_terms.specs.Definitions.{seen_field, seen_generated}
use Rattle.acl_generated.proofs.fields.add_fields.Given as goal

abbrev pub invariant-fields : goal.invariant-fields
invariant-fields l =
    map seen_generated l.all.items ++ field_functions l.stobj.0 l.at (map (seen_field l.heap) l.rest)
    ≡ map seen_generated l.fn.all.items ++ field_functions l.stobj.0 0 (map (seen_field l.heap) l.fields)

abbrev pub decreases-fields : goal.decreases-fields
decreases-fields l = length l.rest
