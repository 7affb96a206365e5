use Rattle.std.specs.Prelude.{length}
use Rattle.model_expansion_parts.specs.Known.{KnowsSupplies}
use Rattle.acl_forms.specs.Forms.{IsWhole}
use Rattle.acl_worlds.specs.Contents.{seen_world, WorldLies}
use Rattle.acl_expand.specs.Progresses.{IsWithin}
use Rattle.acl_expand_rows.proofs.rows.repeated.Given as goal

abbrev pub invariant-times : goal.invariant-times
invariant-times l =
    WorldLies l.heap l.world × IsWhole l.syms l.heap l.form × KnowsSupplies (length l.syms.symbols) (seen_world l.heap l.world) × IsWithin l.progress l.limits.steps
