use Rattle.std.proofs.Common.{◌≡◌, ◌≤◌, ◌*◌, ◌+◌, [], length, drop}
use Rattle.std.specs.Prelude.{map}
use Rattle.model_expansion.specs.Expansion as expansion
use Rattle.acl_forms.specs.Forms.{Grown}
use Rattle.acl_terms.specs.Forms.{seen_cores, core_reach, most}
use Rattle.acl_layers.specs.Layers.{seen_parts}
use Rattle.acl_expand.specs.Looks.{setting_at}
use Rattle.acl_expand.specs.Progresses.{seen_progress, IsWithin}
use Rattle.acl_growing.specs.Ends.{KnowsForms}
use Rattle.acl_growing.proofs.growing.+grow.Given as goal

abbrev pub decreases-grow : goal.decreases-grow
decreases-grow g l = 2 * l.left

abbrev pub decreases-grow_all : goal.decreases-grow_all
decreases-grow_all g l = 2 * l.left + 1

abbrev pub invariant-grow_all-parts : goal.invariant-grow_all-parts
invariant-grow_all-parts g l =
    Grown l.initial.syms l.syms l.initial.heap l.heap × (l.syms.packages ≡ l.initial.syms.packages)
    × (g.E.Engine.live l.engine ≡ g.E.Engine.live l.initial.engine) × g.E.Engine.fits l.engine l.heap l.world l.syms × IsWithin l.progress l.limits.steps
    × (most (map core_reach l.done.items) ≤ length l.heap)
    × (expansion.grown_all (expansion.grown (setting_at l.initial.heap l.world l.initial.syms l.limits.steps l.limits.depth) l.left) (seen_parts l.initial.heap l.parts) [] (seen_progress l.initial.syms.symbols l.initial.progress)
    ≡ expansion.grown_all (expansion.grown (setting_at l.initial.heap l.world l.initial.syms l.limits.steps l.limits.depth) l.left) (seen_parts l.initial.heap (drop l.part-index l.parts)) (seen_cores l.heap l.done.items) (seen_progress l.syms.symbols l.progress))
    × KnowsForms (length l.syms.symbols) (seen_cores l.heap l.done.items)
