use Rattle.std.proofs.Common.{◌≡◌, ◌-◌, length}
use Rattle.model_objects.specs.Named.{Knows}
use Rattle.model_expansion.specs.Expansion as expansion
use Rattle.acl_forms.specs.Forms.{Grown}
use Rattle.acl_heap.specs.Objects.{object_of, Lies}
use Rattle.acl_expand.specs.Looks.{setting_at}
use Rattle.acl_expand.specs.Progresses.{seen_progress, IsWithin}
use Rattle.acl_expand.proofs.stepping.settle.Given as goal

abbrev pub invariant-uses : goal.invariant-uses
invariant-uses g l = Lies l.heap l.at × Grown l.initial.syms l.syms l.initial.heap l.heap × (l.syms.packages ≡ l.initial.syms.packages)
    × (g.E.Engine.live l.engine ≡ g.E.Engine.live l.initial.engine) × g.E.Engine.fits l.engine l.heap l.world l.syms × IsWithin l.progress l.limits.steps
    × (expansion.settled (setting_at l.initial.heap l.world l.initial.syms l.limits.steps l.limits.depth) (l.limits.steps - l.initial.progress.calls) (object_of l.initial.heap l.fn.form) (seen_progress l.initial.syms.symbols l.initial.progress)
    ≡ expansion.settled (setting_at l.initial.heap l.world l.initial.syms l.limits.steps l.limits.depth) l.left (object_of l.heap l.at) (seen_progress l.syms.symbols l.progress))
    × Knows (length l.syms.symbols) (object_of l.heap l.at)

abbrev pub decreases-uses : goal.decreases-uses
decreases-uses g l = l.left
