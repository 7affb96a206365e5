use Rattle.std.specs.Prelude.{map}
use Rattle.std.proofs.Common.{◌≡◌, ℕ, ◌⊎◌, ◌∙◌, ap, subst, sym, rules, replicate}
use Rattle.acl_lists.specs.Tables.{list_at, AllIn}
use Rattle.acl_lists.specs.Compacting.{AllMarked, AllUsed, IsMarked, IsPartOfMarked}
use Rattle.acl_lists.proofs.MarkLemmas.{all_stay}
use Rattle.acl_lists.proofs.SweepLemmas.{roots_in, roots_stand, all_used}
use Rattle.acl_lists.proofs.table.Lists.compact.Goals as goal

pub returns-clause-within : goal.returns-clause-within
returns-clause-within c =
    let within : AllIn c.self.inside.cells.items c.args.roots.now = subst (λ cs. AllIn cs c.args.roots.now) (sym c.self.view_is) c.requires in
    let marked : AllMarked c.mark_below.new.marks.items c.args.roots.now = all_stay c.mark_roots.new.marks.items c.mark_below.new.marks.items c.args.roots.now c.mark_below.ensures.more c.mark_roots.ensures.marked in
    rw (c.truncate.ensures.items, c.move_roots.ensures) (roots_in _ _ _ _ c.args.roots.now c.sweep-kept.ensures.swept within marked)

pub returns-clause-are : goal.returns-clause-are
returns-clause-are c =
    let within : AllIn c.self.inside.cells.items c.args.roots.now = subst (λ cs. AllIn cs c.args.roots.now) (sym c.self.view_is) c.requires in
    let marked : AllMarked c.mark_below.new.marks.items c.args.roots.now = all_stay c.mark_roots.new.marks.items c.mark_below.new.marks.items c.args.roots.now c.mark_below.ensures.more c.mark_roots.ensures.marked in
    rw (c.truncate.ensures.items, c.move_roots.ensures) (roots_stand _ _ _ _ c.args.roots.now c.sweep-kept.ensures.swept within marked)
    ∙ ap (λ cs. map (list_at cs) c.args.roots.now) c.self.view_is

pub returns-clause-used : goal.returns-clause-used
returns-clause-used c =
    let zeros : c.in_ok-marks.marks.items ≡ replicate c.len.result 0 = search rules in
    let parts : (i : ℕ) → IsMarked c.mark_below.new.marks.items i → IsMarked c.mark_roots.new.marks.items i ⊎ IsPartOfMarked c.self.inside.cells.items c.mark_below.new.marks.items i =
    λ i m. subst (λ cs. IsMarked c.mark_roots.new.marks.items i ⊎ IsPartOfMarked cs c.mark_below.new.marks.items i) c.as_slice.ensures.value (c.mark_below.ensures.only i m) in
    let all : AllUsed c.truncate.new.self.items c.move_roots.new.roots =
    rw (c.truncate.ensures.items, c.move_roots.ensures)
    (all_used c.self.inside.cells.items _ c.in_ok-marks.marks.items c.mark_roots.new.marks.items c.mark_below.new.marks.items _ c.args.roots.now c.len.result zeros c.mark_roots.ensures.only parts c.sweep-kept.ensures.swept) in
    all
