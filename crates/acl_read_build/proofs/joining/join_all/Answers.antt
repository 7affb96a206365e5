use Rattle.std.specs.Prelude.{List}
use Rattle.std.proofs.Common.{sym, ap, ◌∙◌, subst}
use Rattle.model_objects.specs.Object.{weight}
use Rattle.model_text.specs.Backquote as backquote
use Rattle.model_text.specs.Backquote.{item_form, joined_onto}
use Rattle.acl_read_build.specs.declared.Item.{Item}
use Rattle.acl_read_build.specs.Slots.{item_at, items_at}
use Rattle.acl_read_build.specs.Building.{Refuses}
use Rattle.acl_read_build.proofs.GrowthLemmas.{Grows-then}
use Rattle.acl_read_build.proofs.ItemLemmas.{AreWholeItems-pop, listed, refused_list}
use Rattle.acl_read_build.proofs.joining.join_all.Goals as goal

pub join-requires-clause-first : goal.join-requires-clause-first
join-requires-clause-first c = (AreWholeItems-pop c.args.syms.now c.loop-item.heap c.pop.new.self.items c.in-Some.item (rw c.in-Some.ensures.items at c.loop-item.invariant.items)).1

pub returns-in-Err-clause-fault : goal.returns-in-Err-clause-fault
returns-in-Err-clause-fault c =
    let t = c.args.syms.now in
    let h = c.loop-item.heap in
    let end = item_at t h c.loop-item.end in
    let same = ap (λ (is : List Item). joined_onto (items_at t h is) end) (sym c.in-Some.ensures.items) ∙ c.loop-item.invariant.same in
    subst (λ (x : backquote.Item). Refuses (weight (item_form x)) c.in-Err.refusal) same (refused_list t h c.pop.new.self.items c.in-Some.item c.loop-item.end c.in-Err.refusal c.in-Err.ensures.fault)

pub loop-item-preserved : goal.loop-item-preserved
loop-item-preserved c =
    let t = c.args.syms.now in
    let h = c.loop-item.heap in
    let i = c.loop-item.invariant in
    let p = AreWholeItems-pop t h c.pop.new.self.items c.in-Some.item (rw c.in-Some.ensures.items at i.items) in
    let made = c.in-Ok.ensures.ok in
    let g = c.in-Ok.ensures.grows in
    record {
      grown = Grows-then i.grown g;
      items = g.items c.pop.new.self.items p.0;
      end = made.1;
      same = listed t h c.join.new.heap c.pop.new.self.items c.in-Some.item c.loop-item.end c.in-Ok.joined g p.0 made.0
          ∙ (ap (λ (is : List Item). joined_onto (items_at t h is) (item_at t h c.loop-item.end)) (sym c.in-Some.ensures.items) ∙ i.same);
    }
