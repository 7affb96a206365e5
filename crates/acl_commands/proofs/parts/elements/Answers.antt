use Rattle.std.proofs.Common.{sym, subst}
use Rattle.acl_forms.specs.Forms.{AreWhole}
use Rattle.acl_commands.proofs.PartLemmas.{parts_whole, wholes_push, one_more}
use Rattle.acl_commands.proofs.parts.elements.Goals as goal

pub loop-first-preserved : goal.loop-first-preserved
loop-first-preserved c =
    let t = c.args.syms.now in
    let h = c.args.heap.now in
    let s = c.in-Pair.ensures.sees in
    let p = parts_whole t h c.loop-first.rest c.in-Pair.first c.in-Pair.next s.0 s.1 s.2 c.loop-first.invariant.rest in
    record {
      rest = p.1;
      words = subst (AreWhole t h) (sym c.in_ok-push.ensures.items) (wholes_push t h c.loop-first.words.items c.in-Pair.first c.loop-first.invariant.words p.0);
      same = one_more t h c.loop-first.words.items c.push.new.self.items c.loop-first.rest c.in-Pair.first c.in-Pair.next _ c.in_ok-push.ensures.items s.0 c.loop-first.invariant.same;
    }
