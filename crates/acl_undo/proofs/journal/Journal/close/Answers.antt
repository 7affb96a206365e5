use Rattle.std.proofs.Common.{reverse, sym, ap, subst, ◌∙◌}
use Rattle.acl_undo.specs.Parts.{after_all, AllFit}
use Rattle.acl_undo.proofs.Newest.{newest_fits, after_newest, after_none}
use Rattle.acl_undo.proofs.journal.Journal.close.Goals as goal

pub forget-requires : goal.forget-requires
forget-requires g c =
    let at = c.loop-part in
    (newest_fits g.T.Undo.fits g.T.Undo.forgotten at.self.parts c.take_newest.new.self.parts c.in-Some.part at.state c.in-Some.ensures.parts at.invariant.1).0

pub loop-part-preserved : goal.loop-part-preserved
loop-part-preserved g c =
    let at = c.loop-part in let xs = at.self.parts in let ys = c.take_newest.new.self.parts in let p = c.in-Some.part in let Undo = g.T.Undo in let laws = g.met.T.Undo in
    let fit = newest_fits Undo.fits Undo.forgotten xs ys p at.state c.in-Some.ensures.parts at.invariant.1 in (
      c.take_newest.ensures.open,
      subst (AllFit Undo.fits Undo.forgotten (reverse ys)) (sym c.forget.ensures) fit.1,
      ap (after_all Undo.forgotten (reverse ys)) c.forget.ensures ∙ sym (after_newest Undo.fits Undo.forgotten xs ys p at.state c.in-Some.ensures.parts) ∙ at.invariant.2,
      subst (Undo.stands_for_same c.args.state.now) (sym c.forget.ensures) (laws.same_in_turn c.args.state.now at.state (Undo.forgotten p at.state) at.invariant.3 (laws.forgotten_stands p at.state fit.0)),
    )

pub returns-clause-state : goal.returns-clause-state
returns-clause-state g c =
    let at = c.loop-part in
    after_none g.T.Undo.fits g.T.Undo.forgotten at.self.parts at.state c.in_default.ensures.parts.0 ∙ at.invariant.2

pub invariant_of-self : goal.invariant_of-self
invariant_of-self g c = λ closed. ap (λ n. n.parts) c.self.view_is ∙ c.in_default.ensures.parts.1

pub returns-clause-parts : goal.returns-clause-parts
returns-clause-parts g c = ap (λ n. n.parts) c.self.view_is ∙ c.in_default.ensures.parts.1
