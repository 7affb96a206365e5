use Rattle.std.proofs.Common.{reverse, sym, ap, subst, ◌∙◌}
use Rattle.acl_undo.specs.Parts.{after_all, AllFit}
use Rattle.acl_undo.proofs.Newest.{newest_fits, after_newest, after_none}
use Rattle.acl_undo.proofs.journal.Journal.roll_back.Goals as goal

pub undo-requires : goal.undo-requires
undo-requires g c =
    let at = c.loop-old in
    (newest_fits g.T.Undo.fits g.T.Undo.undone at.self.parts c.take_newest.new.self.parts c.in-Some.old at.state c.in-Some.ensures.parts at.invariant.1).0

pub loop-old-preserved : goal.loop-old-preserved
loop-old-preserved g c =
    let at = c.loop-old in let xs = at.self.parts in let ys = c.take_newest.new.self.parts in let p = c.in-Some.old in let Undo = g.T.Undo in
    let fit = newest_fits Undo.fits Undo.undone xs ys p at.state c.in-Some.ensures.parts at.invariant.1 in (
      c.take_newest.ensures.open,
      subst (AllFit Undo.fits Undo.undone (reverse ys)) (sym c.undo.ensures) fit.1,
      ap (after_all Undo.undone (reverse ys)) c.undo.ensures ∙ sym (after_newest Undo.fits Undo.undone xs ys p at.state c.in-Some.ensures.parts) ∙ at.invariant.2,
    )

pub returns-clause-state : goal.returns-clause-state
returns-clause-state g c =
    let at = c.loop-old in
    after_none g.T.Undo.fits g.T.Undo.undone at.self.parts at.state c.in_default.ensures.parts.0 ∙ at.invariant.2

pub invariant_of-self : goal.invariant_of-self
invariant_of-self g c = λ closed. ap (λ n. n.parts) c.self.view_is ∙ c.in_default.ensures.parts.1

pub returns-clause-parts : goal.returns-clause-parts
returns-clause-parts g c = ap (λ n. n.parts) c.self.view_is ∙ c.in_default.ensures.parts.1
