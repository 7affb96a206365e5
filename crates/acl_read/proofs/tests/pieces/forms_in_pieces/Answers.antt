use Rattle.acl_base.specs.declared.PkgId.{PkgId}
use Rattle.acl_read.proofs.AnswerLemmas.{opening_many, opening_self}
use Rattle.acl_read.proofs.LaterLemmas.{ready_fresh}
use Rattle.acl_read.proofs.tests.pieces.forms_in_pieces.Goals as goal

pub loop-at-init : goal.loop-at-init
loop-at-init c =
    let t = c.in_ok-syms.syms in
    let p : PkgId = record { 0 = 2 } in
    record {
      cut = ready_fresh t p c.new-cut.result c.new-cut.ensures.fits;
      whole = c.finish.ensures.ready t p (c.feed.ensures.ready t p (ready_fresh t p c.new-whole.result c.new-whole.ensures.fits));
      known = opening_many t c.in_ok-syms.ensures;
      opens = opening_self t c.in_ok-syms.ensures;
      unended = c.new-cut.ensures.ended;
    }
