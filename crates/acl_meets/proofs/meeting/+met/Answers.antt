use Rattle.acl_meets.proofs.PartLemmas.{other_is}
use Rattle.acl_meets.proofs.meeting.+met.Goals as goal

pub returns-in-Ok : goal.returns-in-Ok
returns-in-Ok t c =
    let fits = rw c.in-Other.is at c.requires.fits in
    record {
      is = rw c.in-Other.is (other_is c.args.left _ _ _ _ fits c.shape_of-shape.ensures.is c.in-Ok.ensures.is);
      err = tt;
    }
