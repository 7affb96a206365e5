use Rattle.acl_types.proofs.accepted.+fits.Given as goal

abbrev pub decreases-fits : goal.decreases-fits
decreases-fits l = l.left
