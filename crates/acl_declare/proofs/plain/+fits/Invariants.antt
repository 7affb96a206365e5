use Rattle.acl_declare.proofs.plain.+fits.Given as goal

abbrev pub decreases-fits : goal.decreases-fits
decreases-fits l = l.left
