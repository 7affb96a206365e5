use Rattle.acl_layouts.proofs.fields.+nested.Given as goal

abbrev pub decreases-laid_within : goal.decreases-laid_within
decreases-laid_within l = l.depth
