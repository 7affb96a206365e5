use Rattle.acl_guards.proofs.guard.+guard.Given as goal

abbrev pub decreases-grow_guard : goal.decreases-grow_guard
decreases-grow_guard g l = l.left
