use Rattle.acl_meets.proofs.meeting.+met.Given as goal

abbrev pub decreases-met : goal.decreases-met
decreases-met l = l.left
