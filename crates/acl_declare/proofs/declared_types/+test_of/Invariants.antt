use Rattle.acl_declare.proofs.declared_types.+test_of.Given as goal

abbrev pub decreases-test_of : goal.decreases-test_of
decreases-test_of l = l.left
