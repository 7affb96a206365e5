use Rattle.acl_expand_rows.proofs.showing.+words.Given as goal

abbrev pub decreases-put_word : goal.decreases-put_word
decreases-put_word l = l.left

abbrev pub decreases-put_rest : goal.decreases-put_rest
decreases-put_rest l = l.left
