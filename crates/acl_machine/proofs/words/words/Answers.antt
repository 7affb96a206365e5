use Rattle.std.proofs.Common.{rules, ◌≡◌, ◌+◌, ◌<◌, ◌++◌}
use Rattle.acl_machine.specs.Cells.{cell, word_in}
use Rattle.acl_machine.proofs.WordLemmas.{collects_step}
use Rattle.acl_machine.proofs.words.words.Goals as goal

pub loop-k-preserved : goal.loop-k-preserved
loop-k-preserved c =
    let below : c.loop-k.k < c.args.count = search rules in
    let is : c.get.result ≡ cell c.args.values.now (c.args.first + c.loop-k.k) = search rules in
    let more : c.add_word.new.words.items ≡ c.loop-k.words.items ++ word_in c.get.result = search rules in
    collects_step _ _ _ _ _ _ c.loop-k.words.items _ c.get.result below c.requires c.loop-k.invariant is more
