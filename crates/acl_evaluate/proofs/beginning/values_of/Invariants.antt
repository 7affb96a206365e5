use Rattle.std.proofs.Common.{◌≡◌, ◌++◌, drop}
use Rattle.acl_evaluate.specs.Begun.{all_values}
use Rattle.acl_evaluate.proofs.beginning.values_of.Given as goal

-- the values so far, then those of the words that are left
abbrev pub invariant-loop-word : goal.invariant-loop-word
invariant-loop-word l = l.values ++ all_values (drop l.word-index l.words) ≡ all_values l.words
