use Rattle.std.specs.Prelude.{◌≡◌, ◌++◌, drop}
use Rattle.acl_object_turns.specs.Children.{loans_in}
use Rattle.acl_object_turns.proofs.twins.loans_of.Given as goal

-- the loans so far, then those that are left
abbrev pub invariant-loop-one : goal.invariant-loop-one
invariant-loop-one l = l.loans.items ++ loans_in (drop l.one-index l.borrowed) ≡ loans_in l.borrowed
