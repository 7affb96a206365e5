-- How much the calls of open forms have left behind is less than a number of 64 bits where few forms are open.
use Rattle.std.proofs.Common.{◌≡◌, ℕ, ◌+◌, ◌≤◌, ◌<◌, ◌^◌, List, [], ◌∷◌, length, arith}
use Rattle.std.specs.Prelude.{Some, None}
use Rattle.acl_machine.specs.declared.frame.Step.{Step}
use Rattle.acl_machine.specs.declared.frame.Step.TheVariants as step
use Rattle.acl_machine.specs.declared.frame.Frame.{Frame}
use Rattle.acl_machine.specs.declared.machine.Machine.{Machine}
use Rattle.acl_machine.specs.Keeping.{lefts_in, all_lefts}

at_most_two : (s : Step) → lefts_in s ≤ 2
at_most_two (step.Test held other) = omega arith
at_most_two (step.Parts at count next left goal) = omega arith
at_most_two (step.Several at body) = omega arith
at_most_two (step.Calling at function count) = omega arith
at_most_two (step.Guarding None function names) = omega arith
at_most_two (step.Guarding (Some x) function names) = omega arith
at_most_two (step.Running None function names) = omega arith
at_most_two (step.Running (Some x) function names) = omega arith
at_most_two (step.Allowing function names number) = omega arith
at_most_two (step.Exporting function names number) = omega arith
at_most_two (step.Borrowing at term bound) = omega arith
at_most_two (step.Producing at loans consumer) = omega arith
at_most_two (step.Putting at put loans consumer) = omega arith
at_most_two (step.Local at body) = omega arith
at_most_two (step.Last None) = omega arith
at_most_two (step.Last (Some x)) = omega arith

twice : (fs : List Frame) → all_lefts fs ≤ length fs + length fs
twice [] = omega arith
twice (f ∷ fs) = let x = at_most_two f.step in let y = twice fs in omega (arith, x, y)

pub few_lefts : (m : Machine) (n : ℕ) → length m.frames < 2 ^ 63 → n ≡ all_lefts m.frames → n < 2 ^ 64
few_lefts m n few e = let x = twice m.frames in omega (arith, few, e, x)
