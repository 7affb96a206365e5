use Rattle.std.proofs.Common.{◌≡◌, ◌≤◌, ◌<◌, ℕ, length, drop, false, get_or, IfSome}
use Rattle.std.specs.Option.{option_map}
use Rattle.model_output_so_far.specs.Events.{first_in_use}
use Rattle.acl_answers.specs.Views.{name_of, names_of}
use Rattle.acl_answers.specs.Whole.{IsKnown}
use Rattle.acl_answers.proofs.UseLemmas.{is_among}
use Rattle.acl_answers.proofs.naming.first_in_use.Given as goal

abbrev pub invariant-loop-left : goal.invariant-loop-left
invariant-loop-left l = record {
  within : l.left ≤ length l.names;
  size : length l.comes_later.items ≡ length l.syms.symbols;
  seen : (n : ℕ) → n < length l.syms.symbols → get_or l.comes_later.items n false ≡ is_among n (drop l.left l.names);
  known : IfSome l.found (IsKnown l.syms);
  same : option_map (name_of l.syms) l.found ≡ first_in_use (names_of l.syms (drop l.left l.names));
}

abbrev pub decreases-loop-left : goal.decreases-loop-left
decreases-loop-left l = l.left
