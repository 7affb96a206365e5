use Rattle.std.proofs.Common.{◌≡◌, ◌++◌, drop}
use Rattle.acl_terms.proofs.scope.Scope.from_entries.Given as goal

abbrev pub invariant-loop-entry : goal.invariant-loop-entry
invariant-loop-entry l = l.scope ++ drop l.entry-index l.entries ≡ l.entries
