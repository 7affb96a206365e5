use Rattle.std.specs.Prelude.{◌≡◌, length}
use Rattle.acl_forms.specs.Forms.{AreWhole}
use Rattle.acl_keep.specs.Seen.{loan_words}
use Rattle.acl_object_turns.proofs.TwinLemmas.{any_twin}
use Rattle.acl_object_turns.proofs.twins.has_twin.Given as goal

abbrev pub invariant-others : goal.invariant-others
invariant-others l = record {
  whole : AreWhole l.syms l.heap (loan_words l.rest);
  same : any_twin l.heap l.loan l.others ≡ any_twin l.heap l.loan l.rest;
}

abbrev pub decreases-others : goal.decreases-others
decreases-others l = length l.rest
