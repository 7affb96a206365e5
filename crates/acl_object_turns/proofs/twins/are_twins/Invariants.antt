use Rattle.std.specs.Prelude.{◌≡◌, length}
use Rattle.model_prims.specs.Kinds.{by_number}
use Rattle.model_eval.specs.Lending.{are_twins}
use Rattle.acl_forms.specs.Forms.{AreWhole}
use Rattle.acl_keep.specs.Seen.{seen_loans, loan_words}
use Rattle.acl_object_turns.proofs.twins.are_twins.Given as goal

abbrev pub invariant-loans : goal.invariant-loans
invariant-loans l = record {
  whole : AreWhole l.syms l.heap (loan_words l.rest);
  same : are_twins by_number (seen_loans l.heap l.loans) ≡ are_twins by_number (seen_loans l.heap l.rest);
}

abbrev pub decreases-loans : goal.decreases-loans
decreases-loans l = length l.rest
