use Rattle.std.specs.Prelude.{ℕ, map}
use Rattle.std.proofs.Common.{◌≡◌, ◌++◌, drop}
use Rattle.acl_code.specs.Constants.{ConstantsAreKnown}
use Rattle.acl_code.specs.Tables.{forest, tree_at, AllIn, Grown, TermsLie}
use Rattle.acl_code.proofs.parts.put_parts.Given as goal

abbrev pub invariant-loop-part : goal.invariant-loop-part
invariant-loop-part l =
    (forest l.heap l.terms ++ map (tree_at l.heap l.fn.terms) (drop l.part-index l.parts) ≡ forest l.heap l.fn.terms ++ map (tree_at l.heap l.fn.terms) l.parts)
    × AllIn l.fn.terms (drop l.part-index l.parts) × Grown l.fn.terms l.terms × TermsLie l.heap l.terms
    × ((n : ℕ) → ConstantsAreKnown n l.heap l.fn.terms → ConstantsAreKnown n l.heap l.terms)
