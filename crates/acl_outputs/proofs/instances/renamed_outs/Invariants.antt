use Rattle.std.specs.Prelude.{map}
use Rattle.std.specs.List.{zip}
use Rattle.std.proofs.Common.{◌≡◌, ◌++◌, drop}
use Rattle.model_terms.specs.Classes.{renamed_out}
use Rattle.acl_terms.specs.Forms.{numbers}
use Rattle.acl_terms.specs.Signatures.{seen_outs}
use Rattle.acl_outputs.proofs.instances.renamed_outs.Given as goal

abbrev pub invariant-loop-out : goal.invariant-loop-out
invariant-loop-out l =
    map (renamed_out (zip (numbers l.formals) (numbers l.actuals))) (seen_outs l.outs)
    ≡ seen_outs l.renamed ++ map (renamed_out (zip (numbers l.formals) (numbers l.actuals))) (seen_outs (drop l.out-index l.outs))
