use Rattle.std.proofs.Common.{◌≡◌, ◌++◌, drop}
use Rattle.model_terms.specs.Classes.{stobjs}
use Rattle.acl_terms.specs.Forms.{numbers}
use Rattle.acl_terms.specs.Signatures.{seen_outs}
use Rattle.acl_outputs.proofs.instances.stobjs.Given as goal

abbrev pub invariant-loop-out : goal.invariant-loop-out
invariant-loop-out l = stobjs (seen_outs l.outs) ≡ numbers l.found ++ stobjs (seen_outs (drop l.out-index l.outs))
