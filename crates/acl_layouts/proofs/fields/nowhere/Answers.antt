use Rattle.std.proofs.Common.{refl}
use Rattle.acl_terms.specs.declared.stobj.Shape.TheVariants as shape
use Rattle.acl_worlds.specs.Contents.{seen_world}
use Rattle.acl_layouts.proofs.LaidLemmas.{nowhere_laid}
use Rattle.acl_layouts.proofs.fields.nowhere.Goals as goal

pub returns-clause-is : goal.returns-clause-is
returns-clause-is c = nowhere_laid (seen_world c.args._heap.now c.args._world.now) c.args._heap.now 0 (shape.Child c.args.stobj) c.args.stobj refl refl
