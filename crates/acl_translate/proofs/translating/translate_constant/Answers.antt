use Rattle.std.proofs.Common.{[]}
use Rattle.acl_terms.specs.Forms.{seen_core}
use Rattle.acl_worlds.specs.Contents.{seen_world}
use Rattle.acl_translate.proofs.FunctionLemmas.{constant_there}
use Rattle.acl_translate.proofs.translating.translate_constant.Goals as goal

pub build_tree-requires-clause-tree : goal.build_tree-requires-clause-tree
build_tree-requires-clause-tree c =
    constant_there (seen_world c.args.heap.now c.args.world.now) [] (seen_core c.args.heap.now c.args.core.now) c.in-Ok.ensures.ok c.requires.stand
