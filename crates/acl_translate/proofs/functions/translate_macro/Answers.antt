use Rattle.model_terms.specs.Faults.{formal_names}
use Rattle.acl_terms.specs.Definitions.{seen_formals}
use Rattle.acl_terms.specs.Forms.{seen_core}
use Rattle.acl_worlds.specs.Contents.{seen_world}
use Rattle.acl_translate.proofs.FunctionLemmas.{macro_there}
use Rattle.acl_translate.proofs.functions.translate_macro.Goals as goal

pub build_macro-requires-clause-tree : goal.build_macro-requires-clause-tree
build_macro-requires-clause-tree c =
    macro_there (seen_world c.args.heap.now c.args.world.now) (formal_names (seen_formals c.args.heap.now c.args.formals.now)) (seen_formals c.args.heap.now c.args.formals.now)
    (seen_core c.args.heap.now c.args.body.now) c.in-Ok.ensures.ok c.requires.stand
