use Rattle.std.proofs.Common.{rules, ◌≡◌, None}
use Rattle.model_stobjs.specs.Heads.{bad_name, name_in_use}
use Rattle.acl_worlds.specs.Contents.{seen_world}
use Rattle.acl_drafts.specs.Names.{names_at, numbers_at}
use Rattle.acl_drafts.proofs.RefusalLemmas.{early_formals}
use Rattle.acl_drafts.proofs.refusals.early_refusal.Goals as goal

pub returns-in-Ok-clause-is : goal.returns-in-Ok-clause-is
returns-in-Ok-clause-is c =
    let good : bad_name c.args.syms.now.symbols (names_at c.args.heap.now c.args.functions.now) ≡ None = search rules in
    let unused : name_in_use (seen_world c.args.heap.now c.args.world.now) (numbers_at c.args.heap.now c.args.functions.now) ≡ None = search rules in
    early_formals (seen_world c.args.heap.now c.args.world.now) c.args.syms.now.symbols c.args.heap.now c.args.functions.now c.args.head.0 c.in-Ok.refusal good unused c.in-Ok.ensures.is
