use Rattle.std.proofs.Common.{◌≡◌, ◌≤◌, None, length, IfOk, IfErr, ℕ}
use Rattle.model_expansion.specs.Words.{defconst_word}
use Rattle.model_expansion.specs.Forms.{symbol_or_nil}
use Rattle.acl_heap.specs.Objects.{object_of, Lies}
use Rattle.acl_worlds.specs.Contents.{seen_world, number_of}
use Rattle.acl_constants.specs.Drafts.{name_refusal}
use Rattle.acl_constants.proofs.ReadingLemmas.{fresh_name}
use Rattle.acl_constants.proofs.reading.read_constant.Goals as goal

pub returns-in-None-refusal-clause-fresh : goal.returns-in-None-refusal-clause-fresh
returns-in-None-refusal-clause-fresh c =
    let h = c.args.heap.now in
    let w = c.args.world.now in
    let symbols = c.args.syms.now.symbols in
    let free : name_refusal (seen_world h w) symbols (object_of h c.in-Some.name) ≡ None = rw c.in-None-refusal.is at c.in-Ok.ensures.is in
    fresh_name h w symbols (object_of h c.in-Some.name) c.symbol_or_nil.result free c.symbol_or_nil.ensures
