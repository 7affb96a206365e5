use Rattle.std.specs.Prelude.{◌≡◌, true, false, is_some}
use Rattle.std.proofs.Common.{rules}
use Rattle.model_expansion.specs.TypeTerms.{accepted_type}
use Rattle.acl_heap.specs.Objects.{object_of}
use Rattle.acl_layers.proofs.TypedLemmas.{the_bad, the_is}
use Rattle.acl_layers.proofs.typed.the.Goals as goal

pub returns-then-not-is_type : goal.returns-then-not-is_type
returns-then-not-is_type c =
    let e : is_some (accepted_type (object_of c.args.heap.now c.in-Some.written)) ≡ false = search rules in
    the_bad c.args._syms.now.symbols _ (object_of c.args.heap.now c.in-Some.form) _ c.in-Some.ensures.0 e

pub returns-in_ok-hidden_let-in-Some : goal.returns-in_ok-hidden_let-in-Some
returns-in_ok-hidden_let-in-Some c =
    let e : is_some (accepted_type (object_of c.args.heap.now c.in-Some.written)) ≡ true = search rules in
    let m = the_is c.args._syms.now.symbols _ (object_of c.args.heap.now c.in-Some.form) _ c.in-Some.ensures.0 e in
    search (rules, m)
