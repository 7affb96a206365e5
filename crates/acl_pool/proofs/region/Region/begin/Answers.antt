use Rattle.std.specs.Prelude.{◌≡◌, true, FitsSigned}
use Rattle.std.specs.Int.{w64, w128}
use Rattle.std.proofs.Common.{rules, sym, ap, subst, ◌∙◌, to_z, of_z}
use Rattle.acl_base.specs.declared.Word.{Word}
use Rattle.model_objects.specs.Object.{fits_64}
use Rattle.acl_heap.specs.Objects.{object_of}
use Rattle.acl_pool.specs.Trees.{part_of}
use Rattle.acl_pool.specs.Copying.{Starts}
use Rattle.acl_pool.proofs.BeginLemmas.{starts_small, starts_symbol}
use Rattle.acl_pool.proofs.region.Region.begin.Goals as goal

pub returns-in-Small : goal.returns-in-Small
returns-in-Small c =
    let n = c.in-Small.n in
    let back : to_z w64 (of_z w64 n) ≡ n = search rules in
    let small : fits_64 n ≡ true = ap fits_64 (sym back) ∙ c.is_small.ensures.small in
    let narrow : FitsSigned w128 n = subst (FitsSigned w128) back c.is_small.ensures.narrow in
    subst (λ (x : Word). Starts c.args.heap.now c.args.self.now c.args.self.now c.args.waiting.now c.args.waiting.now c.of.result (object_of c.args.heap.now x)) (sym c.in-Small.is)
    (starts_small c.args.heap.now c.args.self.now c.args.waiting.now n c.of.result small c.of.ensures.part (c.of.ensures.back) narrow)

pub returns-in-Sym : goal.returns-in-Sym
returns-in-Sym c =
    subst (λ (x : Word). Starts c.args.heap.now c.args.self.now c.args.self.now c.args.waiting.now c.args.waiting.now c.of-in-Sym.result (object_of c.args.heap.now x)) (sym c.in-Sym.is)
    (starts_symbol c.args.heap.now c.args.self.now c.args.waiting.now c.in-Sym.field-0 c.of-in-Sym.result (c.of-in-Sym.ensures.part ∙ ap part_of c.in-Sym.is) (c.of-in-Sym.ensures.back ∙ c.in-Sym.is))
