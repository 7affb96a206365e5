use Rattle.std.proofs.Common.{sym, subst}
use Rattle.acl_base.specs.declared.Word.{Word}
use Rattle.acl_heap.specs.Objects.{Denotes}
use Rattle.acl_pool.specs.Unpacking.{part_object}
use Rattle.acl_pool.proofs.UnpackLemmas.{small_denotes, symbol_denotes, no_bits, no_heap}
use Rattle.acl_pool.proofs.region.Region.leaf.Goals as goal

pub unreachable-requires : goal.unreachable-requires
unreachable-requires c = no_bits c.args.self.now c.args.part c.requires.shows c.in-Bits.is

pub unreachable-requires-in-Heap : goal.unreachable-requires-in-Heap
unreachable-requires-in-Heap c = no_heap c.args.self.now c.args.part c.requires.shows c.in-Heap.is

pub returns-in-Small-clause-ok : goal.returns-in-Small-clause-ok
returns-in-Small-clause-ok c = subst (λ (w : Word). Denotes c.args.heap.now w (part_object c.args.self.now c.args.part)) (sym c.word.ensures) (small_denotes c.args.heap.now c.args.self.now c.args.part c.requires.shows c.in-Small.is)

pub returns-in-Sym-clause-ok : goal.returns-in-Sym-clause-ok
returns-in-Sym-clause-ok c = subst (λ (w : Word). Denotes c.args.heap.now w (part_object c.args.self.now c.args.part)) (sym c.word-in-Sym.ensures) (symbol_denotes c.args.heap.now c.args.self.now c.args.part c.requires.shows c.in-Sym.is)
