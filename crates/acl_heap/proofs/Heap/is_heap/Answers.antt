use Rattle.std.specs.Prelude.{[]}
use Rattle.std.proofs.Common.{arith, subst}
use Rattle.acl_heap.specs.Objects.{Objects, IsHeap}
use Rattle.acl_heap.proofs.CellLemmas.{IsHeap-objects_from}
use Rattle.acl_heap.proofs.Heap.is_heap.Goals as goal

pub returns : goal.returns
returns c =
    subst (λ (h : Objects). IsHeap h) c.self.view_is
    (IsHeap-objects_from [] c.self.inside.cells.items c.self.invariant (record { cell = λ n l. absurd (omega arith) }))
