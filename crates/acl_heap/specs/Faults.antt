-- When a heap refuses an object of a weight.
use Rattle.std.specs.Prelude.{◌≡◌, ℕ, ◌≤◌, ◌<◌}
use Rattle.model_objects.specs.Object.{max_weight}
use Rattle.acl_heap.specs.declared.HeapFault.{HeapFault}
use Rattle.acl_heap.specs.declared.HeapFault.TheVariants.{TooLarge, Memory}

abbrev pub RefusedFor : ℕ → HeapFault → Type 0
RefusedFor n (TooLarge weight) = (weight ≡ n) × (max_weight < n)
RefusedFor n Memory = n ≤ max_weight
