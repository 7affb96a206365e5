-- The laws of objects.
use Rattle.std.specs.Prelude.{◌<◌}
use Rattle.std.proofs.Common.{arith}
use Rattle.std.specs.Ordering.{nat_cmp}
use Rattle.std.specs.Cmp.{nat_cmp_total}
use Rattle.std.proofs.lemmas.Map.Lookups.{exact_unsigned}
use Rattle.model_objects.specs.Object.{Object, Integer, Symbol, Text, Pair, weight}
use Rattle.model_objects.proofs.Ordered.{object_total, object_exact}
use Rattle.model_objects.proofs.NamedLemmas.{weight-named, cells-named}
use Rattle.model_objects.specs.Laws.{IsOrder, KeepsSize}

pub weight-positive : {S : Type 0} (o : Object S) → 0 < weight o
weight-positive (Integer n) = omega arith
weight-positive (Symbol s) = omega arith
weight-positive (Text bytes) = omega arith
weight-positive (Pair a d) = omega arith

pub is_order : IsOrder
is_order = record { total = object_total nat_cmp nat_cmp_total; exact = object_exact nat_cmp exact_unsigned }

pub keeps_size : KeepsSize
keeps_size = record { some = weight-positive; weight = weight-named; cells = cells-named }
