use Rattle.acl_code.specs.Laws.{TablesGrow, HeapsGrow, ConstantsStayKnown, AreFew}
use Rattle.acl_code.proofs.TableLemmas.{tree_later, tree_over_table, forest_kept, lies_later, lies_taken}
use Rattle.std.specs.Prelude.{refl, ◌∷◌, ◌++◌, []}
use Rattle.acl_code.proofs.ConstantLemmas.{known_nothing, known_put, known_taken, known_later, known_among_more, constants_stand}
use Rattle.acl_code.proofs.SizeLemmas.{few_slots, few_fit}

pub tables_grow : TablesGrow
tables_grow = record {
  tree = tree_later;
  over = tree_over_table;
}

pub heaps_grow : HeapsGrow
heaps_grow = record {
  trees = forest_kept;
  words = lies_later;
  cut = lies_taken;
}

pub constants_stay_known : ConstantsStayKnown
constants_stay_known = record {
  none = known_nothing;
  put = λ n h ts t k c. known_put n h ts (ts ++ t ∷ []) t refl k c;
  cut = known_taken;
  heap = known_later;
  symbols = known_among_more;
  words = constants_stand;
}

pub are_few : AreFew
are_few = record { slots = few_slots; fit = few_fit }
