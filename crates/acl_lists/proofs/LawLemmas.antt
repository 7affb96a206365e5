-- What is said of tables, as laws.
use Rattle.acl_lists.specs.Laws.{ListsStay}
use Rattle.acl_lists.proofs.TableLemmas.{list_later, grown_same, grown_then, list_over_table}
use Rattle.acl_lists.proofs.BuildLemmas.{map_later, all_later}

pub lists_stay : ListsStay
lists_stay = record { list = list_later; lists = map_later; within = all_later; same = grown_same; then = grown_then; over = list_over_table }
