use Rattle.model_symbols.proofs.TableLemmas.{Extends-then}
use Rattle.acl_expand_rows.proofs.world.row_world.Goals as goal

pub returns-in_err-put_functions-clause-grows : goal.returns-in_err-put_functions-clause-grows
returns-in_err-put_functions-clause-grows c = Extends-then c.made_names.ensures (Extends-then c.made_macro_names.ensures c.made_free_names.ensures)

pub returns-in_err-put-clause-grows : goal.returns-in_err-put-clause-grows
returns-in_err-put-clause-grows c = Extends-then c.made_names.ensures (Extends-then c.made_macro_names.ensures c.made_free_names.ensures)

pub returns-in_err-put_macros-clause-grows : goal.returns-in_err-put_macros-clause-grows
returns-in_err-put_macros-clause-grows c = Extends-then c.made_names.ensures (Extends-then c.made_macro_names.ensures c.made_free_names.ensures)

pub returns-in_err-put_free_macros-clause-grows : goal.returns-in_err-put_free_macros-clause-grows
returns-in_err-put_free_macros-clause-grows c = Extends-then c.made_names.ensures (Extends-then c.made_macro_names.ensures c.made_free_names.ensures)

pub returns-clause-grows : goal.returns-clause-grows
returns-clause-grows c = Extends-then c.made_names.ensures (Extends-then c.made_macro_names.ensures c.made_free_names.ensures)
