-- The numbers of the opening session, computed.
use Rattle.std.specs.Prelude.{refl}
use Rattle.model_symbols.specs.Opening.{common_lisp_text, acl2_text, common_lisp_symbols, acl2_symbols, acl2_package, opening}
use Rattle.model_prims.specs.Rows.{table}
use Rattle.model_books.specs.Opening.{IsOpening, named_primitives, row_symbols, named_exports, named_main_symbols}

pub opening_numbers : IsOpening
unfolding named_primitives row_symbols named_exports named_main_symbols table common_lisp_text acl2_text common_lisp_symbols acl2_symbols acl2_package opening
opening_numbers = record { primitives = refl; exports = refl; main_symbols = refl }
