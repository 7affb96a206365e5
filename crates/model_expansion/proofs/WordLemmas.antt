-- The numbers of words, computed.
use Rattle.std.specs.Prelude.{refl}
use Rattle.model_symbols.specs.Opening.{common_lisp_text, acl2_text, common_lisp_symbols, acl2_symbols, acl2_package, opening}
use Rattle.model_expansion.specs.Words.{AreNumbered, numbered, numbered_names, names_at_numbers}

pub numbered_words : AreNumbered
unfolding numbered numbered_names names_at_numbers common_lisp_text acl2_text common_lisp_symbols acl2_symbols acl2_package opening
numbered_words = record { all = refl }
