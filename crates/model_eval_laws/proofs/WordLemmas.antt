-- The symbol that evaluation names by its number, by computing.
use Rattle.std.specs.Prelude.{refl}
use Rattle.model_symbols.specs.Opening.{opening, acl2_package, common_lisp_symbols, acl2_symbols, common_lisp_text, acl2_text}
use Rattle.model_eval_laws.specs.Words.{IsStobjLetWord}

pub is_stobj_let_word : IsStobjLetWord
unfolding opening acl2_package common_lisp_symbols acl2_symbols common_lisp_text acl2_text
is_stobj_let_word = record { word = refl }
