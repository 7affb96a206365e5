-- The heads of commands, and which names may be given (ACL2's manual, topic NAME).
use Rattle.std.specs.Prelude.{ℕ, List, [], ◌∷◌, Bool, false, not, ◌&&◌, ◌||◌, nat_eq, nat_le, Option, Some, None, is_some, if◌then◌else◌}
use Rattle.std.specs.List.{find}
use Rattle.model_objects.specs.Object.{Object, Integer, Symbol, Text, Pair}
use Rattle.model_symbols.specs.Symbols.{QualifiedName}
use Rattle.model_terms.specs.Worlds.{World, definition}
use Rattle.model_expansion.specs.Words.{in_package_word, defpkg_word, defconst_word, defmacro_word, defun_word, defund_word, defun_nx_word, mutual_recursion_word, defstobj_word, defabsstobj_word, defthm_word, last_skipped_word, include_book_word, cw_word, progn_word}
use Rattle.model_expansion.specs.Forms.{may_be_defined}
use Rattle.model_expansion.specs.Faults.{Refusal, NameInUse, BadName}
use Rattle.model_expansion.specs.Layers.{core_row, macro_row}
use Rattle.model_stobjs.specs.Answers.{first_given}
use Rattle.model_terms.specs.Classes.{has}

abbrev pub event_heads : List ℕ
event_heads =
    in_package_word ∷ defpkg_word ∷ defconst_word ∷ defmacro_word ∷ defun_word ∷ defund_word ∷ defun_nx_word ∷ mutual_recursion_word
    ∷ defstobj_word ∷ defabsstobj_word ∷ []

-- the skipped heads stand one after another in the table of symbols
abbrev pub is_skipped : ℕ → Bool
is_skipped s = nat_le defthm_word s && nat_le s last_skipped_word

abbrev pub is_unsupported : ℕ → Bool
is_unsupported s = nat_eq s progn_word || (nat_le include_book_word s && nat_le s cw_word)

abbrev pub is_head : ℕ → Bool
is_head s = has event_heads s || (is_skipped s || is_unsupported s)

-- a head, a core form or a built-in macro
abbrev pub is_reserved : ℕ → Bool
is_reserved s = is_head s || (is_some (core_row s) || is_some (macro_row s))

abbrev pub is_in_use : World → List ℕ → ℕ → Bool
is_in_use w others s = is_some (definition w s) || (is_reserved s || has others s)

-- the first name that is in use, or that comes again
unfoldable pub name_in_use : World → List ℕ → Option Refusal
name_in_use w [] = None
name_in_use w (s ∷ ss) = in_use_or (is_in_use w ss s) (name_in_use w ss) where
  in_use_or : Bool → Option Refusal → Option Refusal
  in_use_or b later = if b then Some (NameInUse s) else later

-- ---- names of functions, macros and stobjs

module _ (symbols : List QualifiedName) where
  abbrev pub is_good_name : Object ℕ → Bool
  is_good_name (Integer n) = false
  is_good_name (Symbol s) = may_be_defined symbols s
  is_good_name (Text bytes) = false
  is_good_name (Pair a d) = false

  abbrev pub bad_name_at : Object ℕ → Option Refusal
  bad_name_at o = if is_good_name o then None else Some (BadName o)

  abbrev pub bad_name : List (Object ℕ) → Option Refusal
  bad_name os = first_given bad_name_at os
