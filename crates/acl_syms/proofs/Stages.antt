-- The opening table, step by step, computed.
use Rattle.std.specs.Prelude.{◌≡◌, ℕ, ◌<◌, ◌≤◌, ◌+◌, List, [], ◌∷◌, ◌++◌, length, map, None, true, refl}
use Rattle.std.proofs.Common.{sym, ap, ◌∙◌, arith, subst, length-append}
use Rattle.model_symbols.specs.Symbols.{QualifiedName, Table, symbol_in, all_interned, import_clash, most_symbols}
use Rattle.model_symbols.specs.Opening.{acl2_package, words, common_lisp_text, acl2_text, common_lisp_symbols, acl2_symbols, symbols_of, common_lisp, keyword, acl2, hidden, without_imports, opening}
use Rattle.model_symbols.specs.Tables.{with_package, symbols_at}
use Rattle.acl_base.specs.declared.SymId.{SymId}
use Rattle.acl_syms.specs.Answers.{numbers, AreKnown, package_with, CanTake}
use Rattle.acl_syms.specs.Opening.{with_all, names_in, lisp_table, full_packages, AreFirst}
use Rattle.acl_syms.proofs.OpeningLemmas.{symbols_at_first, are_others, own_names}

-- ---- the symbols of `COMMON-LISP`

lisp_apart : all_interned [] common_lisp_symbols ≡ common_lisp_symbols
unfolding common_lisp_symbols common_lisp_text
lisp_apart = refl

pub lisp_stage : (names : List (List ℕ)) → names ≡ words common_lisp_text
    → with_all (record { packages = without_imports common_lisp ∷ without_imports keyword ∷ []; symbols = [] }) (names_in (record { packages = without_imports common_lisp ∷ without_imports keyword ∷ []; symbols = [] }) 0 names) ≡ lisp_table
unfolding lisp_table common_lisp_symbols
lisp_stage names e =
    ap (λ (ss : List QualifiedName). record { packages = without_imports common_lisp ∷ without_imports keyword ∷ []; symbols = all_interned [] ss }) (ap (symbols_of common_lisp) e)
    ∙ ap (λ (ss : List QualifiedName). record { packages = without_imports common_lisp ∷ without_imports keyword ∷ []; symbols = ss }) lisp_apart

-- ---- the packages

lisp_count : length common_lisp_symbols ≡ 119
unfolding common_lisp_symbols common_lisp_text
lisp_count = refl

no_clash : import_clash common_lisp_symbols ≡ None
unfolding common_lisp_symbols common_lisp_text
no_clash = refl

all_first : (ids : List SymId) → AreFirst 119 ids → symbols_at common_lisp_symbols (numbers ids) ≡ common_lisp_symbols
all_first ids f = symbols_at_first common_lisp_symbols ids (subst (λ (n : ℕ). AreFirst n ids) (sym lisp_count) f)

pub first_known : (ids : List SymId) → AreFirst 119 ids → AreKnown lisp_table.symbols ids
unfolding lisp_table
first_known ids f = λ k d l. omega (arith, f.each k d l, f.many, lisp_count)

pub can_acl2 : (ids : List SymId) → AreFirst 119 ids → CanTake lisp_table acl2 ids
unfolding lisp_table
can_acl2 ids f = record { fresh = refl; no_clash = ap import_clash (all_first ids f) ∙ no_clash }

pub can_hidden : (ids : List SymId) → CanTake (with_package lisp_table (package_with lisp_table.symbols acl2 ids)) hidden []
unfolding lisp_table
can_hidden ids = record { fresh = refl; no_clash = refl }

pub packages_stage : (ids : List SymId) → AreFirst 119 ids → with_package (with_package lisp_table (package_with lisp_table.symbols acl2 ids)) (package_with lisp_table.symbols hidden []) ≡ full_packages
unfolding lisp_table full_packages
packages_stage ids f = ap (λ (ss : List QualifiedName). record { packages = without_imports common_lisp ∷ without_imports keyword ∷ record { name = acl2; imports = ss } ∷ without_imports hidden ∷ []; symbols = common_lisp_symbols }) (all_first ids f)

-- ---- the symbols of `ACL2`, and the hidden one

-- with all symbols but the hidden one
unfoldable pub acl2_table : Table
acl2_table = record { packages = full_packages.packages; symbols = common_lisp_symbols ++ acl2_symbols }

none_imported : are_others (words common_lisp_text) (words acl2_text) ≡ true
unfolding common_lisp_text acl2_text
none_imported = refl

acl2_apart : all_interned common_lisp_symbols acl2_symbols ≡ common_lisp_symbols ++ acl2_symbols
unfolding common_lisp_symbols common_lisp_text acl2_symbols acl2_text
acl2_apart = refl

acl2_own : (names : List (List ℕ)) → names ≡ words acl2_text → names_in full_packages 2 names ≡ acl2_symbols
unfolding full_packages common_lisp_symbols acl2_symbols
acl2_own names e = ap (map (symbol_in (record { name = acl2; imports = symbols_of common_lisp (words common_lisp_text) }))) e ∙ own_names acl2 common_lisp (words common_lisp_text) (words acl2_text) none_imported

pub acl2_stage : (names : List (List ℕ)) → names ≡ words acl2_text → with_all full_packages (names_in full_packages 2 names) ≡ acl2_table
unfolding acl2_table full_packages
acl2_stage names e =
    ap (λ (ss : List QualifiedName). record { packages = full_packages.packages; symbols = all_interned common_lisp_symbols ss }) (acl2_own names e)
    ∙ ap (λ (ss : List QualifiedName). record { packages = full_packages.packages; symbols = ss }) acl2_apart

pub hidden_stage : with_all acl2_table (names_in acl2_table 3 ((86 ∷ []) ∷ [])) ≡ opening
unfolding acl2_table full_packages opening acl2_package common_lisp_symbols common_lisp_text acl2_symbols acl2_text
hidden_stage = refl

acl2_count : length acl2_symbols ≡ 76
unfolding acl2_symbols acl2_text
acl2_count = refl

pub full_many : (2 < length full_packages.packages) × (length full_packages.symbols + 76 ≤ most_symbols)
unfolding full_packages
full_many = (omega arith, omega (arith, lisp_count))

pub acl2_many : (3 < length acl2_table.packages) × (length acl2_table.symbols + 1 ≤ most_symbols)
unfolding acl2_table full_packages
acl2_many = (omega arith, omega (arith, lisp_count, acl2_count, length-append common_lisp_symbols acl2_symbols))
