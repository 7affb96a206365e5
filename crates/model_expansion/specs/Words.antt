-- The numbers of the symbols that forms are told by: their places in the table that every session begins with.
use Rattle.std.specs.Prelude.{◌≡◌, ℕ, List, [], ◌∷◌, map, codes}
use Rattle.model_symbols.specs.Symbols.{QualifiedName, symbol_at}
use Rattle.model_symbols.specs.Opening.{opening, words}
use Rattle.model_eval.specs.Evaluated.{stobj_let_word}

abbrev pub if_word : ℕ
if_word = 3

abbrev pub let_word : ℕ
let_word = 4

abbrev pub let_star_word : ℕ
let_star_word = 5

abbrev pub car_word : ℕ
car_word = 6

abbrev pub cdr_word : ℕ
cdr_word = 7

abbrev pub eql_word : ℕ
eql_word = 15

abbrev pub equal_word : ℕ
equal_word = 16

abbrev pub symbolp_word : ℕ
symbolp_word = 17

abbrev pub stringp_word : ℕ
stringp_word = 18

abbrev pub integerp_word : ℕ
integerp_word = 19

abbrev pub below_word : ℕ
below_word = 20

abbrev pub at_most_word : ℕ
at_most_word = 23

abbrev pub above_word : ℕ
above_word = 24

abbrev pub at_least_word : ℕ
at_least_word = 25

abbrev pub plus_word : ℕ
plus_word = 26

abbrev pub times_word : ℕ
times_word = 27

abbrev pub minus_word : ℕ
minus_word = 28

abbrev pub add_one_word : ℕ
add_one_word = 29

abbrev pub subtract_one_word : ℕ
subtract_one_word = 30

abbrev pub logand_word : ℕ
logand_word = 41

abbrev pub logior_word : ℕ
logior_word = 42

abbrev pub logxor_word : ℕ
logxor_word = 43

abbrev pub nth_word : ℕ
nth_word = 46

abbrev pub list_word : ℕ
list_word = 49

abbrev pub list_star_word : ℕ
list_star_word = 50

abbrev pub append_word : ℕ
append_word = 51

abbrev pub assoc_word : ℕ
assoc_word = 53

abbrev pub cond_word : ℕ
cond_word = 56

abbrev pub case_word : ℕ
case_word = 57

abbrev pub otherwise_word : ℕ
otherwise_word = 58

abbrev pub the_word : ℕ
the_word = 59

abbrev pub first_word : ℕ
first_word = 60

abbrev pub second_word : ℕ
second_word = 61

abbrev pub third_word : ℕ
third_word = 62

abbrev pub fourth_word : ℕ
fourth_word = 63

abbrev pub fifth_word : ℕ
fifth_word = 64

abbrev pub rest_word : ℕ
rest_word = 65

abbrev pub caar_word : ℕ
caar_word = 66

abbrev pub cddddr_word : ℕ
cddddr_word = 93

abbrev pub declare_word : ℕ
declare_word = 94

abbrev pub type_word : ℕ
type_word = 95

abbrev pub ignore_word : ℕ
ignore_word = 96

abbrev pub ignorable_word : ℕ
ignorable_word = 97

abbrev pub optimize_word : ℕ
optimize_word = 98

abbrev pub defun_word : ℕ
defun_word = 99

abbrev pub defmacro_word : ℕ
defmacro_word = 100

abbrev pub in_package_word : ℕ
in_package_word = 101

abbrev pub progn_word : ℕ
progn_word = 102

abbrev pub satisfies_word : ℕ
satisfies_word = 105

abbrev pub array_word : ℕ
array_word = 113

abbrev pub hash_table_word : ℕ
hash_table_word = 114

abbrev pub eq_word : ℕ
eq_word = 14

abbrev pub optional_word : ℕ
optional_word = 115

abbrev pub rest_mark_word : ℕ
rest_mark_word = 116

abbrev pub body_word : ℕ
body_word = 117

abbrev pub key_word : ℕ
key_word = 118

abbrev pub mv_word : ℕ
mv_word = 119

abbrev pub mv_let_word : ℕ
mv_let_word = 120

abbrev pub with_local_word : ℕ
with_local_word = 122

abbrev pub must_be_equal_word : ℕ
must_be_equal_word = 123

abbrev pub mbe_word : ℕ
mbe_word = 124

abbrev pub mbt_word : ℕ
mbt_word = 125

abbrev pub prog2_word : ℕ
prog2_word = 126

abbrev pub the_check_word : ℕ
the_check_word = 127

abbrev pub binary_plus_word : ℕ
binary_plus_word = 128

abbrev pub binary_times_word : ℕ
binary_times_word = 129

abbrev pub unary_minus_word : ℕ
unary_minus_word = 130

abbrev pub binary_logand_word : ℕ
binary_logand_word = 131

abbrev pub binary_logior_word : ℕ
binary_logior_word = 132

abbrev pub binary_logxor_word : ℕ
binary_logxor_word = 133

abbrev pub booleanp_word : ℕ
booleanp_word = 140

abbrev pub binary_append_word : ℕ
binary_append_word = 144

abbrev pub member_equal_word : ℕ
member_equal_word = 146

abbrev pub member_eq_word : ℕ
member_eq_word = 147

abbrev pub assoc_equal_word : ℕ
assoc_equal_word = 148

abbrev pub assoc_eq_word : ℕ
assoc_eq_word = 149

abbrev pub union_equal_word : ℕ
union_equal_word = 150

abbrev pub union_eq_word : ℕ
union_eq_word = 151

abbrev pub implies_word : ℕ
implies_word = 155

abbrev pub xargs_word : ℕ
xargs_word = 157

abbrev pub defconst_word : ℕ
defconst_word = 158

abbrev pub defpkg_word : ℕ
defpkg_word = 159

abbrev pub defund_word : ℕ
defund_word = 160

abbrev pub defun_nx_word : ℕ
defun_nx_word = 161

abbrev pub mutual_recursion_word : ℕ
mutual_recursion_word = 162

abbrev pub defstobj_word : ℕ
defstobj_word = 163

abbrev pub defabsstobj_word : ℕ
defabsstobj_word = 164

abbrev pub exports_word : ℕ
exports_word = 165

abbrev pub main_symbols_word : ℕ
main_symbols_word = 166

abbrev pub defthm_word : ℕ
defthm_word = 167

abbrev pub last_skipped_word : ℕ
last_skipped_word = 185

abbrev pub include_book_word : ℕ
include_book_word = 186

abbrev pub cw_word : ℕ
cw_word = 194

abbrev pub hidden_variable_word : ℕ
hidden_variable_word = 195

-- ---- that each is the number of its name

unfoldable pub numbered : List ℕ
numbered =
    if_word ∷ let_word ∷ let_star_word ∷ car_word ∷ cdr_word ∷ eql_word ∷ equal_word ∷ symbolp_word ∷ stringp_word ∷ integerp_word ∷ below_word ∷ at_most_word ∷ above_word ∷ at_least_word ∷ plus_word ∷ times_word ∷ minus_word ∷ add_one_word ∷ subtract_one_word ∷ logand_word ∷ logior_word ∷ logxor_word ∷ nth_word ∷ list_word ∷ list_star_word ∷ append_word ∷ assoc_word ∷ cond_word ∷ case_word ∷ otherwise_word ∷ the_word ∷ first_word ∷ second_word ∷ third_word ∷ fourth_word ∷ fifth_word ∷ rest_word ∷ caar_word ∷ cddddr_word ∷ declare_word ∷ type_word ∷ ignore_word ∷ ignorable_word ∷ optimize_word ∷ defun_word ∷ defmacro_word ∷ in_package_word ∷ progn_word ∷ satisfies_word ∷ array_word ∷ hash_table_word ∷ eq_word ∷ optional_word ∷ rest_mark_word ∷ body_word ∷ key_word ∷ mv_word ∷ mv_let_word ∷ stobj_let_word ∷ with_local_word ∷ must_be_equal_word ∷ mbe_word ∷ mbt_word ∷ prog2_word ∷ the_check_word ∷ binary_plus_word ∷ binary_times_word ∷ unary_minus_word ∷ binary_logand_word ∷ binary_logior_word ∷ binary_logxor_word ∷ booleanp_word ∷ binary_append_word ∷ member_equal_word ∷ member_eq_word ∷ assoc_equal_word ∷ assoc_eq_word ∷ union_equal_word ∷ union_eq_word ∷ implies_word ∷ xargs_word ∷ defconst_word ∷ defpkg_word ∷ defund_word ∷ defun_nx_word ∷ mutual_recursion_word ∷ defstobj_word ∷ defabsstobj_word ∷ exports_word ∷ main_symbols_word ∷ defthm_word ∷ last_skipped_word ∷ include_book_word ∷ cw_word ∷ hidden_variable_word ∷ []

unfoldable pub numbered_names : List ℕ
numbered_names = codes "IF LET LET* CAR CDR EQL EQUAL SYMBOLP STRINGP INTEGERP < <= > >= + * - 1+ 1- LOGAND LOGIOR LOGXOR NTH LIST LIST* APPEND ASSOC COND CASE OTHERWISE THE FIRST SECOND THIRD FOURTH FIFTH REST CAAR CDDDDR DECLARE TYPE IGNORE IGNORABLE OPTIMIZE DEFUN DEFMACRO IN-PACKAGE PROGN SATISFIES ARRAY HASH-TABLE EQ &OPTIONAL &REST &BODY &KEY MV MV-LET STOBJ-LET WITH-LOCAL-STOBJ MUST-BE-EQUAL MBE MBT PROG2$ THE-CHECK BINARY-+ BINARY-* UNARY-- BINARY-LOGAND BINARY-LOGIOR BINARY-LOGXOR BOOLEANP BINARY-APPEND MEMBER-EQUAL MEMBER-EQ ASSOC-EQUAL ASSOC-EQ UNION-EQUAL UNION-EQ IMPLIES XARGS DEFCONST DEFPKG DEFUND DEFUN-NX MUTUAL-RECURSION DEFSTOBJ DEFABSSTOBJ *ACL2-EXPORTS* *COMMON-LISP-SYMBOLS-FROM-MAIN-LISP-PACKAGE* DEFTHM SET-BOGUS-MUTUAL-RECURSION-OK INCLUDE-BOOK CW V"

-- the names of the numbered symbols
unfoldable pub names_at_numbers : List (List ℕ)
names_at_numbers = map (λ n. (symbol_at opening.symbols n).name) numbered

pub record AreNumbered : Type 0 where
  pub all : names_at_numbers ≡ words numbered_names
