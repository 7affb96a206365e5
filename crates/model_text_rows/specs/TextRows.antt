-- What stands first in some texts, and the text of some objects.
use Rattle.std.specs.Prelude.{◌≡◌, ℕ, zero, suc, List, [], ◌∷◌, ◌++◌, replicate, true, false, codes, pos, negsuc}
use Rattle.model_objects.specs.Object.{Integer, Symbol, Text, Pair, list_onto}
use Rattle.model_symbols.specs.Symbols.{QualifiedName, Package, is_one_too_many}
use Rattle.model_symbols.specs.Opening.{common_lisp, keyword, acl2, hidden, without_imports, nil_name, quote_name}
use Rattle.model_text.specs.Token.{Form}
use Rattle.model_text.specs.Backquote.{nil_form, quote_form, cons_form, append_form}
use Rattle.model_text.specs.Parts.{Part, Opened, Quoted}
use Rattle.model_text.specs.Next.{Free, run, Step, Gives, Fails, whole, next_at, Next, Stands, Nothing, End, Faulty}
use Rattle.model_text.specs.Text.{text}
use Rattle.model_text.specs.declared.TextCause.TheVariants.{StrayClose, BadDot, CommaOutside, BadToken, BadByte, IntegerTooWide, TooDeep, UnknownPackage, TooManySymbols, FormTooLong, TooLarge, Unfinished, InputTooLong}

-- the opening packages, `ACL2` with two imports
abbrev pub few_packages : List Package
few_packages = without_imports common_lisp ∷ without_imports keyword ∷ record { name = acl2; imports = nil_name ∷ quote_name ∷ [] } ∷ without_imports hidden ∷ []

abbrev pub own : List ℕ → QualifiedName
own name = record { home = acl2; name = name }

abbrev pub key : List ℕ → QualifiedName
key name = record { home = keyword; name = name }

-- what stands first in `ACL2`, where no symbol is known and more may come
abbrev pub read : List ℕ → Next
read bytes = next_at few_packages 2 [] 0 bytes false

-- and where the input has ended
abbrev pub ended : List ℕ → Next
ended bytes = next_at few_packages 2 [] 0 bytes true

-- and where the bytes begin at this offset
abbrev pub read_at : ℕ → List ℕ → Next
read_at offset bytes = next_at few_packages 2 [] offset bytes false

-- what more bytes lead to, of a form that began at the offset 0 and has so many bytes, where this part is open
abbrev pub goes_on_from : Part → ℕ → List ℕ → Step
goes_on_from part n bytes = run (record { all = few_packages; current = 2 }) (record { parts = part ∷ []; inside = Free; token = []; at = n; first = 0; symbols = [] }) bytes

-- a list of lists, of weight 2^(n + 1) - 1
abbrev pub doubled : ℕ → Form
doubled zero = nil_form
doubled (suc n) = Pair (doubled n) (doubled n)

abbrev pub long_form : ℕ → List ℕ → Step
long_form n bytes = goes_on_from (Opened []) n bytes

abbrev pub long_quote : ℕ → List ℕ → Step
long_quote n bytes = goes_on_from Quoted n bytes

-- Integers in four bases, with and without sign, up to both ends of 128 bits.
pub record Integers : Type 0 where
  pub plain : read (codes "12 ") ≡ Stands (Integer (pos 12)) 2 []
  pub dot_behind : read (codes "+7. ") ≡ Stands (Integer (pos 7)) 3 []
  pub minus_nothing : read (codes "-0 ") ≡ Stands (Integer (pos 0)) 2 []
  pub binary : read (codes "#b-101 ") ≡ Stands (Integer (negsuc 4)) 6 []
  pub octal : read (codes "#O17 ") ≡ Stands (Integer (pos 15)) 4 []
  pub hexadecimal : read (codes "#x+fF ") ≡ Stands (Integer (pos 255)) 5 []
  pub most : read (codes "170141183460469231731687303715884105727 ") ≡ Stands (Integer (pos 170141183460469231731687303715884105727)) 39 []
  pub least : read (codes "-170141183460469231731687303715884105728 ") ≡ Stands (Integer (negsuc 170141183460469231731687303715884105727)) 40 []
  pub above : read (codes "170141183460469231731687303715884105728 ") ≡ Faulty IntegerTooWide 0
  pub below : read (codes "(-170141183460469231731687303715884105729)") ≡ Faulty IntegerTooWide 1
  pub wide_hexadecimal : read (codes "#x80000000000000000000000000000000 ") ≡ Faulty IntegerTooWide 0
  pub at_the_end : ended (codes "12") ≡ Stands (Integer (pos 12)) 2 []
  pub not_yet : read (codes "12") ≡ Nothing

-- Symbols: raised letters, signs, imports, keywords, packages and bars.
pub record Symbols : Type 0 where
  pub raised : read (codes "foo ") ≡ Stands (Symbol (own (codes "FOO"))) 3 (own (codes "FOO") ∷ [])
  pub sign_behind : read (codes "1+ ") ≡ Stands (Symbol (own (codes "1+"))) 2 (own (codes "1+") ∷ [])
  pub sign_and_dot : read (codes "+. ") ≡ Stands (Symbol (own (codes "+."))) 2 (own (codes "+.") ∷ [])
  pub no_exponent : read (codes "1e ") ≡ Stands (Symbol (own (codes "1E"))) 2 (own (codes "1E") ∷ [])
  pub no_fraction : read (codes "1/ ") ≡ Stands (Symbol (own (codes "1/"))) 2 (own (codes "1/") ∷ [])
  pub dot_first : read (codes ".a ") ≡ Stands (Symbol (own (codes ".A"))) 2 (own (codes ".A") ∷ [])
  pub imported : read (codes "nil ") ≡ Stands nil_form 3 (nil_name ∷ [])
  pub prefixed_import : read (codes "acl2::nil ") ≡ Stands nil_form 9 (nil_name ∷ [])
  pub other_package : read (codes "common-lisp::car ") ≡ Stands (Symbol (record { home = common_lisp; name = codes "CAR" })) 16 (record { home = common_lisp; name = codes "CAR" } ∷ [])
  pub keyword : read (codes ":key ") ≡ Stands (Symbol (key (codes "KEY"))) 4 (key (codes "KEY") ∷ [])
  pub known : read (codes "(a b A)") ≡ Stands (list_onto ((Symbol (own (codes "A"))) ∷ (Symbol (own (codes "B"))) ∷ (Symbol (own (codes "A"))) ∷ []) nil_form) 7 (own (codes "A") ∷ own (codes "B") ∷ [])

-- Bytes between bars are taken as they are, and a part that is two bars is there and empty.
pub record Bars : Type 0 where
  pub kept : read (codes "|a B| ") ≡ Stands (Symbol (own (codes "a B"))) 5 (own (codes "a B") ∷ [])
  pub in_the_middle : read (codes "a|b|c ") ≡ Stands (Symbol (own (codes "AbC"))) 5 (own (codes "AbC") ∷ [])
  pub escaped_bar : read (codes "|a\\||x ") ≡ Stands (Symbol (own (codes "a|X"))) 6 (own (codes "a|X") ∷ [])
  pub empty : read (codes "|| ") ≡ Stands (Symbol (own (codes ""))) 2 (own (codes "") ∷ [])
  pub empty_keyword : read (codes ":|| ") ≡ Stands (Symbol (key (codes ""))) 3 (key (codes "") ∷ [])
  pub empty_in_package : read (codes "acl2::|| ") ≡ Stands (Symbol (own (codes ""))) 8 (own (codes "") ∷ [])
  pub hash_inside : read (codes "a#|b| ") ≡ Stands (Symbol (own (codes "A#b"))) 5 (own (codes "A#b") ∷ [])
  pub hash_alone : read (codes "|#| ") ≡ Stands (Symbol (own (codes "#"))) 3 (own (codes "#") ∷ [])
  pub no_number : read (codes "|12| ") ≡ Stands (Symbol (own (codes "12"))) 4 (own (codes "12") ∷ [])
  pub no_dot : read (codes "(a |.| b)") ≡ Stands (list_onto ((Symbol (own (codes "A"))) ∷ (Symbol (own (codes "."))) ∷ (Symbol (own (codes "B"))) ∷ []) nil_form) 9 (own (codes "A") ∷ own (codes ".") ∷ own (codes "B") ∷ [])
  pub no_radix : read (codes "|x|#b1 ") ≡ Stands (Symbol (own (codes "x#B1"))) 6 (own (codes "x#B1") ∷ [])
  pub package_in_bars : read (codes "|ACL2|::x ") ≡ Stands (Symbol (own (codes "X"))) 9 (own (codes "X") ∷ [])
  pub delimiters_inside : read (codes "|( ;\"| ") ≡ Stands (Symbol (own (codes "( ;\""))) 6 (own (codes "( ;\"") ∷ [])

-- Ratios, floats, dots, colons, hashes and backslashes that no token may have.
pub record BadTokens : Type 0 where
  pub ratio : read (codes "1/2 ") ≡ Faulty BadToken 0
  pub float : read (codes "(1.5)") ≡ Faulty BadToken 1
  pub float_without_digits : read (codes "-.5e3 ") ≡ Faulty BadToken 0
  pub exponent : read (codes "1e5 ") ≡ Faulty BadToken 0
  pub dot_and_exponent : read (codes "+1.d-2 ") ≡ Faulty BadToken 0
  pub dots : read (codes ".. ") ≡ Faulty BadToken 0
  pub lone_colon : read (codes ": ") ≡ Faulty BadToken 0
  pub missing_name : read (codes "acl2:: ") ≡ Faulty BadToken 0
  pub missing_package : read (codes "::a ") ≡ Faulty BadToken 0
  pub one_colon : read (codes "acl2:a ") ≡ Faulty BadToken 0
  pub three_parts : read (codes "acl2::b::c ") ≡ Faulty BadToken 0
  pub keyword_with_colon : read (codes ":a:b ") ≡ Faulty BadToken 0
  pub bars_before_colon : read (codes "||:a ") ≡ Faulty BadToken 0
  pub backslash : read (codes "a\\b ") ≡ Faulty BadToken 0
  pub hash : read (codes "(a #)") ≡ Faulty BadToken 3
  pub no_such_digit : read (codes "#b2 ") ≡ Faulty BadToken 0
  pub bars_behind_hash : read (codes "#b|1| ") ≡ Faulty BadToken 0

-- Packages that are not known, and the one that no text can name.
pub record UnknownPackages : Type 0 where
  pub unknown : read (codes "(a x::b)") ≡ Faulty UnknownPackage 3
  pub hidden : read (codes "%::v ") ≡ Faulty UnknownPackage 0
  pub hidden_in_bars : read (codes "|%|::v ") ≡ Faulty UnknownPackage 0
  pub small_letters : read (codes "|acl2|::v ") ≡ Faulty UnknownPackage 0
  pub empty : read (codes "||::x ") ≡ Faulty UnknownPackage 0
  pub badly_written_first : read (codes "x::a:b ") ≡ Faulty BadToken 0

-- Lists and dots.
pub record Lists : Type 0 where
  pub empty : read (codes "()") ≡ Stands nil_form 2 []
  pub blanks : read (codes "( a" ++ ((9 ∷ []) ++ (codes "\"s\" )"))) ≡ Stands (list_onto ((Symbol (own (codes "A"))) ∷ (Text (codes "s")) ∷ []) nil_form) 9 (own (codes "A") ∷ [])
  pub dotted : read (codes "(a . b)") ≡ Stands (list_onto ((Symbol (own (codes "A"))) ∷ []) (Symbol (own (codes "B")))) 7 (own (codes "A") ∷ own (codes "B") ∷ [])
  pub dot_before_bracket : read (codes "(a .(b))") ≡ Stands (list_onto ((Symbol (own (codes "A"))) ∷ (Symbol (own (codes "B"))) ∷ []) nil_form) 8 (own (codes "A") ∷ own (codes "B") ∷ [])
  pub dot_in_symbol : read (codes "(a .b)") ≡ Stands (list_onto ((Symbol (own (codes "A"))) ∷ (Symbol (own (codes ".B"))) ∷ []) nil_form) 6 (own (codes "A") ∷ own (codes ".B") ∷ [])
  pub dot_behind_number : read (codes "(1. 2)") ≡ Stands (list_onto ((Integer (pos 1)) ∷ (Integer (pos 2)) ∷ []) nil_form) 6 []
  pub brackets_end_tokens : read (codes "(a(b)c)") ≡ Stands (list_onto ((Symbol (own (codes "A"))) ∷ (list_onto ((Symbol (own (codes "B"))) ∷ []) nil_form) ∷ (Symbol (own (codes "C"))) ∷ []) nil_form) 7 (own (codes "A") ∷ own (codes "B") ∷ own (codes "C") ∷ [])
  pub bracket_ends_form : read (codes "a(b)") ≡ Stands (Symbol (own (codes "A"))) 1 (own (codes "A") ∷ [])
  pub comment_behind_tail : read (codes "(a . b #||#)") ≡ Stands (list_onto ((Symbol (own (codes "A"))) ∷ []) (Symbol (own (codes "B")))) 12 (own (codes "A") ∷ own (codes "B") ∷ [])
  pub stray : read (codes " )") ≡ Faulty StrayClose 1
  pub unfinished : ended (codes "  (a") ≡ Faulty Unfinished 2

-- Dots that stand where none may.
pub record Dots : Type 0 where
  pub outside : read (codes ". ") ≡ Faulty BadDot 0
  pub first : read (codes "(. a)") ≡ Faulty BadDot 1
  pub behind_quote : read (codes "'. ") ≡ Faulty BadDot 1
  pub before_bracket : read (codes "(a . )") ≡ Faulty BadDot 3
  pub second : read (codes "(a . b . c)") ≡ Faulty BadDot 7
  pub second_at_once : read (codes "(a . . b)") ≡ Faulty BadDot 5
  pub two_forms : read (codes "(1 . 2 3") ≡ Faulty BadDot 3
  pub two_forms_list : read (codes "(1 . 2 (") ≡ Faulty BadDot 3
  pub two_forms_quote : read (codes "(1 . 2 '") ≡ Faulty BadDot 3
  pub before_bracket_outside : read (codes ".)") ≡ Faulty BadDot 0
  pub symbol_with_dot : read (codes "(a . b .c") ≡ Faulty BadDot 3
  pub second_before_bracket : read (codes "(a . b .)") ≡ Faulty BadDot 7
  pub hash_alone : read (codes "(a . b #)") ≡ Faulty BadToken 7
  pub hash_goes_on : read (codes "(a . b #x") ≡ Faulty BadDot 3
  pub at_the_end : ended (codes ".") ≡ Faulty BadDot 0
  pub open_at_the_end : ended (codes "(a .") ≡ Faulty Unfinished 0
  pub second_at_the_end : ended (codes "(a . b .") ≡ Faulty BadDot 7

-- Strings, comments of both kinds, and where they end.
pub record Strings : Type 0 where
  pub escapes : read (codes "\"a\\\"b\\\\\"") ≡ Stands (Text (codes "a\"b\\")) 8 []
  pub any_byte : read (codes "\"" ++ ((10 ∷ []) ++ ((128 ∷ []) ++ (codes "\"")))) ≡ Stands (Text (10 ∷ 128 ∷ [])) 4 []
  pub string_ends_token : read (codes "a\"b\"") ≡ Stands (Symbol (own (codes "A"))) 1 (own (codes "A") ∷ [])
  pub line : read (codes ";x)" ++ ((10 ∷ []) ++ (codes " 1 "))) ≡ Stands (Integer (pos 1)) 6 []
  pub block : read (codes "#|x;|#1 ") ≡ Stands (Integer (pos 1)) 7 []
  pub nested : read (codes "#|a#|b|#c|#2 ") ≡ Stands (Integer (pos 2)) 12 []
  pub opens_again : read (codes "#|#|#3 |#|# 4 ") ≡ Stands (Integer (pos 4)) 13 []
  pub closes_at_once : read (codes "#||#5 ") ≡ Stands (Integer (pos 5)) 5 []
  pub bar_before_end : read (codes "#|||#6 ") ≡ Stands (Integer (pos 6)) 6 []
  pub comment_in_list : read (codes "(a;)" ++ ((10 ∷ []) ++ (codes "#|(|#b)"))) ≡ Stands (list_onto ((Symbol (own (codes "A"))) ∷ (Symbol (own (codes "B"))) ∷ []) nil_form) 12 (own (codes "A") ∷ own (codes "B") ∷ [])
  pub comment_behind_quote : read (codes "'#|c|#a ") ≡ Stands (quote_form (Symbol (own (codes "A")))) 7 (own (codes "A") ∷ [])
  pub comment_behind_token : read (codes "(a;b" ++ ((10 ∷ []) ++ (codes ")"))) ≡ Stands (list_onto ((Symbol (own (codes "A"))) ∷ []) nil_form) 6 (own (codes "A") ∷ [])

-- The end of the input.
pub record Ends : Type 0 where
  pub nothing : ended [] ≡ End
  pub blanks : ended (codes " " ++ (10 ∷ [])) ≡ End
  pub line : ended (codes "; x") ≡ End
  pub line_in_form : ended (codes "(a ; x") ≡ Faulty Unfinished 0
  pub block : ended (codes " #|x") ≡ Faulty Unfinished 1
  pub block_in_form : ended (codes "(a #|x") ≡ Faulty Unfinished 0
  pub string : ended (codes " \"ab") ≡ Faulty Unfinished 1
  pub bars : ended (codes " |ab") ≡ Faulty Unfinished 1
  pub quote : ended (codes "'") ≡ Faulty Unfinished 0
  pub comma : ended (codes "`(,") ≡ Faulty Unfinished 0
  pub bad_token_first : ended (codes "(1/2") ≡ Faulty BadToken 1
  pub hash : ended (codes "#") ≡ Faulty BadToken 0

-- Quotes, and brackets that close none of them.
pub record Quotes : Type 0 where
  pub quoted : read (codes "'a ") ≡ Stands (quote_form (Symbol (own (codes "A")))) 2 (own (codes "A") ∷ [])
  pub blank_between : read (codes "' a ") ≡ Stands (quote_form (Symbol (own (codes "A")))) 3 (own (codes "A") ∷ [])
  pub twice : read (codes "''(a)") ≡ Stands (quote_form (quote_form (list_onto ((Symbol (own (codes "A"))) ∷ []) nil_form))) 5 (own (codes "A") ∷ [])
  pub ends_token : read (codes "(a'b)") ≡ Stands (list_onto ((Symbol (own (codes "A"))) ∷ (quote_form (Symbol (own (codes "B")))) ∷ []) nil_form) 5 (own (codes "A") ∷ own (codes "B") ∷ [])
  pub in_tail : read (codes "(a . 'b)") ≡ Stands (list_onto ((Symbol (own (codes "A"))) ∷ []) (quote_form (Symbol (own (codes "B"))))) 8 (own (codes "A") ∷ own (codes "B") ∷ [])
  pub closed_by_bracket : read (codes "(')") ≡ Faulty StrayClose 2
  pub closed_by_comma : read (codes "`(,)") ≡ Faulty StrayClose 3
  pub closed_behind_splice : read (codes "`(,@ )") ≡ Faulty StrayClose 5

-- Templates and the forms that they are short for.
pub record Backquotes : Type 0 where
  pub constant : read (codes "`a ") ≡ Stands (quote_form (Symbol (own (codes "A")))) 2 (own (codes "A") ∷ [])
  pub constant_list : read (codes "`(a b)") ≡ Stands (quote_form (list_onto ((Symbol (own (codes "A"))) ∷ (Symbol (own (codes "B"))) ∷ []) nil_form)) 6 (own (codes "A") ∷ own (codes "B") ∷ [])
  pub comma : read (codes "`,a ") ≡ Stands (Symbol (own (codes "A"))) 3 (own (codes "A") ∷ [])
  pub element : read (codes "`(a ,b)") ≡ Stands (cons_form (quote_form (Symbol (own (codes "A")))) (cons_form (Symbol (own (codes "B"))) (quote_form nil_form))) 7 (own (codes "A") ∷ own (codes "B") ∷ [])
  pub spliced : read (codes "`(,@a)") ≡ Stands (append_form (Symbol (own (codes "A"))) (quote_form nil_form)) 6 (own (codes "A") ∷ [])
  pub spliced_first : read (codes "`(,@a b)") ≡ Stands (append_form (Symbol (own (codes "A"))) (quote_form (list_onto ((Symbol (own (codes "B"))) ∷ []) nil_form))) 8 (own (codes "A") ∷ own (codes "B") ∷ [])
  pub spliced_last : read (codes "`(a ,@b)") ≡ Stands (cons_form (quote_form (Symbol (own (codes "A")))) (append_form (Symbol (own (codes "B"))) (quote_form nil_form))) 8 (own (codes "A") ∷ own (codes "B") ∷ [])
  pub tail : read (codes "`(a . ,b)") ≡ Stands (cons_form (quote_form (Symbol (own (codes "A")))) (Symbol (own (codes "B")))) 9 (own (codes "A") ∷ own (codes "B") ∷ [])
  pub quote_inside : read (codes "`(',a)") ≡ Stands (cons_form (cons_form (quote_form (Symbol quote_name)) (cons_form (Symbol (own (codes "A"))) (quote_form nil_form))) (quote_form nil_form)) 6 (own (codes "A") ∷ [])
  pub list_inside : read (codes "`((,a) b)") ≡ Stands (cons_form (cons_form (Symbol (own (codes "A"))) (quote_form nil_form)) (quote_form (list_onto ((Symbol (own (codes "B"))) ∷ []) nil_form))) 9 (own (codes "A") ∷ own (codes "B") ∷ [])
  pub backquote_in_comma : read (codes "`(a ,`(b ,c))") ≡ Stands (cons_form (quote_form (Symbol (own (codes "A")))) (cons_form (cons_form (quote_form (Symbol (own (codes "B")))) (cons_form (Symbol (own (codes "C"))) (quote_form nil_form))) (quote_form nil_form))) 13 (own (codes "A") ∷ own (codes "B") ∷ own (codes "C") ∷ [])
  pub comma_and_blank : read (codes "`(, @a)") ≡ Stands (cons_form (Symbol (own (codes "@A"))) (quote_form nil_form)) 7 (own (codes "@A") ∷ [])
  pub splice_and_blank : read (codes "`(,@ a)") ≡ Stands (append_form (Symbol (own (codes "A"))) (quote_form nil_form)) 7 (own (codes "A") ∷ [])

-- Commas and backquotes that stand where none may.
pub record Commas : Type 0 where
  pub outside : read (codes ",a") ≡ Faulty CommaOutside 0
  pub in_list : read (codes "(,") ≡ Faulty CommaOutside 1
  pub twice : read (codes "`,,a") ≡ Faulty CommaOutside 2
  pub spliced_alone : read (codes "`,@") ≡ Faulty CommaOutside 1
  pub spliced_in_tail : read (codes "`(a . ,@") ≡ Faulty CommaOutside 6
  pub spliced_behind_quote : read (codes "`(',@") ≡ Faulty CommaOutside 3
  pub backquote_twice : read (codes "``") ≡ Faulty BadToken 1
  pub backquote_in_list : read (codes "`('a `") ≡ Faulty BadToken 5
  pub not_yet : read (codes "`(,") ≡ Nothing
  pub second_form_first : read (codes "(1 . 2 ,") ≡ Faulty BadDot 3
  pub second_form_backquote : read (codes "`(1 . 2 `") ≡ Faulty BadDot 4

-- Bytes that may not stand, and those that may inside bars, strings and comments.
pub record Bytes : Type 0 where
  pub high : read (codes "a" ++ (128 ∷ [])) ≡ Faulty BadByte 1
  pub control : read (0 ∷ []) ≡ Faulty BadByte 0
  pub vertical_tab : read (codes "(" ++ (11 ∷ [])) ≡ Faulty BadByte 1
  pub delete : read (127 ∷ []) ≡ Faulty BadByte 0
  pub ends_no_token : read (codes "1/2" ++ (255 ∷ [])) ≡ Faulty BadByte 3
  pub form_feed : read ((12 ∷ []) ++ (codes "1 ")) ≡ Stands (Integer (pos 1)) 2 []
  pub in_bars : read (codes "|" ++ ((128 ∷ []) ++ (codes "| "))) ≡ Stands (Symbol (own (128 ∷ []))) 3 (own (128 ∷ []) ∷ [])
  pub in_comment : read (codes "#|" ++ ((128 ∷ []) ++ (codes "|#1 "))) ≡ Stands (Integer (pos 1)) 6 []
  pub behind_tail : read (codes "(1 . 2 " ++ (128 ∷ [])) ≡ Faulty BadByte 7
  pub behind_hash : read (codes "#" ++ (128 ∷ [])) ≡ Faulty BadByte 1
  pub behind_open_dot : read (codes "(a . b ." ++ (128 ∷ [])) ≡ Faulty BadByte 8

-- Of two faults the first is told.
pub record FaultsTogether : Type 0 where
  pub token_then_bracket : read (codes "1/2)") ≡ Faulty BadToken 0
  pub package_then_bracket : read (codes "x::y)") ≡ Faulty UnknownPackage 0
  pub tail_then_ratio : read (codes "(1 . 2 3/4)") ≡ Faulty BadDot 3
  pub tail_then_string : ended (codes "(1 . 2 \"ab") ≡ Faulty BadDot 3
  pub wide_then_bracket : read (codes "170141183460469231731687303715884105728)") ≡ Faulty IntegerTooWide 0

-- How deep, how long and how far a text may be.
pub record Limits : Type 0 where
  pub deep_enough : read (replicate 200 40) ≡ Nothing
  pub too_deep : read (replicate 201 40) ≡ Faulty TooDeep 200
  pub too_many_quotes : read (replicate 201 39) ≡ Faulty TooDeep 200
  pub last_byte : read_at 67108861 (codes "12 ") ≡ Stands (Integer (pos 12)) 67108863 []
  pub too_long : read_at 67108862 (codes "12 ") ≡ Faulty InputTooLong 67108864
  pub ends_no_token : read_at 67108861 (codes "1/2 ") ≡ Faulty InputTooLong 67108864
  pub misplaced_splice : read_at 67108857 (codes "`(a . ,@") ≡ Faulty CommaOutside 67108863
  pub splice_too_long : read_at 67108861 (codes "`(,@") ≡ Faulty InputTooLong 67108864
  pub form_fills : long_form (1048575) (codes ")") ≡ Gives nil_form 1048576 []
  pub form_too_long : long_form (1048576) (codes " ") ≡ Fails FormTooLong 1048576
  pub comment_counts : long_form (1048575) (codes ";x") ≡ Fails FormTooLong 1048576
  pub stray_first : long_quote (1048576) (codes ")") ≡ Fails StrayClose 1048576
  pub weight_fits : whole (doubled 19) 9 7 [] ≡ Gives (doubled 19) 9 []
  pub too_large : whole (doubled 20) 9 7 [] ≡ Fails TooLarge 7
  pub no_symbol_more : (symbols : List QualifiedName) → is_one_too_many symbols (own (codes "FOO")) ≡ true → next_at few_packages 2 symbols 0 (codes "(foo)") false ≡ Faulty TooManySymbols 1

-- Printed forms.
pub record Printed : Type 0 where
  pub integer : text few_packages 2 (Integer (negsuc 119)) ≡ codes "-120"
  pub own_symbol : text few_packages 2 (Symbol (own (codes "FOO"))) ≡ codes "FOO"
  pub imported : text few_packages 2 nil_form ≡ codes "NIL"
  pub not_imported : text few_packages 2 (Symbol (record { home = common_lisp; name = codes "CAR" })) ≡ codes "COMMON-LISP::CAR"
  pub from_elsewhere : text few_packages 0 (Symbol (own (codes "FOO"))) ≡ codes "ACL2::FOO"
  pub hidden_by_import : text few_packages 2 (Symbol (own (codes "NIL"))) ≡ codes "ACL2::NIL"
  pub keyword : text few_packages 2 (Symbol (key (codes "KEY"))) ≡ codes ":KEY"
  pub keyword_in_bars : text few_packages 2 (Symbol (key (codes "12"))) ≡ codes ":|12|"
  pub small_letter : text few_packages 2 (Symbol (own (codes "a"))) ≡ codes "|a|"
  pub empty_name : text few_packages 2 (Symbol (own (codes ""))) ≡ codes "||"
  pub bar_inside : text few_packages 2 (Symbol (own (codes "A|B"))) ≡ codes "|A\\|B|"
  pub backslash_inside : text few_packages 2 (Symbol (own (codes "A\\"))) ≡ codes "|A\\\\|"
  pub like_integer : text few_packages 2 (Symbol (own (codes "12."))) ≡ codes "|12.|"
  pub like_ratio : text few_packages 2 (Symbol (own (codes "-1/2"))) ≡ codes "|-1/2|"
  pub like_float : text few_packages 2 (Symbol (own (codes "1E5"))) ≡ codes "|1E5|"
  pub like_dots : text few_packages 2 (Symbol (own (codes ".."))) ≡ codes "|..|"
  pub not_like_number : text few_packages 2 (list_onto ((Symbol (own (codes "1+"))) ∷ (Symbol (own (codes "-"))) ∷ (Symbol (own (codes "1E"))) ∷ []) nil_form) ≡ codes "(1+ - 1E)"
  pub hash : text few_packages 2 (Symbol (own (codes "#"))) ≡ codes "|#|"
  pub colon : text few_packages 2 (Symbol (own (codes "A:B"))) ≡ codes "|A:B|"
  pub package_in_bars : text few_packages 2 (Symbol (record { home = codes "p"; name = codes "X" })) ≡ codes "|p|::X"
  pub string : text few_packages 2 (Text (codes "a\"b\\c|")) ≡ codes "\"a\\\"b\\\\c|\""
  pub list : text few_packages 2 (list_onto ((Integer (pos 1)) ∷ (list_onto ((Symbol (own (codes "A"))) ∷ []) nil_form) ∷ nil_form ∷ []) nil_form) ≡ codes "(1 (A) NIL)"
  pub dotted : text few_packages 2 (list_onto ((Integer (pos 1)) ∷ (Symbol (own (codes "A"))) ∷ []) (Symbol (own (codes "B")))) ≡ codes "(1 A . B)"
  pub quoted : text few_packages 2 (quote_form (Symbol (own (codes "X")))) ≡ codes "(QUOTE X)"
