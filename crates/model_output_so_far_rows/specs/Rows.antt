-- Whole books, and what is written for them.
use Rattle.std.specs.Prelude.{◌≡◌, List, ℕ, [], ◌∷◌, ◌++◌, replicate, codes}
use Rattle.acl_base.specs.declared.status.Status.{Status}
use Rattle.acl_base.specs.declared.status.Status.TheVariants.{Done, Errors, Text}
use Rattle.model_output_so_far.specs.Output.{Output, output, line}

-- lines, each with the byte that ends it
abbrev pub lines : List (List ℕ) → List ℕ
lines [] = []
lines (l ∷ ls) = line l ++ lines ls

-- these lines, and this status
abbrev pub written : List (List ℕ) → Status → Output
written ls status = record { bytes = lines ls; status = status }

-- the text of a book, a command or more on each line
abbrev pub book : List (List ℕ) → List ℕ
book ls = lines ls

abbrev pub Empty : Type 0
Empty = output [] ≡ written (codes "; 0 commands, 0 calls, 0 errors" ∷ []) Done

abbrev pub ThreeCommands : Type 0
ThreeCommands = output (book (codes "(defstobj st (pc :type integer :initially 0))" ∷ codes "(update-pc 5 st)" ∷ codes "(pc st)" ∷ [])) ≡ written (codes "ST" ∷ codes "<st>" ∷ codes "5" ∷ codes "; 3 commands, 2 calls, 0 errors" ∷ []) Done

abbrev pub GuardViolation : Type 0
GuardViolation = output (book (codes "(defstobj st (pc :type integer :initially 0))" ∷ codes "(update-pc 5 st)" ∷ codes "(pc st)" ∷ codes "(update-pc 'a st)" ∷ codes "(pc st)" ∷ [])) ≡ written (codes "ST" ∷ codes "<st>" ∷ codes "5" ∷ codes "Guard violation: (UPDATE-PC A <st>)" ∷ codes "5" ∷ codes "; 5 commands, 4 calls, 1 errors" ∷ []) Errors

abbrev pub NoObject : Type 0
NoObject = output (book (codes "(pc st)" ∷ [])) ≡ written (codes "Refused: NotYet" ∷ codes "; 1 commands, 0 calls, 1 errors" ∷ []) Errors

abbrev pub AString : Type 0
AString = output (book (codes "\"x\"" ∷ [])) ≡ written (codes "Refused: NotYet" ∷ codes "; 1 commands, 0 calls, 1 errors" ∷ []) Errors

abbrev pub TwoFields : Type 0
TwoFields = output (book (codes "(defstobj ab (cd :type integer :initially -7) (ef :type integer :initially 00012))" ∷ codes "(ef ab)" ∷ codes "(update-ef -999999999999999999 ab)" ∷ codes "(cd ab) (ef ab)" ∷ [])) ≡ written (codes "AB" ∷ codes "12" ∷ codes "<ab>" ∷ codes "-7" ∷ codes "-999999999999999999" ∷ codes "; 5 commands, 4 calls, 0 errors" ∷ []) Done

abbrev pub QuotedConstants : Type 0
QuotedConstants = output (book (codes "(defstobj st (pc :type integer :initially 0))" ∷ codes "(update-pc 't st)" ∷ codes "(update-pc 'nil st)" ∷ codes "(update-pc ':b st)" ∷ codes "(update-pc '|a b| st)" ∷ [])) ≡ written (codes "ST" ∷ codes "Guard violation: (UPDATE-PC T <st>)" ∷ codes "Guard violation: (UPDATE-PC NIL <st>)" ∷ codes "Guard violation: (UPDATE-PC :B <st>)" ∷ codes "Guard violation: (UPDATE-PC |a b| <st>)" ∷ codes "; 5 commands, 4 calls, 4 errors" ∷ []) Errors

abbrev pub Hexadecimal : Type 0
Hexadecimal = output (book (codes "(defstobj st (pc :type integer :initially 0))" ∷ codes "(update-pc #xff st)" ∷ codes "(pc st)" ∷ [])) ≡ written (codes "ST" ∷ codes "<st>" ∷ codes "255" ∷ codes "; 3 commands, 2 calls, 0 errors" ∷ []) Done

abbrev pub WidestIntegers : Type 0
WidestIntegers = output (book (codes "(defstobj st (pc :type integer :initially -170141183460469231731687303715884105728))" ∷ codes "(pc st)" ∷ codes "(update-pc 170141183460469231731687303715884105727 st)" ∷ codes "(pc st)" ∷ [])) ≡ written (codes "ST" ∷ codes "-170141183460469231731687303715884105728" ∷ codes "<st>" ∷ codes "170141183460469231731687303715884105727" ∷ codes "; 4 commands, 3 calls, 0 errors" ∷ []) Done

-- books of one object
pub record AreWritten : Type 0 where
  pub empty : Empty
  pub three_commands : ThreeCommands
  pub guard_violation : GuardViolation
  pub no_object : NoObject
  pub a_string : AString
  pub two_fields : TwoFields
  pub quoted_constants : QuotedConstants
  pub hexadecimal : Hexadecimal
  pub widest_integers : WidestIntegers

abbrev pub OddCommands : Type 0
OddCommands = output (book (codes "5 nil :key 'quoted (pc st) () (5 st) (pc . st) `(pc ,st)" ∷ codes "(defstobj st (pc :type integer :initially 0))" ∷ codes "(defstobj st (pc :type integer :initially 0))" ∷ codes "(PC st)(update-pc (quote b) St)(update-pc :b st)(update-pc () st)(update-pc t st)(update-pc '5 st)(update-pc (5) st)(update-qc 1 st)(pc so)(pc 1 st)(pc)(update-pc 1 2 st)" ∷ [])) ≡ written (codes "Refused: NotYet" ∷ codes "Refused: NotYet" ∷ codes "Refused: NotYet" ∷ codes "Refused: NotYet" ∷ codes "Refused: NotYet" ∷ codes "Refused: NotYet" ∷ codes "Refused: NotYet" ∷ codes "Refused: NotYet" ∷ codes "Refused: NotYet" ∷ codes "ST" ∷ codes "Refused: NotYet" ∷ codes "0" ∷ codes "Guard violation: (UPDATE-PC B <st>)" ∷ codes "Refused: NotYet" ∷ codes "Refused: NotYet" ∷ codes "Refused: NotYet" ∷ codes "Refused: NotYet" ∷ codes "Refused: NotYet" ∷ codes "Refused: NotYet" ∷ codes "Refused: NotYet" ∷ codes "Refused: NotYet" ∷ codes "Refused: NotYet" ∷ codes "Refused: NotYet" ∷ codes "; 23 commands, 2 calls, 21 errors" ∷ []) Errors

-- forms that are no commands, and wrong calls of an object's functions
pub record AreMixed : Type 0 where
  pub odd_commands : OddCommands

abbrev pub BadNames : Type 0
BadNames = output (book (codes "(defstobj car (pc :type integer :initially 0))" ∷ codes "(defstobj st (:pc :type integer :initially 0))" ∷ codes "(defstobj *st* (pc :type integer :initially 0))" ∷ codes "(defstobj st (pc :type integer :initially 0) (t :type integer :initially 0))" ∷ codes "(defstobj ** (pc :type integer :initially 0))" ∷ [])) ≡ written (codes "Refused: BadName CAR" ∷ codes "Refused: BadName :PC" ∷ codes "Refused: BadName *ST*" ∷ codes "Refused: BadName T" ∷ codes "**" ∷ codes "; 5 commands, 0 calls, 4 errors" ∷ []) Errors

abbrev pub PrimitiveInUse : Type 0
PrimitiveInUse = output (book (codes "(defstobj st (nat :type integer :initially 0))" ∷ codes "(defstobj zip (pc :type integer :initially 0))" ∷ [])) ≡ written (codes "Refused: NameInUse NATP" ∷ codes "Refused: NameInUse ZIP" ∷ codes "; 2 commands, 0 calls, 2 errors" ∷ []) Errors

abbrev pub NameTwice : Type 0
NameTwice = output (book (codes "(defstobj st (x :type integer :initially 0) (x :type integer :initially 0))" ∷ codes "(defstobj st (stp :type integer :initially 0))" ∷ [])) ≡ written (codes "Refused: NameInUse XP" ∷ codes "Refused: NameInUse STP" ∷ codes "; 2 commands, 0 calls, 2 errors" ∷ []) Errors

abbrev pub KnownNameFree : Type 0
KnownNameFree = output (book (codes "(defstobj st (xargs :type integer :initially 0))" ∷ codes "(xargs st)" ∷ [])) ≡ written (codes "ST" ∷ codes "0" ∷ codes "; 2 commands, 1 calls, 0 errors" ∷ []) Done

abbrev pub BadNameBeforeNameInUse : Type 0
BadNameBeforeNameInUse = output (book (codes "(defstobj nat (nat :type integer :initially 0) (car :type integer :initially 0))" ∷ [])) ≡ written (codes "Refused: BadName CAR" ∷ codes "; 1 commands, 0 calls, 1 errors" ∷ []) Errors

abbrev pub OtherDefinitions : Type 0
OtherDefinitions = output (book (codes "(defstobj st)" ∷ codes "(defstobj st pc)" ∷ codes "(defstobj st (pc))" ∷ codes "(defstobj st (pc :type integer))" ∷ codes "(defstobj st (pc :initially 0 :type integer))" ∷ codes "(defstobj st (pc :type bit :initially 0))" ∷ codes "(defstobj st (pc :type integer :initially \"x\"))" ∷ codes "(defstobj \"st\" (pc :type integer :initially 0))" ∷ codes "(defstobj st (pc :type integer :initially 0) . 5)" ∷ codes "(defstobj st (pc :type integer :initially 0) :inline t)" ∷ [])) ≡ written (codes "Refused: NotYet" ∷ codes "Refused: NotYet" ∷ codes "Refused: NotYet" ∷ codes "Refused: NotYet" ∷ codes "Refused: NotYet" ∷ codes "Refused: NotYet" ∷ codes "Refused: NotYet" ∷ codes "Refused: NotYet" ∷ codes "Refused: NotYet" ∷ codes "Refused: NotYet" ∷ codes "; 10 commands, 0 calls, 10 errors" ∷ []) Errors

-- names and shapes of definitions
pub record AreNamed : Type 0 where
  pub bad_names : BadNames
  pub primitive_in_use : PrimitiveInUse
  pub name_twice : NameTwice
  pub known_name_free : KnownNameFree
  pub bad_name_before_name_in_use : BadNameBeforeNameInUse
  pub other_definitions : OtherDefinitions

abbrev pub Packages : Type 0
Packages = output (book (codes "(in-package \"Q\")" ∷ codes "(in-package \"KEYWORD\")" ∷ [])) ≡ written (codes "Refused: UnknownPackage \"Q\"" ∷ codes "\"KEYWORD\"" ∷ codes "; 2 commands, 0 calls, 1 errors" ∷ []) Errors

abbrev pub OtherPackage : Type 0
OtherPackage = output (book (codes "(defstobj st (pc :type integer :initially 0))" ∷ codes "(in-package \"COMMON-LISP\")" ∷ codes "(acl2::update-pc acl2::b acl2::st)" ∷ codes "(acl2::update-pc 'acl2::b acl2::st)" ∷ codes "(acl2::pc acl2::st)" ∷ codes "(pc acl2::st)" ∷ codes "(in-package \"ACL2\")" ∷ codes "(update-pc 'common-lisp::foo st)" ∷ [])) ≡ written (codes "ST" ∷ codes "\"COMMON-LISP\"" ∷ codes "Refused: NotYet" ∷ codes "Guard violation: (ACL2::UPDATE-PC ACL2::B <st>)" ∷ codes "0" ∷ codes "Refused: NotYet" ∷ codes "\"ACL2\"" ∷ codes "Guard violation: (UPDATE-PC COMMON-LISP::FOO <st>)" ∷ codes "; 8 commands, 3 calls, 4 errors" ∷ []) Errors

abbrev pub MisshapenPackages : Type 0
MisshapenPackages = output (book (codes "(in-package)" ∷ codes "(in-package acl2)" ∷ codes "(in-package . \"ACL2\")" ∷ codes "(in-package \"ACL2\" \"KEYWORD\")" ∷ codes "(in-package \"%\")" ∷ codes "(in-package \"KEYWORD\")" ∷ codes "(common-lisp::in-package 5)" ∷ codes "(in-package \"ACL2\")" ∷ [])) ≡ written (codes "Refused: BadShape IN-PACKAGE" ∷ codes "Refused: BadShape IN-PACKAGE" ∷ codes "Refused: BadShape IN-PACKAGE" ∷ codes "Refused: BadShape IN-PACKAGE" ∷ codes "Refused: UnknownPackage \"%\"" ∷ codes "\"KEYWORD\"" ∷ codes "Refused: BadShape COMMON-LISP::IN-PACKAGE" ∷ codes "Refused: NotYet" ∷ codes "; 8 commands, 0 calls, 7 errors" ∷ []) Errors

-- the choice of a package
pub record ArePackages : Type 0 where
  pub packages : Packages
  pub other_package : OtherPackage
  pub misshapen_packages : MisshapenPackages

abbrev pub Primitives : Type 0
Primitives = output (book (codes "(binary-+ 170141183460469231731687303715884105727 1)" ∷ codes "(cons 1 '(2))" ∷ codes "(car 5)" ∷ [])) ≡ written (codes "Out of range: BINARY-+" ∷ codes "(1 2)" ∷ codes "Guard violation: (CAR 5)" ∷ codes "; 3 commands, 3 calls, 2 errors" ∷ []) Errors

abbrev pub MorePrimitives : Type 0
MorePrimitives = output (book (codes "(cons 'a \"b\")" ∷ codes "(equal '(a . b) '(a . b))" ∷ codes "(car '(x y))" ∷ codes "(car nil)" ∷ codes "(symbol-name :key)" ∷ codes "(intern-in-package-of-symbol \"CAR\" 'x)" ∷ codes "(nth -1 nil)" ∷ codes "(len '(1 2 . 3))" ∷ codes "(car)" ∷ codes "(car 1 2)" ∷ codes "(car x)" ∷ codes "(car (cdr nil))" ∷ codes "(+ 1 2)" ∷ codes "(floor -7 2)" ∷ [])) ≡ written (codes "(A . \"b\")" ∷ codes "T" ∷ codes "X" ∷ codes "NIL" ∷ codes "\"KEY\"" ∷ codes "CAR" ∷ codes "Guard violation: (NTH -1 NIL)" ∷ codes "2" ∷ codes "Refused: NotYet" ∷ codes "Refused: NotYet" ∷ codes "Refused: NotYet" ∷ codes "Refused: NotYet" ∷ codes "Refused: NotYet" ∷ codes "-4" ∷ codes "; 14 commands, 9 calls, 6 errors" ∷ []) Errors

abbrev pub FieldOverPrimitive : Type 0
FieldOverPrimitive = output (book (codes "(defstobj st (pc :type integer :initially 0))" ∷ codes "(car st)" ∷ codes "(cdr '(1 . 2))" ∷ codes "(pc st)" ∷ [])) ≡ written (codes "ST" ∷ codes "Refused: NotYet" ∷ codes "2" ∷ codes "0" ∷ codes "; 4 commands, 2 calls, 1 errors" ∷ []) Errors

-- calls of primitives
pub record AreCalls : Type 0 where
  pub primitives : Primitives
  pub more_primitives : MorePrimitives
  pub field_over_primitive : FieldOverPrimitive

abbrev pub OpenList : Type 0
OpenList = output (codes "5 (car") ≡ written (codes "Refused: NotYet" ∷ codes "Text fault: Unfinished at 2" ∷ codes "; 1 commands, 0 calls, 1 errors" ∷ []) Text

abbrev pub StrayClose : Type 0
StrayClose = output (codes ")") ≡ written (codes "Text fault: StrayClose at 0" ∷ codes "; 0 commands, 0 calls, 0 errors" ∷ []) Text

abbrev pub LiteralTooWide : Type 0
LiteralTooWide = output (codes "170141183460469231731687303715884105728") ≡ written (codes "Text fault: IntegerTooWide at 0" ∷ codes "; 0 commands, 0 calls, 0 errors" ∷ []) Text

abbrev pub BadDot : Type 0
BadDot = output (codes "(1 . 2 3)") ≡ written (codes "Text fault: BadDot at 3" ∷ codes "; 0 commands, 0 calls, 0 errors" ∷ []) Text

abbrev pub CommaOutside : Type 0
CommaOutside = output (codes ",a") ≡ written (codes "Text fault: CommaOutside at 0" ∷ codes "; 0 commands, 0 calls, 0 errors" ∷ []) Text

abbrev pub Ratio : Type 0
Ratio = output (codes "1/2") ≡ written (codes "Text fault: BadToken at 0" ∷ codes "; 0 commands, 0 calls, 0 errors" ∷ []) Text

abbrev pub UnknownPackage : Type 0
UnknownPackage = output (codes "q::x") ≡ written (codes "Text fault: UnknownPackage at 0" ∷ codes "; 0 commands, 0 calls, 0 errors" ∷ []) Text

abbrev pub OpenString : Type 0
OpenString = output (codes "\"ab") ≡ written (codes "Text fault: Unfinished at 0" ∷ codes "; 0 commands, 0 calls, 0 errors" ∷ []) Text

abbrev pub BadByte : Type 0
BadByte = output (200 ∷ []) ≡ written (codes "Text fault: BadByte at 0" ∷ codes "; 0 commands, 0 calls, 0 errors" ∷ []) Text

abbrev pub TooDeep : Type 0
TooDeep = output (replicate 201 40) ≡ written (codes "Text fault: TooDeep at 200" ∷ codes "; 0 commands, 0 calls, 0 errors" ∷ []) Text

-- inputs that end in a text fault
pub record EndInFaults : Type 0 where
  pub open_list : OpenList
  pub stray_close : StrayClose
  pub literal_too_wide : LiteralTooWide
  pub bad_dot : BadDot
  pub comma_outside : CommaOutside
  pub ratio : Ratio
  pub unknown_package : UnknownPackage
  pub open_string : OpenString
  pub bad_byte : BadByte
  pub too_deep : TooDeep
