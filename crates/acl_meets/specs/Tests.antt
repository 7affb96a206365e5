-- What the test of a type says of an object.
use Rattle.std.specs.Prelude.{ℕ, ◌+◌, Bool, true, false, not, nat_eq, int_lt, Option, Some, None, unwrap_or, if◌then◌else◌}
use Rattle.model_objects.specs.Object.{Object}
use Rattle.model_prims.specs.Kinds.{by_number, is_integer, is_symbol, is_string, is_pair, is_nil, is_boolean}
use Rattle.model_prims.specs.Numbers.{fix}
use Rattle.model_prims.specs.Lists.{is_member}
use Rattle.model_lists.specs.Types.{ValueType, Anything, meets, null_word, cons_word, atom_word, not_word}
use Rattle.model_terms.specs.Cores.{Core, Var, Const, If, Let, Mv, MvLet, StobjLet, WithLocal, MustBeEqual, Call, none, more}
use Rattle.model_expansion.specs.Words.{symbolp_word, stringp_word, integerp_word, below_word, member_equal_word, booleanp_word}
use Rattle.acl_types.specs.declared.shape.Join.{Join}
use Rattle.acl_types.specs.declared.shape.Join.TheVariants as join

abbrev pub predicate_holds : ℕ → Object ℕ → Bool
predicate_holds p x =
    if nat_eq p not_word then is_nil by_number x
    else if nat_eq p symbolp_word then is_symbol x
    else if nat_eq p stringp_word then is_string x
    else if nat_eq p (cons_word + 1) then is_pair x
    else if nat_eq p atom_word then not (is_pair x)
    else if nat_eq p null_word then is_nil by_number x
    else if nat_eq p booleanp_word then is_boolean by_number x
    else if nat_eq p integerp_word then is_integer x
    else false

-- the value of a variable, which is the object that is tested, or of a constant
abbrev pub value_in : Object ℕ → Core → Object ℕ
value_in x (Var y) = x
value_in x (Const o) = o
value_in x (If a b c) = x
value_in x (Let names bound body) = x
value_in x (Mv parts) = x
value_in x (MvLet names bound body) = x
value_in x (StobjLet names bound vars producer consumer) = x
value_in x (WithLocal stobj names producer body) = x
value_in x (MustBeEqual logic exec) = x
value_in x (Call f actuals) = x

-- whether a test over an object gives another value than `NIL`
abbrev pub holds : Core → Object ℕ → Bool
holds (Var y) x = not (is_nil by_number x)
holds (Const o) x = not (is_nil by_number o)
holds (If a b c) x = if holds a x then holds b x else holds c x
holds (Let names bound body) x = false
holds (Mv parts) x = false
holds (MvLet names bound body) x = false
holds (StobjLet names bound vars producer consumer) x = false
holds (WithLocal stobj names producer body) x = false
holds (MustBeEqual logic exec) x = false
holds (Call f none) x = false
holds (Call f (more a none)) x = if nat_eq f not_word then not (holds a x) else predicate_holds f (value_in x a)
holds (Call f (more a (more b none))) x =
    if nat_eq f below_word then int_lt (fix (value_in x a)) (fix (value_in x b))
    else if nat_eq f member_equal_word then is_member by_number (value_in x a) (value_in x b)
    else false
holds (Call f (more a (more b (more c d)))) x = false

-- each object meets what is no type
abbrev pub shown : Option Core → Object ℕ → Bool
shown None x = true
shown (Some f) x = holds f x

-- whether a first test decides what a join of it and others says
abbrev pub decides : Join → Bool → Bool
decides join.Either b = b
decides join.Both b = not b

-- as `meets`, where there is a type
abbrev pub met_by : Option (ValueType ℕ) → Object ℕ → Bool
met_by t x = meets by_number (unwrap_or t Anything) x
