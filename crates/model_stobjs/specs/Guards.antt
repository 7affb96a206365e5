-- The guards of functions as core forms, and core forms with other names in them (ACL2's manual, topics DEFSTOBJ, GUARD).
use Rattle.std.specs.Prelude.{ℕ, List, [], ◌∷◌, ◌++◌, pos, Bool, true, false, ◌||◌, Option, Some, None, nat_eq, option_map, option_and_then, slice_get, unwrap_or, if◌then◌else◌}
use Rattle.std.specs.Option.{option_map_or}
use Rattle.std.specs.List.{filter}
use Rattle.std.specs.Map.{lookup}
use Rattle.acl_base.specs.declared.layout.Test.{Test}
use Rattle.acl_base.specs.declared.layout.Test.TheVariants.{Eq, Eql, Equal}
use Rattle.model_objects.specs.Object.{Object, Integer, Symbol}
use Rattle.model_symbols.specs.Opening.{truth, nil}
use Rattle.model_prims.specs.Kinds.{by_number, same_object}
use Rattle.model_terms.specs.Cores.{Core, Cores, none, more, Var, Const, If, Let, Mv, MvLet, StobjLet, WithLocal, MustBeEqual, Call}
use Rattle.model_terms.specs.Worlds.{World, Shape, Scalar, Array, Hash, Child, Children, Field, GeneratedFunction}
use Rattle.model_terms.specs.Accessors.{field_of}
use Rattle.model_terms.specs.declared.role.Role.{Role}
use Rattle.model_terms.specs.declared.role.Role.TheVariants as role
use Rattle.model_expansion.specs.Words.{integerp_word, symbolp_word, below_word}
use Rattle.model_expansion.specs.Forms.{is}
use Rattle.model_expansion.specs.TypeTerms.{true_core, false_core, call_core, and_core, not_below, integer_test, type_term}
use Rattle.model_stobjs.specs.Descriptors.{number_at}
use Rattle.model_lists.specs.Effects.{most_elements}
use Rattle.model_terms.specs.Classes.{has}

-- ---- names in core forms

abbrev pub Renaming : Type 0
Renaming = List (ℕ × ℕ)

abbrev pub renamed_name : Renaming → ℕ → ℕ
renamed_name r x = unwrap_or (lookup (nat_eq x) r) x

abbrev pub without_names : List ℕ → Renaming → Renaming
without_names xs r = filter (λ (p : ℕ × ℕ). if has xs p.0 then false else true) r

-- a form with its free variables renamed
unfoldable mutual
  pub renamed_core : Core → Renaming → Core
  renamed_core (Var x) r = Var (renamed_name r x)
  renamed_core (Const o) r = Const o
  renamed_core (If a b c) r = If (renamed_core a r) (renamed_core b r) (renamed_core c r)
  renamed_core (Let names bound body) r = Let names (renamed_cores bound r) (renamed_core body (without_names names r))
  renamed_core (Mv parts) r = Mv (renamed_cores parts r)
  renamed_core (MvLet names bound body) r = MvLet names (renamed_core bound r) (renamed_core body (without_names names r))
  renamed_core (StobjLet names bound vars producer consumer) r =
      StobjLet names (renamed_cores bound r) vars (renamed_core producer (without_names names r)) (renamed_core consumer (without_names (names ++ vars) r))
  renamed_core (WithLocal stobj names producer body) r =
      WithLocal stobj names (renamed_core producer (without_names (stobj ∷ []) r)) (renamed_core body (without_names (stobj ∷ names) r))
  renamed_core (MustBeEqual logic exec) r = MustBeEqual (renamed_core logic r) (renamed_core exec r)
  renamed_core (Call f actuals) r = Call f (renamed_cores actuals r)

  pub renamed_cores : Cores → Renaming → Cores
  renamed_cores none r = none
  renamed_cores (more f fs) r = more (renamed_core f r) (renamed_cores fs r)

-- a form with other functions in it
unfoldable mutual
  pub with_functions : Core → Renaming → Core
  with_functions (Var x) r = Var x
  with_functions (Const o) r = Const o
  with_functions (If a b c) r = If (with_functions a r) (with_functions b r) (with_functions c r)
  with_functions (Let names bound body) r = Let names (all_with_functions bound r) (with_functions body r)
  with_functions (Mv parts) r = Mv (all_with_functions parts r)
  with_functions (MvLet names bound body) r = MvLet names (with_functions bound r) (with_functions body r)
  with_functions (StobjLet names bound vars producer consumer) r =
      StobjLet names (all_with_functions bound r) vars (with_functions producer r) (with_functions consumer r)
  with_functions (WithLocal stobj names producer body) r = WithLocal stobj names (with_functions producer r) (with_functions body r)
  with_functions (MustBeEqual logic exec) r = MustBeEqual (with_functions logic r) (with_functions exec r)
  with_functions (Call f actuals) r = Call (renamed_name r f) (all_with_functions actuals r)

  pub all_with_functions : Cores → Renaming → Cores
  all_with_functions none r = none
  all_with_functions (more f fs) r = more (with_functions f r) (all_with_functions fs r)

-- whether a form inside binds this name
unfoldable mutual
  pub binds : Core → ℕ → Bool
  binds (Var x) y = false
  binds (Const o) y = false
  binds (If a b c) y = binds a y || (binds b y || binds c y)
  binds (Let names bound body) y = has names y || (any_binds bound y || binds body y)
  binds (Mv parts) y = any_binds parts y
  binds (MvLet names bound body) y = has names y || (binds bound y || binds body y)
  binds (StobjLet names bound vars producer consumer) y =
      has names y || (has vars y || (any_binds bound y || (binds producer y || binds consumer y)))
  binds (WithLocal stobj names producer body) y = has (stobj ∷ names) y || (binds producer y || binds body y)
  binds (MustBeEqual logic exec) y = binds logic y || binds exec y
  binds (Call f actuals) y = any_binds actuals y

  pub any_binds : Cores → ℕ → Bool
  any_binds none y = false
  any_binds (more f fs) y = binds f y || any_binds fs y

-- ---- guards of the functions of a concrete stobj

-- the actual of this number
abbrev pub actual : List Core → ℕ → Core
actual actuals i = unwrap_or (slice_get actuals i) false_core

abbrev pub zero_core : Core
zero_core = Const (Integer (pos 0))

-- an integer not below 0 that also passes this test
abbrev pub natural_that : Core → Core → Core
natural_that n test = and_core (integer_test n) (and_core (not_below n zero_core) test)

-- an index into the array whose length this function gives
abbrev pub index_guard : ℕ → Core → Core → Core
index_guard length i st = natural_that i (call_core below_word (i ∷ call_core length (st ∷ []) ∷ []))

abbrev pub resize_guard : Bool → Core → Core
resize_guard true n = natural_that n (not_below (Const (Integer (pos most_elements))) n)
resize_guard false n = false_core

abbrev pub value_guard : Object ℕ → Core → Core
value_guard t v = unwrap_or (type_term t v) true_core

-- also that a value meets a type, where it is not `T`
abbrev pub and_value_guard : Core → Object ℕ → Core → Core
and_value_guard test t v = if is truth t then test else and_core test (value_guard t v)

abbrev pub key_guard : Test → Core → Core
key_guard Eq key = call_core symbolp_word (key ∷ [])
key_guard Eql key = If (integer_test key) true_core (call_core symbolp_word (key ∷ []))
key_guard Equal key = true_core

abbrev pub access_guard : Field → Shape → List Core → Core
access_guard f (Scalar t o) actuals = true_core
access_guard f (Array t o n resizable) actuals = index_guard (number_at f.made 1) (actual actuals 0) (actual actuals 1)
access_guard f (Hash test) actuals = true_core
access_guard f (Child x) actuals = true_core
access_guard f (Children x n) actuals = index_guard (number_at f.made 1) (actual actuals 0) (actual actuals 1)

abbrev pub update_guard : Field → Shape → List Core → Core
update_guard f (Scalar t o) actuals = value_guard t (actual actuals 0)
update_guard f (Array t o n resizable) actuals = and_value_guard (index_guard (number_at f.made 1) (actual actuals 0) (actual actuals 2)) t (actual actuals 1)
update_guard f (Hash test) actuals = true_core
update_guard f (Child x) actuals = true_core
update_guard f (Children x n) actuals = index_guard (number_at f.made 1) (actual actuals 0) (actual actuals 2)

abbrev pub shape_resize_guard : Shape → List Core → Core
shape_resize_guard (Array t o n resizable) actuals = resize_guard resizable (actual actuals 0)
shape_resize_guard s actuals = false_core

abbrev pub hash_guard : Shape → List Core → Core
hash_guard (Hash test) actuals = key_guard test (actual actuals 0)
hash_guard s actuals = true_core

abbrev pub role_guard : Role → Field → List Core → Core
role_guard role.Recognizer f actuals = true_core
role_guard role.Creator f actuals = true_core
role_guard role.FieldRecognizer f actuals = true_core
role_guard role.Access f actuals = access_guard f f.shape actuals
role_guard role.Update f actuals = update_guard f f.shape actuals
role_guard role.Length f actuals = true_core
role_guard role.Resize f actuals = shape_resize_guard f.shape actuals
role_guard role.HashGet f actuals = hash_guard f.shape actuals
role_guard role.HashBoundp f actuals = hash_guard f.shape actuals
role_guard role.HashGetBound f actuals = hash_guard f.shape actuals
role_guard role.HashPut f actuals = hash_guard f.shape actuals
role_guard role.HashRem f actuals = hash_guard f.shape actuals
role_guard role.HashCount f actuals = true_core
role_guard role.HashClear f actuals = true_core

-- the guard of a function of a stobj over these actuals, the stobj's variable among them
unfoldable pub generated_guard : World → GeneratedFunction → List Core → Core
generated_guard w g actuals = option_map_or (λ f. role_guard g.role f actuals) (field_of w g) true_core
