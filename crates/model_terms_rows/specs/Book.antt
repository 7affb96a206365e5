-- A small world, and how forms over it are written. The stobjs st and st2 are congruent, with one scalar field each
-- (a, b); other has a scalar field (x); kid and kid2 are congruent, with one scalar field each (val, val2); par and par2
-- are congruent, with an array of three kids (k), an array of two kids (m) and a scalar (n); box has one kid; gate is an abstract
-- stobj over st.
use Rattle.std.specs.Prelude.{ℕ, List, [], ◌∷◌, pos, Bool, true, false, Some, None, codes}
use Rattle.model_objects.specs.Object.{Object, Integer, Symbol}
use Rattle.model_symbols.specs.Opening.{truth, nil}
use Rattle.model_prims.specs.Rows.{lisp}
use Rattle.model_prims.specs.declared.prim.Prim.TheVariants.{Listing}
use Rattle.model_prims.specs.declared.prim.Listing.TheVariants as listing
use Rattle.model_terms.specs.Cores.{Core, Var, Const, Call, cores}
use Rattle.model_terms.specs.Worlds.{World, Definition, Primitive, Defined, Concrete, Generated, Abstract, OfAbstract, Out, Ordinary, Stobj, Signature, Entry, Scope, Field, Shape, Scalar, Child, Children, AbstractFunction}
use Rattle.model_terms.specs.declared.role.Role.{Role}
use Rattle.model_terms.specs.declared.role.Role.TheVariants as role
use Rattle.model_terms.specs.declared.role.AbstractRole.{AbstractRole}
use Rattle.model_terms.specs.declared.role.AbstractRole.TheVariants as abstract_role

-- ---- names: stobjs, functions, variables

abbrev pub st : ℕ
st = 1

abbrev pub st2 : ℕ
st2 = 2

abbrev pub other : ℕ
other = 3

abbrev pub kid : ℕ
kid = 4

abbrev pub kid2 : ℕ
kid2 = 5

abbrev pub par : ℕ
par = 6

abbrev pub par2 : ℕ
par2 = 7

abbrev pub box : ℕ
box = 8

abbrev pub gate : ℕ
gate = 9

abbrev pub get_a : ℕ
get_a = 21

abbrev pub update_a : ℕ
update_a = 22

abbrev pub get_b : ℕ
get_b = 23

abbrev pub update_b : ℕ
update_b = 24

abbrev pub get_x : ℕ
get_x = 25

abbrev pub update_x : ℕ
update_x = 26

abbrev pub val : ℕ
val = 27

abbrev pub update_val : ℕ
update_val = 28

abbrev pub val2 : ℕ
val2 = 29

abbrev pub update_val2 : ℕ
update_val2 = 30

abbrev pub ki : ℕ
ki = 31

abbrev pub update_ki : ℕ
update_ki = 32

abbrev pub ki2 : ℕ
ki2 = 33

abbrev pub mi : ℕ
mi = 34

abbrev pub mi2 : ℕ
mi2 = 35

abbrev pub get_n : ℕ
get_n = 36

abbrev pub update_n : ℕ
update_n = 37

abbrev pub get_kid : ℕ
get_kid = 38

abbrev pub update_kid : ℕ
update_kid = 39

abbrev pub create_st : ℕ
create_st = 40

abbrev pub both : ℕ
both = 41

abbrev pub pop : ℕ
pop = 42

abbrev pub noted : ℕ
noted = 43

abbrev pub create_gate : ℕ
create_gate = 44

abbrev pub gate_get : ℕ
gate_get = 45

abbrev pub gate_put : ℕ
gate_put = 46

abbrev pub pair : ℕ
pair = 47

abbrev pub plus_two : ℕ
plus_two = 48

abbrev pub pick : ℕ
pick = 49

abbrev pub k_length : ℕ
k_length = 50

abbrev pub u : ℕ
u = 61

abbrev pub v : ℕ
v = 62

abbrev pub x : ℕ
x = 63

abbrev pub y : ℕ
y = 64

abbrev pub i : ℕ
i = 65

abbrev pub j : ℕ
j = 66

-- ---- forms

abbrev pub var : ℕ → Core
var n = Var n

abbrev pub number : ℕ → Core
number n = Const (Integer (pos n))

-- `NIL`
abbrev pub null_object : Object ℕ
null_object = Symbol nil

abbrev pub null : Core
null = Const null_object

abbrev pub call : ℕ → List Core → Core
call f actuals = Call f (cores actuals)

-- ---- signatures and scopes

abbrev pub o : Out
o = Ordinary

abbrev pub takes : List Out → List Out → Signature
takes ins outs = record { ins = ins; outs = outs }

-- the variable of a stobj
abbrev pub of_object : ℕ → Entry
of_object name = record { name = name; kind = Stobj name }

abbrev pub of_value : ℕ → Entry
of_value name = record { name = name; kind = Ordinary }

-- ---- definitions

-- the field's functions are named where they are defined
abbrev pub field : ℕ → Shape → Field
field name shape = record { name = name; shape = shape; made = [] }

abbrev pub scalar : Shape
scalar = Scalar (Symbol truth) null_object

abbrev pub stobj : ℕ → ℕ → List Field → Definition
stobj name class fields = Concrete (record { name = name; recognizer = 0; creator = 0; fields = fields; congruent_to = None }) class

-- a function of field k of a stobj
abbrev pub of_field : ℕ → ℕ → ℕ → Role → Signature → Definition
of_field name stobj k r s = Generated (record { name = name; stobj = stobj; field = Some k; role = r; signature = s })

abbrev pub function : ℕ → List ℕ → Signature → Bool → Definition
function name formals s executable = Defined (record { name = name; formals = formals; signature = s; guard = null; body = null; executable = executable })

abbrev pub abstract_function : ℕ → AbstractFunction
abstract_function name = record { name = name; logic = 0; exec = 0 }

abbrev pub of_gate : ℕ → AbstractRole → List ℕ → Signature → Definition
of_gate name r formals s = OfAbstract (record { name = name; stobj = gate; role = r; formals = formals; signature = s; guard = null; logic = 0; exec = 0 })

unfoldable pub book : World
book =
    Primitive pair (lisp (codes "CONS") 2 (Listing listing.Cons))
    ∷ stobj st st (field 0 scalar ∷ [])
    ∷ of_field get_a st 0 role.Access (takes (Stobj st ∷ []) (o ∷ []))
    ∷ of_field update_a st 0 role.Update (takes (o ∷ Stobj st ∷ []) (Stobj st ∷ []))
    ∷ Generated (record { name = create_st; stobj = st; field = None; role = role.Creator; signature = takes [] (Stobj st ∷ []) })
    ∷ stobj st2 st (field 0 scalar ∷ [])
    ∷ of_field get_b st2 0 role.Access (takes (Stobj st2 ∷ []) (o ∷ []))
    ∷ of_field update_b st2 0 role.Update (takes (o ∷ Stobj st2 ∷ []) (Stobj st2 ∷ []))
    ∷ stobj other other (field 0 scalar ∷ [])
    ∷ of_field get_x other 0 role.Access (takes (Stobj other ∷ []) (o ∷ []))
    ∷ of_field update_x other 0 role.Update (takes (o ∷ Stobj other ∷ []) (Stobj other ∷ []))
    ∷ stobj kid kid (field 0 scalar ∷ [])
    ∷ of_field val kid 0 role.Access (takes (Stobj kid ∷ []) (o ∷ []))
    ∷ of_field update_val kid 0 role.Update (takes (o ∷ Stobj kid ∷ []) (Stobj kid ∷ []))
    ∷ stobj kid2 kid (field 0 scalar ∷ [])
    ∷ of_field val2 kid2 0 role.Access (takes (Stobj kid2 ∷ []) (o ∷ []))
    ∷ of_field update_val2 kid2 0 role.Update (takes (o ∷ Stobj kid2 ∷ []) (Stobj kid2 ∷ []))
    ∷ stobj par par (field 0 (Children kid 3) ∷ field 1 (Children kid 2) ∷ field 2 scalar ∷ [])
    ∷ of_field k_length par 0 role.Length (takes (Stobj par ∷ []) (o ∷ []))
    ∷ of_field ki par 0 role.Access (takes (o ∷ Stobj par ∷ []) (Stobj kid ∷ []))
    ∷ of_field update_ki par 0 role.Update (takes (o ∷ Stobj kid ∷ Stobj par ∷ []) (Stobj par ∷ []))
    ∷ of_field mi par 1 role.Access (takes (o ∷ Stobj par ∷ []) (Stobj kid ∷ []))
    ∷ of_field get_n par 2 role.Access (takes (Stobj par ∷ []) (o ∷ []))
    ∷ of_field update_n par 2 role.Update (takes (o ∷ Stobj par ∷ []) (Stobj par ∷ []))
    ∷ stobj par2 par (field 0 (Children kid 3) ∷ field 1 (Children kid 2) ∷ field 2 scalar ∷ [])
    ∷ of_field ki2 par2 0 role.Access (takes (o ∷ Stobj par2 ∷ []) (Stobj kid ∷ []))
    ∷ of_field mi2 par2 1 role.Access (takes (o ∷ Stobj par2 ∷ []) (Stobj kid ∷ []))
    ∷ stobj box box (field 0 (Child kid) ∷ [])
    ∷ of_field get_kid box 0 role.Access (takes (Stobj box ∷ []) (Stobj kid ∷ []))
    ∷ of_field update_kid box 0 role.Update (takes (Stobj kid ∷ Stobj box ∷ []) (Stobj box ∷ []))
    ∷ function both (st ∷ st2 ∷ []) (takes (Stobj st ∷ Stobj st2 ∷ []) (Stobj st ∷ Stobj st2 ∷ [])) true
    ∷ function pop (st ∷ []) (takes (Stobj st ∷ []) (o ∷ Stobj st ∷ [])) true
    ∷ function plus_two (x ∷ []) (takes (o ∷ []) (o ∷ [])) true
    ∷ function pick (x ∷ []) (takes (o ∷ []) (o ∷ o ∷ [])) true
    ∷ function noted (x ∷ []) (takes (o ∷ []) (o ∷ [])) false
    ∷ Abstract (record { name = gate; foundation = st; corr = 0; recognizer = abstract_function 0; creator = abstract_function create_gate; exports = abstract_function gate_get ∷ abstract_function gate_put ∷ [] })
    ∷ of_gate create_gate abstract_role.Creator [] (takes [] (Stobj gate ∷ []))
    ∷ of_gate gate_get abstract_role.Export (gate ∷ []) (takes (Stobj gate ∷ []) (o ∷ []))
    ∷ of_gate gate_put abstract_role.Export (v ∷ gate ∷ []) (takes (o ∷ Stobj gate ∷ []) (Stobj gate ∷ []))
    ∷ []

-- every stobj is in scope
abbrev pub all_objects : Scope
all_objects =
    of_object st ∷ of_object st2 ∷ of_object other ∷ of_object kid ∷ of_object kid2 ∷ of_object par ∷ of_object par2 ∷ of_object box ∷ of_object gate ∷ []
