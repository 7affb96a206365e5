-- A small stack machine: its program is a list of instructions, its stobj has a counter, a stack, a memory of 16 numbers,
-- names of places and a program. Instructions are (push n), (load name), (store name) and (add).
use Rattle.std.specs.Prelude.{ℕ, List, [], ◌∷◌, ◌++◌, map, replicate, false, None}
use Rattle.acl_base.specs.declared.layout.Test.TheVariants.{Eq}
use Rattle.model_objects.specs.Object.{Object, Symbol, list_onto}
use Rattle.model_symbols.specs.Opening.{nil, truth}
use Rattle.model_prims.specs.declared.prim.Prim.TheVariants.{Recognizer, Relation, Listing}
use Rattle.model_prims.specs.declared.prim.Recognizer.TheVariants as recognizer
use Rattle.model_prims.specs.declared.prim.Relation.TheVariants as relation
use Rattle.model_prims.specs.declared.prim.Listing.TheVariants as listing
use Rattle.model_lists.specs.Lists.{StobjList, Value, Pairs}
use Rattle.model_lists.specs.Types.{integer_word, signed_byte_word}
use Rattle.model_terms.specs.Cores.{Core, Var, Const, If, Let, Mv, MvLet, cores}
use Rattle.model_terms.specs.Worlds.{World, Definition, Ordinary}
use Rattle.model_terms.specs.Worlds as worlds
use Rattle.model_terms.specs.declared.role.Role.TheVariants as role
use Rattle.model_eval.specs.Outcomes.{StobjNamed, Guard, Outcome}
use Rattle.model_eval_rows.specs.Books.{Row, number, symbol, quoted, call, both_hold, always, items, numbers, primitives, primitive, function, generated, stobj, gives, stops, car_word, cons_word, plus_word}

-- ---- names

abbrev cdr_word : ℕ
cdr_word = 7

abbrev consp_word : ℕ
consp_word = 9

abbrev endp_word : ℕ
endp_word = 11

abbrev eql_word : ℕ
eql_word = 15

abbrev symbolp_word : ℕ
symbolp_word = 17

abbrev true_listp_word : ℕ
true_listp_word = 141

-- the variable that an expansion binds
abbrev hidden : ℕ
hidden = 195

abbrev sm : ℕ
sm = 196

abbrev stk : ℕ
stk = 197

abbrev update_stk : ℕ
update_stk = 198

abbrev memi : ℕ
memi = 199

abbrev update_memi : ℕ
update_memi = 200

abbrev names_get : ℕ
names_get = 201

abbrev names_put : ℕ
names_put = 202

abbrev push_val : ℕ
push_val = 203

abbrev pop_val : ℕ
pop_val = 204

abbrev addr : ℕ
addr = 205

abbrev step1 : ℕ
step1 = 206

abbrev run_code : ℕ
run_code = 207

abbrev push : ℕ
push = 208

abbrev load : ℕ
load = 209

abbrev store : ℕ
store = 210

abbrev add : ℕ
add = 211

abbrev v : ℕ
v = 212

abbrev a : ℕ
a = 213

abbrev b : ℕ
b = 214

abbrev ins : ℕ
ins = 215

abbrev code : ℕ
code = 216

abbrev x : ℕ
x = 217

abbrev y : ℕ
y = 218

-- ---- the book

abbrev list : List (Object ℕ) → Object ℕ
list os = list_onto os (Symbol nil)

abbrev on_sm : ℕ → Core
on_sm f = call f (Var sm ∷ [])

abbrev car_of : Core → Core
car_of form = call car_word (form ∷ [])

abbrev cdr_of : Core → Core
cdr_of form = call cdr_word (form ∷ [])

-- (update-stk (cons v (stk sm)) sm)
abbrev push_body : Core
push_body = call update_stk (call cons_word (Var v ∷ on_sm stk ∷ []) ∷ Var sm ∷ [])

-- (let ((v (car (stk sm)))) (let ((sm (update-stk (cdr (stk sm)) sm))) (mv v sm)))
abbrev pop_body : Core
pop_body =
    Let (v ∷ []) (cores (car_of (on_sm stk) ∷ []))
    (Let (sm ∷ []) (cores (call update_stk (cdr_of (on_sm stk) ∷ Var sm ∷ []) ∷ [])) (Mv (cores (Var v ∷ Var sm ∷ []))))

abbrev argument : Core
argument = car_of (cdr_of (Var ins))

abbrev place : Core
place = call addr (argument ∷ Var sm ∷ [])

abbrev pushed : Core → Core
pushed form = call push_val (form ∷ Var sm ∷ [])

abbrev is_case : ℕ → Core
is_case k = call eql_word (Var hidden ∷ quoted k ∷ [])

abbrev popped : ℕ → Core → Core
popped name body = MvLet (name ∷ sm ∷ []) (on_sm pop_val) body

abbrev step_body : Core
step_body =
    Let (hidden ∷ []) (cores (car_of (Var ins) ∷ []))
    (If (is_case push) (pushed argument)
    (If (is_case load) (pushed (call memi (place ∷ Var sm ∷ [])))
    (If (is_case store) (popped v (call update_memi (place ∷ Var v ∷ Var sm ∷ [])))
    (If (is_case add) (popped a (popped b (pushed (call plus_word (Var a ∷ Var b ∷ [])))))
    (Var sm)))))

-- (if (endp code) sm (let ((sm (step1 (car code) sm))) (run-code (cdr code) sm)))
abbrev run_body : Core
run_body =
    If (call endp_word (Var code ∷ [])) (Var sm)
    (Let (sm ∷ []) (cores (call step1 (car_of (Var code) ∷ Var sm ∷ []) ∷ [])) (call run_code (cdr_of (Var code) ∷ Var sm ∷ [])))

abbrev value_and_sm : List worlds.Out
value_and_sm = Ordinary ∷ worlds.Stobj sm ∷ []

abbrev just_sm : List worlds.Out
just_sm = worlds.Stobj sm ∷ []

abbrev signed_32 : Object ℕ
signed_32 = list (Symbol signed_byte_word ∷ number 32 ∷ [])

abbrev book : World
book =
    primitives
    ++ (primitive cdr_word 1 (Listing listing.Cdr)
    ∷ primitive consp_word 1 (Recognizer recognizer.Consp)
    ∷ primitive endp_word 1 (Recognizer recognizer.Endp)
    ∷ primitive eql_word 2 (Relation relation.Eql)
    ∷ primitive symbolp_word 1 (Recognizer recognizer.Symbolp)
    ∷ primitive true_listp_word 1 (Recognizer recognizer.TrueListp)
    ∷ stobj sm
    (worlds.Scalar (list (Symbol integer_word ∷ number 0 ∷ number 1000 ∷ [])) (number 0) ∷ worlds.Scalar (Symbol truth) (Symbol nil)
    ∷ worlds.Array signed_32 (number 0) 16 false ∷ worlds.Hash Eq ∷ worlds.Scalar (Symbol truth) (Symbol nil) ∷ [])
    None sm
    ∷ generated stk sm 1 role.Access just_sm (Ordinary ∷ [])
    ∷ generated update_stk sm 1 role.Update value_and_sm just_sm
    ∷ generated memi sm 2 role.Access value_and_sm (Ordinary ∷ [])
    ∷ generated update_memi sm 2 role.Update (Ordinary ∷ value_and_sm) just_sm
    ∷ generated names_get sm 3 role.HashGet value_and_sm (Ordinary ∷ [])
    ∷ generated names_put sm 3 role.HashPut (Ordinary ∷ value_and_sm) just_sm
    ∷ function push_val (v ∷ sm ∷ []) value_and_sm just_sm always push_body
    ∷ function pop_val (sm ∷ []) just_sm value_and_sm (call consp_word (on_sm stk ∷ [])) pop_body
    ∷ function addr (x ∷ sm ∷ []) value_and_sm (Ordinary ∷ []) (call symbolp_word (Var x ∷ [])) (call names_get (Var x ∷ Var sm ∷ []))
    ∷ function step1 (ins ∷ sm ∷ []) value_and_sm just_sm (both_hold (call true_listp_word (Var ins ∷ [])) (call consp_word (Var ins ∷ []))) step_body
    ∷ function run_code (code ∷ sm ∷ []) value_and_sm just_sm (call true_listp_word (Var code ∷ [])) run_body
    ∷ [])

-- ---- runs

abbrev names : List (Object ℕ × Object ℕ)
names = (symbol y, number 4) ∷ (symbol x, number 3) ∷ []

-- the machine with this stack, and these numbers at the places 3 and 4
abbrev machine : List ℕ → ℕ → ℕ → StobjList ℕ
machine stack third fourth =
    items
    (Value (number 0) ∷ Value (list (map number stack)) ∷ numbers (0 ∷ 0 ∷ 0 ∷ third ∷ fourth ∷ replicate 11 0) ∷ Pairs names ∷ Value (Symbol nil) ∷ [])

abbrev instruction : ℕ → List (Object ℕ) → Object ℕ
instruction op args = list (Symbol op ∷ args)

abbrev runs : StobjList ℕ → List (Object ℕ) → Outcome ℕ → Row
runs before program answer = record {
  world = book;
  limit = 1000000;
  depth = 2048;
  stobjs = (sm, before) ∷ [];
  form = call run_code (Const (list program) ∷ Var sm ∷ []);
  answer = answer;
}

unfoldable pub machine_rows : List Row
machine_rows =
    runs (machine [] 0 0)
    (instruction push (number 20 ∷ []) ∷ instruction push (number 22 ∷ []) ∷ instruction add [] ∷ instruction store (symbol x ∷ []) ∷ [])
    (gives (StobjNamed sm ∷ []) ((sm, machine [] 42 0) ∷ []) 95)
    ∷ runs (machine [] 42 0)
    (instruction load (symbol x ∷ []) ∷ instruction load (symbol x ∷ []) ∷ instruction add [] ∷ instruction store (symbol y ∷ []) ∷ [])
    (gives (StobjNamed sm ∷ []) ((sm, machine [] 42 84) ∷ []) 105)
    -- the second number that is to be added is missing: the first was taken from the stack
    ∷ runs (machine [] 42 84) (instruction push (number 1 ∷ []) ∷ instruction add [] ∷ []) (stops (Guard pop_val (StobjNamed sm ∷ [])) ((sm, machine [] 42 84) ∷ []) 39)
    ∷ []
