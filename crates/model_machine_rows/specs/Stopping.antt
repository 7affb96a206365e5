-- Exports that stop inside after writes: (defstobj kid (kn :type integer :initially 0)), (defstobj st$c (n$c :type integer
-- :initially 0) (a$c :type (array integer (3)) :initially 0) (kid-of$c :type kid)), and exports of `st`, which is kept as `st$c`.
use Rattle.std.specs.Prelude.{◌≡◌, ℕ, ◌-◌, ◌^◌, List, [], ◌∷◌, ◌++◌, map, false, Option, Some, None, pos}
use Rattle.model_objects.specs.Object.{Object, Integer, Symbol}
use Rattle.model_lists.specs.Lists.{StobjList, Value}
use Rattle.model_lists.specs.Types.{integer_word}
use Rattle.model_terms.specs.Cores.{Core, Var, Const, Let, Mv, StobjLet, WithLocal, cores}
use Rattle.model_terms.specs.Worlds.{World, Definition, Ordinary, Abstract, OfAbstract}
use Rattle.model_terms.specs.Worlds as worlds
use Rattle.model_terms.specs.declared.role.Role.TheVariants as role
use Rattle.model_terms.specs.declared.role.AbstractRole.TheVariants as abstract_role
use Rattle.model_eval.specs.Outcomes.{Plain, StobjNamed, Stop, Guard, Steps, Depth, Range, OutcomeOf, Outcome, Gives, Stops, Unknown}
use Rattle.model_eval.specs.PlacesKeeping.{Journal, Closed, Store}
use Rattle.model_eval.specs.Checked.{live}
use Rattle.model_eval.specs.InPlace.{in_place, begun_in_place}
use Rattle.model_eval_rows.specs.Books.{Row, AreRight, number, symbol, int, quoted, call, always, items, numbers, primitives, function, generated, stobj, integer_field, origin, state, plus_word}
use Rattle.model_machine_rows.specs.Rows.{AreRightInPlace}

abbrev kid : ℕ
kid = 196

abbrev foundation : ℕ
foundation = 197

abbrev st : ℕ
st = 198

abbrev update_kid : ℕ
update_kid = 199

abbrev n_c : ℕ
n_c = 200

abbrev update_n_c : ℕ
update_n_c = 201

abbrev update_ai_c : ℕ
update_ai_c = 202

abbrev kid_of_c : ℕ
kid_of_c = 203

abbrev add_c : ℕ
add_c = 204

abbrev fill_c : ℕ
fill_c = 205

abbrev keep_c : ℕ
keep_c = 206

abbrev deep_c : ℕ
deep_c = 207

abbrev add : ℕ
add = 208

abbrev fill : ℕ
fill = 209

abbrev keep : ℕ
keep = 210

abbrev deep : ℕ
deep = 211

abbrev both : ℕ
both = 212

abbrev v : ℕ
v = 213

abbrev a : ℕ
a = 214

abbrev x : ℕ
x = 215

abbrev greatest : Object ℕ
greatest = Integer (pos (2 ^ 127 - 1))

-- ---- the book

-- an export of a value and the stobj, with a guard that holds
abbrev exported : ℕ → ℕ → Definition
exported name exec = OfAbstract (record {
  name = name;
  stobj = st;
  role = abstract_role.Export;
  formals = v ∷ st ∷ [];
  signature = record { ins = Ordinary ∷ worlds.Stobj st ∷ []; outs = worlds.Stobj st ∷ [] };
  guard = always;
  logic = 0;
  exec = exec;
})

abbrev exec_function : ℕ → Core → Definition
exec_function name body = function name (v ∷ foundation ∷ []) (Ordinary ∷ worlds.Stobj foundation ∷ []) (worlds.Stobj foundation ∷ []) always body

-- (let ((x form)) body), for a stobj
abbrev let_stobj : ℕ → Core → Core → Core
let_stobj stobj form body = Let (stobj ∷ []) (cores (form ∷ [])) body

abbrev on_foundation : ℕ → List Core → Core
on_foundation f actuals = call f (actuals ++ Var foundation ∷ [])

-- (let ((st$c (update-n$c v st$c))) (update-n$c (+ (n$c st$c) 1) st$c))
abbrev add_body : Core
add_body =
    let_stobj foundation (on_foundation update_n_c (Var v ∷ []))
    (on_foundation update_n_c (call plus_word (on_foundation n_c [] ∷ int 1 ∷ []) ∷ []))

-- (let ((st$c (update-a$ci 0 v st$c))) (let ((st$c (update-a$ci 1 v st$c))) (update-a$ci 9 v st$c))), which has no ninth
abbrev fill_body : Core
fill_body =
    let_stobj foundation (on_foundation update_ai_c (int 0 ∷ Var v ∷ []))
    (let_stobj foundation (on_foundation update_ai_c (int 1 ∷ Var v ∷ [])) (on_foundation update_ai_c (int 9 ∷ Var v ∷ [])))

-- (stobj-let ((kid (kid-of$c st$c))) (kid) (update-kid v kid) (update-n$c v st$c))
abbrev keep_body : Core
keep_body =
    StobjLet (kid ∷ []) (cores (on_foundation kid_of_c [] ∷ [])) (kid ∷ []) (call update_kid (Var v ∷ Var kid ∷ []))
    (on_foundation update_n_c (Var v ∷ []))

-- (let ((st$c (update-n$c v st$c))) (with-local-stobj st (mv-let (x st) (let ((st (add v st))) (mv 1 st)) (update-n$c 'a st$c))))
abbrev deep_body : Core
deep_body =
    let_stobj foundation (on_foundation update_n_c (Var v ∷ []))
    (WithLocal st (x ∷ st ∷ []) (let_stobj st (call add (Var v ∷ Var st ∷ [])) (Mv (cores (int 1 ∷ Var st ∷ [])))) (on_foundation update_n_c (quoted a ∷ [])))

-- (let ((st (add v st))) (add 2^127-1 st))
abbrev both_body : Core
both_body = let_stobj st (call add (Var v ∷ Var st ∷ [])) (call add (Const greatest ∷ Var st ∷ []))

abbrev book : World
book =
    primitives
    ++ (stobj kid (integer_field ∷ []) None kid
    ∷ stobj foundation (integer_field ∷ worlds.Array (Symbol integer_word) (number 0) 3 false ∷ worlds.Child kid ∷ []) None foundation
    ∷ generated update_kid kid 0 role.Update (Ordinary ∷ worlds.Stobj kid ∷ []) (worlds.Stobj kid ∷ [])
    ∷ generated n_c foundation 0 role.Access (worlds.Stobj foundation ∷ []) (Ordinary ∷ [])
    ∷ generated update_n_c foundation 0 role.Update (Ordinary ∷ worlds.Stobj foundation ∷ []) (worlds.Stobj foundation ∷ [])
    ∷ generated update_ai_c foundation 1 role.Update (Ordinary ∷ Ordinary ∷ worlds.Stobj foundation ∷ []) (worlds.Stobj foundation ∷ [])
    ∷ generated kid_of_c foundation 2 role.Access (worlds.Stobj foundation ∷ []) (worlds.Stobj kid ∷ [])
    ∷ exec_function add_c add_body
    ∷ exec_function fill_c fill_body
    ∷ exec_function keep_c keep_body
    ∷ exec_function deep_c deep_body
    ∷ Abstract (record {
      name = st;
      foundation = foundation;
      corr = 0;
      recognizer = record { name = 0; logic = 0; exec = 0 };
      creator = record { name = 0; logic = 0; exec = 0 };
      exports = [];
    })
    ∷ exported add add_c
    ∷ exported fill fill_c
    ∷ exported keep keep_c
    ∷ exported deep deep_c
    ∷ function both (v ∷ st ∷ []) (Ordinary ∷ worlds.Stobj st ∷ []) (worlds.Stobj st ∷ []) always both_body
    ∷ [])

-- ---- rows

-- the stobj with this number, and this one in the child
abbrev holding : ℕ → ℕ → List (ℕ × StobjList ℕ)
holding n in_child = (st, items (Value (number n) ∷ numbers (0 ∷ 0 ∷ 0 ∷ []) ∷ numbers (in_child ∷ []) ∷ [])) ∷ []

-- a call with the stobj, which has 4
abbrev run : ℕ → ℕ → ℕ → Object ℕ → Outcome ℕ → Row
run limit depth f value answer = record { world = book; limit = limit; depth = depth; stobjs = holding 4 0; form = call f (Const value ∷ Var st ∷ []); answer = answer }

abbrev given : ℕ → ℕ → ℕ → Outcome ℕ
given n in_child calls = Gives (StobjNamed st ∷ []) (state (holding n in_child) calls 1)

-- a stop inside an export that was the first outer call: the stobj is as it was
abbrev stopped : Stop ℕ → ℕ → ℕ → Outcome ℕ
stopped stop export calls = Stops stop (origin (Some export) 1) (state (holding 4 0) calls 1)

unfoldable pub stopping_rows : List Row
stopping_rows =
    -- it ends: its writes stay
    run 1000 100 add (number 5) (given 6 0 6)
    -- a primitive stops after one write, for what it would give
    ∷ run 1000 100 add greatest (stopped (Range plus_word) add 5)
    -- no call is left for the second write
    ∷ run 5 100 add (number 5) (stopped Steps add 5)
    -- the guard of the third write fails
    ∷ run 1000 100 fill (number 7) (stopped (Guard update_ai_c (Plain (number 9) ∷ Plain (number 7) ∷ StobjNamed foundation ∷ [])) fill 5)
    -- no form may be opened after the first
    ∷ run 1000 3 fill (number 7) (stopped Depth fill 3)
    -- a child was written: before it is put into its parent, and after it
    ∷ run 1000 100 keep (number 7) (given 7 7 6)
    ∷ run 4 100 keep (number 7) (stopped Steps keep 4)
    ∷ run 5 100 keep (number 7) (stopped Steps keep 5)
    -- an export of a local stobj, inside: it ends, and the outer one stops; and it stops inside
    ∷ run 1000 100 deep (number 5) (stopped (Guard update_n_c (Plain (symbol a) ∷ StobjNamed foundation ∷ [])) deep 11)
    ∷ run 1000 100 deep greatest (stopped (Range plus_word) deep 9)
    ∷ run 8 100 deep (number 5) (stopped Steps deep 8)
    -- what the export before it wrote stays, and it is the third outer call
    ∷ run 1000 100 both (number 5) (Stops (Range plus_word) (origin (Some add) 3) (state (holding 6 0) 12 3))
    ∷ []

-- what a store remembers in the end
abbrev pub journal_after : OutcomeOf ℕ (Store ℕ) → Option (Journal ℕ)
journal_after (Gives values state) = Some state.stobjs.journal
journal_after (Stops stop origin state) = Some state.stobjs.journal
journal_after Unknown = None

abbrev pub remembered : Row → Option (Journal ℕ)
remembered r = journal_after (in_place r.world [] r.limit r.depth r.form (live r.stobjs) (begun_in_place [] r.stobjs 0))

-- the answers are the same with lists and in place, and no store remembers anything in the end
pub record StopsRestore (rows : List Row) : Type 0 where
  pub on_lists : AreRight rows
  pub in_place : AreRightInPlace rows
  pub forgotten : map remembered rows ≡ map (λ (r : Row). Some Closed) rows
