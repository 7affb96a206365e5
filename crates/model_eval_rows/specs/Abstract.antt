-- An abstract stobj: (defstobj st$c (val$c :type integer :initially 0)) is its foundation; `val` and `update-val` are exports,
-- and `twice`, which runs (let ((st$c (update-val$c (val$c st$c) st$c))) (update-val$c v st$c)) with the guard (natp v).
use Rattle.std.specs.Prelude.{ℕ, List, [], ◌∷◌, ◌++◌, Some, None}
use Rattle.model_lists.specs.Lists.{StobjList}
use Rattle.model_terms.specs.Cores.{Core, Var, Let, WithLocal, Mv, cores}
use Rattle.model_terms.specs.Worlds.{World, Definition, Ordinary, Abstract, OfAbstract}
use Rattle.model_terms.specs.Worlds as worlds
use Rattle.model_terms.specs.declared.role.Role.TheVariants as role
use Rattle.model_terms.specs.declared.role.AbstractRole.{AbstractRole}
use Rattle.model_terms.specs.declared.role.AbstractRole.TheVariants as abstract_role
use Rattle.model_eval.specs.Outcomes.{Shown, Plain, StobjNamed, Stop, Guard, Steps, Depth, Outcome, Gives, Stops}
use Rattle.model_eval_rows.specs.Books.{Row, number, symbol, int, quoted, call, both_hold, always, numbers, primitives, function, generated, stobj, integer_field, origin, state, natp_word, integerp_word}

abbrev st : ℕ
st = 196

abbrev foundation : ℕ
foundation = 197

abbrev val_c : ℕ
val_c = 198

abbrev update_val_c : ℕ
update_val_c = 199

abbrev val : ℕ
val = 200

abbrev update_val : ℕ
update_val = 201

abbrev stp : ℕ
stp = 202

abbrev twice : ℕ
twice = 203

abbrev twice_c : ℕ
twice_c = 204

abbrev outermost : ℕ
outermost = 205

abbrev v : ℕ
v = 206

abbrev a : ℕ
a = 207

abbrev x : ℕ
x = 208

abbrev st_only : Core
st_only = call stp (Var st ∷ [])

abbrev export : ℕ → List ℕ → List worlds.Out → List worlds.Out → AbstractRole → Core → ℕ → Definition
export name formals ins outs what guard exec = OfAbstract (record {
  name = name;
  stobj = st;
  role = what;
  formals = formals;
  signature = record { ins = ins; outs = outs };
  guard = guard;
  logic = 0;
  exec = exec;
})

-- (let ((st$c (update-val$c (val$c st$c) st$c))) (update-val$c v st$c))
abbrev twice_body : Core
twice_body =
    Let (foundation ∷ []) (cores (call update_val_c (call val_c (Var foundation ∷ []) ∷ Var foundation ∷ []) ∷ []))
    (call update_val_c (Var v ∷ Var foundation ∷ []))

abbrev value_and_st : List worlds.Out
value_and_st = Ordinary ∷ worlds.Stobj st ∷ []

abbrev value_and_foundation : List worlds.Out
value_and_foundation = Ordinary ∷ worlds.Stobj foundation ∷ []

abbrev pub book : World
book =
    primitives
    ++ (stobj foundation (integer_field ∷ []) None foundation
    ∷ generated val_c foundation 0 role.Access (worlds.Stobj foundation ∷ []) (Ordinary ∷ [])
    ∷ generated update_val_c foundation 0 role.Update value_and_foundation (worlds.Stobj foundation ∷ [])
    ∷ function twice_c (v ∷ foundation ∷ []) value_and_foundation (worlds.Stobj foundation ∷ []) (call natp_word (Var v ∷ [])) twice_body
    ∷ Abstract (record {
      name = st;
      foundation = foundation;
      corr = 0;
      recognizer = record { name = stp; logic = 0; exec = 0 };
      creator = record { name = 0; logic = 0; exec = 0 };
      exports = [];
    })
    ∷ export stp (x ∷ []) (worlds.Stobj st ∷ []) (Ordinary ∷ []) abstract_role.Recognizer always 0
    ∷ export val (st ∷ []) (worlds.Stobj st ∷ []) (Ordinary ∷ []) abstract_role.Export st_only val_c
    ∷ export update_val (v ∷ st ∷ []) value_and_st (worlds.Stobj st ∷ []) abstract_role.Export
    (both_hold (call integerp_word (Var v ∷ [])) st_only) update_val_c
    ∷ export twice (v ∷ st ∷ []) value_and_st (worlds.Stobj st ∷ []) abstract_role.Export st_only twice_c
    ∷ function outermost (v ∷ st ∷ []) value_and_st (worlds.Stobj st ∷ []) always
    (Let (st ∷ []) (cores (call twice (Var v ∷ Var st ∷ []) ∷ [])) (call update_val (Var v ∷ Var st ∷ [])))
    ∷ [])

abbrev holding : ℕ → List (ℕ × StobjList ℕ)
holding n = (st, numbers (n ∷ [])) ∷ []

abbrev run : ℕ → ℕ → ℕ → Core → Outcome ℕ → Row
run limit depth before form answer = record { world = book; limit = limit; depth = depth; stobjs = holding before; form = form; answer = answer }

-- what is given, with all calls and those that no export made; and what stops inside an export or not, also with the number of
-- the outer call before which abstract evaluation is cut
abbrev gives_of : List (Shown ℕ) → ℕ → ℕ → ℕ → Outcome ℕ
gives_of values after calls outer = Gives values (state (holding after) calls outer)

abbrev stops_inside : Stop ℕ → ℕ → ℕ → ℕ → ℕ → ℕ → Outcome ℕ
stops_inside stop name cut after calls outer = Stops stop (origin (Some name) cut) (state (holding after) calls outer)

abbrev stops_outside : Stop ℕ → ℕ → ℕ → ℕ → ℕ → Outcome ℕ
stops_outside stop cut after calls outer = Stops stop (origin None cut) (state (holding after) calls outer)

unfoldable pub abstract_rows : List Row
abstract_rows =
    run 1000 100 0 (call update_val (int 5 ∷ Var st ∷ [])) (gives_of (StobjNamed st ∷ []) 5 4 3)
    ∷ run 1000 100 5 (call val (Var st ∷ [])) (gives_of (Plain (number 5) ∷ []) 5 3 2)
    -- an export's guard is not inside it
    ∷ run 1000 100 5 (call update_val (quoted a ∷ Var st ∷ [])) (stops_outside (Guard update_val (Plain (symbol a) ∷ StobjNamed st ∷ [])) 1 5 2 2)
    -- nor is the count of the exec function's call
    ∷ run 3 100 0 (call update_val (int 5 ∷ Var st ∷ [])) (stops_outside Steps 1 0 3 3)
    -- the exec function's guard is, and is named with the export's variable
    ∷ run 1000 100 5 (call twice (quoted a ∷ Var st ∷ [])) (stops_inside (Guard twice_c (Plain (symbol a) ∷ StobjNamed st ∷ [])) twice 1 5 4 2)
    -- inside, and in the calls below with the exec function's own variable
    ∷ run 3 100 5 (call twice (int 6 ∷ Var st ∷ [])) (stops_inside Steps twice 1 5 3 2)
    ∷ run 6 100 5 (call twice (int 6 ∷ Var st ∷ [])) (stops_inside Steps twice 1 5 6 2)
    ∷ run 1000 100 5 (call twice (int 6 ∷ Var st ∷ [])) (gives_of (StobjNamed st ∷ []) 6 7 2)
    -- in the guard of the second export, the fourth outer call: the list is as the first left it
    ∷ run 9 100 5 (call outermost (int 6 ∷ Var st ∷ [])) (stops_outside Steps 4 6 9 4)
    ∷ run 1000 100 5 (call outermost (int 6 ∷ Var st ∷ [])) (gives_of (StobjNamed st ∷ []) 6 12 6)
    -- the exec function opens nothing, its body's form does: with `twice` it is the third here
    ∷ run 1000 2 5 (call twice (int 6 ∷ Var st ∷ [])) (stops_inside Depth twice 1 5 4 2)
    -- a local abstract stobj is new
    ∷ run 1000 100 5
    (WithLocal st (x ∷ st ∷ []) (Mv (cores (call val (Var st ∷ []) ∷ Var st ∷ []))) (Var x))
    (gives_of (Plain (number 0) ∷ []) 5 4 3)
    ∷ []
