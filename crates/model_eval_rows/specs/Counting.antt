-- (defstobj st (pc :type integer :initially 0)), and two functions: `up` counts the field up, `spin` calls itself.
use Rattle.std.specs.Prelude.{ℕ, List, [], ◌∷◌, ◌++◌, None}
use Rattle.model_terms.specs.Cores.{Core, Var, If, Let, Mv, WithLocal, cores}
use Rattle.model_terms.specs.Worlds.{World, Ordinary}
use Rattle.model_terms.specs.Worlds as worlds
use Rattle.model_terms.specs.declared.role.Role.TheVariants as role
use Rattle.model_eval.specs.Outcomes.{Plain, StobjNamed, Guard, Steps, Depth, Outcome}
use Rattle.model_eval_rows.specs.Books.{Row, number, symbol, int, quoted, call, always, numbers, primitives, function, generated, created_stobj, integer_field, gives, stops, not_word, integerp_word, plus_word, minus_word, zp_word, natp_word}

abbrev pub st : ℕ
st = 196

abbrev pub pc : ℕ
pc = 197

abbrev pub update_pc : ℕ
update_pc = 198

abbrev create_st : ℕ
create_st = 205

abbrev pub stp : ℕ
stp = 206

abbrev pub up : ℕ
up = 199

abbrev pub spin : ℕ
spin = 200

abbrev pub local : ℕ
local = 201

abbrev n : ℕ
n = 202

abbrev x : ℕ
x = 203

abbrev pub a : ℕ
a = 204

-- the stobj and its functions
abbrev pub counter : World
counter =
    created_stobj create_st st (integer_field ∷ []) None st
    ∷ generated create_st st 0 role.Creator [] (worlds.Stobj st ∷ [])
    ∷ generated stp st 0 role.Recognizer (worlds.Stobj st ∷ []) (Ordinary ∷ [])
    ∷ generated pc st 0 role.Access (worlds.Stobj st ∷ []) (Ordinary ∷ [])
    ∷ generated update_pc st 0 role.Update (Ordinary ∷ worlds.Stobj st ∷ []) (worlds.Stobj st ∷ [])
    ∷ []

-- (if (not (zp n)) (let ((st (update-pc (+ 1 (pc st)) st))) (up (- n 1) st)) st)
abbrev up_body : Core
up_body =
    If (call not_word (call zp_word (Var n ∷ []) ∷ []))
    (Let (st ∷ []) (cores (call update_pc (call plus_word (int 1 ∷ call pc (Var st ∷ []) ∷ []) ∷ Var st ∷ []) ∷ []))
    (call up (call plus_word (Var n ∷ call minus_word (int 1 ∷ []) ∷ []) ∷ Var st ∷ [])))
    (Var st)

-- (with-local-stobj st (mv-let (x st) (let ((st (update-pc n st))) (mv (pc st) st)) x))
abbrev local_body : Core
local_body =
    WithLocal st (x ∷ st ∷ [])
    (Let (st ∷ []) (cores (call update_pc (Var n ∷ Var st ∷ []) ∷ [])) (Mv (cores (call pc (Var st ∷ []) ∷ Var st ∷ []))))
    (Var x)

abbrev pub book : World
book =
    primitives
    ++ (counter
    ++ (function up (n ∷ st ∷ []) (Ordinary ∷ worlds.Stobj st ∷ []) (worlds.Stobj st ∷ []) (call natp_word (Var n ∷ [])) up_body
    ∷ function spin (x ∷ []) (Ordinary ∷ []) (Ordinary ∷ []) always (call spin (Var x ∷ []))
    ∷ function local (n ∷ []) (Ordinary ∷ []) (Ordinary ∷ []) (call integerp_word (Var n ∷ [])) local_body
    ∷ []))

abbrev run : ℕ → ℕ → ℕ → Core → Outcome ℕ → Row
run limit depth before form answer = record {
  world = book;
  limit = limit;
  depth = depth;
  stobjs = (st, numbers (before ∷ [])) ∷ [];
  form = form;
  answer = answer;
}

abbrev pub up_three : Core
up_three = call up (int 3 ∷ Var st ∷ [])

unfoldable pub counting_rows : List Row
counting_rows =
    run 1000000 2048 0 up_three (gives (StobjNamed st ∷ []) ((st, numbers (3 ∷ [])) ∷ []) 31)
    -- 31 calls are just enough
    ∷ run 31 100 0 up_three (gives (StobjNamed st ∷ []) ((st, numbers (3 ∷ [])) ∷ []) 31)
    -- one less stops at the last, when the field was written
    ∷ run 30 100 0 up_three (stops Steps ((st, numbers (3 ∷ [])) ∷ []) 30)
    -- of (up 1 st), the sixth call is that of `+`, and the seventh that of the updater
    ∷ run 6 100 0 (call up (int 1 ∷ Var st ∷ [])) (stops Steps ((st, numbers (0 ∷ [])) ∷ []) 6)
    ∷ run 7 100 0 (call up (int 1 ∷ Var st ∷ [])) (stops Steps ((st, numbers (1 ∷ [])) ∷ []) 7)
    -- each call is inside the one before
    ∷ run 1000000 100 0 (call spin (int 1 ∷ [])) (stops Depth ((st, numbers (0 ∷ [])) ∷ []) 100)
    -- a guard that fails, in a function and in a function of a stobj
    ∷ run 1000000 100 4 (call up (quoted a ∷ Var st ∷ [])) (stops (Guard up (Plain (symbol a) ∷ StobjNamed st ∷ [])) ((st, numbers (4 ∷ [])) ∷ []) 2)
    ∷ run 1000000 100 4 (call update_pc (quoted a ∷ Var st ∷ [])) (stops (Guard update_pc (Plain (symbol a) ∷ StobjNamed st ∷ [])) ((st, numbers (4 ∷ [])) ∷ []) 1)
    -- several values
    ∷ run 1000000 100 4 (Mv (cores (call pc (Var st ∷ []) ∷ Var st ∷ []))) (gives (Plain (number 4) ∷ StobjNamed st ∷ []) ((st, numbers (4 ∷ [])) ∷ []) 1)
    -- a local stobj leaves the stobj of its name, at a stop too
    ∷ run 1000000 100 4 (call local (int 9 ∷ [])) (gives (Plain (number 9) ∷ []) ((st, numbers (4 ∷ [])) ∷ []) 5)
    ∷ run 4 100 4 (call local (int 9 ∷ [])) (stops Steps ((st, numbers (4 ∷ [])) ∷ []) 4)
    ∷ run 2 100 4 (call local (int 9 ∷ [])) (stops Steps ((st, numbers (4 ∷ [])) ∷ []) 2)
    -- a variable and a constant open nothing, another form does
    ∷ run 1000000 0 4 (int 8) (gives (Plain (number 8) ∷ []) ((st, numbers (4 ∷ [])) ∷ []) 0)
    ∷ run 1000000 0 4 (call pc (Var st ∷ [])) (stops Depth ((st, numbers (4 ∷ [])) ∷ []) 0)
    ∷ run 1000000 1 4 (call pc (Var st ∷ [])) (gives (Plain (number 4) ∷ []) ((st, numbers (4 ∷ [])) ∷ []) 1)
    ∷ []
