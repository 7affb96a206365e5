-- Evaluations inside evaluations: exports in guards and in exec functions, children of children, guards of guards; and a range
-- of numbers that is written by halves.
use Rattle.std.specs.Prelude.{ℕ, zero, suc, ◌+◌, ◌-◌, ◌^◌, List, [], ◌∷◌, ◌++◌, replicate, false, Option, Some, None, pos}
use Rattle.model_objects.specs.Object.{Object, Integer, Symbol, list_onto}
use Rattle.model_symbols.specs.Opening.{nil, truth}
use Rattle.model_prims.specs.declared.prim.Prim.TheVariants.{Recognizer, Relation, Arithmetic, Listing}
use Rattle.model_prims.specs.declared.prim.Recognizer.TheVariants as recognizer
use Rattle.model_prims.specs.declared.prim.Relation.TheVariants as relation
use Rattle.model_prims.specs.declared.prim.Arithmetic.TheVariants as arithmetic
use Rattle.model_prims.specs.declared.prim.Listing.TheVariants as listing
use Rattle.model_lists.specs.Lists.{StobjList, Value}
use Rattle.model_lists.specs.Types.{unsigned_byte_word}
use Rattle.model_terms.specs.Cores.{Core, Var, Const, If, Let, Mv, StobjLet, WithLocal, cores}
use Rattle.model_terms.specs.Worlds.{World, Definition, Ordinary, Abstract, OfAbstract}
use Rattle.model_terms.specs.Worlds as worlds
use Rattle.model_terms.specs.declared.role.Role.TheVariants as role
use Rattle.model_terms.specs.declared.role.AbstractRole.TheVariants as abstract_role
use Rattle.model_eval.specs.Outcomes.{Plain, StobjNamed, Stop, Guard, Steps, Range, Large, Outcome, Gives, Stops}
use Rattle.model_eval_rows.specs.Books.{Row, number, symbol, int, quoted, call, both_hold, always, items, numbers, primitives, primitive, function, generated, stobj, integer_field, gives, stops, origin, state, car_word, cons_word, not_word, below_word, plus_word, minus_word, zp_word, natp_word}

abbrev run : World → ℕ → List (ℕ × StobjList ℕ) → Core → Outcome ℕ → Row
run world limit before form answer = record { world = world; limit = limit; depth = 2048; stobjs = before; form = form; answer = answer }

abbrev v : ℕ
v = 250

abbrev x : ℕ
x = 251

abbrev a : ℕ
a = 252

-- ---- exports in exports

abbrev st : ℕ
st = 196

abbrev foundation : ℕ
foundation = 197

abbrev val_c : ℕ
val_c = 198

abbrev update_val_c : ℕ
update_val_c = 199

abbrev val : ℕ
val = 200

abbrev put : ℕ
put = 201

abbrev slow : ℕ
slow = 202

abbrev slow_c : ℕ
slow_c = 203

abbrev checked_put : ℕ
checked_put = 204

abbrev careful_put : ℕ
careful_put = 205

abbrev deep : ℕ
deep = 206

abbrev deep_c : ℕ
deep_c = 207

abbrev exported : ℕ → List ℕ → Core → ℕ → Definition
exported name formals guard exec = OfAbstract (record {
  name = name;
  stobj = st;
  role = abstract_role.Export;
  formals = formals;
  signature = record { ins = []; outs = [] };
  guard = guard;
  logic = 0;
  exec = exec;
})

abbrev value_and_foundation : List worlds.Out
value_and_foundation = Ordinary ∷ worlds.Stobj foundation ∷ []

-- (< form 10)
abbrev below_ten : Core → Core
below_ten form = call below_word (form ∷ int 10 ∷ [])

-- (with-local-stobj st (mv-let (x st) (let ((st (put v st))) (mv 1 st)) st$c))
abbrev deep_body : Core
deep_body = WithLocal st (x ∷ st ∷ []) (Let (st ∷ []) (cores (call put (Var v ∷ Var st ∷ []) ∷ [])) (Mv (cores (int 1 ∷ Var st ∷ [])))) (Var foundation)

abbrev exporting : World
exporting =
    primitives
    ++ (stobj foundation (integer_field ∷ []) None foundation
    ∷ generated val_c foundation 0 role.Access (worlds.Stobj foundation ∷ []) (Ordinary ∷ [])
    ∷ generated update_val_c foundation 0 role.Update value_and_foundation (worlds.Stobj foundation ∷ [])
    ∷ function slow_c (foundation ∷ []) (worlds.Stobj foundation ∷ []) (Ordinary ∷ []) always (call val_c (Var foundation ∷ []))
    ∷ function deep_c (v ∷ foundation ∷ []) value_and_foundation (worlds.Stobj foundation ∷ []) always deep_body
    ∷ Abstract (record {
      name = st;
      foundation = foundation;
      corr = 0;
      recognizer = record { name = 0; logic = 0; exec = 0 };
      creator = record { name = 0; logic = 0; exec = 0 };
      exports = [];
    })
    ∷ exported val (st ∷ []) always val_c
    ∷ exported put (v ∷ st ∷ []) always update_val_c
    ∷ exported slow (st ∷ []) always slow_c
    ∷ exported checked_put (v ∷ st ∷ []) (below_ten (call val (Var st ∷ []))) update_val_c
    ∷ exported careful_put (v ∷ st ∷ []) (below_ten (call slow (Var st ∷ []))) update_val_c
    ∷ exported deep (v ∷ st ∷ []) always deep_c
    ∷ [])

abbrev holding : ℕ → List (ℕ × StobjList ℕ)
holding n = (st, numbers (n ∷ [])) ∷ []

abbrev answers : ℕ → ℕ → Core → Outcome ℕ → Row
answers limit f form answer = run exporting limit (holding 4) (call f (form ∷ Var st ∷ [])) answer

-- a stop in the first outer call, an export's, with the export that it is inside, the number that the stobj holds, all calls,
-- and those that no export made
abbrev stopped : Stop ℕ → Option ℕ → ℕ → ℕ → ℕ → Outcome ℕ
stopped stop inside after calls outer = Stops stop (origin inside 1) (state (holding after) calls outer)

unfoldable pub export_rows : List Row
export_rows =
    -- an export in the guard of another makes its own calls inside itself
    answers 1000 checked_put (int 5) (Gives (StobjNamed st ∷ []) (state (holding 5) 5 3))
    ∷ answers 2 checked_put (int 5) (stopped Steps None 4 2 2)
    ∷ answers 3 careful_put (int 5) (stopped Steps (Some slow) 4 3 2)
    -- after the guard's export, its guard's other calls are outside again
    ∷ answers 4 careful_put (int 5) (stopped Steps None 4 4 2)
    ∷ answers 5 careful_put (int 5) (stopped Steps None 4 5 3)
    ∷ answers 1000 careful_put (int 5) (Gives (StobjNamed st ∷ []) (state (holding 5) 6 3))
    -- a local stobj that is abstract, inside an exec function: the outermost export is named
    ∷ answers 1000 deep (int 5) (Gives (StobjNamed st ∷ []) (state (holding 4) 5 1))
    ∷ answers 4 deep (int 5) (stopped Steps (Some deep) 4 4 1)
    ∷ answers 1000 deep (quoted a) (stopped (Guard update_val_c (Plain (symbol a) ∷ StobjNamed st ∷ [])) (Some deep) 4 5 1)
    ∷ []

-- ---- children of children

abbrev kid : ℕ
kid = 196

abbrev par : ℕ
par = 197

abbrev top : ℕ
top = 198

abbrev update_kid : ℕ
update_kid = 199

abbrev ki : ℕ
ki = 200

abbrev par_of : ℕ
par_of = 201

abbrev family : World
family =
    primitives
    ++ (stobj kid (integer_field ∷ []) None kid
    ∷ stobj par (worlds.Children kid 2 ∷ []) None par
    ∷ stobj top (worlds.Child par ∷ []) None top
    ∷ generated update_kid kid 0 role.Update (Ordinary ∷ worlds.Stobj kid ∷ []) (worlds.Stobj kid ∷ [])
    ∷ generated ki par 0 role.Access (Ordinary ∷ worlds.Stobj par ∷ []) (worlds.Stobj kid ∷ [])
    ∷ generated par_of top 0 role.Access (worlds.Stobj top ∷ []) (worlds.Stobj par ∷ [])
    ∷ [])

abbrev tree : ℕ → List (ℕ × StobjList ℕ)
tree n = (top, items (items (items (numbers (0 ∷ []) ∷ numbers (n ∷ []) ∷ []) ∷ []) ∷ [])) ∷ []

-- (stobj-let ((par (par-of top))) (par) (stobj-let ((kid (ki 1 par))) (kid) (update-kid 9 kid) par) top)
abbrev write_kid : Core
write_kid =
    StobjLet (par ∷ []) (cores (call par_of (Var top ∷ []) ∷ [])) (par ∷ [])
    (StobjLet (kid ∷ []) (cores (call ki (int 1 ∷ Var par ∷ []) ∷ [])) (kid ∷ []) (call update_kid (int 9 ∷ Var kid ∷ [])) (Var par))
    (Var top)

unfoldable pub family_rows : List Row
family_rows =
    run family 1000 (tree 0) write_kid (gives (StobjNamed top ∷ []) (tree 9) 5)
    -- each list that was given last is in its parent
    ∷ run family 4 (tree 0) write_kid (stops Steps (tree 9) 4)
    ∷ run family 3 (tree 0) write_kid (stops Steps (tree 9) 3)
    ∷ run family 2 (tree 0) write_kid (stops Steps (tree 0) 2)
    ∷ run family 1 (tree 0) write_kid (stops Steps (tree 0) 1)
    ∷ []

-- ---- guards, bounds, and many calls

abbrev equal_word : ℕ
equal_word = 21

abbrev floor_word : ℕ
floor_word = 35

abbrev mod_word : ℕ
mod_word = 36

abbrev consp_word : ℕ
consp_word = 9

abbrev update_nth_word : ℕ
update_nth_word = 145

abbrev si : ℕ
si = 199

abbrev update_si : ℕ
update_si = 200

abbrev sum : ℕ
sum = 201

abbrev update_sum : ℕ
update_sum = 202

abbrev put_range : ℕ
put_range = 203

abbrev dbl : ℕ
dbl = 204

abbrev picky : ℕ
picky = 205

abbrev lo : ℕ
lo = 206

abbrev hi : ℕ
hi = 207

abbrev n : ℕ
n = 208

abbrev less_one : Core → Core → Core
less_one form by = call plus_word (form ∷ call minus_word (by ∷ []) ∷ [])

-- (floor (+ lo hi) 2)
abbrev middle : Core
middle = call floor_word (call plus_word (Var lo ∷ Var hi ∷ []) ∷ int 2 ∷ [])

-- (and (natp lo) (natp hi) (< lo hi) (<= hi 1000000))
abbrev range_guard : Core
range_guard =
    both_hold (call natp_word (Var lo ∷ []))
    (both_hold (call natp_word (Var hi ∷ []))
    (both_hold (call below_word (Var lo ∷ Var hi ∷ [])) (call not_word (call below_word (int 1000000 ∷ Var hi ∷ []) ∷ []))))

-- (if (= (- hi lo) 1)
--   (let ((st (update-si lo (mod lo 256) st))) (update-sum (+ (sum st) (si lo st)) st))
--   (let ((st (put-range lo (floor (+ lo hi) 2) st))) (put-range (floor (+ lo hi) 2) hi st)))
abbrev range_body : Core
range_body =
    If (call equal_word (less_one (Var hi) (Var lo) ∷ int 1 ∷ []))
    (Let (st ∷ []) (cores (call update_si (Var lo ∷ call mod_word (Var lo ∷ int 256 ∷ []) ∷ Var st ∷ []) ∷ []))
    (call update_sum (call plus_word (call sum (Var st ∷ []) ∷ call si (Var lo ∷ Var st ∷ []) ∷ []) ∷ Var st ∷ [])))
    (Let (st ∷ []) (cores (call put_range (Var lo ∷ middle ∷ Var st ∷ []) ∷ [])) (call put_range (middle ∷ Var hi ∷ Var st ∷ [])))

-- (if (zp n) 0 (let ((x (dbl (- n 1)))) (cons x x)))
abbrev dbl_body : Core
dbl_body =
    If (call zp_word (Var n ∷ [])) (int 0)
    (Let (x ∷ []) (cores (call dbl (less_one (Var n) (int 1) ∷ []) ∷ [])) (call cons_word (Var x ∷ Var x ∷ [])))

abbrev counted : World
counted =
    primitives
    ++ (primitive equal_word 2 (Relation relation.Same)
    ∷ primitive floor_word 2 (Arithmetic arithmetic.Floor)
    ∷ primitive mod_word 2 (Arithmetic arithmetic.Mod)
    ∷ primitive consp_word 1 (Recognizer recognizer.Consp)
    ∷ primitive update_nth_word 3 (Listing listing.UpdateNth)
    ∷ stobj st (worlds.Array (list_onto (Symbol unsigned_byte_word ∷ number 8 ∷ []) (Symbol nil)) (number 0) 50 false ∷ integer_field ∷ []) None st
    ∷ generated si st 0 role.Access (Ordinary ∷ worlds.Stobj st ∷ []) (Ordinary ∷ [])
    ∷ generated update_si st 0 role.Update (Ordinary ∷ Ordinary ∷ worlds.Stobj st ∷ []) (worlds.Stobj st ∷ [])
    ∷ generated sum st 1 role.Access (worlds.Stobj st ∷ []) (Ordinary ∷ [])
    ∷ generated update_sum st 1 role.Update (Ordinary ∷ worlds.Stobj st ∷ []) (worlds.Stobj st ∷ [])
    ∷ function put_range (lo ∷ hi ∷ st ∷ []) (Ordinary ∷ Ordinary ∷ worlds.Stobj st ∷ []) (worlds.Stobj st ∷ []) range_guard range_body
    ∷ function dbl (n ∷ []) (Ordinary ∷ []) (Ordinary ∷ []) (call natp_word (Var n ∷ [])) dbl_body
    ∷ function picky (x ∷ []) (Ordinary ∷ []) (Ordinary ∷ []) (call car_word (Var x ∷ [])) (int 1)
    ∷ [])

-- the numbers from n to below m
abbrev from : ℕ → ℕ → List ℕ
from zero m = []
from (suc k) m = m ∷ from k (m + 1)

abbrev written : List ℕ → ℕ → List (ℕ × StobjList ℕ)
written ns total = (st, items (numbers ns ∷ Value (number total) ∷ [])) ∷ []

abbrev greatest : Object ℕ
greatest = Integer (pos (2 ^ 127 - 1))

unfoldable pub counted_rows : List Row
counted_rows =
    -- 28 calls for each of 50 numbers, less 13
    run counted 1000000 (written (replicate 50 0) 0) (call put_range (int 0 ∷ int 50 ∷ Var st ∷ [])) (gives (StobjNamed st ∷ []) (written (from 50 0) 1225) 1387)
    -- six calls for each, three at the end, and that of CONSP
    ∷ run counted 1000 [] (call consp_word (call dbl (int 8 ∷ []) ∷ [])) (gives (Plain (symbol truth) ∷ []) [] 52)
    -- the guard of what a guard calls
    ∷ run counted 1000 [] (call picky (int 5 ∷ [])) (stops (Guard car_word (Plain (number 5) ∷ [])) [] 2)
    ∷ run counted 1000 [] (call picky (quoted nil ∷ [])) (stops (Guard picky (Plain (symbol nil) ∷ [])) [] 2)
    -- out of range, and too large
    ∷ run counted 1000 [] (call plus_word (Const greatest ∷ int 1 ∷ [])) (stops (Range plus_word) [] 1)
    ∷ run counted 1000 [] (call update_nth_word (int 1048577 ∷ int 1 ∷ quoted nil ∷ [])) (stops (Large update_nth_word) [] 1)
    -- arguments from left to right: the first stop is that of the first
    ∷ run counted 1000 [] (call cons_word (call car_word (int 5 ∷ []) ∷ call plus_word (quoted a ∷ int 1 ∷ []) ∷ [])) (stops (Guard car_word (Plain (number 5) ∷ [])) [] 1)
    ∷ []
