-- Exports that stop, whose stobj is then as it was at the export's call: (defstobj st$c (val$c :type integer :initially 0)
-- (sum$c :type integer :initially 0)) is the foundation of `st`, (defstobj par (st-of :type st)) has one as its child, and
-- (defstobj house$c (kid-of :type kid)) is the foundation of `house`.
use Rattle.std.specs.Prelude.{◌≡◌, ℕ, ◌-◌, ◌^◌, List, [], ◌∷◌, ◌++◌, codes, true, Option, Some, None, pos}
use Rattle.model_objects.specs.Object.{Integer, Text}
use Rattle.model_symbols.specs.Symbols.{QualifiedName, is_one_too_many}
use Rattle.model_symbols.specs.Opening.{nil}
use Rattle.model_prims.specs.Applied.{beside}
use Rattle.model_prims.specs.declared.prim.Prim.TheVariants.{Listing, Naming}
use Rattle.model_prims.specs.declared.prim.Listing.TheVariants as listing
use Rattle.model_prims.specs.declared.prim.Naming.TheVariants as naming
use Rattle.model_lists.specs.Lists.{StobjList}
use Rattle.model_terms.specs.Cores.{Core, Var, Const, Let, Mv, StobjLet, WithLocal, cores}
use Rattle.model_terms.specs.Worlds.{World, Definition, Ordinary, Abstract, OfAbstract}
use Rattle.model_terms.specs.Worlds as worlds
use Rattle.model_terms.specs.declared.role.Role.TheVariants as role
use Rattle.model_terms.specs.declared.role.AbstractRole.TheVariants as abstract_role
use Rattle.model_eval.specs.Outcomes.{Plain, StobjNamed, Stop, Guard, Steps, Depth, Range, Large, Symbols, Outcome, Gives, Stops}
use Rattle.model_eval.specs.Checked.{checked, begun, live}
use Rattle.model_eval_rows.specs.Books.{Row, number, symbol, int, quoted, call, always, items, numbers, primitives, primitive, function, generated, stobj, integer_field, origin, state, car_word, integerp_word, plus_word}

-- ---- names

abbrev pub update_nth_word : ℕ
update_nth_word = 145

abbrev pub intern_word : ℕ
intern_word = 153

abbrev st : ℕ
st = 196

abbrev foundation : ℕ
foundation = 197

abbrev update_val_c : ℕ
update_val_c = 198

abbrev update_sum_c : ℕ
update_sum_c = 199

abbrev put : ℕ
put = 200

abbrev put_both : ℕ
put_both = 201

abbrev put_both_c : ℕ
put_both_c = 202

abbrev not_list : ℕ
not_list = 203

abbrev not_list_c : ℕ
not_list_c = 204

abbrev endless : ℕ
endless = 205

abbrev endless_c : ℕ
endless_c = 206

abbrev too_wide : ℕ
too_wide = 207

abbrev too_wide_c : ℕ
too_wide_c = 208

abbrev too_large : ℕ
too_large = 209

abbrev too_large_c : ℕ
too_large_c = 210

abbrev named : ℕ
named = 211

abbrev named_c : ℕ
named_c = 212

abbrev on_local : ℕ
on_local = 213

abbrev on_local_c : ℕ
on_local_c = 214

abbrev careful : ℕ
careful = 215

abbrev picky : ℕ
picky = 216

abbrev spin : ℕ
spin = 217

abbrev around : ℕ
around = 218

abbrev par : ℕ
par = 219

abbrev st_of : ℕ
st_of = 220

abbrev kid : ℕ
kid = 221

abbrev update_kid : ℕ
update_kid = 222

abbrev house : ℕ
house = 223

abbrev house_c : ℕ
house_c = 224

abbrev kid_of : ℕ
kid_of = 225

abbrev in_kid : ℕ
in_kid = 226

abbrev in_kid_c : ℕ
in_kid_c = 227

abbrev v : ℕ
v = 250

abbrev x : ℕ
x = 251

abbrev a : ℕ
a = 252

-- ---- the world

abbrev exported : ℕ → ℕ → Core → ℕ → Definition
exported stobj name guard exec = OfAbstract (record {
  name = name;
  stobj = stobj;
  role = abstract_role.Export;
  formals = v ∷ stobj ∷ [];
  signature = record { ins = Ordinary ∷ worlds.Stobj stobj ∷ []; outs = worlds.Stobj stobj ∷ [] };
  guard = guard;
  logic = 0;
  exec = exec;
})

abbrev abstract_on : ℕ → ℕ → Definition
abstract_on name below = Abstract (record {
  name = name;
  foundation = below;
  corr = 0;
  recognizer = record { name = 0; logic = 0; exec = 0 };
  creator = record { name = 0; logic = 0; exec = 0 };
  exports = [];
})

-- a function of an ordinary value and a stobj, which it gives
abbrev changing : ℕ → ℕ → Core → Definition
changing name stobj body = function name (v ∷ stobj ∷ []) (Ordinary ∷ worlds.Stobj stobj ∷ []) (worlds.Stobj stobj ∷ []) always body

-- (let ((st$c (update-val$c 9 st$c))) (let ((st$c (update-sum$c 8 st$c))) (update-val$c form st$c)))
abbrev writing : Core → Core
writing form =
    Let (foundation ∷ []) (cores (call update_val_c (int 9 ∷ Var foundation ∷ []) ∷ []))
    (Let (foundation ∷ []) (cores (call update_sum_c (int 8 ∷ Var foundation ∷ []) ∷ [])) (call update_val_c (form ∷ Var foundation ∷ [])))

-- (let ((st$c (update-val$c 9 st$c)))
--   (with-local-stobj st (mv-let (x st) (let ((st (put v st))) (mv 1 st)) st$c)))
abbrev on_local_body : Core
on_local_body =
    Let (foundation ∷ []) (cores (call update_val_c (int 9 ∷ Var foundation ∷ []) ∷ []))
    (WithLocal st (x ∷ st ∷ []) (Let (st ∷ []) (cores (call put (Var v ∷ Var st ∷ []) ∷ [])) (Mv (cores (int 1 ∷ Var st ∷ [])))) (Var foundation))

-- (stobj-let ((kid (kid-of house$c))) (kid) (update-kid 9 kid) (let ((x (car v))) house$c))
abbrev in_kid_body : Core
in_kid_body =
    StobjLet (kid ∷ []) (cores (call kid_of (Var house_c ∷ []) ∷ [])) (kid ∷ []) (call update_kid (int 9 ∷ Var kid ∷ []))
    (Let (x ∷ []) (cores (call car_word (Var v ∷ []) ∷ [])) (Var house_c))

-- (let ((st (put 7 st))) (not-list v st))
abbrev around_body : Core
around_body = Let (st ∷ []) (cores (call put (int 7 ∷ Var st ∷ []) ∷ [])) (call not_list (Var v ∷ Var st ∷ []))

-- (intern-in-package-of-symbol "A" 'nil)
abbrev interning : Core
interning = call intern_word (Const (Text (codes "A")) ∷ quoted nil ∷ [])

abbrev pub undoing : World
undoing =
    primitives
    ++ (primitive update_nth_word 3 (Listing listing.UpdateNth)
    ∷ primitive intern_word 2 (Naming naming.Intern)
    ∷ stobj foundation (integer_field ∷ integer_field ∷ []) None foundation
    ∷ generated update_val_c foundation 0 role.Update (Ordinary ∷ worlds.Stobj foundation ∷ []) (worlds.Stobj foundation ∷ [])
    ∷ generated update_sum_c foundation 1 role.Update (Ordinary ∷ worlds.Stobj foundation ∷ []) (worlds.Stobj foundation ∷ [])
    ∷ function spin (x ∷ []) (Ordinary ∷ []) (Ordinary ∷ []) always (call spin (Var x ∷ []))
    ∷ changing put_both_c foundation (writing (Var v))
    ∷ changing not_list_c foundation (writing (call car_word (Var v ∷ [])))
    ∷ changing endless_c foundation (writing (call spin (Var v ∷ [])))
    ∷ changing too_wide_c foundation (writing (call plus_word (Var v ∷ int 1 ∷ [])))
    ∷ changing too_large_c foundation (writing (call update_nth_word (Var v ∷ int 1 ∷ quoted nil ∷ [])))
    ∷ changing named_c foundation (writing (Let (x ∷ []) (cores (interning ∷ [])) (call car_word (Var v ∷ []))))
    ∷ changing on_local_c foundation on_local_body
    ∷ abstract_on st foundation
    ∷ exported st put always update_val_c
    ∷ exported st put_both always put_both_c
    ∷ exported st not_list always not_list_c
    ∷ exported st endless always endless_c
    ∷ exported st too_wide always too_wide_c
    ∷ exported st too_large always too_large_c
    ∷ exported st named always named_c
    ∷ exported st on_local always on_local_c
    ∷ exported st careful (call integerp_word (Var v ∷ [])) put_both_c
    ∷ exported st picky (call car_word (Var v ∷ [])) put_both_c
    ∷ changing around st around_body
    ∷ stobj par (worlds.Child st ∷ []) None par
    ∷ generated st_of par 0 role.Access (worlds.Stobj par ∷ []) (worlds.Stobj st ∷ [])
    ∷ stobj kid (integer_field ∷ []) None kid
    ∷ generated update_kid kid 0 role.Update (Ordinary ∷ worlds.Stobj kid ∷ []) (worlds.Stobj kid ∷ [])
    ∷ stobj house_c (worlds.Child kid ∷ []) None house_c
    ∷ generated kid_of house_c 0 role.Access (worlds.Stobj house_c ∷ []) (worlds.Stobj kid ∷ [])
    ∷ changing in_kid_c house_c in_kid_body
    ∷ abstract_on house house_c
    ∷ exported house in_kid always in_kid_c
    ∷ [])

-- ---- rows

-- `st` with these two numbers
abbrev pub holding : ℕ → ℕ → List (ℕ × StobjList ℕ)
holding val sum = (st, numbers (val ∷ sum ∷ [])) ∷ []

-- `par` whose child holds them
abbrev parent : ℕ → ℕ → List (ℕ × StobjList ℕ)
parent val sum = (par, items (numbers (val ∷ sum ∷ []) ∷ [])) ∷ []

-- `house` whose child holds this number
abbrev housing : ℕ → List (ℕ × StobjList ℕ)
housing val = (house, items (numbers (val ∷ []) ∷ [])) ∷ []

abbrev run : ℕ → ℕ → List (ℕ × StobjList ℕ) → Core → Outcome ℕ → Row
run limit depth before form answer = record { world = undoing; limit = limit; depth = depth; stobjs = before; form = form; answer = answer }

-- the stop, the export that it is inside, the number of the outer call before which abstract evaluation is cut, all calls, those
-- that no export made, and the lists
abbrev stopped : Stop ℕ → Option ℕ → ℕ → ℕ → ℕ → List (ℕ × StobjList ℕ) → Outcome ℕ
stopped stop inside cut calls outer after = Stops stop (origin inside cut) (state after calls outer)

abbrev on_st : ℕ → Core → Core
on_st f form = call f (form ∷ Var st ∷ [])

abbrev no_list : Stop ℕ
no_list = Guard car_word (Plain (number 5) ∷ [])

-- (stobj-let ((st (st-of par))) (st) producer par)
abbrev under_parent : Core → Core
under_parent producer = StobjLet (st ∷ []) (cores (call st_of (Var par ∷ []) ∷ [])) (st ∷ []) producer (Var par)

-- (with-local-stobj st (mv-let (x st) (let ((st producer)) (mv 1 st)) x))
abbrev locally : Core → Core
locally producer = WithLocal st (x ∷ st ∷ []) (Let (st ∷ []) (cores (producer ∷ [])) (Mv (cores (int 1 ∷ Var st ∷ [])))) (Var x)

unfoldable pub undone_rows : List Row
undone_rows =
    -- the calls of an export, its exec function, two writes and the third
    run 1000 100 (holding 4 0) (on_st put_both (int 7)) (Gives (StobjNamed st ∷ []) (state (holding 7 8) 5 1))
    -- each kind of stop, after both numbers were written
    ∷ run 1000 100 (holding 4 0) (on_st not_list (int 5)) (stopped no_list (Some not_list) 1 5 1 (holding 4 0))
    ∷ run 4 100 (holding 4 0) (on_st not_list (int 5)) (stopped Steps (Some not_list) 1 4 1 (holding 4 0))
    ∷ run 1000 20 (holding 4 0) (on_st endless (int 5)) (stopped Depth (Some endless) 1 20 1 (holding 4 0))
    ∷ run 1000 100 (holding 4 0) (on_st too_wide (Const (Integer (pos (2 ^ 127 - 1))))) (stopped (Range plus_word) (Some too_wide) 1 5 1 (holding 4 0))
    ∷ run 1000 100 (holding 4 0) (on_st too_large (int 1048577)) (stopped (Large update_nth_word) (Some too_large) 1 5 1 (holding 4 0))
    -- the last write's guard, which names the exec function's own variable; and with no write before it
    ∷ run 1000 100 (holding 4 0) (on_st put_both (quoted a)) (stopped (Guard update_val_c (Plain (symbol a) ∷ StobjNamed foundation ∷ [])) (Some put_both) 1 5 1 (holding 4 0))
    ∷ run 1000 100 (holding 4 0) (on_st put (quoted a)) (stopped (Guard update_val_c (Plain (symbol a) ∷ StobjNamed st ∷ [])) (Some put) 1 2 1 (holding 4 0))
    -- after the first write; and before it
    ∷ run 3 100 (holding 4 0) (on_st not_list (int 5)) (stopped Steps (Some not_list) 1 3 1 (holding 4 0))
    ∷ run 1000 3 (holding 4 0) (on_st not_list (int 5)) (stopped Depth (Some not_list) 1 3 1 (holding 4 0))
    ∷ run 2 100 (holding 4 0) (on_st not_list (int 5)) (stopped Steps (Some not_list) 1 2 1 (holding 4 0))
    -- a symbol that came to be known stays known
    ∷ run 1000 100 (holding 4 0) (on_st named (int 5))
    (Stops no_list (origin (Some named) 1) (record { stobjs = holding 4 0; symbols = record { home = []; name = codes "A" } ∷ []; calls = 6; outer = 1 }))
    -- not inside: at the count of the exec function's call, in the export's guard, and when that is NIL
    ∷ run 1 100 (holding 4 0) (on_st not_list (int 5)) (stopped Steps None 1 1 1 (holding 4 0))
    ∷ run 1000 100 (holding 4 0) (on_st picky (int 5)) (stopped no_list None 1 2 2 (holding 4 0))
    ∷ run 1 100 (holding 4 0) (on_st careful (int 5)) (stopped Steps None 1 1 1 (holding 4 0))
    ∷ run 1000 100 (holding 4 0) (on_st careful (quoted a)) (stopped (Guard careful (Plain (symbol a) ∷ StobjNamed st ∷ [])) None 1 2 2 (holding 4 0))
    -- before an export's call, in its argument; and after it, in the call that follows
    ∷ run 1000 100 (holding 4 0) (on_st put_both (call car_word (int 5 ∷ []))) (stopped no_list None 2 1 1 (holding 4 0))
    ∷ run 1000 100 (holding 4 0) (Let (st ∷ []) (cores (on_st put_both (int 7) ∷ [])) (call car_word (int 5 ∷ [])))
    (stopped no_list None 3 6 2 (holding 7 8))
    -- the first of two exports has ended: in the second, at the count of its exec function's call, and at its own
    ∷ run 1000 100 (holding 4 0) (on_st around (int 5)) (stopped no_list (Some not_list) 3 8 3 (holding 7 0))
    ∷ run 4 100 (holding 4 0) (on_st around (int 5)) (stopped Steps None 3 4 3 (holding 7 0))
    ∷ run 3 100 (holding 4 0) (on_st around (int 5)) (stopped Steps None 3 3 2 (holding 7 0))
    -- an export on a local stobj, inside another export: the outermost one is named, and its stobj is as it was
    ∷ run 1000 100 (holding 4 0) (on_st on_local (int 5)) (Gives (StobjNamed st ∷ []) (state (holding 9 0) 6 1))
    ∷ run 1000 100 (holding 4 0) (on_st on_local (quoted a)) (stopped (Guard update_val_c (Plain (symbol a) ∷ StobjNamed st ∷ [])) (Some on_local) 1 6 1 (holding 4 0))
    ∷ run 5 100 (holding 4 0) (on_st on_local (int 5)) (stopped Steps (Some on_local) 1 5 1 (holding 4 0))
    ∷ run 4 100 (holding 4 0) (on_st on_local (int 5)) (stopped Steps (Some on_local) 1 4 1 (holding 4 0))
    -- under a STOBJ-LET: the parent has the child's list from before the export that stopped
    ∷ run 1000 100 (parent 4 0) (under_parent (on_st around (int 5))) (stopped no_list (Some not_list) 4 9 4 (parent 7 0))
    ∷ run 5 100 (parent 4 0) (under_parent (on_st around (int 5))) (stopped Steps None 4 5 4 (parent 7 0))
    -- an export that ended, and then the count of the child's putting back
    ∷ run 6 100 (parent 4 0) (under_parent (on_st put_both (int 7))) (stopped Steps None 3 6 2 (parent 7 8))
    -- a child of the foundation: it was put back, or is at the stop, and then the whole stobj is as it was
    ∷ run 1000 100 (housing 4) (call in_kid (int 5 ∷ Var house ∷ [])) (stopped no_list (Some in_kid) 1 6 1 (housing 4))
    ∷ run 4 100 (housing 4) (call in_kid (int 5 ∷ Var house ∷ [])) (stopped Steps (Some in_kid) 1 4 1 (housing 4))
    -- a local stobj leaves the stobj of its name
    ∷ run 1000 100 (holding 4 0) (locally (on_st around (int 5))) (stopped no_list (Some not_list) 4 9 4 (holding 4 0))
    ∷ run 1000 100 (holding 4 0) (locally (on_st put_both (int 7))) (Gives (Plain (number 1) ∷ []) (state (holding 4 0) 6 2))
    ∷ []

-- no room for one more symbol
pub record SymbolsAreUndone : Type 0 where
  pub stops : (symbols : List QualifiedName) → is_one_too_many symbols (beside (record { packages = []; symbols = symbols }) (codes "A") nil) ≡ true
      → checked undoing [] 1000 100 (on_st named (int 5)) (live (holding 4 0)) (begun symbols (holding 4 0) 0)
      ≡ Stops (Symbols intern_word) (origin (Some named) 1) (record { stobjs = holding 4 0; symbols = symbols; calls = 5; outer = 1 })
