-- Abstract evaluation of a stobj that is its foundation: (defstobj st$c (val$c :type integer :initially 0)), st$ap of x is
-- (and (true-listp x) (equal (len x) 1) (integerp (car x))), create-st$a is (list 0), val$a is (car x), update-val$a is
-- (update-nth 0 v x) and st$corr is (equal st$c x).
use Rattle.std.specs.Prelude.{◌≡◌, ℕ, ◌^◌, List, [], ◌∷◌, ◌++◌, map, None, pos, negsuc}
use Rattle.model_objects.specs.Object.{Integer, Symbol, list_onto}
use Rattle.model_symbols.specs.Symbols.{QualifiedName}
use Rattle.model_symbols.specs.Opening.{truth_name, nil_name}
use Rattle.model_prims.specs.declared.prim.Prim.TheVariants.{Recognizer, Relation, Listing}
use Rattle.model_prims.specs.declared.prim.Recognizer.TheVariants as recognizer
use Rattle.model_prims.specs.declared.prim.Relation.TheVariants as relation
use Rattle.model_prims.specs.declared.prim.Listing.TheVariants as listing
use Rattle.model_prims.specs.Values.{Old, Shift}
use Rattle.model_lists.specs.Lists.{StobjList, Value}
use Rattle.model_terms.specs.Cores.{Core, Var, Mv, WithLocal, cores}
use Rattle.model_terms.specs.Worlds.{World, Definition, Ordinary, Abstract, OfAbstract}
use Rattle.model_terms.specs.Worlds as worlds
use Rattle.model_terms.specs.declared.role.Role.TheVariants as role
use Rattle.model_terms.specs.declared.role.AbstractRole.{AbstractRole}
use Rattle.model_terms.specs.declared.role.AbstractRole.TheVariants as abstract_role
use Rattle.model_eval.specs.Outcomes.{Plain, StobjNamed, Guard, Range, State, Outcome, Gives, Stops, Unknown}
use Rattle.model_eval.specs.Checked.{live}
use Rattle.model_logic.specs.Logic.{Theory, Thing}
use Rattle.model_abstract.specs.Rules.{bounded_value, abstractly}
use Rattle.model_abstract.specs.Corresponding.{Correspond}
use Rattle.model_eval_rows.specs.Books.{int, quoted, call, both_hold, always, primitives, primitive, function, generated, stobj, integer_field, origin, integerp_word, car_word, cons_word}
use Rattle.model_eval_rows.specs.Books as books

abbrev equal_word : ℕ
equal_word = 16

abbrev true_listp_word : ℕ
true_listp_word = 141

abbrev len_word : ℕ
len_word = 143

abbrev update_nth_word : ℕ
update_nth_word = 145

abbrev st : ℕ
st = 196

abbrev foundation : ℕ
foundation = 197

abbrev val_c : ℕ
val_c = 198

abbrev update_val_c : ℕ
update_val_c = 199

abbrev st_ap : ℕ
st_ap = 200

abbrev create_a : ℕ
create_a = 201

abbrev val_a : ℕ
val_a = 202

abbrev update_val_a : ℕ
update_val_a = 203

abbrev corr : ℕ
corr = 204

abbrev stp : ℕ
stp = 205

abbrev create_st : ℕ
create_st = 206

abbrev val : ℕ
val = 207

abbrev update_val : ℕ
update_val = 208

abbrev x : ℕ
x = 209

abbrev v : ℕ
v = 210

abbrev exported : ℕ → List ℕ → List worlds.Out → List worlds.Out → AbstractRole → Core → ℕ → ℕ → Definition
exported name formals ins outs what guard logic exec = OfAbstract (record {
  name = name;
  stobj = st;
  role = what;
  formals = formals;
  signature = record { ins = ins; outs = outs };
  guard = guard;
  logic = logic;
  exec = exec;
})

abbrev function_on_x : ℕ → Core → Core → Definition
function_on_x name guard body = function name (x ∷ []) (Ordinary ∷ []) (Ordinary ∷ []) guard body

abbrev st_ap_body : Core
st_ap_body =
    both_hold (call true_listp_word (Var x ∷ []))
    (both_hold (call equal_word (call len_word (Var x ∷ []) ∷ int 1 ∷ [])) (call integerp_word (call car_word (Var x ∷ []) ∷ [])))

abbrev value_and_st : List worlds.Out
value_and_st = Ordinary ∷ worlds.Stobj st ∷ []

abbrev world : World
world =
    primitives
    ++ (primitive equal_word 2 (Relation relation.Equal)
    ∷ primitive true_listp_word 1 (Recognizer recognizer.TrueListp)
    ∷ primitive len_word 1 (Listing listing.Len)
    ∷ primitive update_nth_word 3 (Listing listing.UpdateNth)
    ∷ stobj foundation (integer_field ∷ []) None foundation
    ∷ generated val_c foundation 0 role.Access (worlds.Stobj foundation ∷ []) (Ordinary ∷ [])
    ∷ generated update_val_c foundation 0 role.Update (Ordinary ∷ worlds.Stobj foundation ∷ []) (worlds.Stobj foundation ∷ [])
    ∷ function_on_x st_ap always st_ap_body
    ∷ function create_a [] [] (Ordinary ∷ []) always (call cons_word (int 0 ∷ quoted 1 ∷ []))
    ∷ function_on_x val_a (call st_ap (Var x ∷ [])) (call car_word (Var x ∷ []))
    ∷ function update_val_a (v ∷ x ∷ []) (Ordinary ∷ Ordinary ∷ []) (Ordinary ∷ [])
    (both_hold (call integerp_word (Var v ∷ [])) (call st_ap (Var x ∷ []))) (call update_nth_word (int 0 ∷ Var v ∷ Var x ∷ []))
    ∷ function corr (foundation ∷ x ∷ []) (Ordinary ∷ Ordinary ∷ []) (Ordinary ∷ []) always (call equal_word (Var foundation ∷ Var x ∷ []))
    ∷ Abstract (record {
      name = st;
      foundation = foundation;
      corr = corr;
      recognizer = record { name = stp; logic = st_ap; exec = 0 };
      creator = record { name = create_st; logic = create_a; exec = 0 };
      exports = record { name = val; logic = val_a; exec = val_c } ∷ record { name = update_val; logic = update_val_a; exec = update_val_c } ∷ [];
    })
    ∷ exported stp (x ∷ []) (worlds.Stobj st ∷ []) (Ordinary ∷ []) abstract_role.Recognizer always st_ap 0
    ∷ exported create_st [] [] (worlds.Stobj st ∷ []) abstract_role.Creator always create_a 0
    ∷ exported val (st ∷ []) (worlds.Stobj st ∷ []) (Ordinary ∷ []) abstract_role.Export (call stp (Var st ∷ [])) val_a val_c
    ∷ exported update_val (v ∷ st ∷ []) value_and_st (worlds.Stobj st ∷ []) abstract_role.Export
    (both_hold (call integerp_word (Var v ∷ [])) (call stp (Var st ∷ []))) update_val_a update_val_c
    ∷ [])

abbrev pub book : Theory
book = record { world = world; packages = record { name = nil_name.home; imports = [] } ∷ []; symbols = truth_name ∷ nil_name ∷ [] }

abbrev number : ℕ → Thing
number n = Integer (pos n)

-- the abstract stobj whose list is (n)
abbrev holding : ℕ → List (ℕ × StobjList QualifiedName)
holding n = (st, Value (list_onto (number n ∷ []) (Symbol nil_name))) ∷ []

-- a budget for the values of the logic, the number that the stobj holds, a form, and its outcome
pub record AbstractRow : Type 0 where
  pub budget : ℕ
  pub before : ℕ
  pub form : Core
  pub answer : Outcome QualifiedName

abbrev state : ℕ → ℕ → State QualifiedName
state after calls = record { stobjs = holding after; symbols = []; calls = calls; outer = calls }

abbrev pub abstract_answer : AbstractRow → Outcome QualifiedName
abstract_answer r = abstractly book r.budget 1000 100 r.form (live (holding r.before)) (state r.before 0)

pub record AbstractlyRight (rows : List AbstractRow) : Type 0 where
  pub all : map abstract_answer rows ≡ map (λ (r : AbstractRow). r.answer) rows

abbrev run : ℕ → ℕ → Core → Outcome QualifiedName → AbstractRow
run budget before form answer = record { budget = budget; before = before; form = form; answer = answer }

unfoldable pub abstract_rows : List AbstractRow
abstract_rows =
    -- what an export makes is not counted
    run 100 0 (call update_val (int 5 ∷ Var st ∷ [])) (Gives (StobjNamed st ∷ []) (state 5 3))
    ∷ run 100 5 (call val (Var st ∷ [])) (Gives (Plain (number 5) ∷ []) (state 5 2))
    -- its guard is evaluated
    ∷ run 100 5 (call update_val (always ∷ Var st ∷ [])) (Stops (Guard update_val (Plain (Symbol truth_name) ∷ StobjNamed st ∷ [])) (origin None 1) (state 5 2))
    -- the logic function calls UPDATE-NTH once: a budget of two calls is enough, of one it is not
    ∷ run 2 0 (call update_val (int 5 ∷ Var st ∷ [])) (Gives (StobjNamed st ∷ []) (state 5 3))
    ∷ run 1 0 (call update_val (int 5 ∷ Var st ∷ [])) Unknown
    -- a new stobj is the value of the logic creator
    ∷ run 100 5
    (WithLocal st (x ∷ st ∷ []) (Mv (cores (call val (Var st ∷ []) ∷ Var st ∷ []))) (Var x))
    (Gives (Plain (number 0) ∷ []) (state 5 3))
    ∷ []

-- what a logic function made too wide is shifted as it is, and is given as it is where an argument is
pub record BoundsAreKept : Type 0 where
  pub shifted : bounded_value [] x (state 0 0) (Shift (pos (2 ^ 200)) (negsuc 129)) ≡ Gives (Plain (number (2 ^ 70)) ∷ []) (state 0 0)
  pub argument : bounded_value [] x (state 0 0) (Old (number (2 ^ 200))) ≡ Gives (Plain (number (2 ^ 200)) ∷ []) (state 0 0)

-- the foundation's list (7) corresponds to the abstract list (7)
pub record Corresponds : Type 0 where
  pub at_seven : Correspond book ((st, books.numbers (7 ∷ [])) ∷ []) (holding 7)
