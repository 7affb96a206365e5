-- The logic value of forms of the same books: no guard, and stobjs are lists.
use Rattle.std.specs.Prelude.{◌≡◌, ℕ, List, [], ◌∷◌, map, Option, None, pos, negsuc}
use Rattle.model_objects.specs.Object.{Integer, Symbol, Pair, list_onto}
use Rattle.model_symbols.specs.Opening.{truth_name, nil_name}
use Rattle.model_terms.specs.Cores.{Core, Var, Const, Mv, MvLet, MustBeEqual, cores}
use Rattle.model_terms.specs.Worlds.{World}
use Rattle.model_logic.specs.Logic.{Theory, Found, Thing, Values, found, logic}
use Rattle.model_eval_rows.specs.Books.{int, call, always}
use Rattle.model_eval_rows.specs.Counting as counting
use Rattle.model_eval_rows.specs.Several as several
use Rattle.model_eval_rows.specs.Fields as fields

-- a form with its variables, a budget of calls, and its value with the calls that it took; None where the budget is too small
pub record LogicRow : Type 0 where
  pub world : World
  pub budget : ℕ
  pub values : Values
  pub form : Core
  pub answer : Option Found

abbrev pub theory_of : World → Theory
theory_of w = record { world = w; packages = []; symbols = truth_name ∷ nil_name ∷ [] }

abbrev pub logic_answer : LogicRow → Option Found
logic_answer r = logic (theory_of r.world) r.budget r.form r.values

pub record LogicIsRight (rows : List LogicRow) : Type 0 where
  pub all : map logic_answer rows ≡ map (λ (r : LogicRow). r.answer) rows

abbrev number : ℕ → Thing
number n = Integer (pos n)

abbrev nil : Thing
nil = Symbol nil_name

abbrev truth : Thing
truth = Symbol truth_name

abbrev list : List Thing → Thing
list os = list_onto os nil

abbrev numbers : List ℕ → Thing
numbers ns = list (map number ns)

abbrev run : World → ℕ → Values → Core → Option Found → LogicRow
run world budget values form answer = record { world = world; budget = budget; values = values; form = form; answer = answer }

abbrev counted : ℕ → Values → Core → Option Found → LogicRow
counted budget values form answer = run counting.book budget values form answer

abbrev st : ℕ → Values
st n = (counting.st, numbers (n ∷ [])) ∷ []

abbrev parent : ℕ → ℕ → Thing
parent a b = list (list (numbers (a ∷ []) ∷ numbers (b ∷ []) ∷ numbers (0 ∷ []) ∷ []) ∷ numbers (0 ∷ []) ∷ [])

unfoldable pub logic_rows : List LogicRow
logic_rows =
    -- the calls of checked evaluation without those of guards
    counted 1000 (st 0) counting.up_three (found (numbers (3 ∷ [])) 27)
    ∷ counted 27 (st 0) counting.up_three (found (numbers (3 ∷ [])) 27)
    ∷ counted 26 (st 0) counting.up_three None
    -- a call that does not end
    ∷ counted 50 [] (call counting.spin (int 1 ∷ [])) None
    -- where a guard fails: the field is no integer then
    ∷ counted 1000 (st 4) (call counting.update_pc (always ∷ Var counting.st ∷ [])) (found (list (truth ∷ [])) 1)
    -- a local stobj
    ∷ counted 1000 [] (call counting.local (int 9 ∷ [])) (found (number 9) 4)
    -- several values are a list, and are taken from one
    ∷ counted 1000 [] (Mv (cores (int 1 ∷ int 2 ∷ []))) (found (numbers (1 ∷ 2 ∷ [])) 0)
    ∷ counted 1000 [] (MvLet (7 ∷ 8 ∷ []) (Mv (cores (int 1 ∷ int 2 ∷ []))) (Var 8)) (found (number 2) 0)
    ∷ counted 1000 [] (MustBeEqual (int 1) (int 2)) (found (number 1) 0)
    -- the recognizer is the logical one
    ∷ counted 1000 (st 4) (call counting.stp (Var counting.st ∷ [])) (found truth 1)
    ∷ counted 1000 ((counting.st, numbers (4 ∷ 5 ∷ [])) ∷ []) (call counting.stp (Var counting.st ∷ [])) (found nil 1)
    ∷ counted 1000 ((counting.st, list (truth ∷ [])) ∷ []) (call counting.stp (Var counting.st ∷ [])) (found nil 1)
    -- children: one call for each that is bound, and for each that is put back
    ∷ run several.book 1000 ((several.par, parent 0 0) ∷ []) (several.call_two 0 1) (found (parent 1 2) 7)
    ∷ []

-- the stobj as a list whose hash field, the third, is this
abbrev hashed : Thing → Values
hashed pairs = (fields.st, list (numbers (1 ∷ []) ∷ numbers [] ∷ pairs ∷ [])) ∷ []

abbrev after : Thing → Thing
after pairs = list (numbers (1 ∷ []) ∷ numbers [] ∷ pairs ∷ [])

abbrev on : Thing → Core → Thing → LogicRow
on pairs form value = run fields.book 10 (hashed pairs) form (found value 1)

abbrev key : Core
key = int 5

-- elements that are no pairs, and pairs of one key
abbrev mixed : Thing
mixed = list (number 9 ∷ Pair (number 5) (number 1) ∷ nil ∷ Pair (number 6) (number 2) ∷ Pair (number 5) (number 3) ∷ [])

-- functions of arrays and hash fields on lists that no stobj has
unfoldable pub odd_rows : List LogicRow
odd_rows =
    on mixed (call fields.h_get (key ∷ Var fields.st ∷ [])) (number 1)
    ∷ on mixed (call fields.h_get (int 7 ∷ Var fields.st ∷ [])) nil
    ∷ on mixed (call fields.h_boundp (key ∷ Var fields.st ∷ [])) truth
    ∷ on mixed (call fields.h_boundp (int 9 ∷ Var fields.st ∷ [])) nil
    ∷ on mixed (call fields.h_get_bound (int 6 ∷ Var fields.st ∷ [])) (list (number 2 ∷ truth ∷ []))
    ∷ on mixed (call fields.h_count (Var fields.st ∷ [])) (number 2)
    ∷ on mixed (call fields.h_rem (key ∷ Var fields.st ∷ [])) (after (list (number 9 ∷ nil ∷ Pair (number 6) (number 2) ∷ [])))
    ∷ on (number 4) (call fields.h_put (key ∷ int 8 ∷ Var fields.st ∷ [])) (after (Pair (Pair (number 5) (number 8)) (number 4)))
    ∷ on (Pair (number 9) (number 4)) (call fields.h_rem (key ∷ Var fields.st ∷ [])) (after (list (number 9 ∷ [])))
    ∷ on mixed (call fields.h_clear (Var fields.st ∷ [])) (after nil)
    -- an index or a length that is no natural number counts as 0
    ∷ on nil (call fields.ai (Const (Integer (negsuc 0)) ∷ Var fields.st ∷ [])) (number 1)
    ∷ on nil (call fields.ai (int 7 ∷ Var fields.st ∷ [])) nil
    ∷ on nil (call fields.update_ai (int 2 ∷ int 9 ∷ Var fields.st ∷ [])) (list (list (number 1 ∷ nil ∷ number 9 ∷ []) ∷ nil ∷ nil ∷ []))
    ∷ on nil (call fields.resize_b (int 2 ∷ Var fields.st ∷ [])) (list (numbers (1 ∷ []) ∷ numbers (7 ∷ 7 ∷ []) ∷ nil ∷ []))
    ∷ on nil (call fields.resize_b (always ∷ Var fields.st ∷ [])) (after nil)
    -- a stobj that is no list
    ∷ run fields.book 10 ((fields.st, number 3) ∷ []) (call fields.b_length (Var fields.st ∷ [])) (found (number 0) 1)
    ∷ []
