-- Several stobjs and children: (defstobj kid (val :type integer :initially 0)),
-- (defstobj kid2 (val2 :type integer :initially 0) :congruent-to kid), (defstobj par (k :type (array kid (3))) (one :type kid)
-- (m :type (array kid (2)))).
use Rattle.std.specs.Prelude.{ℕ, List, [], ◌∷◌, ◌++◌, Some, None}
use Rattle.model_lists.specs.Lists.{StobjList, End}
use Rattle.model_terms.specs.Cores.{Core, Var, Let, Mv, StobjLet, cores}
use Rattle.model_terms.specs.Worlds.{World, Ordinary}
use Rattle.model_terms.specs.Worlds as worlds
use Rattle.model_terms.specs.declared.role.Role.TheVariants as role
use Rattle.model_eval.specs.Outcomes.{Plain, StobjNamed, Guard, Steps, Depth, Outcome}
use Rattle.model_eval.specs.Evaluated.{stobj_let_word}
use Rattle.model_eval_rows.specs.Books.{Row, number, symbol, int, quoted, call, both_hold, always, items, numbers, primitives, function, generated, stobj, integer_field, gives, stops, natp_word, below_word}

abbrev pub kid : ℕ
kid = 196

abbrev pub kid2 : ℕ
kid2 = 197

abbrev pub par : ℕ
par = 198

abbrev val : ℕ
val = 199

abbrev update_val : ℕ
update_val = 200

abbrev val2 : ℕ
val2 = 201

abbrev update_val2 : ℕ
update_val2 = 202

abbrev ki : ℕ
ki = 203

abbrev one : ℕ
one = 204

abbrev k_length : ℕ
k_length = 205

abbrev resize_k : ℕ
resize_k = 206

abbrev two : ℕ
two = 207

abbrev peek : ℕ
peek = 208

abbrev both : ℕ
both = 209

abbrev spoil : ℕ
spoil = 210

abbrev mi : ℕ
mi = 215

abbrev i : ℕ
i = 211

abbrev j : ℕ
j = 212

abbrev v : ℕ
v = 213

abbrev a : ℕ
a = 214

abbrev in_range : ℕ → Core
in_range x = both_hold (call natp_word (Var x ∷ [])) (call below_word (Var x ∷ int 3 ∷ []))

-- (and (natp i) (< i 3) (natp j) (< j 3))
abbrev two_guard : Core
two_guard = both_hold (call natp_word (Var i ∷ [])) (both_hold (call below_word (Var i ∷ int 3 ∷ [])) (in_range j))

abbrev set_val : ℕ → Core → Core
set_val x new = call update_val (new ∷ Var x ∷ [])

-- (let ((kid (update-val 1 kid))) (let ((kid2 (update-val 2 kid2))) (mv kid kid2)))
abbrev two_producer : Core
two_producer =
    Let (kid ∷ []) (cores (set_val kid (int 1) ∷ [])) (Let (kid2 ∷ []) (cores (set_val kid2 (int 2) ∷ [])) (Mv (cores (Var kid ∷ Var kid2 ∷ []))))

abbrev two_body : Core
two_body =
    StobjLet (kid ∷ kid2 ∷ []) (cores (call ki (Var i ∷ Var par ∷ []) ∷ call ki (Var j ∷ Var par ∷ []) ∷ [])) (kid ∷ kid2 ∷ [])
    two_producer (Var par)

-- (stobj-let ((kid (ki i par))) (v) (val kid) v)
abbrev peek_body : Core
peek_body = StobjLet (kid ∷ []) (cores (call ki (Var i ∷ Var par ∷ []) ∷ [])) (v ∷ []) (call val (Var kid ∷ [])) (Var v)

-- (stobj-let ((kid (ki i par)) (kid2 (one par))) (kid kid2)
--   (let ((kid (update-val 1 kid))) (let ((kid2 (update-val 'a kid2))) (mv kid kid2))) par)
abbrev spoil_body : Core
spoil_body =
    StobjLet (kid ∷ kid2 ∷ []) (cores (call ki (Var i ∷ Var par ∷ []) ∷ call one (Var par ∷ []) ∷ [])) (kid ∷ kid2 ∷ [])
    (Let (kid ∷ []) (cores (set_val kid (int 1) ∷ [])) (Let (kid2 ∷ []) (cores (set_val kid2 (quoted a) ∷ [])) (Mv (cores (Var kid ∷ Var kid2 ∷ [])))))
    (Var par)

-- (let ((kid (update-val 7 kid))) (let ((kid2 (update-val2 8 kid2))) (mv kid kid2)))
abbrev both_body : Core
both_body =
    Let (kid ∷ []) (cores (set_val kid (int 7) ∷ []))
    (Let (kid2 ∷ []) (cores (call update_val2 (int 8 ∷ Var kid2 ∷ []) ∷ [])) (Mv (cores (Var kid ∷ Var kid2 ∷ []))))

abbrev ordinary_and_par : List worlds.Out
ordinary_and_par = Ordinary ∷ worlds.Stobj par ∷ []

abbrev pub book : World
book =
    primitives
    ++ (stobj kid (integer_field ∷ []) None kid
    ∷ stobj kid2 (integer_field ∷ []) (Some kid) kid
    ∷ stobj par (worlds.Children kid 3 ∷ worlds.Child kid ∷ worlds.Children kid 2 ∷ []) None par
    ∷ generated val kid 0 role.Access (worlds.Stobj kid ∷ []) (Ordinary ∷ [])
    ∷ generated update_val kid 0 role.Update (Ordinary ∷ worlds.Stobj kid ∷ []) (worlds.Stobj kid ∷ [])
    ∷ generated val2 kid2 0 role.Access (worlds.Stobj kid2 ∷ []) (Ordinary ∷ [])
    ∷ generated update_val2 kid2 0 role.Update (Ordinary ∷ worlds.Stobj kid2 ∷ []) (worlds.Stobj kid2 ∷ [])
    ∷ generated ki par 0 role.Access ordinary_and_par (worlds.Stobj kid ∷ [])
    ∷ generated mi par 2 role.Access ordinary_and_par (worlds.Stobj kid ∷ [])
    ∷ generated one par 1 role.Access (worlds.Stobj par ∷ []) (worlds.Stobj kid ∷ [])
    ∷ generated k_length par 0 role.Length (worlds.Stobj par ∷ []) (Ordinary ∷ [])
    ∷ generated resize_k par 0 role.Resize ordinary_and_par (worlds.Stobj par ∷ [])
    ∷ function two (i ∷ j ∷ par ∷ []) (Ordinary ∷ ordinary_and_par) (worlds.Stobj par ∷ []) two_guard two_body
    ∷ function peek (i ∷ par ∷ []) ordinary_and_par (Ordinary ∷ []) (in_range i) peek_body
    ∷ function spoil (i ∷ par ∷ []) ordinary_and_par (worlds.Stobj par ∷ []) always spoil_body
    ∷ function both (kid ∷ kid2 ∷ []) (worlds.Stobj kid ∷ worlds.Stobj kid2 ∷ []) (worlds.Stobj kid ∷ worlds.Stobj kid2 ∷ []) always both_body
    ∷ [])

abbrev pub one_field : ℕ → StobjList ℕ
one_field n = numbers (n ∷ [])

abbrev pub parent : ℕ → ℕ → ℕ → ℕ → StobjList ℕ
parent a b c d =
    items (items (one_field a ∷ one_field b ∷ one_field c ∷ []) ∷ one_field d ∷ items (one_field 0 ∷ one_field 0 ∷ []) ∷ [])

-- kid, kid2 and par
abbrev pub family : ℕ → ℕ → StobjList ℕ → List (ℕ × StobjList ℕ)
family a b p = (kid, one_field a) ∷ (kid2, one_field b) ∷ (par, p) ∷ []

abbrev run : ℕ → ℕ → List (ℕ × StobjList ℕ) → Core → Outcome ℕ → Row
run limit depth before form answer = record { world = book; limit = limit; depth = depth; stobjs = before; form = form; answer = answer }

abbrev new : List (ℕ × StobjList ℕ)
new = family 0 0 (parent 0 0 0 0)

abbrev pub call_two : ℕ → ℕ → Core
call_two m n = call two (int m ∷ int n ∷ Var par ∷ [])

unfoldable pub child_rows : List Row
child_rows =
    run 1000 100 new (call_two 0 1) (gives (StobjNamed par ∷ []) (family 0 0 (parent 1 2 0 0)) 11)
    -- one element twice: found once both accessors were counted
    ∷ run 1000 100 new (call_two 2 2) (stops (Guard stobj_let_word (Plain (number 2) ∷ Plain (number 2) ∷ [])) new 7)
    -- an index that is none: the first binding stops at once
    ∷ run 1000 100 new (call spoil (int 3 ∷ Var par ∷ [])) (stops (Guard ki (Plain (number 3) ∷ StobjNamed par ∷ [])) new 2)
    -- a producer that stops leaves what it changed in the parent
    ∷ run 1000 100 new (call spoil (int 1 ∷ Var par ∷ [])) (stops (Guard update_val (Plain (symbol a) ∷ StobjNamed kid2 ∷ [])) (family 0 0 (parent 0 1 0 0)) 5)
    -- the limit in the bindings, in the producer, while children are put back, and at the last of them
    ∷ run 6 100 new (call_two 0 1) (stops Steps new 6)
    ∷ run 8 100 new (call_two 0 1) (stops Steps (family 0 0 (parent 1 0 0 0)) 8)
    ∷ run 9 100 new (call_two 0 1) (stops Steps (family 0 0 (parent 1 2 0 0)) 9)
    ∷ run 10 100 new (call_two 0 1) (stops Steps (family 0 0 (parent 1 2 0 0)) 10)
    ∷ run 11 100 new (call_two 0 1) (gives (StobjNamed par ∷ []) (family 0 0 (parent 1 2 0 0)) 11)
    -- a child that is not among the variables is not put back
    ∷ run 1000 100 (family 5 6 (parent 1 2 0 0)) (call peek (int 1 ∷ Var par ∷ [])) (gives (Plain (number 2) ∷ []) (family 5 6 (parent 1 2 0 0)) 5)
    -- three forms are open at once; an accessor opens none
    ∷ run 1000 3 (family 5 6 (parent 1 2 0 0)) (call peek (int 1 ∷ Var par ∷ [])) (gives (Plain (number 2) ∷ []) (family 5 6 (parent 1 2 0 0)) 5)
    ∷ run 1000 2 (family 5 6 (parent 1 2 0 0)) (call peek (int 1 ∷ Var par ∷ [])) (stops Depth (family 5 6 (parent 1 2 0 0)) 1)
    ∷ run 1000 1 new (StobjLet (kid ∷ []) (cores (call ki (int 1 ∷ Var par ∷ []) ∷ [])) (v ∷ []) (int 5) (Var v)) (gives (Plain (number 5) ∷ []) new 1)
    -- equal indices in different arrays are no two of one
    ∷ run 1000 100 new
    (StobjLet (kid ∷ kid2 ∷ []) (cores (call ki (int 1 ∷ Var par ∷ []) ∷ call mi (int 1 ∷ Var par ∷ []) ∷ [])) (kid ∷ kid2 ∷ [])
    (Let (kid ∷ []) (cores (set_val kid (int 4) ∷ [])) (Mv (cores (Var kid ∷ Var kid2 ∷ [])))) (Var par))
    (gives (StobjNamed par ∷ []) (family 0 0 (parent 0 4 0 0)) 5)
    ∷ run 1000 100 new (call k_length (Var par ∷ [])) (gives (Plain (number 3) ∷ []) new 1)
    ∷ run 1000 100 new (call resize_k (int 3 ∷ Var par ∷ [])) (stops (Guard resize_k (Plain (number 3) ∷ StobjNamed par ∷ [])) new 1)
    ∷ []

-- (both kid2 kid) on 0 and 5: the formals are the other way round
unfoldable pub congruent_rows : List Row
congruent_rows =
    run 1000 100 (family 0 0 End) (call update_val (int 5 ∷ Var kid2 ∷ [])) (gives (StobjNamed kid2 ∷ []) (family 0 5 End) 1)
    ∷ run 1000 100 (family 0 5 End) (call both (Var kid2 ∷ Var kid ∷ [])) (gives (StobjNamed kid2 ∷ StobjNamed kid ∷ []) (family 8 7 End) 3)
    ∷ run 1000 100 (family 0 5 End) (call both (Var kid ∷ Var kid2 ∷ [])) (gives (StobjNamed kid ∷ StobjNamed kid2 ∷ []) (family 7 8 End) 3)
    -- a stop hands the lists back too
    ∷ run 2 100 (family 0 5 End) (call both (Var kid2 ∷ Var kid ∷ [])) (stops Steps (family 0 7 End) 2)
    ∷ []
