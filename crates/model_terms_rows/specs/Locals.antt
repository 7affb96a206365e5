-- Local stobjs.
use Rattle.std.specs.Prelude.{List, [], ◌∷◌}
use Rattle.model_terms.specs.Cores.{Let, Mv, WithLocal, cores}
use Rattle.model_terms.specs.Worlds.{Stobj}
use Rattle.model_terms.specs.declared.rule.Rule.TheVariants.{S1, S11, S14, S16}
use Rattle.model_terms_rows.specs.Book.{st, st2, other, gate, get_a, update_a, pop, gate_get, pair, pick, u, v, x, var, number, call, o, of_object, of_value}
use Rattle.model_terms_rows.specs.Examples.{Example, holds, fault, expression, body, of_logic}

-- S14, and the second half of S16
abbrev pub local_stobjs : List Example
local_stobjs =
    -- (with-local-stobj st (mv-let (v st) (let ((st (update-a x st))) (mv (a st) st)) v)) where (one value) is expected
    body (of_value x ∷ []) (WithLocal st (v ∷ st ∷ []) (Let (st ∷ []) (cores (call update_a (var x ∷ var st ∷ []) ∷ [])) (Mv (cores (call get_a (var st ∷ []) ∷ var st ∷ [])))) (var v)) (o ∷ []) holds
    -- (with-local-stobj gate (mv-let (v gate) (mv (gate-get gate) gate) v)) where (one value) is expected
    ∷ body [] (WithLocal gate (v ∷ gate ∷ []) (Mv (cores (call gate_get (var gate ∷ []) ∷ var gate ∷ []))) (var v)) (o ∷ []) holds
    -- (cons 1 (with-local-stobj st (mv-let (v st) (pop st) v)))
    ∷ expression [] (call pair (number 1 ∷ WithLocal st (v ∷ st ∷ []) (call pop (var st ∷ [])) (var v) ∷ [])) holds
    -- (with-local-stobj st (mv-let (v u) (pick 1) v)) where (one value) is expected
    ∷ body [] (WithLocal st (v ∷ u ∷ []) (call pick (number 1 ∷ [])) (var v)) (o ∷ []) (fault S14 [])
    -- (with-local-stobj x (mv-let (v x) (pick 1) v)) where (one value) is expected
    ∷ body [] (WithLocal x (v ∷ x ∷ []) (call pick (number 1 ∷ [])) (var v)) (o ∷ []) (fault S14 [])
    -- (with-local-stobj st (mv-let (v st) st v)) where (one value) is expected
    ∷ body [] (WithLocal st (v ∷ st ∷ []) (var st) (var v)) (o ∷ []) (fault S14 [])
    -- (with-local-stobj st (mv-let (st v) (pop st) v)) where (one value) is expected
    ∷ body [] (WithLocal st (st ∷ v ∷ []) (call pop (var st ∷ [])) (var v)) (o ∷ []) (fault S14 [])
    -- (with-local-stobj st (mv-let (v st) (pick 1) v)) where (one value) is expected
    ∷ body [] (WithLocal st (v ∷ st ∷ []) (call pick (number 1 ∷ [])) (var v)) (o ∷ []) (fault S14 [])
    -- (with-local-stobj st (mv-let (other st) (mv other st) 5)) where (one value) is expected
    ∷ body (of_object other ∷ []) (WithLocal st (other ∷ st ∷ []) (Mv (cores (var other ∷ var st ∷ []))) (number 5)) (o ∷ []) (fault S14 [])
    -- (with-local-stobj st (mv-let (other st) (mv other st) other)) where (other) is expected
    ∷ body (of_object other ∷ []) (WithLocal st (other ∷ st ∷ []) (Mv (cores (var other ∷ var st ∷ []))) (var other)) (Stobj other ∷ []) holds
    -- (with-local-stobj st (mv-let (v st) (pop st) (a st))) where (one value) is expected
    ∷ body (of_object st ∷ []) (WithLocal st (v ∷ st ∷ []) (call pop (var st ∷ [])) (call get_a (var st ∷ []))) (o ∷ []) (fault S1 (1 ∷ 0 ∷ []))
    -- (with-local-stobj st (mv-let (v st) (pop st) st)) where (one value) is expected
    ∷ body (of_object st ∷ []) (WithLocal st (v ∷ st ∷ []) (call pop (var st ∷ [])) (var st)) (o ∷ []) (fault S11 (1 ∷ []))
    -- (with-local-stobj st2 (mv-let (v st2) (mv (a st) st2) v)) where (one value) is expected
    ∷ body (of_object st ∷ []) (WithLocal st2 (v ∷ st2 ∷ []) (Mv (cores (call get_a (var st ∷ []) ∷ var st2 ∷ []))) (var v)) (o ∷ []) holds
    -- (with-local-stobj st (mv-let (v st) (mv x st) v)) where (one value) is expected
    ∷ body [] (WithLocal st (v ∷ st ∷ []) (Mv (cores (var x ∷ var st ∷ []))) (var v)) (o ∷ []) (fault S11 (0 ∷ 0 ∷ []))
    -- in a function that does not run: (with-local-stobj st (mv-let (v st) (pop st) v))
    ∷ of_logic [] (WithLocal st (v ∷ st ∷ []) (call pop (var st ∷ [])) (var v)) (fault S16 [])
    -- in a function that does not run: (cons 1 (with-local-stobj st (mv-let (v st) (pop st) v)))
    ∷ of_logic (of_value x ∷ []) (call pair (number 1 ∷ WithLocal st (v ∷ st ∷ []) (call pop (var st ∷ [])) (var v) ∷ [])) (fault S16 (1 ∷ []))
    ∷ []
