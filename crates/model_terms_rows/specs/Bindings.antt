-- What is bound to names, and several values at once.
use Rattle.std.specs.Prelude.{List, [], ◌∷◌}
use Rattle.model_terms.specs.Cores.{Let, Mv, MvLet, cores}
use Rattle.model_terms.specs.Worlds.{Stobj}
use Rattle.model_terms.specs.declared.rule.Rule.TheVariants.{S4, S5, S6, S8, S9}
use Rattle.model_terms_rows.specs.Book.{st, st2, get_a, update_a, update_b, both, pop, pair, pick, v, x, y, var, number, call, o, of_object}
use Rattle.model_terms_rows.specs.Examples.{Example, holds, fault, expression, body}

-- S4, S5, S6 of LET
abbrev pub lets : List Example
lets =
    -- (let ((x (a st)) (st (update-a 1 st))) (mv x st))
    expression [] (Let (x ∷ st ∷ []) (cores (call get_a (var st ∷ []) ∷ call update_a (number 1 ∷ var st ∷ []) ∷ [])) (Mv (cores (var x ∷ var st ∷ [])))) (fault S4 [])
    -- (let ((st (update-a 1 st)) (st2 (update-b 1 st2))) (mv st st2))
    ∷ expression [] (Let (st ∷ st2 ∷ []) (cores (call update_a (number 1 ∷ var st ∷ []) ∷ call update_b (number 1 ∷ var st2 ∷ []) ∷ [])) (Mv (cores (var st ∷ var st2 ∷ [])))) (fault S4 [])
    -- (let ((x 1) (y 2)) (cons x y))
    ∷ expression [] (Let (x ∷ y ∷ []) (cores (number 1 ∷ number 2 ∷ [])) (call pair (var x ∷ var y ∷ []))) holds
    -- (let ((st (update-a 1 st))) (mv (a st) st))
    ∷ expression [] (Let (st ∷ []) (cores (call update_a (number 1 ∷ var st ∷ []) ∷ [])) (Mv (cores (call get_a (var st ∷ []) ∷ var st ∷ [])))) holds
    -- (let ((st (update-a 7 st))) (let ((st2 (update-b 8 st2))) (mv st st2)))
    ∷ expression [] (Let (st ∷ []) (cores (call update_a (number 7 ∷ var st ∷ []) ∷ [])) (Let (st2 ∷ []) (cores (call update_b (number 8 ∷ var st2 ∷ []) ∷ [])) (Mv (cores (var st ∷ var st2 ∷ []))))) holds
    -- (let ((st 5)) st)
    ∷ expression [] (Let (st ∷ []) (cores (number 5 ∷ [])) (var st)) (fault S5 [])
    -- (let ((st (update-b 1 st2))) st)
    ∷ expression [] (Let (st ∷ []) (cores (call update_b (number 1 ∷ var st2 ∷ []) ∷ [])) (var st)) (fault S5 [])
    -- (let ((st (update-a 1 st2))) st)
    ∷ expression [] (Let (st ∷ []) (cores (call update_a (number 1 ∷ var st2 ∷ []) ∷ [])) (var st)) (fault S5 [])
    -- (let ((st2 (update-a 1 st2))) st2)
    ∷ expression [] (Let (st2 ∷ []) (cores (call update_a (number 1 ∷ var st2 ∷ []) ∷ [])) (var st2)) holds
    -- (let ((st (both st st2))) st)
    ∷ expression [] (Let (st ∷ []) (cores (call both (var st ∷ var st2 ∷ []) ∷ [])) (var st)) (fault S5 [])
    -- (let ((st (update-a 1 st))) 5)
    ∷ expression [] (Let (st ∷ []) (cores (call update_a (number 1 ∷ var st ∷ []) ∷ [])) (number 5)) (fault S6 [])
    -- (let ((st (update-a 1 st))) (a st))
    ∷ expression [] (Let (st ∷ []) (cores (call update_a (number 1 ∷ var st ∷ []) ∷ [])) (call get_a (var st ∷ []))) (fault S6 [])
    -- (cons 1 (let ((st (update-a 1 st))) (a st)))
    ∷ expression [] (call pair (number 1 ∷ Let (st ∷ []) (cores (call update_a (number 1 ∷ var st ∷ []) ∷ [])) (call get_a (var st ∷ [])) ∷ [])) (fault S6 (1 ∷ []))
    -- (let ((st (update-a 1 st))) (mv 5 st)) where (one value st) is expected
    ∷ body (of_object st ∷ []) (Let (st ∷ []) (cores (call update_a (number 1 ∷ var st ∷ []) ∷ [])) (Mv (cores (number 5 ∷ var st ∷ [])))) (o ∷ Stobj st ∷ []) holds
    ∷ []

-- S6 and S9 of MV-LET, S9 of MV
abbrev pub several_values : List Example
several_values =
    -- (mv-let (v st) (pop st) (mv v st))
    expression [] (MvLet (v ∷ st ∷ []) (call pop (var st ∷ [])) (Mv (cores (var v ∷ var st ∷ [])))) holds
    -- (mv-let (v st) (pop st) st)
    ∷ expression [] (MvLet (v ∷ st ∷ []) (call pop (var st ∷ [])) (var st)) holds
    -- (mv-let (v st) (pop st) v)
    ∷ expression [] (MvLet (v ∷ st ∷ []) (call pop (var st ∷ [])) (var v)) (fault S6 [])
    -- (mv-let (v st) (pick 1) v)
    ∷ expression [] (MvLet (v ∷ st ∷ []) (call pick (number 1 ∷ [])) (var v)) (fault S6 [])
    -- (mv-let (x y) (pick 1) (cons x y))
    ∷ expression [] (MvLet (x ∷ y ∷ []) (call pick (number 1 ∷ [])) (call pair (var x ∷ var y ∷ []))) holds
    -- (mv-let (x y) (cons 1 2) x)
    ∷ expression [] (MvLet (x ∷ y ∷ []) (call pair (number 1 ∷ number 2 ∷ [])) (var x)) (fault S9 [])
    -- (mv-let (v st) (pop st2) (mv v st))
    ∷ expression [] (MvLet (v ∷ st ∷ []) (call pop (var st2 ∷ [])) (Mv (cores (var v ∷ var st ∷ [])))) (fault S9 [])
    -- (mv-let (v st2) (pop st2) (mv v st2))
    ∷ expression [] (MvLet (v ∷ st2 ∷ []) (call pop (var st2 ∷ [])) (Mv (cores (var v ∷ var st2 ∷ [])))) holds
    -- (mv-let (st v) (pop st) (mv v st))
    ∷ expression [] (MvLet (st ∷ v ∷ []) (call pop (var st ∷ [])) (Mv (cores (var v ∷ var st ∷ [])))) (fault S9 [])
    -- (mv st st)
    ∷ expression [] (Mv (cores (var st ∷ var st ∷ []))) (fault S9 [])
    -- (mv st st2)
    ∷ expression [] (Mv (cores (var st ∷ var st2 ∷ []))) holds
    -- (mv (a st) st)
    ∷ expression [] (Mv (cores (call get_a (var st ∷ []) ∷ var st ∷ []))) holds
    -- (mv 5 (update-a 1 st))
    ∷ expression [] (Mv (cores (number 5 ∷ call update_a (number 1 ∷ var st ∷ []) ∷ []))) (fault S8 (1 ∷ []))
    -- (mv 5 st) where (one value st) is expected
    ∷ body (of_object st ∷ []) (Mv (cores (number 5 ∷ var st ∷ []))) (o ∷ Stobj st ∷ []) holds
    -- (mv 5 st) where (st one value) is expected
    ∷ body (of_object st ∷ []) (Mv (cores (number 5 ∷ var st ∷ []))) (Stobj st ∷ o ∷ []) (fault S9 [])
    -- (mv 1 2) where (one value) is expected
    ∷ body [] (Mv (cores (number 1 ∷ number 2 ∷ []))) (o ∷ []) (fault S9 [])
    -- (mv 1 2) where (two values one value) is expected
    ∷ body [] (Mv (cores (number 1 ∷ number 2 ∷ []))) (o ∷ o ∷ o ∷ []) (fault S9 [])
    -- (mv 1 (update-a 1 st)) where (one value st) is expected
    ∷ body (of_object st ∷ []) (Mv (cores (number 1 ∷ call update_a (number 1 ∷ var st ∷ []) ∷ []))) (o ∷ Stobj st ∷ []) (fault S9 [])
    ∷ []
