-- Variables, constants and branches.
use Rattle.std.specs.Prelude.{List, [], ◌∷◌}
use Rattle.model_terms.specs.Cores.{If, Let, Mv, MustBeEqual, cores}
use Rattle.model_terms.specs.Worlds.{Stobj}
use Rattle.model_terms.specs.declared.rule.Rule.TheVariants.{S3, S7, S8, S11}
use Rattle.model_terms_rows.specs.Book.{st, st2, get_a, update_a, both, pair, pick, x, var, number, call, o, of_object, of_value}
use Rattle.model_terms_rows.specs.Examples.{Example, holds, fault, expression, body}

-- S3, S11
abbrev pub misplaced : List Example
misplaced =
    -- st
    expression [] (var st) holds
    -- (cons st 1)
    ∷ expression [] (call pair (var st ∷ number 1 ∷ [])) (fault S3 (0 ∷ []))
    -- (if st 1 2)
    ∷ expression [] (If (var st) (number 1) (number 2)) (fault S3 (0 ∷ []))
    -- (let ((x st)) x)
    ∷ expression [] (Let (x ∷ []) (cores (var st ∷ [])) (var x)) (fault S3 (0 ∷ []))
    -- st where (one value) is expected
    ∷ body (of_object st ∷ []) (var st) (o ∷ []) (fault S3 [])
    -- (mv st 1) where (two values) is expected
    ∷ body (of_object st ∷ []) (Mv (cores (var st ∷ number 1 ∷ []))) (o ∷ o ∷ []) (fault S3 (0 ∷ []))
    -- (cons x 1)
    ∷ expression (of_value x ∷ []) (call pair (var x ∷ number 1 ∷ [])) holds
    -- (cons x 1)
    ∷ expression [] (call pair (var x ∷ number 1 ∷ [])) (fault S11 (0 ∷ []))
    -- x where (one value) is expected
    ∷ body [] (var x) (o ∷ []) (fault S11 [])
    -- x where (st) is expected
    ∷ body [] (var x) (Stobj st ∷ []) (fault S8 [])
    -- st where (one value) is expected
    ∷ body [] (var st) (o ∷ []) (fault S11 [])
    -- (let ((x 1)) x)
    ∷ expression [] (Let (x ∷ []) (cores (number 1 ∷ [])) (var x)) holds
    -- (cons (let ((x 1)) x) x)
    ∷ expression [] (call pair (Let (x ∷ []) (cores (number 1 ∷ [])) (var x) ∷ var x ∷ [])) (fault S11 (1 ∷ []))
    -- (let ((x x)) x)
    ∷ expression [] (Let (x ∷ []) (cores (var x ∷ [])) (var x)) (fault S11 (0 ∷ []))
    -- (cons x (both st st))
    ∷ expression [] (call pair (var x ∷ call both (var st ∷ var st ∷ []) ∷ [])) (fault S11 (0 ∷ []))
    ∷ []

-- S7, S8
abbrev pub unequal : List Example
unequal =
    -- (if x st (update-a 1 st))
    expression (of_value x ∷ []) (If (var x) (var st) (call update_a (number 1 ∷ var st ∷ []))) holds
    -- (if 1 st 5)
    ∷ expression [] (If (number 1) (var st) (number 5)) (fault S7 [])
    -- (if 1 st st2)
    ∷ expression [] (If (number 1) (var st) (var st2)) (fault S7 [])
    -- (if 1 5 (pick 1))
    ∷ expression [] (If (number 1) (number 5) (call pick (number 1 ∷ []))) (fault S7 [])
    -- (must-be-equal (a st) 5)
    ∷ expression [] (MustBeEqual (call get_a (var st ∷ [])) (number 5)) holds
    -- (must-be-equal st 5)
    ∷ expression [] (MustBeEqual (var st) (number 5)) (fault S7 [])
    -- (update-a 1 st) where (one value) is expected
    ∷ body (of_object st ∷ []) (call update_a (number 1 ∷ var st ∷ [])) (o ∷ []) (fault S8 [])
    -- (update-a 1 st) where (st) is expected
    ∷ body (of_object st ∷ []) (call update_a (number 1 ∷ var st ∷ [])) (Stobj st ∷ []) holds
    -- (update-a 1 st2) where (st) is expected
    ∷ body (of_object st ∷ of_object st2 ∷ []) (call update_a (number 1 ∷ var st2 ∷ [])) (Stobj st ∷ []) (fault S8 [])
    -- (update-a 1 st2) where (st2) is expected
    ∷ body (of_object st ∷ of_object st2 ∷ []) (call update_a (number 1 ∷ var st2 ∷ [])) (Stobj st2 ∷ []) holds
    -- st2 where (st) is expected
    ∷ body (of_object st ∷ of_object st2 ∷ []) (var st2) (Stobj st ∷ []) (fault S8 [])
    -- 5 where (st) is expected
    ∷ body (of_object st ∷ []) (number 5) (Stobj st ∷ []) (fault S8 [])
    -- (pick 1) where (two values) is expected
    ∷ body [] (call pick (number 1 ∷ [])) (o ∷ o ∷ []) holds
    -- (cons 1 2) where (two values) is expected
    ∷ body [] (call pair (number 1 ∷ number 2 ∷ [])) (o ∷ o ∷ []) (fault S8 [])
    -- (cons (pick 1) 2)
    ∷ expression [] (call pair (call pick (number 1 ∷ []) ∷ number 2 ∷ [])) (fault S8 (0 ∷ []))
    -- (let ((x 1)) 5) where (two values) is expected
    ∷ body [] (Let (x ∷ []) (cores (number 1 ∷ [])) (number 5)) (o ∷ o ∷ []) (fault S8 (1 ∷ []))
    -- (if 1 2 3) where (two values) is expected
    ∷ body [] (If (number 1) (number 2) (number 3)) (o ∷ o ∷ []) (fault S8 (1 ∷ []))
    -- (must-be-equal (a st) (cons 1 st)) where (one value) is expected
    ∷ body (of_object st ∷ []) (MustBeEqual (call get_a (var st ∷ [])) (call pair (number 1 ∷ var st ∷ []))) (o ∷ []) (fault S3 (1 ∷ 1 ∷ []))
    ∷ []
