-- Children of stobjs.
use Rattle.std.specs.Prelude.{List, [], ◌∷◌, neg_ℤ, pos}
use Rattle.model_objects.specs.Object.{Integer, Text}
use Rattle.model_terms.specs.Cores.{Const, If, Let, Mv, StobjLet, cores}
use Rattle.model_terms.specs.Worlds.{Stobj}
use Rattle.model_terms.specs.declared.rule.Rule.TheVariants.{S1, S8, S9, S11, S13, S16}
use Rattle.model_terms_rows.specs.Book.{st, other, kid, kid2, par, par2, box, val, update_val, ki, ki2, mi, get_n, update_n, get_kid, plus_two, k_length, v, x, i, j, var, number, call, o, of_object, of_value}
use Rattle.model_terms_rows.specs.Examples.{Example, holds, fault, expression, body, of_logic}

-- S13, where it holds
abbrev pub accepted_children : List Example
accepted_children =
    -- (stobj-let ((kid (ki i par))) (kid) (update-val 1 kid) par) where (par) is expected
    body (of_value i ∷ of_object par ∷ []) (StobjLet (kid ∷ []) (cores (call ki (var i ∷ var par ∷ []) ∷ [])) (kid ∷ []) (call update_val (number 1 ∷ var kid ∷ [])) (var par)) (Stobj par ∷ []) holds
    -- (stobj-let ((kid (ki i par))) (v) (val kid) v) where (one value) is expected
    ∷ body (of_value i ∷ of_object par ∷ []) (StobjLet (kid ∷ []) (cores (call ki (var i ∷ var par ∷ []) ∷ [])) (v ∷ []) (call val (var kid ∷ [])) (var v)) (o ∷ []) holds
    -- (stobj-let ((kid (ki i par)) (kid2 (ki j par))) (kid kid2) (let ((kid (update-val 1 kid))) (let ((kid2 (update-val 2 kid2))) (mv kid kid2))) par) where (par) is expected
    ∷ body (of_value i ∷ of_value j ∷ of_object par ∷ []) (StobjLet (kid ∷ kid2 ∷ []) (cores (call ki (var i ∷ var par ∷ []) ∷ call ki (var j ∷ var par ∷ []) ∷ [])) (kid ∷ kid2 ∷ []) (Let (kid ∷ []) (cores (call update_val (number 1 ∷ var kid ∷ []) ∷ [])) (Let (kid2 ∷ []) (cores (call update_val (number 2 ∷ var kid2 ∷ []) ∷ [])) (Mv (cores (var kid ∷ var kid2 ∷ []))))) (var par)) (Stobj par ∷ []) holds
    -- (stobj-let ((kid (ki i par)) (kid2 (ki i par))) (kid) kid par) where (par) is expected
    ∷ body (of_value i ∷ of_object par ∷ []) (StobjLet (kid ∷ kid2 ∷ []) (cores (call ki (var i ∷ var par ∷ []) ∷ call ki (var i ∷ var par ∷ []) ∷ [])) (kid ∷ []) (var kid) (var par)) (Stobj par ∷ []) holds
    -- (stobj-let ((kid (ki 0 par)) (kid2 (ki 1 par))) (kid) kid par) where (par) is expected
    ∷ body (of_object par ∷ []) (StobjLet (kid ∷ kid2 ∷ []) (cores (call ki (number 0 ∷ var par ∷ []) ∷ call ki (number 1 ∷ var par ∷ []) ∷ [])) (kid ∷ []) (var kid) (var par)) (Stobj par ∷ []) holds
    -- (stobj-let ((kid (ki 1 par)) (kid2 (mi 1 par))) (kid) kid par) where (par) is expected
    ∷ body (of_object par ∷ []) (StobjLet (kid ∷ kid2 ∷ []) (cores (call ki (number 1 ∷ var par ∷ []) ∷ call mi (number 1 ∷ var par ∷ []) ∷ [])) (kid ∷ []) (var kid) (var par)) (Stobj par ∷ []) holds
    -- (stobj-let ((kid (ki 0 par2))) (kid) kid par2) where (par2) is expected
    ∷ body (of_object par2 ∷ []) (StobjLet (kid ∷ []) (cores (call ki (number 0 ∷ var par2 ∷ []) ∷ [])) (kid ∷ []) (var kid) (var par2)) (Stobj par2 ∷ []) holds
    -- (stobj-let ((kid (kid-of box))) (kid) (update-val 1 kid) box) where (box) is expected
    ∷ body (of_object box ∷ []) (StobjLet (kid ∷ []) (cores (call get_kid (var box ∷ []) ∷ [])) (kid ∷ []) (call update_val (number 1 ∷ var kid ∷ [])) (var box)) (Stobj box ∷ []) holds
    -- (stobj-let ((kid2 (kid-of box))) (kid2 v) (mv kid2 5) (mv v box)) where (one value box) is expected
    ∷ body (of_object box ∷ []) (StobjLet (kid2 ∷ []) (cores (call get_kid (var box ∷ []) ∷ [])) (kid2 ∷ v ∷ []) (Mv (cores (var kid2 ∷ number 5 ∷ []))) (Mv (cores (var v ∷ var box ∷ [])))) (o ∷ Stobj box ∷ []) holds
    -- (if 1 (stobj-let ((kid (ki 0 par))) (kid) kid par) (update-n 1 par))
    ∷ expression [] (If (number 1) (StobjLet (kid ∷ []) (cores (call ki (number 0 ∷ var par ∷ []) ∷ [])) (kid ∷ []) (var kid) (var par)) (call update_n (number 1 ∷ var par ∷ []))) holds
    ∷ []

-- S13, where it fails
abbrev pub refused_children : List Example
refused_children =
    -- (stobj-let ((kid (n par))) (kid) kid par) where (par) is expected
    body (of_object par ∷ []) (StobjLet (kid ∷ []) (cores (call get_n (var par ∷ []) ∷ [])) (kid ∷ []) (var kid) (var par)) (Stobj par ∷ []) (fault S13 [])
    -- (stobj-let ((kid (k-length par))) (kid) kid par) where (par) is expected
    ∷ body (of_object par ∷ []) (StobjLet (kid ∷ []) (cores (call k_length (var par ∷ []) ∷ [])) (kid ∷ []) (var kid) (var par)) (Stobj par ∷ []) (fault S13 [])
    -- (stobj-let ((kid par)) (kid) kid par) where (par) is expected
    ∷ body (of_object par ∷ []) (StobjLet (kid ∷ []) (cores (var par ∷ [])) (kid ∷ []) (var kid) (var par)) (Stobj par ∷ []) (fault S13 [])
    -- (stobj-let ((kid (ki 0 (update-n 1 par)))) (kid) kid par) where (par) is expected
    ∷ body (of_object par ∷ []) (StobjLet (kid ∷ []) (cores (call ki (number 0 ∷ call update_n (number 1 ∷ var par ∷ []) ∷ []) ∷ [])) (kid ∷ []) (var kid) (var par)) (Stobj par ∷ []) (fault S13 [])
    -- (stobj-let ((kid (ki 0 par))) (v) (val kid) v) where (one value) is expected
    ∷ body [] (StobjLet (kid ∷ []) (cores (call ki (number 0 ∷ var par ∷ []) ∷ [])) (v ∷ []) (call val (var kid ∷ [])) (var v)) (o ∷ []) (fault S13 [])
    -- (stobj-let ((kid (ki 0 box))) (kid) kid box) where (box) is expected
    ∷ body (of_object box ∷ []) (StobjLet (kid ∷ []) (cores (call ki (number 0 ∷ var box ∷ []) ∷ [])) (kid ∷ []) (var kid) (var box)) (Stobj box ∷ []) (fault S13 [])
    -- (stobj-let ((kid (kid-of par))) (kid) kid par) where (par) is expected
    ∷ body (of_object par ∷ []) (StobjLet (kid ∷ []) (cores (call get_kid (var par ∷ []) ∷ [])) (kid ∷ []) (var kid) (var par)) (Stobj par ∷ []) (fault S13 [])
    -- (stobj-let ((kid (kid-of 0 box))) (kid) kid box) where (box) is expected
    ∷ body (of_object box ∷ []) (StobjLet (kid ∷ []) (cores (call get_kid (number 0 ∷ var box ∷ []) ∷ [])) (kid ∷ []) (var kid) (var box)) (Stobj box ∷ []) (fault S13 [])
    -- (stobj-let ((kid (ki par))) (kid) kid par) where (par) is expected
    ∷ body (of_object par ∷ []) (StobjLet (kid ∷ []) (cores (call ki (var par ∷ []) ∷ [])) (kid ∷ []) (var kid) (var par)) (Stobj par ∷ []) (fault S13 [])
    -- (stobj-let ((kid (ki 0 par)) (kid2 (ki 1 par2))) (kid) kid par) where (par) is expected
    ∷ body (of_object par ∷ of_object par2 ∷ []) (StobjLet (kid ∷ kid2 ∷ []) (cores (call ki (number 0 ∷ var par ∷ []) ∷ call ki (number 1 ∷ var par2 ∷ []) ∷ [])) (kid ∷ []) (var kid) (var par)) (Stobj par ∷ []) (fault S13 [])
    -- (stobj-let ((st (ki 0 par))) (st) st par) where (par) is expected
    ∷ body (of_object par ∷ []) (StobjLet (st ∷ []) (cores (call ki (number 0 ∷ var par ∷ []) ∷ [])) (st ∷ []) (var st) (var par)) (Stobj par ∷ []) (fault S13 [])
    -- (stobj-let ((x (ki 0 par))) (v) 1 v) where (one value) is expected
    ∷ body (of_object par ∷ []) (StobjLet (x ∷ []) (cores (call ki (number 0 ∷ var par ∷ []) ∷ [])) (v ∷ []) (number 1) (var v)) (o ∷ []) (fault S13 [])
    -- (stobj-let ((kid (ki 0 par)) (kid (ki 1 par))) (kid) kid par) where (par) is expected
    ∷ body (of_object par ∷ []) (StobjLet (kid ∷ kid ∷ []) (cores (call ki (number 0 ∷ var par ∷ []) ∷ call ki (number 1 ∷ var par ∷ []) ∷ [])) (kid ∷ []) (var kid) (var par)) (Stobj par ∷ []) (fault S13 [])
    -- (stobj-let ((kid (ki 1 par)) (kid2 (ki 1 par))) (kid) kid par) where (par) is expected
    ∷ body (of_object par ∷ []) (StobjLet (kid ∷ kid2 ∷ []) (cores (call ki (number 1 ∷ var par ∷ []) ∷ call ki (number 1 ∷ var par ∷ []) ∷ [])) (kid ∷ []) (var kid) (var par)) (Stobj par ∷ []) (fault S13 [])
    -- (stobj-let ((kid (ki 1 par)) (kid2 (ki2 1 par))) (kid) kid par) where (par) is expected
    ∷ body (of_object par ∷ []) (StobjLet (kid ∷ kid2 ∷ []) (cores (call ki (number 1 ∷ var par ∷ []) ∷ call ki2 (number 1 ∷ var par ∷ []) ∷ [])) (kid ∷ []) (var kid) (var par)) (Stobj par ∷ []) (fault S13 [])
    -- (stobj-let ((kid (kid-of box)) (kid2 (kid-of box))) (kid) kid box) where (box) is expected
    ∷ body (of_object box ∷ []) (StobjLet (kid ∷ kid2 ∷ []) (cores (call get_kid (var box ∷ []) ∷ call get_kid (var box ∷ []) ∷ [])) (kid ∷ []) (var kid) (var box)) (Stobj box ∷ []) (fault S13 [])
    ∷ []

-- S13: indices, variables, the parent
abbrev pub refused_parts : List Example
refused_parts =
    -- (stobj-let ((kid (ki i par))) (kid) kid par) where (par) is expected
    body (of_object par ∷ []) (StobjLet (kid ∷ []) (cores (call ki (var i ∷ var par ∷ []) ∷ [])) (kid ∷ []) (var kid) (var par)) (Stobj par ∷ []) (fault S13 [])
    -- (stobj-let ((kid (ki st par))) (kid) kid par) where (par) is expected
    ∷ body (of_object st ∷ of_object par ∷ []) (StobjLet (kid ∷ []) (cores (call ki (var st ∷ var par ∷ []) ∷ [])) (kid ∷ []) (var kid) (var par)) (Stobj par ∷ []) (fault S13 [])
    -- (stobj-let ((kid (ki (plus-two 1) par))) (kid) kid par) where (par) is expected
    ∷ body (of_object par ∷ []) (StobjLet (kid ∷ []) (cores (call ki (call plus_two (number 1 ∷ []) ∷ var par ∷ []) ∷ [])) (kid ∷ []) (var kid) (var par)) (Stobj par ∷ []) (fault S13 [])
    -- (stobj-let ((kid (ki -1 par))) (kid) kid par) where (par) is expected
    ∷ body (of_object par ∷ []) (StobjLet (kid ∷ []) (cores (call ki (Const (Integer (neg_ℤ (pos 1))) ∷ var par ∷ []) ∷ [])) (kid ∷ []) (var kid) (var par)) (Stobj par ∷ []) (fault S13 [])
    -- (stobj-let ((kid (ki "" par))) (kid) kid par) where (par) is expected
    ∷ body (of_object par ∷ []) (StobjLet (kid ∷ []) (cores (call ki (Const (Text []) ∷ var par ∷ []) ∷ [])) (kid ∷ []) (var kid) (var par)) (Stobj par ∷ []) (fault S13 [])
    -- (stobj-let ((kid (ki i par))) (i) (val kid) i) where (one value) is expected
    ∷ body (of_value i ∷ of_object par ∷ []) (StobjLet (kid ∷ []) (cores (call ki (var i ∷ var par ∷ []) ∷ [])) (i ∷ []) (call val (var kid ∷ [])) (var i)) (o ∷ []) (fault S13 [])
    -- (stobj-let ((kid (ki 0 par))) () (val kid) par) where (par) is expected
    ∷ body (of_object par ∷ []) (StobjLet (kid ∷ []) (cores (call ki (number 0 ∷ var par ∷ []) ∷ [])) [] (call val (var kid ∷ [])) (var par)) (Stobj par ∷ []) (fault S13 [])
    -- (stobj-let ((kid (ki 0 par))) (kid kid) (mv kid kid) par) where (par) is expected
    ∷ body (of_object par ∷ []) (StobjLet (kid ∷ []) (cores (call ki (number 0 ∷ var par ∷ []) ∷ [])) (kid ∷ kid ∷ []) (Mv (cores (var kid ∷ var kid ∷ []))) (var par)) (Stobj par ∷ []) (fault S13 [])
    -- (stobj-let ((kid (ki 0 par))) (kid other) (mv kid other) par) where (par) is expected
    ∷ body (of_object par ∷ of_object other ∷ []) (StobjLet (kid ∷ []) (cores (call ki (number 0 ∷ var par ∷ []) ∷ [])) (kid ∷ other ∷ []) (Mv (cores (var kid ∷ var other ∷ []))) (var par)) (Stobj par ∷ []) (fault S13 [])
    -- (stobj-let ((kid (ki 0 par))) (kid) kid 5) where (one value) is expected
    ∷ body (of_object par ∷ []) (StobjLet (kid ∷ []) (cores (call ki (number 0 ∷ var par ∷ []) ∷ [])) (kid ∷ []) (var kid) (number 5)) (o ∷ []) (fault S13 [])
    -- (stobj-let ((kid (ki 0 par))) (v) (n par) par) where (par) is expected
    ∷ body (of_object par ∷ []) (StobjLet (kid ∷ []) (cores (call ki (number 0 ∷ var par ∷ []) ∷ [])) (v ∷ []) (call get_n (var par ∷ [])) (var par)) (Stobj par ∷ []) (fault S1 (0 ∷ 0 ∷ []))
    -- (stobj-let ((kid (ki 0 par))) (kid) kid (mv (val kid) par))
    ∷ expression [] (StobjLet (kid ∷ []) (cores (call ki (number 0 ∷ var par ∷ []) ∷ [])) (kid ∷ []) (var kid) (Mv (cores (call val (var kid ∷ []) ∷ var par ∷ [])))) (fault S1 (1 ∷ 0 ∷ 0 ∷ []))
    -- (stobj-let ((kid (ki 0 par))) (kid v) kid par) where (par) is expected
    ∷ body (of_object par ∷ []) (StobjLet (kid ∷ []) (cores (call ki (number 0 ∷ var par ∷ []) ∷ [])) (kid ∷ v ∷ []) (var kid) (var par)) (Stobj par ∷ []) (fault S8 (0 ∷ []))
    -- (stobj-let ((kid (ki 0 par))) (kid) (mv kid 1) par) where (par) is expected
    ∷ body (of_object par ∷ []) (StobjLet (kid ∷ []) (cores (call ki (number 0 ∷ var par ∷ []) ∷ [])) (kid ∷ []) (Mv (cores (var kid ∷ number 1 ∷ []))) (var par)) (Stobj par ∷ []) (fault S9 (0 ∷ []))
    -- (stobj-let ((kid (ki 0 par))) (kid) (update-val x kid) par) where (par) is expected
    ∷ body (of_object par ∷ []) (StobjLet (kid ∷ []) (cores (call ki (number 0 ∷ var par ∷ []) ∷ [])) (kid ∷ []) (call update_val (var x ∷ var kid ∷ [])) (var par)) (Stobj par ∷ []) (fault S11 (0 ∷ 0 ∷ []))
    -- in a function that does not run: (stobj-let ((kid (ki 0 par))) (kid) kid par)
    ∷ of_logic (of_object par ∷ []) (StobjLet (kid ∷ []) (cores (call ki (number 0 ∷ var par ∷ []) ∷ [])) (kid ∷ []) (var kid) (var par)) (fault S16 [])
    ∷ []
