-- Macros, constants, and functions that do not run.
use Rattle.std.specs.Prelude.{List, [], ◌∷◌}
use Rattle.model_terms.specs.Cores.{If, Let, Mv, MvLet, WithLocal, cores}
use Rattle.model_terms.specs.declared.rule.Rule.TheVariants.{S1, S2, S4, S5, S6, S8, S9, S11, S15}
use Rattle.model_terms_rows.specs.Book.{st, st2, get_a, update_a, ki, create_st, both, pop, pair, pick, v, x, var, number, call, of_value}
use Rattle.model_terms_rows.specs.Examples.{Example, holds, fault, of_macro, of_logic}

-- S15, in the bodies of macros and in constants
abbrev pub macros : List Example
macros =
    -- in a macro: x
    of_macro (of_value x ∷ []) (var x) holds
    -- in a macro: x
    ∷ of_macro [] (var x) (fault S11 [])
    -- in a macro: st
    ∷ of_macro [] (var st) (fault S15 [])
    -- in a macro: (cons x st)
    ∷ of_macro (of_value x ∷ []) (call pair (var x ∷ var st ∷ [])) (fault S15 (1 ∷ []))
    -- in a macro: (a st)
    ∷ of_macro [] (call get_a (var st ∷ [])) (fault S1 (0 ∷ []))
    -- in a macro: (both st st)
    ∷ of_macro [] (call both (var st ∷ var st ∷ [])) (fault S2 [])
    -- in a macro: (let ((st 5)) st)
    ∷ of_macro [] (Let (st ∷ []) (cores (number 5 ∷ [])) (var st)) (fault S5 [])
    -- in a macro: (let ((x 1) (st 5)) st)
    ∷ of_macro [] (Let (x ∷ st ∷ []) (cores (number 1 ∷ number 5 ∷ [])) (var st)) (fault S4 [])
    -- in a macro: (let ((st2 (update-a 1 st2))) 5)
    ∷ of_macro [] (Let (st2 ∷ []) (cores (call update_a (number 1 ∷ var st2 ∷ []) ∷ [])) (number 5)) (fault S6 [])
    -- in a macro: (mv-let (v st) (pop st) v)
    ∷ of_macro [] (MvLet (v ∷ st ∷ []) (call pop (var st ∷ [])) (var v)) (fault S6 [])
    -- in a macro: (with-local-stobj st (mv-let (v st) (mv 5 st) v))
    ∷ of_macro [] (WithLocal st (v ∷ st ∷ []) (Mv (cores (number 5 ∷ var st ∷ []))) (var v)) (fault S15 (0 ∷ 1 ∷ []))
    -- in a macro: (mv 1 2)
    ∷ of_macro [] (Mv (cores (number 1 ∷ number 2 ∷ []))) (fault S9 [])
    -- in a macro: (pick 1)
    ∷ of_macro [] (call pick (number 1 ∷ [])) (fault S8 [])
    ∷ []

-- where S11 and the second half of S16 alone are tested
abbrev pub functions_that_do_not_run : List Example
functions_that_do_not_run =
    -- in a function that does not run: (update-a 1 (update-a 2 x))
    of_logic (of_value x ∷ []) (call update_a (number 1 ∷ call update_a (number 2 ∷ var x ∷ []) ∷ [])) holds
    -- in a function that does not run: (both x x)
    ∷ of_logic (of_value x ∷ []) (call both (var x ∷ var x ∷ [])) holds
    -- in a function that does not run: (let ((st 5) (x 6)) (mv st x))
    ∷ of_logic [] (Let (st ∷ x ∷ []) (cores (number 5 ∷ number 6 ∷ [])) (Mv (cores (var st ∷ var x ∷ [])))) holds
    -- in a function that does not run: (if 1 (pick 1) 2)
    ∷ of_logic [] (If (number 1) (call pick (number 1 ∷ [])) (number 2)) holds
    -- in a function that does not run: (create-st)
    ∷ of_logic [] (call create_st []) holds
    -- in a function that does not run: (ki 0 x)
    ∷ of_logic (of_value x ∷ []) (call ki (number 0 ∷ var x ∷ [])) holds
    -- in a function that does not run: (cons 1 x)
    ∷ of_logic [] (call pair (number 1 ∷ var x ∷ [])) (fault S11 (1 ∷ []))
    -- in a function that does not run: (a st)
    ∷ of_logic [] (call get_a (var st ∷ [])) (fault S11 (0 ∷ []))
    -- in a function that does not run: (mv-let (x st) 5 (cons x (cons st v)))
    ∷ of_logic [] (MvLet (x ∷ st ∷ []) (number 5) (call pair (var x ∷ call pair (var st ∷ var v ∷ []) ∷ []))) (fault S11 (1 ∷ 1 ∷ 1 ∷ []))
    ∷ []
