-- Calls: what stands in a stobj position, and what may be called.
use Rattle.std.specs.Prelude.{List, [], ◌∷◌}
use Rattle.model_terms.specs.Cores.{If}
use Rattle.model_terms.specs.declared.rule.Rule.TheVariants.{S1, S2, S8, S12, S16}
use Rattle.model_terms_rows.specs.Book.{st, st2, other, kid, par, par2, box, gate, get_a, update_a, update_b, ki, update_ki, get_n, update_n, get_kid, update_kid, create_st, both, noted, create_gate, gate_get, gate_put, pair, k_length, v, x, y, var, number, call, o, of_value}
use Rattle.model_terms_rows.specs.Examples.{Example, holds, fault, expression, body, of_macro, of_logic}

-- S1, S2
abbrev pub stobj_positions : List Example
stobj_positions =
    -- (update-a 1 st)
    expression [] (call update_a (number 1 ∷ var st ∷ [])) holds
    -- (update-a 1 (update-a 2 st))
    ∷ expression [] (call update_a (number 1 ∷ call update_a (number 2 ∷ var st ∷ []) ∷ [])) (fault S1 (1 ∷ []))
    -- (update-a 1 st2)
    ∷ expression [] (call update_a (number 1 ∷ var st2 ∷ [])) holds
    -- (update-a 1 other)
    ∷ expression [] (call update_a (number 1 ∷ var other ∷ [])) (fault S1 (1 ∷ []))
    -- (a v)
    ∷ expression (of_value v ∷ []) (call get_a (var v ∷ [])) (fault S1 (0 ∷ []))
    -- (a 5)
    ∷ expression [] (call get_a (number 5 ∷ [])) (fault S1 (0 ∷ []))
    -- (a (if 1 st st))
    ∷ expression [] (call get_a (If (number 1) (var st) (var st) ∷ [])) (fault S1 (0 ∷ []))
    -- (a st) where (one value) is expected
    ∷ body [] (call get_a (var st ∷ [])) (o ∷ []) (fault S1 (0 ∷ []))
    -- (gate-get gate)
    ∷ expression [] (call gate_get (var gate ∷ [])) holds
    -- (a gate)
    ∷ expression [] (call get_a (var gate ∷ [])) (fault S1 (0 ∷ []))
    -- (both st st2)
    ∷ expression [] (call both (var st ∷ var st2 ∷ [])) holds
    -- (both st2 st)
    ∷ expression [] (call both (var st2 ∷ var st ∷ [])) holds
    -- (both st st)
    ∷ expression [] (call both (var st ∷ var st ∷ [])) (fault S2 [])
    -- (both x x)
    ∷ expression (of_value x ∷ []) (call both (var x ∷ var x ∷ [])) (fault S2 [])
    -- (both x y)
    ∷ expression (of_value x ∷ []) (call both (var x ∷ var y ∷ [])) (fault S1 (0 ∷ []))
    -- (both st (update-b 1 st2))
    ∷ expression [] (call both (var st ∷ call update_b (number 1 ∷ var st2 ∷ []) ∷ [])) (fault S1 (1 ∷ []))
    ∷ []

-- S12 and the first half of S16
abbrev pub kept_back : List Example
kept_back =
    -- (create-st)
    expression [] (call create_st []) (fault S12 [])
    -- (create-gate)
    ∷ expression [] (call create_gate []) (fault S12 [])
    -- (kid-of box)
    ∷ expression [] (call get_kid (var box ∷ [])) (fault S12 [])
    -- (ki 0 par)
    ∷ expression [] (call ki (number 0 ∷ var par ∷ [])) (fault S12 [])
    -- (update-ki 0 kid par)
    ∷ expression [] (call update_ki (number 0 ∷ var kid ∷ var par ∷ [])) (fault S12 [])
    -- (update-kid kid box)
    ∷ expression [] (call update_kid (var kid ∷ var box ∷ [])) (fault S12 [])
    -- (update-ki 0 x x)
    ∷ expression (of_value x ∷ []) (call update_ki (number 0 ∷ var x ∷ var x ∷ [])) (fault S2 [])
    -- (cons 1 (create-st))
    ∷ expression [] (call pair (number 1 ∷ call create_st [] ∷ [])) (fault S8 (1 ∷ []))
    -- (k-length par)
    ∷ expression [] (call k_length (var par ∷ [])) holds
    -- (n par)
    ∷ expression [] (call get_n (var par ∷ [])) holds
    -- (update-n 1 par2)
    ∷ expression [] (call update_n (number 1 ∷ var par2 ∷ [])) holds
    -- (gate-put 5 gate)
    ∷ expression [] (call gate_put (number 5 ∷ var gate ∷ [])) holds
    -- (noted 1)
    ∷ expression [] (call noted (number 1 ∷ [])) (fault S16 [])
    -- in a macro: (noted 1)
    ∷ of_macro [] (call noted (number 1 ∷ [])) (fault S16 [])
    -- in a macro: (cons 1 (noted 2))
    ∷ of_macro [] (call pair (number 1 ∷ call noted (number 2 ∷ []) ∷ [])) (fault S16 (1 ∷ []))
    -- in a function that does not run: (noted 1)
    ∷ of_logic [] (call noted (number 1 ∷ [])) holds
    ∷ []
