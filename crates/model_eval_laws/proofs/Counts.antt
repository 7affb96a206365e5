-- An evaluation counts calls up to its limit.
use Rattle.std.proofs.Common.{◌≡◌, ℕ, zero, suc, ◌<◌, ◌≤◌, List, [], ◌∷◌, ◌++◌, drop, Bool, true, false, Option, Some, None, refl, sym, ap, ◌∙◌, arith}
use Rattle.std.specs.Prelude.{nat_lt, nat_eq, if◌then◌else◌}
use Rattle.std.specs.List.{list_any}
use Rattle.std.proofs.lemmas.List.{append_assoc, append-nil}
use Rattle.std.proofs.lemmas.Bool.{ltb-true}
use Rattle.std.proofs.lemmas.Bool.Decides.{nat_tests}
use Rattle.model_symbols.specs.Symbols.{QualifiedName}
use Rattle.model_prims.specs.declared.prim.Prim.{Prim}
use Rattle.model_lists.specs.Lists.{StobjList, item}
use Rattle.model_lists.specs.Effects.{Effect, Refuses, Reads, Writes}
use Rattle.model_terms.specs.Cores.{Core, Cores, Reached, Var, Const, If, Let, Mv, MvLet, StobjLet, WithLocal, MustBeEqual, Call, none, more, reached}
use Rattle.model_terms.specs.Worlds.{Definition, FunctionOfAbstract, definition, Primitive, Defined, Macro, Constant, Concrete, Generated, Abstract, OfAbstract, Named, Signed}
use Rattle.model_terms.specs.declared.role.AbstractRole.{AbstractRole}
use Rattle.model_terms.specs.declared.role.AbstractRole.TheVariants as abstract_role
use Rattle.model_eval.specs.Outcomes.{Shown, Plain, StobjNamed, Guard, Steps, Depth, Stobjs, State, Outcome, Gives, Stops, Unknown, then_with, with_state, cut_at, one_more_call, counting, stops_here}
use Rattle.model_eval.specs.Variables.{Variables, variable_in, bound, single, inner_variables, list_of}
use Rattle.model_eval.specs.GeneratedCalls.{effected}
use Rattle.model_eval.specs.Lending.{Loan, is_reached, loan_values, indices, are_twins, put_into_parent}
use Rattle.model_eval.specs.ListsKeeping.{lists_keeping, inner_state, back, returned}
use Rattle.model_eval.specs.Evaluated.{Rules, Evaluator, is_false, scoped, with_guard, of_abstract, by_definition, exec_called, called, in_order, leaf, leaf_or, loan_of, borrowing, borrowed_from, borrowed, all_borrowed, put_back, lending, loaned_variables, producing, with_loans, with_fresh, opened, evaluated, stobj_let_word}
use Rattle.model_eval_laws.specs.Counting.{Grown, Counts, HasStobjs}

pub longer_then : (a b c : List QualifiedName) → (xs : List QualifiedName) × (b ≡ a ++ xs) → (ys : List QualifiedName) × (c ≡ b ++ ys) → (zs : List QualifiedName) × (c ≡ a ++ zs)
longer_then a b c x y = (x.0 ++ y.0, y.1 ∙ (ap (λ (l : List QualifiedName). l ++ y.0) x.1 ∙ append_assoc a x.0 y.0))

pub not_less : (n limit : ℕ) → nat_lt n limit ≡ false → limit ≤ n
not_less n limit e = grind (arith, nat_tests)

module _ {S : Type 0} (limit : ℕ) where
  -- ---- states

  pub grown_same : (s : State S) → Grown limit s s
  grown_same s = record { calls = omega arith; within = λ h. h; outer = omega arith; outer_calls = omega arith; symbols = ([], sym (append-nil s.symbols)) }

  pub grown_then : (a b c : State S) → Grown limit a b → Grown limit b c → Grown limit a c
  grown_then a b c g h = record {
    calls = omega (arith, g.calls, h.calls);
    within = λ q. h.within (g.within q);
    outer = omega (arith, g.outer, h.outer);
    outer_calls = omega (arith, g.outer_calls, h.outer_calls);
    symbols = longer_then a.symbols b.symbols c.symbols g.symbols h.symbols;
  }

  -- the lists do not matter
  pub grown_objects : (a b : State S) (os ps : Stobjs S) → Grown limit (record a { stobjs = os }) b → Grown limit a (record b { stobjs = ps })
  grown_objects a b os ps g = record { calls = g.calls; within = g.within; outer = g.outer; outer_calls = g.outer_calls; symbols = g.symbols }

  grown_call : (a b : State S) → a.calls < limit → Grown limit (one_more_call a) b → Grown limit a b
  grown_call a b l g = record {
    calls = omega (arith, g.calls);
    within = λ q. g.within (omega arith);
    outer = omega (arith, g.outer);
    outer_calls = omega (arith, g.outer_calls);
    symbols = g.symbols;
  }

  -- ---- outcomes

  abbrev pub GoCounts : (State S → Outcome S) → Type 0
  GoCounts go = (state : State S) → Counts limit state (go state)

  pub counts_later : (a b : State S) (r : Outcome S) → Grown limit a b → Counts limit b r → Counts limit a r
  counts_later a b (Gives values s) g h = grown_then a b s g h
  counts_later a b (Stops stop origin s) g h = (grown_then a b s g h.0, h.1)
  counts_later a b Unknown g h = h

  pub counts_then : (a : State S) (r : Outcome S) (go : List (Shown S) → State S → Outcome S) → Counts limit a r → ((values : List (Shown S)) → GoCounts (go values)) → Counts limit a (then_with r go)
  counts_then a (Gives values s) go h k = counts_later a s (go values s) h (k values s)
  counts_then a (Stops stop origin s) go h k = h
  counts_then a Unknown go h k = h

  counts_one : (a : State S) (r : Outcome S) → a.calls < limit → Counts limit (one_more_call a) r → Counts limit a r
  counts_one a (Gives values s) l h = grown_call a s l h
  counts_one a (Stops stop origin s) l h = (grown_call a s l h.0, h.1)
  counts_one a Unknown l h = h

  pub counts_counting : (a : State S) (go : State S → Outcome S) → GoCounts go → Counts limit a (counting limit a go)
  counts_counting a go h = by_test (nat_lt a.calls limit) refl
    where
      by_test : (b : Bool) → nat_lt a.calls limit ≡ b → Counts limit a (if b then go (one_more_call a) else stops_here Steps a)
      by_test true e = counts_one a (go (one_more_call a)) (ltb-true a.calls limit e) (h (one_more_call a))
      by_test false e = (grown_same a, λ q. not_less a.calls limit e)

  pub counts_state : (a : State S) (change : State S → Stobjs S) (os : Stobjs S) (r : Outcome S) → Counts limit (record a { stobjs = os }) r → Counts limit a (with_state (λ s. record s { stobjs = change s }) r)
  counts_state a change os (Gives values s) h = grown_objects a s os (change s) h
  counts_state a change os (Stops stop origin s) h = (grown_objects a s os (change s) h.0, h.1)
  counts_state a change os Unknown h = h

  pub counts_objects : (a : State S) (os : Stobjs S) (r : Outcome S) → Counts limit (record a { stobjs = os }) r → Counts limit a r
  counts_objects a os (Gives values s) h = grown_objects a s os s.stobjs h
  counts_objects a os (Stops stop origin s) h = (grown_objects a s os s.stobjs h.0, h.1)
  counts_objects a os Unknown h = h

  pub counts_back : (formals : List ℕ) (actuals : List (Shown S)) (a : State S) (r : Outcome S) → Counts limit (inner_state formals actuals a) r → Counts limit a (back formals actuals a r)
  counts_back formals actuals a (Gives values s) h = grown_objects a s _ _ h
  counts_back formals actuals a (Stops stop origin s) h = (grown_objects a s _ _ h.0, h.1)
  counts_back formals actuals a Unknown h = h

  pub counts_returned : (loans : List (Loan S)) (a : State S) (os : Stobjs S) (r : Outcome S) → Counts limit (record a { stobjs = os }) r → Counts limit a (returned loans r)
  counts_returned loans a os (Gives values s) h = grown_objects a s os _ h
  counts_returned loans a os (Stops stop origin s) h = (grown_objects a s os _ h.0, h.1)
  counts_returned loans a os Unknown h = h

  pub counts_cut : (n : ℕ) (a : State S) (r : Outcome S) → Counts limit a r → Counts limit a (cut_at n r)
  counts_cut n a (Gives values s) h = h
  counts_cut n a (Stops stop origin s) h = h
  counts_cut n a Unknown h = h

  pub counts_if : (a : State S) (b : Bool) (r s : Outcome S) → Counts limit a r → Counts limit a s → Counts limit a (if b then r else s)
  counts_if a true r s h k = h
  counts_if a false r s h k = k

  -- ---- lists

  abbrev pub Stays : State S → Outcome S → Type 0
  Stays a r = limit ≤ a.calls → HasStobjs a.stobjs r

  stays_then : (a : State S) (r : Outcome S) (go : List (Shown S) → State S → Outcome S) → Counts limit a r → Stays a r → ((values : List (Shown S)) (s : State S) → Stays s (go values s)) → Stays a (then_with r go)
  stays_then a (Gives values s) go c h k q = moved (go values s) (k values s (omega (arith, c.calls, q)))
    where
      moved : (r : Outcome S) → HasStobjs s.stobjs r → HasStobjs a.stobjs r
      moved (Gives values' s') e = e ∙ h q
      moved (Stops stop origin s') e = e ∙ h q
      moved Unknown e = tt
  stays_then a (Stops stop origin s) go c h k q = h q
  stays_then a Unknown go c h k q = tt

  -- no call is left to count
  stays_counting : (a : State S) (go : State S → Outcome S) → Stays a (counting limit a go)
  stays_counting a go q = by_test (nat_lt a.calls limit) refl
    where
      by_test : (b : Bool) → nat_lt a.calls limit ≡ b → HasStobjs a.stobjs (if b then go (one_more_call a) else stops_here Steps a)
      by_test true e = absurd (let l : a.calls < limit = ltb-true a.calls limit e in omega arith)
      by_test false e = refl

  stays_if : (a : State S) (b : Bool) (r s : Outcome S) → Stays a r → Stays a s → Stays a (if b then r else s)
  stays_if a true r s h k = h
  stays_if a false r s h k = k

module _ {S : Type 0} (r : Rules S) where
  -- what the rules owe
  pub record RulesCount : Type 0 where
    pub primitives : (f : ℕ) (p : Prim) (values : List (Shown S)) → GoCounts r.limit (r.primitive f p values)
    pub exports : (f : FunctionOfAbstract) (values : List (Shown S)) (before : Stobjs S) (go : State S → Outcome S) → GoCounts r.limit go → GoCounts r.limit (r.export f values before go)
    pub known : (x : ℕ) → (l : StobjList S) × (r.fresh x ≡ Some l)

  module _ (g : RulesCount) where
    abbrev EvCounts : Evaluator S → Type 0
    EvCounts ev = (form : Core) (variables : Variables S) (state : State S) → Counts r.limit state (ev form variables state)

    abbrev EvStays : Evaluator S → Type 0
    EvStays ev = (form : Core) (variables : Variables S) (state : State S) → Stays r.limit state (ev form variables state)

    stopped : (state : State S) (f : ℕ) (values : List (Shown S)) → Counts r.limit state (stops_here (Guard f values) state)
    stopped state f values = (grown_same r.limit state, λ q. absurd q)

    deep : (state : State S) → Counts r.limit state (stops_here Depth state)
    deep state = (grown_same r.limit state, λ q. absurd q)

    pub counts_scoped : (ev : Evaluator S) (formals : List ℕ) (values : List (Shown S)) (form : Core) → EvCounts ev → GoCounts r.limit (scoped r ev formals values form)
    counts_scoped ev formals values form h state =
        counts_back r.limit formals values state _ (h form (inner_variables formals values) (inner_state formals values state))

    pub counts_guarded : (ev : Evaluator S) (name : ℕ) (formals : List ℕ) (guard : Core) (values : List (Shown S)) (go : State S → Outcome S) → EvCounts ev → GoCounts r.limit go → GoCounts r.limit (with_guard r ev name formals guard values go)
    counts_guarded ev name formals guard values go h k state =
        counts_then r.limit state _ _ (counts_scoped ev formals values guard h state)
        (λ test after. counts_if r.limit after (is_false r test) _ _ (stopped after name values) (k after))

    pub counts_abstract : (ev : Evaluator S) (exec : ℕ → State S → Outcome S) (f : FunctionOfAbstract) (role : AbstractRole) (values : List (Shown S)) → EvCounts ev → GoCounts r.limit (exec f.exec) → GoCounts r.limit (of_abstract r ev exec f role values)
    counts_abstract ev exec f abstract_role.Recognizer values h k state = grown_same r.limit state
    counts_abstract ev exec f abstract_role.Creator values h k state = stopped state f.name values
    counts_abstract ev exec f abstract_role.Export values h k state =
        counts_cut r.limit state.outer state _ (counts_guarded ev f.name f.formals f.guard values _ h (g.exports f values state.stobjs (exec f.exec) k) state)

    counts_effected : (f : ℕ) (values : List (Shown S)) (x : Option ℕ) (state : State S) (e : Effect S) → Counts r.limit state (effected lists_keeping f values x state e)
    counts_effected f values x state Refuses = stopped state f values
    counts_effected f values x state (Reads os) = grown_same r.limit state
    counts_effected f values None state (Writes l) = stopped state f values
    counts_effected f values (Some x) state (Writes l) = grown_objects r.limit state state _ _ (grown_same r.limit state)

    pub counts_definition : (ev : Evaluator S) (go : FunctionOfAbstract → State S → Outcome S) (d : Option Definition) (name : ℕ) (values : List (Shown S)) → EvCounts ev → ((f : FunctionOfAbstract) → GoCounts r.limit (go f)) → GoCounts r.limit (by_definition r ev go d name values)
    counts_definition ev go None name values h k state = stopped state name values
    counts_definition ev go (Some (Primitive f row)) name values h k state = g.primitives f row.prim values state
    counts_definition ev go (Some (Defined f)) name values h k state =
        counts_guarded ev f.name f.formals f.guard values _ h (counts_scoped ev f.formals values f.body h) state
    counts_definition ev go (Some (Macro f formals body)) name values h k state = stopped state name values
    counts_definition ev go (Some (Constant f value)) name values h k state = stopped state name values
    counts_definition ev go (Some (Concrete d class)) name values h k state = stopped state name values
    counts_definition ev go (Some (Generated f)) name values h k state = counts_effected f.name values _ state _
    counts_definition ev go (Some (Abstract d)) name values h k state = stopped state name values
    counts_definition ev go (Some (OfAbstract f)) name values h k state = k f state
    counts_definition ev go (Some (Named f formals)) name values h k state = stopped state name values
    counts_definition ev go (Some (Signed f formals signature executable)) name values h k state = stopped state name values

    pub counts_exec : (ev : Evaluator S) (values : List (Shown S)) (name : ℕ) → EvCounts ev → GoCounts r.limit (exec_called r ev values name)
    unfolding exec_called
    counts_exec ev values name h state =
        counts_definition ev _ (definition r.world name) name values h (λ f after. stopped after name values) state

    pub counts_called : (ev : Evaluator S) (name : ℕ) (values : List (Shown S)) → EvCounts ev → GoCounts r.limit (called r ev name values)
    unfolding called
    counts_called ev name values h state =
        counts_counting r.limit state _
        (counts_definition ev _ (definition r.world name) name values h (λ f. counts_abstract ev (exec_called r ev values) f f.role values h (counts_exec ev values f.exec h)))

    stays_called : (ev : Evaluator S) (name : ℕ) (values : List (Shown S)) (state : State S) → Stays r.limit state (called r ev name values state)
    unfolding called
    stays_called ev name values state =
        stays_counting r.limit state (by_definition r ev (λ f after. of_abstract r ev (exec_called r ev values) f f.role values after) (definition r.world name) name values)

    -- ---- parts

    pub counts_in_order : (ev : Evaluator S) (forms : Cores) (variables : Variables S) (done : List (Shown S)) (go : List (Shown S) → State S → Outcome S) → EvCounts ev → ((values : List (Shown S)) → GoCounts r.limit (go values)) → GoCounts r.limit (in_order r ev forms variables done go)
    unfolding in_order
    counts_in_order ev none variables done go h k state = k done state
    counts_in_order ev (more form forms) variables done go h k state =
        counts_then r.limit state _ _ (h form variables state)
        (λ values after. counts_in_order ev forms variables (done ++ single r.kind values ∷ []) go h k after)

    stays_in_order : (ev : Evaluator S) (forms : Cores) (variables : Variables S) (done : List (Shown S)) (go : List (Shown S) → State S → Outcome S) → EvCounts ev → EvStays ev → ((values : List (Shown S)) (s : State S) → Stays r.limit s (go values s)) → (state : State S) → Stays r.limit state (in_order r ev forms variables done go state)
    unfolding in_order
    stays_in_order ev none variables done go c h k state = k done state
    stays_in_order ev (more form forms) variables done go c h k state =
        stays_then r.limit state _ _ (c form variables state) (h form variables state)
        (λ values after. stays_in_order ev forms variables (done ++ single r.kind values ∷ []) go c h k after)

    -- ---- children

    pub counts_borrowed_from : (child : ℕ) (by : Reached) (p : Shown S) (variables : Variables S) (go : Loan S → State S → Outcome S) → ((loan : Loan S) → GoCounts r.limit (go loan)) → GoCounts r.limit (borrowed_from r child by p variables go)
    counts_borrowed_from child by (Plain o) variables go k state = deep state
    counts_borrowed_from child by (StobjNamed p) variables go k state =
        let loan = loan_of r child p by variables in
        counts_counting r.limit state (borrowing r by.accessor loan (go loan))
        (λ after. counts_if r.limit after (is_reached loan.index (item loan.field (list_of after.stobjs loan.parent))) (go loan after) (stops_here (Guard by.accessor (loan_values loan)) after) (k loan after) (stopped after by.accessor (loan_values loan)))

    pub counts_borrowed : (child : ℕ) (by : Option Reached) (variables : Variables S) (go : Loan S → State S → Outcome S) → ((loan : Loan S) → GoCounts r.limit (go loan)) → GoCounts r.limit (borrowed r child by variables go)
    counts_borrowed child None variables go k state = deep state
    counts_borrowed child (Some by) variables go k state = counts_borrowed_from child by (variable_in r.kind variables by.parent) variables go k state

    stays_borrowed_from : (child : ℕ) (by : Reached) (p : Shown S) (variables : Variables S) (go : Loan S → State S → Outcome S) (state : State S) → Stays r.limit state (borrowed_from r child by p variables go state)
    stays_borrowed_from child by (Plain o) variables go state = λ q. refl
    stays_borrowed_from child by (StobjNamed p) variables go state =
        stays_counting r.limit state (borrowing r by.accessor (loan_of r child p by variables) (go (loan_of r child p by variables)))

    stays_borrowed : (child : ℕ) (by : Option Reached) (variables : Variables S) (go : Loan S → State S → Outcome S) (state : State S) → Stays r.limit state (borrowed r child by variables go state)
    stays_borrowed child None variables go state = λ q. refl
    stays_borrowed child (Some by) variables go state = stays_borrowed_from child by (variable_in r.kind variables by.parent) variables go state

    pub counts_all_borrowed : (names : List ℕ) (forms : Cores) (variables : Variables S) (loans : List (Loan S)) (go : List (Loan S) → State S → Outcome S) → ((ls : List (Loan S)) → GoCounts r.limit (go ls)) → GoCounts r.limit (all_borrowed r names forms variables loans go)
    unfolding all_borrowed
    counts_all_borrowed names none variables loans go k state = k loans state
    counts_all_borrowed [] (more form forms) variables loans go k state = k loans state
    counts_all_borrowed (x ∷ xs) (more form forms) variables loans go k state =
        counts_borrowed x (reached form) variables _ (λ loan after. counts_all_borrowed xs forms variables (loans ++ loan ∷ []) go k after) state

    stays_all_borrowed : (names : List ℕ) (forms : Cores) (variables : Variables S) (loans : List (Loan S)) (go : List (Loan S) → State S → Outcome S) → ((s : State S) → Stays r.limit s (go loans s)) → (state : State S) → Stays r.limit state (all_borrowed r names forms variables loans go state)
    unfolding all_borrowed
    stays_all_borrowed names none variables loans go k state = k state
    stays_all_borrowed [] (more form forms) variables loans go k state = k state
    stays_all_borrowed (x ∷ xs) (more form forms) variables loans go k state = stays_borrowed x (reached form) variables _ state

    pub counts_put_back : (vars : List ℕ) (loans : List (Loan S)) (go : State S → Outcome S) → GoCounts r.limit go → GoCounts r.limit (put_back r vars loans go)
    unfolding put_back
    counts_put_back vars [] go k state = k state
    counts_put_back vars (l ∷ ls) go k state =
        counts_if r.limit state (list_any (nat_eq l.child) vars) _ _
        (counts_counting r.limit state _ (λ after. counts_objects r.limit after _ _ (counts_put_back vars ls go k (record after { stobjs = put_into_parent l after.stobjs }))))
        (counts_put_back vars ls go k state)

    pub counts_producing : (ev : Evaluator S) (vars : List ℕ) (producer : Core) (variables : Variables S) (loans : List (Loan S)) → EvCounts ev → GoCounts r.limit (producing r ev vars producer variables loans)
    counts_producing ev vars producer variables loans h state =
        counts_returned r.limit loans state _ _
        (counts_then r.limit (lending r loans state) _ _ (h producer (loaned_variables r loans variables) (lending r loans state))
        (λ values after. counts_put_back vars loans _ (λ last. grown_same r.limit last) after))

    pub counts_with_loans : (ev : Evaluator S) (vars : List ℕ) (producer consumer : Core) (variables : Variables S) (loans : List (Loan S)) → EvCounts ev → GoCounts r.limit (with_loans r ev vars producer consumer variables loans)
    counts_with_loans ev vars producer consumer variables loans h state =
        counts_if r.limit state (are_twins r.kind loans) _ _ (stopped state stobj_let_word (indices loans))
        (counts_then r.limit state _ _ (counts_producing ev vars producer variables loans h state) (λ values after. h consumer (bound vars values variables) after))

    -- nothing is lent
    stays_without_loans : (ev : Evaluator S) (vars : List ℕ) (producer consumer : Core) (variables : Variables S) → EvCounts ev → EvStays ev → (state : State S) → Stays r.limit state (with_loans r ev vars producer consumer variables [] state)
    unfolding put_back
    stays_without_loans ev vars producer consumer variables c h state =
        stays_then r.limit state _ _ (counts_producing ev vars producer variables [] c state) (unchanged (ev producer variables state) (h producer variables state)) (λ values after. h consumer (bound vars values variables) after)
      where
        unchanged : (e : Outcome S) → Stays r.limit state e → Stays r.limit state (returned [] (then_with e (λ values after. Gives values after)))
        unchanged (Gives values s) k q = k q
        unchanged (Stops stop origin s) k q = k q
        unchanged Unknown k q = tt

    -- ---- local stobjs

    pub counts_fresh : (ev : Evaluator S) (x : ℕ) (l : Option (StobjList S)) (producer : Core) (variables : Variables S) → EvCounts ev → (m : StobjList S) × (l ≡ Some m) → GoCounts r.limit (with_fresh r ev x l producer variables)
    counts_fresh ev x None producer variables h e state = cc_none e.1
      where
        cc_none : {m : StobjList S} → None ≡ Some m → ⊥
        cc_none e = cc
    counts_fresh ev x (Some l) producer variables h e state = counts_state r.limit state (λ s. drop 1 s.stobjs) _ _ (h producer _ _)

    -- ---- forms

    counts_opened : (ev : Evaluator S) → EvCounts ev → EvCounts (opened r ev)
    counts_opened ev h (Var x) variables state = deep state
    counts_opened ev h (Const o) variables state = deep state
    counts_opened ev h (If a b c) variables state =
        counts_then r.limit state _ _ (h a variables state) (λ test after. h (if is_false r test then c else b) variables after)
    counts_opened ev h (Let names forms body) variables state =
        counts_in_order ev forms variables [] _ h (λ values after. h body (bound names values variables) after) state
    counts_opened ev h (Mv parts) variables state = counts_in_order ev parts variables [] _ h (λ values after. grown_same r.limit after) state
    counts_opened ev h (MvLet names form body) variables state =
        counts_then r.limit state _ _ (h form variables state) (λ values after. h body (bound names values variables) after)
    counts_opened ev h (StobjLet names forms vars producer consumer) variables state =
        counts_all_borrowed names forms variables [] _ (λ loans. counts_with_loans ev vars producer consumer variables loans h) state
    counts_opened ev h (WithLocal stobj names producer body) variables state =
        counts_then r.limit state _ _ (counts_counting r.limit state _ (counts_fresh ev stobj (r.fresh stobj) producer variables h (g.known stobj)))
        (λ values after. h body (bound names values variables) after)
    counts_opened ev h (MustBeEqual logic exec) variables state = h logic variables state
    counts_opened ev h (Call f actuals) variables state = counts_in_order ev actuals variables [] _ h (λ values. counts_called ev f values h) state

    stays_opened : (ev : Evaluator S) → EvCounts ev → EvStays ev → EvStays (opened r ev)
    stays_opened ev c h (Var x) variables state = λ q. refl
    stays_opened ev c h (Const o) variables state = λ q. refl
    stays_opened ev c h (If a b d) variables state =
        stays_then r.limit state _ _ (c a variables state) (h a variables state) (λ test after. h (if is_false r test then d else b) variables after)
    stays_opened ev c h (Let names forms body) variables state =
        stays_in_order ev forms variables [] _ c h (λ values after. h body (bound names values variables) after) state
    stays_opened ev c h (Mv parts) variables state = stays_in_order ev parts variables [] _ c h (λ values after q. refl) state
    stays_opened ev c h (MvLet names form body) variables state =
        stays_then r.limit state _ _ (c form variables state) (h form variables state) (λ values after. h body (bound names values variables) after)
    stays_opened ev c h (StobjLet names forms vars producer consumer) variables state =
        stays_all_borrowed names forms variables [] _ (stays_without_loans ev vars producer consumer variables c h) state
    stays_opened ev c h (WithLocal stobj names producer body) variables state =
        stays_then r.limit state _ _ (counts_counting r.limit state _ (counts_fresh ev stobj (r.fresh stobj) producer variables c (g.known stobj)))
        (stays_counting r.limit state (with_fresh r ev stobj (r.fresh stobj) producer variables)) (λ values after. h body (bound names values variables) after)
    stays_opened ev c h (MustBeEqual logic exec) variables state = h logic variables state
    stays_opened ev c h (Call f actuals) variables state = stays_in_order ev actuals variables [] _ c h (λ values after. stays_called ev f values after) state

    counts_leaf : (l : Option (Shown S)) (state : State S) (e : Outcome S) → Counts r.limit state e → Counts r.limit state (leaf_or r l state e)
    counts_leaf (Some v) state e h = grown_same r.limit state
    counts_leaf None state e h = h

    stays_leaf : (l : Option (Shown S)) (state : State S) (e : Outcome S) → Stays r.limit state e → Stays r.limit state (leaf_or r l state e)
    stays_leaf (Some v) state e h q = refl
    stays_leaf None state e h q = h q

    pub counts_evaluated : (d : ℕ) → EvCounts (evaluated r d)
    unfolding evaluated
    counts_evaluated zero form variables state = counts_leaf (leaf r form variables) state _ (deep state)
    counts_evaluated (suc d) form variables state =
        counts_leaf (leaf r form variables) state _ (counts_opened (evaluated r d) (counts_evaluated d) form variables state)

    pub stays_evaluated : (d : ℕ) → EvStays (evaluated r d)
    unfolding evaluated
    stays_evaluated zero form variables state = stays_leaf (leaf r form variables) state _ (λ q. refl)
    stays_evaluated (suc d) form variables state =
        stays_leaf (leaf r form variables) state _ (stays_opened (evaluated r d) (counts_evaluated d) (stays_evaluated d) form variables state)
