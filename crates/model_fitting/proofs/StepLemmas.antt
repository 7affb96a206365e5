-- Turns of a machine that does what accepted forms do: a form goes on with the values that it waited for.
use Rattle.std.proofs.Common.{◌≡◌, ℕ, List, [], ◌∷◌, ◌++◌, length, map, Bool, true, false, Option, Some, None, refl, sym, ap, ◌∙◌, subst, arith}
use Rattle.std.specs.Prelude.{nat_eq, nat_lt, if◌then◌else◌}
use Rattle.std.specs.List.{list_any}
use Rattle.std.proofs.lemmas.List.{append_assoc}
use Rattle.model_symbols.specs.Symbols.{Package}
use Rattle.model_prims.specs.Kinds.{by_number}
use Rattle.model_lists.specs.Lists.{item}
use Rattle.model_terms.specs.Cores.{Core, Cores, none, more, count, Reached, reached}
use Rattle.model_terms.specs.Worlds.{World, Out, Signature, Scope, Definition, FunctionOfAbstract, definition}
use Rattle.model_terms.specs.Classes.{has, renamed_out, is_stobj_name}
use Rattle.model_terms.specs.Outputs.{signature_in}
use Rattle.model_terms.specs.Scopes.{name_kinds, producer_scope, consumer_scope, body_scope}
use Rattle.model_eval.specs.Outcomes.{Shown, Plain, StobjNamed, Guard, Steps, StateOf, here, one_more_call, cut_before}
use Rattle.model_eval.specs.Keeping.{Keeping, Loan, outer_value, leaving, ending_loans, unmaking, beginning}
use Rattle.model_eval.specs.Variables.{Variables, variable_in, bound, single}
use Rattle.model_eval.specs.Lending.{is_reached, loan_values, indices, are_twins}
use Rattle.model_eval.specs.Evaluated.{RulesOf, is_false, loan_of, loaned_variables, lending, stobj_let_word}
use Rattle.model_accepted.specs.Threaded.{IsThreaded, formal_entries}
use Rattle.model_accepted.specs.StobjScopes.{AreOutputs}
use Rattle.model_accepted.specs.Loans.{children}
use Rattle.model_accepted.proofs.ScopeLemmas.{some_same, body_variables, body_objects}
use Rattle.model_accepted.proofs.KidScopes.{producer_variables, consumer_variables, consumer_objects}
use Rattle.model_in_place.specs.Calls.{Pairs, AreArguments}
use Rattle.model_in_place.proofs.FormalLemmas.{zip_is, outputs_back}
use Rattle.model_in_place.proofs.WriteLemmas.{outputs_wider}
use Rattle.model_machine.specs.Frames.{Export, Step, Test, Parts, Several, Calling, Guarding, Running, Allowing, Exporting, Borrowing, Producing, Putting, Local, Last, Frame, Begin, Give, Stopped, Turned}
use Rattle.model_machine.specs.Turns.{next, refuse, enter, stop_here, stop_from, last_form, call_by_definition, call_of_abstract, put_next, next_child, borrow, reach_from, go_on}
use Rattle.model_window.specs.Stands.{Origins}
use Rattle.model_window.specs.Following.{worlds_of, after_step}
use Rattle.model_fitting.specs.Steps.{IsReady, Surrounds, AreHanded, outs_at, IsCall, IsExported, StepFits, Tests, Parted, Severals, Called, Guarded, RunsOn, Allowed, Exports, Borrows, Produces, Puts, Locals, Ends, FramesFit, Inside, TurnFits, AreOrigins}
use Rattle.model_fitting.proofs.DefinitionLemmas.{rules, last_gives, handed_surrounds, definition_fits, abstract_fits, exec_call}
use Rattle.model_fitting.proofs.BeginLemmas.{if_fits, last_fits, body_fits, part_fits}

-- one more value, as one more output says
pub outs_more : (scope : Scope) (done : List Out) (before : List (Shown ℕ)) (k : Out) (values : List (Shown ℕ)) → AreOutputs scope done before → AreOutputs scope (k ∷ []) values
    → AreOutputs scope (done ++ k ∷ []) (before ++ single by_number values ∷ [])
outs_more scope [] [] k [] a o = absurd o
outs_more scope [] [] k (v ∷ vs) a o = (o.0, tt)
outs_more scope [] (u ∷ us) k values a o = absurd a
outs_more scope (d ∷ ds) [] k values a o = absurd a
outs_more scope (d ∷ ds) (u ∷ us) k values a o = (a.0, outs_more scope ds us k values a.1 o)

children_more : (ls : List (Loan ℕ)) (l : Loan ℕ) (xs : List ℕ) → children (ls ++ l ∷ []) ++ xs ≡ children ls ++ l.child ∷ xs
children_more [] l xs = refl
children_more (m ∷ ls) l xs = ap (λ (ys : List ℕ). m.child ∷ ys) (children_more ls l xs)

nothing_more : (xs : List ℕ) → xs ++ [] ≡ xs
nothing_more [] = refl
nothing_more (x ∷ xs) = ap (λ (ys : List ℕ). x ∷ ys) (nothing_more xs)

module _ {O B : Type 0} (keeping : Keeping ℕ O B) (w : World) (threaded : IsThreaded w) (packages : List Package) (limit : ℕ) (origins : Origins) (checked : AreOrigins w origins) where
  abbrev rs : RulesOf keeping
  rs = rules keeping w threaded packages limit origins checked

  module _ (c : World) (outer : Scope) (given : List Out) (cs : List World) (frames : List (Frame ℕ B)) (around : FramesFit w cs frames outer given) (room : ℕ) (variables : Variables ℕ) where
    -- the frame waits for something else
    waits : (d : World) (step : Step ℕ B) (inner : Scope) (state : StateOf O) → StepFits w c variables outer given step inner [] → TurnFits w (worlds_of c cs d) (next rs room variables frames step (Give []) state)
    waits d step inner state s = record { scope = inner; outs = []; given = tt; around = Inside c cs variables outer given step frames inner [] s around }

    branch_fits : (t : Bool) (b d : Core) (state : StateOf O) → Surrounds w c outer variables → IsReady c outer given b → IsReady c outer given d → TurnFits w (worlds_of c cs c) (last_form rs room variables frames (if t then d else b) variables state)
    branch_fits true b d state s p q = last_fits keeping w threaded packages limit origins checked c outer given cs frames around room variables outer d variables state s q (λ x i. i)
    branch_fits false b d state s p q = last_fits keeping w threaded packages limit origins checked c outer given cs frames around room variables outer b variables state s p (λ x i. i)

    -- ---- calls

    call_fits : (f : ℕ) (actuals : List (Shown ℕ)) (state : StateOf O) → IsCall w outer given f actuals
        → TurnFits w (worlds_of (origins.body f) cs (origins.guard f)) (go_on rs room variables frames (Calling f actuals) [] state)
    call_fits f actuals state i =
        if_fits w (worlds_of (origins.body f) cs (origins.guard f)) (nat_lt state.calls limit) (call_by_definition rs None abstract room variables frames (definition w f) f actuals (one_more_call state)) (stop_here rs None room variables frames Steps state)
        (subst (λ (d : Option Definition). TurnFits w (worlds_of (origins.body f) cs (origins.guard f)) (call_by_definition rs None abstract room variables frames d f actuals (one_more_call state))) (sym i.runs.stands)
        (definition_fits keeping w threaded packages limit origins checked outer given cs frames around room variables f actuals None abstract (one_more_call state)
        i.signature i.runs.there i.runs.stands i.runs.signed i.runs.callable i.runs.executable i.arguments i.once i.outs
        (λ g e.
        let same : g.signature ≡ i.signature = some_same (subst (λ (d : Definition). signature_in d ≡ Some i.signature) e i.runs.signed) in
        abstract_fits keeping w threaded packages limit origins checked outer given cs frames around room variables f g g.role actuals (one_more_call state) (i.runs.stands ∙ ap (λ (d : Definition). Some d) e) refl
        (subst (λ (z : Signature). AreArguments w outer z.ins actuals) (sym same) i.arguments) i.once (ap (λ (z : Signature). outs_at z.ins actuals z.outs) same ∙ i.outs)))) tt
      where
        abstract : FunctionOfAbstract → StateOf O → Turned ℕ O B
        abstract = λ g later. call_of_abstract rs room variables frames g g.role actuals later

    exec_fits : (f : FunctionOfAbstract) (actuals : List (Shown ℕ)) (begun : _) (state : StateOf O) → IsExported w outer given f actuals
        → TurnFits w (worlds_of (origins.body f.exec) cs (origins.guard f.exec)) (go_on rs room variables frames (Exporting f actuals begun) [] state)
    exec_fits f actuals begun state e =
        let i : IsCall w outer given f.exec actuals = exec_call keeping w threaded packages limit origins checked outer given f actuals e in
        let export : Option (Export ℕ B) = Some (record { name = f.name; actuals = actuals; begun = begun; outer = state.outer }) in
        let abstract : (FunctionOfAbstract → StateOf O → Turned ℕ O B) = λ g later. refuse rs export room variables frames f.exec actuals later in
        let after : StateOf O = beginning keeping (one_more_call state) in
        if_fits w (worlds_of (origins.body f.exec) cs (origins.guard f.exec)) (nat_lt state.calls limit) (call_by_definition rs export abstract room variables frames (definition w f.exec) f.exec actuals after)
        (stop_from rs None room variables frames Steps (cut_before begun.number (here state)) state)
        (subst (λ (d : Option Definition). TurnFits w (worlds_of (origins.body f.exec) cs (origins.guard f.exec)) (call_by_definition rs export abstract room variables frames d f.exec actuals after)) (sym i.runs.stands)
        (definition_fits keeping w threaded packages limit origins checked outer given cs frames around room variables f.exec actuals export abstract after
        i.signature i.runs.there i.runs.stands i.runs.signed i.runs.callable i.runs.executable i.arguments i.once i.outs (λ g e. tt))) tt

    -- what comes out of a call
    out_fits : (formals : List ℕ) (actuals : List (Shown ℕ)) (ins outs : List Out) (values : List (Shown ℕ)) → AreHanded w outer formals ins actuals → outs_at ins actuals outs ≡ given → AreOutputs (formal_entries formals ins) outs values
        → AreOutputs outer given (map (outer_value formals actuals) values)
    out_fits formals actuals ins outs values i e a =
        subst (λ (os : List Out). AreOutputs outer os (map (outer_value formals actuals) values)) e
        (subst (λ (ps : Pairs). AreOutputs outer (map (renamed_out ps) outs) (map (outer_value formals actuals) values)) (sym (zip_is w outer formals ins actuals i.formals_are i.arguments))
        (outputs_back w outer formals ins actuals outs values i.formals_are i.arguments a))

    -- ---- children

    child_fits : (names : List ℕ) (forms : Cores) (loans : List (Loan ℕ)) (vars : List ℕ) (producer consumer : Core) (parent : ℕ) (all : List ℕ) (state : StateOf O) → Surrounds w c outer variables
        → children loans ++ names ≡ all → count forms ≡ length names → ((x : ℕ) → has all x ≡ true → is_stobj_name c x ≡ true)
        → IsReady c (producer_scope c outer (Some parent) all) (name_kinds c vars) producer → IsReady c (consumer_scope c outer all vars) given consumer
        → TurnFits w (worlds_of c cs c) (next_child rs room variables frames names forms loans vars producer consumer state)
    child_fits [] none loans vars producer consumer parent all state s e n stobjs p q =
        let same : children loans ≡ all = sym (nothing_more (children loans)) ∙ e in
        if_fits w (worlds_of c cs c) (are_twins by_number loans) (stop_here rs None room variables frames (Guard stobj_let_word (indices loans)) state)
        (next rs room variables frames (Producing vars loans consumer) (Begin producer (loaned_variables rs loans variables)) (lending rs loans state)) tt
        (record {
          scope = producer_scope c outer (Some parent) all;
          outs = name_kinds c vars;
          surrounds = record { suits = s.suits; are = producer_variables c outer parent all loans same variables stobjs s.are };
          ready = p;
          around =
              Inside c cs variables outer given (Producing vars loans consumer) frames (producer_scope c outer (Some parent) all) (name_kinds c vars)
              (Produces vars loans consumer (producer_scope c outer (Some parent) all) s (subst (λ (xs : List ℕ). IsReady c (consumer_scope c outer xs vars) given consumer) (sym same) q)) around;
        })
    child_fits (x ∷ xs) none loans vars producer consumer parent all state s e n stobjs p q = absurd (omega (arith, n))
    child_fits [] (more f fs) loans vars producer consumer parent all state s e n stobjs p q = absurd (omega (arith, n))
    child_fits (x ∷ xs) (more f fs) loans vars producer consumer parent all state s e n stobjs p q = by_form (reached f)
      where
        step : Loan ℕ → Step ℕ B
        step = λ loan. Borrowing xs fs (loans ++ loan ∷ []) vars producer consumer

        by_value : (by : Reached) (v : Shown ℕ) → TurnFits w (worlds_of c cs c) (reach_from rs room variables frames step x by v state)
        by_value by (Plain o) = tt
        by_value by (StobjNamed y) =
            let loan : Loan ℕ = loan_of rs x y by variables in
            if_fits w (worlds_of c cs c) (nat_lt state.calls limit)
            (if is_reached loan.index (item loan.field (keeping.read (one_more_call state).stobjs loan.parent)) then next rs room variables frames (step loan) (Give []) (one_more_call state)
            else stop_here rs None room variables frames (Guard by.accessor (loan_values loan)) (one_more_call state))
            (stop_here rs None room variables frames Steps state)
            (if_fits w (worlds_of c cs c) (is_reached loan.index (item loan.field (keeping.read (one_more_call state).stobjs loan.parent))) (next rs room variables frames (step loan) (Give []) (one_more_call state))
            (stop_here rs None room variables frames (Guard by.accessor (loan_values loan)) (one_more_call state))
            (waits c (step loan) outer (one_more_call state)
            (Borrows xs fs (loans ++ loan ∷ []) vars producer consumer outer parent all s (children_more loans loan xs ∙ e) (omega (arith, n)) stobjs p q)) tt) tt

        by_form : (r : Option Reached) → TurnFits w (worlds_of c cs c) (borrow rs room variables frames step x r state)
        by_form None = tt
        by_form (Some by) = by_value by (variable_in by_number variables by.parent)

    -- the next child that is put back, or the consumer
    put_fits : (vars : List ℕ) (left loans : List (Loan ℕ)) (consumer : Core) (values : List (Shown ℕ)) (inside : Scope) (state : StateOf O) → Surrounds w c outer variables → AreOutputs inside (name_kinds c vars) values
        → IsReady c (consumer_scope c outer (children loans) vars) given consumer → TurnFits w (worlds_of c cs c) (put_next rs room variables frames vars left loans consumer values state)
    put_fits vars [] loans consumer values inside state s a q =
        last_fits keeping w threaded packages limit origins checked c outer given cs frames around room variables (consumer_scope c outer (children loans) vars) consumer (bound vars values variables) (ending_loans keeping (length loans) state)
        (record { suits = s.suits; are = consumer_variables c outer 0 (children loans) loans refl inside vars values variables a s.are }) q
        (λ x i. consumer_objects c outer 0 (children loans) loans refl inside vars values variables a x i)
    put_fits vars (l ∷ ls) loans consumer values inside state s a q =
        let on : ((after : StateOf O) → TurnFits w (worlds_of c cs c) (next rs room variables frames (Putting vars ls loans consumer values) (Give []) after)) =
        λ after. waits c (Putting vars ls loans consumer values) outer after (Puts vars ls loans consumer values outer inside s a q) in
        let kept : StateOf O = record (one_more_call state) { stobjs = keeping.put l (one_more_call state).stobjs } in
        if_fits w (worlds_of c cs c) (list_any (nat_eq l.child) vars)
        (if nat_lt state.calls limit then next rs room variables frames (Putting vars ls loans consumer values) (Give []) kept else next rs room variables frames (Putting vars ls loans consumer values) (Stopped Steps (here state)) state)
        (next rs room variables frames (Putting vars ls loans consumer values) (Give []) state)
        (if_fits w (worlds_of c cs c) (nat_lt state.calls limit) (next rs room variables frames (Putting vars ls loans consumer values) (Give []) kept)
        (next rs room variables frames (Putting vars ls loans consumer values) (Stopped Steps (here state)) state) (on kept) tt) (on state)

    -- ---- steps

    pub step_fits : (step : Step ℕ B) (inner : Scope) (awaited : List Out) (values : List (Shown ℕ)) (state : StateOf O) → StepFits w c variables outer given step inner awaited → AreOutputs inner awaited values
        → TurnFits w (after_step origins step c cs) (go_on rs room variables frames step values state)
    step_fits (Test b d) inner awaited values state (Tests _ _ s p q) a = branch_fits (is_false rs values) b d state s p q
    step_fits (Parts forms before goal) inner awaited values state (Parted _ _ _ done kind kinds all s o ready e t) a =
        part_fits keeping w threaded packages limit origins checked c outer given cs frames around room variables forms (before ++ single by_number values ∷ []) goal state (done ++ kind ∷ []) kinds all s
        (outs_more outer done before kind values o a) ready (append_assoc done (kind ∷ []) kinds ∙ e) t
    step_fits (Several names body) inner awaited values state (Severals _ _ s ready) a = body_fits keeping w threaded packages limit origins checked c outer given cs frames around room variables names body values state s a ready
    step_fits (Calling f actuals) inner awaited values state (Called _ _ _ i) a = call_fits f actuals state i
    step_fits (Guarding export name formals actuals body behind) inner awaited values state (Guarded _ _ _ _ _ _ ins outs suits i ready e) a =
        let after : StateOf O = leaving keeping formals actuals behind state in
        if_fits w (worlds_of c cs c) (is_false rs values) (refuse rs export room variables frames name actuals after) (enter rs room variables frames (Running export formals actuals) formals actuals body after) tt
        (record {
          scope = formal_entries formals ins;
          outs = outs;
          surrounds = handed_surrounds keeping w threaded packages limit origins checked outer given cs frames around room variables c formals ins actuals suits i;
          ready = ready;
          around =
              Inside c cs variables outer given (Running export formals actuals (keeping.behind after.stobjs)) frames (formal_entries formals ins) outs
              (RunsOn export formals actuals (keeping.behind after.stobjs) ins outs i e) around;
        })
    step_fits (Running export formals actuals behind) inner awaited values state (RunsOn _ _ _ _ ins outs i e) a =
        last_gives keeping w threaded packages limit origins checked outer given cs frames around room variables c c export (map (outer_value formals actuals) values) (leaving keeping formals actuals behind state)
        (out_fits formals actuals ins outs values i e a)
    step_fits (Allowing f actuals begun behind) inner awaited values state (Allowed _ _ _ _ _ i) a =
        let after : StateOf O = leaving keeping f.formals actuals behind state in
        if_fits w (worlds_of c cs c) (is_false rs values) (stop_from rs None room variables frames (Guard f.name actuals) (cut_before begun.number (here after)) after) (next rs room variables frames (Exporting f actuals begun) (Give []) after) tt
        (waits c (Exporting f actuals begun) outer after (Exports f actuals begun outer i))
    step_fits (Exporting f actuals begun) inner awaited values state (Exports _ _ _ _ i) a = exec_fits f actuals begun state i
    step_fits (Borrowing names forms loans vars producer consumer) inner awaited values state (Borrows _ _ _ _ _ _ _ parent all s e n stobjs p q) a = child_fits names forms loans vars producer consumer parent all state s e n stobjs p q
    step_fits (Producing vars loans consumer) inner awaited values state (Produces _ _ _ _ s q) a = put_fits vars loans loans consumer values inner state s a q
    step_fits (Putting vars left loans consumer us) inner awaited values state (Puts _ _ _ _ _ _ inside s o q) a = put_fits vars left loans consumer us inside state s o q
    step_fits (Local names body) inner awaited values state (Locals stobj _ _ s ready) a =
        last_fits keeping w threaded packages limit origins checked c outer given cs frames around room variables (body_scope c outer stobj names) body (bound names values variables) (unmaking keeping state)
        (record { suits = s.suits; are = body_variables c outer stobj names values variables a s.are }) ready (λ x i. body_objects c outer stobj names values variables a x i)
    step_fits (Last export) inner awaited values state (Ends _ _ i) a = record { scope = outer; outs = given; given = outputs_wider inner outer given values i a; around = around }
