-- An evaluation leaves the stobjs that no variable has.
use Rattle.std.proofs.Common.{◌≡◌, ℕ, zero, suc, List, [], ◌∷◌, ◌++◌, length, map, drop, Bool, true, false, Option, Some, None, refl, sym, ap, ◌∙◌, subst}
use Rattle.std.specs.Prelude.{nat_lt, nat_eq, if◌then◌else◌}
use Rattle.std.specs.List.{list_any}
use Rattle.std.proofs.lemmas.List.{append_assoc}
use Rattle.model_prims.specs.declared.prim.Prim.{Prim}
use Rattle.model_lists.specs.Lists.{StobjList, item}
use Rattle.model_lists.specs.Layouts.{Layout}
use Rattle.model_lists.specs.Effects.{Effect, Refuses, Reads, Writes}
use Rattle.model_terms.specs.Cores.{Core, Cores, Reached, Var, Const, If, Let, Mv, MvLet, StobjLet, WithLocal, MustBeEqual, Call, none, more, reached}
use Rattle.model_terms.specs.Worlds.{Definition, GeneratedFunction, FunctionOfAbstract, definition, Primitive, Defined, Macro, Constant, Concrete, Generated, Abstract, OfAbstract, Named, Signed}
use Rattle.model_terms.specs.declared.role.AbstractRole.{AbstractRole}
use Rattle.model_terms.specs.declared.role.AbstractRole.TheVariants as abstract_role
use Rattle.model_eval.specs.Outcomes.{Shown, Plain, StobjNamed, Stop, Guard, Steps, Depth, Stobjs, State, Outcome, Gives, Stops, Unknown, then_with, with_state, cut_at, one_more_call, counting, stops_here}
use Rattle.model_eval.specs.Variables.{Variables, variable_in, bound, single, first_stobj, list_of, inner_variables, inner_stobjs, outer_value}
use Rattle.model_eval.specs.StobjLayouts.{stobj_layout}
use Rattle.model_eval.specs.GeneratedCalls.{effected, generated}
use Rattle.model_eval.specs.Lending.{Loan, is_reached, are_twins, lent, put_into_parent}
use Rattle.model_eval.specs.ListsKeeping.{lists_keeping, inner_state, back, all_put, without_innermost, returned}
use Rattle.model_eval.specs.Evaluated.{Rules, Evaluator, is_false, scoped, with_guard, of_abstract, by_definition, exec_called, called, in_order, leaf, leaf_or, loan_of, borrowing, borrowed_from, borrowed, all_borrowed, put_back, lending, loaned_variables, producing, with_loans, with_fresh, opened, evaluated}
use Rattle.model_eval_laws.specs.Scope.{names, is_among, InScope, AllInScope, widened, HasNames}
use Rattle.model_eval_laws.proofs.Lists.{same_number, among_first, ValuesIn, variables_more, scope_variable, scope_bound, values_append, values_plain, list_widened, write_widened, names_write, handed_widened, back_widened, names_back, scope_inner, values_outer, OptionIn, scope_first, option_widened, children, LoansIn, KidsIn, loans_append, kids_in, lent_widened, names_append, names_lent, put_widened, names_put, all_put_widened, names_all_put, drop_widened, names_drop, length_children}

-- the values of an outcome are in scope
abbrev pub HasValues : {S : Type 0} → List ℕ → Outcome S → Type 0
HasValues ns (Gives values state) = ValuesIn ns values
HasValues ns (Stops stop origin state) = Unit {0}
HasValues ns Unknown = Unit {0}

module _ {S : Type 0} (others : Stobjs S) where
  -- an outcome of the stobjs with these names, and what comes with more stobjs
  pub record Loose (ns : List ℕ) (r s : Outcome S) : Type 0 where
    pub same : s ≡ with_state (widened others) r
    pub kept : HasNames ns r

  pub record Framed (ns : List ℕ) (r s : Outcome S) : Type 0 where
    pub same : s ≡ with_state (widened others) r
    pub kept : HasNames ns r
    pub values : HasValues ns r

  -- what the second does with more stobjs
  abbrev pub ToFramed : List ℕ → (State S → Outcome S) → (State S → Outcome S) → Type 0
  ToFramed ns go to = (state : State S) → names state.stobjs ≡ ns → Framed ns (go state) (to (widened others state))

  abbrev pub GoFramed : List ℕ → (State S → Outcome S) → Type 0
  GoFramed ns go = ToFramed ns go go

  abbrev pub GoLoose : List ℕ → (State S → Outcome S) → Type 0
  GoLoose ns go = (state : State S) → names state.stobjs ≡ ns → Loose ns (go state) (go (widened others state))

  loosely : (ns : List ℕ) (r s : Outcome S) → Framed ns r s → Loose ns r s
  loosely ns r s h = record { same = h.same; kept = h.kept }

  -- ---- outcomes

  framed_to : (ns : List ℕ) (r s : Outcome S) (go to : List (Shown S) → State S → Outcome S) → Loose ns r s → ((values : List (Shown S)) → ToFramed ns (go values) (to values)) → Framed ns (then_with r go) (then_with s to)
  framed_to ns (Gives values state) s go to h k = rw h.same (k values state h.kept)
  framed_to ns (Stops stop origin state) s go to h k = record { same = ap (λ e. then_with e to) h.same; kept = h.kept; values = tt }
  framed_to ns Unknown s go to h k = record { same = ap (λ e. then_with e to) h.same; kept = tt; values = tt }

  framed_then : (ns : List ℕ) (r s : Outcome S) (go : List (Shown S) → State S → Outcome S) → Loose ns r s → ((values : List (Shown S)) → GoFramed ns (go values)) → Framed ns (then_with r go) (then_with s go)
  framed_then ns r s go h k = framed_to ns r s go go h k

  -- the rest knows that the values are in scope
  framed_with : (ns : List ℕ) (r s : Outcome S) (go : List (Shown S) → State S → Outcome S) → Framed ns r s → ((values : List (Shown S)) → ValuesIn ns values → GoFramed ns (go values)) → Framed ns (then_with r go) (then_with s go)
  framed_with ns (Gives values state) s go h k = rw h.same (k values h.values state h.kept)
  framed_with ns (Stops stop origin state) s go h k = record { same = ap (λ e. then_with e go) h.same; kept = h.kept; values = tt }
  framed_with ns Unknown s go h k = record { same = ap (λ e. then_with e go) h.same; kept = tt; values = tt }

  framed_cut : (ns : List ℕ) (n : ℕ) (r s : Outcome S) → Framed ns r s → Framed ns (cut_at n r) (cut_at n s)
  framed_cut ns n (Gives values state) s h = record { same = ap (cut_at n) h.same; kept = h.kept; values = h.values }
  framed_cut ns n (Stops stop origin state) s h = record { same = ap (cut_at n) h.same; kept = h.kept; values = tt }
  framed_cut ns n Unknown s h = record { same = ap (cut_at n) h.same; kept = tt; values = tt }

  framed_if : (ns : List ℕ) (b : Bool) (r s t u : Outcome S) → Framed ns r t → Framed ns s u → Framed ns (if b then r else s) (if b then t else u)
  framed_if ns true r s t u h k = h
  framed_if ns false r s t u h k = k

  framed_stop : (ns : List ℕ) (stop : Stop S) (state : State S) → names state.stobjs ≡ ns → Framed ns (stops_here stop state) (stops_here stop (widened others state))
  framed_stop ns stop state e = record { same = refl; kept = e; values = tt }

  framed_give : (ns : List ℕ) (values : List (Shown S)) (state : State S) → ValuesIn ns values → names state.stobjs ≡ ns → Framed ns (Gives values state) (Gives values (widened others state))
  framed_give ns values state h e = record { same = refl; kept = e; values = h }

  pub framed_counting : (ns : List ℕ) (limit : ℕ) (go : State S → Outcome S) → GoFramed ns go → GoFramed ns (λ state. counting limit state go)
  framed_counting ns limit go h state e = by_test (nat_lt state.calls limit)
    where
      by_test : (b : Bool) → Framed ns (if b then go (one_more_call state) else stops_here Steps state) (if b then go (one_more_call (widened others state)) else stops_here Steps (widened others state))
      by_test true = h (one_more_call state) e
      by_test false = framed_stop ns Steps state e

  loose_counting : (ns : List ℕ) (limit : ℕ) (go : State S → Outcome S) → GoLoose ns go → GoLoose ns (λ state. counting limit state go)
  loose_counting ns limit go h state e = by_test (nat_lt state.calls limit)
    where
      by_test : (b : Bool) → Loose ns (if b then go (one_more_call state) else stops_here Steps state) (if b then go (one_more_call (widened others state)) else stops_here Steps (widened others state))
      by_test true = h (one_more_call state) e
      by_test false = record { same = refl; kept = e }

  -- ---- rules

  module _ (r : Rules S) where
    pub record RulesFrame : Type 0 where
      pub primitives : (ns : List ℕ) (f : ℕ) (p : Prim) (values : List (Shown S)) → GoFramed ns (r.primitive f p values)
      pub exports : (ns : List ℕ) (f : FunctionOfAbstract) (values : List (Shown S)) (before : Stobjs S) (go : State S → Outcome S) → ValuesIn ns values → names before ≡ ns → GoFramed ns go → ToFramed ns (r.export f values before go) (r.export f values (before ++ others) go)

    module _ (g : RulesFrame) where
      abbrev EvFramed : Evaluator S → Type 0
      EvFramed ev = (form : Core) (variables : Variables S) (ns : List ℕ) → AllInScope ns variables → GoFramed ns (ev form variables)

      -- ---- calls

      framed_back : (ns formals : List ℕ) (actuals : List (Shown S)) (state : State S) (e : Outcome S) → names state.stobjs ≡ ns → ValuesIn ns actuals → HasNames (names (inner_stobjs formals actuals state.stobjs)) e → HasValues (names (inner_stobjs formals actuals state.stobjs)) e
          → Framed ns (back formals actuals state e) (back formals actuals (widened others state) e)
      framed_back ns formals actuals state (Gives values inner) e h k v =
          let held : ValuesIn (names state.stobjs) actuals = subst (λ ms. ValuesIn ms actuals) (sym e) h in
          record {
            same = ap (λ (os : Stobjs S). Gives (map (outer_value formals actuals) values) (record inner { stobjs = os })) (back_widened formals actuals inner.stobjs state.stobjs others held);
            kept = names_back formals actuals inner.stobjs state.stobjs ∙ e;
            values = values_outer ns formals actuals state.stobjs values h v;
          }
      framed_back ns formals actuals state (Stops stop origin inner) e h k v =
          let held : ValuesIn (names state.stobjs) actuals = subst (λ ms. ValuesIn ms actuals) (sym e) h in
          record {
            same = ap (λ (os : Stobjs S). Stops stop origin (record inner { stobjs = os })) (back_widened formals actuals inner.stobjs state.stobjs others held);
            kept = names_back formals actuals inner.stobjs state.stobjs ∙ e;
            values = tt;
          }
      framed_back ns formals actuals state Unknown e h k v = record { same = refl; kept = tt; values = tt }

      same_inner : (ns formals : List ℕ) (actuals : List (Shown S)) (state : State S) → names state.stobjs ≡ ns → ValuesIn ns actuals → inner_state formals actuals (widened others state) ≡ inner_state formals actuals state
      same_inner ns formals actuals state e h =
          ap (λ (os : Stobjs S). record state { stobjs = os }) (handed_widened formals actuals state.stobjs others (subst (λ ms. ValuesIn ms actuals) (sym e) h))

      framed_scoped : (ev : Evaluator S) (ns formals : List ℕ) (values : List (Shown S)) (form : Core) → EvFramed ev → ValuesIn ns values → GoFramed ns (scoped r ev formals values form)
      framed_scoped ev ns formals values form h v state e =
          let inner = h form (inner_variables formals values) (names (inner_stobjs formals values state.stobjs)) (scope_inner formals values state.stobjs) (inner_state formals values state) refl in
          rw (same_inner ns formals values state e v)
          (framed_back ns formals values state (ev form (inner_variables formals values) (inner_state formals values state)) e v inner.kept inner.values)

      framed_guarded : (ev : Evaluator S) (ns : List ℕ) (name : ℕ) (formals : List ℕ) (guard : Core) (values : List (Shown S)) (go to : State S → Outcome S) → EvFramed ev → ValuesIn ns values → ToFramed ns go to → ToFramed ns (with_guard r ev name formals guard values go) (with_guard r ev name formals guard values to)
      framed_guarded ev ns name formals guard values go to h v k state e =
          framed_to ns _ _ _ _ (loosely ns _ _ (framed_scoped ev ns formals values guard h v state e))
          (λ test after q. framed_if ns (is_false r test) _ _ _ _ (framed_stop ns (Guard name values) after q) (k after q))

      framed_abstract : (ev : Evaluator S) (ns : List ℕ) (exec : ℕ → State S → Outcome S) (f : FunctionOfAbstract) (role : AbstractRole) (values : List (Shown S)) → EvFramed ev → ValuesIn ns values → GoFramed ns (exec f.exec) → GoFramed ns (of_abstract r ev exec f role values)
      framed_abstract ev ns exec f abstract_role.Recognizer values h v k state e = framed_give ns _ state (tt, tt) e
      framed_abstract ev ns exec f abstract_role.Creator values h v k state e = framed_stop ns _ state e
      framed_abstract ev ns exec f abstract_role.Export values h v k state e =
          framed_cut ns state.outer _ _
          (framed_guarded ev ns f.name f.formals f.guard values (r.export f values state.stobjs (exec f.exec)) (r.export f values (state.stobjs ++ others) (exec f.exec)) h v
          (g.exports ns f values state.stobjs (exec f.exec) v e k) state e)

      framed_effected : (ns : List ℕ) (f : ℕ) (values : List (Shown S)) (x : Option ℕ) (state : State S) (q : Effect S) → names state.stobjs ≡ ns → OptionIn ns x
          → Framed ns (effected lists_keeping f values x state q) (effected lists_keeping f values x (widened others state) q)
      framed_effected ns f values x state Refuses e i = framed_stop ns _ state e
      framed_effected ns f values x state (Reads os) e i = framed_give ns _ state (values_plain ns os) e
      framed_effected ns f values None state (Writes l) e i = framed_stop ns _ state e
      framed_effected ns f values (Some x) state (Writes l) e i =
          record {
            same = ap (λ (os : Stobjs S). Gives (StobjNamed x ∷ []) (record state { stobjs = os })) (write_widened x l state.stobjs others (ap (is_among x) e ∙ i));
            kept = names_write x l state.stobjs ∙ e;
            values = (i, tt);
          }

      framed_generated : (ns : List ℕ) (f : GeneratedFunction) (layout : Layout S) (values : List (Shown S)) → ValuesIn ns values → GoFramed ns (generated lists_keeping r.kind f layout values)
      framed_generated ns f layout values v state e =
          let i = scope_first ns values v in
          rw (option_widened r.kind state.stobjs others (first_stobj values) (subst (λ ms. OptionIn ms (first_stobj values)) (sym e) i))
          (framed_effected ns f.name values (first_stobj values) state _ e i)

      framed_definition : (ev : Evaluator S) (ns : List ℕ) (go : FunctionOfAbstract → State S → Outcome S) (d : Option Definition) (name : ℕ) (values : List (Shown S)) → EvFramed ev → ValuesIn ns values → ((f : FunctionOfAbstract) → GoFramed ns (go f)) → GoFramed ns (by_definition r ev go d name values)
      framed_definition ev ns go None name values h v k state e = framed_stop ns _ state e
      framed_definition ev ns go (Some (Primitive f row)) name values h v k state e = g.primitives ns f row.prim values state e
      framed_definition ev ns go (Some (Defined f)) name values h v k state e =
          framed_guarded ev ns f.name f.formals f.guard values _ _ h v (framed_scoped ev ns f.formals values f.body h v) state e
      framed_definition ev ns go (Some (Macro f formals body)) name values h v k state e = framed_stop ns _ state e
      framed_definition ev ns go (Some (Constant f value)) name values h v k state e = framed_stop ns _ state e
      framed_definition ev ns go (Some (Concrete d class)) name values h v k state e = framed_stop ns _ state e
      framed_definition ev ns go (Some (Generated f)) name values h v k state e = framed_generated ns f (stobj_layout r.see r.world f.stobj) values v state e
      framed_definition ev ns go (Some (Abstract d)) name values h v k state e = framed_stop ns _ state e
      framed_definition ev ns go (Some (OfAbstract f)) name values h v k state e = k f state e
      framed_definition ev ns go (Some (Named f formals)) name values h v k state e = framed_stop ns _ state e
      framed_definition ev ns go (Some (Signed f formals signature executable)) name values h v k state e = framed_stop ns _ state e

      framed_exec : (ev : Evaluator S) (ns : List ℕ) (values : List (Shown S)) (name : ℕ) → EvFramed ev → ValuesIn ns values → GoFramed ns (exec_called r ev values name)
      unfolding exec_called
      framed_exec ev ns values name h v state e =
          framed_definition ev ns _ (definition r.world name) name values h v (λ f after q. framed_stop ns _ after q) state e

      framed_called : (ev : Evaluator S) (ns : List ℕ) (name : ℕ) (values : List (Shown S)) → EvFramed ev → ValuesIn ns values → GoFramed ns (called r ev name values)
      unfolding called
      framed_called ev ns name values h v state e =
          framed_counting ns r.limit (by_definition r ev (λ f after. of_abstract r ev (exec_called r ev values) f f.role values after) (definition r.world name) name values)
          (framed_definition ev ns _ (definition r.world name) name values h v (λ f. framed_abstract ev ns (exec_called r ev values) f f.role values h v (framed_exec ev ns values f.exec h v))) state e

      -- ---- parts

      scope_single : (ns : List ℕ) (values : List (Shown S)) → ValuesIn ns values → InScope ns (single r.kind values)
      scope_single ns [] h = tt
      scope_single ns (v ∷ vs) h = h.0

      framed_in_order : (ev : Evaluator S) (ns : List ℕ) (forms : Cores) (variables : Variables S) (done : List (Shown S)) (go : List (Shown S) → State S → Outcome S) → EvFramed ev → AllInScope ns variables → ValuesIn ns done → ((values : List (Shown S)) → ValuesIn ns values → GoFramed ns (go values)) → GoFramed ns (in_order r ev forms variables done go)
      unfolding in_order
      framed_in_order ev ns none variables done go h a v k state e = k done v state e
      framed_in_order ev ns (more form forms) variables done go h a v k state e =
          framed_with ns _ _ _ (h form variables ns a state e)
          (λ values i after q. framed_in_order ev ns forms variables (done ++ single r.kind values ∷ []) go h a (values_append ns done (single r.kind values) v (scope_single ns values i)) k after q)

      -- ---- children

      framed_borrowing : (ns : List ℕ) (accessor : ℕ) (loan : Loan S) (go : State S → Outcome S) → is_among loan.parent ns ≡ true → GoFramed ns go → GoFramed ns (borrowing r accessor loan go)
      framed_borrowing ns accessor loan go i k state e =
          rw (list_widened state.stobjs others loan.parent (ap (is_among loan.parent) e ∙ i))
          (framed_if ns (is_reached loan.index (item loan.field (list_of state.stobjs loan.parent))) _ _ _ _ (k state e) (framed_stop ns _ state e))

      framed_borrowed_from : (ns : List ℕ) (child : ℕ) (by : Reached) (p : Shown S) (variables : Variables S) (go : Loan S → State S → Outcome S) → InScope ns p → ((loan : Loan S) → is_among loan.parent ns ≡ true → GoFramed ns (go loan)) → GoFramed ns (borrowed_from r child by p variables go)
      framed_borrowed_from ns child by (Plain o) variables go i k state e = framed_stop ns _ state e
      framed_borrowed_from ns child by (StobjNamed p) variables go i k state e =
          let loan = loan_of r child p by variables in
          framed_counting ns r.limit (borrowing r by.accessor loan (go loan)) (framed_borrowing ns by.accessor loan (go loan) i (k loan i)) state e

      framed_borrowed : (ns : List ℕ) (child : ℕ) (by : Option Reached) (variables : Variables S) (go : Loan S → State S → Outcome S) → AllInScope ns variables → ((loan : Loan S) → is_among loan.parent ns ≡ true → GoFramed ns (go loan)) → GoFramed ns (borrowed r child by variables go)
      framed_borrowed ns child None variables go a k state e = framed_stop ns _ state e
      framed_borrowed ns child (Some by) variables go a k state e =
          framed_borrowed_from ns child by (variable_in r.kind variables by.parent) variables go (scope_variable r.kind ns variables by.parent a) k state e

      framed_all_borrowed : (ns xs : List ℕ) (forms : Cores) (variables : Variables S) (loans : List (Loan S)) (go : List (Loan S) → State S → Outcome S) → AllInScope ns variables → LoansIn ns loans → ((ls : List (Loan S)) → LoansIn ns ls → GoFramed ns (go ls)) → GoFramed ns (all_borrowed r xs forms variables loans go)
      unfolding all_borrowed
      framed_all_borrowed ns xs none variables loans go a i k state e = k loans i state e
      framed_all_borrowed ns [] (more form forms) variables loans go a i k state e = k loans i state e
      framed_all_borrowed ns (x ∷ xs) (more form forms) variables loans go a i k state e =
          framed_borrowed ns x (reached form) variables _ a
          (λ loan j after q. framed_all_borrowed ns xs forms variables (loans ++ loan ∷ []) go a (loans_append ns loans loan i j) k after q) state e

      framed_put_back : (ns vars : List ℕ) (loans : List (Loan S)) (go : State S → Outcome S) → KidsIn ns loans → GoFramed ns go → GoFramed ns (put_back r vars loans go)
      unfolding put_back
      framed_put_back ns vars [] go i k state e = k state e
      framed_put_back ns vars (l ∷ ls) go i k state e =
          framed_if ns (list_any (nat_eq l.child) vars) _ _ _ _
          (framed_counting ns r.limit (λ after. put_back r vars ls go (record after { stobjs = put_into_parent l after.stobjs }))
          (λ after q. rw (put_widened l after.stobjs others (ap (is_among l.child) q ∙ i.0) (ap (is_among l.parent) q ∙ i.1))
          (framed_put_back ns vars ls go i.2 k (record after { stobjs = put_into_parent l after.stobjs }) (names_put l after.stobjs ∙ q))) state e)
          (framed_put_back ns vars ls go i.2 k state e)

      -- the children's lists and the others
      lending_widened : (ns : List ℕ) (loans : List (Loan S)) (state : State S) → names state.stobjs ≡ ns → LoansIn ns loans → lending r loans (widened others state) ≡ widened others (lending r loans state)
      lending_widened ns loans state e i =
          ap (λ (os : Stobjs S). record state { stobjs = os })
          (ap (λ (os : Stobjs S). os ++ (state.stobjs ++ others)) (lent_widened loans state.stobjs others (subst (λ ms. LoansIn ms loans) (sym e) i))
          ∙ sym (append_assoc (lent loans state.stobjs) state.stobjs others))

      names_lending : (ns : List ℕ) (loans : List (Loan S)) (state : State S) → names state.stobjs ≡ ns → names (lent loans state.stobjs ++ state.stobjs) ≡ children loans ++ ns
      names_lending ns loans state e =
          names_append (lent loans state.stobjs) state.stobjs
          ∙ (ap (λ (ms : List ℕ). ms ++ names state.stobjs) (names_lent loans state.stobjs) ∙ ap (λ (ms : List ℕ). children loans ++ ms) e)

      scope_loaned : (ns : List ℕ) (loans : List (Loan S)) (variables : Variables S) → AllInScope ns variables → AllInScope (children loans ++ ns) (loaned_variables r loans variables)
      scope_loaned ns [] variables a = a
      scope_loaned ns (l ∷ ls) variables a =
          (among_first l.child (l.child ∷ []) (children ls ++ ns) (rw (same_number l.child) refl), variables_more (l.child ∷ []) (children ls ++ ns) (loaned_variables r ls variables) (scope_loaned ns ls variables a))

      dropped : (ns : List ℕ) (loans : List (Loan S)) (os : Stobjs S) → names os ≡ children loans ++ ns → drop (length loans) (os ++ others) ≡ drop (length loans) os ++ others
      dropped ns loans os e = subst (λ (n : ℕ). drop n (os ++ others) ≡ drop n os ++ others) (length_children loans) (drop_widened (children loans) ns os others e)

      names_dropped : (ns : List ℕ) (loans : List (Loan S)) (os : Stobjs S) → names os ≡ children loans ++ ns → names (drop (length loans) os) ≡ ns
      names_dropped ns loans os e = subst (λ (n : ℕ). names (drop n os) ≡ ns) (length_children loans) (names_drop (children loans) ns os e)

      loose_returned : (ns : List ℕ) (loans : List (Loan S)) (a b : Outcome S) → LoansIn ns loans → Framed (children loans ++ ns) a b → Loose ns (returned loans a) (returned loans b)
      loose_returned ns loans (Gives values state) b i h =
          record {
            same = ap (returned loans) h.same ∙ ap (λ (os : Stobjs S). Gives values (record state { stobjs = os })) (dropped ns loans state.stobjs h.kept);
            kept = names_dropped ns loans state.stobjs h.kept;
          }
      loose_returned ns loans (Stops stop origin state) b i h =
          let kids : KidsIn (names state.stobjs) loans = subst (λ ms. KidsIn ms loans) (sym h.kept) (kids_in ns loans i) in
          let still : names (all_put loans state.stobjs) ≡ children loans ++ ns = names_all_put loans state.stobjs ∙ h.kept in
          record {
            same = ap (returned loans) h.same ∙ ap (λ (os : Stobjs S). Stops stop origin (record state { stobjs = os }))
                (ap (drop (length loans)) (all_put_widened loans state.stobjs others kids) ∙ dropped ns loans (all_put loans state.stobjs) still);
            kept = names_dropped ns loans (all_put loans state.stobjs) still;
          }
      loose_returned ns loans Unknown b i h = record { same = ap (returned loans) h.same; kept = tt }

      loose_producing : (ev : Evaluator S) (ns vars : List ℕ) (producer : Core) (variables : Variables S) (loans : List (Loan S)) → EvFramed ev → AllInScope ns variables → LoansIn ns loans → GoLoose ns (producing r ev vars producer variables loans)
      loose_producing ev ns vars producer variables loans h a i state e =
          rw (lending_widened ns loans state e i)
          (loose_returned ns loans _ _ i
          (framed_with (children loans ++ ns) _ _ _
          (h producer (loaned_variables r loans variables) (children loans ++ ns) (scope_loaned ns loans variables a) (lending r loans state) (names_lending ns loans state e))
          (λ values j after q. framed_put_back (children loans ++ ns) vars loans (Gives values) (kids_in ns loans i) (λ last p. framed_give (children loans ++ ns) values last j p) after q)))

      framed_with_loans : (ev : Evaluator S) (ns vars : List ℕ) (producer consumer : Core) (variables : Variables S) (loans : List (Loan S)) → EvFramed ev → AllInScope ns variables → LoansIn ns loans → GoFramed ns (with_loans r ev vars producer consumer variables loans)
      framed_with_loans ev ns vars producer consumer variables loans h a i state e =
          framed_if ns (are_twins r.kind loans) _ _ _ _ (framed_stop ns _ state e)
          (framed_then ns _ _ _ (loose_producing ev ns vars producer variables loans h a i state e)
          (λ values after q. h consumer (bound vars values variables) ns (scope_bound ns vars values variables a) after q))

      -- ---- local stobjs

      loose_innermost : (ns : List ℕ) (x : ℕ) (a b : Outcome S) → Framed (x ∷ ns) a b → Loose ns (with_state (without_innermost 1) a) (with_state (without_innermost 1) b)
      loose_innermost ns x (Gives values state) b h =
          record {
            same = ap (with_state (without_innermost 1)) h.same ∙ ap (λ (os : Stobjs S). Gives values (record state { stobjs = os })) (drop_widened (x ∷ []) ns state.stobjs others h.kept);
            kept = names_drop (x ∷ []) ns state.stobjs h.kept;
          }
      loose_innermost ns x (Stops stop origin state) b h =
          record {
            same = ap (with_state (without_innermost 1)) h.same ∙ ap (λ (os : Stobjs S). Stops stop origin (record state { stobjs = os })) (drop_widened (x ∷ []) ns state.stobjs others h.kept);
            kept = names_drop (x ∷ []) ns state.stobjs h.kept;
          }
      loose_innermost ns x Unknown b h = record { same = ap (with_state (without_innermost 1)) h.same; kept = tt }

      loose_fresh : (ev : Evaluator S) (ns : List ℕ) (x : ℕ) (l : Option (StobjList S)) (producer : Core) (variables : Variables S) → EvFramed ev → AllInScope ns variables → GoLoose ns (with_fresh r ev x l producer variables)
      loose_fresh ev ns x None producer variables h a state e = record { same = refl; kept = tt }
      loose_fresh ev ns x (Some l) producer variables h a state e =
          loose_innermost ns x _ _
          (h producer ((x, StobjNamed x) ∷ variables) (x ∷ ns) (among_first x (x ∷ []) ns (rw (same_number x) refl), variables_more (x ∷ []) ns variables a)
          (record state { stobjs = (x, l) ∷ state.stobjs }) (ap (λ (ms : List ℕ). x ∷ ms) e))

      -- ---- forms

      framed_opened : (ev : Evaluator S) → EvFramed ev → EvFramed (opened r ev)
      framed_opened ev h (Var x) variables ns a state e = framed_stop ns Depth state e
      framed_opened ev h (Const o) variables ns a state e = framed_stop ns Depth state e
      framed_opened ev h (If test b c) variables ns a state e =
          framed_then ns _ _ _ (loosely ns _ _ (h test variables ns a state e)) (λ values after q. h (if is_false r values then c else b) variables ns a after q)
      framed_opened ev h (Let xs forms body) variables ns a state e =
          framed_in_order ev ns forms variables [] _ h a tt (λ values i after q. h body (bound xs values variables) ns (scope_bound ns xs values variables a) after q) state e
      framed_opened ev h (Mv parts) variables ns a state e =
          framed_in_order ev ns parts variables [] _ h a tt (λ values i after q. framed_give ns values after i q) state e
      framed_opened ev h (MvLet xs form body) variables ns a state e =
          framed_then ns _ _ _ (loosely ns _ _ (h form variables ns a state e)) (λ values after q. h body (bound xs values variables) ns (scope_bound ns xs values variables a) after q)
      framed_opened ev h (StobjLet xs forms vars producer consumer) variables ns a state e =
          framed_all_borrowed ns xs forms variables [] _ a tt (λ loans i. framed_with_loans ev ns vars producer consumer variables loans h a i) state e
      framed_opened ev h (WithLocal stobj xs producer body) variables ns a state e =
          framed_then ns _ _ _ (loose_counting ns r.limit (with_fresh r ev stobj (r.fresh stobj) producer variables) (loose_fresh ev ns stobj (r.fresh stobj) producer variables h a) state e)
          (λ values after q. h body (bound xs values variables) ns (scope_bound ns xs values variables a) after q)
      framed_opened ev h (MustBeEqual logic exec) variables ns a state e = h logic variables ns a state e
      framed_opened ev h (Call f actuals) variables ns a state e =
          framed_in_order ev ns actuals variables [] _ h a tt (λ values i. framed_called ev ns f values h i) state e

      scope_leaf : (form : Core) (variables : Variables S) (ns : List ℕ) → AllInScope ns variables → (v : Shown S) → leaf r form variables ≡ Some v → InScope ns v
      scope_leaf (Var x) variables ns a v e = subst (λ u. InScope ns u) (some_same e) (scope_variable r.kind ns variables x a)
        where
          some_same : {X : Type 0} {u v : X} → Some u ≡ Some v → u ≡ v
          some_same e = cc
      scope_leaf (Const o) variables ns a v e = subst (λ u. InScope ns u) (some_same e) tt
        where
          some_same : {X : Type 0} {u v : X} → Some u ≡ Some v → u ≡ v
          some_same e = cc
      scope_leaf (If test b c) variables ns a v e = cc
      scope_leaf (Let xs forms body) variables ns a v e = cc
      scope_leaf (Mv parts) variables ns a v e = cc
      scope_leaf (MvLet xs form body) variables ns a v e = cc
      scope_leaf (StobjLet xs forms vars producer consumer) variables ns a v e = cc
      scope_leaf (WithLocal stobj xs producer body) variables ns a v e = cc
      scope_leaf (MustBeEqual logic exec) variables ns a v e = cc
      scope_leaf (Call f actuals) variables ns a v e = cc

      framed_leaf : (ns : List ℕ) (l : Option (Shown S)) (state : State S) (a b : Outcome S) → names state.stobjs ≡ ns → ((v : Shown S) → l ≡ Some v → InScope ns v) → Framed ns a b → Framed ns (leaf_or r l state a) (leaf_or r l (widened others state) b)
      framed_leaf ns (Some v) state a b e i h = framed_give ns (v ∷ []) state (i v refl, tt) e
      framed_leaf ns None state a b e i h = h

      pub framed_evaluated : (d : ℕ) → EvFramed (evaluated r d)
      unfolding evaluated
      framed_evaluated zero form variables ns a state e =
          framed_leaf ns (leaf r form variables) state _ _ e (scope_leaf form variables ns a) (framed_stop ns Depth state e)
      framed_evaluated (suc d) form variables ns a state e =
          framed_leaf ns (leaf r form variables) state _ _ e (scope_leaf form variables ns a) (framed_opened (evaluated r d) (framed_evaluated d) form variables ns a state e)
