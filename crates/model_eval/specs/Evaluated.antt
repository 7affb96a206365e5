-- Evaluation of core forms, by recursion on how many more forms may be open. In which way the stobjs are kept is given, and
-- what checked and abstract evaluation do in different ways stands in a record of rules (ACL2's manual, topic EVALUATION).
use Rattle.std.specs.Prelude.{ℕ, zero, suc, List, [], ◌∷◌, ◌++◌, map, Bool, true, Option, Some, None, nat_eq, if◌then◌else◌}
use Rattle.std.specs.List.{list_any}
use Rattle.model_objects.specs.Object.{Object}
use Rattle.model_prims.specs.Kinds.{SymbolKind, truth_of, is_nil}
use Rattle.model_prims.specs.declared.prim.Prim.{Prim}
use Rattle.model_lists.specs.Lists.{StobjList, item}
use Rattle.model_terms.specs.Cores.{Core, Cores, Reached, Var, Const, If, Let, Mv, MvLet, StobjLet, WithLocal, MustBeEqual, Call, none, more, reached}
use Rattle.model_terms.specs.Worlds.{World, Definition, FunctionOfAbstract, definition, Primitive, Defined, Macro, Constant, Concrete, Generated, Abstract, OfAbstract, Named, Signed}
use Rattle.model_terms.specs.declared.role.AbstractRole.{AbstractRole}
use Rattle.model_terms.specs.declared.role.AbstractRole.TheVariants as abstract_role
use Rattle.model_eval.specs.Outcomes.{Shown, Plain, StobjNamed, Stobjs, Guard, Depth, StateOf, OutcomeOf, Gives, Unknown, then_with, with_state, stops_here, cut_at, counting}
use Rattle.model_eval.specs.Keeping.{Loan, Keeping, entering, handed, taken_back, unmaking}
use Rattle.model_eval.specs.Variables.{Variables, nothing, variable_in, bound, object_of, single, plain, inner_variables}
use Rattle.model_eval.specs.StobjLayouts.{stobj_layout}
use Rattle.model_eval.specs.GeneratedCalls.{generated}
use Rattle.model_eval.specs.Lending.{field_number, is_reached, loan_values, indices, are_twins}
use Rattle.model_eval.specs.ListsKeeping.{lists_keeping}

pub record RulesOf {S O B : Type 0} (keeping : Keeping S O B) : Type 0 where
  pub world : World
  pub limit : ℕ  -- the most calls
  pub kind : SymbolKind S
  pub see : Object ℕ → Object S  -- a constant of the world
  pub primitive : ℕ → Prim → List (Shown S) → StateOf O → OutcomeOf S O  -- a primitive, with its name
  pub fresh : ℕ → Option (StobjList S)  -- the list of a new stobj of this name
  -- an export, its guard having held: its actuals, what its call left behind, and what calls its exec function
  pub export : FunctionOfAbstract → List (Shown S) → B → (StateOf O → OutcomeOf S O) → StateOf O → OutcomeOf S O

-- what evaluates a form
abbrev pub EvaluatorOf : Type 0 → Type 0 → Type 0
EvaluatorOf S O = Core → Variables S → StateOf O → OutcomeOf S O

-- the same where stobjs are kept as lists
abbrev pub Rules : Type 0 → Type 0
Rules S = RulesOf (lists_keeping {S = S})

abbrev pub Evaluator : Type 0 → Type 0
Evaluator S = EvaluatorOf S (Stobjs S)

-- the symbol that names what stops for two equal indices
abbrev pub stobj_let_word : ℕ
stobj_let_word = 121

module _ {S O B : Type 0} {keeping : Keeping S O B} (r : RulesOf keeping) where
  abbrev pub is_false : List (Shown S) → Bool
  is_false values = is_nil r.kind (object_of r.kind (single r.kind values))

  -- ---- calls

  -- a function's guard or body, over its formals
  abbrev pub scoped : EvaluatorOf S O → List ℕ → List (Shown S) → Core → StateOf O → OutcomeOf S O
  scoped ev formals values form state =
      handed keeping formals values (keeping.behind state.stobjs) (ev form (inner_variables formals values) (entering keeping formals values state))

  abbrev pub with_guard : EvaluatorOf S O → ℕ → List ℕ → Core → List (Shown S) → (StateOf O → OutcomeOf S O) → StateOf O → OutcomeOf S O
  with_guard ev name formals guard values go state =
      then_with (scoped ev formals values guard state) (λ test after. if is_false test then stops_here (Guard name values) after else go after)

  -- a function that does not stand, or may not be called
  abbrev pub refused : ℕ → List (Shown S) → StateOf O → OutcomeOf S O
  refused name values state = stops_here (Guard name values) state

  -- a function of an abstract stobj, whose call was counted; `exec` calls a function that is none
  abbrev pub of_abstract : EvaluatorOf S O → (ℕ → StateOf O → OutcomeOf S O) → FunctionOfAbstract → AbstractRole → List (Shown S) → StateOf O → OutcomeOf S O
  of_abstract ev exec f abstract_role.Recognizer values state = Gives (plain (truth_of r.kind true ∷ [])) state
  of_abstract ev exec f abstract_role.Creator values state = refused f.name values state
  of_abstract ev exec f abstract_role.Export values state =
      cut_at state.outer (with_guard ev f.name f.formals f.guard values (r.export f values (keeping.behind state.stobjs) (exec f.exec)) state)

  -- a call that was counted, by what the function is
  abbrev pub by_definition : EvaluatorOf S O → (FunctionOfAbstract → StateOf O → OutcomeOf S O) → Option Definition → ℕ → List (Shown S) → StateOf O → OutcomeOf S O
  by_definition ev abstract None name values state = refused name values state
  by_definition ev abstract (Some (Primitive f row)) name values state = r.primitive f row.prim values state
  by_definition ev abstract (Some (Defined f)) name values state = with_guard ev f.name f.formals f.guard values (scoped ev f.formals values f.body) state
  by_definition ev abstract (Some (Macro f formals body)) name values state = refused name values state
  by_definition ev abstract (Some (Constant f value)) name values state = refused name values state
  by_definition ev abstract (Some (Concrete d class)) name values state = refused name values state
  by_definition ev abstract (Some (Generated g)) name values state = generated keeping r.kind g (stobj_layout r.see r.world g.stobj) values state
  by_definition ev abstract (Some (Abstract d)) name values state = refused name values state
  by_definition ev abstract (Some (OfAbstract f)) name values state = abstract f state
  by_definition ev abstract (Some (Named f formals)) name values state = refused name values state
  by_definition ev abstract (Some (Signed f formals signature executable)) name values state = refused name values state

  -- an exec function, which is no function of an abstract stobj
  unfoldable pub exec_called : EvaluatorOf S O → List (Shown S) → ℕ → StateOf O → OutcomeOf S O
  exec_called ev values name state = by_definition ev (λ f after. refused name values after) (definition r.world name) name values state

  unfoldable pub called : EvaluatorOf S O → ℕ → List (Shown S) → StateOf O → OutcomeOf S O
  called ev name values state =
      counting r.limit state (by_definition ev (λ f after. of_abstract ev (exec_called ev values) f f.role values after) (definition r.world name) name values)

  -- ---- parts in order

  unfoldable pub in_order : EvaluatorOf S O → Cores → Variables S → List (Shown S) → (List (Shown S) → StateOf O → OutcomeOf S O) → StateOf O → OutcomeOf S O
  in_order ev none variables done go state = go done state
  in_order ev (more form forms) variables done go state =
      then_with (ev form variables state) (λ values after. in_order ev forms variables (done ++ single r.kind values ∷ []) go after)

  -- ---- forms that are not opened

  -- the value of a variable or a constant
  abbrev pub leaf : Core → Variables S → Option (Shown S)
  leaf (Var x) variables = Some (variable_in r.kind variables x)
  leaf (Const o) variables = Some (Plain (r.see o))
  leaf (If a b c) variables = None
  leaf (Let names bound body) variables = None
  leaf (Mv parts) variables = None
  leaf (MvLet names bound body) variables = None
  leaf (StobjLet names bound vars producer consumer) variables = None
  leaf (WithLocal stobj names producer body) variables = None
  leaf (MustBeEqual logic exec) variables = None
  leaf (Call f actuals) variables = None

  -- ---- children

  abbrev pub leaf_object : Option (Shown S) → Object S
  leaf_object None = object_of r.kind (nothing r.kind)
  leaf_object (Some v) = object_of r.kind v

  abbrev pub index_of : Option Core → Variables S → Option (Object S)
  index_of None variables = None
  index_of (Some form) variables = Some (leaf_object (leaf form variables))

  abbrev pub loan_of : ℕ → ℕ → Reached → Variables S → Loan S
  loan_of child parent by variables = record {
    child = child;
    parent = parent;
    field = field_number (definition r.world by.accessor);
    index = index_of by.index variables;
  }

  -- an accessor's call
  abbrev pub borrowing : ℕ → Loan S → (StateOf O → OutcomeOf S O) → StateOf O → OutcomeOf S O
  borrowing accessor loan go state =
      if is_reached loan.index (item loan.field (keeping.read state.stobjs loan.parent)) then go state else stops_here (Guard accessor (loan_values loan)) state

  -- the parent is the stobj that its variable is
  abbrev pub borrowed_from : ℕ → Reached → Shown S → Variables S → (Loan S → StateOf O → OutcomeOf S O) → StateOf O → OutcomeOf S O
  borrowed_from child by (Plain o) variables go state = stops_here Depth state
  borrowed_from child by (StobjNamed p) variables go state =
      let loan = loan_of child p by variables in counting r.limit state (borrowing by.accessor loan (go loan))

  abbrev pub borrowed : ℕ → Option Reached → Variables S → (Loan S → StateOf O → OutcomeOf S O) → StateOf O → OutcomeOf S O
  borrowed child None variables go state = stops_here Depth state
  borrowed child (Some by) variables go state = borrowed_from child by (variable_in r.kind variables by.parent) variables go state

  -- the bindings in order
  unfoldable pub all_borrowed : List ℕ → Cores → Variables S → List (Loan S) → (List (Loan S) → StateOf O → OutcomeOf S O) → StateOf O → OutcomeOf S O
  all_borrowed names none variables loans go state = go loans state
  all_borrowed [] (more form forms) variables loans go state = go loans state
  all_borrowed (x ∷ xs) (more form forms) variables loans go state =
      borrowed x (reached form) variables (λ loan after. all_borrowed xs forms variables (loans ++ loan ∷ []) go after) state

  -- the children among the variables are put back, in the order of the bindings, a call each
  unfoldable pub put_back : List ℕ → List (Loan S) → (StateOf O → OutcomeOf S O) → StateOf O → OutcomeOf S O
  put_back vars [] go state = go state
  put_back vars (l ∷ ls) go state =
      if list_any (nat_eq l.child) vars
      then counting r.limit state (λ after. put_back vars ls go (record after { stobjs = keeping.put l after.stobjs }))
      else put_back vars ls go state

  abbrev pub lending : List (Loan S) → StateOf O → StateOf O
  lending loans state = record state { stobjs = keeping.lend loans state.stobjs }

  abbrev pub loaned_variables : List (Loan S) → Variables S → Variables S
  loaned_variables loans variables = map (λ (l : Loan S). (l.child, StobjNamed l.child)) loans ++ variables

  -- the producer with the children in scope, which are then given back
  abbrev pub producing : EvaluatorOf S O → List ℕ → Core → Variables S → List (Loan S) → StateOf O → OutcomeOf S O
  producing ev vars producer variables loans state =
      taken_back keeping loans (then_with (ev producer (loaned_variables loans variables) (lending loans state)) (λ values after. put_back vars loans (Gives values) after))

  abbrev pub with_loans : EvaluatorOf S O → List ℕ → Core → Core → Variables S → List (Loan S) → StateOf O → OutcomeOf S O
  with_loans ev vars producer consumer variables loans state =
      if are_twins r.kind loans then stops_here (Guard stobj_let_word (indices loans)) state
      else then_with (producing ev vars producer variables loans state) (λ values after. ev consumer (bound vars values variables) after)

  -- ---- local stobjs

  -- a form with a new stobj in scope, which is gone after it
  abbrev pub with_fresh : EvaluatorOf S O → ℕ → Option (StobjList S) → Core → Variables S → StateOf O → OutcomeOf S O
  with_fresh ev x None producer variables state = Unknown
  with_fresh ev x (Some l) producer variables state =
      with_state (unmaking keeping) (ev producer ((x, StobjNamed x) ∷ variables) (record state { stobjs = keeping.make x l state.stobjs }))

  -- ---- forms that are opened

  abbrev pub opened : EvaluatorOf S O → Core → Variables S → StateOf O → OutcomeOf S O
  opened ev (Var x) variables state = stops_here Depth state
  opened ev (Const o) variables state = stops_here Depth state
  opened ev (If a b c) variables state =
      then_with (ev a variables state) (λ test after. ev (if is_false test then c else b) variables after)
  opened ev (Let names forms body) variables state =
      in_order ev forms variables [] (λ values after. ev body (bound names values variables) after) state
  opened ev (Mv parts) variables state = in_order ev parts variables [] Gives state
  opened ev (MvLet names form body) variables state =
      then_with (ev form variables state) (λ values after. ev body (bound names values variables) after)
  opened ev (StobjLet names forms vars producer consumer) variables state =
      all_borrowed names forms variables [] (with_loans ev vars producer consumer variables) state
  opened ev (WithLocal stobj names producer body) variables state =
      then_with (counting r.limit state (with_fresh ev stobj (r.fresh stobj) producer variables)) (λ values after. ev body (bound names values variables) after)
  opened ev (MustBeEqual logic exec) variables state = ev logic variables state
  opened ev (Call f actuals) variables state = in_order ev actuals variables [] (called ev f) state

  -- a variable or a constant has its value; another form is opened
  abbrev pub leaf_or : Option (Shown S) → StateOf O → OutcomeOf S O → OutcomeOf S O
  leaf_or (Some v) state other = Gives (v ∷ []) state
  leaf_or None state other = other

  -- the outcome of a form where so many more forms may be open
  unfoldable pub evaluated : ℕ → EvaluatorOf S O
  evaluated zero form variables state = leaf_or (leaf form variables) state (stops_here Depth state)
  evaluated (suc d) form variables state = leaf_or (leaf form variables) state (opened (evaluated d) form variables state)
