-- Checked evaluation keeps known symbols known.
use Rattle.std.proofs.Common.{◌≡◌, ℕ, zero, suc, ◌<◌, ◌≤◌, List, [], ◌∷◌, ◌++◌, length, drop, Bool, true, false, Option, Some, None, refl, arith}
use Rattle.std.specs.Prelude.{nat_lt, nat_eq, unwrap_or, if◌then◌else◌}
use Rattle.std.specs.List.{list_any}
use Rattle.model_objects.specs.Object.{Object}
use Rattle.model_objects.specs.Named.{Knows}
use Rattle.model_symbols.specs.Symbols.{QualifiedName, Package, Table}
use Rattle.model_symbols.specs.Opening.{nil}
use Rattle.model_prims.specs.Kinds.{by_number}
use Rattle.model_prims.specs.Applied.{Applied, applied, applied_to, argument}
use Rattle.model_prims.specs.Applied as prims
use Rattle.model_prims.specs.declared.prim.Prim.{Prim}
use Rattle.model_prims.proofs.GivenLemmas.{gives_known}
use Rattle.model_lists.specs.Lists.{item}
use Rattle.model_lists.specs.Layouts.{field_layout}
use Rattle.model_lists.specs.Effects.{Effect, Refuses, Reads, Writes}
use Rattle.model_terms.specs.Cores.{Core, Cores, Reached, Var, Const, If, Let, Mv, MvLet, StobjLet, WithLocal, MustBeEqual, Call, none, more, reached}
use Rattle.model_terms.specs.Worlds.{World, Definition, FunctionOfAbstract, GeneratedFunction, definition, Primitive, Defined, Macro, Constant, Concrete, Generated, Abstract, OfAbstract, Named, Signed}
use Rattle.model_terms.specs.declared.role.AbstractRole.{AbstractRole}
use Rattle.model_terms.specs.declared.role.AbstractRole.TheVariants as abstract_role
use Rattle.model_eval.specs.Outcomes.{Shown, Plain, StobjNamed, Guard, Steps, Stobjs, State, Outcome, Gives, Stops, Unknown, then_with, with_state, cut_at, one_more_call, counting, stops_here}
use Rattle.model_eval.specs.Variables.{Variables, variable_in, bound, single, plain, ordinary, first_stobj, inner_variables, list_of}
use Rattle.model_eval.specs.StobjLayouts.{new_list}
use Rattle.model_eval.specs.GeneratedCalls.{effect, effected, list_or_none}
use Rattle.model_eval.specs.Lending.{Loan, is_reached, loan_values, are_twins, put_into_parent}
use Rattle.model_eval.specs.ListsKeeping.{lists_keeping, inner_state, back, returned}
use Rattle.model_eval.specs.Checked.{checked_rules, checked_primitive, primitive_ended, checked_export, inside_after}
use Rattle.model_eval.specs.Evaluated.{Rules, Evaluator, is_false, scoped, with_guard, of_abstract, by_definition, exec_called, called, in_order, leaf, leaf_or, loan_of, borrowing, borrowed_from, borrowed, all_borrowed, put_back, lending, loaned_variables, producing, with_loans, with_fresh, opened, evaluated}
use Rattle.model_accepted.specs.Threaded.{layout_of}
use Rattle.model_expansion_forms.specs.Nodes.{AllNodes, HasConstant, IsBelow}
use Rattle.model_follows.specs.FollowedWorlds.{LayoutSymbols, KnowsList}
use Rattle.model_follows.specs.Follows.{KnowsShown, KnowsAll}
use Rattle.model_follows.proofs.ThingLemmas.{knows_more}
use Rattle.model_follows.proofs.EffectFollowing.{initial_known}
use Rattle.model_follows.proofs.RoleThings.{layout_field_known}
use Rattle.model_follows.proofs.PrimThings.{argument_known, ordinary_known}
use Rattle.model_made_logic.specs.Known.{KnowsStobjs, KnowsVariables, KnowsForm, KnowsWorld, Grows, EndsKnown}
use Rattle.model_made_logic.specs.Laws.{EvaluationKeepsKnown}
use Rattle.model_made_logic.proofs.KnownLemmas.{all_more, stobjs_more, layout_more, variables_more, grows_same, grows_then, variable_known, single_known, last_known, bound_known, inner_known, outer_known, list_known, with_list_known, inner_stobjs_known, handed_known, restored_known, both_known, drop_known, lent_known, put_known, all_put_known, loaned_known}
use Rattle.model_made_logic.proofs.EffectLemmas.{EachSymbols, EffectKnown, effect_known, GrowsTo, applied_grows}

module _ (w : World) (n : ℕ) (two : 2 ≤ n) (world : KnowsWorld w n) (packages : List Package) (limit : ℕ) where
  abbrev rules : Rules ℕ
  rules = checked_rules w packages limit

  abbrev size : State ℕ → ℕ
  size s = length s.symbols

  abbrev Ends : List QualifiedName → Outcome ℕ → Type 0
  Ends old e = EndsKnown packages old e

  -- ---- outcomes

  ends_later : (a b : List QualifiedName) (r : Outcome ℕ) → Grows packages a b → Ends b r → Ends a r
  ends_later a b (Gives values s) g h = (grows_then packages a b s.symbols g h.0, h.1, h.2)
  ends_later a b (Stops stop origin s) g h = (grows_then packages a b s.symbols g h.0, h.1)
  ends_later a b Unknown g h = tt

  ends_then : (a : List QualifiedName) (r : Outcome ℕ) (go : List (Shown ℕ) → State ℕ → Outcome ℕ) → Ends a r
      → ((values : List (Shown ℕ)) (s : State ℕ) → length a ≤ size s → KnowsAll (size s) values → KnowsStobjs (size s) s.stobjs → Ends s.symbols (go values s)) → Ends a (then_with r go)
  ends_then a (Gives values s) go h k = ends_later a s.symbols (go values s) h.0 (k values s h.0.longer h.1 h.2)
  ends_then a (Stops stop origin s) go h k = h
  ends_then a Unknown go h k = tt

  -- the state as it was
  stay : (s : State ℕ) → KnowsStobjs (size s) s.stobjs → Grows packages s.symbols s.symbols × KnowsStobjs (size s) s.stobjs
  stay s h = (grows_same packages s.symbols, h)

  -- what goes on from each state with so many symbols at least
  abbrev GoEnds : ℕ → (State ℕ → Outcome ℕ) → Type 0
  GoEnds m go = (s : State ℕ) → m ≤ size s → KnowsStobjs (size s) s.stobjs → Ends s.symbols (go s)

  ends_counting : (m : ℕ) (s : State ℕ) (go : State ℕ → Outcome ℕ) → m ≤ size s → KnowsStobjs (size s) s.stobjs → GoEnds m go → Ends s.symbols (counting limit s go)
  ends_counting m s go l h k = by_test (nat_lt s.calls limit)
    where
      by_test : (b : Bool) → Ends s.symbols (if b then go (one_more_call s) else stops_here Steps s)
      by_test true = k (one_more_call s) l h
      by_test false = stay s h

  ends_if : (a : List QualifiedName) (b : Bool) (r s : Outcome ℕ) → Ends a r → Ends a s → Ends a (if b then r else s)
  ends_if a true r s h k = h
  ends_if a false r s h k = k

  ends_cut : (k : ℕ) (a : List QualifiedName) (r : Outcome ℕ) → Ends a r → Ends a (cut_at k r)
  ends_cut k a (Gives values s) h = h
  ends_cut k a (Stops stop origin s) h = h
  ends_cut k a Unknown h = h

  ends_back : (formals : List ℕ) (actuals : List (Shown ℕ)) (s : State ℕ) (r : Outcome ℕ) → KnowsStobjs (size s) s.stobjs → Ends s.symbols r → Ends s.symbols (back formals actuals s r)
  ends_back formals actuals s (Gives values u) h k =
      (k.0, outer_known (size u) formals actuals values k.1, handed_known (size u) formals actuals u.stobjs s.stobjs k.2 (stobjs_more (size s) (size u) k.0.longer s.stobjs h))
  ends_back formals actuals s (Stops stop origin u) h k = (k.0, handed_known (size u) formals actuals u.stobjs s.stobjs k.1 (stobjs_more (size s) (size u) k.0.longer s.stobjs h))
  ends_back formals actuals s Unknown h k = tt

  ends_returned : (loans : List (Loan ℕ)) (a : List QualifiedName) (r : Outcome ℕ) → Ends a r → Ends a (returned loans r)
  ends_returned loans a (Gives values u) k = (k.0, k.1, drop_known (size u) (length loans) u.stobjs k.2)
  ends_returned loans a (Stops stop origin u) k = (k.0, drop_known (size u) (length loans) _ (all_put_known (size u) loans u.stobjs k.1))
  ends_returned loans a Unknown k = tt

  ends_unmade : (a : List QualifiedName) (r : Outcome ℕ) → Ends a r → Ends a (with_state (λ (s : State ℕ). record s { stobjs = drop 1 s.stobjs }) r)
  ends_unmade a (Gives values u) k = (k.0, k.1, drop_known (size u) 1 u.stobjs k.2)
  ends_unmade a (Stops stop origin u) k = (k.0, drop_known (size u) 1 u.stobjs k.1)
  ends_unmade a Unknown k = tt

  -- ---- what an evaluator owes

  abbrev EvEnds : Evaluator ℕ → Type 0
  EvEnds ev = (form : Core) (variables : Variables ℕ) (s : State ℕ) → KnowsForm n form → n ≤ size s → KnowsVariables (size s) variables → KnowsStobjs (size s) s.stobjs → Ends s.symbols (ev form variables s)

  -- ---- primitives and functions of stobjs

  primitive_ends : (f : ℕ) (values : List (Shown ℕ)) (s : State ℕ) (a : Applied) → KnowsStobjs (size s) s.stobjs → GrowsTo (record { packages = packages; symbols = s.symbols }) a
      → ((o : Object ℕ) (symbols : List QualifiedName) → a ≡ prims.Gives o symbols → Knows (length symbols) o) → Ends s.symbols (primitive_ended f values s a)
  primitive_ends f values s (prims.Gives o symbols) h g k = (g, (k o symbols refl, tt), stobjs_more (size s) (length symbols) g.longer s.stobjs h)
  primitive_ends f values s (prims.Stops prims.Guard) h g k = stay s h
  primitive_ends f values s (prims.Stops prims.Range) h g k = stay s h
  primitive_ends f values s (prims.Stops prims.Large) h g k = stay s h
  primitive_ends f values s (prims.Stops prims.Symbols) h g k = stay s h

  ends_primitive : (f : ℕ) (p : Prim) (values : List (Shown ℕ)) (s : State ℕ) → n ≤ size s → KnowsAll (size s) values → KnowsStobjs (size s) s.stobjs → Ends s.symbols (checked_primitive packages f p values s)
  ends_primitive f p values s l v h =
      let t : Table = record { packages = packages; symbols = s.symbols } in
      let os = ordinary values in
      let at_nil : nil < size s = omega (arith, two, l) in
      let each : ((k : ℕ) → Knows (size s) (argument by_number os k)) = λ k. argument_known (size s) at_nil os (ordinary_known (size s) values v) k in
      primitive_ends f values s (applied t p os) h (applied_grows t (omega (arith, two, l)) p _ _ _ (each 0) (each 1) (each 2))
      (λ o symbols e. gives_known.known t p _ _ _ o symbols at_nil (each 0) (each 1) (each 2) e)

  plain_known : (m : ℕ) (os : List (Object ℕ)) → EachSymbols (λ s. s < m) os → KnowsAll m (plain os)
  plain_known m [] h = tt
  plain_known m (o ∷ os) h = (h.0, plain_known m os h.1)

  ends_effected : (f : ℕ) (values : List (Shown ℕ)) (x : Option ℕ) (s : State ℕ) (e : Effect ℕ) → KnowsStobjs (size s) s.stobjs → EffectKnown (λ t. t < size s) e → Ends s.symbols (effected lists_keeping f values x s e)
  ends_effected f values x s Refuses h k = stay s h
  ends_effected f values x s (Reads os) h k = (grows_same packages s.symbols, plain_known (size s) os k, h)
  ends_effected f values None s (Writes l) h k = stay s h
  ends_effected f values (Some x) s (Writes l) h k = (grows_same packages s.symbols, (tt, tt), with_list_known (size s) x l s.stobjs k h)

  read_known : (m : ℕ) (os : Stobjs ℕ) (x : Option ℕ) → KnowsStobjs m os → KnowsList m (list_or_none lists_keeping os x)
  read_known m os None h = tt
  read_known m os (Some x) h = list_known m os x h

  layout_known : (m x : ℕ) → n ≤ m → LayoutSymbols (λ s. s < m) (layout_of w x)
  layout_known m x l = layout_more n m l (layout_of w x) (world.layouts x)

  ends_generated : (g : GeneratedFunction) (values : List (Shown ℕ)) (s : State ℕ) → n ≤ size s → KnowsAll (size s) values → KnowsStobjs (size s) s.stobjs
      → Ends s.symbols (effected lists_keeping g.name values (first_stobj values) s (effect by_number g.role (field_layout (unwrap_or g.field 0) (layout_of w g.stobj)) (unwrap_or g.field 0) (ordinary values) (list_or_none lists_keeping s.stobjs (first_stobj values))))
  ends_generated g values s l v h =
      let P : (ℕ → Type 0) = λ t. t < size s in
      let at_nil : nil < size s = omega (arith, two, l) in
      ends_effected g.name values (first_stobj values) s _ h
      (effect_known P (omega (arith, two, l)) at_nil (unwrap_or g.field 0) (ordinary values) (list_or_none lists_keeping s.stobjs (first_stobj values))
      (λ k. argument_known (size s) at_nil (ordinary values) (ordinary_known (size s) values v) k) (read_known (size s) s.stobjs (first_stobj values) h) g.role _
      (layout_field_known P (unwrap_or g.field 0) (layout_of w g.stobj) (layout_known (size s) g.stobj l)))

  -- ---- calls

  -- what goes on from values that are known
  abbrev CallEnds : List (Shown ℕ) → (State ℕ → Outcome ℕ) → Type 0
  CallEnds values go = (s : State ℕ) → n ≤ size s → KnowsAll (size s) values → KnowsStobjs (size s) s.stobjs → Ends s.symbols (go s)

  module _ (ev : Evaluator ℕ) (e : EvEnds ev) where
    ends_scoped : (formals : List ℕ) (values : List (Shown ℕ)) (form : Core) → KnowsForm n form → CallEnds values (scoped rules ev formals values form)
    ends_scoped formals values form f s l v h =
        ends_back formals values s _ h
        (e form (inner_variables formals values) (inner_state formals values s) f l (inner_known (size s) formals values v) (inner_stobjs_known (size s) formals values s.stobjs h))

    ends_guarded : (name : ℕ) (formals : List ℕ) (guard : Core) (values : List (Shown ℕ)) (go : State ℕ → Outcome ℕ) → KnowsForm n guard → CallEnds values go → CallEnds values (with_guard rules ev name formals guard values go)
    ends_guarded name formals guard values go f k s l v h =
        ends_then s.symbols _ _ (ends_scoped formals values guard f s l v h)
        (λ test after longer known objects. ends_if after.symbols (is_false rules test) _ _ (stay after objects) (k after (omega (arith, l, longer)) (all_more (size s) (size after) longer values v) objects))

    ends_inside : (actuals : List (Shown ℕ)) (before : Stobjs ℕ) (x outer : ℕ) (a : List QualifiedName) (r : Outcome ℕ) → KnowsStobjs (length a) before → Ends a r → Ends a (inside_after lists_keeping actuals before x outer r)
    ends_inside actuals before x outer a (Gives values u) b k = k
    ends_inside actuals before x outer a (Stops stop origin u) b k = (k.0, restored_known (size u) (first_stobj actuals) before u.stobjs (stobjs_more (length a) (size u) k.0.longer before b) k.1)
    ends_inside actuals before x outer a Unknown b k = tt

    ends_export : (f : FunctionOfAbstract) (values : List (Shown ℕ)) (before : Stobjs ℕ) (go : State ℕ → Outcome ℕ) (m : ℕ) → KnowsStobjs m before → CallEnds values go
        → (s : State ℕ) → m ≤ size s → n ≤ size s → KnowsAll (size s) values → KnowsStobjs (size s) s.stobjs → Ends s.symbols (checked_export lists_keeping limit f values before go s)
    ends_export f values before go m b k s q l v h =
        ends_counting (size s) s _ (omega arith) h (λ after longer objects.
        ends_inside values before f.name s.outer after.symbols (go after) (stobjs_more m (size after) (omega (arith, q, longer)) before b)
        (k after (omega (arith, l, longer)) (all_more (size s) (size after) longer values v) objects))

    ends_abstract : (exec : ℕ → State ℕ → Outcome ℕ) (f : FunctionOfAbstract) (r : AbstractRole) (values : List (Shown ℕ)) → KnowsForm n f.guard → CallEnds values (exec f.exec) → CallEnds values (of_abstract rules ev exec f r values)
    ends_abstract exec f abstract_role.Recognizer values g k s l v h = (grows_same packages s.symbols, (omega (arith, two, l), tt), h)
    ends_abstract exec f abstract_role.Creator values g k s l v h = stay s h
    ends_abstract exec f abstract_role.Export values g k s l v h =
        ends_cut s.outer s.symbols _
        (ends_then s.symbols _ _ (ends_scoped f.formals values f.guard g s l v h)
        (λ test after longer known objects.
        ends_if after.symbols (is_false rules test) _ _ (stay after objects)
        (ends_export f values s.stobjs (exec f.exec) (size s) h k after longer (omega (arith, l, longer)) (all_more (size s) (size after) longer values v) objects)))

    ends_definition : (go : FunctionOfAbstract → State ℕ → Outcome ℕ) (d : Option Definition) (name : ℕ) (values : List (Shown ℕ)) → definition w name ≡ d
        → ((f : FunctionOfAbstract) → d ≡ Some (OfAbstract f) → CallEnds values (go f)) → CallEnds values (by_definition rules ev go d name values)
    ends_definition go None name values q k s l v h = stay s h
    ends_definition go (Some (Primitive f row)) name values q k s l v h = ends_primitive f row.prim values s l v h
    ends_definition go (Some (Defined f)) name values q k s l v h =
        let known = world.functions name f q in
        ends_guarded f.name f.formals f.guard values _ known.0 (ends_scoped f.formals values f.body known.1) s l v h
    ends_definition go (Some (Macro f formals body)) name values q k s l v h = stay s h
    ends_definition go (Some (Constant f value)) name values q k s l v h = stay s h
    ends_definition go (Some (Concrete d class)) name values q k s l v h = stay s h
    ends_definition go (Some (Generated g)) name values q k s l v h = ends_generated g values s l v h
    ends_definition go (Some (Abstract d)) name values q k s l v h = stay s h
    ends_definition go (Some (OfAbstract f)) name values q k s l v h = k f refl s l v h
    ends_definition go (Some (Named f formals)) name values q k s l v h = stay s h
    ends_definition go (Some (Signed f formals signature executable)) name values q k s l v h = stay s h

    ends_exec : (values : List (Shown ℕ)) (name : ℕ) → CallEnds values (exec_called rules ev values name)
    unfolding exec_called
    ends_exec values name s l v h = ends_definition _ (definition w name) name values refl (λ f q after m u objects. stay after objects) s l v h

    ends_called : (name : ℕ) (values : List (Shown ℕ)) → CallEnds values (called rules ev name values)
    unfolding called
    ends_called name values s l v h =
        ends_counting (size s) s _ (omega arith) h (λ after longer objects.
        ends_definition _ (definition w name) name values refl (λ f q. ends_abstract (exec_called rules ev values) f f.role values (world.exports name f q) (ends_exec values f.exec)) after (omega (arith, l, longer)) (all_more (size s) (size after) longer values v) objects)

    -- ---- parts

    ends_in_order : (forms : Cores) (variables : Variables ℕ) (done : List (Shown ℕ)) (go : List (Shown ℕ) → State ℕ → Outcome ℕ) → AllNodes (HasConstant (IsBelow n)) forms
        → (s : State ℕ) → n ≤ size s → KnowsVariables (size s) variables → KnowsAll (size s) done → KnowsStobjs (size s) s.stobjs
        → ((values : List (Shown ℕ)) (u : State ℕ) → size s ≤ size u → KnowsAll (size u) values → KnowsStobjs (size u) u.stobjs → Ends u.symbols (go values u)) → Ends s.symbols (in_order rules ev forms variables done go s)
    unfolding in_order
    ends_in_order none variables done go f s l v d h k = k done s (omega arith) d h
    ends_in_order (more form forms) variables done go f s l v d h k =
        ends_then s.symbols _ _ (e form variables s f.0 l v h)
        (λ values after longer known objects.
        ends_in_order forms variables (done ++ single by_number values ∷ []) go f.1 after (omega (arith, l, longer)) (variables_more (size s) (size after) longer variables v)
        (last_known (size after) done (single by_number values) (all_more (size s) (size after) longer done d) (single_known (size after) (omega (arith, two, l, longer)) values known)) objects
        (λ vs u further. k vs u (omega (arith, longer, further))))

    -- ---- children

    ends_borrowed_from : (child : ℕ) (by : Reached) (p : Shown ℕ) (variables : Variables ℕ) (go : Loan ℕ → State ℕ → Outcome ℕ) (m : ℕ) (s : State ℕ) → m ≤ size s → KnowsStobjs (size s) s.stobjs
        → ((loan : Loan ℕ) → GoEnds m (go loan)) → Ends s.symbols (borrowed_from rules child by p variables go s)
    ends_borrowed_from child by (Plain o) variables go m s l h k = stay s h
    ends_borrowed_from child by (StobjNamed p) variables go m s l h k =
        let loan = loan_of rules child p by variables in
        ends_counting m s (borrowing rules by.accessor loan (go loan)) l h (λ after longer objects.
        ends_if after.symbols (is_reached loan.index (item loan.field (list_of after.stobjs loan.parent))) (go loan after) (stops_here (Guard by.accessor (loan_values loan)) after) (k loan after longer objects) (stay after objects))

    ends_borrowed : (child : ℕ) (by : Option Reached) (variables : Variables ℕ) (go : Loan ℕ → State ℕ → Outcome ℕ) (m : ℕ) (s : State ℕ) → m ≤ size s → KnowsStobjs (size s) s.stobjs
        → ((loan : Loan ℕ) → GoEnds m (go loan)) → Ends s.symbols (borrowed rules child by variables go s)
    ends_borrowed child None variables go m s l h k = stay s h
    ends_borrowed child (Some by) variables go m s l h k = ends_borrowed_from child by (variable_in by_number variables by.parent) variables go m s l h k

    ends_all_borrowed : (names : List ℕ) (forms : Cores) (variables : Variables ℕ) (loans : List (Loan ℕ)) (go : List (Loan ℕ) → State ℕ → Outcome ℕ) (m : ℕ) → ((ls : List (Loan ℕ)) → GoEnds m (go ls))
        → GoEnds m (all_borrowed rules names forms variables loans go)
    unfolding all_borrowed
    ends_all_borrowed names none variables loans go m k s l h = k loans s l h
    ends_all_borrowed [] (more form forms) variables loans go m k s l h = k loans s l h
    ends_all_borrowed (x ∷ xs) (more form forms) variables loans go m k s l h =
        ends_borrowed x (reached form) variables _ m s l h (λ loan. ends_all_borrowed xs forms variables (loans ++ loan ∷ []) go m k)

    ends_put_back : (vars : List ℕ) (loans : List (Loan ℕ)) (go : State ℕ → Outcome ℕ) (m : ℕ) → GoEnds m go → GoEnds m (put_back rules vars loans go)
    unfolding put_back
    ends_put_back vars [] go m k s l h = k s l h
    ends_put_back vars (x ∷ xs) go m k s l h =
        ends_if s.symbols (list_any (nat_eq x.child) vars) _ _
        (ends_counting m s _ l h (λ after longer objects. ends_put_back vars xs go m k (record after { stobjs = put_into_parent x after.stobjs }) longer (put_known (size after) x after.stobjs objects)))
        (ends_put_back vars xs go m k s l h)

    ends_producing : (vars : List ℕ) (producer : Core) (variables : Variables ℕ) (loans : List (Loan ℕ)) → KnowsForm n producer
        → (s : State ℕ) → n ≤ size s → KnowsVariables (size s) variables → KnowsStobjs (size s) s.stobjs → Ends s.symbols (producing rules ev vars producer variables loans s)
    ends_producing vars producer variables loans f s l v h =
        ends_returned loans s.symbols _
        (ends_then s.symbols _ _ (e producer (loaned_variables rules loans variables) (lending rules loans s) f l (loaned_known (size s) loans variables v) (both_known (size s) _ s.stobjs (lent_known (size s) loans s.stobjs h) h))
        (λ values after longer known objects. ends_put_back vars loans _ (size after) (λ u further there. (grows_same packages u.symbols, all_more (size after) (size u) further values known, there)) after (omega arith) objects))

    ends_with_loans : (vars : List ℕ) (producer consumer : Core) (variables : Variables ℕ) (loans : List (Loan ℕ)) → KnowsForm n producer → KnowsForm n consumer
        → (s : State ℕ) → n ≤ size s → KnowsVariables (size s) variables → KnowsStobjs (size s) s.stobjs → Ends s.symbols (with_loans rules ev vars producer consumer variables loans s)
    ends_with_loans vars producer consumer variables loans f g s l v h =
        ends_if s.symbols (are_twins by_number loans) _ _ (stay s h)
        (ends_then s.symbols _ _ (ends_producing vars producer variables loans f s l v h)
        (λ values after longer known objects.
        e consumer (bound vars values variables) after g (omega (arith, l, longer)) (bound_known (size after) vars values variables known (variables_more (size s) (size after) longer variables v)) objects))

    -- ---- local stobjs

    ends_fresh : (x : ℕ) (producer : Core) (variables : Variables ℕ) → KnowsForm n producer
        → (s : State ℕ) → n ≤ size s → KnowsVariables (size s) variables → KnowsStobjs (size s) s.stobjs → Ends s.symbols (with_fresh rules ev x (Some (new_list w x)) producer variables s)
    ends_fresh x producer variables f s l v h =
        ends_unmade s.symbols _
        (e producer ((x, StobjNamed x) ∷ variables) (record s { stobjs = (x, new_list w x) ∷ s.stobjs }) f l (tt, v) (initial_known (λ t. t < size s) (layout_of w x) (layout_known (size s) x l), h))

    -- ---- forms

    -- a form with more variables, from a later state
    ends_bound : (names : List ℕ) (body : Core) (variables : Variables ℕ) → KnowsForm n body → (m : ℕ) → n ≤ m → KnowsVariables m variables
        → (values : List (Shown ℕ)) (u : State ℕ) → m ≤ size u → KnowsAll (size u) values → KnowsStobjs (size u) u.stobjs → Ends u.symbols (ev body (bound names values variables) u)
    ends_bound names body variables f m l v values u longer known objects =
        e body (bound names values variables) u f (omega (arith, l, longer)) (bound_known (size u) names values variables known (variables_more m (size u) longer variables v)) objects

    ends_opened : EvEnds (opened rules ev)
    ends_opened (Var x) variables s f l v h = stay s h
    ends_opened (Const o) variables s f l v h = stay s h
    ends_opened (If a b c) variables s f l v h =
        ends_then s.symbols _ _ (e a variables s f.1 l v h)
        (λ test after longer known objects. by_test (is_false rules test) after (omega (arith, l, longer)) (variables_more (size s) (size after) longer variables v) objects)
      where
        by_test : (q : Bool) (u : State ℕ) → n ≤ size u → KnowsVariables (size u) variables → KnowsStobjs (size u) u.stobjs → Ends u.symbols (ev (if q then c else b) variables u)
        by_test true u m k objects = e c variables u f.3 m k objects
        by_test false u m k objects = e b variables u f.2 m k objects
    ends_opened (Let names forms body) variables s f l v h =
        ends_in_order forms variables [] _ f.1 s l v tt h (ends_bound names body variables f.2 (size s) l v)
    ends_opened (Mv parts) variables s f l v h = ends_in_order parts variables [] _ f.1 s l v tt h (λ values u longer known objects. (grows_same packages u.symbols, known, objects))
    ends_opened (MvLet names form body) variables s f l v h = ends_then s.symbols _ _ (e form variables s f.1 l v h) (ends_bound names body variables f.2 (size s) l v)
    ends_opened (StobjLet names forms vars producer consumer) variables s f l v h =
        ends_all_borrowed names forms variables [] _ (size s)
        (λ loans u longer objects. ends_with_loans vars producer consumer variables loans f.2 f.3 u (omega (arith, l, longer)) (variables_more (size s) (size u) longer variables v) objects) s (omega arith) h
    ends_opened (WithLocal stobj names producer body) variables s f l v h =
        ends_then s.symbols _ _
        (ends_counting (size s) s _ (omega arith) h (λ u longer objects. ends_fresh stobj producer variables f.1 u (omega (arith, l, longer)) (variables_more (size s) (size u) longer variables v) objects))
        (ends_bound names body variables f.2 (size s) l v)
    ends_opened (MustBeEqual logic exec) variables s f l v h = e logic variables s f.1 l v h
    ends_opened (Call g actuals) variables s f l v h =
        ends_in_order actuals variables [] _ f.1 s l v tt h (λ values u longer known objects. ends_called g values u (omega (arith, l, longer)) known objects)

  -- ---- leaves

  abbrev LeafKnown : ℕ → Option (Shown ℕ) → Type 0
  LeafKnown m None = Unit {0}
  LeafKnown m (Some v) = KnowsShown m v

  leaf_known : (m : ℕ) (form : Core) (variables : Variables ℕ) → n ≤ m → KnowsForm n form → KnowsVariables m variables → LeafKnown m (leaf rules form variables)
  leaf_known m (Var x) variables l f v = variable_known m (omega (arith, two, l)) variables x v
  leaf_known m (Const o) variables l f v = knows_more n m o l f
  leaf_known m (If a b c) variables l f v = tt
  leaf_known m (Let names forms body) variables l f v = tt
  leaf_known m (Mv parts) variables l f v = tt
  leaf_known m (MvLet names form body) variables l f v = tt
  leaf_known m (StobjLet names forms vars producer consumer) variables l f v = tt
  leaf_known m (WithLocal stobj names producer body) variables l f v = tt
  leaf_known m (MustBeEqual logic exec) variables l f v = tt
  leaf_known m (Call g actuals) variables l f v = tt

  ends_leaf : (v : Option (Shown ℕ)) (s : State ℕ) (other : Outcome ℕ) → LeafKnown (size s) v → KnowsStobjs (size s) s.stobjs → Ends s.symbols other → Ends s.symbols (leaf_or rules v s other)
  ends_leaf (Some v) s other k h o = (grows_same packages s.symbols, (k, tt), h)
  ends_leaf None s other k h o = o

  pub ends_evaluated : (d : ℕ) → EvEnds (evaluated rules d)
  unfolding evaluated
  ends_evaluated zero form variables s f l v h = ends_leaf (leaf rules form variables) s _ (leaf_known (size s) form variables l f v) h (stay s h)
  ends_evaluated (suc d) form variables s f l v h =
      ends_leaf (leaf rules form variables) s _ (leaf_known (size s) form variables l f v) h (ends_opened (evaluated rules d) (ends_evaluated d) form variables s f l v h)

pub evaluation_keeps_known : EvaluationKeepsKnown
evaluation_keeps_known = record { known = λ w n two world packages k d. ends_evaluated w n two world packages k d }
