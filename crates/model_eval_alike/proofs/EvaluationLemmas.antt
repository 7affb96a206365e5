-- Evaluation with rules that do not tell stobjs apart that are alike does not either; checked evaluation has such rules.
use Rattle.std.proofs.Common.{◌≡◌, ℕ, zero, suc, List, [], ◌∷◌, ◌++◌, length, Bool, true, false, Option, Some, None, refl, sym, ap, subst}
use Rattle.std.specs.Prelude.{nat_lt, nat_eq, unwrap_or, if◌then◌else◌}
use Rattle.std.specs.List.{list_any}
use Rattle.std.specs.Ordering.{nat_cmp}
use Rattle.std.specs.declared.cmp.Ordering.{Ordering}
use Rattle.model_objects.specs.Object.{Object}
use Rattle.model_symbols.specs.Symbols.{QualifiedName, Package}
use Rattle.model_prims.specs.Applied.{Applied, applied}
use Rattle.model_prims.specs.Applied as prims
use Rattle.model_prims.specs.declared.prim.Prim.{Prim}
use Rattle.model_lists.specs.Lists.{StobjList, item}
use Rattle.model_lists.specs.Layouts.{Layout, field_layout}
use Rattle.model_lists.specs.LiveLists.{AreAlike}
use Rattle.model_lists.specs.Effects.{Effect, Refuses, Reads, Writes, is_index}
use Rattle.model_lists_laws.specs.LiveListLaws.{AlikeEffects}
use Rattle.model_lists_laws.proofs.StandingLemmas.{item_alike, size_alike}
use Rattle.model_terms.specs.Cores.{Core, Cores, Reached, Var, Const, If, Let, Mv, MvLet, StobjLet, WithLocal, MustBeEqual, Call, none, more, reached}
use Rattle.model_terms.specs.Worlds.{World, Definition, GeneratedFunction, FunctionOfAbstract, definition, Primitive, Defined, Macro, Constant, Concrete, Generated, Abstract, OfAbstract, Named, Signed}
use Rattle.model_terms.specs.declared.role.AbstractRole.{AbstractRole}
use Rattle.model_terms.specs.declared.role.AbstractRole.TheVariants as abstract_role
use Rattle.model_eval.specs.Outcomes.{Shown, Plain, StobjNamed, Stop, Guard, Steps, Stobjs, State, Origin, Outcome, Gives, Stops, Unknown, then_with, with_state, stops_here, cut_before, cut_at, one_more_call, counting}
use Rattle.model_eval.specs.Keeping.{entering, handed, taken_back, unmaking}
use Rattle.model_eval.specs.Variables.{Variables, variable_in, bound, single, plain, ordinary, inner_variables, inner_stobjs, list_of, first_stobj}
use Rattle.model_eval.specs.StobjLayouts.{stobj_layout}
use Rattle.model_eval.specs.GeneratedCalls.{effected, list_or_none, generated}
use Rattle.model_eval.specs.Lending.{Loan, is_reached, loan_values, are_twins, lent, put_into_parent}
use Rattle.model_eval.specs.ListsKeeping.{lists_keeping, all_put}
use Rattle.model_eval.specs.Evaluated.{Rules, Evaluator, is_false, scoped, with_guard, of_abstract, by_definition, exec_called, called, in_order, leaf, leaf_or, loan_of, borrowing, borrowed_from, borrowed, all_borrowed, put_back, lending, loaned_variables, producing, with_loans, with_fresh, opened, evaluated}
use Rattle.model_eval.specs.Checked.{primitive_ended, inside_after, checked_export, checked_rules, checked, begun, live}
use Rattle.model_eval_alike.specs.Alike.{AreAlikeStobjs, AreAlikeStates, AreAlikeOutcomes}
use Rattle.model_eval_alike.specs.FunctionLaws.{FunctionsAreAlike}
use Rattle.model_eval_alike.specs.Laws.{EvaluatesAlike}
use Rattle.model_eval_alike.proofs.StandingLemmas.{numbered_functions}
use Rattle.model_eval_alike.proofs.ObjectLemmas.{list_alike, write_alike, list_or_none_alike, drop_alike, append_alike, live_alike, inner_alike, back_alike, restored_alike, lent_alike, put_alike, all_put_alike}

module _ {S : Type 0} (names : S → S → Ordering) where
  abbrev AllAlike : Stobjs S → Stobjs S → Type 0
  AllAlike = AreAlikeStobjs names

  abbrev pub Same : Outcome S → Outcome S → Type 0
  Same = AreAlikeOutcomes names

  -- ---- states

  same_state : (state : State S) (stobjs : Stobjs S) → AllAlike state.stobjs stobjs → AreAlikeStates names state (record state { stobjs = stobjs })
  same_state state stobjs h = record { stobjs = h; symbols = refl; calls = refl; outer = refl }

  state_is : (a b : State S) → AreAlikeStates names a b → b ≡ record a { stobjs = b.stobjs }
  state_is a b h = λ i. record { stobjs = b.stobjs; symbols = sym h.symbols i; calls = sym h.calls i; outer = sym h.outer i }

  -- the same continuation, or two that end alike on stobjs that are alike
  abbrev pub ToSame : (State S → Outcome S) → (State S → Outcome S) → Type 0
  ToSame go to = (state : State S) (stobjs : Stobjs S) → AllAlike state.stobjs stobjs → Same (go state) (to (record state { stobjs = stobjs }))

  pub from_states : (go to : State S → Outcome S) → ToSame go to → (a b : State S) → AreAlikeStates names a b → Same (go a) (to b)
  from_states go to h a b g = subst (λ (c : State S). Same (go a) (to c)) (sym (state_is a b g)) (h a b.stobjs g.stobjs)

  same_gives : (values : List (Shown S)) (state : State S) (stobjs : Stobjs S) → AllAlike state.stobjs stobjs → Same (Gives values state) (Gives values (record state { stobjs = stobjs }))
  same_gives values state stobjs h = (refl, same_state state stobjs h)

  same_stops : (stop : Stop S) (origin : Origin) (state : State S) (stobjs : Stobjs S) → AllAlike state.stobjs stobjs → Same (Stops stop origin state) (Stops stop origin (record state { stobjs = stobjs }))
  same_stops stop origin state stobjs h = (refl, refl, same_state state stobjs h)

  -- ---- outcomes

  -- what is made of outcomes that are alike is alike, where it is of each
  by_outcome : (f g : Outcome S → Outcome S)
      → ((values : List (Shown S)) → ToSame (λ state. f (Gives values state)) (λ state. g (Gives values state)))
      → ((stop : Stop S) (origin : Origin) → ToSame (λ state. f (Stops stop origin state)) (λ state. g (Stops stop origin state)))
      → Same (f Unknown) (g Unknown) → (r s : Outcome S) → Same r s → Same (f r) (g s)
  by_outcome f g p q u (Gives values a) (Gives others b) e =
      subst (λ (vs : List (Shown S)). Same (f (Gives values a)) (g (Gives vs b))) e.0 (from_states (λ state. f (Gives values state)) (λ state. g (Gives values state)) (p values) a b e.1)
  by_outcome f g p q u (Gives values a) (Stops cause source b) e = absurd e
  by_outcome f g p q u (Gives values a) Unknown e = absurd e
  by_outcome f g p q u (Stops stop origin a) (Gives others b) e = absurd e
  by_outcome f g p q u (Stops stop origin a) (Stops cause source b) e =
      subst (λ (c : Stop S). Same (f (Stops stop origin a)) (g (Stops c source b))) e.0
      (subst (λ (o : Origin). Same (f (Stops stop origin a)) (g (Stops stop o b))) e.1 (from_states (λ state. f (Stops stop origin state)) (λ state. g (Stops stop origin state)) (q stop origin) a b e.2))
  by_outcome f g p q u (Stops stop origin a) Unknown e = absurd e
  by_outcome f g p q u Unknown (Gives others b) e = absurd e
  by_outcome f g p q u Unknown (Stops cause source b) e = absurd e
  by_outcome f g p q u Unknown Unknown e = u

  same_then : (r s : Outcome S) (go to : List (Shown S) → State S → Outcome S) → Same r s → ((values : List (Shown S)) → ToSame (go values) (to values)) → Same (then_with r go) (then_with s to)
  same_then r s go to e h = by_outcome (λ x. then_with x go) (λ x. then_with x to) h same_stops tt r s e

  same_unmade : (r s : Outcome S) → Same r s → Same (with_state (unmaking lists_keeping) r) (with_state (unmaking lists_keeping) s)
  same_unmade r s e =
      by_outcome (with_state (unmaking lists_keeping)) (with_state (unmaking lists_keeping))
      (λ values state stobjs h. same_gives values (unmaking lists_keeping state) _ (drop_alike names 1 state.stobjs stobjs h))
      (λ stop origin state stobjs h. same_stops stop origin (unmaking lists_keeping state) _ (drop_alike names 1 state.stobjs stobjs h)) tt r s e

  same_handed : (formals : List ℕ) (actuals : List (Shown S)) (os ps : Stobjs S) → AllAlike os ps → (r s : Outcome S) → Same r s → Same (handed lists_keeping formals actuals os r) (handed lists_keeping formals actuals ps s)
  same_handed formals actuals os ps g r s e =
      by_outcome (handed lists_keeping formals actuals os) (handed lists_keeping formals actuals ps)
      (λ values state stobjs h. (refl, record { stobjs = back_alike names formals actuals state.stobjs stobjs os ps h g; symbols = refl; calls = refl; outer = refl }))
      (λ stop origin state stobjs h. (refl, refl, record { stobjs = back_alike names formals actuals state.stobjs stobjs os ps h g; symbols = refl; calls = refl; outer = refl })) tt r s e

  same_taken_back : (loans : List (Loan S)) (r s : Outcome S) → Same r s → Same (taken_back lists_keeping loans r) (taken_back lists_keeping loans s)
  same_taken_back loans r s e =
      by_outcome (taken_back lists_keeping loans) (taken_back lists_keeping loans)
      (λ values state stobjs h. (refl, record { stobjs = drop_alike names (length loans) state.stobjs stobjs h; symbols = refl; calls = refl; outer = refl }))
      (λ stop origin state stobjs h. (refl, refl, record { stobjs = drop_alike names (length loans) (all_put loans state.stobjs) (all_put loans stobjs) (all_put_alike names loans state.stobjs stobjs h); symbols = refl; calls = refl; outer = refl })) tt r s e

  same_cut : (n : ℕ) (r s : Outcome S) → Same r s → Same (cut_at n r) (cut_at n s)
  same_cut n r s e = by_outcome (cut_at n) (cut_at n) same_gives (λ stop origin. same_stops stop (cut_before n origin)) tt r s e

  same_if : (b : Bool) (r s t u : Outcome S) → Same r t → Same s u → Same (if b then r else s) (if b then t else u)
  same_if true r s t u e f = e
  same_if false r s t u e f = f

  same_here : (stop : Stop S) → ToSame (stops_here stop) (stops_here stop)
  same_here stop state stobjs h = (refl, refl, same_state state stobjs h)

  same_counting : (limit : ℕ) (go to : State S → Outcome S) → ToSame go to → ToSame (λ state. counting limit state go) (λ state. counting limit state to)
  same_counting limit go to h state stobjs g = same_if (nat_lt state.calls limit) _ _ _ _ (h (one_more_call state) stobjs g) (same_here Steps state stobjs g)

  -- ---- functions of stobjs

  same_effected : (function : ℕ) (values : List (Shown S)) (x : Option ℕ) (d e : Effect S) → AlikeEffects names d e → ToSame (λ state. effected lists_keeping function values x state d) (λ state. effected lists_keeping function values x state e)
  same_effected function values x Refuses Refuses i state stobjs h = (refl, refl, same_state state stobjs h)
  same_effected function values x Refuses (Reads bs) i state stobjs h = absurd i
  same_effected function values x Refuses (Writes m) i state stobjs h = absurd i
  same_effected function values x (Reads os) Refuses i state stobjs h = absurd i
  same_effected function values x (Reads os) (Reads bs) i state stobjs h = (ap (λ (o : List (Object S)). plain o) i, same_state state stobjs h)
  same_effected function values x (Reads os) (Writes m) i state stobjs h = absurd i
  same_effected function values x (Writes l) Refuses i state stobjs h = absurd i
  same_effected function values x (Writes l) (Reads bs) i state stobjs h = absurd i
  same_effected function values None (Writes l) (Writes m) i state stobjs h = (refl, refl, same_state state stobjs h)
  same_effected function values (Some x) (Writes l) (Writes m) i state stobjs h =
      (refl, record { stobjs = write_alike names x l m state.stobjs stobjs i h; symbols = refl; calls = refl; outer = refl })

  -- ---- rules

  module _ (r : Rules S) (functions : FunctionsAreAlike r.kind names) where
    -- what the rules owe
    pub record Respects : Type 0 where
      pub primitives : (f : ℕ) (p : Prim) (values : List (Shown S)) → ToSame (r.primitive f p values) (r.primitive f p values)
      pub exports : (f : FunctionOfAbstract) (values : List (Shown S)) (os ps : Stobjs S) → AllAlike os ps → (go to : State S → Outcome S) → ToSame go to → ToSame (r.export f values os go) (r.export f values ps to)

    abbrev EvSame : Evaluator S → Type 0
    EvSame ev = (form : Core) (variables : Variables S) → ToSame (ev form variables) (ev form variables)

    same_generated : (g : GeneratedFunction) (layout : Layout S) (values : List (Shown S)) → ToSame (generated lists_keeping r.kind g layout values) (generated lists_keeping r.kind g layout values)
    same_generated g layout values state stobjs h =
        same_effected g.name values (first_stobj values) _ _
        (functions.effects g.role (field_layout (unwrap_or g.field 0) layout) (unwrap_or g.field 0) (ordinary values) (list_or_none lists_keeping state.stobjs (first_stobj values)) (list_or_none lists_keeping stobjs (first_stobj values))
        (list_or_none_alike names state.stobjs stobjs (first_stobj values) h)) state stobjs h

    module _ (owed : Respects) (ev : Evaluator S) (same : EvSame ev) where
      -- ---- calls

      same_scoped : (formals : List ℕ) (values : List (Shown S)) (form : Core) → ToSame (scoped r ev formals values form) (scoped r ev formals values form)
      same_scoped formals values form state stobjs h =
          same_handed formals values state.stobjs stobjs h _ _
          (same form (inner_variables formals values) (entering lists_keeping formals values state) (inner_stobjs formals values stobjs) (inner_alike names formals values state.stobjs stobjs h))

      same_guarded : (name : ℕ) (formals : List ℕ) (guard : Core) (values : List (Shown S)) (go to : State S → Outcome S) → ToSame go to → ToSame (with_guard r ev name formals guard values go) (with_guard r ev name formals guard values to)
      same_guarded name formals guard values go to k state stobjs h =
          same_then _ _ _ _ (same_scoped formals values guard state stobjs h) (λ test after others i. same_if (is_false r test) _ _ _ _ (same_here _ after others i) (k after others i))

      same_abstract : (exec : ℕ → State S → Outcome S) (f : FunctionOfAbstract) (part : AbstractRole) (values : List (Shown S)) → ToSame (exec f.exec) (exec f.exec) → ToSame (of_abstract r ev exec f part values) (of_abstract r ev exec f part values)
      same_abstract exec f abstract_role.Recognizer values k state stobjs h = same_gives _ state stobjs h
      same_abstract exec f abstract_role.Creator values k state stobjs h = same_here _ state stobjs h
      same_abstract exec f abstract_role.Export values k state stobjs h =
          same_cut state.outer _ _
          (same_guarded f.name f.formals f.guard values (r.export f values state.stobjs (exec f.exec)) (r.export f values stobjs (exec f.exec)) (owed.exports f values state.stobjs stobjs h (exec f.exec) (exec f.exec) k) state stobjs h)

      same_definition : (go : FunctionOfAbstract → State S → Outcome S) (d : Option Definition) (name : ℕ) (values : List (Shown S)) → ((f : FunctionOfAbstract) → ToSame (go f) (go f)) → ToSame (by_definition r ev go d name values) (by_definition r ev go d name values)
      same_definition go None name values k state stobjs h = same_here _ state stobjs h
      same_definition go (Some (Primitive f row)) name values k state stobjs h = owed.primitives f row.prim values state stobjs h
      same_definition go (Some (Defined f)) name values k state stobjs h = same_guarded f.name f.formals f.guard values _ _ (same_scoped f.formals values f.body) state stobjs h
      same_definition go (Some (Macro f formals body)) name values k state stobjs h = same_here _ state stobjs h
      same_definition go (Some (Constant f value)) name values k state stobjs h = same_here _ state stobjs h
      same_definition go (Some (Concrete d class)) name values k state stobjs h = same_here _ state stobjs h
      same_definition go (Some (Generated f)) name values k state stobjs h = same_generated f (stobj_layout r.see r.world f.stobj) values state stobjs h
      same_definition go (Some (Abstract d)) name values k state stobjs h = same_here _ state stobjs h
      same_definition go (Some (OfAbstract f)) name values k state stobjs h = k f state stobjs h
      same_definition go (Some (Named f formals)) name values k state stobjs h = same_here _ state stobjs h
      same_definition go (Some (Signed f formals signature executable)) name values k state stobjs h = same_here _ state stobjs h

      same_exec : (values : List (Shown S)) (name : ℕ) → ToSame (exec_called r ev values name) (exec_called r ev values name)
      unfolding exec_called
      same_exec values name state stobjs h = same_definition _ (definition r.world name) name values (λ f after others i. same_here _ after others i) state stobjs h

      same_called : (name : ℕ) (values : List (Shown S)) → ToSame (called r ev name values) (called r ev name values)
      unfolding called
      same_called name values state stobjs h =
          same_counting r.limit (by_definition r ev (λ f after. of_abstract r ev (exec_called r ev values) f f.role values after) (definition r.world name) name values)
          (by_definition r ev (λ f after. of_abstract r ev (exec_called r ev values) f f.role values after) (definition r.world name) name values)
          (same_definition (λ f after. of_abstract r ev (exec_called r ev values) f f.role values after) (definition r.world name) name values
          (λ f. same_abstract (exec_called r ev values) f f.role values (same_exec values f.exec))) state stobjs h

      -- ---- parts

      same_in_order : (forms : Cores) (variables : Variables S) (done : List (Shown S)) (go : List (Shown S) → State S → Outcome S) → ((values : List (Shown S)) → ToSame (go values) (go values)) → ToSame (in_order r ev forms variables done go) (in_order r ev forms variables done go)
      unfolding in_order
      same_in_order none variables done go k state stobjs h = k done state stobjs h
      same_in_order (more form forms) variables done go k state stobjs h =
          same_then _ _ _ _ (same form variables state stobjs h) (λ values after others i. same_in_order forms variables (done ++ single r.kind values ∷ []) go k after others i)

      -- ---- children

      same_reached : (i : Option (Object S)) (l m : StobjList S) → AreAlike names l m → is_reached i l ≡ is_reached i m
      same_reached None l m h = refl
      same_reached (Some i) l m h = ap (is_index i) (size_alike names l m h)

      same_borrowing : (accessor : ℕ) (loan : Loan S) (go : State S → Outcome S) → ToSame go go → ToSame (borrowing r accessor loan go) (borrowing r accessor loan go)
      same_borrowing accessor loan go k state stobjs h =
          subst (λ (b : Bool). Same (borrowing r accessor loan go state) (if b then go (record state { stobjs = stobjs }) else stops_here (Guard accessor (loan_values loan)) (record state { stobjs = stobjs })))
          (same_reached loan.index (item loan.field (list_of state.stobjs loan.parent)) (item loan.field (list_of stobjs loan.parent))
          (item_alike names loan.field (list_of state.stobjs loan.parent) (list_of stobjs loan.parent) (list_alike names state.stobjs stobjs loan.parent h)))
          (same_if (is_reached loan.index (item loan.field (list_of state.stobjs loan.parent))) _ _ _ _ (k state stobjs h) (same_here _ state stobjs h))

      same_borrowed_from : (child : ℕ) (by : Reached) (p : Shown S) (variables : Variables S) (go : Loan S → State S → Outcome S) → ((loan : Loan S) → ToSame (go loan) (go loan)) → ToSame (borrowed_from r child by p variables go) (borrowed_from r child by p variables go)
      same_borrowed_from child by (Plain o) variables go k state stobjs h = same_here _ state stobjs h
      same_borrowed_from child by (StobjNamed p) variables go k state stobjs h =
          same_counting r.limit (borrowing r by.accessor (loan_of r child p by variables) (go (loan_of r child p by variables))) (borrowing r by.accessor (loan_of r child p by variables) (go (loan_of r child p by variables)))
          (same_borrowing by.accessor (loan_of r child p by variables) (go (loan_of r child p by variables)) (k (loan_of r child p by variables))) state stobjs h

      same_borrowed : (child : ℕ) (by : Option Reached) (variables : Variables S) (go : Loan S → State S → Outcome S) → ((loan : Loan S) → ToSame (go loan) (go loan)) → ToSame (borrowed r child by variables go) (borrowed r child by variables go)
      same_borrowed child None variables go k state stobjs h = same_here _ state stobjs h
      same_borrowed child (Some by) variables go k state stobjs h = same_borrowed_from child by (variable_in r.kind variables by.parent) variables go k state stobjs h

      same_all_borrowed : (ns : List ℕ) (forms : Cores) (variables : Variables S) (loans : List (Loan S)) (go : List (Loan S) → State S → Outcome S) → ((ls : List (Loan S)) → ToSame (go ls) (go ls)) → ToSame (all_borrowed r ns forms variables loans go) (all_borrowed r ns forms variables loans go)
      unfolding all_borrowed
      same_all_borrowed ns none variables loans go k state stobjs h = k loans state stobjs h
      same_all_borrowed [] (more form forms) variables loans go k state stobjs h = k loans state stobjs h
      same_all_borrowed (x ∷ xs) (more form forms) variables loans go k state stobjs h =
          same_borrowed x (reached form) variables (λ loan after. all_borrowed r xs forms variables (loans ++ loan ∷ []) go after)
          (λ loan after others i. same_all_borrowed xs forms variables (loans ++ loan ∷ []) go k after others i) state stobjs h

      same_put_back : (vars : List ℕ) (loans : List (Loan S)) (go : State S → Outcome S) → ToSame go go → ToSame (put_back r vars loans go) (put_back r vars loans go)
      unfolding put_back
      same_put_back vars [] go k state stobjs h = k state stobjs h
      same_put_back vars (l ∷ ls) go k state stobjs h =
          same_if (list_any (nat_eq l.child) vars) _ _ _ _
          (same_counting r.limit (λ after. put_back r vars ls go (record after { stobjs = put_into_parent l after.stobjs })) (λ after. put_back r vars ls go (record after { stobjs = put_into_parent l after.stobjs })) (λ after others i. same_put_back vars ls go k (record after { stobjs = put_into_parent l after.stobjs }) (put_into_parent l others) (put_alike names l after.stobjs others i)) state stobjs h)
          (same_put_back vars ls go k state stobjs h)

      same_producing : (vars : List ℕ) (producer : Core) (variables : Variables S) (loans : List (Loan S)) → ToSame (producing r ev vars producer variables loans) (producing r ev vars producer variables loans)
      same_producing vars producer variables loans state stobjs h =
          same_taken_back loans _ _
          (same_then _ _ _ _
          (same producer (loaned_variables r loans variables) (lending r loans state) (lent loans stobjs ++ stobjs)
          (append_alike names (lent loans state.stobjs) (lent loans stobjs) state.stobjs stobjs (lent_alike names loans state.stobjs stobjs h) h))
          (λ values after others i. same_put_back vars loans (Gives values) (same_gives values) after others i))

      same_with_loans : (vars : List ℕ) (producer consumer : Core) (variables : Variables S) (loans : List (Loan S)) → ToSame (with_loans r ev vars producer consumer variables loans) (with_loans r ev vars producer consumer variables loans)
      same_with_loans vars producer consumer variables loans state stobjs h =
          same_if (are_twins r.kind loans) _ _ _ _ (same_here _ state stobjs h)
          (same_then _ _ _ _ (same_producing vars producer variables loans state stobjs h) (λ values after others i. same consumer (bound vars values variables) after others i))

      -- ---- local stobjs

      same_fresh : (x : ℕ) (l : Option (StobjList S)) (producer : Core) (variables : Variables S) → ToSame (with_fresh r ev x l producer variables) (with_fresh r ev x l producer variables)
      same_fresh x None producer variables state stobjs h = tt
      same_fresh x (Some l) producer variables state stobjs h =
          same_unmade _ _ (same producer ((x, StobjNamed x) ∷ variables) (record state { stobjs = (x, l) ∷ state.stobjs }) ((x, l) ∷ stobjs) (refl, refl, h))

      -- ---- forms

      same_opened : (form : Core) (variables : Variables S) → ToSame (opened r ev form variables) (opened r ev form variables)
      same_opened (Var x) variables state stobjs h = same_here _ state stobjs h
      same_opened (Const o) variables state stobjs h = same_here _ state stobjs h
      same_opened (If a b c) variables state stobjs h =
          same_then _ _ _ _ (same a variables state stobjs h) (λ test after others i. same (if is_false r test then c else b) variables after others i)
      same_opened (Let ns forms body) variables state stobjs h =
          same_in_order forms variables [] (λ values after. ev body (bound ns values variables) after) (λ values. same body (bound ns values variables)) state stobjs h
      same_opened (Mv parts) variables state stobjs h = same_in_order parts variables [] Gives same_gives state stobjs h
      same_opened (MvLet ns form body) variables state stobjs h =
          same_then _ _ _ _ (same form variables state stobjs h) (λ values after others i. same body (bound ns values variables) after others i)
      same_opened (StobjLet ns forms vars producer consumer) variables state stobjs h =
          same_all_borrowed ns forms variables [] (with_loans r ev vars producer consumer variables) (λ loans. same_with_loans vars producer consumer variables loans) state stobjs h
      same_opened (WithLocal stobj ns producer body) variables state stobjs h =
          same_then _ _ _ _ (same_counting r.limit (with_fresh r ev stobj (r.fresh stobj) producer variables) (with_fresh r ev stobj (r.fresh stobj) producer variables) (same_fresh stobj (r.fresh stobj) producer variables) state stobjs h) (λ values after others i. same body (bound ns values variables) after others i)
      same_opened (MustBeEqual logic exec) variables state stobjs h = same logic variables state stobjs h
      same_opened (Call f actuals) variables state stobjs h = same_in_order actuals variables [] (called r ev f) (λ values. same_called f values) state stobjs h

    same_leaf : (l : Option (Shown S)) (state : State S) (stobjs : Stobjs S) → AllAlike state.stobjs stobjs → (a b : Outcome S) → Same a b → Same (leaf_or r l state a) (leaf_or r l (record state { stobjs = stobjs }) b)
    same_leaf (Some v) state stobjs h a b e = same_gives (v ∷ []) state stobjs h
    same_leaf None state stobjs h a b e = e

    pub same_evaluated : Respects → (d : ℕ) → EvSame (evaluated r d)
    unfolding evaluated
    same_evaluated owed zero form variables state stobjs h = same_leaf (leaf r form variables) state stobjs h _ _ (same_here _ state stobjs h)
    same_evaluated owed (suc d) form variables state stobjs h =
        same_leaf (leaf r form variables) state stobjs h _ _ (same_opened owed (evaluated r d) (same_evaluated owed d) form variables state stobjs h)

-- ---- checked evaluation

module _ (names : ℕ → ℕ → Ordering) where
  same_primitive : (f : ℕ) (values : List (Shown ℕ)) (a : Applied) → ToSame names (λ state. primitive_ended f values state a) (λ state. primitive_ended f values state a)
  same_primitive f values (prims.Gives o symbols) state stobjs h = (refl, record { stobjs = h; symbols = refl; calls = refl; outer = refl })
  same_primitive f values (prims.Stops prims.Guard) state stobjs h = same_here names _ state stobjs h
  same_primitive f values (prims.Stops prims.Range) state stobjs h = same_here names _ state stobjs h
  same_primitive f values (prims.Stops prims.Large) state stobjs h = same_here names _ state stobjs h
  same_primitive f values (prims.Stops prims.Symbols) state stobjs h = same_here names _ state stobjs h

  -- where the export stops, its stobj is restored to a list that is alike
  same_inside : (actuals : List (Shown ℕ)) (os ps : Stobjs ℕ) → AreAlikeStobjs names os ps → (export outer : ℕ) (r s : Outcome ℕ) → Same names r s
      → Same names (inside_after lists_keeping actuals os export outer r) (inside_after lists_keeping actuals ps export outer s)
  same_inside actuals os ps g export outer r s e =
      by_outcome names (inside_after lists_keeping actuals os export outer) (inside_after lists_keeping actuals ps export outer)
      (λ values state stobjs h. (refl, record { stobjs = h; symbols = refl; calls = refl; outer = refl }))
      (λ stop origin state stobjs h. (refl, refl, record { stobjs = restored_alike names (first_stobj actuals) os ps state.stobjs stobjs g h; symbols = refl; calls = refl; outer = refl })) tt r s e

  same_export : (limit : ℕ) (f : FunctionOfAbstract) (values : List (Shown ℕ)) (os ps : Stobjs ℕ) → AreAlikeStobjs names os ps → (go to : State ℕ → Outcome ℕ) → ToSame names go to
      → ToSame names (checked_export lists_keeping limit f values os go) (checked_export lists_keeping limit f values ps to)
  same_export limit f values os ps g go to k state stobjs h =
      same_counting names limit (λ after. inside_after lists_keeping values os f.name state.outer (go after)) (λ after. inside_after lists_keeping values ps f.name state.outer (to after))
      (λ after others i. same_inside values os ps g f.name state.outer (go after) (to (record after { stobjs = others })) (k after others i)) state stobjs h

checked_respects : (w : World) (packages : List Package) (limit : ℕ) → Respects nat_cmp (checked_rules w packages limit) numbered_functions
checked_respects w packages limit = record {
  primitives = λ f p values state stobjs h. same_primitive nat_cmp f values (applied (record { packages = packages; symbols = state.symbols }) p (ordinary values)) state stobjs h;
  exports = same_export nat_cmp limit;
}

checked_alike : (w : World) (packages : List Package) (limit depth : ℕ) (form : Core) (variables : Variables ℕ) (a b : State ℕ) → AreAlikeStates nat_cmp a b
    → AreAlikeOutcomes nat_cmp (checked w packages limit depth form variables a) (checked w packages limit depth form variables b)
checked_alike w packages limit depth form variables a b h =
    from_states nat_cmp (checked w packages limit depth form variables) (checked w packages limit depth form variables)
    (same_evaluated nat_cmp (checked_rules w packages limit) numbered_functions (checked_respects w packages limit) depth form variables) a b h

begun_alike : (symbols : List QualifiedName) (os ps : Stobjs ℕ) (used : ℕ) → AreAlikeStobjs nat_cmp os ps → AreAlikeStates nat_cmp (begun symbols os used) (begun symbols ps used)
begun_alike symbols os ps used h = record { stobjs = h; symbols = refl; calls = refl; outer = refl }

whole_alike : (w : World) (packages : List Package) (limit depth : ℕ) (form : Core) (symbols : List QualifiedName) (os ps : Stobjs ℕ) (used : ℕ) → AreAlikeStobjs nat_cmp os ps
    → AreAlikeOutcomes nat_cmp (checked w packages limit depth form (live os) (begun symbols os used)) (checked w packages limit depth form (live ps) (begun symbols ps used))
whole_alike w packages limit depth form symbols os ps used h =
    subst (λ (vs : Variables ℕ). AreAlikeOutcomes nat_cmp (checked w packages limit depth form (live os) (begun symbols os used)) (checked w packages limit depth form vs (begun symbols ps used))) (live_alike nat_cmp os ps h)
    (checked_alike w packages limit depth form (live os) (begun symbols os used) (begun symbols ps used) (begun_alike symbols os ps used h))

pub evaluates_alike : EvaluatesAlike
evaluates_alike = record { forms = checked_alike; begins = begun_alike; whole = whole_alike }
