-- Turns of a machine that does what accepted forms do: forms that begin.
use Rattle.std.proofs.Common.{◌≡◌, ℕ, zero, suc, List, [], ◌∷◌, ◌++◌, length, map, Bool, true, false, Option, Some, None, refl, sym, ap, ◌∙◌, subst, arith}
use Rattle.std.specs.Prelude.{◌||◌, not, nat_eq, nat_lt, is_some, if◌then◌else◌}
use Rattle.std.proofs.lemmas.Bool.{eqb-true}
use Rattle.std.proofs.lemmas.List.{length-map}
use Rattle.model_symbols.specs.Symbols.{Package}
use Rattle.model_prims.specs.Kinds.{by_number}
use Rattle.model_terms.specs.declared.rule.Rule.TheVariants.{S8, S9, S13, S14}
use Rattle.model_terms.specs.declared.rule.Mode.TheVariants.{Executable}
use Rattle.model_terms.specs.Cores as cores
use Rattle.model_terms.specs.Cores.{Core, Cores, none, more, count}
use Rattle.model_terms.specs.Worlds.{World, Out, Ordinary, Scope}
use Rattle.model_terms.specs.Worlds as worlds
use Rattle.model_terms.specs.Classes as classes
use Rattle.model_terms.specs.Classes.{has, repeats, congruent, is_stobj_name}
use Rattle.model_terms.specs.Scopes.{name_kind, name_kinds, binding, producer_scope, local_scope}
use Rattle.model_terms.specs.Sites.{one_ordinary}
use Rattle.model_terms.specs.Nested.{same_kinds, BoundChild, bound_children, child_stobj, stobj_let_holds, with_local_holds}
use Rattle.model_terms.specs.Rules.{any_wrong_part}
use Rattle.model_eval.specs.Outcomes.{Shown, Plain, Steps, StateOf, one_more_call}
use Rattle.model_eval.specs.Keeping.{Keeping}
use Rattle.model_eval.specs.Variables.{Variables, variable_in, bound}
use Rattle.model_eval.specs.StobjLayouts.{new_list}
use Rattle.model_eval.specs.Evaluated.{RulesOf, leaf}
use Rattle.model_accepted.specs.Threaded.{IsFormed, AreFormed, IsThreaded}
use Rattle.model_accepted.specs.StobjScopes.{IsStobj, AreVariables, AreOutputs}
use Rattle.model_accepted.specs.Accepted.{Accepted, PartsAccepted}
use Rattle.model_accepted.proofs.AcceptLemmas.{false_true, both_true, neither, not_false, kinds_same, of_if, of_let, of_mv, of_mv_let, of_stobj_let, of_with_local, of_must_be_equal, var_kind, var_in_scope}
use Rattle.model_accepted.proofs.ScopeLemmas.{bound_objects, bound_variables, local_variables}
use Rattle.model_accepted.proofs.KidLemmas.{AreBound, StobjLetHolds, stobj_let_is, AreBindings, bindings_are, names_bound}
use Rattle.model_in_place.proofs.FormMeeting.{output_of}
use Rattle.model_in_place.proofs.CallMeeting.{executable_not_logic}
use Rattle.model_machine.specs.Frames.{Then, ThenBody, ThenValues, ThenCall, Test, Parts, Several, Calling, Borrowing, Local, Last, Frame, Turned}
use Rattle.model_machine.specs.Turns.{stop_here, make_local, last_form, next_part, parts_done, open_form, open_in, begin}
use Rattle.model_window.specs.Stands.{Origins, Worlds}
use Rattle.model_window.specs.Following.{worlds_of, after_begin}
use Rattle.model_fitting.specs.Giving.{HasOwnNames}
use Rattle.model_fitting.specs.Steps.{IsReady, AreReady, Surrounds, ThenFits, Bodies, Values, Calls, Tests, Parted, Severals, Called, Borrows, Locals, Ends, FramesFit, Inside, BeginFits, TurnFits, AreOrigins}
use Rattle.model_fitting.proofs.ActualLemmas.{actual_kinds, ready_actuals, call_ready}
use Rattle.model_fitting.proofs.DefinitionLemmas.{rules, last_gives}

nothing_after : (ks : List Out) → ks ++ [] ≡ ks
nothing_after [] = refl
nothing_after (k ∷ ks) = ap (λ (os : List Out). k ∷ os) (nothing_after ks)

own_names : (scope : Scope) (variables : Variables ℕ) → AreVariables scope variables → HasOwnNames scope
own_names scope variables are = record { each = λ x y e. (are.each x (worlds.Stobj y) e).0 }

-- parts that are accepted for these kinds
ready_parts : (c : World) (scope : Scope) (kinds : List Out) (fs : Cores) → count fs ≡ length kinds → PartsAccepted c Executable scope kinds fs → AreFormed c fs → AreReady c scope kinds fs
unfolding AreFormed
ready_parts c scope [] none n a k = tt
ready_parts c scope [] (more f fs) n a k = absurd (omega (arith, n))
ready_parts c scope (i ∷ kinds) none n a k = absurd (omega (arith, n))
ready_parts c scope (i ∷ kinds) (more f fs) n a k = (record { formal = None; accepted = a.0; formed = k.0 }, ready_parts c scope kinds fs (omega (arith, n)) a.1 k.1)

-- ---- children

as_many_bound : (c : World) (xs : List ℕ) (fs : Cores) (bs : List BoundChild) → bound_children c xs fs ≡ Some bs → count fs ≡ length xs
as_many_bound c [] none bs e = refl
as_many_bound c [] (more f fs) bs e = cc
as_many_bound c (x ∷ xs) none bs e = cc
as_many_bound c (x ∷ xs) (more f fs) bs e =
    let is : AreBindings c x xs f fs bs = bindings_are c x xs f fs bs e in
    let n : count fs ≡ length xs = as_many_bound c xs fs is.others is.later in omega (arith, n)

bound_names : (c : World) (p : ℕ) (bs : List BoundChild) → AreBound c p bs → (x : ℕ) → has (map (λ (b : BoundChild). b.name) bs) x ≡ true → is_stobj_name c x ≡ true
bound_names c p [] a x h = false_true h
bound_names c p (b ∷ bs) a x h = go (nat_eq x b.name) refl h (bound_names c p bs a.3 x)
  where
    go : (t : Bool) → nat_eq x b.name ≡ t → (t || has (map (λ (b : BoundChild). b.name) bs) x) ≡ true → (has (map (λ (b : BoundChild). b.name) bs) x ≡ true → is_stobj_name c x ≡ true) → is_stobj_name c x ≡ true
    go true e h later = subst (λ (z : ℕ). is_stobj_name c z ≡ true) (sym (eqb-true x b.name e)) (second_named (child_stobj b.accessor.holds) b.name a.2)
      where
        second_named : (y z : ℕ) → congruent c y z ≡ true → is_stobj_name c z ≡ true
        second_named y z e = by (classes.class_of c y) (classes.class_of c z) e
          where
            by : (m n : Option ℕ) → classes.same_class m n ≡ true → is_some n ≡ true
            by None n e = false_true e
            by (Some i) None e = false_true e
            by (Some i) (Some j) e = refl
    go false e h later = later h

local_named : (c : World) (scope : Scope) (expected : List Out) (stobj : ℕ) (names : List ℕ) (producer : Core) → with_local_holds c scope expected stobj names producer ≡ true → is_stobj_name c stobj ≡ true
unfolding with_local_holds
local_named c scope expected stobj names producer e = (both_true (is_stobj_name c stobj) _ e).0

pub if_fits : {O B : Type 0} (w : World) (ws : Worlds) (b : Bool) (x y : Turned ℕ O B) → TurnFits w ws x → TurnFits w ws y → TurnFits w ws (if b then x else y)
if_fits w ws true x y p q = p
if_fits w ws false x y p q = q

module _ {O B : Type 0} (keeping : Keeping ℕ O B) (w : World) (threaded : IsThreaded w) (packages : List Package) (limit : ℕ) (origins : Origins) (checked : AreOrigins w origins) where
  abbrev rs : RulesOf keeping
  rs = rules keeping w threaded packages limit origins checked

  module _ (c : World) (outer : Scope) (given : List Out) (cs : List World) (frames : List (Frame ℕ B)) (around : FramesFit w cs frames outer given) (room : ℕ) (variables : Variables ℕ) where
    -- the innermost form's value is that of a form
    pub last_fits : (inner : Scope) (form : Core) (inside : Variables ℕ) (state : StateOf O) → Surrounds w c inner inside → IsReady c inner given form → ((x : ℕ) → IsStobj inner x → IsStobj outer x)
        → TurnFits w (worlds_of c cs c) (last_form rs room variables frames form inside state)
    last_fits inner form inside state s ready i =
        record { scope = inner; outs = given; surrounds = s; ready = ready; around = Inside c cs variables outer given (Last None) frames inner given (Ends None inner i) around }

    -- a body once names are bound
    pub body_fits : (names : List ℕ) (body : Core) (values : List (Shown ℕ)) (state : StateOf O) → Surrounds w c outer variables → AreOutputs outer (name_kinds c names) values → IsReady c (binding c outer names) given body
        → TurnFits w (worlds_of c cs c) (last_form rs room variables frames body (bound names values variables) state)
    body_fits names body values state s a ready =
        last_fits (binding c outer names) body (bound names values variables) state (record { suits = s.suits; are = bound_variables c outer names values variables a s.are }) ready
        (λ x i. bound_objects c outer names values variables a x i)

    goal_fits : (goal : Then) (values : List (Shown ℕ)) (state : StateOf O) (kinds : List Out) → Surrounds w c outer variables → AreOutputs outer kinds values → ThenFits w c outer given kinds goal
        → TurnFits w (worlds_of c cs c) (parts_done rs room variables frames goal values state)
    goal_fits (ThenBody names body) values state kinds s a (Bodies _ _ e ready) = body_fits names body values state s (subst (λ (ks : List Out). AreOutputs outer ks values) e a) ready
    goal_fits ThenValues values state kinds s a (Values e) =
        last_gives keeping w threaded packages limit origins checked outer given cs frames around room variables c c None values state (subst (λ (ks : List Out). AreOutputs outer ks values) e a)
    goal_fits (ThenCall f) values state kinds s a (Calls _ k) =
        record { scope = outer; outs = []; given = tt; around = Inside c cs variables outer given (Calling f values) frames outer [] (Called f values outer (k values a)) around }

    -- the next part
    pub part_fits : (forms : Cores) (values : List (Shown ℕ)) (goal : Then) (state : StateOf O) (done kinds all : List Out) → Surrounds w c outer variables → AreOutputs outer done values → AreReady c outer kinds forms
        → done ++ kinds ≡ all → ThenFits w c outer given all goal → TurnFits w (worlds_of c cs c) (next_part rs room variables frames forms values goal state)
    part_fits none values goal state done [] all s a ready e t = goal_fits goal values state all s (subst (λ (ks : List Out). AreOutputs outer ks values) (sym (nothing_after done) ∙ e) a) t
    part_fits none values goal state done (k ∷ kinds) all s a ready e t = absurd ready
    part_fits (more f fs) values goal state done [] all s a ready e t = absurd ready
    part_fits (more f fs) values goal state done (k ∷ kinds) all s a ready e t = record {
      scope = outer;
      outs = k ∷ [];
      surrounds = s;
      ready = ready.0;
      around = Inside c cs variables outer given (Parts fs values goal) frames outer (k ∷ []) (Parted fs values goal done k kinds all s a ready.1 e t) around;
    }

    -- a form that is opened
    pub form_fits : (form : Core) (state : StateOf O) → Surrounds w c outer variables → IsReady c outer given form → TurnFits w (worlds_of c cs c) (open_form rs room variables frames form state)
    unfolding IsFormed
    form_fits (cores.Var x) state s r = tt
    form_fits (cores.Const o) state s r = tt
    form_fits (cores.If a b d) state s r =
        let p = of_if c Executable outer r.formal given a b d r.accepted in
        record {
          scope = outer;
          outs = one_ordinary;
          surrounds = s;
          ready = record { formal = None; accepted = p.0; formed = r.formed.0 };
          around =
              Inside c cs variables outer given (Test b d) frames outer one_ordinary
              (Tests b d s (record { formal = None; accepted = p.1; formed = r.formed.1 }) (record { formal = None; accepted = p.2; formed = r.formed.2 })) around;
        }
    form_fits (cores.Let names forms body) state s r =
        let p = of_let c Executable outer r.formal given names forms body r.accepted in
        part_fits forms [] (ThenBody names body) state [] (name_kinds c names) (name_kinds c names) s tt
        (ready_parts c outer (name_kinds c names) forms (r.formed.0 ∙ sym (length-map names (name_kind c))) p.0 r.formed.1) refl (Bodies names body refl (record { formal = None; accepted = p.1; formed = r.formed.2 }))
    form_fits (cores.Mv parts) state s r =
        part_fits parts [] ThenValues state [] given given s tt
        (ready_parts c outer given parts (as_many (any_wrong_part given parts || repeats (classes.stobjs given)) (r.accepted.0 S9)) (of_mv c Executable outer r.formal given parts r.accepted) r.formed) refl (Values refl)
      where
        as_many : (b : Bool) → (not (nat_eq (count parts) (length given)) || b) ≡ false → count parts ≡ length given
        as_many b h = eqb-true (count parts) (length given) (not_false (nat_eq (count parts) (length given)) (neither (not (nat_eq (count parts) (length given))) b h).0)
    form_fits (cores.MvLet names form body) state s r =
        let p = of_mv_let c Executable outer r.formal given names form body r.accepted in
        record {
          scope = outer;
          outs = name_kinds c names;
          surrounds = s;
          ready = record { formal = None; accepted = p.0; formed = r.formed.0 };
          around =
              Inside c cs variables outer given (Several names body) frames outer (name_kinds c names)
              (Severals names body s (record { formal = None; accepted = p.1; formed = r.formed.1 })) around;
        }
    form_fits (cores.StobjLet names forms vars producer consumer) state s r =
        let p = of_stobj_let c Executable outer r.formal given names forms vars producer consumer r.accepted in
        let holds : StobjLetHolds c outer given names forms vars = stobj_let_is c outer given names forms vars (not_false (stobj_let_holds c outer given names forms vars) (r.accepted.0 S13)) in
        record {
          scope = outer;
          outs = [];
          given = tt;
          around =
              Inside c cs variables outer given (Borrowing names forms [] vars producer consumer) frames outer []
              (Borrows names forms [] vars producer consumer outer holds.parent names s refl (as_many_bound c names forms holds.bs holds.bound)
              (λ x h. bound_names c holds.parent holds.bs holds.all x (ap (λ (xs : List ℕ). has xs x) (names_bound c names forms holds.bs holds.bound) ∙ h))
              (record { formal = None; accepted = subst (λ (m : Option ℕ). Accepted c Executable (producer_scope c outer m names) producer None (name_kinds c vars)) holds.first p.0; formed = r.formed.0 })
              (record { formal = None; accepted = p.1; formed = r.formed.1 })) around;
        }
    form_fits (cores.WithLocal stobj names producer body) state s r =
        let p = of_with_local c Executable outer r.formal given stobj names producer body r.accepted in
        let named : is_stobj_name c stobj ≡ true = local_named c outer given stobj names producer (not_false (with_local_holds c outer given stobj names producer) (r.accepted.0 S14)) in
        if_fits w (worlds_of c cs c) (nat_lt state.calls limit) (make_local rs room variables frames stobj (Some (new_list w stobj)) names producer body (one_more_call state)) (stop_here rs None room variables frames Steps state)
        (record {
          scope = local_scope c outer stobj;
          outs = name_kinds c names;
          surrounds = record { suits = s.suits; are = local_variables c outer stobj variables named s.are };
          ready = record { formal = None; accepted = p.0; formed = r.formed.0 };
          around =
              Inside c cs variables outer given (Local names body) frames (local_scope c outer stobj) (name_kinds c names)
              (Locals stobj names body s (record { formal = None; accepted = p.1; formed = r.formed.1 })) around;
        }) tt
    form_fits (cores.MustBeEqual logic exec) state s r =
        last_fits outer logic variables state s (record { formal = None; accepted = (of_must_be_equal c Executable outer r.formal given logic exec r.accepted).0; formed = r.formed.0 }) (λ x i. i)
    form_fits (cores.Call f fs) state s r =
        let i = call_ready w c s.suits outer (own_names outer variables s.are) r.formal given f fs r.formed.0 r.accepted in
        part_fits fs [] (ThenCall f) state [] (actual_kinds i.0 fs) (actual_kinds i.0 fs) s tt (ready_actuals c outer i.0 fs i.1 i.2 r.formed.1) refl (Calls f i.3)

  -- a form begins
  module _ (worlds : Worlds) (frames : List (Frame ℕ B)) (variables : Variables ℕ) where
    open_fits : (room : ℕ) (form : Core) (state : StateOf O) → BeginFits w worlds frames form variables → TurnFits w (after_begin {S = ℕ} None room worlds) (open_in rs room variables frames form state)
    open_fits zero form state i = tt
    open_fits (suc room) form state i = form_fits worlds.control i.scope i.outs worlds.frames frames i.around room variables form state i.surrounds i.ready

    pub begin_fits : (room : ℕ) (form : Core) (state : StateOf O) → BeginFits w worlds frames form variables → TurnFits w (after_begin (leaf rs form variables) room worlds) (begin rs (leaf rs form variables) room variables frames form state)
    begin_fits room (cores.Var x) state i = record {
      scope = i.scope;
      outs = i.outs;
      given =
          subst (λ (os : List Out). AreOutputs i.scope os (variable_in by_number variables x ∷ [])) (var_kind worlds.control Executable i.scope x i.ready.formal i.outs executable_not_logic i.ready.accepted.0)
          (output_of w threaded packages limit i.scope variables x i.surrounds.are (var_in_scope worlds.control Executable i.scope x i.ready.formal i.outs executable_not_logic i.ready.accepted.0), tt);
      around = i.around;
    }
    begin_fits room (cores.Const o) state i = record {
      scope = i.scope;
      outs = i.outs;
      given =
          subst (λ (os : List Out). AreOutputs i.scope os (Plain o ∷ []))
          (kinds_same one_ordinary i.outs (not_false (same_kinds one_ordinary i.outs) (i.ready.accepted.0 S8))) (tt, tt);
      around = i.around;
    }
    begin_fits room (cores.If a b d) state i = open_fits room (cores.If a b d) state i
    begin_fits room (cores.Let names forms body) state i = open_fits room (cores.Let names forms body) state i
    begin_fits room (cores.Mv parts) state i = open_fits room (cores.Mv parts) state i
    begin_fits room (cores.MvLet names form body) state i = open_fits room (cores.MvLet names form body) state i
    begin_fits room (cores.StobjLet names forms vars producer consumer) state i = open_fits room (cores.StobjLet names forms vars producer consumer) state i
    begin_fits room (cores.WithLocal stobj names producer body) state i = open_fits room (cores.WithLocal stobj names producer body) state i
    begin_fits room (cores.MustBeEqual logic exec) state i = open_fits room (cores.MustBeEqual logic exec) state i
    begin_fits room (cores.Call f fs) state i = open_fits room (cores.Call f fs) state i
