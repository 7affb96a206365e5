-- Every form in place and on lists.
use Rattle.std.proofs.Common.{◌≡◌, ℕ, zero, suc, List, [], ◌∷◌, length, Bool, true, false, Option, Some, None, refl, sym, ap, ◌∙◌, subst}
use Rattle.std.specs.Prelude.{◌≢◌, ◌||◌, not, nat_eq, is_some, unwrap_or, if◌then◌else◌}
use Rattle.std.proofs.lemmas.Bool.{eqb-true}
use Rattle.model_symbols.specs.Symbols.{Package}
use Rattle.model_prims.specs.Kinds.{by_number}
use Rattle.model_terms.specs.declared.rule.Mode.{Mode}
use Rattle.model_terms.specs.declared.rule.Mode.TheVariants.{Logic}
use Rattle.model_terms.specs.Cores.{Core, Var, Const, If, Let, Mv, MvLet, StobjLet, WithLocal, MustBeEqual, Call, count}
use Rattle.model_terms.specs.Worlds.{World, Out, Ordinary, Scope}
use Rattle.model_terms.specs.Worlds as worlds
use Rattle.model_terms.specs.Classes as classes
use Rattle.model_terms.specs.Classes.{has, repeats}
use Rattle.model_terms.specs.Scopes.{kind_in, kind_of, in_scope, name_kinds, binding}
use Rattle.model_terms.specs.Sites.{here, one_ordinary}
use Rattle.model_terms.specs.Nested.{same_kinds, stobjs_expected}
use Rattle.model_terms.specs.Rules.{any_wrong_part}
use Rattle.model_eval.specs.Outcomes.{Shown, Plain, StobjNamed, Depth, StateOf, State, OutcomeOf, Outcome, Gives, stops_here}
use Rattle.model_eval.specs.PlacesKeeping.{Store}
use Rattle.model_eval.specs.Variables.{Variables, variable_in, bound}
use Rattle.model_eval.specs.Evaluated.{Evaluator, EvaluatorOf, is_false, leaf, leaf_or, opened, evaluated}
use Rattle.model_accepted.specs.Threaded.{IsFormed, AreFormed, Suits, IsThreaded}
use Rattle.model_accepted.specs.StobjScopes.{IsStobj, IsOfKind, AreVariables, IsOutput, AreOutputs}
use Rattle.model_in_place.specs.Standing.{Stands, AreSame}
use Rattle.model_in_place.specs.Writes.{Meet}
use Rattle.model_accepted.specs.Accepted.{Accepted, PartsAccepted}
use Rattle.model_accepted.proofs.AcceptLemmas.{of_if, of_let, of_mv, of_mv_let, of_must_be_equal, s6, s8, s9, var_in_scope, var_kind, kinds_same, false_true, neither, not_false}
use Rattle.model_accepted.proofs.ScopeLemmas.{all_has, bound_objects, bound_variables}
use Rattle.model_in_place.proofs.WriteLemmas.{outputs_wider, stands_less, stands_moved, meets_wider, meets_then, meets_stop, meets_give}
use Rattle.model_in_place.proofs.CallMeeting.{May, on_lists, at_places, Meets}
use Rattle.model_in_place.proofs.PartMeeting.{meets_parts, meets_call}
use Rattle.model_in_place.proofs.LocalMeeting.{meets_local}
use Rattle.model_in_place.proofs.KidMeeting.{meets_stobj_let}

pub expected_may : (scope : Scope) (kinds expected : List Out) (x : ℕ) → stobjs_expected kinds expected ≡ true → May scope kinds x → May scope expected x
expected_may scope kinds expected x e m = (all_has (has (classes.stobjs expected)) (classes.stobjs kinds) x e m.0, m.1)

pub length_kinds : (c : World) (names : List ℕ) → length (name_kinds c names) ≡ length names
length_kinds c [] = refl
length_kinds c (x ∷ xs) = ap (λ (n : ℕ). suc n) (length_kinds c xs)

module _ (w : World) (threaded : IsThreaded w) (packages : List Package) (limit : ℕ) where
  -- what is said of a form
  abbrev MeetsAt : World → Mode → Scope → Core → Option ℕ → List Out → Variables ℕ → State ℕ → StateOf (Store ℕ) → Outcome ℕ → OutcomeOf ℕ (Store ℕ) → Type 0
  MeetsAt c mode scope form formal expected variables s t a b =
      Suits c w → mode ≢ Logic → Accepted c mode scope form formal expected → IsFormed c form → AreVariables scope variables → Stands w scope s.stobjs t.stobjs → AreSame s t
      → Meet w (AreOutputs scope expected) (May scope expected) (IsStobj scope) s t a b

  -- ---- values

  pub output_of : (scope : Scope) (variables : Variables ℕ) (x : ℕ) → AreVariables scope variables → in_scope scope x ≡ true → IsOutput scope (kind_of scope x) (variable_in by_number variables x)
  output_of scope variables x are i = go (kind_in scope x) refl i
    where
      go : (k : Option Out) → kind_in scope x ≡ k → is_some k ≡ true → IsOutput scope (unwrap_or k Ordinary) (variable_in by_number variables x)
      go None e f = false_true f
      go (Some Ordinary) e f = ordinary (variable_in by_number variables x) (are.each x Ordinary e)
        where
          ordinary : (v : Shown ℕ) → IsOfKind x Ordinary v → IsOutput scope Ordinary v
          ordinary (Plain o) k = tt
          ordinary (StobjNamed y) k = absurd k
      go (Some (worlds.Stobj z)) e f =
          let is : IsOfKind x (worlds.Stobj z) (variable_in by_number variables x) = are.each x (worlds.Stobj z) e in
          subst (λ (v : Shown ℕ). IsOutput scope (worlds.Stobj z) v) (sym is.1) (sym is.0, subst (λ (y : ℕ). kind_in scope y ≡ Some (worlds.Stobj z)) (sym is.0) e)

  meets_leaf : (c : World) (mode : Mode) (scope : Scope) (form : Core) (formal : Option ℕ) (expected : List Out) (variables : Variables ℕ) (s : State ℕ) (t : StateOf (Store ℕ)) (a : Outcome ℕ) (b : OutcomeOf ℕ (Store ℕ))
      → MeetsAt c mode scope form formal expected variables s t a b
      → MeetsAt c mode scope form formal expected variables s t (leaf_or (on_lists w threaded packages limit) (leaf (on_lists w threaded packages limit) form variables) s a) (leaf_or (at_places w threaded packages limit) (leaf (at_places w threaded packages limit) form variables) t b)
  meets_leaf c mode scope (Var x) formal expected variables s t a b k suits n all formed are stands e =
      meets_give w (AreOutputs scope expected) (May scope expected) (IsStobj scope) s t (variable_in by_number variables x ∷ [])
      (subst (λ (outs : List Out). AreOutputs scope outs (variable_in by_number variables x ∷ [])) (var_kind c mode scope x formal expected n all.0)
      (output_of scope variables x are (var_in_scope c mode scope x formal expected n all.0), tt)) e
  meets_leaf c mode scope (Const o) formal expected variables s t a b k suits n all formed are stands e =
      meets_give w (AreOutputs scope expected) (May scope expected) (IsStobj scope) s t (Plain o ∷ [])
      (subst (λ (outs : List Out). AreOutputs scope outs (Plain o ∷ [])) (kinds_same one_ordinary expected (not_false (same_kinds one_ordinary expected) (s8 c mode (here (Const o) scope formal expected) n all.0))) (tt, tt)) e
  meets_leaf c mode scope (If test b d) formal expected variables s t a z k suits n all formed are stands e = k suits n all formed are stands e
  meets_leaf c mode scope (Let names bind body) formal expected variables s t a b k suits n all formed are stands e = k suits n all formed are stands e
  meets_leaf c mode scope (Mv parts) formal expected variables s t a b k suits n all formed are stands e = k suits n all formed are stands e
  meets_leaf c mode scope (MvLet names bind body) formal expected variables s t a b k suits n all formed are stands e = k suits n all formed are stands e
  meets_leaf c mode scope (StobjLet names forms vars producer consumer) formal expected variables s t a b k suits n all formed are stands e = k suits n all formed are stands e
  meets_leaf c mode scope (WithLocal stobj names producer body) formal expected variables s t a b k suits n all formed are stands e = k suits n all formed are stands e
  meets_leaf c mode scope (MustBeEqual logic exec) formal expected variables s t a b k suits n all formed are stands e = k suits n all formed are stands e
  meets_leaf c mode scope (Call f actuals) formal expected variables s t a b k suits n all formed are stands e = k suits n all formed are stands e

  -- ---- forms

  module _ (ev : Evaluator ℕ) (el : EvaluatorOf ℕ (Store ℕ)) (h : Meets w threaded packages limit ev el) where
    -- a body once names are bound
    meets_body : (c : World) (mode : Mode) (scope : Scope) (names : List ℕ) (body : Core) (expected : List Out) (variables : Variables ℕ) (values : List (Shown ℕ)) (s : State ℕ) (t : StateOf (Store ℕ))
        → Suits c w → mode ≢ Logic → Accepted c mode (binding c scope names) body None expected → IsFormed c body → AreVariables scope variables → AreOutputs scope (name_kinds c names) values → Stands w scope s.stobjs t.stobjs → AreSame s t
        → Meet w (AreOutputs scope expected) (May scope expected) (IsStobj scope) s t (ev body (bound names values variables) s) (el body (bound names values variables) t)
    meets_body c mode scope names body expected variables values s t suits n all formed are outs stands e =
        let smaller : ((x : ℕ) → IsStobj (binding c scope names) x → IsStobj scope x) = λ x i. bound_objects c scope names values variables outs x i in
        meets_wider w (AreOutputs (binding c scope names) expected) (AreOutputs scope expected) (May (binding c scope names) expected) (IsStobj (binding c scope names)) (May scope expected) (IsStobj scope) s t
        (ev body (bound names values variables) s) (el body (bound names values variables) t)
        (λ us o. outputs_wider (binding c scope names) scope expected us smaller o) (λ x i. (i.0, smaller x i.1)) smaller
        (h.meets c mode (binding c scope names) body None expected suits n all formed (bound names values variables) s t
        (bound_variables c scope names values variables outs are) (stands_less w (binding c scope names) scope s.stobjs t.stobjs smaller stands) e)

    meets_opened : (c : World) (mode : Mode) (scope : Scope) (form : Core) (formal : Option ℕ) (expected : List Out) (variables : Variables ℕ) (s : State ℕ) (t : StateOf (Store ℕ))
        → MeetsAt c mode scope form formal expected variables s t (opened (on_lists w threaded packages limit) ev form variables s) (opened (at_places w threaded packages limit) el form variables t)
    unfolding AreFormed
    meets_opened c mode scope (Var x) formal expected variables s t suits n all formed are stands e = meets_stop w (AreOutputs scope expected) (May scope expected) (IsStobj scope) s t Depth e
    meets_opened c mode scope (Const o) formal expected variables s t suits n all formed are stands e = meets_stop w (AreOutputs scope expected) (May scope expected) (IsStobj scope) s t Depth e
    meets_opened c mode scope (If test b d) formal expected variables s t suits n all formed are stands e =
        let parts : Accepted c mode scope test None one_ordinary × Accepted c mode scope b None expected × Accepted c mode scope d None expected = of_if c mode scope formal expected test b d all in
        meets_then w (AreOutputs scope one_ordinary) (AreOutputs scope expected) (May scope one_ordinary) (May scope expected) (IsStobj scope) s t (ev test variables s) (el test variables t)
        (λ values after. ev (if is_false (on_lists w threaded packages limit) values then d else b) variables after) (λ values after. el (if is_false (at_places w threaded packages limit) values then d else b) variables after)
        (λ x i. false_true i.0) (λ x i. i.1)
        (h.meets c mode scope test None one_ordinary suits n parts.0 formed.0 variables s t are stands e)
        (λ vs u v a moves.
        let still : Stands w scope u.stobjs v.stobjs = stands_moved w scope (May scope one_ordinary) s t u v (λ x i. i.1) stands moves in
        branch (is_false (on_lists w threaded packages limit) vs) u v
        (h.meets c mode scope b None expected suits n parts.1 formed.1 variables u v are still moves.same)
        (h.meets c mode scope d None expected suits n parts.2 formed.2 variables u v are still moves.same))
      where
        branch : (q : Bool) (u : State ℕ) (v : StateOf (Store ℕ)) → Meet w (AreOutputs scope expected) (May scope expected) (IsStobj scope) u v (ev b variables u) (el b variables v)
            → Meet w (AreOutputs scope expected) (May scope expected) (IsStobj scope) u v (ev d variables u) (el d variables v)
            → Meet w (AreOutputs scope expected) (May scope expected) (IsStobj scope) u v (ev (if q then d else b) variables u) (el (if q then d else b) variables v)
        branch true u v first second = second
        branch false u v first second = first
    meets_opened c mode scope (Let names forms body) formal expected variables s t suits n all formed are stands e =
        let parts : PartsAccepted c mode scope (name_kinds c names) forms × Accepted c mode (binding c scope names) body None expected = of_let c mode scope formal expected names forms body all in
        let out : stobjs_expected (name_kinds c names) expected ≡ true = not_false (stobjs_expected (name_kinds c names) expected) (s6 c mode (here (Let names forms body) scope formal expected) n all.0) in
        meets_parts w threaded packages limit ev el h c mode scope suits n variables are (name_kinds c names) forms [] (AreOutputs scope expected) expected
        (λ values after. ev body (bound names values variables) after) (λ values after. el body (bound names values variables) after) s t
        parts.0 formed.1 (formed.0 ∙ sym (length_kinds c names)) (λ x i. expected_may scope (name_kinds c names) expected x out i) stands e
        (λ vs every u v a same moves.
        subst (λ (values : List (Shown ℕ)). Meet w (AreOutputs scope expected) (May scope expected) (IsStobj scope) u v (ev body (bound names values variables) u) (el body (bound names values variables) v)) (sym same)
        (meets_body c mode scope names body expected variables vs u v suits n parts.1 formed.2 are a (stands_moved w scope (May scope (name_kinds c names)) s t u v (λ x i. i.1) stands moves) moves.same))
    meets_opened c mode scope (Mv parts) formal expected variables s t suits n all formed are stands e =
        let counted : (not (nat_eq (count parts) (length expected)) ≡ false) × ((any_wrong_part expected parts || repeats (classes.stobjs expected)) ≡ false)
        = neither (not (nat_eq (count parts) (length expected))) (any_wrong_part expected parts || repeats (classes.stobjs expected)) (s9 c mode (here (Mv parts) scope formal expected) n all.0) in
        meets_parts w threaded packages limit ev el h c mode scope suits n variables are expected parts [] (AreOutputs scope expected) expected Gives Gives s t
        (of_mv c mode scope formal expected parts all) formed (eqb-true (count parts) (length expected) (not_false (nat_eq (count parts) (length expected)) counted.0)) (λ x i. i) stands e
        (λ vs every u v a same moves.
        subst (λ (values : List (Shown ℕ)). Meet w (AreOutputs scope expected) (May scope expected) (IsStobj scope) u v (Gives values u) (Gives values v)) (sym same)
        (meets_give w (AreOutputs scope expected) (May scope expected) (IsStobj scope) u v vs a moves.same))
    meets_opened c mode scope (MvLet names form body) formal expected variables s t suits n all formed are stands e =
        let parts : Accepted c mode scope form None (name_kinds c names) × Accepted c mode (binding c scope names) body None expected = of_mv_let c mode scope formal expected names form body all in
        let out : stobjs_expected (name_kinds c names) expected ≡ true = not_false (stobjs_expected (name_kinds c names) expected) (s6 c mode (here (MvLet names form body) scope formal expected) n all.0) in
        meets_then w (AreOutputs scope (name_kinds c names)) (AreOutputs scope expected) (May scope (name_kinds c names)) (May scope expected) (IsStobj scope) s t (ev form variables s) (el form variables t)
        (λ values after. ev body (bound names values variables) after) (λ values after. el body (bound names values variables) after)
        (λ x i. expected_may scope (name_kinds c names) expected x out i) (λ x i. i.1)
        (h.meets c mode scope form None (name_kinds c names) suits n parts.0 formed.0 variables s t are stands e)
        (λ vs u v a moves.
        meets_body c mode scope names body expected variables vs u v suits n parts.1 formed.1 are a (stands_moved w scope (May scope (name_kinds c names)) s t u v (λ x i. i.1) stands moves) moves.same)
    meets_opened c mode scope (StobjLet names forms vars producer consumer) formal expected variables s t suits n all formed are stands e =
        meets_stobj_let w threaded packages limit ev el h c mode scope suits n variables are names forms vars producer consumer formal expected s t all formed.0 formed.1 stands e
    meets_opened c mode scope (WithLocal stobj names producer body) formal expected variables s t suits n all formed are stands e =
        meets_local w threaded packages limit ev el h c mode scope suits n variables are stobj names producer body formal expected s t all formed.0 formed.1 stands e
    meets_opened c mode scope (MustBeEqual logic exec) formal expected variables s t suits n all formed are stands e =
        h.meets c mode scope logic None expected suits n (of_must_be_equal c mode scope formal expected logic exec all).0 formed.0 variables s t are stands e
    meets_opened c mode scope (Call f actuals) formal expected variables s t suits n all formed are stands e =
        meets_call w threaded packages limit ev el h c mode scope suits n variables are f actuals formal expected s t all formed stands e

  -- ---- every depth

  pub meets_evaluated : (d : ℕ) → Meets w threaded packages limit (evaluated (on_lists w threaded packages limit) d) (evaluated (at_places w threaded packages limit) d)
  unfolding evaluated
  meets_evaluated zero = record {
    meets = λ c mode scope form formal expected suits n all formed variables s t are stands e.
        meets_leaf c mode scope form formal expected variables s t (stops_here Depth s) (stops_here Depth t)
        (λ suits n all formed are stands e. meets_stop w (AreOutputs scope expected) (May scope expected) (IsStobj scope) s t Depth e) suits n all formed are stands e;
    of_lists = λ x variables s. refl;
    of_places = λ x variables t. refl;
  }
  meets_evaluated (suc d) = record {
    meets = λ c mode scope form formal expected suits n all formed variables s t are stands e.
        meets_leaf c mode scope form formal expected variables s t
        (opened (on_lists w threaded packages limit) (evaluated (on_lists w threaded packages limit) d) form variables s) (opened (at_places w threaded packages limit) (evaluated (at_places w threaded packages limit) d) form variables t)
        (meets_opened (evaluated (on_lists w threaded packages limit) d) (evaluated (at_places w threaded packages limit) d) (meets_evaluated d) c mode scope form formal expected variables s t) suits n all formed are stands e;
    of_lists = λ x variables s. refl;
    of_places = λ x variables t. refl;
  }
