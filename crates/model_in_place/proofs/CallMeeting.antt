-- Calls in place and on lists.
use Rattle.std.proofs.Common.{◌≡◌, ℕ, List, [], ◌∷◌, map, true, false, Option, Some, None, refl, sym, ap, ◌∙◌, subst}
use Rattle.std.specs.Prelude.{◌≢◌, unwrap_or, if◌then◌else◌}
use Rattle.std.specs.List.{zip}
use Rattle.model_objects.specs.Object.{Object}
use Rattle.model_symbols.specs.Symbols.{Package, QualifiedName}
use Rattle.model_prims.specs.Kinds.{by_number}
use Rattle.model_prims.specs.Applied.{Applied, applied}
use Rattle.model_prims.specs.Applied as prims
use Rattle.model_lists.specs.Lists.{StobjList}
use Rattle.model_lists.specs.Layouts.{Layout, field_layout}
use Rattle.model_lists.specs.LiveLists.{HasFields}
use Rattle.model_lists.specs.Effects.{Effect, Refuses, Reads, Writes}
use Rattle.model_lists_laws.specs.LiveListLaws.{KeepsFields}
use Rattle.model_terms.specs.declared.rule.Mode.{Mode}
use Rattle.model_terms.specs.declared.rule.Mode.TheVariants.{Executable, Logic}
use Rattle.model_terms.specs.Cores.{Core, Var}
use Rattle.model_terms.specs.Worlds.{World, Definition, Function, GeneratedFunction, FunctionOfAbstract, definition, Primitive, Defined, Macro, Constant, Concrete, Generated, Abstract, OfAbstract, Named, Signed, Out, Ordinary, Scope, Signature}
use Rattle.model_terms.specs.Worlds as worlds
use Rattle.model_terms.specs.Classes as classes
use Rattle.model_terms.specs.Classes.{has, repeats, renamed_out, actual_of}
use Rattle.model_terms.specs.Outputs.{signature_in}
use Rattle.model_terms.specs.Accessors.{is_internal, is_executable}
use Rattle.model_terms.specs.Sites.{one_ordinary}
use Rattle.model_eval.specs.Outcomes.{Shown, Plain, StobjNamed, Guard, Stobjs, StateOf, State, OutcomeOf, Outcome, Gives, Stops, Unknown, stops_here}
use Rattle.model_eval.specs.Keeping.{handed}
use Rattle.model_eval.specs.ListsKeeping.{lists_keeping}
use Rattle.model_eval.specs.PlacesKeeping.{Places, Closed, Store, place_of, places_keeping}
use Rattle.model_eval.specs.Variables.{Variables, variable_in, inner_variables, outer_value, first_stobj, ordinary, plain, list_of}
use Rattle.model_eval.specs.GeneratedCalls.{effect, effected, generated, list_or_none}
use Rattle.model_eval.specs.Evaluated.{RulesOf, Rules, EvaluatorOf, Evaluator, is_false, scoped, with_guard, by_definition}
use Rattle.model_eval.specs.Checked.{checked_rules, primitive_ended}
use Rattle.model_eval.specs.InPlace.{in_place_rules}
use Rattle.model_eval_laws.proofs.Lists.{same_number}
use Rattle.model_accepted.specs.Threaded.{IsFormed, layout_of, Suits, AreFormals, formal_entries, IsChecked, IsAdmitted, IsMade, IsThreaded}
use Rattle.model_accepted.specs.StobjScopes.{IsStobj, AreVariables, AreOutputs}
use Rattle.model_in_place.specs.Standing.{Stands, AreSame}
use Rattle.model_in_place.specs.Writes.{Write, stobjs_after, AreWrites, MovesIf, Moves, StopsMoved, Meet}
use Rattle.model_in_place.specs.Calls.{Pairs, pairs_of, names_in, firsts, actual, lists_for, places_for, lists_back, writes_out, AreArguments}
use Rattle.model_accepted.specs.Accepted.{Accepted}
use Rattle.model_accepted.proofs.AcceptLemmas.{accepted_first, false_true}
use Rattle.model_accepted.proofs.ScopeLemmas.{some_same, none_some}
use Rattle.model_places.proofs.PathLemmas.{length_at}
use Rattle.model_in_place.proofs.WriteLemmas.{stands_moved, meets_then, meets_stop, meets_give, meets_if}
use Rattle.model_in_place.proofs.CallLemmas.{inner_objects_are, inner_places_are, handed_back_is, objects_back, roots_back, writes_back, pair_object}
use Rattle.model_in_place.proofs.FormalLemmas.{firsts_distinct, pairs_are, seconds_are, zip_is, formal_first, formal_variables, stands_inside, known_inside, outputs_back, objects_renamed}
use Rattle.model_in_place.proofs.EffectLemmas.{AreOrdinary, HasOuts, effect_outs, effect_keeps}

-- what a function with these inputs and outputs gives for these arguments
abbrev pub results : List Out → List (Shown ℕ) → List Out → List Out
results ins values outs = map (renamed_out (zip (classes.stobjs ins) (names_in values))) outs

-- a stobj in scope that is expected
abbrev pub May : Scope → List Out → ℕ → Type 0
May scope expected x = (has (classes.stobjs expected) x ≡ true) × IsStobj scope x

pub executable_not_logic : Executable ≢ Logic
executable_not_logic e = cc

module _ (w : World) (threaded : IsThreaded w) (packages : List Package) (limit : ℕ) where
  abbrev pub on_lists : Rules ℕ
  on_lists = checked_rules w packages limit

  abbrev pub at_places : RulesOf (places_keeping {S = ℕ})
  at_places = in_place_rules w packages limit

  -- evaluators that agree on accepted forms
  pub record Meets (ev : Evaluator ℕ) (el : EvaluatorOf ℕ (Store ℕ)) : Type 0 where
    pub meets : (c : World) (mode : Mode) (scope : Scope) (form : Core) (formal : Option ℕ) (expected : List Out) → Suits c w → mode ≢ Logic → Accepted c mode scope form formal expected → IsFormed c form
        → (variables : Variables ℕ) (s : State ℕ) (t : StateOf (Store ℕ)) → AreVariables scope variables → Stands w scope s.stobjs t.stobjs → AreSame s t
        → Meet w (AreOutputs scope expected) (May scope expected) (IsStobj scope) s t (ev form variables s) (el form variables t)
    pub of_lists : (x : ℕ) (variables : Variables ℕ) (s : State ℕ) → ev (Var x) variables s ≡ Gives (variable_in by_number variables x ∷ []) s
    pub of_places : (x : ℕ) (variables : Variables ℕ) (t : StateOf (Store ℕ)) → el (Var x) variables t ≡ Gives (variable_in by_number variables x ∷ []) t

  module _ (ev : Evaluator ℕ) (el : EvaluatorOf ℕ (Store ℕ)) (h : Meets ev el) (scope : Scope) where
    -- ---- what comes back

    module _ (formals : List ℕ) (ins : List Out) (values : List (Shown ℕ)) (f : AreFormals formals ins) (distinct : repeats formals ≡ false) (a : AreArguments w scope ins values) (r : repeats (names_in values) ≡ false)
        (s : State ℕ) (t : StateOf (Store ℕ)) (stands : Stands w scope s.stobjs t.stobjs) where
      abbrev pub pairs : Pairs
      pairs = pairs_of formals values

      abbrev pub inner_s : State ℕ
      inner_s = record s { stobjs = lists_for pairs s.stobjs }

      abbrev pub inner_t : StateOf (Store ℕ)
      inner_t = record t { stobjs = record t.stobjs { scope = places_for pairs t.stobjs.scope } }

      pub moves_back : (Condition : Type 0) (Now Then : ℕ → Type 0) (u : State ℕ) (v : StateOf (Store ℕ)) → ((x : ℕ) → Now x → has (firsts pairs) x ≡ true) → ((x : ℕ) → Now x → Then (actual pairs x)) → MovesIf w Condition Now inner_s inner_t u v
          → MovesIf w Condition Then s t (record u { stobjs = lists_back pairs u.stobjs s.stobjs }) (record v { stobjs = record v.stobjs { scope = t.stobjs.scope } })
      moves_back Condition Now Then u v first out m =
          let of_firsts : AreWrites w (λ x. has (firsts pairs) x ≡ true) m.writes = firsts_only m.writes m.allowed in
          record {
            writes = writes_out pairs m.writes;
            allowed = writes_back w scope pairs m.writes Now Then (pairs_are w scope formals ins values f a) first out m.allowed;
            stobjs =
                ap (λ (inner : Stobjs ℕ). lists_back pairs inner s.stobjs) m.stobjs
                ∙ objects_back w pairs m.writes s.stobjs (firsts_distinct formals values distinct) (ap repeats (seconds_are w scope formals ins values f a) ∙ r) of_firsts
                (known_inside w scope formals ins values s.stobjs t.stobjs f a stands);
            roots = λ c. m.roots c ∙ roots_back w pairs m.writes t.stobjs.scope t.stobjs.roots of_firsts;
            count = m.count;
            places = refl;
            journal = m.journal;
            same = record { symbols = m.same.symbols; calls = m.same.calls; outer = m.same.outer };
          }
        where
          firsts_only : (us : List Write) → AreWrites w Now us → AreWrites w (λ x. has (firsts pairs) x ≡ true) us
          firsts_only [] b = tt
          firsts_only (u ∷ us) b = (first u.0 b.0, b.1, firsts_only us b.2)

      pub object_out : (x : ℕ) → IsStobj (formal_entries formals ins) x → IsStobj scope (actual pairs x)
      object_out x i = (pair_object w scope pairs x (pairs_are w scope formals ins values f a) (formal_first w scope formals ins values x f a i)).0

      pub may_out : (outs : List Out) (x : ℕ) → May (formal_entries formals ins) outs x → May scope (results ins values outs) (actual pairs x)
      may_out outs x m = (
        subst (λ (ps : Pairs). has (classes.stobjs (map (renamed_out ps) outs)) (actual pairs x) ≡ true) (sym (zip_is w scope formals ins values f a)) (objects_renamed pairs outs x m.0),
        object_out x m.1,
      )

      pub meets_handed : (outs : List Out) (p : Outcome ℕ) (q : OutcomeOf ℕ (Store ℕ))
          → Meet w (AreOutputs (formal_entries formals ins) outs) (May (formal_entries formals ins) outs) (IsStobj (formal_entries formals ins)) inner_s inner_t p q
          → Meet w (AreOutputs scope (results ins values outs)) (May scope (results ins values outs)) (IsStobj scope) s t (handed lists_keeping formals values s.stobjs p) (handed places_keeping formals values t.stobjs.scope q)
      meets_handed outs (Gives vs u) (Gives ws v) m = (
        ap (map (outer_value formals values)) m.0,
        subst (λ (ps : Pairs). AreOutputs scope (map (renamed_out ps) outs) (map (outer_value formals values) vs)) (sym (zip_is w scope formals ins values f a)) (outputs_back w scope formals ins values outs vs f a m.1),
        subst (λ (os : Stobjs ℕ). Moves w (May scope (results ins values outs)) s t (record u { stobjs = os }) (record v { stobjs = record v.stobjs { scope = t.stobjs.scope } }))
            (sym (handed_back_is formals values u.stobjs s.stobjs))
            (moves_back (Unit {0}) (May (formal_entries formals ins) outs) (May scope (results ins values outs)) u v (λ x i. formal_first w scope formals ins values x f a i.1) (may_out outs) m.2),
      )
      meets_handed outs (Gives vs u) (Stops stop origin v) m = absurd m
      meets_handed outs (Gives vs u) Unknown m = absurd m
      meets_handed outs (Stops stop origin u) (Gives ws v) m = absurd m
      meets_handed outs (Stops stop origin u) (Stops other from v) m = (
        m.0,
        m.1,
        subst (λ (os : Stobjs ℕ). StopsMoved w (IsStobj scope) s t (record u { stobjs = os }) (record v { stobjs = record v.stobjs { scope = t.stobjs.scope } }))
            (sym (handed_back_is formals values u.stobjs s.stobjs))
            (moves_back (t.stobjs.journal ≡ Closed) (IsStobj (formal_entries formals ins)) (IsStobj scope) u v (λ x i. formal_first w scope formals ins values x f a i) object_out m.2),
      )
      meets_handed outs (Stops stop origin u) Unknown m = absurd m
      meets_handed outs Unknown q m = absurd m

      -- a guard or a body over formals
      pub meets_scoped : (form : Core) (outs : List Out) → IsChecked w formals ins form outs → AreSame s t
          → Meet w (AreOutputs scope (results ins values outs)) (May scope (results ins values outs)) (IsStobj scope) s t (scoped on_lists ev formals values form s) (scoped at_places el formals values form t)
      meets_scoped form outs checked e =
          subst (λ (os : Stobjs ℕ). Meet w (AreOutputs scope (results ins values outs)) (May scope (results ins values outs)) (IsStobj scope) s t
          (handed lists_keeping formals values s.stobjs (ev form (inner_variables formals values) (record s { stobjs = os }))) (scoped at_places el formals values form t))
          (sym (inner_objects_are formals values s.stobjs))
          (subst (λ (ps : Places). Meet w (AreOutputs scope (results ins values outs)) (May scope (results ins values outs)) (IsStobj scope) s t
          (handed lists_keeping formals values s.stobjs (ev form (inner_variables formals values) inner_s))
          (handed places_keeping formals values t.stobjs.scope (el form (inner_variables formals values) (record t { stobjs = record t.stobjs { scope = ps } }))))
          (sym (inner_places_are formals values t.stobjs.scope))
          (meets_handed outs (ev form (inner_variables formals values) inner_s) (el form (inner_variables formals values) inner_t)
          (h.meets checked.world Executable (formal_entries formals ins) form None outs checked.suits executable_not_logic
          (accepted_first checked.world Executable (formal_entries formals ins) form outs checked.accepted) checked.formed (inner_variables formals values) inner_s inner_t
          (record { each = formal_variables w scope formals ins values f distinct a })
          (stands_inside w scope formals ins values s.stobjs t.stobjs f a r stands)
          (record { symbols = e.symbols; calls = e.calls; outer = e.outer }))))

    -- ---- guards

    nothing_expected : (outs : List Out) (x : ℕ) → May scope one_ordinary x → May scope outs x
    nothing_expected outs x m = false_true m.0

    may_object : (outs : List Out) (x : ℕ) → May scope outs x → IsStobj scope x
    may_object outs x m = m.1

    -- where no stobj is expected nothing is written
    no_writes : (us : List Write) → AreWrites w (May scope one_ordinary) us → us ≡ []
    no_writes [] a = refl
    no_writes (u ∷ us) a = false_true a.0.0

    -- a state after a form that wrote nothing but stobjs in scope
    still_stands : (outs : List Out) (s : State ℕ) (t : StateOf (Store ℕ)) (u : State ℕ) (v : StateOf (Store ℕ)) → Stands w scope s.stobjs t.stobjs → Moves w (May scope outs) s t u v → Stands w scope u.stobjs v.stobjs
    still_stands outs s t u v stands m = stands_moved w scope (May scope outs) s t u v (may_object outs) stands m

    pub meets_guarded : (name : ℕ) (formals : List ℕ) (ins : List Out) (guard : Core) (values : List (Shown ℕ)) (Are : List (Shown ℕ) → Type 0) (outs : List Out)
        (go : State ℕ → Outcome ℕ) (to : StateOf (Store ℕ) → OutcomeOf ℕ (Store ℕ))
        → AreFormals formals ins → repeats formals ≡ false → AreArguments w scope ins values → repeats (names_in values) ≡ false → IsChecked w formals ins guard one_ordinary
        → (s : State ℕ) (t : StateOf (Store ℕ)) → Stands w scope s.stobjs t.stobjs → AreSame s t
        → ((u : State ℕ) (v : StateOf (Store ℕ)) → u.stobjs ≡ s.stobjs → Stands w scope u.stobjs v.stobjs → AreSame u v → Meet w Are (May scope outs) (IsStobj scope) u v (go u) (to v))
        → Meet w Are (May scope outs) (IsStobj scope) s t (with_guard on_lists ev name formals guard values go s) (with_guard at_places el name formals guard values to t)
    meets_guarded name formals ins guard values Are outs go to f d a r checked s t stands e k =
        meets_then w (AreOutputs scope one_ordinary) Are (May scope one_ordinary) (May scope outs) (IsStobj scope) s t
        (scoped on_lists ev formals values guard s) (scoped at_places el formals values guard t)
        (λ test after. if is_false on_lists test then stops_here (Guard name values) after else go after)
        (λ test after. if is_false at_places test then stops_here (Guard name values) after else to after)
        (nothing_expected outs) (may_object one_ordinary)
        (meets_scoped formals ins values f d a r s t stands guard one_ordinary checked e)
        (λ vs u v i m.
        meets_if w Are (May scope outs) (IsStobj scope) u v (is_false on_lists vs) (stops_here (Guard name values) u) (go u) (stops_here (Guard name values) v) (to v)
        (meets_stop w Are (May scope outs) (IsStobj scope) u v (Guard name values) m.same)
        (k u v (m.stobjs ∙ ap (λ (us : List Write). stobjs_after us s.stobjs) (no_writes m.writes m.allowed)) (still_stands one_ordinary s t u v stands m) m.same))

    -- ---- primitives

    meets_answer : (f : ℕ) (values : List (Shown ℕ)) (s : State ℕ) (t : StateOf (Store ℕ)) (a : Applied) → AreSame s t
        → Meet w (AreOutputs scope one_ordinary) (May scope one_ordinary) (IsStobj scope) s t (primitive_ended f values s a) (primitive_ended f values t a)
    meets_answer f values s t (prims.Gives o symbols) e =
        (refl, (tt, tt), record { writes = []; allowed = tt; stobjs = refl; roots = λ c. refl; count = refl; places = refl; journal = refl; same = record { symbols = refl; calls = e.calls; outer = e.outer } })
    meets_answer f values s t (prims.Stops prims.Guard) e = meets_stop w (AreOutputs scope one_ordinary) (May scope one_ordinary) (IsStobj scope) s t (Guard f values) e
    meets_answer f values s t (prims.Stops prims.Range) e = meets_stop w (AreOutputs scope one_ordinary) (May scope one_ordinary) (IsStobj scope) s t _ e
    meets_answer f values s t (prims.Stops prims.Large) e = meets_stop w (AreOutputs scope one_ordinary) (May scope one_ordinary) (IsStobj scope) s t _ e
    meets_answer f values s t (prims.Stops prims.Symbols) e = meets_stop w (AreOutputs scope one_ordinary) (May scope one_ordinary) (IsStobj scope) s t _ e

    -- ---- functions of a stobj

    -- the first stobj of the arguments is one in scope
    abbrev pub FirstIn : Option ℕ → Type 0
    FirstIn None = Unit {0}
    FirstIn (Some x) = IsStobj scope x

    pub first_in_scope : (ins : List Out) (values : List (Shown ℕ)) → AreArguments w scope ins values → FirstIn (first_stobj values)
    first_in_scope [] [] a = tt
    first_in_scope [] (v ∷ vs) a = absurd a
    first_in_scope (k ∷ ks) [] a = absurd a
    first_in_scope (k ∷ ks) (Plain o ∷ vs) a = first_in_scope ks vs a.1
    first_in_scope (Ordinary ∷ ks) (StobjNamed y ∷ vs) a = absurd a.0
    first_in_scope (worlds.Stobj x ∷ ks) (StobjNamed y ∷ vs) a = a.0.0

    pub no_names : (ins : List Out) (values : List (Shown ℕ)) → AreArguments w scope ins values → classes.stobjs ins ≡ [] → names_in values ≡ []
    no_names [] [] a e = refl
    no_names [] (v ∷ vs) a e = absurd a
    no_names (k ∷ ks) [] a e = absurd a
    no_names (Ordinary ∷ ks) (Plain o ∷ vs) a e = no_names ks vs a.1 e
    no_names (Ordinary ∷ ks) (StobjNamed y ∷ vs) a e = absurd a.0
    no_names (worlds.Stobj x ∷ ks) v a e = cc

    -- the only stobj of the arguments
    pub only_argument : (stobj : ℕ) (ins : List Out) (values : List (Shown ℕ)) → AreArguments w scope ins values → classes.stobjs ins ≡ stobj ∷ []
        → (y : ℕ) × (first_stobj values ≡ Some y) × (names_in values ≡ y ∷ []) × IsStobj scope y × (layout_of w stobj ≡ layout_of w y)
    only_argument stobj [] values a e = cc
    only_argument stobj (k ∷ ks) [] a e = absurd a
    only_argument stobj (Ordinary ∷ ks) (Plain o ∷ vs) a e = only_argument stobj ks vs a.1 e
    only_argument stobj (Ordinary ∷ ks) (StobjNamed y ∷ vs) a e = absurd a.0
    only_argument stobj (worlds.Stobj x ∷ ks) (Plain o ∷ vs) a e = absurd a.0
    only_argument stobj (worlds.Stobj x ∷ ks) (StobjNamed y ∷ vs) a e =
        (y, refl, ap (λ (ns : List ℕ). y ∷ ns) (no_names ks vs a.1 (rest_same e)), a.0.0, ap (layout_of w) (sym (first_same e)) ∙ a.0.1)
      where
        rest_same : x ∷ classes.stobjs ks ≡ stobj ∷ [] → classes.stobjs ks ≡ []
        rest_same g = cc

        first_same : x ∷ classes.stobjs ks ≡ stobj ∷ [] → x ≡ stobj
        first_same g = cc

    pub plain_outputs : (ins : List Out) (values : List (Shown ℕ)) (outs : List Out) (os : List (Object ℕ)) → AreOrdinary outs os → AreOutputs scope (results ins values outs) (plain os)
    plain_outputs ins values [] [] h = tt
    plain_outputs ins values [] (o ∷ os) h = absurd h
    plain_outputs ins values (k ∷ ks) [] h = absurd h
    plain_outputs ins values (Ordinary ∷ ks) (o ∷ os) h = (tt, plain_outputs ins values ks os h)
    plain_outputs ins values (worlds.Stobj x ∷ ks) (o ∷ os) h = absurd h

    same_list : (s : State ℕ) (t : StateOf (Store ℕ)) (x : Option ℕ) → Stands w scope s.stobjs t.stobjs → FirstIn x → list_or_none places_keeping t.stobjs x ≡ list_or_none lists_keeping s.stobjs x
    same_list s t None stands i = refl
    same_list s t (Some x) stands i = sym (stands.same x i)

    pub meets_effected : (g : GeneratedFunction) (values : List (Shown ℕ)) → IsMade w g → AreArguments w scope g.signature.ins values
        → (s : State ℕ) (t : StateOf (Store ℕ)) → Stands w scope s.stobjs t.stobjs → AreSame s t
        → (q : Effect ℕ) → HasOuts g.stobj g.signature.outs q
        → ((y : ℕ) → first_stobj values ≡ Some y → layout_of w g.stobj ≡ layout_of w y → KeepsFields (layout_of w g.stobj) q)
        → Meet w (AreOutputs scope (results g.signature.ins values g.signature.outs)) (May scope (results g.signature.ins values g.signature.outs)) (IsStobj scope) s t
        (effected lists_keeping g.name values (first_stobj values) s q) (effected places_keeping g.name values (first_stobj values) t q)
    meets_effected g values made a s t stands e Refuses o k = meets_stop w (AreOutputs scope (results g.signature.ins values g.signature.outs)) (May scope (results g.signature.ins values g.signature.outs)) (IsStobj scope) s t (Guard g.name values) e
    meets_effected g values made a s t stands e (Reads os) o k =
        meets_give w (AreOutputs scope (results g.signature.ins values g.signature.outs)) (May scope (results g.signature.ins values g.signature.outs)) (IsStobj scope) s t (plain os)
        (plain_outputs g.signature.ins values g.signature.outs os o) e
    meets_effected g values made a s t stands e (Writes l) o k =
        let only : (y : ℕ) × (first_stobj values ≡ Some y) × (names_in values ≡ y ∷ []) × IsStobj scope y × (layout_of w g.stobj ≡ layout_of w y)
        = only_argument g.stobj g.signature.ins values a (made.only o) in
        let y : ℕ = only.0 in
        let outs : results g.signature.ins values g.signature.outs ≡ worlds.Stobj y ∷ [] = renamed_only y (made.only o) only.2 o in
        rw (only.1, outs) (
          refl,
          ((refl, only.3), tt),
          record {
            writes = (y, l) ∷ [];
            allowed = ((rw (same_number y) refl, only.3), subst (λ (m : Layout ℕ). HasFields m l) only.4 (k y only.1 only.4), tt);
            stobjs = refl;
            roots = λ c. refl;
            count = length_at (place_of t.stobjs.scope y) l t.stobjs.roots;
            places = refl;
            journal = refl;
            same = record { symbols = e.symbols; calls = e.calls; outer = e.outer };
          },
        )
      where
        renamed_only : (y : ℕ) → classes.stobjs g.signature.ins ≡ g.stobj ∷ [] → names_in values ≡ y ∷ [] → g.signature.outs ≡ worlds.Stobj g.stobj ∷ [] → results g.signature.ins values g.signature.outs ≡ worlds.Stobj y ∷ []
        renamed_only y i n o = rw (i, n, o, same_number g.stobj) refl

    pub meets_generated : (g : GeneratedFunction) (values : List (Shown ℕ)) → IsMade w g → AreArguments w scope g.signature.ins values
        → (s : State ℕ) (t : StateOf (Store ℕ)) → Stands w scope s.stobjs t.stobjs → AreSame s t
        → Meet w (AreOutputs scope (results g.signature.ins values g.signature.outs)) (May scope (results g.signature.ins values g.signature.outs)) (IsStobj scope) s t
        (generated lists_keeping by_number g (layout_of w g.stobj) values s) (generated places_keeping by_number g (layout_of w g.stobj) values t)
    meets_generated g values made a s t stands e =
        let n : ℕ = unwrap_or g.field 0 in
        let l : StobjList ℕ = list_or_none lists_keeping s.stobjs (first_stobj values) in
        subst (λ (m : StobjList ℕ). Meet w (AreOutputs scope (results g.signature.ins values g.signature.outs)) (May scope (results g.signature.ins values g.signature.outs)) (IsStobj scope) s t
        (generated lists_keeping by_number g (layout_of w g.stobj) values s)
        (effected places_keeping g.name values (first_stobj values) t (effect by_number g.role (field_layout n (layout_of w g.stobj)) n (ordinary values) m)))
        (sym (same_list s t (first_stobj values) stands (first_in_scope g.signature.ins values a)))
        (meets_effected g values made a s t stands e (effect by_number g.role (field_layout n (layout_of w g.stobj)) n (ordinary values) l)
        (subst (λ (outs : List Out). HasOuts g.stobj outs (effect by_number g.role (field_layout n (layout_of w g.stobj)) n (ordinary values) l)) (sym made.outs)
        (effect_outs by_number g.stobj g.role (field_layout n (layout_of w g.stobj)) n (ordinary values) l))
        (λ y i same. effect_keeps by_number g.stobj g.role (layout_of w g.stobj) n (ordinary values) l made.suits (fitting (first_stobj values) y i same (first_in_scope g.signature.ins values a))))
      where
        fitting : (x : Option ℕ) (y : ℕ) → x ≡ Some y → layout_of w g.stobj ≡ layout_of w y → FirstIn x → HasFields (layout_of w g.stobj) (list_or_none lists_keeping s.stobjs x)
        fitting None y i same in_scope = none_some i
        fitting (Some x) y i same in_scope =
            subst (λ (m : Layout ℕ). HasFields m (list_of s.stobjs x)) (sym (same ∙ ap (layout_of w) (sym (some_same i)))) (stands.fits x in_scope)

    -- ---- definitions

    abbrev pub MeetsCall : Signature → List (Shown ℕ) → State ℕ → StateOf (Store ℕ) → Outcome ℕ → OutcomeOf ℕ (Store ℕ) → Type 0
    MeetsCall sig values s t p q = Meet w (AreOutputs scope (results sig.ins values sig.outs)) (May scope (results sig.ins values sig.outs)) (IsStobj scope) s t p q

    pub refused_call : (sig : Signature) (values : List (Shown ℕ)) (name : ℕ) (s : State ℕ) (t : StateOf (Store ℕ)) → AreSame s t → MeetsCall sig values s t (stops_here (Guard name values) s) (stops_here (Guard name values) t)
    refused_call sig values name s t e = meets_stop w (AreOutputs scope (results sig.ins values sig.outs)) (May scope (results sig.ins values sig.outs)) (IsStobj scope) s t (Guard name values) e

    pub meets_definition : (go : FunctionOfAbstract → State ℕ → Outcome ℕ) (to : FunctionOfAbstract → StateOf (Store ℕ) → OutcomeOf ℕ (Store ℕ)) (name : ℕ) (sig : Signature) (values : List (Shown ℕ)) (d : Definition)
        → definition w name ≡ Some d → signature_in d ≡ Some sig → is_internal w d ≡ false → is_executable d ≡ true
        → AreArguments w scope sig.ins values → repeats (names_in values) ≡ false
        → (s : State ℕ) (t : StateOf (Store ℕ)) → Stands w scope s.stobjs t.stobjs → AreSame s t
        → ((f : FunctionOfAbstract) → d ≡ OfAbstract f → MeetsCall sig values s t (go f s) (to f t))
        → MeetsCall sig values s t (by_definition on_lists ev go (Some d) name values s) (by_definition at_places el to (Some d) name values t)
    meets_definition go to name sig values (Primitive f row) there signed callable runs a r s t stands e k =
        subst (λ (outs : List Out). Meet w (AreOutputs scope (results sig.ins values outs)) (May scope (results sig.ins values outs)) (IsStobj scope) s t
        (by_definition on_lists ev go (Some (Primitive f row)) name values s) (by_definition at_places el to (Some (Primitive f row)) name values t))
        (ap (λ (z : Signature). z.outs) (some_same signed))
        (subst (λ (symbols : List QualifiedName). Meet w (AreOutputs scope one_ordinary) (May scope one_ordinary) (IsStobj scope) s t
        (primitive_ended f values s (applied (record { packages = packages; symbols = s.symbols }) row.prim (ordinary values)))
        (primitive_ended f values t (applied (record { packages = packages; symbols = symbols }) row.prim (ordinary values))))
        (sym e.symbols) (meets_answer f values s t (applied (record { packages = packages; symbols = s.symbols }) row.prim (ordinary values)) e))
    meets_definition go to name sig values (Defined f) there signed callable runs a r s t stands e k =
        subst (λ (z : Signature). MeetsCall z values s t (by_definition on_lists ev go (Some (Defined f)) name values s) (by_definition at_places el to (Some (Defined f)) name values t))
        (some_same signed)
        (let admitted : IsAdmitted w f = threaded.functions name f there runs in
        let b : AreArguments w scope f.signature.ins values = subst (λ (z : Signature). AreArguments w scope z.ins values) (sym (some_same signed)) a in
        meets_guarded f.name f.formals f.signature.ins f.guard values (AreOutputs scope (results f.signature.ins values f.signature.outs)) (results f.signature.ins values f.signature.outs)
        (scoped on_lists ev f.formals values f.body) (scoped at_places el f.formals values f.body)
        admitted.formals admitted.distinct b r admitted.guard s t stands e
        (λ u v same i j. meets_scoped f.formals f.signature.ins values admitted.formals admitted.distinct b r u v i f.body f.signature.outs admitted.body j))
    meets_definition go to name sig values (Macro f formals body) there signed callable runs a r s t stands e k = refused_call sig values name s t e
    meets_definition go to name sig values (Constant f value) there signed callable runs a r s t stands e k = refused_call sig values name s t e
    meets_definition go to name sig values (Concrete d class) there signed callable runs a r s t stands e k = refused_call sig values name s t e
    meets_definition go to name sig values (Generated g) there signed callable runs a r s t stands e k =
        subst (λ (z : Signature). MeetsCall z values s t (by_definition on_lists ev go (Some (Generated g)) name values s) (by_definition at_places el to (Some (Generated g)) name values t))
        (some_same signed)
        (meets_generated g values (threaded.made name g there callable) (subst (λ (z : Signature). AreArguments w scope z.ins values) (sym (some_same signed)) a) s t stands e)
    meets_definition go to name sig values (Abstract d) there signed callable runs a r s t stands e k = refused_call sig values name s t e
    meets_definition go to name sig values (OfAbstract f) there signed callable runs a r s t stands e k = k f refl
    meets_definition go to name sig values (Named f formals) there signed callable runs a r s t stands e k = refused_call sig values name s t e
    meets_definition go to name sig values (Signed f formals signature executable) there signed callable runs a r s t stands e k = refused_call sig values name s t e
