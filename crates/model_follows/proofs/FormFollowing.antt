-- Every form in the logic, beside checked evaluation.
use Rattle.std.proofs.Common.{◌≡◌, ℕ, zero, suc, ◌<◌, ◌≤◌, List, [], ◌∷◌, length, Bool, true, false, Option, Some, None, refl, sym, ap, ◌∙◌, subst, arith, inl, inr}
use Rattle.std.specs.Prelude.{◌≢◌, ◌⊎◌, ◌&&◌, ◌||◌, not, nat_eq, is_some, if◌then◌else◌}
use Rattle.std.specs.Option.{option_map_or}
use Rattle.std.specs.List.{list_any}
use Rattle.std.proofs.lemmas.Bool.{eqb-true}
use Rattle.model_symbols.specs.Symbols.{QualifiedName, Table, symbol_at, form_of}
use Rattle.model_symbols.specs.Growth.{Extends}
use Rattle.model_symbols.proofs.TableLemmas.{Extends-self}
use Rattle.model_prims.specs.Kinds.{by_number, by_name, is_nil}
use Rattle.model_prims.proofs.NamingLemmas.{nil_named}
use Rattle.model_prims.proofs.FollowLemmas.{is_naming}
use Rattle.model_terms.specs.declared.rule.Mode.{Mode}
use Rattle.model_terms.specs.declared.rule.Mode.TheVariants.{Logic}
use Rattle.model_terms.specs.Cores.{Core, Cores, none, more, Var, Const, If, Let, Mv, MvLet, StobjLet, WithLocal, MustBeEqual, Call, variable, count}
use Rattle.model_terms.specs.Worlds.{World, Out, Ordinary, Scope, FunctionOfAbstract, OfAbstract, definition}
use Rattle.model_terms.specs.Worlds as worlds
use Rattle.model_terms.specs.Classes as classes
use Rattle.model_terms.specs.Classes.{has, repeats, is_stobj_name}
use Rattle.model_terms.specs.Scopes.{kind_in, name_kind, name_kinds, binding}
use Rattle.model_terms.specs.Outputs.{stobj_actuals}
use Rattle.model_terms.specs.Sites.{here, one_ordinary}
use Rattle.model_terms.specs.Rules.{any_wrong_part}
use Rattle.model_eval.specs.Outcomes.{Shown, Plain, StobjNamed, Depth, StateOf, State, Outcome, Gives, stops_here}
use Rattle.model_eval.specs.PlacesKeeping.{Store}
use Rattle.model_eval.specs.Variables.{Variables, variable_in, bound, single}
use Rattle.model_eval.specs.Evaluated.{Evaluator, EvaluatorOf, is_false, leaf, leaf_or, opened, in_order, called, evaluated, of_abstract, exec_called}
use Rattle.model_logic.specs.Logic.{Theory, Thing, Values, value_in, bind, element_values, found, form_value, creator_of}
use Rattle.model_logic.specs.LogicFunctions.{as_list}
use Rattle.model_accepted.specs.Threaded.{layout_of, AreFormed, IsThreaded}
use Rattle.model_accepted.specs.StobjScopes.{IsStobj, AreVariables, AreOutputs}
use Rattle.model_in_place.specs.Standing.{Stands, AreSame}
use Rattle.model_in_place.specs.Calls.{names_in, AreArguments}
use Rattle.model_accepted.specs.Accepted.{Accepted, PartsAccepted, ActualsAccepted}
use Rattle.model_accepted.proofs.AcceptLemmas.{of_if, of_let, of_mv, of_mv_let, of_must_be_equal, of_call, s4, s9, var_in_scope, neither, not_false, false_true}
use Rattle.model_accepted.proofs.ScopeLemmas.{bound_objects, bound_variables, has_object, name_is_ordinary}
use Rattle.model_in_place.proofs.WriteLemmas.{stands_less}
use Rattle.model_in_place.proofs.CallMeeting.{on_lists, at_places, Meets}
use Rattle.model_in_place.proofs.PartMeeting.{IsCalled, called_is, all_of}
use Rattle.model_in_place.proofs.FormMeeting.{length_kinds, meets_evaluated}
use Rattle.model_follows.specs.Costs.{Counted, caller, form_counted, Ends}
use Rattle.model_follows.specs.FollowedWorlds.{HasCreator, HasAbstractCreator, IsSuited, AreSuited}
use Rattle.model_lists.specs.Layouts.{initial}
use Rattle.model_follows.proofs.EndedLemmas.{Ended, ended_one, ended_single, ended_elements}
use Rattle.model_follows.proofs.HeldThings.{Ground, Held, held, all_held, Kin, AreKin, itself}
use Rattle.model_follows.proofs.FormalThings.{AreSeen}
use Rattle.model_follows.specs.Follows.{one_thing, KnowsShown, KnowsAll, table_of, IsSound, IfGives}
use Rattle.model_follows.proofs.CostLemmas.{costs_nothing, ends_then}
use Rattle.model_follows.proofs.ThingLemmas.{form_stays, knows_stays}
use Rattle.model_follows.proofs.ScopeThings.{named_one, known_one, named_bound}
use Rattle.model_follows.proofs.Following.{gives_map, gives_then, unseen, nil_known, sound_less, sound_wider, held_after, after_unreturned, after_unseen, kin_less, kin_wider, kin_then, ends_held, Mine, Stage, Suited, Lawful, Form, Follows, Did, did, stands_after, quiet_after, mine_before}
use Rattle.model_follows.proofs.PartFollowing.{book, AreQuiet, follows_parts, follows_actuals}
use Rattle.model_follows.proofs.PartThings.{elements_are, one_of_several, length_things, length_outputs}
use Rattle.model_follows.proofs.KidFollowing.{follows_stobj_let}
use Rattle.model_follows.proofs.LocalThings.{IsMadeInLogic, new_object}
use Rattle.model_follows.proofs.LocalFollowing.{follows_local}
use Rattle.model_follows.proofs.CalledFollowing.{CallMine, defined_counted, Calling, follows_called, AbstractsFollow}

-- ---- parts that change no stobj

quiet_names : (c : World) (names : List ℕ) (forms : Cores) → list_any (is_stobj_name c) names ≡ false → AreQuiet (name_kinds c names) forms
quiet_names c [] forms e = tt
quiet_names c (x ∷ xs) none e = by_kind (name_kind c x)
  where
    by_kind : (k : Out) → AreQuiet (k ∷ name_kinds c xs) none
    by_kind k = tt
quiet_names c (x ∷ xs) (more form forms) e =
    let both : (is_stobj_name c x ≡ false) × (list_any (is_stobj_name c) xs ≡ false) = neither (is_stobj_name c x) (list_any (is_stobj_name c) xs) e in
    subst (λ (k : Out). AreQuiet (k ∷ name_kinds c xs) (more form forms)) (sym (name_is_ordinary c x both.0)) (quiet_names c xs forms both.1)

variable_is : (x : ℕ) (form : Core) → option_map_or (nat_eq x) (variable form) false ≡ true → form ≡ Var x
variable_is x (Var y) e = ap Var (sym (eqb-true x y e))
variable_is x (Const o) e = false_true e
variable_is x (If a b d) e = false_true e
variable_is x (Let names bound body) e = false_true e
variable_is x (Mv parts) e = false_true e
variable_is x (MvLet names bound body) e = false_true e
variable_is x (StobjLet names bound vars producer consumer) e = false_true e
variable_is x (WithLocal stobj names producer body) e = false_true e
variable_is x (MustBeEqual logic exec) e = false_true e
variable_is x (Call f actuals) e = false_true e

quiet_parts : (kinds : List Out) (forms : Cores) → any_wrong_part kinds forms ≡ false → AreQuiet kinds forms
quiet_parts [] forms e = tt
quiet_parts (k ∷ ks) none e = tt
quiet_parts (Ordinary ∷ ks) (more form forms) e = quiet_parts ks forms e
quiet_parts (worlds.Stobj x ∷ ks) (more form forms) e =
    let both : (not (option_map_or (nat_eq x) (variable form) false) ≡ false) × (any_wrong_part ks forms ≡ false)
    = neither (not (option_map_or (nat_eq x) (variable form) false)) (any_wrong_part ks forms) e in
    (variable_is x form (not_false (option_map_or (nat_eq x) (variable form) false) both.0), quiet_parts ks forms both.1)

module _ (w : World) (base : Ground) (threaded : IsThreaded w) (followed : Lawful w base threaded) (limit : ℕ) (symbols : List QualifiedName) (bg : Extends base.table (table_of base.table.packages symbols)) (abstracts : AbstractsFollow w base threaded followed limit symbols bg) where
  abbrev thy : Theory
  thy = book w base threaded limit symbols

  -- what is said of a form
  abbrev FollowsAt : World → Mode → Scope → Core → Option ℕ → List Out → Variables ℕ → State ℕ → StateOf (Store ℕ) → Values → Outcome ℕ → Type 0
  FollowsAt c mode scope form formal expected variables s t values a =
      Form w base c mode scope form formal expected → Stage w base scope variables s t values → IfGives (Mine w base scope s (form_counted thy form values)) a

  -- a value that is at hand
  mine_now : (scope : Scope) (s : State ℕ) (lists : Held) (logic : Thing) (given : List (Shown ℕ)) → AreKin w base itself scope s.symbols s.stobjs lists → IsSound w base.table scope s.symbols s.stobjs → KnowsAll (length s.symbols) given → logic ≡ one_thing (all_held s.symbols lists given)
      → Mine w base scope s (λ budget nest start. found logic start) given s
  mine_now scope s lists logic given kin sound known e = record {
    last = lists;
    kin = kin;
    sound = sound;
    grown = Extends-self (table_of base.table.packages s.symbols);
    known = known;
    ends = ended_one w (λ budget nest start. found logic start) (all_held s.symbols lists given) (subst (λ (v : Thing). Ends (λ budget nest start. found logic start) v) e (0, costs_nothing logic));
  }

  follows_leaf : (c : World) (mode : Mode) (scope : Scope) (form : Core) (formal : Option ℕ) (expected : List Out) (variables : Variables ℕ) (s : State ℕ) (t : StateOf (Store ℕ)) (values : Values) (a : Outcome ℕ)
      → FollowsAt c mode scope form formal expected variables s t values a
      → FollowsAt c mode scope form formal expected variables s t values (leaf_or (on_lists w threaded base.table.packages limit) (leaf (on_lists w threaded base.table.packages limit) form variables) s a)
  unfolding form_value IsSuited
  follows_leaf c mode scope (Var x) formal expected variables s t values a k form stage =
      go (kind_in scope x) refl (var_in_scope c mode scope x formal expected form.runs form.accepted.0)
    where
      go : (m : Option Out) → kind_in scope x ≡ m → is_some m ≡ true → Mine w base scope s (λ budget nest start. found (value_in values x) start) (variable_in by_number variables x ∷ []) s
      go None e i = false_true i
      go (Some m) e i = mine_now scope s stage.lists (value_in values x) (variable_in by_number variables x ∷ []) stage.kin stage.sound (stage.named.known x m e, tt) (stage.named.same x m e)
  follows_leaf c mode scope (Const o) formal expected variables s t values a k form stage =
      mine_now scope s stage.lists (form_of symbols o) (Plain o ∷ []) stage.kin stage.sound (knows_stays base.table (table_of base.table.packages s.symbols) stage.sound.grown o form.suited, tt)
      (form_stays base.table (table_of base.table.packages symbols) bg o form.suited ∙ sym (form_stays base.table (table_of base.table.packages s.symbols) stage.sound.grown o form.suited))
  follows_leaf c mode scope (If test b d) formal expected variables s t values a k form stage = k form stage
  follows_leaf c mode scope (Let names bind body) formal expected variables s t values a k form stage = k form stage
  follows_leaf c mode scope (Mv parts) formal expected variables s t values a k form stage = k form stage
  follows_leaf c mode scope (MvLet names bind body) formal expected variables s t values a k form stage = k form stage
  follows_leaf c mode scope (StobjLet names forms vars producer consumer) formal expected variables s t values a k form stage = k form stage
  follows_leaf c mode scope (WithLocal stobj names producer body) formal expected variables s t values a k form stage = k form stage
  follows_leaf c mode scope (MustBeEqual logic exec) formal expected variables s t values a k form stage = k form stage
  follows_leaf c mode scope (Call f actuals) formal expected variables s t values a k form stage = k form stage

  -- ---- forms

  module _ (ev : Evaluator ℕ) (el : EvaluatorOf ℕ (Store ℕ)) (h : Meets w threaded base.table.packages limit ev el) (f : Follows w base thy ev) where
    did_form : (c : World) (mode : Mode) (scope : Scope) (form : Core) (formal : Option ℕ) (expected : List Out) → Form w base c mode scope form formal expected
        → (variables : Variables ℕ) (s : State ℕ) (t : StateOf (Store ℕ)) (values : Values) → Stage w base scope variables s t values
        → IfGives (Did w base scope expected s t (form_counted thy form values)) (ev form variables s)
    did_form c mode scope form formal expected is variables s t values stage = did w base threaded limit thy ev el h f c mode scope form formal expected is variables s t values stage

    -- a body, once there are values for its names
    follows_bound : (c : World) (mode : Mode) (scope : Scope) (names : List ℕ) (body : Core) (expected : List Out) (variables : Variables ℕ) (values : Values) (vs : List (Shown ℕ)) (u : State ℕ) (v : StateOf (Store ℕ)) (lists : Held) → AreKin w base itself scope u.symbols u.stobjs lists
        → Form w base c mode (binding c scope names) body None expected → AreVariables scope variables → Stands w scope u.stobjs v.stobjs → AreSame u v → IsSound w base.table scope u.symbols u.stobjs
        → AreOutputs scope (name_kinds c names) vs → KnowsAll (length u.symbols) vs
        → ((x : ℕ) (k : Out) → kind_in scope x ≡ Some k → has names x ≡ false → value_in values x ≡ held u.symbols lists (variable_in by_number variables x))
        → ((x : ℕ) (k : Out) → kind_in scope x ≡ Some k → KnowsShown (length u.symbols) (variable_in by_number variables x))
        → IfGives (Mine w base scope u (form_counted thy body (bind names (all_held u.symbols lists vs) values))) (ev body (bound names vs variables) u)
    follows_bound c mode scope names body expected variables values vs u v lists kin form are stands same sound outputs known before knowns =
        let inner : Scope = binding c scope names in
        let shown : Variables ℕ = bound names vs variables in
        let logic : Counted = form_counted thy body (bind names (all_held u.symbols lists vs) values) in
        let stage : Stage w base inner shown u v (bind names (all_held u.symbols lists vs) values)
        = record {
          are = bound_variables c scope names vs variables outputs are;
          stands = stands_less w (binding c scope names) scope u.stobjs v.stobjs smaller stands;
          same = same;
          sound = sound_less w base (binding c scope names) scope u.symbols u.stobjs smaller sound;
          lists = lists;
          kin = kin_less w base itself (binding c scope names) scope u.symbols u.stobjs lists smaller kin;
          named = named_bound c scope names vs variables u.symbols lists values outputs are known before knowns;
        } in
        gives_map (Did w base inner expected u v logic) (Mine w base scope u logic) (ev body shown u)
        (λ given q e. record {
          last = held_after inner expected lists e.mine.last;
          kin = kin_wider w base inner scope u.symbols q.symbols u.stobjs q.stobjs lists (held_after inner expected lists e.mine.last) (nil_known w base scope u.symbols u.stobjs sound) e.mine.grown sound.known
              (λ x i. unseen w inner expected u v q e.to e.moves x i) (λ x i. after_unseen inner expected lists e.mine.last x i) kin (kin_then w base inner expected shown u v (bind names (all_held u.symbols lists vs) values) logic given q stage e);
          sound = sound_wider w base inner scope u.symbols q.symbols u.stobjs q.stobjs sound e.mine.sound e.mine.grown (λ x i. unseen w inner expected u v q e.to e.moves x i);
          grown = e.mine.grown;
          known = e.mine.known;
          ends = ends_held w base inner expected shown u v (bind names (all_held u.symbols lists vs) values) logic given q stage e;
        })
        (did_form c mode inner body None expected form shown u v (bind names (all_held u.symbols lists vs) values) stage)
      where
        smaller : (x : ℕ) → IsStobj (binding c scope names) x → IsStobj scope x
        smaller x i = bound_objects c scope names vs variables outputs x i

    -- the same once a form gave these values
    follows_body : (c : World) (mode : Mode) (scope : Scope) (names : List ℕ) (body : Core) (expected : List Out) (variables : Variables ℕ) (values : Values) (s : State ℕ) (t : StateOf (Store ℕ)) (logic : Counted) (vs : List (Shown ℕ)) (u : State ℕ)
        → Form w base c mode (binding c scope names) body None expected → (stage : Stage w base scope variables s t values) → (d : Did w base scope (name_kinds c names) s t logic vs u)
        → IfGives (Mine w base scope u (form_counted thy body (bind names (all_held u.symbols (held_after scope (name_kinds c names) stage.lists d.mine.last) vs) values))) (ev body (bound names vs variables) u)
    follows_body c mode scope names body expected variables values s t logic vs u form stage d =
        follows_bound c mode scope names body expected variables values vs u d.to (held_after scope (name_kinds c names) stage.lists d.mine.last) (kin_then w base scope (name_kinds c names) variables s t values logic vs u stage d)
        form stage.are (stands_after w base scope (name_kinds c names) variables s t values logic vs u stage d) d.moves.same d.mine.sound d.outputs d.mine.known
        (λ x k i n. named_one old new d.mine.grown scope variables values stage.lists (held_after scope (name_kinds c names) stage.lists d.mine.last) stage.are stage.named x k i
        (λ o. after_unreturned scope (name_kinds c names) stage.lists d.mine.last x (has_object c names x ∙ rw n refl)))
        (λ x k i. known_one old new d.mine.grown scope variables values stage.lists stage.lists stage.are stage.named x k i)
      where
        old : Table
        old = table_of base.table.packages s.symbols

        new : Table
        new = table_of base.table.packages u.symbols

    -- a stobj that is bound to what one form gives
    follows_object : (c : World) (mode : Mode) (scope : Scope) (names : List ℕ) (forms : Cores) (body : Core) (expected : List Out) (variables : Variables ℕ) (s : State ℕ) (t : StateOf (Store ℕ)) (values : Values)
        → list_any (is_stobj_name c) names ≡ true → nat_eq (length names) 1 ≡ true → Suited w base c → mode ≢ Logic → PartsAccepted c mode scope (name_kinds c names) forms → AreFormed c forms → AreSuited w (length base.table.symbols) forms
        → count forms ≡ length names → Form w base c mode (binding c scope names) body None expected → Stage w base scope variables s t values
        → IfGives (Mine w base scope s (form_counted thy (Let names forms body) values)) (in_order (on_lists w threaded base.table.packages limit) ev forms variables [] (λ given after. ev body (bound names given variables) after) s)
    unfolding form_value AreSuited AreFormed in_order
    follows_object c mode scope [] forms body expected variables s t values e l su n p fs st counted form stage = false_true e
    follows_object c mode scope (x ∷ (y ∷ ys)) forms body expected variables s t values e l su n p fs st counted form stage = absurd (omega (arith, eqb-true (suc (suc (length ys))) 1 l))
    follows_object c mode scope (x ∷ []) none body expected variables s t values e l su n p fs st counted form stage = absurd (omega (arith, counted))
    follows_object c mode scope (x ∷ []) (more g (more i gs)) body expected variables s t values e l su n p fs st counted form stage = absurd (omega (arith, counted))
    follows_object c mode scope (x ∷ []) (more g none) body expected variables s t values e l su n p fs st counted form stage =
        gives_then (Did w base scope (name_kinds c (x ∷ [])) s t (form_counted thy g values)) (Mine w base scope s (form_counted thy (Let (x ∷ []) (more g none) body) values)) (ev g variables s)
        (λ given after. ev body (bound (x ∷ []) (single by_number given ∷ []) variables) after)
        (did_form c mode scope g None (name_kinds c (x ∷ [])) (record { suited_world = su; runs = n; accepted = p.0; formed = fs.0; suited = st.0 }) variables s t values stage)
        after_form
      where
        after_form : (vs : List (Shown ℕ)) (u : State ℕ) → Did w base scope (name_kinds c (x ∷ [])) s t (form_counted thy g values) vs u
            → IfGives (Mine w base scope s (form_counted thy (Let (x ∷ []) (more g none) body) values)) (ev body (bound (x ∷ []) (single by_number vs ∷ []) variables) u)
        after_form [] u d = absurd d.outputs
        after_form (v ∷ (z ∷ zs)) u d = absurd d.outputs.1
        after_form (v ∷ []) u d =
            let thing : Thing = held u.symbols (held_after scope (name_kinds c (x ∷ [])) stage.lists d.mine.last) v in
            gives_map (Mine w base scope u (form_counted thy body (bind (x ∷ []) (thing ∷ []) values))) (Mine w base scope s (form_counted thy (Let (x ∷ []) (more g none) body) values)) (ev body (bound (x ∷ []) (v ∷ []) variables) u)
            (λ given q m. mine_before w base scope s u (form_counted thy body (bind (x ∷ []) (thing ∷ []) values)) (form_counted thy (Let (x ∷ []) (more g none) body) values) given q d.mine.grown
            (λ r j. ends_then (form_counted thy g values) (λ o. form_counted thy body (bind (x ∷ []) (o ∷ []) values)) thing r
            (ended_single w (form_counted thy g values) thing (ends_held w base scope (name_kinds c (x ∷ [])) variables s t values (form_counted thy g values) (v ∷ []) u stage d)) j) m)
            (follows_body c mode scope (x ∷ []) body expected variables values s t (form_counted thy g values) (v ∷ []) u form stage d)

    -- a new stobj
    initial_made : (scope : Scope) (stobj : ℕ) (s : State ℕ) → IsSound w base.table scope s.symbols s.stobjs → HasCreator w stobj ⊎ HasAbstractCreator w stobj → IsMadeInLogic w base threaded followed limit symbols bg ev el h f stobj s.symbols
    initial_made scope stobj s sound (inl creator) = new_object w base threaded followed limit symbols bg ev el h f scope stobj s.symbols s.stobjs sound creator
    initial_made scope stobj s sound (inr creator) =
        let new : (made : Thing) × Ends (λ budget nest start. caller thy budget nest (creator_of (definition w stobj)) [] start) made × Kin w base s.symbols stobj (initial (layout_of w stobj)) made
        = abstracts.makes stobj creator scope s.symbols s.stobjs sound in
        record { made = new.0; makes = new.1; kin = new.2 }

    follows_opened : (c : World) (mode : Mode) (scope : Scope) (form : Core) (formal : Option ℕ) (expected : List Out) (variables : Variables ℕ) (s : State ℕ) (t : StateOf (Store ℕ)) (values : Values)
        → FollowsAt c mode scope form formal expected variables s t values (opened (on_lists w threaded base.table.packages limit) ev form variables s)
    unfolding form_value IsSuited AreFormed in_order
    follows_opened c mode scope (Var x) formal expected variables s t values form stage = tt
    follows_opened c mode scope (Const o) formal expected variables s t values form stage = tt
    follows_opened c mode scope (If test b d) formal expected variables s t values form stage =
        let parts : Accepted c mode scope test None one_ordinary × Accepted c mode scope b None expected × Accepted c mode scope d None expected = of_if c mode scope formal expected test b d form.accepted in
        gives_then (Did w base scope one_ordinary s t (form_counted thy test values)) (Mine w base scope s (form_counted thy (If test b d) values)) (ev test variables s)
        (λ vs after. ev (if is_false (on_lists w threaded base.table.packages limit) vs then d else b) variables after)
        (did_form c mode scope test None one_ordinary (record { suited_world = form.suited_world; runs = form.runs; accepted = parts.0; formed = form.formed.0; suited = form.suited.0 }) variables s t values stage)
        (λ vs u done. after vs u done
        (f.follows c mode scope b None expected (record { suited_world = form.suited_world; runs = form.runs; accepted = parts.1; formed = form.formed.1; suited = form.suited.1 }) variables u done.to values (quiet_after w base scope variables s t values (form_counted thy test values) vs u stage done))
        (f.follows c mode scope d None expected (record { suited_world = form.suited_world; runs = form.runs; accepted = parts.2; formed = form.formed.2; suited = form.suited.2 }) variables u done.to values (quiet_after w base scope variables s t values (form_counted thy test values) vs u stage done)))
      where
        after : (vs : List (Shown ℕ)) (u : State ℕ) → Did w base scope one_ordinary s t (form_counted thy test values) vs u
            → IfGives (Mine w base scope u (form_counted thy b values)) (ev b variables u) → IfGives (Mine w base scope u (form_counted thy d values)) (ev d variables u)
            → IfGives (Mine w base scope s (form_counted thy (If test b d) values)) (ev (if is_false (on_lists w threaded base.table.packages limit) vs then d else b) variables u)
        after [] u done first second = absurd done.outputs
        after (v ∷ (x ∷ xs)) u done first second = absurd done.outputs.1
        after (StobjNamed x ∷ []) u done first second = absurd done.outputs.0
        after (Plain o ∷ []) u done first second =
            by_test (is_nil by_number o) (nil_named (symbol_at u.symbols) (λ n. n < length u.symbols) (is_naming (table_of base.table.packages u.symbols) done.mine.sound.table done.mine.sound.truth) o done.mine.known.0)
          where
            go : Thing → Counted
            go v = λ budget nest start. if is_nil by_name v then form_counted thy d values budget nest start else form_counted thy b values budget nest start

            chosen : (q : Bool) (other : Core) → is_nil by_name (form_of u.symbols o) ≡ q → ((v : Thing) → Ends (form_counted thy other values) v → Ends (go (form_of u.symbols o)) v)
                → IfGives (Mine w base scope u (form_counted thy other values)) (ev other variables u) → IfGives (Mine w base scope s (form_counted thy (If test b d) values)) (ev other variables u)
            chosen q other e i m =
                gives_map (Mine w base scope u (form_counted thy other values)) (Mine w base scope s (form_counted thy (If test b d) values)) (ev other variables u)
                (λ given z r. mine_before w base scope s u (form_counted thy other values) (form_counted thy (If test b d) values) given z done.mine.grown
                (λ v j. ends_then (form_counted thy test values) go (form_of u.symbols o) v (ended_single w (form_counted thy test values) (form_of u.symbols o) done.mine.ends) (i v j)) r) m

            by_test : (q : Bool) → is_nil by_name (form_of u.symbols o) ≡ q → IfGives (Mine w base scope s (form_counted thy (If test b d) values)) (ev (if q then d else b) variables u)
            by_test true e = chosen true d e (λ v j. subst (λ (r : Bool). Ends (λ budget nest start. if r then form_counted thy d values budget nest start else form_counted thy b values budget nest start) v) (sym e) j) second
            by_test false e = chosen false b e (λ v j. subst (λ (r : Bool). Ends (λ budget nest start. if r then form_counted thy d values budget nest start else form_counted thy b values budget nest start) v) (sym e) j) first
    follows_opened c mode scope (Let names forms body) formal expected variables s t values form stage =
        by_names (list_any (is_stobj_name c) names) refl
      where
        parts : PartsAccepted c mode scope (name_kinds c names) forms × Accepted c mode (binding c scope names) body None expected
        parts = of_let c mode scope formal expected names forms body form.accepted

        counted : count forms ≡ length (name_kinds c names)
        counted = form.formed.0 ∙ sym (length_kinds c names)

        body_form : Form w base c mode (binding c scope names) body None expected
        body_form = record { suited_world = form.suited_world; runs = form.runs; accepted = parts.1; formed = form.formed.2; suited = form.suited.1 }

        logic : List Thing → Counted
        logic os = form_counted thy body (bind names os values)

        go : List (Shown ℕ) → State ℕ → Outcome ℕ
        go given after = ev body (bound names given variables) after

        by_names : (q : Bool) → list_any (is_stobj_name c) names ≡ q
            → IfGives (Mine w base scope s (form_counted thy (Let names forms body) values)) (in_order (on_lists w threaded base.table.packages limit) ev forms variables [] go s)
        by_names true e =
            follows_object c mode scope names forms body expected variables s t values e
            (not_false (nat_eq (length names) 1) (subst (λ (q : Bool). (q && not (nat_eq (length names) 1)) ≡ false) e (s4 c mode (here (Let names forms body) scope formal expected) form.runs form.accepted.0)))
            form.suited_world form.runs parts.0 form.formed.1 form.suited.0 form.formed.0 body_form stage
        by_names false e =
            follows_parts w base threaded limit symbols ev el h f c mode scope form.suited_world form.runs variables values (name_kinds c names) forms [] [] go logic s t
            parts.0 form.formed.1 form.suited.0 counted (quiet_names c names forms e) stage
            (λ vs all u v a same st quiet known.
            subst (λ (given : List (Shown ℕ)). IfGives (Mine w base scope u (logic (all_held u.symbols st.lists vs))) (ev body (bound names given variables) u)) (sym same)
            (follows_bound c mode scope names body expected variables values vs u v st.lists st.kin body_form st.are st.stands st.same st.sound a known (λ x k i n. st.named.same x k i) (λ x k i. st.named.known x k i)))
    follows_opened c mode scope (Mv parts) formal expected variables s t values form stage =
        let counted : (not (nat_eq (count parts) (length expected)) ≡ false) × ((any_wrong_part expected parts || repeats (classes.stobjs expected)) ≡ false)
        = neither (not (nat_eq (count parts) (length expected))) (any_wrong_part expected parts || repeats (classes.stobjs expected)) (s9 c mode (here (Mv parts) scope formal expected) form.runs form.accepted.0) in
        let same_count : count parts ≡ length expected = eqb-true (count parts) (length expected) (not_false (nat_eq (count parts) (length expected)) counted.0) in
        follows_parts w base threaded limit symbols ev el h f c mode scope form.suited_world form.runs variables values expected parts [] [] Gives (λ os budget nest start. found (as_list by_name os) start) s t
        (of_mv c mode scope formal expected parts form.accepted) form.formed form.suited.1 same_count (quiet_parts expected parts (neither (any_wrong_part expected parts) (repeats (classes.stobjs expected)) counted.1).0) stage
        (λ vs all u v a same st quiet known.
        subst (λ (given : List (Shown ℕ)). IfGives (Mine w base scope u (λ budget nest start. found (as_list by_name (all_held u.symbols st.lists vs)) start)) (Gives given u)) (sym same)
        (mine_now scope u st.lists (as_list by_name (all_held u.symbols st.lists vs)) vs st.kin st.sound known
        (sym (one_of_several (all_held u.symbols st.lists vs) (subst (λ (n : ℕ). 2 ≤ n) (same_count ∙ sym (length_things u.symbols st.lists vs ∙ length_outputs scope expected vs a)) form.suited.0)))))
    follows_opened c mode scope (MvLet names bnd body) formal expected variables s t values form stage =
        let parts : Accepted c mode scope bnd None (name_kinds c names) × Accepted c mode (binding c scope names) body None expected = of_mv_let c mode scope formal expected names bnd body form.accepted in
        gives_then (Did w base scope (name_kinds c names) s t (form_counted thy bnd values)) (Mine w base scope s (form_counted thy (MvLet names bnd body) values)) (ev bnd variables s)
        (λ given after. ev body (bound names given variables) after)
        (did_form c mode scope bnd None (name_kinds c names) (record { suited_world = form.suited_world; runs = form.runs; accepted = parts.0; formed = form.formed.0; suited = form.suited.1 }) variables s t values stage)
        (λ vs u d.
        let lists : Held = held_after scope (name_kinds c names) stage.lists d.mine.last in
        let things : List Thing = all_held u.symbols lists vs in
        let ended : Ended w (form_counted thy bnd values) things = ends_held w base scope (name_kinds c names) variables s t values (form_counted thy bnd values) vs u stage d in
        let long : length things ≡ length names = length_things u.symbols lists vs ∙ (length_outputs scope (name_kinds c names) vs d.outputs ∙ length_kinds c names) in
        gives_map (Mine w base scope u (form_counted thy body (bind names things values))) (Mine w base scope s (form_counted thy (MvLet names bnd body) values)) (ev body (bound names vs variables) u)
        (λ given q m. mine_before w base scope s u (form_counted thy body (bind names things values)) (form_counted thy (MvLet names bnd body) values) given q d.mine.grown
        (λ r j. ends_then (form_counted thy bnd values) (λ o. form_counted thy body (bind names (element_values names 0 o) values)) ended.value r ended.ends
        (subst (λ (os : List Thing). Ends (form_counted thy body (bind names os values)) r) (sym (ended_elements w (form_counted thy bnd values) things ended names (sym long) form.suited.0)) j)) m)
        (follows_body c mode scope names body expected variables values s t (form_counted thy bnd values) vs u
        (record { suited_world = form.suited_world; runs = form.runs; accepted = parts.1; formed = form.formed.1; suited = form.suited.2 }) stage d))
    follows_opened c mode scope (StobjLet names forms vars producer consumer) formal expected variables s t values form stage =
        follows_stobj_let w base threaded followed limit symbols bg ev el h f c mode scope names forms vars producer consumer formal expected variables s t values form.suited_world form.runs form.accepted form.formed.0 form.formed.1
        form.suited.0 form.suited.1 stage
    follows_opened c mode scope (WithLocal stobj names producer body) formal expected variables s t values form stage =
        follows_local w base threaded followed limit symbols bg ev el h f c mode scope stobj names producer body formal expected variables s t values form.suited_world form.runs form.accepted form.formed.0 form.formed.1
        form.suited.0 (initial_made scope stobj s stage.sound form.suited.1) form.suited.2 form.suited.3 stage
    follows_opened c mode scope (MustBeEqual logic exec) formal expected variables s t values form stage =
        f.follows c mode scope logic None expected
        (record { suited_world = form.suited_world; runs = form.runs; accepted = (of_must_be_equal c mode scope formal expected logic exec form.accepted).0; formed = form.formed.0; suited = form.suited }) variables s t values stage
    follows_opened c mode scope (Call g actuals) formal expected variables s t values form stage =
        let call : IsCalled w threaded base.table.packages limit ev el h c mode scope form.suited_world.suits form.runs variables stage.are g actuals expected
        = called_is w threaded base.table.packages limit ev el h c mode scope form.suited_world.suits form.runs variables stage.are g actuals formal expected form.accepted form.formed.0 in
        follows_actuals w base threaded limit symbols ev el h f c mode scope form.suited_world form.runs variables values stage.are call.signature.ins actuals [] []
        (called (on_lists w threaded base.table.packages limit) ev g) (λ os budget nest start. caller thy budget nest g os start) s t
        (subst (λ (ins : List Out). ActualsAccepted c mode scope ins actuals) call.ins (of_call c mode scope formal expected g actuals form.accepted)) form.formed.1 form.suited call.arity stage
        (λ vs all u v a seen same st quiet known.
        let once : repeats (names_in vs) ≡ false = ap repeats (sym (all_of w threaded base.table.packages limit ev el h c mode scope form.suited_world.suits form.runs variables stage.are (stobj_actuals call.signature.ins actuals) (names_in vs) a.there)) ∙ call.once in
        subst (λ (given : List (Shown ℕ)). IfGives (Mine w base scope u (λ budget nest start. caller thy budget nest g (all_held u.symbols st.lists vs) start)) (called (on_lists w threaded base.table.packages limit) ev g given u)) (sym same)
        (follows_called w base threaded followed limit symbols ev el h f scope bg itself call.signature.ins vs a.arguments seen once g call.signature refl call.runs_there u v
        (record { stands = st.stands; same = st.same; sound = st.sound; known = known; lists = st.lists; kin = st.kin }) (abstract_called vs g call.signature.ins a.arguments seen once)))
      where
        abstract_called : (vs : List (Shown ℕ)) (name : ℕ) (ins : List Out) (a : AreArguments w scope ins vs) (seen : AreSeen base itself ins vs) (r : repeats (names_in vs) ≡ false)
            → (q : FunctionOfAbstract) → definition w name ≡ Some (OfAbstract q) → q.signature.ins ≡ ins → (x : State ℕ) (y : StateOf (Store ℕ)) → (before : Calling w base threaded followed limit symbols ev el h f scope bg itself ins vs a seen r x y)
            → CallMine w base threaded followed limit symbols ev el h f scope bg itself x (defined_counted w base threaded followed limit symbols ev el h f scope bg itself (Some (OfAbstract q)) (all_held x.symbols before.lists vs))
            (of_abstract (on_lists w threaded base.table.packages limit) ev (exec_called (on_lists w threaded base.table.packages limit) ev vs) q q.role vs x)
        abstract_called vs name ins a seen r q there e x y before =
            abstracts.follows ev el h f scope name q vs (subst (λ (ks : List Out). AreArguments w scope ks vs) (sym e) a) (subst (λ (ks : List Out). AreSeen base itself ks vs) (sym e) seen) r there x y
            (record { stands = before.stands; same = before.same; sound = before.sound; known = before.known; lists = before.lists; kin = before.kin })

  -- ---- every depth

  pub follows_evaluated : (d : ℕ) → Follows w base thy (evaluated (on_lists w threaded base.table.packages limit) d)
  unfolding evaluated
  follows_evaluated zero = record {
    follows = λ c mode scope form formal expected is variables s t values stage.
        follows_leaf c mode scope form formal expected variables s t values (stops_here Depth s) (λ i j. tt) is stage;
  }
  follows_evaluated (suc d) = record {
    follows = λ c mode scope form formal expected is variables s t values stage.
        follows_leaf c mode scope form formal expected variables s t values (opened (on_lists w threaded base.table.packages limit) (evaluated (on_lists w threaded base.table.packages limit) d) form variables s)
        (follows_opened (evaluated (on_lists w threaded base.table.packages limit) d) (evaluated (at_places w threaded base.table.packages limit) d) (meets_evaluated w threaded base.table.packages limit d) (follows_evaluated d) c mode scope form formal expected variables s t values) is stage;
  }
