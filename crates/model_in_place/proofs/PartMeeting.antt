-- Forms in order in place and on lists: parts, and the actuals of a call.
use Rattle.std.proofs.Common.{◌≡◌, ℕ, List, [], ◌∷◌, ◌++◌, length, Bool, true, false, Option, Some, None, refl, sym, ap, ◌∙◌, subst, arith}
use Rattle.std.specs.Prelude.{◌≢◌, ◌||◌, ◌&&◌, nat_eq, unwrap_or, option_map, option_and_then}
use Rattle.std.specs.Option.{option_map_or}
use Rattle.std.specs.List.{filter_map}
use Rattle.std.proofs.lemmas.List.{append_assoc}
use Rattle.model_symbols.specs.Symbols.{Package}
use Rattle.model_prims.specs.Kinds.{by_number}
use Rattle.model_terms.specs.declared.rule.Mode.{Mode}
use Rattle.model_terms.specs.declared.rule.Mode.TheVariants.{Logic}
use Rattle.model_terms.specs.Cores.{Core, Cores, none, more, Var, Const, If, Let, Mv, MvLet, StobjLet, WithLocal, MustBeEqual, Call, variable, count}
use Rattle.model_terms.specs.Worlds.{World, Definition, definition, Out, Ordinary, Scope, Signature}
use Rattle.model_terms.specs.Worlds as worlds
use Rattle.model_terms.specs.Classes as classes
use Rattle.model_terms.specs.Classes.{has, repeats, congruent, all_congruent, instance_of, renamed_out}
use Rattle.model_terms.specs.Scopes.{kind_in, kind_of}
use Rattle.model_terms.specs.Outputs.{signature_in, stobj_actuals, all_there, call_outs, outputs, outs}
use Rattle.model_terms.specs.Accessors.{is_internal, is_executable, runs}
use Rattle.model_terms.specs.Sites.{here, one_ordinary, ins_of}
use Rattle.model_terms.specs.Nested.{is_stobj, same_kinds, stands_for}
use Rattle.model_eval.specs.Outcomes.{Shown, Plain, StobjNamed, StateOf, State, OutcomeOf, Outcome, Gives}
use Rattle.model_eval.specs.PlacesKeeping.{Store}
use Rattle.model_eval.specs.Variables.{Variables, variable_in, single}
use Rattle.model_eval.specs.Evaluated.{Evaluator, EvaluatorOf, in_order, called}
use Rattle.model_accepted.specs.Threaded.{IsFormed, AreFormed, HasArity, Runs, Suits, IsThreaded}
use Rattle.model_accepted.specs.StobjScopes.{IsStobj, IsOfKind, AreVariables, AreOutputs}
use Rattle.model_in_place.specs.Standing.{Stands, AreSame}
use Rattle.model_in_place.specs.Writes.{Moves, Meet}
use Rattle.model_in_place.specs.Calls.{names_in, AreArguments}
use Rattle.model_accepted.specs.Accepted.{Accepted, PartsAccepted, ActualsAccepted}
use Rattle.model_accepted.proofs.AcceptLemmas.{of_call, s1, s2, s8, s12, call_runs, kinds_same, false_true, both_true, not_false}
use Rattle.model_accepted.proofs.ScopeLemmas.{some_same, none_some}
use Rattle.model_in_place.proofs.WriteLemmas.{moves_not, moves_wider, moves_then, stands_moved, meets_then}
use Rattle.model_in_place.proofs.CallMeeting.{results, May, on_lists, at_places, Meets}
use Rattle.model_in_place.proofs.ExportMeeting.{meets_called}

-- ---- outputs

pub may_first : (scope : Scope) (k : Out) (ks : List Out) (x : ℕ) → May scope (k ∷ []) x → May scope (k ∷ ks) x
may_first scope Ordinary ks x m = false_true m.0
may_first scope (worlds.Stobj y) ks x m = (go (nat_eq x y) m.0, m.1)
  where
    go : (b : Bool) → (b || false) ≡ true → (b || has (classes.stobjs ks) x) ≡ true
    go true e = refl
    go false e = false_true e

pub may_later : (scope : Scope) (k : Out) (ks : List Out) (x : ℕ) → May scope ks x → May scope (k ∷ ks) x
may_later scope Ordinary ks x m = m
may_later scope (worlds.Stobj y) ks x m = (go (nat_eq x y) m.0, m.1)
  where
    go : (b : Bool) → has (classes.stobjs ks) x ≡ true → (b || has (classes.stobjs ks) x) ≡ true
    go true e = refl
    go false e = e

pub append_nothing : (vs : List (Shown ℕ)) → vs ≡ vs ++ []
append_nothing [] = refl
append_nothing (v ∷ vs) = ap (λ (us : List (Shown ℕ)). v ∷ us) (append_nothing vs)

pub one_there : (form : Core) (x : ℕ) (vs : List (Option ℕ)) (xs : List ℕ) → form ≡ Var x → all_there vs ≡ Some xs → all_there (variable form ∷ vs) ≡ Some (x ∷ xs)
one_there form x vs xs e h = rw (e, h) refl

pub both_hold : (a b : Bool) → a ≡ true → b ≡ true → (a && b) ≡ true
both_hold true b e h = h
both_hold false b e h = e

module _ (w : World) (threaded : IsThreaded w) (packages : List Package) (limit : ℕ) (ev : Evaluator ℕ) (el : EvaluatorOf ℕ (Store ℕ)) (h : Meets w threaded packages limit ev el) (c : World) (mode : Mode) (scope : Scope) (suits : Suits c w) (n : mode ≢ Logic)
    (variables : Variables ℕ) (are : AreVariables scope variables) where
  -- ---- parts

  abbrev pub GoMeets : List Out → (List (Shown ℕ) → Type 0) → List Out → List (Shown ℕ) → (List (Shown ℕ) → State ℕ → Outcome ℕ) → (List (Shown ℕ) → StateOf (Store ℕ) → OutcomeOf ℕ (Store ℕ)) → State ℕ → StateOf (Store ℕ) → Type 0
  GoMeets kinds Are expected done go to s t =
      (vs all : List (Shown ℕ)) (u : State ℕ) (v : StateOf (Store ℕ)) → AreOutputs scope kinds vs → all ≡ done ++ vs → Moves w (May scope kinds) s t u v
      → Meet w Are (May scope expected) (IsStobj scope) u v (go all u) (to all v)

  pub meets_parts : (kinds : List Out) (forms : Cores) (done : List (Shown ℕ)) (Are : List (Shown ℕ) → Type 0) (expected : List Out)
      (go : List (Shown ℕ) → State ℕ → Outcome ℕ) (to : List (Shown ℕ) → StateOf (Store ℕ) → OutcomeOf ℕ (Store ℕ)) (s : State ℕ) (t : StateOf (Store ℕ))
      → PartsAccepted c mode scope kinds forms → AreFormed c forms → count forms ≡ length kinds → ((x : ℕ) → May scope kinds x → May scope expected x)
      → Stands w scope s.stobjs t.stobjs → AreSame s t → GoMeets kinds Are expected done go to s t
      → Meet w Are (May scope expected) (IsStobj scope) s t (in_order (on_lists w threaded packages limit) ev forms variables done go s) (in_order (at_places w threaded packages limit) el forms variables done to t)
  unfolding in_order AreFormed
  meets_parts [] none done Are expected go to s t p formed counted m stands e k = k [] done s t tt (append_nothing done) (moves_not w (Unit {0}) (May scope []) s t e)
  meets_parts (kind ∷ kinds) none done Are expected go to s t p formed counted m stands e k = absurd (omega (arith, counted))
  meets_parts [] (more form forms) done Are expected go to s t p formed counted m stands e k = absurd (omega (arith, counted))
  meets_parts (kind ∷ kinds) (more form forms) done Are expected go to s t p formed counted m stands e k =
      let fewer : count forms ≡ length kinds = omega (arith, counted) in
      meets_then w (AreOutputs scope (kind ∷ [])) Are (May scope (kind ∷ [])) (May scope expected) (IsStobj scope) s t
      (ev form variables s) (el form variables t)
      (λ values after. in_order (on_lists w threaded packages limit) ev forms variables (done ++ single by_number values ∷ []) go after)
      (λ values after. in_order (at_places w threaded packages limit) el forms variables (done ++ single by_number values ∷ []) to after)
      (λ x i. m x (may_first scope kind kinds x i)) (λ x i. i.1)
      (h.meets c mode scope form None (kind ∷ []) suits n p.0 formed.0 variables s t are stands e)
      (λ vs u v i moves.
      meets_parts kinds forms (done ++ single by_number vs ∷ []) Are expected go to u v p.1 formed.1 fewer (λ x j. m x (may_later scope kind kinds x j))
      (stands_moved w scope (May scope (kind ∷ [])) s t u v (λ x j. j.1) stands moves) moves.same
      (λ us all q z j same more.
      k (single by_number vs ∷ us) all q z (one_more vs us i j) (same ∙ append_assoc done (single by_number vs ∷ []) us)
      (moves_then w (Unit {0}) (Unit {0}) (May scope (kind ∷ kinds)) s t u v q z (λ d. d) (moves_wider w (Unit {0}) (May scope (kind ∷ [])) (May scope (kind ∷ kinds)) s t u v (may_first scope kind kinds) moves)
      (moves_wider w (Unit {0}) (May scope kinds) (May scope (kind ∷ kinds)) u v q z (may_later scope kind kinds) more))))
    where
      one_more : (vs us : List (Shown ℕ)) → AreOutputs scope (kind ∷ []) vs → AreOutputs scope kinds us → AreOutputs scope (kind ∷ kinds) (single by_number vs ∷ us)
      one_more [] us i j = absurd i
      one_more (v ∷ vs) us i j = (i.0, j)

  -- ---- actuals

  -- the arguments that actuals give, and the variables that they are
  pub record AreActuals (ins : List Out) (forms : Cores) (vs : List (Shown ℕ)) : Type 0 where
    pub arguments : AreArguments w scope ins vs
    pub there : all_there (stobj_actuals ins forms) ≡ Some (names_in vs)
    pub congruent_ones : all_congruent c (classes.stobjs ins) (names_in vs) ≡ true

  -- an actual in the position of a stobj is its variable
  pub record IsActual (o : ℕ) (form : Core) : Type 0 where
    pub name : ℕ
    pub is : form ≡ Var name
    pub in_scope : IsStobj scope name
    pub shown : variable_in by_number variables name ≡ StobjNamed name
    pub alike : congruent c o name ≡ true

  pub actual_is : (o : ℕ) (form : Core) → option_map_or (λ x. stands_for c scope x o) (variable form) false ≡ true → IsActual o form
  actual_is o (Var x) e =
      let both : (is_stobj (kind_of scope x) ≡ true) × (congruent c o x ≡ true) = both_true (is_stobj (kind_of scope x)) (congruent c o x) e in
      go (kind_in scope x) refl both.0 both.1
    where
      go : (k : Option Out) → kind_in scope x ≡ k → is_stobj (unwrap_or k Ordinary) ≡ true → congruent c o x ≡ true → IsActual o (Var x)
      go None i j l = false_true j
      go (Some Ordinary) i j l = false_true j
      go (Some (worlds.Stobj z)) i j l =
          let is : IsOfKind x (worlds.Stobj z) (variable_in by_number variables x) = are.each x (worlds.Stobj z) i in
          record { name = x; is = refl; in_scope = i ∙ ap (λ (y : ℕ). Some (worlds.Stobj y)) is.0; shown = is.1; alike = l }
  actual_is o (Const p) e = false_true e
  actual_is o (If a b d) e = false_true e
  actual_is o (Let names bound body) e = false_true e
  actual_is o (Mv parts) e = false_true e
  actual_is o (MvLet names bound body) e = false_true e
  actual_is o (StobjLet names bound vars producer consumer) e = false_true e
  actual_is o (WithLocal stobj names producer body) e = false_true e
  actual_is o (MustBeEqual logic exec) e = false_true e
  actual_is o (Call f actuals) e = false_true e

  abbrev Never : ℕ → Type 0
  Never x = ⊥

  pub meets_actuals : (ins : List Out) (forms : Cores) (done : List (Shown ℕ)) (Are : List (Shown ℕ) → Type 0) (expected : List Out)
      (go : List (Shown ℕ) → State ℕ → Outcome ℕ) (to : List (Shown ℕ) → StateOf (Store ℕ) → OutcomeOf ℕ (Store ℕ)) (s : State ℕ) (t : StateOf (Store ℕ))
      → ActualsAccepted c mode scope ins forms → AreFormed c forms → length ins ≡ count forms
      → Stands w scope s.stobjs t.stobjs → AreSame s t
      → ((vs all : List (Shown ℕ)) (u : State ℕ) (v : StateOf (Store ℕ)) → AreActuals ins forms vs → all ≡ done ++ vs → Stands w scope u.stobjs v.stobjs → AreSame u v
      → Meet w Are (May scope expected) (IsStobj scope) u v (go all u) (to all v))
      → Meet w Are (May scope expected) (IsStobj scope) s t (in_order (on_lists w threaded packages limit) ev forms variables done go s) (in_order (at_places w threaded packages limit) el forms variables done to t)
  unfolding in_order AreFormed
  meets_actuals [] none done Are expected go to s t p formed counted stands e k =
      k [] done s t (record { arguments = tt; there = refl; congruent_ones = refl }) (append_nothing done) stands e
  meets_actuals (kind ∷ ins) none done Are expected go to s t p formed counted stands e k = absurd (omega (arith, counted))
  meets_actuals [] (more form forms) done Are expected go to s t p formed counted stands e k = absurd (omega (arith, counted))
  meets_actuals (Ordinary ∷ ins) (more form forms) done Are expected go to s t p formed counted stands e k =
      let fewer : length ins ≡ count forms = omega (arith, counted) in
      meets_then w (AreOutputs scope one_ordinary) Are (May scope one_ordinary) (May scope expected) (IsStobj scope) s t
      (ev form variables s) (el form variables t)
      (λ values after. in_order (on_lists w threaded packages limit) ev forms variables (done ++ single by_number values ∷ []) go after)
      (λ values after. in_order (at_places w threaded packages limit) el forms variables (done ++ single by_number values ∷ []) to after)
      (λ x i. false_true i.0) (λ x i. i.1)
      (h.meets c mode scope form None one_ordinary suits n p.0 formed.0 variables s t are stands e)
      (λ vs u v i moves.
      meets_actuals ins forms (done ++ single by_number vs ∷ []) Are expected go to u v p.1 formed.1 fewer
      (stands_moved w scope (May scope one_ordinary) s t u v (λ x j. j.1) stands moves) moves.same
      (λ us all q z a same st e. k (single by_number vs ∷ us) all q z (one_more vs us i a) (same ∙ append_assoc done (single by_number vs ∷ []) us) st e))
    where
      one_more : (vs us : List (Shown ℕ)) → AreOutputs scope one_ordinary vs → AreActuals ins forms us → AreActuals (Ordinary ∷ ins) (more form forms) (single by_number vs ∷ us)
      one_more [] us i a = absurd i
      one_more (Plain o ∷ vs) us i a = record { arguments = (tt, a.arguments); there = a.there; congruent_ones = a.congruent_ones }
      one_more (StobjNamed y ∷ vs) us i a = absurd i.0
  meets_actuals (worlds.Stobj o ∷ ins) (more form forms) done Are expected go to s t p formed counted stands e k =
      let fewer : length ins ≡ count forms = omega (arith, counted) in
      let actual : IsActual o form = actual_is o form (not_false (option_map_or (λ x. stands_for c scope x o) (variable form) false) (s1 c mode (here form scope (Some o) _) n p.0.0)) in
      let first : ev form variables s ≡ Gives (StobjNamed actual.name ∷ []) s
      = ap (λ (f : Core). ev f variables s) actual.is ∙ (h.of_lists actual.name variables s ∙ ap (λ (v : Shown ℕ). Gives (v ∷ []) s) actual.shown) in
      let second : el form variables t ≡ Gives (StobjNamed actual.name ∷ []) t
      = ap (λ (f : Core). el f variables t) actual.is ∙ (h.of_places actual.name variables t ∙ ap (λ (v : Shown ℕ). Gives (v ∷ []) t) actual.shown) in
      rw (first, second)
      (meets_actuals ins forms (done ++ StobjNamed actual.name ∷ []) Are expected go to s t p.1 formed.1 fewer stands e
      (λ us all q z a same st e.
      k (StobjNamed actual.name ∷ us) all q z
      (record {
        arguments = ((actual.in_scope, suits.layouts o actual.name actual.alike), a.arguments);
        there = one_there form actual.name (stobj_actuals ins forms) (names_in us) actual.is a.there;
        congruent_ones = both_hold (congruent c o actual.name) (all_congruent c (classes.stobjs ins) (names_in us)) actual.alike a.congruent_ones;
      })
      (same ∙ append_assoc done (StobjNamed actual.name ∷ []) us) st e))

  -- ---- calls

  pub all_of : (vs : List (Option ℕ)) (xs : List ℕ) → all_there vs ≡ Some xs → filter_map (λ v. v) vs ≡ xs
  all_of [] xs e = some_same e
  all_of (None ∷ vs) xs e = none_some e
  all_of (Some x ∷ vs) xs e = go (all_there vs) refl e (all_of vs)
    where
      go : (a : Option (List ℕ)) → all_there vs ≡ a → option_map (λ ys. x ∷ ys) a ≡ Some xs → ((ys : List ℕ) → all_there vs ≡ Some ys → filter_map (λ v. v) vs ≡ ys) → x ∷ filter_map (λ v. v) vs ≡ xs
      go None f g later = none_some g
      go (Some ys) f g later = ap (λ (zs : List ℕ). x ∷ zs) (later ys f) ∙ some_same g

  -- what is known of a function that is called
  pub record IsCalled (f : ℕ) (forms : Cores) (expected : List Out) : Type 0 where
    pub signature : Signature
    pub ins : ins_of c f ≡ signature.ins
    pub arity : length signature.ins ≡ count forms
    pub runs_there : Runs w f signature
    pub outs_there : call_outs c signature forms ≡ expected
    pub once : repeats (filter_map (λ v. v) (stobj_actuals signature.ins forms)) ≡ false

  pub called_is : (f : ℕ) (forms : Cores) (formal : Option ℕ) (expected : List Out) → Accepted c mode scope (Call f forms) formal expected → HasArity c f (count forms) → IsCalled f forms expected
  unfolding outputs
  called_is f forms formal expected all arity =
      go (definition c f) refl arity.1 (s12 c mode (here (Call f forms) scope formal expected) n all.0) (call_runs c mode scope f forms formal expected n all.0)
    where
      ins_are : ins_of c f ≡ arity.0.ins
      ins_are = ap (λ (m : Option Signature). option_map_or (λ (s : Signature). s.ins) m []) arity.1

      outs_are : call_outs c arity.0 forms ≡ expected
      outs_are =
          sym (ap (λ (m : Option Signature). unwrap_or (option_map (λ (s : Signature). call_outs c s forms) m) one_ordinary) arity.1)
          ∙ kinds_same (outs c scope (Call f forms)) expected (not_false (same_kinds (outs c scope (Call f forms)) expected) (s8 c mode (here (Call f forms) scope formal expected) n all.0))

      once_is : repeats (filter_map (λ v. v) (stobj_actuals arity.0.ins forms)) ≡ false
      once_is = subst (λ (ins : List Out). repeats (filter_map (λ v. v) (stobj_actuals ins forms)) ≡ false) ins_are (s2 c mode (here (Call f forms) scope formal expected) n all.0)

      go : (d : Option Definition) → definition c f ≡ d → option_and_then signature_in (definition c f) ≡ Some arity.0 → option_map_or (is_internal c) (definition c f) false ≡ false → option_map_or is_executable (definition c f) true ≡ true
          → IsCalled f forms expected
      go None there signed kept runs = none_some (ap (option_and_then signature_in) (sym there) ∙ signed)
      go (Some d) there signed kept runs =
          record {
            signature = arity.0;
            ins = ins_are;
            arity = arity.2;
            runs_there =
                suits.called f d arity.0 there (ap (option_and_then signature_in) (sym there) ∙ signed)
                (ap (λ (m : Option Definition). option_map_or (is_internal c) m false) (sym there) ∙ kept) (ap (λ (m : Option Definition). option_map_or is_executable m true) (sym there) ∙ runs);
            outs_there = outs_are;
            once = once_is;
          }

  -- the outputs of a call are those expected
  pub results_are : (sig : Signature) (forms : Cores) (vs : List (Shown ℕ)) (expected : List Out) → AreActuals sig.ins forms vs → repeats (names_in vs) ≡ false → call_outs c sig forms ≡ expected
      → results sig.ins vs sig.outs ≡ expected
  results_are sig forms vs expected a r e = sym instance_is ∙ e
    where
      instance_is : call_outs c sig forms ≡ results sig.ins vs sig.outs
      instance_is =
          ap (λ (xs : Option (List ℕ)). option_map_or (λ (i : Signature). i.outs) (option_and_then (instance_of c sig) xs) sig.outs) a.there
          ∙ rw (a.congruent_ones, r) refl

  pub meets_call : (f : ℕ) (forms : Cores) (formal : Option ℕ) (expected : List Out) (s : State ℕ) (t : StateOf (Store ℕ)) → Accepted c mode scope (Call f forms) formal expected → IsFormed c (Call f forms)
      → Stands w scope s.stobjs t.stobjs → AreSame s t
      → Meet w (AreOutputs scope expected) (May scope expected) (IsStobj scope) s t
      (in_order (on_lists w threaded packages limit) ev forms variables [] (called (on_lists w threaded packages limit) ev f) s)
      (in_order (at_places w threaded packages limit) el forms variables [] (called (at_places w threaded packages limit) el f) t)
  unfolding AreFormed
  meets_call f forms formal expected s t all formed stands e =
      let call : IsCalled f forms expected = called_is f forms formal expected all formed.0 in
      meets_actuals call.signature.ins forms [] (AreOutputs scope expected) expected
      (called (on_lists w threaded packages limit) ev f) (called (at_places w threaded packages limit) el f) s t
      (subst (λ (ins : List Out). ActualsAccepted c mode scope ins forms) call.ins (of_call c mode scope formal expected f forms all)) formed.1 call.arity stands e
      (λ vs every u v a same st e.
      let once : repeats (names_in vs) ≡ false = ap repeats (sym (all_of (stobj_actuals call.signature.ins forms) (names_in vs) a.there)) ∙ call.once in
      subst (λ (all : List (Shown ℕ)). Meet w (AreOutputs scope expected) (May scope expected) (IsStobj scope) u v (called (on_lists w threaded packages limit) ev f all u) (called (at_places w threaded packages limit) el f all v)) (sym same)
      (subst (λ (outs : List Out). Meet w (AreOutputs scope outs) (May scope outs) (IsStobj scope) u v (called (on_lists w threaded packages limit) ev f vs u) (called (at_places w threaded packages limit) el f vs v))
      (results_are call.signature forms vs expected a once call.outs_there)
      (meets_called w threaded packages limit ev el h scope f call.signature vs call.runs_there a.arguments once u v st e)))
