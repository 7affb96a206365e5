-- Calls of functions: guards before bodies, primitives, and functions of stobjs.
use Rattle.std.proofs.Common.{◌≡◌, ℕ, List, [], ◌∷◌, length, Bool, true, false, Option, Some, refl, sym, ap, ◌∙◌, subst}
use Rattle.std.specs.Prelude.{replicate, if◌then◌else◌}
use Rattle.model_symbols.specs.Symbols.{QualifiedName, form_of}
use Rattle.model_symbols.specs.Growth.{Extends}
use Rattle.model_symbols.proofs.TableLemmas.{Extends-self, Extends-then}
use Rattle.model_prims.specs.Applied.{Applied, applied, value_of}
use Rattle.model_prims.specs.Applied as prims
use Rattle.model_prims.specs.declared.prim.Prim.{Prim}
use Rattle.model_terms.specs.Cores.{Core}
use Rattle.model_terms.specs.Worlds.{World, Definition, Function, FunctionOfAbstract, Out, Ordinary, Signature, Scope, definition, Primitive, Defined, Macro, Constant, Concrete, Generated, Abstract, OfAbstract, Named, Signed}
use Rattle.model_terms.specs.Classes.{repeats}
use Rattle.model_terms.specs.Outputs.{signature_in}
use Rattle.model_terms.specs.Accessors.{is_internal, is_executable}
use Rattle.model_terms.specs.Sites.{one_ordinary}
use Rattle.model_eval.specs.Outcomes.{Shown, Guard, Stobjs, StateOf, State, Outcome, one_more_call, stops_here}
use Rattle.model_eval.specs.PlacesKeeping.{Store}
use Rattle.model_eval.specs.Variables.{ordinary, list_of}
use Rattle.model_eval.specs.Evaluated.{Evaluator, EvaluatorOf, scoped, with_guard, by_definition, exec_called, of_abstract, called, is_false}
use Rattle.model_eval.specs.Checked.{primitive_ended}
use Rattle.model_logic.specs.Logic.{Theory, Thing, bind, found, defined_value, logic_of_abstract, creator_of}
use Rattle.model_accepted.specs.Threaded.{layout_of, Runs, AreFormals, IsChecked, IsAdmitted, IsThreaded}
use Rattle.model_in_place.specs.Standing.{Stands, AreSame}
use Rattle.model_in_place.specs.Calls.{names_in, AreArguments}
use Rattle.model_in_place.proofs.WriteLemmas.{stands_moved, counted_same}
use Rattle.model_accepted.proofs.ScopeLemmas.{some_same}
use Rattle.model_in_place.proofs.CallMeeting.{May, on_lists, Meets}
use Rattle.model_follows.specs.Costs.{Counted, caller, form_counted, Ends}
use Rattle.model_follows.specs.FollowedWorlds.{HasAbstractCreator, IsSuited}
use Rattle.model_lists.specs.Layouts.{initial}
use Rattle.model_follows.proofs.EndedLemmas.{ended_one}
use Rattle.model_follows.proofs.HeldThings.{Ground, Held, all_held, Kin, AreKin, itself, kin_same}
use Rattle.model_follows.specs.Follows.{thing_of_list, KnowsAll, table_of, IsSound, IfGives}
use Rattle.model_follows.proofs.CostLemmas.{costs_nothing, ends_call}
use Rattle.model_follows.proofs.ThingLemmas.{all_stay, knows_list_stays, arguments_in, list_stays}
use Rattle.model_follows.proofs.Following.{gives_map, gives_then, gives_counting, unchanged, nil_known, MineAs, AreSeenIn, Lawful, Follows, DidAs, mine_as_before}
use Rattle.model_follows.proofs.PartFollowing.{book, IsQuiet, quiet_things}
use Rattle.model_follows.proofs.FormalThings.{AreSeen}
use Rattle.model_follows.proofs.CallFollowing.{theory, follows_scoped, did_scoped}
use Rattle.model_follows.proofs.EffectFollowing.{follows_generated}
use Rattle.model_follows.proofs.PrimThings.{IfAnswers, primitive_answers}

module _ (w : World) (base : Ground) (threaded : IsThreaded w) (followed : Lawful w base threaded) (limit : ℕ) (symbols : List QualifiedName)
    (ev : Evaluator ℕ) (el : EvaluatorOf ℕ (Store ℕ)) (h : Meets w threaded base.table.packages limit ev el) (f : Follows w base (book w base threaded limit symbols) ev) (scope : Scope) (bg : Extends base.table (table_of base.table.packages symbols)) (seen_as : ℕ → ℕ) where
  abbrev thy : Theory
  thy = theory w base threaded followed limit symbols ev el h f scope seen_as

  -- what a call gives
  abbrev pub CallMine : State ℕ → Counted → Outcome ℕ → Type 0
  CallMine s logic p = IfGives (MineAs w base seen_as scope s logic) p

  -- a function by what it is, as a computation
  abbrev pub defined_counted : Option Definition → List Thing → Counted
  defined_counted d args = λ budget nest start. defined_value thy budget (caller thy budget nest) (logic_of_abstract thy budget (caller thy budget nest)) d args start

  module _ (sig_ins : List Out) (vs : List (Shown ℕ)) (a : AreArguments w scope sig_ins vs) (seen : AreSeen base seen_as sig_ins vs) (r : repeats (names_in vs) ≡ false) where
    -- stobjs and what is known of them and of the arguments, where a call is made
    pub record Calling (s : State ℕ) (t : StateOf (Store ℕ)) : Type 0 where
      pub stands : Stands w scope s.stobjs t.stobjs
      pub same : AreSame s t
      pub sound : IsSound w base.table scope s.symbols s.stobjs
      pub known : KnowsAll (length s.symbols) vs
      pub lists : Held
      pub kin : AreKin w base seen_as scope s.symbols s.stobjs lists

    -- the lists are the same after a guard
    unfoldable calling_after : (logic : Counted) (given : List (Shown ℕ)) (s : State ℕ) (t : StateOf (Store ℕ)) (u : State ℕ) → Calling s t → (d : DidAs w base seen_as scope one_ordinary s t logic given u) → Calling u d.to
    calling_after logic given s t u c d = record {
      lists = c.lists;
      kin = record {
        each = λ x i.
            kin_same w base s.symbols u.symbols (seen_as x) (list_of s.stobjs x) (list_of u.stobjs x) (c.lists x) (c.lists x)
            (ap (thing_of_list u.symbols) (unchanged w scope one_ordinary s t u d.to d.moves x refl)
            ∙ list_stays (table_of base.table.packages s.symbols) (table_of base.table.packages u.symbols) d.mine.grown (list_of s.stobjs x) (nil_known w base scope s.symbols s.stobjs c.sound) (c.sound.known x i))
            refl (c.kin.each x i);
      };
      stands = stands_moved w scope (May scope one_ordinary) s t u d.to (λ x i. i.1) c.stands d.moves;
      same = d.moves.same;
      sound = d.mine.sound;
      known = all_stay (table_of base.table.packages s.symbols) (table_of base.table.packages u.symbols) d.mine.grown vs c.known;
    }

    -- what comes after a guard
    pub follows_guarded : (name : ℕ) (formals : List ℕ) (guard : Core) (logic : Counted) (go : State ℕ → Outcome ℕ) → AreFormals formals sig_ins → repeats formals ≡ false → (checked : IsChecked w formals sig_ins guard one_ordinary) → AreSeenIn w base checked.world → IsSuited w (length base.table.symbols) guard
        → (s : State ℕ) (t : StateOf (Store ℕ)) → (before : Calling s t)
        → ((given : List (Shown ℕ)) (u : State ℕ) (v : StateOf (Store ℕ)) → (after : Calling u v) → IsQuiet w base threaded limit symbols scope s u before.lists after.lists
        → is_false (on_lists w threaded base.table.packages limit) given ≡ false → DidAs w base seen_as scope one_ordinary s t (form_counted thy guard (bind formals (all_held s.symbols before.lists vs) [])) given u → CallMine u logic (go u))
        → CallMine s logic (with_guard (on_lists w threaded base.table.packages limit) ev name formals guard vs go s)
    unfolding calling_after
    follows_guarded name formals guard logic go fs d checked seen_in suited s t c k =
        gives_then (DidAs w base seen_as scope one_ordinary s t (form_counted thy guard (bind formals (all_held s.symbols c.lists vs) []))) (MineAs w base seen_as scope s logic)
        (scoped (on_lists w threaded base.table.packages limit) ev formals vs guard s) (λ test after. if is_false (on_lists w threaded base.table.packages limit) test then stops_here (Guard name vs) after else go after)
        (did_scoped w base threaded followed limit symbols ev el h f scope seen_as formals sig_ins vs fs d a seen r s t c.lists c.kin c.stands c.same c.sound c.known guard one_ordinary checked seen_in suited)
        (λ given u did_it. by_test (is_false (on_lists w threaded base.table.packages limit) given) u
        (λ x. gives_map (MineAs w base seen_as scope u logic) (MineAs w base seen_as scope s logic) (go u) (λ us q m. mine_as_before w base seen_as scope s u logic logic us q did_it.mine.grown (λ v e. e) m)
        (k given u did_it.to (calling_after (form_counted thy guard (bind formals (all_held s.symbols c.lists vs) [])) given s t u c did_it)
        (record { grown = did_it.mine.grown; lists = λ y i. unchanged w scope one_ordinary s t u did_it.to did_it.moves y refl; same = λ y i. refl }) x did_it)) refl)
      where
        by_test : (b : Bool) (u : State ℕ) → (b ≡ false → CallMine s logic (go u)) → b ≡ b → CallMine s logic (if b then stops_here (Guard name vs) u else go u)
        by_test true u m e = tt
        by_test false u m e = m refl

    -- a form that was checked over inputs that are these
    checked_here : (formals : List ℕ) (ins : List Out) (form : Core) (outs : List Out) → ins ≡ sig_ins → (checked : IsChecked w formals ins form outs) → AreSeenIn w base checked.world → (x : IsChecked w formals sig_ins form outs) × AreSeenIn w base x.world
    checked_here formals ins form outs e checked seen_in = subst (λ (ks : List Out). (x : IsChecked w formals ks form outs) × AreSeenIn w base x.world) e (checked, seen_in)

    follows_defined : (fun : Function) → (admitted : IsAdmitted w fun) → AreSeenIn w base admitted.guard.world → AreSeenIn w base admitted.body.world → fun.signature.ins ≡ sig_ins
        → IsSuited w (length base.table.symbols) fun.guard → IsSuited w (length base.table.symbols) fun.body
        → (s : State ℕ) (t : StateOf (Store ℕ)) → (before : Calling s t)
        → CallMine s (form_counted thy fun.body (bind fun.formals (all_held s.symbols before.lists vs) []))
        (with_guard (on_lists w threaded base.table.packages limit) ev fun.name fun.formals fun.guard vs (scoped (on_lists w threaded base.table.packages limit) ev fun.formals vs fun.body) s)
    follows_defined fun admitted guard_seen body_seen same_ins suited_guard suited_body s t c =
        let guard_here : (x : IsChecked w fun.formals sig_ins fun.guard one_ordinary) × AreSeenIn w base x.world = checked_here fun.formals fun.signature.ins fun.guard one_ordinary same_ins admitted.guard guard_seen in
        let body_here : (x : IsChecked w fun.formals sig_ins fun.body fun.signature.outs) × AreSeenIn w base x.world = checked_here fun.formals fun.signature.ins fun.body fun.signature.outs same_ins admitted.body body_seen in
        let fs : AreFormals fun.formals sig_ins = subst (AreFormals fun.formals) same_ins admitted.formals in
        follows_guarded fun.name fun.formals fun.guard (form_counted thy fun.body (bind fun.formals (all_held s.symbols c.lists vs) [])) (scoped (on_lists w threaded base.table.packages limit) ev fun.formals vs fun.body)
        fs admitted.distinct guard_here.0 guard_here.1 suited_guard s t c
        (λ given u v d q tested did_it.
        subst (λ (things : List Thing). CallMine u (form_counted thy fun.body (bind fun.formals things [])) (scoped (on_lists w threaded base.table.packages limit) ev fun.formals vs fun.body u))
        (quiet_things w base threaded limit symbols scope s u c.lists d.lists vs q (arguments_in w scope sig_ins vs a) c.known)
        (follows_scoped w base threaded followed limit symbols ev el h f scope seen_as fun.formals sig_ins vs fs admitted.distinct a seen r u v d.lists d.kin d.stands d.same d.sound d.known fun.body fun.signature.outs
        body_here.0 body_here.1 suited_body))

    follows_primitive : (name : ℕ) (arity : ℕ) (p : Prim) → sig_ins ≡ replicate arity Ordinary → (s : State ℕ) (t : StateOf (Store ℕ)) → (before : Calling s t)
        → CallMine s (λ budget nest start. found (value_of base.table.packages p (all_held s.symbols before.lists vs)) start) (primitive_ended name vs s (applied (record { packages = base.table.packages; symbols = s.symbols }) p (ordinary vs)))
    follows_primitive name arity p e s t c =
        go (applied (record { packages = base.table.packages; symbols = s.symbols }) p (ordinary vs))
        (primitive_answers w scope arity (table_of base.table.packages s.symbols) p c.lists vs c.sound.table c.sound.truth (subst (λ (ins : List Out). AreArguments w scope ins vs) e a) c.known)
      where
        go : (q : Applied) → IfAnswers (table_of base.table.packages s.symbols) p (all_held s.symbols c.lists vs) q
            → CallMine s (λ budget nest start. found (value_of base.table.packages p (all_held s.symbols c.lists vs)) start) (primitive_ended name vs s q)
        go (prims.Stops prims.Guard) q = tt
        go (prims.Stops prims.Range) q = tt
        go (prims.Stops prims.Large) q = tt
        go (prims.Stops prims.Symbols) q = tt
        go (prims.Gives o more) q = record {
          last = c.lists;
          kin = record {
            each = λ x i.
                kin_same w base s.symbols more (seen_as x) (list_of s.stobjs x) (list_of s.stobjs x) (c.lists x) (c.lists x)
                (list_stays (table_of base.table.packages s.symbols) (table_of base.table.packages more) q.grown (list_of s.stobjs x) (nil_known w base scope s.symbols s.stobjs c.sound) (c.sound.known x i)) refl (c.kin.each x i);
          };
          sound = record {
            table = q.table;
            truth = q.truth;
            grown = Extends-then c.sound.grown q.grown;
            known = λ x i. knows_list_stays (table_of base.table.packages s.symbols) (table_of base.table.packages more) q.grown (list_of s.stobjs x) (c.sound.known x i);
            recognized = c.sound.recognized;
          };
          grown = q.grown;
          known = (q.known, tt);
          ends = ended_one w (λ budget nest start. found (value_of base.table.packages p (all_held s.symbols c.lists vs)) start) (form_of more o ∷ []) (subst (λ (v : Thing). Ends (λ budget nest start. found (value_of base.table.packages p (all_held s.symbols c.lists vs)) start) v) q.value (0, costs_nothing (value_of base.table.packages p (all_held s.symbols c.lists vs))));
        }

    pub follows_definition : (go : FunctionOfAbstract → State ℕ → Outcome ℕ) (name : ℕ) (sig : Signature) (d : Definition) → sig.ins ≡ sig_ins
        → definition w name ≡ Some d → signature_in d ≡ Some sig → is_internal w d ≡ false → is_executable d ≡ true
        → (s : State ℕ) (t : StateOf (Store ℕ)) → (before : Calling s t)
        → ((g : FunctionOfAbstract) → d ≡ OfAbstract g → CallMine s (defined_counted (Some (OfAbstract g)) (all_held s.symbols before.lists vs)) (go g s))
        → CallMine s (defined_counted (Some d) (all_held s.symbols before.lists vs)) (by_definition (on_lists w threaded base.table.packages limit) ev go (Some d) name vs s)
    follows_definition go name sig (Primitive p row) e there signed callable runs s t c k =
        follows_primitive p row.arity row.prim (sym e ∙ ap (λ (z : Signature). z.ins) (sym (some_same signed))) s t c
    follows_definition go name sig (Defined fun) e there signed callable runs s t c k =
        let suited : IsSuited w (length base.table.symbols) fun.guard × IsSuited w (length base.table.symbols) fun.body = followed.functions name fun there runs in
        let worlds : AreSeenIn w base (threaded.functions name fun there runs).guard.world × AreSeenIn w base (threaded.functions name fun there runs).body.world = followed.worlds name fun there runs in
        follows_defined fun (threaded.functions name fun there runs) worlds.0 worlds.1 (ap (λ (z : Signature). z.ins) (some_same signed) ∙ e) suited.0 suited.1 s t c
    follows_definition go name sig (Macro m formals body) e there signed callable runs s t c k = tt
    follows_definition go name sig (Constant m value) e there signed callable runs s t c k = tt
    follows_definition go name sig (Concrete d class) e there signed callable runs s t c k = tt
    follows_definition go name sig (Generated g) e there signed callable runs s t c k =
        follows_generated w base threaded followed limit symbols scope bg seen_as g vs (threaded.made name g there callable) (followed.made name g there callable)
        (subst (λ (ins : List Out). AreArguments w scope ins vs) (sym e ∙ ap (λ (z : Signature). z.ins) (sym (some_same signed))) a)
        (subst (λ (ins : List Out). AreSeen base seen_as ins vs) (sym e ∙ ap (λ (z : Signature). z.ins) (sym (some_same signed))) seen) (followed.plain name g there) s t c.lists c.kin c.stands c.sound c.known
    follows_definition go name sig (Abstract d) e there signed callable runs s t c k = tt
    follows_definition go name sig (OfAbstract g) e there signed callable runs s t c k = k g refl
    follows_definition go name sig (Named m formals) e there signed callable runs s t c k = tt
    follows_definition go name sig (Signed m formals signature executable) e there signed callable runs s t c k = tt

    pub follows_called : (name : ℕ) (sig : Signature) → sig.ins ≡ sig_ins → (there : Runs w name sig) → (s : State ℕ) (t : StateOf (Store ℕ)) → (before : Calling s t)
        → ((g : FunctionOfAbstract) → definition w name ≡ Some (OfAbstract g) → g.signature.ins ≡ sig_ins → (s : State ℕ) (t : StateOf (Store ℕ)) → (before : Calling s t)
        → CallMine s (defined_counted (Some (OfAbstract g)) (all_held s.symbols before.lists vs)) (of_abstract (on_lists w threaded base.table.packages limit) ev (exec_called (on_lists w threaded base.table.packages limit) ev vs) g g.role vs s))
        → CallMine s (λ budget nest start. caller thy budget nest name (all_held s.symbols before.lists vs) start) (called (on_lists w threaded base.table.packages limit) ev name vs s)
    unfolding called
    follows_called name sig e there s t c k =
        let go : (FunctionOfAbstract → State ℕ → Outcome ℕ) = λ fa after. of_abstract (on_lists w threaded base.table.packages limit) ev (exec_called (on_lists w threaded base.table.packages limit) ev vs) fa fa.role vs after in
        gives_counting (MineAs w base seen_as scope s (λ budget nest start. caller thy budget nest name (all_held s.symbols c.lists vs) start)) limit s
        (by_definition (on_lists w threaded base.table.packages limit) ev go (definition w name) name vs)
        (gives_map (MineAs w base seen_as scope (one_more_call s) (defined_counted (definition w name) (all_held s.symbols c.lists vs))) _ (by_definition (on_lists w threaded base.table.packages limit) ev go (definition w name) name vs (one_more_call s))
        (λ given u m. mine_as_before w base seen_as scope s (one_more_call s) (defined_counted (definition w name) (all_held s.symbols c.lists vs)) (λ budget nest start. caller thy budget nest name (all_held s.symbols c.lists vs) start) given u
        (Extends-self (table_of base.table.packages s.symbols)) (λ v q. ends_call thy name (all_held s.symbols c.lists vs) v q) m)
        (subst (λ (d : Option Definition). CallMine (one_more_call s) (defined_counted d (all_held s.symbols c.lists vs)) (by_definition (on_lists w threaded base.table.packages limit) ev go d name vs (one_more_call s))) (sym there.stands)
        (follows_definition go name sig there.there e there.stands there.signed there.callable there.executable (one_more_call s) (one_more_call t)
        (record { stands = c.stands; same = counted_same w s t c.same; sound = c.sound; known = c.known; lists = c.lists; kin = c.kin })
        (λ g q. k g (there.stands ∙ ap (λ (d : Definition). Some d) q) (abstract_ins there.there g q there.signed) (one_more_call s) (one_more_call t)
        (record { stands = c.stands; same = counted_same w s t c.same; sound = c.sound; known = c.known; lists = c.lists; kin = c.kin })))))
      where
        abstract_ins : (d : Definition) (g : FunctionOfAbstract) → d ≡ OfAbstract g → signature_in d ≡ Some sig → g.signature.ins ≡ sig_ins
        abstract_ins d g q signed = ap (λ (z : Signature). z.ins) (some_same (subst (λ (x : Definition). signature_in x ≡ Some sig) q signed)) ∙ e

-- ---- functions of abstract stobjs

-- calls of them follow, whatever evaluates forms
pub record AbstractsFollow (w : World) (base : Ground) (threaded : IsThreaded w) (followed : Lawful w base threaded) (limit : ℕ) (symbols : List QualifiedName) (bg : Extends base.table (table_of base.table.packages symbols)) : Type 0 where
  pub follows : (ev : Evaluator ℕ) (el : EvaluatorOf ℕ (Store ℕ)) (h : Meets w threaded base.table.packages limit ev el) (f : Follows w base (book w base threaded limit symbols) ev) (scope : Scope) (name : ℕ) (g : FunctionOfAbstract)
      (vs : List (Shown ℕ)) (a : AreArguments w scope g.signature.ins vs) (seen : AreSeen base itself g.signature.ins vs) (r : repeats (names_in vs) ≡ false) → definition w name ≡ Some (OfAbstract g)
      → (s : State ℕ) (t : StateOf (Store ℕ)) (before : Calling w base threaded followed limit symbols ev el h f scope bg itself g.signature.ins vs a seen r s t)
      → CallMine w base threaded followed limit symbols ev el h f scope bg itself s (defined_counted w base threaded followed limit symbols ev el h f scope bg itself (Some (OfAbstract g)) (all_held s.symbols before.lists vs))
      (of_abstract (on_lists w threaded base.table.packages limit) ev (exec_called (on_lists w threaded base.table.packages limit) ev vs) g g.role vs s)
  -- a new one is made in L, and its list belongs to C's
  pub makes : (stobj : ℕ) → HasAbstractCreator w stobj → (scope : Scope) (now : List QualifiedName) (stobjs : Stobjs ℕ) → IsSound w base.table scope now stobjs
      → (made : Thing) × Ends (λ budget nest start. caller (book w base threaded limit symbols) budget nest (creator_of (definition w stobj)) [] start) made × Kin w base now stobj (initial (layout_of w stobj)) made
