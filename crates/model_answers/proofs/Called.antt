-- Calls of functions by what they are.
use Rattle.std.proofs.Common.{◌≡◌, ℕ, zero, suc, ◌<◌, List, [], ◌∷◌, map, length, true, false, Option, Some, None, refl, sym, ap, ◌∙◌, subst, arith}
use Rattle.std.specs.Prelude.{replicate, unwrap_or}
use Rattle.model_terms.specs.Worlds.{Abstract, AbstractDescriptor, Concrete, Constant, Defined, Definition, Function, FunctionOfAbstract, Generated, GeneratedFunction, Macro, Named, OfAbstract, Ordinary, Out, Primitive, Scope, Signature, Signed, World, definition}
use Rattle.model_answers.specs.Beside.{AlikeBy, AnswersAs, GoesWith, Run}
use Rattle.model_answers.proofs.Setting.{Answers, kin_of, naming, nils, things}
use Rattle.model_prims.specs.Applied.{Applied, applied, argument}
use Rattle.model_in_place.specs.Calls.{AreArguments, names_in}
use Rattle.model_accepted.specs.Threaded.{AreFormals, IsAdmitted, IsChecked, IsMade, IsThreaded, Runs, layout_of}
use Rattle.model_follows.proofs.FormalThings.{AreSeen}
use Rattle.model_follows.specs.Held.{AreSeenIn}
use Rattle.model_answers.proofs.Calls.{Asked, answers_guarded, answers_scoped}
use Rattle.model_terms.specs.Cores.{Core}
use Rattle.model_follows.specs.Costs.{Counted}
use Rattle.model_follows.proofs.RoleThings.{EachSymbols, layout_field_known}
use Rattle.model_lists.specs.Effects.{Effect, Reads, Refuses, Writes}
use Rattle.model_lists.specs.Lists.{End, StobjList, as_object}
use Rattle.model_eval.specs.Evaluated.{Evaluator, EvaluatorOf, by_definition, called, exec_called, of_abstract, scoped, with_guard}
use Rattle.model_symbols.specs.Growth.{Extends}
use Rattle.model_symbols.proofs.TableLemmas.{Extends-self, Extends-then}
use Rattle.model_follows.proofs.Following.{Follows, Lawful, MineAs, gives_map, gives_moves}
use Rattle.model_eval.specs.Outcomes.{Gives, Guard, Large, Outcome, Plain, Range, Shown, State, StateOf, StobjNamed, Stop, one_more_call, stops_here, Stobjs}
use Rattle.model_follows.proofs.HeldThings.{Ground, all_held, ground_book, itself}
use Rattle.model_follows.proofs.PrimThings.{IfAnswers, primitive_answers, argument_known, argument_named, ordinary_known}
use Rattle.model_follows.specs.Follows.{IfGives, KnowsAll, table_of}
use Rattle.model_follows.specs.FollowedWorlds.{IsMadeFor, IsSuited, KnowsList, LayoutSymbols, before_stobj, ordinary_before, stobj_argument}
use Rattle.model_prims.proofs.ByName.{IsNaming}
use Rattle.model_answers.proofs.Primitives.{IsPrimitive, applied_named}
use Rattle.model_accepted.specs.StobjScopes.{IsStobj, AreOutputs}
use Rattle.model_objects.specs.Named.{Knows}
use Rattle.model_lists.specs.Layouts.{Layout, field_layout, recognizes}
use Rattle.model_in_place.proofs.CallMeeting.{Meets, on_lists, May, at_places, results}
use Rattle.model_objects.specs.Object.{Object}
use Rattle.model_prims.specs.declared.prim.Prim.{Prim}
use Rattle.model_symbols.specs.Symbols.{QualifiedName, form_of, symbol_at}
use Rattle.model_terms.specs.declared.role.Role.{Role}
use Rattle.model_eval.specs.PlacesKeeping.{Store}
use Rattle.model_abstract.specs.Rules.{abstract_primitive}
use Rattle.model_lists.specs.Kinds.{after}
use Rattle.model_answers.proofs.Outcomes.{when_gives, answers_as, answers_gives, answers_stops, together_counted, WhenGives, answers_counting_when, answers_earlier, when_any}
use Rattle.model_answers.proofs.Lists.{beside_at, beside_stays, beside_with}
use Rattle.model_in_place.specs.Example.{written}
use Rattle.model_follows.proofs.PartFollowing.{book}
use Rattle.model_follows.proofs.EffectFollowing.{book_layout, follows_generated, layout_weaker}
use Rattle.model_prims.specs.Kinds.{by_name, by_number}
use Rattle.model_in_place.proofs.WriteLemmas.{counted_same, stands_moved}
use Rattle.model_eval.specs.GeneratedCalls.{effect, effected, generated, list_or_none}
use Rattle.model_answers.proofs.Effects.{effect_named, named_effect}
use Rattle.model_follows.proofs.LayoutThings.{field_layout_named, named_layout}
use Rattle.model_answers.proofs.Naming.{first_named, ordinary_named, values_stay}
use Rattle.model_eval.specs.Variables.{first_stobj, list_of, ordinary, plain, with_list}
use Rattle.model_logic.specs.Logic.{found}
use Rattle.model_terms.specs.Accessors.{is_executable, is_internal, runs}
use Rattle.model_in_place.proofs.ObjectLemmas.{list_written}
use Rattle.model_eval.specs.ListsKeeping.{lists_keeping}
use Rattle.model_logic.specs.LogicFunctions.{logic_generated}
use Rattle.model_abstract.specs.Corresponding.{named_list}
use Rattle.model_eval_laws.specs.Scope.{names}
use Rattle.model_eval_laws.proofs.Lists.{names_write}
use Rattle.model_accepted.proofs.ScopeLemmas.{none_some, some_same}
use Rattle.model_answers.proofs.Forms.{on_names}
use Rattle.model_terms.specs.Sites.{one_ordinary}
use Rattle.model_eval.specs.Checked.{primitive_ended}
use Rattle.model_terms.specs.Classes.{repeats}
use Rattle.model_stobjs.specs.Abstracts.{signature}
use Rattle.model_terms.specs.Outputs.{signature_in}
use Rattle.model_terms.specs.Rounds.{signed}
use Rattle.model_eval.specs.StobjLayouts.{stobj_layout}
use Rattle.model_abstract_books.specs.Answers.{stop_named, shown_named}
use Rattle.model_accepted.proofs.AcceptLemmas.{true_false}
use Rattle.model_in_place.specs.Writes.{AreWrites, Meet, Moves, Write, stobjs_after}
use Rattle.model_in_place.proofs.ExportMeeting.{meets_called}
use Rattle.model_lists.specs.LiveLists.{HasFields}
use Rattle.model_prims.specs.Applied as prims
use Rattle.model_terms.specs.Worlds as worlds
use Rattle.model_terms.specs.declared.role.Role.TheVariants as role

-- ---- functions of concrete stobjs

module _ (g : Ground) where
  -- each stobj among these is seen as it is
  abbrev ArePlain : List Out → Type 0
  ArePlain [] = Unit {0}
  ArePlain (Ordinary ∷ ks) = ArePlain ks
  ArePlain (worlds.Stobj x ∷ ks) = (g.view x ≡ None) × ArePlain ks

  argument_plain : (r : Role) (x : ℕ) → g.view x ≡ None → ArePlain (stobj_argument r x)
  argument_plain role.Recognizer x e = (e, tt)
  argument_plain role.Creator x e = tt
  argument_plain role.FieldRecognizer x e = tt
  argument_plain role.Access x e = (e, tt)
  argument_plain role.Update x e = (e, tt)
  argument_plain role.Length x e = (e, tt)
  argument_plain role.Resize x e = (e, tt)
  argument_plain role.HashGet x e = (e, tt)
  argument_plain role.HashBoundp x e = (e, tt)
  argument_plain role.HashGetBound x e = (e, tt)
  argument_plain role.HashPut x e = (e, tt)
  argument_plain role.HashRem x e = (e, tt)
  argument_plain role.HashCount x e = (e, tt)
  argument_plain role.HashClear x e = (e, tt)

  before_plain : (n : ℕ) (ks : List Out) → ArePlain ks → ArePlain (ordinary_before n ks)
  before_plain zero ks p = p
  before_plain (suc n) ks p = before_plain n ks p

  -- the first stobj among the arguments
  first_plain : (w : World) (scope : Scope) (ks : List Out) (vs : List (Shown ℕ)) (y : ℕ) → ArePlain ks → AreArguments w scope ks vs → AreSeen g itself ks vs → first_stobj vs ≡ Some y → IsStobj scope y × (g.view y ≡ None)
  first_plain w scope [] [] y p a s e = cc
  first_plain w scope [] (v ∷ vs) y p a s e = absurd a
  first_plain w scope (k ∷ ks) [] y p a s e = absurd a
  first_plain w scope (Ordinary ∷ ks) (Plain o ∷ vs) y p a s e = first_plain w scope ks vs y p a.1 s e
  first_plain w scope (Ordinary ∷ ks) (StobjNamed z ∷ vs) y p a s e = absurd a.0
  first_plain w scope (worlds.Stobj x ∷ ks) (Plain o ∷ vs) y p a s e = absurd a.0
  first_plain w scope (worlds.Stobj x ∷ ks) (StobjNamed z ∷ vs) y p a s e =
      let same : z ≡ y = some_same e in (subst (IsStobj scope) same a.0.0, ap g.view (sym same) ∙ (sym s.0 ∙ p.0))

each_ordinary : (n : ℕ) (vs : List (Shown ℕ)) → KnowsAll n vs → EachSymbols (λ s. s < n) (ordinary vs)
each_ordinary n [] k = tt
each_ordinary n (Plain o ∷ vs) k = (k.0, each_ordinary n vs k.1)
each_ordinary n (StobjNamed y ∷ vs) k = each_ordinary n vs k.1

plain_named : (symbols : List QualifiedName) (os : List (Object ℕ)) → plain (map (form_of symbols) os) ≡ map (shown_named symbols) (plain os)
plain_named symbols [] = refl
plain_named symbols (o ∷ os) = ap (λ (r : List (Shown QualifiedName)). Plain (form_of symbols o) ∷ r) (plain_named symbols os)

module _ (w : World) (base : Ground) (threaded : IsThreaded w) (followed : Lawful w base threaded) (limit : ℕ) (symbols : List QualifiedName) (offset : ℕ)
    (ev : Evaluator ℕ) (el : EvaluatorOf ℕ (Store ℕ)) (h : Meets w threaded base.table.packages limit ev el) (f : Follows w base (book w base threaded limit symbols) ev) (av : ℕ → ℕ → Evaluator QualifiedName) (an : Answers w base offset ev av) (scope : Scope)
    (bg : Extends base.table (table_of base.table.packages symbols)) where
  module _ (ins : List Out) (vs : List (Shown ℕ)) (a : AreArguments w scope ins vs) (seen : AreSeen base itself ins vs) (r : repeats (names_in vs) ≡ false) where
    abbrev Here : State ℕ → StateOf (Store ℕ) → State QualifiedName → Type 0
    Here s t b = Asked w base threaded followed limit symbols offset ev el h f av an scope ins vs a seen r s t b

    -- what is said of a call
    abbrev pub Says : State ℕ → State QualifiedName → Outcome ℕ → Run w base → Type 0
    Says s b p run = AnswersAs w base offset s.symbols (names s.stobjs) b.calls p run

    -- what a call gave, and wrote
    pub record Wrote (outs : List Out) (os : Stobjs ℕ) (given : List (Shown ℕ)) (z : State ℕ) : Type 0 where
      pub outputs : AreOutputs scope (results ins vs outs) given
      pub writes : List Write
      pub allowed : AreWrites w (May scope (results ins vs outs)) writes
      pub stobjs : z.stobjs ≡ stobjs_after writes os
      pub fits : (x : ℕ) → IsStobj scope x → HasFields (layout_of w x) (list_of z.stobjs x)

    answers_primitive : (name : ℕ) (arity : ℕ) (p : Prim) → ins ≡ replicate arity Ordinary → (s : State ℕ) (t : StateOf (Store ℕ)) (b : State QualifiedName) → Here s t b
        → Says s b (primitive_ended name vs s (applied (table_of base.table.packages s.symbols) p (ordinary vs))) (λ m k. abstract_primitive base.table.packages name p (map (shown_named s.symbols) vs) b)
    answers_primitive name arity p e s t b c =
        go (applied (table_of base.table.packages s.symbols) p (ordinary vs))
        (primitive_answers w scope arity (table_of base.table.packages s.symbols) p (things b.stobjs) vs c.together.table c.together.truth (subst (λ (ks : List Out). AreArguments w scope ks vs) e a) c.known)
        (rw (ordinary_named s.symbols vs, argument_named s.symbols (naming w base offset s b c.together).at_nil (ordinary vs) 0, argument_named s.symbols (naming w base offset s b c.together).at_nil (ordinary vs) 1, argument_named s.symbols (naming w base offset s b c.together).at_nil (ordinary vs) 2)
        (applied_named (table_of base.table.packages s.symbols) name (map (shown_named s.symbols) vs) b (naming w base offset s b c.together) c.together.table c.together.truth p
        (argument by_number (ordinary vs) 0) (argument by_number (ordinary vs) 1) (argument by_number (ordinary vs) 2) (each 0) (each 1) (each 2)))
      where
        each : (i : ℕ) → Knows (length s.symbols) (argument by_number (ordinary vs) i)
        each i = argument_known (length s.symbols) (nils w base offset s b c.together) (ordinary vs) (ordinary_known (length s.symbols) vs c.known) i

        stops : (stop : Stop ℕ) (run : Outcome QualifiedName) → run ≡ stops_here (stop_named s.symbols stop) b → Says s b (stops_here stop s) (λ m k. run)
        stops stop run q =
            answers_as w base offset s.symbols (names s.stobjs) b.calls 0 (stops_here stop s) (λ m k. stops_here (stop_named s.symbols stop) b) (λ m k. run) (λ m k i j. q) (answers_stops w base offset s b stop c.together)

        go : (q : Applied) → IfAnswers (table_of base.table.packages s.symbols) p (all_held s.symbols (things b.stobjs) vs) q
            → IsPrimitive (table_of base.table.packages s.symbols) name (map (shown_named s.symbols) vs) b q (abstract_primitive base.table.packages name p (map (shown_named s.symbols) vs) b)
            → Says s b (primitive_ended name vs s q) (λ m k. abstract_primitive base.table.packages name p (map (shown_named s.symbols) vs) b)
        go (prims.Stops prims.Guard) q is = stops (Guard name vs) (abstract_primitive base.table.packages name p (map (shown_named s.symbols) vs) b) is
        go (prims.Stops prims.Range) q is = stops (Range name) (abstract_primitive base.table.packages name p (map (shown_named s.symbols) vs) b) is
        go (prims.Stops prims.Large) q is = stops (Large name) (abstract_primitive base.table.packages name p (map (shown_named s.symbols) vs) b) is
        go (prims.Stops prims.Symbols) q is = λ z. true_false z
        go (prims.Gives o now) q is = record {
          after = b;
          together = record {
            table = q.table;
            truth = q.truth;
            grown = Extends-then c.together.grown q.grown;
            lists = beside_stays w base s.symbols now q.grown (nils w base offset s b c.together) s.stobjs b.stobjs c.together.lists;
            outer = c.together.outer;
            calls = c.together.calls;
          };
          more_symbols = q.grown;
          same_names = refl;
          more = omega arith;
          knows = (q.known, tt);
          budget = 0;
          runs = λ m k i j. is;
        }

    answers_defined : (fun : Function) → (admitted : IsAdmitted w fun) → AreSeenIn w base admitted.guard.world → AreSeenIn w base admitted.body.world → fun.signature.ins ≡ ins
        → IsSuited w (length base.table.symbols) fun.guard → IsSuited w (length base.table.symbols) fun.body
        → (s : State ℕ) (t : StateOf (Store ℕ)) (b : State QualifiedName) → Here s t b
        → Says s b (with_guard (on_lists w threaded base.table.packages limit) ev fun.name fun.formals fun.guard vs (scoped (on_lists w threaded base.table.packages limit) ev fun.formals vs fun.body) s)
        (λ m k. with_guard (on_names w base threaded limit symbols offset m k) (av m k) fun.name fun.formals fun.guard (map (shown_named s.symbols) vs) (scoped (on_names w base threaded limit symbols offset m k) (av m k) fun.formals (map (shown_named s.symbols) vs) fun.body) b)
    answers_defined fun admitted guard_seen body_seen same_ins suited_guard suited_body s t b c =
        let guard_here : (x : IsChecked w fun.formals ins fun.guard one_ordinary) × AreSeenIn w base x.world = checked_here fun.formals fun.signature.ins fun.guard one_ordinary same_ins admitted.guard guard_seen in
        let body_here : (x : IsChecked w fun.formals ins fun.body fun.signature.outs) × AreSeenIn w base x.world = checked_here fun.formals fun.signature.ins fun.body fun.signature.outs same_ins admitted.body body_seen in
        let fs : AreFormals fun.formals ins = subst (AreFormals fun.formals) same_ins admitted.formals in
        answers_guarded w base threaded followed limit symbols offset ev el h f av an scope ins vs a seen r fun.formals fs admitted.distinct (λ given u. Unit {0}) fun.name fun.guard
        (scoped (on_lists w threaded base.table.packages limit) ev fun.formals vs fun.body)
        (λ m k. scoped (on_names w base threaded limit symbols offset m k) (av m k) fun.formals (map (shown_named s.symbols) vs) fun.body)
        guard_here.0 guard_here.1 suited_guard s t b c (when_any (with_guard (on_lists w threaded base.table.packages limit) ev fun.name fun.formals fun.guard vs (scoped (on_lists w threaded base.table.packages limit) ev fun.formals vs fun.body) s))
        (λ u v d asked grown same lists whole.
        answers_earlier w base offset s.symbols u.symbols (names s.stobjs) d.calls d.calls grown (omega arith) (scoped (on_lists w threaded base.table.packages limit) ev fun.formals vs fun.body u)
        (λ m k. scoped (on_names w base threaded limit symbols offset m k) (av m k) fun.formals (map (shown_named s.symbols) vs) fun.body d)
        (subst (λ (ns : List ℕ). AnswersAs w base offset u.symbols ns d.calls (scoped (on_lists w threaded base.table.packages limit) ev fun.formals vs fun.body u)
        (λ m k. scoped (on_names w base threaded limit symbols offset m k) (av m k) fun.formals (map (shown_named s.symbols) vs) fun.body d)) same
        (subst (λ (zs : List (Shown QualifiedName)). AnswersAs w base offset u.symbols (names u.stobjs) d.calls (scoped (on_lists w threaded base.table.packages limit) ev fun.formals vs fun.body u)
        (λ m k. scoped (on_names w base threaded limit symbols offset m k) (av m k) fun.formals zs fun.body d)) (values_stay (table_of base.table.packages s.symbols) (table_of base.table.packages u.symbols) grown vs c.known)
        (answers_scoped w base threaded followed limit symbols offset ev el h f av an scope ins vs a seen r fun.formals fs admitted.distinct fun.body fun.signature.outs body_here.0 body_here.1 suited_body u v d asked))))
      where
        checked_here : (formals : List ℕ) (inputs : List Out) (form : Core) (outs : List Out) → inputs ≡ ins → (checked : IsChecked w formals inputs form outs) → AreSeenIn w base checked.world → (x : IsChecked w formals ins form outs) × AreSeenIn w base x.world
        checked_here formals inputs form outs e checked seen_in = subst (λ (ks : List Out). (x : IsChecked w formals ks form outs) × AreSeenIn w base x.world) e (checked, seen_in)

    answers_generated : (os : Stobjs ℕ) (outs : List Out) (g : GeneratedFunction) → IsMade w g → IsMadeFor w g → g.signature.ins ≡ ins → base.view g.stobj ≡ None → (s : State ℕ) (t : StateOf (Store ℕ)) (b : State QualifiedName) → Here s t b → WhenGives (Wrote outs os) (generated lists_keeping by_number g (layout_of w g.stobj) vs s)
        → Says s b (generated lists_keeping by_number g (layout_of w g.stobj) vs s) (λ m k. generated lists_keeping by_name g (stobj_layout (form_of symbols) w g.stobj) (map (shown_named s.symbols) vs) b)
    answers_generated os outs g made for same_ins plain_one s t b c wrote =
        rw (first_named s.symbols vs, ordinary_named s.symbols vs, book_layout w base threaded followed limit symbols scope bg itself s.symbols c.together.grown g.stobj, field_layout_named (symbol_at s.symbols) fn (layout_of w g.stobj))
        (by_first (first_stobj vs) refl wrote
        (follows_generated w base threaded followed limit symbols scope bg itself g vs made for (subst (λ (ks : List Out). AreArguments w scope ks vs) (sym same_ins) a) (subst (λ (ks : List Out). AreSeen base itself ks vs) (sym same_ins) seen)
        plain_one s t (things b.stobjs) (kin_of w base offset scope s t b c.stands c.together) c.stands c.sound c.known))
      where
        fn : ℕ
        fn = unwrap_or g.field 0

        lay : Layout ℕ
        lay = field_layout (unwrap_or g.field 0) (layout_of w g.stobj)

        n : IsNaming (symbol_at s.symbols) (λ q. q < length s.symbols)
        n = naming w base offset s b c.together

        lay_known : LayoutSymbols (λ q. q < length s.symbols) (field_layout (unwrap_or g.field 0) (layout_of w g.stobj))
        lay_known = layout_field_known (λ q. q < length s.symbols) (unwrap_or g.field 0) (layout_of w g.stobj) (layout_weaker base.table (table_of base.table.packages s.symbols) c.together.grown (layout_of w g.stobj) (followed.layouts g.stobj))

        refuses : Says s b (stops_here (Guard g.name vs) s) (λ m k. stops_here (Guard g.name (map (shown_named s.symbols) vs)) b)
        refuses = answers_stops w base offset s b (Guard g.name vs) c.together

        by_effect : (logic : Counted) (x : Option ℕ) (e : Effect ℕ) → ((y : ℕ) → x ≡ Some y → IsStobj scope y × (base.view y ≡ None)) → IfGives (MineAs w base itself scope s logic) (effected lists_keeping g.name vs x s e) → WhenGives (Wrote outs os) (effected lists_keeping g.name vs x s e)
            → Says s b (effected lists_keeping g.name vs x s e) (λ m k. effected lists_keeping g.name (map (shown_named s.symbols) vs) x b (named_effect s.symbols n e))
        by_effect logic x Refuses p mine written = refuses
        by_effect logic x (Reads values) p mine written =
            answers_as w base offset s.symbols (names s.stobjs) b.calls 0 (Gives (plain values) s) (λ m k. Gives (map (shown_named s.symbols) (plain values)) b) (λ m k. Gives (plain (map (form_of s.symbols) values)) b)
            (λ m k i j. ap (λ (zs : List (Shown QualifiedName)). Gives zs b) (plain_named s.symbols values)) (answers_gives w base offset s b (plain values) c.together mine.known)
        by_effect logic None (Writes l) p mine written = refuses
        by_effect logic (Some y) (Writes l) p mine written =
            let here : IsStobj scope y × (base.view y ≡ None) = p y refl in
            record {
              after = record b { stobjs = with_list y (named_list s.symbols l) b.stobjs };
              together = record {
                table = c.together.table;
                truth = c.together.truth;
                grown = c.together.grown;
                lists =
                    beside_with w base s.symbols s.stobjs b.stobjs y l (named_list s.symbols l) c.together.lists
                    (record {
                      fits = subst (HasFields (layout_of w y)) (list_written y l s.stobjs (c.stands.known y here.0)) (written.fits y here.0);
                      recognized = ap (λ (m : StobjList ℕ). recognizes by_number (layout_of w y) (as_object by_number m)) (sym (list_written y l s.stobjs (c.stands.known y here.0))) ∙ mine.sound.recognized y here.0;
                      known = subst (KnowsList (length s.symbols)) (list_written y l s.stobjs (c.stands.known y here.0)) (mine.sound.known y here.0);
                      alike = subst (λ (v : Option AbstractDescriptor). AlikeBy (ground_book w base) v s.symbols l (named_list s.symbols l)) (sym here.1) refl;
                    });
                outer = c.together.outer;
                calls = c.together.calls;
              };
              more_symbols = Extends-self (table_of base.table.packages s.symbols);
              same_names = names_write y l s.stobjs;
              more = omega arith;
              knows = (tt, tt);
              budget = 0;
              runs = λ m k i j. refl;
            }

        by_first : (x : Option ℕ) → first_stobj vs ≡ x → WhenGives (Wrote outs os) (generated lists_keeping by_number g (layout_of w g.stobj) vs s)
            → IfGives (MineAs w base itself scope s (λ budget nest start. found (logic_generated by_name g (stobj_layout (λ (o : Object ℕ). form_of symbols o) w g.stobj) (all_held s.symbols (things b.stobjs) vs)) start)) (generated lists_keeping by_number g (layout_of w g.stobj) vs s)
            → Says s b (generated lists_keeping by_number g (layout_of w g.stobj) vs s)
            (λ m k. effected lists_keeping g.name (map (shown_named s.symbols) vs) (first_stobj vs) b (effect by_name g.role (named_layout (symbol_at s.symbols) (field_layout (unwrap_or g.field 0) (layout_of w g.stobj))) (unwrap_or g.field 0) (map (form_of s.symbols) (ordinary vs)) (list_or_none lists_keeping b.stobjs (first_stobj vs))))
        by_first None e whole mine =
            rw (e, effect_named s.symbols n (unwrap_or g.field 0) (ordinary vs) End (each_ordinary (length s.symbols) vs c.known) tt g.role lay lay_known)
            (by_effect (λ budget nest start. found (logic_generated by_name g (stobj_layout (λ (o : Object ℕ). form_of symbols o) w g.stobj) (all_held s.symbols (things b.stobjs) vs)) start) None (effect by_number g.role lay (unwrap_or g.field 0) (ordinary vs) End) (λ y q. none_some q)
            (subst (λ (z : Option ℕ). IfGives (MineAs w base itself scope s (λ budget nest start. found (logic_generated by_name g (stobj_layout (λ (o : Object ℕ). form_of symbols o) w g.stobj) (all_held s.symbols (things b.stobjs) vs)) start))
            (effected lists_keeping g.name vs z s (effect by_number g.role lay (unwrap_or g.field 0) (ordinary vs) (list_or_none lists_keeping s.stobjs z)))) e mine)
            (subst (λ (z : Option ℕ). WhenGives (Wrote outs os) (effected lists_keeping g.name vs z s (effect by_number g.role lay (unwrap_or g.field 0) (ordinary vs) (list_or_none lists_keeping s.stobjs z)))) e whole))
        by_first (Some y) e whole mine =
            let here : IsStobj scope y × (base.view y ≡ None) = first_plain base w scope ins vs y (subst (ArePlain base) (sym for.ins ∙ same_ins) (before_plain base (before_stobj g.role lay) (stobj_argument g.role g.stobj) (argument_plain base g.role g.stobj plain_one))) a seen e in
            let beside : GoesWith w base s.symbols y (list_of s.stobjs y) (list_of b.stobjs y) = beside_at w base s.symbols s.stobjs b.stobjs y c.together.lists (c.stands.known y here.0) in
            let same : list_of b.stobjs y ≡ named_list s.symbols (list_of s.stobjs y) = sym (subst (λ (v : Option AbstractDescriptor). AlikeBy (ground_book w base) v s.symbols (list_of s.stobjs y) (list_of b.stobjs y)) here.1 beside.alike) in
            rw (e, same, effect_named s.symbols n (unwrap_or g.field 0) (ordinary vs) (list_of s.stobjs y) (each_ordinary (length s.symbols) vs c.known) beside.known g.role lay lay_known)
            (by_effect (λ budget nest start. found (logic_generated by_name g (stobj_layout (λ (o : Object ℕ). form_of symbols o) w g.stobj) (all_held s.symbols (things b.stobjs) vs)) start) (Some y) (effect by_number g.role lay (unwrap_or g.field 0) (ordinary vs) (list_of s.stobjs y))
            (λ z q. subst (λ (x : ℕ). IsStobj scope x × (base.view x ≡ None)) (some_same q) here)
            (subst (λ (z : Option ℕ). IfGives (MineAs w base itself scope s (λ budget nest start. found (logic_generated by_name g (stobj_layout (λ (o : Object ℕ). form_of symbols o) w g.stobj) (all_held s.symbols (things b.stobjs) vs)) start))
            (effected lists_keeping g.name vs z s (effect by_number g.role lay (unwrap_or g.field 0) (ordinary vs) (list_or_none lists_keeping s.stobjs z)))) e mine)
            (subst (λ (z : Option ℕ). WhenGives (Wrote outs os) (effected lists_keeping g.name vs z s (effect by_number g.role lay (unwrap_or g.field 0) (ordinary vs) (list_or_none lists_keeping s.stobjs z)))) e whole))

    -- ---- every function

    answers_definition : (os : Stobjs ℕ) (outs : List Out) (go : FunctionOfAbstract → State ℕ → Outcome ℕ) (to : ℕ → ℕ → FunctionOfAbstract → State QualifiedName → Outcome QualifiedName) (name : ℕ) (sig : Signature) (d : Definition) → sig.ins ≡ ins
        → definition w name ≡ Some d → signature_in d ≡ Some sig → is_internal w d ≡ false → is_executable d ≡ true
        → (s : State ℕ) (t : StateOf (Store ℕ)) (b : State QualifiedName) → Here s t b → WhenGives (Wrote outs os) (by_definition (on_lists w threaded base.table.packages limit) ev go (Some d) name vs s)
        → ((g : FunctionOfAbstract) → d ≡ OfAbstract g → Says s b (go g s) (λ m k. to m k g b))
        → Says s b (by_definition (on_lists w threaded base.table.packages limit) ev go (Some d) name vs s) (λ m k. by_definition (on_names w base threaded limit symbols offset m k) (av m k) (to m k) (Some d) name (map (shown_named s.symbols) vs) b)
    answers_definition os outs go to name sig (Primitive p row) e there signed callable runs s t b c whole k =
        answers_primitive p row.arity row.prim (sym e ∙ ap (λ (z : Signature). z.ins) (sym (some_same signed))) s t b c
    answers_definition os outs go to name sig (Defined fun) e there signed callable runs s t b c whole k =
        let suited : IsSuited w (length base.table.symbols) fun.guard × IsSuited w (length base.table.symbols) fun.body = followed.functions name fun there runs in
        let worlds : AreSeenIn w base (threaded.functions name fun there runs).guard.world × AreSeenIn w base (threaded.functions name fun there runs).body.world = followed.worlds name fun there runs in
        answers_defined fun (threaded.functions name fun there runs) worlds.0 worlds.1 (ap (λ (z : Signature). z.ins) (some_same signed) ∙ e) suited.0 suited.1 s t b c
    answers_definition os outs go to name sig (Macro m formals other) e there signed callable runs s t b c whole k = answers_stops w base offset s b (Guard name vs) c.together
    answers_definition os outs go to name sig (Constant m value) e there signed callable runs s t b c whole k = answers_stops w base offset s b (Guard name vs) c.together
    answers_definition os outs go to name sig (Concrete d class) e there signed callable runs s t b c whole k = answers_stops w base offset s b (Guard name vs) c.together
    answers_definition os outs go to name sig (Generated g) e there signed callable runs s t b c whole k =
        answers_generated os outs g (threaded.made name g there callable) (followed.made name g there callable) (ap (λ (z : Signature). z.ins) (some_same signed) ∙ e) (followed.plain name g there) s t b c whole
    answers_definition os outs go to name sig (Abstract d) e there signed callable runs s t b c whole k = answers_stops w base offset s b (Guard name vs) c.together
    answers_definition os outs go to name sig (OfAbstract g) e there signed callable runs s t b c whole k = k g refl
    answers_definition os outs go to name sig (Named m formals) e there signed callable runs s t b c whole k = answers_stops w base offset s b (Guard name vs) c.together
    answers_definition os outs go to name sig (Signed m formals signature executable) e there signed callable runs s t b c whole k = answers_stops w base offset s b (Guard name vs) c.together

    pub answers_called : (name : ℕ) (sig : Signature) → sig.ins ≡ ins → (there : Runs w name sig) → (s : State ℕ) (t : StateOf (Store ℕ)) (b : State QualifiedName) → Here s t b
        → ((g : FunctionOfAbstract) → definition w name ≡ Some (OfAbstract g) → g.signature ≡ sig → (s : State ℕ) (t : StateOf (Store ℕ)) (b : State QualifiedName) → Here s t b
        → WhenGives (Wrote sig.outs s.stobjs) (of_abstract (on_lists w threaded base.table.packages limit) ev (exec_called (on_lists w threaded base.table.packages limit) ev vs) g g.role vs s)
        → Says s b (of_abstract (on_lists w threaded base.table.packages limit) ev (exec_called (on_lists w threaded base.table.packages limit) ev vs) g g.role vs s)
        (λ m k. of_abstract (on_names w base threaded limit symbols offset m k) (av m k) (exec_called (on_names w base threaded limit symbols offset m k) (av m k) (map (shown_named s.symbols) vs)) g g.role (map (shown_named s.symbols) vs) b))
        → Says s b (called (on_lists w threaded base.table.packages limit) ev name vs s) (λ m k. called (on_names w base threaded limit symbols offset m k) (av m k) name (map (shown_named s.symbols) vs) b)
    unfolding called
    answers_called name sig e there s t b c k =
        answers_counting_when w base offset (Wrote sig.outs s.stobjs) s.symbols (names s.stobjs) limit s b
        (by_definition (on_lists w threaded base.table.packages limit) ev go (definition w name) name vs)
        (λ m k. by_definition (on_names w base threaded limit symbols offset m k) (av m k) (to m k) (definition w name) name (map (shown_named s.symbols) vs))
        wrote
        (subst (λ (d : Option Definition). WhenGives (Wrote sig.outs s.stobjs) (by_definition (on_lists w threaded base.table.packages limit) ev go d name vs (one_more_call s))
        → Says (one_more_call s) (one_more_call b) (by_definition (on_lists w threaded base.table.packages limit) ev go d name vs (one_more_call s))
        (λ m k. by_definition (on_names w base threaded limit symbols offset m k) (av m k) (to m k) d name (map (shown_named s.symbols) vs) (one_more_call b))) (sym there.stands)
        (λ whole. answers_definition s.stobjs sig.outs go to name sig there.there e there.stands there.signed there.callable there.executable (one_more_call s) (one_more_call t) (one_more_call b) asked whole
        (λ g q. k g (there.stands ∙ ap (λ (d : Definition). Some d) q) (abstract_signature there.there g q there.signed) (one_more_call s) (one_more_call t) (one_more_call b) asked
        (subst (λ (d : Definition). WhenGives (Wrote sig.outs s.stobjs) (by_definition (on_lists w threaded base.table.packages limit) ev go (Some d) name vs (one_more_call s))) q whole))))
      where
        go : FunctionOfAbstract → State ℕ → Outcome ℕ
        go fa after = of_abstract (on_lists w threaded base.table.packages limit) ev (exec_called (on_lists w threaded base.table.packages limit) ev vs) fa fa.role vs after

        to : ℕ → ℕ → FunctionOfAbstract → State QualifiedName → Outcome QualifiedName
        to m k fa after = of_abstract (on_names w base threaded limit symbols offset m k) (av m k) (exec_called (on_names w base threaded limit symbols offset m k) (av m k) (map (shown_named s.symbols) vs)) fa fa.role (map (shown_named s.symbols) vs) after

        asked : Here (one_more_call s) (one_more_call t) (one_more_call b)
        asked = record { stands = c.stands; same = counted_same w s t c.same; sound = c.sound; together = together_counted w base offset s b c.together; known = c.known }

        abstract_signature : (d : Definition) (g : FunctionOfAbstract) → d ≡ OfAbstract g → signature_in d ≡ Some sig → g.signature ≡ sig
        abstract_signature d g q signed = some_same (subst (λ (x : Definition). signature_in x ≡ Some sig) q signed)

        wrote : WhenGives (Wrote sig.outs s.stobjs) (called (on_lists w threaded base.table.packages limit) ev name vs s)
        wrote =
            when_gives (Wrote sig.outs s.stobjs) (called (on_lists w threaded base.table.packages limit) ev name vs s)
            (gives_map (λ given z. AreOutputs scope (results ins vs sig.outs) given × ((v : StateOf (Store ℕ)) × Moves w (May scope (results ins vs sig.outs)) s t z v)) (Wrote sig.outs s.stobjs) (called (on_lists w threaded base.table.packages limit) ev name vs s)
            (λ given z m. record {
              outputs = m.0;
              writes = m.1.1.writes;
              allowed = m.1.1.allowed;
              stobjs = m.1.1.stobjs;
              fits = (stands_moved w scope (May scope (results ins vs sig.outs)) s t z m.1.0 (λ x i. i.1) c.stands m.1.1).fits;
            })
            (gives_moves w (AreOutputs scope (results ins vs sig.outs)) (May scope (results ins vs sig.outs)) (IsStobj scope) s t (called (on_lists w threaded base.table.packages limit) ev name vs s) (called (at_places w threaded base.table.packages limit) el name vs t)
            (subst (λ (ks : List Out). Meet w (AreOutputs scope (results ks vs sig.outs)) (May scope (results ks vs sig.outs)) (IsStobj scope) s t (called (on_lists w threaded base.table.packages limit) ev name vs s) (called (at_places w threaded base.table.packages limit) el name vs t)) e
            (meets_called w threaded base.table.packages limit ev el h scope name sig vs there (subst (λ (ks : List Out). AreArguments w scope ks vs) (sym e) a) r s t c.stands c.same))))
