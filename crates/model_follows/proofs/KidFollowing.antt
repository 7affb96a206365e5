-- `STOBJ-LET` in the logic, beside checked evaluation.
use Rattle.std.proofs.Common.{◌≡◌, ℕ, ◌<◌, List, [], ◌∷◌, ◌++◌, map, length, drop, Bool, true, false, Option, Some, None, refl, sym, ap, ◌∙◌, subst, inl, inr}
use Rattle.std.specs.Prelude.{◌≢◌, ◌⊎◌, ◌&&◌, ◌||◌, not, nat_eq, option_map, if◌then◌else◌}
use Rattle.model_symbols.specs.Symbols.{QualifiedName, Table, symbol_at}
use Rattle.model_symbols.specs.Growth.{Extends}
use Rattle.model_symbols.specs.Opening.{nil}
use Rattle.model_symbols.proofs.TableLemmas.{Extends-then}
use Rattle.model_prims.specs.Kinds.{by_number}
use Rattle.model_prims.proofs.FollowLemmas.{is_naming}
use Rattle.model_lists.specs.Lists.{StobjList, as_object}
use Rattle.model_lists.specs.Layouts.{recognizes}
use Rattle.model_terms.specs.declared.rule.Mode.{Mode}
use Rattle.model_terms.specs.declared.rule.Mode.TheVariants.{Logic}
use Rattle.model_terms.specs.Cores.{Core, Cores, StobjLet}
use Rattle.model_terms.specs.Worlds.{World, Definition, GeneratedFunction, Generated, definition, Out, Ordinary, Scope}
use Rattle.model_terms.specs.Worlds as worlds
use Rattle.model_terms.specs.Classes.{has, is_stobj_name}
use Rattle.model_terms.specs.Scopes.{kind_in, name_kind, name_kinds, without, ordinary_names, producer_scope, consumer_scope}
use Rattle.model_terms.specs.Sites.{here, parent_in}
use Rattle.model_eval.specs.Outcomes.{Shown, Plain, StobjNamed, Stobjs, StateOf, State, Outcome, Gives, Stops, Unknown, then_with, counting, one_more_call, stops_here, Guard}
use Rattle.model_eval.specs.PlacesKeeping.{Store}
use Rattle.model_eval.specs.ListsKeeping.{lists_keeping, all_put}
use Rattle.model_eval.specs.Variables.{Variables, variable_in, bound, list_of}
use Rattle.model_eval.specs.Evaluated.{Rules, Evaluator, EvaluatorOf, all_borrowed, put_back, lending, loaned_variables, producing, with_loans, stobj_let_word}
use Rattle.model_logic.specs.Logic.{Theory, Thing, Values, value_in, bind, then_found, form_value, parts_for, spending, with_children, put_loans, with_parent, logic_loans}
use Rattle.model_eval_laws.specs.Scope.{names, is_among}
use Rattle.model_eval_laws.proofs.Lists.{same_number, list_widened}
use Rattle.model_accepted.specs.Threaded.{layout_of, IsFormed, IsThreaded}
use Rattle.model_accepted.specs.StobjScopes.{IsStobj, IsOfKind, AreVariables, AreOutputs}
use Rattle.model_in_place.specs.Writes.{Write, stobjs_after, Moves, writes_beside}
use Rattle.model_accepted.specs.Accepted.{Accepted}
use Rattle.model_accepted.proofs.AcceptLemmas.{not_false, false_true, true_false, of_stobj_let, s13, both_true}
use Rattle.model_in_place.proofs.ObjectLemmas.{equal_or_not, not_equal, list_written, list_other}
use Rattle.model_in_place.proofs.CallLemmas.{names_after}
use Rattle.model_accepted.proofs.ScopeLemmas.{kind_bound, kind_without, has_object, none_some, name_is_object, bound_skips, bound_ordinary, ordinary_not, has_ordinary}
use Rattle.model_in_place.proofs.WriteLemmas.{stands_less, stands_moved}
use Rattle.model_in_place.proofs.LawLemmas.{unwritten}
use Rattle.model_in_place.proofs.CallMeeting.{May, on_lists, Meets, at_places}
use Rattle.model_in_place.proofs.FormMeeting.{length_kinds}
use Rattle.model_prims.proofs.ByName.{IsNaming}
use Rattle.model_objects.specs.Object.{named}
use Rattle.model_terms.specs.Nested.{stobj_let_holds}
use Rattle.model_eval.specs.Keeping.{Loan, taken_back}
use Rattle.model_eval.specs.Lending.{are_twins, indices, lent, put_into_parent}
use Rattle.model_accepted.specs.Loans.{children, merged, raised, loans_among, AreLent, IsInside}
use Rattle.model_in_place.proofs.LoanLemmas.{names_lent, list_beside, put_merged, within_itself}
use Rattle.model_in_place.proofs.RaiseLemmas.{objects_split, stands_lent}
use Rattle.model_in_place.proofs.ProducingMeeting.{lent_s, lent_t, dropped, length_kids, kids_are, within_among, meets_given_back}
use Rattle.model_accepted.proofs.KidLemmas.{IsIndexed, AreLoans, loan_names, are_lent, StobjLetHolds, stobj_let_is, names_bound}
use Rattle.model_accepted.proofs.KidScopes.{bound_names, loaned_kid, loaned_other, producer_objects, producer_variables, consumer_objects, consumer_variables}
use Rattle.model_in_place.proofs.KidMeeting.{parent_is}
use Rattle.model_symbols.specs.Tables.{IsTable}
use Rattle.model_prims.specs.Laws.{NamesTruth}
use Rattle.model_follows.specs.Costs.{Counted, form_counted, Ends}
use Rattle.model_follows.specs.FollowedWorlds.{KnowsList, IsSuited}
use Rattle.model_follows.proofs.EndedLemmas.{Ended, ended_as, ended_parts}
use Rattle.model_follows.proofs.HeldThings.{Ground, Held, held, all_held, Kin, AreKin, itself, AreHeld, kin_plain, plain_kin, kin_same}
use Rattle.model_follows.specs.Follows.{thing_of_list, one_thing, KnowsShown, table_of, IsSound, IfGives}
use Rattle.model_follows.proofs.KidThings.{named_loan, Good, EachLoan, each_loan, each_among, kid_good, kid_other, put_named, raised_good, raised_other}
use Rattle.model_follows.proofs.CostLemmas.{ends_then, ends_spending}
use Rattle.model_follows.proofs.ThingLemmas.{knows_list_stays, list_stays}
use Rattle.model_follows.proofs.PartThings.{length_things, length_outputs}
use Rattle.model_follows.proofs.ScopeThings.{named_one, known_one, bound_thing, bound_known, bound_known_here}
use Rattle.model_follows.proofs.Following.{gives_map, gives_then, gives_both, gives_moves, gives_counting, unchanged, unseen, nil_known, sound_less, sound_wider, held_after, after_unseen, outputs_returned, kin_after, kin_less, kin_wider, Mine, Stage, Suited, Lawful, Follows, Did, did, stands_after}
use Rattle.model_follows.proofs.PartFollowing.{book}
use Rattle.model_follows.proofs.KidParts.{indices_hold, among_has, parents_among, beside_allowed, parts_are, bound_before, not_bound}
use Rattle.model_follows.proofs.KidBorrowing.{are_plain, plain_parent, plain_child, follows_borrowed}

module _ (w : World) (base : Ground) (threaded : IsThreaded w) (followed : Lawful w base threaded) (limit : ℕ) (symbols : List QualifiedName) (bg : Extends base.table (table_of base.table.packages symbols))
    (ev : Evaluator ℕ) (el : EvaluatorOf ℕ (Store ℕ)) (h : Meets w threaded base.table.packages limit ev el) (f : Follows w base (book w base threaded limit symbols) ev) where
  abbrev thy : Theory
  thy = book w base threaded limit symbols

  abbrev rules : Rules ℕ
  rules = on_lists w threaded base.table.packages limit

  -- ---- what comes of the producer

  gives_put : (vars : List ℕ) (ls : List (Loan ℕ)) (given : List (Shown ℕ)) (P : List (Shown ℕ) → State ℕ → Type 0) (x : State ℕ)
      → ((y : State ℕ) → y.stobjs ≡ all_put (loans_among vars ls) x.stobjs → y.symbols ≡ x.symbols → P given y) → IfGives P (put_back rules vars ls (Gives given) x)
  unfolding put_back
  gives_put vars [] given P x k = k x refl refl
  gives_put vars (l ∷ ls) given P x k = go (has vars l.child) k (λ y g. gives_put vars ls given P y g)
    where
      go : (b : Bool) → ((y : State ℕ) → y.stobjs ≡ all_put (if b then l ∷ loans_among vars ls else loans_among vars ls) x.stobjs → y.symbols ≡ x.symbols → P given y)
          → ((y : State ℕ) → ((z : State ℕ) → z.stobjs ≡ all_put (loans_among vars ls) y.stobjs → z.symbols ≡ y.symbols → P given z) → IfGives P (put_back rules vars ls (Gives given) y))
          → IfGives P (if b then counting limit x (λ after. put_back rules vars ls (Gives given) (record after { stobjs = put_into_parent l after.stobjs })) else put_back rules vars ls (Gives given) x)
      go true m rest =
          gives_counting P limit x (λ after. put_back rules vars ls (Gives given) (record after { stobjs = put_into_parent l after.stobjs }))
          (rest (record (one_more_call x) { stobjs = put_into_parent l x.stobjs }) (λ z e g. m z e g))
      go false m rest = rest x m

  pub gives_taken : (ls : List (Loan ℕ)) (R : List (Shown ℕ) → State ℕ → Type 0) (a : Outcome ℕ) → IfGives (λ vs y. R vs (record y { stobjs = drop (length ls) y.stobjs })) a → IfGives R (taken_back lists_keeping ls a)
  gives_taken ls R (Gives vs u) m = m
  gives_taken ls R (Stops stop origin u) m = tt
  gives_taken ls R Unknown m = m

  -- ---- children lent, and the producer

  module _ (c : World) (mode : Mode) (scope : Scope) (ns : List ℕ) (forms : Cores) (vars : List ℕ) (producer consumer : Core) (expected : List Out) (variables : Variables ℕ) (s : State ℕ) (t : StateOf (Store ℕ)) (values : Values)
      (suited_world : Suited w base c) (n : mode ≢ Logic) (holds : StobjLetHolds c scope expected ns forms vars) (stobj : IsStobj scope holds.parent) (plain_p : base.view holds.parent ≡ None)
      (first : Accepted c mode (producer_scope c scope (Some holds.parent) ns) producer None (name_kinds c vars)) (second : Accepted c mode (consumer_scope c scope ns vars) consumer None expected)
      (formed_producer : IsFormed c producer) (formed_consumer : IsFormed c consumer) (suited_producer : IsSuited w (length base.table.symbols) producer) (suited_consumer : IsSuited w (length base.table.symbols) consumer)
      (stage : Stage w base scope variables s t values) (ls : List (Loan ℕ)) (loans : AreLoans w holds.parent (list_of s.stobjs holds.parent) holds.bs ls)
      (ll : logic_loans thy ns forms values ≡ map (named_loan (symbol_at s.symbols)) ls) (twins : are_twins by_number ls ≡ false) where
    abbrev p : ℕ
    p = holds.parent

    abbrev inside : Scope
    inside = producer_scope c scope (Some p) ns

    abbrev outer : Scope
    outer = consumer_scope c scope ns vars

    abbrev whole : Core
    whole = StobjLet ns forms vars producer consumer

    abbrev kinds : List Out
    kinds = name_kinds c vars

    abbrev parent : StobjList ℕ
    parent = list_of s.stobjs p

    same_names : children ls ≡ ns
    same_names = loan_names w p parent (stage.stands.fits p stobj) holds.bs ls loans ∙ names_bound c ns forms holds.bs holds.bound

    lends : AreLent w p parent ls
    lends = are_lent w p parent (stage.stands.fits p stobj) holds.bs ls loans holds.distinct holds.twice twins

    stobj_names : (x : ℕ) → has ns x ≡ true → is_stobj_name c x ≡ true
    stobj_names x i = bound_names c p holds.bs x holds.all (ap (λ (xs : List ℕ). has xs x) (names_bound c ns forms holds.bs holds.bound) ∙ i)

    shown_parent : variable_in by_number variables p ≡ StobjNamed p
    shown_parent = (stage.are.each p (worlds.Stobj p) stobj).1

    old : Table
    old = table_of base.table.packages s.symbols

    naming_at : (now : List QualifiedName) → IsTable (table_of base.table.packages now) → NamesTruth (table_of base.table.packages now) → IsNaming (symbol_at now) (λ q. q < length now)
    naming_at now is names = is_naming (table_of base.table.packages now) is names

    abbrev lent_lists : Stobjs ℕ
    lent_lists = lent ls s.stobjs ++ s.stobjs

    abbrev logic_values : Values
    logic_values = with_children (map (named_loan (symbol_at s.symbols)) ls) values

    value_parent : value_in values p ≡ thing_of_list s.symbols parent
    value_parent =
        stage.named.same p (worlds.Stobj p) stobj ∙ (ap (held s.symbols stage.lists) shown_parent ∙ plain_kin w base s.symbols p parent (stage.lists p) plain_p (stage.kin.each p stobj))

    plain_kid : (x : ℕ) → has (children ls) x ≡ true → base.view x ≡ None
    plain_kid x i =
        plain_child w base threaded followed limit symbols bg ev el h f p holds.bs x (are_plain w base threaded followed limit symbols bg ev el h f c p ns forms holds.bs suited_world.seen holds.bound holds.all) (ap (λ (xs : List ℕ). has xs x) (sym (loan_names w p parent (stage.stands.fits p stobj) holds.bs ls loans)) ∙ i)

    each : EachLoan w p parent (symbol_at s.symbols) (λ q. q < length s.symbols) (naming_at s.symbols stage.sound.table stage.sound.truth) (stage.stands.fits p stobj) (stage.sound.recognized p stobj) (stage.sound.known p stobj) ls
    each = each_loan w p parent (symbol_at s.symbols) (λ q. q < length s.symbols) (naming_at s.symbols stage.sound.table stage.sound.truth) (stage.stands.fits p stobj) (stage.sound.recognized p stobj) (stage.sound.known p stobj) holds.bs ls loans

    kid : (x : ℕ) → has (children ls) x ≡ true
        → Good w p parent (symbol_at s.symbols) (λ q. q < length s.symbols) (naming_at s.symbols stage.sound.table stage.sound.truth) (stage.stands.fits p stobj) (stage.sound.recognized p stobj) (stage.sound.known p stobj) x (list_of lent_lists x)
        × (value_in logic_values x ≡ thing_of_list s.symbols (list_of lent_lists x))
    kid x i =
        kid_good w p parent (symbol_at s.symbols) (λ q. q < length s.symbols) (naming_at s.symbols stage.sound.table stage.sound.truth) (stage.stands.fits p stobj) (stage.sound.recognized p stobj) (stage.sound.known p stobj)
        ls s.stobjs s.stobjs values x each refl value_parent i

    beside_list : (x : ℕ) → has (children ls) x ≡ false → list_of lent_lists x ≡ list_of s.stobjs x
    beside_list x i = list_beside (lent ls s.stobjs) s.stobjs x (ap (is_among x) (names_lent ls s.stobjs) ∙ i)

    inside_sound : IsSound w base.table inside s.symbols lent_lists
    inside_sound = record {
      table = stage.sound.table;
      truth = stage.sound.truth;
      grown = stage.sound.grown;
      known = λ x i. known_by x (producer_objects c scope p ns ls same_names x i);
      recognized = λ x i. recognized_by x (producer_objects c scope p ns ls same_names x i);
    }
      where
        known_by : (x : ℕ) → IsInside scope p ls x → KnowsList (length s.symbols) (list_of lent_lists x)
        known_by x (inl i) = (kid x i).0.known
        known_by x (inr i) = subst (KnowsList (length s.symbols)) (sym (beside_list x i.0)) (stage.sound.known x i.2)

        recognized_by : (x : ℕ) → IsInside scope p ls x → recognizes by_number (layout_of w x) (as_object by_number (list_of lent_lists x)) ≡ true
        recognized_by x (inl i) = (kid x i).0.recognized
        recognized_by x (inr i) = ap (λ (m : StobjList ℕ). recognizes by_number (layout_of w x) (as_object by_number m)) (beside_list x i.0) ∙ stage.sound.recognized x i.2

    abbrev inner_lists : Held
    inner_lists = λ x. if has (children ls) x then thing_of_list s.symbols (list_of lent_lists x) else stage.lists x

    inside_kin : AreKin w base itself inside s.symbols lent_lists inner_lists
    inside_kin = record { each = λ x i. go x (producer_objects c scope p ns ls same_names x i) }
      where
        go : (x : ℕ) → IsInside scope p ls x → Kin w base s.symbols x (list_of lent_lists x) (inner_lists x)
        go x (inl i) = rw i (kin_plain w base s.symbols x (list_of lent_lists x) (plain_kid x i))
        go x (inr i) =
            kin_same w base s.symbols s.symbols x (list_of s.stobjs x) (list_of lent_lists x) (stage.lists x) (inner_lists x) (ap (thing_of_list s.symbols) (beside_list x i.0))
            (ap (λ (b : Bool). if b then thing_of_list s.symbols (list_of lent_lists x) else stage.lists x) i.0) (stage.kin.each x i.2)

    abbrev loaned : Variables ℕ
    loaned = loaned_variables rules ls variables

    -- a name in the producer's scope that is no child was in scope, and is not the parent
    was_around : (x : ℕ) (k : Out) → kind_in inside x ≡ Some k → has (children ls) x ≡ false → kind_in scope x ≡ Some k
    was_around x k i e = go (nat_eq x p) (sym (kind_without (p ∷ []) scope x) ∙ sym (ap (λ (b : Bool). if b then Some (name_kind c x) else kind_in (without (p ∷ []) scope) x) (ap (λ (xs : List ℕ). has xs x) (sym same_names) ∙ e)) ∙ (sym (kind_bound c (without (p ∷ []) scope) ns x) ∙ i))
      where
        go : (b : Bool) → (if b || false then None else kind_in scope x) ≡ Some k → kind_in scope x ≡ Some k
        go true g = none_some g
        go false g = g

    inside_named : AreHeld inside loaned s.symbols inner_lists logic_values
    inside_named = record { known = λ x k i. known_by x k i (has (children ls) x) refl; same = λ x k i. same_by x k i (has (children ls) x) refl }
      where
        known_by : (x : ℕ) (k : Out) → kind_in inside x ≡ Some k → (b : Bool) → has (children ls) x ≡ b → KnowsShown (length s.symbols) (variable_in by_number loaned x)
        known_by x k i true e = subst (KnowsShown (length s.symbols)) (sym (loaned_kid ls variables x e)) tt
        known_by x k i false e = subst (KnowsShown (length s.symbols)) (sym (loaned_other ls variables x e)) (stage.named.known x k (was_around x k i e))

        passed : (x : ℕ) (k : Out) (v : Shown ℕ) → has (children ls) x ≡ false → IsOfKind x k v → held s.symbols stage.lists v ≡ held s.symbols inner_lists v
        passed x k (Plain o) e i = refl
        passed x Ordinary (StobjNamed y) e i = absurd i
        passed x (worlds.Stobj z) (StobjNamed y) e i = sym (ap (λ (b : Bool). if b then thing_of_list s.symbols (list_of lent_lists y) else stage.lists y) (ap (has (children ls)) (same i.1) ∙ e))
          where
            same : ◌≡◌ {A = Shown ℕ} (StobjNamed y) (StobjNamed x) → y ≡ x
            same g = cc

        same_by : (x : ℕ) (k : Out) → kind_in inside x ≡ Some k → (b : Bool) → has (children ls) x ≡ b → value_in logic_values x ≡ held s.symbols inner_lists (variable_in by_number loaned x)
        same_by x k i true e = (kid x e).1 ∙ (sym (ap (λ (b : Bool). if b then thing_of_list s.symbols (list_of lent_lists x) else stage.lists x) e) ∙ sym (ap (held s.symbols inner_lists) (loaned_kid ls variables x e)))
        same_by x k i false e =
            kid_other w p parent (symbol_at s.symbols) (λ q. q < length s.symbols) (naming_at s.symbols stage.sound.table stage.sound.truth) (stage.stands.fits p stobj) (stage.sound.recognized p stobj) (stage.sound.known p stobj) ls values x e
            ∙ (stage.named.same x k (was_around x k i e) ∙ (passed x k (variable_in by_number variables x) e (stage.are.each x k (was_around x k i e)) ∙ sym (ap (held s.symbols inner_lists) (loaned_other ls variables x e))))

    abbrev start_s : State ℕ
    start_s = lent_s w threaded base.table.packages limit scope p stobj s t stage.stands ls lends

    abbrev start_t : StateOf (Store ℕ)
    start_t = lent_t w threaded base.table.packages limit scope p stobj s t stage.stands ls lends

    inside_stage : Stage w base inside loaned start_s start_t logic_values
    inside_stage = record {
      are = producer_variables c scope p ns ls same_names variables stobj_names stage.are;
      stands = stands_lent w scope inside p stobj s.stobjs t.stobjs ls stage.stands lends (producer_objects c scope p ns ls same_names);
      same = record { symbols = stage.same.symbols; calls = stage.same.calls; outer = stage.same.outer };
      sound = inside_sound;
      lists = inner_lists;
      kin = inside_kin;
      named = inside_named;
    }

    abbrev logic : Counted
    logic = form_counted thy producer logic_values

    did_producer : IfGives (Did w base inside kinds start_s start_t logic) (ev producer loaned start_s)
    did_producer =
        did w base threaded limit thy ev el h f c mode inside producer None kinds (record { suited_world = suited_world; runs = n; accepted = first; formed = formed_producer; suited = suited_producer }) loaned start_s start_t logic_values inside_stage

    child_now : (x : ℕ) → May inside kinds x → (has vars x ≡ true) × (has (children ls) x ≡ true)
    child_now x i =
        let named : (has vars x ≡ true) × (is_stobj_name c x ≡ true) = both_true (has vars x) (is_stobj_name c x) (sym (has_object c vars x) ∙ i.0) in
        (named.0, ap (λ (xs : List ℕ). has xs x) same_names ∙ holds.children_only x named.0 named.1)

    -- what is known after the children are back
    record Back (vs : List (Shown ℕ)) (q : State ℕ) : Type 0 where
      u : State ℕ
      done : Did w base inside kinds start_s start_t logic vs u
      lists : q.stobjs ≡ drop (length ls) (all_put (loans_among vars ls) u.stobjs)
      names_same : q.symbols ≡ u.symbols
      to : StateOf (Store ℕ)
      moves : Moves w (May scope expected) s t q to

    gives_back : IfGives Back (producing rules ev vars producer variables ls s)
    gives_back =
        gives_map (λ vs q. (AreOutputs inside kinds vs × ((v : StateOf (Store ℕ)) × Moves w (May scope expected) s t q v))
        × ((u : State ℕ) × Did w base inside kinds start_s start_t logic vs u × (q.stobjs ≡ drop (length ls) (all_put (loans_among vars ls) u.stobjs)) × (q.symbols ≡ u.symbols)))
        Back (producing rules ev vars producer variables ls s)
        (λ vs q m. record { u = m.1.0; done = m.1.1; lists = m.1.2; names_same = m.1.3; to = m.0.1.0; moves = m.0.1.1 })
        (gives_both (λ vs q. AreOutputs inside kinds vs × ((v : StateOf (Store ℕ)) × Moves w (May scope expected) s t q v))
        (λ vs q. (u : State ℕ) × Did w base inside kinds start_s start_t logic vs u × (q.stobjs ≡ drop (length ls) (all_put (loans_among vars ls) u.stobjs)) × (q.symbols ≡ u.symbols))
        (producing rules ev vars producer variables ls s)
        (gives_moves w (AreOutputs inside kinds) (May scope expected) (IsStobj scope) s t (producing rules ev vars producer variables ls s) (producing (at_places w threaded base.table.packages limit) el vars producer variables ls t)
        (meets_given_back w threaded base.table.packages limit scope p stobj s t stage.stands ls lends (AreOutputs inside kinds) (May inside kinds) (IsStobj inside) (May scope expected) vars
        (λ x i. let now : (has vars x ≡ true) × (has (children ls) x ≡ true) = child_now x i in
        (now.0, now.1, (holds.parent_out x now.0 (ap (λ (xs : List ℕ). has xs x) (sym same_names) ∙ now.1), stobj)))
        (producer_objects c scope p ns ls same_names)
        (ev producer loaned (lending rules ls s)) (el producer (loaned_variables (at_places w threaded base.table.packages limit) ls variables) (lending (at_places w threaded base.table.packages limit) ls t))
        (h.meets c mode inside producer None kinds suited_world.suits n first formed_producer loaned start_s start_t inside_stage.are inside_stage.stands inside_stage.same)))
        (gives_taken ls (λ vs q. (u : State ℕ) × Did w base inside kinds start_s start_t logic vs u × (q.stobjs ≡ drop (length ls) (all_put (loans_among vars ls) u.stobjs)) × (q.symbols ≡ u.symbols))
        (then_with (ev producer loaned (lending rules ls s)) (λ given after. put_back rules vars ls (Gives given) after))
        (gives_then (Did w base inside kinds start_s start_t logic)
        (λ vs y. (u : State ℕ) × Did w base inside kinds start_s start_t logic vs u × (drop (length ls) y.stobjs ≡ drop (length ls) (all_put (loans_among vars ls) u.stobjs)) × (y.symbols ≡ u.symbols))
        (ev producer loaned (lending rules ls s)) (λ given after. put_back rules vars ls (Gives given) after) did_producer
        (λ vs u d. gives_put vars ls vs
        (λ vs y. (u : State ℕ) × Did w base inside kinds start_s start_t logic vs u × (drop (length ls) y.stobjs ≡ drop (length ls) (all_put (loans_among vars ls) u.stobjs)) × (y.symbols ≡ u.symbols)) u
        (λ y e g. (u, d, ap (drop (length ls)) e, g))))))

    -- ---- the consumer

    module _ (vs : List (Shown ℕ)) (q : State ℕ) (bk : Back vs q) where
      abbrev u : State ℕ
      u = bk.u

      abbrev new : Table
      new = table_of base.table.packages u.symbols

      grown : Extends (table_of base.table.packages s.symbols) (table_of base.table.packages u.symbols)
      grown = bk.done.mine.grown

      nils : nil < length s.symbols
      nils = nil_known w base scope s.symbols s.stobjs stage.sound

      abbrev writes : List Write
      writes = bk.done.moves.writes

      abbrev kids : Stobjs ℕ
      kids = stobjs_after writes (lent ls s.stobjs)

      abbrev others : Stobjs ℕ
      others = stobjs_after (writes_beside (children ls) writes) s.stobjs

      abbrev lsv : List (Loan ℕ)
      lsv = loans_among vars ls

      abbrev after : Stobjs ℕ
      after = raised p lsv kids others

      kid_names : names kids ≡ children ls
      kid_names = names_after writes (lent ls s.stobjs) ∙ names_lent ls s.stobjs

      u_is : u.stobjs ≡ kids ++ others
      u_is = bk.done.moves.stobjs ∙ objects_split (children ls) writes (lent ls s.stobjs) s.stobjs (names_lent ls s.stobjs)

      parent_there : is_among p (names others) ≡ true
      parent_there = ap (is_among p) (names_after (writes_beside (children ls) writes) s.stobjs) ∙ stage.stands.known p stobj

      q_is : q.stobjs ≡ after
      q_is =
          bk.lists
          ∙ (ap (drop (length ls))
          (ap (all_put lsv) u_is
          ∙ put_merged p lsv kids others (parents_among p vars ls lends.parents) (kids_are kids lsv ls kid_names (within_among vars ls ls (within_itself ls lends.once))) (ap (is_among p) kid_names ∙ lends.beside) parent_there)
          ∙ dropped (length ls) kids after (length_kids kids ls kid_names))

      -- no stobj but children was written
      others_same : (x : ℕ) → list_of others x ≡ list_of s.stobjs x
      others_same x =
          unwritten w (λ y. (has (children ls) y ≡ false) × May inside kinds y) (writes_beside (children ls) writes) s.stobjs x
          (λ y i e. true_false (sym (child_now y i.1).1 ∙ i.0)) (beside_allowed w (children ls) (May inside kinds) writes bk.done.moves.allowed)

      parent_after : list_of after p ≡ merged lsv kids (list_of others p)
      parent_after = list_written p (merged lsv kids (list_of others p)) others parent_there

      other_after : (x : ℕ) → x ≢ p → list_of after x ≡ list_of s.stobjs x
      other_after x d = list_other x p (merged lsv kids (list_of others p)) others d ∙ others_same x

      -- ---- the children, and their parent

      naming : IsNaming (symbol_at u.symbols) (λ z. z < length u.symbols)
      naming = naming_at u.symbols bk.done.mine.sound.table bk.done.mine.sound.truth

      parent_known : KnowsList (length u.symbols) parent
      parent_known = knows_list_stays (table_of base.table.packages s.symbols) (table_of base.table.packages u.symbols) grown parent (stage.sound.known p stobj)

      abbrev IsGood : ℕ → StobjList ℕ → Type 0
      IsGood x l = Good w p parent (symbol_at u.symbols) (λ z. z < length u.symbols) naming (stage.stands.fits p stobj) (stage.sound.recognized p stobj) parent_known x l

      inside_child : (x : ℕ) → has (children ls) x ≡ true → IsStobj inside x
      inside_child x i =
          let there : has ns x ≡ true = ap (λ (xs : List ℕ). has xs x) (sym same_names) ∙ i in
          kind_bound c (without (p ∷ []) scope) ns x
          ∙ (ap (λ (b : Bool). if b then Some (name_kind c x) else kind_in (without (p ∷ []) scope) x) there ∙ ap (λ (k : Out). Some k) (name_is_object c x (stobj_names x there)))

      kid_list : (x : ℕ) → has (children ls) x ≡ true → list_of u.stobjs x ≡ list_of kids x
      kid_list x i = ap (λ (o : Stobjs ℕ). list_of o x) u_is ∙ list_widened kids others x (ap (is_among x) kid_names ∙ i)

      kid_is_good : (x : ℕ) → has (children ls) x ≡ true → IsGood x (list_of kids x)
      kid_is_good x i =
          subst (IsGood x) (kid_list x i)
          (record {
            fits = (stands_after w base inside kinds loaned start_s start_t logic_values logic vs u inside_stage bk.done).fits x (inside_child x i);
            recognized = bk.done.mine.sound.recognized x (inside_child x i);
            known = bk.done.mine.sound.known x (inside_child x i);
          })

      -- the lists of L with the children, and after they are back
      abbrev last_lists : Held
      last_lists = held_after inside kinds inner_lists bk.done.mine.last

      abbrev lists_q : Held
      lists_q = λ x. if nat_eq x p then thing_of_list u.symbols (list_of after p) else stage.lists x

      abbrev things : List Thing
      things = all_held u.symbols last_lists vs

      last_kin : AreKin w base itself inside u.symbols u.stobjs last_lists
      last_kin =
          kin_after w base inside kinds s.symbols u.symbols lent_lists u.stobjs inner_lists bk.done.mine.last nils grown inside_sound.known (unchanged w inside kinds start_s start_t u bk.done.to bk.done.moves) inside_kin bk.done.mine.kin

      producer_ends : Ended w logic things
      producer_ends = subst (λ (os : List Thing). Ended w logic os) (sym (outputs_returned inside u.symbols kinds kinds inner_lists bk.done.mine.last vs bk.done.outputs (λ x i. i))) bk.done.mine.ends

      abbrev bindings : Values
      bindings = bind vars things []

      kid_value : (x : ℕ) → has vars x ≡ true → has (children ls) x ≡ true → value_in bindings x ≡ thing_of_list u.symbols (list_of kids x)
      kid_value x i j =
          let stobjs : is_stobj_name c x ≡ true = stobj_names x (ap (λ (xs : List ℕ). has xs x) (sym same_names) ∙ j) in
          bound_thing c inside u.symbols last_lists loaned [] vars vs bk.done.outputs x (λ e. true_false (sym i ∙ e)) (λ e o. loaned_kid ls variables x j)
          ∙ (ap (held u.symbols last_lists) (bound_skips c inside vars vs loaned x bk.done.outputs (ordinary_not c vars x stobjs) ∙ loaned_kid ls variables x j)
          ∙ (plain_kin w base u.symbols x (list_of u.stobjs x) (last_lists x) (plain_kid x j) (last_kin.each x (inside_child x j)) ∙ ap (thing_of_list u.symbols) (kid_list x j)))

      each_after : EachLoan w p parent (symbol_at u.symbols) (λ z. z < length u.symbols) naming (stage.stands.fits p stobj) (stage.sound.recognized p stobj) parent_known lsv
      each_after =
          each_among w p parent (symbol_at u.symbols) (λ z. z < length u.symbols) naming (stage.stands.fits p stobj) (stage.sound.recognized p stobj) parent_known vars ls
          (each_loan w p parent (symbol_at u.symbols) (λ z. z < length u.symbols) naming (stage.stands.fits p stobj) (stage.sound.recognized p stobj) parent_known holds.bs ls loans)

      abbrev rest : Values
      rest = with_parent (map (named_loan (symbol_at u.symbols)) lsv) bindings values

      parent_good_after : IsGood p (merged lsv kids parent) × (value_in rest p ≡ thing_of_list u.symbols (merged lsv kids parent))
      parent_good_after =
          raised_good w p parent (symbol_at u.symbols) (λ z. z < length u.symbols) naming (stage.stands.fits p stobj) (stage.sound.recognized p stobj) parent_known lsv kids bindings values parent each_after
          (λ x i. let both : (has vars x ≡ true) × (has (children ls) x ≡ true) = among_has vars ls x i in (kid_is_good x both.1, kid_value x both.0 both.1))
          (record { fits = stage.stands.fits p stobj; recognized = stage.sound.recognized p stobj; known = parent_known })
          (value_parent ∙ sym (list_stays (table_of base.table.packages s.symbols) (table_of base.table.packages u.symbols) grown parent nils (stage.sound.known p stobj)))

      parent_is_merged : list_of after p ≡ merged lsv kids parent
      parent_is_merged = parent_after ∙ ap (merged lsv kids) (others_same p)

      sound_after : IsSound w base.table scope u.symbols after
      sound_after = record {
        table = bk.done.mine.sound.table;
        truth = bk.done.mine.sound.truth;
        grown = bk.done.mine.sound.grown;
        known = λ x o. known_by x o (equal_or_not x p);
        recognized = λ x o. recognized_by x o (equal_or_not x p);
      }
        where
          known_by : (x : ℕ) → IsStobj scope x → (x ≡ p) ⊎ (x ≢ p) → KnowsList (length u.symbols) (list_of after x)
          known_by x o (inl e) = subst (λ (z : ℕ). KnowsList (length u.symbols) (list_of after z)) (sym e) (subst (KnowsList (length u.symbols)) (sym parent_is_merged) parent_good_after.0.known)
          known_by x o (inr e) =
              subst (KnowsList (length u.symbols)) (sym (other_after x e)) (knows_list_stays (table_of base.table.packages s.symbols) (table_of base.table.packages u.symbols) grown (list_of s.stobjs x) (stage.sound.known x o))

          recognized_by : (x : ℕ) → IsStobj scope x → (x ≡ p) ⊎ (x ≢ p) → recognizes by_number (layout_of w x) (as_object by_number (list_of after x)) ≡ true
          recognized_by x o (inl e) =
              subst (λ (z : ℕ). recognizes by_number (layout_of w z) (as_object by_number (list_of after z)) ≡ true) (sym e)
              (ap (λ (m : StobjList ℕ). recognizes by_number (layout_of w p) (as_object by_number m)) parent_is_merged ∙ parent_good_after.0.recognized)
          recognized_by x o (inr e) = ap (λ (m : StobjList ℕ). recognizes by_number (layout_of w x) (as_object by_number m)) (other_after x e) ∙ stage.sound.recognized x o

      kin_after_it : AreKin w base itself scope u.symbols after lists_q
      kin_after_it = record { each = λ x o. go x o (equal_or_not x p) }
        where
          go : (x : ℕ) → IsStobj scope x → (x ≡ p) ⊎ (x ≢ p) → Kin w base u.symbols x (list_of after x) (lists_q x)
          go x o (inl e) =
              subst (λ (z : ℕ). Kin w base u.symbols z (list_of after z) (lists_q z)) (sym e)
              (kin_same w base u.symbols u.symbols p (list_of after p) (list_of after p) (thing_of_list u.symbols (list_of after p)) (lists_q p) refl
              (ap (λ (b : Bool). if b then thing_of_list u.symbols (list_of after p) else stage.lists p) (same_number p)) (kin_plain w base u.symbols p (list_of after p) plain_p))
          go x o (inr e) =
              kin_same w base s.symbols u.symbols x (list_of s.stobjs x) (list_of after x) (stage.lists x) (lists_q x)
              (ap (thing_of_list u.symbols) (other_after x e) ∙ list_stays (table_of base.table.packages s.symbols) (table_of base.table.packages u.symbols) grown (list_of s.stobjs x) nils (stage.sound.known x o))
              (ap (λ (b : Bool). if b then thing_of_list u.symbols (list_of after p) else stage.lists x) (not_equal x p e)) (stage.kin.each x o)

      outer_are : AreVariables outer (bound vars vs variables)
      outer_are = consumer_variables c scope p ns ls same_names inside vars vs variables bk.done.outputs stage.are

      -- a name in the consumer's scope that is a variable is ordinary, and another was in scope
      by_variable : (x : ℕ) (k : Out) → kind_in outer x ≡ Some k → ((has vars x ≡ true) × (is_stobj_name c x ≡ false)) ⊎ ((has vars x ≡ false) × (kind_in scope x ≡ Some k))
      by_variable x k i = go (has (ordinary_names c vars) x) refl (sym (kind_bound c (without ns scope) (ordinary_names c vars) x) ∙ i)
        where
          ordinary_one : (a b : Bool) → (a && not b) ≡ true → (a ≡ true) × (b ≡ false)
          ordinary_one true true e = false_true e
          ordinary_one true false e = (refl, refl)
          ordinary_one false b e = false_true e

          outside_one : (b : Bool) → (if b then None else kind_in scope x) ≡ Some k → (b ≡ false) × (kind_in scope x ≡ Some k)
          outside_one true e = none_some e
          outside_one false e = (refl, e)

          no_variable : (a : Bool) → has vars x ≡ a → (b : Bool) → is_stobj_name c x ≡ b → (a && not b) ≡ false → has ns x ≡ false → kind_in scope x ≡ Some k → ((has vars x ≡ true) × (is_stobj_name c x ≡ false)) ⊎ ((has vars x ≡ false) × (kind_in scope x ≡ Some k))
          no_variable true e true g m d j = true_false (sym (holds.children_only x e g) ∙ d)
          no_variable true e false g m d j = true_false m
          no_variable false e b g m d j = inr (e, j)

          go : (b : Bool) → has (ordinary_names c vars) x ≡ b → (if b then Some (name_kind c x) else kind_in (without ns scope) x) ≡ Some k
              → ((has vars x ≡ true) × (is_stobj_name c x ≡ false)) ⊎ ((has vars x ≡ false) × (kind_in scope x ≡ Some k))
          go true e j = inl (ordinary_one (has vars x) (is_stobj_name c x) (sym (has_ordinary c vars x) ∙ e))
          go false e j =
              let out : (has ns x ≡ false) × (kind_in scope x ≡ Some k) = outside_one (has ns x) (sym (kind_without ns scope x) ∙ j) in
              no_variable (has vars x) refl (is_stobj_name c x) refl (sym (has_ordinary c vars x) ∙ e) out.0 out.1

      outer_named : AreHeld outer (bound vars vs variables) u.symbols lists_q (bindings ++ rest)
      outer_named = record { known = λ x k i. known_by x k (by_variable x k i); same = λ x k i. ap (λ (m : Values). value_in m x) (bound_before vars things rest) ∙ same_by x k i (by_variable x k i) }
        where
          known_by : (x : ℕ) (k : Out) → ((has vars x ≡ true) × (is_stobj_name c x ≡ false)) ⊎ ((has vars x ≡ false) × (kind_in scope x ≡ Some k)) → KnowsShown (length u.symbols) (variable_in by_number (bound vars vs variables) x)
          known_by x k (inl e) =
              bound_known_here c inside u.symbols last_lists variables values (length u.symbols) vars vs bk.done.outputs bk.done.mine.known x e.0 (λ o. true_false (sym o ∙ e.1))
          known_by x k (inr e) =
              bound_known c inside u.symbols last_lists variables values (length u.symbols) vars vs bk.done.mine.known x
              (known_one (table_of base.table.packages s.symbols) (table_of base.table.packages u.symbols) grown scope variables values stage.lists stage.lists stage.are stage.named x k e.1)

          plain : (x : ℕ) (v : Shown ℕ) → IsOfKind x Ordinary v → held u.symbols last_lists v ≡ held u.symbols lists_q v
          plain x (Plain o) i = refl
          plain x (StobjNamed y) i = absurd i

          none_bound : (x : ℕ) → has vars x ≡ false → has (ordinary_names c vars) x ≡ false
          none_bound x e = has_ordinary c vars x ∙ ap (λ (b : Bool). b && not (is_stobj_name c x)) e

          around : (x : ℕ) (k : Out) → kind_in scope x ≡ Some k → (x ≡ p) ⊎ (x ≢ p) → value_in rest x ≡ held u.symbols lists_q (variable_in by_number variables x)
          around x k i (inl e) =
              subst (λ (z : ℕ). value_in rest z ≡ held u.symbols lists_q (variable_in by_number variables z)) (sym e)
              (parent_good_after.1 ∙ (ap (thing_of_list u.symbols) (sym parent_is_merged)
              ∙ (sym (ap (λ (b : Bool). if b then thing_of_list u.symbols (list_of after p) else stage.lists p) (same_number p)) ∙ sym (ap (held u.symbols lists_q) shown_parent))))
          around x k i (inr e) =
              raised_other w p parent (symbol_at u.symbols) (λ z. z < length u.symbols) naming (stage.stands.fits p stobj) (stage.sound.recognized p stobj) parent_known lsv bindings values x each_after e
              ∙ named_one (table_of base.table.packages s.symbols) (table_of base.table.packages u.symbols) grown scope variables values stage.lists lists_q stage.are stage.named x k i
              (λ o. ap (λ (b : Bool). if b then thing_of_list u.symbols (list_of after p) else stage.lists x) (not_equal x p e))

          same_by : (x : ℕ) (k : Out) → kind_in outer x ≡ Some k → ((has vars x ≡ true) × (is_stobj_name c x ≡ false)) ⊎ ((has vars x ≡ false) × (kind_in scope x ≡ Some k))
              → value_in (bind vars things rest) x ≡ held u.symbols lists_q (variable_in by_number (bound vars vs variables) x)
          same_by x k i (inl e) =
              bound_thing c inside u.symbols last_lists variables rest vars vs bk.done.outputs x (λ g. true_false (sym e.0 ∙ g)) (λ g o. true_false (sym o ∙ e.1))
              ∙ plain x (variable_in by_number (bound vars vs variables) x) (bound_ordinary c inside vars vs variables x bk.done.outputs (has_ordinary c vars x ∙ rw (e.0, e.1) refl))
          same_by x k i (inr e) =
              not_bound vars things rest x e.0
              ∙ (around x k e.1 (equal_or_not x p) ∙ sym (ap (held u.symbols lists_q) (bound_skips c inside vars vs variables x bk.done.outputs (none_bound x e.0))))

      -- ---- the logic's value

      things_are : parts_for vars producer_ends.value ≡ things
      things_are =
          let long : length things ≡ length vars = length_things u.symbols last_lists vs ∙ (length_outputs inside kinds vs bk.done.outputs ∙ length_kinds c vars) in
          ended_parts w logic things producer_ends vars (sym long)

      loans_later : (ms : List (Loan ℕ)) → EachLoan w p parent (symbol_at u.symbols) (λ z. z < length u.symbols) naming (stage.stands.fits p stobj) (stage.sound.recognized p stobj) parent_known ms
          → map (named_loan (symbol_at s.symbols)) ms ≡ map (named_loan (symbol_at u.symbols)) ms
      loans_later [] e = refl
      loans_later (l ∷ ms) e = rw (loans_later ms e.1) (first_one (index_later e.0.1.kind))
        where
          index_later : ((l.index ≡ None) × (e.0.0.index ≡ None) × (e.0.1.field ≡ layout_of w l.child)) ⊎ IsIndexed w parent l e.0.1.field → option_map (named (symbol_at s.symbols)) l.index ≡ option_map (named (symbol_at u.symbols)) l.index
          index_later (inl i) = rw i.0 refl
          index_later (inr i) = rw i.2 refl

          first_one : option_map (named (symbol_at s.symbols)) l.index ≡ option_map (named (symbol_at u.symbols)) l.index
              → named_loan (symbol_at s.symbols) l ∷ map (named_loan (symbol_at u.symbols)) ms ≡ named_loan (symbol_at u.symbols) l ∷ map (named_loan (symbol_at u.symbols)) ms
          first_one i = rw i refl

      put_is : put_loans vars (logic_loans thy ns forms values) ≡ map (named_loan (symbol_at u.symbols)) lsv
      put_is =
          ap (put_loans vars) ll
          ∙ (put_named w p parent (symbol_at s.symbols) (λ z. z < length s.symbols) (naming_at s.symbols stage.sound.table stage.sound.truth) (stage.stands.fits p stobj) (stage.sound.recognized p stobj) (stage.sound.known p stobj) vars ls
          ∙ loans_later lsv each_after)

      ends_whole : (v : Thing) → Ends (form_counted thy consumer (bindings ++ rest)) v → Ends (form_counted thy whole values) v
      unfolding form_value
      ends_whole v e =
          ends_spending (length (logic_loans thy ns forms values))
          (λ budget nest start. then_found (form_counted thy producer (with_children (logic_loans thy ns forms values) values) budget nest start) (λ r calls. finish r budget nest calls)) v
          (ends_then (form_counted thy producer (with_children (logic_loans thy ns forms values) values)) finish producer_ends.value v
          (subst (λ (ms : List (Loan QualifiedName)). Ends (form_counted thy producer (with_children ms values)) producer_ends.value) (sym ll) producer_ends.ends)
          (ends_spending (length (put_loans vars (logic_loans thy ns forms values))) (form_counted thy consumer (bind vars (parts_for vars producer_ends.value) [] ++ with_parent (put_loans vars (logic_loans thy ns forms values)) (bind vars (parts_for vars producer_ends.value) []) values)) v
          (subst (λ (ms : List (Loan QualifiedName)). Ends (form_counted thy consumer (bind vars (parts_for vars producer_ends.value) [] ++ with_parent ms (bind vars (parts_for vars producer_ends.value) []) values)) v) (sym put_is)
          (subst (λ (os : List Thing). Ends (form_counted thy consumer (bind vars os [] ++ with_parent (map (named_loan (symbol_at u.symbols)) lsv) (bind vars os []) values)) v) (sym things_are) e))))
        where
          finish : Thing → Counted
          finish r = λ budget nest start. spending budget (length (put_loans vars (logic_loans thy ns forms values))) start
              (λ calls. form_counted thy consumer (bind vars (parts_for vars r) [] ++ with_parent (put_loans vars (logic_loans thy ns forms values)) (bind vars (parts_for vars r) []) values) budget nest calls)

      -- where the consumer is evaluated
      smaller : (x : ℕ) → IsStobj outer x → IsStobj scope x
      smaller x i = consumer_objects c scope p ns ls same_names inside vars vs variables bk.done.outputs x i

      kin_q : AreKin w base itself scope q.symbols q.stobjs lists_q
      kin_q =
          subst (λ (m : List QualifiedName). AreKin w base itself scope m q.stobjs lists_q) (sym bk.names_same) (subst (λ (o : Stobjs ℕ). AreKin w base itself scope u.symbols o lists_q) (sym q_is) kin_after_it)

      sound_q : IsSound w base.table scope q.symbols q.stobjs
      sound_q =
          subst (λ (m : List QualifiedName). IsSound w base.table scope m q.stobjs) (sym bk.names_same) (subst (λ (o : Stobjs ℕ). IsSound w base.table scope u.symbols o) (sym q_is) sound_after)

      consumer_stage : Stage w base outer (bound vars vs variables) q bk.to (bindings ++ rest)
      consumer_stage = record {
        are = outer_are;
        stands = stands_less w outer scope q.stobjs bk.to.stobjs smaller (stands_moved w scope (May scope expected) s t q bk.to (λ x i. i.1) stage.stands bk.moves);
        same = bk.moves.same;
        sound = sound_less w base outer scope q.symbols q.stobjs smaller sound_q;
        lists = lists_q;
        kin = kin_less w base itself outer scope q.symbols q.stobjs lists_q smaller kin_q;
        named = subst (λ (m : List QualifiedName). AreHeld outer (bound vars vs variables) m lists_q (bindings ++ rest)) (sym bk.names_same) outer_named;
      }

      after_producer : IfGives (Mine w base scope s (form_counted thy whole values)) (ev consumer (bound vars vs variables) q)
      after_producer =
          gives_map (Did w base outer expected q bk.to (form_counted thy consumer (bindings ++ rest))) (Mine w base scope s (form_counted thy whole values)) (ev consumer (bound vars vs variables) q)
          (λ given z e. record {
            last = held_after outer expected lists_q e.mine.last;
            kin = kin_wider w base outer scope q.symbols z.symbols q.stobjs z.stobjs lists_q (held_after outer expected lists_q e.mine.last) (nil_known w base scope q.symbols q.stobjs sound_q) e.mine.grown sound_q.known
                (λ x i. unseen w outer expected q bk.to z e.to e.moves x i) (λ x i. after_unseen outer expected lists_q e.mine.last x i) kin_q
                (kin_after w base outer expected q.symbols z.symbols q.stobjs z.stobjs lists_q e.mine.last (nil_known w base scope q.symbols q.stobjs sound_q) e.mine.grown
                (λ x i. sound_q.known x (smaller x i)) (unchanged w outer expected q bk.to z e.to e.moves) (kin_less w base itself outer scope q.symbols q.stobjs lists_q smaller kin_q) e.mine.kin);
            sound = sound_wider w base outer scope q.symbols z.symbols q.stobjs z.stobjs sound_q e.mine.sound e.mine.grown (λ x i. unseen w outer expected q bk.to z e.to e.moves x i);
            grown = Extends-then (subst (λ (m : List QualifiedName). Extends (table_of base.table.packages s.symbols) (table_of base.table.packages m)) (sym bk.names_same) grown) e.mine.grown;
            known = e.mine.known;
            ends = ended_as w (form_counted thy consumer (bindings ++ rest)) (form_counted thy whole values) (all_held z.symbols (held_after outer expected lists_q e.mine.last) given) ends_whole
                (subst (λ (os : List Thing). Ended w (form_counted thy consumer (bindings ++ rest)) os) (sym (outputs_returned outer z.symbols expected expected lists_q e.mine.last given e.outputs (λ x i. i))) e.mine.ends);
          })
          (did w base threaded limit thy ev el h f c mode outer consumer None expected (record { suited_world = suited_world; runs = n; accepted = second; formed = formed_consumer; suited = suited_consumer }) (bound vars vs variables) q bk.to (bindings ++ rest) consumer_stage)

    pub children_lent : (v : StateOf (Store ℕ)) × Stage w base (producer_scope c scope (Some holds.parent) ns) (loaned_variables rules ls variables) (record s { stobjs = lent ls s.stobjs ++ s.stobjs }) v logic_values
    children_lent = (start_t, inside_stage)

    pub children_back : IfGives (λ vs q. AreOutputs (producer_scope c scope (Some holds.parent) ns) (name_kinds c vars) vs × ((v : StateOf (Store ℕ)) × (others : Values) × Stage w base (consumer_scope c scope ns vars) (bound vars vs variables) q v others)) (producing rules ev vars producer variables ls s)
    children_back =
        gives_map Back (λ vs q. AreOutputs (producer_scope c scope (Some holds.parent) ns) (name_kinds c vars) vs × ((v : StateOf (Store ℕ)) × (others : Values) × Stage w base (consumer_scope c scope ns vars) (bound vars vs variables) q v others)) (producing rules ev vars producer variables ls s)
        (λ vs q bk. (bk.done.outputs, (bk.to, bindings vs q bk ++ rest vs q bk, consumer_stage vs q bk))) gives_back

    pub follows_loans : IfGives (Mine w base scope s (form_counted thy whole values)) (then_with (producing rules ev vars producer variables ls s) (λ given after. ev consumer (bound vars given variables) after))
    follows_loans = gives_then Back (Mine w base scope s (form_counted thy whole values)) (producing rules ev vars producer variables ls s) (λ given after. ev consumer (bound vars given variables) after) gives_back after_producer

  -- ---- the whole form

  pub follows_stobj_let : (c : World) (mode : Mode) (scope : Scope) (ns : List ℕ) (forms : Cores) (vars : List ℕ) (producer consumer : Core) (formal : Option ℕ) (expected : List Out) (variables : Variables ℕ) (s : State ℕ) (t : StateOf (Store ℕ)) (values : Values)
      → Suited w base c → mode ≢ Logic → Accepted c mode scope (StobjLet ns forms vars producer consumer) formal expected → IsFormed c producer → IsFormed c consumer → IsSuited w (length base.table.symbols) producer → IsSuited w (length base.table.symbols) consumer
      → Stage w base scope variables s t values
      → IfGives (Mine w base scope s (form_counted thy (StobjLet ns forms vars producer consumer) values)) (all_borrowed rules ns forms variables [] (with_loans rules ev vars producer consumer variables) s)
  follows_stobj_let c mode scope ns forms vars producer consumer formal expected variables s t values suited_world n all formed_producer formed_consumer suited_producer suited_consumer stage =
      let test : stobj_let_holds c scope expected ns forms vars ≡ true = not_false (stobj_let_holds c scope expected ns forms vars) (s13 c mode (here (StobjLet ns forms vars producer consumer) scope formal expected) n all.0) in
      let holds : StobjLetHolds c scope expected ns forms vars = stobj_let_is c scope expected ns forms vars test in
      let p : ℕ = holds.parent in
      let parent : IsStobj scope p × (variable_in by_number variables p ≡ StobjNamed p) = parent_is w threaded base.table.packages limit ev el h c mode scope suited_world.suits n variables stage.are p holds.stobj in
      let parts : Accepted c mode (producer_scope c scope (parent_in forms) ns) producer None (name_kinds c vars) × Accepted c mode (consumer_scope c scope ns vars) consumer None expected
      = of_stobj_let c mode scope formal expected ns forms vars producer consumer all in
      let whole : Counted = form_counted thy (StobjLet ns forms vars producer consumer) values in
      follows_borrowed w base threaded followed limit symbols bg ev el h f c mode scope suited_world n variables values stage.are whole vars p (list_of s.stobjs p) parent.0 parent.1 s.symbols s.stobjs ns forms holds.bs [] (with_loans rules ev vars producer consumer variables) s t
      holds.bound holds.all (indices_hold c scope expected ns forms vars holds.bs holds.bound test) refl refl refl stage
      (λ ls every u v loans q ll us uo st.
      subst (λ (ms : List (Loan ℕ)). IfGives (Mine w base scope u whole) (with_loans rules ev vars producer consumer variables ms u)) (sym q)
      (by_twins (are_twins by_number ls) ls u
      (λ e. follows_loans c mode scope ns forms vars producer consumer expected variables u v values suited_world n holds parent.0 (plain_parent w base threaded followed limit symbols bg ev el h f c scope expected ns forms vars p holds.bs holds.bound test (are_plain w base threaded followed limit symbols bg ev el h f c p ns forms holds.bs suited_world.seen holds.bound holds.all)) (subst (λ (m : Option ℕ). Accepted c mode (producer_scope c scope m ns) producer None (name_kinds c vars)) holds.first parts.0) parts.1
      formed_producer formed_consumer suited_producer suited_consumer st ls (subst (λ (m : StobjList ℕ). AreLoans w p m holds.bs ls) (ap (λ (o : Stobjs ℕ). list_of o p) (sym uo)) loans)
      (subst (λ (m : List QualifiedName). logic_loans thy ns forms values ≡ map (named_loan (symbol_at m)) ls) (sym us) ll) e)
      refl))
    where
      by_twins : (b : Bool) (ls : List (Loan ℕ)) (u : State ℕ)
          → (are_twins by_number ls ≡ false
          → IfGives (Mine w base scope u (form_counted thy (StobjLet ns forms vars producer consumer) values)) (then_with (producing rules ev vars producer variables ls u) (λ given after. ev consumer (bound vars given variables) after)))
          → are_twins by_number ls ≡ b
          → IfGives (Mine w base scope u (form_counted thy (StobjLet ns forms vars producer consumer) values))
          (if b then stops_here (Guard stobj_let_word (indices ls)) u else then_with (producing rules ev vars producer variables ls u) (λ given after. ev consumer (bound vars given variables) after))
      by_twins true ls u m e = tt
      by_twins false ls u m e = m e
