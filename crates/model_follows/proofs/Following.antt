-- What is shown of evaluators, and how it goes from one state to the next.
use Rattle.std.proofs.Common.{◌≡◌, ℕ, ◌<◌, List, [], ◌∷◌, length, Bool, true, false, Option, Some, None, refl, sym, ap, ◌∙◌, subst, inl, inr}
use Rattle.std.specs.Prelude.{◌≢◌, ◌⊎◌, ◌||◌, ◌&&◌, nat_eq, nat_lt, if◌then◌else◌}
use Rattle.std.proofs.lemmas.Bool.{eqb-true}
use Rattle.model_symbols.specs.Symbols.{QualifiedName, form_of}
use Rattle.model_symbols.specs.Growth.{Extends}
use Rattle.model_symbols.specs.Opening.{nil}
use Rattle.model_symbols.proofs.TableLemmas.{Extends-then}
use Rattle.model_prims.specs.Kinds.{by_number}
use Rattle.model_lists.specs.Lists.{StobjList, as_object}
use Rattle.model_lists.specs.Layouts.{recognizes}
use Rattle.model_terms.specs.declared.rule.Mode.{Mode}
use Rattle.model_terms.specs.declared.rule.Mode.TheVariants.{Logic}
use Rattle.model_terms.specs.Cores.{Core}
use Rattle.model_terms.specs.Worlds.{World, Out, Ordinary, Scope, Function, GeneratedFunction, Defined, Generated, definition}
use Rattle.model_terms.specs.Worlds as worlds
use Rattle.model_terms.specs.Classes as classes
use Rattle.model_terms.specs.Classes.{has, congruent}
use Rattle.model_terms.specs.Scopes.{kind_in}
use Rattle.model_terms.specs.Sites.{one_ordinary}
use Rattle.model_eval.specs.Outcomes.{Shown, Plain, StobjNamed, Steps, Stobjs, StateOf, State, OutcomeOf, Outcome, Gives, Stops, Unknown, then_with, one_more_call, counting, stops_here}
use Rattle.model_eval.specs.PlacesKeeping.{Store}
use Rattle.model_eval.specs.Variables.{Variables, list_of}
use Rattle.model_eval.specs.Evaluated.{Evaluator, EvaluatorOf}
use Rattle.model_logic.specs.Logic.{Theory, Thing, Values}
use Rattle.model_eval_laws.proofs.Lists.{same_number}
use Rattle.model_accepted.specs.Threaded.{layout_of, IsFormed, Suits, IsThreaded}
use Rattle.model_accepted.specs.StobjScopes.{IsStobj, AreVariables, AreOutputs}
use Rattle.model_in_place.specs.Standing.{Stands, AreSame}
use Rattle.model_in_place.specs.Writes.{Moves, Meet}
use Rattle.model_accepted.specs.Accepted.{Accepted}
use Rattle.model_accepted.proofs.AcceptLemmas.{false_true, true_false}
use Rattle.model_in_place.proofs.WriteLemmas.{stands_moved}
use Rattle.model_in_place.proofs.CallMeeting.{May, Meets}
use Rattle.model_in_place.proofs.LawLemmas.{unwritten}
use Rattle.model_follows.specs.Costs.{Counted, form_counted, Ends}
use Rattle.model_follows.specs.FollowedWorlds.{KnowsList, IsSuited}
use Rattle.model_follows.specs.Follows.{thing_of_list, KnowsAll, table_of, IsSound, IfGives}
pub use Rattle.model_follows.specs.Held.{AreSeenIn, Lawful}
use Rattle.model_follows.proofs.EndedLemmas.{Ended, ended_as}
use Rattle.model_follows.proofs.HeldThings.{Ground, Held, all_held, Kin, AreKin, itself, AreHeld, kin_same}
use Rattle.model_follows.proofs.ThingLemmas.{knows_nil, knows_list_stays, list_stays}
use Rattle.model_follows.proofs.ScopeThings.{named_kept}

-- ---- outcomes

pub gives_map : (P Q : List (Shown ℕ) → State ℕ → Type 0) (a : Outcome ℕ) → ((vs : List (Shown ℕ)) (u : State ℕ) → P vs u → Q vs u) → IfGives P a → IfGives Q a
gives_map P Q (Gives vs u) f h = f vs u h
gives_map P Q (Stops stop origin u) f h = tt
gives_map P Q Unknown f h = h

pub gives_then : (P Q : List (Shown ℕ) → State ℕ → Type 0) (a : Outcome ℕ) (go : List (Shown ℕ) → State ℕ → Outcome ℕ) → IfGives P a → ((vs : List (Shown ℕ)) (u : State ℕ) → P vs u → IfGives Q (go vs u)) → IfGives Q (then_with a go)
gives_then P Q (Gives vs u) go h f = f vs u h
gives_then P Q (Stops stop origin u) go h f = tt
gives_then P Q Unknown go h f = h

pub gives_both : (P Q : List (Shown ℕ) → State ℕ → Type 0) (a : Outcome ℕ) → IfGives P a → IfGives Q a → IfGives (λ vs u. P vs u × Q vs u) a
gives_both P Q (Gives vs u) h i = (h, i)
gives_both P Q (Stops stop origin u) h i = tt
gives_both P Q Unknown h i = h

pub gives_counting : (P : List (Shown ℕ) → State ℕ → Type 0) (limit : ℕ) (s : State ℕ) (go : State ℕ → Outcome ℕ) → IfGives P (go (one_more_call s)) → IfGives P (counting limit s go)
gives_counting P limit s go h = by_test (nat_lt s.calls limit)
  where
    by_test : (b : Bool) → IfGives P (if b then go (one_more_call s) else stops_here Steps s)
    by_test true = h
    by_test false = tt

pub gives_moves : (w : World) (Are : List (Shown ℕ) → Type 0) (May Might : ℕ → Type 0) (s : State ℕ) (t : StateOf (Store ℕ)) (a : Outcome ℕ) (b : OutcomeOf ℕ (Store ℕ))
    → Meet w Are May Might s t a b → IfGives (λ vs u. Are vs × ((v : StateOf (Store ℕ)) × Moves w May s t u v)) a
gives_moves w Are May Might s t (Gives vs u) (Gives ws v) m = (m.1, (v, m.2))
gives_moves w Are May Might s t (Gives vs u) (Stops stop origin v) m = absurd m
gives_moves w Are May Might s t (Gives vs u) Unknown m = absurd m
gives_moves w Are May Might s t (Stops stop origin u) b m = tt
gives_moves w Are May Might s t Unknown b m = m

-- ---- stobjs of a scope

pub object_or_not : (scope : Scope) (x : ℕ) → IsStobj scope x ⊎ (IsStobj scope x → ⊥)
object_or_not scope x = go (kind_in scope x) refl
  where
    go : (k : Option Out) → kind_in scope x ≡ k → IsStobj scope x ⊎ (IsStobj scope x → ⊥)
    go None e = inr (λ f. none_is (sym e ∙ f))
      where
        none_is : ◌≡◌ {A = Option Out} None (Some (worlds.Stobj x)) → ⊥
        none_is f = cc
    go (Some Ordinary) e = inr (λ f. ordinary_is (sym e ∙ f))
      where
        ordinary_is : Some Ordinary ≡ Some (worlds.Stobj x) → ⊥
        ordinary_is f = cc
    go (Some (worlds.Stobj y)) e = by_name (nat_eq y x) refl
      where
        same_name : Some (worlds.Stobj y) ≡ Some (worlds.Stobj x) → y ≡ x
        same_name f = cc

        itself : (x : ℕ) → nat_eq x x ≡ true
        itself x = same_number x

        by_name : (b : Bool) → nat_eq y x ≡ b → IsStobj scope x ⊎ (IsStobj scope x → ⊥)
        by_name true f = inl (e ∙ ap (λ (z : ℕ). Some (worlds.Stobj z)) (eqb-true y x f))
        by_name false f = inr (λ g. true_false (sym (itself x) ∙ (ap (λ (z : ℕ). nat_eq z x) (sym (same_name (sym e ∙ g))) ∙ f)))

pub unchanged : (w : World) (scope : Scope) (expected : List Out) (s : State ℕ) (t : StateOf (Store ℕ)) (u : State ℕ) (v : StateOf (Store ℕ)) → Moves w (May scope expected) s t u v
    → (x : ℕ) → has (classes.stobjs expected) x ≡ false → list_of u.stobjs x ≡ list_of s.stobjs x
unchanged w scope expected s t u v m x h =
    ap (λ (o : Stobjs ℕ). list_of o x) m.stobjs
    ∙ unwritten w (May scope expected) m.writes s.stobjs x (λ y i e. true_false (sym i.0 ∙ (ap (has (classes.stobjs expected)) (sym e) ∙ h))) m.allowed

pub unseen : (w : World) (scope : Scope) (expected : List Out) (s : State ℕ) (t : StateOf (Store ℕ)) (u : State ℕ) (v : StateOf (Store ℕ)) → Moves w (May scope expected) s t u v
    → (x : ℕ) → (IsStobj scope x → ⊥) → list_of u.stobjs x ≡ list_of s.stobjs x
unseen w scope expected s t u v m x h =
    ap (λ (o : Stobjs ℕ). list_of o x) m.stobjs
    ∙ unwritten w (May scope expected) m.writes s.stobjs x (λ y i e. h (subst (IsStobj scope) (sym e) i.1)) m.allowed

-- ---- the lists of L after a form

abbrev pub is_in : Out → ℕ → Bool
is_in Ordinary x = false
is_in (worlds.Stobj y) x = nat_eq y x

-- the stobj is in the scope
abbrev pub in_it : Option Out → ℕ → Bool
in_it None x = false
in_it (Some k) x = is_in k x

in_scope_is : (scope : Scope) (x : ℕ) → IsStobj scope x → in_it (kind_in scope x) x ≡ true
in_scope_is scope x i = ap (λ (k : Option Out). in_it k x) i ∙ same_number x

in_scope_only : (scope : Scope) (x : ℕ) → in_it (kind_in scope x) x ≡ true → IsStobj scope x
in_scope_only scope x h = go (kind_in scope x) h
  where
    go : (k : Option Out) → in_it k x ≡ true → k ≡ Some (worlds.Stobj x)
    go None i = false_true i
    go (Some Ordinary) i = false_true i
    go (Some (worlds.Stobj y)) i = ap (λ (z : ℕ). Some (worlds.Stobj z)) (eqb-true y x i)

-- a stobj that is returned has a new list, and another the one that it had
abbrev pub held_after : Scope → List Out → Held → Held → Held
held_after scope expected before after = λ x. if has (classes.stobjs expected) x && in_it (kind_in scope x) x then after x else before x

pub after_returned : (scope : Scope) (expected : List Out) (before after : Held) (x : ℕ) → IsStobj scope x → has (classes.stobjs expected) x ≡ true → held_after scope expected before after x ≡ after x
after_returned scope expected before after x i h = rw (h, in_scope_is scope x i) refl

pub after_unreturned : (scope : Scope) (expected : List Out) (before after : Held) (x : ℕ) → has (classes.stobjs expected) x ≡ false → held_after scope expected before after x ≡ before x
after_unreturned scope expected before after x h = rw h refl

pub after_unseen : (scope : Scope) (expected : List Out) (before after : Held) (x : ℕ) → (IsStobj scope x → ⊥) → held_after scope expected before after x ≡ before x
after_unseen scope expected before after x n = go (has (classes.stobjs expected) x) (in_it (kind_in scope x) x) refl
  where
    go : (a b : Bool) → in_it (kind_in scope x) x ≡ b → (if a && b then after x else before x) ≡ before x
    go true true e = absurd (n (in_scope_only scope x e))
    go true false e = refl
    go false b e = refl

-- outputs have among them the stobjs that are returned
pub outputs_returned : (scope : Scope) (symbols : List QualifiedName) (expected kinds : List Out) (before after : Held) (vs : List (Shown ℕ)) → AreOutputs scope kinds vs
    → ((x : ℕ) → has (classes.stobjs kinds) x ≡ true → has (classes.stobjs expected) x ≡ true) → all_held symbols (held_after scope expected before after) vs ≡ all_held symbols after vs
outputs_returned scope symbols expected [] before after [] a f = refl
outputs_returned scope symbols expected [] before after (v ∷ vs) a f = absurd a
outputs_returned scope symbols expected (k ∷ ks) before after [] a f = absurd a
outputs_returned scope symbols expected (Ordinary ∷ ks) before after (Plain o ∷ vs) a f = ap (λ (os : List Thing). form_of symbols o ∷ os) (outputs_returned scope symbols expected ks before after vs a.1 f)
outputs_returned scope symbols expected (Ordinary ∷ ks) before after (StobjNamed y ∷ vs) a f = absurd a.0
outputs_returned scope symbols expected (worlds.Stobj x ∷ ks) before after (Plain o ∷ vs) a f = absurd a.0
outputs_returned scope symbols expected (worlds.Stobj x ∷ ks) before after (StobjNamed y ∷ vs) a f =
    let first : held_after scope expected before after y ≡ after y
    = after_returned scope expected before after y (subst (IsStobj scope) (sym a.0.0) a.0.1)
    (f y (ap (λ (b : Bool). b || has (classes.stobjs ks) y) (ap (nat_eq y) (sym a.0.0) ∙ same_number y))) in
    rw (first, outputs_returned scope symbols expected ks before after vs a.1 (λ z h. f z (ap (λ (b : Bool). nat_eq z x || b) h ∙ or_true (nat_eq z x)))) refl
  where
    or_true : (b : Bool) → (b || true) ≡ true
    or_true true = refl
    or_true false = refl

module _ (w : World) (base : Ground) where
  -- the lists after a form belong together
  pub kin_after : (scope : Scope) (expected : List Out) (old new : List QualifiedName) (before after : Stobjs ℕ) (lists last : Held) → nil < length old → Extends (table_of base.table.packages old) (table_of base.table.packages new)
      → ((x : ℕ) → IsStobj scope x → KnowsList (length old) (list_of before x)) → ((x : ℕ) → has (classes.stobjs expected) x ≡ false → list_of after x ≡ list_of before x)
      → AreKin w base itself scope old before lists → AreKin w base itself scope new after last → AreKin w base itself scope new after (held_after scope expected lists last)
  kin_after scope expected old new before after lists last nils grown known same k l = record { each = λ x i. go x i (has (classes.stobjs expected) x) refl }
    where
      go : (x : ℕ) → IsStobj scope x → (b : Bool) → has (classes.stobjs expected) x ≡ b → Kin w base new x (list_of after x) (held_after scope expected lists last x)
      go x i true e = subst (Kin w base new x (list_of after x)) (sym (after_returned scope expected lists last x i e)) (l.each x i)
      go x i false e =
          kin_same w base old new x (list_of before x) (list_of after x) (lists x) (held_after scope expected lists last x)
          (ap (thing_of_list new) (same x e) ∙ list_stays (table_of base.table.packages old) (table_of base.table.packages new) grown (list_of before x) nils (known x i))
          (after_unreturned scope expected lists last x e) (k.each x i)

  pub kin_less : (seen_as : ℕ → ℕ) (inner outer : Scope) (symbols : List QualifiedName) (stobjs : Stobjs ℕ) (lists : Held) → ((x : ℕ) → IsStobj inner x → IsStobj outer x) → AreKin w base seen_as outer symbols stobjs lists → AreKin w base seen_as inner symbols stobjs lists
  kin_less seen_as inner outer symbols stobjs lists f k = record { each = λ x i. k.each x (f x i) }

  -- the lists of stobjs of the outer scope are as they were, or in the inner one
  pub kin_wider : (inner outer : Scope) (old new : List QualifiedName) (before after : Stobjs ℕ) (lists last : Held) → nil < length old → Extends (table_of base.table.packages old) (table_of base.table.packages new)
      → ((x : ℕ) → IsStobj outer x → KnowsList (length old) (list_of before x)) → ((x : ℕ) → (IsStobj inner x → ⊥) → list_of after x ≡ list_of before x) → ((x : ℕ) → (IsStobj inner x → ⊥) → last x ≡ lists x)
      → AreKin w base itself outer old before lists → AreKin w base itself inner new after last → AreKin w base itself outer new after last
  kin_wider inner outer old new before after lists last nils grown known same also k l = record { each = λ x o. go x o (object_or_not inner x) }
    where
      go : (x : ℕ) → IsStobj outer x → IsStobj inner x ⊎ (IsStobj inner x → ⊥) → Kin w base new x (list_of after x) (last x)
      go x o (inl i) = l.each x i
      go x o (inr n) =
          kin_same w base old new x (list_of before x) (list_of after x) (lists x) (last x)
          (ap (thing_of_list new) (same x n) ∙ list_stays (table_of base.table.packages old) (table_of base.table.packages new) grown (list_of before x) nils (known x o)) (also x n) (k.each x o)

  pub sound_less : (inner outer : Scope) (symbols : List QualifiedName) (stobjs : Stobjs ℕ) → ((x : ℕ) → IsStobj inner x → IsStobj outer x) → IsSound w base.table outer symbols stobjs → IsSound w base.table inner symbols stobjs
  sound_less inner outer symbols stobjs f h = record {
    table = h.table;
    truth = h.truth;
    grown = h.grown;
    known = λ x i. h.known x (f x i);
    recognized = λ x i. h.recognized x (f x i);
  }

  -- stobjs of the outer scope are as they were, or are in the inner one
  pub sound_wider : (inner outer : Scope) (old new : List QualifiedName) (before after : Stobjs ℕ) → IsSound w base.table outer old before → IsSound w base.table inner new after
      → Extends (table_of base.table.packages old) (table_of base.table.packages new) → ((x : ℕ) → (IsStobj inner x → ⊥) → list_of after x ≡ list_of before x)
      → IsSound w base.table outer new after
  sound_wider inner outer old new before after h i grown same = record {
    table = i.table;
    truth = i.truth;
    grown = i.grown;
    known = λ x o. known_by x o (object_or_not inner x);
    recognized = λ x o. recognized_by x o (object_or_not inner x);
  }
    where
      known_by : (x : ℕ) → IsStobj outer x → IsStobj inner x ⊎ (IsStobj inner x → ⊥) → KnowsList (length new) (list_of after x)
      known_by x o (inl j) = i.known x j
      known_by x o (inr j) = subst (KnowsList (length new)) (sym (same x j)) (knows_list_stays (table_of base.table.packages old) (table_of base.table.packages new) grown (list_of before x) (h.known x o))

      recognized_by : (x : ℕ) → IsStobj outer x → IsStobj inner x ⊎ (IsStobj inner x → ⊥) → recognizes by_number (layout_of w x) (as_object by_number (list_of after x)) ≡ true
      recognized_by x o (inl j) = i.recognized x j
      recognized_by x o (inr j) = ap (λ (l : StobjList ℕ). recognizes by_number (layout_of w x) (as_object by_number l)) (same x j) ∙ h.recognized x o

  pub nil_known : (scope : Scope) (symbols : List QualifiedName) (stobjs : Stobjs ℕ) → IsSound w base.table scope symbols stobjs → nil < length symbols
  nil_known scope symbols stobjs h = knows_nil (table_of base.table.packages symbols) h.truth

  -- ---- evaluators

  -- what a computation of the logic ends with, where C gave values
  pub record MineAs (seen_as : ℕ → ℕ) (scope : Scope) (s : State ℕ) (logic : Counted) (given : List (Shown ℕ)) (u : State ℕ) : Type 0 where
    pub last : Held
    pub kin : AreKin w base seen_as scope u.symbols u.stobjs last
    pub sound : IsSound w base.table scope u.symbols u.stobjs
    pub grown : Extends (table_of base.table.packages s.symbols) (table_of base.table.packages u.symbols)
    pub known : KnowsAll (length u.symbols) given
    pub ends : Ended w logic (all_held u.symbols last given)

  abbrev pub Mine : Scope → State ℕ → Counted → List (Shown ℕ) → State ℕ → Type 0
  Mine scope s logic given u = MineAs itself scope s logic given u

  -- stobjs, and what is known of them, where a form is evaluated
  pub record Stage (scope : Scope) (variables : Variables ℕ) (s : State ℕ) (t : StateOf (Store ℕ)) (values : Values) : Type 0 where
    pub are : AreVariables scope variables
    pub stands : Stands w scope s.stobjs t.stobjs
    pub same : AreSame s t
    pub sound : IsSound w base.table scope s.symbols s.stobjs
    pub lists : Held
    pub kin : AreKin w base itself scope s.symbols s.stobjs lists
    pub named : AreHeld scope variables s.symbols lists values

  pub record Suited (c : World) : Type 0 where
    pub suits : Suits c w
    pub seen : AreSeenIn w base c

  -- a form that is accepted there
  pub record Form (c : World) (mode : Mode) (scope : Scope) (form : Core) (formal : Option ℕ) (expected : List Out) : Type 0 where
    pub suited_world : Suited c
    pub runs : mode ≢ Logic
    pub accepted : Accepted c mode scope form formal expected
    pub formed : IsFormed c form
    pub suited : IsSuited w (length base.table.symbols) form

  pub record Follows (b : Theory) (ev : Evaluator ℕ) : Type 0 where
    pub follows : (c : World) (mode : Mode) (scope : Scope) (form : Core) (formal : Option ℕ) (expected : List Out) → Form c mode scope form formal expected
        → (variables : Variables ℕ) (s : State ℕ) (t : StateOf (Store ℕ)) (values : Values) → Stage scope variables s t values
        → IfGives (Mine scope s (form_counted b form values)) (ev form variables s)

  -- all that is known once a form gave values
  pub record DidAs (seen_as : ℕ → ℕ) (scope : Scope) (expected : List Out) (s : State ℕ) (t : StateOf (Store ℕ)) (logic : Counted) (given : List (Shown ℕ)) (u : State ℕ) : Type 0 where
    pub outputs : AreOutputs scope expected given
    pub to : StateOf (Store ℕ)
    pub moves : Moves w (May scope expected) s t u to
    pub mine : MineAs seen_as scope s logic given u

  abbrev pub Did : Scope → List Out → State ℕ → StateOf (Store ℕ) → Counted → List (Shown ℕ) → State ℕ → Type 0
  Did scope expected s t logic given u = DidAs itself scope expected s t logic given u

  module _ (threaded : IsThreaded w) (limit : ℕ) (b : Theory) (ev : Evaluator ℕ) (el : EvaluatorOf ℕ (Store ℕ)) (h : Meets w threaded base.table.packages limit ev el) (f : Follows b ev) where
    pub did : (c : World) (mode : Mode) (scope : Scope) (form : Core) (formal : Option ℕ) (expected : List Out) → Form c mode scope form formal expected
        → (variables : Variables ℕ) (s : State ℕ) (t : StateOf (Store ℕ)) (values : Values) → Stage scope variables s t values
        → IfGives (Did scope expected s t (form_counted b form values)) (ev form variables s)
    did c mode scope form formal expected is variables s t values stage =
        gives_map (λ vs u. (AreOutputs scope expected vs × ((v : StateOf (Store ℕ)) × Moves w (May scope expected) s t u v)) × Mine scope s (form_counted b form values) vs u)
        (Did scope expected s t (form_counted b form values)) (ev form variables s)
        (λ vs u m. record { outputs = m.0.0; to = m.0.1.0; moves = m.0.1.1; mine = m.1 })
        (gives_both (λ vs u. AreOutputs scope expected vs × ((v : StateOf (Store ℕ)) × Moves w (May scope expected) s t u v)) (Mine scope s (form_counted b form values)) (ev form variables s)
        (gives_moves w (AreOutputs scope expected) (May scope expected) (IsStobj scope) s t (ev form variables s) (el form variables t)
        (h.meets c mode scope form formal expected is.suited_world.suits is.runs is.accepted is.formed variables s t stage.are stage.stands stage.same))
        (f.follows c mode scope form formal expected is variables s t values stage))

  -- ---- the stage after a form

  pub stands_after : (scope : Scope) (expected : List Out) (variables : Variables ℕ) (s : State ℕ) (t : StateOf (Store ℕ)) (values : Values) (logic : Counted) (given : List (Shown ℕ)) (u : State ℕ)
      → Stage scope variables s t values → (d : Did scope expected s t logic given u) → Stands w scope u.stobjs d.to.stobjs
  stands_after scope expected variables s t values logic given u stage d = stands_moved w scope (May scope expected) s t u d.to (λ x i. i.1) stage.stands d.moves

  -- the lists of L in that stage
  abbrev pub lists_after : (scope : Scope) (expected : List Out) (variables : Variables ℕ) (s : State ℕ) (t : StateOf (Store ℕ)) (values : Values) (logic : Counted) (given : List (Shown ℕ)) (u : State ℕ)
      → Stage scope variables s t values → Did scope expected s t logic given u → Held
  lists_after scope expected variables s t values logic given u stage d = held_after scope expected stage.lists d.mine.last

  pub kin_then : (scope : Scope) (expected : List Out) (variables : Variables ℕ) (s : State ℕ) (t : StateOf (Store ℕ)) (values : Values) (logic : Counted) (given : List (Shown ℕ)) (u : State ℕ)
      → (stage : Stage scope variables s t values) → (d : Did scope expected s t logic given u) → AreKin w base itself scope u.symbols u.stobjs (held_after scope expected stage.lists d.mine.last)
  kin_then scope expected variables s t values logic given u stage d =
      kin_after scope expected s.symbols u.symbols s.stobjs u.stobjs stage.lists d.mine.last (nil_known scope s.symbols s.stobjs stage.sound) d.mine.grown stage.sound.known (unchanged w scope expected s t u d.to d.moves) stage.kin d.mine.kin

  -- a value in L is the same with them
  pub ends_held : (scope : Scope) (expected : List Out) (variables : Variables ℕ) (s : State ℕ) (t : StateOf (Store ℕ)) (values : Values) (logic : Counted) (given : List (Shown ℕ)) (u : State ℕ)
      → (stage : Stage scope variables s t values) → (d : Did scope expected s t logic given u) → Ended w logic (all_held u.symbols (held_after scope expected stage.lists d.mine.last) given)
  ends_held scope expected variables s t values logic given u stage d =
      subst (λ (os : List Thing). Ended w logic os) (sym (outputs_returned scope u.symbols expected expected stage.lists d.mine.last given d.outputs (λ x h. h))) d.mine.ends

  -- a form that returns no stobj leaves the stage
  unfoldable pub quiet_after : (scope : Scope) (variables : Variables ℕ) (s : State ℕ) (t : StateOf (Store ℕ)) (values : Values) (logic : Counted) (given : List (Shown ℕ)) (u : State ℕ)
      → Stage scope variables s t values → (d : Did scope one_ordinary s t logic given u) → Stage scope variables u d.to values
  quiet_after scope variables s t values logic given u stage d = record {
    are = stage.are;
    stands = stands_after scope one_ordinary variables s t values logic given u stage d;
    same = d.moves.same;
    sound = d.mine.sound;
    lists = stage.lists;
    kin = record {
      each = λ x i.
          kin_same w base s.symbols u.symbols x (list_of s.stobjs x) (list_of u.stobjs x) (stage.lists x) (stage.lists x)
          (ap (thing_of_list u.symbols) (unchanged w scope one_ordinary s t u d.to d.moves x refl)
          ∙ list_stays (table_of base.table.packages s.symbols) (table_of base.table.packages u.symbols) d.mine.grown (list_of s.stobjs x) (nil_known scope s.symbols s.stobjs stage.sound) (stage.sound.known x i))
          refl (stage.kin.each x i);
    };
    named = named_kept (table_of base.table.packages s.symbols) (table_of base.table.packages u.symbols) d.mine.grown scope variables values stage.lists stage.lists stage.are stage.named (λ x i. refl);
  }

  -- the same of another computation, from an earlier state
  pub mine_as_before : (seen_as : ℕ → ℕ) (scope : Scope) (s u : State ℕ) (logic whole : Counted) (given : List (Shown ℕ)) (q : State ℕ)
      → Extends (table_of base.table.packages s.symbols) (table_of base.table.packages u.symbols) → ((v : Thing) → Ends logic v → Ends whole v) → MineAs seen_as scope u logic given q → MineAs seen_as scope s whole given q
  mine_as_before seen_as scope s u logic whole given q grown f m = record {
    last = m.last;
    kin = m.kin;
    sound = m.sound;
    grown = Extends-then grown m.grown;
    known = m.known;
    ends = ended_as w logic whole (all_held q.symbols m.last given) f m.ends;
  }

  pub mine_before : (scope : Scope) (s u : State ℕ) (logic whole : Counted) (given : List (Shown ℕ)) (q : State ℕ)
      → Extends (table_of base.table.packages s.symbols) (table_of base.table.packages u.symbols) → ((v : Thing) → Ends logic v → Ends whole v) → Mine scope u logic given q → Mine scope s whole given q
  mine_before scope s u logic whole given q grown f m = mine_as_before itself scope s u logic whole given q grown f m
