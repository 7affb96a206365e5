-- Children that a `STOBJ-LET` borrows, in the logic beside checked evaluation.
use Rattle.std.proofs.Common.{◌≡◌, ℕ, List, [], ◌∷◌, ◌++◌, map, Bool, true, false, Option, Some, None, refl, sym, ap, ◌∙◌, subst}
use Rattle.std.specs.Prelude.{◌≢◌, ◌||◌, not, nat_eq, pos, negsuc, option_map, if◌then◌else◌}
use Rattle.std.proofs.lemmas.Bool.{eqb-true}
use Rattle.model_symbols.specs.Symbols.{QualifiedName, symbol_at}
use Rattle.model_symbols.specs.Growth.{Extends}
use Rattle.model_symbols.proofs.TableLemmas.{Extends-self}
use Rattle.model_prims.specs.Kinds.{by_number}
use Rattle.model_lists.specs.Lists.{StobjList, item}
use Rattle.model_terms.specs.declared.rule.Mode.{Mode}
use Rattle.model_terms.specs.declared.rule.Mode.TheVariants.{Logic}
use Rattle.model_terms.specs.Cores.{Core, WithLocal, Cores, Reached, Var, Const, If, Let, Mv, MvLet, StobjLet, MustBeEqual, Call, none, more, reached}
use Rattle.model_terms.specs.Worlds.{World, Definition, GeneratedFunction, Generated, definition, Out, Ordinary, Scope}
use Rattle.model_terms.specs.Worlds as worlds
use Rattle.model_terms.specs.Classes.{has}
use Rattle.model_terms.specs.Scopes.{kind_in}
use Rattle.model_eval.specs.Outcomes.{Shown, Plain, StobjNamed, Stobjs, StateOf, State, Outcome, one_more_call, stops_here, Guard}
use Rattle.model_eval.specs.PlacesKeeping.{Store}
use Rattle.model_eval.specs.Variables.{Variables, variable_in, list_of}
use Rattle.model_eval.specs.Evaluated.{Rules, Evaluator, EvaluatorOf, leaf_object, index_of, loan_of, borrowing, borrowed_from, borrowed, all_borrowed}
use Rattle.model_logic.specs.Logic.{Theory, Thing, Values, value_in, bind, logic_loans, index_value}
use Rattle.model_eval_laws.specs.Scope.{names}
use Rattle.model_accepted.specs.Threaded.{IsThreaded}
use Rattle.model_accepted.specs.StobjScopes.{IsStobj, IsOfKind, AreVariables}
use Rattle.model_accepted.proofs.AcceptLemmas.{false_true, both_true}
use Rattle.model_accepted.proofs.ScopeLemmas.{some_same, none_some}
use Rattle.model_in_place.proofs.WriteLemmas.{counted_same}
use Rattle.model_in_place.proofs.CallMeeting.{on_lists, Meets}
use Rattle.std.specs.Option.{option_map_or}
use Rattle.std.proofs.lemmas.List.{append_assoc}
use Rattle.model_objects.specs.Object.{Integer, Symbol, Text, Pair, named}
use Rattle.model_terms.specs.Nested.{BoundChild, bound_children, child_stobj, same_kind, is_ordinary_in, is_index, have_indices, bindings_hold, stobj_let_holds}
use Rattle.model_eval.specs.Keeping.{Loan}
use Rattle.model_eval.specs.Lending.{is_reached, loan_values}
use Rattle.model_accepted.proofs.KidLemmas.{AreLoans, AreBound, AreBindings, bindings_are}
use Rattle.model_in_place.proofs.KidMeeting.{loan_is}
use Rattle.model_follows.specs.Costs.{Counted}
use Rattle.model_follows.proofs.HeldThings.{Ground, held}
use Rattle.model_follows.specs.Follows.{table_of, IfGives}
use Rattle.model_follows.proofs.KidThings.{named_loan}
use Rattle.model_follows.proofs.Following.{gives_map, gives_counting, Mine, Stage, AreSeenIn, Suited, Lawful, Follows, mine_before}
use Rattle.model_follows.proofs.PartFollowing.{book}

module _ (w : World) (base : Ground) (threaded : IsThreaded w) (followed : Lawful w base threaded) (limit : ℕ) (symbols : List QualifiedName) (bg : Extends base.table (table_of base.table.packages symbols))
    (ev : Evaluator ℕ) (el : EvaluatorOf ℕ (Store ℕ)) (h : Meets w threaded base.table.packages limit ev el) (f : Follows w base (book w base threaded limit symbols) ev) where
  abbrev thy : Theory
  thy = book w base threaded limit symbols

  abbrev rules : Rules ℕ
  rules = on_lists w threaded base.table.packages limit

  -- ---- a parent and its children are seen as they are

  abbrev pub ArePlain : ℕ → List BoundChild → Type 0
  ArePlain p [] = Unit {0}
  ArePlain p (b ∷ bs) = (base.view p ≡ None) × (base.view b.name ≡ None) × ArePlain p bs

  pub are_plain : (c : World) (p : ℕ) (ns : List ℕ) (forms : Cores) (bs : List BoundChild) → AreSeenIn w base c → bound_children c ns forms ≡ Some bs → AreBound c p bs → ArePlain p bs
  are_plain c p [] none bs seen bind a = subst (ArePlain p) (some_same bind) tt
  are_plain c p [] (more g fs) bs seen bind a = none_some bind
  are_plain c p (x ∷ xs) none bs seen bind a = none_some bind
  are_plain c p (x ∷ xs) (more g fs) bs seen bind a =
      let is : AreBindings c x xs g fs bs = bindings_are c x xs g fs bs bind in
      let all : AreBound c p (is.first ∷ is.others) = subst (AreBound c p) is.all a in
      let plain : (base.view is.first.accessor.stobj ≡ None) × (base.view (child_stobj is.first.accessor.holds) ≡ None) = seen.plain is.is.by.accessor is.first.accessor is.is.found in
      subst (ArePlain p) (sym is.all) (
        sym (seen.alike is.first.accessor.stobj p all.1) ∙ plain.0,
        sym (seen.alike (child_stobj is.first.accessor.holds) is.first.name all.2) ∙ plain.1,
        are_plain c p xs fs is.others seen is.later all.3,
      )

  pub plain_parent : (c : World) (scope : Scope) (expected : List Out) (names : List ℕ) (forms : Cores) (vars : List ℕ) (p : ℕ) (bs : List BoundChild) → bound_children c names forms ≡ Some bs → stobj_let_holds c scope expected names forms vars ≡ true
      → ArePlain p bs → base.view p ≡ None
  unfolding stobj_let_holds
  plain_parent c scope expected names forms vars p [] e h a = false_true (ap (bindings_hold c scope expected names vars) (sym e) ∙ h)
  plain_parent c scope expected names forms vars p (b ∷ bs) e h a = a.0

  pub plain_child : (p : ℕ) (bs : List BoundChild) (x : ℕ) → ArePlain p bs → has (map (λ (b : BoundChild). b.name) bs) x ≡ true → base.view x ≡ None
  plain_child p [] x a h = false_true h
  plain_child p (b ∷ bs) x a h = go (nat_eq x b.name) refl h (plain_child p bs x a.2)
    where
      go : (q : Bool) → nat_eq x b.name ≡ q → (q || has (map (λ (b : BoundChild). b.name) bs) x) ≡ true → (has (map (λ (b : BoundChild). b.name) bs) x ≡ true → base.view x ≡ None) → base.view x ≡ None
      go true e i later = ap base.view (eqb-true x b.name e) ∙ a.1
      go false e i later = later i

  -- ---- indices and loans

  pub index_same : (scope : Scope) (vars : List ℕ) (variables : Variables ℕ) (s : State ℕ) (t : StateOf (Store ℕ)) (values : Values) (index : Option Core) → Stage w base scope variables s t values → option_map_or (is_index scope vars) index true ≡ true
      → index_value thy index values ≡ option_map (named (symbol_at s.symbols)) (index_of rules index variables)
  index_same scope vars variables s t values None stage e = refl
  index_same scope vars variables s t values (Some (Var x)) stage e = go (kind_in scope x) refl (both_true (is_ordinary_in scope x) (not (has vars x)) e).0
    where
      ordinary : (v : Shown ℕ) → IsOfKind x Ordinary v → value_in values x ≡ held s.symbols stage.lists v → value_in values x ≡ named (symbol_at s.symbols) (leaf_object rules (Some v))
      ordinary (Plain o) i g = g
      ordinary (StobjNamed y) i g = absurd i

      go : (k : Option Out) → kind_in scope x ≡ k → option_map_or (same_kind Ordinary) k false ≡ true → Some (value_in values x) ≡ Some (named (symbol_at s.symbols) (leaf_object rules (Some (variable_in by_number variables x))))
      go None i g = false_true g
      go (Some Ordinary) i g = ap (λ (z : Thing). Some z) (ordinary (variable_in by_number variables x) (stage.are.each x Ordinary i) (stage.named.same x Ordinary i))
      go (Some (worlds.Stobj z)) i g = false_true g
  index_same scope vars variables s t values (Some (Const (Integer (pos k)))) stage e = refl
  index_same scope vars variables s t values (Some (Const (Integer (negsuc k)))) stage e = false_true e
  index_same scope vars variables s t values (Some (Const (Symbol q))) stage e = false_true e
  index_same scope vars variables s t values (Some (Const (Text bytes))) stage e = false_true e
  index_same scope vars variables s t values (Some (Const (Pair a d))) stage e = false_true e
  index_same scope vars variables s t values (Some (If a b d)) stage e = false_true e
  index_same scope vars variables s t values (Some (Let ns fs body)) stage e = false_true e
  index_same scope vars variables s t values (Some (Mv parts)) stage e = false_true e
  index_same scope vars variables s t values (Some (MvLet ns fs body)) stage e = false_true e
  index_same scope vars variables s t values (Some (StobjLet ns fs vs pr co)) stage e = false_true e
  index_same scope vars variables s t values (Some (WithLocal o ns pr body)) stage e = false_true e
  index_same scope vars variables s t values (Some (MustBeEqual a b)) stage e = false_true e
  index_same scope vars variables s t values (Some (Call g actuals)) stage e = false_true e

  module _ (c : World) (mode : Mode) (scope : Scope) (suited_world : Suited w base c) (n : mode ≢ Logic) (variables : Variables ℕ) (values : Values) (are : AreVariables scope variables) (whole : Counted) (vars : List ℕ) (p : ℕ) (parent : StobjList ℕ) (stobj : IsStobj scope p)
      (shown : variable_in by_number variables p ≡ StobjNamed p) (sy : List QualifiedName) (os : Stobjs ℕ) where
    pub follows_borrowed : (ns : List ℕ) (forms : Cores) (bs : List BoundChild) (done : List (Loan ℕ)) (go : List (Loan ℕ) → State ℕ → Outcome ℕ) (s : State ℕ) (t : StateOf (Store ℕ))
        → bound_children c ns forms ≡ Some bs → AreBound c p bs → have_indices scope vars bs ≡ true → list_of s.stobjs p ≡ parent → s.symbols ≡ sy → s.stobjs ≡ os → Stage w base scope variables s t values
        → ((ls all : List (Loan ℕ)) (u : State ℕ) (v : StateOf (Store ℕ)) → AreLoans w p parent bs ls → all ≡ done ++ ls → logic_loans thy ns forms values ≡ map (named_loan (symbol_at sy)) ls → u.symbols ≡ sy → u.stobjs ≡ os
        → Stage w base scope variables u v values → IfGives (Mine w base scope u whole) (go all u))
        → IfGives (Mine w base scope s whole) (all_borrowed rules ns forms variables done go s)
    unfolding all_borrowed
    follows_borrowed [] none bs done go s t bind a ix same es eo stage k = k [] done s t (subst (λ (m : List BoundChild). AreLoans w p parent m []) (some_same bind) tt) (append_nothing done) refl es eo stage
      where
        append_nothing : (ls : List (Loan ℕ)) → ls ≡ ls ++ []
        append_nothing [] = refl
        append_nothing (l ∷ ls) = ap (λ (ms : List (Loan ℕ)). l ∷ ms) (append_nothing ls)
    follows_borrowed [] (more g fs) bs done go s t bind a ix same es eo stage k = none_some bind
    follows_borrowed (x ∷ xs) none bs done go s t bind a ix same es eo stage k = none_some bind
    follows_borrowed (x ∷ xs) (more g fs) bs done go s t bind a ix same es eo stage k =
        let is : AreBindings c x xs g fs bs = bindings_are c x xs g fs bs bind in
        let all : AreBound c p (is.first ∷ is.others) = subst (AreBound c p) is.all a in
        let ixs : (option_map_or (is_index scope vars) is.first.index true ≡ true) × (have_indices scope vars is.others ≡ true)
        = both_true (option_map_or (is_index scope vars) is.first.index true) (have_indices scope vars is.others) (subst (λ (m : List BoundChild). have_indices scope vars m ≡ true) is.all ix) in
        let l : Loan ℕ = loan_of rules x p is.is.by variables in
        let from : variable_in by_number variables is.is.by.parent ≡ StobjNamed p = ap (variable_in by_number variables) (sym is.is.parent ∙ all.0) ∙ shown in
        subst (λ (r : Option Reached). IfGives (Mine w base scope s whole) (borrowed rules x r variables (λ loan after. all_borrowed rules xs fs variables (done ++ loan ∷ []) go after) s)) (sym is.is.called)
        (subst (λ (q : Shown ℕ). IfGives (Mine w base scope s whole) (borrowed_from rules x is.is.by q variables (λ loan after. all_borrowed rules xs fs variables (done ++ loan ∷ []) go after) s)) (sym from)
        (gives_counting (Mine w base scope s whole) limit s (borrowing rules is.is.by.accessor l (λ after. all_borrowed rules xs fs variables (done ++ l ∷ []) go after))
        (by_test (is_reached l.index (item l.field (list_of s.stobjs l.parent))) l is.is.by.accessor
        (λ r. gives_map (Mine w base scope (one_more_call s) whole) (Mine w base scope s whole) (all_borrowed rules xs fs variables (done ++ l ∷ []) go (one_more_call s))
        (λ given z m. mine_before w base scope s (one_more_call s) whole whole given z (Extends-self (table_of base.table.packages s.symbols)) (λ v q. q) m)
        (follows_borrowed xs fs is.others (done ++ l ∷ []) go (one_more_call s) (one_more_call t) is.later all.3 ixs.1 same es eo
        (record { are = stage.are; stands = stage.stands; same = counted_same w s t stage.same; sound = stage.sound; lists = stage.lists; kin = stage.kin; named = stage.named })
        (λ ls every u v loans q ll us uo st.
        k (l ∷ ls) every u v
        (subst (λ (m : List BoundChild). AreLoans w p parent m (l ∷ ls)) (sym is.all) (
          loan_is w threaded base.table.packages limit ev el h c mode scope suited_world.suits n variables are p parent stobj shown x g is.first is.is all.0 (suited_world.suits.layouts is.first.accessor.stobj p all.1) (suited_world.suits.layouts (child_stobj is.first.accessor.holds) is.first.name all.2)
              (ap (λ (m : StobjList ℕ). is_reached l.index (item l.field m)) (sym same) ∙ r),
          loans,
        ))
        (q ∙ append_assoc done (l ∷ []) ls)
        (loan_same is.is.by is.is.called (sym is.is.parent ∙ all.0) (ap (λ (i : Option Core). option_map_or (is_index scope vars) i true) (sym is.is.index) ∙ ixs.0) ls ll)
        us uo st)))
        refl)))
      where
        by_test : (b : Bool) (l : Loan ℕ) (accessor : ℕ)
            → (is_reached l.index (item l.field (list_of s.stobjs l.parent)) ≡ true → IfGives (Mine w base scope s whole) (all_borrowed rules xs fs variables (done ++ l ∷ []) go (one_more_call s)))
            → is_reached l.index (item l.field (list_of s.stobjs l.parent)) ≡ b
            → IfGives (Mine w base scope s whole) (if b then all_borrowed rules xs fs variables (done ++ l ∷ []) go (one_more_call s) else stops_here (Guard accessor (loan_values l)) (one_more_call s))
        by_test true l accessor m e = m e
        by_test false l accessor m e = tt

        loan_same : (by : Reached) → reached g ≡ Some by → by.parent ≡ p → option_map_or (is_index scope vars) by.index true ≡ true → (ls : List (Loan ℕ)) → logic_loans thy xs fs values ≡ map (named_loan (symbol_at sy)) ls
            → logic_loans thy (x ∷ xs) (more g fs) values ≡ named_loan (symbol_at sy) (loan_of rules x p by variables) ∷ map (named_loan (symbol_at sy)) ls
        loan_same by e d i ls ll =
            let index : index_value thy by.index values ≡ option_map (named (symbol_at sy)) (index_of rules by.index variables)
            = subst (λ (z : List QualifiedName). index_value thy by.index values ≡ option_map (named (symbol_at z)) (index_of rules by.index variables)) es (index_same scope vars variables s t values by.index stage i) in
            rw (e, d, ll, index) refl
