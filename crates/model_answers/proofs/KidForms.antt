-- A form that binds children.
use Rattle.std.proofs.Common.{◌≡◌, ℕ, List, [], ◌∷◌, ◌++◌, map, length, Bool, true, false, Option, Some, None, refl, sym, ap, ◌∙◌, subst}
use Rattle.std.specs.Prelude.{◌≢◌, ◌||◌, nat_eq, if◌then◌else◌}
use Rattle.model_terms.specs.Worlds.{Out, Scope, World}
use Rattle.model_accepted.specs.Accepted.{Accepted}
use Rattle.model_answers.specs.Beside.{AnswersAs, KnowsVariables}
use Rattle.model_answers.proofs.Setting.{Answers, Staged, naming, stage_of, things, values_of}
use Rattle.model_accepted.proofs.KidLemmas.{AreLoans, StobjLetHolds, stobj_let_is}
use Rattle.model_accepted.specs.StobjScopes.{AreOutputs, IsStobj}
use Rattle.model_follows.proofs.KidBorrowing.{ArePlain, are_plain, plain_parent}
use Rattle.model_terms.specs.Nested.{BoundChild, stobj_let_holds}
use Rattle.model_terms.specs.Cores.{Core, Cores, StobjLet}
use Rattle.model_answers.proofs.Kids.{CanLend, CanPut, answers_put, answers_taken, beside_lent, indices_named, loan_indices, loaned_named, twins_named, IsParent, parent_stays}
use Rattle.model_follows.proofs.Following.{Did, Follows, Form, Stage, Suited, did}
use Rattle.model_eval.specs.Evaluated.{Evaluator, EvaluatorOf, Rules, opened, producing, put_back, stobj_let_word, with_loans}
use Rattle.model_symbols.specs.Growth.{Extends}
use Rattle.model_eval.specs.Outcomes.{Gives, Guard, Shown, State, StateOf, StobjNamed, Stobjs, stops_here, then_with}
use Rattle.model_follows.specs.Follows.{IfGives, table_of}
use Rattle.model_follows.specs.Abstract.{IsFollowedBeside, ObligationsInLogic, abstract_ground}
use Rattle.model_accepted.specs.Threaded.{IsFormed, IsThreaded, AreFormed}
use Rattle.model_follows.specs.FollowedWorlds.{IsSuited}
use Rattle.model_eval.specs.Keeping.{Loan}
use Rattle.model_terms.specs.declared.rule.Mode.TheVariants.{Logic}
use Rattle.model_in_place.proofs.CallMeeting.{Meets, on_lists}
use Rattle.model_terms.specs.declared.rule.Mode.{Mode}
use Rattle.model_symbols.specs.Symbols.{QualifiedName, Table, symbol_at}
use Rattle.model_lists.specs.Lists.{StobjList}
use Rattle.model_eval.specs.PlacesKeeping.{Store}
use Rattle.model_logic.specs.Logic.{Theory, Values, logic_loans, with_children}
use Rattle.model_eval.specs.Variables.{Variables, bound, list_of, variable_in}
use Rattle.model_eval_laws.proofs.Lists.{among_first, among_more, names_append, same_number}
use Rattle.model_answers.proofs.Outcomes.{answers_as, answers_stops, answers_then}
use Rattle.model_answers.proofs.Forms.{answers_next, on_names}
use Rattle.model_eval.specs.Lending.{are_twins, indices, lent}
use Rattle.model_answers.proofs.Lists.{beside_append}
use Rattle.model_follows.proofs.PartFollowing.{book}
use Rattle.model_accepted.proofs.AcceptLemmas.{not_false, of_stobj_let, s13}
use Rattle.model_answers.proofs.Naming.{bound_named, known_bound, knows_variables_stay, variables_stay}
use Rattle.model_prims.specs.Kinds.{by_number}
use Rattle.model_accepted.specs.Loans.{children}
use Rattle.model_follows.proofs.KidFollowing.{children_back, children_lent}
use Rattle.model_terms.specs.Scopes.{consumer_scope, name_kinds, producer_scope}
use Rattle.model_follows.specs.Costs.{form_counted}
use Rattle.model_follows.proofs.HeldThings.{ground_book}
use Rattle.model_terms.specs.Classes.{has}
use Rattle.model_terms.specs.Sites.{here, parent_in}
use Rattle.model_follows.proofs.KidParts.{indices_hold}
use Rattle.model_eval_laws.specs.Scope.{is_among, names}
use Rattle.model_in_place.proofs.KidMeeting.{parent_is}
use Rattle.model_follows.proofs.KidThings.{named_loan}
use Rattle.model_in_place.proofs.LoanLemmas.{names_lent}
use Rattle.model_abstract_books.specs.Answers.{shown_named, stop_named}
use Rattle.model_answers.proofs.Locals.{staged_of}
use Rattle.model_answers.proofs.KidBindings.{answers_borrowed}

module _ (w : World) (table : Table) (symbols : List QualifiedName) (threaded : IsThreaded w) (followed : IsFollowedBeside w (abstract_ground w table symbols) threaded) (limit : ℕ) (bg : Extends table (table_of table.packages symbols))
    (obligations : ObligationsInLogic (ground_book w (abstract_ground w table symbols))) (offset : ℕ)
    (ev : Evaluator ℕ) (el : EvaluatorOf ℕ (Store ℕ)) (h : Meets w threaded table.packages limit ev el) (f : Follows w (abstract_ground w table symbols) (book w (abstract_ground w table symbols) threaded limit symbols) ev) (av : ℕ → ℕ → Evaluator QualifiedName) (an : Answers w (abstract_ground w table symbols) offset ev av) where
  abbrev rules : Rules ℕ
  rules = on_lists w threaded table.packages limit

  abbrev named_rules : ℕ → ℕ → Rules QualifiedName
  named_rules m k = on_names w (abstract_ground w table symbols) threaded limit symbols offset m k

  abbrev thy : Theory
  thy = book w (abstract_ground w table symbols) threaded limit symbols

  -- ---- what can be lent and put back

  or_true : (b : Bool) → (b || true) ≡ true
  or_true true = refl
  or_true false = refl

  abbrev Plain_kids : ℕ → List BoundChild → Type 0
  Plain_kids p bs = ArePlain w (abstract_ground w table symbols) threaded followed.lawful limit symbols bg ev el h f p bs

  can_put : (p : ℕ) (parent : StobjList ℕ) (there : List ℕ) (bs : List BoundChild) (ls : List (Loan ℕ)) → AreLoans w p parent bs ls → Plain_kids p bs → is_among p there ≡ true → ((x : ℕ) → has (children ls) x ≡ true → is_among x there ≡ true)
      → CanPut w (abstract_ground w table symbols) p parent there ls
  can_put p parent there [] [] a i e k = tt
  can_put p parent there [] (l ∷ ls) a i e k = absurd a
  can_put p parent there (b ∷ bs) [] a i e k = absurd a
  can_put p parent there (b ∷ bs) (l ∷ ls) a i e k = (
    k l.child (rw (same_number l.child) refl),
    ap (λ (z : ℕ). is_among z there) a.0.from ∙ e,
    ap (abstract_ground w table symbols).view a.0.child ∙ i.1,
    ap (abstract_ground w table symbols).view a.0.from ∙ i.0,
    (b, a.0),
    can_put p parent there bs ls a.1 i.2 e (λ x j. k x (ap (λ (q : Bool). nat_eq x l.child || q) j ∙ or_true (nat_eq x l.child))),
  )

  can_lend : (p : ℕ) (parent : StobjList ℕ) (there : List ℕ) (bs : List BoundChild) (ls : List (Loan ℕ)) → AreLoans w p parent bs ls → Plain_kids p bs → is_among p there ≡ true
      → CanLend w (abstract_ground w table symbols) p parent there ls
  can_lend p parent there [] [] a i e = tt
  can_lend p parent there [] (l ∷ ls) a i e = absurd a
  can_lend p parent there (b ∷ bs) [] a i e = absurd a
  can_lend p parent there (b ∷ bs) (l ∷ ls) a i e = (
    ap (λ (z : ℕ). is_among z there) a.0.from ∙ e,
    ap (abstract_ground w table symbols).view a.0.child ∙ i.1,
    ap (abstract_ground w table symbols).view a.0.from ∙ i.0,
    (b, a.0),
    can_lend p parent there bs ls a.1 i.2 e,
  )

  loaned_known : (n : ℕ) (ls : List (Loan ℕ)) (variables : Variables ℕ) → KnowsVariables n variables → KnowsVariables n (map (λ (l : Loan ℕ). (l.child, StobjNamed l.child)) ls ++ variables)
  loaned_known n [] variables k = k
  loaned_known n (l ∷ ls) variables k = (tt, loaned_known n ls variables k)

  -- ---- with the children lent

  module _ (c : World) (mode : Mode) (scope : Scope) (ns : List ℕ) (forms : Cores) (vars : List ℕ) (producer consumer : Core) (expected : List Out) (variables : Variables ℕ) (s : State ℕ) (t : StateOf (Store ℕ)) (shown : Variables QualifiedName) (a : State QualifiedName)
      (suited_world : Suited w (abstract_ground w table symbols) c) (n : mode ≢ Logic) (holds : StobjLetHolds c scope expected ns forms vars) (stobj : IsStobj scope holds.parent) (plain_p : (abstract_ground w table symbols).view holds.parent ≡ None) (plain_kids : ArePlain w (abstract_ground w table symbols) threaded followed.lawful limit symbols bg ev el h f holds.parent holds.bs)
      (first : Accepted c mode (producer_scope c scope (Some holds.parent) ns) producer None (name_kinds c vars)) (second : Accepted c mode (consumer_scope c scope ns vars) consumer None expected)
      (formed_producer : IsFormed c producer) (formed_consumer : IsFormed c consumer) (suited_producer : IsSuited w (length table.symbols) producer) (suited_consumer : IsSuited w (length table.symbols) consumer)
      (st : Staged w (abstract_ground w table symbols) offset scope variables s t shown a) (ls : List (Loan ℕ)) (loans : AreLoans w holds.parent (list_of s.stobjs holds.parent) holds.bs ls)
      (ll : logic_loans (book w (abstract_ground w table symbols) threaded limit symbols) ns forms (values_of s.symbols (things a.stobjs) variables) ≡ map (named_loan (symbol_at s.symbols)) ls) (twins : are_twins by_number ls ≡ false) where
    abbrev fs : ℕ → QualifiedName
    fs = symbol_at s.symbols

    abbrev lent_s : State ℕ
    lent_s = record s { stobjs = lent ls s.stobjs ++ s.stobjs }

    abbrev lent_a : State QualifiedName
    lent_a = record a { stobjs = lent (map (named_loan (symbol_at s.symbols)) ls) a.stobjs ++ a.stobjs }

    abbrev kid_variables : Variables ℕ
    kid_variables = map (λ (l : Loan ℕ). (l.child, StobjNamed l.child)) ls ++ variables

    abbrev kid_shown : Variables QualifiedName
    kid_shown = map (λ (l : Loan QualifiedName). (l.child, StobjNamed l.child)) (map (named_loan (symbol_at s.symbols)) ls) ++ shown

    abbrev logic_values : Values
    logic_values = with_children (map (named_loan (symbol_at s.symbols)) ls) (values_of s.symbols (things a.stobjs) variables)

    stage : Stage w (abstract_ground w table symbols) scope variables s t (values_of s.symbols (things a.stobjs) variables)
    stage = stage_of w (abstract_ground w table symbols) offset scope variables s t shown a st

    inside : (v : StateOf (Store ℕ)) × Stage w (abstract_ground w table symbols) (producer_scope c scope (Some holds.parent) ns) kid_variables lent_s v logic_values
    inside =
        children_lent w (abstract_ground w table symbols) threaded followed.lawful limit symbols bg ev el h f c mode scope ns forms vars producer consumer expected variables s t (values_of s.symbols (things a.stobjs) variables)
        suited_world n holds stobj plain_p first second formed_producer formed_consumer suited_producer suited_consumer stage ls loans ll twins

    abbrev Ready : List (Shown ℕ) → State ℕ → Type 0
    Ready vs q = AreOutputs (producer_scope c scope (Some holds.parent) ns) (name_kinds c vars) vs × ((v : StateOf (Store ℕ)) × (others : Values) × Stage w (abstract_ground w table symbols) (consumer_scope c scope ns vars) (bound vars vs variables) q v others)

    ready : IfGives Ready (producing (on_lists w threaded table.packages limit) ev vars producer variables ls s)
    ready =
        children_back w (abstract_ground w table symbols) threaded followed.lawful limit symbols bg ev el h f c mode scope ns forms vars producer consumer expected variables s t (values_of s.symbols (things a.stobjs) variables)
        suited_world n holds stobj plain_p first second formed_producer formed_consumer suited_producer suited_consumer stage ls loans ll twins

    parent_there : is_among holds.parent (names s.stobjs) ≡ true
    parent_there = st.stands.known holds.parent stobj

    lent_names : names (lent ls s.stobjs ++ s.stobjs) ≡ children ls ++ names s.stobjs
    lent_names = names_append (lent ls s.stobjs) s.stobjs ∙ ap (λ (xs : List ℕ). xs ++ names s.stobjs) (names_lent ls s.stobjs)

    can : CanPut w (abstract_ground w table symbols) holds.parent (list_of s.stobjs holds.parent) (children ls ++ names s.stobjs) ls
    can =
        can_put holds.parent (list_of s.stobjs holds.parent) (children ls ++ names s.stobjs) holds.bs ls loans plain_kids (among_more holds.parent (children ls) (names s.stobjs) parent_there)
        (λ x i. among_first x (children ls) (names s.stobjs) i)

    parent_is_one : IsParent w (length s.symbols) holds.parent (list_of s.stobjs holds.parent)
    parent_is_one = record { fits = st.stands.fits holds.parent stobj; recognized = st.sound.recognized holds.parent stobj; known = st.sound.known holds.parent stobj }

    kid_form : Form w (abstract_ground w table symbols) c mode (producer_scope c scope (Some holds.parent) ns) producer None (name_kinds c vars)
    kid_form = record { suited_world = suited_world; runs = n; accepted = first; formed = formed_producer; suited = suited_producer }

    kid_staged : Staged w (abstract_ground w table symbols) offset (producer_scope c scope (Some holds.parent) ns) kid_variables lent_s inside.0 kid_shown lent_a
    kid_staged =
        staged_of w (abstract_ground w table symbols) offset (producer_scope c scope (Some holds.parent) ns) kid_variables lent_s inside.0 kid_shown lent_a logic_values inside.1
        (record {
          table = st.together.table;
          truth = st.together.truth;
          grown = st.together.grown;
          lists =
              beside_append w (abstract_ground w table symbols) s.symbols (lent ls s.stobjs) (lent (map (named_loan (symbol_at s.symbols)) ls) a.stobjs) s.stobjs a.stobjs
              (beside_lent w (abstract_ground w table symbols) (symbol_at s.symbols) s.symbols (naming w (abstract_ground w table symbols) offset s a st.together) holds.parent (list_of s.stobjs holds.parent) parent_is_one ls s.stobjs a.stobjs refl (can_lend holds.parent (list_of s.stobjs holds.parent) (names s.stobjs) holds.bs ls loans plain_kids parent_there) st.together.lists) st.together.lists;
          outer = st.together.outer;
          calls = st.together.calls;
        })
        (ap (λ (vs : Variables QualifiedName). map (λ (l : Loan QualifiedName). (l.child, StobjNamed l.child)) (map (named_loan (symbol_at s.symbols)) ls) ++ vs) st.shown_are ∙ loaned_named (symbol_at s.symbols) s.symbols ls variables)
        (loaned_known (length s.symbols) ls variables st.knows)

    produced : AnswersAs w (abstract_ground w table symbols) offset s.symbols (children ls ++ names s.stobjs) a.calls
        (then_with (ev producer kid_variables lent_s) (λ given after. put_back (on_lists w threaded table.packages limit) vars ls (Gives given) after))
        (λ m k. then_with (av m k producer kid_shown lent_a) (λ given after. put_back (on_names w (abstract_ground w table symbols) threaded limit symbols offset m k) vars (map (named_loan (symbol_at s.symbols)) ls) (Gives given) after))
    produced =
        answers_then w (abstract_ground w table symbols) offset s.symbols (children ls ++ names s.stobjs) a.calls
        (Did w (abstract_ground w table symbols) (producer_scope c scope (Some holds.parent) ns) (name_kinds c vars) lent_s inside.0 (form_counted (book w (abstract_ground w table symbols) threaded limit symbols) producer logic_values))
        (ev producer kid_variables lent_s) (λ m k. av m k producer kid_shown lent_a)
        (λ given after. put_back (on_lists w threaded table.packages limit) vars ls (Gives given) after) (λ m k given after. put_back (on_names w (abstract_ground w table symbols) threaded limit symbols offset m k) vars (map (named_loan (symbol_at s.symbols)) ls) (Gives given) after)
        (did w (abstract_ground w table symbols) threaded limit (book w (abstract_ground w table symbols) threaded limit symbols) ev el h f c mode (producer_scope c scope (Some holds.parent) ns) producer None (name_kinds c vars) kid_form kid_variables lent_s inside.0 logic_values inside.1)
        (subst (λ (xs : List ℕ). AnswersAs w (abstract_ground w table symbols) offset s.symbols xs a.calls (ev producer kid_variables lent_s) (λ m k. av m k producer kid_shown lent_a)) lent_names
        (an.answers c mode (producer_scope c scope (Some holds.parent) ns) producer None (name_kinds c vars) kid_form kid_variables lent_s inside.0 kid_shown lent_a kid_staged))
        (λ given q d g.
        answers_put w (abstract_ground w table symbols) (symbol_at s.symbols) offset holds.parent (list_of s.stobjs holds.parent) limit table.packages (book w (abstract_ground w table symbols) threaded limit symbols) (children ls ++ names s.stobjs) vars ls can given q g.after g.together g.knows g.same_names
        (parent_stays w (table_of table.packages s.symbols) (table_of table.packages q.symbols) g.more_symbols holds.parent (list_of s.stobjs holds.parent) parent_is_one))

    answers_loans : AnswersAs w (abstract_ground w table symbols) offset s.symbols (names s.stobjs) a.calls
        (then_with (producing (on_lists w threaded table.packages limit) ev vars producer variables ls s) (λ given after. ev consumer (bound vars given variables) after))
        (λ m k. then_with (producing (on_names w (abstract_ground w table symbols) threaded limit symbols offset m k) (av m k) vars producer shown (map (named_loan (symbol_at s.symbols)) ls) a) (λ given after. av m k consumer (bound vars given shown) after))
    answers_loans =
        answers_then w (abstract_ground w table symbols) offset s.symbols (names s.stobjs) a.calls Ready
        (producing (on_lists w threaded table.packages limit) ev vars producer variables ls s) (λ m k. producing (on_names w (abstract_ground w table symbols) threaded limit symbols offset m k) (av m k) vars producer shown (map (named_loan (symbol_at s.symbols)) ls) a)
        (λ given after. ev consumer (bound vars given variables) after) (λ m k given after. av m k consumer (bound vars given shown) after) ready
        (answers_taken w (abstract_ground w table symbols) (symbol_at s.symbols) offset holds.parent (list_of s.stobjs holds.parent) s.symbols (names s.stobjs) a.calls ls parent_is_one can
        (then_with (ev producer kid_variables lent_s) (λ given after. put_back (on_lists w threaded table.packages limit) vars ls (Gives given) after))
        (λ m k. then_with (av m k producer kid_shown lent_a) (λ given after. put_back (on_names w (abstract_ground w table symbols) threaded limit symbols offset m k) vars (map (named_loan (symbol_at s.symbols)) ls) (Gives given) after)) produced)
        (λ given q d g.
        answers_next w (abstract_ground w table symbols) threaded limit symbols offset ev el h f av an (names s.stobjs) c mode (consumer_scope c scope ns vars) consumer None expected
        (record { suited_world = suited_world; runs = n; accepted = second; formed = formed_consumer; suited = suited_consumer })
        (bound vars given variables) q d.1.0 (bound vars (map (shown_named q.symbols) given) shown) g.after
        (staged_of w (abstract_ground w table symbols) offset (consumer_scope c scope ns vars) (bound vars given variables) q d.1.0 (bound vars (map (shown_named q.symbols) given) shown) g.after d.1.1 d.1.2 g.together
        (ap (bound vars (map (shown_named q.symbols) given)) (st.shown_are ∙ sym (variables_stay (table_of table.packages s.symbols) (table_of table.packages q.symbols) g.more_symbols variables st.knows)) ∙ bound_named q.symbols vars given variables)
        (known_bound (length q.symbols) vars given variables g.knows (knows_variables_stay (table_of table.packages s.symbols) (table_of table.packages q.symbols) g.more_symbols variables st.knows)))
        g.same_names)

  pub answers_stobj_let : (c : World) (mode : Mode) (scope : Scope) (ns : List ℕ) (forms : Cores) (vars : List ℕ) (producer consumer : Core) (formal : Option ℕ) (expected : List Out) (variables : Variables ℕ) (s : State ℕ) (t : StateOf (Store ℕ)) (shown : Variables QualifiedName) (a : State QualifiedName)
      → Form w (abstract_ground w table symbols) c mode scope (StobjLet ns forms vars producer consumer) formal expected → Staged w (abstract_ground w table symbols) offset scope variables s t shown a
      → AnswersAs w (abstract_ground w table symbols) offset s.symbols (names s.stobjs) a.calls (opened (on_lists w threaded table.packages limit) ev (StobjLet ns forms vars producer consumer) variables s)
      (λ m k. opened (on_names w (abstract_ground w table symbols) threaded limit symbols offset m k) (av m k) (StobjLet ns forms vars producer consumer) shown a)
  unfolding IsSuited AreFormed
  answers_stobj_let c mode scope ns forms vars producer consumer formal expected variables s t shown a form st =
      let test : stobj_let_holds c scope expected ns forms vars ≡ true = not_false (stobj_let_holds c scope expected ns forms vars) (s13 c mode (here (StobjLet ns forms vars producer consumer) scope formal expected) form.runs form.accepted.0) in
      let holds : StobjLetHolds c scope expected ns forms vars = stobj_let_is c scope expected ns forms vars test in
      let parent : IsStobj scope holds.parent × (variable_in by_number variables holds.parent ≡ StobjNamed holds.parent) = parent_is w threaded table.packages limit ev el h c mode scope form.suited_world.suits form.runs variables st.are holds.parent holds.stobj in
      let parts : Accepted c mode (producer_scope c scope (parent_in forms) ns) producer None (name_kinds c vars) × Accepted c mode (consumer_scope c scope ns vars) consumer None expected
      = of_stobj_let c mode scope formal expected ns forms vars producer consumer form.accepted in
      let plain_kids : ArePlain w (abstract_ground w table symbols) threaded followed.lawful limit symbols bg ev el h f holds.parent holds.bs
      = are_plain w (abstract_ground w table symbols) threaded followed.lawful limit symbols bg ev el h f c holds.parent ns forms holds.bs form.suited_world.seen holds.bound holds.all in
      let plain_p : (abstract_ground w table symbols).view holds.parent ≡ None
      = plain_parent w (abstract_ground w table symbols) threaded followed.lawful limit symbols bg ev el h f c scope expected ns forms vars holds.parent holds.bs holds.bound test plain_kids in
      answers_borrowed w table symbols threaded followed limit bg obligations offset ev el h f av an c mode scope form.suited_world form.runs variables shown st.are (names s.stobjs) vars holds.parent (list_of s.stobjs holds.parent) parent.0 parent.1 plain_p s.symbols s.stobjs ns forms holds.bs []
      (with_loans (on_lists w threaded table.packages limit) ev vars producer consumer variables)
      (λ m k loans after. with_loans (on_names w (abstract_ground w table symbols) threaded limit symbols offset m k) (av m k) vars producer consumer shown loans after) s t a
      holds.bound holds.all (indices_hold c scope expected ns forms vars holds.bs holds.bound test) refl refl refl refl st
      (λ ls all u v b loans q ll us uo after.
      subst (λ (zs : List (Loan ℕ)). AnswersAs w (abstract_ground w table symbols) offset u.symbols (names s.stobjs) b.calls (with_loans (on_lists w threaded table.packages limit) ev vars producer consumer variables zs u)
      (λ m k. with_loans (on_names w (abstract_ground w table symbols) threaded limit symbols offset m k) (av m k) vars producer consumer shown (map (named_loan (symbol_at s.symbols)) zs) b)) (sym q)
      (subst (λ (sy : List QualifiedName). AnswersAs w (abstract_ground w table symbols) offset u.symbols (names s.stobjs) b.calls (with_loans (on_lists w threaded table.packages limit) ev vars producer consumer variables ls u)
      (λ m k. with_loans (on_names w (abstract_ground w table symbols) threaded limit symbols offset m k) (av m k) vars producer consumer shown (map (named_loan (symbol_at sy)) ls) b)) us
      (subst (λ (os : Stobjs ℕ). AnswersAs w (abstract_ground w table symbols) offset u.symbols (names os) b.calls (with_loans (on_lists w threaded table.packages limit) ev vars producer consumer variables ls u)
      (λ m k. with_loans (on_names w (abstract_ground w table symbols) threaded limit symbols offset m k) (av m k) vars producer consumer shown (map (named_loan (symbol_at u.symbols)) ls) b)) uo
      (rw (twins_named u.symbols (naming w (abstract_ground w table symbols) offset u b after.together) ls (loan_indices w holds.parent (list_of s.stobjs holds.parent) u.symbols (naming w (abstract_ground w table symbols) offset u b after.together) holds.bs ls loans))
      (by_twins (are_twins by_number ls) ls u b after
      (λ e. answers_loans c mode scope ns forms vars producer consumer expected variables u v shown b form.suited_world form.runs holds parent.0 plain_p plain_kids
      (subst (λ (m : Option ℕ). Accepted c mode (producer_scope c scope m ns) producer None (name_kinds c vars)) holds.first parts.0) parts.1
      form.formed.0 form.formed.1 form.suited.0 form.suited.1 after ls (subst (λ (m : StobjList ℕ). AreLoans w holds.parent m holds.bs ls) (ap (λ (o : Stobjs ℕ). list_of o holds.parent) (sym uo)) loans)
      (subst (λ (sy : List QualifiedName). logic_loans (book w (abstract_ground w table symbols) threaded limit symbols) ns forms (values_of u.symbols (things b.stobjs) variables) ≡ map (named_loan (symbol_at sy)) ls) (sym us) ll) e) refl)))))
    where
      by_twins : (q : Bool) (ls : List (Loan ℕ)) (u : State ℕ) {v : StateOf (Store ℕ)} (b : State QualifiedName) → Staged w (abstract_ground w table symbols) offset scope variables u v shown b
          → (are_twins by_number ls ≡ false → AnswersAs w (abstract_ground w table symbols) offset u.symbols (names u.stobjs) b.calls (then_with (producing (on_lists w threaded table.packages limit) ev vars producer variables ls u) (λ given after. ev consumer (bound vars given variables) after))
          (λ m k. then_with (producing (on_names w (abstract_ground w table symbols) threaded limit symbols offset m k) (av m k) vars producer shown (map (named_loan (symbol_at u.symbols)) ls) b) (λ given after. av m k consumer (bound vars given shown) after)))
          → are_twins by_number ls ≡ q
          → AnswersAs w (abstract_ground w table symbols) offset u.symbols (names u.stobjs) b.calls
          (if q then stops_here (Guard stobj_let_word (indices ls)) u else then_with (producing (on_lists w threaded table.packages limit) ev vars producer variables ls u) (λ given after. ev consumer (bound vars given variables) after))
          (λ m k. if q then stops_here (Guard stobj_let_word (indices (map (named_loan (symbol_at u.symbols)) ls))) b
          else then_with (producing (on_names w (abstract_ground w table symbols) threaded limit symbols offset m k) (av m k) vars producer shown (map (named_loan (symbol_at u.symbols)) ls) b) (λ given after. av m k consumer (bound vars given shown) after))
      by_twins true ls u b after y e =
          answers_as w (abstract_ground w table symbols) offset u.symbols (names u.stobjs) b.calls 0 (stops_here (Guard stobj_let_word (indices ls)) u) (λ m k. stops_here (stop_named u.symbols (Guard stobj_let_word (indices ls))) b)
          (λ m k. stops_here (Guard stobj_let_word (indices (map (named_loan (symbol_at u.symbols)) ls))) b)
          (λ m k i j. ap (λ (zs : List (Shown QualifiedName)). stops_here (Guard stobj_let_word zs) b) (sym (indices_named u.symbols ls)))
          (answers_stops w (abstract_ground w table symbols) offset u b (Guard stobj_let_word (indices ls)) after.together)
      by_twins false ls u b after y e = y e
