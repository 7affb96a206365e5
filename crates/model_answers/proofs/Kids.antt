-- Children that a form binds.
use Rattle.std.proofs.Common.{◌≡◌, ℕ, suc, ◌+◌, ◌<◌, List, [], ◌∷◌, ◌++◌, map, length, Bool, true, false, Option, Some, None, refl, sym, ap, ◌∙◌, subst, inl, inr, arith}
use Rattle.std.specs.Prelude.{◌⊎◌, ◌&&◌, nat_eq, drop, pos, negsuc, option_map, if◌then◌else◌}
use Rattle.std.specs.List.{list_any}
use Rattle.model_terms.specs.Worlds.{AbstractDescriptor, World}
use Rattle.model_answers.specs.Beside.{AlikeBy, AnswersAs, AreBeside, AreTogether, GoesWith, Run, StopsAs, named_variables}
use Rattle.model_accepted.proofs.KidLemmas.{AreLoans, IsIndexed, IsLoan}
use Rattle.model_terms.specs.Nested.{BoundChild}
use Rattle.model_eval.specs.Outcomes.{Gives, Outcome, Shown, State, StobjNamed, Stobjs, Stops, Unknown, counting, one_more_call}
use Rattle.model_follows.proofs.HeldThings.{Ground, ground_book}
use Rattle.model_objects.specs.Object.{Integer, Object, Pair, Symbol, Text, named}
use Rattle.model_prims.proofs.ByName.{IsNaming}
use Rattle.model_follows.specs.Follows.{KnowsAll, table_of}
use Rattle.model_follows.specs.FollowedWorlds.{KnowsList, ListSymbols}
use Rattle.model_eval.specs.Keeping.{Loan, taken_back}
use Rattle.model_symbols.specs.Symbols.{Package, QualifiedName, symbol_at, Table}
use Rattle.model_lists.specs.Lists.{StobjList, item, size, with_item, as_object}
use Rattle.model_objects.specs.Named.{Symbols}
use Rattle.model_logic.specs.Logic.{Theory}
use Rattle.model_eval.specs.Variables.{Variables, list_of}
use Rattle.model_abstract.specs.Rules.{abstract_rules}
use Rattle.model_eval.specs.ListsKeeping.{all_put, lists_keeping}
use Rattle.model_answers.proofs.Outcomes.{answers_counting, answers_gives}
use Rattle.model_answers.proofs.Naming.{append_named}
use Rattle.model_eval.specs.Lending.{are_twins, child_in, index_list, indices, is_reached, lent, loan_values, put_into_parent, same_index, with_child, with_child_in}
use Rattle.model_answers.proofs.Lists.{beside_at, beside_drop, beside_with}
use Rattle.model_prims.specs.Kinds.{by_name, by_number}
use Rattle.model_eval.specs.Checked.{checked_rules}
use Rattle.model_accepted.specs.Loans.{children, path_of}
use Rattle.model_eval_laws.specs.Scope.{is_among, names}
use Rattle.model_lists.specs.Effects.{is_index}
use Rattle.model_follows.proofs.EffectThings.{item_known, with_known}
use Rattle.model_answers.proofs.Effects.{item_named, size_named, with_item_named}
use Rattle.model_accepted.specs.Threaded.{layout_of}
use Rattle.model_eval_laws.proofs.Lists.{length_children, names_all_put, names_drop, names_put}
use Rattle.model_abstract.specs.Corresponding.{named_list}
use Rattle.model_follows.proofs.KidThings.{named_loan, Good, child_good, parent_good}
use Rattle.model_answers.proofs.Setting.{naming}
use Rattle.model_prims.proofs.NamingLemmas.{natural_named, same_named}
use Rattle.model_prims.specs.Numbers.{natural_of}
use Rattle.model_eval.specs.Evaluated.{put_back}
use Rattle.model_abstract_books.specs.Answers.{shown_named}
use Rattle.model_symbols.specs.Growth.{Extends}
use Rattle.model_lists.specs.LiveLists.{HasFields}
use Rattle.model_eval.specs.PlacesKeeping.{index_path, with_under}
use Rattle.model_follows.proofs.ThingLemmas.{knows_list_stays}
use Rattle.model_lists.specs.Layouts.{recognizes}

-- ---- loans by name

module _ (f : ℕ → QualifiedName) where
  abbrev pub N_loans : List (Loan ℕ) → List (Loan QualifiedName)
  N_loans ls = map (named_loan f) ls

  -- the variables of the producer
  pub loaned_named : (sy : List QualifiedName) (ls : List (Loan ℕ)) (variables : Variables ℕ)
      → map (λ (l : Loan QualifiedName). (l.child, StobjNamed l.child)) (N_loans ls) ++ named_variables sy variables ≡ named_variables sy (map (λ (l : Loan ℕ). (l.child, StobjNamed l.child)) ls ++ variables)
  loaned_named sy [] variables = refl
  loaned_named sy (l ∷ ls) variables = ap (λ (r : Variables QualifiedName). (l.child, StobjNamed l.child) ∷ r) (loaned_named sy ls variables)

  length_named : (ls : List (Loan ℕ)) → length (N_loans ls) ≡ length ls
  length_named [] = refl
  length_named (l ∷ ls) = ap (λ (n : ℕ). suc n) (length_named ls)

  pub append_loans : (ls ms : List (Loan ℕ)) → N_loans (ls ++ ms) ≡ N_loans ls ++ N_loans ms
  append_loans [] ms = refl
  append_loans (l ∷ ls) ms = ap (λ (r : List (Loan QualifiedName)). named_loan f l ∷ r) (append_loans ls ms)

  module _ (sy : List QualifiedName) (n : IsNaming (symbol_at sy) (λ s. s < length sy)) where
    child_named : (i : Option (Object ℕ)) (field : StobjList ℕ) → child_in (option_map (named f) i) (named_list sy field) ≡ named_list sy (child_in i field)
    child_named None field = refl
    child_named (Some i) field = ap (λ (k : ℕ). item k (named_list sy field)) (natural_named f i) ∙ item_named sy n (natural_of i) field

    with_child_in_named : (i : Option (Object ℕ)) (child field : StobjList ℕ) → with_child_in (option_map (named f) i) (named_list sy child) (named_list sy field) ≡ named_list sy (with_child_in i child field)
    with_child_in_named None child field = refl
    with_child_in_named (Some i) child field = ap (λ (k : ℕ). with_item k (named_list sy child) (named_list sy field)) (natural_named f i) ∙ with_item_named sy n (natural_of i) child field

    with_child_named : (l : Loan ℕ) (child parent : StobjList ℕ) → with_child (named_loan f l) (named_list sy child) (named_list sy parent) ≡ named_list sy (with_child l child parent)
    with_child_named l child parent =
        ap (λ (r : StobjList QualifiedName). with_item l.field (with_child_in (option_map (named f) l.index) (named_list sy child) r) (named_list sy parent)) (item_named sy n l.field parent)
        ∙ (ap (λ (r : StobjList QualifiedName). with_item l.field r (named_list sy parent)) (with_child_in_named l.index child (item l.field parent)) ∙ with_item_named sy n l.field (with_child_in l.index child (item l.field parent)) parent)

    pub reached_named : (i : Option (Object ℕ)) (field : StobjList ℕ) → is_reached (option_map (named f) i) (named_list sy field) ≡ is_reached i field
    reached_named None field = refl
    reached_named (Some i) field = ap (is_index (named f i)) (size_named sy n field) ∙ index_any i (size field)
      where
        index_any : (o : Object ℕ) (k : ℕ) → is_index (named f o) k ≡ is_index o k
        index_any (Integer (pos m)) k = refl
        index_any (Integer (negsuc m)) k = refl
        index_any (Symbol s) k = refl
        index_any (Text bytes) k = refl
        index_any (Pair a d) k = refl

with_child_known : (P : ℕ → Type 0) (l : Loan ℕ) (child parent : StobjList ℕ) → ListSymbols P child → ListSymbols P parent → ListSymbols P (with_child l child parent)
with_child_known P l child parent k h = with_known P l.field (with_child_in l.index child (item l.field parent)) parent (go l.index) h
  where
    go : (i : Option (Object ℕ)) → ListSymbols P (with_child_in i child (item l.field parent))
    go None = k
    go (Some i) = with_known P (natural_of i) child (item l.field parent) k (item_known P l.field parent h)

child_known : (P : ℕ → Type 0) (i : Option (Object ℕ)) (field : StobjList ℕ) → ListSymbols P field → ListSymbols P (child_in i field)
child_known P None field h = h
child_known P (Some i) field h = item_known P (natural_of i) field h

-- ---- lists of both evaluations, lent and put back

-- a child of this parent and the parent are there, and are seen as they are
abbrev pub CanPut : World → Ground → ℕ → StobjList ℕ → List ℕ → List (Loan ℕ) → Type 0
CanPut w g p parent ns [] = Unit {0}
CanPut w g p parent ns (l ∷ ls) =
    (is_among l.child ns ≡ true) × (is_among l.parent ns ≡ true) × (g.view l.child ≡ None) × (g.view l.parent ≡ None) × ((b : BoundChild) × IsLoan w p parent b l) × CanPut w g p parent ns ls

abbrev pub CanLend : World → Ground → ℕ → StobjList ℕ → List ℕ → List (Loan ℕ) → Type 0
CanLend w g p parent ns [] = Unit {0}
CanLend w g p parent ns (l ∷ ls) = (is_among l.parent ns ≡ true) × (g.view l.child ≡ None) × (g.view l.parent ≡ None) × ((b : BoundChild) × IsLoan w p parent b l) × CanLend w g p parent ns ls

under_is : (l : Loan ℕ) (new m : StobjList ℕ) → with_under (path_of l) new m ≡ with_child l new m
under_is l new m = go l.index
  where
    go : (i : Option (Object ℕ)) → with_under (l.field ∷ index_path i) new m ≡ with_item l.field (with_child_in i new (item l.field m)) m
    go None = refl
    go (Some k) = refl

-- what the list of a parent may be
pub record IsParent (w : World) (n : ℕ) (p : ℕ) (parent : StobjList ℕ) : Type 0 where
  pub fits : HasFields (layout_of w p) parent
  pub recognized : recognizes by_number (layout_of w p) (as_object by_number parent) ≡ true
  pub known : KnowsList n parent

pub parent_stays : (w : World) (old new : Table) → Extends old new → (p : ℕ) (parent : StobjList ℕ) → IsParent w (length old.symbols) p parent → IsParent w (length new.symbols) p parent
parent_stays w old new grown p parent h = record { fits = h.fits; recognized = h.recognized; known = knows_list_stays old new grown parent h.known }

module _ (w : World) (g : Ground) (f : ℕ → QualifiedName) where
  module _ (sy : List QualifiedName) (n : IsNaming (symbol_at sy) (λ s. s < length sy)) where
    plain_list : (x : ℕ) (c : StobjList ℕ) (a : StobjList QualifiedName) → g.view x ≡ None → GoesWith w g sy x c a → named_list sy c ≡ a
    plain_list x c a e h = subst (λ (v : Option AbstractDescriptor). AlikeBy (ground_book w g) v sy c a) e h.alike

    plain_goes : (x : ℕ) (c : StobjList ℕ) (a : StobjList QualifiedName) → g.view x ≡ None → HasFields (layout_of w x) c → recognizes by_number (layout_of w x) (as_object by_number c) ≡ true → KnowsList (length sy) c → named_list sy c ≡ a → GoesWith w g sy x c a
    plain_goes x c a e fits recognized k h = record { fits = fits; recognized = recognized; known = k; alike = subst (λ (v : Option AbstractDescriptor). AlikeBy (ground_book w g) v sy c a) (sym e) h }

    module _ (p : ℕ) (parent : StobjList ℕ) (is : IsParent w (length sy) p parent) where
      abbrev IsGood : ℕ → StobjList ℕ → Type 0
      IsGood x l = Good w p parent (symbol_at sy) (λ s. s < length sy) n is.fits is.recognized is.known x l

      goes_good : (x : ℕ) (c : StobjList ℕ) (a : StobjList QualifiedName) → g.view x ≡ None → IsGood x c → named_list sy c ≡ a → GoesWith w g sy x c a
      goes_good x c a e good h = plain_goes x c a e good.fits good.recognized good.known h

      pub beside_lent : (ls : List (Loan ℕ)) (cs : Stobjs ℕ) (ms : Stobjs QualifiedName) → list_of cs p ≡ parent → CanLend w g p parent (names cs) ls → AreBeside w g sy cs ms → AreBeside w g sy (lent ls cs) (lent (map (named_loan f) ls) ms)
      beside_lent [] cs ms at can h = tt
      beside_lent (l ∷ ls) cs ms at can h =
          let there : GoesWith w g sy l.parent (list_of cs l.parent) (list_of ms l.parent) = beside_at w g sy cs ms l.parent h can.0 in
          let same : list_of cs l.parent ≡ parent = ap (list_of cs) can.3.1.from ∙ at in (
            refl,
            goes_good l.child (child_in l.index (item l.field (list_of cs l.parent))) (child_in (option_map (named f) l.index) (item l.field (list_of ms l.parent))) can.1
                (subst (λ (q : StobjList ℕ). IsGood l.child (child_in l.index (item l.field q))) (sym same) (child_good w p parent (symbol_at sy) (λ s. s < length sy) n is.fits is.recognized is.known can.3.0 l can.3.1).0)
                (sym (child_named f sy n l.index (item l.field (list_of cs l.parent)))
                ∙ (ap (child_in (option_map (named f) l.index)) (sym (item_named sy n l.field (list_of cs l.parent))) ∙ ap (λ (q : StobjList QualifiedName). child_in (option_map (named f) l.index) (item l.field q)) (plain_list l.parent (list_of cs l.parent) (list_of ms l.parent) can.2 there))),
            beside_lent ls cs ms at can.4 h,
          )

      good_of : (x y : ℕ) (c : StobjList ℕ) (a : StobjList QualifiedName) → x ≡ y → GoesWith w g sy x c a → IsGood y c
      good_of x y c a e there = record {
        fits = subst (λ (z : ℕ). HasFields (layout_of w z) c) e there.fits;
        recognized = subst (λ (z : ℕ). recognizes by_number (layout_of w z) (as_object by_number c) ≡ true) e there.recognized;
        known = there.known;
      }

      beside_put : (l : Loan ℕ) (b : BoundChild) → IsLoan w p parent b l → (cs : Stobjs ℕ) (ms : Stobjs QualifiedName) → is_among l.child (names cs) ≡ true → is_among l.parent (names cs) ≡ true → g.view l.child ≡ None → g.view l.parent ≡ None → AreBeside w g sy cs ms
          → AreBeside w g sy (put_into_parent l cs) (put_into_parent (named_loan f l) ms)
      beside_put l b loan cs ms i j plain_child_view plain_parent_view h =
          let child : GoesWith w g sy l.child (list_of cs l.child) (list_of ms l.child) = beside_at w g sy cs ms l.child h i in
          let above : GoesWith w g sy l.parent (list_of cs l.parent) (list_of ms l.parent) = beside_at w g sy cs ms l.parent h j in
          let good : IsGood p (with_under (path_of l) (list_of cs l.child) (list_of cs l.parent))
          = (parent_good w p parent (symbol_at sy) (λ s. s < length sy) n is.fits is.recognized is.known b l loan (list_of cs l.parent) (list_of cs l.child) (good_of l.parent p (list_of cs l.parent) (list_of ms l.parent) loan.from above) (good_of l.child l.child (list_of cs l.child) (list_of ms l.child) refl child)).0 in
          beside_with w g sy cs ms l.parent (with_child l (list_of cs l.child) (list_of cs l.parent)) (with_child (named_loan f l) (list_of ms l.child) (list_of ms l.parent)) h
          (goes_good l.parent (with_child l (list_of cs l.child) (list_of cs l.parent)) (with_child (named_loan f l) (list_of ms l.child) (list_of ms l.parent)) plain_parent_view
          (subst (λ (z : ℕ). IsGood z (with_child l (list_of cs l.child) (list_of cs l.parent))) (sym loan.from) (subst (IsGood p) (under_is l (list_of cs l.child) (list_of cs l.parent)) good))
          (sym (with_child_named f sy n l (list_of cs l.child) (list_of cs l.parent))
          ∙ (ap (λ (r : StobjList QualifiedName). with_child (named_loan f l) r (named_list sy (list_of cs l.parent))) (plain_list l.child (list_of cs l.child) (list_of ms l.child) plain_child_view child)
          ∙ ap (with_child (named_loan f l) (list_of ms l.child)) (plain_list l.parent (list_of cs l.parent) (list_of ms l.parent) plain_parent_view above))))

      pub beside_all_put : (ls : List (Loan ℕ)) (cs : Stobjs ℕ) (ms : Stobjs QualifiedName) → CanPut w g p parent (names cs) ls → AreBeside w g sy cs ms → AreBeside w g sy (all_put ls cs) (all_put (map (named_loan f) ls) ms)
      beside_all_put [] cs ms can h = h
      beside_all_put (l ∷ ls) cs ms can h =
          beside_all_put ls (put_into_parent l cs) (put_into_parent (named_loan f l) ms) (subst (λ (ns : List ℕ). CanPut w g p parent ns ls) (sym (names_put l cs)) can.5) (beside_put l can.4.0 can.4.1 cs ms can.0 can.1 can.2 can.3 h)

  -- ---- outcomes

  module _ (offset : ℕ) where
    pub answers_taken : (par : ℕ) (parent : StobjList ℕ) (old : List QualifiedName) (there : List ℕ) (low : ℕ) (ls : List (Loan ℕ)) → IsParent w (length old) par parent → CanPut w g par parent (children ls ++ there) ls → (p : Outcome ℕ) (run : Run w g) → AnswersAs w g offset old (children ls ++ there) low p run
        → AnswersAs w g offset old there low (taken_back lists_keeping ls p) (λ m k. taken_back lists_keeping (map (named_loan f) ls) (run m k))
    answers_taken par parent old there low ls is can (Gives given u) run h = record {
      after = record h.after { stobjs = drop (length (map (named_loan f) ls)) h.after.stobjs };
      together = record {
        table = h.together.table;
        truth = h.together.truth;
        grown = h.together.grown;
        lists = subst (λ (n : ℕ). AreBeside w g u.symbols (drop (length ls) u.stobjs) (drop n h.after.stobjs)) (sym (length_named f ls)) (beside_drop w g u.symbols (length ls) u.stobjs h.after.stobjs h.together.lists);
        outer = h.together.outer;
        calls = h.together.calls;
      };
      more_symbols = h.more_symbols;
      same_names = subst (λ (n : ℕ). names (drop n u.stobjs) ≡ there) (length_children ls) (names_drop (children ls) there u.stobjs h.same_names);
      more = h.more;
      knows = h.knows;
      budget = h.budget;
      runs = λ m k i j. ap (λ (q : Outcome QualifiedName). taken_back lists_keeping (map (named_loan f) ls) q) (h.runs m k i j);
    }
    answers_taken par parent old there low ls is can (Stops stop origin u) run h = λ e. let i : StopsAs w g offset old (children ls ++ there) low stop origin u run = h e in record {
      after = record i.after { stobjs = drop (length (map (named_loan f) ls)) (all_put (map (named_loan f) ls) i.after.stobjs) };
      together = record {
        table = i.together.table;
        truth = i.together.truth;
        grown = i.together.grown;
        lists =
            subst (λ (n : ℕ). AreBeside w g u.symbols (drop (length ls) (all_put ls u.stobjs)) (drop n (all_put (map (named_loan f) ls) i.after.stobjs))) (sym (length_named f ls))
            (beside_drop w g u.symbols (length ls) (all_put ls u.stobjs) (all_put (map (named_loan f) ls) i.after.stobjs)
            (beside_all_put u.symbols (naming w g offset u i.after i.together) par parent (parent_stays w (table_of g.table.packages old) (table_of g.table.packages u.symbols) i.more_symbols par parent is) ls u.stobjs i.after.stobjs (subst (λ (ns : List ℕ). CanPut w g par parent ns ls) (sym i.same_names) can) i.together.lists));
        outer = i.together.outer;
        calls = i.together.calls;
      };
      more_symbols = i.more_symbols;
      same_names = subst (λ (n : ℕ). names (drop n (all_put ls u.stobjs)) ≡ there) (length_children ls) (names_drop (children ls) there (all_put ls u.stobjs) (names_all_put ls u.stobjs ∙ i.same_names));
      more = i.more;
      budget = i.budget;
      runs = λ m k x j. ap (λ (q : Outcome QualifiedName). taken_back lists_keeping (map (named_loan f) ls) q) (i.runs m k x j);
    }
    answers_taken par parent old there low ls is can Unknown run h = tt

    -- the children among the variables, put back one after another
    pub answers_put : (par : ℕ) (parent : StobjList ℕ) (limit : ℕ) (packages : List Package) (thy : Theory) (there : List ℕ) (vars : List ℕ) (ls : List (Loan ℕ)) → CanPut w g par parent there ls → (given : List (Shown ℕ)) (u : State ℕ) (b : State QualifiedName) → AreTogether w g offset u b → KnowsAll (length u.symbols) given → names u.stobjs ≡ there → IsParent w (length u.symbols) par parent
        → AnswersAs w g offset u.symbols there b.calls (put_back (checked_rules w packages limit) vars ls (Gives given) u) (λ m k. put_back (abstract_rules thy m k) vars (map (named_loan f) ls) (Gives (map (shown_named u.symbols) given)) b)
    unfolding put_back
    answers_put par parent limit packages thy there vars [] can given u b together known e is =
        subst (λ (ns : List ℕ). AnswersAs w g offset u.symbols ns b.calls (Gives given u) (λ m k. Gives (map (shown_named u.symbols) given) b)) e (answers_gives w g offset u b given together known)
    answers_put par parent limit packages thy there vars (l ∷ ls) can given u b together known e is =
        go (list_any (nat_eq l.child) vars) (λ v d t i e2 is2. answers_put par parent limit packages thy there vars ls can.5 given v d t i e2 is2)
      where
        put_together : AreTogether w g offset (record (one_more_call u) { stobjs = put_into_parent l u.stobjs }) (record (one_more_call b) { stobjs = put_into_parent (named_loan f l) b.stobjs })
        put_together = record {
          table = together.table;
          truth = together.truth;
          grown = together.grown;
          lists = beside_put u.symbols (naming w g offset u b together) par parent is l can.4.0 can.4.1 u.stobjs b.stobjs (ap (is_among l.child) e ∙ can.0) (ap (is_among l.parent) e ∙ can.1) can.2 can.3 together.lists;
          outer = ap (λ (n : ℕ). n + 1) together.outer;
          calls = omega (arith, together.calls);
        }

        go : (q : Bool)
            → ((v : State ℕ) (d : State QualifiedName) → AreTogether w g offset v d → KnowsAll (length v.symbols) given → names v.stobjs ≡ there → IsParent w (length v.symbols) par parent
            → AnswersAs w g offset v.symbols there d.calls (put_back (checked_rules w packages limit) vars ls (Gives given) v) (λ m k. put_back (abstract_rules thy m k) vars (map (named_loan f) ls) (Gives (map (shown_named v.symbols) given)) d))
            → AnswersAs w g offset u.symbols there b.calls
            (if q then counting limit u (λ after. put_back (checked_rules w packages limit) vars ls (Gives given) (record after { stobjs = put_into_parent l after.stobjs })) else put_back (checked_rules w packages limit) vars ls (Gives given) u)
            (λ m k. if q then counting k b (λ after. put_back (abstract_rules thy m k) vars (map (named_loan f) ls) (Gives (map (shown_named u.symbols) given)) (record after { stobjs = put_into_parent (named_loan f l) after.stobjs })) else put_back (abstract_rules thy m k) vars (map (named_loan f) ls) (Gives (map (shown_named u.symbols) given)) b)
        go true rest =
            answers_counting w g offset u.symbols there limit u b (λ after. put_back (checked_rules w packages limit) vars ls (Gives given) (record after { stobjs = put_into_parent l after.stobjs }))
            (λ m k after. put_back (abstract_rules thy m k) vars (map (named_loan f) ls) (Gives (map (shown_named u.symbols) given)) (record after { stobjs = put_into_parent (named_loan f l) after.stobjs }))
            (rest (record (one_more_call u) { stobjs = put_into_parent l u.stobjs }) (record (one_more_call b) { stobjs = put_into_parent (named_loan f l) b.stobjs }) put_together known (names_put l u.stobjs ∙ e) is)
        go false rest = rest u b together known e is

-- ---- indices

index_list_named : (sy : List QualifiedName) (i : Option (Object ℕ)) → map (shown_named sy) (index_list i) ≡ index_list (option_map (named (symbol_at sy)) i)
index_list_named sy None = refl
index_list_named sy (Some i) = refl

pub indices_named : (sy : List QualifiedName) (ls : List (Loan ℕ)) → map (shown_named sy) (indices ls) ≡ indices (map (named_loan (symbol_at sy)) ls)
indices_named sy [] = refl
indices_named sy (l ∷ ls) = append_named sy (index_list l.index) (indices ls) ∙ rw (index_list_named sy l.index, indices_named sy ls) refl

pub loan_values_named : (sy : List QualifiedName) (l : Loan ℕ) → map (shown_named sy) (loan_values l) ≡ loan_values (named_loan (symbol_at sy) l)
loan_values_named sy l = append_named sy (index_list l.index) (StobjNamed l.parent ∷ []) ∙ ap (λ (r : List (Shown QualifiedName)). r ++ StobjNamed l.parent ∷ []) (index_list_named sy l.index)

module _ (sy : List QualifiedName) (n : IsNaming (symbol_at sy) (λ s. s < length sy)) where
  abbrev pub KnowsIndex : Option (Object ℕ) → Type 0
  KnowsIndex None = Unit {0}
  KnowsIndex (Some i) = Symbols (λ s. s < length sy) i

  abbrev pub KnowIndices : List (Loan ℕ) → Type 0
  KnowIndices [] = Unit {0}
  KnowIndices (l ∷ ls) = KnowsIndex l.index × KnowIndices ls

  same_index_named : (i j : Option (Object ℕ)) → KnowsIndex i → KnowsIndex j → same_index by_name (option_map (named (symbol_at sy)) i) (option_map (named (symbol_at sy)) j) ≡ same_index by_number i j
  same_index_named None j k h = refl
  same_index_named (Some i) None k h = refl
  same_index_named (Some i) (Some j) k h = same_named (symbol_at sy) (λ s. s < length sy) n i j k h

  any_twin_named : (l : Loan ℕ) (ls : List (Loan ℕ)) → KnowsIndex l.index → KnowIndices ls
      → list_any (λ (m : Loan QualifiedName). nat_eq l.field m.field && same_index by_name (option_map (named (symbol_at sy)) l.index) m.index) (map (named_loan (symbol_at sy)) ls) ≡ list_any (λ (m : Loan ℕ). nat_eq l.field m.field && same_index by_number l.index m.index) ls
  any_twin_named l [] k h = refl
  any_twin_named l (m ∷ ls) k h = rw (same_index_named l.index m.index k h.0, any_twin_named l ls k h.1) refl

  pub twins_named : (ls : List (Loan ℕ)) → KnowIndices ls → are_twins by_name (map (named_loan (symbol_at sy)) ls) ≡ are_twins by_number ls
  twins_named [] k = refl
  twins_named (l ∷ ls) k = rw (any_twin_named l ls k.0 k.1, twins_named ls k.1) refl

pub loan_indices : (w : World) (p : ℕ) (parent : StobjList ℕ) (sy : List QualifiedName) (n : IsNaming (symbol_at sy) (λ s. s < length sy)) (bs : List BoundChild) (ls : List (Loan ℕ)) → AreLoans w p parent bs ls → KnowIndices sy n ls
loan_indices w p parent sy n [] [] h = tt
loan_indices w p parent sy n [] (l ∷ ls) h = absurd h
loan_indices w p parent sy n (b ∷ bs) [] h = absurd h
loan_indices w p parent sy n (b ∷ bs) (l ∷ ls) h = (go h.0.kind, loan_indices w p parent sy n bs ls h.1)
  where
    go : ((l.index ≡ None) × (b.index ≡ None) × (h.0.field ≡ layout_of w l.child)) ⊎ IsIndexed w parent l h.0.field → KnowsIndex sy n l.index
    go (inl i) = subst (KnowsIndex sy n) (sym i.0) tt
    go (inr i) = subst (KnowsIndex sy n) (sym i.2) tt
