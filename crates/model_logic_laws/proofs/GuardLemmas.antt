-- An accepted form in which functions are called by other names, under which the logic gives the same, has the same value.
use Rattle.std.proofs.Common.{◌≡◌, ℕ, zero, suc, ◌+◌, List, [], ◌∷◌, ◌++◌, map, length, Bool, true, false, Option, Some, None, refl, sym, ap, ◌∙◌, subst, arith}
use Rattle.std.specs.Prelude.{◌≢◌, ◌||◌, ◌&&◌, not, nat_eq, nat_le, is_some, option_map, option_to_list, unwrap_or, if◌then◌else◌}
use Rattle.std.specs.Option.{option_map_or}
use Rattle.std.specs.List.{list_all, list_any}
use Rattle.std.proofs.lemmas.Bool.{eqb-true}
use Rattle.model_prims.specs.Kinds.{by_name, is_nil}
use Rattle.model_prims.specs.Lists.{element}
use Rattle.model_terms.specs.declared.rule.Mode.{Mode}
use Rattle.model_terms.specs.declared.rule.Mode.TheVariants.{Logic}
use Rattle.model_terms.specs.Cores.{Core, Cores, Reached, Var, Const, If, Let, Mv, MvLet, StobjLet, WithLocal, MustBeEqual, Call, none, more, count, variable, reached, reached_by}
use Rattle.model_terms.specs.Worlds.{World, Out, Ordinary, Scope, definition}
use Rattle.model_terms.specs.Worlds as worlds
use Rattle.model_terms.specs.Classes.{has, is_stobj_name}
use Rattle.model_terms.specs.Scopes.{kind_in, kind_of, in_scope, name_kind, name_kinds, binding, without, ordinary_names, other_names, producer_scope, consumer_scope, local_scope, body_scope}
use Rattle.model_terms.specs.Sites.{here, ins_of, parent_in, first_kind, other_kinds, formal_stobj, actual_expected}
use Rattle.model_terms.specs.Accessors.{ChildAccessor, child_accessor}
use Rattle.model_terms.specs.Nested.{BoundChild, bound_children, have_parent, have_names, have_indices, bind_twice, are_vars, parent_expected, is_index, same_kind, is_ordinary_in, children_hold, bindings_hold, stobj_let_holds, is_stobj}
use Rattle.model_eval.specs.Keeping.{Loan}
use Rattle.model_eval.specs.Lending.{field_number}
use Rattle.model_symbols.specs.Symbols.{QualifiedName}
use Rattle.model_logic.specs.Logic.{Theory, Thing, Values, Found, then_found, found, value_in, bind, bind_others, element_values, parts_for, Caller, spending, creator_of, leaf_value, index_value, logic_loan, with_loan, logic_loans, with_children, put_loans, with_parent, form_value, form_values, call_within, EndsWith}
use Rattle.model_logic.specs.LogicFunctions.{as_list, child_stobj, with_child_stobj}
use Rattle.model_accepted.specs.Threaded.{IsFormed, AreFormed}
use Rattle.model_accepted.specs.Accepted.{Accepted, PartsAccepted, ActualsAccepted}
use Rattle.model_accepted.proofs.AcceptLemmas.{false_true, true_false, both_true, not_false, of_if, of_let, of_mv, of_mv_let, of_stobj_let, of_with_local, of_must_be_equal, of_call, s13, var_in_scope}
use Rattle.model_accepted.proofs.ScopeLemmas.{kind_bound, kind_without}
use Rattle.model_accepted.proofs.KidLemmas.{AreBound, StobjLetHolds, AreBindings, bindings_are, stobj_let_is}
use Rattle.model_stobjs.specs.Guards.{Renaming, renamed_name, with_functions, all_with_functions}
use Rattle.model_follows.proofs.KidParts.{indices_hold, bound_before}
use Rattle.model_logic_laws.specs.Guards.{AgreeOn, CallsAlike, RenamedFormsAgree}

-- ---- values of variables

-- the values of this variable are the same
abbrev Same : Values → Values → ℕ → Type 0
Same values others x = value_in values x ≡ value_in others x

bind_same : (xs : List ℕ) (os : List Thing) (values others : Values) (x : ℕ) → length os ≡ length xs → (has xs x ≡ false → Same values others x) → Same (bind xs os values) (bind xs os others) x
bind_same [] os values others x l h = h refl
bind_same (y ∷ ys) [] values others x l h = absurd (omega (arith, l))
bind_same (y ∷ ys) (o ∷ os) values others x l h = go (nat_eq x y) h (bind_same ys os values others x (omega (arith, l)))
  where
    go : (t : Bool) → ((t || has ys x) ≡ false → Same values others x) → ((has ys x ≡ false → Same values others x) → Same (bind ys os values) (bind ys os others) x)
        → (if t then o else value_in (bind ys os values) x) ≡ (if t then o else value_in (bind ys os others) x)
    go true i later = refl
    go false i later = later i

others_same : (stobj : ℕ) (xs : List ℕ) (os : List Thing) (values others : Values) (x : ℕ) → length os ≡ length xs → (has (other_names stobj xs) x ≡ false → Same values others x)
    → Same (bind_others stobj xs os values) (bind_others stobj xs os others) x
others_same stobj [] os values others x l h = h refl
others_same stobj (y ∷ ys) [] values others x l h = absurd (omega (arith, l))
others_same stobj (y ∷ ys) (o ∷ os) values others x l h = go (nat_eq y stobj) h (others_same stobj ys os values others x (omega (arith, l)))
  where
    here_same : (t : Bool) → ((t || has (other_names stobj ys) x) ≡ false → Same values others x) → ((has (other_names stobj ys) x ≡ false → Same values others x) → Same (bind_others stobj ys os values) (bind_others stobj ys os others) x)
        → (if t then o else value_in (bind_others stobj ys os values) x) ≡ (if t then o else value_in (bind_others stobj ys os others) x)
    here_same true i later = refl
    here_same false i later = later i

    go : (t : Bool) → (has (if not t then y ∷ other_names stobj ys else other_names stobj ys) x ≡ false → Same values others x)
        → ((has (other_names stobj ys) x ≡ false → Same values others x) → Same (bind_others stobj ys os values) (bind_others stobj ys os others) x)
        → Same (if t then bind_others stobj ys os values else ((y, o) ∷ bind_others stobj ys os values)) (if t then bind_others stobj ys os others else ((y, o) ∷ bind_others stobj ys os others)) x
    go true i later = later i
    go false i later = here_same (nat_eq x y) i later

length_elements : (xs : List ℕ) (n : ℕ) (v : Thing) → length (element_values xs n v) ≡ length xs
length_elements [] n v = refl
length_elements (x ∷ xs) n v = ap (λ (m : ℕ). suc m) (length_elements xs (n + 1) v)

length_parts : (xs : List ℕ) (v : Thing) → length (parts_for xs v) ≡ length xs
length_parts [] v = refl
length_parts (x ∷ []) v = refl
length_parts (x ∷ (y ∷ ys)) v = length_elements (x ∷ (y ∷ ys)) 0 v

-- ---- children

-- the parent's values are the same
abbrev ParentsSame : Values → Values → List (Loan QualifiedName) → Type 0
ParentsSame values others [] = Unit {0}
ParentsSame values others (l ∷ ls) = Same values others l.parent × ParentsSame values others ls

abbrev children_of : List (Loan QualifiedName) → List ℕ
children_of ls = map (λ (l : Loan QualifiedName). l.child) ls

children_same : (ls : List (Loan QualifiedName)) (values others : Values) → ParentsSame values others ls → (x : ℕ) → (has (children_of ls) x ≡ false → Same values others x) → Same (with_children ls values) (with_children ls others) x
children_same [] values others p x h = h refl
children_same (l ∷ ls) values others p x h = go (nat_eq x l.child) h (children_same ls values others p.1 x)
  where
    go : (t : Bool) → ((t || has (children_of ls) x) ≡ false → Same values others x) → ((has (children_of ls) x ≡ false → Same values others x) → Same (with_children ls values) (with_children ls others) x)
        → (if t then child_stobj by_name l.field l.index (value_in values l.parent) else value_in (with_children ls values) x)
        ≡ (if t then child_stobj by_name l.field l.index (value_in others l.parent) else value_in (with_children ls others) x)
    go true i later = ap (child_stobj by_name l.field l.index) p.0
    go false i later = later i

more_same : (y : ℕ) (o p : Thing) (values others : Values) (x : ℕ) → o ≡ p → Same values others x → Same ((y, o) ∷ values) ((y, p) ∷ others) x
more_same y o p values others x e h = go (nat_eq x y)
  where
    go : (t : Bool) → (if t then o else value_in values x) ≡ (if t then p else value_in others x)
    go true = e
    go false = h

parents_more : (y : ℕ) (o p : Thing) (values others : Values) (ls : List (Loan QualifiedName)) → o ≡ p → ParentsSame values others ls → ParentsSame ((y, o) ∷ values) ((y, p) ∷ others) ls
parents_more y o p values others [] e h = tt
parents_more y o p values others (l ∷ ls) e h = (more_same y o p values others l.parent e h.0, parents_more y o p values others ls e h.1)

parent_same : (ls : List (Loan QualifiedName)) (vars values others : Values) → ParentsSame values others ls → (x : ℕ) → Same values others x → Same (with_parent ls vars values) (with_parent ls vars others) x
parent_same [] vars values others p x h = h
parent_same (l ∷ ls) vars values others p x h =
    let e : with_child_stobj by_name l.field l.index (value_in vars l.child) (value_in values l.parent) ≡ with_child_stobj by_name l.field l.index (value_in vars l.child) (value_in others l.parent)
    = ap (with_child_stobj by_name l.field l.index (value_in vars l.child)) p.0 in
    parent_same ls vars _ _ (parents_more l.parent _ _ values others ls e p.1) x (more_same l.parent _ _ values others x e h)

put_parents : (vars : List ℕ) (values others : Values) (ls : List (Loan QualifiedName)) → ParentsSame values others ls → ParentsSame values others (put_loans vars ls)
put_parents vars values others [] h = tt
put_parents vars values others (l ∷ ls) h = go (list_any (nat_eq l.child) vars) (put_parents vars values others ls h.1)
  where
    go : (t : Bool) → ParentsSame values others (put_loans vars ls) → ParentsSame values others (if t then l ∷ put_loans vars ls else put_loans vars ls)
    go true later = (h.0, later)
    go false later = later

-- ---- scopes

kind_there : (scope : Scope) (x : ℕ) → in_scope scope x ≡ true → (k : Out) × (kind_in scope x ≡ Some k)
kind_there scope x e = go (kind_in scope x) refl e
  where
    go : (v : Option Out) → kind_in scope x ≡ v → is_some v ≡ true → (k : Out) × (kind_in scope x ≡ Some k)
    go None f g = false_true g
    go (Some k) f g = (k, f)

agree_bound : (c : World) (scope : Scope) (names : List ℕ) (values others up down : Values) → AgreeOn scope values others → ((x : ℕ) → (has names x ≡ false → Same values others x) → Same up down x) → AgreeOn (binding c scope names) up down
agree_bound c scope names values others up down a h = record { same = λ x k e. h x (λ n. a.same x k (sym (ap (λ (t : Bool). if t then Some (name_kind c x) else kind_in scope x) n) ∙ (sym (kind_bound c scope names x) ∙ e))) }

agree_without : (scope : Scope) (names : List ℕ) (values others : Values) → AgreeOn scope values others → AgreeOn (without names scope) values others
agree_without scope names values others a = record { same = λ x k e. go x k (has names x) (sym (kind_without names scope x) ∙ e) }
  where
    go : (x : ℕ) (k : Out) (t : Bool) → (if t then None else kind_in scope x) ≡ Some k → Same values others x
    go x k true e = cc
    go x k false e = a.same x k e

has_ordinary_there : (c : World) (vars : List ℕ) (x : ℕ) → has vars x ≡ false → has (ordinary_names c vars) x ≡ false
has_ordinary_there c [] x h = refl
has_ordinary_there c (v ∷ vs) x h = go (is_stobj_name c v) (has_ordinary_there c vs x)
  where
    parts : (a b : Bool) → (a || b) ≡ false → (a ≡ false) × (b ≡ false)
    parts true b e = true_false e
    parts false b e = (refl, e)

    both : (nat_eq x v ≡ false) × (has vs x ≡ false)
    both = parts (nat_eq x v) (has vs x) h

    go : (t : Bool) → (has vs x ≡ false → has (ordinary_names c vs) x ≡ false) → has (if not t then v ∷ ordinary_names c vs else ordinary_names c vs) x ≡ false
    go true later = later both.1
    go false later = ap (λ (q : Bool). q || has (ordinary_names c vs) x) both.0 ∙ later both.1

-- ---- computations

then_same : (x y : Option Found) (go to : Thing → ℕ → Option Found) → x ≡ y → ((v : Thing) (n : ℕ) → go v n ≡ to v n) → then_found x go ≡ then_found y to
then_same x None go to e h = ap (λ (q : Option Found). then_found q go) e
then_same x (Some f) go to e h = ap (λ (q : Option Found). then_found q go) e ∙ h f.value f.calls

spending_same : (budget n calls : ℕ) (go to : ℕ → Option Found) → ((z : ℕ) → go z ≡ to z) → spending budget n calls go ≡ spending budget n calls to
spending_same budget n calls go to h = by_test (nat_le (calls + n) budget)
  where
    by_test : (t : Bool) → (if t then go (calls + n) else None) ≡ (if t then to (calls + n) else None)
    by_test true = h (calls + n)
    by_test false = refl

if_same : (t : Bool) (x y z u : Option Found) → x ≡ z → y ≡ u → (if t then x else y) ≡ (if t then z else u)
if_same true x y z u h g = h
if_same false x y z u h g = g

module _ (b : Theory) (c : World) (r : Renaming) (accessors : (f : ℕ) (a : ChildAccessor) → child_accessor c (renamed_name r f) ≡ Some a → renamed_name r f ≡ f) where
  -- ---- what a `STOBJ-LET` binds

  variable_same : (f : Core) → variable (with_functions f r) ≡ variable f
  unfolding with_functions
  variable_same (Var x) = refl
  variable_same (Const o) = refl
  variable_same (If test p q) = refl
  variable_same (Let names bound body) = refl
  variable_same (Mv parts) = refl
  variable_same (MvLet names bound body) = refl
  variable_same (StobjLet names bound vars producer consumer) = refl
  variable_same (WithLocal stobj names producer body) = refl
  variable_same (MustBeEqual logic exec) = refl
  variable_same (Call f actuals) = refl

  abbrev IndexSame : Option Core → Option Core → Type 0
  IndexSame None None = Unit {0}
  IndexSame None (Some j) = ⊥
  IndexSame (Some i) None = ⊥
  IndexSame (Some i) (Some j) = i ≡ with_functions j r

  record ReachedSame (f : Core) (by : Reached) : Type 0 where
    there : Reached
    called : reached f ≡ Some there
    accessor : by.accessor ≡ renamed_name r there.accessor
    parent : by.parent ≡ there.parent
    index : IndexSame by.index there.index

  reached_same : (f : Core) (by : Reached) → reached (with_functions f r) ≡ Some by → ReachedSame f by
  unfolding with_functions all_with_functions
  reached_same (Var x) by e = cc
  reached_same (Const o) by e = cc
  reached_same (If test p q) by e = cc
  reached_same (Let names bound body) by e = cc
  reached_same (Mv parts) by e = cc
  reached_same (MvLet names bound body) by e = cc
  reached_same (StobjLet names bound vars producer consumer) by e = cc
  reached_same (WithLocal stobj names producer body) by e = cc
  reached_same (MustBeEqual logic exec) by e = cc
  reached_same (Call f none) by e = cc
  reached_same (Call f (more p none)) by e = go (variable p) refl (sym (ap (λ (v : Option ℕ). option_map (λ p. record { accessor = renamed_name r f; index = None; parent = p }) v) (variable_same p)) ∙ e)
    where
      go : (v : Option ℕ) → variable p ≡ v → option_map (λ p. record { accessor = renamed_name r f; index = None; parent = p }) v ≡ Some by → ReachedSame (Call f (more p none)) by
      go None g h = cc
      go (Some x) g h =
          subst (ReachedSame (Call f (more p none))) (some_is h)
          (record { there = record { accessor = f; index = None; parent = x }; called = ap (λ (v : Option ℕ). option_map (λ p. record { accessor = f; index = None; parent = p }) v) g; accessor = refl; parent = refl; index = tt })
        where
          some_is : {a : Reached} → Some a ≡ Some by → a ≡ by
          some_is q = cc
  reached_same (Call f (more i (more p none))) by e = go (variable p) refl (sym (ap (λ (v : Option ℕ). option_map (λ p. record { accessor = renamed_name r f; index = Some (with_functions i r); parent = p }) v) (variable_same p)) ∙ e)
    where
      go : (v : Option ℕ) → variable p ≡ v → option_map (λ p. record { accessor = renamed_name r f; index = Some (with_functions i r); parent = p }) v ≡ Some by → ReachedSame (Call f (more i (more p none))) by
      go None g h = cc
      go (Some x) g h =
          subst (ReachedSame (Call f (more i (more p none)))) (some_is h)
          (record { there = record { accessor = f; index = Some i; parent = x }; called = ap (λ (v : Option ℕ). option_map (λ p. record { accessor = f; index = Some i; parent = p }) v) g; accessor = refl; parent = refl; index = refl })
        where
          some_is : {a : Reached} → Some a ≡ Some by → a ≡ by
          some_is q = cc
  reached_same (Call f (more i (more p (more q rest)))) by e = cc

  -- an index is a variable in scope, or a constant
  leaf_same : (scope : Scope) (vars : List ℕ) (f : Core) (values others : Values) → AgreeOn scope values others → is_index scope vars (with_functions f r) ≡ true → leaf_value b (with_functions f r) values ≡ leaf_value b f others
  unfolding with_functions
  leaf_same scope vars (Var x) values others a e = in_it (kind_in scope x) refl (both_true (is_ordinary_in scope x) (not (has vars x)) e).0
    where
      in_it : (v : Option Out) → kind_in scope x ≡ v → is_ordinary_in scope x ≡ true → Same values others x
      in_it None g h = false_true (sym (ap (λ (v : Option Out). option_map_or (same_kind Ordinary) v false) g) ∙ h)
      in_it (Some k) g h = a.same x k g
  leaf_same scope vars (Const o) values others a e = refl
  leaf_same scope vars (If test p q) values others a e = refl
  leaf_same scope vars (Let names bound body) values others a e = refl
  leaf_same scope vars (Mv parts) values others a e = refl
  leaf_same scope vars (MvLet names bound body) values others a e = refl
  leaf_same scope vars (StobjLet names bound us producer consumer) values others a e = refl
  leaf_same scope vars (WithLocal stobj names producer body) values others a e = refl
  leaf_same scope vars (MustBeEqual logic exec) values others a e = refl
  leaf_same scope vars (Call f actuals) values others a e = refl

  index_same : (scope : Scope) (vars : List ℕ) (i j : Option Core) (values others : Values) → AgreeOn scope values others → IndexSame i j → option_map_or (is_index scope vars) i true ≡ true → index_value b i values ≡ index_value b j others
  index_same scope vars None None values others a s e = refl
  index_same scope vars None (Some j) values others a s e = absurd s
  index_same scope vars (Some i) None values others a s e = absurd s
  index_same scope vars (Some i) (Some j) values others a s e =
      ap (λ (v : Thing). Some v) (ap (λ (f : Core). leaf_value b f values) s ∙ leaf_same scope vars j values others a (subst (λ (f : Core). is_index scope vars f ≡ true) s e))

  record LoansSame (p : ℕ) (names : List ℕ) (forms : Cores) (values others : Values) : Type 0 where
    same : logic_loans b names (all_with_functions forms r) values ≡ logic_loans b names forms others
    parents : ParentsSame values others (logic_loans b names forms others)
    children : children_of (logic_loans b names forms others) ≡ names

  loans_same : (scope : Scope) (vars : List ℕ) (p : ℕ) (names : List ℕ) (forms : Cores) (bs : List BoundChild) (values others : Values) → AgreeOn scope values others → Same values others p → bound_children c names (all_with_functions forms r) ≡ Some bs
      → AreBound c p bs → have_indices scope vars bs ≡ true → LoansSame p names forms values others
  unfolding all_with_functions
  loans_same scope vars p [] none bs values others a h e i j = record { same = refl; parents = tt; children = refl }
  loans_same scope vars p [] (more f fs) bs values others a h e i j = cc
  loans_same scope vars p (x ∷ xs) none bs values others a h e i j = cc
  loans_same scope vars p (x ∷ xs) (more f fs) bs values others a h e i j =
      let is : AreBindings c x xs (with_functions f r) (all_with_functions fs r) bs = bindings_are c x xs (with_functions f r) (all_with_functions fs r) bs e in
      let reach : ReachedSame f is.is.by = reached_same f is.is.by is.is.called in
      let bound : AreBound c p (is.first ∷ is.others) = subst (AreBound c p) is.all i in
      let indices : have_indices scope vars (is.first ∷ is.others) ≡ true = subst (λ (ds : List BoundChild). have_indices scope vars ds ≡ true) is.all j in
      let first_index = both_true (option_map_or (is_index scope vars) is.first.index true) (have_indices scope vars is.others) indices in
      let later : LoansSame p xs fs values others = loans_same scope vars p xs fs is.others values others a h is.later bound.3 first_index.1 in
      let name : is.is.by.accessor ≡ reach.there.accessor
      = reach.accessor ∙ accessors reach.there.accessor is.first.accessor (subst (λ (q : ℕ). child_accessor c q ≡ Some is.first.accessor) reach.accessor is.is.found) in
      let parent : is.is.by.parent ≡ p = sym is.is.parent ∙ bound.0 in
      let index : index_value b is.is.by.index values ≡ index_value b reach.there.index others
      = index_same scope vars is.is.by.index reach.there.index values others a reach.index (subst (λ (q : Option Core). option_map_or (is_index scope vars) q true ≡ true) is.is.index first_index.0) in
      let one : logic_loan b x is.is.by values ≡ logic_loan b x reach.there others
      = rw (name, reach.parent, index) refl in
      let there : logic_loans b (x ∷ xs) (more f fs) others ≡ logic_loan b x reach.there others ∷ logic_loans b xs fs others
      = ap (λ (q : Option Reached). with_loan b x q others (logic_loans b xs fs others)) reach.called in
      record {
        same =
            ap (λ (q : Option Reached). with_loan b x q values (logic_loans b xs (all_with_functions fs r) values)) is.is.called
            ∙ (ap (λ (l : Loan QualifiedName). l ∷ logic_loans b xs (all_with_functions fs r) values) one
            ∙ (ap (λ (ls : List (Loan QualifiedName)). logic_loan b x reach.there others ∷ ls) later.same ∙ sym there));
        parents = subst (ParentsSame values others) (sym there) (subst (Same values others) (sym parent ∙ reach.parent) h, later.parents);
        children = ap children_of there ∙ ap (λ (ns : List ℕ). x ∷ ns) later.children;
      }

  -- ---- forms

  kind_object : (scope : Scope) (p : ℕ) → is_stobj (kind_of scope p) ≡ true → (k : Out) × (kind_in scope p ≡ Some k)
  kind_object scope p e = go (kind_in scope p) refl
    where
      go : (v : Option Out) → kind_in scope p ≡ v → (k : Out) × (kind_in scope p ≡ Some k)
      go None f = false_true (sym (ap (λ (v : Option Out). is_stobj (unwrap_or v Ordinary)) f) ∙ e)
      go (Some k) f = (k, f)

  length_more : (os : List Thing) (v : Thing) → length (os ++ v ∷ []) ≡ length os + 1
  length_more [] v = refl
  length_more (o ∷ os) v = let rest : length (os ++ v ∷ []) ≡ length os + 1 = length_more os v in omega (arith, rest)

  module _ (budget : ℕ) (call : Caller) (calls : (f : ℕ) (args : List Thing) (n : ℕ) → call (renamed_name r f) args n ≡ call f args n) (mode : Mode) (runs : mode ≢ Logic) where
    -- a `STOBJ-LET` from its loans
    abbrev from_loans : List ℕ → Core → Core → Values → ℕ → List (Loan QualifiedName) → Option Found
    from_loans vars producer consumer values n ls =
        spending budget (length ls) n (λ z. then_found (form_value b budget call producer (with_children ls values) z) (λ v y.
        spending budget (length (put_loans vars ls)) y (λ u.
        form_value b budget call consumer (bind vars (parts_for vars v) [] ++ with_parent (put_loans vars ls) (bind vars (parts_for vars v) []) values) u)))

    mutual
      unfolding form_value form_values with_functions all_with_functions IsFormed AreFormed

      same_form : (f : Core) (scope : Scope) (formal : Option ℕ) (expected : List Out) → Accepted c mode scope (with_functions f r) formal expected → IsFormed c (with_functions f r) → (values others : Values) → AgreeOn scope values others → (n : ℕ)
          → form_value b budget call (with_functions f r) values n ≡ form_value b budget call f others n
      same_form (Var x) scope formal expected all formed values others a n =
          let k = kind_there scope x (var_in_scope c mode scope x formal expected runs all.0) in
          ap (λ (v : Thing). found v n) (a.same x k.0 k.1)
      same_form (Const o) scope formal expected all formed values others a n = refl
      same_form (If test p q) scope formal expected all formed values others a n =
          let parts = of_if c mode scope formal expected (with_functions test r) (with_functions p r) (with_functions q r) all in
          then_same _ (form_value b budget call test others n) _ _ (same_form test scope _ _ parts.0 formed.0 values others a n) (λ v z.
          if_same (is_nil by_name v) _ _ _ _ (same_form q scope _ _ parts.2 formed.2 values others a z) (same_form p scope _ _ parts.1 formed.1 values others a z))
      same_form (Let names forms body) scope formal expected all formed values others a n =
          let parts = of_let c mode scope formal expected names (all_with_functions forms r) (with_functions body r) all in
          same_parts forms scope (name_kinds c names) parts.0 formed.1 values others a [] _ _ (λ os z l.
          let long : length os ≡ length names = omega (arith, l, formed.0) in
          same_form body (binding c scope names) _ _ parts.1 formed.2 (bind names os values) (bind names os others)
          (agree_bound c scope names values others (bind names os values) (bind names os others) a (λ x h. bind_same names os values others x long h)) z) n
      same_form (Mv parts) scope formal expected all formed values others a n =
          same_parts parts scope expected (of_mv c mode scope formal expected (all_with_functions parts r) all) formed values others a [] _ _ (λ os z l. refl) n
      same_form (MvLet names bound body) scope formal expected all formed values others a n =
          let parts = of_mv_let c mode scope formal expected names (with_functions bound r) (with_functions body r) all in
          then_same _ (form_value b budget call bound others n) _ _ (same_form bound scope _ _ parts.0 formed.0 values others a n) (λ v z.
          same_form body (binding c scope names) _ _ parts.1 formed.1 (bind names (element_values names 0 v) values) (bind names (element_values names 0 v) others)
          (agree_bound c scope names values others (bind names (element_values names 0 v) values) (bind names (element_values names 0 v) others) a
          (λ x h. bind_same names (element_values names 0 v) values others x (length_elements names 0 v) h)) z)
      same_form (StobjLet names forms vars producer consumer) scope formal expected all formed values others a n =
          let parts = of_stobj_let c mode scope formal expected names (all_with_functions forms r) vars (with_functions producer r) (with_functions consumer r) all in
          let test : stobj_let_holds c scope expected names (all_with_functions forms r) vars ≡ true
          = not_false (stobj_let_holds c scope expected names (all_with_functions forms r) vars) (s13 c mode (here (StobjLet names (all_with_functions forms r) vars (with_functions producer r) (with_functions consumer r)) scope formal expected) runs all.0) in
          let holds : StobjLetHolds c scope expected names (all_with_functions forms r) vars = stobj_let_is c scope expected names (all_with_functions forms r) vars test in
          let k = kind_object scope holds.parent holds.stobj in
          let loans : LoansSame holds.parent names forms values others
          = loans_same scope vars holds.parent names forms holds.bs values others a (a.same holds.parent k.0 k.1) holds.bound holds.all (indices_hold c scope expected names (all_with_functions forms r) vars holds.bs holds.bound test) in
          let ls : List (Loan QualifiedName) = logic_loans b names forms others in
          ap (from_loans vars (with_functions producer r) (with_functions consumer r) values n) loans.same
          ∙ spending_same budget (length ls) n _ _ (λ z.
          then_same _ (form_value b budget call producer (with_children ls others) z) _ _
          (same_form producer (producer_scope c scope (parent_in (all_with_functions forms r)) names) _ _ parts.0 formed.0 (with_children ls values) (with_children ls others)
          (agree_bound c (without (option_to_list (parent_in (all_with_functions forms r))) scope) names values others (with_children ls values) (with_children ls others)
          (agree_without scope (option_to_list (parent_in (all_with_functions forms r))) values others a)
          (λ x h. children_same ls values others loans.parents x (λ m. h (sym (ap (λ (ns : List ℕ). has ns x) loans.children) ∙ m)))) z)
          (λ v y. spending_same budget (length (put_loans vars ls)) y _ _ (λ u.
          same_form consumer (consumer_scope c scope names vars) _ _ parts.1 formed.1
          (bind vars (parts_for vars v) [] ++ with_parent (put_loans vars ls) (bind vars (parts_for vars v) []) values)
          (bind vars (parts_for vars v) [] ++ with_parent (put_loans vars ls) (bind vars (parts_for vars v) []) others)
          (agree_bound c (without names scope) (ordinary_names c vars) values others _ _ (agree_without scope names values others a) (λ x h.
          ap (λ (m : Values). value_in m x) (bound_before vars (parts_for vars v) (with_parent (put_loans vars ls) (bind vars (parts_for vars v) []) values))
          ∙ (bind_same vars (parts_for vars v) (with_parent (put_loans vars ls) (bind vars (parts_for vars v) []) values) (with_parent (put_loans vars ls) (bind vars (parts_for vars v) []) others) x (length_parts vars v)
          (λ m. parent_same (put_loans vars ls) (bind vars (parts_for vars v) []) values others (put_parents vars values others ls loans.parents) x (h (has_ordinary_there c vars x m)))
          ∙ sym (ap (λ (m : Values). value_in m x) (bound_before vars (parts_for vars v) (with_parent (put_loans vars ls) (bind vars (parts_for vars v) []) others)))))) u)))
      same_form (WithLocal stobj names producer body) scope formal expected all formed values others a n =
          let parts = of_with_local c mode scope formal expected stobj names (with_functions producer r) (with_functions body r) all in
          then_same (call (creator_of (definition b.world stobj)) [] n) (call (creator_of (definition b.world stobj)) [] n) _ _ refl (λ l z.
          then_same _ (form_value b budget call producer ((stobj, l) ∷ others) z) _ _
          (same_form producer (local_scope c scope stobj) _ _ parts.0 formed.0 ((stobj, l) ∷ values) ((stobj, l) ∷ others)
          (agree_bound c scope (stobj ∷ []) values others ((stobj, l) ∷ values) ((stobj, l) ∷ others) a (λ x h. bind_same (stobj ∷ []) (l ∷ []) values others x refl h)) z)
          (λ v y.
          same_form body (body_scope c scope stobj names) _ _ parts.1 formed.1 (bind_others stobj names (element_values names 0 v) values) (bind_others stobj names (element_values names 0 v) others)
          (agree_bound c (without (stobj ∷ []) scope) (other_names stobj names) values others _ _ (agree_without scope (stobj ∷ []) values others a)
          (λ x h. others_same stobj names (element_values names 0 v) values others x (length_elements names 0 v) h)) y))
      same_form (MustBeEqual logic exec) scope formal expected all formed values others a n =
          same_form logic scope _ _ (of_must_be_equal c mode scope formal expected (with_functions logic r) (with_functions exec r) all).0 formed.0 values others a n
      same_form (Call f actuals) scope formal expected all formed values others a n =
          same_actuals actuals scope (ins_of c (renamed_name r f)) (of_call c mode scope formal expected (renamed_name r f) (all_with_functions actuals r) all) formed.1 values others a [] (call (renamed_name r f)) (call f) (λ os z. calls f os z) n

      same_parts : (fs : Cores) (scope : Scope) (kinds : List Out) → PartsAccepted c mode scope kinds (all_with_functions fs r) → AreFormed c (all_with_functions fs r) → (values others : Values) → AgreeOn scope values others
          → (done : List Thing) (go to : List Thing → ℕ → Option Found) → ((os : List Thing) (z : ℕ) → length os ≡ length done + count (all_with_functions fs r) → go os z ≡ to os z) → (n : ℕ)
          → form_values b budget call (all_with_functions fs r) values done go n ≡ form_values b budget call fs others done to n
      same_parts none scope kinds all formed values others a done go to h n = h done n (omega arith)
      same_parts (more f fs) scope kinds all formed values others a done go to h n =
          then_same _ (form_value b budget call f others n) _ _ (same_form f scope _ _ all.0 formed.0 values others a n) (λ v z.
          same_parts fs scope (other_kinds kinds) all.1 formed.1 values others a (done ++ v ∷ []) go to
          (λ os y l. h os y (let one : length (done ++ v ∷ []) ≡ length done + 1 = length_more done v in omega (arith, l, one))) z)

      same_actuals : (fs : Cores) (scope : Scope) (ins : List Out) → ActualsAccepted c mode scope ins (all_with_functions fs r) → AreFormed c (all_with_functions fs r) → (values others : Values) → AgreeOn scope values others
          → (done : List Thing) (go to : List Thing → ℕ → Option Found) → ((os : List Thing) (z : ℕ) → go os z ≡ to os z) → (n : ℕ)
          → form_values b budget call (all_with_functions fs r) values done go n ≡ form_values b budget call fs others done to n
      same_actuals none scope ins all formed values others a done go to h n = h done n
      same_actuals (more f fs) scope ins all formed values others a done go to h n =
          then_same _ (form_value b budget call f others n) _ _ (same_form f scope _ _ all.0 formed.0 values others a n) (λ v z.
          same_actuals fs scope (other_kinds ins) all.1 formed.1 values others a (done ++ v ∷ []) go to h z)

pub renamed_forms_agree : RenamedFormsAgree
renamed_forms_agree = record {
  ends = λ b c r alike mode scope form formal expected n all formed values others a v e.
      (e.0, e.1, sym (same_form b c r alike.accessors e.0 (call_within b e.0 e.0) (alike.calls e.0 e.0) mode n form scope formal expected all formed values others a 0) ∙ e.2);
}
