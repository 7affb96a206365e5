-- Accepted forms have trees.
use Rattle.std.specs.Prelude.{◌≡◌, ℕ, List, [], ◌∷◌, Bool, true, false, ◌&&◌, not, Option, Some, None, option_map, option_and_then, is_some, refl, cond}
use Rattle.std.specs.Option.{option_or}
use Rattle.std.specs.List.{list_any}
use Rattle.std.proofs.Common.{◌∙◌}
use Rattle.model_terms.specs.declared.rule.Rule.{Rule}
use Rattle.model_terms.specs.declared.rule.Rule.TheVariants.{S13, S15, S16}
use Rattle.model_terms.specs.declared.rule.Mode.{Mode}
use Rattle.model_terms.specs.declared.rule.Mode.TheVariants.{Executable, Logic, Macro}
use Rattle.model_terms.specs.Cores as cores
use Rattle.model_terms.specs.Cores.{Core, Cores, Place, Reached, reached}
use Rattle.model_terms.specs.Worlds.{World, Out, Scope, MacroFormals, Definition, definition, Signature}
use Rattle.model_terms.specs.Classes.{is_stobj_name}
use Rattle.model_terms.specs.Scopes.{name_kinds, binding, producer_scope, consumer_scope, local_scope, body_scope}
use Rattle.model_terms.specs.Outputs.{outs, signature_in}
use Rattle.model_terms.specs.Rounds.{Member, formal_scope}
use Rattle.model_terms.specs.Sites.{Site, parent_in, other_kinds, one_ordinary}
use Rattle.model_terms.specs.Accessors.{ChildAccessor, accessor_in, child_accessor, runs}
use Rattle.model_terms.specs.Nested.{BoundChild, bound_child_by, bound_child, with_bound_child, bound_children, bindings_hold, stobj_let_holds}
use Rattle.model_terms.specs.Rules.{fails}
use Rattle.model_terms.specs.Faults.{Fault, at, head_fault, function_fault, logic_fault, outs_of, ordinary_scope, formal_names, first_fault, member_fault, macro_fault}
use Rattle.model_accepted.specs.Accepted.{Accepted, PartsAccepted, ActualsAccepted}
use Rattle.model_accepted.specs.Threaded.{HasArity, IsFormed, AreFormed}
use Rattle.model_accepted.proofs.LawLemmas.{parts_are_accepted}
use Rattle.model_slots_laws.specs.Standing.{stands, functions_stand, all_functions_stand, is_reached, all_reached, has_tree, all_have_trees}
use Rattle.model_slots_laws.specs.Laws.{HasTree, AcceptedHaveTrees, FormedStand}
use Rattle.model_slots_laws.proofs.TreeLemmas.{have_trees}

-- ---- tests

both_hold : (a b : Bool) → a ≡ true → b ≡ true → (a && b) ≡ true
both_hold a b p q = rw (p, q) refl

first_holds : (a b : Bool) → (a && b) ≡ true → a ≡ true
first_holds true b h = refl
first_holds false b h = cc

second_holds : (a b : Bool) → (a && b) ≡ true → b ≡ true
second_holds true b h = h
second_holds false b h = cc

not_fails : (a : Bool) → not a ≡ false → a ≡ true
not_fails true h = refl
not_fails false h = cc

-- ---- children

accessor_stands : (w : World) (o : Option Definition) (a : ChildAccessor) → option_and_then (accessor_in w) o ≡ Some a → is_some o ≡ true
accessor_stands w None a e = cc
accessor_stands w (Some d) a e = refl

module _ (w : World) where
  child_there : (x : ℕ) (r : Option Reached) (b : BoundChild) → option_and_then (λ r. option_and_then (bound_child_by x r) (child_accessor w r.accessor)) r ≡ Some b → is_reached w r ≡ true
  child_there x None b e = cc
  child_there x (Some r) b e = by (child_accessor w r.accessor) refl e
    where
      by : (o : Option ChildAccessor) → child_accessor w r.accessor ≡ o → option_and_then (bound_child_by x r) o ≡ Some b → is_reached w (Some r) ≡ true
      by None s e = cc
      by (Some a) s e = accessor_stands w (definition w r.accessor) a s

  bound_there : (xs : List ℕ) (fs : Cores) (bs : List BoundChild) → bound_children w xs fs ≡ Some bs → all_reached w xs fs ≡ true
  bound_there xs cores.none bs e = refl
  bound_there [] (cores.more f fs) bs e = refl
  bound_there (x ∷ xs) (cores.more f fs) bs e = go (bound_child w x f) (bound_children w xs fs) refl refl e (bound_there xs fs)
    where
      go : (o : Option BoundChild) (os : Option (List BoundChild)) → bound_child w x f ≡ o → bound_children w xs fs ≡ os → with_bound_child o os ≡ Some bs
          → ((ds : List BoundChild) → bound_children w xs fs ≡ Some ds → all_reached w xs fs ≡ true) → (is_reached w (reached f) && all_reached w xs fs) ≡ true
      go None os s t e rest = cc
      go (Some b) None s t e rest = cc
      go (Some b) (Some ds) s t e rest = both_hold _ _ (child_there x (reached f) b s) (rest ds t)

  children_there : (scope : Scope) (expected : List Out) (xs : List ℕ) (fs : Cores) (vars : List ℕ) → stobj_let_holds w scope expected xs fs vars ≡ true → all_reached w xs fs ≡ true
  unfolding stobj_let_holds
  children_there scope expected xs fs vars h = go (bound_children w xs fs) refl h
    where
      go : (o : Option (List BoundChild)) → bound_children w xs fs ≡ o → bindings_hold w scope expected xs vars o ≡ true → all_reached w xs fs ≡ true
      go None s h = cc
      go (Some bs) s h = bound_there xs fs bs s

  -- in each mode: a function that does not run has no `STOBJ-LET`
  lent_there : (mode : Mode) (scope : Scope) (formal : Option ℕ) (expected : List Out) (xs : List ℕ) (fs : Cores) (vars : List ℕ) (producer consumer : Core)
      → ((r : Rule) → fails w mode r (record { form = cores.StobjLet xs fs vars producer consumer; scope = scope; formal = formal; expected = expected }) ≡ false) → all_reached w xs fs ≡ true
  lent_there Executable scope formal expected xs fs vars producer consumer a = children_there scope expected xs fs vars (not_fails (stobj_let_holds w scope expected xs fs vars) (a S13))
  lent_there Macro scope formal expected xs fs vars producer consumer a = children_there scope expected xs fs vars (not_fails (stobj_let_holds w scope expected xs fs vars) (a S13))
  lent_there Logic scope formal expected xs fs vars producer consumer a = let never : true ≡ false = a S16 in cc

-- ---- forms

mutual
  unfolding has_tree functions_stand

  accepted_tree : (w : World) (mode : Mode) (scope : Scope) (formal : Option ℕ) (expected : List Out) (f : Core) → functions_stand w f ≡ true
      → Accepted w mode scope f formal expected → has_tree w f ≡ true
  accepted_tree w mode scope formal expected (cores.Var x) k a = refl
  accepted_tree w mode scope formal expected (cores.Const o) k a = refl
  accepted_tree w mode scope formal expected (cores.If f g h) k a =
      let p = parts_are_accepted.of_if w mode scope formal expected f g h a in
      let later = second_holds (functions_stand w f) (functions_stand w g && functions_stand w h) k in
      both_hold _ _ (accepted_tree w mode scope _ _ f (first_holds (functions_stand w f) (functions_stand w g && functions_stand w h) k) p.0)
      (both_hold _ _ (accepted_tree w mode scope _ _ g (first_holds (functions_stand w g) (functions_stand w h) later) p.1)
      (accepted_tree w mode scope _ _ h (second_holds (functions_stand w g) (functions_stand w h) later) p.2))
  accepted_tree w mode scope formal expected (cores.Let xs bound body) k a =
      let p = parts_are_accepted.of_let w mode scope formal expected xs bound body a in
      both_hold _ _ (parts_tree w mode scope _ bound (first_holds (all_functions_stand w bound) (functions_stand w body) k) p.0)
      (accepted_tree w mode (binding w scope xs) _ _ body (second_holds (all_functions_stand w bound) (functions_stand w body) k) p.1)
  accepted_tree w mode scope formal expected (cores.Mv parts) k a = parts_tree w mode scope _ parts k (parts_are_accepted.of_mv w mode scope formal expected parts a)
  accepted_tree w mode scope formal expected (cores.MvLet xs bound body) k a =
      let p = parts_are_accepted.of_mv_let w mode scope formal expected xs bound body a in
      both_hold _ _ (accepted_tree w mode scope _ _ bound (first_holds (functions_stand w bound) (functions_stand w body) k) p.0)
      (accepted_tree w mode (binding w scope xs) _ _ body (second_holds (functions_stand w bound) (functions_stand w body) k) p.1)
  accepted_tree w mode scope formal expected (cores.StobjLet xs bound vars producer consumer) k a =
      let p = parts_are_accepted.of_stobj_let w mode scope formal expected xs bound vars producer consumer a in
      both_hold _ _ (lent_there w mode scope formal expected xs bound vars producer consumer a.0)
      (both_hold _ _ (accepted_tree w mode (producer_scope w scope (parent_in bound) xs) _ _ producer (first_holds (functions_stand w producer) (functions_stand w consumer) k) p.0)
      (accepted_tree w mode (consumer_scope w scope xs vars) _ _ consumer (second_holds (functions_stand w producer) (functions_stand w consumer) k) p.1))
  accepted_tree w mode scope formal expected (cores.WithLocal stobj xs producer body) k a =
      let p = parts_are_accepted.of_with_local w mode scope formal expected stobj xs producer body a in
      both_hold _ _ (accepted_tree w mode (local_scope w scope stobj) _ _ producer (first_holds (functions_stand w producer) (functions_stand w body) k) p.0)
      (accepted_tree w mode (body_scope w scope stobj xs) _ _ body (second_holds (functions_stand w producer) (functions_stand w body) k) p.1)
  accepted_tree w mode scope formal expected (cores.MustBeEqual logic exec) k a =
      let p = parts_are_accepted.of_must_be_equal w mode scope formal expected logic exec a in accepted_tree w mode scope _ _ logic k p.0
  accepted_tree w mode scope formal expected (cores.Call f actuals) k a =
      both_hold _ _ (first_holds (stands w f) (all_functions_stand w actuals) k)
      (actuals_tree w mode scope _ actuals (second_holds (stands w f) (all_functions_stand w actuals) k) (parts_are_accepted.of_call w mode scope formal expected f actuals a))

  parts_tree : (w : World) (mode : Mode) (scope : Scope) (kinds : List Out) (fs : Cores) → all_functions_stand w fs ≡ true
      → PartsAccepted w mode scope kinds fs → all_have_trees w fs ≡ true
  parts_tree w mode scope kinds cores.none k a = refl
  parts_tree w mode scope kinds (cores.more f fs) k a =
      both_hold _ _ (accepted_tree w mode scope _ _ f (first_holds (functions_stand w f) (all_functions_stand w fs) k) a.0)
      (parts_tree w mode scope (other_kinds kinds) fs (second_holds (functions_stand w f) (all_functions_stand w fs) k) a.1)

  actuals_tree : (w : World) (mode : Mode) (scope : Scope) (ins : List Out) (fs : Cores) → all_functions_stand w fs ≡ true
      → ActualsAccepted w mode scope ins fs → all_have_trees w fs ≡ true
  actuals_tree w mode scope ins cores.none k a = refl
  actuals_tree w mode scope ins (cores.more f fs) k a =
      both_hold _ _ (accepted_tree w mode scope _ _ f (first_holds (functions_stand w f) (all_functions_stand w fs) k) a.0)
      (actuals_tree w mode scope (other_kinds ins) fs (second_holds (functions_stand w f) (all_functions_stand w fs) k) a.1)

-- ---- what is evaluated

tree_of : (w : World) (mode : Mode) (scope : Scope) (f : Core) (expected : List Out) → first_fault w mode scope f expected ≡ None → functions_stand w f ≡ true → HasTree w f
tree_of w mode scope f expected n k = λ env s. have_trees.form w env s f ∙ accepted_tree w mode scope None expected f k (parts_are_accepted.whole w mode scope f expected n)

pub none_first : {A : Type 0} (a b : Option A) → option_or a b ≡ None → a ≡ None
none_first None b e = refl
none_first (Some x) b e = cc

pub none_second : {A : Type 0} (a b : Option A) → option_or a b ≡ None → b ≡ None
none_second None b e = e
none_second (Some x) b e = cc

none_at : (outer : Place) (fault : Option Fault) → at outer fault ≡ None → fault ≡ None
none_at outer None e = refl
none_at outer (Some f) e = cc

macro_tree : (w : World) (formals : MacroFormals) (f : Core) → macro_fault w formals f ≡ None → functions_stand w f ≡ true → HasTree w f
macro_tree w formals f n k = go (list_any (is_stobj_name w) (formal_names formals)) n
  where
    go : (b : Bool) → cond b (Some (record { rule = S15; place = 0 ∷ [] })) (at (0 ∷ 1 ∷ []) (first_fault w Macro (ordinary_scope (formal_names formals)) f one_ordinary)) ≡ None → HasTree w f
    go true e = absurd cc
    go false e = tree_of w Macro (ordinary_scope (formal_names formals)) f one_ordinary (none_at (0 ∷ 1 ∷ []) _ e) k

module _ (w : World) (n : ℕ) (m : Member) where
  -- no rule fails in either part of a function that runs, and of one that does not
  abbrev AreAccepted : Mode → Scope → List Out → Type 0
  AreAccepted mode scope outs = (first_fault w mode scope m.guard one_ordinary ≡ None) × (first_fault w mode scope m.body outs ≡ None)

  function_parts : function_fault w n m (outs_of w m.name) ≡ None → AreAccepted Executable (formal_scope w m) (outs_of w m.name)
  function_parts e =
      let later = none_second (head_fault w n m) _ e in
      (none_at (n ∷ 0 ∷ []) _ (none_first _ _ later), none_at (n ∷ 1 ∷ []) _ (none_second _ _ later))

  logic_parts : logic_fault w n m ≡ None → AreAccepted Logic (ordinary_scope m.formals) one_ordinary
  logic_parts e = (none_at (n ∷ 0 ∷ []) _ (none_first _ _ e), none_at (n ∷ 1 ∷ []) _ (none_second _ _ e))

  guard_tree : member_fault w n m ≡ None → functions_stand w m.guard ≡ true → HasTree w m.guard
  guard_tree e k = go (runs w m.name) e
    where
      go : (b : Bool) → cond b (function_fault w n m (outs_of w m.name)) (logic_fault w n m) ≡ None → HasTree w m.guard
      go true e = tree_of w Executable _ m.guard _ (function_parts e).0 k
      go false e = tree_of w Logic _ m.guard _ (logic_parts e).0 k

  body_tree : member_fault w n m ≡ None → functions_stand w m.body ≡ true → HasTree w m.body
  body_tree e k = go (runs w m.name) e
    where
      go : (b : Bool) → cond b (function_fault w n m (outs_of w m.name)) (logic_fault w n m) ≡ None → HasTree w m.body
      go true e = tree_of w Executable _ m.body _ (function_parts e).1 k
      go false e = tree_of w Logic _ m.body _ (logic_parts e).1 k

pub accepted_have_trees : AcceptedHaveTrees
accepted_have_trees = record {
  form = tree_of;
  expression = λ w scope f n k. tree_of w Executable scope f (outs w scope f) n k;
  constant = λ w f n k. tree_of w Macro [] f one_ordinary n k;
  macro = macro_tree;
  guard = guard_tree;
  body = body_tree;
}

-- ---- formed forms

call_stands : (w : World) (f n : ℕ) → HasArity w f n → stands w f ≡ true
call_stands w f n a = go (definition w f) a.1
  where
    go : (d : Option Definition) → option_and_then signature_in d ≡ Some a.0 → is_some d ≡ true
    go None e = cc
    go (Some d) e = refl

mutual
  unfolding IsFormed functions_stand

  formed_stand_in : (w : World) (f : Core) → IsFormed w f → functions_stand w f ≡ true
  formed_stand_in w (cores.Var x) k = refl
  formed_stand_in w (cores.Const o) k = refl
  formed_stand_in w (cores.If a b c) k = both_hold _ _ (formed_stand_in w a k.0) (both_hold _ _ (formed_stand_in w b k.1) (formed_stand_in w c k.2))
  formed_stand_in w (cores.Let xs bound body) k = both_hold _ _ (all_formed_stand w bound k.1) (formed_stand_in w body k.2)
  formed_stand_in w (cores.Mv parts) k = all_formed_stand w parts k
  formed_stand_in w (cores.MvLet xs bound body) k = both_hold _ _ (formed_stand_in w bound k.0) (formed_stand_in w body k.1)
  formed_stand_in w (cores.StobjLet xs bound vars producer consumer) k = both_hold _ _ (formed_stand_in w producer k.0) (formed_stand_in w consumer k.1)
  formed_stand_in w (cores.WithLocal stobj xs producer body) k = both_hold _ _ (formed_stand_in w producer k.0) (formed_stand_in w body k.1)
  formed_stand_in w (cores.MustBeEqual logic exec) k = formed_stand_in w logic k.0
  formed_stand_in w (cores.Call f actuals) k = both_hold _ _ (call_stands w f _ k.0) (all_formed_stand w actuals k.1)

  all_formed_stand : (w : World) (fs : Cores) → AreFormed w fs → all_functions_stand w fs ≡ true
  all_formed_stand w cores.none k = refl
  all_formed_stand w (cores.more f fs) k = both_hold _ _ (formed_stand_in w f k.0) (all_formed_stand w fs k.1)

pub formed_stand : FormedStand
formed_stand = record { stand = formed_stand_in }
