-- Which forms have trees.
use Rattle.std.specs.Prelude.{◌≡◌, ℕ, ◌+◌, List, [], ◌∷◌, map, length, Bool, true, false, ◌&&◌, Option, Some, None, nat_eq, option_map, is_some, refl, cond}
use Rattle.std.specs.List.{find, position_from}
use Rattle.std.proofs.Common.{ap, ◌∙◌}
use Rattle.std.proofs.lemmas.Iterator.Adapters.{position_from-zero}
use Rattle.model_terms.specs.Cores as cores
use Rattle.model_terms.specs.Cores.{Core, Cores, Reached, reached}
use Rattle.model_terms.specs.Worlds.{World, definition_name}
use Rattle.model_slots.specs.Environments.{Environment, all_bound, ordinary_bound}
use Rattle.model_slots.specs.Resolved.{both, all_three, number_in, child_in, children_in, resolved, all_resolved}
use Rattle.model_slots_laws.specs.Standing.{stands, is_reached, all_reached, has_tree, all_have_trees}
use Rattle.model_slots_laws.specs.Laws.{HaveTrees}

-- ---- options

some_both : {A B C : Type 0} (f : A → B → C) (a : Option A) (b : Option B) → is_some (both f a b) ≡ is_some a && is_some b
some_both f None b = refl
some_both f (Some a) None = refl
some_both f (Some a) (Some b) = refl

some_three : {A B C D : Type 0} (f : A → B → C → D) (a : Option A) (b : Option B) (c : Option C) → is_some (all_three f a b c) ≡ is_some a && (is_some b && is_some c)
some_three f None b c = refl
some_three f (Some a) None c = refl
some_three f (Some a) (Some b) None = refl
some_three f (Some a) (Some b) (Some c) = refl

some_map : {A B : Type 0} (f : A → B) (a : Option A) → is_some (option_map f a) ≡ is_some a
some_map f None = refl
some_map f (Some a) = refl

alike : (a b c d : Bool) → a ≡ c → b ≡ d → a && b ≡ c && d
alike a b c d p q = rw (p, q) refl

-- ---- functions

some_from : (f i : ℕ) (w : World) → is_some (position_from (nat_eq f) i (map definition_name w)) ≡ is_some (find (λ d. nat_eq f (definition_name d)) w)
some_from f i [] = refl
some_from f i (d ∷ w) = go (nat_eq f (definition_name d)) (some_from f (i + 1) w)
  where
    go : (b : Bool) → is_some (position_from (nat_eq f) (i + 1) (map definition_name w)) ≡ is_some (find (λ d. nat_eq f (definition_name d)) w)
        → is_some (cond b (Some i) (position_from (nat_eq f) (i + 1) (map definition_name w))) ≡ is_some (cond b (Some d) (find (λ d. nat_eq f (definition_name d)) w))
    go true h = refl
    go false h = h

some_number : (w : World) (f : ℕ) → is_some (number_in w f) ≡ stands w f
some_number w f = ap is_some (position_from-zero (nat_eq f) (map definition_name w)) ∙ some_from f 0 w

-- ---- children

module _ (w : World) (env : Environment) where
  some_child : (vars : List ℕ) (x : ℕ) (by : Option Reached) → is_some (child_in w env vars x by) ≡ is_reached w by
  some_child vars x None = refl
  some_child vars x (Some by) = some_map _ (number_in w by.accessor) ∙ some_number w by.accessor

  some_children : (vars xs : List ℕ) (fs : Cores) → is_some (children_in w env vars xs fs) ≡ all_reached w xs fs
  some_children vars xs cores.none = refl
  some_children vars [] (cores.more f fs) = refl
  some_children vars (x ∷ xs) (cores.more f fs) =
      some_both _ (child_in w env vars x (reached f)) (children_in w env vars xs fs) ∙ alike _ _ _ _ (some_child vars x (reached f)) (some_children vars xs fs)

-- ---- forms

mutual
  unfolding resolved has_tree

  some_tree : (w : World) (env : Environment) (s : ℕ) (f : Core) → is_some (resolved w env s f) ≡ has_tree w f
  some_tree w env s (cores.Var x) = refl
  some_tree w env s (cores.Const o) = refl
  some_tree w env s (cores.If a b c) = some_three _ _ _ _ ∙ alike _ _ _ _ (some_tree w env s a) (alike _ _ _ _ (some_tree w env s b) (some_tree w env s c))
  some_tree w env s (cores.Let names bound body) =
      some_both _ _ _ ∙ alike _ _ _ _ (some_trees w env s bound) (some_tree w (ordinary_bound w s names env) (s + length names) body)
  some_tree w env s (cores.Mv parts) = some_map _ _ ∙ some_trees w env s parts
  some_tree w env s (cores.MvLet names bound body) =
      some_both _ _ _ ∙ alike _ _ _ _ (some_tree w env s bound) (some_tree w (ordinary_bound w s names env) (s + length names) body)
  some_tree w env s (cores.StobjLet names bound vars producer consumer) =
      some_three _ _ _ _ ∙ alike _ _ _ _ (some_children w env vars names bound)
      (alike _ _ _ _ (some_tree w (all_bound s names env) (s + length names) producer) (some_tree w (ordinary_bound w s vars env) (s + length vars) consumer))
  some_tree w env s (cores.WithLocal stobj names producer body) =
      some_both _ _ _ ∙ alike _ _ _ _ (some_tree w (all_bound s (stobj ∷ []) env) (s + 1) producer) (some_tree w (ordinary_bound w s names env) (s + length names) body)
  some_tree w env s (cores.MustBeEqual logic exec) = some_map _ _ ∙ some_tree w env s logic
  some_tree w env s (cores.Call f actuals) = some_both _ _ _ ∙ alike _ _ _ _ (some_number w f) (some_trees w env s actuals)

  some_trees : (w : World) (env : Environment) (s : ℕ) (fs : Cores) → is_some (all_resolved w env s fs) ≡ all_have_trees w fs
  some_trees w env s cores.none = refl
  some_trees w env s (cores.more f fs) = some_both _ _ _ ∙ alike _ _ _ _ (some_tree w env s f) (some_trees w env (s + 1) fs)

pub have_trees : HaveTrees
have_trees = record { form = some_tree; parts = some_trees }
