-- The table of a world holds its trees.
use Rattle.std.specs.Prelude.{◌≡◌, ℕ, ◌+◌, List, [], ◌∷◌, ◌++◌, map, length, Bool, true, false, Some, nat_eq, position, unwrap_or, cond}
use Rattle.std.specs.List.{position_from}
use Rattle.std.proofs.lemmas.Iterator.Adapters.{position_from-zero}
use Rattle.std.proofs.Common.{sym, ap, ◌∙◌}
use Rattle.model_terms.specs.Cores.{Core}
use Rattle.model_terms.specs.Worlds.{World, definition_name}
use Rattle.model_slots.specs.Environments.{formal_environment}
use Rattle.model_slots.specs.Resolved.{resolved}
use Rattle.model_window.specs.Stands.{HoldsTrees}
use Rattle.model_window.specs.Tables.{no_tree, tree_over, guard_tree, body_tree, code_of, all_in, HasTree, HaveTrees, TablesHold, NamesTell}

tree_held : (w : World) (formals : List ℕ) (form : Core) → HasTree w formals form → resolved w (formal_environment formals) (length formals) form ≡ Some (tree_over w formals form)
tree_held w formals form h = h.is ∙ ap Some (sym (ap (λ t. unwrap_or t no_tree) h.is))

held : (w : World) → HaveTrees w → HoldsTrees w (all_in w) (code_of w)
held w h = record {
  guards = λ f. record { number = λ g n e. e };
  bodies = λ f. record { number = λ g n e. e };
  guard = λ x n f i e k. tree_held w f.formals f.guard (h.guard n f e k) ∙ ap (λ d. Some (guard_tree w d)) (sym e);
  body = λ x n f i e k. tree_held w f.formals f.body (h.body n f e k) ∙ ap (λ d. Some (body_tree w d)) (sym e);
  export = λ x n f i e k. tree_held w f.formals f.guard (h.export n f e k) ∙ ap (λ d. Some (guard_tree w d)) (sym e);
}

pub tables_hold : TablesHold
tables_hold = record { holds = held }

first_from : (f i n : ℕ) (xs ys : List ℕ) → position_from (nat_eq f) i xs ≡ Some n → position_from (nat_eq f) i (xs ++ ys) ≡ Some n
first_from f i n [] ys e = cc
first_from f i n (x ∷ xs) ys e = go (nat_eq f x) e (first_from f (i + 1) n xs ys)
  where
    go : (b : Bool) → cond b (Some i) (position_from (nat_eq f) (i + 1) xs) ≡ Some n
        → (position_from (nat_eq f) (i + 1) xs ≡ Some n → position_from (nat_eq f) (i + 1) (xs ++ ys) ≡ Some n)
        → cond b (Some i) (position_from (nat_eq f) (i + 1) (xs ++ ys)) ≡ Some n
    go true e rest = e
    go false e rest = rest e

pub names_tell : NamesTell
names_tell = record {
  earlier = λ c w others e. record {
    number = λ f n k.
        ap (position (nat_eq f)) e
        ∙ (position_from-zero (nat_eq f) (map definition_name c ++ others)
        ∙ first_from f 0 n (map definition_name c) others (sym (position_from-zero (nat_eq f) (map definition_name c)) ∙ k));
  };
}
