-- Steps of the loops over children.
use Rattle.std.specs.Prelude.{◌≡◌, ℕ, ◌+◌, ◌<◌, ◌≤◌, List, [], ◌∷◌, ◌++◌, map, drop, length, true, false, ◌&&◌, ◌||◌, nat_eq, refl}
use Rattle.std.specs.Option.{option_map_or}
use Rattle.std.specs.List.{list_any, list_all}
use Rattle.std.proofs.Common.{sym, ap, ◌∙◌, get_or, append_assoc}
use Rattle.std.proofs.Math.ListN.{drop_of_length-le}
use Rattle.std.proofs.lemmas.List.{append-nil}
use Rattle.model_terms.specs.Worlds as worlds
use Rattle.model_terms.specs.Classes.{congruent}
use Rattle.model_terms.specs.Nested as nested
use Rattle.model_terms.specs.Nested.{child_stobj, stands_for, have_parent, have_indices, is_index, same_child, bind_twice}
use Rattle.acl_outputs.proofs.ListLemmas.{left_at}
use Rattle.acl_nest.specs.declared.bindings.BoundChild.{BoundChild}
use Rattle.acl_nest.specs.Accessors.{seen_holds}
use Rattle.acl_nest.specs.Bindings.{seen_child, seen_children}

module _ (bs : List BoundChild) (i : ℕ) where
  module _ (w : worlds.World) (scope : worlds.Scope) (p : ℕ) where
    pub parent_step : (d : BoundChild) → i < length bs
        → have_parent w scope p (seen_children (drop i bs))
        ≡ ((nat_eq (get_or bs i d).parent.0 p && stands_for w scope p (get_or bs i d).accessor.stobj.0) && have_parent w scope p (seen_children (drop (i + 1) bs)))
    parent_step d l = rw (left_at bs i d l) refl

    pub parent_end : length bs ≤ i → have_parent w scope p (seen_children (drop i bs)) ≡ true
    parent_end l = rw (drop_of_length-le bs l) refl

  pub names_step : (done : List ℕ) (d : BoundChild) → i < length bs
      → done ++ map (λ (b : nested.BoundChild). b.name) (seen_children (drop i bs)) ≡ (done ++ (get_or bs i d).name.0 ∷ []) ++ map (λ (b : nested.BoundChild). b.name) (seen_children (drop (i + 1) bs))
  names_step done d l =
      ap (λ xs. done ++ map (λ (b : nested.BoundChild). b.name) (seen_children xs)) (left_at bs i d l)
      ∙ sym (append_assoc done ((get_or bs i d).name.0 ∷ []) (map (λ (b : nested.BoundChild). b.name) (seen_children (drop (i + 1) bs))))

  pub names_end : (done : List ℕ) → length bs ≤ i → done ++ map (λ (b : nested.BoundChild). b.name) (seen_children (drop i bs)) ≡ done
  names_end done l = rw (drop_of_length-le bs l) (append-nil done)

  module _ (w : worlds.World) where
    pub congruent_step : (d : BoundChild) → i < length bs
        → list_all (λ (b : nested.BoundChild). congruent w (child_stobj b.accessor.holds) b.name) (seen_children (drop i bs))
        ≡ (congruent w (child_stobj (seen_holds (get_or bs i d).accessor.holds)) (get_or bs i d).name.0
        && list_all (λ (b : nested.BoundChild). congruent w (child_stobj b.accessor.holds) b.name) (seen_children (drop (i + 1) bs)))
    congruent_step d l = rw (left_at bs i d l) refl

    pub congruent_end : length bs ≤ i → list_all (λ (b : nested.BoundChild). congruent w (child_stobj b.accessor.holds) b.name) (seen_children (drop i bs)) ≡ true
    congruent_end l = rw (drop_of_length-le bs l) refl

  module _ (scope : worlds.Scope) (vars : List ℕ) where
    pub indices_step : (d : BoundChild) → i < length bs
        → have_indices scope vars (seen_children (drop i bs)) ≡ (option_map_or (is_index scope vars) (seen_child (get_or bs i d)).index true && have_indices scope vars (seen_children (drop (i + 1) bs)))
    indices_step d l = rw (left_at bs i d l) refl

    pub indices_end : length bs ≤ i → have_indices scope vars (seen_children (drop i bs)) ≡ true
    indices_end l = rw (drop_of_length-le bs l) refl

  pub again_step : (first d : BoundChild) → i < length bs
      → list_any (same_child (seen_child first)) (seen_children (drop i bs))
      ≡ (same_child (seen_child first) (seen_child (get_or bs i d)) || list_any (same_child (seen_child first)) (seen_children (drop (i + 1) bs)))
  again_step first d l = rw (left_at bs i d l) refl

  pub again_end : (first : BoundChild) → length bs ≤ i → list_any (same_child (seen_child first)) (seen_children (drop i bs)) ≡ false
  again_end first l = rw (drop_of_length-le bs l) refl

  pub twice_step : (d : BoundChild) → i < length bs
      → bind_twice (seen_children (drop i bs)) ≡ (list_any (same_child (seen_child (get_or bs i d))) (seen_children (drop (i + 1) bs)) || bind_twice (seen_children (drop (i + 1) bs)))
  twice_step d l = rw (left_at bs i d l) refl

  pub twice_end : length bs ≤ i → bind_twice (seen_children (drop i bs)) ≡ false
  twice_end l = rw (drop_of_length-le bs l) refl
