-- The conditions on variables, and how all conditions come together.
use Rattle.std.specs.Prelude.{◌≡◌, ℕ, ◌+◌, ◌<◌, ◌≤◌, List, [], ◌∷◌, drop, length, true, false, ◌&&◌, ◌||◌, not, refl}
use Rattle.std.specs.List.{list_any, list_all}
use Rattle.std.proofs.Common.{arith, get_or}
use Rattle.std.proofs.Math.ListN.{drop_of_length-le}
use Rattle.acl_base.specs.declared.SymId.{SymId}
use Rattle.model_terms.specs.Worlds as worlds
use Rattle.model_terms.specs.Classes.{is_stobj_name, has, repeats}
use Rattle.model_terms.specs.Nested as nested
use Rattle.model_terms.specs.Nested.{have_parent, have_names, have_indices, bind_twice, are_vars, parent_expected, children_hold}
use Rattle.acl_terms.specs.Forms.{numbers}
use Rattle.acl_outputs.proofs.ListLemmas.{left_at}

module _ (w : worlds.World) (children : List ℕ) where
  pub vars_step : (ns : List SymId) (i : ℕ) (d : SymId) → i < length ns
      → list_all (λ x. has children x || not (is_stobj_name w x)) (numbers (drop i ns))
      ≡ ((has children (get_or ns i d).0 || not (is_stobj_name w (get_or ns i d).0)) && list_all (λ x. has children x || not (is_stobj_name w x)) (numbers (drop (i + 1) ns)))
  vars_step ns i d l = rw (left_at ns i d l) refl

  pub vars_end : (ns : List SymId) (i : ℕ) → length ns ≤ i → list_all (λ x. has children x || not (is_stobj_name w x)) (numbers (drop i ns)) ≡ true
  vars_end ns i l = rw (drop_of_length-le ns l) refl

  pub vars_none : (vars : List SymId) → length vars ≡ 0 → are_vars w children (numbers vars) ≡ false
  vars_none [] l = refl
  vars_none (v ∷ vars) l = absurd (omega (arith, l))

  pub vars_repeat : (vars : List SymId) → repeats (numbers vars) ≡ true → are_vars w children (numbers vars) ≡ false
  vars_repeat [] r = refl
  vars_repeat (v ∷ vars) r = rw r refl

  pub vars_all : (vars : List SymId) → 0 < length vars → repeats (numbers vars) ≡ false
      → are_vars w children (numbers vars) ≡ list_all (λ x. has children x || not (is_stobj_name w x)) (numbers vars)
  vars_all [] l r = absurd (omega (arith, l))
  vars_all (v ∷ vars) l r = rw r refl

pub any_step : (children : List ℕ) (ns : List SymId) (i : ℕ) (d : SymId) → i < length ns
    → list_any (has children) (numbers (drop i ns)) ≡ (has children (get_or ns i d).0 || list_any (has children) (numbers (drop (i + 1) ns)))
any_step children ns i d l = rw (left_at ns i d l) refl

pub any_end : (children : List ℕ) (ns : List SymId) (i : ℕ) → length ns ≤ i → list_any (has children) (numbers (drop i ns)) ≡ false
any_end children ns i l = rw (drop_of_length-le ns l) refl

-- ---- all conditions on children

module _ (w : worlds.World) (scope : worlds.Scope) (expected : List worlds.Out) (names vars : List ℕ) (p : ℕ) (bs : List nested.BoundChild) where
  pub holds_no_parent : have_parent w scope p bs ≡ false → children_hold w scope expected names vars p bs ≡ false
  holds_no_parent a = rw a refl

  module _ (a : have_parent w scope p bs ≡ true) where
    pub holds_no_names : have_names w p bs ≡ false → children_hold w scope expected names vars p bs ≡ false
    holds_no_names b = rw (a, b) refl

    module _ (b : have_names w p bs ≡ true) where
      pub holds_no_indices : have_indices scope vars bs ≡ false → children_hold w scope expected names vars p bs ≡ false
      holds_no_indices c = rw (a, b, c) refl

      module _ (c : have_indices scope vars bs ≡ true) where
        pub holds_twice : bind_twice bs ≡ true → children_hold w scope expected names vars p bs ≡ false
        holds_twice d = rw (a, b, c, d) refl

        module _ (d : bind_twice bs ≡ false) where
          pub holds_no_vars : are_vars w names vars ≡ false → children_hold w scope expected names vars p bs ≡ false
          holds_no_vars e = rw (a, b, c, d, e) refl

          pub holds_expected : are_vars w names vars ≡ true → children_hold w scope expected names vars p bs ≡ parent_expected names vars p expected
          holds_expected e = rw (a, b, c, d, e) refl
