-- The conditions on `STOBJ-LET` at each kind of form. They ask nothing of an index but what is kept of it.
use Rattle.std.specs.Prelude.{◌≡◌, ℕ, ◌<◌, pos, negsuc, List, [], ◌∷◌, map, length, Bool, true, false, ◌&&◌, ◌||◌, not, Option, Some, None, nat_eq, option_map, refl}
use Rattle.std.specs.Option.{option_map_or}
use Rattle.std.specs.List.{list_any, list_all}
use Rattle.std.proofs.Common.{sym, ap, ◌∙◌, arith, get_or}
use Rattle.acl_base.specs.declared.SymId.{SymId}
use Rattle.acl_base.specs.declared.Word.{Word}
use Rattle.acl_heap.specs.Objects.{Objects}
use Rattle.model_objects.specs.Object.{Integer, Symbol, Text, Pair}
use Rattle.model_terms.specs.Cores as cores
use Rattle.model_terms.specs.Worlds as worlds
use Rattle.model_terms.specs.Classes.{congruent, repeats}
use Rattle.model_terms.specs.Nested as nested
use Rattle.model_terms.specs.Nested.{child_stobj, stands_for, have_parent, have_names, constant_index, is_index, have_indices, same_number, same_constant_index, same_child, bind_twice, are_vars, parent_expected, children_hold, bound_children, bindings_hold, stobj_let_holds}
use Rattle.model_terms.specs.Rules.{s13_fails}
use Rattle.acl_terms.specs.declared.form.Core.{Core}
use Rattle.acl_terms.specs.declared.form.Core.TheViews as views
use Rattle.acl_terms.specs.declared.form.Core.TheVariants as variants
use Rattle.acl_terms.specs.Forms.{numbers, bound_names, seen_core, seen_bound}
use Rattle.acl_terms.specs.FormLaws.{seen_var, seen_const, seen_if, seen_let, seen_mv, seen_mv_let, seen_stobj_let, seen_with_local, seen_must_be_equal, seen_call}
use Rattle.acl_nest.specs.declared.bindings.BoundChild.{BoundChild}
use Rattle.acl_nest.specs.Bindings.{plain, plain_child, plain_children, seen_children}

-- ---- what is kept of an index is enough

plain_constant : (f : cores.Core) → constant_index (plain f) ≡ constant_index f
plain_constant (cores.Var x) = refl
plain_constant (cores.Const (Integer (pos n))) = refl
plain_constant (cores.Const (Integer (negsuc n))) = refl
plain_constant (cores.Const (Symbol s)) = refl
plain_constant (cores.Const (Text bytes)) = refl
plain_constant (cores.Const (Pair a d)) = refl
plain_constant (cores.If a b c) = refl
plain_constant (cores.Let names bound body) = refl
plain_constant (cores.Mv parts) = refl
plain_constant (cores.MvLet names bound body) = refl
plain_constant (cores.StobjLet names bound vars producer consumer) = refl
plain_constant (cores.WithLocal stobj names producer body) = refl
plain_constant (cores.MustBeEqual logic exec) = refl
plain_constant (cores.Call f actuals) = refl

plain_is_index : (scope : worlds.Scope) (vars : List ℕ) (f : cores.Core) → is_index scope vars (plain f) ≡ is_index scope vars f
plain_is_index scope vars (cores.Var x) = refl
plain_is_index scope vars (cores.Const (Integer (pos n))) = refl
plain_is_index scope vars (cores.Const (Integer (negsuc n))) = refl
plain_is_index scope vars (cores.Const (Symbol s)) = refl
plain_is_index scope vars (cores.Const (Text bytes)) = refl
plain_is_index scope vars (cores.Const (Pair a d)) = refl
plain_is_index scope vars (cores.If a b c) = refl
plain_is_index scope vars (cores.Let names bound body) = refl
plain_is_index scope vars (cores.Mv parts) = refl
plain_is_index scope vars (cores.MvLet names bound body) = refl
plain_is_index scope vars (cores.StobjLet names bound vars2 producer consumer) = refl
plain_is_index scope vars (cores.WithLocal stobj names producer body) = refl
plain_is_index scope vars (cores.MustBeEqual logic exec) = refl
plain_is_index scope vars (cores.Call f actuals) = refl

plain_parent : (w : worlds.World) (scope : worlds.Scope) (p : ℕ) (bs : List nested.BoundChild) → have_parent w scope p (map plain_child bs) ≡ have_parent w scope p bs
plain_parent w scope p [] = refl
plain_parent w scope p (b ∷ bs) = ap (λ rest. (nat_eq b.parent p && stands_for w scope p b.accessor.stobj) && rest) (plain_parent w scope p bs)

names_plain : (bs : List nested.BoundChild) → map (λ (b : nested.BoundChild). b.name) (map plain_child bs) ≡ map (λ (b : nested.BoundChild). b.name) bs
names_plain [] = refl
names_plain (b ∷ bs) = ap (λ ns. b.name ∷ ns) (names_plain bs)

plain_congruent : (w : worlds.World) (bs : List nested.BoundChild)
    → list_all (λ (b : nested.BoundChild). congruent w (child_stobj b.accessor.holds) b.name) (map plain_child bs) ≡ list_all (λ (b : nested.BoundChild). congruent w (child_stobj b.accessor.holds) b.name) bs
plain_congruent w [] = refl
plain_congruent w (b ∷ bs) = ap (λ rest. congruent w (child_stobj b.accessor.holds) b.name && rest) (plain_congruent w bs)

plain_names : (w : worlds.World) (p : ℕ) (bs : List nested.BoundChild) → have_names w p (map plain_child bs) ≡ have_names w p bs
plain_names w p bs =
    ap (λ ns. not (repeats (p ∷ ns)) && list_all (λ (b : nested.BoundChild). congruent w (child_stobj b.accessor.holds) b.name) (map plain_child bs)) (names_plain bs)
    ∙ ap (λ rest. not (repeats (p ∷ map (λ (b : nested.BoundChild). b.name) bs)) && rest) (plain_congruent w bs)

plain_option : (scope : worlds.Scope) (vars : List ℕ) (i : Option cores.Core) → option_map_or (is_index scope vars) (option_map plain i) true ≡ option_map_or (is_index scope vars) i true
plain_option scope vars None = refl
plain_option scope vars (Some f) = plain_is_index scope vars f

plain_indices : (scope : worlds.Scope) (vars : List ℕ) (bs : List nested.BoundChild) → have_indices scope vars (map plain_child bs) ≡ have_indices scope vars bs
plain_indices scope vars [] = refl
plain_indices scope vars (b ∷ bs) =
    ap (λ t. t && have_indices scope vars (map plain_child bs)) (plain_option scope vars b.index)
    ∙ ap (λ rest. option_map_or (is_index scope vars) b.index true && rest) (plain_indices scope vars bs)

plain_same : (i j : Option cores.Core) → same_constant_index (option_map plain i) (option_map plain j) ≡ same_constant_index i j
plain_same None None = refl
plain_same None (Some g) = refl
plain_same (Some f) None = refl
plain_same (Some f) (Some g) = ap (λ n. same_number n (constant_index (plain g))) (plain_constant f) ∙ ap (same_number (constant_index f)) (plain_constant g)

plain_again : (a : nested.BoundChild) (bs : List nested.BoundChild) → list_any (same_child (plain_child a)) (map plain_child bs) ≡ list_any (same_child a) bs
plain_again a [] = refl
plain_again a (b ∷ bs) =
    ap (λ t. (nat_eq a.accessor.field b.accessor.field && t) || list_any (same_child (plain_child a)) (map plain_child bs)) (plain_same a.index b.index)
    ∙ ap (λ rest. same_child a b || rest) (plain_again a bs)

plain_twice : (bs : List nested.BoundChild) → bind_twice (map plain_child bs) ≡ bind_twice bs
plain_twice [] = refl
plain_twice (b ∷ bs) =
    ap (λ t. t || bind_twice (map plain_child bs)) (plain_again b bs) ∙ ap (λ rest. list_any (same_child b) bs || rest) (plain_twice bs)

module _ (w : worlds.World) (scope : worlds.Scope) (expected : List worlds.Out) (names vars : List ℕ) where
  plain_hold : (p : ℕ) (bs : List nested.BoundChild) → children_hold w scope expected names vars p (map plain_child bs) ≡ children_hold w scope expected names vars p bs
  plain_hold p bs =
      ap (λ t. t && (have_names w p (map plain_child bs) && (have_indices scope vars (map plain_child bs) && (not (bind_twice (map plain_child bs)) && last)))) (plain_parent w scope p bs)
      ∙ (ap (λ t. have_parent w scope p bs && (t && (have_indices scope vars (map plain_child bs) && (not (bind_twice (map plain_child bs)) && last)))) (plain_names w p bs)
      ∙ (ap (λ t. have_parent w scope p bs && (have_names w p bs && (t && (not (bind_twice (map plain_child bs)) && last)))) (plain_indices scope vars bs)
      ∙ ap (λ t. have_parent w scope p bs && (have_names w p bs && (have_indices scope vars bs && (not t && last)))) (plain_twice bs)))
    where
      last : Bool
      last = are_vars w names vars && parent_expected names vars p expected

  plain_bindings : (o : Option (List nested.BoundChild)) → bindings_hold w scope expected names vars (plain_children o) ≡ bindings_hold w scope expected names vars o
  plain_bindings None = refl
  plain_bindings (Some []) = refl
  plain_bindings (Some (b ∷ bs)) = plain_hold b.parent (b ∷ bs)

  module _ (bound : cores.Cores) where
    by_kept : stobj_let_holds w scope expected names bound vars ≡ bindings_hold w scope expected names vars (plain_children (bound_children w names bound))
    unfolding stobj_let_holds
    by_kept = sym (plain_bindings (bound_children w names bound))

    pub let_apart : None ≡ plain_children (bound_children w names bound) → stobj_let_holds w scope expected names bound vars ≡ false
    let_apart n = by_kept ∙ ap (bindings_hold w scope expected names vars) (sym n)

    pub let_empty : (bs : List BoundChild) → Some (seen_children bs) ≡ plain_children (bound_children w names bound) → length bs ≡ 0 → stobj_let_holds w scope expected names bound vars ≡ false
    let_empty [] n l = by_kept ∙ ap (bindings_hold w scope expected names vars) (sym n)
    let_empty (b ∷ bs) n l = absurd (omega (arith, l))

    pub let_children : (bs : List BoundChild) (d : BoundChild) → Some (seen_children bs) ≡ plain_children (bound_children w names bound) → 0 < length bs
        → stobj_let_holds w scope expected names bound vars ≡ children_hold w scope expected names vars (get_or bs 0 d).parent.0 (seen_children bs)
    let_children [] d n l = absurd (omega (arith, l))
    let_children (b ∷ bs) d n l = by_kept ∙ ap (bindings_hold w scope expected names vars) (sym n)

-- ---- at each kind of form

not_not : (b : Bool) → not (not b) ≡ b
not_not true = refl
not_not false = refl

module _ (w : worlds.World) (scope : worlds.Scope) (expected : List worlds.Out) (h : Objects) where
  pub fails_var : (x : SymId) → not (s13_fails w scope expected (seen_core h (variants.Var x))) ≡ true
  fails_var x = ap (λ f. not (s13_fails w scope expected f)) (seen_var h x)

  pub fails_const : (v : Word) → not (s13_fails w scope expected (seen_core h (variants.Const v))) ≡ true
  fails_const v = ap (λ f. not (s13_fails w scope expected f)) (seen_const h v)

  pub fails_if : (a b c : Core) → not (s13_fails w scope expected (seen_core h (views.If a b c))) ≡ true
  fails_if a b c = ap (λ f. not (s13_fails w scope expected f)) (seen_if h a b c)

  pub fails_let : (bs : List (SymId × Core)) (b : Core) → not (s13_fails w scope expected (seen_core h (views.Let bs b))) ≡ true
  fails_let bs b = ap (λ f. not (s13_fails w scope expected f)) (seen_let h bs b)

  pub fails_mv : (parts : List Core) → not (s13_fails w scope expected (seen_core h (views.Mv parts))) ≡ true
  fails_mv parts = ap (λ f. not (s13_fails w scope expected f)) (seen_mv h parts)

  pub fails_mv_let : (names : List SymId) (a b : Core) → not (s13_fails w scope expected (seen_core h (views.MvLet names a b))) ≡ true
  fails_mv_let names a b = ap (λ f. not (s13_fails w scope expected f)) (seen_mv_let h names a b)

  pub fails_with_local : (stobj : SymId) (names : List SymId) (a b : Core) → not (s13_fails w scope expected (seen_core h (views.WithLocal stobj names a b))) ≡ true
  fails_with_local stobj names a b = ap (λ f. not (s13_fails w scope expected f)) (seen_with_local h stobj names a b)

  pub fails_must_be_equal : (a b : Core) → not (s13_fails w scope expected (seen_core h (views.MustBeEqual a b))) ≡ true
  fails_must_be_equal a b = ap (λ f. not (s13_fails w scope expected f)) (seen_must_be_equal h a b)

  pub fails_call : (f : SymId) (parts : List Core) → not (s13_fails w scope expected (seen_core h (views.Call f parts))) ≡ true
  fails_call f parts = ap (λ f. not (s13_fails w scope expected f)) (seen_call h f parts)

  pub fails_stobj_let : (bs : List (SymId × Core)) (vars : List SymId) (p c : Core)
      → not (s13_fails w scope expected (seen_core h (views.StobjLet bs vars p c))) ≡ stobj_let_holds w scope expected (bound_names bs) (cores.cores (seen_bound h bs)) (numbers vars)
  fails_stobj_let bs vars p c =
      ap (λ f. not (s13_fails w scope expected f)) (seen_stobj_let h bs vars p c) ∙ not_not (stobj_let_holds w scope expected (bound_names bs) (cores.cores (seen_bound h bs)) (numbers vars))
