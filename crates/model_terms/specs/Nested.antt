-- The conditions on `STOBJ-LET` and on `WITH-LOCAL-STOBJ` (ACL2's manual, topics STOBJ-LET, WITH-LOCAL-STOBJ).
use Rattle.std.specs.Prelude.{ℕ, pos, List, [], ◌∷◌, map, Bool, true, false, ◌&&◌, ◌||◌, not, Option, Some, None, nat_eq, is_some, option_map, option_and_then, if◌then◌else◌}
use Rattle.std.specs.Option.{option_map_or}
use Rattle.std.specs.List.{list_any, list_all}
use Rattle.model_objects.specs.Object.{Integer}
use Rattle.model_terms.specs.Cores.{Core, Cores, none, more, Var, Const, Reached, reached}
use Rattle.model_terms.specs.Worlds.{World, Out, Ordinary, Stobj, Scope}
use Rattle.model_terms.specs.Classes.{is_stobj_name, congruent, has, repeats, stobjs}
use Rattle.model_terms.specs.Scopes.{kind_in, kind_of, name_kinds, local_scope, other_names}
use Rattle.model_terms.specs.Outputs.{outs}
use Rattle.model_terms.specs.Accessors.{HeldStobjs, One, Many, ChildAccessor, child_accessor}

-- ---- kinds

abbrev pub is_stobj : Out → Bool
is_stobj Ordinary = false
is_stobj (Stobj x) = true

abbrev pub same_kind : Out → Out → Bool
same_kind Ordinary Ordinary = true
same_kind Ordinary (Stobj b) = false
same_kind (Stobj a) Ordinary = false
same_kind (Stobj a) (Stobj b) = nat_eq a b

abbrev pub same_kinds : List Out → List Out → Bool
same_kinds [] [] = true
same_kinds [] (b ∷ bs) = false
same_kinds (a ∷ rest) [] = false
same_kinds (a ∷ rest) (b ∷ bs) = same_kind a b && same_kinds rest bs

-- are the stobjs among the kinds all expected?
abbrev pub stobjs_expected : List Out → List Out → Bool
stobjs_expected kinds expected = list_all (has (stobjs expected)) (stobjs kinds)

-- ---- the bindings of a `STOBJ-LET`

-- a child, the accessor of its field, an index where the field holds many, and the variable of the parent
pub record BoundChild : Type 0 where
  pub name : ℕ
  pub accessor : ChildAccessor
  pub index : Option Core
  pub parent : ℕ

-- an accessor of many takes an index, one of a single child takes none
abbrev pub takes_index : HeldStobjs → Option Core → Bool
takes_index (One x) None = true
takes_index (One x) (Some i) = false
takes_index (Many x) None = false
takes_index (Many x) (Some i) = true

abbrev pub bound_child_by : ℕ → Reached → ChildAccessor → Option BoundChild
bound_child_by x r a = if takes_index a.holds r.index then Some (record { name = x; accessor = a; index = r.index; parent = r.parent }) else None

-- None where what is bound is no call of a child accessor on a variable
abbrev pub bound_child : World → ℕ → Core → Option BoundChild
bound_child w x f = option_and_then (λ r. option_and_then (bound_child_by x r) (child_accessor w r.accessor)) (reached f)

abbrev pub with_bound_child : Option BoundChild → Option (List BoundChild) → Option (List BoundChild)
with_bound_child None bs = None
with_bound_child (Some b) bs = option_map (λ bs. b ∷ bs) bs

-- all bindings, where each is one of a child
abbrev pub bound_children : World → List ℕ → Cores → Option (List BoundChild)
bound_children w [] none = Some []
bound_children w [] (more f fs) = None
bound_children w (x ∷ xs) none = None
bound_children w (x ∷ xs) (more f fs) = with_bound_child (bound_child w x f) (bound_children w xs fs)

abbrev pub child_stobj : HeldStobjs → ℕ
child_stobj (One x) = x
child_stobj (Many x) = x

-- the variable of a stobj in scope, congruent to this one
abbrev pub stands_for : World → Scope → ℕ → ℕ → Bool
stands_for w scope x o = is_stobj (kind_of scope x) && congruent w o x

-- each is a child of one stobj in scope
abbrev pub have_parent : World → Scope → ℕ → List BoundChild → Bool
have_parent w scope p bs = list_all (λ (b : BoundChild). nat_eq b.parent p && stands_for w scope p b.accessor.stobj) bs

-- the names are different from each other and from the parent's, each congruent to its child's stobj
abbrev pub have_names : World → ℕ → List BoundChild → Bool
have_names w p bs =
    not (repeats (p ∷ map (λ (b : BoundChild). b.name) bs)) && list_all (λ (b : BoundChild). congruent w (child_stobj b.accessor.holds) b.name) bs

-- a constant that is a natural number
abbrev pub constant_index : Core → Option ℕ
constant_index (Const (Integer (pos n))) = Some n
constant_index f = None

abbrev pub is_ordinary_in : Scope → ℕ → Bool
is_ordinary_in scope x = option_map_or (same_kind Ordinary) (kind_in scope x) false

-- a constant that is a natural number, or an ordinary variable in scope that is none of these
abbrev pub is_index : Scope → List ℕ → Core → Bool
is_index scope vars (Var x) = is_ordinary_in scope x && not (has vars x)
is_index scope vars f = is_some (constant_index f)

abbrev pub have_indices : Scope → List ℕ → List BoundChild → Bool
have_indices scope vars bs = list_all (λ (b : BoundChild). option_map_or (is_index scope vars) b.index true) bs

abbrev pub same_number : Option ℕ → Option ℕ → Bool
same_number None n = false
same_number (Some m) None = false
same_number (Some m) (Some n) = nat_eq m n

-- a single child, or two equal constants
abbrev pub same_constant_index : Option Core → Option Core → Bool
same_constant_index None None = true
same_constant_index None (Some j) = false
same_constant_index (Some i) None = false
same_constant_index (Some i) (Some j) = same_number (constant_index i) (constant_index j)

-- do both bind one child for sure? A child is told by its field's number, whichever congruent stobj's accessor is called
abbrev pub same_child : BoundChild → BoundChild → Bool
same_child a b = nat_eq a.accessor.field b.accessor.field && same_constant_index a.index b.index

abbrev pub bind_twice : List BoundChild → Bool
bind_twice [] = false
bind_twice (b ∷ bs) = list_any (same_child b) bs || bind_twice bs

-- at least one variable, all different, each a bound child or the name of no stobj
abbrev pub are_vars : World → List ℕ → List ℕ → Bool
are_vars w children [] = false
are_vars w children (v ∷ vars) = not (repeats (v ∷ vars)) && list_all (λ x. has children x || not (is_stobj_name w x)) (v ∷ vars)

-- where a child is put back, the parent is expected
abbrev pub parent_expected : List ℕ → List ℕ → ℕ → List Out → Bool
parent_expected children vars p expected = not (list_any (has children) vars) || has (stobjs expected) p

abbrev pub children_hold : World → Scope → List Out → List ℕ → List ℕ → ℕ → List BoundChild → Bool
children_hold w scope expected names vars p bs =
    have_parent w scope p bs
    && (have_names w p bs && (have_indices scope vars bs && (not (bind_twice bs) && (are_vars w names vars && parent_expected names vars p expected))))

abbrev pub bindings_hold : World → Scope → List Out → List ℕ → List ℕ → Option (List BoundChild) → Bool
bindings_hold w scope expected names vars None = false
bindings_hold w scope expected names vars (Some []) = false
bindings_hold w scope expected names vars (Some (b ∷ bs)) = children_hold w scope expected names vars b.parent (b ∷ bs)

-- S13: the conditions on `(stobj-let ((name bound) ..) (vars) producer consumer)`
unfoldable pub stobj_let_holds : World → Scope → List Out → List ℕ → Cores → List ℕ → Bool
stobj_let_holds w scope expected names bound vars = bindings_hold w scope expected names vars (bound_children w names bound)

-- S14: the conditions on `(with-local-stobj stobj (mv-let (names) producer body))`. Its stobj is one, and among the
-- names; the other names are as in an `MV-LET`, and the producer gives what the names say
unfoldable pub with_local_holds : World → Scope → List Out → ℕ → List ℕ → Core → Bool
with_local_holds w scope expected stobj names producer =
    is_stobj_name w stobj
    && (has names stobj
    && (stobjs_expected (name_kinds w (other_names stobj names)) expected && same_kinds (outs w (local_scope w scope stobj) producer) (name_kinds w names)))
