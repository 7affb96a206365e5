-- The children that a `STOBJ-LET` binds, variant by variant and binding by binding.
use Rattle.std.specs.Prelude.{◌≡◌, ◌≢◌, ℕ, ◌+◌, ◌<◌, ◌≤◌, List, [], ◌∷◌, ◌++◌, length, map, drop, get_or, Option, Some, None, nat_eq, position, option_map, refl}
use Rattle.std.proofs.Common.{sym, ap, ◌∙◌, arith, drop-cons, add-one, append_assoc}
use Rattle.std.proofs.Math.ListN.{drop_of_length-le}
use Rattle.std.proofs.lemmas.List.{append-nil, map-append}
use Rattle.acl_base.specs.declared.SymId.{SymId}
use Rattle.acl_base.specs.declared.Word.{Word}
use Rattle.acl_heap.specs.Objects.{Objects, object_of}
use Rattle.model_prims.specs.Kinds.{by_number, nil_of}
use Rattle.model_terms.specs.Cores as cores
use Rattle.model_terms.specs.Cores.{Reached, reached_from, reached_by, reached, variable}
use Rattle.model_terms.specs.Worlds as worlds
use Rattle.model_slots.specs.Trees as slots
use Rattle.model_slots.specs.Environments as slots_in
use Rattle.model_slots.specs.Resolved.{both, number_in, variable_at, operand_in, child_in, children_in}
use Rattle.acl_terms.specs.declared.form.Core.{Core}
use Rattle.acl_terms.specs.declared.form.Core.TheViews as views
use Rattle.acl_terms.specs.declared.form.Core.TheVariants as variants
use Rattle.acl_terms.specs.Forms.{bound_names, seen_core, seen_cores, seen_bound}
use Rattle.acl_terms.specs.FormLaws.{seen_var, seen_const, seen_if, seen_let, seen_mv, seen_mv_let, seen_stobj_let, seen_with_local, seen_must_be_equal, seen_call}
use Rattle.acl_worlds.specs.Contents.{Content, seen_world, number_of}
use Rattle.acl_worlds.proofs.WorldLemmas.{seen_names}
use Rattle.acl_code.specs.declared.term.Child.{Child}
use Rattle.acl_code.specs.Tables.{seen_child}

pub number_seen : (h : Objects) (w : Content) (x : ℕ) → number_of w x ≡ number_in (seen_world h w) x
number_seen h w x = ap (position (nat_eq x)) (sym (seen_names h w.definitions))

module _ (env : slots_in.Environment) (h : Objects) where
  abbrev at : cores.Core → slots.Operand
  at f = operand_in env f

  pub operand_var : (x : SymId) → at (seen_core h (variants.Var x)) ≡ variable_at env x.0
  operand_var x = ap at (seen_var h x)

  pub operand_const : (v : Word) → at (seen_core h (variants.Const v)) ≡ slots.Const (object_of h v)
  operand_const v = ap at (seen_const h v)

  pub operand_if : (a b c : Core) → at (seen_core h (views.If a b c)) ≡ slots.Const (nil_of by_number)
  operand_if a b c = ap at (seen_if h a b c)

  pub operand_let : (bs : List (SymId × Core)) (b : Core) → at (seen_core h (views.Let bs b)) ≡ slots.Const (nil_of by_number)
  operand_let bs b = ap at (seen_let h bs b)

  pub operand_mv : (parts : List Core) → at (seen_core h (views.Mv parts)) ≡ slots.Const (nil_of by_number)
  operand_mv parts = ap at (seen_mv h parts)

  pub operand_mv_let : (names : List SymId) (a b : Core) → at (seen_core h (views.MvLet names a b)) ≡ slots.Const (nil_of by_number)
  operand_mv_let names a b = ap at (seen_mv_let h names a b)

  pub operand_stobj_let : (bs : List (SymId × Core)) (vars : List SymId) (p c : Core) → at (seen_core h (views.StobjLet bs vars p c)) ≡ slots.Const (nil_of by_number)
  operand_stobj_let bs vars p c = ap at (seen_stobj_let h bs vars p c)

  pub operand_with_local : (stobj : SymId) (names : List SymId) (a b : Core) → at (seen_core h (views.WithLocal stobj names a b)) ≡ slots.Const (nil_of by_number)
  operand_with_local stobj names a b = ap at (seen_with_local h stobj names a b)

  pub operand_must_be_equal : (a b : Core) → at (seen_core h (views.MustBeEqual a b)) ≡ slots.Const (nil_of by_number)
  operand_must_be_equal a b = ap at (seen_must_be_equal h a b)

  pub operand_call : (f : SymId) (parts : List Core) → at (seen_core h (views.Call f parts)) ≡ slots.Const (nil_of by_number)
  operand_call f parts = ap at (seen_call h f parts)

module _ (w : worlds.World) (env : slots_in.Environment) (vars : List ℕ) (x : ℕ) (h : Objects) where
  abbrev by : cores.Core → Option slots.Child
  by f = child_in w env vars x (reached f)

  pub child_var : (y : SymId) → by (seen_core h (variants.Var y)) ≡ None
  child_var y = ap by (seen_var h y)

  pub child_const : (v : Word) → by (seen_core h (variants.Const v)) ≡ None
  child_const v = ap by (seen_const h v)

  pub child_if : (a b c : Core) → by (seen_core h (views.If a b c)) ≡ None
  child_if a b c = ap by (seen_if h a b c)

  pub child_let : (bs : List (SymId × Core)) (b : Core) → by (seen_core h (views.Let bs b)) ≡ None
  child_let bs b = ap by (seen_let h bs b)

  pub child_mv : (parts : List Core) → by (seen_core h (views.Mv parts)) ≡ None
  child_mv parts = ap by (seen_mv h parts)

  pub child_mv_let : (names : List SymId) (a b : Core) → by (seen_core h (views.MvLet names a b)) ≡ None
  child_mv_let names a b = ap by (seen_mv_let h names a b)

  pub child_stobj_let : (bs : List (SymId × Core)) (vs : List SymId) (p c : Core) → by (seen_core h (views.StobjLet bs vs p c)) ≡ None
  child_stobj_let bs vs p c = ap by (seen_stobj_let h bs vs p c)

  pub child_with_local : (stobj : SymId) (names : List SymId) (a b : Core) → by (seen_core h (views.WithLocal stobj names a b)) ≡ None
  child_with_local stobj names a b = ap by (seen_with_local h stobj names a b)

  pub child_must_be_equal : (a b : Core) → by (seen_core h (views.MustBeEqual a b)) ≡ None
  child_must_be_equal a b = ap by (seen_must_be_equal h a b)

  pub child_call : (f : SymId) (parts : List Core) → by (seen_core h (views.Call f parts)) ≡ child_in w env vars x (reached_by f.0 (cores.cores (seen_cores h parts)))
  child_call f parts = ap by (seen_call h f parts)

  pub reached_one : (f : ℕ) (parts : List Core) (d : Core) → length parts ≡ 1
      → child_in w env vars x (reached_by f (cores.cores (seen_cores h parts))) ≡ child_in w env vars x (reached_from f None (seen_core h (get_or parts 0 d)))
  reached_one f [] d l = absurd (omega (arith, l))
  reached_one f (p ∷ []) d l = refl
  reached_one f (p ∷ q ∷ rest) d l = absurd (omega (arith, l))

  pub reached_two : (f : ℕ) (parts : List Core) (d e : Core) → length parts ≡ 2
      → child_in w env vars x (reached_by f (cores.cores (seen_cores h parts))) ≡ child_in w env vars x (reached_from f (Some (seen_core h (get_or parts 0 d))) (seen_core h (get_or parts 1 e)))
  reached_two f [] d e l = absurd (omega (arith, l))
  reached_two f (p ∷ []) d e l = absurd (omega (arith, l))
  reached_two f (i ∷ p ∷ []) d e l = refl
  reached_two f (p ∷ q ∷ r ∷ rest) d e l = absurd (omega (arith, l))

  pub reached_other : (f : ℕ) (parts : List Core) → length parts ≢ 1 → length parts ≢ 2 → child_in w env vars x (reached_by f (cores.cores (seen_cores h parts))) ≡ None
  reached_other f [] l m = refl
  reached_other f (p ∷ []) l m = absurd (l refl)
  reached_other f (p ∷ q ∷ []) l m = absurd (m refl)
  reached_other f (p ∷ q ∷ r ∷ rest) l m = refl

-- ---- in order

-- what is left, in front of which these stand
abbrev pub children_then : List slots.Child → Option (List slots.Child) → Option (List slots.Child)
children_then found rest = option_map (λ cs. found ++ cs) rest

then_nothing : (o : Option (List slots.Child)) → o ≡ children_then [] o
then_nothing None = refl
then_nothing (Some cs) = refl

then_one : (found : List slots.Child) (c : slots.Child) (o : Option (List slots.Child)) → children_then found (both (λ c cs. c ∷ cs) (Some c) o) ≡ children_then (found ++ c ∷ []) o
then_one found c None = refl
then_one found c (Some cs) = ap Some (sym (append_assoc found (c ∷ []) cs))

-- the children found so far, and what the bindings left reach
pub record ChildrenSoFar (w : worlds.World) (env : slots_in.Environment) (vars : List ℕ) (h : Objects) (bs : List (SymId × Core)) (i : ℕ) (found : List Child) : Type 0 where
  pub is : children_in w env vars (bound_names bs) (cores.cores (seen_bound h bs))
      ≡ children_then (map (seen_child h) found) (children_in w env vars (bound_names (drop i bs)) (cores.cores (seen_bound h (drop i bs))))

module _ (w : worlds.World) (env : slots_in.Environment) (vars : List ℕ) (h : Objects) (bs : List (SymId × Core)) where
  abbrev left : List (SymId × Core) → Option (List slots.Child)
  left cs = children_in w env vars (bound_names cs) (cores.cores (seen_bound h cs))

  pub found_start : ChildrenSoFar w env vars h bs 0 []
  found_start = record { is = then_nothing (left bs) }

  module _ (i : ℕ) (found : List Child) (s : ChildrenSoFar w env vars h bs i found) where
    pub found_end : length bs ≤ i → option_map (map (seen_child h)) (Some found) ≡ left bs
    found_end l = sym (s.is ∙ rw (drop_of_length-le bs l) (ap Some (append-nil (map (seen_child h) found))))

    on : (d : SymId × Core) → i < length bs
        → left bs ≡ children_then (map (seen_child h) found) (both (λ c cs. c ∷ cs) (child_in w env vars (get_or bs i d).0.0 (reached (seen_core h (get_or bs i d).1))) (left (drop (i + 1) bs)))
    on d l =
        let e : drop i bs ≡ get_or bs i d ∷ drop (i + 1) bs = rw (add-one i, drop-cons bs i d l) refl in
        s.is ∙ ap (λ cs. children_then (map (seen_child h) found) (left cs)) e

    pub found_step : (d : SymId × Core) (c : Child) → i < length bs → Some (seen_child h c) ≡ child_in w env vars (get_or bs i d).0.0 (reached (seen_core h (get_or bs i d).1))
        → ChildrenSoFar w env vars h bs (i + 1) (found ++ c ∷ [])
    found_step d c l n = record {
      is = on d l ∙ (ap (λ o. children_then (map (seen_child h) found) (both (λ c cs. c ∷ cs) o (left (drop (i + 1) bs)))) (sym n)
          ∙ (then_one (map (seen_child h) found) (seen_child h c) (left (drop (i + 1) bs))
          ∙ ap (λ cs. children_then cs (left (drop (i + 1) bs))) (sym (map-append (seen_child h) found (c ∷ [])))));
    }

    pub found_none : (d : SymId × Core) → i < length bs → None ≡ child_in w env vars (get_or bs i d).0.0 (reached (seen_core h (get_or bs i d).1)) → None ≡ left bs
    found_none d l n = sym (on d l ∙ ap (λ o. children_then (map (seen_child h) found) (both (λ c cs. c ∷ cs) o (left (drop (i + 1) bs)))) (sym n))
