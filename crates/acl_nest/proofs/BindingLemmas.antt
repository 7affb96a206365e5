-- What each variant of a form is as an index and as a call of an accessor, and the steps of the loop over bindings.
use Rattle.std.specs.Prelude.{◌≡◌, ◌≢◌, ℕ, ◌+◌, ◌<◌, ◌≤◌, List, [], ◌∷◌, ◌++◌, drop, length, Bool, true, false, Option, Some, None, option_map, option_and_then, refl, if◌then◌else◌}
use Rattle.std.proofs.Common.{sym, ap, ◌∙◌, arith, get_or, append_assoc}
use Rattle.std.proofs.Math.ListN.{drop_of_length-le}
use Rattle.std.proofs.lemmas.List.{append-nil}
use Rattle.acl_base.specs.declared.SymId.{SymId}
use Rattle.acl_base.specs.declared.Word.{Word}
use Rattle.acl_heap.specs.Objects.{Objects, object_of}
use Rattle.model_terms.specs.Cores as cores
use Rattle.model_terms.specs.Cores.{reached_from, reached_by, reached}
use Rattle.model_terms.specs.Worlds as worlds
use Rattle.model_terms.specs.Accessors.{HeldStobjs, One, Many, ChildAccessor, child_accessor}
use Rattle.model_terms.specs.Nested as nested
use Rattle.model_terms.specs.Nested.{takes_index, bound_child_by, bound_child, with_bound_child, bound_children}
use Rattle.acl_terms.specs.declared.form.Core.{Core}
use Rattle.acl_terms.specs.declared.form.Core.TheViews as views
use Rattle.acl_terms.specs.declared.form.Core.TheVariants as variants
use Rattle.acl_terms.specs.Forms.{bound_names, seen_core, seen_cores, seen_bound}
use Rattle.acl_terms.specs.FormLaws.{seen_var, seen_const, seen_if, seen_let, seen_mv, seen_mv_let, seen_stobj_let, seen_with_local, seen_must_be_equal, seen_call}
use Rattle.acl_outputs.proofs.ListLemmas.{left_at}
use Rattle.acl_nest.specs.Bindings.{no_index, plain, plain_reached, plain_child, plain_children, found_then}

module _ (h : Objects) where
  -- ---- as an index

  pub plain_var : (x : SymId) → plain (seen_core h (variants.Var x)) ≡ cores.Var x.0
  plain_var x = ap plain (seen_var h x)

  pub plain_const : (w : Word) → plain (seen_core h (variants.Const w)) ≡ plain (cores.Const (object_of h w))
  plain_const w = ap plain (seen_const h w)

  pub plain_if : (a b c : Core) → plain (seen_core h (views.If a b c)) ≡ no_index
  plain_if a b c = ap plain (seen_if h a b c)

  pub plain_let : (bs : List (SymId × Core)) (b : Core) → plain (seen_core h (views.Let bs b)) ≡ no_index
  plain_let bs b = ap plain (seen_let h bs b)

  pub plain_mv : (parts : List Core) → plain (seen_core h (views.Mv parts)) ≡ no_index
  plain_mv parts = ap plain (seen_mv h parts)

  pub plain_mv_let : (names : List SymId) (a b : Core) → plain (seen_core h (views.MvLet names a b)) ≡ no_index
  plain_mv_let names a b = ap plain (seen_mv_let h names a b)

  pub plain_stobj_let : (bs : List (SymId × Core)) (vars : List SymId) (p c : Core) → plain (seen_core h (views.StobjLet bs vars p c)) ≡ no_index
  plain_stobj_let bs vars p c = ap plain (seen_stobj_let h bs vars p c)

  pub plain_with_local : (stobj : SymId) (names : List SymId) (a b : Core) → plain (seen_core h (views.WithLocal stobj names a b)) ≡ no_index
  plain_with_local stobj names a b = ap plain (seen_with_local h stobj names a b)

  pub plain_must_be_equal : (a b : Core) → plain (seen_core h (views.MustBeEqual a b)) ≡ no_index
  plain_must_be_equal a b = ap plain (seen_must_be_equal h a b)

  pub plain_call : (f : SymId) (parts : List Core) → plain (seen_core h (views.Call f parts)) ≡ no_index
  plain_call f parts = ap plain (seen_call h f parts)

  -- ---- as a call of an accessor

  abbrev plainly : cores.Core → Option cores.Reached
  plainly f = option_map plain_reached (reached f)

  pub reached_var : (x : SymId) → option_map plain_reached (reached (seen_core h (variants.Var x))) ≡ None
  reached_var x = ap plainly (seen_var h x)

  pub reached_const : (w : Word) → option_map plain_reached (reached (seen_core h (variants.Const w))) ≡ None
  reached_const w = ap plainly (seen_const h w)

  pub reached_if : (a b c : Core) → option_map plain_reached (reached (seen_core h (views.If a b c))) ≡ None
  reached_if a b c = ap plainly (seen_if h a b c)

  pub reached_let : (bs : List (SymId × Core)) (b : Core) → option_map plain_reached (reached (seen_core h (views.Let bs b))) ≡ None
  reached_let bs b = ap plainly (seen_let h bs b)

  pub reached_mv : (parts : List Core) → option_map plain_reached (reached (seen_core h (views.Mv parts))) ≡ None
  reached_mv parts = ap plainly (seen_mv h parts)

  pub reached_mv_let : (names : List SymId) (a b : Core) → option_map plain_reached (reached (seen_core h (views.MvLet names a b))) ≡ None
  reached_mv_let names a b = ap plainly (seen_mv_let h names a b)

  pub reached_stobj_let : (bs : List (SymId × Core)) (vars : List SymId) (p c : Core) → option_map plain_reached (reached (seen_core h (views.StobjLet bs vars p c))) ≡ None
  reached_stobj_let bs vars p c = ap plainly (seen_stobj_let h bs vars p c)

  pub reached_with_local : (stobj : SymId) (names : List SymId) (a b : Core) → option_map plain_reached (reached (seen_core h (views.WithLocal stobj names a b))) ≡ None
  reached_with_local stobj names a b = ap plainly (seen_with_local h stobj names a b)

  pub reached_must_be_equal : (a b : Core) → option_map plain_reached (reached (seen_core h (views.MustBeEqual a b))) ≡ None
  reached_must_be_equal a b = ap plainly (seen_must_be_equal h a b)

  pub reached_call : (f : SymId) (parts : List Core)
      → option_map plain_reached (reached (seen_core h (views.Call f parts))) ≡ option_map plain_reached (reached_by f.0 (cores.cores (seen_cores h parts)))
  reached_call f parts = ap plainly (seen_call h f parts)

-- ---- the actuals of an accessor

plain_from : (f : ℕ) (i : Option cores.Core) (p : cores.Core) → option_map plain_reached (reached_from f i p) ≡ reached_from f (option_map plain i) p
plain_from f i p = go (cores.variable p)
  where
    go : (v : Option ℕ)
        → option_map plain_reached (option_map (λ p. record { accessor = f; index = i; parent = p }) v) ≡ option_map (λ p. record { accessor = f; index = option_map plain i; parent = p }) v
    go None = refl
    go (Some x) = refl

module _ (h : Objects) (f : ℕ) where
  pub reached_one : (parts : List Core) (d : Core) → length parts ≡ 1
      → option_map plain_reached (reached_by f (cores.cores (seen_cores h parts))) ≡ reached_from f None (seen_core h (get_or parts 0 d))
  reached_one [] d l = absurd (omega (arith, l))
  reached_one (p ∷ []) d l = plain_from f None (seen_core h p)
  reached_one (p ∷ q ∷ rest) d l = absurd (omega (arith, l))

  pub reached_two : (parts : List Core) (d e : Core) → length parts ≡ 2
      → option_map plain_reached (reached_by f (cores.cores (seen_cores h parts))) ≡ reached_from f (Some (plain (seen_core h (get_or parts 0 d)))) (seen_core h (get_or parts 1 e))
  reached_two [] d e l = absurd (omega (arith, l))
  reached_two (p ∷ []) d e l = absurd (omega (arith, l))
  reached_two (i ∷ p ∷ []) d e l = plain_from f (Some (seen_core h i)) (seen_core h p)
  reached_two (p ∷ q ∷ r ∷ rest) d e l = absurd (omega (arith, l))

  pub reached_other : (parts : List Core) → length parts ≢ 1 → length parts ≢ 2 → option_map plain_reached (reached_by f (cores.cores (seen_cores h parts))) ≡ None
  reached_other [] l m = refl
  reached_other (p ∷ []) l m = absurd (l refl)
  reached_other (p ∷ q ∷ []) l m = absurd (m refl)
  reached_other (p ∷ q ∷ r ∷ rest) l m = refl

-- ---- children

takes_plainly : (k : HeldStobjs) (i : Option cores.Core) → takes_index k (option_map plain i) ≡ takes_index k i
takes_plainly (One x) None = refl
takes_plainly (One x) (Some i) = refl
takes_plainly (Many x) None = refl
takes_plainly (Many x) (Some i) = refl

child_plainly : (x : ℕ) (r : cores.Reached) (a : ChildAccessor) → bound_child_by x (plain_reached r) a ≡ option_map plain_child (bound_child_by x r a)
child_plainly x r a =
    ap (λ t. if t then Some (plain_child (record { name = x; accessor = a; index = r.index; parent = r.parent })) else None) (takes_plainly a.holds r.index) ∙ go (takes_index a.holds r.index)
  where
    go : (t : Bool) → (if t then Some (plain_child (record { name = x; accessor = a; index = r.index; parent = r.parent })) else None)
        ≡ option_map plain_child (if t then Some (record { name = x; accessor = a; index = r.index; parent = r.parent }) else None)
    go true = refl
    go false = refl

module _ (w : worlds.World) (x : ℕ) where
  abbrev after : Option cores.Reached → Option nested.BoundChild
  after o = option_and_then (λ r. option_and_then (bound_child_by x r) (child_accessor w r.accessor)) o

  after_plain : (o : Option cores.Reached) → after (option_map plain_reached o) ≡ option_map plain_child (after o)
  after_plain None = refl
  after_plain (Some r) = go (child_accessor w r.accessor)
    where
      go : (o : Option ChildAccessor) → option_and_then (bound_child_by x (plain_reached r)) o ≡ option_map plain_child (option_and_then (bound_child_by x r) o)
      go None = refl
      go (Some a) = child_plainly x r a

  module _ (f : cores.Core) where
    pub child_unreached : None ≡ option_map plain_reached (reached f) → option_map plain_child (bound_child w x f) ≡ None
    child_unreached n = sym (after_plain (reached f)) ∙ ap after (sym n)

    pub child_apart : (r : cores.Reached) → Some r ≡ option_map plain_reached (reached f) → None ≡ child_accessor w r.accessor → option_map plain_child (bound_child w x f) ≡ None
    child_apart r n a = sym (after_plain (reached f)) ∙ (ap after (sym n) ∙ ap (λ o. option_and_then (bound_child_by x r) o) (sym a))

    pub child_there : (r : cores.Reached) (a : ChildAccessor) → Some r ≡ option_map plain_reached (reached f) → Some a ≡ child_accessor w r.accessor
        → option_map plain_child (bound_child w x f) ≡ bound_child_by x r a
    child_there r a n e = sym (after_plain (reached f)) ∙ (ap after (sym n) ∙ ap (λ o. option_and_then (bound_child_by x r) o) (sym e))

-- ---- all bindings

with_plain : (b : Option nested.BoundChild) (bs : Option (List nested.BoundChild)) → plain_children (with_bound_child b bs) ≡ with_bound_child (option_map plain_child b) (plain_children bs)
with_plain None bs = refl
with_plain (Some b) None = refl
with_plain (Some b) (Some bs) = refl

found_nothing : (o : Option (List nested.BoundChild)) → o ≡ found_then [] o
found_nothing None = refl
found_nothing (Some bs) = refl

found_one : (found : List nested.BoundChild) (b : nested.BoundChild) (rest : Option (List nested.BoundChild)) → found_then found (with_bound_child (Some b) rest) ≡ found_then (found ++ b ∷ []) rest
found_one found b None = refl
found_one found b (Some bs) = ap Some (sym (append_assoc found (b ∷ []) bs))

-- what is found once i are gone through, and what is left
pub record FoundSoFar (all : Option (List nested.BoundChild)) (w : worlds.World) (h : Objects) (bs : List (SymId × Core)) (i : ℕ) (found : List nested.BoundChild) : Type 0 where
  pub is : all ≡ found_then found (plain_children (bound_children w (bound_names (drop i bs)) (cores.cores (seen_bound h (drop i bs)))))

module _ (w : worlds.World) (h : Objects) (bs : List (SymId × Core)) where
  pub found_start : FoundSoFar (plain_children (bound_children w (bound_names bs) (cores.cores (seen_bound h bs)))) w h bs 0 []
  found_start = record { is = found_nothing (plain_children (bound_children w (bound_names bs) (cores.cores (seen_bound h bs)))) }

  module _ (all : Option (List nested.BoundChild)) (i : ℕ) (found : List nested.BoundChild) (s : FoundSoFar all w h bs i found) where
    pub found_end : length bs ≤ i → all ≡ Some found
    found_end l = s.is ∙ rw (drop_of_length-le bs l) (ap Some (append-nil found))

    abbrev rest : Option (List nested.BoundChild)
    rest = plain_children (bound_children w (bound_names (drop (i + 1) bs)) (cores.cores (seen_bound h (drop (i + 1) bs))))

    on : (d : SymId × Core) → i < length bs
        → all ≡ found_then found (with_bound_child (option_map plain_child (bound_child w (get_or bs i d).0.0 (seen_core h (get_or bs i d).1))) rest)
    on d l =
        s.is ∙ (ap (λ xs. found_then found (plain_children (bound_children w (bound_names xs) (cores.cores (seen_bound h xs))))) (left_at bs i d l)
        ∙ ap (found_then found) (with_plain (bound_child w (get_or bs i d).0.0 (seen_core h (get_or bs i d).1)) (bound_children w (bound_names (drop (i + 1) bs)) (cores.cores (seen_bound h (drop (i + 1) bs))))))

    pub found_step : (d : SymId × Core) (b : nested.BoundChild) → i < length bs → Some b ≡ option_map plain_child (bound_child w (get_or bs i d).0.0 (seen_core h (get_or bs i d).1))
        → FoundSoFar all w h bs (i + 1) (found ++ b ∷ [])
    found_step d b l n = record { is = on d l ∙ (ap (λ o. found_then found (with_bound_child o rest)) (sym n) ∙ found_one found b rest) }

    pub found_none : (d : SymId × Core) → i < length bs → None ≡ option_map plain_child (bound_child w (get_or bs i d).0.0 (seen_core h (get_or bs i d).1)) → all ≡ None
    found_none d l n = on d l ∙ ap (λ o. found_then found (with_bound_child o rest)) (sym n)
