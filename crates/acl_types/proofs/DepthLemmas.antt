-- How deep tests are.
use Rattle.std.specs.Prelude.{◌≡◌, ℕ, zero, suc, ◌+◌, ◌-◌, ◌≤◌, ◌<◌, List, [], ◌∷◌, max, ℤ, Bool, true, false, ◌&&◌, nat_le, Option, Some, None, option_map, option_and_then, is_some, refl, if◌then◌else◌}
use Rattle.std.proofs.Common.{sym, ap, ◌∙◌, subst, arith}
use Rattle.std.proofs.lemmas.Bool.Decides.{nat_tests}
use Rattle.model_objects.specs.Object.{Object}
use Rattle.model_lists.specs.Types.{ValueType, Anything, Nothing, Integers, Recognized, OneOf, Either, Both, Other}
use Rattle.model_terms.specs.Cores.{Core, Var, Const, If, Let, Mv, MvLet, StobjLet, WithLocal, MustBeEqual, Call}
use Rattle.model_expansion.specs.TypeTerms.{not_core, range_test, test_of, depth_of, joined_tests, either_test, both_test, is_nothing, is_anything, accepted_type, not_too_deep, type_term}
use Rattle.acl_types.specs.declared.shape.Join.{Join}
use Rattle.acl_types.specs.declared.shape.Join.TheVariants as join
use Rattle.acl_types.specs.Shapes.{type_in, joined_in, tested, within, join_test}

pub some_depth : (f : Core) → 1 ≤ depth_of f
some_depth (Var x) = omega arith
some_depth (Const o) = omega arith
some_depth (If a b c) = omega arith
some_depth (Let names bound body) = omega arith
some_depth (Mv parts) = omega arith
some_depth (MvLet names bound body) = omega arith
some_depth (StobjLet names bound vars producer consumer) = omega arith
some_depth (WithLocal stobj names producer body) = omega arith
some_depth (MustBeEqual logic exec) = omega arith
some_depth (Call f actuals) = omega arith

pub within_none : (t : Option Core) → within 0 t ≡ None
within_none None = refl
within_none (Some f) = let d = some_depth f in grind (arith, nat_tests)

-- ---- of parts

within_not : (n : ℕ) (f : Core) → 0 < n → within n (Some (not_core f)) ≡ option_map not_core (within (n - 1) (Some f))
within_not n f l = by (nat_le (depth_of f) (n - 1)) refl
  where
    by : (b : Bool) → nat_le (depth_of f) (n - 1) ≡ b → within n (Some (not_core f)) ≡ option_map not_core (within (n - 1) (Some f))
    by true e = let g : nat_le (depth_of (not_core f)) n ≡ true = grind (arith, nat_tests) in rw (e, g) refl
    by false e = let g : nat_le (depth_of (not_core f)) n ≡ false = grind (arith, nat_tests) in rw (e, g) refl

pub within_other : (n : ℕ) (t : Option Core) → 0 < n → within n (option_map not_core t) ≡ option_map not_core (within (n - 1) t)
within_other n None l = refl
within_other n (Some f) l = within_not n f l

join_depth : (j : Join) (a b : Core) → depth_of (join_test j a b) ≡ max (depth_of a) (depth_of b) + 1
join_depth join.Either a b = let x = some_depth a in let y = some_depth b in omega arith
join_depth join.Both a b = let x = some_depth a in let y = some_depth b in omega arith

within_two : (n : ℕ) (j : Join) (a b : Core) → 0 < n → within n (Some (join_test j a b)) ≡ joined_tests (join_test j) (within (n - 1) (Some a)) (within (n - 1) (Some b))
within_two n j a b l = by (nat_le (depth_of a) (n - 1)) refl (nat_le (depth_of b) (n - 1)) refl
  where
    by : (p : Bool) → nat_le (depth_of a) (n - 1) ≡ p → (q : Bool) → nat_le (depth_of b) (n - 1) ≡ q
        → within n (Some (join_test j a b)) ≡ joined_tests (join_test j) (within (n - 1) (Some a)) (within (n - 1) (Some b))
    by true e true f = let g : nat_le (depth_of (join_test j a b)) n ≡ true = (let d = join_depth j a b in grind (arith, nat_tests)) in rw (e, f, g) refl
    by true e false f = let g : nat_le (depth_of (join_test j a b)) n ≡ false = (let d = join_depth j a b in grind (arith, nat_tests)) in rw (e, f, g) refl
    by false e true f = let g : nat_le (depth_of (join_test j a b)) n ≡ false = (let d = join_depth j a b in grind (arith, nat_tests)) in rw (e, g) refl
    by false e false f = let g : nat_le (depth_of (join_test j a b)) n ≡ false = (let d = join_depth j a b in grind (arith, nat_tests)) in rw (e, g) refl

none_joined : (j : Join) (t : Option Core) → joined_tests (join_test j) t None ≡ None
none_joined j None = refl
none_joined j (Some f) = refl

pub within_joined : (n : ℕ) (j : Join) (s t : Option Core) → 0 < n
    → within n (joined_tests (join_test j) s t) ≡ joined_tests (join_test j) (within (n - 1) s) (within (n - 1) t)
within_joined n j None t l = refl
within_joined n j (Some a) None l = sym (none_joined j (within (n - 1) (Some a)))
within_joined n j (Some a) (Some b) l = within_two n j a b l

-- ---- whether there are tests

pub is_other : (t : Option Core) → is_some (option_map not_core t) ≡ is_some t
is_other None = refl
is_other (Some f) = refl

pub is_joined : (j : Join) (s t : Option Core) → is_some (joined_tests (join_test j) s t) ≡ (is_some s && is_some t)
is_joined j None t = refl
is_joined j (Some a) None = refl
is_joined j (Some a) (Some b) = refl

pub is_within : (n : ℕ) (f : Core) → is_some (within n (Some f)) ≡ nat_le (depth_of f) n
is_within n f = by (nat_le (depth_of f) n)
  where
    by : (b : Bool) → is_some (if b then Some f else None) ≡ b
    by true = refl
    by false = refl

-- ---- the type of an object

pub accepted : (o : Object ℕ) → is_some (within 200 (tested 0 (type_in o))) ≡ is_some (accepted_type o)
accepted o = go (type_in o)
  where
    by : (b : Bool) (t : ValueType ℕ) → is_some (if b then Some (test_of (Var 0) t) else None) ≡ is_some (if b then Some t else None)
    by true t = refl
    by false t = refl

    go : (t : Option (ValueType ℕ)) → is_some (within 200 (tested 0 t)) ≡ is_some (option_and_then not_too_deep t)
    go None = refl
    go (Some t) = by (nat_le (depth_of (test_of (Var 0) t)) 200) t

-- ---- over another variable the test is as deep

range_depth : (low high : Option ℤ) (x y : ℕ) → depth_of (range_test low high (Var x)) ≡ depth_of (range_test low high (Var y))
range_depth None None x y = refl
range_depth (Some low) None x y = refl
range_depth None (Some high) x y = refl
range_depth (Some low) (Some high) x y = refl

either_depth : (b : Bool) (f g f' g' : Core) → depth_of f ≡ depth_of f' → depth_of g ≡ depth_of g' → depth_of (either_test b f g) ≡ depth_of (either_test b f' g')
either_depth true f g f' g' d e = d
either_depth false f g f' g' d e = rw (d, e) refl

both_depth : (b : Bool) (f g f' g' : Core) → depth_of f ≡ depth_of f' → depth_of g ≡ depth_of g' → depth_of (both_test b f g) ≡ depth_of (both_test b f' g')
both_depth true f g f' g' d e = d
both_depth false f g f' g' d e = rw (d, e) refl

same_depth : (t : ValueType ℕ) (x y : ℕ) → depth_of (test_of (Var x) t) ≡ depth_of (test_of (Var y) t)
same_depth Anything x y = refl
same_depth Nothing x y = refl
same_depth (Integers low high) x y = range_depth low high x y
same_depth (Recognized r) x y = refl
same_depth (OneOf l) x y = refl
same_depth (Either a b) x y = either_depth (is_nothing b) _ _ _ _ (same_depth a x y) (same_depth b x y)
same_depth (Both a b) x y = both_depth (is_anything b) _ _ _ _ (same_depth a x y) (same_depth b x y)
same_depth (Other a) x y = rw (same_depth a x y) refl

pub type_test_is : (o : Object ℕ) (x : ℕ) → within 200 (tested x (type_in o)) ≡ type_term o (Var x)
type_test_is o x = go (type_in o)
  where
    by : (b : Bool) (t : ValueType ℕ) → (if b then Some (test_of (Var x) t) else None) ≡ option_map (test_of (Var x)) (if b then Some t else None)
    by true t = refl
    by false t = refl

    go : (t : Option (ValueType ℕ)) → within 200 (tested x t) ≡ option_map (test_of (Var x)) (option_and_then not_too_deep t)
    go None = refl
    go (Some t) = ap (λ n. if nat_le n 200 then Some (test_of (Var x) t) else None) (same_depth t x 0) ∙ by (nat_le (depth_of (test_of (Var 0) t)) 200) t

-- the join of two tests that were made one after the other
pub joined_made : (n x : ℕ) (j : Join) (a d d' : Object ℕ) (first later second s t : Option Core) (made : Option Core)
    → 0 < n → later ≡ first → first ≡ within (n - 1) s → s ≡ tested x (type_in a)
    → second ≡ within (n - 1) t → t ≡ tested x (joined_in j d') → d' ≡ d → made ≡ joined_tests (join_test j) later second
    → made ≡ within n (joined_tests (join_test j) (tested x (type_in a)) (tested x (joined_in j d)))
joined_made n x j a d d' first later second s t made l kept f is g it same m =
    m ∙ (rw (kept, f, is, g, it, same) (sym (within_joined n j (tested x (type_in a)) (tested x (joined_in j d)) l)))
