-- What the tests of parts say of an object, where a join of them is not too deep.
use Rattle.std.specs.Prelude.{◌≡◌, ℕ, zero, suc, ◌-◌, ◌<◌, Bool, true, false, not, ◌&&◌, Option, Some, None, option_map, is_some, refl}
use Rattle.std.proofs.Common.{sym, ap, ◌∙◌, arith}
use Rattle.model_objects.specs.Object.{Object}
use Rattle.model_terms.specs.Cores.{Core}
use Rattle.model_expansion.specs.TypeTerms.{not_core, joined_tests, accepted_type}
use Rattle.acl_types.specs.declared.shape.Join.{Join}
use Rattle.acl_types.specs.declared.shape.Join.TheVariants as join
use Rattle.acl_types.specs.Shapes.{type_in, tested, within, join_test}
use Rattle.acl_types.proofs.DepthLemmas.{within_none, within_other, within_joined, is_other, is_joined, accepted}
use Rattle.acl_meets.specs.Tests.{holds, shown, decides}

-- a test that is within a depth
abbrev pub Fits : ℕ → Option Core → Type 0
Fits n t = is_some (within n t) ≡ true

pub some_left : (n : ℕ) (t : Option Core) → is_some (within n t) ≡ true → 0 < n
some_left zero t e = let g = within_none t in cc
some_left (suc n) t e = omega arith

and_first : (a b : Bool) → (a && b) ≡ true → a ≡ true
and_first true b e = refl
and_first false b e = e

and_second : (a b : Bool) → (a && b) ≡ true → b ≡ true
and_second true b e = e
and_second false b e = cc

pub other_fits : (n : ℕ) (t : Option Core) → is_some (within n (option_map not_core t)) ≡ true → is_some (within (n - 1) t) ≡ true
other_fits n t e = sym (is_other (within (n - 1) t)) ∙ (ap is_some (sym (within_other n t (some_left n _ e))) ∙ e)

both_fit : (n : ℕ) (j : Join) (s t : Option Core) → is_some (within n (joined_tests (join_test j) s t)) ≡ true
    → (is_some (within (n - 1) s) && is_some (within (n - 1) t)) ≡ true
both_fit n j s t e = sym (is_joined j (within (n - 1) s) (within (n - 1) t)) ∙ (ap is_some (sym (within_joined n j s t (some_left n _ e))) ∙ e)

pub first_fits : (n : ℕ) (j : Join) (s t : Option Core) → is_some (within n (joined_tests (join_test j) s t)) ≡ true → is_some (within (n - 1) s) ≡ true
first_fits n j s t e = and_first _ _ (both_fit n j s t e)

pub rest_fits : (n : ℕ) (j : Join) (s t : Option Core) → is_some (within n (joined_tests (join_test j) s t)) ≡ true → is_some (within (n - 1) t) ≡ true
rest_fits n j s t e = and_second _ _ (both_fit n j s t e)

-- ---- what a join says

pub other_shown : (n : ℕ) (t : Option Core) (x : Object ℕ) → is_some (within n t) ≡ true → shown (option_map not_core t) x ≡ not (shown t x)
other_shown n None x e = cc
other_shown n (Some f) x e = refl

core_decides : (j : Join) (f g : Core) (x : Object ℕ) (b : Bool) → holds f x ≡ b → decides j b ≡ true → holds (join_test j f g) x ≡ b
core_decides join.Either f g x true e d = rw e refl
core_decides join.Either f g x false e d = cc
core_decides join.Both f g x true e d = cc
core_decides join.Both f g x false e d = rw e refl

core_goes_on : (j : Join) (f g : Core) (x : Object ℕ) (b : Bool) → holds f x ≡ b → decides j b ≡ false → holds (join_test j f g) x ≡ holds g x
core_goes_on join.Either f g x true e d = cc
core_goes_on join.Either f g x false e d = rw e refl
core_goes_on join.Both f g x true e d = rw e refl
core_goes_on join.Both f g x false e d = cc

pub first_decides : (m n : ℕ) (j : Join) (s t : Option Core) (x : Object ℕ) (b : Bool) → is_some (within m s) ≡ true → is_some (within n t) ≡ true
    → b ≡ shown s x → decides j b ≡ true → b ≡ shown (joined_tests (join_test j) s t) x
first_decides m n j None t x b h i e d = cc
first_decides m n j (Some f) None x b h i e d = cc
first_decides m n j (Some f) (Some g) x b h i e d = sym (core_decides j f g x b (sym e) d)

pub rest_decides : (m n : ℕ) (j : Join) (s t : Option Core) (x : Object ℕ) (b c : Bool) → is_some (within m s) ≡ true → is_some (within n t) ≡ true
    → b ≡ shown s x → decides j b ≡ false → c ≡ shown t x → c ≡ shown (joined_tests (join_test j) s t) x
rest_decides m n j None t x b c h i e d f = cc
rest_decides m n j (Some f) None x b c h i e d k = cc
rest_decides m n j (Some f) (Some g) x b c h i e d k = k ∙ sym (core_goes_on j f g x b (sym e) d)

pub accepted_fits : (o : Object ℕ) → is_some (accepted_type o) ≡ true → is_some (within 200 (tested 0 (type_in o))) ≡ true
accepted_fits o e = accepted o ∙ e

pub other_is : (n : ℕ) (s t : Option Core) (x : Object ℕ) (b : Bool) → is_some (within n (option_map not_core t)) ≡ true → s ≡ t → b ≡ shown s x
    → not b ≡ shown (option_map not_core t) x
other_is n s t x b h e f = ap not f ∙ (ap (λ u. not (shown u x)) e ∙ sym (other_shown (n - 1) t x (other_fits n t h)))
