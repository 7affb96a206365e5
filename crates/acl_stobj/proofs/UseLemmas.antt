-- Names that are in use.
use Rattle.std.specs.Prelude.{◌≡◌, ℕ, List, [], ◌∷◌, ◌++◌, length, map, Bool, true, false, ◌||◌, nat_eq, cond, Option, Some, None, is_some, option_map, refl}
use Rattle.std.specs.HashSet.{HashSet, contains, Updates, IsEmpty}
use Rattle.std.specs.List.{list_any}
use Rattle.std.proofs.Common.{sym, ap, ◌∙◌, append_assoc, arith}
use Rattle.std.proofs.lemmas.Bool.Decides.{nat_tests}
use Rattle.std.proofs.lemmas.List.{map-append}
use Rattle.model_terms.specs.Worlds.{World, definition}
use Rattle.model_terms.specs.Classes.{has}
use Rattle.model_expansion.specs.Faults.{Refusal, NameInUse}
use Rattle.model_stobjs.specs.Heads.{is_reserved, is_in_use, name_in_use}
use Rattle.acl_base.specs.declared.SymId.{SymId}
use Rattle.acl_terms.specs.Forms.{numbers}
use Rattle.acl_stobj.specs.Uses.{HasNames, IsLooked}

-- ---- heads

pub head_there : (h s : ℕ) (rest others : List ℕ) → rest ≡ h ∷ others → s ≡ h → has rest s ≡ true
head_there h s rest others e f = let t : nat_eq s h ≡ true = grind (arith, nat_tests) in rw (e, t) refl

pub head_other : (h s : ℕ) (rest others : List ℕ) → rest ≡ h ∷ others → nat_eq s h ≡ false → has rest s ≡ has others s
head_other h s rest others e f = rw (e, f) refl

pub head_end : (s : ℕ) (rest : List ℕ) → rest ≡ [] → has rest s ≡ false
head_end s rest e = rw e refl

-- ---- one name

module _ (w : World) where
  pub defined : (others : List ℕ) (s : ℕ) → is_some (definition w s) ≡ true → is_in_use w others s ≡ true
  defined others s e = rw e refl

  pub reserved : (others : List ℕ) (s : ℕ) → is_some (definition w s) ≡ false → is_reserved s ≡ true → is_in_use w others s ≡ true
  reserved others s e f = rw (e, f) refl

  pub comes_again : {S : Type 0} (later : HashSet ℕ S) (others : List ℕ) (s : ℕ) → is_some (definition w s) ≡ false → is_reserved s ≡ false → HasNames later others → contains nat_eq later s ≡ is_in_use w others s
  comes_again later others s e f h = rw (e, f) (h.each s)

  pub this_used : (others : List ℕ) (s : ℕ) → is_in_use w others s ≡ true → name_in_use w (s ∷ others) ≡ Some (NameInUse s)
  unfolding name_in_use
  this_used others s e = rw e refl

  pub this_unused : (others : List ℕ) (s : ℕ) (r : Option Refusal) → is_in_use w others s ≡ false → name_in_use w others ≡ r → name_in_use w (s ∷ others) ≡ r
  unfolding name_in_use
  this_unused others s r e f = rw e f

  no_names : name_in_use w [] ≡ None
  unfolding name_in_use
  no_names = refl

  -- ---- all of them, from the last on

  module _ {S : Type 0} where
    pub looks : (all : List SymId) (later : HashSet ℕ S) → IsEmpty later → IsLooked w all all later None
    looks all later e = record { done = []; whole = append_nil (numbers all); names = record { each = λ x. rw e refl }; is = no_names }
      where
        append_nil : (xs : List ℕ) → xs ++ [] ≡ xs
        append_nil [] = refl
        append_nil (x ∷ xs) = ap (λ ys. x ∷ ys) (append_nil xs)

    pub looked : (all rest before : List SymId) (later new : HashSet ℕ S) (found this : Option SymId) (s : SymId) → IsLooked w all rest later found → rest ≡ before ++ s ∷ []
        → ((others : List ℕ) → HasNames later others → name_in_use w others ≡ option_map (λ x. NameInUse x.0) found → name_in_use w (s.0 ∷ others) ≡ option_map (λ x. NameInUse x.0) this)
        → Updates nat_eq later new s.0 true → IsLooked w all before new this
    looked all rest before later new found this s g e step u = record {
      done = s.0 ∷ g.done;
      whole = sym (append_assoc (numbers before) (s.0 ∷ []) g.done) ∙ (ap (λ xs. xs ++ g.done) (sym (ap numbers e ∙ map-append (λ (x : SymId). x.0) before (s ∷ []))) ∙ g.whole);
      names = record { each = λ x. by x (nat_eq s.0 x) refl };
      is = step g.done g.names g.is;
    }
      where
        by : (x : ℕ) (b : Bool) → nat_eq s.0 x ≡ b → contains nat_eq new x ≡ has (s.0 ∷ g.done) x
        by x true t = let t' : nat_eq x s.0 ≡ true = grind (arith, nat_tests) in u.0 x ∙ rw (t, t') refl
        by x false t = let t' : nat_eq x s.0 ≡ false = grind (arith, nat_tests) in u.0 x ∙ rw (t, t') (g.names.each x)

    pub all_looked : (all rest : List SymId) (later : HashSet ℕ S) (found : Option SymId) → IsLooked w all rest later found → length rest ≡ 0 → name_in_use w (numbers all) ≡ option_map (λ x. NameInUse x.0) found
    all_looked all [] later found g e = ap (name_in_use w) (sym g.whole) ∙ g.is
    all_looked all (x ∷ rest) later found g e = absurd (omega (arith, e))
