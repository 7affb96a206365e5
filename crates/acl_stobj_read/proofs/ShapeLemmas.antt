-- The shapes of fields.
use Rattle.std.specs.Prelude.{◌≡◌, ℕ, ℤ, pos, neg_ℤ, ◌≤◌, ◌<◌, ◌<ℤ◌, List, [], ◌∷◌, Bool, true, false, nat_le, nat_eq, Option, Some, None, is_some, option_map, option_and_then, unwrap_or, if◌then◌else◌, refl}
use Rattle.std.proofs.Common.{sym, ap, ◌∙◌, arith}
use Rattle.std.proofs.lemmas.Bool.Decides.{nat_tests}
use Rattle.model_objects.specs.Object.{Object, Integer, Symbol, Text, Pair}
use Rattle.model_terms.specs.Worlds.{World, Shape, Scalar, Array, Hash, Child, Children, definition}
use Rattle.model_lists.specs.Types.{ValueType}
use Rattle.model_lists.specs.Effects.{most_elements}
use Rattle.model_expansion.specs.Forms.{elements}
use Rattle.model_expansion.specs.Layers.{is_none}
use Rattle.model_expansion.specs.TypeTerms.{accepted_type}
use Rattle.model_stobjs.specs.Descriptors.{WrittenField, natural_in, constant_in, length_of, length_in, up_to, most_children, nested_stobj, initial_value, array_shape, listed_shape, other_shape, shape_of}
use Rattle.acl_stobj_read.specs.Lists.{two_or_three}
use Rattle.acl_stobj_read.specs.Shapes.{only}

pub none_given : {A : Type 0} (y : Option A) → is_some y ≡ false → y ≡ None
none_given None e = refl
none_given (Some x) e = cc

-- ---- numbers

pub natural_is : (o : Object ℕ) (n : ℤ) (k most : ℕ) → o ≡ Integer n → n ≡ pos k → k ≤ most → option_and_then (up_to most) (natural_in o) ≡ Some k
natural_is o n k most e f l = let t : nat_le k most ≡ true = grind (arith, nat_tests) in rw (e, f, t) refl

pub too_great : (o : Object ℕ) (n : ℤ) (most : ℕ) → o ≡ Integer n → pos most <ℤ n → option_and_then (up_to most) (natural_in o) ≡ None
too_great o (pos k) most e l = let t : nat_le k most ≡ false = grind (arith, nat_tests) in rw (e, t) refl
too_great o n most e l = absurd (omega arith)

module _ (w : World) (most : ℕ) where
  pub named_none : (o : Object ℕ) (s : ℕ) → o ≡ Symbol s → constant_in (definition w s) ≡ None → option_and_then (up_to most) (length_of w o) ≡ None
  named_none o s e f = rw (e, f) refl

  pub named_some : (o v : Object ℕ) (s : ℕ) (r : Option ℕ) → o ≡ Symbol s → constant_in (definition w s) ≡ Some v → option_and_then (up_to most) (natural_in v) ≡ r → option_and_then (up_to most) (length_of w o) ≡ r
  named_some o v s r e f g = rw (e, f) g

  pub named_other : (o : Object ℕ) (n : ℤ) (r : Option ℕ) → o ≡ Integer n → option_and_then (up_to most) (natural_in o) ≡ r → option_and_then (up_to most) (length_of w o) ≡ r
  named_other o n r e f = rw e (rw e at f)

-- ---- a list of one

pub no_list : (es : Option (List (Object ℕ))) → es ≡ None → option_and_then only es ≡ None
no_list es e = rw e refl

pub empty : (es : Option (List (Object ℕ))) (os : List (Object ℕ)) → es ≡ Some os → os ≡ [] → option_and_then only es ≡ None
empty es os e f = rw (e, f) refl

pub one : (es : Option (List (Object ℕ))) (os rest : List (Object ℕ)) (a : Object ℕ) → es ≡ Some os → os ≡ a ∷ rest → is_none [] rest ≡ true → option_and_then only es ≡ Some a
one es os rest a e f n = rw (e, f) (by rest n)
  where
    by : (xs : List (Object ℕ)) → is_none [] xs ≡ true → only (a ∷ xs) ≡ Some a
    by [] n = refl
    by (x ∷ xs) n = cc

pub more : (es : Option (List (Object ℕ))) (os rest : List (Object ℕ)) (a : Object ℕ) → es ≡ Some os → os ≡ a ∷ rest → is_none [] rest ≡ false → option_and_then only es ≡ None
more es os rest a e f n = rw (e, f) (by rest n)
  where
    by : (xs : List (Object ℕ)) → is_none [] xs ≡ false → only (a ∷ xs) ≡ None
    by [] n = cc
    by (x ∷ xs) n = refl

only_length : (w : World) (os : List (Object ℕ)) → length_in w os ≡ option_and_then (length_of w) (only os)
only_length w [] = refl
only_length w (a ∷ []) = refl
only_length w (a ∷ (b ∷ os)) = refl

length_by : (w : World) (es : Option (List (Object ℕ))) → option_and_then (length_in w) es ≡ option_and_then (length_of w) (option_and_then only es)
length_by w None = refl
length_by w (Some os) = only_length w os

pub length_none : (w : World) (most : ℕ) (es : Option (List (Object ℕ))) → option_and_then only es ≡ None → option_and_then (up_to most) (option_and_then (length_in w) es) ≡ None
length_none w most es e = ap (option_and_then (up_to most)) (length_by w es) ∙ rw e refl

pub length_some : (w : World) (most : ℕ) (es : Option (List (Object ℕ))) (n : Object ℕ) (r : Option ℕ) → option_and_then only es ≡ Some n → option_and_then (up_to most) (length_of w n) ≡ r
    → option_and_then (up_to most) (option_and_then (length_in w) es) ≡ r
length_some w most es n r e f = ap (option_and_then (up_to most)) (length_by w es) ∙ rw e f

-- ---- arrays

module _ (w : World) (f : WrittenField) where
  with_type : (t : Option (ValueType ℕ)) (o : Object ℕ) (n : Option ℕ) (i : Object ℕ) (k : ℕ) → is_some t ≡ true → i ≡ initial_value w f → option_and_then (up_to most_elements) n ≡ Some k
      → array_shape w f o t n ≡ Some (Array o i k f.resizable)
  with_type None o n i k e g l = cc
  with_type (Some t) o n i k e g l = rw (l, g) refl

  pub array_some : (o : Object ℕ) (n : Option ℕ) (i : Object ℕ) (k : ℕ) → is_some (accepted_type o) ≡ true → i ≡ unwrap_or f.initial (Symbol 1) → option_and_then (up_to most_elements) n ≡ Some k
      → array_shape w f o (accepted_type o) n ≡ Some (Array o i k f.resizable)
  array_some o n i k e g l = with_type (accepted_type o) o n i k e g l

  without_length : (t : Option (ValueType ℕ)) (o : Object ℕ) (n : Option ℕ) → is_some t ≡ true → option_and_then (up_to most_elements) n ≡ None → array_shape w f o t n ≡ None
  without_length None o n e l = cc
  without_length (Some t) o n e l = rw l refl

  pub array_none : (o : Object ℕ) (n : Option ℕ) → is_some (accepted_type o) ≡ true → option_and_then (up_to most_elements) n ≡ None → array_shape w f o (accepted_type o) n ≡ None
  array_none o n e l = without_length (accepted_type o) o n e l

  pub children_resizable : (o : Object ℕ) (n : Option ℕ) → is_some (accepted_type o) ≡ false → f.resizable ≡ true → array_shape w f o (accepted_type o) n ≡ None
  children_resizable o n e r = rw (none_given (accepted_type o) e, r) refl

  pub children_unknown : (o : Object ℕ) (n : Option ℕ) → is_some (accepted_type o) ≡ false → f.resizable ≡ false → nested_stobj w f o ≡ None → array_shape w f o (accepted_type o) n ≡ None
  children_unknown o n e r g = rw (none_given (accepted_type o) e, r, g) refl

  pub children_long : (o : Object ℕ) (n : Option ℕ) (x : ℕ) → is_some (accepted_type o) ≡ false → f.resizable ≡ false → nested_stobj w f o ≡ Some x → option_and_then (up_to most_children) n ≡ None
      → array_shape w f o (accepted_type o) n ≡ None
  children_long o n x e r g l = rw (none_given (accepted_type o) e, r, g, l) refl

  pub children_are : (o : Object ℕ) (n : Option ℕ) (x k : ℕ) → is_some (accepted_type o) ≡ false → f.resizable ≡ false → nested_stobj w f o ≡ Some x → option_and_then (up_to most_children) n ≡ Some k
      → array_shape w f o (accepted_type o) n ≡ Some (Children x k)
  children_are o n x k e r g l = rw (none_given (accepted_type o) e, r, g, l) refl

  -- ---- other types

  in_none : (os : List (Object ℕ)) → two_or_three os ≡ None → listed_shape w f os ≡ None
  in_none [] e = refl
  in_none (a ∷ []) e = refl
  in_none (a ∷ (b ∷ [])) e = cc
  in_none (a ∷ (b ∷ (c ∷ []))) e = cc
  in_none (a ∷ (b ∷ (c ∷ (d ∷ os)))) e = refl

  any_none : (es : Option (List (Object ℕ))) → option_and_then two_or_three es ≡ None → option_and_then (listed_shape w f) es ≡ None
  any_none None e = refl
  any_none (Some os) e = in_none os e

  pub not_listed : (o a d : Object ℕ) → o ≡ Pair a d → option_and_then two_or_three (elements o) ≡ None → other_shape w f o ≡ None
  not_listed o a d e n = rw e (any_none (elements (Pair a d)) (rw e at n))

  pub listed : (o a d : Object ℕ) (os : List (Object ℕ)) → o ≡ Pair a d → elements o ≡ Some os → other_shape w f o ≡ listed_shape w f os
  listed o a d os e n = let m : elements (Pair a d) ≡ Some os = rw e at n in rw (e, m) refl

  pub child_resizable : (o : Object ℕ) (s : ℕ) → o ≡ Symbol s → f.resizable ≡ true → other_shape w f o ≡ None
  child_resizable o s e r = rw (e, r) refl

  pub child_unknown : (o : Object ℕ) (s : ℕ) → o ≡ Symbol s → f.resizable ≡ false → nested_stobj w f (Symbol s) ≡ None → other_shape w f o ≡ None
  child_unknown o s e r g = rw (e, r, g) refl

  pub child_is : (o : Object ℕ) (s x : ℕ) → o ≡ Symbol s → f.resizable ≡ false → nested_stobj w f (Symbol s) ≡ Some x → other_shape w f o ≡ Some (Child x)
  child_is o s x e r g = rw (e, r, g) refl

  -- ---- all

  typed : (t : Option (ValueType ℕ)) → accepted_type f.type ≡ t → is_some t ≡ true → shape_of w f ≡ (if f.resizable then None else Some (Scalar f.type (initial_value w f)))
  unfolding shape_of
  typed None e g = cc
  typed (Some t) e g = rw e refl

  pub scalar_resizable : is_some (accepted_type f.type) ≡ true → f.resizable ≡ true → shape_of w f ≡ None
  scalar_resizable e r = typed (accepted_type f.type) refl e ∙ rw r refl

  pub scalar_is : (i : Object ℕ) → is_some (accepted_type f.type) ≡ true → f.resizable ≡ false → i ≡ unwrap_or f.initial (Symbol 1) → shape_of w f ≡ Some (Scalar f.type i)
  scalar_is i e r g = typed (accepted_type f.type) refl e ∙ rw (r, g) refl

  pub other_is : is_some (accepted_type f.type) ≡ false → shape_of w f ≡ other_shape w f f.type
  unfolding shape_of
  other_is e = rw (none_given (accepted_type f.type) e) refl
