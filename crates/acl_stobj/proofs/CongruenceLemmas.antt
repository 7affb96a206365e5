-- Shapes that are the same, and the first place at which fields differ.
use Rattle.std.specs.Prelude.{◌≡◌, ℕ, ◌+◌, ◌≤◌, List, [], ◌∷◌, length, map, max, Bool, true, false, ◌&&◌, nat_eq, Option, Some, None, option_map, refl}
use Rattle.std.proofs.Common.{sym, ap, ◌∙◌, arith}
use Rattle.std.proofs.lemmas.Bool.Decides.{nat_tests}
use Rattle.model_terms.specs.Worlds as worlds
use Rattle.model_terms.specs.Accessors.{descriptor_of}
use Rattle.model_expansion.specs.Faults.{Refusal, CongruenceMismatch}
use Rattle.model_stobjs.specs.Descriptors.{same_shape, mismatch_from, mismatch}
use Rattle.acl_heap.specs.Objects.{Objects}
use Rattle.acl_terms.specs.Definitions.{seen_shape, shape_reach, seen_field, seen_descriptor}
use Rattle.acl_terms.specs.declared.stobj.FieldDescriptor.{FieldDescriptor}
use Rattle.acl_terms.specs.declared.stobj.Descriptor.{Descriptor}
use Rattle.acl_stobj.specs.MadeFields.{made_reach}

pub other_type : (a b : Bool) → false ≡ a → false ≡ (a && b)
other_type a b e = rw (sym e) refl

pub same_type : (a b c : Bool) → true ≡ a → c ≡ b → c ≡ (a && b)
same_type a b c e f = rw (sym e) f

pub other_array : (a b c : Bool) → false ≡ (a && b) → false ≡ (a && (b && c))
other_array true b c e = rw (sym e) refl
other_array false b c e = refl

pub other_length : (a b d : Bool) (m n : ℕ) → nat_eq m n ≡ false → false ≡ (a && (b && (nat_eq m n && d)))
other_length true true d m n e = rw e refl
other_length true false d m n e = refl
other_length false b d m n e = refl

pub same_array : (a b c d : Bool) (m n : ℕ) → true ≡ (a && b) → m ≡ n → c ≡ d → c ≡ (a && (b && (nat_eq m n && d)))
same_array true true c d m n e f g = let t : nat_eq m n ≡ true = grind (arith, nat_tests) in rw t g
same_array true false c d m n e f g = cc
same_array false b c d m n e f g = cc

-- ---- fields

module _ (h : Objects) where
  abbrev differ : ℕ → List FieldDescriptor → List FieldDescriptor → Option ℕ
  differ i xs ys = mismatch_from i (map (seen_field h) xs) (map (seen_field h) ys)

  pub still_same : (i : ℕ) (a b : FieldDescriptor) (left rest others more : List FieldDescriptor) → left ≡ a ∷ others → rest ≡ b ∷ more → true ≡ same_shape (seen_shape h a.shape) (seen_shape h b.shape)
      → differ i left rest ≡ differ (i + 1) others more
  still_same i a b left rest others more e f s = rw (e, f, sym s) refl

  pub differs : (i : ℕ) (a b : FieldDescriptor) (left rest others more : List FieldDescriptor) → left ≡ a ∷ others → rest ≡ b ∷ more → false ≡ same_shape (seen_shape h a.shape) (seen_shape h b.shape)
      → differ i left rest ≡ Some i
  differs i a b left rest others more e f s = rw (e, f, sym s) refl

  pub fewer : (i : ℕ) (a : FieldDescriptor) (left rest others : List FieldDescriptor) → left ≡ a ∷ others → length rest ≡ 0 → differ i left rest ≡ Some i
  fewer i a left [] others e f = rw e refl
  fewer i a left (b ∷ rest) others e f = absurd (omega (arith, f))

  pub as_many : (i : ℕ) (left rest : List FieldDescriptor) → length left ≡ 0 → length rest ≡ 0 → differ i left rest ≡ None
  as_many i [] [] e f = refl
  as_many i [] (b ∷ rest) e f = absurd (omega (arith, f))
  as_many i (a ∷ left) rest e f = absurd (omega (arith, e))

  pub more : (i : ℕ) (b : FieldDescriptor) (left rest others : List FieldDescriptor) → length left ≡ 0 → rest ≡ b ∷ others → differ i left rest ≡ Some i
  more i b [] rest others e f = rw f refl
  more i b (a ∷ left) rest others e f = absurd (omega (arith, e))

pub first_lies : (a : FieldDescriptor) (left others : List FieldDescriptor) (n : ℕ) → made_reach left ≤ n → left ≡ a ∷ others → shape_reach a.shape ≤ n
first_lies a left others n l e = let k : made_reach (a ∷ others) ≤ n = rw e at l in omega (arith, k)

pub others_lie : (a : FieldDescriptor) (left others : List FieldDescriptor) (n : ℕ) → made_reach left ≤ n → left ≡ a ∷ others → made_reach others ≤ n
others_lie a left others n l e = let k : made_reach (a ∷ others) ≤ n = rw e at l in omega (arith, k)

pub one_less : (a : FieldDescriptor) (left others : List FieldDescriptor) (i n : ℕ) → i + length left ≡ n → left ≡ a ∷ others → (i + 1) + length others ≡ n
one_less a left others i n l e = let k : i + length (a ∷ others) ≡ n = rw e at l in omega (arith, k)

-- ---- the whole

module _ (w : worlds.World) (h : Objects) where
  pub not_congruent : (d : worlds.Descriptor) → d.congruent_to ≡ None → mismatch w d ≡ None
  not_congruent d e = rw e refl

  pub no_old : (d : worlds.Descriptor) (x : ℕ) → d.congruent_to ≡ Some x → descriptor_of w x ≡ None → mismatch w d ≡ None
  no_old d x e f = rw (e, f) refl

  pub compared : (d : worlds.Descriptor) (x : ℕ) (other : Descriptor) (fs gs : List FieldDescriptor) (r : Option ℕ) → d.congruent_to ≡ Some x → descriptor_of w x ≡ Some (seen_descriptor h other)
      → fs ≡ other.fields → d.fields ≡ map (seen_field h) gs → mismatch_from 0 (map (seen_field h) fs) (map (seen_field h) gs) ≡ r → mismatch w d ≡ option_map CongruenceMismatch r
  compared d x other fs gs r e f i j g = rw (e, f, j, sym i) (ap (option_map CongruenceMismatch) g)
