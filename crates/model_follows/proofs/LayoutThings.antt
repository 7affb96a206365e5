-- Types and layouts with their symbols by name, and what meets them.
use Rattle.std.proofs.Common.{◌≡◌, ℕ, zero, suc, List, [], ◌∷◌, Bool, true, false, Option, Some, None, refl, sym, ap, ◌∙◌}
use Rattle.std.specs.Prelude.{not, nat_eq, ℤ, option_map, unwrap_or, if◌then◌else◌}
use Rattle.model_objects.specs.Object.{Object, Integer, Symbol, Text, Pair, named}
use Rattle.model_objects.specs.Named.{Symbols}
use Rattle.model_symbols.specs.Symbols.{QualifiedName}
use Rattle.model_symbols.specs.Opening.{nil}
use Rattle.model_prims.specs.Kinds.{by_number, by_name}
use Rattle.model_prims.specs.Lists.{is_true_list}
use Rattle.model_prims.proofs.ByName.{IsNaming}
use Rattle.model_prims.proofs.NamingLemmas.{fix_named, integer_named, len_named, nil_named, is_member_named, recognized_named, the_nil_named}
use Rattle.model_lists.specs.Types.{ValueType, Anything, Nothing, Integers, Recognized, OneOf, Either, Both, Other, meets, word_type, bound_of, range_between, only_element, range_of, bits_of, unsigned_type, signed_type, Reading, joined, denied, headed_type, listed_type, reading, type_of, or_word, and_word, not_word, integer_word, unsigned_byte_word, signed_byte_word, member_word}
use Rattle.model_lists.specs.Lists.{StobjList, Value, as_object}
use Rattle.model_lists.specs.Layouts.{Layout, Scalar, Array, Hash, Children, NoField, Field, repeated, initial, field_layout, every, recognizes, field_recognizes}
use Rattle.model_terms.specs.Worlds.{World, Definition, Shape, definition, Primitive, Defined, Macro, Constant, Concrete, Generated, Abstract, OfAbstract, Named, Signed}
use Rattle.model_terms.specs.Worlds as worlds
use Rattle.model_eval.specs.StobjLayouts.{field_type, shape_layout, fields_layout, defined_layout, layout_within, stobj_layout, most_nested}
use Rattle.model_follows.specs.FollowedWorlds.{TypeSymbols, LayoutSymbols}

abbrev pub named_type : (ℕ → QualifiedName) → ValueType ℕ → ValueType QualifiedName
named_type f Anything = Anything
named_type f Nothing = Nothing
named_type f (Integers low high) = Integers low high
named_type f (Recognized r) = Recognized r
named_type f (OneOf l) = OneOf (named f l)
named_type f (Either a b) = Either (named_type f a) (named_type f b)
named_type f (Both a b) = Both (named_type f a) (named_type f b)
named_type f (Other a) = Other (named_type f a)

abbrev pub named_layout : (ℕ → QualifiedName) → Layout ℕ → Layout QualifiedName
named_layout f (Scalar t o) = Scalar (named_type f t) (named f o)
named_layout f (Array t o n resizable) = Array (named_type f t) (named f o) n resizable
named_layout f (Hash test) = Hash test
named_layout f (Children n child) = Children n (named_layout f child)
named_layout f NoField = NoField
named_layout f (Field first others) = Field (named_layout f first) (named_layout f others)

pub field_layout_named : (f : ℕ → QualifiedName) (n : ℕ) (l : Layout ℕ) → field_layout n (named_layout f l) ≡ named_layout f (field_layout n l)
field_layout_named f n (Scalar t o) = refl
field_layout_named f n (Array t o m resizable) = refl
field_layout_named f n (Hash test) = refl
field_layout_named f n (Children m child) = refl
field_layout_named f n NoField = refl
field_layout_named f zero (Field first others) = refl
field_layout_named f (suc n) (Field first others) = field_layout_named f n others

-- ---- types as they were written

module _ (f : ℕ → QualifiedName) where
  abbrev to : Option (ValueType ℕ) → Option (ValueType QualifiedName)
  to t = option_map (named_type f) t

  to_if : (b : Bool) (x y : Option (ValueType ℕ)) → to (if b then x else y) ≡ (if b then to x else to y)
  to_if true x y = refl
  to_if false x y = refl

  word_named : (s : ℕ) → word_type s ≡ to (word_type s)
  word_named s = simp to_if

  high : {S : Type 0} → Option (Option ℤ) → Option (Object ℕ) → Option (ValueType S)
  high low None = None
  high low (Some h) = range_between low (bound_of h)

  between_named : (low high : Option (Option ℤ)) → range_between low high ≡ to (range_between low high)
  between_named None high = refl
  between_named (Some low) None = refl
  between_named (Some low) (Some high) = refl

  high_named : (low : Option (Option ℤ)) (h : Option (Object ℕ)) → high low h ≡ to (high low h)
  unfolding high
  high_named low None = refl
  high_named low (Some h) = between_named low (bound_of h)

  range_named : (o : Object ℕ) → range_of o ≡ to (range_of o)
  unfolding high
  range_named (Integer n) = refl
  range_named (Symbol s) = refl
  range_named (Text bytes) = refl
  range_named (Pair low d) = high_named (bound_of low) (only_element d)

  unsigned_named : (n : Option ℕ) → unsigned_type n ≡ to (unsigned_type n)
  unsigned_named None = refl
  unsigned_named (Some n) = refl

  signed_named : (n : Option ℕ) → signed_type n ≡ to (signed_type n)
  signed_named None = refl
  signed_named (Some n) = refl

  either_named : (a b : Option (ValueType ℕ)) → joined Either (to a) (to b) ≡ to (joined Either a b)
  either_named None b = refl
  either_named (Some a) None = refl
  either_named (Some a) (Some b) = refl

  both_named : (a b : Option (ValueType ℕ)) → joined Both (to a) (to b) ≡ to (joined Both a b)
  both_named None b = refl
  both_named (Some a) None = refl
  both_named (Some a) (Some b) = refl

  denied_named : (e : Option (Object ℕ)) (t : Option (ValueType ℕ)) → denied e (to t) ≡ to (denied e t)
  denied_named None t = refl
  denied_named (Some e) None = refl
  denied_named (Some e) (Some t) = refl

  abbrev named_reading : Reading ℕ → Reading QualifiedName
  named_reading r = record { one = to r.one; any = to r.any; all = to r.all }

  member_type : (d : Object ℕ) (b : Bool) → (if b then Some (OneOf (named f d)) else None) ≡ to (if b then Some (OneOf d) else None)
  member_type d true = refl
  member_type d false = refl

  headed_named : (s : ℕ) (d : Object ℕ) (r : Reading ℕ) → headed_type (named f) s d (named_reading r) ≡ to (headed_type (λ o. o) s d r)
  headed_named s d r =
      by_tests (nat_eq s or_word) (nat_eq s and_word) (nat_eq s not_word) (nat_eq s integer_word) (nat_eq s unsigned_byte_word) (nat_eq s signed_byte_word) (nat_eq s member_word)
    where
      by_tests : (a b e g h i j : Bool)
          → (if a then to r.any else if b then to r.all else if e then denied (only_element d) (to r.any) else if g then range_of d else if h then unsigned_type (bits_of 127 (only_element d)) else if i then signed_type (bits_of 128 (only_element d))
          else if j then (if is_true_list by_number d then Some (OneOf (named f d)) else None) else None)
          ≡ to (if a then r.any else if b then r.all else if e then denied (only_element d) r.any else if g then range_of d else if h then unsigned_type (bits_of 127 (only_element d)) else if i then signed_type (bits_of 128 (only_element d))
          else if j then (if is_true_list by_number d then Some (OneOf d) else None) else None)
      by_tests true b e g h i j = refl
      by_tests false true e g h i j = refl
      by_tests false false true g h i j = denied_named (only_element d) r.any
      by_tests false false false true h i j = range_named d
      by_tests false false false false true i j = unsigned_named (bits_of 127 (only_element d))
      by_tests false false false false false true j = signed_named (bits_of 128 (only_element d))
      by_tests false false false false false false true = member_type d (is_true_list by_number d)
      by_tests false false false false false false false = refl

  listed_type_named : (a d : Object ℕ) (r : Reading ℕ) → listed_type (named f) a d (named_reading r) ≡ to (listed_type (λ o. o) a d r)
  listed_type_named (Integer n) d r = refl
  listed_type_named (Symbol s) d r = headed_named s d r
  listed_type_named (Text bytes) d r = refl
  listed_type_named (Pair a b) d r = refl

  same_reading : (a b c d e g : Option (ValueType QualifiedName)) → a ≡ b → c ≡ d → e ≡ g → ◌≡◌ {A = Reading QualifiedName} (record { one = a; any = c; all = e }) (record { one = b; any = d; all = g })
  same_reading a b c d e g p q r = rw (p, q, r) refl

  reading_named : (o : Object ℕ) → reading (named f) o ≡ named_reading (reading (λ q. q) o)
  reading_named (Integer n) = refl
  reading_named (Symbol s) = same_reading _ _ _ _ _ _ (word_named s) (sym (to_if (nat_eq s nil) (Some Nothing) None)) (sym (to_if (nat_eq s nil) (Some Anything) None))
  reading_named (Text bytes) = refl
  reading_named (Pair a d) =
      let first : reading (named f) a ≡ named_reading (reading (λ q. q) a) = reading_named a in
      let rest : reading (named f) d ≡ named_reading (reading (λ q. q) d) = reading_named d in
      same_reading _ _ _ _ _ _
      (ap (listed_type (named f) a d) rest ∙ listed_type_named a d (reading (λ q. q) d))
      (ap (λ (r : Reading QualifiedName). joined Either r.one (reading (named f) d).any) first ∙ (ap (λ (r : Reading QualifiedName). joined Either (to (reading (λ q. q) a).one) r.any) rest ∙ either_named (reading (λ q. q) a).one (reading (λ q. q) d).any))
      (ap (λ (r : Reading QualifiedName). joined Both r.one (reading (named f) d).all) first ∙ (ap (λ (r : Reading QualifiedName). joined Both (to (reading (λ q. q) a).one) r.all) rest ∙ both_named (reading (λ q. q) a).one (reading (λ q. q) d).all))

  type_named : (written : Object ℕ) → field_type (named f) written ≡ named_type f (field_type (λ o. o) written)
  type_named written = ap (λ (r : Reading QualifiedName). unwrap_or r.one Anything) (reading_named written) ∙ go (type_of (λ o. o) written)
    where
      go : (t : Option (ValueType ℕ)) → unwrap_or (to t) Anything ≡ named_type f (unwrap_or t Anything)
      go None = refl
      go (Some t) = refl

  -- ---- layouts

  shape_named : (child : ℕ → Layout QualifiedName) (kid : ℕ → Layout ℕ) → ((x : ℕ) → child x ≡ named_layout f (kid x)) → (s : Shape) → shape_layout (named f) child s ≡ named_layout f (shape_layout (λ o. o) kid s)
  shape_named child kid h (worlds.Scalar written first) = ap (λ (t : ValueType QualifiedName). Scalar t (named f first)) (type_named written)
  shape_named child kid h (worlds.Array written first n resizable) = ap (λ (t : ValueType QualifiedName). Array t (named f first) n resizable) (type_named written)
  shape_named child kid h (worlds.Hash test) = refl
  shape_named child kid h (worlds.Child x) = h x
  shape_named child kid h (worlds.Children x n) = ap (Children n) (h x)

  fields_named : (child : ℕ → Layout QualifiedName) (kid : ℕ → Layout ℕ) → ((x : ℕ) → child x ≡ named_layout f (kid x)) → (fs : List worlds.Field) → fields_layout (named f) child fs ≡ named_layout f (fields_layout (λ o. o) kid fs)
  fields_named child kid h [] = refl
  fields_named child kid h (g ∷ fs) = rw (shape_named child kid h g.shape, fields_named child kid h fs) refl

  defined_named : (child : ℕ → Layout QualifiedName) (kid : ℕ → Layout ℕ) → ((x : ℕ) → child x ≡ named_layout f (kid x)) → (d : Option Definition) → defined_layout (named f) child d ≡ named_layout f (defined_layout (λ o. o) kid d)
  defined_named child kid h None = refl
  defined_named child kid h (Some (Primitive name row)) = refl
  defined_named child kid h (Some (Defined g)) = refl
  defined_named child kid h (Some (Macro name formals body)) = refl
  defined_named child kid h (Some (Constant name value)) = refl
  defined_named child kid h (Some (Concrete d class)) = fields_named child kid h d.fields
  defined_named child kid h (Some (Generated g)) = refl
  defined_named child kid h (Some (Abstract d)) = h d.foundation
  defined_named child kid h (Some (OfAbstract g)) = refl
  defined_named child kid h (Some (Named name formals)) = refl
  defined_named child kid h (Some (Signed name formals signature executable)) = refl

  within_named : (w : World) (d : ℕ) (x : ℕ) → layout_within (named f) w d x ≡ named_layout f (layout_within (λ o. o) w d x)
  unfolding layout_within
  within_named w zero x = refl
  within_named w (suc d) x = defined_named (layout_within (named f) w d) (layout_within (λ o. o) w d) (within_named w d) (definition w x)

  pub layout_named : (w : World) (x : ℕ) → stobj_layout (λ o. named f o) w x ≡ named_layout f (stobj_layout (λ o. o) w x)
  layout_named w x = within_named w (suc most_nested) x

-- ---- what meets a type

module _ (f : ℕ → QualifiedName) (P : ℕ → Type 0) (n : IsNaming f P) where
  pub meets_named : (t : ValueType ℕ) (x : Object ℕ) → TypeSymbols P t → Symbols P x → meets by_name (named_type f t) (named f x) ≡ meets by_number t x
  meets_named Anything x k i = refl
  meets_named Nothing x k i = refl
  meets_named (Integers low high) x k i = rw (integer_named f x, fix_named f x) refl
  meets_named (Recognized r) x k i = recognized_named f P n r x i
  meets_named (OneOf l) x k i = is_member_named f P n x l i k
  meets_named (Either a b) x k i = rw (meets_named a x k.0 i, meets_named b x k.1 i) refl
  meets_named (Both a b) x k i = rw (meets_named a x k.0 i, meets_named b x k.1 i) refl
  meets_named (Other a) x k i = ap not (meets_named a x k i)

  every_named : (p : Object QualifiedName → Bool) (q : Object ℕ → Bool) → ((o : Object ℕ) → Symbols P o → p (named f o) ≡ q o) → (x : Object ℕ) → Symbols P x → every by_name p (named f x) ≡ every by_number q x
  every_named p q h (Integer m) i = refl
  every_named p q h (Symbol s) i = the_nil_named f P n s i
  every_named p q h (Text bytes) i = refl
  every_named p q h (Pair a d) i = rw (h a i.0, every_named p q h d i.1) refl

  pub recognizes_named : (l : Layout ℕ) (x : Object ℕ) → LayoutSymbols P l → Symbols P x → recognizes by_name (named_layout f l) (named f x) ≡ recognizes by_number l x
  recognizes_named (Scalar t o) x k i = meets_named t x k.0 i
  recognizes_named (Array t o m resizable) x k i =
      rw (every_named (meets by_name (named_type f t)) (meets by_number t) (λ y j. meets_named t y k.0 j) x i, len_named f x) refl
  recognizes_named (Hash test) x k i = refl
  recognizes_named (Children m child) x k i =
      rw (every_named (recognizes by_name (named_layout f child)) (recognizes by_number child) (λ y j. recognizes_named child y k j) x i, len_named f x) refl
  recognizes_named NoField x k i = nil_named f P n x i
  recognizes_named (Field first others) (Integer m) k i = refl
  recognizes_named (Field first others) (Symbol s) k i = refl
  recognizes_named (Field first others) (Text bytes) k i = refl
  recognizes_named (Field first others) (Pair a d) k i = rw (recognizes_named first a k.0 i.0, recognizes_named others d k.1 i.1) refl

  pub field_recognizes_named : (l : Layout ℕ) (x : Object ℕ) → LayoutSymbols P l → Symbols P x → field_recognizes by_name (named_layout f l) (named f x) ≡ field_recognizes by_number l x
  field_recognizes_named (Scalar t o) x k i = meets_named t x k.0 i
  field_recognizes_named (Array t o m resizable) x k i = every_named (meets by_name (named_type f t)) (meets by_number t) (λ y j. meets_named t y k.0 j) x i
  field_recognizes_named (Hash test) x k i = refl
  field_recognizes_named (Children m child) x k i = every_named (recognizes by_name (named_layout f child)) (recognizes by_number child) (λ y j. recognizes_named child y k j) x i
  field_recognizes_named NoField x k i = recognizes_named NoField x k i
  field_recognizes_named (Field first others) x k i = recognizes_named (Field first others) x k i

  -- a new stobj
  repeated_named : (m : ℕ) (x : StobjList QualifiedName) (y : StobjList ℕ) → as_object by_name x ≡ named f (as_object by_number y) → as_object by_name (repeated m x) ≡ named f (as_object by_number (repeated m y))
  repeated_named zero x y e = ap Symbol (sym n.at_nil)
  repeated_named (suc m) x y e = rw (e, repeated_named m x y e) refl

  pub initial_named : (l : Layout ℕ) → as_object by_name (initial (named_layout f l)) ≡ named f (as_object by_number (initial l))
  initial_named (Scalar t o) = refl
  initial_named (Array t o m resizable) = repeated_named m (Value (named f o)) (Value o) refl
  initial_named (Hash test) = ap Symbol (sym n.at_nil)
  initial_named (Children m child) = repeated_named m (initial (named_layout f child)) (initial child) (initial_named child)
  initial_named NoField = ap Symbol (sym n.at_nil)
  initial_named (Field first others) = rw (initial_named first, initial_named others) refl
