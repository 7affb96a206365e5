-- Lists that stand for one stobj: their items, and items that are written.
use Rattle.std.proofs.Common.{◌≡◌, ℕ, zero, suc, ◌+◌, refl, sym, ap, ◌∙◌, subst}
use Rattle.std.specs.declared.cmp.Ordering.{Ordering}
use Rattle.model_prims.specs.Kinds.{SymbolKind}
use Rattle.model_lists.specs.Lists.{StobjList, Value, Pairs, End, Item, size, item, with_item, first_of, rest_of, resized, pairs_of, scalar_of}
use Rattle.model_lists.specs.Layouts.{Layout, Scalar, Array, Hash, Children, NoField, Field, initial, repeated, field_layout}
use Rattle.model_lists.specs.Normal.{normal, normal_pairs}
use Rattle.model_lists.specs.LiveLists.{AllItems, IsValue, HasFields, AreAlike}
use Rattle.model_lists_laws.specs.LiveListLaws.{NewStobjsStand}

module _ {S : Type 0} (names : S → S → Ordering) where
  -- ---- normal lists

  normal_item : (f : ℕ) (l : StobjList S) → normal names (item f l) ≡ item f (normal names l)
  normal_item f (Value o) = refl
  normal_item f (Pairs ps) = refl
  normal_item f End = refl
  normal_item zero (Item first rest) = refl
  normal_item (suc f) (Item first rest) = normal_item f rest

  normal_with : (f : ℕ) (x l : StobjList S) → normal names (with_item f x l) ≡ with_item f (normal names x) (normal names l)
  normal_with f x (Value o) = refl
  normal_with f x (Pairs ps) = refl
  normal_with f x End = refl
  normal_with zero x (Item first rest) = refl
  normal_with (suc f) x (Item first rest) = ap (Item (normal names first)) (normal_with f x rest)

  normal_size : (l : StobjList S) → size (normal names l) ≡ size l
  normal_size (Value o) = refl
  normal_size (Pairs ps) = refl
  normal_size End = refl
  normal_size (Item first rest) = ap (λ (n : ℕ). n + 1) (normal_size rest)

  normal_pairs_of : (l : StobjList S) → pairs_of (normal names l) ≡ normal_pairs names (pairs_of l)
  normal_pairs_of (Value o) = refl
  normal_pairs_of (Pairs ps) = refl
  normal_pairs_of End = refl
  normal_pairs_of (Item first rest) = refl

  normal_scalar : (k : SymbolKind S) (l : StobjList S) → scalar_of k (normal names l) ≡ scalar_of k l
  normal_scalar k (Value o) = refl
  normal_scalar k (Pairs ps) = refl
  normal_scalar k End = refl
  normal_scalar k (Item first rest) = refl

  normal_first : (fill l : StobjList S) → normal names (first_of fill l) ≡ first_of (normal names fill) (normal names l)
  normal_first fill (Value o) = refl
  normal_first fill (Pairs ps) = refl
  normal_first fill End = refl
  normal_first fill (Item first rest) = refl

  normal_rest : (l : StobjList S) → normal names (rest_of l) ≡ rest_of (normal names l)
  normal_rest (Value o) = refl
  normal_rest (Pairs ps) = refl
  normal_rest End = refl
  normal_rest (Item first rest) = refl

  normal_resized : (n : ℕ) (fill l : StobjList S) → normal names (resized n fill l) ≡ resized n (normal names fill) (normal names l)
  normal_resized zero fill l = refl
  normal_resized (suc n) fill l = rw (normal_first fill l, normal_resized n fill (rest_of l), normal_rest l) refl

  -- ---- lists that are alike

  pub item_alike : (f : ℕ) (l m : StobjList S) → AreAlike names l m → AreAlike names (item f l) (item f m)
  item_alike f l m h = normal_item f l ∙ (ap (item f) h ∙ sym (normal_item f m))

  pub with_alike : (f : ℕ) (x y l m : StobjList S) → AreAlike names x y → AreAlike names l m → AreAlike names (with_item f x l) (with_item f y m)
  with_alike f x y l m g h = normal_with f x l ∙ (ap (λ (z : StobjList S). with_item f z (normal names l)) g ∙ (ap (with_item f (normal names y)) h ∙ sym (normal_with f y m)))

  pub size_alike : (l m : StobjList S) → AreAlike names l m → size l ≡ size m
  size_alike l m h = sym (normal_size l) ∙ (ap size h ∙ normal_size m)

  pub pairs_alike : (l m : StobjList S) → AreAlike names l m → normal_pairs names (pairs_of l) ≡ normal_pairs names (pairs_of m)
  pairs_alike l m h = sym (normal_pairs_of l) ∙ (ap pairs_of h ∙ normal_pairs_of m)

  pub scalar_alike : (k : SymbolKind S) (l m : StobjList S) → AreAlike names l m → scalar_of k l ≡ scalar_of k m
  scalar_alike k l m h = sym (normal_scalar k l) ∙ (ap (scalar_of k) h ∙ normal_scalar k m)

  pub resized_alike : (n : ℕ) (fill l m : StobjList S) → AreAlike names l m → AreAlike names (resized n fill l) (resized n fill m)
  resized_alike n fill l m h = normal_resized n fill l ∙ (ap (resized n (normal names fill)) h ∙ sym (normal_resized n fill m))

-- ---- fields

-- there is such a field
abbrev pub IsField : {S : Type 0} → Layout S → Type 0
IsField (Scalar t o) = Unit {0}
IsField (Array t o n resizable) = Unit {0}
IsField (Hash test) = Unit {0}
IsField (Children n child) = Unit {0}
IsField NoField = ⊥
IsField (Field first others) = Unit {0}

module _ {S : Type 0} where
  pub has_field : (f : ℕ) (whole : Layout S) (l : StobjList S) → HasFields whole l → IsField (field_layout f whole) → HasFields (field_layout f whole) (item f l)
  has_field f (Scalar t o) l h i = absurd i
  has_field f (Array t o n resizable) l h i = absurd i
  has_field f (Hash test) l h i = absurd i
  has_field f (Children n child) l h i = absurd i
  has_field f NoField l h i = absurd i
  has_field f (Field first others) (Value o) h i = absurd h
  has_field f (Field first others) (Pairs ps) h i = absurd h
  has_field f (Field first others) End h i = absurd h
  has_field zero (Field first others) (Item x rest) h i = h.0
  has_field (suc f) (Field first others) (Item x rest) h i = has_field f others rest h.1 i

  pub with_field : (f : ℕ) (whole : Layout S) (x l : StobjList S) → HasFields whole l → IsField (field_layout f whole) → HasFields (field_layout f whole) x → HasFields whole (with_item f x l)
  with_field f (Scalar t o) x l h i g = absurd i
  with_field f (Array t o n resizable) x l h i g = absurd i
  with_field f (Hash test) x l h i g = absurd i
  with_field f (Children n child) x l h i g = absurd i
  with_field f NoField x l h i g = absurd i
  with_field f (Field first others) x (Value o) h i g = absurd h
  with_field f (Field first others) x (Pairs ps) h i g = absurd h
  with_field f (Field first others) x End h i g = absurd h
  with_field zero (Field first others) x (Item y rest) h i g = (g, h.1)
  with_field (suc f) (Field first others) x (Item y rest) h i g = (h.0, with_field f others x rest h.1 i g)

  -- the same, of a field whose layout is known
  pub field_of_layout : (layout : Layout S) (f : ℕ) (whole : Layout S) (l : StobjList S) → field_layout f whole ≡ layout → IsField layout → HasFields whole l → HasFields layout (item f l)
  field_of_layout layout f whole l e i h =
      subst (λ (y : Layout S). HasFields y (item f l)) e (has_field f whole l h (subst IsField (sym e) i))

  pub with_field_of_layout : (layout : Layout S) (f : ℕ) (whole : Layout S) (x l : StobjList S) → field_layout f whole ≡ layout → IsField layout → HasFields whole l → HasFields layout x → HasFields whole (with_item f x l)
  with_field_of_layout layout f whole x l e i h g =
      with_field f whole x l h (subst IsField (sym e) i) (subst (λ (y : Layout S). HasFields y x) (sym e) g)

  -- ---- arrays

  pub values_with : (i : ℕ) (x l : StobjList S) → IsValue x → AllItems IsValue l → AllItems IsValue (with_item i x l)
  values_with i x (Value o) g h = absurd h
  values_with i x (Pairs ps) g h = absurd h
  values_with i x End g h = tt
  values_with zero x (Item first rest) g h = (g, h.1)
  values_with (suc i) x (Item first rest) g h = (h.0, values_with i x rest g h.1)

  pub values_resized : (n : ℕ) (x l : StobjList S) → IsValue x → AllItems IsValue l → AllItems IsValue (resized n x l)
  values_resized zero x l g h = tt
  values_resized (suc n) x (Value o) g h = absurd h
  values_resized (suc n) x (Pairs ps) g h = absurd h
  values_resized (suc n) x End g h = (g, values_resized n x End g tt)
  values_resized (suc n) x (Item first rest) g h = (h.0, values_resized n x rest g h.1)

  -- ---- new stobjs

  all_repeated : (Is : StobjList S → Type 0) (n : ℕ) (x : StobjList S) → Is x → AllItems Is (repeated n x)
  all_repeated Is zero x h = tt
  all_repeated Is (suc n) x h = (h, all_repeated Is n x h)

  new_fields : (layout : Layout S) → HasFields layout (initial layout)
  new_fields (Scalar t o) = tt
  new_fields (Array t o n resizable) = all_repeated IsValue n (Value o) tt
  new_fields (Hash test) = tt
  new_fields (Children n child) = all_repeated (HasFields child) n (initial child) (new_fields child)
  new_fields NoField = tt
  new_fields (Field first others) = (new_fields first, new_fields others)

  normal_repeated : (names : S → S → Ordering) (n : ℕ) (x : StobjList S) → normal names x ≡ x → normal names (repeated n x) ≡ repeated n x
  normal_repeated names zero x e = refl
  normal_repeated names (suc n) x e = rw (e, normal_repeated names n x e) refl

  new_normal : (names : S → S → Ordering) (layout : Layout S) → normal names (initial layout) ≡ initial layout
  new_normal names (Scalar t o) = refl
  new_normal names (Array t o n resizable) = normal_repeated names n (Value o) refl
  new_normal names (Hash test) = refl
  new_normal names (Children n child) = normal_repeated names n (initial child) (new_normal names child)
  new_normal names NoField = refl
  new_normal names (Field first others) = rw (new_normal names first, new_normal names others) refl

pub new_stobjs_stand : {S : Type 0} → NewStobjsStand S
new_stobjs_stand = record { fields = new_fields; normal = new_normal }
