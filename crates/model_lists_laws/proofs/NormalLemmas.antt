-- Normal lists.
use Rattle.std.proofs.Common.{◌≡◌, ℕ, List, [], ◌∷◌, Bool, true, false, Option, Some, refl, sym, ap, ◌∙◌, subst, inl, inr}
use Rattle.std.specs.Prelude.{◌⊎◌, ◌&&◌, if◌then◌else◌}
use Rattle.std.specs.Ordering.{nat_cmp, ordering_then, ordering_reverse}
use Rattle.std.specs.Cmp.{IsTotalOrder}
use Rattle.std.specs.Cmp.Lexicographic.{slice_cmp, nat_list_cmp_total}
use Rattle.std.specs.declared.cmp.Ordering.{Ordering}
use Rattle.std.specs.declared.cmp.Ordering.TheVariants.{Less, Equal, Greater}
use Rattle.std.proofs.lemmas.Map.Lookups.{CmpEqualImpliesEq, exact_bytes}
use Rattle.model_objects.specs.Object.{Object, Integer, Symbol, Text, Pair, object_cmp}
use Rattle.std.specs.Bool.{Decides}
use Rattle.std.proofs.lemmas.Bool.Decides.{Decides-int_eq}
use Rattle.std.proofs.lemmas.Slice.Eq.{bytes_eq-Decides}
use Rattle.model_symbols.proofs.NameLemmas.{same_name-Decides}
use Rattle.model_objects.proofs.Ordered.{object_total, object_exact}
use Rattle.model_symbols.specs.Symbols.{QualifiedName, symbol_at}
use Rattle.model_prims.specs.Kinds.{SymbolKind, by_name, same_object}
use Rattle.model_lists.specs.Lists.{StobjList, Value, Pairs, End, Item, value_at}
use Rattle.model_lists.specs.Normal.{name_cmp, number_cmp, placed, put_in_order, normal_pairs, normal}
use Rattle.model_lists_laws.specs.Laws.{IsNormal}

reverse_then : (r s : Ordering) → ordering_reverse (ordering_then r s) ≡ ordering_then (ordering_reverse r) (ordering_reverse s)
reverse_then Less s = refl
reverse_then Equal s = refl
reverse_then Greater s = refl

then_equal : (r s : Ordering) → ordering_then r s ≡ Equal → (r ≡ Equal) × (s ≡ Equal)
then_equal Less s e = cc
then_equal Equal s e = (refl, e)
then_equal Greater s e = cc

then_less : (r s : Ordering) → ordering_then r s ≡ Less → (r ≡ Less) ⊎ ((r ≡ Equal) × (s ≡ Less))
then_less Less s e = inl refl
then_less Equal s e = inr (refl, e)
then_less Greater s e = cc

-- ---- the order of names

abbrev bytes_cmp : List ℕ → List ℕ → Ordering
bytes_cmp = slice_cmp nat_cmp

names_antisymm : (x y : QualifiedName) → name_cmp x y ≡ ordering_reverse (name_cmp y x)
names_antisymm x y =
    rw (nat_list_cmp_total.antisymm x.home y.home, nat_list_cmp_total.antisymm x.name y.name) (sym (reverse_then (bytes_cmp y.home x.home) (bytes_cmp y.name x.name)))

names_congr : (x y z : QualifiedName) → name_cmp x y ≡ Equal → name_cmp x z ≡ name_cmp y z
names_congr x y z e =
    let p = then_equal (bytes_cmp x.home y.home) (bytes_cmp x.name y.name) e in
    rw (nat_list_cmp_total.congr x.home y.home z.home p.0, nat_list_cmp_total.congr x.name y.name z.name p.1) refl

-- less than what is equal
less_equal : (x y z : List ℕ) → bytes_cmp x y ≡ Less → bytes_cmp y z ≡ Equal → bytes_cmp x z ≡ Less
less_equal x y z l e =
    nat_list_cmp_total.antisymm x z ∙ (ap ordering_reverse (sym (nat_list_cmp_total.congr y z x e)) ∙ (sym (nat_list_cmp_total.antisymm x y) ∙ l))

names_trans : (x y z : QualifiedName) → name_cmp x y ≡ Less → name_cmp y z ≡ Less → name_cmp x z ≡ Less
names_trans x y z h g = elim (then_less (bytes_cmp x.home y.home) (bytes_cmp x.name y.name) h) [
  | inl l ↦ elim (then_less (bytes_cmp y.home z.home) (bytes_cmp y.name z.name) g) [
    | inl m ↦ rw (nat_list_cmp_total.trans x.home y.home z.home l m) refl
    | inr m ↦ rw (less_equal x.home y.home z.home l m.0) refl
  ]
  | inr l ↦ elim (then_less (bytes_cmp y.home z.home) (bytes_cmp y.name z.name) g) [
    | inl m ↦ rw (nat_list_cmp_total.congr x.home y.home z.home l.0, m) refl
    | inr m ↦ rw (nat_list_cmp_total.congr x.home y.home z.home l.0, m.0) (nat_list_cmp_total.trans x.name y.name z.name l.1 m.1)
  ]
]

pub names_total : IsTotalOrder name_cmp
names_total = record { antisymm = names_antisymm; trans = names_trans; congr = names_congr }

pub numbers_total : (symbols : List QualifiedName) → IsTotalOrder (number_cmp symbols)
numbers_total symbols = record {
  antisymm = λ x y. names_antisymm (symbol_at symbols x) (symbol_at symbols y);
  trans = λ x y z. names_trans (symbol_at symbols x) (symbol_at symbols y) (symbol_at symbols z);
  congr = λ x y z. names_congr (symbol_at symbols x) (symbol_at symbols y) (symbol_at symbols z);
}

-- ---- pairs in order

module _ {S : Type 0} (names : S → S → Ordering) (total : IsTotalOrder names) where
  abbrev pub Pairing : Type 0
  Pairing = Object S × Object S

  abbrev pub cmp : Pairing → Pairing → Ordering
  cmp p q = object_cmp names p.0 q.0

  abbrev pub IsBefore : Pairing → List Pairing → Type 0
  IsBefore p [] = Unit {0}
  IsBefore p (q ∷ qs) = cmp p q ≡ Less

  abbrev pub InOrder : List Pairing → Type 0
  InOrder [] = Unit {0}
  InOrder (p ∷ ps) = IsBefore p ps × InOrder ps

  after : (p q : Pairing) → cmp p q ≡ Greater → cmp q p ≡ Less
  after p q e = (object_total names total).antisymm q.0 p.0 ∙ ap ordering_reverse e

  -- what comes before a list and before a pair comes before the list with it
  before_put : (q p : Pairing) (ps : List Pairing) → cmp q p ≡ Less → IsBefore q ps → IsBefore q (put_in_order names p ps)
  before_put q p [] l b = l
  before_put q p (r ∷ rs) l b = go (cmp p r)
    where
      go : (o : Ordering) → IsBefore q (placed names o p r rs (put_in_order names p rs))
      go Less = l
      go Equal = l
      go Greater = b

  equal_before : (p q : Pairing) (qs : List Pairing) → cmp p q ≡ Equal → IsBefore q qs → IsBefore p qs
  equal_before p q [] e b = tt
  equal_before p q (r ∷ rs) e b = (object_total names total).congr p.0 q.0 r.0 e ∙ b

  put_keeps : (p : Pairing) (ps : List Pairing) → InOrder ps → InOrder (put_in_order names p ps)
  put_keeps p [] h = (tt, tt)
  put_keeps p (q ∷ qs) h = go (cmp p q) refl (put_keeps p qs h.1)
    where
      go : (o : Ordering) → cmp p q ≡ o → InOrder (put_in_order names p qs) → InOrder (placed names o p q qs (put_in_order names p qs))
      go Less e i = (e, h)
      go Equal e i = (equal_before p q qs e h.0, h.1)
      go Greater e i = (before_put q p qs (after p q e) h.0, i)

  pub normal_in_order : (ps : List Pairing) → InOrder (normal_pairs names ps)
  normal_in_order [] = tt
  normal_in_order (p ∷ ps) = put_keeps p (normal_pairs names ps) (normal_in_order ps)

  pub put_first : (p : Pairing) (ps : List Pairing) → IsBefore p ps → put_in_order names p ps ≡ p ∷ ps
  put_first p [] b = refl
  put_first p (q ∷ qs) b = rw b refl

  pub normal_of_order : (ps : List Pairing) → InOrder ps → normal_pairs names ps ≡ ps
  normal_of_order [] h = refl
  normal_of_order (p ∷ ps) h = rw (normal_of_order ps h.1) (put_first p ps h.0)

  pub normal_twice : (l : StobjList S) → normal names (normal names l) ≡ normal names l
  normal_twice (Value o) = refl
  normal_twice (Pairs ps) = ap Pairs (normal_of_order (normal_pairs names ps) (normal_in_order ps))
  normal_twice End = refl
  normal_twice (Item first rest) = rw (normal_twice first, normal_twice rest) refl

-- ---- the value of a key

module _ {S : Type 0} (k : SymbolKind S) (decides : (a b : S) → Decides (k.same a b) (a ≡ b)) where
  pub same_itself : (x : Object S) → same_object k x x ≡ true
  same_itself (Integer n) = (Decides-int_eq n n).1 refl
  same_itself (Symbol s) = (decides s s).1 refl
  same_itself (Text bytes) = (bytes_eq-Decides bytes bytes).1 refl
  same_itself (Pair a d) = rw (same_itself a, same_itself d) refl

  both : (a b : Bool) → (a && b) ≡ true → (a ≡ true) × (b ≡ true)
  both true b e = (refl, e)
  both false b e = cc

  pub same_tells : (x y : Object S) → same_object k x y ≡ true → x ≡ y
  same_tells (Integer m) (Integer n) e = ap Integer ((Decides-int_eq m n).0 e)
  same_tells (Integer m) (Symbol t) e = cc
  same_tells (Integer m) (Text b) e = cc
  same_tells (Integer m) (Pair b f) e = cc
  same_tells (Symbol s) (Integer n) e = cc
  same_tells (Symbol s) (Symbol t) e = ap Symbol ((decides s t).0 e)
  same_tells (Symbol s) (Text b) e = cc
  same_tells (Symbol s) (Pair b f) e = cc
  same_tells (Text a) (Integer n) e = cc
  same_tells (Text a) (Symbol t) e = cc
  same_tells (Text a) (Text b) e = ap Text ((bytes_eq-Decides a b).0 e)
  same_tells (Text a) (Pair b f) e = cc
  same_tells (Pair a d) (Integer n) e = cc
  same_tells (Pair a d) (Symbol t) e = cc
  same_tells (Pair a d) (Text b) e = cc
  same_tells (Pair a d) (Pair b f) e =
      let parts : (same_object k a b ≡ true) × (same_object k d f ≡ true) = both (same_object k a b) (same_object k d f) e in
      rw (same_tells a b parts.0, same_tells d f parts.1) refl

  module _ (names : S → S → Ordering) (total : IsTotalOrder names) where
    pub not_itself : (x : Object S) → object_cmp names x x ≡ Greater → ⊥
    not_itself x e = cc_less (ap ordering_reverse e) (sym ((object_total names total).antisymm x x) ∙ e)
      where
        cc_less : ordering_reverse (object_cmp names x x) ≡ Less → ordering_reverse (object_cmp names x x) ≡ Greater → ⊥
        cc_less l g = cc

    -- the key of the pair is that of each pair with which it compares as equal
    abbrev pub TellsFrom : Object S × Object S → List (Object S × Object S) → Type 0
    TellsFrom p [] = Unit {0}
    TellsFrom p (q ∷ qs) = (object_cmp names p.0 q.0 ≡ Equal → p.0 ≡ q.0) × TellsFrom p qs

    pub value_put : (key : Object S) (p : Object S × Object S) (qs : List (Object S × Object S)) → TellsFrom p qs → value_at k key (put_in_order names p qs) ≡ (if same_object k key p.0 then Some p.1 else value_at k key qs)
    value_put key p [] t = refl
    value_put key p (q ∷ qs) t = go (object_cmp names p.0 q.0) refl (value_put key p qs t.1)
      where
        equal : p.0 ≡ q.0 → (if same_object k key p.0 then Some p.1 else value_at k key qs) ≡ (if same_object k key p.0 then Some p.1 else (if same_object k key q.0 then Some q.1 else value_at k key qs))
        equal e = rw (sym e) (chosen (same_object k key p.0))
          where
            chosen : (b : Bool) → (if b then Some p.1 else value_at k key qs) ≡ (if b then Some p.1 else (if b then Some q.1 else value_at k key qs))
            chosen true = refl
            chosen false = refl

        greater : object_cmp names p.0 q.0 ≡ Greater → (if same_object k key q.0 then Some q.1 else (if same_object k key p.0 then Some p.1 else value_at k key qs)) ≡ (if same_object k key p.0 then Some p.1 else (if same_object k key q.0 then Some q.1 else value_at k key qs))
        greater e = chosen (same_object k key q.0) (same_object k key p.0) refl refl
          where
            chosen : (b c : Bool) → same_object k key q.0 ≡ b → same_object k key p.0 ≡ c → (if b then Some q.1 else (if c then Some p.1 else value_at k key qs)) ≡ (if c then Some p.1 else (if b then Some q.1 else value_at k key qs))
            chosen true true f h = absurd (not_itself q.0 (subst (λ x. object_cmp names x q.0 ≡ Greater) (sym (same_tells key p.0 h) ∙ same_tells key q.0 f) e))
            chosen true false f h = refl
            chosen false true f h = refl
            chosen false false f h = refl

        go : (o : Ordering) → object_cmp names p.0 q.0 ≡ o → value_at k key (put_in_order names p qs) ≡ (if same_object k key p.0 then Some p.1 else value_at k key qs)
            → value_at k key (placed names o p q qs (put_in_order names p qs)) ≡ (if same_object k key p.0 then Some p.1 else (if same_object k key q.0 then Some q.1 else value_at k key qs))
        go Less e h = refl
        go Equal e h = equal (t.0 e)
        go Greater e h = rw h (greater e)

    module _ (exact : CmpEqualImpliesEq names) where
      tells_all : (p : Object S × Object S) (qs : List (Object S × Object S)) → TellsFrom p qs
      tells_all p [] = tt
      tells_all p (q ∷ qs) = (object_exact names exact p.0 q.0, tells_all p qs)

      pub value_normal : (key : Object S) (ps : List (Object S × Object S)) → value_at k key (normal_pairs names ps) ≡ value_at k key ps
      value_normal key [] = refl
      value_normal key (p ∷ ps) =
          value_put key p (normal_pairs names ps) (tells_all p (normal_pairs names ps)) ∙ ap (λ (o : Option (Object S)). if same_object k key p.0 then Some p.1 else o) (value_normal key ps)

pub names_exact : CmpEqualImpliesEq name_cmp
names_exact x y e =
    let p = then_equal (bytes_cmp x.home y.home) (bytes_cmp x.name y.name) e in
    same_parts x y (exact_bytes x.home y.home p.0) (exact_bytes x.name y.name p.1)
  where
    of_parts : List ℕ → List ℕ → QualifiedName
    of_parts home name = record { home = home; name = name }

    same_parts : (x y : QualifiedName) → x.home ≡ y.home → x.name ≡ y.name → x ≡ y
    same_parts x y e f = ap (λ (home : List ℕ). of_parts home x.name) e ∙ ap (of_parts y.home) f

pub is_normal : IsNormal
is_normal = record {
  named = normal_twice name_cmp names_total;
  numbered = λ symbols. normal_twice (number_cmp symbols) (numbers_total symbols);
  values = value_normal by_name same_name-Decides name_cmp names_total names_exact;
}
