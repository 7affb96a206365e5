-- What another view of the symbols keeps of an object.
use Rattle.std.specs.Prelude.{◌≡◌, refl}
use Rattle.std.proofs.Common.{ap}
use Rattle.model_objects.specs.Object.{Object, Integer, Symbol, Text, Pair, named, weight, cells, has_narrow_integers}
use Rattle.model_objects.specs.Named.{Symbols}

pub weight-named : {S N : Type 0} (name : S → N) (o : Object S) → weight (named name o) ≡ weight o
weight-named name (Integer n) = refl
weight-named name (Symbol s) = refl
weight-named name (Text bytes) = refl
weight-named name (Pair a d) = rw (weight-named name a, weight-named name d) refl

pub cells-named : {S N : Type 0} (name : S → N) (o : Object S) → cells (named name o) ≡ cells o
cells-named name (Integer n) = refl
cells-named name (Symbol s) = refl
cells-named name (Text bytes) = refl
cells-named name (Pair a d) = rw (cells-named name a, cells-named name d) refl

pub narrow-named : {S N : Type 0} (name : S → N) (o : Object S) → has_narrow_integers (named name o) ≡ has_narrow_integers o
narrow-named name (Integer n) = refl
narrow-named name (Symbol s) = refl
narrow-named name (Text bytes) = refl
narrow-named name (Pair a d) = rw (narrow-named name a, narrow-named name d) refl

-- two views that agree on the object's symbols show the same
pub named-agrees : {S N : Type 0} (f g : S → N) (o : Object S) → Symbols (λ s. f s ≡ g s) o → named f o ≡ named g o
named-agrees f g (Integer n) h = refl
named-agrees f g (Symbol s) h = ap Symbol h
named-agrees f g (Text bytes) h = refl
named-agrees f g (Pair a d) h = rw (named-agrees f g a h.0, named-agrees f g d h.1) refl

-- a view that tells the symbols with a property apart tells objects of them apart
module _ {S N : Type 0} (name : S → N) (P : S → Type 0) (apart : (s t : S) → P s → P t → name s ≡ name t → s ≡ t) where
  pub named-injective : (x y : Object S) → Symbols P x → Symbols P y → named name x ≡ named name y → x ≡ y
  named-injective (Integer x) (Integer y) p q e = ap Integer cc
  named-injective (Integer x) (Symbol y) p q e = cc
  named-injective (Integer x) (Text y) p q e = cc
  named-injective (Integer x) (Pair y y') p q e = cc
  named-injective (Symbol x) (Integer y) p q e = cc
  named-injective (Symbol x) (Symbol y) p q e = ap Symbol (apart x y p q cc)
  named-injective (Symbol x) (Text y) p q e = cc
  named-injective (Symbol x) (Pair y y') p q e = cc
  named-injective (Text x) (Integer y) p q e = cc
  named-injective (Text x) (Symbol y) p q e = cc
  named-injective (Text x) (Text y) p q e = ap Text cc
  named-injective (Text x) (Pair y y') p q e = cc
  named-injective (Pair x x') (Integer y) p q e = cc
  named-injective (Pair x x') (Symbol y) p q e = cc
  named-injective (Pair x x') (Text y) p q e = cc
  named-injective (Pair x x') (Pair y y') p q e =
      let car : named name x ≡ named name y = cc in
      let cdr : named name x' ≡ named name y' = cc in
      rw (named-injective x y p.0 q.0 car, named-injective x' y' p.1 q.1 cdr) refl

-- a property that is weaker
pub Symbols-weaker : {S : Type 0} (P Q : S → Type 0) → ((s : S) → P s → Q s) → (o : Object S) → Symbols P o → Symbols Q o
Symbols-weaker P Q f (Integer n) h = tt
Symbols-weaker P Q f (Symbol s) h = f s h
Symbols-weaker P Q f (Text bytes) h = tt
Symbols-weaker P Q f (Pair a d) h = (Symbols-weaker P Q f a h.0, Symbols-weaker P Q f d h.1)
