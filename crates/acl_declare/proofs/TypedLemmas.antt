-- What a declaration of types says.
use Rattle.std.specs.Prelude.{◌≡◌, ℕ, ◌≤◌, List, [], ◌∷◌, ◌++◌, length, map, ℤ, Bool, true, false, Option, Some, None, option_map, option_and_then, is_some, refl, if◌then◌else◌}
use Rattle.std.proofs.Common.{sym, ap, ◌∙◌, append_assoc, arith}
use Rattle.std.proofs.lemmas.List.{append-nil}
use Rattle.model_objects.specs.Object.{Object, Pair}
use Rattle.model_symbols.specs.Symbols.{QualifiedName}
use Rattle.model_symbols.specs.Opening.{truth}
use Rattle.model_terms.specs.Classes.{has}
use Rattle.model_terms.specs.Cores.{Core, Var}
use Rattle.model_expansion.specs.Forms.{symbol, is, each}
use Rattle.model_expansion.specs.Layers as layers
use Rattle.model_expansion.specs.TypeTerms.{declared_test}
use Rattle.model_events.specs.Declarations as model
use Rattle.model_events.specs.Declarations.{both_declared, nothing_declared, declared_formal, type_items, items_of_all, type_declared}
use Rattle.acl_base.specs.declared.SymId.{SymId}
use Rattle.acl_base.specs.declared.Word.{Word}
use Rattle.acl_heap.specs.Objects.{Objects, object_of, reach, Lies, Extends}
use Rattle.acl_terms.specs.Forms.{numbers}
use Rattle.acl_layers.specs.Lists.{items_along}
use Rattle.acl_layers.proofs.EachLemmas.{after}
use Rattle.acl_declare.specs.declared.said.Declared.{Declared}
use Rattle.acl_declare.specs.Said.{seen_declared, declared_reach, asks, asks_all, typed_all, typed_along, after_said}
use Rattle.acl_declare.proofs.SaidLemmas.{joined, after_both, after_none, after_nothing, said_later}

-- ---- formals

module _ (sy : List QualifiedName) (fs : List ℕ) where
  pub is_formal : (o : Object ℕ) (x : ℕ) → symbol o ≡ Some x → has fs x ≡ true → declared_formal sy fs o ≡ Some x
  is_formal o x e f = rw (e, f) refl

  pub no_formal : (o : Object ℕ) (x : ℕ) → symbol o ≡ Some x → has fs x ≡ false → declared_formal sy fs o ≡ None
  no_formal o x e f = rw (e, f) refl

  pub no_symbol : (o : Object ℕ) → symbol o ≡ None → declared_formal sy fs o ≡ None
  no_symbol o e = rw e refl

module _ {A : Type 0} (f : Object ℕ → Option A) where
  pushed : (done : List A) (y : A) (more : Option (List A)) → after done (option_map (λ ys. y ∷ ys) more) ≡ after (done ++ y ∷ []) more
  pushed done y None = refl
  pushed done y (Some ys) = ap (λ xs. Some xs) (sym (append_assoc done (y ∷ []) ys))

  pub each_more : (done : List A) (o a d : Object ℕ) (y : A) → o ≡ Pair a d → f a ≡ Some y → after done (each f (items_along o)) ≡ after (done ++ y ∷ []) (each f (items_along d))
  each_more done o a d y e g = rw (e, g) (pushed done y (each f (items_along d)))

  pub each_wrong : (done : List A) (o a d : Object ℕ) → o ≡ Pair a d → f a ≡ None → after done (each f (items_along o)) ≡ None
  each_wrong done o a d e g = rw (e, g) refl

  pub each_end : (done : List A) (os : List (Object ℕ)) → os ≡ [] → after done (each f os) ≡ Some done
  each_end done os e = rw e (ap (λ xs. Some xs) (append-nil done))

pub from_none : {A : Type 0} (o : Option (List A)) → after [] o ≡ o
from_none None = refl
from_none (Some xs) = refl

-- ---- types

module _ (sy : List QualifiedName) (t : Object ℕ) where
  pub typed_wrong : (a : model.Declared) (x : ℕ) → None ≡ declared_test (Var x) t → after_said a (option_map asks_all (type_items sy t x)) ≡ None
  typed_wrong a x e = rw (sym e) refl

  pub typed_nothing : (a b : model.Declared) (x : ℕ) (f : Core) → Some f ≡ declared_test (Var x) t → is truth t ≡ true → b ≡ a → after_said a (option_map asks_all (type_items sy t x)) ≡ Some b
  typed_nothing a b x f e g i = rw (sym e, g) (after_nothing a ∙ ap (λ y. Some y) (sym i))

  pub typed_asked : (a b c : model.Declared) (x : ℕ) (f : Core) → Some f ≡ declared_test (Var x) t → is truth t ≡ false → b ≡ a → c ≡ both_declared b (asks (layers.Meets f))
      → after_said a (option_map asks_all (type_items sy t x)) ≡ Some c
  typed_asked a b c x f e g i k = rw (sym e, g) (ap (λ y. Some y) (sym (k ∙ ap (λ y. both_declared y (asks (layers.Meets f))) i)))

  types_joined : (x : ℕ) (xs : List ℕ) → typed_all sy t (x ∷ xs) ≡ joined (option_map asks_all (type_items sy t x)) (typed_all sy t xs)
  types_joined x xs = go (type_items sy t x) (each (type_items sy t) xs)
    where
      go : (o : Option (List layers.GuardItem)) (p : Option (List (List layers.GuardItem)))
          → option_map (items_of_all sy) (option_and_then (λ y. option_map (λ ys. y ∷ ys) p) o) ≡ joined (option_map asks_all o) (option_map (items_of_all sy) p)
      go None p = refl
      go (Some gs) None = refl
      go (Some gs) (Some hs) = refl

module _ (sy : List QualifiedName) {h h' : Objects} (g : Extends h h') (w : Word) (l : Lies h w) where
  said_there : (b c : model.Declared) (r : Bool) (x : ℕ) → after_said b (option_map asks_all (type_items sy (object_of h' w) x)) ≡ (if r then Some c else None)
      → after_said b (option_map asks_all (type_items sy (object_of h w) x)) ≡ (if r then Some c else None)
  said_there b c r x i = ap (λ o. after_said b (option_map asks_all (type_items sy o x))) (sym (g.same w l)) ∙ i

  pub types_more : (b c : model.Declared) (r : Bool) (x : SymId) (rest others : List SymId) → rest ≡ x ∷ others
      → after_said b (option_map asks_all (type_items sy (object_of h' w) x.0)) ≡ (if r then Some c else None) → r ≡ true
      → after_said b (typed_all sy (object_of h w) (numbers rest)) ≡ after_said c (typed_all sy (object_of h w) (numbers others))
  types_more b c r x rest others e i k =
      let there = said_there b c r x.0 i in
      let is : after_said b (option_map asks_all (type_items sy (object_of h w) x.0)) ≡ Some c = rw k at there in
      rw e (ap (after_said b) (types_joined sy (object_of h w) x.0 (numbers others)) ∙ after_both b c _ (typed_all sy (object_of h w) (numbers others)) is)

  pub types_wrong : (b c : model.Declared) (r : Bool) (x : SymId) (rest others : List SymId) → rest ≡ x ∷ others
      → after_said b (option_map asks_all (type_items sy (object_of h' w) x.0)) ≡ (if r then Some c else None) → r ≡ false
      → after_said b (typed_all sy (object_of h w) (numbers rest)) ≡ None
  types_wrong b c r x rest others e i k =
      let there = said_there b c r x.0 i in
      let is : after_said b (option_map asks_all (type_items sy (object_of h w) x.0)) ≡ None = rw k at there in
      rw e (ap (after_said b) (types_joined sy (object_of h w) x.0 (numbers others)) ∙ after_none b _ (typed_all sy (object_of h w) (numbers others)) is)

pub types_end : (sy : List QualifiedName) (t : Object ℕ) (a : model.Declared) (rest : List SymId) → rest ≡ [] → after_said a (typed_all sy t (numbers rest)) ≡ Some a
types_end sy t a rest e = rw e (after_nothing a)

pub still_lies : {h h' : Objects} → Extends h h' → (w : Word) → Lies h w → Lies h' w
still_lies e w l = let k = e.longer in omega (arith, k, l)

-- ---- a type and formals

module _ (sy : List QualifiedName) (fs : List ℕ) where
  pub no_formals : (a : model.Declared) (t : Object ℕ) (os : List (Object ℕ)) → each (declared_formal sy fs) os ≡ None → after_said a (typed_along sy fs t os) ≡ None
  no_formals a t os e = rw e refl

  pub some_formals : (a : model.Declared) (t : Object ℕ) (os : List (Object ℕ)) (xs : List ℕ) (r : Option model.Declared) → each (declared_formal sy fs) os ≡ Some xs
      → after_said a (typed_all sy t xs) ≡ r → after_said a (typed_along sy fs t os) ≡ r
  some_formals a t os xs r e f = rw e f

  pub no_type : (a : model.Declared) (b : Bool) (t : Object ℕ) (os : List (Object ℕ)) → b ≡ is_some (declared_test (Var 1) t) → b ≡ false → after_said a (type_declared sy fs (t ∷ os)) ≡ None
  no_type a b t os e f = go (declared_test (Var 1) t) (sym e ∙ f)
    where
      go : (o : Option Core) → is_some o ≡ false → after_said a (option_and_then (λ test. typed_along sy fs t os) o) ≡ None
      go None e = refl
      go (Some f) e = cc

  a_type : (a : model.Declared) (t : Object ℕ) (os : List (Object ℕ)) → is_some (declared_test (Var 1) t) ≡ true → after_said a (type_declared sy fs (t ∷ os)) ≡ after_said a (typed_along sy fs t os)
  a_type a t os e = go (declared_test (Var 1) t) e
    where
      go : (o : Option Core) → is_some o ≡ true → after_said a (option_and_then (λ test. typed_along sy fs t os) o) ≡ after_said a (typed_along sy fs t os)
      go None e = cc
      go (Some f) e = refl

  pub typed_is : {h h' : Objects} → Extends h h' → (old : Declared) (spec list : Word) (b : Bool) (r : Option model.Declared) → declared_reach old ≤ length h → Lies h spec → Lies h list
      → b ≡ is_some (declared_test (Var 1) (object_of h spec)) → b ≡ true
      → after_said (seen_declared h' old) (typed_along sy fs (object_of h' spec) (items_along (object_of h' list))) ≡ r
      → after_said (seen_declared h old) (type_declared sy fs (object_of h spec ∷ items_along (object_of h list))) ≡ r
  typed_is {h} {h'} g old spec list b r l m n e f i =
      let j : after_said (seen_declared h old) (typed_along sy fs (object_of h spec) (items_along (object_of h list))) ≡ r = rw (said_later g old l, g.same spec m, g.same list n) at i in
      a_type (seen_declared h old) (object_of h spec) (items_along (object_of h list)) (sym e ∙ f) ∙ j

  pub type_first : (a : model.Declared) (o t d : Object ℕ) (r : Option model.Declared) → o ≡ Pair t d → after_said a (type_declared sy fs (t ∷ items_along d)) ≡ r → after_said a (type_declared sy fs (items_along o)) ≡ r
  type_first a o t d r e f = rw e f

  pub type_none : (a : model.Declared) (os : List (Object ℕ)) → os ≡ [] → after_said a (type_declared sy fs os) ≡ None
  type_none a os e = rw e refl
