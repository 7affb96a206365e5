-- What declarations say of a guard: each item has the property, where those of a form and of a type have it.
use Rattle.std.proofs.Common.{◌≡◌, ℕ, zero, suc, List, [], ◌∷◌, ◌++◌, length, drop, Bool, true, false, Option, Some, None, refl}
use Rattle.std.specs.Prelude.{not, codes, option_map, option_and_then, unwrap_or, if◌then◌else◌}
use Rattle.model_objects.specs.Object.{Object}
use Rattle.model_symbols.specs.Symbols.{QualifiedName}
use Rattle.model_symbols.specs.Opening.{truth}
use Rattle.model_terms.specs.Cores.{Core, Var}
use Rattle.model_expansion.specs.Words.{xargs_word, type_word, ignore_word, ignorable_word, optimize_word}
use Rattle.model_expansion.specs.Forms.{elements, each, is, is_key, is_keyword_object}
use Rattle.model_expansion.specs.TypeTerms.{declared_test}
use Rattle.model_expansion.specs.Layers.{GuardItem, FormHolds, Meets}
use Rattle.model_stobjs.specs.Descriptors.{before_first, from_first}
use Rattle.model_events.specs.Declarations.{Declared, nothing_declared, both_declared, all_declared, stobjs_of, keyed_declared, xargs_declared, declared_formal, type_items, items_of_all, type_declared, headed_declared, item_in, item_declared, declarations}

-- ---- options and lists

-- where there is one, it has the property
abbrev pub IfAny : {A : Type 0} → (A → Type 0) → Option A → Type 0
IfAny R None = Unit {0}
IfAny R (Some a) = R a

abbrev pub EachOne : {A : Type 0} → (A → Type 0) → List A → Type 0
EachOne R [] = Unit {0}
EachOne R (x ∷ xs) = R x × EachOne R xs

module _ {A B : Type 0} (R : A → Type 0) (S : B → Type 0) where
  pub any_map : (f : A → B) (v : Option A) → IfAny R v → ((a : A) → R a → S (f a)) → IfAny S (option_map f v)
  any_map f None h k = tt
  any_map f (Some a) h k = k a h

  pub any_then : (f : A → Option B) (v : Option A) → IfAny R v → ((a : A) → R a → IfAny S (f a)) → IfAny S (option_and_then f v)
  any_then f None h k = tt
  any_then f (Some a) h k = k a h

  pub any_each : (f : A → Option B) → ((a : A) → R a → IfAny S (f a)) → (xs : List A) → EachOne R xs → IfAny (EachOne S) (each f xs)
  any_each f k [] h = tt
  any_each f k (x ∷ xs) h = go (f x) (k x h.0) (each f xs) (any_each f k xs h.1)
    where
      go : (v : Option B) → IfAny S v → (vs : Option (List B)) → IfAny (EachOne S) vs → IfAny (EachOne S) (option_and_then (λ y. option_map (λ ys. y ∷ ys) vs) v)
      go None a vs b = tt
      go (Some y) a None b = tt
      go (Some y) a (Some ys) b = (a, b)

module _ {A : Type 0} (R : A → Type 0) where
  pub any_if : (b : Bool) (v u : Option A) → IfAny R v → IfAny R u → IfAny R (if b then v else u)
  any_if true v u h k = h
  any_if false v u h k = k

  pub each_both : (xs ys : List A) → EachOne R xs → EachOne R ys → EachOne R (xs ++ ys)
  each_both [] ys h k = k
  each_both (x ∷ xs) ys h k = (h.0, each_both xs ys h.1 k)

  pub each_drop : (n : ℕ) (xs : List A) → EachOne R xs → EachOne R (drop n xs)
  each_drop zero xs h = h
  each_drop (suc n) [] h = tt
  each_drop (suc n) (x ∷ xs) h = each_drop n xs h.1

  pub each_before : (f : A → Bool) (xs : List A) → EachOne R xs → EachOne R (before_first f xs)
  each_before f [] h = tt
  each_before f (x ∷ xs) h = go (f x) (each_before f xs h.1)
    where
      go : (b : Bool) → EachOne R (before_first f xs) → EachOne R (if b then [] else x ∷ before_first f xs)
      go true k = tt
      go false k = (h.0, k)

  pub each_from : (f : A → Bool) (xs : List A) → EachOne R xs → EachOne R (from_first f xs)
  each_from f xs h = each_drop (length (before_first f xs)) xs h

  pub each_unless : (v : Option (List A)) → IfAny (EachOne R) v → EachOne R (unwrap_or v [])
  each_unless None h = tt
  each_unless (Some xs) h = h

-- ---- items

-- what is asked of what is written, and of the items that are read out of it
pub record Reads (K : Object ℕ → Type 0) (Good : GuardItem → Type 0) : Type 0 where
  pub parts : (o : Object ℕ) → K o → IfAny (EachOne K) (elements o)
  pub holds : (v : Object ℕ) → K v → Good (FormHolds v)
  pub meets : (t : Object ℕ) (x : ℕ) (test : Core) → K t → declared_test (Var x) t ≡ Some test → Good (Meets test)

module _ (K : Object ℕ → Type 0) (Good : GuardItem → Type 0) (reads : Reads K Good) where
  abbrev pub GuardsGood : Declared → Type 0
  GuardsGood d = EachOne Good d.guards

  abbrev ItemsGood : List GuardItem → Type 0
  ItemsGood gs = EachOne Good gs

  module _ (symbols : List QualifiedName) where
    stobjs_good : (v : Option (List ℕ)) → IfAny GuardsGood (option_map (λ (names : List ℕ). record { guards = []; stobjs = names }) v)
    stobjs_good None = tt
    stobjs_good (Some names) = tt

    keyed_good : (k v : Object ℕ) → K v → IfAny GuardsGood (keyed_declared symbols k v)
    keyed_good k v h =
        any_if GuardsGood (not (is_keyword_object symbols k)) None _ tt
        (any_if GuardsGood (is_key symbols (codes "GUARD") k) (Some (record { guards = FormHolds v ∷ []; stobjs = [] })) _ (reads.holds v h, tt)
        (any_if GuardsGood (is_key symbols (codes "STOBJS") k) _ (Some nothing_declared) (stobjs_good (stobjs_of v)) tt))

    xargs_good : (os : List (Object ℕ)) → EachOne K os → IfAny GuardsGood (xargs_declared symbols os)
    xargs_good [] h = tt
    xargs_good (k ∷ []) h = tt
    xargs_good (k ∷ (v ∷ os)) h = go (keyed_declared symbols k v) (keyed_good k v h.1.0) (xargs_declared symbols os) (xargs_good os h.1.1)
      where
        go : (d : Option Declared) → IfAny GuardsGood d → (e : Option Declared) → IfAny GuardsGood e → IfAny GuardsGood (option_and_then (λ d. option_map (both_declared d) e) d)
        go None a e b = tt
        go (Some d) a None b = tt
        go (Some d) a (Some e) b = each_both Good d.guards e.guards a b

    type_good : (t : Object ℕ) → K t → (x : ℕ) → IfAny ItemsGood (type_items symbols t x)
    type_good t h x = go (declared_test (Var x) t) refl
      where
        by_test : (b : Bool) (test : Core) → EachOne Good (Meets test ∷ []) → EachOne Good (if b then [] else Meets test ∷ [])
        by_test true test k = tt
        by_test false test k = k

        go : (test : Option Core) → declared_test (Var x) t ≡ test → IfAny ItemsGood (option_map (λ test. if is truth t then [] else Meets test ∷ []) test)
        go None e = tt
        go (Some test) e = by_test (is truth t) test (reads.meets t x test h e, tt)

    any_number : (xs : List ℕ) → EachOne (λ (x : ℕ). Unit {0}) xs
    any_number [] = tt
    any_number (x ∷ xs) = (tt, any_number xs)

    joined_good : (gs : List (List GuardItem)) → EachOne ItemsGood gs → EachOne Good (items_of_all symbols gs).guards
    joined_good [] h = tt
    joined_good (g ∷ gs) h = each_both Good g (items_of_all symbols gs).guards h.0 (joined_good gs h.1)

    types_good : (formals : List ℕ) (os : List (Object ℕ)) → EachOne K os → IfAny GuardsGood (type_declared symbols formals os)
    types_good formals [] h = tt
    types_good formals (t ∷ os) h = go (declared_test _ t) (each (declared_formal symbols formals) os)
      where
        go : (test : Option Core) (xs : Option (List ℕ)) → IfAny GuardsGood (option_and_then (λ test. option_and_then (λ xs. option_map (items_of_all symbols) (each (type_items symbols t) xs)) xs) test)
        go None xs = tt
        go (Some test) None = tt
        go (Some test) (Some xs) =
            any_map (EachOne ItemsGood) GuardsGood (items_of_all symbols) (each (type_items symbols t) xs) (any_each (λ (x : ℕ). Unit {0}) ItemsGood (type_items symbols t) (λ x k. type_good t h.0 x) xs (any_number xs)) joined_good

    headed_good : (formals : List ℕ) (h : Object ℕ) (os : List (Object ℕ)) → EachOne K os → IfAny GuardsGood (headed_declared symbols formals h os)
    headed_good formals h os k =
        any_if GuardsGood (is xargs_word h) _ _ (xargs_good os k)
        (any_if GuardsGood (is type_word h) _ _ (types_good formals os k)
        (any_if GuardsGood (is ignore_word h) (Some nothing_declared) _ tt
        (any_if GuardsGood (is ignorable_word h) (Some nothing_declared) _ tt
        (any_if GuardsGood (is optimize_word h) (Some nothing_declared) None tt tt))))

    item_good : (formals : List ℕ) (o : Object ℕ) → K o → IfAny GuardsGood (item_declared symbols formals o)
    item_good formals o h = any_then (EachOne K) GuardsGood (item_in symbols formals) (elements o) (reads.parts o h) (λ os k. go os k)
      where
        go : (os : List (Object ℕ)) → EachOne K os → IfAny GuardsGood (item_in symbols formals os)
        go [] k = tt
        go (x ∷ xs) k = headed_good formals x xs k.1

    all_good : (ds : List Declared) → EachOne GuardsGood ds → GuardsGood (all_declared ds)
    all_good [] h = tt
    all_good (d ∷ ds) h = each_both Good d.guards (all_declared ds).guards h.0 (all_good ds h.1)

    pub declared_good : (formals : List ℕ) (items : List (Object ℕ)) → EachOne K items → IfAny GuardsGood (declarations symbols formals items)
    unfolding declarations
    declared_good formals items h =
        any_map (EachOne GuardsGood) GuardsGood all_declared (each (item_declared symbols formals) items) (any_each K GuardsGood (item_declared symbols formals) (item_good formals) items h) all_good
