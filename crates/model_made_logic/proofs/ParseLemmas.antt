-- What is read out of the form of an event has the form's symbols.
use Rattle.std.proofs.Common.{◌≡◌, ℕ, zero, suc, ◌<◌, ◌≤◌, List, [], ◌∷◌, ◌++◌, length, map, drop, Bool, true, false, Option, Some, None, refl, arith}
use Rattle.std.specs.Prelude.{not, nat_eq, codes, option_map, option_and_then, unwrap_or, if◌then◌else◌}
use Rattle.std.specs.List.{find}
use Rattle.std.specs.Option.{option_map_or}
use Rattle.std.specs.Str.{bytes_eq}
use Rattle.model_objects.specs.Object.{Object, Integer, Symbol, Text, Pair}
use Rattle.model_objects.specs.Named.{Knows}
use Rattle.model_symbols.specs.Symbols.{QualifiedName}
use Rattle.model_symbols.specs.Opening.{truth, nil, quote}
use Rattle.model_terms.specs.Cores.{Core, Var}
use Rattle.model_expansion.specs.Words.{declare_word, xargs_word, type_word, ignore_word, ignorable_word, optimize_word, defun_word, defund_word, defun_nx_word, mutual_recursion_word, optional_word, key_word}
use Rattle.model_expansion.specs.Forms.{elements, each, each_of, is, symbol, text, is_key, is_keyword_object, symbol_or_nil}
use Rattle.model_expansion.specs.TypeTerms.{declared_test}
use Rattle.model_expansion.specs.Layers.{GuardItem, FormHolds, Meets}
use Rattle.model_expansion_forms.specs.Nodes.{IsBelow}
use Rattle.model_expansion_forms.specs.Rows.{AreKnownItems, AreKnownDefaults}
use Rattle.model_expansion_forms.proofs.PartLemmas.{AllHave, AllHaveIfAny, elements_have}
use Rattle.model_expansion_forms.proofs.LawLemmas.{tests_are_shaped}
use Rattle.model_stobjs.specs.Descriptors.{before_first, from_first}
use Rattle.model_stobjs.specs.Keys.{Keyed, key_value, with_key, keys_in, is_given, known_key}
use Rattle.model_events.specs.Constants.{ends_well, name_and_form, text_and_form_of, text_and_form}
use Rattle.model_events.specs.Declarations.{declared_items, with_items, items_and_body, formals_of, Declared, nothing_declared, both_declared, all_declared, stobjs_of, keyed_declared, xargs_declared, declared_formal, type_items, items_of_all, type_declared, headed_declared, item_in, item_declared, declarations}
use Rattle.model_events.specs.Macros as macros
use Rattle.model_events.specs.Macros.{WrittenOptional, WrittenFormals, WrittenMacro, is_rest_mark, is_mark, quoted_in, optional_of, optional_in, written_optional, marked_section, rest_section, all_taken, written_formals, written_macro, optional_formal, macro_formals}
use Rattle.model_events.specs.Functions as functions
use Rattle.model_events.specs.Functions.{WrittenFunction, written_of, written_function, headed_function, at_least_one, written_clique, one_function, written_functions, Draft, drafts_of}

-- ---- options and lists

-- where there is one, it has the property
abbrev pub IfAny : {A : Type 0} → (A → Type 0) → Option A → Type 0
IfAny R None = Unit {0}
IfAny R (Some a) = R a

abbrev pub EachOne : {A : Type 0} → (A → Type 0) → List A → Type 0
EachOne R [] = Unit {0}
EachOne R (a ∷ as') = R a × EachOne R as'

module _ {A B : Type 0} (R : A → Type 0) (S : B → Type 0) where
  pub any_map : (f : A → B) (v : Option A) → IfAny R v → ((a : A) → R a → S (f a)) → IfAny S (option_map f v)
  any_map f None h k = tt
  any_map f (Some a) h k = k a h

  pub any_then : (f : A → Option B) (v : Option A) → IfAny R v → ((a : A) → R a → IfAny S (f a)) → IfAny S (option_and_then f v)
  any_then f None h k = tt
  any_then f (Some a) h k = k a h

  pub any_each : (f : A → Option B) → ((a : A) → R a → IfAny S (f a)) → (xs : List A) → EachOne R xs → IfAny (EachOne S) (each f xs)
  any_each f k [] h = tt
  any_each f k (x ∷ xs) h = go (f x) (k x h.0) (each f xs) (any_each f k xs h.1)
    where
      go : (v : Option B) → IfAny S v → (vs : Option (List B)) → IfAny (EachOne S) vs → IfAny (EachOne S) (option_and_then (λ y. option_map (λ ys. y ∷ ys) vs) v)
      go None a vs b = tt
      go (Some y) a None b = tt
      go (Some y) a (Some ys) b = (a, b)

module _ {A : Type 0} (R : A → Type 0) where
  pub any_if : (b : Bool) (v u : Option A) → IfAny R v → IfAny R u → IfAny R (if b then v else u)
  any_if true v u h k = h
  any_if false v u h k = k

  pub each_both : (xs ys : List A) → EachOne R xs → EachOne R ys → EachOne R (xs ++ ys)
  each_both [] ys h k = k
  each_both (x ∷ xs) ys h k = (h.0, each_both xs ys h.1 k)

  pub each_drop : (n : ℕ) (xs : List A) → EachOne R xs → EachOne R (drop n xs)
  each_drop zero xs h = h
  each_drop (suc n) [] h = tt
  each_drop (suc n) (x ∷ xs) h = each_drop n xs h.1

  pub each_before : (f : A → Bool) (xs : List A) → EachOne R xs → EachOne R (before_first f xs)
  each_before f [] h = tt
  each_before f (x ∷ xs) h = go (f x) (each_before f xs h.1)
    where
      go : (b : Bool) → EachOne R (before_first f xs) → EachOne R (if b then [] else x ∷ before_first f xs)
      go true k = tt
      go false k = (h.0, k)

  pub each_from : (f : A → Bool) (xs : List A) → EachOne R xs → EachOne R (from_first f xs)
  each_from f xs h = each_drop (length (before_first f xs)) xs h

  pub each_unless : (v : Option (List A)) → IfAny (EachOne R) v → EachOne R (unwrap_or v [])
  each_unless None h = tt
  each_unless (Some xs) h = h

module _ (m : ℕ) (two : 2 ≤ m) where
  abbrev pub Known : Object ℕ → Type 0
  Known o = Knows m o

  abbrev pub AreKnown : List (Object ℕ) → Type 0
  AreKnown os = EachOne Known os

  abbrev pub Below : ℕ → Type 0
  Below s = s < m

  have_each : (os : List (Object ℕ)) → AllHave (IsBelow m) os → AreKnown os
  have_each [] h = tt
  have_each (o ∷ os) h = (h.0, have_each os h.1)

  pub elements_known : (d : Object ℕ) → Known d → IfAny AreKnown (elements d)
  elements_known d h = go (elements d) (elements_have (IsBelow m) d h)
    where
      go : (v : Option (List (Object ℕ))) → AllHaveIfAny (IsBelow m) v → IfAny AreKnown v
      go None k = tt
      go (Some os) k = have_each os k

  pub symbol_known : (o : Object ℕ) → Known o → IfAny Below (symbol o)
  symbol_known (Integer n) h = tt
  symbol_known (Symbol s) h = h
  symbol_known (Text bytes) h = tt
  symbol_known (Pair a d) h = tt

  pub number_known : (o : Object ℕ) → Known o → unwrap_or (symbol o) nil < m
  number_known (Integer n) h = omega (arith, two)
  number_known (Symbol s) h = h
  number_known (Text bytes) h = omega (arith, two)
  number_known (Pair a d) h = omega (arith, two)

  pub symbols_known : (o : Object ℕ) → Known o → IfAny (EachOne Below) (each_of symbol o)
  symbols_known o h = any_then AreKnown (EachOne Below) (each symbol) (elements o) (elements_known o h) (any_each Known Below symbol symbol_known)

  -- ---- constants and packages

  abbrev pub FormKnown : {A : Type 0} → A × Object ℕ → Type 0
  FormKnown c = Known c.1

  named_form : (os : List (Object ℕ)) → AreKnown os → IfAny FormKnown (name_and_form os)
  named_form [] h = tt
  named_form (name ∷ []) h = tt
  named_form (name ∷ (form ∷ os)) h = any_if FormKnown (ends_well os) (Some (name, form)) None h.1.0 tt

  pub constant_form : (d : Object ℕ) → Known d → IfAny FormKnown (option_and_then name_and_form (elements d))
  constant_form d h = any_then AreKnown FormKnown name_and_form (elements d) (elements_known d h) named_form

  pub package_form : (d : Object ℕ) → Known d → IfAny FormKnown (text_and_form d)
  package_form d h =
      any_then FormKnown FormKnown text_and_form_of (option_and_then name_and_form (elements d)) (constant_form d h) (λ c k. go c (text c.0) k)
    where
      go : (c : Object ℕ × Object ℕ) (v : Option (List ℕ)) → Known c.1 → IfAny FormKnown (option_map (λ (name : List ℕ). (name, c.1)) v)
      go c None k = tt
      go c (Some name) k = k

  -- ---- declarations and bodies

  -- the items of declarations, and a body
  abbrev pub BodyKnown : List (Object ℕ) × Object ℕ → Type 0
  BodyKnown p = AreKnown p.0 × Known p.1

  items_known : (d : Object ℕ) → Known d → IfAny AreKnown (declared_items d)
  items_known (Integer n) h = tt
  items_known (Symbol s) h = tt
  items_known (Text bytes) h = tt
  items_known (Pair a d) h = any_if AreKnown (is declare_word a) (elements d) None (elements_known d h.1) tt

  with_items_known : (v : Option (List (Object ℕ))) (later : Option (List (Object ℕ) × Object ℕ)) → IfAny AreKnown v → IfAny BodyKnown later → IfAny BodyKnown (with_items v later)
  with_items_known None later h k = tt
  with_items_known (Some items) None h k = tt
  with_items_known (Some items) (Some p) h k = (each_both Known items p.0 h k.0, k.1)

  pub body_known : (os : List (Object ℕ)) → AreKnown os → IfAny BodyKnown (items_and_body os)
  body_known [] h = tt
  body_known (body ∷ []) h = (tt, h.0)
  body_known (d ∷ (e ∷ os)) h = with_items_known (declared_items d) (items_and_body (e ∷ os)) (items_known d h.0) (body_known (e ∷ os) h.1)

  -- ---- guards

  abbrev pub GuardsKnown : Declared → Type 0
  GuardsKnown d = AreKnownItems m d.guards

  items_both : (gs hs : List GuardItem) → AreKnownItems m gs → AreKnownItems m hs → AreKnownItems m (gs ++ hs)
  items_both [] hs h k = k
  items_both (g ∷ gs) hs h k = (h.0, items_both gs hs h.1 k)

  module _ (symbols : List QualifiedName) where
    stobjs_known : (v : Option (List ℕ)) → IfAny GuardsKnown (option_map (λ (names : List ℕ). record { guards = []; stobjs = names }) v)
    stobjs_known None = tt
    stobjs_known (Some names) = tt

    keyed_known : (k v : Object ℕ) → Known v → IfAny GuardsKnown (keyed_declared symbols k v)
    keyed_known k v h =
        any_if GuardsKnown (not (is_keyword_object symbols k)) None _ tt
        (any_if GuardsKnown (is_key symbols (codes "GUARD") k) (Some (record { guards = FormHolds v ∷ []; stobjs = [] })) _ (h, tt)
        (any_if GuardsKnown (is_key symbols (codes "STOBJS") k) _ (Some nothing_declared) (stobjs_known (stobjs_of v)) tt))

    xargs_known : (os : List (Object ℕ)) → AreKnown os → IfAny GuardsKnown (xargs_declared symbols os)
    xargs_known [] h = tt
    xargs_known (k ∷ []) h = tt
    xargs_known (k ∷ (v ∷ os)) h = go (keyed_declared symbols k v) (keyed_known k v h.1.0) (xargs_declared symbols os) (xargs_known os h.1.1)
      where
        go : (d : Option Declared) → IfAny GuardsKnown d → (ds : Option Declared) → IfAny GuardsKnown ds → IfAny GuardsKnown (option_and_then (λ d. option_map (both_declared d) ds) d)
        go None a ds b = tt
        go (Some d) a None b = tt
        go (Some d) a (Some e) b = items_both d.guards e.guards a b

    abbrev ItemsKnown : List GuardItem → Type 0
    ItemsKnown gs = AreKnownItems m gs

    type_known : (t : Object ℕ) → Known t → (x : ℕ) → IfAny ItemsKnown (type_items symbols t x)
    type_known t h x = go (declared_test (Var x) t) refl
      where
        by_test : (b : Bool) (test : Core) → AreKnownItems m (Meets test ∷ []) → AreKnownItems m (if b then [] else Meets test ∷ [])
        by_test true test k = tt
        by_test false test k = k

        go : (test : Option Core) → declared_test (Var x) t ≡ test → IfAny ItemsKnown (option_map (λ test. if is truth t then [] else Meets test ∷ []) test)
        go None e = tt
        go (Some test) e = by_test (is truth t) test (tests_are_shaped.known_test m t (Var x) test two h tt tt tt e, tt)

    any_number : (xs : List ℕ) → EachOne (λ (x : ℕ). Unit {0}) xs
    any_number [] = tt
    any_number (x ∷ xs) = (tt, any_number xs)

    joined_known : (gs : List (List GuardItem)) → EachOne ItemsKnown gs → AreKnownItems m (items_of_all symbols gs).guards
    joined_known [] h = tt
    joined_known (g ∷ gs) h = items_both g (items_of_all symbols gs).guards h.0 (joined_known gs h.1)

    types_known : (formals : List ℕ) (os : List (Object ℕ)) → AreKnown os → IfAny GuardsKnown (type_declared symbols formals os)
    types_known formals [] h = tt
    types_known formals (t ∷ os) h = go (declared_test _ t) (each (declared_formal symbols formals) os)
      where
        go : (test : Option Core) (xs : Option (List ℕ)) → IfAny GuardsKnown (option_and_then (λ test. option_and_then (λ xs. option_map (items_of_all symbols) (each (type_items symbols t) xs)) xs) test)
        go None xs = tt
        go (Some test) None = tt
        go (Some test) (Some xs) =
            any_map (EachOne ItemsKnown) GuardsKnown (items_of_all symbols) (each (type_items symbols t) xs) (any_each (λ (x : ℕ). Unit {0}) ItemsKnown (type_items symbols t) (λ x k. type_known t h.0 x) xs (any_number xs)) joined_known

    headed_known : (formals : List ℕ) (h : Object ℕ) (os : List (Object ℕ)) → AreKnown os → IfAny GuardsKnown (headed_declared symbols formals h os)
    headed_known formals h os k =
        any_if GuardsKnown (is xargs_word h) _ _ (xargs_known os k)
        (any_if GuardsKnown (is type_word h) _ _ (types_known formals os k)
        (any_if GuardsKnown (is ignore_word h) (Some nothing_declared) _ tt
        (any_if GuardsKnown (is ignorable_word h) (Some nothing_declared) _ tt
        (any_if GuardsKnown (is optimize_word h) (Some nothing_declared) None tt tt))))

    item_known : (formals : List ℕ) (o : Object ℕ) → Known o → IfAny GuardsKnown (item_declared symbols formals o)
    item_known formals o h = any_then AreKnown GuardsKnown (item_in symbols formals) (elements o) (elements_known o h) (λ os k. go os k)
      where
        go : (os : List (Object ℕ)) → AreKnown os → IfAny GuardsKnown (item_in symbols formals os)
        go [] k = tt
        go (x ∷ xs) k = headed_known formals x xs k.1

    all_known : (ds : List Declared) → EachOne GuardsKnown ds → GuardsKnown (all_declared ds)
    all_known [] h = tt
    all_known (d ∷ ds) h = items_both d.guards (all_declared ds).guards h.0 (all_known ds h.1)

    pub declared_known : (formals : List ℕ) (items : List (Object ℕ)) → AreKnown items → IfAny GuardsKnown (declarations symbols formals items)
    unfolding declarations
    declared_known formals items h =
        any_map (EachOne GuardsKnown) GuardsKnown all_declared (each (item_declared symbols formals) items) (any_each Known GuardsKnown (item_declared symbols formals) (item_known formals) items h) all_known

  -- ---- functions

  abbrev pub FunctionKnown : WrittenFunction → Type 0
  FunctionKnown f = AreKnown f.items × Known f.body

  abbrev pub DraftKnown : Draft → Type 0
  DraftKnown d = AreKnownItems m d.declared.guards × Known d.body

  function_in : (executable : Bool) (os : List (Object ℕ)) → AreKnown os → IfAny FunctionKnown (functions.written_in executable os)
  function_in executable [] h = tt
  function_in executable (name ∷ []) h = tt
  function_in executable (name ∷ (formals ∷ os)) h = go (elements formals)
    where
      go : (v : Option (List (Object ℕ))) → IfAny FunctionKnown (option_and_then (λ xs. option_map (written_of executable name xs) (items_and_body os)) v)
      go None = tt
      go (Some xs) = any_map BodyKnown FunctionKnown (written_of executable name xs) (items_and_body os) (body_known os h.1.1) (λ p k. k)

  function_known : (executable : Bool) (d : Object ℕ) → Known d → IfAny FunctionKnown (written_function executable d)
  function_known executable d h = any_then AreKnown FunctionKnown (functions.written_in executable) (elements d) (elements_known d h) (function_in executable)

  headed_written : (o : Object ℕ) → Known o → IfAny FunctionKnown (headed_function o)
  headed_written (Integer n) h = tt
  headed_written (Symbol s) h = tt
  headed_written (Text bytes) h = tt
  headed_written (Pair a d) h =
      any_if FunctionKnown (is defun_word a) _ _ (function_known true d h.1)
      (any_if FunctionKnown (is defund_word a) _ _ (function_known true d h.1) (any_if FunctionKnown (is defun_nx_word a) _ None (function_known false d h.1) tt))

  some_known : (fs : List WrittenFunction) → EachOne FunctionKnown fs → IfAny (EachOne FunctionKnown) (at_least_one fs)
  some_known [] h = tt
  some_known (f ∷ fs) h = h

  clique_known : (d : Object ℕ) → Known d → IfAny (EachOne FunctionKnown) (written_clique d)
  clique_known d h =
      any_then (EachOne FunctionKnown) (EachOne FunctionKnown) at_least_one (option_and_then (each headed_function) (elements d))
      (any_then AreKnown (EachOne FunctionKnown) (each headed_function) (elements d) (elements_known d h) (any_each Known FunctionKnown headed_function headed_written)) some_known

  one_known : (executable : Bool) (d : Object ℕ) → Known d → IfAny (EachOne FunctionKnown) (one_function executable d)
  one_known executable d h = any_map FunctionKnown (EachOne FunctionKnown) (λ f. f ∷ []) (written_function executable d) (function_known executable d h) (λ f k. (k, tt))

  pub functions_known : (head : ℕ) (d : Object ℕ) → Known d → IfAny (EachOne FunctionKnown) (written_functions head d)
  functions_known head d h =
      any_if (EachOne FunctionKnown) (nat_eq head mutual_recursion_word) _ _ (clique_known d h) (any_if (EachOne FunctionKnown) (nat_eq head defun_nx_word) _ _ (one_known false d h) (one_known true d h))

  pub drafts_known : (symbols : List QualifiedName) (fs : List WrittenFunction) → EachOne FunctionKnown fs → EachOne DraftKnown (drafts_of symbols fs)
  drafts_known symbols [] h = tt
  drafts_known symbols (f ∷ fs) h =
      go (declarations symbols (formals_of symbols f.formals) f.items) (declared_known symbols (formals_of symbols f.formals) f.items h.0.0) (drafts_known symbols fs h.1)
    where
      go : (v : Option Declared) → IfAny GuardsKnown v → EachOne DraftKnown (drafts_of symbols fs)
          → EachOne DraftKnown (option_map_or (λ d. d ∷ drafts_of symbols fs)
          (option_map (λ declared. record { name = symbol_or_nil f.name; formals = formals_of symbols f.formals; declared = declared; body = f.body; executable = f.executable }) v) (drafts_of symbols fs))
      go None k later = later
      go (Some declared) k later = ((k, h.0.1), later)

  -- ---- macros

  abbrev OptionalKnown : WrittenOptional → Type 0
  OptionalKnown f = Known f.default

  quoted_known : (v : Option (List (Object ℕ))) → IfAny AreKnown v → IfAny Known (quoted_in v)
  quoted_known None h = tt
  quoted_known (Some []) h = tt
  quoted_known (Some (q ∷ [])) h = tt
  quoted_known (Some (q ∷ (o ∷ []))) h = any_if Known (is quote q) (Some o) None h.1.0 tt
  quoted_known (Some (q ∷ (o ∷ (p ∷ os)))) h = tt

  default_known : (v : Object ℕ) (supplied : Option (Object ℕ)) (d : Object ℕ) → Known d → IfAny OptionalKnown (optional_of v supplied d)
  default_known v supplied d h =
      any_map Known OptionalKnown (λ o. record { name = v; default = o; supplied = supplied }) (quoted_in (elements d)) (quoted_known (elements d) (elements_known d h)) (λ o k. k)

  optional_parts : (os : List (Object ℕ)) → AreKnown os → IfAny OptionalKnown (optional_in os)
  optional_parts [] h = tt
  optional_parts (v ∷ []) h = tt
  optional_parts (v ∷ (d ∷ [])) h = default_known v None d h.1.0
  optional_parts (v ∷ (d ∷ (s ∷ []))) h = default_known v (Some s) d h.1.0
  optional_parts (v ∷ (d ∷ (s ∷ (o ∷ os)))) h = tt

  optional_known : (o : Object ℕ) → Known o → IfAny OptionalKnown (written_optional o)
  optional_known (Integer n) h = omega (arith, two)
  optional_known (Symbol s) h = omega (arith, two)
  optional_known (Text bytes) h = omega (arith, two)
  optional_known (Pair a d) h = any_then AreKnown OptionalKnown optional_in (elements (Pair a d)) (elements_known (Pair a d) h) optional_parts

  abbrev SectionKnown : Option (List WrittenOptional) × List (Object ℕ) → Type 0
  SectionKnown p = IfAny (EachOne OptionalKnown) p.0 × AreKnown p.1

  abbrev RestKnown : Option (Object ℕ) × List (Object ℕ) → Type 0
  RestKnown p = AreKnown p.1

  marked_known : (mark : ℕ) (os : List (Object ℕ)) → AreKnown os → IfAny SectionKnown (marked_section mark os)
  marked_known mark [] h = (tt, tt)
  marked_known mark (o ∷ os) h =
      any_if SectionKnown (is mark o) _ (Some (None, o ∷ os))
      (any_map (EachOne OptionalKnown) SectionKnown (λ fs. (Some fs, from_first is_mark os)) (each written_optional (before_first is_mark os))
      (any_each Known OptionalKnown written_optional optional_known (before_first is_mark os) (each_before Known is_mark os h.1)) (λ fs k. (k, each_from Known is_mark os h.1)))
      (tt, h)

  rest_known : (os : List (Object ℕ)) → AreKnown os → IfAny RestKnown (rest_section os)
  rest_known [] h = tt
  rest_known (o ∷ []) h = any_if RestKnown (is_rest_mark o) None (Some (None, o ∷ [])) tt h
  rest_known (o ∷ (v ∷ os)) h = any_if RestKnown (is_rest_mark o) (if is_mark v then None else Some (Some v, os)) (Some (None, o ∷ (v ∷ os))) (any_if RestKnown (is_mark v) None (Some (Some v, os)) tt h.1.1) h

  abbrev FormalsKnown : WrittenFormals → Type 0
  FormalsKnown f = EachOne OptionalKnown f.optional × IfAny (EachOne OptionalKnown) f.keys

  taken_known : (f : WrittenFormals) (os : List (Object ℕ)) → FormalsKnown f → IfAny FormalsKnown (all_taken f os)
  taken_known f [] h = h
  taken_known f (o ∷ os) h = tt

  formals_known : (os : List (Object ℕ)) → AreKnown os → IfAny FormalsKnown (written_formals os)
  formals_known os h =
      any_then SectionKnown FormalsKnown _ (marked_section optional_word (from_first is_mark os)) (marked_known optional_word (from_first is_mark os) (each_from Known is_mark os h)) (λ opt k.
      any_then RestKnown FormalsKnown _ (rest_section opt.1) (rest_known opt.1 k.1) (λ r l.
      any_then SectionKnown FormalsKnown _ (marked_section key_word r.1) (marked_known key_word r.1 l) (λ ks q.
      taken_known (record { required = before_first is_mark os; optional = unwrap_or opt.0 []; rest = r.0; keys = ks.0 }) ks.1 (each_unless OptionalKnown opt.0 k.0, q.0))))

  abbrev pub MacroKnown : WrittenMacro → Type 0
  MacroKnown w = FormalsKnown w.formals × Known w.body

  macro_in : (os : List (Object ℕ)) → AreKnown os → IfAny MacroKnown (macros.written_in os)
  macro_in [] h = tt
  macro_in (name ∷ []) h = tt
  macro_in (name ∷ (formals ∷ os)) h =
      any_then FormalsKnown MacroKnown (λ fs. option_map (λ (p : List (Object ℕ) × Object ℕ). record { name = name; formals = fs; items = p.0; body = p.1 }) (items_and_body os)) (option_and_then written_formals (elements formals))
      (any_then AreKnown FormalsKnown written_formals (elements formals) (elements_known formals h.1.0) formals_known) (λ fs k.
      any_map BodyKnown MacroKnown (λ (p : List (Object ℕ) × Object ℕ). record { name = name; formals = fs; items = p.0; body = p.1 }) (items_and_body os) (body_known os h.1.1) (λ p q. (k, q.1)))

  pub macro_known : (d : Object ℕ) → Known d → IfAny MacroKnown (written_macro d)
  unfolding written_macro
  macro_known d h = any_then AreKnown MacroKnown macros.written_in (elements d) (elements_known d h) macro_in

  mapped_defaults : (fs : List WrittenOptional) → EachOne OptionalKnown fs → AreKnownDefaults m (map optional_formal fs)
  mapped_defaults [] h = tt
  mapped_defaults (f ∷ fs) h = (h.0, mapped_defaults fs h.1)

  pub macro_defaults : (f : WrittenFormals) → FormalsKnown f → AreKnownDefaults m (macro_formals f).optional × AreKnownDefaults m (unwrap_or (macro_formals f).keys [])
  macro_defaults f h = (mapped_defaults f.optional h.0, go f.keys h.1)
    where
      go : (v : Option (List WrittenOptional)) → IfAny (EachOne OptionalKnown) v → AreKnownDefaults m (unwrap_or (option_map (map optional_formal) v) [])
      go None k = tt
      go (Some fs) k = mapped_defaults fs k

  -- ---- keys with values

  abbrev KeyKnown : Keyed → Type 0
  KeyKnown k = Known k.1

  with_key_known : (name : Option (List ℕ)) (value : Object ℕ) (ks : List Keyed) (symbols : List QualifiedName) (known : List (List ℕ)) → Known value → EachOne KeyKnown ks → IfAny (EachOne KeyKnown) (with_key symbols known name value ks)
  with_key_known None value ks symbols known h k = tt
  with_key_known (Some name) value ks symbols known h k = any_if (EachOne KeyKnown) (is_given name ks) None (Some ((name, value) ∷ ks)) tt (h, k)

  pub keys_known : (symbols : List QualifiedName) (known : List (List ℕ)) (os : List (Object ℕ)) → AreKnown os → IfAny (EachOne KeyKnown) (keys_in symbols known os)
  keys_known symbols known [] h = tt
  keys_known symbols known (k ∷ []) h = tt
  keys_known symbols known (k ∷ (value ∷ os)) h =
      any_then (EachOne KeyKnown) (EachOne KeyKnown) (with_key symbols known (known_key symbols known k) value) (keys_in symbols known os) (keys_known symbols known os h.1.1)
      (λ ks l. with_key_known (known_key symbols known k) value ks symbols known h.1.0 l)

  pub key_value_known : (name : List ℕ) (ks : List Keyed) → EachOne KeyKnown ks → IfAny Known (key_value name ks)
  key_value_known name [] h = tt
  key_value_known name (k ∷ ks) h = go (bytes_eq name k.0) (key_value_known name ks h.1)
    where
      go : (b : Bool) → IfAny Known (key_value name ks) → IfAny Known (option_map (λ (k : Keyed). k.1) (if b then Some k else find (λ (k : Keyed). bytes_eq name k.0) ks))
      go true later = h.0
      go false later = later
