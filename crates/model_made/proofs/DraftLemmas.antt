-- Functions as they are written: their names are new, their formals differ, and their guards are shaped.
use Rattle.std.proofs.Common.{◌≡◌, ℕ, List, [], ◌∷◌, ◌++◌, map, Bool, true, false, Option, Some, None, refl, sym, ap, ◌∙◌}
use Rattle.std.specs.Prelude.{nat_eq, ◌||◌, not, is_some, option_map, option_and_then, if◌then◌else◌, codes}
use Rattle.std.specs.Option.{option_or, option_map_or}
use Rattle.std.proofs.lemmas.Bool.{eqb-true}
use Rattle.model_objects.specs.Object.{Object}
use Rattle.model_symbols.specs.Symbols.{QualifiedName}
use Rattle.model_symbols.specs.Opening.{truth}
use Rattle.model_terms.specs.Cores.{Core, Var}
use Rattle.model_terms.specs.Worlds.{World, Definition, definition, definition_name, Named}
use Rattle.model_terms.specs.Classes.{has, repeats}
use Rattle.model_eval_laws.proofs.Lists.{same_number}
use Rattle.model_accepted.proofs.AcceptLemmas.{neither, true_false}
use Rattle.model_expansion.specs.Words.{xargs_word, type_word, ignore_word, ignorable_word, optimize_word}
use Rattle.model_expansion.specs.Forms.{elements, each, is, is_key, is_keyword_object, symbol_or_nil}
use Rattle.model_expansion.specs.Faults.{Refusal, DuplicateFormal, NameInUse}
use Rattle.model_expansion.specs.TypeTerms.{declared_test}
use Rattle.model_expansion.specs.Layers.{GuardItem, FormHolds, Meets}
use Rattle.model_expansion_forms.specs.Rows.{IsShapedItem, AreShapedItems}
use Rattle.model_expansion_forms.proofs.LawLemmas.{tests_are_shaped}
use Rattle.model_stobjs.specs.Answers.{first_given}
use Rattle.model_stobjs.specs.Heads.{is_reserved, is_in_use, name_in_use, bad_name}
use Rattle.model_events.specs.Declarations.{repeated_among, bad_formal, formals_of, formals_fault, Declared, nothing_declared, both_declared, all_declared, stobjs_of, keyed_declared, xargs_declared, declared_formal, type_items, items_of_all, type_declared, headed_declared, item_in, item_declared, declarations}
use Rattle.model_events.specs.Functions.{WrittenFunction, Draft, drafts_of, written_fault}

pub none_or : {A : Type 0} (a b : Option A) → option_or a b ≡ None → (a ≡ None) × (b ≡ None)
none_or None b e = (refl, e)
none_or (Some v) b e = cc

-- ---- names

-- a name that is free has no definition, and does not come again
pub record IsFree (w : World) (others : List ℕ) (s : ℕ) : Type 0 where
  pub nothing : definition w s ≡ None
  pub once : has others s ≡ false

pub first_free : (w : World) (s : ℕ) (ss : List ℕ) → name_in_use w (s ∷ ss) ≡ None → IsFree w ss s × (name_in_use w ss ≡ None)
unfolding name_in_use
first_free w s ss e = go (is_in_use w ss s) refl e
  where
    nothing_there : (d : Option Definition) → is_some d ≡ false → d ≡ None
    nothing_there None f = refl
    nothing_there (Some d) f = true_false f

    go : (b : Bool) → is_in_use w ss s ≡ b → (if b then Some (NameInUse s) else name_in_use w ss) ≡ None → IsFree w ss s × (name_in_use w ss ≡ None)
    go true f g = cc
    go false f g =
        let both = neither (is_some (definition w s)) (is_reserved s || has ss s) f in
        (record { nothing = nothing_there (definition w s) both.0; once = (neither (is_reserved s) (has ss s) both.1).1 }, g)

-- new definitions, none of which has the name of another
abbrev pub AreNew : World → World → Type 0
AreNew w [] = Unit {0}
AreNew w (d ∷ ds) = (definition w (definition_name d) ≡ None) × (definition ds (definition_name d) ≡ None) × AreNew w ds

abbrev pub named_draft : Draft → Definition
named_draft d = Named d.name d.formals

not_among : (ds : List Draft) (x : ℕ) → has (map (λ (d : Draft). d.name) ds) x ≡ false → definition (map named_draft ds) x ≡ None
not_among [] x e = refl
not_among (d ∷ ds) x e = go (nat_eq x d.name) e (not_among ds x)
  where
    go : (b : Bool) → (b || has (map (λ (d : Draft). d.name) ds) x) ≡ false → (has (map (λ (d : Draft). d.name) ds) x ≡ false → definition (map named_draft ds) x ≡ None)
        → (if b then Some (named_draft d) else definition (map named_draft ds) x) ≡ None
    go true f later = true_false f
    go false f later = later f

abbrev number_of_name : WrittenFunction → ℕ
number_of_name f = symbol_or_nil f.name

module _ (symbols : List QualifiedName) where
  fewer : (fs : List WrittenFunction) (x : ℕ) → has (map number_of_name fs) x ≡ false → has (map (λ (d : Draft). d.name) (drafts_of symbols fs)) x ≡ false
  fewer [] x e = refl
  fewer (f ∷ fs) x e =
      let both = neither (nat_eq x (symbol_or_nil f.name)) (has (map number_of_name fs) x) e in
      go (declarations symbols (formals_of symbols f.formals) f.items) (fewer fs x both.1) both.0
    where
      go : (v : Option Declared) → has (map (λ (d : Draft). d.name) (drafts_of symbols fs)) x ≡ false → nat_eq x (symbol_or_nil f.name) ≡ false
          → has (map (λ (d : Draft). d.name) (option_map_or (λ d. d ∷ drafts_of symbols fs)
          (option_map (λ declared. record { name = symbol_or_nil f.name; formals = formals_of symbols f.formals; declared = declared; body = f.body; executable = f.executable }) v) (drafts_of symbols fs))) x ≡ false
      go None later other = later
      go (Some declared) later other = rw other later

  drafts_new : (w : World) (fs : List WrittenFunction) → name_in_use w (map number_of_name fs) ≡ None → AreNew w (map named_draft (drafts_of symbols fs))
  drafts_new w [] e = tt
  drafts_new w (f ∷ fs) e =
      let both = first_free w (symbol_or_nil f.name) (map number_of_name fs) e in
      go (declarations symbols (formals_of symbols f.formals) f.items) both.0 (drafts_new w fs both.1)
    where
      go : (v : Option Declared) → IsFree w (map number_of_name fs) (symbol_or_nil f.name) → AreNew w (map named_draft (drafts_of symbols fs))
          → AreNew w (map named_draft (option_map_or (λ d. d ∷ drafts_of symbols fs)
          (option_map (λ declared. record { name = symbol_or_nil f.name; formals = formals_of symbols f.formals; declared = declared; body = f.body; executable = f.executable }) v) (drafts_of symbols fs)))
      go None free later = later
      go (Some declared) free later = (free.nothing, not_among (drafts_of symbols fs) (symbol_or_nil f.name) (fewer fs (symbol_or_nil f.name) free.once), later)

-- ---- formals

not_seen : (seen xs : List ℕ) → repeated_among seen xs ≡ None → (y : ℕ) → has seen y ≡ true → has xs y ≡ false
not_seen seen [] e y h = refl
not_seen seen (x ∷ xs) e y h = go (has seen x) refl e (not_seen (x ∷ seen) xs)
  where
    go : (b : Bool) → has seen x ≡ b → (if b then Some (DuplicateFormal x) else repeated_among (x ∷ seen) xs) ≡ None
        → (repeated_among (x ∷ seen) xs ≡ None → (y : ℕ) → has (x ∷ seen) y ≡ true → has xs y ≡ false) → (nat_eq y x || has xs y) ≡ false
    go true f g later = cc
    go false f g later = by_test (nat_eq y x) refl
      where
        either_true : (b c : Bool) → c ≡ true → (b || c) ≡ true
        either_true true c k = refl
        either_true false c k = k

        by_test : (c : Bool) → nat_eq y x ≡ c → (c || has xs y) ≡ false
        by_test true k = true_false (sym h ∙ (ap (λ (z : ℕ). has seen z) (eqb-true y x k) ∙ f))
        by_test false k = later g y (either_true (nat_eq y x) (has seen y) h)

once_each : (seen xs : List ℕ) → repeated_among seen xs ≡ None → repeats xs ≡ false
once_each seen [] e = refl
once_each seen (x ∷ xs) e = go (has seen x) e (not_seen (x ∷ seen) xs) (once_each (x ∷ seen) xs)
  where
    first : has (x ∷ seen) x ≡ true
    first = ap (λ (b : Bool). b || has seen x) (same_number x)

    go : (b : Bool) → (if b then Some (DuplicateFormal x) else repeated_among (x ∷ seen) xs) ≡ None
        → (repeated_among (x ∷ seen) xs ≡ None → (y : ℕ) → has (x ∷ seen) y ≡ true → has xs y ≡ false) → (repeated_among (x ∷ seen) xs ≡ None → repeats xs ≡ false) → (has xs x || repeats xs) ≡ false
    go true g h k = cc
    go false g h k = rw (h g x first, k g) refl

module _ (symbols : List QualifiedName) where
  -- what is asked of formals once none is bad
  abbrev after_bad : List (Object ℕ) → Option Refusal → Option Refusal
  after_bad os None = repeated_among [] (formals_of symbols os)
  after_bad os (Some r) = Some r

  pub formals_differ : (os : List (Object ℕ)) → formals_fault symbols os ≡ None → repeats (formals_of symbols os) ≡ false
  formals_differ os e = go (first_given (bad_formal symbols) os) e
    where
      go : (v : Option Refusal) → after_bad os v ≡ None → repeats (formals_of symbols os) ≡ false
      go None f = once_each [] (formals_of symbols os) f
      go (Some r) f = cc

-- ---- guards

both_items : (gs hs : List GuardItem) → AreShapedItems gs → AreShapedItems hs → AreShapedItems (gs ++ hs)
both_items [] hs h k = k
both_items (g ∷ gs) hs h k = (h.0, both_items gs hs h.1 k)

abbrev ShapedIfAny : Option Declared → Type 0
ShapedIfAny None = Unit {0}
ShapedIfAny (Some d) = AreShapedItems d.guards

abbrev AllShaped : List Declared → Type 0
AllShaped [] = Unit {0}
AllShaped (d ∷ ds) = AreShapedItems d.guards × AllShaped ds

all_shaped : (ds : List Declared) → AllShaped ds → AreShapedItems (all_declared ds).guards
all_shaped [] h = tt
all_shaped (d ∷ ds) h = both_items d.guards (all_declared ds).guards h.0 (all_shaped ds h.1)

shaped_if : (b : Bool) (v u : Option Declared) → ShapedIfAny v → ShapedIfAny u → ShapedIfAny (if b then v else u)
shaped_if true v u h k = h
shaped_if false v u h k = k

module _ (symbols : List QualifiedName) where
  keyed_shaped : (k v : Object ℕ) → ShapedIfAny (keyed_declared symbols k v)
  keyed_shaped k v =
      shaped_if (not (is_keyword_object symbols k)) None _ tt
      (shaped_if (is_key symbols (codes "GUARD") k) (Some (record { guards = FormHolds v ∷ []; stobjs = [] })) _ (tt, tt)
      (shaped_if (is_key symbols (codes "STOBJS") k) _ (Some nothing_declared) (names_shaped (stobjs_of v)) tt))
    where
      names_shaped : (names : Option (List ℕ)) → ShapedIfAny (option_map (λ names. record { guards = []; stobjs = names }) names)
      names_shaped None = tt
      names_shaped (Some names) = tt

  xargs_shaped : (os : List (Object ℕ)) → ShapedIfAny (xargs_declared symbols os)
  xargs_shaped [] = tt
  xargs_shaped (k ∷ []) = tt
  xargs_shaped (k ∷ (v ∷ os)) = go (keyed_declared symbols k v) (keyed_shaped k v) (xargs_declared symbols os) (xargs_shaped os)
    where
      go : (d : Option Declared) → ShapedIfAny d → (e : Option Declared) → ShapedIfAny e → ShapedIfAny (option_and_then (λ d. option_map (both_declared d) e) d)
      go None h e k = tt
      go (Some d) h None k = tt
      go (Some d) h (Some e) k = both_items d.guards e.guards h k

  abbrev ItemsIfAny : Option (List GuardItem) → Type 0
  ItemsIfAny None = Unit {0}
  ItemsIfAny (Some gs) = AreShapedItems gs

  abbrev AllItems : List (List GuardItem) → Type 0
  AllItems [] = Unit {0}
  AllItems (g ∷ gs) = AreShapedItems g × AllItems gs

  abbrev AllItemsIfAny : Option (List (List GuardItem)) → Type 0
  AllItemsIfAny None = Unit {0}
  AllItemsIfAny (Some gs) = AllItems gs

  items_shaped : (t : Object ℕ) (x : ℕ) → ItemsIfAny (type_items symbols t x)
  items_shaped t x = go (declared_test (Var x) t) refl
    where
      by_test : (b : Bool) (test : Core) → IsShapedItem (Meets test) → AreShapedItems (if b then [] else Meets test ∷ [])
      by_test true test h = tt
      by_test false test h = (h, tt)

      go : (test : Option Core) → declared_test (Var x) t ≡ test → ItemsIfAny (option_map (λ test. if is truth t then [] else Meets test ∷ []) test)
      go None e = tt
      go (Some test) e = by_test (is truth t) test (tests_are_shaped.test t (Var x) test tt tt e)

  each_shaped : (t : Object ℕ) (xs : List ℕ) → AllItemsIfAny (each (type_items symbols t) xs)
  each_shaped t [] = tt
  each_shaped t (x ∷ xs) = go (type_items symbols t x) (items_shaped t x) (each (type_items symbols t) xs) (each_shaped t xs)
    where
      go : (g : Option (List GuardItem)) → ItemsIfAny g → (gs : Option (List (List GuardItem))) → AllItemsIfAny gs → AllItemsIfAny (option_and_then (λ y. option_map (λ ys. y ∷ ys) gs) g)
      go None h gs k = tt
      go (Some g) h None k = tt
      go (Some g) h (Some gs) k = (h, k)

  joined_shaped : (gs : List (List GuardItem)) → AllItems gs → AreShapedItems (items_of_all symbols gs).guards
  joined_shaped [] h = tt
  joined_shaped (g ∷ gs) h = both_items g (items_of_all symbols gs).guards h.0 (joined_shaped gs h.1)

  type_shaped : (formals : List ℕ) (os : List (Object ℕ)) → ShapedIfAny (type_declared symbols formals os)
  type_shaped formals [] = tt
  type_shaped formals (t ∷ os) = go (declared_test _ t) (each (declared_formal symbols formals) os)
    where
      items : (gs : Option (List (List GuardItem))) → AllItemsIfAny gs → ShapedIfAny (option_map (items_of_all symbols) gs)
      items None k = tt
      items (Some gs) k = joined_shaped gs k

      go : (test : Option Core) (xs : Option (List ℕ)) → ShapedIfAny (option_and_then (λ test. option_and_then (λ xs. option_map (items_of_all symbols) (each (type_items symbols t) xs)) xs) test)
      go None xs = tt
      go (Some test) None = tt
      go (Some test) (Some xs) = items (each (type_items symbols t) xs) (each_shaped t xs)

  headed_shaped : (formals : List ℕ) (h : Object ℕ) (os : List (Object ℕ)) → ShapedIfAny (headed_declared symbols formals h os)
  headed_shaped formals h os =
      shaped_if (is xargs_word h) _ _ (xargs_shaped os)
      (shaped_if (is type_word h) _ _ (type_shaped formals os)
      (shaped_if (is ignore_word h) (Some nothing_declared) _ tt
      (shaped_if (is ignorable_word h) (Some nothing_declared) _ tt
      (shaped_if (is optimize_word h) (Some nothing_declared) None tt tt))))

  item_shaped : (formals : List ℕ) (o : Object ℕ) → ShapedIfAny (item_declared symbols formals o)
  item_shaped formals o = go (elements o)
    where
      go : (os : Option (List (Object ℕ))) → ShapedIfAny (option_and_then (item_in symbols formals) os)
      go None = tt
      go (Some []) = tt
      go (Some (h ∷ os)) = headed_shaped formals h os

  abbrev AllShapedIfAny : Option (List Declared) → Type 0
  AllShapedIfAny None = Unit {0}
  AllShapedIfAny (Some ds) = AllShaped ds

  each_item : (formals : List ℕ) (os : List (Object ℕ)) → AllShapedIfAny (each (item_declared symbols formals) os)
  each_item formals [] = tt
  each_item formals (o ∷ os) = go (item_declared symbols formals o) (item_shaped formals o) (each (item_declared symbols formals) os) (each_item formals os)
    where
      go : (d : Option Declared) → ShapedIfAny d → (ds : Option (List Declared)) → AllShapedIfAny ds → AllShapedIfAny (option_and_then (λ y. option_map (λ ys. y ∷ ys) ds) d)
      go None h ds k = tt
      go (Some d) h None k = tt
      go (Some d) h (Some ds) k = (h, k)

  declared_shaped : (formals : List ℕ) (items : List (Object ℕ)) → ShapedIfAny (declarations symbols formals items)
  unfolding declarations
  declared_shaped formals items = go (each (item_declared symbols formals) items) (each_item formals items)
    where
      go : (ds : Option (List Declared)) → AllShapedIfAny ds → ShapedIfAny (option_map all_declared ds)
      go None h = tt
      go (Some ds) h = all_shaped ds h

-- ---- drafts

pub record IsSound (d : Draft) : Type 0 where
  pub differ : repeats d.formals ≡ false
  pub shaped : AreShapedItems d.declared.guards

abbrev pub AreSound : List Draft → Type 0
AreSound [] = Unit {0}
AreSound (d ∷ ds) = IsSound d × AreSound ds

abbrev given_or : Option Refusal → Option Refusal → Option Refusal
given_or None later = later
given_or (Some y) later = Some y

drafts_sound : (symbols : List QualifiedName) (fs : List WrittenFunction) → first_given (λ (f : WrittenFunction). formals_fault symbols f.formals) fs ≡ None → AreSound (drafts_of symbols fs)
drafts_sound symbols [] e = tt
drafts_sound symbols (f ∷ fs) e = go (formals_fault symbols f.formals) refl e (drafts_sound symbols fs)
  where
    draft : (v : Option Declared) → ShapedIfAny v → repeats (formals_of symbols f.formals) ≡ false → AreSound (drafts_of symbols fs)
        → AreSound (option_map_or (λ d. d ∷ drafts_of symbols fs)
        (option_map (λ declared. record { name = symbol_or_nil f.name; formals = formals_of symbols f.formals; declared = declared; body = f.body; executable = f.executable }) v) (drafts_of symbols fs))
    draft None h differ later = later
    draft (Some declared) h differ later = (record { differ = differ; shaped = h }, later)

    go : (v : Option Refusal) → formals_fault symbols f.formals ≡ v → given_or v (first_given (λ (f : WrittenFunction). formals_fault symbols f.formals) fs) ≡ None
        → (first_given (λ (f : WrittenFunction). formals_fault symbols f.formals) fs ≡ None → AreSound (drafts_of symbols fs)) → AreSound (drafts_of symbols (f ∷ fs))
    go None g h later = draft (declarations symbols (formals_of symbols f.formals) f.items) (declared_shaped symbols (formals_of symbols f.formals) f.items) (formals_differ symbols f.formals g) (later h)
    go (Some r) g h later = cc

-- what is known once nothing is wrong before expansion
pub record AreWritten (w : World) (ds : List Draft) : Type 0 where
  pub names : AreNew w (map named_draft ds)
  pub sound : AreSound ds

pub written_drafts : (symbols : List QualifiedName) (w : World) (fs : List WrittenFunction) → written_fault symbols w fs ≡ None → AreWritten w (drafts_of symbols fs)
unfolding written_fault
written_drafts symbols w fs e =
    let names = none_or (bad_name symbols (map (λ (f : WrittenFunction). f.name) fs)) _ e in
    let free = none_or (name_in_use w (map number_of_name fs)) _ names.1 in
    let formals = none_or (first_given (λ (f : WrittenFunction). formals_fault symbols f.formals) fs) _ free.1 in
    record { names = drafts_new symbols w fs free.0; sound = drafts_sound symbols fs formals.0 }
