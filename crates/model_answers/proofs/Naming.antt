-- Variables and values, symbols by name.
use Rattle.std.proofs.Common.{◌≡◌, ℕ, ◌<◌, List, [], ◌∷◌, ◌++◌, map, length, Bool, true, false, refl, ap, ◌∙◌}
use Rattle.std.specs.Prelude.{nat_eq, if◌then◌else◌}
use Rattle.model_symbols.specs.Growth.{Extends}
use Rattle.model_prims.proofs.ByName.{IsNaming}
use Rattle.model_objects.specs.Named.{Knows}
use Rattle.model_follows.specs.Follows.{KnowsAll, KnowsShown}
use Rattle.model_answers.specs.Beside.{KnowsVariables, named_variables}
use Rattle.model_eval.specs.Outcomes.{Plain, Shown, StobjNamed}
use Rattle.model_symbols.specs.Symbols.{QualifiedName, Table, form_of, symbol_at}
use Rattle.model_logic.specs.Logic.{Thing}
use Rattle.model_eval.specs.Variables.{Variables, actual_for, bound, first_stobj, inner_variables, nothing, object_of, ordinary, single, variable_in}
use Rattle.model_prims.specs.Kinds.{by_name, by_number, is_nil}
use Rattle.model_follows.proofs.ThingLemmas.{form_stays, shown_stays}
use Rattle.model_symbols.specs.Opening.{nil}
use Rattle.model_prims.proofs.NamingLemmas.{nil_named, none_named}
use Rattle.model_eval.specs.Keeping.{outer_value}
use Rattle.model_abstract_books.specs.Answers.{shown_named}

module _ (symbols : List QualifiedName) where
  pub bound_named : (xs : List ℕ) (vs : List (Shown ℕ)) (variables : Variables ℕ) → bound xs (map (shown_named symbols) vs) (named_variables symbols variables) ≡ named_variables symbols (bound xs vs variables)
  bound_named [] vs variables = refl
  bound_named (x ∷ xs) [] variables = refl
  bound_named (x ∷ xs) (Plain o ∷ vs) variables = ap (λ (r : Variables QualifiedName). (x, Plain (form_of symbols o)) ∷ r) (bound_named xs vs variables)
  bound_named (x ∷ xs) (StobjNamed y ∷ vs) variables = bound_named xs vs variables

  pub inner_named : (xs : List ℕ) (vs : List (Shown ℕ)) → inner_variables xs (map (shown_named symbols) vs) ≡ named_variables symbols (inner_variables xs vs)
  inner_named [] vs = refl
  inner_named (x ∷ xs) [] = refl
  inner_named (x ∷ xs) (Plain o ∷ vs) = ap (λ (r : Variables QualifiedName). (x, Plain (form_of symbols o)) ∷ r) (inner_named xs vs)
  inner_named (x ∷ xs) (StobjNamed y ∷ vs) = ap (λ (r : Variables QualifiedName). (x, StobjNamed x) ∷ r) (inner_named xs vs)

  pub ordinary_named : (vs : List (Shown ℕ)) → ordinary (map (shown_named symbols) vs) ≡ map (form_of symbols) (ordinary vs)
  ordinary_named [] = refl
  ordinary_named (Plain o ∷ vs) = ap (λ (os : List Thing). form_of symbols o ∷ os) (ordinary_named vs)
  ordinary_named (StobjNamed y ∷ vs) = ordinary_named vs

  pub first_named : (vs : List (Shown ℕ)) → first_stobj (map (shown_named symbols) vs) ≡ first_stobj vs
  first_named [] = refl
  first_named (Plain o ∷ vs) = first_named vs
  first_named (StobjNamed y ∷ vs) = refl

  actual_named : (xs : List ℕ) (vs : List (Shown ℕ)) (x : ℕ) → actual_for xs (map (shown_named symbols) vs) x ≡ actual_for xs vs x
  actual_named [] vs x = refl
  actual_named (y ∷ ys) [] x = refl
  actual_named (y ∷ ys) (Plain o ∷ vs) x = actual_named ys vs x
  actual_named (y ∷ ys) (StobjNamed z ∷ vs) x = ap (λ (q : ℕ). if nat_eq x y then z else q) (actual_named ys vs x)

  pub append_named : (us vs : List (Shown ℕ)) → map (shown_named symbols) (us ++ vs) ≡ map (shown_named symbols) us ++ map (shown_named symbols) vs
  append_named [] vs = refl
  append_named (u ∷ us) vs = ap (λ (r : List (Shown QualifiedName)). shown_named symbols u ∷ r) (append_named us vs)

-- what a call gives, where its actuals were named before
pub outer_named : (old new : List QualifiedName) (xs : List ℕ) (vs given : List (Shown ℕ))
    → map (outer_value xs (map (shown_named old) vs)) (map (shown_named new) given) ≡ map (shown_named new) (map (outer_value xs vs) given)
outer_named old new xs vs [] = refl
outer_named old new xs vs (Plain o ∷ given) = ap (λ (r : List (Shown QualifiedName)). Plain (form_of new o) ∷ r) (outer_named old new xs vs given)
outer_named old new xs vs (StobjNamed y ∷ given) = rw (actual_named old xs vs y, outer_named old new xs vs given) refl

pub outer_known : (n : ℕ) (xs : List ℕ) (vs given : List (Shown ℕ)) → KnowsAll n given → KnowsAll n (map (outer_value xs vs) given)
outer_known n xs vs [] k = tt
outer_known n xs vs (Plain o ∷ given) k = (k.0, outer_known n xs vs given k.1)
outer_known n xs vs (StobjNamed y ∷ given) k = (tt, outer_known n xs vs given k.1)

-- ---- what is known

pub known_bound : (n : ℕ) (xs : List ℕ) (vs : List (Shown ℕ)) (variables : Variables ℕ) → KnowsAll n vs → KnowsVariables n variables → KnowsVariables n (bound xs vs variables)
known_bound n [] vs variables k h = h
known_bound n (x ∷ xs) [] variables k h = h
known_bound n (x ∷ xs) (Plain o ∷ vs) variables k h = (k.0, known_bound n xs vs variables k.1 h)
known_bound n (x ∷ xs) (StobjNamed y ∷ vs) variables k h = known_bound n xs vs variables k.1 h

pub known_inner : (n : ℕ) (xs : List ℕ) (vs : List (Shown ℕ)) → KnowsAll n vs → KnowsVariables n (inner_variables xs vs)
known_inner n [] vs k = tt
known_inner n (x ∷ xs) [] k = tt
known_inner n (x ∷ xs) (Plain o ∷ vs) k = (k.0, known_inner n xs vs k.1)
known_inner n (x ∷ xs) (StobjNamed y ∷ vs) k = (tt, known_inner n xs vs k.1)

pub known_variable : (n : ℕ) (variables : Variables ℕ) (x : ℕ) → nil < n → KnowsVariables n variables → KnowsShown n (variable_in by_number variables x)
known_variable n [] x l k = l
known_variable n (v ∷ vs) x l k = go (nat_eq x v.0) (known_variable n vs x l k.1)
  where
    go : (b : Bool) → KnowsShown n (variable_in by_number vs x) → KnowsShown n (if b then v.1 else variable_in by_number vs x)
    go true later = k.0
    go false later = later

pub known_append : (n : ℕ) (us vs : List (Shown ℕ)) → KnowsAll n us → KnowsAll n vs → KnowsAll n (us ++ vs)
known_append n [] vs h k = k
known_append n (u ∷ us) vs h k = (h.0, known_append n us vs h.1 k)

-- ---- as symbols are added

module _ (old new : Table) (grown : Extends old new) where
  shown_same : (v : Shown ℕ) → KnowsShown (length old.symbols) v → shown_named new.symbols v ≡ shown_named old.symbols v
  shown_same (Plain o) k = ap (λ (q : Thing). Plain q) (form_stays old new grown o k)
  shown_same (StobjNamed x) k = refl

  pub values_stay : (vs : List (Shown ℕ)) → KnowsAll (length old.symbols) vs → map (shown_named new.symbols) vs ≡ map (shown_named old.symbols) vs
  values_stay [] k = refl
  values_stay (v ∷ vs) k = rw (shown_same v k.0, values_stay vs k.1) refl

  pub variables_stay : (vs : Variables ℕ) → KnowsVariables (length old.symbols) vs → named_variables new.symbols vs ≡ named_variables old.symbols vs
  variables_stay [] k = refl
  variables_stay (v ∷ vs) k = rw (shown_same v.1 k.0, variables_stay vs k.1) refl

  pub knows_variables_stay : (vs : Variables ℕ) → KnowsVariables (length old.symbols) vs → KnowsVariables (length new.symbols) vs
  knows_variables_stay [] k = tt
  knows_variables_stay (v ∷ vs) k = (shown_stays old new grown v.1 k.0, knows_variables_stay vs k.1)

-- ---- what is told of values

module _ (symbols : List QualifiedName) (n : IsNaming (symbol_at symbols) (λ s. s < length symbols)) where
  pub nothing_named : nothing by_name ≡ shown_named symbols (nothing by_number)
  nothing_named = ap (λ (q : Thing). Plain q) (none_named (symbol_at symbols) (λ s. s < length symbols) n)

  pub variable_named : (variables : Variables ℕ) (x : ℕ) → variable_in by_name (named_variables symbols variables) x ≡ shown_named symbols (variable_in by_number variables x)
  variable_named [] x = nothing_named
  variable_named (v ∷ vs) x = go (nat_eq x v.0) (variable_named vs x)
    where
      go : (b : Bool) → variable_in by_name (named_variables symbols vs) x ≡ shown_named symbols (variable_in by_number vs x) → (if b then shown_named symbols v.1 else variable_in by_name (named_variables symbols vs) x) ≡ shown_named symbols (if b then v.1 else variable_in by_number vs x)
      go true later = refl
      go false later = later

  pub single_named : (vs : List (Shown ℕ)) → single by_name (map (shown_named symbols) vs) ≡ shown_named symbols (single by_number vs)
  single_named [] = nothing_named
  single_named (v ∷ vs) = refl

  pub object_named : (v : Shown ℕ) → object_of by_name (shown_named symbols v) ≡ form_of symbols (object_of by_number v)
  object_named (Plain o) = refl
  object_named (StobjNamed x) = none_named (symbol_at symbols) (λ s. s < length symbols) n

  pub object_known : (v : Shown ℕ) → KnowsShown (length symbols) v → Knows (length symbols) (object_of by_number v)
  object_known (Plain o) k = k
  object_known (StobjNamed x) k = n.knows_nil

  single_known : (vs : List (Shown ℕ)) → KnowsAll (length symbols) vs → KnowsShown (length symbols) (single by_number vs)
  single_known [] k = n.knows_nil
  single_known (v ∷ vs) k = k.0

  pub false_named : (vs : List (Shown ℕ)) → KnowsAll (length symbols) vs
      → is_nil by_name (object_of by_name (single by_name (map (shown_named symbols) vs))) ≡ is_nil by_number (object_of by_number (single by_number vs))
  false_named vs k =
      ap (λ (v : Shown QualifiedName). is_nil by_name (object_of by_name v)) (single_named vs)
      ∙ (ap (is_nil by_name) (object_named (single by_number vs)) ∙ nil_named (symbol_at symbols) (λ s. s < length symbols) n (object_of by_number (single by_number vs)) (object_known (single by_number vs) (single_known vs k)))
