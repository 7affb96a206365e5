-- Formals and declarations of definitions (ACL2's manual, topics DECLARE, XARGS).
use Rattle.std.specs.Prelude.{ℕ, List, [], ◌∷◌, ◌++◌, map, Bool, not, Option, Some, None, nat_eq, option_map, option_and_then, codes, if◌then◌else◌}
use Rattle.std.specs.List.{list_all}
use Rattle.model_objects.specs.Object.{Object, Integer, Symbol, Text, Pair}
use Rattle.model_symbols.specs.Symbols.{QualifiedName}
use Rattle.model_symbols.specs.Opening.{truth, nil}
use Rattle.model_terms.specs.Cores.{Core, Var}
use Rattle.model_expansion.specs.Words.{declare_word, xargs_word, type_word, ignore_word, ignorable_word, optimize_word}
use Rattle.model_expansion.specs.Forms.{elements, each, each_of, is, symbol, is_key, is_keyword_object, variable_name}
use Rattle.model_expansion.specs.TypeTerms.{declared_test}
use Rattle.model_expansion.specs.Faults.{Refusal, BadName, DuplicateFormal}
use Rattle.model_expansion.specs.Layers.{GuardItem, FormHolds, Meets}
use Rattle.model_stobjs.specs.Answers.{first_given}
use Rattle.model_terms.specs.Classes.{has}

-- ---- strings and declarations before a body

-- the items of a declaration; a string has none
abbrev pub declared_items : Object ℕ → Option (List (Object ℕ))
declared_items (Integer n) = None
declared_items (Symbol s) = None
declared_items (Text bytes) = Some []
declared_items (Pair a d) = if is declare_word a then elements d else None

abbrev pub with_items : Option (List (Object ℕ)) → Option (List (Object ℕ) × Object ℕ) → Option (List (Object ℕ) × Object ℕ)
with_items None later = None
with_items (Some items) later = option_map (λ (p : List (Object ℕ) × Object ℕ). (items ++ p.0, p.1)) later

-- the items of all declarations, and the body, which comes last
abbrev pub items_and_body : List (Object ℕ) → Option (List (Object ℕ) × Object ℕ)
items_and_body [] = None
items_and_body (body ∷ []) = Some ([], body)
items_and_body (d ∷ (e ∷ os)) = with_items (declared_items d) (items_and_body (e ∷ os))

-- ---- formals

abbrev pub repeated_among : List ℕ → List ℕ → Option Refusal
repeated_among seen [] = None
repeated_among seen (x ∷ xs) = if has seen x then Some (DuplicateFormal x) else repeated_among (x ∷ seen) xs

module _ (symbols : List QualifiedName) where
  abbrev pub bad_formal : Object ℕ → Option Refusal
  bad_formal o = go (variable_name symbols o) where
    go : Option ℕ → Option Refusal
    go None = Some (BadName o)
    go (Some s) = None

  abbrev pub formals_of : List (Object ℕ) → List ℕ
  formals_of [] = []
  formals_of (o ∷ os) = go (symbol o) (formals_of os) where
    go : Option ℕ → List ℕ → List ℕ
    go None xs = xs
    go (Some x) xs = x ∷ xs

  -- a formal that may be none, or else the earliest that comes again
  abbrev pub formals_fault : List (Object ℕ) → Option Refusal
  formals_fault os = go (first_given bad_formal os) where
    go : Option Refusal → Option Refusal
    go None = repeated_among [] (formals_of os)
    go (Some r) = Some r

-- ---- declarations

-- what the declarations of a definition say: what its guard asks, and which formals are stobjs
pub record Declared : Type 0 where
  pub guards : List GuardItem
  pub stobjs : List ℕ

abbrev pub nothing_declared : Declared
nothing_declared = record { guards = []; stobjs = [] }

abbrev pub both_declared : Declared → Declared → Declared
both_declared a b = record { guards = a.guards ++ b.guards; stobjs = a.stobjs ++ b.stobjs }

abbrev pub all_declared : List Declared → Declared
all_declared [] = nothing_declared
all_declared (d ∷ ds) = both_declared d (all_declared ds)

-- a symbol, where `NIL` is none, or a true list of symbols
abbrev pub stobjs_of : Object ℕ → Option (List ℕ)
stobjs_of (Integer n) = None
stobjs_of (Symbol s) = if nat_eq s nil then Some [] else Some (s ∷ [])
stobjs_of (Text bytes) = None
stobjs_of (Pair a d) = each_of symbol (Pair a d)

module _ (symbols : List QualifiedName) where
  -- a key of `XARGS` with its value
  abbrev pub keyed_declared : Object ℕ → Object ℕ → Option Declared
  keyed_declared key v =
      if not (is_keyword_object symbols key) then None
      else if is_key symbols (codes "GUARD") key then Some (record { guards = FormHolds v ∷ []; stobjs = [] })
      else if is_key symbols (codes "STOBJS") key then option_map (λ names. record { guards = []; stobjs = names }) (stobjs_of v)
      else Some nothing_declared

  abbrev pub xargs_declared : List (Object ℕ) → Option Declared
  xargs_declared [] = Some nothing_declared
  xargs_declared (key ∷ []) = None
  xargs_declared (key ∷ (v ∷ os)) = option_and_then (λ d. option_map (both_declared d) (xargs_declared os)) (keyed_declared key v)

  abbrev pub declared_formal : List ℕ → Object ℕ → Option ℕ
  declared_formal formals o = option_and_then (λ x. if has formals x then Some x else None) (symbol o)

  -- that a formal meets a type; `T` asks nothing
  abbrev pub type_items : Object ℕ → ℕ → Option (List GuardItem)
  type_items t x = option_map (λ test. if is truth t then [] else Meets test ∷ []) (declared_test (Var x) t)

  abbrev pub items_of_all : List (List GuardItem) → Declared
  items_of_all [] = nothing_declared
  items_of_all (gs ∷ rest) = both_declared (record { guards = gs; stobjs = [] }) (items_of_all rest)

  -- a type and formals; the type is one where there are none, too
  abbrev pub type_declared : List ℕ → List (Object ℕ) → Option Declared
  type_declared formals [] = None
  type_declared formals (t ∷ os) =
      option_and_then (λ test. option_and_then (λ xs. option_map items_of_all (each (type_items t) xs)) (each (declared_formal formals) os)) (declared_test (Var nil) t)

  abbrev pub headed_declared : List ℕ → Object ℕ → List (Object ℕ) → Option Declared
  headed_declared formals h os =
      if is xargs_word h then xargs_declared os
      else if is type_word h then type_declared formals os
      else if is ignore_word h then Some nothing_declared
      else if is ignorable_word h then Some nothing_declared
      else if is optimize_word h then Some nothing_declared
      else None

  abbrev pub item_in : List ℕ → List (Object ℕ) → Option Declared
  item_in formals [] = None
  item_in formals (h ∷ os) = headed_declared formals h os

  abbrev pub item_declared : List ℕ → Object ℕ → Option Declared
  item_declared formals o = option_and_then (item_in formals) (elements o)

  -- what the items of declarations say over these formals; None where one is wrong
  unfoldable pub declarations : List ℕ → List (Object ℕ) → Option Declared
  declarations formals items = option_map all_declared (each (item_declared formals) items)
