-- The definition of a macro (ACL2's manual, topics DEFMACRO, MACRO-ARGS).
use Rattle.std.specs.Prelude.{ℕ, List, [], ◌∷◌, ◌++◌, map, Bool, ◌||◌, Option, Some, None, option_map, option_and_then, is_some, unwrap_or, option_to_list, if◌then◌else◌}
use Rattle.std.specs.Option.{option_or, option_map_or}
use Rattle.std.specs.List.{flat_map}
use Rattle.model_objects.specs.Object.{Object, Integer, Symbol, Text, Pair}
use Rattle.model_symbols.specs.Symbols.{QualifiedName}
use Rattle.model_symbols.specs.Opening.{nil, quote}
use Rattle.model_terms.specs.Cores.{Core}
use Rattle.model_terms.specs.Worlds.{World, Definition, Macro, OptionalFormal, MacroFormals}
use Rattle.model_terms.specs.Faults.{macro_fault}
use Rattle.model_expansion.specs.Words.{optional_word, rest_mark_word, body_word, key_word, defmacro_word}
use Rattle.model_expansion.specs.Forms.{elements, each, is, symbol, symbol_or_nil}
use Rattle.model_expansion.specs.Faults.{Refusal, BadShape, Expand, BadDeclare, Thread}
use Rattle.model_expansion.specs.Expansion.{Setting, Progress, expanded}
use Rattle.model_stobjs.specs.Answers.{EventResult, Grants, unless, needing, expanding}
use Rattle.model_stobjs.specs.Heads.{name_in_use, bad_name}
use Rattle.model_stobjs.specs.Descriptors.{before_first, from_first}
use Rattle.model_events.specs.Declarations.{items_and_body, formals_of, formals_fault, declarations}

-- ---- as it is written

pub record WrittenOptional : Type 0 where
  pub name : Object ℕ
  pub default : Object ℕ
  pub supplied : Option (Object ℕ)

pub record WrittenFormals : Type 0 where
  pub required : List (Object ℕ)
  pub optional : List WrittenOptional
  pub rest : Option (Object ℕ)
  pub keys : Option (List WrittenOptional)  -- where the mark stands

pub record WrittenMacro : Type 0 where
  pub name : Object ℕ
  pub formals : WrittenFormals
  pub items : List (Object ℕ)
  pub body : Object ℕ

abbrev pub is_rest_mark : Object ℕ → Bool
is_rest_mark o = is rest_mark_word o || is body_word o

abbrev pub is_mark : Object ℕ → Bool
is_mark o = is optional_word o || (is_rest_mark o || is key_word o)

-- `'default`
abbrev pub quoted_in : Option (List (Object ℕ)) → Option (Object ℕ)
quoted_in (Some (q ∷ (o ∷ []))) = if is quote q then Some o else None
quoted_in os = None

abbrev pub optional_of : Object ℕ → Option (Object ℕ) → Object ℕ → Option WrittenOptional
optional_of v supplied d = option_map (λ o. record { name = v; default = o; supplied = supplied }) (quoted_in (elements d))

abbrev pub optional_in : List (Object ℕ) → Option WrittenOptional
optional_in (v ∷ (d ∷ [])) = optional_of v None d
optional_in (v ∷ (d ∷ (s ∷ []))) = optional_of v (Some s) d
optional_in os = None

-- `v`, `(v 'default)` or `(v 'default supplied)`
abbrev pub written_optional : Object ℕ → Option WrittenOptional
written_optional (Pair a d) = option_and_then optional_in (elements (Pair a d))
written_optional o = Some (record { name = o; default = Symbol nil; supplied = None })

-- the formals behind a mark, where it stands next, and what is left
abbrev pub marked_section : ℕ → List (Object ℕ) → Option (Option (List WrittenOptional) × List (Object ℕ))
marked_section mark [] = Some (None, [])
marked_section mark (m ∷ os) =
    if is mark m then option_map (λ fs. (Some fs, from_first is_mark os)) (each written_optional (before_first is_mark os)) else Some (None, m ∷ os)

-- one formal behind the mark of the rest
abbrev pub rest_section : List (Object ℕ) → Option (Option (Object ℕ) × List (Object ℕ))
rest_section [] = Some (None, [])
rest_section (m ∷ os) = if is_rest_mark m then one_formal os else Some (None, m ∷ os) where
  one_formal : List (Object ℕ) → Option (Option (Object ℕ) × List (Object ℕ))
  one_formal [] = None
  one_formal (v ∷ os) = if is_mark v then None else Some (Some v, os)

abbrev pub all_taken : WrittenFormals → List (Object ℕ) → Option WrittenFormals
all_taken f [] = Some f
all_taken f (o ∷ os) = None

-- required formals, then the marks in their order, each at most once
abbrev pub written_formals : List (Object ℕ) → Option WrittenFormals
written_formals os =
    option_and_then (λ (opt : Option (List WrittenOptional) × List (Object ℕ)). option_and_then (λ (r : Option (Object ℕ) × List (Object ℕ)). option_and_then (λ (ks : Option (List WrittenOptional) × List (Object ℕ)).
    all_taken (record { required = before_first is_mark os; optional = unwrap_or opt.0 []; rest = r.0; keys = ks.0 }) ks.1)
    (marked_section key_word r.1)) (rest_section opt.1)) (marked_section optional_word (from_first is_mark os))

abbrev pub written_in : List (Object ℕ) → Option WrittenMacro
written_in (name ∷ (formals ∷ os)) =
    option_and_then (λ fs. option_map (λ (p : List (Object ℕ) × Object ℕ). record { name = name; formals = fs; items = p.0; body = p.1 }) (items_and_body os))
    (option_and_then written_formals (elements formals))
written_in os = None

-- what stands behind the head
unfoldable pub written_macro : Object ℕ → Option WrittenMacro
written_macro d = option_and_then written_in (elements d)

-- ---- formals

abbrev pub optional_objects : List WrittenOptional → List (Object ℕ)
optional_objects fs = flat_map (λ (f : WrittenOptional). f.name ∷ option_to_list f.supplied) fs

-- all formals, in the order of text
abbrev pub formal_objects : WrittenFormals → List (Object ℕ)
formal_objects f = f.required ++ (optional_objects f.optional ++ (option_to_list f.rest ++ optional_objects (unwrap_or f.keys [])))

abbrev pub optional_formal : WrittenOptional → OptionalFormal
optional_formal f = record { name = symbol_or_nil f.name; default = f.default; supplied = option_map symbol_or_nil f.supplied }

abbrev pub macro_formals : WrittenFormals → MacroFormals
macro_formals f = record {
  required = map symbol_or_nil f.required;
  optional = map optional_formal f.optional;
  rest = option_map symbol_or_nil f.rest;
  keys = option_map (map optional_formal) f.keys;
}

-- ---- all in order

abbrev pub bad_declaration : List QualifiedName → WrittenMacro → Option Refusal
bad_declaration symbols m =
    if is_some (declarations symbols (formals_of symbols (formal_objects m.formals)) m.items) then None else Some (BadDeclare (symbol_or_nil m.name))

abbrev pub written_fault : List QualifiedName → World → WrittenMacro → Option Refusal
written_fault symbols w m =
    option_or (bad_name symbols (m.name ∷ []))
    (option_or (name_in_use w (symbol_or_nil m.name ∷ [])) (option_or (formals_fault symbols (formal_objects m.formals)) (bad_declaration symbols m)))

abbrev pub body_then : World → WrittenMacro → Core → Progress → EventResult World
body_then w m body p =
    let formals = macro_formals m.formals in unless (option_map Thread (macro_fault w formals body)) (Grants (Macro (symbol_or_nil m.name) formals body ∷ [])) p

abbrev pub macro_then : Setting → WrittenMacro → Progress → EventResult World
macro_then x m p = unless (written_fault p.symbols x.world m) (λ after. expanding (expanded x m.body after) (body_then x.world m)) p

-- the definition of a macro, from what stands behind the head
unfoldable pub macro_read : Setting → Object ℕ → Progress → EventResult World
macro_read x d p = needing (written_macro d) (Expand (BadShape defmacro_word)) (macro_then x) p
