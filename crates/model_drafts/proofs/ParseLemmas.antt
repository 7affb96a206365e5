-- What is read out of the form of a definition has the form's symbols.
use Rattle.std.proofs.Common.{ℕ, ◌≤◌, List, [], ◌∷◌, map, Bool, true, false, Option, Some, None, arith}
use Rattle.std.specs.Prelude.{nat_eq, option_map, option_and_then, unwrap_or, if◌then◌else◌}
use Rattle.model_objects.specs.Object.{Object, Integer, Symbol, Text, Pair}
use Rattle.model_objects.specs.Named.{Knows}
use Rattle.model_symbols.specs.Opening.{quote}
use Rattle.model_expansion.specs.Words.{declare_word, defun_word, defund_word, defun_nx_word, mutual_recursion_word, optional_word, key_word}
use Rattle.model_expansion.specs.Forms.{elements, each, is}
use Rattle.model_expansion_forms.specs.Nodes.{IsBelow}
use Rattle.model_expansion_forms.specs.Rows.{AreKnownDefaults}
use Rattle.model_expansion_forms.proofs.PartLemmas.{AllHave, AllHaveIfAny, elements_have}
use Rattle.model_stobjs.specs.Descriptors.{before_first, from_first}
use Rattle.model_events.specs.Constants.{ends_well, name_and_form}
use Rattle.model_events.specs.Declarations.{declared_items, with_items, items_and_body}
use Rattle.model_events.specs.Macros as macros
use Rattle.model_events.specs.Macros.{WrittenOptional, WrittenFormals, WrittenMacro, is_rest_mark, is_mark, quoted_in, optional_of, optional_in, written_optional, marked_section, rest_section, all_taken, written_formals, written_macro, optional_formal, macro_formals}
use Rattle.model_events.specs.Functions as functions
use Rattle.model_events.specs.Functions.{WrittenFunction, written_of, written_function, headed_function, at_least_one, written_clique, one_function, written_functions}
use Rattle.model_drafts.proofs.ItemLemmas.{IfAny, EachOne, any_map, any_then, any_each, any_if, each_both, each_before, each_from, each_unless}

module _ (m : ℕ) (two : 2 ≤ m) where
  abbrev pub Known : Object ℕ → Type 0
  Known o = Knows m o

  abbrev pub AreKnown : List (Object ℕ) → Type 0
  AreKnown os = EachOne Known os

  have_each : (os : List (Object ℕ)) → AllHave (IsBelow m) os → AreKnown os
  have_each [] h = tt
  have_each (o ∷ os) h = (h.0, have_each os h.1)

  pub elements_known : (d : Object ℕ) → Known d → IfAny AreKnown (elements d)
  elements_known d h = go (elements d) (elements_have (IsBelow m) d h)
    where
      go : (v : Option (List (Object ℕ))) → AllHaveIfAny (IsBelow m) v → IfAny AreKnown v
      go None k = tt
      go (Some os) k = have_each os k

  -- ---- constants

  abbrev pub BothKnown : Object ℕ × Object ℕ → Type 0
  BothKnown c = Known c.0 × Known c.1

  named_form : (os : List (Object ℕ)) → AreKnown os → IfAny BothKnown (name_and_form os)
  named_form [] h = tt
  named_form (name ∷ []) h = tt
  named_form (name ∷ (form ∷ os)) h = any_if BothKnown (ends_well os) (Some (name, form)) None (h.0, h.1.0) tt

  pub constant_form : (d : Object ℕ) → Known d → IfAny BothKnown (option_and_then name_and_form (elements d))
  constant_form d h = any_then AreKnown BothKnown name_and_form (elements d) (elements_known d h) named_form

  -- ---- declarations and bodies

  -- the items of declarations, and a body
  abbrev BodyKnown : List (Object ℕ) × Object ℕ → Type 0
  BodyKnown p = AreKnown p.0 × Known p.1

  items_known : (d : Object ℕ) → Known d → IfAny AreKnown (declared_items d)
  items_known (Integer n) h = tt
  items_known (Symbol s) h = tt
  items_known (Text bytes) h = tt
  items_known (Pair a d) h = any_if AreKnown (is declare_word a) (elements d) None (elements_known d h.1) tt

  with_items_known : (v : Option (List (Object ℕ))) (later : Option (List (Object ℕ) × Object ℕ)) → IfAny AreKnown v → IfAny BodyKnown later → IfAny BodyKnown (with_items v later)
  with_items_known None later h k = tt
  with_items_known (Some items) None h k = tt
  with_items_known (Some items) (Some p) h k = (each_both Known items p.0 h k.0, k.1)

  body_known : (os : List (Object ℕ)) → AreKnown os → IfAny BodyKnown (items_and_body os)
  body_known [] h = tt
  body_known (body ∷ []) h = (tt, h.0)
  body_known (d ∷ (e ∷ os)) h = with_items_known (declared_items d) (items_and_body (e ∷ os)) (items_known d h.0) (body_known (e ∷ os) h.1)

  -- ---- functions

  abbrev pub FunctionKnown : WrittenFunction → Type 0
  FunctionKnown f = AreKnown f.items × Known f.body

  function_in : (executable : Bool) (os : List (Object ℕ)) → AreKnown os → IfAny FunctionKnown (functions.written_in executable os)
  function_in executable [] h = tt
  function_in executable (name ∷ []) h = tt
  function_in executable (name ∷ (formals ∷ os)) h = go (elements formals)
    where
      go : (v : Option (List (Object ℕ))) → IfAny FunctionKnown (option_and_then (λ xs. option_map (written_of executable name xs) (items_and_body os)) v)
      go None = tt
      go (Some xs) = any_map BodyKnown FunctionKnown (written_of executable name xs) (items_and_body os) (body_known os h.1.1) (λ p k. k)

  function_known : (executable : Bool) (d : Object ℕ) → Known d → IfAny FunctionKnown (written_function executable d)
  function_known executable d h = any_then AreKnown FunctionKnown (functions.written_in executable) (elements d) (elements_known d h) (function_in executable)

  headed_written : (o : Object ℕ) → Known o → IfAny FunctionKnown (headed_function o)
  headed_written (Integer n) h = tt
  headed_written (Symbol s) h = tt
  headed_written (Text bytes) h = tt
  headed_written (Pair a d) h =
      any_if FunctionKnown (is defun_word a) _ _ (function_known true d h.1)
      (any_if FunctionKnown (is defund_word a) _ _ (function_known true d h.1) (any_if FunctionKnown (is defun_nx_word a) _ None (function_known false d h.1) tt))

  some_known : (fs : List WrittenFunction) → EachOne FunctionKnown fs → IfAny (EachOne FunctionKnown) (at_least_one fs)
  some_known [] h = tt
  some_known (f ∷ fs) h = h

  clique_known : (d : Object ℕ) → Known d → IfAny (EachOne FunctionKnown) (written_clique d)
  clique_known d h =
      any_then (EachOne FunctionKnown) (EachOne FunctionKnown) at_least_one (option_and_then (each headed_function) (elements d))
      (any_then AreKnown (EachOne FunctionKnown) (each headed_function) (elements d) (elements_known d h) (any_each Known FunctionKnown headed_function headed_written)) some_known

  one_known : (executable : Bool) (d : Object ℕ) → Known d → IfAny (EachOne FunctionKnown) (one_function executable d)
  one_known executable d h = any_map FunctionKnown (EachOne FunctionKnown) (λ f. f ∷ []) (written_function executable d) (function_known executable d h) (λ f k. (k, tt))

  pub functions_known : (head : ℕ) (d : Object ℕ) → Known d → IfAny (EachOne FunctionKnown) (written_functions head d)
  functions_known head d h =
      any_if (EachOne FunctionKnown) (nat_eq head mutual_recursion_word) _ _ (clique_known d h) (any_if (EachOne FunctionKnown) (nat_eq head defun_nx_word) _ _ (one_known false d h) (one_known true d h))

  -- ---- macros

  abbrev OptionalKnown : WrittenOptional → Type 0
  OptionalKnown f = Known f.default

  quoted_known : (v : Option (List (Object ℕ))) → IfAny AreKnown v → IfAny Known (quoted_in v)
  quoted_known None h = tt
  quoted_known (Some []) h = tt
  quoted_known (Some (q ∷ [])) h = tt
  quoted_known (Some (q ∷ (o ∷ []))) h = any_if Known (is quote q) (Some o) None h.1.0 tt
  quoted_known (Some (q ∷ (o ∷ (p ∷ os)))) h = tt

  default_known : (v : Object ℕ) (supplied : Option (Object ℕ)) (d : Object ℕ) → Known d → IfAny OptionalKnown (optional_of v supplied d)
  default_known v supplied d h =
      any_map Known OptionalKnown (λ o. record { name = v; default = o; supplied = supplied }) (quoted_in (elements d)) (quoted_known (elements d) (elements_known d h)) (λ o k. k)

  optional_parts : (os : List (Object ℕ)) → AreKnown os → IfAny OptionalKnown (optional_in os)
  optional_parts [] h = tt
  optional_parts (v ∷ []) h = tt
  optional_parts (v ∷ (d ∷ [])) h = default_known v None d h.1.0
  optional_parts (v ∷ (d ∷ (s ∷ []))) h = default_known v (Some s) d h.1.0
  optional_parts (v ∷ (d ∷ (s ∷ (o ∷ os)))) h = tt

  optional_known : (o : Object ℕ) → Known o → IfAny OptionalKnown (written_optional o)
  optional_known (Integer n) h = omega (arith, two)
  optional_known (Symbol s) h = omega (arith, two)
  optional_known (Text bytes) h = omega (arith, two)
  optional_known (Pair a d) h = any_then AreKnown OptionalKnown optional_in (elements (Pair a d)) (elements_known (Pair a d) h) optional_parts

  abbrev SectionKnown : Option (List WrittenOptional) × List (Object ℕ) → Type 0
  SectionKnown p = IfAny (EachOne OptionalKnown) p.0 × AreKnown p.1

  abbrev RestKnown : Option (Object ℕ) × List (Object ℕ) → Type 0
  RestKnown p = AreKnown p.1

  marked_known : (mark : ℕ) (os : List (Object ℕ)) → AreKnown os → IfAny SectionKnown (marked_section mark os)
  marked_known mark [] h = (tt, tt)
  marked_known mark (o ∷ os) h =
      any_if SectionKnown (is mark o) _ (Some (None, o ∷ os))
      (any_map (EachOne OptionalKnown) SectionKnown (λ fs. (Some fs, from_first is_mark os)) (each written_optional (before_first is_mark os))
      (any_each Known OptionalKnown written_optional optional_known (before_first is_mark os) (each_before Known is_mark os h.1)) (λ fs k. (k, each_from Known is_mark os h.1)))
      (tt, h)

  rest_known : (os : List (Object ℕ)) → AreKnown os → IfAny RestKnown (rest_section os)
  rest_known [] h = tt
  rest_known (o ∷ []) h = any_if RestKnown (is_rest_mark o) None (Some (None, o ∷ [])) tt h
  rest_known (o ∷ (v ∷ os)) h = any_if RestKnown (is_rest_mark o) (if is_mark v then None else Some (Some v, os)) (Some (None, o ∷ (v ∷ os))) (any_if RestKnown (is_mark v) None (Some (Some v, os)) tt h.1.1) h

  abbrev FormalsKnown : WrittenFormals → Type 0
  FormalsKnown f = EachOne OptionalKnown f.optional × IfAny (EachOne OptionalKnown) f.keys

  taken_known : (f : WrittenFormals) (os : List (Object ℕ)) → FormalsKnown f → IfAny FormalsKnown (all_taken f os)
  taken_known f [] h = h
  taken_known f (o ∷ os) h = tt

  formals_known : (os : List (Object ℕ)) → AreKnown os → IfAny FormalsKnown (written_formals os)
  formals_known os h =
      any_then SectionKnown FormalsKnown _ (marked_section optional_word (from_first is_mark os)) (marked_known optional_word (from_first is_mark os) (each_from Known is_mark os h)) (λ opt k.
      any_then RestKnown FormalsKnown _ (rest_section opt.1) (rest_known opt.1 k.1) (λ r l.
      any_then SectionKnown FormalsKnown _ (marked_section key_word r.1) (marked_known key_word r.1 l) (λ ks q.
      taken_known (record { required = before_first is_mark os; optional = unwrap_or opt.0 []; rest = r.0; keys = ks.0 }) ks.1 (each_unless OptionalKnown opt.0 k.0, q.0))))

  abbrev pub MacroKnown : WrittenMacro → Type 0
  MacroKnown w = FormalsKnown w.formals × Known w.body

  macro_in : (os : List (Object ℕ)) → AreKnown os → IfAny MacroKnown (macros.written_in os)
  macro_in [] h = tt
  macro_in (name ∷ []) h = tt
  macro_in (name ∷ (formals ∷ os)) h =
      any_then FormalsKnown MacroKnown (λ fs. option_map (λ (p : List (Object ℕ) × Object ℕ). record { name = name; formals = fs; items = p.0; body = p.1 }) (items_and_body os)) (option_and_then written_formals (elements formals))
      (any_then AreKnown FormalsKnown written_formals (elements formals) (elements_known formals h.1.0) formals_known) (λ fs k.
      any_map BodyKnown MacroKnown (λ (p : List (Object ℕ) × Object ℕ). record { name = name; formals = fs; items = p.0; body = p.1 }) (items_and_body os) (body_known os h.1.1) (λ p q. (k, q.1)))

  pub macro_known : (d : Object ℕ) → Known d → IfAny MacroKnown (written_macro d)
  unfolding written_macro
  macro_known d h = any_then AreKnown MacroKnown macros.written_in (elements d) (elements_known d h) macro_in

  mapped_defaults : (fs : List WrittenOptional) → EachOne OptionalKnown fs → AreKnownDefaults m (map optional_formal fs)
  mapped_defaults [] h = tt
  mapped_defaults (f ∷ fs) h = (h.0, mapped_defaults fs h.1)

  pub macro_defaults : (f : WrittenFormals) → FormalsKnown f → AreKnownDefaults m (macro_formals f).optional × AreKnownDefaults m (unwrap_or (macro_formals f).keys [])
  macro_defaults f h = (mapped_defaults f.optional h.0, go f.keys h.1)
    where
      go : (v : Option (List WrittenOptional)) → IfAny (EachOne OptionalKnown) v → AreKnownDefaults m (unwrap_or (option_map (map optional_formal) v) [])
      go None k = tt
      go (Some fs) k = mapped_defaults fs k
