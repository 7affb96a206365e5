-- The definition of constants and packages, and the current package (ACL2's manual, topics DEFCONST, DEFPKG, IN-PACKAGE).
use Rattle.std.specs.Prelude.{ℕ, List, [], ◌∷◌, ◌++◌, map, Bool, true, false, Option, Some, None, option_map, option_and_then, is_some, unwrap_or, if◌then◌else◌}
use Rattle.std.specs.Option.{option_or, option_map_or}
use Rattle.std.specs.Str.{bytes_eq}
use Rattle.model_objects.specs.Object.{Object, Integer, Symbol, Text, Pair}
use Rattle.model_symbols.specs.Symbols.{QualifiedName, Package, symbol_at, number_of, package_number, import_clash}
use Rattle.model_symbols.specs.Opening.{nil, hidden}
use Rattle.model_prims.specs.Kinds.{by_number}
use Rattle.model_terms.specs.Cores.{Core}
use Rattle.model_terms.specs.Worlds.{World, Definition, Constant}
use Rattle.model_terms.specs.Faults.{constant_fault}
use Rattle.model_eval.specs.Outcomes.{here, State, Outcome, Gives, Stops, Unknown, Depth}
use Rattle.model_eval.specs.Variables.{single, object_of}
use Rattle.model_eval.specs.Checked.{checked, begun}
use Rattle.model_expansion.specs.Words.{defconst_word, defpkg_word, in_package_word}
use Rattle.model_expansion.specs.Forms.{elements, each_of, symbol, text, has_stars, symbol_or_nil}
use Rattle.model_expansion.specs.Faults.{Refusal, BadShape, Expand, BadName, Thread, UnknownPackage, PackageExists, ImportClash}
use Rattle.model_expansion.specs.Expansion.{Setting, Progress, evaluated_to, expanded}
use Rattle.model_stobjs.specs.Answers.{EventResult, Grants, Refuses, Halts, unless, needing, expanding}
use Rattle.model_stobjs.specs.Heads.{name_in_use}

-- ---- values

-- the only value of an evaluation, where it ends with one
abbrev pub valued : {A : Type 0} → Outcome ℕ → (Object ℕ → Progress → EventResult A) → Progress → EventResult A
valued (Gives values state) go p = go (object_of by_number (single by_number values)) (evaluated_to p (here state) state)
valued (Stops stop origin state) go p = Halts stop origin.inside (evaluated_to p origin state)
valued Unknown go p = Halts Depth None p

-- a form without variables, evaluated; the rules for constants come first
abbrev pub constant_evaluated : {A : Type 0} → Setting → (Object ℕ → Progress → EventResult A) → Core → Progress → EventResult A
constant_evaluated x go f p =
    unless (option_map Thread (constant_fault x.world f)) (λ after. valued (checked x.world x.packages x.steps x.depth f [] (begun after.symbols [] after.calls)) go after) p

abbrev pub constant_value : {A : Type 0} → Setting → Object ℕ → (Object ℕ → Progress → EventResult A) → Progress → EventResult A
constant_value x form go p = expanding (expanded x form p) (constant_evaluated x go)

-- a string may stand at the end
abbrev pub ends_well : List (Object ℕ) → Bool
ends_well [] = true
ends_well (Text bytes ∷ []) = true
ends_well os = false

-- ---- DEFCONST

abbrev pub name_and_form : List (Object ℕ) → Option (Object ℕ × Object ℕ)
name_and_form (name ∷ (form ∷ os)) = if ends_well os then Some (name, form) else None
name_and_form os = None

-- a constant's name begins and ends with a star
abbrev pub bad_constant_name : List QualifiedName → Object ℕ → Option Refusal
bad_constant_name symbols (Symbol s) = if has_stars symbols s then None else Some (BadName (Symbol s))
bad_constant_name symbols o = Some (BadName o)

abbrev pub constant_then : Setting → Object ℕ × Object ℕ → Progress → EventResult World
constant_then x c p =
    unless (option_or (bad_constant_name p.symbols c.0) (name_in_use x.world (symbol_or_nil c.0 ∷ [])))
    (constant_value x c.1 (λ value. Grants (Constant (symbol_or_nil c.0) value ∷ []))) p

-- the definition of a constant, from what stands behind the head
unfoldable pub constant_read : Setting → Object ℕ → Progress → EventResult World
constant_read x d p = needing (option_and_then name_and_form (elements d)) (Expand (BadShape defconst_word)) (constant_then x) p

-- ---- DEFPKG

abbrev pub text_and_form_of : Object ℕ × Object ℕ → Option (List ℕ × Object ℕ)
text_and_form_of c = option_map (λ name. (name, c.1)) (text c.0)

abbrev pub text_and_form : Object ℕ → Option (List ℕ × Object ℕ)
text_and_form d = option_and_then text_and_form_of (option_and_then name_and_form (elements d))

abbrev pub clash_refusal : List QualifiedName → QualifiedName × QualifiedName → Refusal
clash_refusal symbols c = ImportClash (unwrap_or (number_of symbols c.0) nil) (unwrap_or (number_of symbols c.1) nil)

abbrev pub exists_already : List Package → List ℕ → Option Refusal
exists_already packages name = if is_some (package_number packages name) then Some (PackageExists (Text name)) else None

-- the package of this name with these imports
abbrev pub package_of : List Package → List ℕ → List QualifiedName → Progress → EventResult Package
package_of packages name imports p =
    unless (option_or (exists_already packages name) (option_map (clash_refusal p.symbols) (import_clash imports)))
    (Grants (record { name = name; imports = imports })) p

abbrev pub importing : List Package → List ℕ → Object ℕ → Progress → EventResult Package
importing packages name value p =
    needing (each_of symbol value) (Expand (BadShape defpkg_word)) (λ numbers after. package_of packages name (map (symbol_at after.symbols) numbers) after) p

abbrev pub package_then : Setting → List ℕ × Object ℕ → Progress → EventResult Package
package_then x c p = constant_value x c.1 (importing x.packages c.0) p

-- a new package, from what stands behind the head
unfoldable pub package_read : Setting → Object ℕ → Progress → EventResult Package
package_read x d p = needing (text_and_form d) (Expand (BadShape defpkg_word)) (package_then x) p

-- ---- IN-PACKAGE

abbrev pub only_text : List (Object ℕ) → Option (List ℕ)
only_text (o ∷ []) = text o
only_text os = None

-- the number of a package that is not hidden
abbrev pub visible_package : List Package → List ℕ → Option ℕ
visible_package packages name = if bytes_eq name hidden then None else package_number packages name

abbrev pub current_then : List Package → List ℕ → Progress → EventResult ℕ
current_then packages name p = needing (visible_package packages name) (UnknownPackage (Text name)) Grants p

-- the number of the package that is to be the current one, from what stands behind the head
unfoldable pub current_read : List Package → Object ℕ → Progress → EventResult ℕ
current_read packages d p = needing (option_and_then only_text (elements d)) (Expand (BadShape in_package_word)) (current_then packages) p
