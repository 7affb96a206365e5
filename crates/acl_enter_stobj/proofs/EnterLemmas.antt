-- A world with one more stobj, as it is seen in a heap.
use Rattle.std.specs.Prelude.{◌≡◌, ℕ, ◌≤◌, List, [], ◌∷◌, ◌++◌, length, map, max, nat_eq, refl}
use Rattle.std.specs.List.{IsDistinct}
use Rattle.std.proofs.Common.{ap, sym, subst, ◌∙◌, arith}
use Rattle.std.proofs.lemmas.List.{map-append}
use Rattle.model_terms.specs.Worlds as worlds
use Rattle.model_terms.specs.Worlds.{World, HasDistinctNames, definition_name}
use Rattle.model_stobjs.specs.Entries.{class_for, generated_functions, stobj_entries}
use Rattle.acl_base.specs.declared.SymId.{SymId}
use Rattle.acl_base.specs.declared.layout.Field.{Field}
use Rattle.acl_heap.specs.Objects.{Objects}
use Rattle.acl_terms.specs.declared.definition.Definition.{Definition}
use Rattle.acl_terms.specs.declared.definition.Definition.TheVariants as definition
use Rattle.acl_terms.specs.declared.definition.GeneratedFunction.{GeneratedFunction}
use Rattle.acl_terms.specs.declared.stobj.Descriptor.{Descriptor}
use Rattle.acl_terms.specs.Definitions.{seen_definition, seen_definitions, seen_generated, seen_descriptor, descriptor_reach, definition_reach, definitions_reach}
use Rattle.acl_worlds.specs.Contents.{Content, seen_world, names_in, WorldLies}
use Rattle.acl_worlds.proofs.WorldLemmas.{seen_names}
use Rattle.acl_enter_stobj.specs.Laid.{fields_laid}
use Rattle.acl_enter_stobj.specs.Entered.{function_names, functions, entered, Enters}

functions_seen : (h : Objects) (fs : List GeneratedFunction) → seen_definitions h (functions fs) ≡ map worlds.Generated (map seen_generated fs)
functions_seen h [] = refl
functions_seen h (f ∷ fs) = ap (λ (ds : World). worlds.Generated (seen_generated f) ∷ ds) (functions_seen h fs)

functions_named : (fs : List GeneratedFunction) → map definition_name (map worlds.Generated (map seen_generated fs)) ≡ function_names fs
functions_named [] = refl
functions_named (f ∷ fs) = ap (λ ns. f.name.0 ∷ ns) (functions_named fs)

reach_with : (ds : List Definition) (d : Definition) (fs : List GeneratedFunction) (n : ℕ) → definitions_reach ds ≤ n → definition_reach d ≤ n → definitions_reach (ds ++ d ∷ functions fs) ≤ n
reach_with [] d [] n l k = omega (arith, k)
reach_with [] d (f ∷ fs) n l k = let r : definitions_reach (d ∷ functions fs) ≤ n = reach_with [] d fs n l k in omega (arith, k, r)
reach_with (e ∷ ds) d fs n l k = let r : definitions_reach (ds ++ d ∷ functions fs) ≤ n = reach_with ds d fs n (omega (arith, l)) k in omega (arith, l, r)

module _ (h : Objects) (w : Content) (d : Descriptor) (fs : List GeneratedFunction) where
  module _ (made : map seen_generated fs ≡ generated_functions (seen_descriptor h d)) where
    pub all_fresh : HasDistinctNames (seen_world h w ++ stobj_entries (seen_world h w) (seen_descriptor h d)) → IsDistinct nat_eq (names_in w.definitions ++ d.name.0 ∷ function_names fs)
    all_fresh distinct =
        let own : map definition_name (stobj_entries (seen_world h w) (seen_descriptor h d)) ≡ d.name.0 ∷ function_names fs =
        ap (λ (gs : List worlds.GeneratedFunction). d.name.0 ∷ map definition_name (map worlds.Generated gs)) (sym made) ∙ ap (λ ns. d.name.0 ∷ ns) (functions_named fs) in
        subst (λ ns. IsDistinct nat_eq ns)
        (map-append definition_name (seen_world h w) (stobj_entries (seen_world h w) (seen_descriptor h d))
        ∙ (ap (λ ns. ns ++ map definition_name (stobj_entries (seen_world h w) (seen_descriptor h d))) (seen_names h w.definitions) ∙ ap (λ ns. names_in w.definitions ++ ns) own))
        distinct

    pub stobj_seen : (class : SymId) (l : List Field) (new : Content) → class.0 ≡ class_for (seen_world h w) (seen_descriptor h d) → new ≡ entered w d class l fs
        → seen_world h new ≡ seen_world h w ++ stobj_entries (seen_world h w) (seen_descriptor h d)
    stobj_seen class l new same is =
        ap (seen_world h) is
        ∙ (map-append (seen_definition h) w.definitions (definition.Object d (record { 0 = length w.layouts }) class ∷ functions fs)
        ∙ (ap (λ (ds : World). seen_world h w ++ worlds.Concrete (seen_descriptor h d) class.0 ∷ ds) (functions_seen h fs)
        ∙ (ap (λ (gs : List worlds.GeneratedFunction). seen_world h w ++ worlds.Concrete (seen_descriptor h d) class.0 ∷ map worlds.Generated gs) made
        ∙ ap (λ n. seen_world h w ++ worlds.Concrete (seen_descriptor h d) n ∷ map worlds.Generated (generated_functions (seen_descriptor h d))) same)))

  pub stobj_enters : (class : SymId) (l : List Field) (new : Content) → l ≡ fields_laid w d.fields → new ≡ entered w d class l fs → Enters w new d
  stobj_enters class l new same is = record { class = class; own = fs; is = is ∙ ap (λ k. entered w d class k fs) same }

  pub stobj_lies : (class : SymId) (l : List Field) (new : Content) → WorldLies h w → descriptor_reach d ≤ length h → new ≡ entered w d class l fs → WorldLies h new
  stobj_lies class l new lies reach is = subst (λ (v : Content). WorldLies h v) (sym is) (reach_with w.definitions (definition.Object d (record { 0 = length w.layouts }) class) fs (length h) lies reach)

pub lies_same : (h : Objects) (w new : Content) → WorldLies h w → new ≡ w → WorldLies h new
lies_same h w new lies e = subst (λ (v : Content). WorldLies h v) (sym e) lies
