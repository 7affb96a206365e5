-- A stobj that has entered with its functions.
use Rattle.std.specs.Prelude.{◌≡◌, ℕ, List, [], ◌∷◌, length, Some, refl}
use Rattle.std.specs.List.{AllByRecursion}
use Rattle.std.proofs.Common.{sym, ap, subst}
use Rattle.model_symbols.specs.Symbols.{Table}
use Rattle.model_terms.specs.Worlds as worlds
use Rattle.model_terms.specs.Worlds.{World}
use Rattle.model_terms.specs.Accessors.{descriptor_in}
use Rattle.model_known.specs.Known.{KnowsFields, KnowsStarts}
use Rattle.model_made.specs.Lawful.{IsLawfulWorld}
use Rattle.model_origins.proofs.PlainLemmas.{each_found}
use Rattle.acl_heap.specs.Objects.{Objects}
use Rattle.acl_terms.specs.declared.definition.Definition.{Definition}
use Rattle.acl_terms.specs.declared.definition.Definition.TheVariants as definition
use Rattle.acl_terms.specs.declared.definition.GeneratedFunction.{GeneratedFunction}
use Rattle.acl_terms.specs.declared.stobj.Descriptor.{Descriptor}
use Rattle.acl_terms.specs.Definitions.{seen_definitions, seen_descriptor}
use Rattle.acl_worlds.specs.Contents.{Content, IsWorld, WorldLies, seen_world}
use Rattle.acl_code.specs.declared.term.Term.{Term}
use Rattle.acl_layouts.specs.Typed.{AreTyped, AcceptsTypes}
use Rattle.acl_enter_stobj.specs.Entered.{functions, Enters}
use Rattle.acl_tables.specs.Plain.{HasNoCode}
use Rattle.acl_origins.specs.Bodies.{HasNoBody}
use Rattle.acl_fitting.specs.Going.{FitsOn}
use Rattle.acl_fitting.specs.Laws.{EnteredStobjsFit}
use Rattle.acl_fitting.proofs.FitLemmas.{stobjs_fit}

-- ---- a stobj and functions, as they are seen

abbrev OfStobj : List worlds.Field → worlds.Definition → Type 0
OfStobj fields (worlds.Primitive name row) = ⊥
OfStobj fields (worlds.Defined f) = ⊥
OfStobj fields (worlds.Macro name formals body) = ⊥
OfStobj fields (worlds.Constant name value) = ⊥
OfStobj fields (worlds.Concrete d class) = d.fields ≡ fields
OfStobj fields (worlds.Generated g) = Unit {0}
OfStobj fields (worlds.Abstract d) = ⊥
OfStobj fields (worlds.OfAbstract f) = ⊥
OfStobj fields (worlds.Named name formals) = ⊥
OfStobj fields (worlds.Signed name formals signature executable) = ⊥

functions_of : (h : Objects) (fields : List worlds.Field) (fs : List GeneratedFunction) → AllByRecursion (OfStobj fields) (seen_definitions h (functions fs))
functions_of h fields [] = tt
functions_of h fields (f ∷ fs) = (tt, functions_of h fields fs)

functions_plain : (fs : List GeneratedFunction) → AllByRecursion HasNoCode (functions fs) × AllByRecursion HasNoBody (functions fs)
functions_plain [] = (tt, tt)
functions_plain (f ∷ fs) = let others = functions_plain fs in ((tt, others.0), (tt, others.1))

typed_of : (fields : List worlds.Field) (w : World) → AllByRecursion (OfStobj fields) w → AreTyped fields → AcceptsTypes w
typed_of fields w all typed = record { each = λ x d class e. subst AreTyped (sym (each_found (OfStobj fields) w all x (worlds.Concrete d class) e)) typed }

known_in : (n : ℕ) (fields : List worlds.Field) (d : worlds.Definition) (q : worlds.Descriptor) → OfStobj fields d → Some q ≡ descriptor_in d → KnowsFields n fields → KnowsFields n q.fields
known_in n fields (worlds.Primitive name row) q o e k = absurd o
known_in n fields (worlds.Defined f) q o e k = absurd o
known_in n fields (worlds.Macro name formals body) q o e k = absurd o
known_in n fields (worlds.Constant name value) q o e k = absurd o
known_in n fields (worlds.Concrete d class) q o e k = let same : q ≡ d = cc in subst (λ (x : worlds.Descriptor). KnowsFields n x.fields) (sym same) (subst (KnowsFields n) (sym o) k)
known_in n fields (worlds.Generated g) q o e k = absurd (cc)
known_in n fields (worlds.Abstract d) q o e k = absurd o
known_in n fields (worlds.OfAbstract f) q o e k = absurd o
known_in n fields (worlds.Named name formals) q o e k = absurd o
known_in n fields (worlds.Signed name formals signature executable) q o e k = absurd o

known_of : (n : ℕ) (fields : List worlds.Field) (w : World) → AllByRecursion (OfStobj fields) w → KnowsFields n fields → KnowsStarts n w
known_of n fields w all known = record { each = λ x d q e f. known_in n fields d q (each_found (OfStobj fields) w all x d (sym e)) f known }

-- ---- the world that it enters

entered_fit : (t : Table) (h : Objects) (old new : Content) (d : Descriptor) (terms : List Term) → IsWorld new → Enters old new d → WorldLies h new
    → AreTyped (seen_descriptor h d).fields → KnowsFields (length t.symbols) (seen_descriptor h d).fields → IsLawfulWorld (seen_world h old) → IsLawfulWorld (seen_world h new) → FitsOn terms h old t → FitsOn terms h new t
entered_fit t h old new d terms world enters lies typed known l k f =
    let ds : List Definition = definition.Object d (record { 0 = length old.layouts }) enters.class ∷ functions enters.own in
    let fields : List worlds.Field = (seen_descriptor h d).fields in
    let all : AllByRecursion (OfStobj fields) (seen_definitions h ds) = (refl, functions_of h fields enters.own) in
    let plain = functions_plain enters.own in
    stobjs_fit.fit t h old new ds terms world (ap (λ (x : Content). x.definitions) enters.is) lies (tt, plain.0) (tt, plain.1)
    (typed_of fields (seen_definitions h ds) all typed) (known_of (length t.symbols) fields (seen_definitions h ds) all known) l k f

pub entered_stobjs_fit : EnteredStobjsFit
entered_stobjs_fit = record { fit = entered_fit }
