-- What is said of a table of terms and a world, as definitions enter, as laws.
use Rattle.std.specs.Prelude.{◌≡◌, ℕ, ◌≤◌, List, [], ◌++◌, length}
use Rattle.std.specs.List.{AllByRecursion}
use Rattle.model_objects.specs.Object.{Object}
use Rattle.model_symbols.specs.Symbols.{Table, Package}
use Rattle.model_symbols.specs.Growth as tables
use Rattle.model_symbols.specs.Opening.{opening}
use Rattle.model_terms.specs.Worlds as worlds
use Rattle.model_terms.specs.Worlds.{World}
use Rattle.model_known.specs.Known.{KnowsFields, KnowsStarts}
use Rattle.model_expansion.specs.Expansion.{Progress}
use Rattle.model_stobjs.specs.Answers.{Grants}
use Rattle.model_stobjs.specs.Descriptors.{descriptor_read}
use Rattle.model_events.specs.Functions.{Candidate}
use Rattle.model_books.specs.Opening.{opening_world}
use Rattle.model_made.specs.Lawful.{IsLawfulWorld}
use Rattle.model_origins.specs.Plain.{IsPlain}
use Rattle.model_origins.specs.Admitted.{AreAdmitted}
use Rattle.acl_heap.specs.Objects.{Objects, Extends}
use Rattle.acl_terms.specs.Definitions.{seen_definitions, seen_descriptor, definitions_reach}
use Rattle.acl_terms.specs.declared.stobj.Descriptor.{Descriptor}
use Rattle.acl_terms.specs.declared.definition.Definition.{Definition}
use Rattle.acl_worlds.specs.Contents.{Content, IsWorld, WorldLies, seen_world}
use Rattle.acl_code.specs.declared.term.Term.{Term}
use Rattle.acl_layouts.specs.Typed.{AreTyped, AcceptsTypes}
use Rattle.acl_enter_stobj.specs.Entered.{Enters}
use Rattle.acl_cliques.specs.Entered.{Entered}
use Rattle.acl_tables.specs.Plain.{HasNoCode}
use Rattle.acl_origins.specs.Bodies.{MacrosWithin, HasNoBody, HadBodies}
use Rattle.acl_fitting.specs.Going.{FitsOn, TableGrows}

-- functions to come, constants, and macros that have their bodies
pub record PlainDefinitionsFit : Type 0 where
  pub fit : (t : Table) (h : Objects) (old new : Content) (ds : List Definition) (before after : List Term) → TableGrows h (length t.symbols) before after → IsWorld new → new.definitions ≡ old.definitions ++ ds
      → definitions_reach ds ≤ length h → AllByRecursion IsPlain (seen_definitions h ds) → MacrosWithin after ds → HadBodies h (seen_world h new) after ds → IsLawfulWorld (seen_world h old)
      → FitsOn before h old t → FitsOn after h new t

-- a table that is as it was
pub record TablesStay : Type 0 where
  pub same : (t : Table) (h : Objects) (w : Content) (terms : List Term) → FitsOn terms h w t → TableGrows h (length t.symbols) terms terms

-- functions that are admitted together
pub record FunctionsFit : Type 0 where
  pub fit : (t : Table) (h : Objects) (old new : Content) (cs : List Candidate) (before after : List Term) → TableGrows h (length t.symbols) before after → IsWorld new → Entered h old new after cs
      → AreAdmitted (seen_world h old) cs → IsLawfulWorld (seen_world h old) → FitsOn before h old t → FitsOn after h new t

-- stobjs with their functions: the types of their fields are accepted, and what they begin as has known symbols
pub record StobjsFit : Type 0 where
  pub fit : (t : Table) (h : Objects) (old new : Content) (ds : List Definition) (terms : List Term) → IsWorld new → new.definitions ≡ old.definitions ++ ds → WorldLies h new
      → AllByRecursion HasNoCode ds → AllByRecursion HasNoBody ds → AcceptsTypes (seen_definitions h ds) → KnowsStarts (length t.symbols) (seen_definitions h ds)
      → IsLawfulWorld (seen_world h old) → IsLawfulWorld (seen_world h new) → FitsOn terms h old t → FitsOn terms h new t

-- a stobj that has entered as the world has it, with its layout
pub record EnteredStobjsFit : Type 0 where
  pub fit : (t : Table) (h : Objects) (old new : Content) (d : Descriptor) (terms : List Term) → IsWorld new → Enters old new d → WorldLies h new
      → AreTyped (seen_descriptor h d).fields → KnowsFields (length t.symbols) (seen_descriptor h d).fields → IsLawfulWorld (seen_world h old) → IsLawfulWorld (seen_world h new) → FitsOn terms h old t → FitsOn terms h new t

-- the definition of a stobj is granted where the types of its fields are accepted
pub record DescriptorsAreTyped : Type 0 where
  pub typed : (w : World) (packages : List Package) (o : Object ℕ) (p q : Progress) (d : worlds.Descriptor) → descriptor_read w packages o p ≡ Grants d q → AreTyped d.fields

-- the world that every session begins with, and no terms
pub record OpeningFits : Type 0 where
  pub fit : (t : Table) (h : Objects) (w : Content) → IsWorld w → seen_world h w ≡ opening_world → WorldLies h w → tables.Extends opening t → FitsOn [] h w t

-- heap and symbols may grow
pub record GrowthFits : Type 0 where
  pub fit : (t t' : Table) (h h' : Objects) (w : Content) (terms : List Term) → Extends h h' → tables.Extends t t' → FitsOn terms h w t → FitsOn terms h' w t'
