-- Events: each brings definitions, a stobj, or a package, or is refused (ACL2's manual, topic EVENTS).
use Rattle.std.specs.Prelude.{ℕ, List, [], ◌∷◌, ◌++◌, map, Option, Some, None, nat_eq, if◌then◌else◌}
use Rattle.model_objects.specs.Object.{Object}
use Rattle.model_symbols.specs.Symbols.{Package, package_at}
use Rattle.model_terms.specs.Worlds.{World, Definition, Descriptor, AbstractDescriptor, definition_name}
use Rattle.model_expansion.specs.Words.{in_package_word, defpkg_word, defconst_word, defmacro_word, mutual_recursion_word, defstobj_word, defabsstobj_word}
use Rattle.model_expansion.specs.Expansion.{Setting, Progress}
use Rattle.model_stobjs.specs.Answers.{EventResult, Grants, unless, then_grant}
use Rattle.model_stobjs.specs.Descriptors.{descriptor_read}
use Rattle.model_stobjs.specs.Entries.{stobj_entries}
use Rattle.model_events.specs.Functions.{functions_read}
use Rattle.model_events.specs.Macros.{macro_read}
use Rattle.model_events.specs.Constants.{constant_read, package_read, current_read}
use Rattle.model_stobjs.specs.Abstracts.{abstract_read, abstract_entries}
use Rattle.model_stobjs.specs.Obligations.{Obligation, obligations, too_large}

-- definitions, packages, and the number of the current package
pub record Environment : Type 0 where
  pub world : World
  pub packages : List Package
  pub current : ℕ

-- what is said of an event that was admitted
pub data Said : Type 0 where
  Name : ℕ → Said
  Names : List ℕ → Said
  PackageName : List ℕ → Said
  Obliged : ℕ → List Obligation → Said

pub record Admitted : Type 0 where
  pub environment : Environment
  pub created : Option ℕ  -- the stobj that it makes
  pub said : Said

-- the most calls, and the most forms open at once
pub record Limits : Type 0 where
  pub steps : ℕ
  pub depth : ℕ

module _ (s : Environment) where
  abbrev pub setting : Limits → Setting
  setting bounds = record { world = s.world; packages = s.packages; steps = bounds.steps; depth = bounds.depth }

  abbrev pub defining : World → Environment
  defining entries = record s { world = s.world ++ entries }

  abbrev pub names_said : ℕ → World → Said
  names_said head [] = Names []
  names_said head (d ∷ ds) = if nat_eq head mutual_recursion_word then Names (map definition_name (d ∷ ds)) else Name (definition_name d)

  -- definitions of functions, macros or constants
  abbrev pub definitions_admitted : ℕ → World → Progress → EventResult Admitted
  definitions_admitted head entries p = Grants (record { environment = defining entries; created = None; said = names_said head entries }) p

  abbrev pub stobj_admitted : Descriptor → Progress → EventResult Admitted
  stobj_admitted d p = Grants (record { environment = defining (stobj_entries s.world d); created = Some d.name; said = Name d.name }) p

  abbrev pub obligations_admitted : AbstractDescriptor → List Obligation → Progress → EventResult Admitted
  obligations_admitted d os p =
      unless (too_large os) (Grants (record { environment = defining (abstract_entries s.world d); created = Some d.name; said = Obliged d.name os })) p

  abbrev pub abstract_admitted : AbstractDescriptor → Progress → EventResult Admitted
  abstract_admitted d p = obligations_admitted d (obligations s.world p.symbols d) p

  abbrev pub package_admitted : Package → Progress → EventResult Admitted
  package_admitted q p =
      Grants (record { environment = record s { packages = s.packages ++ q ∷ [] }; created = None; said = PackageName q.name }) p

  abbrev pub current_admitted : ℕ → Progress → EventResult Admitted
  current_admitted n p =
      Grants (record { environment = record s { current = n }; created = None; said = PackageName (package_at s.packages n).name }) p

  -- an event with this head, from what stands behind it
  unfoldable pub admitted : Limits → ℕ → Object ℕ → Progress → EventResult Admitted
  admitted bounds head d p =
      if nat_eq head in_package_word then then_grant (current_read s.packages d p) current_admitted
      else if nat_eq head defpkg_word then then_grant (package_read (setting bounds) d p) package_admitted
      else if nat_eq head defconst_word then then_grant (constant_read (setting bounds) d p) (definitions_admitted head)
      else if nat_eq head defmacro_word then then_grant (macro_read (setting bounds) d p) (definitions_admitted head)
      else if nat_eq head defstobj_word then then_grant (descriptor_read s.world s.packages d p) stobj_admitted
      else if nat_eq head defabsstobj_word then then_grant (abstract_read s.world s.packages d p) abstract_admitted
      else then_grant (functions_read (setting bounds) head d p) (definitions_admitted head)
