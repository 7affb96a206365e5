-- How the functions of abstract stobjs were written, in worlds that commands have made, as a law.
use Rattle.std.specs.Prelude.{◌≡◌, ◌⊎◌, ℕ, List, [], ◌∷◌, map, Option, Some, None}
use Rattle.model_prims.specs.declared.prim.Prim.{Prim}
use Rattle.model_prims.specs.declared.prim.Prim.TheVariants as prim
use Rattle.model_prims.specs.declared.prim.Relation.TheVariants as relation
use Rattle.model_prims.specs.declared.prim.Listing.TheVariants as listing
use Rattle.model_terms.specs.declared.role.AbstractRole.TheVariants as abstract_role
use Rattle.model_terms.specs.Worlds.{World, Definition, Descriptor, AbstractFunction, AbstractDescriptor, FunctionOfAbstract, definition, Primitive, Defined, Macro, Constant, Concrete, Generated, Abstract, OfAbstract, Named, Signed}
use Rattle.model_expansion.specs.Words.{equal_word, nth_word}
use Rattle.model_stobjs.specs.Abstracts.{signature, export_formals, abstracted, logic_guard, to_exports}
use Rattle.model_stobjs.specs.Guards.{with_functions}
use Rattle.model_books.specs.Opening.{Session}
use Rattle.model_made.specs.Made.{IsMade}

abbrev pub IsAmong : AbstractFunction → List AbstractFunction → Type 0
IsAmong f [] = ⊥
IsAmong f (g ∷ gs) = (f ≡ g) ⊎ IsAmong f gs

-- the function is what the event made of the export, as this world has its logic and exec functions
pub record IsWrittenAs (w : World) (d : AbstractDescriptor) (e : AbstractFunction) (f : FunctionOfAbstract) : Type 0 where
  pub logic : f.logic ≡ e.logic
  pub exec : f.exec ≡ e.exec
  pub formals : f.formals ≡ export_formals w d e
  pub ins : f.signature.ins ≡ map (abstracted w d.name) (signature w e.exec).ins
  pub outs : f.signature.outs ≡ map (abstracted w d.name) (signature w e.exec).outs
  pub guard : f.guard ≡ with_functions (logic_guard w d e) (to_exports w d)

-- the export that it is
pub record IsExportWritten (w : World) (d : AbstractDescriptor) (f : FunctionOfAbstract) : Type 0 where
  pub export : AbstractFunction
  pub among : IsAmong export d.exports
  pub written : IsWrittenAs w d export f

-- the primitive under a name
abbrev pub prim_of : Option Definition → Option Prim
prim_of None = None
prim_of (Some (Primitive name row)) = Some row.prim
prim_of (Some (Defined f)) = None
prim_of (Some (Macro name formals body)) = None
prim_of (Some (Constant name value)) = None
prim_of (Some (Concrete d class)) = None
prim_of (Some (Generated g)) = None
prim_of (Some (Abstract d)) = None
prim_of (Some (OfAbstract f)) = None
prim_of (Some (Named name formals)) = None
prim_of (Some (Signed name formals signature executable)) = None

pub record MadeExportsAreWritten : Type 0 where
  pub exports : (s : Session) → IsMade s → (x : ℕ) (f : FunctionOfAbstract) → definition s.environment.world x ≡ Some (OfAbstract f) → f.role ≡ abstract_role.Export
      → (d : AbstractDescriptor) → definition s.environment.world f.stobj ≡ Some (Abstract d) → IsExportWritten s.environment.world d f
  pub creators : (s : Session) → IsMade s → (x : ℕ) (d : AbstractDescriptor) → definition s.environment.world x ≡ Some (Abstract d)
      → (c : Descriptor) × (class : ℕ) × (definition s.environment.world d.foundation ≡ Some (Concrete c class)) × (d.creator.exec ≡ c.creator)
  pub equal : (s : Session) → IsMade s → prim_of (definition s.environment.world equal_word) ≡ Some (prim.Relation relation.Equal)
  pub nth : (s : Session) → IsMade s → prim_of (definition s.environment.world nth_word) ≡ Some (prim.Listing listing.Nth)
