-- A macro that enters has a body, and a world without functions that were written has whatever origins.
use Rattle.std.specs.Prelude.{◌≡◌, ℕ, List, [], ◌∷◌, ◌++◌, length, None, Some}
use Rattle.std.specs.List.{AllByRecursion}
use Rattle.model_prims.specs.Rows.{Row, table}
use Rattle.model_terms.specs.Cores.{Core}
use Rattle.model_terms.specs.Worlds.{World, Definition, MacroFormals, Primitive, Defined, Macro, Constant, Concrete, Generated, Abstract, OfAbstract, Named, Signed}
use Rattle.model_terms.specs.Faults.{formal_names, macro_fault}
use Rattle.model_accepted.specs.Threaded.{Suits}
use Rattle.model_lawful.specs.Lawful.{IsSigned}
use Rattle.model_lawful.proofs.LawfulLemmas.{lawful_worlds}
use Rattle.model_slots.specs.Trees.{Tree}
use Rattle.model_slots.specs.Environments.{formal_environment}
use Rattle.model_slots.specs.Resolved.{resolved}
use Rattle.model_macro_bodies.specs.Bodies.{HasBody}
use Rattle.model_expansion_forms.specs.Nodes.{IsWellCalled}
use Rattle.model_books.specs.Opening.{primitive_numbers, primitives_named, opening_constants, opening_world}
use Rattle.model_made.specs.Lawful.{IsAdmitted, IsLawfulWorld}
use Rattle.model_made.proofs.FormLemmas.{formed_of}
use Rattle.model_made.proofs.OpeningLemmas.{opening_is_lawful}
use Rattle.model_origins.specs.Plain.{IsPlain, IsBare}
use Rattle.model_origins.specs.Laws.{MacrosHaveBodies, PlainWorldsHaveOrigins}
use Rattle.model_origins.proofs.PlainLemmas.{each_found}
use Rattle.model_origins.proofs.KeepLemmas.{body_still}

-- ---- macros

not_signed : (d : Definition) → IsAdmitted d → IsSigned d → ⊥
not_signed (Primitive name row) a s = s
not_signed (Defined f) a s = s
not_signed (Macro name formals body) a s = s
not_signed (Constant name value) a s = s
not_signed (Concrete d class) a s = s
not_signed (Generated g) a s = s
not_signed (Abstract d) a s = s
not_signed (OfAbstract f) a s = s
not_signed (Named name formals) a s = s
not_signed (Signed name formals signature executable) a s = a

-- a lawful world suits itself
pub suits_itself : (w : World) → IsLawfulWorld w → Suits w w
suits_itself w l = lawful_worlds.suits w l.lawful (λ x d e. not_signed d (l.admitted x d e))

abbrev pub body_here : (w : World) → IsLawfulWorld w → (formals : MacroFormals) (body : Core) (tree : Tree) → IsWellCalled w body → macro_fault w formals body ≡ None
    → resolved w (formal_environment (formal_names formals)) (length (formal_names formals)) body ≡ Some tree → HasBody w formals body tree
body_here w l formals body tree called accepted is = record {
  world = w;
  suits = suits_itself w l;
  earlier = record { number = λ f n e. e };
  formed = formed_of w l.made body called.closed called.formed;
  accepted = accepted;
  is = is;
}

pub macros_have_bodies : MacrosHaveBodies
macros_have_bodies = record { body = λ w new l none formals body tree called accepted is. body_still w new none formals body tree (body_here w l formals body tree called accepted is) }

-- ---- the opening world

bare_primitives : (ns : List ℕ) (rows : List Row) (w : World) → AllByRecursion IsBare w → AllByRecursion IsBare (primitives_named ns rows ++ w)
bare_primitives [] rows w h = h
bare_primitives (n ∷ ns) [] w h = h
bare_primitives (n ∷ ns) (r ∷ rs) w h = (tt, bare_primitives ns rs w h)

bare_opening : AllByRecursion IsBare opening_world
unfolding opening_world
bare_opening = bare_primitives primitive_numbers table opening_constants (tt, (tt, tt))

pub plain_worlds_have_origins : PlainWorldsHaveOrigins
plain_worlds_have_origins = record {
  origins = λ w plain origins. record {
    guard = λ x f e run. absurd (each_found IsPlain w plain x (Defined f) e);
    body = λ x f e run. absurd (each_found IsPlain w plain x (Defined f) e);
    export = λ x f e r. absurd (each_found IsPlain w plain x (OfAbstract f) e);
    formals = λ x f e. absurd (each_found IsPlain w plain x (OfAbstract f) e);
  };
  opening = bare_opening;
  threaded = lawful_worlds.threaded opening_world opening_is_lawful.world.lawful;
}
