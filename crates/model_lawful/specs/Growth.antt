-- Worlds that grow while functions are admitted: what was found in one when a form was checked still stands.
use Rattle.std.specs.Prelude.{◌≡◌, ℕ, true, Some}
use Rattle.model_terms.specs.Worlds.{World, Definition, Function, definition, Primitive, Defined, Macro, Constant, Concrete, Generated, Abstract, OfAbstract, Named, Signed}
use Rattle.model_terms.specs.Classes.{congruent}
use Rattle.model_terms.specs.Accessors.{ChildAccessor, child_accessor}
use Rattle.model_eval_laws.specs.Agreement.{IsClosedWorld}
use Rattle.model_accepted.specs.Threaded.{layout_of, Reaches, Suits}

-- a function that was being admitted stands with the signature that it had; every other definition stands as it was, but for names without a signature
abbrev pub IsSettled : World → ℕ → Definition → Type 0
IsSettled w x (Primitive name row) = definition w x ≡ Some (Primitive name row)
IsSettled w x (Defined f) = definition w x ≡ Some (Defined f)
IsSettled w x (Macro name formals body) = definition w x ≡ Some (Macro name formals body)
IsSettled w x (Constant name value) = definition w x ≡ Some (Constant name value)
IsSettled w x (Concrete d class) = definition w x ≡ Some (Concrete d class)
IsSettled w x (Generated g) = definition w x ≡ Some (Generated g)
IsSettled w x (Abstract d) = definition w x ≡ Some (Abstract d)
IsSettled w x (OfAbstract f) = definition w x ≡ Some (OfAbstract f)
IsSettled w x (Named name formals) = definition w x ≡ Some (Named name formals)
IsSettled w x (Signed name formals signature executable) = (f : Function) × (definition w x ≡ Some (Defined f)) × (f.signature ≡ signature) × (f.executable ≡ executable)

pub record Becomes (c w : World) : Type 0 where
  pub each : (x : ℕ) (d : Definition) → definition c x ≡ Some d → IsSettled w x d

-- congruent stobjs have one layout, and the accessors of children reach them
pub record HasLawfulStobjs (c : World) : Type 0 where
  pub layouts : (x y : ℕ) → congruent c x y ≡ true → layout_of c x ≡ layout_of c y
  pub accessors : (f : ℕ) (a : ChildAccessor) → child_accessor c f ≡ Some a → Reaches c f a

pub record SuitsWhatItBecomes : Type 0 where
  pub suits : (c w : World) → IsClosedWorld c → HasLawfulStobjs c → Becomes c w → Suits c w
