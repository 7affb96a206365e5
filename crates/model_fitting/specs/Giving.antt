-- Worlds whose functions give no stobj but those that they are given, and scopes in which stobjs have their own names.
use Rattle.std.specs.Prelude.{◌≡◌, ℕ, List, Bool, true, false, Some}
use Rattle.model_terms.specs.Worlds.{World, Definition, Function, Defined, Signed, definition, Stobj, Signature, Scope}
use Rattle.model_terms.specs.Classes.{has, stobjs}
use Rattle.model_terms.specs.Scopes.{kind_in}
use Rattle.model_terms.specs.Outputs.{signature_in}
use Rattle.model_terms.specs.Accessors.{is_internal}

-- each stobj among the outputs is among the inputs
pub record GivesOnlyGiven (s : Signature) : Type 0 where
  pub each : (x : ℕ) → has (stobjs s.outs) x ≡ true → has (stobjs s.ins) x ≡ true

-- so does each function that a form may call
pub record GiveOnlyGiven (w : World) : Type 0 where
  pub functions : (f : ℕ) (d : Definition) (s : Signature) → definition w f ≡ Some d → signature_in d ≡ Some s → is_internal w d ≡ false → GivesOnlyGiven s

-- each stobj in scope is there under its own name
pub record HasOwnNames (scope : Scope) : Type 0 where
  pub each : (x y : ℕ) → kind_in scope x ≡ Some (Stobj y) → y ≡ x

-- each function that is defined, or being admitted, gives no stobj but those that it is given
pub record DefinedGiveOnlyGiven (w : World) : Type 0 where
  pub functions : (x : ℕ) (f : Function) → definition w x ≡ Some (Defined f) → GivesOnlyGiven f.signature
  pub admitted : (x name : ℕ) (formals : List ℕ) (s : Signature) (executable : Bool) → definition w x ≡ Some (Signed name formals s executable) → GivesOnlyGiven s
