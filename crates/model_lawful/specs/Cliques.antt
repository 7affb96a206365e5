-- Functions that the rules accept, as they stand in the world afterwards.
use Rattle.std.specs.Prelude.{◌≡◌, ℕ, List, [], true, false, Some, None}
use Rattle.std.specs.List.{AllByRecursion}
use Rattle.model_terms.specs.Worlds.{World, Function}
use Rattle.model_terms.specs.Classes.{repeats}
use Rattle.model_terms.specs.Outputs.{signature_of}
use Rattle.model_terms.specs.Accessors.{runs}
use Rattle.model_terms.specs.Rounds.{Member, formal_kinds}
use Rattle.model_terms.specs.Faults.{clique_fault}
use Rattle.model_eval_laws.specs.Agreement.{IsClosedWorld}
use Rattle.model_accepted.specs.Threaded.{IsFormed}
use Rattle.model_lawful.specs.Growth.{Becomes, HasLawfulStobjs}
use Rattle.model_lawful.specs.Lawful.{WasAdmitted}

-- the function that becomes of one that was admitted in world c, where it stands by its signature
pub record IsMadeOf (c : World) (m : Member) (f : Function) : Type 0 where
  pub formals : f.formals ≡ m.formals
  pub guard : f.guard ≡ m.guard
  pub body : f.body ≡ m.body
  pub signed : signature_of c [] f.name ≡ Some f.signature
  pub name : f.name ≡ m.name
  pub ins : f.signature.ins ≡ formal_kinds c m
  pub distinct : repeats m.formals ≡ false
  pub runs_there : runs c m.name ≡ true
  pub guard_formed : IsFormed c m.guard
  pub body_formed : IsFormed c m.body

-- each that runs was admitted
pub record CliquesAreAdmitted : Type 0 where
  pub admitted : (c w : World) → IsClosedWorld c → HasLawfulStobjs c → Becomes c w → (n : ℕ) (ms : List Member) → clique_fault c n ms ≡ None
      → AllByRecursion (λ m. (f : Function) → IsMadeOf c m f → WasAdmitted w f) ms
