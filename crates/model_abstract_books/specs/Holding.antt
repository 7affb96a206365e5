-- When the obligations of abstract objects hold: in the logic, for every choice of objects (ACL2's manual, topic
-- DEFABSSTOBJ).
use Rattle.std.specs.Prelude.{◌≡◌, ℕ, List, [], ◌∷◌, false, Some}
use Rattle.model_objects.specs.Object.{Symbol}
use Rattle.model_symbols.specs.Opening.{truth_name}
use Rattle.model_prims.specs.Kinds.{by_name, is_nil}
use Rattle.model_terms.specs.Cores.{Core}
use Rattle.model_terms.specs.Worlds.{AbstractDescriptor, Abstract, definition}
use Rattle.model_logic.specs.Logic.{Theory, Thing, Values, EndsWith}
use Rattle.model_stobjs.specs.Obligations.{Claim, Correspondence, GuardTheorem, Preserved, Obligation, all_core, obligations}

-- a value other than `NIL`; for a stobj that is kept well formed, `T`
abbrev pub IsMet : Claim → Thing → Type 0
IsMet Correspondence v = is_nil by_name v ≡ false
IsMet GuardTheorem v = is_nil by_name v ≡ false
IsMet Preserved v = v ≡ Symbol truth_name

module _ (b : Theory) where
  -- the form ends with a value other than `NIL`, whatever budget that takes
  abbrev pub EndsTrue : Core → Values → Type 0
  EndsTrue f values = (v : Thing) × EndsWith b f values v × (is_nil by_name v ≡ false)

  abbrev pub IsSupposed : List Core → Values → Type 0
  IsSupposed [] values = Unit {0}
  IsSupposed (h ∷ hs) values = EndsTrue (all_core (h ∷ hs)) values

  abbrev pub EndsMet : Claim → Core → Values → Type 0
  EndsMet claim f values = (v : Thing) × EndsWith b f values v × IsMet claim v

  -- for all objects as the values of its variables: where what is supposed ends with a value other than `NIL`, what follows
  -- ends so too
  pub record Holds (o : Obligation) : Type 0 where
    pub holds : (values : Values) → IsSupposed o.supposed values → EndsMet o.claim (all_core o.follows) values

  abbrev pub AllHold : List Obligation → Type 0
  AllHold [] = Unit {0}
  AllHold (o ∷ os) = Holds o × AllHold os

  -- the obligations of every abstract stobj hold
  pub record ObligationsHold : Type 0 where
    pub hold : (x : ℕ) (d : AbstractDescriptor) → definition b.world x ≡ Some (Abstract d) → AllHold (obligations b.world b.symbols d)
