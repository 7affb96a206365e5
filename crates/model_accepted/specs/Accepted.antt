-- Forms that were accepted: each rule holds at the form and at each place below it.
use Rattle.std.specs.Prelude.{ℕ, List, [], ◌∷◌, Option, None}
use Rattle.std.specs.List.{AllByRecursion}
use Rattle.model_terms.specs.declared.rule.Mode.{Mode}
use Rattle.model_terms.specs.Cores.{Core, Cores, none, more}
use Rattle.model_terms.specs.Worlds.{World, Out, Scope}
use Rattle.model_terms.specs.Sites.{Placed, here, below, first_kind, other_kinds, formal_stobj, actual_expected}
use Rattle.model_terms_laws.specs.Laws.{AllHold}

-- all rules hold at each of some places
abbrev pub Hold : World → Mode → List Placed → Type 0
Hold c mode ps = AllByRecursion (AllHold c mode) ps

-- all rules hold at the form and at each place below it
abbrev pub Accepted : World → Mode → Scope → Core → Option ℕ → List Out → Type 0
Accepted c mode scope f formal expected = Hold c mode (here f scope formal expected ∷ below c scope f expected)

-- the same of forms that give one output each, and of actuals
abbrev pub PartsAccepted : World → Mode → Scope → List Out → Cores → Type 0
PartsAccepted c mode scope kinds none = Unit {0}
PartsAccepted c mode scope kinds (more f fs) = Accepted c mode scope f None (first_kind kinds ∷ []) × PartsAccepted c mode scope (other_kinds kinds) fs

abbrev pub ActualsAccepted : World → Mode → Scope → List Out → Cores → Type 0
ActualsAccepted c mode scope ins none = Unit {0}
ActualsAccepted c mode scope ins (more f fs) =
    Accepted c mode scope f (formal_stobj (first_kind ins)) (actual_expected (first_kind ins) f) × ActualsAccepted c mode scope (other_kinds ins) fs
