-- Which functions stand that forms call: those that an expansion made, in its world and in others.
use Rattle.std.specs.Prelude.{◌≡◌, ℕ, List, [], ◌∷◌, ◌++◌, map, true}
use Rattle.model_objects.specs.Object.{Object}
use Rattle.model_terms.specs.Cores.{Core}
use Rattle.model_terms.specs.Rounds.{Member}
use Rattle.model_terms.specs.Worlds.{World, Signature, definition_name}
use Rattle.model_expansion.specs.Layers.{GuardItem}
use Rattle.model_expansion.specs.Expansion.{Setting, Progress, Makes, expanded, expanded_guard}
use Rattle.model_expansion_forms.specs.Rows.{HasRowFunctions, AreShapedItems}
use Rattle.model_events.specs.Functions.{Draft, Candidate, all_expanded, with_names, before_rounds, signed, members}
use Rattle.model_slots_laws.specs.Standing.{functions_stand}

-- what an expansion made calls functions of its world
pub record ExpandedStand : Type 0 where
  pub form : (x : Setting) (o : Object ℕ) (p q : Progress) (f : Core) → HasRowFunctions x.world → expanded x o p ≡ Makes f q → functions_stand x.world f ≡ true
  pub guard : (x : Setting) (gs : List GuardItem) (p q : Progress) (f : Core) → HasRowFunctions x.world → AreShapedItems gs
      → expanded_guard x gs p ≡ Makes f q → functions_stand x.world f ≡ true

-- the functions of a form stand where definitions have the same names, and where there are more
pub record StandingStays : Type 0 where
  pub names : (w v : World) (f : Core) → map definition_name w ≡ map definition_name v → functions_stand w f ≡ true → functions_stand v f ≡ true
  pub more : (w new : World) (f : Core) → functions_stand w f ≡ true → functions_stand (w ++ new) f ≡ true

-- what the built-in macros call stands where there are more definitions
pub record RowFunctionsStay : Type 0 where
  pub more : (w new : World) → HasRowFunctions w → HasRowFunctions (w ++ new)

-- the functions that a guard and a body call stand
pub record MemberStands (w : World) (m : Member) : Type 0 where
  pub guard : functions_stand w m.guard ≡ true
  pub body : functions_stand w m.body ≡ true

abbrev pub MembersStand : World → List Member → Type 0
MembersStand w [] = Unit {0}
MembersStand w (m ∷ ms) = MemberStands w m × MembersStand w ms

-- the tests in the guards of drafts bind as many forms as names
abbrev pub HaveShapedGuards : List Draft → Type 0
HaveShapedGuards [] = Unit {0}
HaveShapedGuards (d ∷ ds) = AreShapedItems d.declared.guards × HaveShapedGuards ds

-- functions that are expanded together call what stands beside them: by their names, as rounds begin, and by their signatures
pub record CandidatesStand : Type 0 where
  pub by_names : (x : Setting) (ds : List Draft) (p q : Progress) (cs : List Candidate) → HasRowFunctions x.world → HaveShapedGuards ds
      → all_expanded (record x { world = with_names x.world ds }) ds [] p ≡ Makes cs q → MembersStand (with_names x.world ds) (members cs)
  pub rounds : (x : Setting) (ds : List Draft) (p q : Progress) (cs : List Candidate) → HasRowFunctions x.world → HaveShapedGuards ds
      → all_expanded (record x { world = with_names x.world ds }) ds [] p ≡ Makes cs q → MembersStand (x.world ++ map before_rounds cs) (members cs)
  pub by_signatures : (x : Setting) (ds : List Draft) (p q : Progress) (cs : List Candidate) (known : List (ℕ × Signature)) → HasRowFunctions x.world → HaveShapedGuards ds
      → all_expanded (record x { world = with_names x.world ds }) ds [] p ≡ Makes cs q → MembersStand (x.world ++ map (signed known) cs) (members cs)
