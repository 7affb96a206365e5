-- How deep forms are that an expansion made, and that their constants are known.
use Rattle.std.specs.Prelude.{◌≡◌, ℕ, ◌≤◌, List}
use Rattle.model_objects.specs.Object.{Object}
use Rattle.model_terms.specs.Cores.{Core, Cores}
use Rattle.model_expansion.specs.TypeTerms as expansion
use Rattle.model_expansion.specs.Layers.{GuardItem}
use Rattle.model_expansion.specs.Expansion.{Setting, Progress, Makes, expanded, expanded_guard}
use Rattle.model_expansion_forms.specs.Nodes.{AllNodes, HasConstant, IsBelow}
use Rattle.model_expansion_parts.specs.Known.{KnowsForm}
use Rattle.acl_terms.specs.Depths.{depth_of, depth_of_all}
use Rattle.acl_code.specs.Constants.{FormIsKnown, FormsAreKnown}

pub record DepthsAgree : Type 0 where
  pub form : (f : Core) → depth_of f ≡ expansion.depth_of f
  pub parts : (fs : Cores) → depth_of_all fs ≡ expansion.depth_of_all fs

-- what stands for a form, or for the guard of a definition
pub record ExpansionsAreShallow : Type 0 where
  pub form : (x : Setting) (o : Object ℕ) (p q : Progress) (f : Core) → expanded x o p ≡ Makes f q → depth_of f ≤ 2048
  pub guard : (x : Setting) (gs : List GuardItem) (p q : Progress) (f : Core) → expanded_guard x gs p ≡ Makes f q → depth_of f ≤ 2048

pub record KnowledgeAgrees : Type 0 where
  pub form : (n : ℕ) (f : Core) → KnowsForm n f → FormIsKnown n f
  pub parts : (n : ℕ) (fs : Cores) → AllNodes (HasConstant (IsBelow n)) fs → FormsAreKnown n fs
  pub back : (n : ℕ) (f : Core) → FormIsKnown n f → KnowsForm n f
