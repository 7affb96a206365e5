-- Which core forms an expansion makes.
use Rattle.std.specs.Prelude.{◌≡◌, ℕ, ◌≤◌, List, length, Some}
use Rattle.model_objects.specs.Object.{Object}
use Rattle.model_objects.specs.Named.{Knows}
use Rattle.model_terms.specs.Cores.{Core}
use Rattle.model_expansion.specs.TypeTerms.{type_term, declared_test}
use Rattle.model_expansion.specs.Layers.{GuardItem}
use Rattle.model_expansion.specs.Expansion.{Setting, Progress, Makes, expanded, expanded_guard}
use Rattle.model_expansion_forms.specs.Nodes.{EachNode, HasForms, HasSeveral, HasConstant, IsBelow, IsWellCalled}
use Rattle.model_expansion_forms.specs.Rows.{HasRowFunctions, AreShapedItems, AreKnownItems, Supplies}

-- each call is of a function with as many formals, a `LET` has as many forms as names, several are two at least, and no form is too deep
pub record FormsAreWellCalled : Type 0 where
  pub form : (x : Setting) → HasRowFunctions x.world → (o : Object ℕ) (p q : Progress) (f : Core) → expanded x o p ≡ Makes f q → IsWellCalled x.world f
  pub guard : (x : Setting) → HasRowFunctions x.world → (gs : List GuardItem) → AreShapedItems gs → (p q : Progress) (f : Core)
      → expanded_guard x gs p ≡ Makes f q → IsWellCalled x.world f

-- the symbols of constants are known afterwards, where those of the form and of what the world supplies are
pub record FormsAreKnown : Type 0 where
  pub form : (x : Setting) (n : ℕ) → HasRowFunctions x.world → Supplies x n → (o : Object ℕ) (p q : Progress) (f : Core)
      → n ≤ length p.symbols → Knows (length p.symbols) o → expanded x o p ≡ Makes f q → EachNode (HasConstant (IsBelow (length q.symbols))) f
  pub guard : (x : Setting) (n : ℕ) → HasRowFunctions x.world → Supplies x n → (gs : List GuardItem) → AreShapedItems gs → (p q : Progress) (f : Core)
      → n ≤ length p.symbols → AreKnownItems (length p.symbols) gs → expanded_guard x gs p ≡ Makes f q → EachNode (HasConstant (IsBelow (length q.symbols))) f

-- the tests of types: they bind nothing, and their constants are those of the type as it is written
pub record TestsAreShaped : Type 0 where
  pub term : (written : Object ℕ) (x f : Core) → EachNode HasForms x → EachNode HasSeveral x → type_term written x ≡ Some f → EachNode HasForms f × EachNode HasSeveral f
  pub test : (written : Object ℕ) (x f : Core) → EachNode HasForms x → EachNode HasSeveral x → declared_test x written ≡ Some f → EachNode HasForms f × EachNode HasSeveral f
  pub known_term : (n : ℕ) (written : Object ℕ) (x f : Core) → 2 ≤ n → Knows n written → EachNode HasForms x → EachNode HasSeveral x → EachNode (HasConstant (IsBelow n)) x
      → type_term written x ≡ Some f → EachNode (HasConstant (IsBelow n)) f
  pub known_test : (n : ℕ) (written : Object ℕ) (x f : Core) → 2 ≤ n → Knows n written → EachNode HasForms x → EachNode HasSeveral x → EachNode (HasConstant (IsBelow n)) x
      → declared_test x written ≡ Some f → EachNode (HasConstant (IsBelow n)) f
