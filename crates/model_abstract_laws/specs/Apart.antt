-- Lists that do not correspond, though what is printed of them would: each is shut out by a clause of the correspondence (ACL2's
-- manual, topic DEFABSSTOBJ).
use Rattle.std.specs.Prelude.{◌≡◌, ℕ, ◌≤◌, length, Option, Some, None}
use Rattle.model_objects.specs.Object.{Object, Symbol}
use Rattle.model_symbols.specs.Symbols.{QualifiedName, package_number}
use Rattle.model_lists.specs.Lists.{StobjList, Value, End, Item}
use Rattle.model_terms.specs.Worlds.{Descriptor, AbstractDescriptor, Concrete, Abstract, definition}
use Rattle.model_logic.specs.Logic.{Theory}
use Rattle.model_abstract.specs.Corresponding.{CorrespondAs}

pub record AreApart : Type 0 where
  -- a single value has no fields, also where it prints as the list of a stobj does: `(5)` is no list of a stobj of one integer
  pub value : (b : Theory) (x : ℕ) (d : Descriptor) (class : ℕ) (o : Object ℕ) (a : StobjList QualifiedName) → definition b.world x ≡ Some (Concrete d class)
      → CorrespondAs b x (definition b.world x) (Value o) a → ⊥
  -- a symbol whose number is not known has no name, and two of them would have the same
  pub number : (b : Theory) (x s : ℕ) (d : Descriptor) (class : ℕ) (a : StobjList QualifiedName) → definition b.world x ≡ Some (Concrete d class) → length b.symbols ≤ s
      → CorrespondAs b x (definition b.world x) (Item (Value (Symbol s)) End) a → ⊥
  -- an abstract list holds no symbol of a package that a `DEFPKG` may still define, since interning beside it would then change
  pub homes : (b : Theory) (x : ℕ) (d : AbstractDescriptor) (c : StobjList ℕ) (q : QualifiedName) → definition b.world x ≡ Some (Abstract d)
      → package_number b.packages q.home ≡ None → CorrespondAs b x (definition b.world x) c (Value (Symbol q)) → ⊥
