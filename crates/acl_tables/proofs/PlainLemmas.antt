-- Worlds in which no function was written.
use Rattle.std.specs.Prelude.{◌≡◌, ℕ, zero, suc, List, [], ◌∷◌, Some, slice_get}
use Rattle.std.specs.List.{AllByRecursion}
use Rattle.std.proofs.Common.{subst}
use Rattle.acl_heap.specs.Objects.{Objects}
use Rattle.model_terms.specs.Worlds as worlds
use Rattle.model_terms.specs.Worlds.{Function, FunctionOfAbstract, Defined, OfAbstract}
use Rattle.acl_terms.specs.declared.definition.Definition.{Definition}
use Rattle.acl_terms.specs.declared.definition.Definition.TheVariants as definition
use Rattle.acl_terms.specs.Definitions.{seen_definition, seen_definitions}
use Rattle.acl_code.specs.declared.term.Term.{Term}
use Rattle.acl_tables.specs.Laws.{PlainWorldsAreHeld}
use Rattle.acl_tables.specs.Plain.{HasNoCode}
use Rattle.acl_tables.specs.Within.{TermsWithin, AllWithin}

-- a function that was written, or one of an abstract stobj
abbrev pub HasCode : worlds.Definition → Type 0
HasCode (worlds.Primitive name row) = ⊥
HasCode (worlds.Defined f) = Unit {0}
HasCode (worlds.Macro name formals body) = ⊥
HasCode (worlds.Constant name value) = ⊥
HasCode (worlds.Concrete d class) = ⊥
HasCode (worlds.Generated f) = ⊥
HasCode (worlds.Abstract d) = ⊥
HasCode (worlds.OfAbstract f) = Unit {0}
HasCode (worlds.Named name formals) = ⊥
HasCode (worlds.Signed name formals signature executable) = ⊥

has_none : (h : Objects) (d : Definition) → HasNoCode d → HasCode (seen_definition h d) → ⊥
has_none h (definition.Primitive name row arity) p t = t
has_none h (definition.Function f) p t = p
has_none h (definition.Macro m) p t = t
has_none h (definition.Constant name value) p t = t
has_none h (definition.Object descriptor layout class) p t = t
has_none h (definition.Generated f) p t = t
has_none h (definition.Abstract descriptor) p t = t
has_none h (definition.OfAbstract f) p t = p
has_none h (definition.Named name formals) p t = t
has_none h (definition.Signed name formals signature executable) p t = t

pub none_there : (h : Objects) (ds : List Definition) (n : ℕ) (d : worlds.Definition) → AllByRecursion HasNoCode ds → slice_get (seen_definitions h ds) n ≡ Some d → HasCode d → ⊥
none_there h [] n d p e t = absurd (cc)
none_there h (x ∷ ds) zero d p e t = let same : d ≡ seen_definition h x = cc in has_none h x p.0 (subst HasCode same t)
none_there h (x ∷ ds) (suc n) d p e t = none_there h ds n d p.1 e t

within_none : (ts : List Term) (d : Definition) → HasNoCode d → TermsWithin ts d
within_none ts (definition.Primitive name row arity) p = tt
within_none ts (definition.Function f) p = absurd p
within_none ts (definition.Macro m) p = tt
within_none ts (definition.Constant name value) p = tt
within_none ts (definition.Object descriptor layout class) p = tt
within_none ts (definition.Generated f) p = tt
within_none ts (definition.Abstract descriptor) p = tt
within_none ts (definition.OfAbstract f) p = absurd p
within_none ts (definition.Named name formals) p = tt
within_none ts (definition.Signed name formals signature executable) p = tt

all_none : (ts : List Term) (ds : List Definition) → AllByRecursion HasNoCode ds → AllWithin ts ds
all_none ts [] p = tt
all_none ts (d ∷ ds) p = (within_none ts d p.0, all_none ts ds p.1)

pub plain_worlds_are_held : PlainWorldsAreHeld
plain_worlds_are_held = record {
  hold = λ h w ts p. record {
    guards = λ f. record { number = λ g n e. e };
    bodies = λ f. record { number = λ g n e. e };
    guard = λ x n f i e r. absurd (none_there h w.definitions n (Defined f) p e tt);
    body = λ x n f i e r. absurd (none_there h w.definitions n (Defined f) p e tt);
    export = λ x n f i e r. absurd (none_there h w.definitions n (OfAbstract f) p e tt);
  };
  within = all_none;
}
