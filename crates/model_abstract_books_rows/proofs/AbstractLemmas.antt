-- Abstract stobjs are found among those of a world.
use Rattle.std.proofs.Common.{refl, ◌≡◌, ℕ, List, [], ◌∷◌, Bool, true, false, Option, Some, sym, subst, inl, inr}
use Rattle.std.specs.Prelude.{◌⊎◌, nat_eq, if◌then◌else◌}
use Rattle.model_terms.specs.Worlds.{World, AbstractDescriptor, Definition, Primitive, Defined, Macro, Constant, Concrete, Generated, Abstract, OfAbstract, Named, Signed, definition, definition_name}

-- the abstract stobjs of a world, in order
abbrev before : Definition → List AbstractDescriptor → List AbstractDescriptor
before (Primitive name row) ds = ds
before (Defined f) ds = ds
before (Macro name formals body) ds = ds
before (Constant name value) ds = ds
before (Concrete c class) ds = ds
before (Generated g) ds = ds
before (Abstract c) ds = c ∷ ds
before (OfAbstract f) ds = ds
before (Named name formals) ds = ds
before (Signed name formals signature executable) ds = ds

abbrev pub abstract_stobjs : World → List AbstractDescriptor
abstract_stobjs [] = []
abstract_stobjs (e ∷ es) = before e (abstract_stobjs es)

abbrev pub IsAmong : AbstractDescriptor → List AbstractDescriptor → Type 0
IsAmong d [] = ⊥
IsAmong d (c ∷ ds) = (d ≡ c) ⊎ IsAmong d ds

later : (e : Definition) (d : AbstractDescriptor) (ds : List AbstractDescriptor) → IsAmong d ds → IsAmong d (before e ds)
later (Primitive name row) d ds h = h
later (Defined f) d ds h = h
later (Macro name formals body) d ds h = h
later (Constant name value) d ds h = h
later (Concrete c class) d ds h = h
later (Generated g) d ds h = h
later (Abstract c) d ds h = inr h
later (OfAbstract f) d ds h = h
later (Named name formals) d ds h = h
later (Signed name formals signature executable) d ds h = h

here : (e : Definition) (d : AbstractDescriptor) (ds : List AbstractDescriptor) → Some e ≡ Some (Abstract d) → IsAmong d (before e ds)
here e d ds h = let same : e ≡ Abstract d = cc in subst (λ f. IsAmong d (before f ds)) (sym same) (inl refl)

chosen : (e : Definition) (d : AbstractDescriptor) (ds : List AbstractDescriptor) (others : Option Definition) (b : Bool) → (others ≡ Some (Abstract d) → IsAmong d ds) → (if b then Some e else others) ≡ Some (Abstract d) → IsAmong d (before e ds)
chosen e d ds others true go h = here e d ds h
chosen e d ds others false go h = later e d ds (go h)

pub is_among : (w : World) (x : ℕ) (d : AbstractDescriptor) → definition w x ≡ Some (Abstract d) → IsAmong d (abstract_stobjs w)
is_among [] x d h = cc
is_among (e ∷ es) x d h = chosen e d (abstract_stobjs es) (definition es x) (nat_eq x (definition_name e)) (is_among es x d) h
