-- Definitions behind others: those that stood stand, and a name that none had may have one of the new.
use Rattle.std.proofs.Common.{◌≡◌, ℕ, [], ◌∷◌, ◌++◌, Bool, true, false, Option, Some, None, refl, sym, ap, ◌∙◌, subst, inl, inr}
use Rattle.std.specs.Prelude.{◌⊎◌, nat_eq, if◌then◌else◌}
use Rattle.std.specs.Option.{option_or}
use Rattle.std.proofs.lemmas.Bool.{eqb-true}
use Rattle.std.proofs.lemmas.List.Folds.{find-append}
use Rattle.model_terms.specs.Worlds.{World, Definition, definition, definition_name, Primitive, Defined, Macro, Constant, Concrete, Generated, Abstract, OfAbstract, Named, Signed}
use Rattle.model_lawful.specs.Growth.{IsSettled, Becomes}
use Rattle.model_made.specs.Lawful.{IsAdmitted}

-- ---- definitions by their names

-- the property holds of each definition
abbrev pub EachDefinition : (Definition → Type 0) → World → Type 0
EachDefinition P [] = Unit {0}
EachDefinition P (d ∷ ds) = P d × EachDefinition P ds

module _ (P : Definition → Type 0) where
  pub each_found : (w : World) → EachDefinition P w → (x : ℕ) (d : Definition) → definition w x ≡ Some d → P d
  each_found [] h x d e = cc
  each_found (c ∷ w) h x d e = go (nat_eq x (definition_name c)) e (each_found w h.1 x d)
    where
      some_is : Some c ≡ Some d → c ≡ d
      some_is f = cc

      go : (b : Bool) → (if b then Some c else definition w x) ≡ Some d → (definition w x ≡ Some d → P d) → P d
      go true f later = subst P (some_is f) h.0
      go false f later = later f

pub named : (w : World) (x : ℕ) (d : Definition) → definition w x ≡ Some d → x ≡ definition_name d
named [] x d e = cc
named (c ∷ w) x d e = go (nat_eq x (definition_name c)) refl e (named w x d)
  where
    some_is : Some c ≡ Some d → c ≡ d
    some_is f = cc

    go : (b : Bool) → nat_eq x (definition_name c) ≡ b → (if b then Some c else definition w x) ≡ Some d → (definition w x ≡ Some d → x ≡ definition_name d) → x ≡ definition_name d
    go true s f later = eqb-true x (definition_name c) s ∙ ap definition_name (some_is f)
    go false s f later = later f

-- ---- more definitions

pub definition_both : (w new : World) (x : ℕ) → definition (w ++ new) x ≡ option_or (definition w x) (definition new x)
definition_both w new x = find-append (λ d. nat_eq x (definition_name d)) w new

pub definition_old : (w new : World) (x : ℕ) (d : Definition) → definition w x ≡ Some d → definition (w ++ new) x ≡ Some d
definition_old w new x d e = definition_both w new x ∙ ap (λ (c : Option Definition). option_or c (definition new x)) e

pub definition_new : (w new : World) (x : ℕ) → definition w x ≡ None → definition (w ++ new) x ≡ definition new x
definition_new w new x e = definition_both w new x ∙ ap (λ (c : Option Definition). option_or c (definition new x)) e

-- a definition of the world as it was, or a new one under a name that had none
pub definition_is : (w new : World) (x : ℕ) (d : Definition) → definition (w ++ new) x ≡ Some d → (definition w x ≡ Some d) ⊎ ((definition w x ≡ None) × (definition new x ≡ Some d))
definition_is w new x d e = go (definition w x) refl
  where
    go : (c : Option Definition) → definition w x ≡ c → (definition w x ≡ Some d) ⊎ ((definition w x ≡ None) × (definition new x ≡ Some d))
    go None f = inr (f, sym (definition_new w new x f) ∙ e)
    go (Some c) f = inl (f ∙ sym (definition_old w new x c f) ∙ e)

-- ---- a world becomes the one with more definitions

pub settled : (w : World) (x : ℕ) (d : Definition) → IsAdmitted d → definition w x ≡ Some d → IsSettled w x d
settled w x (Primitive name row) a e = e
settled w x (Defined f) a e = e
settled w x (Macro name formals body) a e = e
settled w x (Constant name value) a e = e
settled w x (Concrete d class) a e = e
settled w x (Generated g) a e = e
settled w x (Abstract d) a e = e
settled w x (OfAbstract f) a e = e
settled w x (Named name formals) a e = absurd a
settled w x (Signed name formals signature executable) a e = absurd a

pub becomes_more : (w new : World) → ((x : ℕ) (d : Definition) → definition w x ≡ Some d → IsAdmitted d) → Becomes w (w ++ new)
becomes_more w new a = record { each = λ x d e. settled (w ++ new) x d (a x d e) (definition_old w new x d e) }
