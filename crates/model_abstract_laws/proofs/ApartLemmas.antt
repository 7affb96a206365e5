-- Lists that do not correspond.
use Rattle.std.proofs.Common.{arith, ◌≡◌, ℕ, ◌≤◌, ◌<◌, List, [], ◌∷◌, length, Option, Some, None, refl, sym, ◌∙◌, subst}
use Rattle.model_objects.specs.Object.{Object, Symbol}
use Rattle.model_symbols.specs.Symbols.{QualifiedName, package_number}
use Rattle.model_lists.specs.Lists.{StobjList, Value, End, Item}
use Rattle.model_lists.specs.Layouts.{Layout}
use Rattle.model_lists.specs.LiveLists.{HasFields}
use Rattle.model_terms.specs.Worlds.{Definition, Descriptor, AbstractDescriptor, Field, Concrete, Abstract, definition}
use Rattle.model_eval.specs.StobjLayouts.{fields_layout, defined_layout, layout_within, stobj_layout}
use Rattle.model_logic.specs.Logic.{Theory}
use Rattle.model_abstract.specs.Corresponding.{CorrespondAs, IsConcrete, IsAbstracted}
use Rattle.model_abstract_laws.specs.Apart.{AreApart}

none_some : {n : ℕ} → Some n ≡ None → ⊥
none_some e = cc

-- the layout of fields shuts a single value out
no_value : (child : ℕ → Layout ℕ) (fs : List Field) (o : Object ℕ) → HasFields (fields_layout (λ (o : Object ℕ). o) child fs) (Value o) → ⊥
no_value child [] o h = h
no_value child (f ∷ fs) o h = h

no_value_in : (w : List Definition) (x : ℕ) (d : Descriptor) (class : ℕ) (o : Object ℕ) → definition w x ≡ Some (Concrete d class)
    → HasFields (stobj_layout (λ (o : Object ℕ). o) w x) (Value o) → ⊥
unfolding layout_within
no_value_in w x d class o e h =
    no_value (λ y. layout_within (λ (o : Object ℕ). o) w 64 y) d.fields o
    (subst (λ (c : Option Definition). HasFields (defined_layout (λ (o : Object ℕ). o) (λ y. layout_within (λ (o : Object ℕ). o) w 64 y) c) (Value o)) e h)

as_concrete : (b : Theory) (x : ℕ) (d : Descriptor) (class : ℕ) (c : StobjList ℕ) (a : StobjList QualifiedName) → definition b.world x ≡ Some (Concrete d class)
    → CorrespondAs b x (definition b.world x) c a → IsConcrete b x c a
as_concrete b x d class c a e h = subst (λ (g : Option Definition). CorrespondAs b x g c a) e h

as_abstracted : (b : Theory) (x : ℕ) (d : AbstractDescriptor) (c : StobjList ℕ) (a : StobjList QualifiedName) → definition b.world x ≡ Some (Abstract d)
    → CorrespondAs b x (definition b.world x) c a → IsAbstracted b d c a
as_abstracted b x d c a e h = subst (λ (g : Option Definition). CorrespondAs b x g c a) e h

pub are_apart : AreApart
are_apart = record {
  value = λ b x d class o a e h. no_value_in b.world x d class o e (as_concrete b x d class (Value o) a e h).fits.fields;
  number = λ b x s d class a e l h.
      let known : s < length b.symbols = (as_concrete b x d class (Item (Value (Symbol s)) End) a e h).fits.known.0 in
      absurd (omega (arith, known, l));
  homes = λ b x d c q e none h.
      let some : (n : ℕ) × (package_number b.packages q.home ≡ Some n) = (as_abstracted b x d c (Value (Symbol q)) e h).homes in
      none_some (sym some.1 ∙ none);
}
