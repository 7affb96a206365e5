-- Fields as they are laid out.
use Rattle.std.specs.Prelude.{◌≡◌, ◌≢◌, ℕ, zero, suc, ◌-◌, ◌<◌, ◌≤◌, List, [], ◌∷◌, length, map, Option, Some, None, slice_get, refl}
use Rattle.std.proofs.Common.{sym, ap, ◌∙◌, arith}
use Rattle.std.proofs.lemmas.List.{length-map}
use Rattle.acl_base.specs.declared.SymId.{SymId}
use Rattle.acl_heap.specs.Objects.{Objects}
use Rattle.acl_terms.specs.declared.stobj.Shape.{Shape}
use Rattle.acl_terms.specs.declared.stobj.Shape.TheVariants as shape
use Rattle.acl_terms.specs.declared.stobj.FieldDescriptor.{FieldDescriptor}
use Rattle.acl_terms.specs.Definitions.{seen_shape, seen_field}
use Rattle.model_lists.specs.Layouts.{Layout, NoField, field_layout}
use Rattle.model_terms.specs.Worlds as worlds
use Rattle.model_terms.specs.Accessors.{descriptor_in}
use Rattle.model_eval.specs.StobjLayouts.{shape_layout, fields_layout, defined_layout, layout_within, stobj_layout}
use Rattle.acl_new_lists.specs.Begun.{itself, foundation_in}
use Rattle.acl_layouts.specs.Laid.{laid, fields_laid, stobj_laid, field_among, field_within}

pub nowhere_laid : (w : worlds.World) (h : Objects) (d : ℕ) (s : Shape) (x : SymId) → d ≡ 0 → s ≡ shape.Child x → laid w d (seen_shape h s) ≡ NoField
unfolding laid layout_within
nowhere_laid w h d s x z e = ap (λ t. shape_layout itself (layout_within itself w d) (seen_shape h t)) e ∙ ap (λ k. layout_within itself w k x.0) z

-- ---- among fields

there : (child : ℕ → Layout ℕ) (fs : List worlds.Field) (f : ℕ) (s : worlds.Shape) → slice_get (map (λ (g : worlds.Field). g.shape) fs) f ≡ Some s
    → field_layout f (fields_layout itself child fs) ≡ shape_layout itself child s
there child [] f s e = cc
there child (g ∷ fs) zero s e = let q : g.shape ≡ s = cc in ap (shape_layout itself child) q
there child (g ∷ fs) (suc f) s e = there child fs f s e

missing : (child : ℕ → Layout ℕ) (fs : List worlds.Field) (f : ℕ) → length fs ≤ f → field_layout f (fields_layout itself child fs) ≡ NoField
missing child [] zero l = refl
missing child [] (suc f) l = refl
missing child (g ∷ fs) zero l = absurd (omega (arith, l))
missing child (g ∷ fs) (suc f) l = missing child fs f (omega (arith, l))

pub field_there : (w : worlds.World) (h : Objects) (d : ℕ) (fs : List FieldDescriptor) (f : ℕ) (s : Shape) → slice_get (map (λ (g : worlds.Field). g.shape) (map (seen_field h) fs)) f ≡ Some (seen_shape h s)
    → laid w d (seen_shape h s) ≡ field_among w d (map (seen_field h) fs) f
unfolding laid field_among
field_there w h d fs f s e = sym (there (layout_within itself w d) (map (seen_field h) fs) f (seen_shape h s) e)

pub field_missing : (w : worlds.World) (h : Objects) (d e : ℕ) (fs : List FieldDescriptor) (f : ℕ) (s : Shape) → length fs ≤ f → laid w e (seen_shape h s) ≡ NoField
    → laid w e (seen_shape h s) ≡ field_among w d (map (seen_field h) fs) f
unfolding field_among
field_missing w h d e fs f s l i =
    let m : length (map (seen_field h) fs) ≤ f = omega (arith, l, length-map fs (seen_field h)) in i ∙ sym (missing (layout_within itself w d) (map (seen_field h) fs) f m)

-- ---- in a stobj

within_by : (w : worlds.World) (d x f : ℕ) (o : Option worlds.Definition) → d ≢ 0 → o ≡ worlds.definition w x → field_layout f (defined_layout itself (layout_within itself w (d - 1)) o) ≡ field_within w d x f
unfolding field_within layout_within
within_by w zero x f o p e = absurd (p refl)
within_by w (suc d) x f o p e =
    let z : suc d - 1 ≡ d = omega arith in
    ap (λ k. field_layout f (defined_layout itself (layout_within itself w k) o)) z ∙ ap (λ q. field_layout f (defined_layout itself (layout_within itself w d) q)) e

abbrev none : Layout ℕ
none = NoField

no_field : (f : ℕ) → field_layout f none ≡ none
no_field zero = refl
no_field (suc f) = refl

abstract_layout : (w : worlds.World) (d : ℕ) (e : worlds.Definition) (b : ℕ) → Some b ≡ foundation_in e → layout_within itself w (d - 1) b ≡ defined_layout itself (layout_within itself w (d - 1)) (Some e)
abstract_layout w d (worlds.Primitive name row) b h = cc
abstract_layout w d (worlds.Defined g) b h = cc
abstract_layout w d (worlds.Macro name formals body) b h = cc
abstract_layout w d (worlds.Constant name value) b h = cc
abstract_layout w d (worlds.Concrete c class) b h = cc
abstract_layout w d (worlds.Generated g) b h = cc
abstract_layout w d (worlds.Abstract a) b h = let q : b ≡ a.foundation = cc in ap (layout_within itself w (d - 1)) q
abstract_layout w d (worlds.OfAbstract g) b h = cc
abstract_layout w d (worlds.Named name formals) b h = cc
abstract_layout w d (worlds.Signed name formals signature executable) b h = cc

concrete_layout : (w : worlds.World) (d : ℕ) (e : worlds.Definition) (c : worlds.Descriptor) → Some c ≡ descriptor_in e
    → fields_layout itself (layout_within itself w (d - 1)) c.fields ≡ defined_layout itself (layout_within itself w (d - 1)) (Some e)
concrete_layout w d (worlds.Primitive name row) c h = cc
concrete_layout w d (worlds.Defined g) c h = cc
concrete_layout w d (worlds.Macro name formals body) c h = cc
concrete_layout w d (worlds.Constant name value) c h = cc
concrete_layout w d (worlds.Concrete b class) c h = let q : c ≡ b = cc in ap (λ (y : worlds.Descriptor). fields_layout itself (layout_within itself w (d - 1)) y.fields) q
concrete_layout w d (worlds.Generated g) c h = cc
concrete_layout w d (worlds.Abstract a) c h = cc
concrete_layout w d (worlds.OfAbstract g) c h = cc
concrete_layout w d (worlds.Named name formals) c h = cc
concrete_layout w d (worlds.Signed name formals signature executable) c h = cc

other_layout : (w : worlds.World) (d : ℕ) (e : worlds.Definition) → None ≡ foundation_in e → None ≡ descriptor_in e → NoField ≡ defined_layout itself (layout_within itself w (d - 1)) (Some e)
other_layout w d (worlds.Primitive name row) h g = refl
other_layout w d (worlds.Defined f) h g = refl
other_layout w d (worlds.Macro name formals body) h g = refl
other_layout w d (worlds.Constant name value) h g = refl
other_layout w d (worlds.Concrete b class) h g = cc
other_layout w d (worlds.Generated f) h g = refl
other_layout w d (worlds.Abstract a) h g = cc
other_layout w d (worlds.OfAbstract f) h g = refl
other_layout w d (worlds.Named name formals) h g = refl
other_layout w d (worlds.Signed name formals signature executable) h g = refl

module _ (w : worlds.World) (l : Layout ℕ) (d x f : ℕ) where
  pub laid_nowhere : d ≡ 0 → l ≡ NoField → l ≡ field_within w d x f
  unfolding field_within layout_within
  laid_nowhere z i = i ∙ (sym (no_field f) ∙ ap (λ k. field_layout f (layout_within itself w k x)) (sym z))

  pub laid_unknown : d ≢ 0 → None ≡ worlds.definition w x → l ≡ NoField → l ≡ field_within w d x f
  laid_unknown p e i = i ∙ (sym (no_field f) ∙ within_by w d x f None p e)

  pub laid_abstract : (e : worlds.Definition) (b : ℕ) → d ≢ 0 → Some e ≡ worlds.definition w x → Some b ≡ foundation_in e → l ≡ field_within w (d - 1) b f → l ≡ field_within w d x f
  unfolding field_within
  laid_abstract e b p k h i = i ∙ (ap (field_layout f) (abstract_layout w d e b h) ∙ within_by w d x f (Some e) p k)

  pub laid_concrete : (e : worlds.Definition) (c : worlds.Descriptor) → d ≢ 0 → Some e ≡ worlds.definition w x → Some c ≡ descriptor_in e → l ≡ field_among w (d - 1) c.fields f → l ≡ field_within w d x f
  unfolding field_among
  laid_concrete e c p k h i = i ∙ (ap (field_layout f) (concrete_layout w d e c h) ∙ within_by w d x f (Some e) p k)

  pub laid_other : (e : worlds.Definition) → d ≢ 0 → Some e ≡ worlds.definition w x → None ≡ foundation_in e → None ≡ descriptor_in e → l ≡ NoField → l ≡ field_within w d x f
  laid_other e p k h g i = i ∙ (sym (no_field f) ∙ (ap (field_layout f) (other_layout w d e h g) ∙ within_by w d x f (Some e) p k))

pub laid_whole : (w : worlds.World) (l : Layout ℕ) (x f : ℕ) → l ≡ field_within w 65 x f → l ≡ field_layout f (stobj_layout itself w x)
unfolding field_within
laid_whole w l x f i = i

-- ---- whole layouts

laid_by : (w : worlds.World) (d x : ℕ) (o : Option worlds.Definition) → d ≢ 0 → o ≡ worlds.definition w x → defined_layout itself (layout_within itself w (d - 1)) o ≡ stobj_laid w d x
unfolding stobj_laid layout_within
laid_by w zero x o p e = absurd (p refl)
laid_by w (suc d) x o p e =
    let z : suc d - 1 ≡ d = omega arith in
    ap (λ k. defined_layout itself (layout_within itself w k) o) z ∙ ap (λ q. defined_layout itself (layout_within itself w d) q) e

pub stobj_nowhere : (w : worlds.World) (d x : ℕ) → d ≡ 0 → NoField ≡ stobj_laid w d x
unfolding stobj_laid layout_within
stobj_nowhere w d x z = ap (λ k. layout_within itself w k x) (sym z)

pub stobj_unknown : (w : worlds.World) (d x : ℕ) → d ≢ 0 → None ≡ worlds.definition w x → NoField ≡ stobj_laid w d x
stobj_unknown w d x p e = laid_by w d x None p e

pub stobj_abstract : (w : worlds.World) (d x : ℕ) (e : worlds.Definition) (b : ℕ) → d ≢ 0 → Some e ≡ worlds.definition w x → Some b ≡ foundation_in e → stobj_laid w (d - 1) b ≡ stobj_laid w d x
unfolding stobj_laid
stobj_abstract w d x e b p k h = abstract_layout w d e b h ∙ laid_by w d x (Some e) p k

pub stobj_concrete : (w : worlds.World) (d x : ℕ) (e : worlds.Definition) (c : worlds.Descriptor) → d ≢ 0 → Some e ≡ worlds.definition w x → Some c ≡ descriptor_in e → fields_laid w (d - 1) c.fields ≡ stobj_laid w d x
unfolding fields_laid
stobj_concrete w d x e c p k h = concrete_layout w d e c h ∙ laid_by w d x (Some e) p k

pub stobj_other : (w : worlds.World) (d x : ℕ) (e : worlds.Definition) → d ≢ 0 → Some e ≡ worlds.definition w x → None ≡ foundation_in e → None ≡ descriptor_in e → NoField ≡ stobj_laid w d x
stobj_other w d x e p k h g = other_layout w d e h g ∙ laid_by w d x (Some e) p k
