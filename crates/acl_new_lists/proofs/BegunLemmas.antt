-- What stobjs begin as, by their definitions and their fields.
use Rattle.std.specs.Prelude.{◌≡◌, ◌≢◌, ℕ, zero, suc, ◌+◌, ◌-◌, ◌<◌, ◌≤◌, Bool, List, [], ◌∷◌, length, map, drop, Option, Some, None, refl}
use Rattle.std.proofs.Common.{sym, ap, ◌∙◌, subst, arith}
use Rattle.acl_base.specs.declared.SymId.{SymId}
use Rattle.acl_base.specs.declared.Word.{Word}
use Rattle.acl_base.specs.declared.layout.Test.{Test}
use Rattle.model_lists.specs.Lists.{Value, Pairs, End, Item}
use Rattle.model_lists.specs.Layouts.{initial, repeated}
use Rattle.model_terms.specs.Worlds as worlds
use Rattle.model_terms.specs.Accessors.{descriptor_in}
use Rattle.model_eval.specs.StobjLayouts.{shape_layout, fields_layout, defined_layout, layout_within, new_list}
use Rattle.acl_heap.specs.Objects.{Objects, object_of, reach}
use Rattle.acl_lists.specs.declared.cell.ListId.{ListId}
use Rattle.acl_lists.specs.declared.cell.Cell.{Cell}
use Rattle.acl_lists.specs.Tables.{list_at, Grown}
use Rattle.acl_lists.proofs.TableLemmas.{list_later, grown_then}
use Rattle.acl_terms.specs.declared.stobj.Shape.{Shape}
use Rattle.acl_terms.specs.declared.stobj.Shape.TheVariants as shape
use Rattle.acl_terms.specs.declared.stobj.FieldDescriptor.{FieldDescriptor}
use Rattle.acl_terms.specs.Definitions.{seen_shape, seen_field, shape_reach}
use Rattle.acl_new_lists.specs.Begun.{itself, begun, shape_begun, fields_begun, foundation_in}

-- ---- a field

module _ (cs : List Cell) (n : ListId) (h : Objects) (w : worlds.World) (d : ℕ) (s : Shape) where
  pub scalar_begun : (spec start : Word) → s ≡ shape.Scalar spec start → list_at cs n ≡ Value (object_of h start) → list_at cs n ≡ shape_begun w d (seen_shape h s)
  unfolding shape_begun
  scalar_begun spec start e i = i ∙ ap (λ t. initial (shape_layout itself (layout_within itself w d) (seen_shape h t))) (sym e)

  pub array_begun : (spec start : Word) (len : ℕ) (resizable : Bool) → s ≡ shape.Array spec start len resizable → list_at cs n ≡ repeated len (Value (object_of h start)) → list_at cs n ≡ shape_begun w d (seen_shape h s)
  unfolding shape_begun
  array_begun spec start len resizable e i = i ∙ ap (λ t. initial (shape_layout itself (layout_within itself w d) (seen_shape h t))) (sym e)

  pub hash_begun : (test : Test) → s ≡ shape.Hash test → list_at cs n ≡ Pairs [] → list_at cs n ≡ shape_begun w d (seen_shape h s)
  unfolding shape_begun
  hash_begun test e i = i ∙ ap (λ t. initial (shape_layout itself (layout_within itself w d) (seen_shape h t))) (sym e)

  pub child_begun : (x : SymId) → s ≡ shape.Child x → list_at cs n ≡ begun w d x.0 → list_at cs n ≡ shape_begun w d (seen_shape h s)
  unfolding shape_begun begun
  child_begun x e i = i ∙ ap (λ t. initial (shape_layout itself (layout_within itself w d) (seen_shape h t))) (sym e)

  pub children_begun : (mid : List Cell) (child : ListId) (x : SymId) (len : ℕ) → s ≡ shape.Children x len → list_at mid child ≡ begun w d x.0 → list_at cs n ≡ repeated len (list_at mid child)
      → list_at cs n ≡ shape_begun w d (seen_shape h s)
  unfolding shape_begun begun
  children_begun mid child x len e c i = i ∙ (ap (λ l. repeated len l) c ∙ ap (λ t. initial (shape_layout itself (layout_within itself w d) (seen_shape h t))) (sym e))

pub scalar_lies : (h : Objects) (s : Shape) (spec start : Word) → s ≡ shape.Scalar spec start → shape_reach s ≤ length h → reach start ≤ length h
scalar_lies h s spec start e l = let m : shape_reach (shape.Scalar spec start) ≤ length h = subst (λ t. shape_reach t ≤ length h) e l in omega (arith, m)

pub array_lies : (h : Objects) (s : Shape) (spec start : Word) (len : ℕ) (resizable : Bool) → s ≡ shape.Array spec start len resizable → shape_reach s ≤ length h → reach start ≤ length h
array_lies h s spec start len resizable e l = let m : shape_reach (shape.Array spec start len resizable) ≤ length h = subst (λ t. shape_reach t ≤ length h) e l in omega (arith, m)

-- ---- fields, from the last to the first

pub record PutSoFar (start now : List Cell) (h : Objects) (w : worlds.World) (d : ℕ) (fs : List FieldDescriptor) (at : ListId) (done : ℕ) : Type 0 where
  pub grown : Grown start now
  pub at_in : at.0 < length now
  pub same : list_at now at ≡ fields_begun w d (map (seen_field h) (drop (length fs - done) fs))

drop_all : {X : Type 0} (xs : List X) → drop (length xs) xs ≡ []
drop_all [] = refl
drop_all (x ∷ xs) = drop_all xs

pub fields_start : (start now : List Cell) (h : Objects) (w : worlds.World) (d : ℕ) (fs : List FieldDescriptor) (at : ListId) → Grown start now → at.0 < length now → list_at now at ≡ End
    → PutSoFar start now h w d fs at 0
unfolding fields_begun
fields_start start now h w d fs at g l e =
    let z : length fs - 0 ≡ length fs = omega arith in record {
      grown = g;
      at_in = l;
      same = e ∙ ap (λ gs. initial (fields_layout itself (layout_within itself w d) (map (seen_field h) gs))) (sym (ap (λ k. drop k fs) z ∙ drop_all fs));
    }

pub fields_step : (start now mid new : List Cell) (h : Objects) (w : worlds.World) (d : ℕ) (fs : List FieldDescriptor) (f : FieldDescriptor) (at first next : ListId) (done : ℕ)
    → PutSoFar start now h w d fs at done → drop (length fs - (done + 1)) fs ≡ f ∷ drop (length fs - done) fs
    → list_at mid first ≡ shape_begun w d (seen_shape h f.shape) → Grown now mid
    → next.0 < length new → list_at new next ≡ Item (list_at mid first) (list_at mid at) → Grown mid new → PutSoFar start new h w d fs next (done + 1)
unfolding fields_begun shape_begun
fields_step start now mid new h w d fs f at first next done s e i g l j k = record {
  grown = grown_then start now new s.grown (grown_then now mid new g k);
  at_in = l;
  same =
      j
      ∙ (ap (λ x. Item x (list_at mid at)) i
      ∙ (ap (λ x. Item (initial (shape_layout itself (layout_within itself w d) (seen_shape h f.shape))) x) (list_later now mid at g s.at_in ∙ s.same)
      ∙ ap (λ gs. initial (fields_layout itself (layout_within itself w d) (map (seen_field h) gs))) (sym e)));
}

pub still_in : (start now mid : List Cell) (h : Objects) (w : worlds.World) (d : ℕ) (fs : List FieldDescriptor) (at : ListId) (done : ℕ) → PutSoFar start now h w d fs at done → Grown now mid → at.0 < length mid
still_in start now mid h w d fs at done s g = omega (arith, s.at_in, g.longer)

pub fields_whole : (start now : List Cell) (h : Objects) (w : worlds.World) (d : ℕ) (fs : List FieldDescriptor) (at : ListId) (done : ℕ) → PutSoFar start now h w d fs at done → done ≡ length fs
    → list_at now at ≡ fields_begun w d (map (seen_field h) fs)
fields_whole start now h w d fs at done s e =
    let z : length fs - done ≡ 0 = omega (arith, e) in s.same ∙ ap (λ k. fields_begun w d (map (seen_field h) (drop k fs))) z

-- ---- a stobj

begun_by : (w : worlds.World) (d x : ℕ) (o : Option worlds.Definition) → d ≢ 0 → o ≡ worlds.definition w x → initial (defined_layout itself (layout_within itself w (d - 1)) o) ≡ begun w d x
unfolding begun layout_within
begun_by w zero x o p e = absurd (p refl)
begun_by w (suc d) x o p e =
    let z : suc d - 1 ≡ d = omega arith in
    ap (λ k. initial (defined_layout itself (layout_within itself w k) o)) z ∙ ap (λ q. initial (defined_layout itself (layout_within itself w d) q)) e

module _ (cs : List Cell) (n : ListId) (w : worlds.World) (d x : ℕ) where
  pub begun_nowhere : d ≡ 0 → list_at cs n ≡ End → list_at cs n ≡ begun w d x
  unfolding begun layout_within
  begun_nowhere z i = i ∙ ap (λ k. initial (layout_within itself w k x)) (sym z)

  pub begun_unknown : d ≢ 0 → None ≡ worlds.definition w x → list_at cs n ≡ End → list_at cs n ≡ begun w d x
  begun_unknown p e i = i ∙ begun_by w d x None p e

  abstract_layout : (e : worlds.Definition) (f : ℕ) → Some f ≡ foundation_in e → initial (layout_within itself w (d - 1) f) ≡ initial (defined_layout itself (layout_within itself w (d - 1)) (Some e))
  abstract_layout (worlds.Primitive name row) f h = cc
  abstract_layout (worlds.Defined g) f h = cc
  abstract_layout (worlds.Macro name formals body) f h = cc
  abstract_layout (worlds.Constant name value) f h = cc
  abstract_layout (worlds.Concrete c class) f h = cc
  abstract_layout (worlds.Generated g) f h = cc
  abstract_layout (worlds.Abstract a) f h = let q : f ≡ a.foundation = cc in ap (λ y. initial (layout_within itself w (d - 1) y)) q
  abstract_layout (worlds.OfAbstract g) f h = cc
  abstract_layout (worlds.Named name formals) f h = cc
  abstract_layout (worlds.Signed name formals signature executable) f h = cc

  pub begun_abstract : (e : worlds.Definition) (f : ℕ) → d ≢ 0 → Some e ≡ worlds.definition w x → Some f ≡ foundation_in e → list_at cs n ≡ begun w (d - 1) f → list_at cs n ≡ begun w d x
  unfolding begun
  begun_abstract e f p k h i = i ∙ (abstract_layout e f h ∙ begun_by w d x (Some e) p k)

  concrete_layout : (e : worlds.Definition) (c : worlds.Descriptor) → Some c ≡ descriptor_in e → initial (fields_layout itself (layout_within itself w (d - 1)) c.fields) ≡ initial (defined_layout itself (layout_within itself w (d - 1)) (Some e))
  concrete_layout (worlds.Primitive name row) c h = cc
  concrete_layout (worlds.Defined g) c h = cc
  concrete_layout (worlds.Macro name formals body) c h = cc
  concrete_layout (worlds.Constant name value) c h = cc
  concrete_layout (worlds.Concrete b class) c h = let q : c ≡ b = cc in ap (λ (y : worlds.Descriptor). initial (fields_layout itself (layout_within itself w (d - 1)) y.fields)) q
  concrete_layout (worlds.Generated g) c h = cc
  concrete_layout (worlds.Abstract a) c h = cc
  concrete_layout (worlds.OfAbstract g) c h = cc
  concrete_layout (worlds.Named name formals) c h = cc
  concrete_layout (worlds.Signed name formals signature executable) c h = cc

  pub begun_concrete : (e : worlds.Definition) (c : worlds.Descriptor) → d ≢ 0 → Some e ≡ worlds.definition w x → Some c ≡ descriptor_in e → list_at cs n ≡ fields_begun w (d - 1) c.fields → list_at cs n ≡ begun w d x
  unfolding fields_begun
  begun_concrete e c p k h i = i ∙ (concrete_layout e c h ∙ begun_by w d x (Some e) p k)

  other_layout : (e : worlds.Definition) → None ≡ foundation_in e → None ≡ descriptor_in e → End ≡ initial (defined_layout itself (layout_within itself w (d - 1)) (Some e))
  other_layout (worlds.Primitive name row) h g = refl
  other_layout (worlds.Defined f) h g = refl
  other_layout (worlds.Macro name formals body) h g = refl
  other_layout (worlds.Constant name value) h g = refl
  other_layout (worlds.Concrete b class) h g = cc
  other_layout (worlds.Generated f) h g = refl
  other_layout (worlds.Abstract a) h g = cc
  other_layout (worlds.OfAbstract f) h g = refl
  other_layout (worlds.Named name formals) h g = refl
  other_layout (worlds.Signed name formals signature executable) h g = refl

  pub begun_other : (e : worlds.Definition) → d ≢ 0 → Some e ≡ worlds.definition w x → None ≡ foundation_in e → None ≡ descriptor_in e → list_at cs n ≡ End → list_at cs n ≡ begun w d x
  begun_other e p k h g i = i ∙ (other_layout e h g ∙ begun_by w d x (Some e) p k)

pub whole_list : (cs : List Cell) (n : ListId) (w : worlds.World) (x : ℕ) → list_at cs n ≡ begun w 65 x → list_at cs n ≡ new_list w x
unfolding begun
whole_list cs n w x i = i
