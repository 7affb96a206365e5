-- What a form stands for stays when the heap grows.
use Rattle.std.specs.Prelude.{◌≡◌, ℕ, ◌≤◌, List, [], ◌∷◌, length, map, refl, Option, Some, None}
use Rattle.std.proofs.Common.{sym, ap, ◌∙◌, subst, arith}
use Rattle.acl_base.specs.declared.SymId.{SymId}
use Rattle.acl_heap.specs.Objects.{Objects, reach, Extends}
use Rattle.model_terms.specs.Cores as cores
use Rattle.model_terms.specs.Worlds as worlds
use Rattle.acl_terms.specs.declared.stobj.Shape.{Shape}
use Rattle.acl_terms.specs.declared.stobj.Shape.TheVariants as shape
use Rattle.acl_terms.specs.declared.stobj.FieldDescriptor.{FieldDescriptor}
use Rattle.acl_terms.specs.declared.stobj.Descriptor.{Descriptor}
use Rattle.acl_terms.specs.declared.definition.OptionalFormal.{OptionalFormal}
use Rattle.acl_terms.specs.declared.definition.MacroFormals.{MacroFormals}
use Rattle.acl_terms.specs.declared.definition.Definition.{Definition}
use Rattle.acl_terms.specs.declared.definition.Definition.TheVariants as definition
use Rattle.acl_terms.specs.declared.form.Core.{Core}
use Rattle.acl_terms.specs.declared.form.Core.TheOpen as layer
use Rattle.acl_terms.specs.declared.form.Core.TheShapes as shapes
use Rattle.acl_terms.specs.declared.form.Core.TheFolds.{fold-roll-Core, ind-Core, map-Core}
use Rattle.acl_terms.specs.Forms.{bound_parts, seen_core, layer_core, core_reach, layer_reach, most}
use Rattle.acl_terms.specs.Definitions.{seen_shape, shape_reach, seen_field, seen_descriptor, descriptor_reach, seen_optional, seen_formals, formals_reach, seen_definition, DefinitionLies, seen_definitions, DefinitionsLie, name_in, seen_optionals, optionals_reach}

abbrev Keeps : Objects → Objects → Core → Type 0
Keeps h h' f = core_reach f ≤ length h → seen_core h' f ≡ seen_core h f

-- a form that is kept
abbrev Kept : Objects → Objects → Type 0
Kept h h' = (f : Core) × Keeps h h' f

module _ {h h' : Objects} (e : Extends h h') where
  parts_kept : (fs : List (Kept h h')) → most (map core_reach (map (λ f. f.0) fs)) ≤ length h → map (seen_core h') (map (λ f. f.0) fs) ≡ map (seen_core h) (map (λ f. f.0) fs)
  parts_kept [] l = refl
  parts_kept (f ∷ fs) l = rw (f.1 (omega (arith, l)), parts_kept fs (omega (arith, l))) refl

  abbrev let_map : (A B : Type 0) → (A → B) → List (SymId × A) → List (SymId × B)
  let_map A B g bs = map (shapes.former-Core-Let-0-at-2.map A B g) bs

  let_kept : (bs : List (SymId × Kept h h')) → most (bound_parts (let_map Core ℕ core_reach (let_map (Kept h h') Core (λ f. f.0) bs))) ≤ length h
      → let_map Core cores.Core (seen_core h') (let_map (Kept h h') Core (λ f. f.0) bs) ≡ let_map Core cores.Core (seen_core h) (let_map (Kept h h') Core (λ f. f.0) bs)
  let_kept [] l = refl
  let_kept (b ∷ bs) l = rw (b.1.1 (omega (arith, l)), let_kept bs (omega (arith, l))) refl

  abbrev forms_in : layer.Core-F (Kept h h') → layer.Core-F Core
  forms_in y = map-Core (Kept h h') Core (λ f. f.0) y

  layer_kept : (y : layer.Core-F (Kept h h')) → layer_reach (map-Core Core ℕ core_reach (forms_in y)) ≤ length h
      → layer_core h' (map-Core Core cores.Core (seen_core h') (forms_in y)) ≡ layer_core h (map-Core Core cores.Core (seen_core h) (forms_in y))
  layer_kept (layer.Var x) l = refl
  layer_kept (layer.Const w) l = ap cores.Const (e.same w l)
  layer_kept (layer.If a b c) l = rw (a.1 (omega (arith, l)), b.1 (omega (arith, l)), c.1 (omega (arith, l))) refl
  layer_kept (layer.Let bindings body) l = rw (let_kept bindings (omega (arith, l)), body.1 (omega (arith, l))) refl
  layer_kept (layer.Mv parts) l = ap (λ fs. cores.Mv (cores.cores fs)) (parts_kept parts l)
  layer_kept (layer.MvLet names bound body) l = rw (bound.1 (omega (arith, l)), body.1 (omega (arith, l))) refl
  layer_kept (layer.StobjLet bindings vars producer consumer) l =
      rw (let_kept bindings (omega (arith, l)), producer.1 (omega (arith, l)), consumer.1 (omega (arith, l))) refl
  layer_kept (layer.WithLocal stobj names producer body) l = rw (producer.1 (omega (arith, l)), body.1 (omega (arith, l))) refl
  layer_kept (layer.MustBeEqual logic exec) l = rw (logic.1 (omega (arith, l)), exec.1 (omega (arith, l))) refl
  layer_kept (layer.Call f parts) l = ap (λ fs. cores.Call f.0 (cores.cores fs)) (parts_kept parts l)

  abbrev LayerKeeps : layer.Core-F Core → Type 0
  LayerKeeps x = layer_reach (map-Core Core ℕ core_reach x) ≤ length h → layer_core h' (map-Core Core cores.Core (seen_core h') x) ≡ layer_core h (map-Core Core cores.Core (seen_core h) x)

  pub seen_core-later : (f : Core) → Keeps h h' f
  seen_core-later = ind-Core (Keeps h h') (λ x y is l.
      fold-roll-Core cores.Core (layer_core h') x
      ∙ (subst LayerKeeps is (layer_kept y) (subst (λ n. n ≤ length h) (fold-roll-Core ℕ layer_reach x) l)
      ∙ sym (fold-roll-Core cores.Core (layer_core h) x)))

  -- ---- definitions

  abbrev shape_kept : (s : Shape) → shape_reach s ≤ length h → seen_shape h' s ≡ seen_shape h s
  shape_kept (shape.Scalar spec initial) l = rw (e.same spec (omega (arith, l)), e.same initial (omega (arith, l))) refl
  shape_kept (shape.Array spec initial len resizable) l = rw (e.same spec (omega (arith, l)), e.same initial (omega (arith, l))) refl
  shape_kept (shape.Hash test) l = refl
  shape_kept (shape.Child stobj) l = refl
  shape_kept (shape.Children stobj len) l = refl

  fields_kept : (fs : List FieldDescriptor) → most (map (λ (f : FieldDescriptor). shape_reach f.shape) fs) ≤ length h → map (seen_field h') fs ≡ map (seen_field h) fs
  fields_kept [] l = refl
  fields_kept (f ∷ fs) l = rw (shape_kept f.shape (omega (arith, l)), fields_kept fs (omega (arith, l))) refl

  pub seen_descriptor-later : (d : Descriptor) → descriptor_reach d ≤ length h → seen_descriptor h' d ≡ seen_descriptor h d
  seen_descriptor-later d l = rw (fields_kept d.fields l) refl

  optionals_kept : (fs : List OptionalFormal) → most (map (λ (f : OptionalFormal). reach f.default) fs) ≤ length h → map (seen_optional h') fs ≡ map (seen_optional h) fs
  optionals_kept [] l = refl
  optionals_kept (f ∷ fs) l = rw (e.same f.default (omega (arith, l)), optionals_kept fs (omega (arith, l))) refl

  marked_kept : (fs : Option (List OptionalFormal)) → optionals_reach fs ≤ length h → seen_optionals h' fs ≡ seen_optionals h fs
  marked_kept None l = refl
  marked_kept (Some fs) l = rw (optionals_kept fs l) refl

  pub seen_formals-later : (f : MacroFormals) → formals_reach f ≤ length h → seen_formals h' f ≡ seen_formals h f
  seen_formals-later f l = rw (optionals_kept f.optional (omega (arith, l)), marked_kept f.keys (omega (arith, l))) refl

  pub seen_definition-later : (d : Definition) → DefinitionLies h d → seen_definition h' d ≡ seen_definition h d
  seen_definition-later (definition.Primitive name row arity) l = refl
  seen_definition-later (definition.Function f) l = rw (seen_core-later f.guard (omega (arith, l)), seen_core-later f.body (omega (arith, l))) refl
  seen_definition-later (definition.Macro m) l = rw (seen_formals-later m.formals (omega (arith, l)), seen_core-later m.body (omega (arith, l))) refl
  seen_definition-later (definition.Constant name value) l = ap (worlds.Constant name.0) (e.same value l)
  seen_definition-later (definition.Object descriptor layout class) l = ap (λ d. worlds.Concrete d class.0) (seen_descriptor-later descriptor l)
  seen_definition-later (definition.Generated f) l = refl
  seen_definition-later (definition.Abstract descriptor) l = refl
  seen_definition-later (definition.OfAbstract f) l = rw (seen_core-later f.guard l) refl
  seen_definition-later (definition.Named name formals) l = refl
  seen_definition-later (definition.Signed name formals signature executable) l = refl

  pub seen_definitions-later : (ds : List Definition) → DefinitionsLie h ds → seen_definitions h' ds ≡ seen_definitions h ds
  seen_definitions-later [] l = refl
  seen_definitions-later (d ∷ ds) l = rw (seen_definition-later d (omega (arith, l)), seen_definitions-later ds (omega (arith, l))) refl

-- a definition has in every heap the name that it has
pub seen-name : (h : Objects) (d : Definition) → worlds.definition_name (seen_definition h d) ≡ name_in d
seen-name h (definition.Primitive name row arity) = refl
seen-name h (definition.Function f) = refl
seen-name h (definition.Macro m) = refl
seen-name h (definition.Constant name value) = refl
seen-name h (definition.Object descriptor layout class) = refl
seen-name h (definition.Generated f) = refl
seen-name h (definition.Abstract descriptor) = refl
seen-name h (definition.OfAbstract f) = refl
seen-name h (definition.Named name formals) = refl
seen-name h (definition.Signed name formals signature executable) = refl
