-- What definitions are made of: initial values of stobjs meet their types, their functions have their inputs in order, and in
-- functions several values are two at least.
use Rattle.std.proofs.Common.{◌≡◌, ℕ, zero, suc, ◌+◌, List, [], ◌∷◌, ◌++◌, map, drop, Bool, true, false, Option, Some, None, refl, sym, ap, ◌∙◌, subst, inl, inr, arith}
use Rattle.std.specs.Prelude.{◌⊎◌, ◌||◌, nat_eq, slice_get, option_and_then, replicate, unwrap_or, if◌then◌else◌}
use Rattle.std.specs.Option.{option_or, option_map_or}
use Rattle.std.specs.List.{flat_map}
use Rattle.std.proofs.lemmas.Bool.Decides.{nat_tests}
use Rattle.model_objects.specs.Object.{Object}
use Rattle.model_symbols.specs.Symbols.{Package}
use Rattle.model_prims.specs.Kinds.{by_number}
use Rattle.model_lists.specs.Types.{ValueType, Anything, meets, type_of}
use Rattle.model_lists.specs.Layouts.{Layout, field_layout}
use Rattle.model_lists_laws.specs.Laws.{HasInitials}
use Rattle.model_terms.specs.declared.role.Role.{Role}
use Rattle.model_terms.specs.declared.role.Role.TheVariants as role
use Rattle.model_terms.specs.Worlds.{World, AbstractFunction, AbstractDescriptor, FunctionOfAbstract, Definition, Signature, Out, Ordinary, Stobj, Shape, Scalar, Array, Hash, Child, Children, Field, Descriptor, GeneratedFunction, definition, Primitive, Defined, Macro, Constant, Concrete, Generated, Abstract, OfAbstract, Named, Signed}
use Rattle.model_terms.specs.declared.role.AbstractRole.TheVariants as abstract_role
use Rattle.model_terms.specs.Accessors.{descriptor_in, descriptor_of, held_by, held_in, is_kept_back, is_internal}
use Rattle.model_eval.specs.StobjLayouts.{most_nested, field_type, shape_layout, fields_layout, defined_layout, layout_within}
use Rattle.model_eval_laws.proofs.Lists.{same_number}
use Rattle.model_accepted.specs.Threaded.{layout_of, IsConcrete}
use Rattle.model_accepted.proofs.AcceptLemmas.{true_false, neither}
use Rattle.model_expansion.specs.Faults.{Refusal, BadInitial}
use Rattle.model_expansion.specs.TypeTerms.{not_too_deep}
use Rattle.model_expansion.specs.Expansion.{Progress}
use Rattle.model_expansion_forms.specs.Nodes.{EachNode, HasSeveral}
use Rattle.model_expansion.specs.Forms.{symbol_or_nil}
use Rattle.model_stobjs.specs.Heads.{name_in_use}
use Rattle.model_stobjs.specs.Answers.{Grants, first_given}
use Rattle.model_stobjs.specs.Descriptors.{WrittenField, WrittenStobj, written_stobj, shape_of, has_good_initial, bad_type, bad_initial, MadeNames, names_made, ShapedField, shaped_fields, made_count, fields_with, stobj_makings, room_for, descriptor_made, named_descriptor, descriptor_with, names_then, written_then, descriptor_read, new_names, names_of_field, mismatch}
use Rattle.model_stobjs.specs.Entries.{Task, function_of, recognizer_task, creator_task, field_tasks, named_tasks, field_functions, generated_functions, class_for, stobj_entries}
use Rattle.model_follows.specs.FollowedWorlds.{SuitsLogic, before_stobj, ordinary_before, stobj_argument, IsMadeFor, HasCreator}
use Rattle.model_logic.specs.Logic.{creator_of}
use Rattle.model_made.proofs.WorldLemmas.{EachDefinition, named, definition_old, definition_new}
use Rattle.model_made.proofs.EventLemmas.{IfGrants, grants_unless, grants_needing}
use Rattle.model_made.proofs.DraftLemmas.{none_or, first_free}
use Rattle.model_prims.specs.declared.prim.Prim.{Prim}
use Rattle.model_prims.specs.declared.prim.Prim.TheVariants as prim
use Rattle.model_prims.specs.declared.prim.Relation.TheVariants as relation
use Rattle.model_prims.specs.declared.prim.Listing.TheVariants as listing
use Rattle.model_expansion.specs.Words.{equal_word, nth_word}
use Rattle.model_made_logic.specs.Exports.{IsAmong, IsWrittenAs, prim_of}
use Rattle.model_made_logic.proofs.ParseLemmas.{EachOne, each_both}
use Rattle.model_terms.specs.Classes.{stobjs, has, repeats, class_in, class_of}
use Rattle.model_terms.specs.Outputs.{signature_in}
use Rattle.model_made.specs.Lawful.{IsConcreteIfAny, stobj_names}
use Rattle.model_made.proofs.NestingLemmas.{concrete_at}

abbrev same : Object ℕ → Object ℕ
same o = o

-- ---- initial values

-- the initial value of a field, or of its elements, meets the type
abbrev pub HasInitial : Shape → Type 0
HasInitial (Scalar t o) = meets by_number (field_type same t) o ≡ true
HasInitial (Array t o n resizable) = meets by_number (field_type same t) o ≡ true
HasInitial (Hash test) = Unit {0}
HasInitial (Child x) = Unit {0}
HasInitial (Children x n) = Unit {0}

abbrev pub HaveInitials : List Field → Type 0
HaveInitials [] = Unit {0}
HaveInitials (f ∷ fs) = HasInitial f.shape × HaveInitials fs

-- ---- functions

-- there is an output
abbrev pub HasOutput : List Out → Type 0
HasOutput [] = ⊥
HasOutput (o ∷ os) = Unit {0}

-- how a function of a field is called, where forms may call it
abbrev pub TaskFits : ℕ → Shape → Role → List Out → Type 0
TaskFits stobj s r ins =
    is_kept_back r (held_by s) ≡ false → (child : ℕ → Layout ℕ) → (ins ≡ ordinary_before (before_stobj r (shape_layout same child s)) (stobj_argument r stobj)) × SuitsLogic r (shape_layout same child s)

pub record IsOfField (d : Descriptor) (g : GeneratedFunction) : Type 0 where
  pub number : ℕ
  pub field : Field
  pub there : slice_get d.fields number ≡ Some field
  pub of_field : g.field ≡ Some number
  pub fits : TaskFits g.stobj field.shape g.role g.signature.ins

-- the recognizer or the creator
abbrev pub IsOwn : GeneratedFunction → Type 0
IsOwn g = ((g.role ≡ role.Recognizer) × (g.signature.ins ≡ Stobj g.stobj ∷ [])) ⊎ (g.role ≡ role.Creator)

pub record ComesWith (w : World) (g : GeneratedFunction) : Type 0 where
  pub descriptor : Descriptor
  pub class : ℕ
  pub there : definition w g.stobj ≡ Some (Concrete descriptor class)
  pub kind : IsOwn g ⊎ IsOfField descriptor g
  pub output : HasOutput g.signature.outs

-- the creator of a stobj is there
pub record CreatorThere (w : World) (d : Descriptor) : Type 0 where
  pub creator : GeneratedFunction
  pub there : definition w d.creator ≡ Some (Generated creator)
  pub makes : creator.role ≡ role.Creator
  pub made_of : creator.stobj ≡ d.name

-- a concrete stobj stands under this name
pub record ConcreteThere (w : World) (x : ℕ) : Type 0 where
  pub descriptor : Descriptor
  pub class : ℕ
  pub there : definition w x ≡ Some (Concrete descriptor class)

abbrev concrete_more : (w new : World) (x : ℕ) → ConcreteThere w x → ConcreteThere (w ++ new) x
concrete_more w new x h = record { descriptor = h.descriptor; class = h.class; there = definition_old w new x (Concrete h.descriptor h.class) h.there }

-- a function of an abstract stobj stands under its name, with its logic function
pub record StandsFor (w : World) (f : AbstractFunction) : Type 0 where
  pub function : FunctionOfAbstract
  pub there : definition w f.name ≡ Some (OfAbstract function)
  pub logic : function.logic ≡ f.logic

-- the creator of an abstract stobj is there, its foundation, and each of its functions
pub record AbstractThere (w : World) (d : AbstractDescriptor) : Type 0 where
  pub foundation : ConcreteThere w d.foundation
  pub exec : d.creator.exec ≡ foundation.descriptor.creator
  pub creator : FunctionOfAbstract
  pub there : definition w d.creator.name ≡ Some (OfAbstract creator)
  pub makes : creator.logic ≡ d.creator.logic
  pub functions : (f : AbstractFunction) → IsAmong f (d.recognizer ∷ d.creator ∷ d.exports) → StandsFor w f

-- what an export runs: a function of the foundation, which it returns once at most
pub record ExecThere (w : World) (foundation exec : ℕ) : Type 0 where
  pub function : Definition
  pub found : definition w exec ≡ Some function
  pub signature : Signature
  pub signed : signature_in function ≡ Some signature
  pub ins : stobjs signature.ins ≡ foundation ∷ []
  pub outs : repeats (stobjs signature.outs) ≡ false

-- the export that the function is, in every world in which its functions are the same
pub record ExportThere (w : World) (d : AbstractDescriptor) (f : FunctionOfAbstract) : Type 0 where
  pub export : AbstractFunction
  pub among : IsAmong export d.exports
  pub logic : Definition
  pub logic_there : definition w export.logic ≡ Some logic
  pub function : Definition
  pub function_there : definition w export.exec ≡ Some function
  pub written : (v : World) → definition v export.logic ≡ Some logic → definition v export.exec ≡ Some function → IsWrittenAs v d export f

pub export_more : (w new : World) (d : AbstractDescriptor) (f : FunctionOfAbstract) → ExportThere w d f → ExportThere (w ++ new) d f
export_more w new d f h = record {
  export = h.export;
  among = h.among;
  logic = h.logic;
  logic_there = definition_old w new h.export.logic h.logic h.logic_there;
  function = h.function;
  function_there = definition_old w new h.export.exec h.function h.function_there;
  written = h.written;
}

-- a function of an abstract stobj has its stobj, and a logic function that is of none; without the stobj it is the creator
pub record OfAbstractThere (w : World) (f : FunctionOfAbstract) : Type 0 where
  pub descriptor : AbstractDescriptor
  pub stobj : definition w f.stobj ≡ Some (Abstract descriptor)
  pub logic : Definition
  pub found : definition w f.logic ≡ Some logic
  pub concrete : IsConcrete logic
  pub recognizer : f.role ≡ abstract_role.Recognizer → (f.logic ≡ descriptor.recognizer.logic) × (f.signature.ins ≡ Stobj f.stobj ∷ [])
  pub plain : (k : ℕ) → f.signature.ins ≡ replicate k Ordinary → f.signature.outs ≡ Stobj f.stobj ∷ []
  pub several : EachNode HasSeveral f.guard
  pub output : HasOutput f.signature.outs
  pub apart : f.role ≡ abstract_role.Export → has f.formals descriptor.foundation ≡ false
  pub exec : f.role ≡ abstract_role.Export → ExecThere w descriptor.foundation f.exec
  pub export : f.role ≡ abstract_role.Export → ExportThere w descriptor f

-- ---- worlds

abbrev pub StockedDefinition : World → Definition → Type 0
StockedDefinition w (Primitive name row) = Unit {0}
StockedDefinition w (Defined f) = EachNode HasSeveral f.guard × EachNode HasSeveral f.body × HasOutput f.signature.outs
StockedDefinition w (Macro name formals body) = Unit {0}
StockedDefinition w (Constant name value) = Unit {0}
StockedDefinition w (Concrete d class) = HaveInitials d.fields × CreatorThere w d × ConcreteThere w class
StockedDefinition w (Generated g) = ComesWith w g
StockedDefinition w (Abstract d) = AbstractThere w d
StockedDefinition w (OfAbstract f) = OfAbstractThere w f
StockedDefinition w (Named name formals) = Unit {0}
StockedDefinition w (Signed name formals signature executable) = HasOutput signature.outs

pub record IsStocked (w : World) : Type 0 where
  pub each : (x : ℕ) (d : Definition) → definition w x ≡ Some d → StockedDefinition w d
  pub equal : prim_of (definition w equal_word) ≡ Some (prim.Relation relation.Equal)
  pub nth : prim_of (definition w nth_word) ≡ Some (prim.Listing listing.Nth)
  pub once : repeats (stobj_names w) ≡ false

-- a primitive stays one
pub prim_more : (w new : World) (x : ℕ) (p : Prim) → prim_of (definition w x) ≡ Some p → prim_of (definition (w ++ new) x) ≡ Some p
prim_more w new x p h = go (definition w x) refl h
  where
    go : (v : Option Definition) → definition w x ≡ v → prim_of v ≡ Some p → prim_of (definition (w ++ new) x) ≡ Some p
    go None e g = cc
    go (Some d) e g = ap prim_of (definition_old w new x d e) ∙ g

pub stocked_more : (w new : World) (d : Definition) → StockedDefinition w d → StockedDefinition (w ++ new) d
stocked_more w new (Primitive name row) h = tt
stocked_more w new (Defined f) h = h
stocked_more w new (Macro name formals body) h = tt
stocked_more w new (Constant name value) h = tt
stocked_more w new (Concrete d class) h =
    (h.0, record { creator = h.1.creator; there = definition_old w new d.creator (Generated h.1.creator) h.1.there; makes = h.1.makes; made_of = h.1.made_of }, concrete_more w new class h.2)
stocked_more w new (Generated g) h = record { descriptor = h.descriptor; class = h.class; there = definition_old w new g.stobj (Concrete h.descriptor h.class) h.there; kind = h.kind; output = h.output }
stocked_more w new (Abstract d) h = record {
  foundation = concrete_more w new d.foundation h.foundation;
  exec = h.exec;
  creator = h.creator;
  there = definition_old w new d.creator.name (OfAbstract h.creator) h.there;
  makes = h.makes;
  functions = λ f i.
      let g : StandsFor w f = h.functions f i in
      record { function = g.function; there = definition_old w new f.name (OfAbstract g.function) g.there; logic = g.logic };
}
stocked_more w new (OfAbstract f) h = record {
  descriptor = h.descriptor;
  stobj = definition_old w new f.stobj (Abstract h.descriptor) h.stobj;
  logic = h.logic;
  found = definition_old w new f.logic h.logic h.found;
  concrete = h.concrete;
  recognizer = h.recognizer;
  plain = h.plain;
  several = h.several;
  output = h.output;
  apart = h.apart;
  exec = λ e.
      let x : ExecThere w h.descriptor.foundation f.exec = h.exec e in
      record { function = x.function; found = definition_old w new f.exec x.function x.found; signature = x.signature; signed = x.signed; ins = x.ins; outs = x.outs };
  export = λ e. export_more w new h.descriptor f (h.export e);
}
stocked_more w new (Named name formals) h = tt
stocked_more w new (Signed name formals signature executable) h = h

-- ---- layouts

module _ (w : World) (stocked : IsStocked w) where
  shape_initial : (child : ℕ → Layout ℕ) (s : Shape) → ((x : ℕ) → HasInitials by_number (child x)) → HasInitial s → HasInitials by_number (shape_layout same child s)
  shape_initial child (Scalar t o) c h = h
  shape_initial child (Array t o n resizable) c h = h
  shape_initial child (Hash test) c h = tt
  shape_initial child (Child x) c h = c x
  shape_initial child (Children x n) c h = c x

  fields_initial : (child : ℕ → Layout ℕ) (fs : List Field) → ((x : ℕ) → HasInitials by_number (child x)) → HaveInitials fs → HasInitials by_number (fields_layout same child fs)
  fields_initial child [] c h = tt
  fields_initial child (f ∷ fs) c h = (shape_initial child f.shape c h.0, fields_initial child fs c h.1)

  defined_initial : (child : ℕ → Layout ℕ) (x : ℕ) (d : Option Definition) → definition w x ≡ d → ((x : ℕ) → HasInitials by_number (child x)) → HasInitials by_number (defined_layout same child d)
  defined_initial child x None e c = tt
  defined_initial child x (Some (Primitive name row)) e c = tt
  defined_initial child x (Some (Defined f)) e c = tt
  defined_initial child x (Some (Macro name formals body)) e c = tt
  defined_initial child x (Some (Constant name value)) e c = tt
  defined_initial child x (Some (Concrete d class)) e c = fields_initial child d.fields c (stocked.each x (Concrete d class) e).0
  defined_initial child x (Some (Generated f)) e c = tt
  defined_initial child x (Some (Abstract d)) e c = c d.foundation
  defined_initial child x (Some (OfAbstract f)) e c = tt
  defined_initial child x (Some (Named name formals)) e c = tt
  defined_initial child x (Some (Signed name formals signature executable)) e c = tt

  within_initial : (d x : ℕ) → HasInitials by_number (layout_within same w d x)
  unfolding layout_within
  within_initial zero x = tt
  within_initial (suc d) x = defined_initial (layout_within same w d) x (definition w x) refl (within_initial d)

  pub stocked_initials : (x : ℕ) → HasInitials by_number (layout_of w x)
  stocked_initials x = within_initial (suc most_nested) x

  -- ---- functions that are made for their layouts

  layout_here : (child : ℕ → Layout ℕ) (fs : List Field) (k : ℕ) (f : Field) → slice_get fs k ≡ Some f → field_layout k (fields_layout same child fs) ≡ shape_layout same child f.shape
  layout_here child [] k f e = cc
  layout_here child (q ∷ fs) zero f e = let here : q ≡ f = cc in ap (λ (r : Field). shape_layout same child r.shape) here
  layout_here child (q ∷ fs) (suc k) f e = layout_here child fs k f e

  concrete_layout : (x : ℕ) (d : Descriptor) (class : ℕ) → definition w x ≡ Some (Concrete d class) → layout_of w x ≡ fields_layout same (layout_within same w most_nested) d.fields
  unfolding layout_within
  concrete_layout x d class e = ap (defined_layout same (layout_within same w most_nested)) e

  module _ (g : GeneratedFunction) (internal : is_internal w (Generated g) ≡ false) where
    own_made : IsOwn g → IsMadeFor w g
    own_made (inl h) = record {
      ins =
          h.1 ∙ sym (ap (λ (r : Role). ordinary_before (before_stobj r (field_layout (unwrap_or g.field 0) (layout_of w g.stobj))) (stobj_argument r g.stobj)) h.0);
      suits = subst (λ (r : Role). SuitsLogic r (field_layout (unwrap_or g.field 0) (layout_of w g.stobj))) (sym h.0) tt;
    }
    own_made (inr h) = true_false (sym (ap (λ (r : Role). is_kept_back r (held_in w g)) h) ∙ internal)

    field_made : (c : ComesWith w g) → IsOfField c.descriptor g → IsMadeFor w g
    field_made c f = record {
      ins = subst (λ (l : Layout ℕ). g.signature.ins ≡ ordinary_before (before_stobj g.role l) (stobj_argument g.role g.stobj)) (sym layout_is) fit.0;
      suits = subst (λ (l : Layout ℕ). SuitsLogic g.role l) (sym layout_is) fit.1;
    }
      where
        child : ℕ → Layout ℕ
        child = layout_within same w most_nested

        holds : held_in w g ≡ held_by f.field.shape
        holds =
            ap (λ (k : Option ℕ). option_and_then (λ (e : Field). held_by e.shape) (option_and_then (λ k. option_and_then (λ (d : Descriptor). slice_get d.fields k) (descriptor_of w g.stobj)) k)) f.of_field
            ∙ (ap (λ (d : Option Definition). option_and_then (λ (e : Field). held_by e.shape) (option_and_then (λ (d : Descriptor). slice_get d.fields f.number) (option_and_then descriptor_in d))) c.there
            ∙ ap (λ (e : Option Field). option_and_then (λ (e : Field). held_by e.shape) e) f.there)

        fit : (g.signature.ins ≡ ordinary_before (before_stobj g.role (shape_layout same child f.field.shape)) (stobj_argument g.role g.stobj)) × SuitsLogic g.role (shape_layout same child f.field.shape)
        fit = f.fits (sym (ap (is_kept_back g.role) holds) ∙ internal) child

        layout_is : field_layout (unwrap_or g.field 0) (layout_of w g.stobj) ≡ shape_layout same child f.field.shape
        layout_is =
            ap (λ (k : Option ℕ). field_layout (unwrap_or k 0) (layout_of w g.stobj)) f.of_field
            ∙ (ap (field_layout f.number) (concrete_layout g.stobj c.descriptor c.class c.there) ∙ layout_here child c.descriptor.fields f.number f.field f.there)

    comes_made : ComesWith w g → IsMadeFor w g
    comes_made c = go c.kind
      where
        go : IsOwn g ⊎ IsOfField c.descriptor g → IsMadeFor w g
        go (inl h) = own_made h
        go (inr f) = field_made c f

  pub stocked_made : (x : ℕ) (g : GeneratedFunction) → definition w x ≡ Some (Generated g) → is_internal w (Generated g) ≡ false → IsMadeFor w g
  stocked_made x g e internal = comes_made g internal (stocked.each x (Generated g) e)

-- ---- what a stobj brings

tasks_fit : (stobj : ℕ) (s : Shape) → EachOne (λ (t : Task). TaskFits stobj s t.0 t.1.ins) (field_tasks stobj s)
tasks_fit stobj (Scalar t o) = ((λ k c. (refl, tt)), ((λ k c. (refl, tt)), ((λ k c. (refl, tt)), tt)))
tasks_fit stobj (Array t o n resizable) = ((λ k c. (refl, tt)), ((λ k c. (refl, tt)), ((λ k c. (refl, tt)), ((λ k c. (refl, tt)), ((λ k c. (refl, tt)), tt)))))
tasks_fit stobj (Hash test) =
    ((λ k c. (refl, tt)), ((λ k c. (refl, tt)), ((λ k c. (refl, tt)), ((λ k c. (refl, tt)), ((λ k c. (refl, tt)), ((λ k c. (refl, tt)), ((λ k c. (refl, tt)), ((λ k c. (refl, tt)), tt))))))))
tasks_fit stobj (Child x) = ((λ k c. (refl, tt)), ((λ k c. true_false k), ((λ k c. true_false k), tt)))
tasks_fit stobj (Children x n) = ((λ k c. (refl, tt)), ((λ k c. (refl, tt)), ((λ k c. (refl, tt)), ((λ k c. true_false k), ((λ k c. true_false k), tt)))))

tasks_output : (stobj : ℕ) (s : Shape) → EachOne (λ (t : Task). HasOutput t.1.outs) (field_tasks stobj s)
tasks_output stobj (Scalar t o) = (tt, (tt, (tt, tt)))
tasks_output stobj (Array t o n resizable) = (tt, (tt, (tt, (tt, (tt, tt)))))
tasks_output stobj (Hash test) = (tt, (tt, (tt, (tt, (tt, (tt, (tt, (tt, tt))))))))
tasks_output stobj (Child x) = (tt, (tt, (tt, tt)))
tasks_output stobj (Children x n) = (tt, (tt, (tt, (tt, (tt, tt)))))

module _ (d : Descriptor) where
  abbrev IsOf : GeneratedFunction → Type 0
  IsOf g = (g.stobj ≡ d.name) × (IsOwn g ⊎ IsOfField d g) × HasOutput g.signature.outs

  named_come : (k : ℕ) (f : Field) → slice_get d.fields k ≡ Some f → (names : List ℕ) (ts : List Task) → EachOne (λ (t : Task). TaskFits d.name f.shape t.0 t.1.ins) ts → EachOne (λ (t : Task). HasOutput t.1.outs) ts → EachOne IsOf (named_tasks d.name k names ts)
  named_come k f e [] ts h g = tt
  named_come k f e (x ∷ xs) [] h g = tt
  named_come k f e (x ∷ xs) (t ∷ ts) h g = ((refl, inr (record { number = k; field = f; there = e; of_field = refl; fits = h.0 }), g.0), named_come k f e xs ts h.1 g.1)

  fields_come : (k : ℕ) (fs : List Field) → ((i : ℕ) (f : Field) → slice_get fs i ≡ Some f → slice_get d.fields (k + i) ≡ Some f) → EachOne IsOf (field_functions d.name k fs)
  fields_come k [] h = tt
  fields_come k (f ∷ fs) h =
      each_both IsOf (named_tasks d.name k f.made (field_tasks d.name f.shape)) (field_functions d.name (k + 1) fs) (named_come k f here f.made (field_tasks d.name f.shape) (tasks_fit d.name f.shape) (tasks_output d.name f.shape)) (fields_come (k + 1) fs later)
    where
      here : slice_get d.fields k ≡ Some f
      here = let none : k + 0 ≡ k = omega arith in subst (λ (n : ℕ). slice_get d.fields n ≡ Some f) none (h 0 f refl)

      later : (i : ℕ) (q : Field) → slice_get fs i ≡ Some q → slice_get d.fields ((k + 1) + i) ≡ Some q
      later i q e = let one : k + suc i ≡ (k + 1) + i = omega arith in subst (λ (n : ℕ). slice_get d.fields n ≡ Some q) one (h (suc i) q e)

  functions_come : EachOne IsOf (generated_functions d)
  functions_come = ((refl, inl (inl (refl, refl)), tt), ((refl, inl (inr refl), tt), fields_come 0 d.fields (λ i f e. from_zero i f e)))
    where
      from_zero : (i : ℕ) (f : Field) → slice_get d.fields i ≡ Some f → slice_get d.fields (0 + i) ≡ Some f
      from_zero i f e = let none : i ≡ 0 + i = omega arith in subst (λ (n : ℕ). slice_get d.fields n ≡ Some f) none e

  generated_stocked : (w : World) (class : ℕ) → definition w d.name ≡ Some (Concrete d class) → (gs : List GeneratedFunction) → EachOne IsOf gs → EachDefinition (StockedDefinition w) (map Generated gs)
  generated_stocked w class e [] h = tt
  generated_stocked w class e (g ∷ gs) h =
      (record { descriptor = d; class = class; there = ap (definition w) h.0.0 ∙ e; kind = h.0.1; output = h.0.2 }, generated_stocked w class e gs h.1)

  module _ (w : World) (free : name_in_use w (new_names d) ≡ None) where
    abbrev own : Option ℕ → ℕ → Task → GeneratedFunction
    own field name t = function_of d.name field name t

    abbrev others : World
    others = map Generated (field_functions d.name 0 d.fields)

    abbrev with_object : World
    with_object = w ++ stobj_entries w d

    -- what `class_for` is, by the stobj that this one is congruent to
    abbrev class_given : Option ℕ → ℕ
    class_given None = d.name
    class_given (Some old) = unwrap_or (class_of w old) old

    turned : (a b : ℕ) → nat_eq a b ≡ false → nat_eq b a ≡ false
    turned a b e = grind (arith, nat_tests)

    creator_there : CreatorThere with_object d
    creator_there =
        let first = first_free w d.name (d.recognizer ∷ d.creator ∷ flat_map names_of_field d.fields) free in
        let second = first_free w d.recognizer (d.creator ∷ flat_map names_of_field d.fields) first.1 in
        let third = first_free w d.creator (flat_map names_of_field d.fields) second.1 in
        let not_recognizer = neither (nat_eq d.name d.recognizer) (nat_eq d.name d.creator || has (flat_map names_of_field d.fields) d.name) first.0.once in
        let not_creator = neither (nat_eq d.name d.creator) (has (flat_map names_of_field d.fields) d.name) not_recognizer.1 in
        let apart = neither (nat_eq d.recognizer d.creator) (has (flat_map names_of_field d.fields) d.recognizer) second.0.once in
        record {
          creator = own None d.creator (creator_task d.name);
          there =
              definition_new w (stobj_entries w d) d.creator third.0.nothing
              ∙ (ap (λ (b : Bool). if b then Some (Concrete d (class_for w d)) else definition (map Generated (generated_functions d)) d.creator) (turned d.name d.creator not_creator.0)
              ∙ (ap (λ (b : Bool). if b then Some (Generated (own None d.recognizer (recognizer_task d.name))) else definition (Generated (own None d.creator (creator_task d.name)) ∷ others) d.creator) (turned d.recognizer d.creator apart.0)
              ∙ ap (λ (b : Bool). if b then Some (Generated (own None d.creator (creator_task d.name))) else definition others d.creator) (same_number d.creator)));
          makes = refl;
          made_of = refl;
        }

    pub entries_stocked : HaveInitials d.fields → IsConcreteIfAny w d.congruent_to → IsStocked w → EachDefinition (StockedDefinition with_object) (stobj_entries w d)
    entries_stocked h congruent stocked = ((h, creator_there, class_there d.congruent_to refl congruent), generated_stocked with_object (class_for w d) there (generated_functions d) functions_come)
      where
        there : definition with_object d.name ≡ Some (Concrete d (class_for w d))
        there =
            definition_new w (stobj_entries w d) d.name (first_free w d.name (d.recognizer ∷ d.creator ∷ flat_map names_of_field d.fields) free).0.nothing
            ∙ ap (λ (b : Bool). if b then Some (Concrete d (class_for w d)) else definition (map Generated (generated_functions d)) d.name) (same_number d.name)

        class_there : (v : Option ℕ) → d.congruent_to ≡ v → IsConcreteIfAny w v → ConcreteThere with_object (class_for w d)
        class_there None e c = subst (ConcreteThere with_object) (sym (ap (λ (v : Option ℕ). class_given v) e)) (record { descriptor = d; class = class_for w d; there = there })
        class_there (Some old) e c =
            let at = concrete_at w old c in
            let class : class_of w old ≡ Some at.class = ap (option_and_then class_in) at.there in
            subst (ConcreteThere with_object) (sym (ap (λ (v : Option ℕ). class_given v) e ∙ ap (λ (v : Option ℕ). unwrap_or v old) class))
            (concrete_more w (stobj_entries w d) at.class (stocked.each old (Concrete at.descriptor at.class) at.there).2)

-- ---- initial values as they are read

abbrev given_or : Option Refusal → Option Refusal → Option Refusal
given_or None later = later
given_or (Some y) later = Some y

accepted_meets : (t o : Object ℕ) (v : Option (ValueType ℕ)) → option_map_or (λ (v : ValueType ℕ). meets by_number v o) (option_and_then not_too_deep v) false ≡ true → meets by_number (unwrap_or v Anything) o ≡ true
accepted_meets t o None h = true_false (sym h)
accepted_meets t o (Some v) h = go _ h
  where
    go : (b : Bool) → option_map_or (λ (v : ValueType ℕ). meets by_number v o) (if b then Some v else None) false ≡ true → meets by_number v o ≡ true
    go true k = k
    go false k = true_false (sym k)

module _ (w : World) where
  shape_good : (f : WrittenField) (s : Shape) → has_good_initial w f s ≡ true → HasInitial s
  shape_good f (Scalar t o) h = accepted_meets t o (type_of same t) h
  shape_good f (Array t o n resizable) h = accepted_meets t o (type_of same t) h
  shape_good f (Hash test) h = tt
  shape_good f (Child x) h = tt
  shape_good f (Children x n) h = tt

  fields_good : (fs : List WrittenField) → first_given (bad_initial w) fs ≡ None → EachOne (λ (f : ShapedField). HasInitial f.1) (shaped_fields w fs)
  fields_good [] e = tt
  fields_good (f ∷ fs) e = go (shape_of w f) refl (fields_good fs)
    where
      good : (b : Bool) → given_or (if b then None else Some (BadInitial f.name)) (first_given (bad_initial w) fs) ≡ None → (b ≡ true) × (first_given (bad_initial w) fs ≡ None)
      good true k = (refl, k)
      good false k = cc

      go : (s : Option Shape) → shape_of w f ≡ s → (first_given (bad_initial w) fs ≡ None → EachOne (λ (f : ShapedField). HasInitial f.1) (shaped_fields w fs))
          → EachOne (λ (f : ShapedField). HasInitial f.1) (option_map_or (λ s. (f.name, s) ∷ shaped_fields w fs) s (shaped_fields w fs))
      go None k later = later (good (option_map_or (has_good_initial w f) (shape_of w f) true) e).1
      go (Some s) k later =
          let both = good (option_map_or (has_good_initial w f) (shape_of w f) true) e in
          (shape_good f s (sym (ap (λ (v : Option Shape). option_map_or (has_good_initial w f) v true) k) ∙ both.0), later both.1)

  with_initials : (fs : List ShapedField) (numbers : List ℕ) → EachOne (λ (f : ShapedField). HasInitial f.1) fs → HaveInitials (fields_with fs numbers)
  with_initials [] numbers h = tt
  with_initials (f ∷ fs) numbers h = (h.0, with_initials fs (drop (made_count f.1) numbers) h.1)

  abbrev pub HasOwnInitials : Descriptor → Type 0
  HasOwnInitials d = HaveInitials d.fields × (name_in_use w (new_names d) ≡ None)

  made_initials : (o : WrittenStobj) (m : MadeNames) (p : Progress) → EachOne (λ (f : ShapedField). HasInitial f.1) (shaped_fields w o.fields) → IfGrants HasOwnInitials (descriptor_made w o (shaped_fields w o.fields) m p)
  made_initials o m p h =
      let d = descriptor_with o (shaped_fields w o.fields) m.numbers in
      grants_unless HasOwnInitials (room_for m) (named_descriptor w d) (record p { symbols = m.symbols }) (λ room.
      grants_unless HasOwnInitials _ (Grants d) (record p { symbols = m.symbols }) (λ good. (with_initials (shaped_fields w o.fields) _ h, (none_or (name_in_use w (new_names d)) (mismatch w d) good).0)))

  pub descriptor_initials : (packages : List Package) (d : Object ℕ) (p : Progress) → IfGrants HasOwnInitials (descriptor_read w packages d p)
  unfolding descriptor_read
  descriptor_initials packages d p =
      grants_needing HasOwnInitials (written_stobj w p.symbols d) _ (written_then w packages) p (λ o is.
      grants_unless HasOwnInitials _ (names_then w packages o (shaped_fields w o.fields)) p (λ good.
      let first = none_or _ (option_or (first_given (bad_type w) o.fields) (first_given (bad_initial w) o.fields)) good in
      let types = none_or (first_given (bad_type w) o.fields) (first_given (bad_initial w) o.fields) first.1 in
      made_initials o (names_made packages o.renaming (stobj_makings p.symbols (symbol_or_nil o.name) (shaped_fields w o.fields)) p.symbols) p (fields_good o.fields types.1)))

-- ---- creators

pub stocked_creators : (w : World) → IsStocked w → (x class : ℕ) (d : Descriptor) → definition w x ≡ Some (Concrete d class) → HasCreator w x
stocked_creators w stocked x class d e =
    let c = (stocked.each x (Concrete d class) e).1 in
    record {
      creator = c.creator;
      there = ap (λ (v : Option Definition). definition w (creator_of v)) e ∙ c.there;
      makes = c.makes;
      made_of = c.made_of ∙ sym (named w x (Concrete d class) e);
    }
