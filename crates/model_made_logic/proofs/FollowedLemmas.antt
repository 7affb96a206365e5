-- A world that commands have made is all that the law of the logic asks, abstract stobjs included.
use Rattle.std.proofs.Common.{◌≡◌, ℕ, zero, suc, ◌+◌, ◌≤◌, List, [], ◌∷◌, map, length, true, Option, Some, None, refl, sym, ap, ◌∙◌, subst, inl, inr, arith}
use Rattle.std.specs.Prelude.{◌⊎◌, slice_get, option_and_then}
use Rattle.std.specs.Option.{option_map_or}
use Rattle.std.proofs.lemmas.Bool.{eqb-true}
use Rattle.model_symbols.specs.Symbols.{Table}
use Rattle.model_terms.specs.declared.role.Role.{Role}
use Rattle.model_terms.specs.declared.role.Role.TheVariants as role
use Rattle.model_terms.specs.declared.role.AbstractRole.TheVariants as abstract_role
use Rattle.model_terms.specs.Cores.{Core, Cores, Var, Const, If, Let, Mv, MvLet, StobjLet, WithLocal, MustBeEqual, Call, none, more}
use Rattle.model_terms.specs.Worlds.{World, Definition, Descriptor, AbstractDescriptor, Field, Shape, Function, GeneratedFunction, FunctionOfAbstract, Out, Signature, definition, Primitive, Defined, Macro, Constant, Concrete, Generated, Abstract, OfAbstract, Named, Signed}
use Rattle.model_terms.specs.Worlds as worlds
use Rattle.model_terms.specs.Classes as classes
use Rattle.model_terms.specs.Classes.{class_in, class_of, same_class, congruent, repeats}
use Rattle.model_terms.specs.Outputs.{signature_in}
use Rattle.model_terms.specs.Accessors.{HeldStobjs, One, Many, ChildAccessor, descriptor_in, descriptor_of, held_by, held_in, accessor_to, accessor_in, child_accessor}
use Rattle.model_terms.specs.Nested.{child_stobj}
use Rattle.model_eval.specs.StobjLayouts.{layout_within, defined_layout}
use Rattle.model_eval_laws.specs.Agreement.{IsClosedWorld}
use Rattle.model_stobjs.specs.Descriptors.{held_stobj, most_of, field_nesting, nesting_by, nesting_within}
use Rattle.model_accepted.specs.Threaded.{layout_of, IsChecked, IsAdmitted, IsExport, IsThreaded}
use Rattle.model_accepted.proofs.AcceptLemmas.{false_true}
use Rattle.model_lawful.specs.Growth.{Becomes}
use Rattle.model_lawful.specs.Lawful.{WasChecked, WasAdmitted, WasExported}
use Rattle.model_lawful.proofs.SuitLemmas.{same_held, suits_what_it_becomes}
use Rattle.model_expansion_forms.specs.Nodes.{EachNode, AllNodes, HasConstant, IsBelow}
use Rattle.model_made.specs.Lawful.{IsLawfulWorld, IsConcreteStobj, FieldsNest, NestsIfAny}
use Rattle.model_made.proofs.MemberLemmas.{IsIn}
use Rattle.model_made.proofs.NestingLemmas.{see, concrete_at, deep_enough, concrete_child}
use Rattle.model_made.proofs.WorldLemmas.{named, settled}
use Rattle.model_made.proofs.CommandLemmas.{sessions_are_threaded, made_sessions_lawful}
use Rattle.model_follows.specs.FollowedWorlds.{IsSuited}
use Rattle.model_follows.specs.Follows.{table_of}
use Rattle.model_follows.specs.Held.{Ground, AreSeenIn, Lawful}
use Rattle.model_follows.specs.Abstract.{abstract_of, abstract_ground, IsOfAbstract, IsExportOf, IsFollowedBeside}
use Rattle.model_follows.specs.SymbolLaw.{IsWritten}
use Rattle.model_follows.specs.SymbolLaw as written
use Rattle.model_made_logic.specs.Followed.{MadeWorldsAreFollowedHere}
use Rattle.model_made_logic.specs.Exports.{IsExportWritten, MadeExportsAreWritten}
use Rattle.model_made_logic.proofs.StockLemmas.{ConcreteThere, ExecThere, ExportThere, OfAbstractThere, IsStocked, stocked_made, stocked_initials}
use Rattle.model_made_logic.proofs.AbstractStockLemmas.{not_both}
use Rattle.model_made_logic.proofs.WorldLemmas.{definitions_world}
use Rattle.model_made_logic.proofs.LawLemmas.{made_known, made_stocked, made_worlds_followed}

-- ---- symbols of constants

mutual
  unfolding written.KnowsForm written.KnowsForms

  form_written : (n : ℕ) (f : Core) → EachNode (HasConstant (IsBelow n)) f → written.KnowsForm n f
  form_written n (Var x) h = tt
  form_written n (Const o) h = h
  form_written n (If a b c) h = (form_written n a h.1, form_written n b h.2, form_written n c h.3)
  form_written n (Let names bound body) h = (forms_written n bound h.1, form_written n body h.2)
  form_written n (Mv parts) h = forms_written n parts h.1
  form_written n (MvLet names bound body) h = (form_written n bound h.1, form_written n body h.2)
  form_written n (StobjLet names bound vars producer consumer) h = (forms_written n bound h.1, form_written n producer h.2, form_written n consumer h.3)
  form_written n (WithLocal stobj names producer body) h = (form_written n producer h.1, form_written n body h.2)
  form_written n (MustBeEqual logic exec) h = form_written n logic h.1
  form_written n (Call f actuals) h = forms_written n actuals h.1

  forms_written : (n : ℕ) (fs : Cores) → AllNodes (HasConstant (IsBelow n)) fs → written.KnowsForms n fs
  forms_written n none h = tt
  forms_written n (more f fs) h = (form_written n f h.0, forms_written n fs h.1)

-- ---- stobjs that are congruent

-- a stobj of this class stands under the name
abbrev StobjAt : World → ℕ → ℕ → Type 0
StobjAt c x k = ((d : Descriptor) × (definition c x ≡ Some (Concrete d k))) ⊎ ((a : AbstractDescriptor) × (definition c x ≡ Some (Abstract a)) × (a.name ≡ k))

stobj_at : (c : World) (x k : ℕ) → class_of c x ≡ Some k → StobjAt c x k
stobj_at c x k e = go (definition c x) refl e
  where
    number : {a : ℕ} → Some a ≡ Some k → a ≡ k
    number g = cc

    go : (v : Option Definition) → definition c x ≡ v → option_and_then class_in v ≡ Some k → StobjAt c x k
    go None f g = cc
    go (Some (Primitive name row)) f g = cc
    go (Some (Defined d)) f g = cc
    go (Some (Macro name formals body)) f g = cc
    go (Some (Constant name value)) f g = cc
    go (Some (Concrete d j)) f g = inl (d, f ∙ ap (λ (i : ℕ). Some (Concrete d i)) (number g))
    go (Some (Generated d)) f g = cc
    go (Some (Abstract a)) f g = inr (a, f, number g)
    go (Some (OfAbstract d)) f g = cc
    go (Some (Named name formals)) f g = cc
    go (Some (Signed name formals signature executable)) f g = cc

classes_same : (a b : Option ℕ) → same_class a b ≡ true → (k : ℕ) × (a ≡ Some k) × (b ≡ Some k)
classes_same None b e = false_true e
classes_same (Some k) None e = false_true e
classes_same (Some k) (Some j) e = (k, refl, ap (λ (i : ℕ). Some i) (sym (eqb-true k j e)))

module _ (w : World) (l : IsLawfulWorld w) (stocked : IsStocked w) where
  concrete_seen : (x : ℕ) → IsConcreteStobj w x → abstract_of (definition w x) ≡ None
  concrete_seen x h = ap abstract_of (concrete_at w x h).there

  seen_alike : (c : World) → Becomes c w → (x y : ℕ) → congruent c x y ≡ true → abstract_of (definition w x) ≡ abstract_of (definition w y)
  seen_alike c b x y e =
      let same = classes_same (class_of c x) (class_of c y) e in
      go same.0 (stobj_at c x same.0 same.1) (stobj_at c y same.0 same.2)
    where
      clash : {B : Type 0} {a : AbstractDescriptor} {d : Descriptor} {k : ℕ} → Some (Abstract a) ≡ Some (Concrete d k) → B
      clash h = cc

      -- the class of a concrete stobj is no abstract one
      apart : (u v k : ℕ) (d : Descriptor) (a : AbstractDescriptor) → definition c u ≡ Some (Concrete d k) → definition c v ≡ Some (Abstract a) → a.name ≡ k → ⊥
      apart u v k d a f g h =
          let class : ConcreteThere w k = (stocked.each u (Concrete d k) (b.each u (Concrete d k) f)).2 in
          let there : definition w v ≡ Some (Abstract a) = b.each v (Abstract a) g in
          let same : v ≡ k = named w v (Abstract a) there ∙ h in
          clash (sym there ∙ (ap (definition w) same ∙ class.there))

      go : (k : ℕ) → StobjAt c x k → StobjAt c y k → abstract_of (definition w x) ≡ abstract_of (definition w y)
      go k (inl f) (inl g) = ap abstract_of (b.each x (Concrete f.0 k) f.1) ∙ sym (ap abstract_of (b.each y (Concrete g.0 k) g.1))
      go k (inl f) (inr g) = absurd (apart x y k f.0 g.0 f.1 g.1 g.2)
      go k (inr f) (inl g) = absurd (apart y x k g.0 f.0 g.1 f.1 f.2)
      go k (inr f) (inr g) =
          let there : x ≡ f.0.name = named w x (Abstract f.0) (b.each x (Abstract f.0) f.1) in
          let here : y ≡ g.0.name = named w y (Abstract g.0) (b.each y (Abstract g.0) g.1) in
          ap (λ (z : ℕ). abstract_of (definition w z)) (there ∙ (f.2 ∙ (sym g.2 ∙ sym here)))

  -- ---- children

  in_fields : (fs : List Field) (i : ℕ) (f : Field) → slice_get fs i ≡ Some f → IsIn f fs
  in_fields [] i f e = cc
  in_fields (g ∷ fs) zero f e = inl (same e)
    where
      same : Some g ≡ Some f → f ≡ g
      same h = cc
  in_fields (g ∷ fs) (suc i) f e = inr (in_fields fs i f e)

  held_shape : (s : Shape) (h : HeldStobjs) → held_by s ≡ Some h → held_stobj s ≡ Some (child_stobj h)
  held_shape (worlds.Scalar written initial) h e = cc
  held_shape (worlds.Array written initial length resizable) h e = cc
  held_shape (worlds.Hash test) h e = cc
  held_shape (worlds.Child x) h e = ap (λ (k : HeldStobjs). Some (child_stobj k)) (same e)
    where
      same : Some (One x) ≡ Some h → One x ≡ h
      same f = cc
  held_shape (worlds.Children x n) h e = ap (λ (k : HeldStobjs). Some (child_stobj k)) (same e)
    where
      same : Some (Many x) ≡ Some h → Many x ≡ h
      same f = cc

  held_concrete : (g : GeneratedFunction) (h : HeldStobjs) → ConcreteThere w g.stobj → held_in w g ≡ Some h → IsConcreteStobj w (child_stobj h)
  held_concrete g h there e = by_field g.field refl
    where
      of_field : (v : Option Field) → (i : ℕ) → slice_get there.descriptor.fields i ≡ v → option_and_then (λ (q : Field). held_by q.shape) v ≡ Some h → IsConcreteStobj w (child_stobj h)
      of_field None i f k = cc
      of_field (Some q) i f k =
          concrete_child w l.children there.descriptor.fields (l.children g.stobj there.class there.descriptor there.there) q (child_stobj h) (in_fields there.descriptor.fields i q f) (held_shape q.shape h k)

      by_field : (v : Option ℕ) → g.field ≡ v → IsConcreteStobj w (child_stobj h)
      by_field None f = none_is (sym (ap (λ (v : Option ℕ). option_and_then (λ (q : Field). held_by q.shape) (option_and_then (λ i. option_and_then (λ (d : Descriptor). slice_get d.fields i) (descriptor_of w g.stobj)) v)) f) ∙ e)
        where
          none_is : {B : Type 0} → ◌≡◌ {A = Option HeldStobjs} None (Some h) → B
          none_is k = cc
      by_field (Some i) f =
          of_field (slice_get there.descriptor.fields i) i refl
          (sym (ap (λ (v : Option ℕ). option_and_then (λ (q : Field). held_by q.shape) (option_and_then (λ i. option_and_then (λ (d : Descriptor). slice_get d.fields i) (descriptor_of w g.stobj)) v)) f
          ∙ ap (λ (v : Option Definition). option_and_then (λ (q : Field). held_by q.shape) (option_and_then (λ (d : Descriptor). slice_get d.fields i) (option_and_then descriptor_in v))) there.there) ∙ e)

  generated_there : (f : ℕ) (g : GeneratedFunction) → definition w f ≡ Some (Generated g) → ConcreteThere w g.stobj
  generated_there f g e = let h = stocked.each f (Generated g) e in record { descriptor = h.descriptor; class = h.class; there = h.there }

  -- the accessor of a child is one of a concrete stobj, and gives one
  seen_plain : (c : World) → IsClosedWorld c → Becomes c w → (f : ℕ) (a : ChildAccessor) → child_accessor c f ≡ Some a → (abstract_of (definition w a.stobj) ≡ None) × (abstract_of (definition w (child_stobj a.holds)) ≡ None)
  seen_plain c closed b f a e = go (definition c f) refl e
    where
      Seen : ChildAccessor → Type 0
      Seen a = (abstract_of (definition w a.stobj) ≡ None) × (abstract_of (definition w (child_stobj a.holds)) ≡ None)

      same : {a b : ChildAccessor} → Some a ≡ Some b → a ≡ b
      same h = cc

      by_role : (g : GeneratedFunction) → definition c f ≡ Some (Generated g) → (r : Role) (i : Option ℕ) (h : Option HeldStobjs) → held_in c g ≡ h → accessor_to g r i h ≡ Some a → Seen a
      by_role g there role.Access (Some i) (Some h) k q =
          let in_it : ConcreteThere w g.stobj = generated_there f g (b.each f (Generated g) there) in
          subst Seen (same q) (ap abstract_of in_it.there, concrete_seen (child_stobj h) (held_concrete g h in_it (same_held c w closed b g (closed.definitions f (Generated g) there) ∙ k)))
      by_role g there role.Access (Some i) None k q = cc
      by_role g there role.Access None h k q = cc
      by_role g there role.Recognizer i h k q = cc
      by_role g there role.Creator i h k q = cc
      by_role g there role.FieldRecognizer i h k q = cc
      by_role g there role.Update i h k q = cc
      by_role g there role.Length i h k q = cc
      by_role g there role.Resize i h k q = cc
      by_role g there role.HashGet i h k q = cc
      by_role g there role.HashBoundp i h k q = cc
      by_role g there role.HashGetBound i h k q = cc
      by_role g there role.HashPut i h k q = cc
      by_role g there role.HashRem i h k q = cc
      by_role g there role.HashCount i h k q = cc
      by_role g there role.HashClear i h k q = cc

      go : (v : Option Definition) → definition c f ≡ v → option_and_then (accessor_in c) v ≡ Some a → Seen a
      go None g h = cc
      go (Some (Primitive name row)) g h = cc
      go (Some (Defined d)) g h = cc
      go (Some (Macro name formals body)) g h = cc
      go (Some (Constant name value)) g h = cc
      go (Some (Concrete d class)) g h = cc
      go (Some (Generated d)) g h = by_role d g d.role d.field (held_in c d) refl h
      go (Some (Abstract d)) g h = cc
      go (Some (OfAbstract d)) g h = cc
      go (Some (Named name formals)) g h = cc
      go (Some (Signed name formals signature executable)) g h = cc

  -- ---- an abstract stobj has the layout of its foundation

  most_nest : (fs : List Field) → FieldsNest w fs → most_of (map (field_nesting (nesting_within w 64)) fs) ≤ 63
  most_nest [] h = omega arith
  most_nest (f ∷ fs) h = let here = go (held_stobj f.shape) h.0 in let later = most_nest fs h.1 in omega (arith, here, later)
    where
      go : (v : Option ℕ) → NestsIfAny w v → option_map_or (nesting_within w 64) v 0 ≤ 63
      go None k = omega arith
      go (Some x) k = omega (arith, k)

  concrete_nests : (x : ℕ) → IsConcreteStobj w x → nesting_within w 65 x ≤ 64
  unfolding nesting_within
  concrete_nests x h =
      let at = concrete_at w x h in
      let here : nesting_by (nesting_within w 64) (descriptor_of w x) ≡ most_of (map (field_nesting (nesting_within w 64)) at.descriptor.fields) + 1 = ap (nesting_by (nesting_within w 64)) at.found in
      let most = most_nest at.descriptor.fields (l.nested x at.class at.descriptor at.there) in
      omega (arith, here, most)

  laid_out : (x : ℕ) (d : AbstractDescriptor) → definition w x ≡ Some (Abstract d) → layout_of w x ≡ layout_of w d.foundation
  unfolding layout_within
  laid_out x d e =
      let at : ConcreteThere w d.foundation = (stocked.each x (Abstract d) e).foundation in
      let concrete : IsConcreteStobj w d.foundation = (at.descriptor, ap (option_and_then descriptor_in) at.there) in
      ap (defined_layout see (layout_within see w 64)) e ∙ deep_enough w l.children 64 d.foundation concrete (concrete_nests d.foundation concrete)

  -- ---- the world is threaded

  abbrev checked : (formals : List ℕ) (ins : List Out) (form : Core) (expected : List Out) → WasChecked w formals ins form expected → IsChecked w formals ins form expected
  checked formals ins form expected h = record { world = h.world; suits = suits_what_it_becomes.suits h.world w h.closed h.lawful h.becomes; accepted = h.accepted; formed = h.formed }

  abbrev admitted : (f : Function) → WasAdmitted w f → IsAdmitted w f
  admitted f h = record { formals = h.formals; distinct = h.distinct; guard = checked f.formals f.signature.ins f.guard _ h.guard; body = checked f.formals f.signature.ins f.body f.signature.outs h.body }

  abbrev exported : (f : FunctionOfAbstract) → WasExported w f → IsExport w f
  exported f h = record {
    formals = h.formals;
    distinct = h.distinct;
    guard = checked f.formals f.signature.ins f.guard _ h.guard;
    foundation = h.foundation;
    alike = h.alike;
    signature = h.signature;
    runs = h.runs;
    concrete = h.concrete;
    ins = h.ins;
    outs = h.outs;
    only = h.only;
    only_outs = h.only_outs;
  }

  abbrev threaded : IsThreaded w
  threaded = record {
    functions = λ x f e run. admitted f (l.lawful.each x (Defined f) e run);
    made = λ x g e. l.lawful.each x (Generated g) e;
    exports = λ x f e r. exported f ((l.lawful.each x (OfAbstract f) e).0 r);
    recognizers = λ x f e. (l.lawful.each x (OfAbstract f) e).1;
  }

  abbrev of_abstract : (x : ℕ) (f : FunctionOfAbstract) → definition w x ≡ Some (OfAbstract f) → IsOfAbstract w f
  of_abstract x f e = record {
    descriptor = (stocked.each x (OfAbstract f) e).descriptor;
    stobj = (stocked.each x (OfAbstract f) e).stobj;
    logic = λ g h. not_both w stocked (stocked.each x (OfAbstract f) e).logic (stocked.each x (OfAbstract f) e).concrete g (sym (stocked.each x (OfAbstract f) e).found ∙ h);
    recognizer = (stocked.each x (OfAbstract f) e).recognizer;
  }

  module _ (table : Table) where
    abbrev ground : Ground
    ground = abstract_ground w table table.symbols

    seen_in : (c : World) → IsClosedWorld c → Becomes c w → AreSeenIn w ground c
    seen_in c closed b = record { alike = seen_alike c b; plain = seen_plain c closed b }

    seen_checked : (formals : List ℕ) (ins : List Out) (form : Core) (expected : List Out) → (h : WasChecked w formals ins form expected) → AreSeenIn w ground h.world
    seen_checked formals ins form expected h = seen_in h.world h.closed h.becomes

    export_of : (x : ℕ) (f : FunctionOfAbstract) (there : definition w x ≡ Some (OfAbstract f)) (is : f.role ≡ abstract_role.Export) → IsSuited w (length table.symbols) f.guard
        → IsExportOf w ground f (threaded.exports x f there is) (of_abstract x f there).descriptor
    export_of x f there is suited = record {
      suited = suited;
      seen_in = seen_checked f.formals f.signature.ins f.guard _ was.guard;
      foundation = first_is (sym was.only ∙ (ap (λ (s : Signature). classes.stobjs s.ins) signature_same ∙ exec.ins));
      concrete = ap abstract_of (stocked.each f.stobj (Abstract here.descriptor) here.stobj).foundation.there;
      once = ap (λ (s : Signature). repeats (classes.stobjs s.outs)) signature_same ∙ exec.outs;
    }
      where
        was : WasExported w f
        was = (l.lawful.each x (OfAbstract f) there).0 is

        here : OfAbstractThere w f
        here = stocked.each x (OfAbstract f) there

        exec : ExecThere w here.descriptor.foundation f.exec
        exec = here.exec is

        definition_same : {a b : Definition} → Some a ≡ Some b → a ≡ b
        definition_same h = cc

        some_same : {a b : Signature} → Some a ≡ Some b → a ≡ b
        some_same h = cc

        signature_same : was.signature ≡ exec.signature
        signature_same = some_same (sym was.runs.signed ∙ (ap signature_in (definition_same (sym was.runs.stands ∙ exec.found)) ∙ exec.signed))

        first_is : was.foundation ∷ [] ≡ here.descriptor.foundation ∷ [] → was.foundation ≡ here.descriptor.foundation
        first_is h = cc

-- ---- the law

pub made_worlds_followed_here : MadeWorldsAreFollowedHere
made_worlds_followed_here = record {
  followed = λ s m.
      let w : World = s.environment.world in
      let l : IsLawfulWorld w = (made_sessions_lawful.lawful s m).world in
      let stocked : IsStocked w = made_stocked s m in
      let table : Table = table_of s.environment.packages s.symbols in
      let law : Lawful w (ground w l stocked table) (threaded w l stocked)
      = record {
        functions = made_worlds_followed.functions s m;
        worlds = λ x f there runs.
            (seen_checked w l stocked table f.formals f.signature.ins f.guard _ (l.lawful.each x (Defined f) there runs).guard, seen_checked w l stocked table f.formals f.signature.ins f.body f.signature.outs (l.lawful.each x (Defined f) there runs).body);
        made = stocked_made w stocked;
        plain = λ x g e. ap abstract_of (stocked.each x (Generated g) e).there;
        layouts = (definitions_world w (length s.symbols) (made_known s m).definitions).layouts;
        initials = stocked_initials w stocked;
      } in
      let beside : IsFollowedBeside w (ground w l stocked table) (threaded w l stocked)
      = record { lawful = law; abstracts = of_abstract w l stocked; exports = λ x f there is. export_of w l stocked table x f there is (made_worlds_followed.exports s m x f there is) } in
      record {
        threaded = threaded w l stocked;
        followed = beside;
        written = record { bodies = λ x f e. form_written (length s.symbols) f.body ((made_known s m).definitions.each x (Defined f) e).1; layouts = (definitions_world w (length s.symbols) (made_known s m).definitions).layouts };
        laid_out = record { alike = laid_out w l stocked };
        suits = sessions_are_threaded.suits s (made_sessions_lawful.lawful s m);
        seen = seen_in w l stocked table w l.lawful.closed (record { each = λ x d e. settled w x d (l.admitted x d e) e });
      };
}

pub made_exports_written : MadeExportsAreWritten
made_exports_written = record {
  exports = λ s m x f e is d there.
      let here : OfAbstractThere s.environment.world f = (made_stocked s m).each x (OfAbstract f) e in
      let export : ExportThere s.environment.world here.descriptor f = here.export is in
      subst (λ (c : AbstractDescriptor). IsExportWritten s.environment.world c f) (descriptor_is (sym here.stobj ∙ there))
      (record { export = export.export; among = export.among; written = export.written s.environment.world export.logic_there export.function_there });
  creators = λ s m x d e. let c = (made_stocked s m).each x (Abstract d) e in (c.foundation.descriptor, c.foundation.class, c.foundation.there, c.exec);
  equal = λ s m. (made_stocked s m).equal;
  nth = λ s m. (made_stocked s m).nth;
}
  where
    descriptor_is : {a c : AbstractDescriptor} → Some (Abstract a) ≡ Some (Abstract c) → a ≡ c
    descriptor_is h = cc
