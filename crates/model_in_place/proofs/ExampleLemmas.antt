-- The example is as is asked of worlds.
use Rattle.std.proofs.Common.{◌≡◌, ℕ, List, [], ◌∷◌, Bool, true, false, Option, Some, None, refl, sym, ap, ◌∙◌, subst}
use Rattle.std.specs.Prelude.{nat_eq, option_and_then, if◌then◌else◌}
use Rattle.std.specs.List.{AllByRecursion}
use Rattle.std.proofs.lemmas.Bool.{eqb-true}
use Rattle.model_lists.specs.Layouts.{Layout}
use Rattle.model_terms.specs.declared.role.AbstractRole.TheVariants as abstract_role
use Rattle.model_terms.specs.Worlds.{World, Definition, definition, definition_name, Out, Ordinary, Stobj, Primitive, Defined, Macro, Constant, Concrete, Generated, Abstract, OfAbstract, Named, Signed}
use Rattle.model_terms.specs.Classes.{class_in, class_of, same_class, congruent}
use Rattle.model_terms.specs.Outputs.{outputs}
use Rattle.model_terms.specs.Sites.{below}
use Rattle.model_terms.specs.Nested.{stobj_let_holds, with_local_holds}
use Rattle.model_terms.specs.Faults.{first_in, first_fault}
use Rattle.model_terms.specs.Accessors.{One, ChildAccessor, child_accessor, accessor_in, is_internal}
use Rattle.model_terms_laws.proofs.ClassLemmas.{found_name}
use Rattle.model_eval.specs.StobjLayouts.{layout_within}
use Rattle.model_eval.specs.GeneratedCalls.{effect}
use Rattle.model_eval.specs.Evaluated.{exec_called, called, in_order, all_borrowed, put_back, evaluated}
use Rattle.model_lists.specs.Effects.{accessed, changed}
use Rattle.model_accepted.specs.Threaded.{IsFormed, layout_of, Reaches, Suits, IsAdmitted, IsMade, IsExport, IsRecognizer, IsThreaded}
use Rattle.model_in_place.specs.Example.{world, writer, body, IsExample}
use Rattle.model_accepted.proofs.AcceptLemmas.{false_true, true_false}
use Rattle.model_accepted.proofs.ScopeLemmas.{some_same, none_some}

-- what holds of each definition holds of one that is found
pub found_one : (P : Definition → Type 0) (ds : World) (x : ℕ) (d : Definition) → AllByRecursion P ds → definition ds x ≡ Some d → P d
found_one P [] x d a e = none_some e
found_one P (f ∷ ds) x d a e = go (nat_eq x (definition_name f)) e (found_one P ds x d a.1)
  where
    go : (b : Bool) → (if b then Some f else definition ds x) ≡ Some d → (definition ds x ≡ Some d → P d) → P d
    go true g later = subst P (some_same g) a.0
    go false g later = later g

-- ---- worlds by their definitions

-- what is asked of a definition
abbrev pub IsReady : World → Definition → Type 0
IsReady w (Primitive name row) = Unit {0}
IsReady w (Defined f) = f.executable ≡ true → IsAdmitted w f
IsReady w (Macro name formals body) = Unit {0}
IsReady w (Constant name value) = Unit {0}
IsReady w (Concrete d class) = Unit {0}
IsReady w (Generated g) = is_internal w (Generated g) ≡ false → IsMade w g
IsReady w (Abstract d) = Unit {0}
IsReady w (OfAbstract f) = (f.role ≡ abstract_role.Export → IsExport w f) × (f.role ≡ abstract_role.Recognizer → IsRecognizer f)
IsReady w (Named name formals) = Unit {0}
IsReady w (Signed name formals signature executable) = Unit {0}

pub threaded_by : (w : World) → AllByRecursion (IsReady w) w → IsThreaded w
threaded_by w a = record {
  functions = λ x f e. found_one (IsReady w) w x (Defined f) a e;
  made = λ x g e. found_one (IsReady w) w x (Generated g) a e;
  exports = λ x f e. (found_one (IsReady w) w x (OfAbstract f) a e).0;
  recognizers = λ x f e. (found_one (IsReady w) w x (OfAbstract f) a e).1;
}

-- the layout of each stobj is that of its class, and each accessor of a child reaches one
pub record IsSuited (w : World) (of_class : ℕ → Layout ℕ) (d : Definition) : Type 0 where
  pub class : (a : ℕ) → class_in d ≡ Some a → layout_of w (definition_name d) ≡ of_class a
  pub accessor : (a : ChildAccessor) → accessor_in w d ≡ Some a → Reaches w (definition_name d) a

pub suits_by : (w : World) (of_class : ℕ → Layout ℕ) → AllByRecursion (IsSuited w of_class) w → Suits w w
suits_by w of_class all = record {
  called = λ f d s e signed kept runs. record { there = d; stands = e; signed = signed; callable = kept; executable = runs };
  layouts = λ x y e. by_classes x y (class_of w x) refl (class_of w y) refl e;
  accessors = λ f a e. by_accessor f a (definition w f) refl e;
}
  where
    layout_is : (x a : ℕ) → class_of w x ≡ Some a → layout_of w x ≡ of_class a
    layout_is x a e = go (definition w x) refl e
      where
        go : (d : Option Definition) → definition w x ≡ d → option_and_then class_in d ≡ Some a → layout_of w x ≡ of_class a
        go None f g = none_some g
        go (Some d) f g = ap (layout_of w) (found_name w x d f) ∙ (found_one (IsSuited w of_class) w x d all f).class a g

    by_classes : (x y : ℕ) (a : Option ℕ) → class_of w x ≡ a → (b : Option ℕ) → class_of w y ≡ b → congruent w x y ≡ true → layout_of w x ≡ layout_of w y
    by_classes x y None f b g e = false_true (sym (ap (λ (m : Option ℕ). same_class m (class_of w y)) f) ∙ e)
    by_classes x y (Some a) f None g e = false_true (sym (ap (λ (m : Option ℕ). same_class (Some a) m) g) ∙ (sym (ap (λ (m : Option ℕ). same_class m (class_of w y)) f) ∙ e))
    by_classes x y (Some a) f (Some b) g e =
        layout_is x a f
        ∙ (ap of_class (equal a b (sym (ap (λ (m : Option ℕ). same_class (Some a) m) g) ∙ (sym (ap (λ (m : Option ℕ). same_class m (class_of w y)) f) ∙ e))) ∙ sym (layout_is y b g))
      where
        equal : (a b : ℕ) → nat_eq a b ≡ true → a ≡ b
        equal a b h = eqb-true a b h

    by_accessor : (f : ℕ) (a : ChildAccessor) (d : Option Definition) → definition w f ≡ d → child_accessor w f ≡ Some a → Reaches w f a
    by_accessor f a None e g = none_some (sym (ap (option_and_then (accessor_in w)) e) ∙ g)
    by_accessor f a (Some d) e g =
        subst (λ (x : ℕ). Reaches w x a) (sym (found_name w f d e)) ((found_one (IsSuited w of_class) w f d all e).accessor a (sym (ap (option_and_then (accessor_in w)) e) ∙ g))

-- ---- the example

abbrev layouts : ℕ → Layout ℕ
layouts x = layout_of world x

not_class : {A : Type 0} {a : ℕ} → ◌≡◌ {A = Option ℕ} None (Some a) → A
not_class e = cc

no_accessor : {A : Type 0} {a : ChildAccessor} → ◌≡◌ {A = Option ChildAccessor} None (Some a) → A
no_accessor e = cc

reaches_child : Reaches world 15 (record { stobj = 10; field = 0; holds = One 1 })
unfolding layout_within
reaches_child = record { number = refl; field = layout_of world 1; there = refl; held = refl }

suits_example : Suits world world
suits_example = suits_by world layouts (
  record { class = λ a e. ap layouts (some_same e); accessor = λ a e. no_accessor e },
  (
    record { class = λ a e. not_class e; accessor = λ a e. no_accessor e },
    (
      record { class = λ a e. not_class e; accessor = λ a e. no_accessor e },
      (
        record { class = λ a e. ap layouts (some_same e); accessor = λ a e. no_accessor e },
        (
          record { class = λ a e. not_class e; accessor = λ a e. subst (Reaches world 15) (some_same e) reaches_child },
          (
            record { class = λ a e. not_class e; accessor = λ a e. no_accessor e },
            (
              record { class = λ a e. not_class e; accessor = λ a e. no_accessor e },
              tt,
            ),
          ),
        ),
      ),
    ),
  ),
)

admitted : IsAdmitted world writer
unfolding first_fault first_in below outputs stobj_let_holds with_local_holds IsFormed
admitted = record {
  formals = (refl, tt);
  distinct = refl;
  guard = record { world = world; suits = suits_example; accepted = refl; formed = tt };
  body = record { world = world; suits = suits_example; accepted = refl; formed = (((record { ins = Ordinary ∷ Stobj 1 ∷ []; outs = Stobj 1 ∷ [] }, refl, refl), (tt, (tt, tt))), tt) };
}

threaded_example : IsThreaded world
threaded_example = threaded_by world (
  tt,
  (
    (λ e. record { outs = refl; only = λ f. wrong f; suits = tt }),
    (
      (λ e. record { outs = refl; only = λ f. refl; suits = tt }),
      (
        tt,
        (
          (λ e. true_false e),
          (
            (λ e. true_false e),
            (
              (λ e. admitted),
              tt,
            ),
          ),
        ),
      ),
    ),
  ),
)
  where
    wrong : {A : Type 0} {xs ys : List Out} → Ordinary ∷ xs ≡ Stobj 1 ∷ ys → A
    wrong e = cc

pub is_example : IsExample
unfolding evaluated called exec_called in_order all_borrowed put_back effect accessed changed layout_within
is_example = record { threaded = threaded_example; suits = suits_example; on_lists = refl; at_places = refl }
