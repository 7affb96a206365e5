-- A lawful world with more definitions is lawful, where the new ones are as events make them.
use Rattle.std.proofs.Common.{◌≡◌, ℕ, ◌<◌, List, [], ◌∷◌, ◌++◌, length, true, Option, Some, None, refl, sym, ap, ◌∙◌, subst, inl, inr}
use Rattle.std.specs.Prelude.{◌⊎◌, option_and_then}
use Rattle.std.proofs.lemmas.Bool.{eqb-true}
use Rattle.model_terms.specs.Cores.{Core, Cores, Reached, reached, Var, Const, If, Let, Mv, MvLet, StobjLet, WithLocal, MustBeEqual, Call, none, more, count}
use Rattle.model_terms.specs.Worlds.{World, Definition, Descriptor, Shape, Field, GeneratedFunction, definition, Primitive, Defined, Macro, Constant, Concrete, Generated, Abstract, OfAbstract, Named, Signed}
use Rattle.model_terms.specs.Worlds as worlds
use Rattle.model_terms.specs.Classes.{class_in, class_of, same_class, congruent}
use Rattle.model_terms.specs.Accessors.{ChildAccessor, accessor_to, accessor_in, child_accessor, held_in, descriptor_in}
use Rattle.model_stobjs.specs.Descriptors.{held_stobj}
use Rattle.model_eval_laws.specs.Agreement.{ReachedStands, Closed, AllClosed, AllReached, ShapeStands, FieldsStand, ClosedDefinition, StandsIn, IsClosedWorld}
use Rattle.model_accepted.specs.Threaded.{layout_of, Reaches, Suits}
use Rattle.model_lawful.specs.Growth.{Becomes, HasLawfulStobjs}
use Rattle.model_lawful.specs.Lawful.{IsReady, IsSigned}
use Rattle.model_lawful.proofs.SuitLemmas.{same_layout, same_held, suits_what_it_becomes}
use Rattle.model_lawful.proofs.LawfulLemmas.{lawful_worlds}
use Rattle.model_accepted.proofs.AcceptLemmas.{false_true}
use Rattle.model_expansion.specs.Expansion.{arity_of}
use Rattle.model_expansion_forms.specs.Nodes.{IsOwnCall}
use Rattle.model_expansion_forms.proofs.NodeLemmas.{each_wider}
use Rattle.model_expansion_forms.specs.Rows.{Takes, HasRowFunctions}
use Rattle.model_made.specs.Lawful.{IsWellMade, IsAdmitted, IsConcreteStobj, IsConcreteIfAny, FieldsAreConcrete, NestsIfAny, FieldsNest, IsLawfulWorld}
use Rattle.model_made.proofs.NestingLemmas.{concrete_at, nesting_still}
use Rattle.model_made.proofs.WorldLemmas.{definition_old, definition_is, becomes_more}
use Rattle.model_eval.specs.StobjLayouts.{most_nested}

-- ---- what stands, stands where more stands

module _ (P Q : ℕ → Type 0) (h : (x : ℕ) → P x → Q x) where
  reached_wider : (r : Option Reached) → ReachedStands P r → ReachedStands Q r
  reached_wider None k = tt
  reached_wider (Some by) k = h by.accessor k

  mutual
    pub closed_wider : (f : Core) → Closed P f → Closed Q f
    closed_wider (Var x) k = tt
    closed_wider (Const o) k = tt
    closed_wider (If a b c) k = (closed_wider a k.0, closed_wider b k.1, closed_wider c k.2)
    closed_wider (Let names forms body) k = (all_closed_wider forms k.0, closed_wider body k.1)
    closed_wider (Mv parts) k = all_closed_wider parts k
    closed_wider (MvLet names form body) k = (closed_wider form k.0, closed_wider body k.1)
    closed_wider (StobjLet names forms vars producer consumer) k = (all_reached_wider forms k.0, closed_wider producer k.1, closed_wider consumer k.2)
    closed_wider (WithLocal stobj names producer body) k = (h stobj k.0, closed_wider producer k.1, closed_wider body k.2)
    closed_wider (MustBeEqual logic exec) k = closed_wider logic k
    closed_wider (Call f actuals) k = (h f k.0, all_closed_wider actuals k.1)

    all_closed_wider : (fs : Cores) → AllClosed P fs → AllClosed Q fs
    all_closed_wider none k = tt
    all_closed_wider (more f fs) k = (closed_wider f k.0, all_closed_wider fs k.1)

    all_reached_wider : (fs : Cores) → AllReached P fs → AllReached Q fs
    all_reached_wider none k = tt
    all_reached_wider (more f fs) k = (reached_wider (reached f) k.0, all_reached_wider fs k.1)

  shape_wider : (s : Shape) → ShapeStands P s → ShapeStands Q s
  shape_wider (worlds.Scalar written initial) k = tt
  shape_wider (worlds.Array written initial length resizable) k = tt
  shape_wider (worlds.Hash test) k = tt
  shape_wider (worlds.Child stobj) k = h stobj k
  shape_wider (worlds.Children stobj length) k = h stobj k

  fields_wider : (fs : List Field) → FieldsStand P fs → FieldsStand Q fs
  fields_wider [] k = tt
  fields_wider (f ∷ fs) k = (shape_wider f.shape k.0, fields_wider fs k.1)

  pub definition_wider : (d : Definition) → ClosedDefinition P d → ClosedDefinition Q d
  definition_wider (Primitive name row) k = tt
  definition_wider (Defined f) k = (closed_wider f.guard k.0, closed_wider f.body k.1)
  definition_wider (Macro name formals body) k = tt
  definition_wider (Constant name value) k = tt
  definition_wider (Concrete d class) k = fields_wider d.fields k
  definition_wider (Generated g) k = h g.stobj k
  definition_wider (Abstract d) k = h d.foundation k
  definition_wider (OfAbstract f) k = (closed_wider f.guard k.0, h f.exec k.1)
  definition_wider (Named name formals) k = tt
  definition_wider (Signed name formals signature executable) k = tt

-- ---- what new definitions are

pub record Brings (w new : World) : Type 0 where
  pub closed : (x : ℕ) (d : Definition) → definition w x ≡ None → definition new x ≡ Some d → ClosedDefinition (StandsIn (w ++ new)) d
  pub made : (x : ℕ) (d : Definition) → definition w x ≡ None → definition new x ≡ Some d → IsWellMade (w ++ new) d
  pub alike : (x k : ℕ) (d : Definition) → definition w x ≡ None → definition new x ≡ Some d → class_in d ≡ Some k → layout_of (w ++ new) x ≡ layout_of (w ++ new) k
  pub there : (x k : ℕ) (d : Definition) → definition w x ≡ None → definition new x ≡ Some d → class_in d ≡ Some k → StandsIn (w ++ new) k
  pub accessors : (x : ℕ) (d : Definition) (a : ChildAccessor) → definition w x ≡ None → definition new x ≡ Some d → accessor_in (w ++ new) d ≡ Some a → Reaches (w ++ new) x a
  pub children : (x class : ℕ) (d : Descriptor) → definition w x ≡ None → definition new x ≡ Some (Concrete d class) → FieldsAreConcrete (w ++ new) d.fields
  pub nested : (x class : ℕ) (d : Descriptor) → definition w x ≡ None → definition new x ≡ Some (Concrete d class) → FieldsNest (w ++ new) d.fields

some_of : {A : Type 0} {a b : A} → Some a ≡ Some b → a ≡ b
some_of e = cc

module _ (w new : World) (l : IsLawfulWorld w) where
  abbrev grown : World
  grown = w ++ new

  pub becomes : Becomes w grown
  becomes = becomes_more w new l.admitted

  pub suits : Suits w grown
  suits = suits_what_it_becomes.suits w grown l.lawful.closed l.lawful.stobjs becomes

  pub stands_still : (x : ℕ) → StandsIn w x → StandsIn grown x
  stands_still x s = (s.0, definition_old w new x s.0 s.1)

  pub layout_still : (x : ℕ) → StandsIn w x → layout_of grown x ≡ layout_of w x
  layout_still x s = same_layout w grown l.lawful.closed becomes x s

  pub takes_still : (f n : ℕ) → Takes w f n → Takes grown f n
  takes_still f n h = go (definition w f) refl h
    where
      go : (d : Option Definition) → definition w f ≡ d → arity_of d ≡ Some n → Takes grown f n
      go None e k = cc
      go (Some d) e k = ap arity_of (definition_old w new f d e) ∙ k

  own_call_still : (f : Core) → IsOwnCall w f → IsOwnCall grown f
  own_call_still (Var x) h = tt
  own_call_still (Const o) h = tt
  own_call_still (If a b c) h = tt
  own_call_still (Let names bound body) h = tt
  own_call_still (Mv parts) h = tt
  own_call_still (MvLet names bound body) h = tt
  own_call_still (StobjLet names bound vars producer consumer) h = tt
  own_call_still (WithLocal stobj names producer body) h = tt
  own_call_still (MustBeEqual logic exec) h = tt
  own_call_still (Call f actuals) h = takes_still f (count actuals) h

  well_made_still : (d : Definition) → IsWellMade w d → IsWellMade grown d
  well_made_still (Primitive name row) h = tt
  well_made_still (Defined f) h = (h.0, h.1, each_wider (IsOwnCall w) (IsOwnCall grown) own_call_still f.guard h.2, h.3)
  well_made_still (Macro name formals body) h = tt
  well_made_still (Constant name value) h = tt
  well_made_still (Concrete d class) h = tt
  well_made_still (Generated g) h = h
  well_made_still (Abstract d) h = tt
  well_made_still (OfAbstract f) h = (h.0, h.1, (h.2.0, definition_old w new f.stobj (Abstract h.2.0) h.2.1), h.3)
  well_made_still (Named name formals) h = h
  well_made_still (Signed name formals signature executable) h = h

  pub concrete_still : (x : ℕ) → IsConcreteStobj w x → IsConcreteStobj grown x
  concrete_still x h = go (definition w x) refl h.1
    where
      go : (d : Option Definition) → definition w x ≡ d → option_and_then descriptor_in d ≡ Some h.0 → IsConcreteStobj grown x
      go None e f = cc
      go (Some d) e f = (h.0, ap (option_and_then descriptor_in) (definition_old w new x d e) ∙ f)

  pub fields_still : (fs : List Field) → FieldsAreConcrete w fs → FieldsAreConcrete grown fs
  fields_still [] h = tt
  fields_still (f ∷ fs) h = (go (held_stobj f.shape) h.0, fields_still fs h.1)
    where
      go : (v : Option ℕ) → IsConcreteIfAny w v → IsConcreteIfAny grown v
      go None k = tt
      go (Some x) k = concrete_still x k

  pub functions_still : HasRowFunctions grown
  functions_still =
      let f = l.functions in
      record {
        first = takes_still _ _ f.first;
        others = takes_still _ _ f.others;
        pair = takes_still _ _ f.pair;
        negation = takes_still _ _ f.negation;
        below = takes_still _ _ f.below;
        minus = takes_still _ _ f.minus;
        plus = takes_still _ _ f.plus;
        times = takes_still _ _ f.times;
        bits_of_both = takes_still _ _ f.bits_of_both;
        bits_of_either = takes_still _ _ f.bits_of_either;
        bits_of_one = takes_still _ _ f.bits_of_one;
        joined = takes_still _ _ f.joined;
        member = takes_still _ _ f.member;
        entry = takes_still _ _ f.entry;
        union = takes_still _ _ f.union;
        checked = takes_still _ _ f.checked;
      }

  not_signed : (d : Definition) → IsAdmitted d → IsSigned d → ⊥
  not_signed (Primitive name row) a s = absurd s
  not_signed (Defined f) a s = absurd s
  not_signed (Macro name formals body) a s = absurd s
  not_signed (Constant name value) a s = absurd s
  not_signed (Concrete d class) a s = absurd s
  not_signed (Generated g) a s = absurd s
  not_signed (Abstract d) a s = absurd s
  not_signed (OfAbstract f) a s = absurd s
  not_signed (Named name formals) a s = absurd s
  not_signed (Signed name formals signature executable) a s = absurd a

  module _ (b : Brings w new) where
    -- what holds of old definitions and of new ones holds of all
    all_definitions : (P : ℕ → Definition → Type 0) → ((x : ℕ) (d : Definition) → definition w x ≡ Some d → P x d)
        → ((x : ℕ) (d : Definition) → definition w x ≡ None → definition new x ≡ Some d → P x d) → (x : ℕ) (d : Definition) → definition grown x ≡ Some d → P x d
    all_definitions P old newer x d e = go (definition_is w new x d e)
      where
        go : (definition w x ≡ Some d) ⊎ ((definition w x ≡ None) × (definition new x ≡ Some d)) → P x d
        go (inl f) = old x d f
        go (inr f) = newer x d f.0 f.1

    pub closed_grown : IsClosedWorld grown
    closed_grown = record {
      definitions = all_definitions (λ x d. ClosedDefinition (StandsIn grown) d) (λ x d e. definition_wider (StandsIn w) (StandsIn grown) stands_still d (l.lawful.closed.definitions x d e)) b.closed;
    }

    -- ---- classes

    abbrev IsAlike : ℕ → Definition → Type 0
    IsAlike x d = (k : ℕ) → class_in d ≡ Some k → (layout_of grown x ≡ layout_of grown k) × StandsIn grown k

    old_alike : (x : ℕ) (d : Definition) → definition w x ≡ Some d → IsAlike x d
    old_alike x d e k f =
        let class : class_of w x ≡ Some k = ap (option_and_then class_in) e ∙ f in
        let there = l.classes.there x k class in
        (layout_still x (d, e) ∙ (l.classes.alike x k class ∙ sym (layout_still k there)), stands_still k there)

    all_alike : (x k : ℕ) → class_of grown x ≡ Some k → (layout_of grown x ≡ layout_of grown k) × StandsIn grown k
    all_alike x k e = go (definition grown x) refl e
      where
        go : (d : Option Definition) → definition grown x ≡ d → option_and_then class_in d ≡ Some k → (layout_of grown x ≡ layout_of grown k) × StandsIn grown k
        go None f g = cc
        go (Some d) f g = all_definitions IsAlike old_alike (λ y c n m i j. (b.alike y i c n m j, b.there y i c n m j)) x d f k g

    congruent_alike : (x y : ℕ) → congruent grown x y ≡ true → layout_of grown x ≡ layout_of grown y
    congruent_alike x y e = go (class_of grown x) refl (class_of grown y) refl e
      where
        go : (p : Option ℕ) → class_of grown x ≡ p → (q : Option ℕ) → class_of grown y ≡ q → same_class p q ≡ true → layout_of grown x ≡ layout_of grown y
        go None f q g h = false_true h
        go (Some p) f None g h = false_true h
        go (Some p) f (Some q) g h = (all_alike x p f).0 ∙ (ap (layout_of grown) (eqb-true p q h) ∙ sym (all_alike y q g).0)

    -- ---- accessors

    old_accessor : (x : ℕ) (d : Definition) → definition w x ≡ Some d → (a : ChildAccessor) → accessor_in grown d ≡ Some a → Reaches grown x a
    old_accessor x (Primitive name row) e a f = cc
    old_accessor x (Defined g) e a f = cc
    old_accessor x (Macro name formals body) e a f = cc
    old_accessor x (Constant name value) e a f = cc
    old_accessor x (Concrete d class) e a f = cc
    old_accessor x (Generated g) e a f =
        let held : held_in grown g ≡ held_in w g = same_held w grown l.lawful.closed becomes g (l.lawful.closed.definitions x (Generated g) e) in
        suits.accessors x a (ap (option_and_then (accessor_in w)) e ∙ (ap (accessor_to g g.role g.field) (sym held) ∙ f))
    old_accessor x (Abstract d) e a f = cc
    old_accessor x (OfAbstract g) e a f = cc
    old_accessor x (Named name formals) e a f = cc
    old_accessor x (Signed name formals signature executable) e a f = cc

    all_accessors : (x : ℕ) (a : ChildAccessor) → child_accessor grown x ≡ Some a → Reaches grown x a
    all_accessors x a e = go (definition grown x) refl e
      where
        go : (d : Option Definition) → definition grown x ≡ d → option_and_then (accessor_in grown) d ≡ Some a → Reaches grown x a
        go None f g = cc
        go (Some d) f g = all_definitions (λ y c. (a : ChildAccessor) → accessor_in grown c ≡ Some a → Reaches grown y a) old_accessor (λ y c n m i j. b.accessors y c i n m j) x d f a g

    -- ---- all

    abbrev HasConcreteFields : Definition → Type 0
    HasConcreteFields (Concrete d class) = FieldsAreConcrete grown d.fields
    HasConcreteFields d = Unit {0}

    old_fields : (x : ℕ) (d : Definition) → definition w x ≡ Some d → HasConcreteFields d
    old_fields x (Primitive name row) e = tt
    old_fields x (Defined f) e = tt
    old_fields x (Macro name formals body) e = tt
    old_fields x (Constant name value) e = tt
    old_fields x (Concrete d class) e = fields_still d.fields (l.children x class d e)
    old_fields x (Generated g) e = tt
    old_fields x (Abstract d) e = tt
    old_fields x (OfAbstract f) e = tt
    old_fields x (Named name formals) e = tt
    old_fields x (Signed name formals signature executable) e = tt

    new_fields : (x : ℕ) (d : Definition) → definition w x ≡ None → definition new x ≡ Some d → HasConcreteFields d
    new_fields x (Primitive name row) n e = tt
    new_fields x (Defined f) n e = tt
    new_fields x (Macro name formals body) n e = tt
    new_fields x (Constant name value) n e = tt
    new_fields x (Concrete d class) n e = b.children x class d n e
    new_fields x (Generated g) n e = tt
    new_fields x (Abstract d) n e = tt
    new_fields x (OfAbstract f) n e = tt
    new_fields x (Named name formals) n e = tt
    new_fields x (Signed name formals signature executable) n e = tt

    pub objects_grown : HasLawfulStobjs grown
    objects_grown = record { layouts = congruent_alike; accessors = all_accessors }

    pub made_grown : (x : ℕ) (d : Definition) → definition grown x ≡ Some d → IsWellMade grown d
    made_grown = all_definitions (λ x d. IsWellMade grown d) (λ x d e. well_made_still d (l.made x d e)) b.made

    -- ---- nesting

    abbrev FieldsNestStill : Definition → Type 0
    FieldsNestStill (Concrete d class) = FieldsNest grown d.fields
    FieldsNestStill d = Unit {0}

    nest_still : (fs : List Field) → FieldsAreConcrete w fs → FieldsNest w fs → FieldsNest grown fs
    nest_still [] h k = tt
    nest_still (f ∷ fs) h k = (go (held_stobj f.shape) h.0 k.0, nest_still fs h.1 k.1)
      where
        go : (v : Option ℕ) → IsConcreteIfAny w v → NestsIfAny w v → NestsIfAny grown v
        go None i n = tt
        go (Some x) i n =
            let at = concrete_at w x i in
            subst (λ (m : ℕ). m < most_nested) (sym (nesting_still w grown l.lawful.closed (definition_old w new) most_nested x (Concrete at.descriptor at.class, at.there))) n

    old_nest : (x : ℕ) (d : Definition) → definition w x ≡ Some d → FieldsNestStill d
    old_nest x (Primitive name row) e = tt
    old_nest x (Defined f) e = tt
    old_nest x (Macro name formals body) e = tt
    old_nest x (Constant name value) e = tt
    old_nest x (Concrete d class) e = nest_still d.fields (l.children x class d e) (l.nested x class d e)
    old_nest x (Generated g) e = tt
    old_nest x (Abstract d) e = tt
    old_nest x (OfAbstract f) e = tt
    old_nest x (Named name formals) e = tt
    old_nest x (Signed name formals signature executable) e = tt

    new_nest : (x : ℕ) (d : Definition) → definition w x ≡ None → definition new x ≡ Some d → FieldsNestStill d
    new_nest x (Primitive name row) n e = tt
    new_nest x (Defined f) n e = tt
    new_nest x (Macro name formals body) n e = tt
    new_nest x (Constant name value) n e = tt
    new_nest x (Concrete d class) n e = b.nested x class d n e
    new_nest x (Generated g) n e = tt
    new_nest x (Abstract d) n e = tt
    new_nest x (OfAbstract f) n e = tt
    new_nest x (Named name formals) n e = tt
    new_nest x (Signed name formals signature executable) n e = tt

    pub grows : ((x : ℕ) (d : Definition) → definition w x ≡ None → definition new x ≡ Some d → IsReady grown d)
        → ((x : ℕ) (d : Definition) → definition w x ≡ None → definition new x ≡ Some d → IsAdmitted d) → IsLawfulWorld grown
    grows ready admitted = record {
      lawful = record {
        closed = closed_grown;
        stobjs = objects_grown;
        each = all_definitions (λ x d. IsReady grown d) (λ x d e. lawful_worlds.kept w grown l.lawful becomes x d e (not_signed d (l.admitted x d e))) ready;
      };
      classes = record { alike = λ x k e. (all_alike x k e).0; there = λ x k e. (all_alike x k e).1 };
      children = λ x class d e. all_definitions (λ y c. HasConcreteFields c) old_fields new_fields x (Concrete d class) e;
      nested = λ x class d e. all_definitions (λ y c. FieldsNestStill c) old_nest new_nest x (Concrete d class) e;
      functions = functions_still;
      made = made_grown;
      admitted = all_definitions (λ x d. IsAdmitted d) l.admitted admitted;
    }
