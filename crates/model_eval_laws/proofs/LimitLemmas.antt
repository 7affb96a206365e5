-- The rules of checked evaluation grow with their limits and worlds.
use Rattle.std.proofs.Common.{◌≡◌, ℕ, zero, suc, ◌≤◌, List, [], ◌∷◌, Bool, true, false, Option, Some, None, refl, sym, ap, ◌∙◌, arith, inl, inr}
use Rattle.std.specs.Prelude.{nat_lt, if◌then◌else◌, ◌⊎◌}
use Rattle.std.proofs.lemmas.Bool.Decides.{nat_tests}
use Rattle.model_objects.specs.Object.{Object}
use Rattle.model_symbols.specs.Symbols.{Package}
use Rattle.model_lists.specs.Layouts.{Layout}
use Rattle.model_lists.specs.Layouts as layout
use Rattle.model_terms.specs.Cores.{Core, Cores, Reached, Var, Const, If, Let, Mv, MvLet, StobjLet, WithLocal, MustBeEqual, Call, none, more, reached}
use Rattle.model_terms.specs.Worlds.{World, Definition, Shape, Field, FunctionOfAbstract, definition, Primitive, Defined, Macro, Constant, Concrete, Generated, Abstract, OfAbstract, Named, Signed}
use Rattle.model_terms.specs.Worlds as worlds
use Rattle.model_eval.specs.Outcomes.{Shown, Stop, Steps, State, Outcome, Gives, Stops, Unknown, one_more_call, stops_here, Stobjs}
use Rattle.model_eval.specs.Variables.{Variables}
use Rattle.model_eval.specs.StobjLayouts.{stobj_layout, layout_within, shape_layout, fields_layout, defined_layout, most_nested}
use Rattle.model_eval.specs.Checked.{checked, checked_rules, checked_export, inside_after}
use Rattle.model_eval.specs.ListsKeeping.{lists_keeping}
use Rattle.model_eval_laws.specs.Agreement.{Agrees, ReachedStands, Closed, AllClosed, AllReached, ShapeStands, FieldsStand, ClosedDefinition, StandsIn, IsClosedWorld, HasGrown}
use Rattle.model_eval_laws.specs.Laws.{IsSteps, IsDepth, AgreesUntilLimit, KeepsOutcomes}
use Rattle.model_eval_laws.proofs.Agree.{Grows, agrees_evaluated, agrees_deeper}

-- ---- where every name stands

abbrev pub Always : ℕ → Type 0
Always x = Unit {0}

reached_always : (by : Option Reached) → ReachedStands Always by
reached_always None = tt
reached_always (Some by) = tt

mutual
  pub closed_always : (form : Core) → Closed Always form
  closed_always (Var x) = tt
  closed_always (Const o) = tt
  closed_always (If a b c) = (closed_always a, closed_always b, closed_always c)
  closed_always (Let names forms body) = (all_closed_always forms, closed_always body)
  closed_always (Mv parts) = all_closed_always parts
  closed_always (MvLet names form body) = (closed_always form, closed_always body)
  closed_always (StobjLet names forms vars producer consumer) = (all_reached_always forms, closed_always producer, closed_always consumer)
  closed_always (WithLocal stobj names producer body) = (tt, closed_always producer, closed_always body)
  closed_always (MustBeEqual logic exec) = closed_always logic
  closed_always (Call f actuals) = (tt, all_closed_always actuals)

  all_closed_always : (forms : Cores) → AllClosed Always forms
  all_closed_always none = tt
  all_closed_always (more form forms) = (closed_always form, all_closed_always forms)

  all_reached_always : (forms : Cores) → AllReached Always forms
  all_reached_always none = tt
  all_reached_always (more form forms) = (reached_always (reached form), all_reached_always forms)

shape_always : (s : Shape) → ShapeStands Always s
shape_always (worlds.Scalar written initial) = tt
shape_always (worlds.Array written initial length resizable) = tt
shape_always (worlds.Hash test) = tt
shape_always (worlds.Child stobj) = tt
shape_always (worlds.Children stobj length) = tt

fields_always : (fs : List Field) → FieldsStand Always fs
fields_always [] = tt
fields_always (f ∷ fs) = (shape_always f.shape, fields_always fs)

pub defined_always : (d : Definition) → ClosedDefinition Always d
defined_always (Primitive name row) = tt
defined_always (Defined f) = (closed_always f.guard, closed_always f.body)
defined_always (Macro name formals body) = tt
defined_always (Constant name value) = tt
defined_always (Concrete d class) = fields_always d.fields
defined_always (Generated g) = tt
defined_always (Abstract d) = tt
defined_always (OfAbstract f) = (closed_always f.guard, tt)
defined_always (Named name formals) = tt
defined_always (Signed name formals signature executable) = tt

-- ---- exports of checked evaluation

module _ (Excused : Stop ℕ → Type 0) where
  agrees_inside : (actuals : List (Shown ℕ)) (before : Stobjs ℕ) (x outer : ℕ) (r s : Outcome ℕ) → Agrees Excused r s → Agrees Excused (inside_after lists_keeping actuals before x outer r) (inside_after lists_keeping actuals before x outer s)
  agrees_inside actuals before x outer (Gives values state) s e = ap (inside_after lists_keeping actuals before x outer) e
  agrees_inside actuals before x outer (Stops stop origin state) s (inl y) = inl y
  agrees_inside actuals before x outer (Stops stop origin state) s (inr e) = inr (ap (inside_after lists_keeping actuals before x outer) e)
  agrees_inside actuals before x outer Unknown s e = ap (inside_after lists_keeping actuals before x outer) e

  module _ (k l : ℕ) (counted : (n : ℕ) → nat_lt n k ≡ true → nat_lt n l ≡ true) (uncounted : (n : ℕ) → nat_lt n k ≡ false → Excused Steps ⊎ (nat_lt n l ≡ false)) where
    agrees_export : (f : FunctionOfAbstract) (values : List (Shown ℕ)) (before : Stobjs ℕ) (go to : State ℕ → Outcome ℕ) → ((state : State ℕ) → Agrees Excused (go state) (to state)) → (state : State ℕ) → Agrees Excused (checked_export lists_keeping k f values before go state) (checked_export lists_keeping l f values before to state)
    agrees_export f values before go to h state = by_test (nat_lt state.calls k) refl
      where
        stopped : Excused Steps ⊎ (nat_lt state.calls l ≡ false) → Agrees Excused (stops_here Steps state) (checked_export lists_keeping l f values before to state)
        stopped (inl x) = inl x
        stopped (inr e) = inr (rw e refl)

        by_test : (b : Bool) → nat_lt state.calls k ≡ b → Agrees Excused (if b then inside_after lists_keeping values before f.name state.outer (go (one_more_call state)) else stops_here Steps state) (checked_export lists_keeping l f values before to state)
        by_test true e = rw (counted state.calls e) (agrees_inside values before f.name state.outer _ _ (h (one_more_call state)))
        by_test false e = stopped (uncounted state.calls e)

-- ---- limits

pub below_larger : (n k l : ℕ) → k ≤ l → nat_lt n k ≡ true → nat_lt n l ≡ true
below_larger n k l h e = grind (arith, nat_tests)

-- one world, and a limit of calls that may be larger
checked_grows : (Excused : Stop ℕ → Type 0) (w : World) (packages : List Package) (k l : ℕ) → k ≤ l → ((n : ℕ) → nat_lt n k ≡ false → Excused Steps ⊎ (nat_lt n l ≡ false)) → Grows Excused (checked_rules w packages k) w l (checked_rules w packages l).fresh (checked_export lists_keeping l) Always
checked_grows Excused w packages k l h u = record {
  definitions = λ x s. refl;
  closed = λ x d s e. defined_always d;
  layouts = λ x s. refl;
  freshly = λ x s. refl;
  exports = agrees_export Excused k l (λ n e. below_larger n k l h e) u;
  counted = λ n e. below_larger n k l h e;
  uncounted = u;
}

pub agrees_until_limit : AgreesUntilLimit
agrees_until_limit = record {
  steps = λ w packages k l d form variables state h. agrees_evaluated IsSteps (checked_rules w packages k) w l _ _ Always (checked_grows IsSteps w packages k l h (λ n e. inl tt)) d form variables state (closed_always form);
  depth = λ w packages k d e form variables state h. agrees_deeper IsDepth (checked_rules w packages k) w k _ _ Always (checked_grows IsDepth w packages k k (omega arith) (λ n e. inr e)) tt d e h form variables state (closed_always form);
}

-- ---- worlds

module _ (old new : World) (c : IsClosedWorld old) (g : HasGrown old new) where
  same_definition : (x : ℕ) → StandsIn old x → definition new x ≡ definition old x
  same_definition x s = g.same x s.0 s.1 ∙ sym s.1

  module _ {S : Type 0} (see : Object ℕ → Object S) (one other : ℕ → Layout S) (same : (x : ℕ) → StandsIn old x → one x ≡ other x) where
    same_shape : (s : Shape) → ShapeStands (StandsIn old) s → shape_layout see one s ≡ shape_layout see other s
    same_shape (worlds.Scalar written initial) h = refl
    same_shape (worlds.Array written initial length resizable) h = refl
    same_shape (worlds.Hash test) h = refl
    same_shape (worlds.Child stobj) h = same stobj h
    same_shape (worlds.Children stobj length) h = ap (layout.Children length) (same stobj h)

    same_fields : (fs : List Field) → FieldsStand (StandsIn old) fs → fields_layout see one fs ≡ fields_layout see other fs
    same_fields [] h = refl
    same_fields (f ∷ fs) h = rw (same_shape f.shape h.0, same_fields fs h.1) refl

    same_defined : (d : Definition) → ClosedDefinition (StandsIn old) d → defined_layout see one (Some d) ≡ defined_layout see other (Some d)
    same_defined (Primitive name row) h = refl
    same_defined (Defined f) h = refl
    same_defined (Macro name formals body) h = refl
    same_defined (Constant name value) h = refl
    same_defined (Concrete d class) h = same_fields d.fields h
    same_defined (Generated f) h = refl
    same_defined (Abstract d) h = same d.foundation h
    same_defined (OfAbstract f) h = refl
    same_defined (Named name formals) h = refl
    same_defined (Signed name formals signature executable) h = refl

  same_within : {S : Type 0} (see : Object ℕ → Object S) (n x : ℕ) → StandsIn old x → layout_within see new n x ≡ layout_within see old n x
  unfolding layout_within
  same_within see zero x s = refl
  same_within see (suc n) x s =
      rw (g.same x s.0 s.1, s.1) (same_defined see (layout_within see new n) (layout_within see old n) (same_within see n) s.0 (c.definitions x s.0 s.1))

  same_layout : {S : Type 0} (see : Object ℕ → Object S) (x : ℕ) → StandsIn old x → stobj_layout see new x ≡ stobj_layout see old x
  same_layout see x s = same_within see (suc most_nested) x s

  abbrev Nothing : Stop ℕ → Type 0
  Nothing stop = ⊥

  world_grows : (packages : List Package) (k : ℕ) → Grows Nothing (checked_rules old packages k) new k (checked_rules new packages k).fresh (checked_export lists_keeping k) (StandsIn old)
  world_grows packages k = record {
    definitions = same_definition;
    closed = λ x d s e. c.definitions x d e;
    layouts = same_layout (λ o. o);
    freshly = λ x s. ap (λ (l : Layout ℕ). Some (layout.initial l)) (same_layout (λ o. o) x s);
    exports = agrees_export Nothing k k (λ n e. e) (λ n e. inr e);
    counted = λ n e. e;
    uncounted = λ n e. inr e;
  }

  agrees_is_same : (r s : Outcome ℕ) → Agrees Nothing r s → s ≡ r
  agrees_is_same (Gives values state) s e = e
  agrees_is_same (Stops stop origin state) s (inl x) = absurd x
  agrees_is_same (Stops stop origin state) s (inr e) = e
  agrees_is_same Unknown s e = e

  same_outcome : (packages : List Package) (k d : ℕ) (form : Core) (variables : Variables ℕ) (state : State ℕ) → Closed (StandsIn old) form → checked new packages k d form variables state ≡ checked old packages k d form variables state
  same_outcome packages k d form variables state h =
      agrees_is_same _ _ (agrees_evaluated Nothing (checked_rules old packages k) new k _ _ (StandsIn old) (world_grows packages k) d form variables state h)

pub keeps_outcomes : KeepsOutcomes
keeps_outcomes = record { same = same_outcome }
