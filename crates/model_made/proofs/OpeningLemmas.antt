-- The session that every run begins with is lawful.
use Rattle.std.proofs.Common.{◌≡◌, ℕ, List, [], ◌∷◌, ◌++◌, true, Option, Some, None, refl, sym, ap, ◌∙◌}
use Rattle.std.specs.Prelude.{option_and_then}
use Rattle.model_prims.specs.Rows.{Row, table}
use Rattle.model_terms.specs.Worlds.{World, Definition, definition, Primitive, Defined, Macro, Constant, Concrete, Generated, Abstract, OfAbstract, Named, Signed}
use Rattle.model_terms.specs.Classes.{class_in, class_of, same_class, congruent}
use Rattle.model_terms.specs.Accessors.{accessor_in, child_accessor}
use Rattle.model_eval_laws.specs.Agreement.{ClosedDefinition, StandsIn}
use Rattle.model_accepted.specs.Threaded.{layout_of}
use Rattle.model_lawful.specs.Lawful.{IsReady}
use Rattle.model_accepted.proofs.AcceptLemmas.{false_true}
use Rattle.model_expansion_forms.specs.Rows.{HasRowFunctions}
use Rattle.model_books.specs.Opening.{primitive_numbers, primitives_named, opening_constants, opening_world, opening_session}
use Rattle.model_made.specs.Lawful.{IsWellMade, IsAdmitted, stobj_names, IsLawfulWorld, IsLawfulSession}
use Rattle.model_made.specs.Laws.{OpeningIsLawful}
use Rattle.model_made.proofs.WorldLemmas.{EachDefinition, each_found}

-- primitives, macros and constants ask nothing
abbrev pub IsPlain : Definition → Type 0
IsPlain (Primitive name row) = Unit {0}
IsPlain (Macro name formals body) = Unit {0}
IsPlain (Constant name value) = Unit {0}
IsPlain d = ⊥

plain_primitives : (ns : List ℕ) (rows : List Row) (w : World) → EachDefinition IsPlain w → EachDefinition IsPlain (primitives_named ns rows ++ w)
plain_primitives [] rows w h = h
plain_primitives (n ∷ ns) [] w h = h
plain_primitives (n ∷ ns) (r ∷ rs) w h = (tt, plain_primitives ns rs w h)

plain_opening : EachDefinition IsPlain opening_world
unfolding opening_world
plain_opening = plain_primitives primitive_numbers table opening_constants (tt, (tt, tt))

module _ (w : World) where
  pub plain_closed : (d : Definition) → IsPlain d → ClosedDefinition (StandsIn w) d
  plain_closed (Primitive name row) h = tt
  plain_closed (Constant name value) h = tt
  plain_closed (Defined f) h = absurd h
  plain_closed (Macro name formals body) h = tt
  plain_closed (Concrete d class) h = absurd h
  plain_closed (Generated g) h = absurd h
  plain_closed (Abstract d) h = absurd h
  plain_closed (OfAbstract f) h = absurd h
  plain_closed (Named name formals) h = absurd h
  plain_closed (Signed name formals signature executable) h = absurd h

  pub plain_ready : (d : Definition) → IsPlain d → IsReady w d
  plain_ready (Primitive name row) h = tt
  plain_ready (Constant name value) h = tt
  plain_ready (Defined f) h = absurd h
  plain_ready (Macro name formals body) h = tt
  plain_ready (Concrete d class) h = absurd h
  plain_ready (Generated g) h = absurd h
  plain_ready (Abstract d) h = absurd h
  plain_ready (OfAbstract f) h = absurd h
  plain_ready (Named name formals) h = absurd h
  plain_ready (Signed name formals signature executable) h = absurd h

  pub plain_made : (d : Definition) → IsPlain d → IsWellMade w d
  plain_made (Primitive name row) h = tt
  plain_made (Constant name value) h = tt
  plain_made (Defined f) h = absurd h
  plain_made (Macro name formals body) h = tt
  plain_made (Concrete d class) h = absurd h
  plain_made (Generated g) h = absurd h
  plain_made (Abstract d) h = absurd h
  plain_made (OfAbstract f) h = absurd h
  plain_made (Named name formals) h = absurd h
  plain_made (Signed name formals signature executable) h = absurd h

pub plain_admitted : (d : Definition) → IsPlain d → IsAdmitted d
plain_admitted (Primitive name row) h = tt
plain_admitted (Constant name value) h = tt
plain_admitted (Defined f) h = tt
plain_admitted (Macro name formals body) h = tt
plain_admitted (Concrete d class) h = tt
plain_admitted (Generated g) h = tt
plain_admitted (Abstract d) h = tt
plain_admitted (OfAbstract f) h = tt
plain_admitted (Named name formals) h = h
plain_admitted (Signed name formals signature executable) h = h

pub plain_class : (d : Definition) → IsPlain d → class_in d ≡ None
plain_class (Primitive name row) h = refl
plain_class (Constant name value) h = refl
plain_class (Defined f) h = refl
plain_class (Macro name formals body) h = refl
plain_class (Concrete d class) h = absurd h
plain_class (Generated g) h = refl
plain_class (Abstract d) h = absurd h
plain_class (OfAbstract f) h = refl
plain_class (Named name formals) h = refl
plain_class (Signed name formals signature executable) h = refl

pub plain_accessor : (w : World) (d : Definition) → IsPlain d → accessor_in w d ≡ None
plain_accessor w (Primitive name row) h = refl
plain_accessor w (Constant name value) h = refl
plain_accessor w (Defined f) h = refl
plain_accessor w (Macro name formals body) h = refl
plain_accessor w (Concrete d class) h = refl
plain_accessor w (Generated g) h = absurd h
plain_accessor w (Abstract d) h = refl
plain_accessor w (OfAbstract f) h = refl
plain_accessor w (Named name formals) h = refl
plain_accessor w (Signed name formals signature executable) h = refl

pub plain_names : (w : World) → EachDefinition IsPlain w → stobj_names w ≡ []
plain_names [] h = refl
plain_names (Primitive name row ∷ w) h = plain_names w h.1
plain_names (Constant name value ∷ w) h = plain_names w h.1
plain_names (Defined f ∷ w) h = absurd h.0
plain_names (Macro name formals body ∷ w) h = plain_names w h.1
plain_names (Concrete d class ∷ w) h = absurd h.0
plain_names (Generated g ∷ w) h = absurd h.0
plain_names (Abstract d ∷ w) h = absurd h.0
plain_names (OfAbstract f ∷ w) h = absurd h.0
plain_names (Named name formals ∷ w) h = absurd h.0
plain_names (Signed name formals signature executable ∷ w) h = absurd h.0

module _ (w : World) (plain : EachDefinition IsPlain w) (r : HasRowFunctions w) where
  is_plain : (x : ℕ) (d : Definition) → definition w x ≡ Some d → IsPlain d
  is_plain x d e = each_found IsPlain w plain x d e

  no_class : (x : ℕ) → class_of w x ≡ None
  no_class x = go (definition w x) refl
    where
      go : (d : Option Definition) → definition w x ≡ d → option_and_then class_in d ≡ None
      go None e = refl
      go (Some d) e = plain_class d (is_plain x d e)

  no_accessor : (x : ℕ) → child_accessor w x ≡ None
  no_accessor x = go (definition w x) refl
    where
      go : (d : Option Definition) → definition w x ≡ d → option_and_then (accessor_in w) d ≡ None
      go None e = refl
      go (Some d) e = plain_accessor w d (is_plain x d e)

  none_is : {A B : Type 0} {a : A} (v : Option A) → v ≡ None → v ≡ Some a → B
  none_is v e f = cc

  not_congruent : (x y : ℕ) → congruent w x y ≡ true → layout_of w x ≡ layout_of w y
  not_congruent x y e = false_true (ap (λ (a : Option ℕ). same_class a (class_of w y)) (sym (no_class x)) ∙ e)

  plain_lawful : IsLawfulWorld w
  plain_lawful = record {
    lawful = record {
      closed = record { definitions = λ x d e. plain_closed w d (is_plain x d e) };
      stobjs = record { layouts = not_congruent; accessors = λ x a e. none_is (child_accessor w x) (no_accessor x) e };
      each = λ x d e. plain_ready w d (is_plain x d e);
    };
    classes = record { alike = λ x k e. none_is (class_of w x) (no_class x) e; there = λ x k e. none_is (class_of w x) (no_class x) e };
    children = λ x class d e. absurd (is_plain x (Concrete d class) e);
    nested = λ x class d e. absurd (is_plain x (Concrete d class) e);
    functions = r;
    made = λ x d e. plain_made w d (is_plain x d e);
    admitted = λ x d e. plain_admitted d (is_plain x d e);
  }

opening_functions : HasRowFunctions opening_world
unfolding opening_world table
opening_functions = record {
  first = refl;
  others = refl;
  pair = refl;
  negation = refl;
  below = refl;
  minus = refl;
  plus = refl;
  times = refl;
  bits_of_both = refl;
  bits_of_either = refl;
  bits_of_one = refl;
  joined = refl;
  member = refl;
  entry = refl;
  union = refl;
  checked = refl;
}

pub opening_world_lawful : IsLawfulWorld opening_world
opening_world_lawful = plain_lawful opening_world plain_opening opening_functions

opening_session_lawful : IsLawfulSession opening_session
unfolding opening_session
opening_session_lawful = record {
  world = opening_world_lawful;
  live = sym (plain_names opening_world plain_opening);
  fits = record { each = λ x e. false_true e };
}

pub opening_is_lawful : OpeningIsLawful
opening_is_lawful = record { world = opening_world_lawful; session = opening_session_lawful }
