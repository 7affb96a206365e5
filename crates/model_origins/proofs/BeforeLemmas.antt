-- What was found in a world that became this one is found however it grows.
use Rattle.std.specs.Prelude.{◌≡◌, ◌⊎◌, ℕ, List, ◌++◌, map, length, true, None, Some}
use Rattle.std.specs.List.{AllByRecursion}
use Rattle.std.proofs.Common.{sym, subst, inl, inr}
use Rattle.model_terms.specs.declared.role.AbstractRole.TheVariants as abstract_role
use Rattle.model_terms.specs.Cores.{Core}
use Rattle.model_terms.specs.Worlds.{World, Definition, Function, FunctionOfAbstract, MacroFormals, Out, definition, Primitive, Defined, Macro, Constant, Concrete, Generated, Abstract, OfAbstract, Named, Signed}
use Rattle.model_terms.specs.Faults.{formal_names, macro_fault}
use Rattle.model_accepted.specs.Threaded.{Suits}
use Rattle.model_lawful.specs.Growth.{IsSettled, Becomes}
use Rattle.model_lawful.proofs.SuitLemmas.{suits_what_it_becomes}
use Rattle.model_slots.specs.Trees.{Tree}
use Rattle.model_slots.specs.Environments.{formal_environment}
use Rattle.model_slots.specs.Resolved.{resolved}
use Rattle.model_slots.proofs.WorldLemmas.{keeps_numbers}
use Rattle.model_window.specs.Stands.{Origins}
use Rattle.model_fitting.specs.Steps.{WasAccepted, AreOrigins}
use Rattle.model_expansion_forms.specs.Nodes.{IsWellCalled}
use Rattle.model_events.specs.Functions.{Candidate, signatures, defined}
use Rattle.model_made.specs.Lawful.{IsLawfulWorld}
use Rattle.model_made.proofs.WorldLemmas.{settled, becomes_more}
use Rattle.model_origins.specs.Plain.{IsPlain}
use Rattle.model_origins.specs.Going.{GoOn, HaveElse}
use Rattle.model_origins.specs.Before.{IsBefore, AreBefore, HadBody, HasNoCode}
use Rattle.model_origins.specs.Admitted.{AreAdmitted, checking_world, world_with}
use Rattle.model_origins.specs.Laws.{WorldsBeforeStay}
use Rattle.model_origins.proofs.PlainLemmas.{each_found, definition_is}
use Rattle.model_origins.proofs.BeginLemmas.{body_here}
use Rattle.model_origins.proofs.FunctionLemmas.{before_after}

-- ---- what becomes of what a world became

settled_later : (w new : World) (b : Becomes w new) (x : ℕ) (d : Definition) → IsSettled w x d → IsSettled new x d
settled_later w new b x (Primitive name row) h = b.each x (Primitive name row) h
settled_later w new b x (Defined f) h = b.each x (Defined f) h
settled_later w new b x (Macro name formals body) h = b.each x (Macro name formals body) h
settled_later w new b x (Constant name value) h = b.each x (Constant name value) h
settled_later w new b x (Concrete d class) h = b.each x (Concrete d class) h
settled_later w new b x (Generated g) h = b.each x (Generated g) h
settled_later w new b x (Abstract d) h = b.each x (Abstract d) h
settled_later w new b x (OfAbstract f) h = b.each x (OfAbstract f) h
settled_later w new b x (Named name formals) h = b.each x (Named name formals) h
settled_later w new b x (Signed name formals signature executable) h = (h.0, b.each x (Defined h.0) h.1, h.2, h.3)

suits : (c w : World) → IsBefore c w → Suits c w
suits c w b = suits_what_it_becomes.suits c w b.closed b.stobjs b.becomes

before_itself : (w : World) → IsLawfulWorld w → IsBefore w w
before_itself w l = record { closed = l.lawful.closed; stobjs = l.lawful.stobjs; becomes = record { each = λ x d e. settled w x d (l.admitted x d e) e } }

module _ (w new : World) (l : IsLawfulWorld w) where
  abbrev grown : World
  grown = w ++ new

  later : (c : World) → IsBefore c w → IsBefore c grown
  later c b = record {
    closed = b.closed;
    stobjs = b.stobjs;
    becomes = record { each = λ x d e. settled_later w grown (becomes_more w new l.admitted) x d (b.becomes.each x d e) };
  }

  body_later : (formals : MacroFormals) (body : Core) (tree : Tree) → HadBody w formals body tree → HadBody grown formals body tree
  body_later formals body tree h =
      let b = later h.has.world h.before in
      record {
        has = record {
          world = h.has.world;
          suits = suits h.has.world grown b;
          earlier = record { number = λ f n e. keeps_numbers.number w new f n (h.has.earlier.number f n e) };
          formed = h.has.formed;
          accepted = h.has.accepted;
          is = h.has.is;
        };
        before = b;
      }

  macro_body : (formals : MacroFormals) (body : Core) (tree : Tree) → IsWellCalled w body → macro_fault w formals body ≡ None
      → resolved w (formal_environment (formal_names formals)) (length (formal_names formals)) body ≡ Some tree → HadBody grown formals body tree
  macro_body formals body tree called accepted is = body_later formals body tree (record { has = body_here w l formals body tree called accepted is; before = before_itself w l })

  -- ---- functions

  module _ (origins next : Origins) (on : GoOn w origins next) (before : AreBefore w origins) where
    old_guard : (x : ℕ) (f : Function) → definition w x ≡ Some (Defined f) → f.executable ≡ true → IsBefore (next.guard x) grown
    old_guard x f e run = subst (λ (c : World). IsBefore c grown) (sym (on.guard x (Defined f) e)) (later (origins.guard x) (before.guard x f e run))

    old_body : (x : ℕ) (f : Function) → definition w x ≡ Some (Defined f) → f.executable ≡ true → IsBefore (next.body x) grown
    old_body x f e run = subst (λ (c : World). IsBefore c grown) (sym (on.body x (Defined f) e)) (later (origins.body x) (before.body x f e run))

    old_export : (x : ℕ) (f : FunctionOfAbstract) → definition w x ≡ Some (OfAbstract f) → f.role ≡ abstract_role.Export → IsBefore (next.guard x) grown
    old_export x f e r = subst (λ (c : World). IsBefore c grown) (sym (on.guard x (OfAbstract f) e)) (later (origins.guard x) (before.export x f e r))

  module _ (plain : AllByRecursion HasNoCode new) where
    no_function : (x : ℕ) (f : Function) → definition new x ≡ Some (Defined f) → ⊥
    no_function x f e = each_found HasNoCode new plain x (Defined f) e

    no_export : (x : ℕ) (f : FunctionOfAbstract) → definition new x ≡ Some (OfAbstract f) → ⊥
    no_export x f e = each_found HasNoCode new plain x (OfAbstract f) e

    -- a function stood before
    function_old : (x : ℕ) (f : Function) → definition grown x ≡ Some (Defined f) → definition w x ≡ Some (Defined f)
    function_old x f e = go (definition_is w new x (Defined f) e)
      where
        go : (definition w x ≡ Some (Defined f)) ⊎ ((definition w x ≡ None) × (definition new x ≡ Some (Defined f))) → definition w x ≡ Some (Defined f)
        go (inl i) = i
        go (inr i) = absurd (no_function x f i.1)

    export_old : (x : ℕ) (f : FunctionOfAbstract) → definition grown x ≡ Some (OfAbstract f) → definition w x ≡ Some (OfAbstract f)
    export_old x f e = go (definition_is w new x (OfAbstract f) e)
      where
        go : (definition w x ≡ Some (OfAbstract f)) ⊎ ((definition w x ≡ None) × (definition new x ≡ Some (OfAbstract f))) → definition w x ≡ Some (OfAbstract f)
        go (inl i) = i
        go (inr i) = absurd (no_export x f i.1)

    before_still : (origins : Origins) → AreBefore w origins → AreBefore grown origins
    before_still origins b = record {
      guard = λ x f e run. later (origins.guard x) (b.guard x f (function_old x f e) run);
      body = λ x f e run. later (origins.body x) (b.body x f (function_old x f e) run);
      export = λ x f e r. later (origins.guard x) (b.export x f (export_old x f e) r);
    }

    was_still : (c : World) (formals : List ℕ) (ins : List Out) (form : Core) (expected : List Out) → IsBefore c w → WasAccepted w c formals ins form expected → WasAccepted grown c formals ins form expected
    was_still c formals ins form expected b h = record { suits = suits c grown (later c b); accepted = h.accepted; formed = h.formed }

    origins_still : (origins : Origins) → AreBefore w origins → AreOrigins w origins → AreOrigins grown origins
    origins_still origins b are = record {
      guard = λ x f e run. let i = function_old x f e in was_still (origins.guard x) _ _ _ _ (b.guard x f i run) (are.guard x f i run);
      body = λ x f e run. let i = function_old x f e in was_still (origins.body x) _ _ _ _ (b.body x f i run) (are.body x f i run);
      export = λ x f e r. let i = export_old x f e in was_still (origins.guard x) _ _ _ _ (b.export x f i r) (are.export x f i r);
      formals = λ x f e. are.formals x f (export_old x f e);
    }

abbrev entered : World → List Candidate → World
entered w cs = map (defined (signatures w cs)) cs

functions_before : (w : World) (cs : List Candidate) → IsLawfulWorld w → AreAdmitted w cs → (old next : Origins) → GoOn w old next → HaveElse w (checking_world w cs) next
    → AreBefore w old → AreBefore (world_with w cs) next
functions_before w cs l a old next on others before = record {
  guard = λ x f e run. guard_of x f run (definition_is w (entered w cs) x (Defined f) e);
  body = λ x f e run. body_of x f run (definition_is w (entered w cs) x (Defined f) e);
  export = λ x f e r. export_of x f r (definition_is w (entered w cs) x (OfAbstract f) e);
}
  where
    guard_of : (x : ℕ) (f : Function) → f.executable ≡ true → (definition w x ≡ Some (Defined f)) ⊎ ((definition w x ≡ None) × (definition (entered w cs) x ≡ Some (Defined f))) → IsBefore (next.guard x) (world_with w cs)
    guard_of x f run (inl i) = old_guard w (entered w cs) l old next on before x f i run
    guard_of x f run (inr i) = subst (λ (c : World). IsBefore c (world_with w cs)) (sym (others.guard x i.0)) (before_after w cs l a)

    body_of : (x : ℕ) (f : Function) → f.executable ≡ true → (definition w x ≡ Some (Defined f)) ⊎ ((definition w x ≡ None) × (definition (entered w cs) x ≡ Some (Defined f))) → IsBefore (next.body x) (world_with w cs)
    body_of x f run (inl i) = old_body w (entered w cs) l old next on before x f i run
    body_of x f run (inr i) = subst (λ (c : World). IsBefore c (world_with w cs)) (sym (others.body x i.0)) (before_after w cs l a)

    export_of : (x : ℕ) (f : FunctionOfAbstract) → f.role ≡ abstract_role.Export → (definition w x ≡ Some (OfAbstract f)) ⊎ ((definition w x ≡ None) × (definition (entered w cs) x ≡ Some (OfAbstract f))) → IsBefore (next.guard x) (world_with w cs)
    export_of x f r (inl i) = old_export w (entered w cs) l old next on before x f i r
    export_of x f r (inr i) = subst (λ (c : World). IsBefore c (world_with w cs)) (sym (others.guard x i.0)) (before_after w cs l a)

pub worlds_before_stay : WorldsBeforeStay
worlds_before_stay = record {
  suits = suits;
  later = later;
  before = before_still;
  origins = origins_still;
  functions = functions_before;
  body = body_later;
  macro = macro_body;
  plain = λ w plain origins. record {
    guard = λ x f e run. absurd (each_found IsPlain w plain x (Defined f) e);
    body = λ x f e run. absurd (each_found IsPlain w plain x (Defined f) e);
    export = λ x f e r. absurd (each_found IsPlain w plain x (OfAbstract f) e);
  };
}
