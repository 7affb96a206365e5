-- Worlds stay threaded, and origins stay origins, as definitions of no stobj enter.
use Rattle.std.specs.Prelude.{◌≡◌, ◌⊎◌, ℕ, List, [], ◌∷◌, ◌++◌, length, true, false, Some, None}
use Rattle.std.specs.List.{AllByRecursion}
use Rattle.std.proofs.Common.{refl, sym, subst, inl, inr}
use Rattle.model_terms.specs.declared.role.AbstractRole.TheVariants as abstract_role
use Rattle.model_terms.specs.Cores.{Core}
use Rattle.model_terms.specs.Worlds.{World, Definition, Function, GeneratedFunction, FunctionOfAbstract, MacroFormals, Out, definition, Primitive, Defined, Macro, Constant, Concrete, Generated, Abstract, OfAbstract, Named, Signed}
use Rattle.model_terms.specs.Accessors.{is_internal}
use Rattle.model_terms.specs.Sites.{one_ordinary}
use Rattle.model_accepted.specs.Threaded.{IsAdmitted, IsMade, IsExport, IsRecognizer, IsThreaded}
use Rattle.model_slots.specs.Trees.{Tree}
use Rattle.model_slots.proofs.WorldLemmas.{keeps_numbers}
use Rattle.model_window.specs.Stands.{Origins}
use Rattle.model_fitting.specs.Steps.{WasAccepted, AreOrigins}
use Rattle.model_macro_bodies.specs.Bodies.{HasBody}
use Rattle.model_origins.specs.Plain.{IsOfNoStobj, IsPlain}
use Rattle.model_origins.specs.Going.{GoOn}
use Rattle.model_origins.specs.Laws.{PlainDefinitionsKeepOrigins}
use Rattle.model_origins.proofs.PlainLemmas.{each_found, definition_is, suits_still, admitted_still, made_still, kept_before, exported_still}

module _ (w new : World) (plain : AllByRecursion IsOfNoStobj new) where
  abbrev grown : World
  grown = w ++ new

  -- ---- origins

  pub was_still : (c : World) (formals : List ℕ) (ins : List Out) (form : Core) (expected : List Out) → WasAccepted w c formals ins form expected → WasAccepted grown c formals ins form expected
  was_still c formals ins form expected h = record { suits = suits_still w new plain c h.suits; accepted = h.accepted; formed = h.formed }

  no_export : {A : Type 0} (x : ℕ) (f : FunctionOfAbstract) → definition new x ≡ Some (OfAbstract f) → A
  no_export x f e = absurd (each_found IsOfNoStobj new plain x (OfAbstract f) e)

  module _ (old later : Origins) (on : GoOn w old later) (are : AreOrigins w old)
      (guards : (x : ℕ) (f : Function) → definition w x ≡ None → definition new x ≡ Some (Defined f) → f.executable ≡ true → WasAccepted grown (later.guard x) f.formals f.signature.ins f.guard one_ordinary)
      (bodies : (x : ℕ) (f : Function) → definition w x ≡ None → definition new x ≡ Some (Defined f) → f.executable ≡ true → WasAccepted grown (later.body x) f.formals f.signature.ins f.body f.signature.outs) where
    pub origins_still : AreOrigins grown later
    origins_still = record {
      guard = λ x f e run. guard_of x f run (definition_is w new x (Defined f) e);
      body = λ x f e run. body_of x f run (definition_is w new x (Defined f) e);
      export = λ x f e r. export_of x f r (definition_is w new x (OfAbstract f) e);
      formals = λ x f e. formals_of x f (definition_is w new x (OfAbstract f) e);
    }
      where
        guard_of : (x : ℕ) (f : Function) → f.executable ≡ true → (definition w x ≡ Some (Defined f)) ⊎ ((definition w x ≡ None) × (definition new x ≡ Some (Defined f)))
            → WasAccepted grown (later.guard x) f.formals f.signature.ins f.guard one_ordinary
        guard_of x f run (inl i) =
            subst (λ (c : World). WasAccepted grown c f.formals f.signature.ins f.guard one_ordinary) (sym (on.guard x (Defined f) i)) (was_still (old.guard x) _ _ _ _ (are.guard x f i run))
        guard_of x f run (inr i) = guards x f i.0 i.1 run

        body_of : (x : ℕ) (f : Function) → f.executable ≡ true → (definition w x ≡ Some (Defined f)) ⊎ ((definition w x ≡ None) × (definition new x ≡ Some (Defined f)))
            → WasAccepted grown (later.body x) f.formals f.signature.ins f.body f.signature.outs
        body_of x f run (inl i) =
            subst (λ (c : World). WasAccepted grown c f.formals f.signature.ins f.body f.signature.outs) (sym (on.body x (Defined f) i)) (was_still (old.body x) _ _ _ _ (are.body x f i run))
        body_of x f run (inr i) = bodies x f i.0 i.1 run

        export_of : (x : ℕ) (f : FunctionOfAbstract) → f.role ≡ abstract_role.Export → (definition w x ≡ Some (OfAbstract f)) ⊎ ((definition w x ≡ None) × (definition new x ≡ Some (OfAbstract f)))
            → WasAccepted grown (later.guard x) f.formals f.signature.ins f.guard one_ordinary
        export_of x f r (inl i) =
            subst (λ (c : World). WasAccepted grown c f.formals f.signature.ins f.guard one_ordinary) (sym (on.guard x (OfAbstract f) i)) (was_still (old.guard x) _ _ _ _ (are.export x f i r))
        export_of x f r (inr i) = no_export x f i.1

        formals_of : (x : ℕ) (f : FunctionOfAbstract) → (definition w x ≡ Some (OfAbstract f)) ⊎ ((definition w x ≡ None) × (definition new x ≡ Some (OfAbstract f)))
            → length f.formals ≡ length f.signature.ins
        formals_of x f (inl i) = are.formals x f i
        formals_of x f (inr i) = no_export x f i.1

  -- ---- threaded

  pub threaded_still : IsThreaded w → ((x : ℕ) (f : Function) → definition w x ≡ None → definition new x ≡ Some (Defined f) → f.executable ≡ true → IsAdmitted grown f) → IsThreaded grown
  threaded_still t functions = record {
    functions = λ x f e run. function_of x f run (definition_is w new x (Defined f) e);
    made = λ x g e kept. made_of x g kept (definition_is w new x (Generated g) e);
    exports = λ x f e r. export_of x f r (definition_is w new x (OfAbstract f) e);
    recognizers = λ x f e r. recognizer_of x f r (definition_is w new x (OfAbstract f) e);
  }
    where
      function_of : (x : ℕ) (f : Function) → f.executable ≡ true → (definition w x ≡ Some (Defined f)) ⊎ ((definition w x ≡ None) × (definition new x ≡ Some (Defined f))) → IsAdmitted grown f
      function_of x f run (inl i) = admitted_still w new plain f (t.functions x f i run)
      function_of x f run (inr i) = functions x f i.0 i.1 run

      made_of : (x : ℕ) (g : GeneratedFunction) → is_internal grown (Generated g) ≡ false → (definition w x ≡ Some (Generated g)) ⊎ ((definition w x ≡ None) × (definition new x ≡ Some (Generated g))) → IsMade grown g
      made_of x g kept (inl i) = made_still w new plain g (t.made x g i (kept_before w new plain g kept))
      made_of x g kept (inr i) = absurd (each_found IsOfNoStobj new plain x (Generated g) i.1)

      export_of : (x : ℕ) (f : FunctionOfAbstract) → f.role ≡ abstract_role.Export → (definition w x ≡ Some (OfAbstract f)) ⊎ ((definition w x ≡ None) × (definition new x ≡ Some (OfAbstract f))) → IsExport grown f
      export_of x f r (inl i) = exported_still w new plain f (t.exports x f i r)
      export_of x f r (inr i) = no_export x f i.1

      recognizer_of : (x : ℕ) (f : FunctionOfAbstract) → f.role ≡ abstract_role.Recognizer → (definition w x ≡ Some (OfAbstract f)) ⊎ ((definition w x ≡ None) × (definition new x ≡ Some (OfAbstract f))) → IsRecognizer f
      recognizer_of x f r (inl i) = t.recognizers x f i r
      recognizer_of x f r (inr i) = no_export x f i.1

  -- ---- bodies of macros

  pub body_still : (formals : MacroFormals) (body : Core) (tree : Tree) → HasBody w formals body tree → HasBody grown formals body tree
  body_still formals body tree h = record {
    world = h.world;
    suits = suits_still w new plain h.world h.suits;
    earlier = record { number = λ f n e. keeps_numbers.number w new f n (h.earlier.number f n e) };
    formed = h.formed;
    accepted = h.accepted;
    is = h.is;
  }

-- ---- without functions that were written

no_stobj : (d : Definition) → IsPlain d → IsOfNoStobj d
no_stobj (Primitive name row) p = tt
no_stobj (Defined f) p = absurd p
no_stobj (Macro name formals body) p = tt
no_stobj (Constant name value) p = tt
no_stobj (Concrete d class) p = p
no_stobj (Generated g) p = p
no_stobj (Abstract d) p = p
no_stobj (OfAbstract f) p = p
no_stobj (Named name formals) p = tt
no_stobj (Signed name formals signature executable) p = tt

pub all_no_stobj : (ds : List Definition) → AllByRecursion IsPlain ds → AllByRecursion IsOfNoStobj ds
all_no_stobj [] p = tt
all_no_stobj (d ∷ ds) p = (no_stobj d p.0, all_no_stobj ds p.1)

no_function : {A : Type 0} (new : World) → AllByRecursion IsPlain new → (x : ℕ) (f : Function) → definition new x ≡ Some (Defined f) → A
no_function new plain x f e = absurd (each_found IsPlain new plain x (Defined f) e)

pub plain_definitions_keep_origins : PlainDefinitionsKeepOrigins
plain_definitions_keep_origins = record {
  suits = suits_still;
  body = body_still;
  threaded = λ w new plain t. threaded_still w new (all_no_stobj new plain) t (λ x f none e run. no_function new plain x f e);
  origins = λ w new plain origins are.
      origins_still w new (all_no_stobj new plain) origins origins (record { guard = λ x d e. refl; body = λ x d e. refl }) are
      (λ x f none e run. no_function new plain x f e) (λ x f none e run. no_function new plain x f e);
}
