-- Lawful worlds are threaded, and their definitions stay ready as they grow.
use Rattle.std.proofs.Common.{◌≡◌, ℕ, List, true, false, Some, refl, sym, ap, ◌∙◌, subst}
use Rattle.std.specs.Prelude.{unwrap_or}
use Rattle.model_lists.specs.Layouts.{Layout, field_layout}
use Rattle.model_terms.specs.Cores.{Core}
use Rattle.model_terms.specs.Worlds.{World, Definition, Function, GeneratedFunction, FunctionOfAbstract, definition, Primitive, Defined, Macro, Constant, Concrete, Generated, Abstract, OfAbstract, Named, Signed, Out, Signature}
use Rattle.model_terms.specs.Outputs.{signature_in}
use Rattle.model_terms.specs.Accessors.{is_internal, is_kept_back, is_executable}
use Rattle.model_eval_laws.specs.Agreement.{StandsIn}
use Rattle.model_eval_alike.specs.FunctionLaws.{SuitsRole}
use Rattle.model_accepted.specs.Threaded.{Runs, IsChecked, IsAdmitted, IsMade, IsConcrete, IsExport, IsThreaded}
use Rattle.model_lawful.specs.Growth.{IsSettled, Becomes}
use Rattle.model_lawful.specs.Lawful.{WasChecked, WasAdmitted, WasExported, IsReady, IsLawful, IsSigned, LawfulWorlds}
use Rattle.model_lawful.proofs.SuitLemmas.{same_layout, same_held, suits_what_it_becomes}

-- ---- what becomes of what a world became

later : (w new : World) (b : Becomes w new) (x : ℕ) (d : Definition) → IsSettled w x d → IsSettled new x d
later w new b x (Primitive name row) h = b.each x (Primitive name row) h
later w new b x (Defined f) h = b.each x (Defined f) h
later w new b x (Macro name formals body) h = b.each x (Macro name formals body) h
later w new b x (Constant name value) h = b.each x (Constant name value) h
later w new b x (Concrete d class) h = b.each x (Concrete d class) h
later w new b x (Generated g) h = b.each x (Generated g) h
later w new b x (Abstract d) h = b.each x (Abstract d) h
later w new b x (OfAbstract f) h = b.each x (OfAbstract f) h
later w new b x (Named name formals) h = b.each x (Named name formals) h
later w new b x (Signed name formals signature executable) h = (h.0, b.each x (Defined h.0) h.1, h.2, h.3)

becomes_then : (c w new : World) → Becomes c w → Becomes w new → Becomes c new
becomes_then c w new a b = record { each = λ x d e. later w new b x d (a.each x d e) }

not_signed : (w : World) (x : ℕ) (d : Definition) → definition w x ≡ Some d → (IsSigned d → ⊥) → IsSettled w x d
not_signed w x (Primitive name row) e n = e
not_signed w x (Defined f) e n = e
not_signed w x (Macro name formals body) e n = e
not_signed w x (Constant name value) e n = e
not_signed w x (Concrete d class) e n = e
not_signed w x (Generated g) e n = e
not_signed w x (Abstract d) e n = e
not_signed w x (OfAbstract f) e n = e
not_signed w x (Named name formals) e n = e
not_signed w x (Signed name formals signature executable) e n = absurd (n tt)

-- ---- lawful worlds are threaded

module _ (w : World) where
  checked : (formals : List ℕ) (ins : List Out) (form : Core) (expected : List Out) → WasChecked w formals ins form expected → IsChecked w formals ins form expected
  checked formals ins form expected h = record { world = h.world; suits = suits_what_it_becomes.suits h.world w h.closed h.lawful h.becomes; accepted = h.accepted; formed = h.formed }

  admitted : (f : Function) → WasAdmitted w f → IsAdmitted w f
  admitted f h = record { formals = h.formals; distinct = h.distinct; guard = checked _ _ _ _ h.guard; body = checked _ _ _ _ h.body }

  exported : (f : FunctionOfAbstract) → WasExported w f → IsExport w f
  exported f h = record {
    formals = h.formals;
    distinct = h.distinct;
    guard = checked _ _ _ _ h.guard;
    foundation = h.foundation;
    alike = h.alike;
    signature = h.signature;
    runs = h.runs;
    concrete = h.concrete;
    ins = h.ins;
    outs = h.outs;
    only = h.only;
    only_outs = h.only_outs;
  }

  threaded : IsLawful w → IsThreaded w
  threaded l = record {
    functions = λ x f e run. admitted f (l.each x (Defined f) e run);
    made = λ x g e. l.each x (Generated g) e;
    exports = λ x f e r. exported f ((l.each x (OfAbstract f) e).0 r);
    recognizers = λ x f e. (l.each x (OfAbstract f) e).1;
  }

-- ---- definitions stay ready

module _ (w new : World) (l : IsLawful w) (b : Becomes w new) where
  checked_later : (formals : List ℕ) (ins : List Out) (form : Core) (expected : List Out) → WasChecked w formals ins form expected → WasChecked new formals ins form expected
  checked_later formals ins form expected h = record { world = h.world; closed = h.closed; lawful = h.lawful; becomes = becomes_then h.world w new h.becomes b; accepted = h.accepted; formed = h.formed }

  made_later : (g : GeneratedFunction) → StandsIn w g.stobj → IsMade w g → IsMade new g
  made_later g s h = record {
    outs = h.outs;
    only = h.only;
    suits = subst (λ (k : Layout ℕ). SuitsRole g.role (field_layout (unwrap_or g.field 0) k)) (sym (same_layout w new l.closed b g.stobj s)) h.suits;
  }

  -- a function that runs, and is of no abstract stobj, still does
  record RunsStill (f : ℕ) (s : Signature) : Type 0 where
    runs : Runs new f s
    concrete : IsConcrete runs.there

  runs_still : (f : ℕ) (s : Signature) (h : Runs w f s) → IsConcrete h.there → RunsStill f s
  runs_still f s h i = go h.there h.stands h.signed h.callable h.executable i (b.each f h.there h.stands)
    where
      go : (d : Definition) → definition w f ≡ Some d → signature_in d ≡ Some s → is_internal w d ≡ false → is_executable d ≡ true → IsConcrete d → IsSettled new f d → RunsStill f s
      go (Primitive name row) e signed kept run i j = record { runs = record { there = Primitive name row; stands = j; signed = signed; callable = refl; executable = refl }; concrete = tt }
      go (Defined g) e signed kept run i j = record { runs = record { there = Defined g; stands = j; signed = signed; callable = refl; executable = run }; concrete = tt }
      go (Macro name formals body) e signed kept run i j = cc
      go (Constant name value) e signed kept run i j = cc
      go (Concrete d class) e signed kept run i j = cc
      go (Generated g) e signed kept run i j =
          record {
            runs = record { there = Generated g; stands = j; signed = signed; callable = ap (is_kept_back g.role) (same_held w new l.closed b g (l.closed.definitions f (Generated g) e)) ∙ kept; executable = refl };
            concrete = tt;
          }
      go (Abstract d) e signed kept run i j = cc
      go (OfAbstract g) e signed kept run i j = absurd i
      go (Named name formals) e signed kept run i j = cc
      go (Signed name formals signature executable) e signed kept run i j =
          record { runs = record { there = Defined j.0; stands = j.1; signed = ap (λ (z : Signature). Some z) j.2 ∙ signed; callable = refl; executable = j.3 ∙ run }; concrete = tt }

  stands_later : (x : ℕ) → StandsIn w x → StandsIn new x
  stands_later x s = go s.0 (b.each x s.0 s.1)
    where
      go : (d : Definition) → IsSettled new x d → StandsIn new x
      go (Primitive name row) h = (Primitive name row, h)
      go (Defined f) h = (Defined f, h)
      go (Macro name formals body) h = (Macro name formals body, h)
      go (Constant name value) h = (Constant name value, h)
      go (Concrete d class) h = (Concrete d class, h)
      go (Generated g) h = (Generated g, h)
      go (Abstract d) h = (Abstract d, h)
      go (OfAbstract f) h = (OfAbstract f, h)
      go (Named name formals) h = (Named name formals, h)
      go (Signed name formals signature executable) h = (Defined h.0, h.1)

  exported_later : (f : FunctionOfAbstract) → WasExported w f → WasExported new f
  exported_later f h =
      let still : RunsStill f.exec h.signature = runs_still f.exec h.signature h.runs h.concrete in
      record {
        formals = h.formals;
        distinct = h.distinct;
        guard = checked_later _ _ _ _ h.guard;
        foundation = h.foundation;
        stobj_there = stands_later f.stobj h.stobj_there;
        foundation_there = stands_later h.foundation h.foundation_there;
        alike = same_layout w new l.closed b f.stobj h.stobj_there ∙ (h.alike ∙ sym (same_layout w new l.closed b h.foundation h.foundation_there));
        signature = h.signature;
        runs = still.runs;
        concrete = still.concrete;
        ins = h.ins;
        outs = h.outs;
        only = h.only;
        only_outs = h.only_outs;
      }

  ready_later : (x : ℕ) (d : Definition) → definition w x ≡ Some d → IsReady w d → IsReady new d
  ready_later x (Primitive name row) e h = tt
  ready_later x (Defined f) e h = λ run.
      let a : WasAdmitted w f = h run in record { formals = a.formals; distinct = a.distinct; guard = checked_later _ _ _ _ a.guard; body = checked_later _ _ _ _ a.body }
  ready_later x (Macro name formals body) e h = tt
  ready_later x (Constant name value) e h = tt
  ready_later x (Concrete d class) e h = tt
  ready_later x (Generated g) e h = λ kept.
      let s : StandsIn w g.stobj = l.closed.definitions x (Generated g) e in
      made_later g s (h (ap (is_kept_back g.role) (sym (same_held w new l.closed b g s)) ∙ kept))
  ready_later x (Abstract d) e h = tt
  ready_later x (OfAbstract f) e h = ((λ r. exported_later f (h.0 r)), h.1)
  ready_later x (Named name formals) e h = tt
  ready_later x (Signed name formals signature executable) e h = tt

pub lawful_worlds : LawfulWorlds
lawful_worlds = record {
  threaded = threaded;
  suits = λ w l n. suits_what_it_becomes.suits w w l.closed l.stobjs (record { each = λ x d e. not_signed w x d e (n x d e) });
  kept = λ w new l b x d e n. ready_later w new l b x d e (l.each x d e);
}
