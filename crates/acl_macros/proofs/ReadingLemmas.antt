-- The draft of a macro.
use Rattle.std.specs.Prelude.{◌≡◌, ℕ, ◌≤◌, List, length, max, Bool, true, false, Option, Some, None, is_some, option_map, refl, if◌then◌else◌}
use Rattle.std.proofs.Common.{sym, ap, ◌∙◌, subst, arith}
use Rattle.model_objects.specs.Object.{Object}
use Rattle.model_symbols.specs.Symbols.{QualifiedName}
use Rattle.model_terms.specs.Worlds as worlds
use Rattle.model_terms.specs.Worlds.{World}
use Rattle.model_expansion.specs.Words.{defmacro_word}
use Rattle.model_expansion.specs.Forms.{symbol_or_nil}
use Rattle.model_expansion.specs.Faults as faults
use Rattle.model_expansion.specs.Faults.{Refusal}
use Rattle.model_events.specs.Declarations as model
use Rattle.model_events.specs.Declarations.{formals_of, declarations}
use Rattle.model_events.specs.Macros as written
use Rattle.model_events.specs.Macros.{formal_objects, macro_formals, bad_declaration, written_fault, written_macro}
use Rattle.acl_base.specs.declared.SymId.{SymId}
use Rattle.acl_base.specs.declared.Word.{Word}
use Rattle.acl_heap.specs.Objects.{Objects, object_of, reach, Extends}
use Rattle.acl_terms.specs.Definitions as definitions
use Rattle.acl_terms.specs.declared.definition.MacroFormals.{MacroFormals}
use Rattle.acl_terms.specs.Growth.{seen_formals-later}
use Rattle.acl_declare.specs.Said.{words_at}
use Rattle.acl_drafts.specs.declared.fault.DraftFault.{DraftFault}
use Rattle.acl_drafts.specs.Refusals.{RefusedBy}
use Rattle.acl_macros.specs.declared.draft.MacroDraft.{MacroDraft}
use Rattle.acl_macros.specs.declared.written.WrittenMacro.{WrittenMacro}
use Rattle.acl_macros.specs.Written.{seen_formals, seen_macro, macro_reach, SeenMacro}
use Rattle.acl_macros.specs.Drafts.{draft_of, seen_draft, draft_reach, early_refusal, shape_refusal, macro_refusal, ReadsDeclared, ReadsUnrefused, ReadsMacro}
use Rattle.acl_macros.proofs.RefusalLemmas.{then_declarations}

pub draft_is : (h : Objects) (m : WrittenMacro) (s : SymId) (fs : MacroFormals) (body : Word) → symbol_or_nil (object_of h m.name) ≡ s.0 → macro_formals (seen_formals h m.formals) ≡ definitions.seen_formals h fs → body ≡ m.body
    → draft_of (seen_macro h m) ≡ seen_draft h (record { name = s; formals = fs; body = body })
draft_is h m s fs body e f g = rw (e, f, g) refl

-- ---- declarations

module _ (sy : List QualifiedName) (os items : List (Object ℕ)) (xs : List ℕ) (e : xs ≡ formals_of sy os) where
  pub none_said : declarations sy xs items ≡ None → is_some (declarations sy (formals_of sy os) items) ≡ false
  none_said f = ap (λ ys. is_some (declarations sy ys items)) (sym e) ∙ ap is_some f

  pub some_said : (d : model.Declared) → declarations sy xs items ≡ Some d → is_some (declarations sy (formals_of sy os) items) ≡ true
  some_said d f = ap (λ ys. is_some (declarations sy ys items)) (sym e) ∙ ap is_some f

module _ (sy : List QualifiedName) (h : Objects) (m : WrittenMacro) (os : List (Object ℕ)) (b : Bool) (i : os ≡ formal_objects (seen_formals h m.formals)) (e : is_some (declarations sy (formals_of sy os) (words_at h m.items)) ≡ b) where
  told : is_some (declarations sy (formals_of sy (formal_objects (seen_formals h m.formals))) (words_at h m.items)) ≡ b
  told = ap (λ ys. is_some (declarations sy (formals_of sy ys) (words_at h m.items))) (sym i) ∙ e

  abbrev refusal : Bool → Option Refusal
  refusal c = if c then None else Some (faults.BadDeclare (symbol_or_nil (object_of h m.name)))

  pub declared_wrong : (s : SymId) (d : MacroDraft) → b ≡ false → draft_of (seen_macro h m) ≡ seen_draft h d → bad_declaration sy (seen_macro h m) ≡ Some (faults.BadDeclare d.name.0)
  declared_wrong s d f g = ap refusal (told ∙ f) ∙ ap (λ x. Some (faults.BadDeclare x.name)) g

  pub declared_right : (h' : Objects) (d : MacroDraft) → Extends h h' → b ≡ true → draft_of (seen_macro h m) ≡ seen_draft h d → draft_reach d ≤ length h → ReadsDeclared sy (seen_macro h m) h' d
  declared_right h' d x f g l =
      let k : definitions.seen_formals h' d.formals ≡ definitions.seen_formals h d.formals = seen_formals-later x d.formals (omega (arith, l)) in
      let j : object_of h' d.body ≡ object_of h d.body = x.same d.body (omega (arith, l)) in
      let n = x.longer in
      record {
        right = ap refusal (told ∙ f);
        draft = g ∙ rw (k, j) refl;
        lies = omega (arith, l, n);
      }

-- ---- what was read

pub unrefused : (w : World) (sy : List QualifiedName) (m : written.WrittenMacro) (os : List (Object ℕ)) (h : Objects) (d : MacroDraft) → os ≡ formal_objects m.formals
    → early_refusal w sy m.name os ≡ None → ReadsDeclared sy m h d → ReadsUnrefused w sy m h d
unrefused w sy m os h d i e r = record { right = then_declarations w sy m os i e ∙ r.right; draft = r.draft; lies = r.lies }

module _ (w : World) (sy : List QualifiedName) (o : Object ℕ) where
  pub no_shape : (h : Objects) (r : Option WrittenMacro) → r ≡ None → SeenMacro h r (written_macro o) → written_macro o ≡ None
  no_shape h r e s = subst (λ x. SeenMacro h x (written_macro o)) e s

  pub a_shape : (h : Objects) (r : Option WrittenMacro) (m : WrittenMacro) → r ≡ Some m → SeenMacro h r (written_macro o) → (written_macro o ≡ Some (seen_macro h m)) × (macro_reach m ≤ length h)
  a_shape h r m e s = subst (λ x. SeenMacro h x (written_macro o)) e s

  pub refused_shape : written_macro o ≡ None → macro_refusal w sy o ≡ Some (faults.Expand (faults.BadShape defmacro_word))
  refused_shape e = ap (shape_refusal w sy) e

  pub refused_behind : (h h' : Objects) (m : WrittenMacro) (f : DraftFault) → written_macro o ≡ Some (seen_macro h m) → RefusedBy h' defmacro_word (written_fault sy w (seen_macro h m)) f
      → RefusedBy h' defmacro_word (macro_refusal w sy o) f
  refused_behind h h' m f e r = subst (λ x. RefusedBy h' defmacro_word x f) (sym (ap (shape_refusal w sy) e)) r

  pub draft_behind : (h h' : Objects) (m : WrittenMacro) (d : MacroDraft) → written_macro o ≡ Some (seen_macro h m) → ReadsUnrefused w sy (seen_macro h m) h' d → ReadsMacro w sy o h' d
  draft_behind h h' m d e r = record { right = ap (shape_refusal w sy) e ∙ r.right; draft = ap (option_map draft_of) e ∙ ap (λ x. Some x) r.draft; lies = r.lies }
