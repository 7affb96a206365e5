-- What the event ends with, from what reading its form and expanding the body end with.
use Rattle.std.specs.Prelude.{◌≡◌, ◌≢◌, ℕ, ◌≤◌, [], ◌∷◌, ◌++◌, length, Bool, true, false, Option, Some, None, option_map, refl}
use Rattle.std.specs.Option.{option_or}
use Rattle.std.proofs.Common.{sym, ap, ◌∙◌, subst}
use Rattle.model_objects.specs.Object.{Object}
use Rattle.model_objects.specs.Named.{Knows}
use Rattle.model_terms.specs.Cores as cores
use Rattle.model_terms.specs.Faults.{Fault, macro_fault}
use Rattle.model_terms.specs.Worlds as worlds
use Rattle.model_terms.specs.Worlds.{World}
use Rattle.model_expansion.specs.Words.{defmacro_word}
use Rattle.model_expansion.specs.Faults as faults
use Rattle.model_expansion.specs.Faults.{Refusal}
use Rattle.model_expansion.specs.Expansion.{Setting, Progress, Makes, Fails, expanded}
use Rattle.model_expansion_forms.specs.Rows.{HasRowFunctions}
use Rattle.model_expansion_parts.specs.Known.{KnowsFormals}
use Rattle.model_stobjs.specs.Answers as answer
use Rattle.model_stobjs.specs.Answers.{unless, needing, expanding, then_grant}
use Rattle.model_stobjs.specs.Heads.{name_in_use}
use Rattle.model_events.specs.Macros.{WrittenMacro, written_macro, written_fault, macro_formals, body_then, macro_then, macro_read}
use Rattle.model_events.specs.Events.{Name, definitions_admitted, admitted}
use Rattle.model_slots_laws.specs.Standing.{functions_stand}
use Rattle.model_standing.proofs.StandLemmas.{expanded_stand}
use Rattle.model_drafts.proofs.LawLemmas.{macros_are_known}
use Rattle.acl_heap.specs.Objects.{Objects}
use Rattle.acl_terms.specs.Signatures.{seen_name}
use Rattle.acl_terms.specs.declared.fault.ExpandFault.TheVariants as expand
use Rattle.acl_terms.specs.declared.fault.ThreadFault.{ThreadFault}
use Rattle.acl_terms.specs.declared.fault.ThreadFault.TheVariants as thread
use Rattle.acl_check.specs.Says.{Says}
use Rattle.acl_drafts.specs.declared.fault.DraftFault.{DraftFault}
use Rattle.acl_drafts.specs.declared.fault.DraftFault.TheVariants as draft
use Rattle.acl_drafts.specs.Refusals.{RefusedBy, fault_reach}
use Rattle.acl_expand.specs.declared.progress.Refused.{Refused}
use Rattle.acl_expand.specs.Looks.{seen_fault}
use Rattle.acl_expand.specs.Refusals.{IsTold}
use Rattle.acl_macros.specs.Drafts.{Draft, draft_of, shape_refusal, macro_refusal}
use Rattle.acl_admit_macro.specs.Admitted.{environment, bounds, Admits, Refuses, Expands}
use Rattle.acl_admit_macro.specs.Faults.{of_draft, is_memory, of_refused, of_thread, Told}

-- the event reads its form, and then puts the macro into the world
is_read_first : (x : Setting) (current : ℕ) (o : Object ℕ) (p : Progress)
    → admitted (environment x.world x.packages current) (bounds x) defmacro_word o p ≡ then_grant (macro_read x o p) (definitions_admitted (environment x.world x.packages current) defmacro_word)
unfolding admitted
is_read_first x current o p = refl

reads_shape : (x : Setting) (o : Object ℕ) (p : Progress) → macro_read x o p ≡ needing (written_macro o) (faults.Expand (faults.BadShape defmacro_word)) (macro_then x) p
unfolding macro_read
reads_shape x o p = refl

second : (a b c : Option Refusal) → option_or a (option_or b c) ≡ None → b ≡ None
second None None c e = refl
second None (Some r) c e = cc
second (Some r) b c e = cc

module _ (x : Setting) (o : Object ℕ) (p : Progress) where
  abbrev from_shape : Option WrittenMacro → answer.EventResult World
  from_shape m = needing m (faults.Expand (faults.BadShape defmacro_word)) (macro_then x) p

  shape_refused : (m : Option WrittenMacro) (r : Refusal) → shape_refusal x.world p.symbols m ≡ Some r → from_shape m ≡ answer.Refuses r p
  shape_refused None r e = let f : faults.Expand (faults.BadShape defmacro_word) ≡ r = cc in ap (λ y. answer.Refuses y p) f
  shape_refused (Some m) r e = ap (λ y. unless y (λ after. expanding (expanded x m.body after) (body_then x.world m)) p) e

  pub read_refused : (q : Progress) (r : Refusal) → macro_read x o p ≡ answer.Refuses r q → Refuses x o p q r
  read_refused q r e = record { is = λ current. is_read_first x current o p ∙ ap (λ y. then_grant y (definitions_admitted (environment x.world x.packages current) defmacro_word)) e }

  first_refused : (r : Refusal) → macro_refusal x.world p.symbols o ≡ Some r → Refuses x o p p r
  first_refused r e = read_refused p r (reads_shape x o p ∙ shape_refused (written_macro o) r e)

  -- a refusal of what is written
  pub draft_told : (h : Objects) (f : DraftFault) → RefusedBy h defmacro_word (macro_refusal x.world p.symbols o) f → fault_reach f ≤ length h → Told h (Refuses x o p p) (of_draft f)
  draft_told h draft.BadShape e l = first_refused _ e
  draft_told h (draft.BadName name) e l = (l, first_refused _ e)
  draft_told h (draft.NameInUse s) e l = first_refused _ e
  draft_told h (draft.DuplicateFormal s) e l = first_refused _ e
  draft_told h (draft.BadDeclare s) e l = first_refused _ e
  draft_told h draft.Memory e l = tt

  -- ---- what is not refused

  -- the macro as it is written, of which nothing is refused, and its draft
  pub record IsWritten (d : Draft) : Type 0 where
    pub macro : WrittenMacro
    pub is : written_macro o ≡ Some macro
    pub right : written_fault p.symbols x.world macro ≡ None
    pub draft : draft_of macro ≡ d

  pub is_written : (d : Draft) → macro_refusal x.world p.symbols o ≡ None → option_map draft_of (written_macro o) ≡ Some d → IsWritten d
  is_written d e f = by (written_macro o) refl e f
    where
      by : (m : Option WrittenMacro) → written_macro o ≡ m → shape_refusal x.world p.symbols m ≡ None → option_map draft_of m ≡ Some d → IsWritten d
      by None i g j = absurd (cc)
      by (Some m) i g j = let k : draft_of m ≡ d = cc in record { macro = m; is = i; right = g; draft = k }

  -- its body has known symbols
  pub body_known : (d : Draft) → IsWritten d → (n : ℕ) → 2 ≤ n → Knows n o → Knows n d.body
  body_known d i n two k = subst (λ (y : Draft). Knows n y.body) i.draft (macros_are_known.written n o i.macro two k i.is).1

  reads_body : (m : WrittenMacro) → written_macro o ≡ Some m → written_fault p.symbols x.world m ≡ None → macro_read x o p ≡ expanding (expanded x m.body p) (body_then x.world m)
  reads_body m e f =
      reads_shape x o p ∙ (ap from_shape e ∙ ap (λ y. unless y (λ after. expanding (expanded x m.body after) (body_then x.world m)) p) f)

  fails : (d : Draft) (q : Progress) (f : faults.ExpandFault) → IsWritten d → expanded x d.body p ≡ Fails f q → Refuses x o p q (faults.Expand f)
  fails d q f i e =
      let m = i.macro in
      let body : expanded x m.body p ≡ Fails f q = ap (λ (y : Draft). expanded x y.body p) i.draft ∙ e in
      read_refused q (faults.Expand f) (reads_body m i.is i.right ∙ ap (λ y. expanding y (body_then x.world m)) body)

  -- a fault of the expansion
  pub refused_told : (h : Objects) (d : Draft) (q : Progress) (r : Refused) → IsWritten d → IsTold r → (r.fault ≢ expand.Memory → expanded x d.body p ≡ Fails (seen_fault h (seen_name r.inside) r.fault) q)
      → Told h (Refuses x o p q) (of_refused r)
  refused_told h d q r i t e = by (is_memory r.fault) refl
    where
      by : (b : Bool) → is_memory r.fault ≡ b → Told h (Refuses x o p q) (of_refused r)
      by true f = rw f tt
      by false f =
          let other : r.fault ≢ expand.Memory = λ g. let k : is_memory r.fault ≡ true = ap is_memory g in cc in
          rw f (record { told = t; other = other }, fails d q (seen_fault h (seen_name r.inside) r.fault) i (e other))

  -- its body is expanded
  pub expands : (d : Draft) (q : Progress) (name : ℕ) (formals : worlds.MacroFormals) (body : cores.Core) → IsWritten d → expanded x d.body p ≡ Makes body q → d.name ≡ name → d.formals ≡ formals
      → Expands x o p q name formals body
  expands d q name formals body i e f g = record {
    written = i.macro;
    is = i.is;
    right = i.right;
    named = ap (λ (y : Draft). y.name) i.draft ∙ f;
    taken = ap (λ (y : Draft). y.formals) i.draft ∙ g;
    makes = ap (λ (y : Draft). expanded x y.body p) i.draft ∙ e;
  }

  -- ---- what the rules say

  module _ (q : Progress) (name : ℕ) (formals : worlds.MacroFormals) (body : cores.Core) (i : Expands x o p q name formals body) where
    abbrev entry : ℕ → worlds.MacroFormals → World
    entry s fs = worlds.Macro s fs body ∷ []

    abbrev ruled : ℕ → worlds.MacroFormals → answer.EventResult World
    ruled s fs = unless (option_map faults.Thread (macro_fault x.world fs body)) (answer.Grants (entry s fs)) q

    reads_rules : macro_read x o p ≡ ruled name formals
    reads_rules =
        reads_body i.written i.is i.right
        ∙ (ap (λ y. expanding y (body_then x.world i.written)) i.makes
        ∙ (ap (λ s. ruled s (macro_formals i.written.formals)) i.named ∙ ap (λ fs. ruled name fs) i.taken))

    rule_refused : (f : Fault) → macro_fault x.world formals body ≡ Some f → Refuses x o p q (faults.Thread f)
    rule_refused f e = read_refused q (faults.Thread f) (reads_rules ∙ ap (λ (y : Option Fault). unless (option_map faults.Thread y) (answer.Grants (entry name formals)) q) e)

    -- a rule that fails
    pub rule_told : (h : Objects) (f : ThreadFault) → Says (macro_fault x.world formals body) f → Told h (Refuses x o p q) (of_thread f)
    rule_told h (thread.Rule rule place) e = rule_refused _ e
    rule_told h thread.Memory e = tt

    -- the macro enters
    pub admits : (after : World) → macro_fault x.world formals body ≡ None → after ≡ x.world ++ entry name formals → Admits x o p q after name
    admits after e f = record {
      is = λ current.
          is_read_first x current o p
          ∙ (ap (λ y. then_grant y (definitions_admitted (environment x.world x.packages current) defmacro_word))
          (reads_rules ∙ ap (λ (y : Option Fault). unless (option_map faults.Thread y) (answer.Grants (entry name formals)) q) e)
          ∙ ap (λ v. answer.Grants (record { environment = environment v x.packages current; created = None; said = Name name }) q) (sym f));
    }

    -- its name is new, and the functions stand that its body calls
    pub free : name_in_use x.world (name ∷ []) ≡ None
    free = ap (λ s. name_in_use x.world (s ∷ [])) (sym i.named) ∙ second _ _ _ i.right

    pub stands : HasRowFunctions x.world → functions_stand x.world body ≡ true
    stands r = expanded_stand.form x i.written.body p q body r i.makes

    -- what its formals are by default has known symbols
    pub supplied : (n : ℕ) → 2 ≤ n → Knows n o → KnowsFormals n formals
    supplied n two k = subst (λ (fs : worlds.MacroFormals). KnowsFormals n fs) i.taken (macros_are_known.written n o i.written two k i.is).0
