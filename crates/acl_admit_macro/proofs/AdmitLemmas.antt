-- What was said before the heap grew is said behind it: of drafts, of worlds, and of tables of terms.
use Rattle.std.specs.Prelude.{◌≡◌, ◌≢◌, ℕ, ◌≤◌, List, [], ◌∷◌, ◌++◌, length, true, None, refl}
use Rattle.std.proofs.Common.{sym, ap, ◌∙◌, subst, arith}
use Rattle.std.proofs.lemmas.List.{map-append}
use Rattle.model_objects.specs.Object.{Object}
use Rattle.model_objects.specs.Named.{Knows}
use Rattle.model_symbols.specs.Symbols.{Table}
use Rattle.model_terms.specs.Cores as cores
use Rattle.model_terms.specs.Faults.{macro_fault}
use Rattle.model_terms.specs.Worlds.{World}
use Rattle.model_expansion.specs.Expansion.{Setting, Progress, Expanded, Makes, Fails, expanded}
use Rattle.model_expansion_forms.specs.Rows.{HasRowFunctions}
use Rattle.model_expansion_parts.specs.Known.{KnowsSupplies}
use Rattle.model_stobjs.specs.Heads.{name_in_use}
use Rattle.model_slots_laws.specs.Standing.{functions_stand}
use Rattle.model_standing.proofs.StandLemmas.{row_functions_stay}
use Rattle.model_supplies.proofs.SupplyLemmas.{supplies_stay}
use Rattle.acl_base.specs.declared.TermId.{TermId}
use Rattle.acl_heap.specs.Objects.{Objects, object_of, Extends}
use Rattle.acl_forms.specs.Forms.{Grown}
use Rattle.acl_forms.specs.Growth.{Knows-later}
use Rattle.acl_terms.specs.Definitions.{seen_formals, seen_definition, definition_reach, definitions_reach}
use Rattle.acl_terms.specs.Forms.{seen_core}
use Rattle.acl_terms.specs.Growth.{seen_formals-later, seen_definitions-later}
use Rattle.acl_terms.specs.declared.definition.Definition.{Definition}
use Rattle.acl_terms.specs.declared.definition.Definition.TheVariants as definition
use Rattle.acl_terms.specs.declared.fault.ExpandFault.TheVariants as fault
use Rattle.acl_terms.specs.declared.fault.ThreadFault.{ThreadFault}
use Rattle.acl_terms.specs.declared.form.Core.{Core}
use Rattle.acl_terms.specs.Signatures.{seen_name}
use Rattle.acl_worlds.specs.Contents.{Content, seen_world, WorldLies}
use Rattle.acl_code.specs.Constants.{ConstantsAreKnown}
use Rattle.acl_code.specs.Tables.{TermsLie}
use Rattle.acl_code.specs.declared.term.Term.{Term}
use Rattle.acl_code.proofs.LawLemmas.{heaps_grow, constants_stay_known}
use Rattle.acl_check.specs.Says.{Says}
use Rattle.acl_expand.specs.declared.progress.Progress as declared
use Rattle.acl_expand.specs.declared.progress.Refused.{Refused}
use Rattle.acl_expand.specs.Looks.{seen_fault, setting_at}
use Rattle.acl_expand.specs.Progresses.{seen_progress}
use Rattle.acl_expand.specs.Refusals.{IsTold}
use Rattle.acl_expand.proofs.SettleLemmas.{setting_later}
use Rattle.acl_macros.specs.Drafts.{seen_draft, ReadsMacro}
use Rattle.acl_macros.specs.declared.draft.MacroDraft.{MacroDraft}
use Rattle.acl_admit_macro.specs.declared.expanded.ExpandedMacro.{ExpandedMacro}
use Rattle.acl_admit_macro.specs.Admitted.{Admits, Refuses, Expands}
use Rattle.acl_admit_macro.specs.Entered.{macro_of, Enters, HasEntered}
use Rattle.acl_admit_macro.specs.Faults.{of_refused, of_thread, Told}
use Rattle.acl_admit_macro.proofs.ReadLemmas as read

-- ---- a draft behind a heap that has grown

module _ {h h' : Objects} (e : Extends h h') (w : Content) (l : WorldLies h w) (t : Table) (steps depth : ℕ) (o : Object ℕ) (before : declared.Progress) (d : MacroDraft)
    (r : ReadsMacro (seen_world h w) t.symbols o h' d) where
  abbrev begun : Setting
  begun = setting_at h w t steps depth

  abbrev at_first : Progress
  at_first = seen_progress t.symbols before

  draft : read.IsWritten begun o at_first (seen_draft h' d)
  draft = read.is_written begun o at_first (seen_draft h' d) r.right r.draft

  pub body_known : (n : ℕ) → 2 ≤ n → Knows n o → Knows n (object_of h' d.body)
  body_known n two k = read.body_known begun o at_first (seen_draft h' d) draft n two k

  here : (f : Expanded cores.Core) → expanded (setting_at h' w t steps depth) (object_of h' d.body) at_first ≡ f → expanded begun (object_of h' d.body) at_first ≡ f
  here f i = subst (λ (y : Setting). expanded y (object_of h' d.body) at_first ≡ f) (setting_later e w t t steps depth l refl) i

  pub refused_told : (k : Objects) (q : Progress) (f : Refused) → IsTold f
      → (f.fault ≢ fault.Memory → expanded (setting_at h' w t steps depth) (object_of h' d.body) at_first ≡ Fails (seen_fault k (seen_name f.inside) f.fault) q) → Told k (Refuses begun o at_first q) (of_refused f)
  refused_told k q f told ends = read.refused_told begun o at_first k (seen_draft h' d) q f draft told (λ other. here (Fails (seen_fault k (seen_name f.inside) f.fault) q) (ends other))

  pub expands : (k : Objects) (q : Progress) (b : Core) → Extends h' k → expanded (setting_at h' w t steps depth) (object_of h' d.body) at_first ≡ Makes (seen_core k b) q
      → Expands begun o at_first q d.name.0 (seen_formals k d.formals) (seen_core k b)
  expands k q b f i =
      let lie = r.lies in
      read.expands begun o at_first (seen_draft h' d) q d.name.0 (seen_formals k d.formals) (seen_core k b) draft (here (Makes (seen_core k b) q) i) refl (sym (seen_formals-later f d.formals (omega (arith, lie))))

-- ---- a world behind a heap that has grown

module _ {t t' : Table} {h h' : Objects} (g : Grown t t' h h') (w : Content) (l : WorldLies h w) (steps depth : ℕ) (o : Object ℕ) (p q : Progress) where
  abbrev x : Setting
  x = setting_at h w t steps depth

  same : seen_world h' w ≡ seen_world h w
  same = seen_definitions-later g.heap w.definitions l

  module _ (m : ExpandedMacro) (i : Expands x o p q m.name.0 (seen_formals h' m.formals) (seen_core h' m.body)) where
    pub name_free : name_in_use (seen_world h' w) (m.name.0 ∷ []) ≡ None
    name_free = ap (λ (v : World). name_in_use v (m.name.0 ∷ [])) same ∙ read.free x o p q _ _ _ i

    pub body_stands : HasRowFunctions (seen_world h w) → functions_stand (seen_world h' w) (seen_core h' m.body) ≡ true
    body_stands r = ap (λ (v : World). functions_stand v (seen_core h' m.body)) same ∙ read.stands x o p q _ _ _ i r

    pub rule_told : (f : ThreadFault) → Says (macro_fault (seen_world h' w) (seen_formals h' m.formals) (seen_core h' m.body)) f → Told h' (Refuses x o p q) (of_thread f)
    rule_told f s = read.rule_told x o p q _ _ _ i h' f (subst (λ (v : World). Says (macro_fault v (seen_formals h' m.formals) (seen_core h' m.body)) f) same s)

    module _ (new : Content) (ts : List Term) (term : TermId) (e : Enters h' w new ts (macro_of m term)) where
      abbrev entry : Definition
      entry = definition.Macro (macro_of m term)

      seen_new : seen_world h' new ≡ seen_world h w ++ seen_definition h' entry ∷ []
      seen_new =
          ap (λ (v : Content). seen_world h' v) e.world
          ∙ (map-append (seen_definition h') w.definitions (entry ∷ []) ∙ ap (λ (v : World). v ++ seen_definition h' entry ∷ []) same)

      pub admits : Admits x o p q (seen_world h' new) m.name.0
      admits = read.admits x o p q _ _ _ i (seen_world h' new) (ap (λ (v : World). macro_fault v (seen_formals h' m.formals) (seen_core h' m.body)) (sym same) ∙ e.accepted) seen_new

      pub has_entered : HasEntered h' w new ts x o p q m.name.0
      has_entered = record { definition = macro_of m term; named = refl; expands = i; enters = e }

      pub world_lies : WorldLies h' new
      world_lies = subst (λ (v : Content). WorldLies h' v) (sym e.world) (lies_with (length h') w.definitions entry (omega (arith, l, g.heap.longer)) e.lies)
        where
          lies_with : (n : ℕ) (ds : List Definition) (d : Definition) → definitions_reach ds ≤ n → definition_reach d ≤ n → definitions_reach (ds ++ d ∷ []) ≤ n
          lies_with n [] d all one = omega (arith, all, one)
          lies_with n (c ∷ ds) d all one = let rest : definitions_reach ds ≤ n = omega (arith, all) in let k = lies_with n ds d rest one in omega (arith, all, k)

      pub rows_stay : HasRowFunctions (seen_world h w) → HasRowFunctions (seen_world h' new)
      rows_stay r = subst (λ (v : World). HasRowFunctions v) (sym seen_new) (row_functions_stay.more (seen_world h w) (seen_definition h' entry ∷ []) r)

      pub supplies_more : Knows (length t.symbols) o → KnowsSupplies (length t.symbols) (seen_world h w) → KnowsSupplies (length t'.symbols) (seen_world h' new)
      supplies_more k s =
          let n = length t'.symbols in
          let two = s.enough in
          let more : 2 ≤ n = omega (arith, two, g.table.longer) in
          let known : Knows n o = Knows-later (length t.symbols) n o g.table.longer k in
          subst (λ (v : World). KnowsSupplies n v) (sym seen_new)
          (supplies_stay.more n (seen_world h w) (seen_definition h' entry ∷ []) (supplies_stay.symbols (length t.symbols) n (seen_world h w) g.table.longer s) (read.supplied x o p q _ _ _ i n more known, tt))

  pub lies_still : WorldLies h' w
  lies_still = omega (arith, l, g.heap.longer)

  pub rows_still : HasRowFunctions (seen_world h w) → HasRowFunctions (seen_world h' w)
  rows_still r = subst (λ (v : World). HasRowFunctions v) (sym same) r

-- ---- a table

module _ {t t' : Table} {h h' : Objects} (g : Grown t t' h h') (ts : List Term) (l : TermsLie h ts) where
  pub words_still : TermsLie h' ts
  words_still = heaps_grow.words h h' ts g.heap l

  pub constants_still : ConstantsAreKnown (length t.symbols) h ts → ConstantsAreKnown (length t'.symbols) h' ts
  constants_still k =
      constants_stay_known.symbols (length t.symbols) (length t'.symbols) h' ts g.table.longer words_still (constants_stay_known.heap (length t.symbols) h h' ts g.heap l k)
