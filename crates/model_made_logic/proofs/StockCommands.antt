-- Commands keep what concrete stobjs are made of.
use Rattle.std.proofs.Common.{◌≡◌, ℕ, List, [], ◌∷◌, ◌++◌, map, Bool, true, false, Option, Some, None, refl, sym, ap, ◌∙◌, inl, inr, arith}
use Rattle.std.specs.Prelude.{nat_eq, option_map, if◌then◌else◌}
use Rattle.model_objects.specs.Object.{Object}
use Rattle.model_prims.specs.Rows.{Row, table}
use Rattle.model_lists.specs.Lists.{StobjList}
use Rattle.model_terms.specs.Cores.{Core}
use Rattle.model_terms.specs.Worlds.{World, Definition, Signature, AbstractDescriptor, Primitive, Defined, Macro, Constant, Concrete, Generated, Abstract, OfAbstract, Named, Signed, definition}
use Rattle.model_terms.specs.Faults.{Fault, expression_fault}
use Rattle.model_eval.specs.Outcomes.{Outcome, Gives, Stops, Unknown}
use Rattle.model_eval.specs.Checked.{checked, begun, live}
use Rattle.model_expansion.specs.Words.{in_package_word, defpkg_word, defconst_word, defmacro_word, defstobj_word, defabsstobj_word}
use Rattle.model_expansion.specs.Expansion.{Setting, Progress, Expanded, Makes, Fails, expanded, at_start}
use Rattle.model_expansion_forms.specs.Rows.{HasRowFunctions}
use Rattle.model_stobjs.specs.Answers.{EventResult, Grants, Refuses, Halts}
use Rattle.model_stobjs.specs.Descriptors.{descriptor_read}
use Rattle.model_stobjs.specs.Entries.{stobj_entries}
use Rattle.model_stobjs.specs.Abstracts.{abstract_read, abstract_entries}
use Rattle.model_stobjs.specs.Obligations.{obligations, too_large}
use Rattle.model_events.specs.Functions.{Draft, drafts_of, Candidate, all_expanded, with_names, signatures, defined, candidates_then, drafts_then, functions_then, written_functions, functions_read}
use Rattle.model_events.specs.Functions as functions
use Rattle.model_events.specs.Macros.{macro_read}
use Rattle.model_events.specs.Constants.{constant_read, package_read, current_read}
use Rattle.model_events.specs.Events.{Limits, Obliged, Admitted, setting, defining, definitions_admitted, stobj_admitted, package_admitted, current_admitted, abstract_admitted, admitted}
use Rattle.model_books.specs.Opening.{Session, primitive_numbers, opening_constants, opening_world, opening_session, primitives_named}
use Rattle.model_books.specs.Commands.{Answer, Answered, live_scope, event_outcome, evaluated_outcome, core_outcome, expanded_outcome, live_list, at_once, ways, command}
use Rattle.model_books_laws.proofs.WayLemmas.{ShowHolds, AllWays, way_holds}
use Rattle.model_made.proofs.WorldLemmas.{EachDefinition, each_found, definition_is}
use Rattle.model_made.proofs.OpeningLemmas.{IsPlain, plain_names}
use Rattle.model_made.proofs.EventLemmas.{IfGrants, grants_then, grants_unless, grants_needing, grants_expanding, macro_plain, constant_plain}
use Rattle.model_made.specs.Lawful.{IsLawfulWorld, stobj_names}
use Rattle.model_made.proofs.CommandLemmas.{more_names, object_stands}
use Rattle.model_made.proofs.StobjLemmas.{entries_names}
use Rattle.model_stobjs.specs.Heads.{name_in_use}
use Rattle.model_stobjs.specs.Abstracts as abstracts
use Rattle.model_terms.specs.Classes.{has, repeats}
use Rattle.model_accepted.proofs.AcceptLemmas.{neither}
use Rattle.std.proofs.lemmas.List.{append-nil}
use Rattle.std.proofs.lemmas.Bool.Decides.{nat_tests}
use Rattle.model_made.proofs.GrowthLemmas.{functions_still}
use Rattle.model_made.proofs.DraftLemmas.{none_or, first_free, named_draft, AreSound, written_drafts}
use Rattle.model_made.proofs.CandidateLemmas.{AreExpanded, AreMadeOf, drafts_expanded}
use Rattle.model_made.proofs.DescriptorLemmas.{IsNew, descriptor_new}
use Rattle.model_made.proofs.ExportLemmas.{abstract_names, IsAccepted, abstract_accepted}
use Rattle.model_made_logic.proofs.AbstractStockLemmas.{abstract_stocked}
use Rattle.model_made_logic.proofs.OutputLemmas.{AllSignOutput, signatures_output, signed_output}
use Rattle.model_prims.specs.declared.prim.Prim.TheVariants as prim
use Rattle.model_prims.specs.declared.prim.Relation.TheVariants as relation
use Rattle.model_prims.specs.declared.prim.Listing.TheVariants as listing
use Rattle.model_expansion.specs.Words.{equal_word, nth_word}
use Rattle.model_made_logic.specs.Exports.{prim_of}
use Rattle.model_made_logic.proofs.StockLemmas.{StockedDefinition, IsStocked, prim_more, stocked_more, entries_stocked, HasOwnInitials, descriptor_initials}

-- ---- what events grant

abbrev Anything : {A : Type 0} → A → Type 0
Anything a = Unit {0}

any_grants : {A : Type 0} (r : EventResult A) → IfGrants (Anything {A = A}) r
any_grants (Grants a p) = tt
any_grants (Refuses r p) = tt
any_grants (Halts stop inside p) = tt

grants_both : {A : Type 0} (P Q : A → Type 0) (r : EventResult A) → IfGrants P r → IfGrants Q r → IfGrants (λ a. P a × Q a) r
grants_both P Q (Grants a p) h i = (h, i)
grants_both P Q (Refuses r p) h i = tt
grants_both P Q (Halts stop inside p) h i = tt

-- definitions that are of no concrete stobj
abbrev AreOther : World → Type 0
AreOther new = (w : World) → EachDefinition (StockedDefinition w) new

plain_other : (new : World) → EachDefinition IsPlain new → AreOther new
plain_other [] h w = tt
plain_other (Primitive name row ∷ new) h w = (tt, plain_other new h.1 w)
plain_other (Constant name value ∷ new) h w = (tt, plain_other new h.1 w)
plain_other (Defined f ∷ new) h w = absurd h.0
plain_other (Macro name formals body ∷ new) h w = (tt, plain_other new h.1 w)
plain_other (Concrete d class ∷ new) h w = absurd h.0
plain_other (Generated g ∷ new) h w = absurd h.0
plain_other (Abstract d ∷ new) h w = absurd h.0
plain_other (OfAbstract f ∷ new) h w = absurd h.0
plain_other (Named name formals ∷ new) h w = absurd h.0
plain_other (Signed name formals signature executable ∷ new) h w = absurd h.0

defined_other : (sigs : List (ℕ × Signature)) → AllSignOutput sigs → (v : World) (cs : List Candidate) → AreExpanded v cs → AreOther (map (defined sigs) cs)
defined_other sigs o v [] h w = tt
defined_other sigs o v (c ∷ cs) h w = ((h.0.guard.several, h.0.body.several, signed_output sigs o c), defined_other sigs o v cs h.1 w)

-- of no stobj at all
abbrev AreBeside : World → Type 0
AreBeside new = AreOther new × (stobj_names new ≡ [])

none_defined : (sigs : List (ℕ × Signature)) (cs : List Candidate) → stobj_names (map (defined sigs) cs) ≡ []
none_defined sigs [] = refl
none_defined sigs (c ∷ cs) = none_defined sigs cs

functions_other : (x : Setting) → IsLawfulWorld x.world → IsStocked x.world → (head : ℕ) (d : Object ℕ) (p : Progress) → IfGrants AreBeside (functions_read x head d p)
unfolding functions_read
functions_other x l stocked head d p =
    grants_needing AreBeside (written_functions head d) _ (functions_then x) p (λ fs same.
    grants_unless AreBeside (functions.written_fault p.symbols x.world fs) (drafts_then x (drafts_of p.symbols fs)) p (λ free. of_drafts (drafts_of p.symbols fs) (written_drafts p.symbols x.world fs free).sound))
  where
    of_drafts : (ds : List Draft) → AreSound ds → IfGrants AreBeside (drafts_then x ds p)
    of_drafts ds sound =
        let named : Setting = record x { world = with_names x.world ds } in
        let rows : HasRowFunctions (with_names x.world ds) = functions_still x.world (map named_draft ds) l in
        grants_expanding AreBeside (all_expanded named ds [] p) (candidates_then x.world) (λ cs q made.
        let is : AreMadeOf named rows ds cs = drafts_expanded named rows ds p q cs sound made in
        grants_unless AreBeside _ (Grants (map (defined (signatures x.world cs)) cs)) q (λ ruled. (defined_other (signatures x.world cs) (signatures_output x.world stocked (with_names x.world ds) cs is.each) (with_names x.world ds) cs is.each, none_defined (signatures x.world cs) cs)))

-- ---- worlds

-- ---- names of stobjs

none_more : (w new : World) → repeats (stobj_names w) ≡ false → stobj_names new ≡ [] → repeats (stobj_names (w ++ new)) ≡ false
none_more w new h e = ap repeats (more_names w new ∙ (ap (λ (ns : List ℕ). stobj_names w ++ ns) e ∙ append-nil (stobj_names w))) ∙ h

still_not : (xs : List ℕ) (x y : ℕ) → has xs y ≡ false → nat_eq y x ≡ false → has (xs ++ x ∷ []) y ≡ false
still_not [] x y h e = rw e refl
still_not (z ∷ xs) x y h e =
    let both : (nat_eq y z ≡ false) × (has xs y ≡ false) = neither (nat_eq y z) (has xs y) h in
    rw (both.0, still_not xs x y both.1 e) refl

last_once : (xs : List ℕ) (x : ℕ) → repeats xs ≡ false → has xs x ≡ false → repeats (xs ++ x ∷ []) ≡ false
last_once [] x r h = refl
last_once (y ∷ xs) x r h =
    let both : (has xs y ≡ false) × (repeats xs ≡ false) = neither (has xs y) (repeats xs) r in
    let apart : (nat_eq x y ≡ false) × (has xs x ≡ false) = neither (nat_eq x y) (has xs x) h in
    rw (still_not xs x y both.0 (turned x y apart.0), last_once xs x both.1 apart.1) refl
  where
    turned : (a b : ℕ) → nat_eq a b ≡ false → nat_eq b a ≡ false
    turned a b e = grind (arith, nat_tests)

one_more : (w new : World) (x : ℕ) → repeats (stobj_names w) ≡ false → stobj_names new ≡ x ∷ [] → definition w x ≡ None → repeats (stobj_names (w ++ new)) ≡ false
one_more w new x h e none = ap repeats (more_names w new ∙ ap (λ (ns : List ℕ). stobj_names w ++ ns) e) ∙ last_once (stobj_names w) x h (not_there (has (stobj_names w) x) refl)
  where
    clash : {d : Definition} → None ≡ Some d → ⊥
    clash g = cc

    not_there : (b : Bool) → has (stobj_names w) x ≡ b → b ≡ false
    not_there true f =
        let stands : (d : Definition) × (definition w x ≡ Some d) = object_stands w x f in
        absurd (clash (sym none ∙ stands.1))
    not_there false f = refl

stocked_with : (w new : World) → IsStocked w → repeats (stobj_names (w ++ new)) ≡ false → EachDefinition (StockedDefinition (w ++ new)) new → IsStocked (w ++ new)
stocked_with w new h once k = record {
  each = λ x d e. elim (definition_is w new x d e) [ inl old ↦ stocked_more w new d (h.each x d old) | inr fresh ↦ each_found (StockedDefinition (w ++ new)) new k x d fresh.1 ];
  equal = prim_more w new equal_word _ h.equal;
  nth = prim_more w new nth_word _ h.nth;
  once = once;
}

module _ (k : Limits) (s : Session) (lawful : IsLawfulWorld s.environment.world) (stocked : IsStocked s.environment.world) where
  abbrev world : World
  world = s.environment.world

  abbrev StaysStocked : Admitted → Type 0
  StaysStocked a = IsStocked a.environment.world

  abbrev Granted : EventResult Admitted → Type 0
  Granted r = IfGrants StaysStocked r

  granted_if : (b : Bool) (q r : EventResult Admitted) → Granted q → Granted r → Granted (if b then q else r)
  granted_if true q r h g = h
  granted_if false q r h g = g

  other_granted : (head : ℕ) (new : World) (p : Progress) → AreBeside new → Granted (definitions_admitted s.environment head new p)
  other_granted head new p h = stocked_with world new stocked (none_more world new stocked.once h.1) (h.0 (world ++ new))

  abstract_granted : (d : AbstractDescriptor) (p : Progress) → IsAccepted world d → Granted (abstract_admitted s.environment d p)
  abstract_granted d p h =
      let os = obligations world p.symbols d in
      grants_unless StaysStocked (too_large os) (Grants (record { environment = defining s.environment (abstract_entries world d); created = Some d.name; said = Obliged d.name os })) p
      (λ light. stocked_with world (abstract_entries world d) stocked
      (one_more world (abstract_entries world d) d.name stocked.once (abstract_names world d) (first_free world d.name _ (none_or (name_in_use world (abstracts.new_names d)) _ h).0).0.nothing) (abstract_stocked world stocked lawful d h))

  event_granted : (head : ℕ) (d : Object ℕ) (p : Progress) → Granted (admitted s.environment k head d p)
  unfolding admitted
  event_granted head d p =
      let x = setting s.environment k in
      granted_if (nat_eq head in_package_word) _ _ (grants_then Anything StaysStocked (current_read s.environment.packages d p) (current_admitted s.environment) (any_grants _) (λ n q h. stocked))
      (granted_if (nat_eq head defpkg_word) _ _ (grants_then Anything StaysStocked (package_read x d p) (package_admitted s.environment) (any_grants _) (λ n q h. stocked))
      (granted_if (nat_eq head defconst_word) _ _ (grants_then (EachDefinition IsPlain) StaysStocked (constant_read x d p) (definitions_admitted s.environment head) (constant_plain x d p) (λ new q h. other_granted head new q (plain_other new h, plain_names new h)))
      (granted_if (nat_eq head defmacro_word) _ _ (grants_then (EachDefinition IsPlain) StaysStocked (macro_read x d p) (definitions_admitted s.environment head) (macro_plain x d p) (λ new q h. other_granted head new q (plain_other new h, plain_names new h)))
      (granted_if (nat_eq head defstobj_word) _ _ (grants_then (λ o. HasOwnInitials world o × IsNew world o) StaysStocked (descriptor_read world s.environment.packages d p) (stobj_admitted s.environment)
      (grants_both (HasOwnInitials world) (IsNew world) (descriptor_read world s.environment.packages d p) (descriptor_initials world s.environment.packages d p) (descriptor_new world s.environment.packages d p))
      (λ o q h. stocked_with world (stobj_entries world o) stocked
      (one_more world (stobj_entries world o) o.name stocked.once (entries_names world o) (first_free world o.name _ h.0.1).0.nothing) (entries_stocked o world h.0.1 h.0.0 h.1.congruent stocked)))
      (granted_if (nat_eq head defabsstobj_word) _ _ (grants_then (IsAccepted world) StaysStocked (abstract_read world s.environment.packages d p) (abstract_admitted s.environment) (abstract_accepted world s.environment.packages d p) abstract_granted)
      (grants_then AreBeside StaysStocked (functions_read x head d p) (definitions_admitted s.environment head) (functions_other x lawful stocked head d p) (other_granted head)))))))

  -- ---- commands

  abbrev IsKept : Answered → Type 0
  IsKept o = IsStocked o.session.environment.world

  event_kept : (r : EventResult Admitted) → Granted r → IsKept (event_outcome k s r)
  event_kept (Grants a p) h = h
  event_kept (Refuses r p) h = stocked
  event_kept (Halts stop inside p) h = stocked

  outcome_kept : (p : Progress) (e : Outcome ℕ) → IsKept (evaluated_outcome k s p e)
  outcome_kept p (Gives values state) = stocked
  outcome_kept p (Stops stop origin state) = stocked
  outcome_kept p Unknown = stocked

  core_kept : (f : Core) (p : Progress) (fault : Option Fault) → IsKept (core_outcome k s f p fault)
  core_kept f p (Some fault) = stocked
  core_kept f p None = outcome_kept p (checked world s.environment.packages k.steps k.depth f (live s.stobjs) (begun p.symbols s.stobjs p.calls))

  expanded_kept : (e : Expanded Core) → IsKept (expanded_outcome k s e)
  expanded_kept (Makes f p) = core_kept f p (expression_fault world (live_scope s.stobjs) f)
  expanded_kept (Fails fault p) = stocked

  shown_kept : (v : Option (StobjList ℕ)) (answer : StobjList ℕ → Answer ℕ) → ShowHolds IsKept (ways k s) s.symbols (option_map (λ m. at_once k s (answer m)) v)
  shown_kept None answer = tt
  shown_kept (Some m) answer = stocked

  all_kept : AllWays IsKept (ways k s) s.symbols
  all_kept = record {
    event = λ head d. event_kept (admitted s.environment k head d (at_start s.symbols)) (event_granted head d (at_start s.symbols));
    skipped = stocked;
    refused = λ r. stocked;
    expression = λ form. expanded_kept (expanded (setting s.environment k) form (at_start s.symbols));
    show = λ x. shown_kept (live_list k s x) _;
    cells = stocked;
  }

  pub command_stocked : (form : Object ℕ) → IsStocked (command k s form).session.environment.world
  unfolding command
  command_stocked form = way_holds IsKept (ways k s) s.symbols all_kept form

-- ---- the session that every run begins with

primitives_other : (ns : List ℕ) (rows : List Row) (new : World) → AreOther new → AreOther (primitives_named ns rows ++ new)
primitives_other [] rows new h w = h w
primitives_other (n ∷ ns) [] new h w = h w
primitives_other (n ∷ ns) (r ∷ rs) new h w = (tt, primitives_other ns rs new h w)

opening_other : AreOther opening_world
unfolding opening_world
opening_other = primitives_other primitive_numbers table opening_constants (λ w. (tt, (tt, tt)))

opening_equal : prim_of (definition opening_world equal_word) ≡ Some (prim.Relation relation.Equal)
unfolding opening_world table
opening_equal = refl

opening_nth : prim_of (definition opening_world nth_word) ≡ Some (prim.Listing listing.Nth)
unfolding opening_world table
opening_nth = refl

opening_once : repeats (stobj_names opening_world) ≡ false
unfolding opening_world table
opening_once = refl

pub opening_stocked : IsStocked opening_session.environment.world
unfolding opening_session
opening_stocked = record { once = opening_once; each = each_found (StockedDefinition opening_world) opening_world (opening_other opening_world); equal = opening_equal; nth = opening_nth }
