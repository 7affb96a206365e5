-- Functions that are admitted together were checked in the world in which they stand by their signatures.
use Rattle.std.proofs.Common.{◌≡◌, ℕ, ◌+◌, List, [], ◌∷◌, ◌++◌, map, Bool, true, false, Option, Some, None, refl, sym, ap, ◌∙◌, subst, inl, inr}
use Rattle.std.specs.Prelude.{◌⊎◌, option_map, option_and_then, if◌then◌else◌}
use Rattle.std.specs.Option.{option_or, option_map_or}
use Rattle.std.specs.List.{AllByRecursion}
use Rattle.model_terms.specs.declared.rule.Mode.TheVariants.{Executable}
use Rattle.model_terms.specs.Cores as cores
use Rattle.model_terms.specs.Cores.{Core, Place}
use Rattle.model_terms.specs.Worlds.{World, Out, Ordinary, Stobj, Scope, Signature, Function, Descriptor, Definition, definition, Defined, Concrete, Named, Signed}
use Rattle.model_terms.specs.Classes.{has, class_in, class_of, is_stobj_name}
use Rattle.model_terms.specs.Outputs.{signature_in}
use Rattle.model_terms.specs.Accessors.{accessor_in, runs, is_executable}
use Rattle.model_terms.specs.Sites.{one_ordinary}
use Rattle.model_terms.specs.Rounds.{formal_kind, formal_kinds, formal_entry, formal_scope}
use Rattle.model_terms.specs.Faults.{Fault, first_fault, at, head_fault, function_fault, logic_fault, outs_of, member_fault, clique_fault}
use Rattle.model_eval_laws.specs.Agreement.{ClosedDefinition, StandsIn}
use Rattle.model_accepted.specs.Threaded.{IsFormed, Suits, AreFormals, formal_entries, IsAdmitted, IsThreaded}
use Rattle.model_lawful.specs.Growth.{IsSettled, Becomes}
use Rattle.model_lawful.proofs.SuitLemmas.{suits_what_it_becomes}
use Rattle.model_window.specs.Stands.{Origins}
use Rattle.model_fitting.specs.Steps.{WasAccepted, AreOrigins}
use Rattle.model_expansion.specs.Expansion.{Setting, Progress, Makes, arity_of}
use Rattle.model_expansion_forms.specs.Nodes.{EachNode, IsOwnCall, IsWellCalled}
use Rattle.model_expansion_forms.specs.Rows.{HasRowFunctions}
use Rattle.model_expansion_forms.proofs.NodeLemmas.{each_wider}
use Rattle.model_events.specs.Functions.{ordinary_signature, WrittenFunction, Candidate, before_rounds, signatures, signature_for, signed, defined, members, written_fault, drafts_of, with_names, all_expanded}
use Rattle.model_made.specs.Lawful.{IsWellMade, IsLawfulWorld}
use Rattle.model_made.proofs.WorldLemmas.{EachDefinition, definition_old, definition_new, definition_is, settled}
use Rattle.model_made.proofs.FormLemmas.{formed_of}
use Rattle.model_made.proofs.GrowthLemmas.{Brings, functions_still, closed_grown, objects_grown, made_grown}
use Rattle.model_made.proofs.MemberLemmas.{IsIn, class_more, same_formals}
use Rattle.model_made.proofs.DraftLemmas.{AreNew, named_draft, written_drafts}
use Rattle.model_made.proofs.CandidateLemmas.{named, IsExpanded, AreExpanded, AreMadeOf, drafts_expanded, candidate_at, Stand, standing_at, standing_in, named_stand, is_found, found_in, new_name, expanded_in, running_kinds, as_many_inputs}
use Rattle.model_made.proofs.FunctionLemmas.{functions_lawful}
use Rattle.model_origins.specs.Plain.{IsOfNoStobj}
use Rattle.model_origins.specs.Going.{GoOn, HaveElse}
use Rattle.model_origins.specs.Before.{IsBefore}
use Rattle.model_origins.specs.Admitted.{AreAdmitted, checking_world, world_with}
use Rattle.model_origins.specs.Laws.{FunctionsKeepOrigins, EventsAdmit}
use Rattle.model_origins.proofs.KeepLemmas.{origins_still, threaded_still, body_still}

neither_fault : (a b : Option Fault) → option_or a b ≡ None → (a ≡ None) × (b ≡ None)
neither_fault None b e = (refl, e)
neither_fault (Some f) b e = cc

none_at : (outer : Place) (a : Option Fault) → at outer a ≡ None → a ≡ None
none_at outer None e = refl
none_at outer (Some f) e = cc

none_some : {A B : Type 0} {a : A} (v : Option A) → v ≡ None → v ≡ Some a → B
none_some v e f = cc

some_same : {A : Type 0} {a b : A} → Some a ≡ Some b → a ≡ b
some_same e = cc

found_mapped : (f : Candidate → Definition) (v : Option Candidate) (d : Definition) → option_map f v ≡ Some d → (c : Candidate) × (v ≡ Some c) × (d ≡ f c)
found_mapped f None d e = cc
found_mapped f (Some c) d e = (c, refl, sym (some_same e))

each_mapped : (P : Definition → Type 0) (f : Candidate → Definition) → ((c : Candidate) → P (f c)) → (cs : List Candidate) → EachDefinition P (map f cs)
each_mapped P f h [] = tt
each_mapped P f h (c ∷ cs) = (h c, each_mapped P f h cs)

-- ---- formals

-- formals, each ordinary or the stobj of its name
kinds_are : (c : World) (stobjs xs : List ℕ) → AreFormals xs (map (formal_kind c stobjs) xs)
kinds_are c stobjs [] = tt
kinds_are c stobjs (x ∷ xs) = go (has stobjs x) (is_stobj_name c x) (kinds_are c stobjs xs)
  where
    go : (a b : Bool) → AreFormals xs (map (formal_kind c stobjs) xs) → AreFormals (x ∷ xs) ((if a then (if b then Stobj x else Ordinary) else Ordinary) ∷ map (formal_kind c stobjs) xs)
    go true true h = (refl, h)
    go true false h = h
    go false b h = h

entries_are : (c : World) (stobjs xs : List ℕ) → map (formal_entry c stobjs) xs ≡ formal_entries xs (map (formal_kind c stobjs) xs)
entries_are c stobjs [] = refl
entries_are c stobjs (x ∷ xs) = ap (λ (es : Scope). formal_entry c stobjs x ∷ es) (entries_are c stobjs xs)

-- ---- the world of the rules

pub all_defined : (known : List (ℕ × Signature)) (cs : List Candidate) → AllByRecursion IsOfNoStobj (map (defined known) cs)
all_defined known [] = tt
all_defined known (c ∷ cs) = (tt, all_defined known cs)

module _ (w : World) (cs : List Candidate) (l : IsLawfulWorld w) (a : AreAdmitted w cs) where
  abbrev pub sigs : List (ℕ × Signature)
  sigs = signatures w cs

  abbrev pub ruling : World
  ruling = checking_world w cs

  abbrev pub after : World
  after = world_with w cs

  signed_stand : Stand (signed sigs)
  signed_stand = record { names = λ c. refl }

  defined_stand : Stand (defined sigs)
  defined_stand = record { names = λ c. refl }

  same_arity : (x : ℕ) → arity_of (definition (w ++ map named cs) x) ≡ arity_of (definition ruling x)
  same_arity x = ap arity_of (standing_in named named_stand w cs x) ∙ (go (definition w x) (candidate_at cs x) ∙ sym (ap arity_of (standing_in (signed sigs) signed_stand w cs x)))
    where
      go : (d : Option Definition) (v : Option Candidate) → arity_of (option_or d (option_map named v)) ≡ arity_of (option_or d (option_map (signed sigs) v))
      go (Some d) v = refl
      go None None = refl
      go None (Some c) = refl

  own_call : (f : Core) → IsOwnCall (w ++ map named cs) f → IsOwnCall ruling f
  own_call (cores.Var x) h = tt
  own_call (cores.Const o) h = tt
  own_call (cores.If a b c) h = tt
  own_call (cores.Let names bound body) h = tt
  own_call (cores.Mv parts) h = tt
  own_call (cores.MvLet names bound body) h = tt
  own_call (cores.StobjLet names bound vars producer consumer) h = tt
  own_call (cores.WithLocal stobj names producer body) h = tt
  own_call (cores.MustBeEqual logic exec) h = tt
  own_call (cores.Call f actuals) h = sym (same_arity f) ∙ h

  closed_ruling : (f : Core) → IsWellCalled (w ++ map named cs) f → EachNode (IsOwnCall ruling) f
  closed_ruling f h = each_wider (IsOwnCall (w ++ map named cs)) (IsOwnCall ruling) own_call f h.closed

  is_new : (f : Candidate → Definition) → Stand f → (x : ℕ) (d : Definition) → definition (map f cs) x ≡ Some d → (c : Candidate) × IsIn c cs × (x ≡ c.member.name) × (d ≡ f c)
  is_new f stand x d e =
      let m = found_mapped f (candidate_at cs x) d (sym (standing_at f stand cs x) ∙ e) in
      let found = is_found cs x m.0 m.1 in
      (m.0, found.0, found.1, m.2)

  no_class : {B : Type 0} (k : ℕ) (d : Definition) (c : Candidate) → d ≡ signed sigs c → class_in d ≡ Some k → B
  no_class k d c e f = none_some (class_in d) (ap class_in e) f

  ruling_brings : Brings w (map (signed sigs) cs)
  ruling_brings = record {
    closed = λ x d none e. let c = is_new (signed sigs) signed_stand x d e in subst (ClosedDefinition (StandsIn ruling)) (sym c.3) tt;
    made = λ x d none e. let c = is_new (signed sigs) signed_stand x d e in subst (IsWellMade ruling) (sym c.3) (as_many_inputs w cs a.names c.0 c.1);
    alike = λ x k d none e f. let c = is_new (signed sigs) signed_stand x d e in no_class k d c.0 c.3 f;
    there = λ x k d none e f. let c = is_new (signed sigs) signed_stand x d e in no_class k d c.0 c.3 f;
    accessors = λ x d a none e f. let c = is_new (signed sigs) signed_stand x d e in none_some (accessor_in ruling d) (ap (accessor_in ruling) c.3) f;
    children = λ x class d none e. let c = is_new (signed sigs) signed_stand x (Concrete d class) e in not_signed c.0 c.3;
    nested = λ x class d none e. let c = is_new (signed sigs) signed_stand x (Concrete d class) e in not_signed c.0 c.3;
  }
    where
      not_signed : {B : Type 0} {d : Descriptor} {class : ℕ} (c : Candidate) → Concrete d class ≡ signed sigs c → B
      not_signed c e = cc

  becomes_after : Becomes ruling after
  becomes_after = record { each = each }
    where
      each : (x : ℕ) (d : Definition) → definition ruling x ≡ Some d → IsSettled after x d
      each x d e = go (definition_is w (map (signed sigs) cs) x d e)
        where
          go : (definition w x ≡ Some d) ⊎ ((definition w x ≡ None) × (definition (map (signed sigs) cs) x ≡ Some d)) → IsSettled after x d
          go (inl f) = settled after x d (l.admitted x d f) (definition_old w (map (defined sigs) cs) x d f)
          go (inr f) =
              let c = is_new (signed sigs) signed_stand x d f.1 in
              let at_name : candidate_at cs x ≡ Some c.0 = ap (candidate_at cs) c.2 ∙ found_in w cs a.names c.0 c.1 in
              let there : definition after x ≡ Some (defined sigs c.0) = definition_new w (map (defined sigs) cs) x f.0 ∙ (standing_at (defined sigs) defined_stand cs x ∙ ap (option_map (defined sigs)) at_name) in
              subst (IsSettled after x) (sym c.3) (_, there, refl, refl)

  pub before_after : IsBefore ruling after
  before_after = record { closed = closed_grown w (map (signed sigs) cs) l ruling_brings; stobjs = objects_grown w (map (signed sigs) cs) l ruling_brings; becomes = becomes_after }

  suits_after : Suits ruling after
  suits_after = suits_what_it_becomes.suits ruling after before_after.closed before_after.stobjs before_after.becomes

  ruling_made : (x : ℕ) (d : Definition) → definition ruling x ≡ Some d → IsWellMade ruling d
  ruling_made = made_grown w (map (signed sigs) cs) l ruling_brings

  formed_ruling : (f : Core) → IsWellCalled (w ++ map named cs) f → IsFormed ruling f
  formed_ruling f h = formed_of ruling ruling_made f (closed_ruling f h) h.formed

  -- ---- a candidate in it

  signed_there : (c : Candidate) → IsIn c cs → definition ruling c.member.name ≡ Some (signed sigs c)
  signed_there c i =
      definition_new w (map (signed sigs) cs) c.member.name (new_name w cs a.names c i)
      ∙ (standing_at (signed sigs) signed_stand cs c.member.name ∙ ap (option_map (signed sigs)) (found_in w cs a.names c i))

  same_classes : (x : ℕ) → class_of (w ++ map before_rounds cs) x ≡ class_of ruling x
  same_classes x =
      class_more w (map before_rounds cs) (each_mapped (λ d. class_in d ≡ None) before_rounds (λ c. before_class c.executable c) cs) x
      ∙ sym (class_more w (map (signed sigs) cs) (each_mapped (λ d. class_in d ≡ None) (signed sigs) (λ c. refl) cs) x)
    where
      before_class : (b : Bool) (c : Candidate) → class_in (if b then Named c.member.name c.member.formals else Signed c.member.name c.member.formals (ordinary_signature c.member.formals) false) ≡ None
      before_class true c = refl
      before_class false c = refl

  kinds_of : (c : Candidate) → IsIn c cs → c.executable ≡ true → (signature_for sigs c).ins ≡ formal_kinds ruling c.member
  kinds_of c i run = running_kinds w cs a.names c i run ∙ same_formals (w ++ map before_rounds cs) ruling same_classes c.member

  no_fault_in : (ds : List Candidate) (k : ℕ) → clique_fault ruling k (members ds) ≡ None → (c : Candidate) → IsIn c ds → (m : ℕ) × (member_fault ruling m c.member ≡ None)
  no_fault_in [] k e c i = absurd i
  no_fault_in (d ∷ ds) k e c (inl same) =
      let both = neither_fault (member_fault ruling k d.member) (clique_fault ruling (k + 1) (members ds)) e in
      (k, ap (λ (q : Candidate). member_fault ruling k q.member) same ∙ both.0)
  no_fault_in (d ∷ ds) k e c (inr i) =
      let both = neither_fault (member_fault ruling k d.member) (clique_fault ruling (k + 1) (members ds)) e in
      no_fault_in ds (k + 1) both.1 c i

  no_faults : (c : Candidate) → IsIn c cs → c.executable ≡ true
      → (first_fault ruling Executable (formal_scope ruling c.member) c.member.guard one_ordinary ≡ None) × (first_fault ruling Executable (formal_scope ruling c.member) c.member.body (outs_of ruling c.member.name) ≡ None)
  no_faults c i run =
      let fault = no_fault_in cs 0 a.accepted c i in
      let m = fault.0 in
      let runs_there : runs ruling c.member.name ≡ true = ap (λ (d : Option Definition). option_map_or is_executable d true) (signed_there c i) ∙ run in
      let faults : function_fault ruling m c.member (outs_of ruling c.member.name) ≡ None
      = ap (λ (r : Bool). if r then function_fault ruling m c.member (outs_of ruling c.member.name) else logic_fault ruling m c.member) (sym runs_there) ∙ fault.1 in
      let parts = neither_fault (head_fault ruling m c.member) _ faults in
      let both = neither_fault (at (m ∷ 0 ∷ []) (first_fault ruling Executable (formal_scope ruling c.member) c.member.guard one_ordinary))
      (at (m ∷ 1 ∷ []) (first_fault ruling Executable (formal_scope ruling c.member) c.member.body (outs_of ruling c.member.name))) parts.1 in (
        none_at (m ∷ 0 ∷ []) _ both.0,
        none_at (m ∷ 1 ∷ []) _ both.1,
      )

  is_expanded : (c : Candidate) → IsIn c cs → IsExpanded (w ++ map named cs) c
  is_expanded c i = expanded_in (w ++ map named cs) cs a.expanded c i

  accepted_form : (c : Candidate) → IsIn c cs → c.executable ≡ true → (form : Core) (expected : List Out) → IsWellCalled (w ++ map named cs) form
      → first_fault ruling Executable (formal_scope ruling c.member) form expected ≡ None → WasAccepted after ruling c.member.formals (signature_for sigs c).ins form expected
  accepted_form c i run form expected called e = record {
    suits = suits_after;
    accepted = ap (λ (ins : List Out). first_fault ruling Executable (formal_entries c.member.formals ins) form expected) (kinds_of c i run)
        ∙ (ap (λ (scope : Scope). first_fault ruling Executable scope form expected) (sym (entries_are ruling c.member.stobjs c.member.formals)) ∙ e);
    formed = formed_ruling form called;
  }

  accepted_guard : (c : Candidate) → IsIn c cs → c.executable ≡ true → WasAccepted after ruling c.member.formals (signature_for sigs c).ins c.member.guard one_ordinary
  accepted_guard c i run = accepted_form c i run c.member.guard one_ordinary (is_expanded c i).guard (no_faults c i run).0

  outs_are : (c : Candidate) → IsIn c cs → outs_of ruling c.member.name ≡ (signature_for sigs c).outs
  outs_are c i = ap (λ (d : Option Definition). option_map_or (λ (s : Signature). s.outs) (option_and_then signature_in d) one_ordinary) (signed_there c i)

  accepted_body : (c : Candidate) → IsIn c cs → c.executable ≡ true → WasAccepted after ruling c.member.formals (signature_for sigs c).ins c.member.body (signature_for sigs c).outs
  accepted_body c i run =
      accepted_form c i run c.member.body (signature_for sigs c).outs (is_expanded c i).body
      (ap (first_fault ruling Executable (formal_scope ruling c.member) c.member.body) (sym (outs_are c i)) ∙ (no_faults c i run).1)

  -- ---- the functions of the new world

  abbrev function_of : Candidate → Function
  function_of c = record {
    name = c.member.name;
    formals = c.member.formals;
    signature = signature_for sigs c;
    guard = c.member.guard;
    body = c.member.body;
    executable = c.executable;
  }

  -- a function that is new is that of a candidate
  new_function : (x : ℕ) (f : Function) → definition (map (defined sigs) cs) x ≡ Some (Defined f) → (c : Candidate) × IsIn c cs × (f ≡ function_of c)
  new_function x f e = let c = is_new (defined sigs) defined_stand x (Defined f) e in (c.0, c.1, same c.0 c.3)
    where
      same : (c : Candidate) → Defined f ≡ defined sigs c → f ≡ function_of c
      same c e = cc

  of_new : (P : Function → Type 0) → ((c : Candidate) → IsIn c cs → c.executable ≡ true → P (function_of c)) → (x : ℕ) (f : Function) → definition (map (defined sigs) cs) x ≡ Some (Defined f) → f.executable ≡ true → P f
  of_new P h x f e run =
      let c = new_function x f e in
      subst P (sym c.2) (h c.0 c.1 (ap (λ (g : Function). g.executable) (sym c.2) ∙ run))

  admitted_new : (c : Candidate) → IsIn c cs → c.executable ≡ true → IsAdmitted after (function_of c)
  admitted_new c i run =
      let guard = accepted_guard c i run in
      let body = accepted_body c i run in
      record {
        formals = subst (AreFormals c.member.formals) (sym (kinds_of c i run)) (kinds_are ruling c.member.stobjs c.member.formals);
        distinct = (is_expanded c i).differ;
        guard = record { world = ruling; suits = guard.suits; accepted = guard.accepted; formed = guard.formed };
        body = record { world = ruling; suits = body.suits; accepted = body.accepted; formed = body.formed };
      }

  threaded_with : IsThreaded w → IsThreaded after
  threaded_with t = threaded_still w (map (defined sigs) cs) (all_defined sigs cs) t (λ x f none e run. of_new (IsAdmitted after) admitted_new x f e run)

  origins_with : (old later : Origins) → GoOn w old later → HaveElse w ruling later → AreOrigins w old → AreOrigins after later
  origins_with old later on others are =
      origins_still w (map (defined sigs) cs) (all_defined sigs cs) old later on are
      (λ x f none e run.
      subst (λ (c : World). WasAccepted after c f.formals f.signature.ins f.guard one_ordinary) (sym (others.guard x none))
      (of_new (λ g. WasAccepted after ruling g.formals g.signature.ins g.guard one_ordinary) accepted_guard x f e run))
      (λ x f none e run.
      subst (λ (c : World). WasAccepted after c f.formals f.signature.ins f.body f.signature.outs) (sym (others.body x none))
      (of_new (λ g. WasAccepted after ruling g.formals g.signature.ins g.body g.signature.outs) accepted_body x f e run))

pub functions_keep_origins : FunctionsKeepOrigins
functions_keep_origins = record {
  lawful = λ w cs l a. functions_lawful w l cs a.names a.expanded a.accepted;
  threaded = threaded_with;
  origins = origins_with;
  body = λ w cs. body_still w (map (defined (signatures w cs)) cs) (all_defined (signatures w cs) cs);
}

-- ---- the event

pub events_admit : EventsAdmit
events_admit = record { admitted = admitted }
  where
    admitted : (x : Setting) (fs : List WrittenFunction) (p q : Progress) (cs : List Candidate) → IsLawfulWorld x.world → written_fault p.symbols x.world fs ≡ None
        → all_expanded (record x { world = with_names x.world (drafts_of p.symbols fs) }) (drafts_of p.symbols fs) [] p ≡ Makes cs q
        → clique_fault (checking_world x.world cs) 0 (members cs) ≡ None → AreAdmitted x.world cs
    admitted x fs p q cs l free made ruled =
        let ds = drafts_of p.symbols fs in
        let written = written_drafts p.symbols x.world fs free in
        let r : HasRowFunctions (with_names x.world ds) = functions_still x.world (map named_draft ds) l in
        let is : AreMadeOf (record x { world = with_names x.world ds }) r ds cs = drafts_expanded (record x { world = with_names x.world ds }) r ds p q cs written.sound made in
        record {
          names = subst (AreNew x.world) (sym is.names) written.names;
          expanded = subst (λ (ds : List Definition). AreExpanded (x.world ++ ds) cs) (sym is.names) is.each;
          accepted = ruled;
        }
