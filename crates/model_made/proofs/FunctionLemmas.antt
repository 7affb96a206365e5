-- The definition of functions keeps a world lawful.
use Rattle.std.proofs.Common.{◌≡◌, ℕ, ◌+◌, List, [], ◌∷◌, ◌++◌, map, Bool, true, false, Option, Some, None, refl, sym, ap, ◌∙◌, subst, inl, inr}
use Rattle.std.specs.Prelude.{◌⊎◌, is_some, option_map, option_and_then, if◌then◌else◌}
use Rattle.std.specs.Option.{option_or, option_map_or}
use Rattle.std.specs.List.{AllByRecursion}
use Rattle.model_objects.specs.Object.{Object}
use Rattle.model_terms.specs.declared.rule.Mode.TheVariants.{Executable, Logic}
use Rattle.model_terms.specs.Cores.{Core, Place}
use Rattle.model_terms.specs.Worlds.{World, Signature, Function, Descriptor, Definition, definition, Concrete, Named, Signed}
use Rattle.model_terms.specs.Classes.{class_in, class_of, is_stobj_name}
use Rattle.model_terms.specs.Outputs.{signature_in}
use Rattle.model_terms.specs.Accessors.{accessor_in, runs, is_executable}
use Rattle.model_terms.specs.Sites.{one_ordinary}
use Rattle.model_terms.specs.Rounds.{formal_scope}
use Rattle.model_terms.specs.Faults.{Fault, first_fault, at, head_fault, function_fault, ordinary_scope, logic_fault, outs_of, member_fault, clique_fault}
use Rattle.model_eval_laws.specs.Agreement.{Closed, ClosedDefinition, StandsIn}
use Rattle.model_lawful.specs.Growth.{IsSettled, Becomes}
use Rattle.model_lawful.specs.Lawful.{IsReady, WasAdmitted}
use Rattle.model_lawful.specs.Cliques.{IsMadeOf}
use Rattle.model_lawful.proofs.CliqueLemmas.{cliques_are_admitted}
use Rattle.model_expansion.specs.Expansion.{Setting, Progress, arity_of}
use Rattle.model_expansion_forms.specs.Nodes.{EachNode, IsOwnCall, IsWellCalled}
use Rattle.model_expansion_forms.specs.Rows.{HasRowFunctions}
use Rattle.model_expansion_forms.proofs.NodeLemmas.{each_wider}
use Rattle.model_terms.specs.Cores as cores
use Rattle.model_stobjs.specs.Answers.{Grants}
use Rattle.model_events.specs.Functions.{ordinary_signature, written_functions, Draft, drafts_of, written_fault, Candidate, all_expanded, with_names, before_rounds, signatures, signature_for, signed, defined, members, candidates_then, drafts_then, functions_then, functions_read}
use Rattle.model_made.specs.Lawful.{IsWellMade, IsAdmitted, stobj_names, IsLawfulWorld}
use Rattle.model_made.proofs.WorldLemmas.{EachDefinition, definition_old, definition_new, definition_is, settled}
use Rattle.model_made.proofs.FormLemmas.{formed_of, closed_running, closed_logic}
use Rattle.model_made.proofs.GrowthLemmas.{Brings, functions_still, closed_grown, objects_grown, made_grown, grows}
use Rattle.model_made.proofs.EventLemmas.{IfGrants, grants_unless, grants_needing, grants_expanding, none_some}
use Rattle.model_made.proofs.MemberLemmas.{IsIn, class_more, same_formals}
use Rattle.model_made.proofs.DraftLemmas.{AreNew, named_draft, AreWritten, written_drafts}
use Rattle.model_made.proofs.CandidateLemmas.{named, IsExpanded, AreExpanded, AreMadeOf, drafts_expanded, candidate_at, Stand, standing_at, standing_in, named_stand, is_found, found_in, new_name, expanded_in, running_kinds, as_many_inputs}

neither_fault : (a b : Option Fault) → option_or a b ≡ None → (a ≡ None) × (b ≡ None)
neither_fault None b e = (refl, e)
neither_fault (Some f) b e = cc

none_at : (outer : Place) (a : Option Fault) → at outer a ≡ None → a ≡ None
none_at outer None e = refl
none_at outer (Some f) e = cc

some_same : {A : Type 0} {a b : A} → Some a ≡ Some b → a ≡ b
some_same e = cc

-- a name that is found in an option that is mapped
found_mapped : (f : Candidate → Definition) (v : Option Candidate) (d : Definition) → option_map f v ≡ Some d → (c : Candidate) × (v ≡ Some c) × (d ≡ f c)
found_mapped f None d e = cc
found_mapped f (Some c) d e = (c, refl, sym (some_same e))

-- each definition for a candidate is one that has the property
each_mapped : (P : Definition → Type 0) (f : Candidate → Definition) → ((c : Candidate) → P (f c)) → (cs : List Candidate) → EachDefinition P (map f cs)
each_mapped P f h [] = tt
each_mapped P f h (c ∷ cs) = (h c, each_mapped P f h cs)

module _ (w : World) (l : IsLawfulWorld w) (cs : List Candidate) (n : AreNew w (map named cs)) (expanded : AreExpanded (w ++ map named cs) cs) where
  abbrev pub sigs : List (ℕ × Signature)
  sigs = signatures w cs

  -- the world of the rules, and the one that comes of it
  abbrev ruling : World
  ruling = w ++ map (signed sigs) cs

  abbrev after : World
  after = w ++ map (defined sigs) cs

  signed_stand : Stand (signed sigs)
  signed_stand = record { names = λ c. refl }

  defined_stand : Stand (defined sigs)
  defined_stand = record { names = λ c. refl }

  -- ---- the same functions, with as many formals

  same_arity : (g : Candidate → Definition) → Stand g → ((c : Candidate) → arity_of (Some (g c)) ≡ arity_of (Some (named c))) → (x : ℕ) → arity_of (definition (w ++ map named cs) x) ≡ arity_of (definition (w ++ map g cs) x)
  same_arity g stand same x =
      ap arity_of (standing_in named named_stand w cs x) ∙ (go (definition w x) (candidate_at cs x) ∙ sym (ap arity_of (standing_in g stand w cs x)))
    where
      go : (d : Option Definition) (v : Option Candidate) → arity_of (option_or d (option_map named v)) ≡ arity_of (option_or d (option_map g v))
      go (Some d) v = refl
      go None None = refl
      go None (Some c) = sym (same c)

  own_call : (new : World) → ((x : ℕ) → arity_of (definition (w ++ map named cs) x) ≡ arity_of (definition new x)) → (f : Core) → IsOwnCall (w ++ map named cs) f → IsOwnCall new f
  own_call new same (cores.Var x) h = tt
  own_call new same (cores.Const o) h = tt
  own_call new same (cores.If a b c) h = tt
  own_call new same (cores.Let names bound body) h = tt
  own_call new same (cores.Mv parts) h = tt
  own_call new same (cores.MvLet names bound body) h = tt
  own_call new same (cores.StobjLet names bound vars producer consumer) h = tt
  own_call new same (cores.WithLocal stobj names producer body) h = tt
  own_call new same (cores.MustBeEqual logic exec) h = tt
  own_call new same (cores.Call f actuals) h = sym (same f) ∙ h

  closed_ruling : (f : Core) → IsWellCalled (w ++ map named cs) f → EachNode (IsOwnCall ruling) f
  closed_ruling f h = each_wider (IsOwnCall (w ++ map named cs)) (IsOwnCall ruling) (own_call ruling (same_arity (signed sigs) signed_stand (λ c. refl))) f h.closed

  closed_after : (f : Core) → IsWellCalled (w ++ map named cs) f → EachNode (IsOwnCall after) f
  closed_after f h = each_wider (IsOwnCall (w ++ map named cs)) (IsOwnCall after) (own_call after (same_arity (defined sigs) defined_stand (λ c. refl))) f h.closed

  -- ---- the world of the rules

  is_new : (f : Candidate → Definition) → Stand f → (x : ℕ) (d : Definition) → definition (map f cs) x ≡ Some d → (c : Candidate) × IsIn c cs × (x ≡ c.member.name) × (d ≡ f c)
  is_new f stand x d e =
      let m = found_mapped f (candidate_at cs x) d (sym (standing_at f stand cs x) ∙ e) in
      let found = is_found cs x m.0 m.1 in
      (m.0, found.0, found.1, m.2)

  no_class : {B : Type 0} (k : ℕ) (d : Definition) (c : Candidate) → d ≡ signed sigs c → class_in d ≡ Some k → B
  no_class k d c e f = none_some (class_in d) (ap class_in e) f

  ruling_brings : Brings w (map (signed sigs) cs)
  ruling_brings = record {
    closed = λ x d none e. let c = is_new (signed sigs) signed_stand x d e in subst (ClosedDefinition (StandsIn ruling)) (sym c.3) tt;
    made = λ x d none e. let c = is_new (signed sigs) signed_stand x d e in subst (IsWellMade ruling) (sym c.3) (as_many_inputs w cs n c.0 c.1);
    alike = λ x k d none e f. let c = is_new (signed sigs) signed_stand x d e in no_class k d c.0 c.3 f;
    there = λ x k d none e f. let c = is_new (signed sigs) signed_stand x d e in no_class k d c.0 c.3 f;
    accessors = λ x d a none e f. let c = is_new (signed sigs) signed_stand x d e in none_some (accessor_in ruling d) (ap (accessor_in ruling) c.3) f;
    children = λ x class d none e. let c = is_new (signed sigs) signed_stand x (Concrete d class) e in not_signed c.0 c.3;
    nested = λ x class d none e. let c = is_new (signed sigs) signed_stand x (Concrete d class) e in not_signed c.0 c.3;
  }
    where
      not_signed : {B : Type 0} {d : Descriptor} {class : ℕ} (c : Candidate) → Concrete d class ≡ signed sigs c → B
      not_signed c e = cc

  becomes_after : Becomes ruling after
  becomes_after = record { each = each }
    where
      each : (x : ℕ) (d : Definition) → definition ruling x ≡ Some d → IsSettled after x d
      each x d e = go (definition_is w (map (signed sigs) cs) x d e)
        where
          go : (definition w x ≡ Some d) ⊎ ((definition w x ≡ None) × (definition (map (signed sigs) cs) x ≡ Some d)) → IsSettled after x d
          go (inl f) = settled after x d (l.admitted x d f) (definition_old w (map (defined sigs) cs) x d f)
          go (inr f) =
              let c = is_new (signed sigs) signed_stand x d f.1 in
              let at_name : candidate_at cs x ≡ Some c.0 = ap (candidate_at cs) c.2 ∙ found_in w cs n c.0 c.1 in
              let there : definition after x ≡ Some (defined sigs c.0) = definition_new w (map (defined sigs) cs) x f.0 ∙ (standing_at (defined sigs) defined_stand cs x ∙ ap (option_map (defined sigs)) at_name) in
              subst (IsSettled after x) (sym c.3) (_, there, refl, refl)

  -- where a candidate stands
  signed_there : (c : Candidate) → IsIn c cs → definition ruling c.member.name ≡ Some (signed sigs c)
  signed_there c i =
      definition_new w (map (signed sigs) cs) c.member.name (new_name w cs n c i)
      ∙ (standing_at (signed sigs) signed_stand cs c.member.name ∙ ap (option_map (signed sigs)) (found_in w cs n c i))

  runs_so : (c : Candidate) → IsIn c cs → runs ruling c.member.name ≡ c.executable
  runs_so c i = ap (λ (d : Option Definition). option_map_or is_executable d true) (signed_there c i)

  same_classes : (x : ℕ) → class_of (w ++ map before_rounds cs) x ≡ class_of ruling x
  same_classes x =
      class_more w (map before_rounds cs) (each_mapped (λ d. class_in d ≡ None) before_rounds (λ c. before_class c.executable c) cs) x
      ∙ sym (class_more w (map (signed sigs) cs) (each_mapped (λ d. class_in d ≡ None) (signed sigs) (λ c. refl) cs) x)
    where
      before_class : (b : Bool) (c : Candidate) → class_in (if b then Named c.member.name c.member.formals else Signed c.member.name c.member.formals (ordinary_signature c.member.formals) false) ≡ None
      before_class true c = refl
      before_class false c = refl

  -- ---- the rules

  module _ (accepted : clique_fault ruling 0 (members cs) ≡ None) where
    no_fault_in : (ds : List Candidate) (k : ℕ) → clique_fault ruling k (members ds) ≡ None → (c : Candidate) → IsIn c ds → (m : ℕ) × (member_fault ruling m c.member ≡ None)
    no_fault_in [] k e c i = absurd i
    no_fault_in (d ∷ ds) k e c (inl same) =
        let both = neither_fault (member_fault ruling k d.member) (clique_fault ruling (k + 1) (members ds)) e in
        (k, ap (λ (q : Candidate). member_fault ruling k q.member) same ∙ both.0)
    no_fault_in (d ∷ ds) k e c (inr i) =
        let both = neither_fault (member_fault ruling k d.member) (clique_fault ruling (k + 1) (members ds)) e in
        no_fault_in ds (k + 1) both.1 c i

    object_stands : (x : ℕ) → is_stobj_name ruling x ≡ true → StandsIn after x
    object_stands x e = go (class_of w x) refl
      where
        same : class_of ruling x ≡ class_of w x
        same = class_more w (map (signed sigs) cs) (each_mapped (λ d. class_in d ≡ None) (signed sigs) (λ c. refl) cs) x

        stands : (d : Option Definition) → definition w x ≡ d → (k : ℕ) → option_and_then class_in d ≡ Some k → StandsIn after x
        stands None f k g = cc
        stands (Some d) f k g = (d, definition_old w (map (defined sigs) cs) x d f)

        go : (v : Option ℕ) → class_of w x ≡ v → StandsIn after x
        go None f = clash (sym e ∙ ap (λ (v : Option ℕ). is_some v) (same ∙ f))
          where
            clash : true ≡ false → StandsIn after x
            clash h = cc
        go (Some k) f = stands (definition w x) refl k f

    -- the guard and the body of each are closed
    closed_function : (c : Candidate) → IsIn c cs → Closed (StandsIn after) c.member.guard × Closed (StandsIn after) c.member.body
    closed_function c i = go c.executable (runs_so c i)
      where
        is : IsExpanded (w ++ map named cs) c
        is = expanded_in (w ++ map named cs) cs expanded c i

        fault : (m : ℕ) × (member_fault ruling m c.member ≡ None)
        fault = no_fault_in cs 0 accepted c i

        go : (b : Bool) → runs ruling c.member.name ≡ b → Closed (StandsIn after) c.member.guard × Closed (StandsIn after) c.member.body
        go true e =
            let faults : function_fault ruling fault.0 c.member (outs_of ruling c.member.name) ≡ None
            = ap (λ (r : Bool). if r then function_fault ruling fault.0 c.member (outs_of ruling c.member.name) else logic_fault ruling fault.0 c.member) (sym e) ∙ fault.1 in
            let parts = neither_fault (head_fault ruling fault.0 c.member) _ faults in
            let both = neither_fault (at (fault.0 ∷ 0 ∷ []) (first_fault ruling Executable (formal_scope ruling c.member) c.member.guard one_ordinary))
            (at (fault.0 ∷ 1 ∷ []) (first_fault ruling Executable (formal_scope ruling c.member) c.member.body (outs_of ruling c.member.name))) parts.1 in (
              closed_running ruling after object_stands (formal_scope ruling c.member) c.member.guard one_ordinary (none_at (fault.0 ∷ 0 ∷ []) _ both.0) (closed_after c.member.guard is.guard),
              closed_running ruling after object_stands (formal_scope ruling c.member) c.member.body (outs_of ruling c.member.name) (none_at (fault.0 ∷ 1 ∷ []) _ both.1) (closed_after c.member.body is.body),
            )
        go false e =
            let faults : logic_fault ruling fault.0 c.member ≡ None
            = ap (λ (r : Bool). if r then function_fault ruling fault.0 c.member (outs_of ruling c.member.name) else logic_fault ruling fault.0 c.member) (sym e) ∙ fault.1 in
            let both = neither_fault (at (fault.0 ∷ 0 ∷ []) (first_fault ruling Logic (ordinary_scope c.member.formals) c.member.guard one_ordinary))
            (at (fault.0 ∷ 1 ∷ []) (first_fault ruling Logic (ordinary_scope c.member.formals) c.member.body one_ordinary)) faults in (
              closed_logic ruling after object_stands (ordinary_scope c.member.formals) c.member.guard one_ordinary (none_at (fault.0 ∷ 0 ∷ []) _ both.0) (closed_after c.member.guard is.guard),
              closed_logic ruling after object_stands (ordinary_scope c.member.formals) c.member.body one_ordinary (none_at (fault.0 ∷ 1 ∷ []) _ both.1) (closed_after c.member.body is.body),
            )

    -- ---- what is admitted

    abbrev function_of : Candidate → Function
    function_of c = record {
      name = c.member.name;
      formals = c.member.formals;
      signature = signature_for sigs c;
      guard = c.member.guard;
      body = c.member.body;
      executable = c.executable;
    }

    ruling_made : (x : ℕ) (d : Definition) → definition ruling x ≡ Some d → IsWellMade ruling d
    ruling_made = made_grown w (map (signed sigs) cs) l ruling_brings

    made_of : (c : Candidate) → IsIn c cs → c.executable ≡ true → IsMadeOf ruling c.member (function_of c)
    made_of c i e =
        let is : IsExpanded (w ++ map named cs) c = expanded_in (w ++ map named cs) cs expanded c i in
        record {
          formals = refl;
          guard = refl;
          body = refl;
          signed = ap (λ (d : Option Definition). option_and_then signature_in d) (signed_there c i);
          name = refl;
          ins = running_kinds w cs n c i e ∙ same_formals (w ++ map before_rounds cs) ruling same_classes c.member;
          distinct = is.differ;
          runs_there = runs_so c i ∙ e;
          guard_formed = formed_of ruling ruling_made c.member.guard (closed_ruling c.member.guard is.guard) is.guard.formed;
          body_formed = formed_of ruling ruling_made c.member.body (closed_ruling c.member.body is.body) is.body.formed;
        }

    admitted_in : (ds : List Candidate) → AllByRecursion (λ m. (f : Function) → IsMadeOf ruling m f → WasAdmitted after f) (members ds) → (c : Candidate) → IsIn c ds
        → (f : Function) → IsMadeOf ruling c.member f → WasAdmitted after f
    admitted_in [] h c i = absurd i
    admitted_in (d ∷ ds) h c (inl same) = subst (λ (q : Candidate). (f : Function) → IsMadeOf ruling q.member f → WasAdmitted after f) (sym same) h.0
    admitted_in (d ∷ ds) h c (inr i) = admitted_in ds h.1 c i

    was_admitted : (c : Candidate) → IsIn c cs → c.executable ≡ true → WasAdmitted after (function_of c)
    was_admitted c i e =
        admitted_in cs
        (cliques_are_admitted.admitted ruling after (closed_grown w (map (signed sigs) cs) l ruling_brings) (objects_grown w (map (signed sigs) cs) l ruling_brings) becomes_after 0 (members cs) accepted)
        c i (function_of c) (made_of c i e)

    functions_bring : Brings w (map (defined sigs) cs)
    functions_bring = record {
      closed = λ x d none e. let c = is_new (defined sigs) defined_stand x d e in subst (ClosedDefinition (StandsIn after)) (sym c.3) (closed_function c.0 c.1);
      made = λ x d none e.
          let c = is_new (defined sigs) defined_stand x d e in
          let is : IsExpanded (w ++ map named cs) c.0 = expanded_in (w ++ map named cs) cs expanded c.0 c.1 in
          subst (IsWellMade after) (sym c.3) (as_many_inputs w cs n c.0 c.1, is.differ, closed_after c.0.member.guard is.guard, is.guard.formed);
      alike = λ x k d none e f. let c = is_new (defined sigs) defined_stand x d e in none_some (class_in d) (ap class_in c.3) f;
      there = λ x k d none e f. let c = is_new (defined sigs) defined_stand x d e in none_some (class_in d) (ap class_in c.3) f;
      accessors = λ x d a none e f. let c = is_new (defined sigs) defined_stand x d e in none_some (accessor_in after d) (ap (accessor_in after) c.3) f;
      children = λ x class d none e. let c = is_new (defined sigs) defined_stand x (Concrete d class) e in not_defined c.0 c.3;
      nested = λ x class d none e. let c = is_new (defined sigs) defined_stand x (Concrete d class) e in not_defined c.0 c.3;
    }
      where
        not_defined : {B : Type 0} {d : Descriptor} {class : ℕ} (c : Candidate) → Concrete d class ≡ defined sigs c → B
        not_defined c e = cc

    pub functions_lawful : IsLawfulWorld after
    functions_lawful = grows w (map (defined sigs) cs) l functions_bring
        (λ x d none e. let c = is_new (defined sigs) defined_stand x d e in subst (IsReady after) (sym c.3) (was_admitted c.0 c.1)) (λ x d none e. let c = is_new (defined sigs) defined_stand x d e in subst IsAdmitted (sym c.3) tt)

-- ---- the event

-- with these definitions the world is lawful, and none of them is a stobj
pub record LawfulWith (w new : World) : Type 0 where
  pub lawful : IsLawfulWorld (w ++ new)
  pub no_objects : stobj_names new ≡ []

no_object : (known : List (ℕ × Signature)) (cs : List Candidate) → stobj_names (map (defined known) cs) ≡ []
no_object known [] = refl
no_object known (c ∷ cs) = no_object known cs

none_mapped : {A B : Type 0} (f : A → B) (v : Option A) → option_map f v ≡ None → v ≡ None
none_mapped f None e = refl
none_mapped f (Some a) e = cc

pub functions_stay : (x : Setting) → IsLawfulWorld x.world → (head : ℕ) (d : Object ℕ) (p : Progress) → IfGrants (LawfulWith x.world) (functions_read x head d p)
unfolding functions_read
functions_stay x l head d p =
    grants_needing (LawfulWith x.world) (written_functions head d) _ (functions_then x) p (λ fs same.
    grants_unless (LawfulWith x.world) (written_fault p.symbols x.world fs) (drafts_then x (drafts_of p.symbols fs)) p (λ free.
    of_drafts (drafts_of p.symbols fs) (written_drafts p.symbols x.world fs free)))
  where
    of_drafts : (ds : List Draft) → AreWritten x.world ds → IfGrants (LawfulWith x.world) (drafts_then x ds p)
    of_drafts ds written =
        let named_setting : Setting = record x { world = with_names x.world ds } in
        let r : HasRowFunctions (with_names x.world ds) = functions_still x.world (map named_draft ds) l in
        grants_expanding (LawfulWith x.world) (all_expanded named_setting ds [] p) (candidates_then x.world) (λ cs q made.
        let is : AreMadeOf named_setting r ds cs = drafts_expanded named_setting r ds p q cs written.sound made in
        grants_unless (LawfulWith x.world) _ (Grants (map (defined (signatures x.world cs)) cs)) q (λ ruled.
        record {
          lawful = functions_lawful x.world l cs (subst (AreNew x.world) (sym is.names) written.names)
              (subst (λ (ds : List Definition). AreExpanded (x.world ++ ds) cs) (sym is.names) is.each) (none_mapped _ _ ruled);
          no_objects = no_object (signatures x.world cs) cs;
        }))
