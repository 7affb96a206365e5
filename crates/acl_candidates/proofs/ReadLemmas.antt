-- Functions that are expanded by their names: what they are named, and what they call.
use Rattle.std.specs.Prelude.{◌≡◌, ℕ, ◌≤◌, List, [], ◌∷◌, ◌++◌, length, map, Bool, None, Result, Ok, Err, IfOk, refl}
use Rattle.std.proofs.Common.{sym, ap, ◌∙◌, subst, arith}
use Rattle.std.proofs.lemmas.List.{append-nil}
use Rattle.model_symbols.specs.Symbols.{Table}
use Rattle.model_terms.specs.Worlds as worlds
use Rattle.model_terms.specs.Worlds.{World, Named, definition_name}
use Rattle.model_expansion.specs.Expansion as expansion
use Rattle.model_expansion.specs.Expansion.{Setting, Progress, Expanded, Makes, Fails, then_make, expanded, expanded_guard}
use Rattle.model_expansion_forms.specs.Rows.{HasRowFunctions}
use Rattle.model_expansion_parts.specs.Known.{KnowsSupplies}
use Rattle.model_stobjs.specs.Heads.{name_in_use}
use Rattle.model_events.specs.Functions as written
use Rattle.model_events.specs.Functions.{Candidate, candidate, candidate_expanded, all_expanded, with_names, members}
use Rattle.model_standing.specs.Laws.{MembersStand, HaveShapedGuards}
use Rattle.model_standing.proofs.CandidateLemmas.{candidates_stand}
use Rattle.model_supplies.proofs.SupplyLemmas.{supplies_stay}
use Rattle.acl_heap.specs.Objects.{Objects, Extends}
use Rattle.acl_terms.specs.Growth.{seen_definitions-later}
use Rattle.acl_worlds.specs.Contents.{Content, seen_world, WorldLies}
use Rattle.acl_drafts.specs.declared.draft.Draft.{Draft}
use Rattle.acl_drafts.specs.Drafts.{seen_drafts}
use Rattle.acl_check.specs.declared.member.Member.{Member}
use Rattle.acl_signatures.specs.Candidates.{seen_candidates}
use Rattle.acl_cliques.specs.Worlds as cliques
use Rattle.acl_expand.specs.declared.progress.Refused.{Refused}
use Rattle.acl_expand.specs.Looks.{setting_at}
use Rattle.acl_candidates.specs.declared.candidates.Candidates.{Candidates}
use Rattle.acl_candidates.specs.Names.{with_named, names_of}
use Rattle.acl_candidates.specs.Ends.{seen_all, named_setting, EndsCandidates}
use Rattle.acl_candidates.proofs.NameLemmas.{named_seen}

-- ---- functions are named as their drafts

abbrev draft_named : written.Draft → worlds.Definition
draft_named d = Named d.name d.formals

abbrev IfMakes : {A : Type 0} → (A → Type 0) → Expanded A → Type 0
IfMakes P (Makes a p) = P a
IfMakes P (Fails fault p) = Unit {0}

makes_then : {A B : Type 0} (Q : B → Type 0) (e : Expanded A) (go : A → Progress → Expanded B) → ((a : A) (p : Progress) → IfMakes Q (go a p)) → IfMakes Q (then_make e go)
makes_then Q (Makes a p) go h = h a p
makes_then Q (Fails fault p) go h = tt

last_named : (cs : List Candidate) (c : Candidate) (rest : List worlds.Definition) → map cliques.named (cs ++ c ∷ []) ++ rest ≡ map cliques.named cs ++ (cliques.named c ∷ rest)
last_named [] c rest = refl
last_named (d ∷ cs) c rest = ap (λ (ns : List worlds.Definition). cliques.named d ∷ ns) (last_named cs c rest)

module _ (x : Setting) where
  abbrev IsNamed : written.Draft → Candidate → Type 0
  IsNamed d c = cliques.named c ≡ draft_named d

  abbrev AreNamed : List Candidate → List written.Draft → List Candidate → Type 0
  AreNamed done ds cs = map cliques.named cs ≡ map cliques.named done ++ map draft_named ds

  one_named : (d : written.Draft) (p : Progress) → IfMakes (IsNamed d) (candidate_expanded x d p)
  one_named d p =
      makes_then (IsNamed d) (expanded_guard x d.declared.guards p) (λ guard after. then_make (expanded x d.body after) (λ body last. Makes (candidate d guard body) last)) (λ guard after.
      makes_then (IsNamed d) (expanded x d.body after) (λ body last. Makes (candidate d guard body) last) (λ body last. refl))

  all_named : (ds : List written.Draft) (done : List Candidate) (p : Progress) → IfMakes (AreNamed done ds) (all_expanded x ds done p)
  all_named [] done p = sym (append-nil (map cliques.named done))
  all_named (d ∷ ds) done p = then_rest (candidate_expanded x d p) (one_named d p) (λ c after. all_named ds (done ++ c ∷ []) after)
    where
      wider : (c : Candidate) → IsNamed d c → (e : Expanded (List Candidate)) → IfMakes (AreNamed (done ++ c ∷ []) ds) e → IfMakes (AreNamed done (d ∷ ds)) e
      wider c is (Makes cs q) k = k ∙ (last_named done c (map draft_named ds) ∙ ap (λ (n : worlds.Definition). map cliques.named done ++ (n ∷ map draft_named ds)) is)
      wider c is (Fails fault q) k = tt

      then_rest : (e : Expanded Candidate) → IfMakes (IsNamed d) e → ((c : Candidate) (after : Progress) → IfMakes (AreNamed (done ++ c ∷ []) ds) (all_expanded x ds (done ++ c ∷ []) after))
          → IfMakes (AreNamed done (d ∷ ds)) (then_make e (λ c after. all_expanded x ds (done ++ c ∷ []) after))
      then_rest (Makes c after) i k = wider c i (all_expanded x ds (done ++ c ∷ []) after) (k c after)
      then_rest (Fails fault after) i k = tt

  named_alike : (ds : List written.Draft) (p q : Progress) (cs : List Candidate) → all_expanded x ds [] p ≡ Makes cs q → map cliques.named cs ≡ map draft_named ds
  named_alike ds p q cs e = subst (λ (y : Expanded (List Candidate)). IfMakes (AreNamed [] ds) y) e (all_named ds [] p)

-- ---- names

names_seen : (h : Objects) (ds : List Draft) → map definition_name (map draft_named (seen_drafts h ds)) ≡ names_of ds
names_seen h [] = refl
names_seen h (d ∷ ds) = rw (names_seen h ds) refl

member_names : (h : Objects) (ms : List Member) (bs : List Bool) → length bs ≡ length ms → map definition_name (map cliques.named (seen_candidates h ms bs)) ≡ cliques.names_of ms
member_names h [] bs l = refl
member_names h (m ∷ ms) [] l = absurd (omega (arith, l))
member_names h (m ∷ ms) (b ∷ bs) l = rw (member_names h ms bs (omega (arith, l))) refl

-- ---- expansion beside the names

module _ (h : Objects) (w : Content) (ds : List Draft) (t : Table) (steps depth : ℕ) where
  same_setting : setting_at h (with_named w ds) t steps depth ≡ named_setting h w ds t steps depth
  same_setting = ap (λ (y : World). record (setting_at h w t steps depth) { world = y }) (named_seen h w ds)

  pub ends_named : (v : Content) (h' : Objects) (p q : Progress) (r : Result Candidates Refused) → v ≡ with_named w ds
      → EndsCandidates h' q r (all_expanded (setting_at h v t steps depth) (seen_drafts h ds) [] p) → EndsCandidates h' q r (all_expanded (named_setting h w ds t steps depth) (seen_drafts h ds) [] p)
  ends_named v h' p q r e i =
      subst (λ (x : Setting). EndsCandidates h' q r (all_expanded x (seen_drafts h ds) [] p)) (ap (λ (y : Content). setting_at h y t steps depth) e ∙ same_setting) i

  module _ (h' : Objects) (g : Extends h h') (v : Content) (back : v ≡ w) (l : WorldLies h w) (c : Candidates) (p q : Progress) (e : all_expanded (named_setting h w ds t steps depth) (seen_drafts h ds) [] p ≡ Makes (seen_all h' c) q) where
    world_there : seen_world h' v ≡ seen_world h w
    world_there = ap (λ (y : Content). seen_world h' y) back ∙ seen_definitions-later g w.definitions l

    alike : map cliques.named (seen_all h' c) ≡ map draft_named (seen_drafts h ds)
    alike = named_alike (named_setting h w ds t steps depth) (seen_drafts h ds) p q (seen_all h' c) e

    pub names_fresh : length c.executable.items ≡ length c.members.items → name_in_use (seen_world h w) (names_of ds) ≡ None → name_in_use (seen_world h' v) (cliques.names_of c.members.items) ≡ None
    names_fresh s f =
        ap (λ (y : World). name_in_use y (cliques.names_of c.members.items)) world_there
        ∙ (ap (λ ns. name_in_use (seen_world h w) ns)
        (sym (member_names h' c.members.items c.executable.items s) ∙ (ap (λ xs. map definition_name xs) alike ∙ names_seen h ds)) ∙ f)

    pub calls_stand : HasRowFunctions (seen_world h w) → HaveShapedGuards (seen_drafts h ds) → MembersStand (cliques.named_world (seen_world h' v) (seen_all h' c)) (members (seen_all h' c))
    calls_stand rows shaped =
        let k : MembersStand (with_names (seen_world h w) (seen_drafts h ds)) (members (seen_all h' c)) = candidates_stand.by_names (setting_at h w t steps depth) (seen_drafts h ds) p q (seen_all h' c) rows shaped e in
        subst (λ (y : World). MembersStand y (members (seen_all h' c)))
        (ap (λ xs. seen_world h w ++ xs) (sym alike) ∙ ap (λ (y : World). y ++ map cliques.named (seen_all h' c)) (sym world_there)) k

  -- the same of an expansion, where it ends with functions
  module _ (h' : Objects) (g : Extends h h') (v : Content) (back : v ≡ w) (l : WorldLies h w) (p q : Progress) where
    pub if_fresh : (r : Result Candidates Refused) → EndsCandidates h' q r (all_expanded (named_setting h w ds t steps depth) (seen_drafts h ds) [] p)
        → IfOk r (λ c. length c.executable.items ≡ length c.members.items) → name_in_use (seen_world h w) (names_of ds) ≡ None → IfOk r (λ c. name_in_use (seen_world h' v) (cliques.names_of c.members.items) ≡ None)
    if_fresh (Ok c) e s f = names_fresh h' g v back l c p q e.0 s f
    if_fresh (Err r) e s f = tt

    pub if_stand : (r : Result Candidates Refused) → EndsCandidates h' q r (all_expanded (named_setting h w ds t steps depth) (seen_drafts h ds) [] p)
        → HasRowFunctions (seen_world h w) → HaveShapedGuards (seen_drafts h ds) → IfOk r (λ c. MembersStand (cliques.named_world (seen_world h' v) (seen_all h' c)) (members (seen_all h' c)))
    if_stand (Ok c) e rows shaped = calls_stand h' g v back l c p q e.0 rows shaped
    if_stand (Err r) e rows shaped = tt

-- ---- what the world supplies

pub named_supplies : (h : Objects) (w v : Content) (ds : List Draft) (n : ℕ) → v ≡ with_named w ds → KnowsSupplies n (seen_world h w) → KnowsSupplies n (seen_world h v)
named_supplies h w v ds n e k =
    subst (λ (y : World). KnowsSupplies n y) (sym (ap (λ (y : Content). seen_world h y) e ∙ named_seen h w ds)) (supplies_stay.by_names n (seen_world h w) (seen_drafts h ds) k)
