-- What functions that are expanded together call stands beside them.
use Rattle.std.proofs.Common.{◌≡◌, ℕ, List, [], ◌∷◌, ◌++◌, map, Bool, true, false, refl, sym, ap, ◌∙◌, subst}
use Rattle.std.specs.Prelude.{if◌then◌else◌}
use Rattle.std.proofs.lemmas.List.{append-nil}
use Rattle.model_terms.specs.Rounds.{Member}
use Rattle.model_terms.specs.Worlds.{World, Definition, Named, Signed, definition_name}
use Rattle.model_expansion.specs.Expansion.{Setting, Progress, Expanded, Makes, Fails, then_make, expanded, expanded_guard}
use Rattle.model_expansion_forms.specs.Rows.{HasRowFunctions, AreShapedItems}
use Rattle.model_events.specs.Functions.{Draft, Candidate, candidate, candidate_expanded, all_expanded, with_names, ordinary_signature, before_rounds, signed, members}
use Rattle.model_standing.specs.Laws.{MemberStands, MembersStand, HaveShapedGuards, CandidatesStand}
use Rattle.model_standing.proofs.StandLemmas.{expanded_stand, names_stand, rows_still}

abbrev candidate_name : Candidate → ℕ
candidate_name c = c.member.name

abbrev draft_name : Draft → ℕ
draft_name d = d.name

-- ---- expansion

last_stands : (w : World) (cs : List Candidate) (c : Candidate) → MembersStand w (members cs) → MemberStands w c.member → MembersStand w (members (cs ++ c ∷ []))
last_stands w [] c h k = (k, tt)
last_stands w (d ∷ cs) c h k = (h.0, last_stands w cs c h.1 k)

last_name : (cs : List Candidate) (c : Candidate) (rest : List ℕ) → map candidate_name (cs ++ c ∷ []) ++ rest ≡ map candidate_name cs ++ (candidate_name c ∷ rest)
last_name [] c rest = refl
last_name (d ∷ cs) c rest = ap (λ (ns : List ℕ). candidate_name d ∷ ns) (last_name cs c rest)

abbrev IfMakes : {A : Type 0} → (A → Type 0) → Expanded A → Type 0
IfMakes P (Makes a p) = P a
IfMakes P (Fails fault p) = Unit {0}

makes_then : {A B : Type 0} (Q : B → Type 0) (e : Expanded A) (go : A → Progress → Expanded B) → ((a : A) (p : Progress) → e ≡ Makes a p → IfMakes Q (go a p)) → IfMakes Q (then_make e go)
makes_then Q (Makes a p) go h = h a p refl
makes_then Q (Fails fault p) go h = tt

module _ (x : Setting) (r : HasRowFunctions x.world) where
  -- of this draft
  record IsOf (d : Draft) (c : Candidate) : Type 0 where
    name : candidate_name c ≡ draft_name d
    stands : MemberStands x.world c.member

  one_stands : (d : Draft) (p : Progress) → AreShapedItems d.declared.guards → IfMakes (IsOf d) (candidate_expanded x d p)
  one_stands d p s =
      makes_then (IsOf d) (expanded_guard x d.declared.guards p) (λ guard after. then_make (expanded x d.body after) (λ body last. Makes (candidate d guard body) last)) (λ guard after made.
      makes_then (IsOf d) (expanded x d.body after) (λ body last. Makes (candidate d guard body) last) (λ body last same. record {
        name = refl;
        stands = record { guard = expanded_stand.guard x d.declared.guards p after guard r s made; body = expanded_stand.form x d.body after last body r same };
      }))

  -- all of them, after those that are done
  record AreOf (done : List Candidate) (ds : List Draft) (cs : List Candidate) : Type 0 where
    names : map candidate_name cs ≡ map candidate_name done ++ map draft_name ds
    each : MembersStand x.world (members cs)

  all_of : (ds : List Draft) (done : List Candidate) (p : Progress) → HaveShapedGuards ds → MembersStand x.world (members done) → IfMakes (AreOf done ds) (all_expanded x ds done p)
  all_of [] done p s h = record { names = sym (append-nil (map candidate_name done)); each = h }
  all_of (d ∷ ds) done p s h =
      then_rest (candidate_expanded x d p) (one_stands d p s.0) (λ c after is. all_of ds (done ++ c ∷ []) after s.1 (last_stands x.world done c h is.stands))
    where
      wider : (c : Candidate) → IsOf d c → (e : Expanded (List Candidate)) → IfMakes (AreOf (done ++ c ∷ []) ds) e → IfMakes (AreOf done (d ∷ ds)) e
      wider c is (Makes cs q) k = record {
        names = k.names ∙ (last_name done c (map draft_name ds) ∙ ap (λ (n : ℕ). map candidate_name done ++ (n ∷ map draft_name ds)) is.name);
        each = k.each;
      }
      wider c is (Fails fault q) k = tt

      then_rest : (e : Expanded Candidate) → IfMakes (IsOf d) e → ((c : Candidate) (after : Progress) → IsOf d c → IfMakes (AreOf (done ++ c ∷ []) ds) (all_expanded x ds (done ++ c ∷ []) after))
          → IfMakes (AreOf done (d ∷ ds)) (then_make e (λ c after. all_expanded x ds (done ++ c ∷ []) after))
      then_rest (Makes c after) i k = wider c i (all_expanded x ds (done ++ c ∷ []) after) (k c after i)
      then_rest (Fails fault after) i k = tt

  all_made : (ds : List Draft) (p q : Progress) (cs : List Candidate) → HaveShapedGuards ds → all_expanded x ds [] p ≡ Makes cs q → AreOf [] ds cs
  all_made ds p q cs s e = subst (λ (y : Expanded (List Candidate)). IfMakes (AreOf [] ds) y) e (all_of ds [] p s tt)

-- ---- by their names

names_behind : (w a b : World) → map definition_name a ≡ map definition_name b → map definition_name (w ++ a) ≡ map definition_name (w ++ b)
names_behind [] a b e = e
names_behind (d ∷ w) a b e = ap (λ (ns : List ℕ). definition_name d ∷ ns) (names_behind w a b e)

draft_names : (ds : List Draft) → map definition_name (map (λ (d : Draft). Named d.name d.formals) ds) ≡ map draft_name ds
draft_names [] = refl
draft_names (d ∷ ds) = ap (λ (ns : List ℕ). draft_name d ∷ ns) (draft_names ds)

candidate_names : (f : Candidate → Definition) → ((c : Candidate) → definition_name (f c) ≡ candidate_name c) → (cs : List Candidate) → map definition_name (map f cs) ≡ map candidate_name cs
candidate_names f h [] = refl
candidate_names f h (c ∷ cs) = rw (h c, candidate_names f h cs) refl

before_name : (c : Candidate) → definition_name (before_rounds c) ≡ candidate_name c
before_name c = go c.executable
  where
    go : (b : Bool) → definition_name (if b then Named c.member.name c.member.formals else Signed c.member.name c.member.formals (ordinary_signature c.member.formals) false) ≡ candidate_name c
    go true = refl
    go false = refl

members_on : (w v : World) → map definition_name w ≡ map definition_name v → (ms : List Member) → MembersStand w ms → MembersStand v ms
members_on w v e [] h = tt
members_on w v e (m ∷ ms) h = (record { guard = names_stand w v m.guard e h.0.guard; body = names_stand w v m.body e h.0.body }, members_on w v e ms h.1)

module _ (x : Setting) (ds : List Draft) (p q : Progress) (cs : List Candidate) (r : HasRowFunctions x.world) (s : HaveShapedGuards ds)
    (e : all_expanded (record x { world = with_names x.world ds }) ds [] p ≡ Makes cs q) where
  made : AreOf (record x { world = with_names x.world ds }) (rows_still x.world (map (λ (d : Draft). Named d.name d.formals) ds) r) [] ds cs
  made = all_made (record x { world = with_names x.world ds }) (rows_still x.world (map (λ (d : Draft). Named d.name d.formals) ds) r) ds p q cs s e

  stand_named : MembersStand (with_names x.world ds) (members cs)
  stand_named = made.each

  stand_as : (f : Candidate → Definition) → ((c : Candidate) → definition_name (f c) ≡ candidate_name c) → MembersStand (x.world ++ map f cs) (members cs)
  stand_as f h =
      members_on (with_names x.world ds) (x.world ++ map f cs)
      (names_behind x.world (map (λ (d : Draft). Named d.name d.formals) ds) (map f cs) (draft_names ds ∙ (sym made.names ∙ sym (candidate_names f h cs)))) (members cs) stand_named

pub candidates_stand : CandidatesStand
candidates_stand = record {
  by_names = stand_named;
  rounds = λ x ds p q cs r s e. stand_as x ds p q cs r s e before_rounds before_name;
  by_signatures = λ x ds p q cs known r s e. stand_as x ds p q cs r s e (signed known) (λ c. refl);
}
