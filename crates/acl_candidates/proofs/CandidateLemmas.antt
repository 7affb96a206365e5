-- One function after another.
use Rattle.std.specs.Prelude.{◌≡◌, ℕ, zero, suc, ◌<◌, ◌≤◌, List, [], ◌∷◌, ◌++◌, length, Bool, refl}
use Rattle.std.specs.List.{All}
use Rattle.std.proofs.Common.{sym, ap, ◌∙◌, subst, get_or, arith}
use Rattle.model_expansion.specs.Faults.{ExpandFault}
use Rattle.model_expansion.specs.Expansion.{Setting, Progress, Expanded, Makes, Fails, then_make}
use Rattle.model_events.specs.Functions as written
use Rattle.model_events.specs.Functions.{Candidate, candidate_expanded, all_expanded}
use Rattle.acl_heap.specs.Objects.{Objects, Extends}
use Rattle.acl_terms.specs.Growth.{seen_core-later}
use Rattle.acl_drafts.specs.declared.draft.Draft.{Draft}
use Rattle.acl_drafts.specs.Drafts.{seen_draft, seen_drafts, drafts_reach}
use Rattle.acl_check.specs.declared.member.Member.{Member}
use Rattle.acl_signatures.specs.Candidates.{seen_candidate, seen_candidates}
use Rattle.acl_cliques.specs.Entered.{member_reach}
use Rattle.acl_translate.specs.Functions.{MemberIsKnown}
use Rattle.acl_admit.specs.Ready.{members_reach}
use Rattle.acl_candidates.proofs.DraftLemmas.{member_later, draft_there, draft_lies}

-- ---- as they are defined

module _ (x : Setting) {h h' : Objects} (e : Extends h h') (d : Draft) (rest others : List Draft) (s : rest ≡ d ∷ others) (l : drafts_reach rest ≤ length h) (done : List Candidate) (p q : Progress) where
  abbrev then_rest : Expanded Candidate → Expanded (List Candidate)
  then_rest o = then_make o (λ c after. all_expanded x (seen_drafts h others) (done ++ c ∷ []) after)

  first_there : all_expanded x (seen_drafts h rest) done p ≡ then_rest (candidate_expanded x (seen_draft h' d) p)
  first_there =
      ap (λ xs. all_expanded x (seen_drafts h xs) done p) s
      ∙ ap (λ (y : written.Draft). then_rest (candidate_expanded x y p)) (sym (draft_there e d (draft_lies h d rest others s (length h) l)))

  pub one_fails : (f : ExpandFault) → candidate_expanded x (seen_draft h' d) p ≡ Fails f q → all_expanded x (seen_drafts h rest) done p ≡ Fails f q
  one_fails f k = first_there ∙ ap then_rest k

  pub one_goes : (c : Candidate) (more : List Candidate) → candidate_expanded x (seen_draft h' d) p ≡ Makes c q → more ≡ done ++ c ∷ []
      → all_expanded x (seen_drafts h rest) done p ≡ all_expanded x (seen_drafts h others) more q
  one_goes c more k m = first_there ∙ (ap then_rest k ∙ ap (λ cs. all_expanded x (seen_drafts h others) cs q) (sym m))

pub none_left : (x : Setting) (h : Objects) (rest : List Draft) (done : List Candidate) (p : Progress) → length rest ≡ 0 → all_expanded x (seen_drafts h rest) done p ≡ Makes done p
none_left x h [] done p n = refl
none_left x h (d ∷ rest) done p n = absurd (omega (arith, n))

-- ---- functions that are done

candidates_later : {h h' : Objects} → Extends h h' → (ms : List Member) (bs : List Bool) → members_reach ms ≤ length h → seen_candidates h' ms bs ≡ seen_candidates h ms bs
candidates_later e [] bs l = refl
candidates_later e (m ∷ ms) [] l = refl
candidates_later e (m ∷ ms) (b ∷ bs) l = rw (seen_core-later e m.guard (omega (arith, l)), seen_core-later e m.body (omega (arith, l)), candidates_later e ms bs (omega (arith, l))) refl

candidates_put : (h : Objects) (ms : List Member) (bs : List Bool) (m : Member) (b : Bool) → length bs ≡ length ms
    → seen_candidates h (ms ++ m ∷ []) (bs ++ b ∷ []) ≡ seen_candidates h ms bs ++ seen_candidate h m b ∷ []
candidates_put h [] [] m b l = refl
candidates_put h [] (c ∷ bs) m b l = absurd (omega (arith, l))
candidates_put h (y ∷ ms) [] m b l = absurd (omega (arith, l))
candidates_put h (y ∷ ms) (c ∷ bs) m b l = ap (λ cs. seen_candidate h y c ∷ cs) (candidates_put h ms bs m b (omega (arith, l)))

length_put : {A : Type 0} (xs : List A) (x : A) (n : ℕ) → length xs ≡ n → length (xs ++ x ∷ []) ≡ suc n
length_put [] x n l = omega (arith, l)
length_put (y ∷ xs) x zero l = absurd (omega (arith, l))
length_put (y ∷ xs) x (suc n) l = let k : length (xs ++ x ∷ []) ≡ suc n = length_put xs x n (omega (arith, l)) in omega (arith, k)

-- with one more
module _ (ms ns : List Member) (bs cs : List Bool) (m : Member) (b : Bool) (e : ns ≡ ms ++ m ∷ []) (f : cs ≡ bs ++ b ∷ []) where
  pub candidates_pushed : {h h' : Objects} → Extends h h' → length bs ≡ length ms → members_reach ms ≤ length h → seen_candidates h' ns cs ≡ seen_candidates h ms bs ++ seen_candidate h' m b ∷ []
  candidates_pushed {h} {h'} g s l =
      ap (λ xs. seen_candidates h' xs cs) e
      ∙ (ap (λ ys. seen_candidates h' (ms ++ m ∷ []) ys) f
      ∙ (candidates_put h' ms bs m b s ∙ ap (λ xs. xs ++ seen_candidate h' m b ∷ []) (candidates_later g ms bs l)))

  pub as_many : length bs ≡ length ms → length cs ≡ length ns
  as_many s = ap length f ∙ (length_put bs b (length ms) s ∙ sym (ap length e ∙ length_put ms m (length ms) refl))

reach_put : (ms : List Member) (m : Member) (n : ℕ) → members_reach ms ≤ n → member_reach m ≤ n → members_reach (ms ++ m ∷ []) ≤ n
reach_put [] m n l k = omega (arith, k)
reach_put (y ∷ ms) m n l k = let r : members_reach (ms ++ m ∷ []) ≤ n = reach_put ms m n (omega (arith, l)) k in omega (arith, l, r)

pub reach_pushed : (ms ns : List Member) (m : Member) (n k : ℕ) → ns ≡ ms ++ m ∷ [] → members_reach ms ≤ n → n ≤ k → member_reach m ≤ k → members_reach ns ≤ k
reach_pushed ms ns m n k e l g i = subst (λ xs. members_reach xs ≤ k) (sym e) (reach_put ms m k (omega (arith, l, g)) i)

-- ---- known symbols

known_put : {h h' : Objects} → Extends h h' → (a b : ℕ) → a ≤ b → (ms : List Member) → members_reach ms ≤ length h → All (MemberIsKnown a h) ms → (m : Member) → MemberIsKnown b h' m
    → (i : ℕ) (d : Member) → i < length (ms ++ m ∷ []) → MemberIsKnown b h' (get_or (ms ++ m ∷ []) i d)
known_put e a b le [] l k m j zero d i = j
known_put e a b le [] l k m j (suc n) d i = absurd (omega (arith, i))
known_put e a b le (y ∷ ms) l k m j zero d i = member_later e a b le y (omega (arith, l)) (k 0 y (omega arith))
known_put e a b le (y ∷ ms) l k m j (suc n) d i = known_put e a b le ms (omega (arith, l)) (λ o z c. k (suc o) z (omega (arith, c))) m j n d (omega (arith, i))

pub known_pushed : {h h' : Objects} → Extends h h' → (a b : ℕ) → a ≤ b → (ms ns : List Member) (m : Member) → ns ≡ ms ++ m ∷ [] → members_reach ms ≤ length h → All (MemberIsKnown a h) ms → MemberIsKnown b h' m
    → All (MemberIsKnown b h') ns
known_pushed {h} {h'} e a b le ms ns m s l k j = subst (λ xs. All (MemberIsKnown b h') xs) (sym s) (λ i d c. known_put e a b le ms l k m j i d c)
