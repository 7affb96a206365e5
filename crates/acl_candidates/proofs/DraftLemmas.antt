-- One function: its guard, then its body.
use Rattle.std.specs.Prelude.{◌≡◌, ℕ, ◌≤◌, List, ◌∷◌, length, refl}
use Rattle.std.proofs.Common.{sym, ap, ◌∙◌, subst, arith}
use Rattle.model_objects.specs.Object.{Object}
use Rattle.model_objects.specs.Named.{Knows}
use Rattle.model_terms.specs.Cores as cores
use Rattle.model_expansion.specs.Faults.{ExpandFault}
use Rattle.model_expansion.specs.Expansion.{Setting, Progress, Expanded, Makes, Fails, then_make, expanded, expanded_guard}
use Rattle.model_expansion_parts.specs.Known.{KnowsForm}
use Rattle.model_expansion_parts.proofs.KnownLemmas.{form_later}
use Rattle.model_events.specs.Functions as written
use Rattle.model_events.specs.Functions.{Candidate, candidate, candidate_expanded}
use Rattle.model_drafts.specs.Laws.{KnowsDraft, KnowsDrafts}
use Rattle.acl_heap.specs.Objects.{Objects, object_of, reach, Extends}
use Rattle.acl_forms.specs.Growth.{Knows-later}
use Rattle.acl_terms.specs.declared.form.Core.{Core}
use Rattle.acl_terms.specs.Forms.{seen_core, core_reach}
use Rattle.acl_terms.specs.Growth.{seen_core-later}
use Rattle.acl_declare.specs.Said.{seen_declared, declared_reach}
use Rattle.acl_declare.proofs.SaidLemmas.{said_later}
use Rattle.acl_drafts.specs.declared.draft.Draft.{Draft}
use Rattle.acl_drafts.specs.Drafts.{seen_draft, draft_reach, seen_drafts, drafts_reach}
use Rattle.acl_check.specs.declared.member.Member.{Member}
use Rattle.acl_signatures.specs.Candidates.{seen_candidate}
use Rattle.acl_cliques.specs.Entered.{member_reach}
use Rattle.acl_translate.specs.Functions.{MemberIsKnown}
use Rattle.acl_fits.proofs.KnownLemmas.{knowledge_agrees}
use Rattle.acl_guards.proofs.GuardLemmas.{known_later}
use Rattle.acl_candidates.specs.Names.{member_with}

-- ---- as it is defined

module _ (x : Setting) (d : written.Draft) where
  abbrev with_body : cores.Core → Expanded cores.Core → Expanded Candidate
  with_body guard e = then_make e (λ body last. Makes (candidate d guard body) last)

  abbrev with_guard : Expanded cores.Core → Expanded Candidate
  with_guard e = then_make e (λ guard after. with_body guard (expanded x d.body after))

  pub guard_fails : (p q : Progress) (f : ExpandFault) → expanded_guard x d.declared.guards p ≡ Fails f q → candidate_expanded x d p ≡ Fails f q
  guard_fails p q f e = ap with_guard e

  pub body_fails : (p q r : Progress) (g : cores.Core) (f : ExpandFault) → expanded_guard x d.declared.guards p ≡ Makes g q → expanded x d.body q ≡ Fails f r → candidate_expanded x d p ≡ Fails f r
  body_fails p q r g f e i = ap with_guard e ∙ ap (with_body g) i

  both_made : (p q r : Progress) (g b : cores.Core) → expanded_guard x d.declared.guards p ≡ Makes g q → expanded x d.body q ≡ Makes b r → candidate_expanded x d p ≡ Makes (candidate d g b) r
  both_made p q r g b e i = ap with_guard e ∙ ap (with_body g) i

-- the function of the program that has both, where the heap has grown behind the guard
pub both_seen : (x : Setting) {h h' : Objects} → Extends h h' → (start : Objects) (d : Draft) (g b : Core) (m : Member) (p q r : Progress) → m ≡ member_with d g b → core_reach g ≤ length h
    → expanded_guard x (seen_draft start d).declared.guards p ≡ Makes (seen_core h g) q → expanded x (seen_draft start d).body q ≡ Makes (seen_core h' b) r
    → candidate_expanded x (seen_draft start d) p ≡ Makes (seen_candidate h' m d.executable) r
both_seen x {h} {h'} e start d g b m p q r s l i j =
    both_made x (seen_draft start d) p q r (seen_core h g) (seen_core h' b) i j
    ∙ (ap (λ (y : cores.Core). Makes (candidate (seen_draft start d) y (seen_core h' b)) r) (sym (seen_core-later e g l))
    ∙ ap (λ (y : Member). Makes (seen_candidate h' y d.executable) r) (sym s))

pub both_reach : (d : Draft) (g b : Core) (m : Member) (n k : ℕ) → m ≡ member_with d g b → core_reach g ≤ n → n ≤ k → core_reach b ≤ k → member_reach m ≤ k
both_reach d g b m n k s l e i = subst (λ (y : Member). member_reach y ≤ k) (sym s) (omega (arith, l, e, i))

-- ---- known symbols

core_known : {h h' : Objects} → Extends h h' → (m n : ℕ) → m ≤ n → (f : Core) → core_reach f ≤ length h → KnowsForm m (seen_core h f) → KnowsForm n (seen_core h' f)
core_known {h} {h'} e m n le f l k = subst (λ (y : cores.Core). KnowsForm n y) (sym (seen_core-later e f l)) (form_later m n le (seen_core h f) k)

pub both_known : {h h' : Objects} → Extends h h' → (m n : ℕ) → m ≤ n → (d : Draft) (g b : Core) (x : Member) → x ≡ member_with d g b → core_reach g ≤ length h → KnowsForm m (seen_core h g)
    → KnowsForm n (seen_core h' b) → MemberIsKnown n h' x
both_known {h} {h'} e m n le d g b x s l k j = subst (λ (y : Member). MemberIsKnown n h' y) (sym s) (record {
  guard = knowledge_agrees.form n (seen_core h' g) (core_known e m n le g l k);
  body = knowledge_agrees.form n (seen_core h' b) j;
})

pub member_later : {h h' : Objects} → Extends h h' → (m n : ℕ) → m ≤ n → (x : Member) → member_reach x ≤ length h → MemberIsKnown m h x → MemberIsKnown n h' x
member_later {h} {h'} e m n le x l k = record {
  guard = knowledge_agrees.form n (seen_core h' x.guard) (core_known e m n le x.guard (omega (arith, l)) (knowledge_agrees.back m (seen_core h x.guard) k.guard));
  body = knowledge_agrees.form n (seen_core h' x.body) (core_known e m n le x.body (omega (arith, l)) (knowledge_agrees.back m (seen_core h x.body) k.body));
}

-- ---- a draft where the heap has grown

module _ {h h' : Objects} (e : Extends h h') (d : Draft) (l : draft_reach d ≤ length h) where
  pub draft_there : seen_draft h' d ≡ seen_draft h d
  draft_there =
      let s : seen_declared h' d.declared ≡ seen_declared h d.declared = said_later e d.declared (omega (arith, l)) in
      let b : object_of h' d.body ≡ object_of h d.body = e.same d.body (omega (arith, l)) in
      rw (s, b) refl

  pub known_there : (m n : ℕ) → m ≤ n → KnowsDraft m (seen_draft h d) → KnowsDraft n (seen_draft h' d)
  known_there m n le k =
      let b : object_of h' d.body ≡ object_of h d.body = e.same d.body (omega (arith, l)) in (
        known_later e d.declared.guards (omega (arith, l)) m n le k.0,
        subst (λ (o : Object ℕ). Knows n o) (sym b) (Knows-later m n (object_of h d.body) le k.1),
      )

-- ---- drafts in a row

module _ (h : Objects) (d : Draft) (rest others : List Draft) (s : rest ≡ d ∷ others) where
  pub draft_lies : (n : ℕ) → drafts_reach rest ≤ n → draft_reach d ≤ n
  draft_lies n l = let k : drafts_reach (d ∷ others) ≤ n = rw s at l in omega (arith, k)

  pub others_lie : (n : ℕ) → drafts_reach rest ≤ n → drafts_reach others ≤ n
  others_lie n l = let k : drafts_reach (d ∷ others) ≤ n = rw s at l in omega (arith, k)

  pub draft_known : (n : ℕ) → KnowsDrafts n (seen_drafts h rest) → KnowsDraft n (seen_draft h d)
  draft_known n k = (subst (λ xs. KnowsDrafts n (seen_drafts h xs)) s k).0

  pub others_known : (n : ℕ) → KnowsDrafts n (seen_drafts h rest) → KnowsDrafts n (seen_drafts h others)
  others_known n k = (subst (λ xs. KnowsDrafts n (seen_drafts h xs)) s k).1
