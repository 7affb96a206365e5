-- The core forms that grow from parts that fit.
use Rattle.std.proofs.Common.{◌≡◌, ℕ, zero, suc, ◌+◌, ◌≤◌, List, [], ◌∷◌, ◌++◌, length, Option, Some, None, refl, sym, ◌∙◌, subst, arith}
use Rattle.std.proofs.lemmas.List.{length-append}
use Rattle.model_objects.specs.Object.{Symbol}
use Rattle.model_symbols.specs.Opening.{truth, nil}
use Rattle.model_terms.specs.Cores.{Core, cores, count}
use Rattle.model_expansion.specs.Faults.{ExpandFault}
use Rattle.model_expansion.specs.TypeTerms.{false_core}
use Rattle.model_expansion.specs.Layers.{Kind, IfNode, LetNode, MvNode, MvLetNode, StobjLetNode, WithLocalNode, MustBeEqualNode, CallNode, GuardItem, FormHolds, Meets, Part, Form, Ready, Rest, Guard, Found, Leaf, Node}
use Rattle.model_expansion.specs.Expansion.{Setting, Progress, Expanded, Makes, Fails, then_make, part_at, core_of_node, ready_fault, ready_found, item_part, guard_found, part_found, Grow, grown_all, grown_found, grown}
use Rattle.model_expansion_forms.specs.Nodes.{EachNode, AllNodes, IsOwnCall, HasForms, HasSeveral, HasConstant}
use Rattle.model_expansion_forms.specs.Rows.{HasRowFunctions}
use Rattle.model_expansion_forms.proofs.NodeLemmas.{IsShaped, IsNode, IsGood, ready_good, part_each, take_each, last_each, count_cores, count_taken}
use Rattle.model_expansion_forms.proofs.TypeLemmas.{shaped_const}
use Rattle.model_expansion_forms.proofs.RowLemmas.{IsGoodItem, AreGoodItems, IsGoodPart, AreGoodParts, HasParts, IsGoodFound, good_const}
use Rattle.model_expansion_forms.proofs.TableLemmas.{good_wider, parts_wider}
use Rattle.model_expansion_forms.proofs.PlaceLemmas.{size, Keeps, true_later, nil_later, IsGoodPlace, settle_place, rest_place}

module _ (x : Setting) (P : ℕ → ℕ → Type 0) (n : ℕ) (keeps : Keeps P x n) (r : HasRowFunctions x.world) where
  abbrev AtPlace : Progress → Expanded Found → Type 0
  AtPlace p e = IsGoodPlace x P n keeps r p e

  -- ---- parts

  ready_place : (left : ℕ) (f : Core) (p : Progress) (fault : Option ExpandFault) → ready_fault x f left ≡ fault → IsShaped (P (size p)) f → AtPlace p (ready_found x f fault p)
  ready_place left f p None e h = (omega arith, ready_good x (P (size p)) f left e h)
  ready_place left f p (Some fault) e h = tt

  item_good : (p : Progress) (g : GuardItem) → IsGoodItem x.world (P (size p)) g → IsGoodPart x.world (P (size p)) (item_part x g)
  item_good p (FormHolds o) h = h
  item_good p (Meets f) h = h

  guard_place : (left : ℕ) (gs : List GuardItem) (p : Progress) → n ≤ size p → AreGoodItems x.world (P (size p)) gs → AtPlace p (guard_found x left gs p)
  guard_place left [] p enough h = (omega arith, good_const x.world (P (size p)) (Symbol truth) (true_later x P n keeps r p enough))
  guard_place left (FormHolds o ∷ []) p enough h = settle_place x P n keeps r o p enough h.0
  guard_place left (Meets f ∷ []) p enough h = ready_place left f p (ready_fault x f left) refl h.0
  guard_place left (g ∷ (k ∷ gs)) p enough h =
      (omega arith, (tt, (item_good p g h.0, (h.1, (shaped_const (P (size p)) (Symbol nil) (nil_later x P n keeps r p enough), tt)))))

  part_place : (left : ℕ) (q : Part) (p : Progress) → n ≤ size p → IsGoodPart x.world (P (size p)) q → AtPlace p (part_found x left q p)
  part_place left (Form o) p enough h = settle_place x P n keeps r o p enough h
  part_place left (Ready f) p enough h = ready_place left f p (ready_fault x f left) refl h
  part_place left (Rest row os) p enough h = rest_place x P n keeps r row os p enough h.0 h.1
  part_place left (Guard gs) p enough h = guard_place left gs p enough h

  -- ---- nodes

  module _ (p : Progress) (enough : n ≤ size p) where
    abbrev NodeHere : Core → Type 0
    NodeHere f = IsNode x.world (P (size p)) f

    false_here : NodeHere false_core
    false_here = good_const x.world (P (size p)) (Symbol nil) (nil_later x P n keeps r p enough)

    plain_node : (f : Core) → IsOwnCall x.world f → HasForms f → HasSeveral f → HasConstant (P (size p)) f → NodeHere f
    plain_node f own forms several constant = record { own = own; shaped = record { forms = forms; several = several; constant = constant } }

    part_here : (fs : List Core) (k : ℕ) → AllNodes NodeHere (cores fs) → EachNode NodeHere (part_at fs k)
    part_here fs k h = part_each NodeHere fs k false_here h

    joined_good : (k : Kind) (fs : List Core) (m : ℕ) → length fs ≡ m → HasParts x.world (P (size p)) k m → AllNodes NodeHere (cores fs) → IsGood x.world (P (size p)) (core_of_node k fs)
    joined_good IfNode fs m e t h = (plain_node (core_of_node IfNode fs) tt tt tt tt, part_here fs 0 h, part_here fs 1 h, part_here fs 2 h)
    joined_good (LetNode names) fs m e t h =
        (plain_node (core_of_node (LetNode names) fs) tt (count_taken (length names) fs (omega (arith, e, t))) tt tt, take_each NodeHere (length names) fs h, part_here fs (length names) h)
    joined_good MvNode fs m e t h =
        let many : count (cores fs) ≡ length fs = count_cores fs in
        (plain_node (core_of_node MvNode fs) tt tt (omega (arith, e, t, many)) tt, h)
    joined_good (MvLetNode names) fs m e t h = (plain_node (core_of_node (MvLetNode names) fs) tt tt t tt, part_here fs 0 h, part_here fs 1 h)
    joined_good (StobjLetNode names vars) fs m e t h =
        (plain_node (core_of_node (StobjLetNode names vars) fs) tt (count_taken (length names) fs (omega (arith, e, t))) tt tt, take_each NodeHere (length names) fs h, part_here fs (length names) h, part_here fs (length names + 1) h)
    joined_good (WithLocalNode stobj names) fs m e t h = (plain_node (core_of_node (WithLocalNode stobj names) fs) tt tt t tt, part_here fs 0 h, part_here fs 1 h)
    joined_good MustBeEqualNode fs m e t h = (plain_node (core_of_node MustBeEqualNode fs) tt tt tt tt, part_here fs 0 h, part_here fs 1 h)
    joined_good (CallNode f) fs m e t h =
        let many : m ≡ count (cores fs) = sym e ∙ sym (count_cores fs) in
        (plain_node (core_of_node (CallNode f) fs) (subst (λ (k : ℕ). HasParts x.world (P (size p)) (CallNode f) k) many t) tt tt tt, h)

  -- ---- all places

  abbrev pub IsGoodForm : Progress → Expanded Core → Type 0
  IsGoodForm p (Makes f q) = (size p ≤ size q) × IsGood x.world (P (size q)) f
  IsGoodForm p (Fails fault q) = Unit {0}

  -- so many core forms
  abbrev AreGoodForms : ℕ → Progress → Expanded (List Core) → Type 0
  AreGoodForms m p (Makes fs q) = (size p ≤ size q) × (length fs ≡ m) × AllNodes (IsNode x.world (P (size q))) (cores fs)
  AreGoodForms m p (Fails fault q) = Unit {0}

  forms_later : (m : ℕ) (p q : Progress) (e : Expanded (List Core)) → size p ≤ size q → AreGoodForms m q e → AreGoodForms m p e
  forms_later m p q (Makes fs u) l h = (omega (arith, l, h.0), h.1, h.2)
  forms_later m p q (Fails fault u) l h = tt

  forms_then : (m : ℕ) (p : Progress) (e : Expanded Core) (go : Core → Progress → Expanded (List Core)) → IsGoodForm p e
      → ((f : Core) (q : Progress) → size p ≤ size q → IsGood x.world (P (size q)) f → AreGoodForms m q (go f q)) → AreGoodForms m p (then_make e go)
  forms_then m p (Makes f q) go h k = forms_later m p q (go f q) h.0 (k f q h.0 h.1)
  forms_then m p (Fails fault q) go h k = tt

  done_later : (p q : Progress) → size p ≤ size q → (done : List Core) → AllNodes (IsNode x.world (P (size p))) (cores done) → AllNodes (IsNode x.world (P (size q))) (cores done)
  done_later p q l [] h = tt
  done_later p q l (f ∷ fs) h = (good_wider (P (size p)) (P (size q)) (λ s. keeps.later (size p) (size q) s l) x.world f h.0, done_later p q l fs h.1)

  module _ (grow : Grow) (g : (q : Part) (p : Progress) → n ≤ size p → IsGoodPart x.world (P (size p)) q → IsGoodForm p (grow q p)) where
    all_good : (qs : List Part) (done : List Core) (p : Progress) (m : ℕ) → length done + length qs ≡ m → n ≤ size p → AreGoodParts x.world (P (size p)) qs → AllNodes (IsNode x.world (P (size p))) (cores done)
        → AreGoodForms m p (grown_all grow qs done p)
    unfolding grown_all
    all_good [] done p m e enough h k = (omega arith, omega (arith, e), k)
    all_good (q ∷ qs) done p m e enough h k =
        forms_then m p (grow q p) (λ f after. grown_all grow qs (done ++ f ∷ []) after) (g q p enough h.0)
        (λ f after l good.
        let longer : length (done ++ f ∷ []) ≡ length done + length (f ∷ []) = length-append done (f ∷ []) in
        all_good qs (done ++ f ∷ []) after m (omega (arith, e, longer)) (omega (arith, enough, l))
        (parts_wider (P (size p)) (P (size after)) (λ s. keeps.later (size p) (size after) s l) x.world qs h.1)
        (last_each (IsNode x.world (P (size after))) done f (done_later p after l done k) good))

    node_good : (k : Kind) (m : ℕ) (p : Progress) (e : Expanded (List Core)) → n ≤ size p → HasParts x.world (P (size p)) k m → AreGoodForms m p e
        → IsGoodForm p (then_make e (λ fs after. Makes (core_of_node k fs) after))
    node_good k m p (Makes fs q) enough t h = (h.0, joined_good q (omega (arith, enough, h.0)) k fs m h.1 (again k t) h.2)
      where
        again : (k : Kind) → HasParts x.world (P (size p)) k m → HasParts x.world (P (size q)) k m
        again IfNode t = t
        again (LetNode names) t = t
        again MvNode t = t
        again (MvLetNode names) t = t
        again (StobjLetNode names vars) t = t
        again (WithLocalNode stobj names) t = t
        again MustBeEqualNode t = t
        again (CallNode f) t = t
    node_good k m p (Fails fault q) enough t h = tt

    found_good : (f : Found) (p : Progress) → n ≤ size p → IsGoodFound x.world (P (size p)) f → IsGoodForm p (grown_found grow f p)
    found_good (Leaf f) p enough h = (omega arith, h)
    found_good (Node k qs) p enough h = node_good k (length qs) p (grown_all grow qs [] p) enough h.0 (all_good qs [] p (length qs) (omega arith) enough h.1 tt)

    place_good : (p : Progress) (e : Expanded Found) → n ≤ size p → AtPlace p e → IsGoodForm p (then_make e (grown_found grow))
    place_good p (Makes f q) enough h = later (grown_found grow f q) (found_good f q (omega (arith, enough, h.0)) h.1)
      where
        later : (e : Expanded Core) → IsGoodForm q e → IsGoodForm p e
        later (Makes c u) k = (omega (arith, h.0, k.0), k.1)
        later (Fails fault u) k = tt
    place_good p (Fails fault q) enough h = tt

  pub grown_good : (left : ℕ) (q : Part) (p : Progress) → n ≤ size p → IsGoodPart x.world (P (size p)) q → IsGoodForm p (grown x left q p)
  unfolding grown
  grown_good zero q p enough h = tt
  grown_good (suc left) q p enough h = place_good (grown x left) (grown_good left) p (part_found x (suc left) q p) enough (part_place (suc left) q p enough h)
