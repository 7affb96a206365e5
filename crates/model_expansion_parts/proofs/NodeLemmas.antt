-- A node is made of as many core forms as it has parts.
use Rattle.std.proofs.Common.{◌≡◌, ℕ, ◌+◌, List, [], ◌∷◌, ◌++◌, length, subst, arith}
use Rattle.std.proofs.lemmas.List.{length-append}
use Rattle.model_terms.specs.Cores.{Core}
use Rattle.model_expansion.specs.Layers.{Kind, Part}
use Rattle.model_expansion.specs.Expansion.{Progress, Expanded, Makes, Fails, then_make, Grow, grown_all}
use Rattle.model_expansion_parts.specs.Parts.{HasParts}

abbrev pub HasCount : ℕ → Expanded (List Core) → Type 0
HasCount n (Makes fs p) = length fs ≡ n
HasCount n (Fails fault p) = Unit {0}

one_more : (grow : Grow) (q : Part) (qs : List Part) (done : List Core) (e : Expanded Core)
    → ((f : Core) (after : Progress) → HasCount (length (done ++ f ∷ []) + length qs) (grown_all grow qs (done ++ f ∷ []) after))
    → HasCount (length done + length (q ∷ qs)) (then_make e (λ f after. grown_all grow qs (done ++ f ∷ []) after))
one_more grow q qs done (Makes f after) h =
    let longer = length-append done (f ∷ []) in
    let same : length (done ++ f ∷ []) + length qs ≡ length done + length (q ∷ qs) = omega (arith, longer) in
    subst (λ (n : ℕ). HasCount n (grown_all grow qs (done ++ f ∷ []) after)) same (h f after)
one_more grow q qs done (Fails fault after) h = tt

pub all_grown : (grow : Grow) (qs : List Part) (done : List Core) (p : Progress) → HasCount (length done + length qs) (grown_all grow qs done p)
unfolding grown_all
all_grown grow [] done p = omega arith
all_grown grow (q ∷ qs) done p = one_more grow q qs done (grow q p) (λ f after. all_grown grow qs (done ++ f ∷ []) after)

pub grown_count : (grow : Grow) (qs : List Part) (done : List Core) (p q : Progress) (fs : List Core) → grown_all grow qs done p ≡ Makes fs q → length fs ≡ length done + length qs
grown_count grow qs done p q fs e = subst (λ (m : Expanded (List Core)). HasCount (length done + length qs) m) e (all_grown grow qs done p)

pub node_parts : (k : Kind) (qs : List Part) (grow : Grow) (p q : Progress) (fs : List Core) → HasParts k (length qs) → grown_all grow qs [] p ≡ Makes fs q → HasParts k (length fs)
node_parts k qs grow p q fs h e =
    let counted = grown_count grow qs [] p q fs e in
    let same : length qs ≡ length fs = omega (arith, counted) in
    subst (λ (n : ℕ). HasParts k n) same h
