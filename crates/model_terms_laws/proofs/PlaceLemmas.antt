-- The sites of a form are its places.
use Rattle.std.proofs.Common.{◌≡◌, ℕ, zero, suc, ◌+◌, ◌<◌, ◌≤◌, List, [], ◌∷◌, ◌++◌, length, refl, ap, sym, ◌∙◌, subst, arith, inl, inr, append_assoc}
use Rattle.std.specs.Prelude.{Option, Some, None, map, ◌⊎◌, option_and_then}
use Rattle.std.specs.Ordering.{nat_cmp}
use Rattle.std.specs.Cmp.{nat_cmp_is}
use Rattle.std.specs.Cmp.Lexicographic.{slice_cmp}
use Rattle.std.specs.List.{AllByRecursion, Any}
use Rattle.std.specs.List.Sorted.{IsStrictlySortedBy}
use Rattle.std.specs.declared.cmp.Ordering.TheVariants.{Less, Equal}
use Rattle.std.proofs.lemmas.List.{append-nil}
use Rattle.model_terms.specs.Cores.{Core, Cores, none, more, Var, Const, If, Let, Mv, MvLet, StobjLet, WithLocal, MustBeEqual, Call, Place, variable, count, and_last, children, child_at, form_at}
use Rattle.model_terms.specs.Worlds.{World, Out, Scope}
use Rattle.model_terms.specs.Scopes.{name_kinds, binding, producer_scope, consumer_scope, local_scope, body_scope}
use Rattle.model_terms.specs.Sites.{Placed, down, here, below, below_parts, below_actuals, one_ordinary, first_kind, other_kinds, ins_of, formal_stobj, actual_kind, parent_in, sites}
use Rattle.model_terms_laws.specs.Laws.{place_cmp, ArePlaces}

-- ---- induction over a form by its children

OfEach : (Core → Type 0) → Cores → Type 0
OfEach P none = Unit {0}
OfEach P (more f fs) = P f × OfEach P fs

each_and_last : (P : Core → Type 0) (fs : Cores) (f : Core) → OfEach P fs → P f → OfEach P (and_last fs f)
unfolding OfEach
each_and_last P none f all last = (last, tt)
each_and_last P (more g gs) f all last = (all.0, each_and_last P gs f all.1 last)

mutual
  unfolding OfEach

  by_children : (P : Core → Type 0) → ((f : Core) → OfEach P (children f) → P f) → (f : Core) → P f
  by_children P step (Var x) = step (Var x) tt
  by_children P step (Const o) = step (Const o) tt
  by_children P step (If a b c) = step (If a b c) (by_children P step a, (by_children P step b, (by_children P step c, tt)))
  by_children P step (Let names bound body) = step (Let names bound body) (each_and_last P bound body (all_by_children P step bound) (by_children P step body))
  by_children P step (Mv parts) = step (Mv parts) (all_by_children P step parts)
  by_children P step (MvLet names bound body) = step (MvLet names bound body) (by_children P step bound, (by_children P step body, tt))
  by_children P step (StobjLet names bound vars producer consumer) = step (StobjLet names bound vars producer consumer) (by_children P step producer, (by_children P step consumer, tt))
  by_children P step (WithLocal stobj names producer body) = step (WithLocal stobj names producer body) (by_children P step producer, (by_children P step body, tt))
  by_children P step (MustBeEqual logic exec) = step (MustBeEqual logic exec) (by_children P step logic, (by_children P step exec, tt))
  by_children P step (Call f actuals) = step (Call f actuals) (all_by_children P step actuals)

  all_by_children : (P : Core → Type 0) → ((f : Core) → OfEach P (children f) → P f) → (fs : Cores) → OfEach P fs
  all_by_children P step none = tt
  all_by_children P step (more f fs) = (by_children P step f, all_by_children P step fs)

-- ---- places below a form are those of its children

data Cover (w : World) : Cores → ℕ → List Placed → Type 0 where
  no_more : (k : ℕ) → Cover w none k []
  and_more : (k : ℕ) (g : Core) (fs : Cores) (scope : Scope) (formal : Option ℕ) (expected : List Out) (qs : List Placed) → Cover w fs (k + 1) qs
      → Cover w (more g fs) k (map (down k) (here g scope formal expected ∷ below w scope g expected) ++ qs)

last_one : (w : World) (k : ℕ) (g : Core) (scope : Scope) (expected : List Out) → Cover w (more g none) k (map (down k) (here g scope None expected ∷ below w scope g expected))
last_one w k g scope expected =
    subst (λ ps. Cover w (more g none) k ps) (append-nil (map (down k) (here g scope None expected ∷ below w scope g expected)))
    (and_more k g none scope None expected [] (no_more (k + 1)))

parts_cover : (w : World) (scope : Scope) (kinds : List Out) (k : ℕ) (fs : Cores) → Cover w fs k (below_parts w scope kinds k fs)
unfolding below
parts_cover w scope kinds k none = no_more k
parts_cover w scope kinds k (more f fs) = and_more k f fs scope None (first_kind kinds ∷ []) _ (parts_cover w scope (other_kinds kinds) (k + 1) fs)

actuals_cover : (w : World) (scope : Scope) (ins : List Out) (k : ℕ) (fs : Cores) → Cover w fs k (below_actuals w scope ins k fs)
unfolding below
actuals_cover w scope ins k none = no_more k
actuals_cover w scope ins k (more f fs) =
    and_more k f fs scope (formal_stobj (first_kind ins)) (actual_kind (first_kind ins) (variable f) ∷ []) _ (actuals_cover w scope (other_kinds ins) (k + 1) fs)

bound_cover : (w : World) (scope inner : Scope) (kinds : List Out) (k j : ℕ) (fs : Cores) (body : Core) (expected : List Out) → k + count fs ≡ j
    → Cover w (and_last fs body) k (below_parts w scope kinds k fs ++ map (down j) (here body inner None expected ∷ below w inner body expected))
unfolding below
bound_cover w scope inner kinds k j none body expected e =
    let same : k ≡ j = omega (arith, e) in
    subst (λ i. Cover w (more body none) k (map (down i) (here body inner None expected ∷ below w inner body expected))) same (last_one w k body inner expected)
bound_cover w scope inner kinds k j (more f fs) body expected e =
    let later : k + 1 + count fs ≡ j = omega (arith, e) in
    subst (λ ps. Cover w (more f (and_last fs body)) k ps)
    (sym (append_assoc (map (down k) (here f scope None (first_kind kinds ∷ []) ∷ below w scope f (first_kind kinds ∷ []))) (below_parts w scope (other_kinds kinds) (k + 1) fs) (map (down j) (here body inner None expected ∷ below w inner body expected))))
    (and_more k f (and_last fs body) scope None (first_kind kinds ∷ []) _ (bound_cover w scope inner (other_kinds kinds) (k + 1) j fs body expected later))

cover : (w : World) (scope : Scope) (f : Core) (expected : List Out) → Cover w (children f) 0 (below w scope f expected)
unfolding below
cover w scope (Var x) expected = no_more 0
cover w scope (Const o) expected = no_more 0
cover w scope (If a b c) expected = and_more 0 a _ scope None one_ordinary _ (and_more 1 b _ scope None expected _ (last_one w 2 c scope expected))
cover w scope (Let names bound body) expected = bound_cover w scope (binding w scope names) (name_kinds w names) 0 (count bound) bound body expected (omega arith)
cover w scope (Mv parts) expected = parts_cover w scope expected 0 parts
cover w scope (MvLet names bound body) expected = and_more 0 bound _ scope None (name_kinds w names) _ (last_one w 1 body (binding w scope names) expected)
cover w scope (StobjLet names bound vars producer consumer) expected =
    and_more 0 producer _ (producer_scope w scope (parent_in bound) names) None (name_kinds w vars) _ (last_one w 1 consumer (consumer_scope w scope names vars) expected)
cover w scope (WithLocal stobj names producer body) expected =
    and_more 0 producer _ (local_scope w scope stobj) None (name_kinds w names) _ (last_one w 1 body (body_scope w scope stobj names) expected)
cover w scope (MustBeEqual logic exec) expected = and_more 0 logic _ scope None expected _ (last_one w 1 exec scope expected)
cover w scope (Call f actuals) expected = actuals_cover w scope (ins_of w f) 0 actuals

-- ---- each stands where it is said to stand

Stands : Core → Placed → Type 0
Stands f p = form_at f p.place ≡ Some p.site.form

-- at the root of a form, and below it
StandBelow : World → Core → Type 0
StandBelow w f = (scope : Scope) (formal : Option ℕ) (expected : List Out) → AllByRecursion (Stands f) (here f scope formal expected ∷ below w scope f expected)

all_append : (P : Placed → Type 0) (ps qs : List Placed) → AllByRecursion P ps → AllByRecursion P qs → AllByRecursion P (ps ++ qs)
all_append P [] qs all others = others
all_append P (p ∷ ps) qs all others = (all.0, all_append P ps qs all.1 others)

stand_down : (f g : Core) (k : ℕ) (ps : List Placed) → child_at (children f) k ≡ Some g → AllByRecursion (Stands g) ps → AllByRecursion (Stands f) (map (down k) ps)
unfolding Stands
stand_down f g k [] e all = tt
stand_down f g k (p ∷ ps) e all = (ap (option_and_then (λ h. form_at h p.place)) e ∙ all.0, stand_down f g k ps e all.1)

-- the forms are children of f from number k on
From : Core → Cores → ℕ → Type 0
From f fs k = (i j : ℕ) (g : Core) → j ≡ k + i → child_at fs i ≡ Some g → child_at (children f) j ≡ Some g

from_next : (f g : Core) (fs : Cores) (k : ℕ) → From f (more g fs) k → From f fs (k + 1)
unfolding From
from_next f g fs k from i j h e c = from (suc i) j h (omega (arith, e)) c

stand_covered : (w : World) (f : Core) (fs : Cores) (k : ℕ) (ps : List Placed) → Cover w fs k ps → From f fs k → OfEach (StandBelow w) fs → AllByRecursion (Stands f) ps
unfolding From OfEach StandBelow
stand_covered w f fs k ps (no_more j) from all = tt
stand_covered w f fs k ps (and_more j g gs scope formal expected qs rest) from all =
    all_append (Stands f) (map (down j) (here g scope formal expected ∷ below w scope g expected)) qs
    (stand_down f g j (here g scope formal expected ∷ below w scope g expected) (from 0 j g (omega arith) refl) (all.0 scope formal expected))
    (stand_covered w f gs (j + 1) qs rest (from_next f g gs j from) all.1)

from_all : (f : Core) → From f (children f) 0
unfolding From
from_all f i j g e c = let same : i ≡ j = omega (arith, e) in subst (λ n. child_at (children f) n ≡ Some g) same c

stand_step : (w : World) (f : Core) → OfEach (StandBelow w) (children f) → StandBelow w f
unfolding StandBelow Stands
stand_step w f all scope formal expected = (refl, stand_covered w f (children f) 0 (below w scope f expected) (cover w scope f expected) (from_all f) all)

stand : (w : World) (f : Core) → StandBelow w f
stand w f = by_children (StandBelow w) (stand_step w) f

-- ---- each place is among them

Among : Place → List Placed → Type 0
Among place [] = ⊥
Among place (p ∷ ps) = (place ≡ p.place) ⊎ Among place ps

any_later : (place : Place) (p : Placed) (ps : List Placed) → Any (λ (p : Placed). place ≡ p.place) ps → Any (λ (p : Placed). place ≡ p.place) (p ∷ ps)
any_later place p ps a = let inside : a.0 < length ps = a.2 in (suc a.0, a.1, omega (arith, inside), a.3, a.4)

among_any : (place : Place) (ps : List Placed) → Among place ps → Any (λ (p : Placed). place ≡ p.place) ps
unfolding Among
among_any place [] a = absurd a
among_any place (p ∷ ps) (inl e) = (0, p, omega arith, refl, e)
among_any place (p ∷ ps) (inr a) = any_later place p ps (among_any place ps a)

among_first : (place : Place) (ps qs : List Placed) → Among place ps → Among place (ps ++ qs)
unfolding Among
among_first place [] qs a = absurd a
among_first place (p ∷ ps) qs (inl e) = inl e
among_first place (p ∷ ps) qs (inr a) = inr (among_first place ps qs a)

among_second : (place : Place) (ps qs : List Placed) → Among place qs → Among place (ps ++ qs)
unfolding Among
among_second place [] qs a = a
among_second place (p ∷ ps) qs a = inr (among_second place ps qs a)

among_down : (place : Place) (k : ℕ) (ps : List Placed) → Among place ps → Among (k ∷ place) (map (down k) ps)
unfolding Among
among_down place k [] a = absurd a
among_down place k (p ∷ ps) (inl e) = inl (ap (λ q. k ∷ q) e)
among_down place k (p ∷ ps) (inr a) = inr (among_down place k ps a)

-- every place of a form is among those at its root and below it
Reaches : World → Core → Type 0
Reaches w f = (scope : Scope) (formal : Option ℕ) (expected : List Out) (place : Place) (g : Core) → form_at f place ≡ Some g → Among place (here f scope formal expected ∷ below w scope f expected)

none_some : (g : Core) → ◌≡◌ {A = Option Core} None (Some g) → ⊥
none_some g e = cc

some_same : (f g : Core) → Some f ≡ Some g → f ≡ g
some_same f g e = cc

reach_covered : (w : World) (fs : Cores) (k : ℕ) (ps : List Placed) → Cover w fs k ps → OfEach (Reaches w) fs
    → (i : ℕ) (h : Core) (place : Place) (g : Core) → child_at fs i ≡ Some h → form_at h place ≡ Some g → Among ((k + i) ∷ place) ps
unfolding OfEach Reaches
reach_covered w fs k ps (no_more j) all i h place g c e = absurd (none_some h c)
reach_covered w fs k ps (and_more j f gs scope formal expected qs rest) all zero h place g c e =
    let same : f ≡ h = some_same f h c in
    let found : form_at f place ≡ Some g = subst (λ x. form_at x place ≡ Some g) (sym same) e in
    let at : j ≡ j + 0 = omega arith in
    among_first ((j + 0) ∷ place) (map (down j) (here f scope formal expected ∷ below w scope f expected)) qs
    (subst (λ n. Among (n ∷ place) (map (down j) (here f scope formal expected ∷ below w scope f expected))) at
    (among_down place j (here f scope formal expected ∷ below w scope f expected) (all.0 scope formal expected place g found)))
reach_covered w fs k ps (and_more j f gs scope formal expected qs rest) all (suc i) h place g c e =
    let at : j + 1 + i ≡ j + suc i = omega arith in
    among_second ((j + suc i) ∷ place) (map (down j) (here f scope formal expected ∷ below w scope f expected)) qs
    (subst (λ n. Among (n ∷ place) qs) at (reach_covered w gs (j + 1) qs rest all.1 i h place g c e))

reach_child : (w : World) (f : Core) (ps : List Placed) → Cover w (children f) 0 ps → OfEach (Reaches w) (children f) → (k : ℕ) (place : Place) (g : Core)
    → (o : Option Core) → child_at (children f) k ≡ o → option_and_then (λ h. form_at h place) o ≡ Some g → Among (k ∷ place) ps
reach_child w f ps c all k place g None at e = absurd (none_some g e)
reach_child w f ps c all k place g (Some h) at e =
    let same : 0 + k ≡ k = omega arith in
    subst (λ n. Among (n ∷ place) ps) same (reach_covered w (children f) 0 ps c all k h place g at e)

reach_step : (w : World) (f : Core) → OfEach (Reaches w) (children f) → Reaches w f
unfolding Reaches Among
reach_step w f all scope formal expected [] g e = inl refl
reach_step w f all scope formal expected (k ∷ place) g e =
    inr (reach_child w f (below w scope f expected) (cover w scope f expected) all k place g (child_at (children f) k) refl e)

reaches : (w : World) (f : Core) → Reaches w f
reaches w f = by_children (Reaches w) (reach_step w) f

-- ---- order

-- a place begins with number k, or a higher one
BeginsAt : ℕ → Place → Type 0
BeginsAt k [] = ⊥
BeginsAt k (j ∷ place) = k ≤ j

Begins : ℕ → Placed → Type 0
Begins k p = BeginsAt k p.place

begins_lower_at : (k : ℕ) (place : Place) → BeginsAt (k + 1) place → BeginsAt k place
unfolding BeginsAt
begins_lower_at k [] b = b
begins_lower_at k (j ∷ place) b = omega (arith, b)

begins_lower : (k : ℕ) (ps : List Placed) → AllByRecursion (Begins (k + 1)) ps → AllByRecursion (Begins k) ps
unfolding Begins
begins_lower k [] all = tt
begins_lower k (p ∷ ps) all = (begins_lower_at k p.place all.0, begins_lower k ps all.1)

begins_down : (k : ℕ) (ps : List Placed) → AllByRecursion (Begins k) (map (down k) ps)
unfolding Begins BeginsAt
begins_down k [] = tt
begins_down k (p ∷ ps) = (omega arith, begins_down k ps)

begins_covered : (w : World) (fs : Cores) (k : ℕ) (ps : List Placed) → Cover w fs k ps → AllByRecursion (Begins k) ps
begins_covered w fs k ps (no_more j) = tt
begins_covered w fs k ps (and_more j f gs scope formal expected qs rest) =
    all_append (Begins j) (map (down j) (here f scope formal expected ∷ below w scope f expected)) qs (begins_down j (here f scope formal expected ∷ below w scope f expected))
    (begins_lower j qs (begins_covered w gs (j + 1) qs rest))

itself : (k : ℕ) → nat_cmp k k ≡ Equal
itself k = sym (nat_cmp_is k k Equal refl)

lower : (j k : ℕ) → j < k → nat_cmp j k ≡ Less
lower j k h = sym (nat_cmp_is j k Less h)

-- after every place that begins with a lower number
after_lower : (k : ℕ) (a b : Place) → BeginsAt (k + 1) b → slice_cmp nat_cmp (k ∷ a) b ≡ Less
unfolding BeginsAt
after_lower k a [] h = absurd h
after_lower k a (j ∷ b) h = rw (lower k j (omega (arith, h))) refl

all_after : (k : ℕ) (p : Placed) (qs : List Placed) → AllByRecursion (Begins (k + 1)) qs → AllByRecursion (λ q. place_cmp (down k p) q ≡ Less) qs
unfolding Begins
all_after k p [] all = tt
all_after k p (q ∷ qs) all = (after_lower k p.place q.place all.0, all_after k p qs all.1)

less_down : (k : ℕ) (p : Placed) (qs : List Placed) → AllByRecursion (λ q. place_cmp p q ≡ Less) qs → AllByRecursion (λ q. place_cmp (down k p) q ≡ Less) (map (down k) qs)
less_down k p [] all = tt
less_down k p (q ∷ qs) all = (rw (itself k) all.0, less_down k p qs all.1)

Sorted : List Placed → Type 0
Sorted ps = IsStrictlySortedBy place_cmp ps

sorted_down : (k : ℕ) (ps : List Placed) → Sorted ps → Sorted (map (down k) ps)
unfolding Sorted IsStrictlySortedBy
sorted_down k [] all = tt
sorted_down k (p ∷ ps) all = (less_down k p ps all.0, sorted_down k ps all.1)

sorted_then : (k : ℕ) (ps qs : List Placed) → Sorted (map (down k) ps) → Sorted qs → AllByRecursion (Begins (k + 1)) qs → Sorted (map (down k) ps ++ qs)
unfolding Sorted IsStrictlySortedBy
sorted_then k [] qs all others begins = others
sorted_then k (p ∷ ps) qs all others begins =
    (all_append (λ q. place_cmp (down k p) q ≡ Less) (map (down k) ps) qs all.0 (all_after k p qs begins), sorted_then k ps qs all.1 others begins)

InOrder : World → Core → Type 0
InOrder w f = (scope : Scope) (formal : Option ℕ) (expected : List Out) → Sorted (here f scope formal expected ∷ below w scope f expected)

order_covered : (w : World) (fs : Cores) (k : ℕ) (ps : List Placed) → Cover w fs k ps → OfEach (InOrder w) fs → Sorted ps
unfolding OfEach InOrder Sorted IsStrictlySortedBy
order_covered w fs k ps (no_more j) all = tt
order_covered w fs k ps (and_more j f gs scope formal expected qs rest) all =
    sorted_then j (here f scope formal expected ∷ below w scope f expected) qs (sorted_down j (here f scope formal expected ∷ below w scope f expected) (all.0 scope formal expected))
    (order_covered w gs (j + 1) qs rest all.1) (begins_covered w gs (j + 1) qs rest)

before_at : (place : Place) → BeginsAt 0 place → slice_cmp nat_cmp [] place ≡ Less
unfolding BeginsAt
before_at [] h = absurd h
before_at (k ∷ place) h = refl

all_before : (p : Placed) (qs : List Placed) → p.place ≡ [] → AllByRecursion (Begins 0) qs → AllByRecursion (λ q. place_cmp p q ≡ Less) qs
unfolding Begins
all_before p [] e all = tt
all_before p (q ∷ qs) e all = (ap (λ a. slice_cmp nat_cmp a q.place) e ∙ before_at q.place all.0, all_before p qs e all.1)

order_step : (w : World) (f : Core) → OfEach (InOrder w) (children f) → InOrder w f
unfolding InOrder Sorted IsStrictlySortedBy
order_step w f all scope formal expected = (
  all_before (here f scope formal expected) (below w scope f expected) refl (begins_covered w (children f) 0 (below w scope f expected) (cover w scope f expected)),
  order_covered w (children f) 0 (below w scope f expected) (cover w scope f expected) all,
)

ordered : (w : World) (f : Core) → InOrder w f
ordered w f = by_children (InOrder w) (order_step w) f

pub are_places : ArePlaces
unfolding StandBelow Stands Reaches InOrder Sorted
are_places =
    record {
      stand = λ w scope f expected. stand w f scope None expected;
      each = λ w scope f g expected place e. among_any place (sites w scope f expected) (reaches w f scope None expected place g e);
      order = λ w scope f expected. ordered w f scope None expected;
    }
