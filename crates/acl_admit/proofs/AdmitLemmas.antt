-- Functions that an expansion made are as their entry asks.
use Rattle.std.specs.Prelude.{◌≡◌, ℕ, zero, suc, ◌^◌, ◌<◌, ◌≤◌, List, [], ◌∷◌, length, Bool, true, false, ◌&&◌, nat_le, refl}
use Rattle.std.specs.List.{All, list_all}
use Rattle.std.proofs.Common.{subst, get_or, arith}
use Rattle.std.proofs.lemmas.List.{length-map}
use Rattle.std.proofs.lemmas.Bool.Decides.{nat_tests}
use Rattle.acl_heap.specs.Objects.{Objects}
use Rattle.model_terms.specs.Worlds.{World}
use Rattle.model_events.specs.Functions.{members}
use Rattle.model_standing.specs.Laws.{MembersStand}
use Rattle.acl_check.specs.declared.member.Member.{Member}
use Rattle.acl_check.specs.Members.{seen_member, seen_members, FitsMember}
use Rattle.acl_narrow.specs.Narrow.{is_narrow}
use Rattle.acl_narrow.proofs.FitLemmas.{narrow_fit}
use Rattle.acl_signatures.specs.Candidates.{seen_candidates}
use Rattle.acl_terms.specs.Forms.{numbers, seen_core, core_reach}
use Rattle.acl_translate.specs.Functions.{HasRoom, FunctionsStand}
use Rattle.acl_cliques.specs.Entered.{member_reach}
use Rattle.acl_cliques.proofs.WorldLemmas.{members_are}
use Rattle.acl_admit.specs.Ready.{is_ready, are_ready, members_reach}

left : (p q : Bool) → (p && q) ≡ true → p ≡ true
left true q e = refl
left false q e = e

right : (p q : Bool) → (p && q) ≡ true → q ≡ true
right true q e = e
right false q e = absurd (cc)

is_le : (n m : ℕ) → nat_le n m ≡ true → n ≤ m
is_le n m e = grind (arith, nat_tests)

all_more : (P : Member → Type 0) (m : Member) (ms : List Member) → P m → All P ms → All P (m ∷ ms)
all_more P m ms first rest = go
  where
    go : (k : ℕ) (d : Member) → k < length (m ∷ ms) → P (get_or (m ∷ ms) k d)
    go zero d n = first
    go (suc k) d n = rest k d (omega (arith, n))

-- ---- one function

-- the function may be checked and made into terms
record MayEnter (h : Objects) (m : Member) : Type 0 where
  pub fits : FitsMember h m
  pub room : HasRoom h m

may_enter : (h : Objects) (m : Member) → is_ready (seen_member h m) ≡ true → member_reach m ≤ length h → MayEnter h m
may_enter h m e l =
    let few : length (numbers m.formals) ≤ 2 ^ 32 = is_le _ _ (left _ _ e) in
    let long : length (numbers m.formals) ≡ length m.formals = length-map m.formals _ in
    let at : length m.formals ≤ 2 ^ 32 = omega (arith, few, long) in
    let guard_lies : core_reach m.guard ≤ length h = omega (arith, l) in
    let body_lies : core_reach m.body ≤ length h = omega (arith, l) in
    let forms : (is_narrow 2048 (seen_core h m.guard) && is_narrow 2048 (seen_core h m.body)) ≡ true = right _ _ e in
    let guard : is_narrow 2048 (seen_core h m.guard) ≡ true = left _ _ forms in
    let body : is_narrow 2048 (seen_core h m.body) ≡ true = right _ _ forms in
    record {
      fits = record { guard = narrow_fit.checked h m.guard guard guard_lies; body = narrow_fit.checked h m.body body body_lies };
      room = record { guard = narrow_fit.made h (length m.formals) m.guard at guard guard_lies; body = narrow_fit.made h (length m.formals) m.body at body body_lies };
    }

-- ---- all

all_enter : (h : Objects) (ms : List Member) → list_all is_ready (seen_members h ms) ≡ true → members_reach ms ≤ length h → All (MayEnter h) ms
all_enter h [] e l = λ k d n. absurd (omega (arith, n))
all_enter h (m ∷ ms) e l =
    let first : MayEnter h m = may_enter h m (left _ _ e) (omega (arith, l)) in
    let rest : All (MayEnter h) ms = all_enter h ms (right _ _ e) (omega (arith, l)) in
    all_more (MayEnter h) m ms first rest

pub ready_few : (h : Objects) (ms : List Member) → are_ready (seen_members h ms) ≡ true → length ms ≤ 2 ^ 32
ready_few h ms e =
    let few : length (seen_members h ms) ≤ 2 ^ 32 = is_le _ _ (left _ _ e) in
    let long : length (seen_members h ms) ≡ length ms = length-map ms (seen_member h) in
    omega (arith, few, long)

pub ready_fit : (h : Objects) (ms : List Member) → are_ready (seen_members h ms) ≡ true → members_reach ms ≤ length h → All (FitsMember h) ms
ready_fit h ms e l = λ k d n. (all_enter h ms (right _ _ e) l k d n).fits

pub ready_room : (h : Objects) (ms : List Member) → are_ready (seen_members h ms) ≡ true → members_reach ms ≤ length h → All (HasRoom h) ms
ready_room h ms e l = λ k d n. (all_enter h ms (right _ _ e) l k d n).room

-- ---- what they call

all_stand : (h : Objects) (w : World) (ms : List Member) → MembersStand w (seen_members h ms) → All (FunctionsStand h w) ms
all_stand h w [] s = λ k d n. absurd (omega (arith, n))
all_stand h w (m ∷ ms) s =
    let first : FunctionsStand h w m = record { guard = s.0.guard; body = s.0.body } in
    let rest : All (FunctionsStand h w) ms = all_stand h w ms s.1 in
    all_more (FunctionsStand h w) m ms first rest

pub members_stand : (h : Objects) (w : World) (ms : List Member) (bs : List Bool) → length bs ≡ length ms → MembersStand w (members (seen_candidates h ms bs)) → All (FunctionsStand h w) ms
members_stand h w ms bs e s = all_stand h w ms (subst (λ xs. MembersStand w xs) (members_are h ms bs e) s)
