-- What comes after the producer of a `STOBJ-LET`, in place and on lists.
use Rattle.std.proofs.Common.{◌≡◌, ℕ, zero, suc, List, [], ◌∷◌, ◌++◌, length, drop, Bool, true, false, refl, sym, ap, ◌∙◌, subst, arith, inl, inr}
use Rattle.std.specs.Prelude.{◌≢◌, ◌⊎◌, ◌||◌, nat_eq, nat_lt, if◌then◌else◌}
use Rattle.std.proofs.lemmas.Bool.{eqb-true}
use Rattle.model_symbols.specs.Symbols.{Package}
use Rattle.model_lists.specs.Lists.{StobjList}
use Rattle.model_terms.specs.Worlds.{World, Scope}
use Rattle.model_terms.specs.Classes.{has, repeats}
use Rattle.model_eval.specs.Outcomes.{Shown, Steps, Stobjs, StateOf, State, OutcomeOf, Outcome, Gives, Stops, stops_here, Unknown, then_with, one_more_call, counting}
use Rattle.model_eval.specs.Keeping.{Loan, put_all, ending_loans, taken_back}
use Rattle.model_eval.specs.ListsKeeping.{lists_keeping, all_put}
use Rattle.model_eval.specs.PlacesKeeping.{Closed, Places, Store, lent_places, list_under, with_under, places_keeping}
use Rattle.model_eval.specs.Variables.{list_of, with_list}
use Rattle.model_eval.specs.Lending.{lent, put_into_parent}
use Rattle.model_eval.specs.Evaluated.{put_back}
use Rattle.model_eval_laws.specs.Scope.{names, is_among}
use Rattle.model_eval_laws.proofs.Lists.{names_write, list_widened}
use Rattle.model_accepted.specs.Threaded.{IsThreaded}
use Rattle.model_accepted.specs.StobjScopes.{IsStobj}
use Rattle.model_in_place.specs.Standing.{Stands, AreSame}
use Rattle.model_in_place.specs.Writes.{Write, stobjs_after, MovesIf, Moves, Meet, writes_beside}
use Rattle.model_accepted.specs.Loans.{children, path_of, path_for, HaveParent, IsApartFrom, HaveApartPaths, merged, raised, loans_among, AreLent, IsInside}
use Rattle.model_accepted.proofs.AcceptLemmas.{false_true, true_false, neither}
use Rattle.model_in_place.proofs.ObjectLemmas.{list_written, written_twice, written_same}
use Rattle.model_in_place.proofs.WriteLemmas.{stands_as, here_same, moves_if, counted_same}
use Rattle.model_in_place.proofs.CallLemmas.{names_after}
use Rattle.model_in_place.proofs.LoanLemmas.{names_lent, list_kid, merged_again, AreWithin, within_itself, merged_same, put_one, AreKids, put_merged}
use Rattle.model_in_place.proofs.RaiseLemmas.{objects_split, Raised, raise}
use Rattle.model_in_place.proofs.CallMeeting.{on_lists, at_places}

-- ---- loans among some variables

pub has_among : (vars : List ℕ) (ls : List (Loan ℕ)) (x : ℕ) → has vars x ≡ true → has (children ls) x ≡ true → has (children (loans_among vars ls)) x ≡ true
has_among vars [] x v h = false_true h
has_among vars (l ∷ ls) x v h = go (nat_eq x l.child) refl (has vars l.child) refl h (has_among vars ls x v)
  where
    go : (a : Bool) → nat_eq x l.child ≡ a → (b : Bool) → has vars l.child ≡ b → (a || has (children ls) x) ≡ true → (has (children ls) x ≡ true → has (children (loans_among vars ls)) x ≡ true)
        → has (children (if b then l ∷ loans_among vars ls else loans_among vars ls)) x ≡ true
    go true e true f g later = rw e refl
    go true e false f g later = true_false (sym v ∙ (ap (has vars) (eqb-true x l.child e) ∙ f))
    go false e true f g later = rw e (later g)
    go false e false f g later = later g

pub path_among : (vars : List ℕ) (ls : List (Loan ℕ)) (x : ℕ) → has vars x ≡ true → path_for (loans_among vars ls) x ≡ path_for ls x
path_among vars [] x v = refl
path_among vars (l ∷ ls) x v = go (nat_eq x l.child) refl (has vars l.child) refl (path_among vars ls x v)
  where
    go : (a : Bool) → nat_eq x l.child ≡ a → (b : Bool) → has vars l.child ≡ b → path_for (loans_among vars ls) x ≡ path_for ls x
        → path_for (if b then l ∷ loans_among vars ls else loans_among vars ls) x ≡ (if a then path_of l else path_for ls x)
    go true e true f later = rw e refl
    go true e false f later = true_false (sym v ∙ (ap (has vars) (eqb-true x l.child e) ∙ f))
    go false e true f later = rw e later
    go false e false f later = later

apart_among : (vars path : List ℕ) (ls : List (Loan ℕ)) → IsApartFrom path ls → IsApartFrom path (loans_among vars ls)
apart_among vars path [] h = tt
apart_among vars path (l ∷ ls) h = go (has vars l.child) (apart_among vars path ls h.1)
  where
    go : (b : Bool) → IsApartFrom path (loans_among vars ls) → IsApartFrom path (if b then l ∷ loans_among vars ls else loans_among vars ls)
    go true i = (h.0, i)
    go false i = i

pub paths_among : (vars : List ℕ) (ls : List (Loan ℕ)) → HaveApartPaths ls → HaveApartPaths (loans_among vars ls)
paths_among vars [] h = tt
paths_among vars (l ∷ ls) h = go (has vars l.child) (paths_among vars ls h.1)
  where
    go : (b : Bool) → HaveApartPaths (loans_among vars ls) → HaveApartPaths (if b then l ∷ loans_among vars ls else loans_among vars ls)
    go true i = (apart_among vars (path_of l) ls h.0, i)
    go false i = i

not_among : (vars : List ℕ) (ls : List (Loan ℕ)) (x : ℕ) → has (children ls) x ≡ false → has (children (loans_among vars ls)) x ≡ false
not_among vars [] x h = refl
not_among vars (l ∷ ls) x h =
    let parts : (nat_eq x l.child ≡ false) × (has (children ls) x ≡ false) = neither (nat_eq x l.child) (has (children ls) x) h in
    go (has vars l.child) parts.0 (not_among vars ls x parts.1)
  where
    go : (b : Bool) → nat_eq x l.child ≡ false → has (children (loans_among vars ls)) x ≡ false → has (children (if b then l ∷ loans_among vars ls else loans_among vars ls)) x ≡ false
    go true e i = rw e i
    go false e i = i

pub once_among : (vars : List ℕ) (ls : List (Loan ℕ)) → repeats (children ls) ≡ false → repeats (children (loans_among vars ls)) ≡ false
once_among vars [] h = refl
once_among vars (l ∷ ls) h =
    let parts : (has (children ls) l.child ≡ false) × (repeats (children ls) ≡ false) = neither (has (children ls) l.child) (repeats (children ls)) h in
    go (has vars l.child) parts.0 (once_among vars ls parts.1)
  where
    go : (b : Bool) → has (children ls) l.child ≡ false → repeats (children (loans_among vars ls)) ≡ false → repeats (children (if b then l ∷ loans_among vars ls else loans_among vars ls)) ≡ false
    go true e i = rw (not_among vars ls l.child e) i
    go false e i = i

pub within_among : (vars : List ℕ) (ls qs : List (Loan ℕ)) → AreWithin ls qs → AreWithin ls (loans_among vars qs)
within_among vars ls [] h = tt
within_among vars ls (q ∷ qs) h = go (has vars q.child) (within_among vars ls qs h.2)
  where
    go : (b : Bool) → AreWithin ls (loans_among vars qs) → AreWithin ls (if b then q ∷ loans_among vars qs else loans_among vars qs)
    go true i = (h.0, h.1, i)
    go false i = i

-- ---- loans that end

pub dropped : {X : Type 0} (n : ℕ) (xs ys : List X) → length xs ≡ n → drop n (xs ++ ys) ≡ ys
dropped zero [] ys e = refl
dropped zero (x ∷ xs) ys e = absurd (omega (arith, e))
dropped (suc n) [] ys e = absurd (omega (arith, e))
dropped (suc n) (x ∷ xs) ys e = let fewer : length xs ≡ n = omega (arith, e) in dropped n xs ys fewer

length_places : (ls : List (Loan ℕ)) (scope : Places) → length (lent_places ls scope) ≡ length ls
length_places [] scope = refl
length_places (l ∷ ls) scope = ap (λ (n : ℕ). suc n) (length_places ls scope)

pub length_kids : (kids : Stobjs ℕ) (ls : List (Loan ℕ)) → names kids ≡ children ls → length kids ≡ length ls
length_kids [] [] e = refl
length_kids [] (l ∷ ls) e = cc
length_kids (k ∷ kids) [] e = cc
length_kids (k ∷ kids) (l ∷ ls) e = ap (λ (n : ℕ). suc n) (length_kids kids ls (tails e))
  where
    tails : k.0 ∷ names kids ≡ l.child ∷ children ls → names kids ≡ children ls
    tails f = cc

put_nothing : (ls : List (Loan ℕ)) (store : Store ℕ) → put_all (places_keeping {S = ℕ}) ls store ≡ store
put_nothing [] store = refl
put_nothing (l ∷ ls) store = put_nothing ls store

pub kids_are : (kids : Stobjs ℕ) (ls : List (Loan ℕ)) (all : List (Loan ℕ)) → names kids ≡ children all → AreWithin all ls → AreKids kids ls
kids_are kids [] all e h = tt
kids_are kids (l ∷ ls) all e h = (ap (is_among l.child) e ∙ h.1, kids_are kids ls all e h.2)

-- ---- after the producer

module _ (w : World) (threaded : IsThreaded w) (packages : List Package) (limit : ℕ) (scope : Scope) (p : ℕ) (here : IsStobj scope p) (s : State ℕ) (t : StateOf (Store ℕ)) (stands : Stands w scope s.stobjs t.stobjs)
    (ls : List (Loan ℕ)) (lends : AreLent w p (list_of s.stobjs p) ls) where
  abbrev pub lent_s : State ℕ
  lent_s = record s { stobjs = lent ls s.stobjs ++ s.stobjs }

  abbrev pub lent_t : StateOf (Store ℕ)
  lent_t = record t { stobjs = record t.stobjs { scope = lent_places ls t.stobjs.scope ++ t.stobjs.scope } }

  abbrev kids_then : List Write → Stobjs ℕ
  kids_then us = stobjs_after us (lent ls s.stobjs)

  abbrev others_then : List Write → Stobjs ℕ
  others_then us = stobjs_after (writes_beside (children ls) us) s.stobjs

  kid_names : (us : List Write) → names (kids_then us) ≡ children ls
  kid_names us = names_after us (lent ls s.stobjs) ∙ names_lent ls s.stobjs

  parent_known : (us : List Write) → is_among p (names (others_then us)) ≡ true
  parent_known us = ap (is_among p) (names_after (writes_beside (children ls) us) s.stobjs) ∙ stands.known p here

  parent_no_kid : (us : List Write) → is_among p (names (kids_then us)) ≡ false
  parent_no_kid us = ap (is_among p) (kid_names us) ∙ lends.beside

  itself : AreWithin ls ls
  itself = within_itself ls lends.once

  -- before anything was written
  begins_same : (qs : List (Loan ℕ)) → AreWithin ls qs → raised p qs (lent ls s.stobjs) s.stobjs ≡ s.stobjs
  begins_same qs i = ap (λ (m : StobjList ℕ). with_list p m s.stobjs) (merged_same ls qs (lent ls s.stobjs) (list_of s.stobjs p) i first_list) ∙ written_same p s.stobjs
    where
      first_list : (x : ℕ) → has (children ls) x ≡ true → list_of (lent ls s.stobjs) x ≡ list_under (path_for ls x) (list_of s.stobjs p)
      first_list x h = sym (list_widened (lent ls s.stobjs) s.stobjs x (ap (is_among x) (names_lent ls s.stobjs) ∙ h)) ∙ list_kid p ls s.stobjs s.stobjs x lends.parents h

  -- where these children are back in their parent, the states around have moved
  moved_up : (Condition : Type 0) (qs : List (Loan ℕ)) (Now Then : ℕ → Type 0) (u : State ℕ) (v : StateOf (Store ℕ)) (m : MovesIf w Condition Now lent_s lent_t u v) (x : State ℕ) (y : StateOf (Store ℕ)) → HaveApartPaths qs → repeats (children qs) ≡ false → AreWithin ls qs
      → ((z : ℕ) → Now z → ((has (children qs) z ≡ true) × (has (children ls) z ≡ true) × (path_for qs z ≡ path_for ls z) × Then p) ⊎ ((has (children ls) z ≡ false) × (z ≢ p) × IsStobj scope z × Then z))
      → x.stobjs ≡ kids_then m.writes ++ raised p qs (kids_then m.writes) (others_then m.writes) → y.stobjs ≡ v.stobjs → AreSame x y
      → MovesIf w Condition Then s t (ending_loans lists_keeping (length ls) x) (ending_loans places_keeping (length ls) y)
  moved_up Condition qs Now Then u v m x y apart once i kind e f same =
      let begun : Stands w scope (raised p qs (lent ls s.stobjs) s.stobjs) (record { scope = t.stobjs.scope; roots = t.stobjs.roots; journal = Closed })
      = stands_as w scope (raised p qs (lent ls s.stobjs) s.stobjs) t.stobjs (record { scope = t.stobjs.scope; roots = t.stobjs.roots; journal = Closed }) refl refl
      (subst (λ (o : Stobjs ℕ). Stands w scope o t.stobjs) (sym (begins_same qs i)) stands) in
      let up : Raised w scope p here t.stobjs.scope ls qs apart once lends.parents lends.keeps Now Then kind m.writes (lent ls s.stobjs) s.stobjs t.stobjs.roots
      = raise w scope p here t.stobjs.scope ls qs apart once lends.parents lends.keeps Now Then kind m.writes (lent ls s.stobjs) s.stobjs t.stobjs.roots (names_lent ls s.stobjs) (stands.known p here) m.allowed begun in
      record {
        writes = up.ups;
        allowed = up.allowed;
        stobjs =
            ap (drop (length ls)) e
            ∙ (dropped (length ls) (kids_then m.writes) (raised p qs (kids_then m.writes) (others_then m.writes)) (length_kids (kids_then m.writes) ls (kid_names m.writes))
            ∙ (sym up.lists ∙ ap (stobjs_after up.ups) (begins_same qs i)));
        roots = λ c. ap (λ (o : Store ℕ). o.roots) f ∙ (m.roots c ∙ sym up.stores);
        count = ap (λ (o : Store ℕ). length o.roots) f ∙ m.count;
        places =
            ap (λ (o : Store ℕ). drop (length ls) o.scope) f
            ∙ (ap (drop (length ls)) m.places ∙ dropped (length ls) (lent_places ls t.stobjs.scope) t.stobjs.scope (length_places ls t.stobjs.scope));
        journal = ap (λ (o : Store ℕ). o.journal) f ∙ m.journal;
        same = record { symbols = same.symbols; calls = same.calls; outer = same.outer };
      }

  -- all children put back where some may have been
  put_all_back : (us : List Write) (m : StobjList ℕ) → merged ls (kids_then us) m ≡ merged ls (kids_then us) (list_of (others_then us) p)
      → all_put ls (kids_then us ++ with_list p m (others_then us)) ≡ kids_then us ++ raised p ls (kids_then us) (others_then us)
  put_all_back us m g =
      put_merged p ls (kids_then us) (with_list p m (others_then us)) lends.parents (kids_are (kids_then us) ls ls (kid_names us) itself) (parent_no_kid us) (ap (is_among p) (names_write p m (others_then us)) ∙ parent_known us)
      ∙ ap (λ (o : Stobjs ℕ). kids_then us ++ o)
      (ap (λ (k : StobjList ℕ). with_list p (merged ls (kids_then us) k) (with_list p m (others_then us))) (list_written p m (others_then us) (parent_known us))
      ∙ (written_twice p (merged ls (kids_then us) m) m (others_then us) ∙ ap (λ (k : StobjList ℕ). with_list p k (others_then us)) g))

  module _ (Are : List (Shown ℕ) → Type 0) (Now Nows Then : ℕ → Type 0) (vars : List ℕ)
      (now : (x : ℕ) → Now x → (has vars x ≡ true) × (has (children ls) x ≡ true) × Then p) (nows : (x : ℕ) → Nows x → IsInside scope p ls x) where
    abbrev Thens : ℕ → Type 0
    Thens = IsStobj scope

    kind_now : (z : ℕ) → Now z
        → ((has (children (loans_among vars ls)) z ≡ true) × (has (children ls) z ≡ true) × (path_for (loans_among vars ls) z ≡ path_for ls z) × Then p) ⊎ ((has (children ls) z ≡ false) × (z ≢ p) × IsStobj scope z × Then z)
    kind_now z i = let k : (has vars z ≡ true) × (has (children ls) z ≡ true) × Then p = now z i in inl (has_among vars ls z k.0 k.1, k.1, path_among vars ls z k.0, k.2)

    kind_stop : (z : ℕ) → Now z → ((has (children ls) z ≡ true) × (has (children ls) z ≡ true) × (path_for ls z ≡ path_for ls z) × Thens p) ⊎ ((has (children ls) z ≡ false) × (z ≢ p) × IsStobj scope z × Thens z)
    kind_stop z i = let k : (has vars z ≡ true) × (has (children ls) z ≡ true) × Then p = now z i in inl (k.1, k.1, refl, here)

    kind_stops : (z : ℕ) → Nows z → ((has (children ls) z ≡ true) × (has (children ls) z ≡ true) × (path_for ls z ≡ path_for ls z) × Thens p) ⊎ ((has (children ls) z ≡ false) × (z ≢ p) × IsStobj scope z × Thens z)
    kind_stops z i = go (nows z i)
      where
        go : IsInside scope p ls z → ((has (children ls) z ≡ true) × (has (children ls) z ≡ true) × (path_for ls z ≡ path_for ls z) × Thens p) ⊎ ((has (children ls) z ≡ false) × (z ≢ p) × IsStobj scope z × Thens z)
        go (inl h) = inl (h, h, refl, here)
        go (inr h) = inr (h.0, h.1, h.2, h.2)

    -- the children put back one after another
    meets_put : (u : State ℕ) (v : StateOf (Store ℕ)) (m : Moves w Now lent_s lent_t u v) (values : List (Shown ℕ)) → Are values → (rest : List (Loan ℕ)) (x : State ℕ) (y : StateOf (Store ℕ)) (k : StobjList ℕ)
        → AreWithin ls rest → HaveParent p rest → x.stobjs ≡ kids_then m.writes ++ with_list p k (others_then m.writes) → y.stobjs ≡ v.stobjs
        → merged (loans_among vars rest) (kids_then m.writes) k ≡ merged (loans_among vars ls) (kids_then m.writes) (list_of (others_then m.writes) p)
        → merged ls (kids_then m.writes) k ≡ merged ls (kids_then m.writes) (list_of (others_then m.writes) p)
        → AreSame x y
        → Meet w Are Then Thens s t (taken_back lists_keeping ls (put_back (on_lists w threaded packages limit) vars rest (Gives values) x)) (taken_back places_keeping ls (put_back (at_places w threaded packages limit) vars rest (Gives values) y))
    unfolding put_back
    meets_put u v m values are [] x y k i parents e f g h same = (
      refl,
      are,
      moved_up (Unit {0}) (loans_among vars ls) Now Then u v m x y (paths_among vars ls lends.apart) (once_among vars ls lends.once) (within_among vars ls ls itself) kind_now
          (e ∙ ap (λ (n : StobjList ℕ). kids_then m.writes ++ with_list p n (others_then m.writes)) g) f same,
    )
    meets_put u v m values are (l ∷ rest) x y k i parents e f g h same =
        go (has vars l.child) refl g
        (meets_put u v m values are rest (record (one_more_call x) { stobjs = put_into_parent l x.stobjs }) (one_more_call y) next i.2 parents.1 put f)
        (meets_put u v m values are rest x y k i.2 parents.1 e f)
      where
        next : StobjList ℕ
        next = with_under (path_of l) (list_of (kids_then m.writes) l.child) k

        put : put_into_parent l x.stobjs ≡ kids_then m.writes ++ with_list p next (others_then m.writes)
        put =
            ap (put_into_parent l) e
            ∙ (put_one p l (kids_then m.writes) (with_list p k (others_then m.writes)) parents.0 (ap (is_among l.child) (kid_names m.writes) ∙ i.1) (parent_no_kid m.writes)
            ∙ ap (λ (o : Stobjs ℕ). kids_then m.writes ++ o)
            (ap (λ (n : StobjList ℕ). with_list p (with_under (path_of l) (list_of (kids_then m.writes) l.child) n) (with_list p k (others_then m.writes))) (list_written p k (others_then m.writes) (parent_known m.writes))
            ∙ written_twice p next k (others_then m.writes)))

        again : merged ls (kids_then m.writes) next ≡ merged ls (kids_then m.writes) (list_of (others_then m.writes) p)
        again =
            ap (λ (path : List ℕ). merged ls (kids_then m.writes) (with_under path (list_of (kids_then m.writes) l.child) k)) i.0
            ∙ (merged_again l.child ls (kids_then m.writes) k lends.apart i.1 ∙ h)

        stopped : Meet w Are Then Thens s t (taken_back lists_keeping ls (stops_here Steps x)) (taken_back places_keeping ls (stops_here Steps y))
        stopped = (
          refl,
          here_same w x y same,
          moved_up (t.stobjs.journal ≡ Closed) ls Now Thens u v (moves_if w (t.stobjs.journal ≡ Closed) Now lent_s lent_t u v m) (record x { stobjs = all_put ls x.stobjs }) (record y { stobjs = put_all places_keeping ls y.stobjs }) lends.apart lends.once itself kind_stop
              (ap (all_put ls) e ∙ put_all_back m.writes k h) (put_nothing ls y.stobjs ∙ f) (record { symbols = same.symbols; calls = same.calls; outer = same.outer }),
        )

        go : (b : Bool) → has vars l.child ≡ b
            → merged (if b then l ∷ loans_among vars rest else loans_among vars rest) (kids_then m.writes) k ≡ merged (loans_among vars ls) (kids_then m.writes) (list_of (others_then m.writes) p)
            → (merged (loans_among vars rest) (kids_then m.writes) next ≡ merged (loans_among vars ls) (kids_then m.writes) (list_of (others_then m.writes) p) → merged ls (kids_then m.writes) next ≡ merged ls (kids_then m.writes) (list_of (others_then m.writes) p)
            → AreSame (record (one_more_call x) { stobjs = put_into_parent l x.stobjs }) (one_more_call y)
            → Meet w Are Then Thens s t (taken_back lists_keeping ls (put_back (on_lists w threaded packages limit) vars rest (Gives values) (record (one_more_call x) { stobjs = put_into_parent l x.stobjs })))
            (taken_back places_keeping ls (put_back (at_places w threaded packages limit) vars rest (Gives values) (one_more_call y))))
            → (merged (loans_among vars rest) (kids_then m.writes) k ≡ merged (loans_among vars ls) (kids_then m.writes) (list_of (others_then m.writes) p) → merged ls (kids_then m.writes) k ≡ merged ls (kids_then m.writes) (list_of (others_then m.writes) p) → AreSame x y
            → Meet w Are Then Thens s t (taken_back lists_keeping ls (put_back (on_lists w threaded packages limit) vars rest (Gives values) x)) (taken_back places_keeping ls (put_back (at_places w threaded packages limit) vars rest (Gives values) y)))
            → Meet w Are Then Thens s t
            (taken_back lists_keeping ls (if b then counting limit x (λ after. put_back (on_lists w threaded packages limit) vars rest (Gives values) (record after { stobjs = put_into_parent l after.stobjs })) else put_back (on_lists w threaded packages limit) vars rest (Gives values) x))
            (taken_back places_keeping ls (if b then counting limit y (λ after. put_back (at_places w threaded packages limit) vars rest (Gives values) after) else put_back (at_places w threaded packages limit) vars rest (Gives values) y))
        go false b g first second = second g h same
        go true b g first second =
            subst (λ (n : ℕ). Meet w Are Then Thens s t
            (taken_back lists_keeping ls (counting limit x (λ after. put_back (on_lists w threaded packages limit) vars rest (Gives values) (record after { stobjs = put_into_parent l after.stobjs }))))
            (taken_back places_keeping ls (if nat_lt n limit then put_back (at_places w threaded packages limit) vars rest (Gives values) (one_more_call y) else stops_here Steps y)))
            (sym same.calls) (by_test (nat_lt x.calls limit))
          where
            counted : AreSame (record (one_more_call x) { stobjs = put_into_parent l x.stobjs }) (one_more_call y)
            counted = let c : AreSame (one_more_call x) (one_more_call y) = counted_same w x y same in record { symbols = c.symbols; calls = c.calls; outer = c.outer }

            by_test : (d : Bool) → Meet w Are Then Thens s t
                (taken_back lists_keeping ls (if d then put_back (on_lists w threaded packages limit) vars rest (Gives values) (record (one_more_call x) { stobjs = put_into_parent l x.stobjs }) else stops_here Steps x))
                (taken_back places_keeping ls (if d then put_back (at_places w threaded packages limit) vars rest (Gives values) (one_more_call y) else stops_here Steps y))
            by_test true = first g again counted
            by_test false = stopped

    -- the producer's outcome, and its children given back
    pub meets_given_back : (a : Outcome ℕ) (b : OutcomeOf ℕ (Store ℕ)) → Meet w Are Now Nows lent_s lent_t a b
        → Meet w Are Then Thens s t
        (taken_back lists_keeping ls (then_with a (λ values after. put_back (on_lists w threaded packages limit) vars ls (Gives values) after)))
        (taken_back places_keeping ls (then_with b (λ values after. put_back (at_places w threaded packages limit) vars ls (Gives values) after)))
    meets_given_back (Gives values u) (Gives others v) m =
        rw m.0
        (meets_put u v m.2 values m.1 ls u v (list_of (others_then m.2.writes) p) itself lends.parents
        (m.2.stobjs ∙ (objects_split (children ls) m.2.writes (lent ls s.stobjs) s.stobjs (names_lent ls s.stobjs) ∙ ap (λ (o : Stobjs ℕ). kids_then m.2.writes ++ o) (sym (written_same p (others_then m.2.writes)))))
        refl refl refl m.2.same)
    meets_given_back (Gives values u) (Stops stop origin v) m = absurd m
    meets_given_back (Gives values u) Unknown m = absurd m
    meets_given_back (Stops stop origin u) (Gives others v) m = absurd m
    meets_given_back (Stops stop origin u) (Stops other from v) m = (
      m.0,
      m.1,
      moved_up (t.stobjs.journal ≡ Closed) ls Nows Thens u v m.2 (record u { stobjs = all_put ls u.stobjs }) (record v { stobjs = put_all places_keeping ls v.stobjs }) lends.apart lends.once itself kind_stops
          (ap (all_put ls) (m.2.stobjs ∙ objects_split (children ls) m.2.writes (lent ls s.stobjs) s.stobjs (names_lent ls s.stobjs))
          ∙ put_merged p ls (kids_then m.2.writes) (others_then m.2.writes) lends.parents (kids_are (kids_then m.2.writes) ls ls (kid_names m.2.writes) itself) (parent_no_kid m.2.writes) (parent_known m.2.writes))
          (put_nothing ls v.stobjs) (record { symbols = m.2.same.symbols; calls = m.2.same.calls; outer = m.2.same.outer }),
    )
    meets_given_back (Stops stop origin u) Unknown m = absurd m
    meets_given_back Unknown b m = absurd m
