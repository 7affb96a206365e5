-- Writes to children as writes to their parent.
use Rattle.std.proofs.Common.{◌≡◌, ℕ, List, [], ◌∷◌, ◌++◌, Bool, true, false, refl, sym, ap, ◌∙◌, subst, inl, inr}
use Rattle.std.specs.Prelude.{◌≢◌, ◌⊎◌, if◌then◌else◌}
use Rattle.model_lists.specs.Lists.{StobjList}
use Rattle.model_terms.specs.Worlds.{World, Scope}
use Rattle.model_terms.specs.Classes.{has, repeats}
use Rattle.model_eval.specs.Outcomes.{Stobjs}
use Rattle.model_eval.specs.Keeping.{Loan}
use Rattle.model_eval.specs.PlacesKeeping.{Closed, Place, Places, Store, place_of, below, lent_places, list_under, with_under, list_at, with_list_at}
use Rattle.model_eval.specs.Variables.{list_of, with_list}
use Rattle.model_eval.specs.Lending.{lent}
use Rattle.model_eval_laws.specs.Scope.{names, is_among}
use Rattle.model_eval_laws.proofs.Lists.{names_write, write_widened, names_append, among_first, among_more}
use Rattle.model_places.specs.Places.{AreApart, IsPath, IsPlace}
use Rattle.model_accepted.specs.StobjScopes.{IsStobj}
use Rattle.model_accepted.specs.Threaded.{Fits}
use Rattle.model_in_place.specs.Standing.{Stands}
use Rattle.model_in_place.specs.Writes.{Write, stobjs_after, roots_after, AreWrites, writes_beside}
use Rattle.model_accepted.specs.Loans.{children, path_for, HaveParent, HaveApartPaths, merged, raised, AreLent, IsInside}
use Rattle.model_places.proofs.PathLemmas.{at_below, write_below, place_below, below_apart, both_below, places_swapped}
use Rattle.model_in_place.proofs.ObjectLemmas.{list_written, list_other, written_twice, written_commutes}
use Rattle.model_in_place.proofs.WriteLemmas.{stands_written}
use Rattle.model_in_place.proofs.LoanLemmas.{names_lent, list_kid, place_kid, list_beside, place_beside, write_beside, write_missing, paths_apart, merged_write}

-- writes among children and others
pub objects_split : (ns : List ℕ) (us : List Write) (kids os : Stobjs ℕ) → names kids ≡ ns → stobjs_after us (kids ++ os) ≡ stobjs_after us kids ++ stobjs_after (writes_beside ns us) os
objects_split ns [] kids os e = refl
objects_split ns (u ∷ us) kids os e = go (has ns u.0) refl (objects_split ns us (with_list u.0 u.1 kids) os (names_write u.0 u.1 kids ∙ e)) (objects_split ns us kids (with_list u.0 u.1 os) e)
  where
    go : (b : Bool) → has ns u.0 ≡ b
        → stobjs_after us (with_list u.0 u.1 kids ++ os) ≡ stobjs_after us (with_list u.0 u.1 kids) ++ stobjs_after (writes_beside ns us) os
        → stobjs_after us (kids ++ with_list u.0 u.1 os) ≡ stobjs_after us kids ++ stobjs_after (writes_beside ns us) (with_list u.0 u.1 os)
        → stobjs_after us (with_list u.0 u.1 (kids ++ os)) ≡ stobjs_after us (with_list u.0 u.1 kids) ++ stobjs_after (if b then writes_beside ns us else u ∷ writes_beside ns us) os
    go true f first second = ap (stobjs_after us) (write_widened u.0 u.1 kids os (ap (is_among u.0) e ∙ f)) ∙ first
    go false f first second =
        ap (stobjs_after us) (write_beside kids os u.0 u.1 (ap (is_among u.0) e ∙ f))
        ∙ (second ∙ ap (λ (ks : Stobjs ℕ). stobjs_after us ks ++ stobjs_after (writes_beside ns us) (with_list u.0 u.1 os)) (sym (write_missing kids u.0 u.1 (ap (is_among u.0) e ∙ f))))

module _ (w : World) (scope : Scope) (p : ℕ) (here : IsStobj scope p) (places : Places) (ls qs : List (Loan ℕ)) (qs_apart : HaveApartPaths qs) (qs_once : repeats (children qs) ≡ false) (parents : HaveParent p ls)
    (keeps : (x : ℕ) → has (children ls) x ≡ true → (m new : StobjList ℕ) → Fits w p m → Fits w x new → Fits w p (with_under (path_for ls x) new m))
    (Now Then : ℕ → Type 0)
    (kind : (x : ℕ) → Now x → ((has (children qs) x ≡ true) × (has (children ls) x ≡ true) × (path_for qs x ≡ path_for ls x) × Then p) ⊎ ((has (children ls) x ≡ false) × (x ≢ p) × IsStobj scope x × Then x)) where
  abbrev inner : Places
  inner = lent_places ls places ++ places

  -- what the same writes do to the stobjs around
  pub record Raised (us : List Write) (kids os : Stobjs ℕ) (roots : List (StobjList ℕ)) : Type 0 where
    pub ups : List Write
    pub allowed : AreWrites w Then ups
    pub lists : stobjs_after ups (raised p qs kids os) ≡ raised p qs (stobjs_after us kids) (stobjs_after (writes_beside (children ls) us) os)
    pub stores : roots_after places ups roots ≡ roots_after inner us roots

  -- the caller's stobjs in place
  abbrev Around : Stobjs ℕ → Stobjs ℕ → List (StobjList ℕ) → Type 0
  Around kids os roots = Stands w scope (raised p qs kids os) (record { scope = places; roots = roots; journal = Closed })

  parent_list : (kids os : Stobjs ℕ) → is_among p (names os) ≡ true → list_of (raised p qs kids os) p ≡ merged qs kids (list_of os p)
  parent_list kids os k = list_written p (merged qs kids (list_of os p)) os k

  -- one write to a child
  kid_lists : (x : ℕ) (l : StobjList ℕ) (kids os : Stobjs ℕ) → names kids ≡ children ls → is_among p (names os) ≡ true → has (children qs) x ≡ true → has (children ls) x ≡ true → path_for qs x ≡ path_for ls x
      → with_list p (with_under (path_for ls x) l (list_of (raised p qs kids os) p)) (raised p qs kids os) ≡ raised p qs (with_list x l kids) os
  kid_lists x l kids os e k i j same =
      ap (λ (m : StobjList ℕ). with_list p (with_under (path_for ls x) l m) (raised p qs kids os)) (parent_list kids os k)
      ∙ (written_twice p (with_under (path_for ls x) l (merged qs kids (list_of os p))) (merged qs kids (list_of os p)) os
      ∙ ap (λ (m : StobjList ℕ). with_list p m os)
      (ap (λ (path : List ℕ). with_under path l (merged qs kids (list_of os p))) (sym same) ∙ sym (merged_write x l qs kids (list_of os p) qs_apart qs_once i (ap (is_among x) e ∙ j))))

  kid_roots : (x : ℕ) (l : StobjList ℕ) (kids os : Stobjs ℕ) (roots : List (StobjList ℕ)) → has (children ls) x ≡ true → Around kids os roots
      → with_list_at (place_of places p) (with_under (path_for ls x) l (list_of (raised p qs kids os) p)) roots ≡ with_list_at (place_of inner x) l roots
  kid_roots x l kids os roots j stands =
      ap (λ (m : StobjList ℕ). with_list_at (place_of places p) (with_under (path_for ls x) l m) roots) (stands.same p here)
      ∙ (sym (write_below (place_of places p) (path_for ls x) l roots (stands.places p here))
      ∙ ap (λ (q : Place). with_list_at q l roots) (sym (place_kid p ls places places x parents j)))

  -- one write to another stobj
  other_lists : (x : ℕ) (l : StobjList ℕ) (kids os : Stobjs ℕ) → x ≢ p → with_list x l (raised p qs kids os) ≡ raised p qs kids (with_list x l os)
  other_lists x l kids os d =
      written_commutes x p l (merged qs kids (list_of os p)) os d
      ∙ ap (λ (m : StobjList ℕ). with_list p (merged qs kids m) (with_list x l os)) (sym (list_other p x l os (λ e. d (sym e))))

  pub raise : (us : List Write) (kids os : Stobjs ℕ) (roots : List (StobjList ℕ)) → names kids ≡ children ls → is_among p (names os) ≡ true → AreWrites w Now us → Around kids os roots → Raised us kids os roots
  raise [] kids os roots e k a stands = record { ups = []; allowed = tt; lists = refl; stores = refl }
  raise (u ∷ us) kids os roots e k a stands =
      go (kind u.0 a.0)
      (λ next. raise us (with_list u.0 u.1 kids) os (with_list_at (place_of inner u.0) u.1 roots) (names_write u.0 u.1 kids ∙ e) k a.2 next)
      (λ next. raise us kids (with_list u.0 u.1 os) (with_list_at (place_of places u.0) u.1 roots) e (ap (is_among p) (names_write u.0 u.1 os) ∙ k) a.2 next)
    where
      outer : Stobjs ℕ
      outer = raised p qs kids os

      go : ((has (children qs) u.0 ≡ true) × (has (children ls) u.0 ≡ true) × (path_for qs u.0 ≡ path_for ls u.0) × Then p) ⊎ ((has (children ls) u.0 ≡ false) × (u.0 ≢ p) × IsStobj scope u.0 × Then u.0)
          → (Around (with_list u.0 u.1 kids) os (with_list_at (place_of inner u.0) u.1 roots) → Raised us (with_list u.0 u.1 kids) os (with_list_at (place_of inner u.0) u.1 roots))
          → (Around kids (with_list u.0 u.1 os) (with_list_at (place_of places u.0) u.1 roots) → Raised us kids (with_list u.0 u.1 os) (with_list_at (place_of places u.0) u.1 roots))
          → Raised (u ∷ us) kids os roots
      go (inl i) kid other =
          let new : StobjList ℕ = with_under (path_for ls u.0) u.1 (list_of outer p) in
          let fitting : Fits w p new = keeps u.0 i.1 (list_of outer p) u.1 (stands.fits p here) a.1 in
          let lists_next : with_list p new outer ≡ raised p qs (with_list u.0 u.1 kids) os = kid_lists u.0 u.1 kids os e k i.0 i.1 i.2 in
          let roots_next : with_list_at (place_of places p) new roots ≡ with_list_at (place_of inner u.0) u.1 roots = kid_roots u.0 u.1 kids os roots i.1 stands in
          let next : Around (with_list u.0 u.1 kids) os (with_list_at (place_of inner u.0) u.1 roots)
          = subst (λ (rs : List (StobjList ℕ)). Around (with_list u.0 u.1 kids) os rs) roots_next
          (subst (λ (o : Stobjs ℕ). Stands w scope o (record { scope = places; roots = with_list_at (place_of places p) new roots; journal = Closed })) lists_next
          (stands_written w scope outer (record { scope = places; roots = roots; journal = Closed }) p new stands here fitting)) in
          let rest : Raised us (with_list u.0 u.1 kids) os (with_list_at (place_of inner u.0) u.1 roots) = kid next in
          record {
            ups = (p, new) ∷ rest.ups;
            allowed = (i.3, fitting, rest.allowed);
            lists = ap (stobjs_after rest.ups) lists_next ∙ (rest.lists ∙ ap (λ (ws : List Write). raised p qs (stobjs_after us (with_list u.0 u.1 kids)) (stobjs_after ws os)) (skipped i.1));
            stores = ap (roots_after places rest.ups) roots_next ∙ rest.stores;
          }
        where
          skipped : has (children ls) u.0 ≡ true → writes_beside (children ls) us ≡ writes_beside (children ls) (u ∷ us)
          skipped f = rw f refl
      go (inr i) kid other =
          let lists_next : with_list u.0 u.1 outer ≡ raised p qs kids (with_list u.0 u.1 os) = other_lists u.0 u.1 kids os i.1 in
          let next : Around kids (with_list u.0 u.1 os) (with_list_at (place_of places u.0) u.1 roots)
          = subst (λ (o : Stobjs ℕ). Stands w scope o (record { scope = places; roots = with_list_at (place_of places u.0) u.1 roots; journal = Closed })) lists_next
          (stands_written w scope outer (record { scope = places; roots = roots; journal = Closed }) u.0 u.1 stands i.2 a.1) in
          let rest : Raised us kids (with_list u.0 u.1 os) (with_list_at (place_of places u.0) u.1 roots) = other next in
          record {
            ups = u ∷ rest.ups;
            allowed = (i.3, a.1, rest.allowed);
            lists =
                ap (stobjs_after rest.ups) lists_next
                ∙ (rest.lists
                ∙ (ap (λ (ks : Stobjs ℕ). raised p qs (stobjs_after us ks) (stobjs_after (writes_beside (children ls) us) (with_list u.0 u.1 os))) (sym (write_missing kids u.0 u.1 (ap (is_among u.0) e ∙ i.0)))
                ∙ ap (λ (ws : List Write). raised p qs (stobjs_after us (with_list u.0 u.1 kids)) (stobjs_after ws os)) (taken i.0)));
            stores = rest.stores ∙ ap (λ (q : Place). roots_after inner us (with_list_at q u.1 roots)) (sym (place_beside ls places places u.0 i.0));
          }
        where
          taken : has (children ls) u.0 ≡ false → u ∷ writes_beside (children ls) us ≡ writes_beside (children ls) (u ∷ us)
          taken f = rw f refl

-- ---- what stands while children are lent

module _ (w : World) (scope inside : Scope) (p : ℕ) (here : IsStobj scope p) (stobjs : Stobjs ℕ) (store : Store ℕ) (ls : List (Loan ℕ)) (stands : Stands w scope stobjs store) (lends : AreLent w p (list_of stobjs p) ls)
    (kinds : (x : ℕ) → IsStobj inside x → IsInside scope p ls x) where
  abbrev lent_lists : Stobjs ℕ
  lent_lists = lent ls stobjs ++ stobjs

  abbrev lent_scope : Places
  lent_scope = lent_places ls store.scope ++ store.scope

  not_kid : (x : ℕ) → has (children ls) x ≡ false → is_among x (names (lent ls stobjs)) ≡ false
  not_kid x h = ap (is_among x) (names_lent ls stobjs) ∙ h

  kid_place : (x : ℕ) → has (children ls) x ≡ true → place_of lent_scope x ≡ below (place_of store.scope p) (path_for ls x)
  kid_place x h = place_kid p ls store.scope store.scope x lends.parents h

  kid_list : (x : ℕ) → has (children ls) x ≡ true → list_of lent_lists x ≡ list_under (path_for ls x) (list_of stobjs p)
  kid_list x h = list_kid p ls stobjs stobjs x lends.parents h

  pub stands_lent : Stands w inside lent_lists (record store { scope = lent_scope })
  stands_lent = record {
    same = λ x h. same_by x (kinds x h);
    known = λ x h. known_by x (kinds x h);
    places = λ x h. places_by x (kinds x h);
    apart = λ x y h i d. apart_by x y (kinds x h) (kinds y i) d;
    fits = λ x h. fits_by x (kinds x h);
  }
    where
      same_by : (x : ℕ) → IsInside scope p ls x → list_of lent_lists x ≡ list_at store.roots (place_of lent_scope x)
      same_by x (inl h) =
          kid_list x h
          ∙ (ap (list_under (path_for ls x)) (stands.same p here)
          ∙ (sym (at_below (place_of store.scope p) (path_for ls x) store.roots (stands.places p here)) ∙ ap (list_at store.roots) (sym (kid_place x h))))
      same_by x (inr h) =
          list_beside (lent ls stobjs) stobjs x (not_kid x h.0) ∙ (stands.same x h.2 ∙ ap (list_at store.roots) (sym (place_beside ls store.scope store.scope x h.0)))

      known_by : (x : ℕ) → IsInside scope p ls x → is_among x (names lent_lists) ≡ true
      known_by x (inl h) = ap (is_among x) (names_append (lent ls stobjs) stobjs) ∙ among_first x (names (lent ls stobjs)) (names stobjs) (ap (is_among x) (names_lent ls stobjs) ∙ h)
      known_by x (inr h) = ap (is_among x) (names_append (lent ls stobjs) stobjs) ∙ among_more x (names (lent ls stobjs)) (names stobjs) (stands.known x h.2)

      places_by : (x : ℕ) → IsInside scope p ls x → IsPlace store.roots (place_of lent_scope x)
      places_by x (inl h) =
          subst (IsPlace store.roots) (sym (kid_place x h))
          (place_below (place_of store.scope p) (path_for ls x) store.roots (stands.places p here) (subst (IsPath (path_for ls x)) (stands.same p here) (lends.paths x h)))
      places_by x (inr h) = subst (IsPlace store.roots) (sym (place_beside ls store.scope store.scope x h.0)) (stands.places x h.2)

      kid_apart : (x y : ℕ) → has (children ls) x ≡ true → (has (children ls) y ≡ false) × (y ≢ p) × IsStobj scope y → AreApart (place_of lent_scope x) (place_of lent_scope y)
      kid_apart x y h i =
          subst (λ (q : Place). AreApart q (place_of lent_scope y)) (sym (kid_place x h))
          (subst (AreApart (below (place_of store.scope p) (path_for ls x))) (sym (place_beside ls store.scope store.scope y i.0))
          (below_apart (place_of store.scope p) (place_of store.scope y) (path_for ls x) (stands.apart p y here i.2 (λ e. i.1 (sym e)))))

      apart_by : (x y : ℕ) → IsInside scope p ls x → IsInside scope p ls y → x ≢ y → AreApart (place_of lent_scope x) (place_of lent_scope y)
      apart_by x y (inl h) (inl i) d =
          subst (λ (q : Place). AreApart q (place_of lent_scope y)) (sym (kid_place x h))
          (subst (AreApart (below (place_of store.scope p) (path_for ls x))) (sym (kid_place y i))
          (both_below (place_of store.scope p) (path_for ls x) (path_for ls y) store.roots (stands.places p here) (paths_apart ls x y lends.apart h i d)))
      apart_by x y (inl h) (inr i) d = kid_apart x y h i
      apart_by x y (inr h) (inl i) d = places_swapped (place_of lent_scope y) (place_of lent_scope x) (kid_apart y x i h)
      apart_by x y (inr h) (inr i) d =
          subst (λ (q : Place). AreApart q (place_of lent_scope y)) (sym (place_beside ls store.scope store.scope x h.0))
          (subst (AreApart (place_of store.scope x)) (sym (place_beside ls store.scope store.scope y i.0)) (stands.apart x y h.2 i.2 d))

      fits_by : (x : ℕ) → IsInside scope p ls x → Fits w x (list_of lent_lists x)
      fits_by x (inl h) = subst (Fits w x) (sym (kid_list x h)) (lends.fits x h)
      fits_by x (inr h) = subst (Fits w x) (sym (list_beside (lent ls stobjs) stobjs x (not_kid x h.0))) (stands.fits x h.2)
