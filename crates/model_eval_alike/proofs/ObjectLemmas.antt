-- Objects that are alike: their lists, what is written, handed over and back, lent and put into parents.
use Rattle.std.proofs.Common.{◌≡◌, ℕ, zero, suc, List, [], ◌∷◌, ◌++◌, drop, Bool, true, false, Option, Some, None, refl, sym, ◌∙◌, subst}
use Rattle.std.specs.Prelude.{nat_eq, if◌then◌else◌}
use Rattle.std.specs.Ordering.{nat_cmp}
use Rattle.std.specs.declared.cmp.Ordering.{Ordering}
use Rattle.model_objects.specs.Object.{Object}
use Rattle.model_prims.specs.Numbers.{natural_of}
use Rattle.model_lists.specs.Lists.{StobjList, item}
use Rattle.model_lists.specs.LiveLists.{AreAlike}
use Rattle.model_lists_laws.proofs.CanonicalLemmas.{canonical_lists}
use Rattle.model_lists_laws.proofs.StandingLemmas.{item_alike, with_alike}
use Rattle.model_eval.specs.Outcomes.{Shown, Plain, StobjNamed, Stobjs}
use Rattle.model_eval.specs.Variables.{list_of, with_list, inner_stobjs, handed_back}
use Rattle.model_eval.specs.GeneratedCalls.{list_or_none}
use Rattle.model_eval.specs.Lending.{Loan, child_in, with_child_in, with_child, lent, put_into_parent}
use Rattle.model_eval.specs.ListsKeeping.{lists_keeping, list_restored, all_put}
use Rattle.model_eval.specs.Checked.{live}
use Rattle.model_eval_alike.specs.Alike.{AreAlikeStobjs, canonical_stobjs}
use Rattle.model_eval_alike.specs.Laws.{IsLikeness, CanonicalStobjs}

module _ {S : Type 0} (names : S → S → Ordering) where
  abbrev Alike : StobjList S → StobjList S → Type 0
  Alike = AreAlike names

  abbrev AllAlike : Stobjs S → Stobjs S → Type 0
  AllAlike = AreAlikeStobjs names

  pub objects_alike : (os : Stobjs S) → AllAlike os os
  objects_alike [] = tt
  objects_alike (o ∷ os) = (refl, refl, objects_alike os)

  objects_turned : (os ps : Stobjs S) → AllAlike os ps → AllAlike ps os
  objects_turned [] [] h = tt
  objects_turned [] (p ∷ ps) h = absurd h
  objects_turned (o ∷ os) [] h = absurd h
  objects_turned (o ∷ os) (p ∷ ps) h = (sym h.0, sym h.1, objects_turned os ps h.2)

  objects_joined : (os ps qs : Stobjs S) → AllAlike os ps → AllAlike ps qs → AllAlike os qs
  objects_joined [] [] [] h g = tt
  objects_joined [] [] (q ∷ qs) h g = absurd g
  objects_joined [] (p ∷ ps) qs h g = absurd h
  objects_joined (o ∷ os) [] qs h g = absurd h
  objects_joined (o ∷ os) (p ∷ ps) [] h g = absurd g
  objects_joined (o ∷ os) (p ∷ ps) (q ∷ qs) h g = (h.0 ∙ g.0, h.1 ∙ g.1, objects_joined os ps qs h.2 g.2)

  pub is_likeness : IsLikeness names
  is_likeness = record { itself = objects_alike; turned = objects_turned; joined = objects_joined }

  -- ---- lists by name

  pub list_alike : (os ps : Stobjs S) (x : ℕ) → AllAlike os ps → Alike (list_of os x) (list_of ps x)
  list_alike [] [] x h = refl
  list_alike [] (p ∷ ps) x h = absurd h
  list_alike (o ∷ os) [] x h = absurd h
  list_alike (o ∷ os) (p ∷ ps) x h =
      subst (λ (n : ℕ). Alike (list_of (o ∷ os) x) (if nat_eq x n then p.1 else list_of ps x)) h.0 (go (nat_eq x o.0) (list_alike os ps x h.2))
    where
      go : (b : Bool) → Alike (list_of os x) (list_of ps x) → Alike (if b then o.1 else list_of os x) (if b then p.1 else list_of ps x)
      go true i = h.1
      go false i = i

  pub write_alike : (x : ℕ) (l m : StobjList S) (os ps : Stobjs S) → Alike l m → AllAlike os ps → AllAlike (with_list x l os) (with_list x m ps)
  write_alike x l m [] [] g h = tt
  write_alike x l m [] (p ∷ ps) g h = absurd h
  write_alike x l m (o ∷ os) [] g h = absurd h
  write_alike x l m (o ∷ os) (p ∷ ps) g h =
      subst (λ (n : ℕ). AllAlike (with_list x l (o ∷ os)) (if nat_eq x n then (p.0, m) ∷ ps else p ∷ with_list x m ps)) h.0 (go (nat_eq x o.0) (write_alike x l m os ps g h.2))
    where
      go : (b : Bool) → AllAlike (with_list x l os) (with_list x m ps) → AllAlike (if b then (o.0, l) ∷ os else o ∷ with_list x l os) (if b then (p.0, m) ∷ ps else p ∷ with_list x m ps)
      go true i = (h.0, g, h.2)
      go false i = (h.0, h.1, i)

  pub list_or_none_alike : (os ps : Stobjs S) (x : Option ℕ) → AllAlike os ps → Alike (list_or_none lists_keeping os x) (list_or_none lists_keeping ps x)
  list_or_none_alike os ps None h = refl
  list_or_none_alike os ps (Some x) h = list_alike os ps x h

  pub drop_alike : (n : ℕ) (os ps : Stobjs S) → AllAlike os ps → AllAlike (drop n os) (drop n ps)
  drop_alike zero os ps h = h
  drop_alike (suc n) [] [] h = tt
  drop_alike (suc n) [] (p ∷ ps) h = absurd h
  drop_alike (suc n) (o ∷ os) [] h = absurd h
  drop_alike (suc n) (o ∷ os) (p ∷ ps) h = drop_alike n os ps h.2

  pub append_alike : (os ps us vs : Stobjs S) → AllAlike os ps → AllAlike us vs → AllAlike (os ++ us) (ps ++ vs)
  append_alike [] [] us vs h g = g
  append_alike [] (p ∷ ps) us vs h g = absurd h
  append_alike (o ∷ os) [] us vs h g = absurd h
  append_alike (o ∷ os) (p ∷ ps) us vs h g = (h.0, h.1, append_alike os ps us vs h.2 g)

  -- the same variables
  pub live_alike : (os ps : Stobjs S) → AllAlike os ps → live os ≡ live ps
  live_alike [] [] h = refl
  live_alike [] (p ∷ ps) h = absurd h
  live_alike (o ∷ os) [] h = absurd h
  live_alike (o ∷ os) (p ∷ ps) h = rw (h.0, live_alike os ps h.2) refl

  -- ---- calls

  pub inner_alike : (xs : List ℕ) (vs : List (Shown S)) (os ps : Stobjs S) → AllAlike os ps → AllAlike (inner_stobjs xs vs os) (inner_stobjs xs vs ps)
  inner_alike [] vs os ps h = tt
  inner_alike (x ∷ xs) [] os ps h = tt
  inner_alike (x ∷ xs) (Plain o ∷ vs) os ps h = inner_alike xs vs os ps h
  inner_alike (x ∷ xs) (StobjNamed y ∷ vs) os ps h = (refl, list_alike os ps y h, inner_alike xs vs os ps h)

  pub back_alike : (xs : List ℕ) (vs : List (Shown S)) (is js os ps : Stobjs S) → AllAlike is js → AllAlike os ps → AllAlike (handed_back xs vs is os) (handed_back xs vs js ps)
  back_alike [] vs is js os ps g h = h
  back_alike (x ∷ xs) [] is js os ps g h = h
  back_alike (x ∷ xs) (Plain o ∷ vs) is js os ps g h = back_alike xs vs is js os ps g h
  back_alike (x ∷ xs) (StobjNamed y ∷ vs) is js os ps g h =
      back_alike xs vs is js (with_list y (list_of is x) os) (with_list y (list_of js x) ps) g (write_alike y (list_of is x) (list_of js x) os ps (list_alike is js x g) h)

  pub restored_alike : (x : Option ℕ) (us vs os ps : Stobjs S) → AllAlike us vs → AllAlike os ps → AllAlike (list_restored x us os) (list_restored x vs ps)
  restored_alike None us vs os ps g h = h
  restored_alike (Some x) us vs os ps g h = write_alike x (list_of us x) (list_of vs x) os ps (list_alike us vs x g) h

  -- ---- children

  child_alike : (i : Option (Object S)) (l m : StobjList S) → Alike l m → Alike (child_in i l) (child_in i m)
  child_alike None l m h = h
  child_alike (Some i) l m h = item_alike names (natural_of i) l m h

  with_child_in_alike : (i : Option (Object S)) (c d l m : StobjList S) → Alike c d → Alike l m → Alike (with_child_in i c l) (with_child_in i d m)
  with_child_in_alike None c d l m g h = g
  with_child_in_alike (Some i) c d l m g h = with_alike names (natural_of i) c d l m g h

  with_child_alike : (loan : Loan S) (c d l m : StobjList S) → Alike c d → Alike l m → Alike (with_child loan c l) (with_child loan d m)
  with_child_alike loan c d l m g h =
      with_alike names loan.field (with_child_in loan.index c (item loan.field l)) (with_child_in loan.index d (item loan.field m)) l m
      (with_child_in_alike loan.index c d (item loan.field l) (item loan.field m) g (item_alike names loan.field l m h)) h

  pub lent_alike : (loans : List (Loan S)) (os ps : Stobjs S) → AllAlike os ps → AllAlike (lent loans os) (lent loans ps)
  lent_alike [] os ps h = tt
  lent_alike (l ∷ ls) os ps h =
      (refl, child_alike l.index (item l.field (list_of os l.parent)) (item l.field (list_of ps l.parent)) (item_alike names l.field (list_of os l.parent) (list_of ps l.parent) (list_alike os ps l.parent h)), lent_alike ls os ps h)

  pub put_alike : (loan : Loan S) (os ps : Stobjs S) → AllAlike os ps → AllAlike (put_into_parent loan os) (put_into_parent loan ps)
  put_alike loan os ps h =
      write_alike loan.parent (with_child loan (list_of os loan.child) (list_of os loan.parent)) (with_child loan (list_of ps loan.child) (list_of ps loan.parent)) os ps
      (with_child_alike loan (list_of os loan.child) (list_of ps loan.child) (list_of os loan.parent) (list_of ps loan.parent) (list_alike os ps loan.child h) (list_alike os ps loan.parent h)) h

  pub all_put_alike : (loans : List (Loan S)) (os ps : Stobjs S) → AllAlike os ps → AllAlike (all_put loans os) (all_put loans ps)
  all_put_alike [] os ps h = h
  all_put_alike (l ∷ ls) os ps h = all_put_alike ls (put_into_parent l os) (put_into_parent l ps) (put_alike l os ps h)

-- ---- canonical lists

objects_canonical : (os : Stobjs ℕ) → AreAlikeStobjs nat_cmp os (canonical_stobjs os)
objects_canonical [] = tt
objects_canonical (o ∷ os) = (refl, sym (canonical_lists.twice o.1), objects_canonical os)

one_for_all : (os ps : Stobjs ℕ) → AreAlikeStobjs nat_cmp os ps → canonical_stobjs os ≡ canonical_stobjs ps
one_for_all [] [] h = refl
one_for_all [] (p ∷ ps) h = absurd h
one_for_all (o ∷ os) [] h = absurd h
one_for_all (o ∷ os) (p ∷ ps) h = rw (h.0, h.1, one_for_all os ps h.2) refl

back_from_canonical : (os ps : Stobjs ℕ) → canonical_stobjs os ≡ canonical_stobjs ps → AreAlikeStobjs nat_cmp os ps
back_from_canonical os ps e =
    objects_joined nat_cmp os (canonical_stobjs os) ps (objects_canonical os)
    (subst (λ (qs : Stobjs ℕ). AreAlikeStobjs nat_cmp qs ps) (sym e) (objects_turned nat_cmp ps (canonical_stobjs ps) (objects_canonical ps)))

pub canonical_stobjs_stand : CanonicalStobjs
canonical_stobjs_stand = record { alike = objects_canonical; one = one_for_all; back = back_from_canonical }
