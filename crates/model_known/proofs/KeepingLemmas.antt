-- The symbols in stobjs that are kept as lists.
use Rattle.std.specs.Prelude.{ℕ, zero, suc, Bool, true, false, List, [], ◌∷◌, ◌++◌, drop, Option, Some, None, nat_eq, if◌then◌else◌}
use Rattle.model_lists.specs.Lists.{StobjList, item}
use Rattle.model_eval.specs.Outcomes.{Shown, Plain, StobjNamed, Stobjs}
use Rattle.model_eval.specs.Keeping.{Loan}
use Rattle.model_eval.specs.Variables.{list_of, with_list, inner_stobjs, handed_back, first_stobj}
use Rattle.model_eval.specs.Lending.{lent, put_into_parent, with_child_in}
use Rattle.model_eval.specs.ListsKeeping.{list_restored}
use Rattle.model_known.specs.Known.{KnowsList, KnowsStobjs}
use Rattle.model_known.specs.Laws.{ListsKeepingKnows}
use Rattle.model_known.proofs.ListLemmas.{item_known, written_known, child_known, child_put_known}

module _ (n : ℕ) where
  either_list : (b : Bool) (x y : StobjList ℕ) → KnowsList n x → KnowsList n y → KnowsList n (if b then x else y)
  either_list true x y p q = p
  either_list false x y p q = q

  either_stobjs : (b : Bool) (x y : Stobjs ℕ) → KnowsStobjs n x → KnowsStobjs n y → KnowsStobjs n (if b then x else y)
  either_stobjs true x y p q = p
  either_stobjs false x y p q = q

  list_known : (os : Stobjs ℕ) (x : ℕ) → KnowsStobjs n os → KnowsList n (list_of os x)
  list_known [] x k = tt
  list_known (o ∷ os) x k = either_list (nat_eq x o.0) o.1 (list_of os x) k.0 (list_known os x k.1)

  with_known : (x : ℕ) (l : StobjList ℕ) (os : Stobjs ℕ) → KnowsList n l → KnowsStobjs n os → KnowsStobjs n (with_list x l os)
  with_known x l [] p k = tt
  with_known x l (o ∷ os) p k = either_stobjs (nat_eq x o.0) ((o.0, l) ∷ os) (o ∷ with_list x l os) (p, k.1) (k.0, with_known x l os p k.1)

  inner_known : (xs : List ℕ) (vs : List (Shown ℕ)) (os : Stobjs ℕ) → KnowsStobjs n os → KnowsStobjs n (inner_stobjs xs vs os)
  inner_known [] vs os k = tt
  inner_known (x ∷ xs) [] os k = tt
  inner_known (x ∷ xs) (Plain o ∷ vs) os k = inner_known xs vs os k
  inner_known (x ∷ xs) (StobjNamed y ∷ vs) os k = (list_known os y k, inner_known xs vs os k)

  back_known : (xs : List ℕ) (vs : List (Shown ℕ)) (inner os : Stobjs ℕ) → KnowsStobjs n inner → KnowsStobjs n os → KnowsStobjs n (handed_back xs vs inner os)
  back_known [] vs inner os p k = k
  back_known (x ∷ xs) [] inner os p k = k
  back_known (x ∷ xs) (Plain o ∷ vs) inner os p k = back_known xs vs inner os p k
  back_known (x ∷ xs) (StobjNamed y ∷ vs) inner os p k = back_known xs vs inner (with_list y (list_of inner x) os) p (with_known y (list_of inner x) os (list_known inner x p) k)

  dropped_known : (i : ℕ) (os : Stobjs ℕ) → KnowsStobjs n os → KnowsStobjs n (drop i os)
  dropped_known zero os k = k
  dropped_known (suc i) [] k = tt
  dropped_known (suc i) (o ∷ os) k = dropped_known i os k.1

  joined_known : (os ps : Stobjs ℕ) → KnowsStobjs n os → KnowsStobjs n ps → KnowsStobjs n (os ++ ps)
  joined_known [] ps p k = k
  joined_known (o ∷ os) ps p k = (p.0, joined_known os ps p.1 k)

  loans_known : (loans : List (Loan ℕ)) (os : Stobjs ℕ) → KnowsStobjs n os → KnowsStobjs n (lent loans os)
  loans_known [] os k = tt
  loans_known (l ∷ ls) os k =
      (child_known n l.index (item l.field (list_of os l.parent)) (item_known n l.field (list_of os l.parent) (list_known os l.parent k)), loans_known ls os k)

  put_known : (l : Loan ℕ) (os : Stobjs ℕ) → KnowsStobjs n os → KnowsStobjs n (put_into_parent l os)
  put_known l os k =
      let child : KnowsList n (list_of os l.child) = list_known os l.child k in
      let parent : KnowsList n (list_of os l.parent) = list_known os l.parent k in
      let new : KnowsList n (with_child_in l.index (list_of os l.child) (item l.field (list_of os l.parent))) =
      child_put_known n l.index (list_of os l.child) (item l.field (list_of os l.parent)) child (item_known n l.field (list_of os l.parent) parent) in
      with_known l.parent _ os (written_known n l.field (with_child_in l.index (list_of os l.child) (item l.field (list_of os l.parent))) (list_of os l.parent) new parent) k

  restored_known : (x : Option ℕ) (before os : Stobjs ℕ) → KnowsStobjs n before → KnowsStobjs n os → KnowsStobjs n (list_restored x before os)
  restored_known None before os p k = k
  restored_known (Some x) before os p k = with_known x (list_of before x) os (list_known before x p) k

pub keeping_knows : ListsKeepingKnows
keeping_knows = record {
  read = λ n x os k. list_known n os x k;
  write = with_known;
  hand_over = inner_known;
  hand_back = λ n xs vs inner left p k. back_known n xs vs inner left p k;
  lend = λ n loans os k. joined_known n (lent loans os) os (loans_known n loans os k) k;
  put = put_known;
  end_loans = λ n m os k. dropped_known n m os k;
  make = λ n x l os p k. (p, k);
  unmake = λ n os k. dropped_known n 1 os k;
  abandon = λ n actuals before os p k. restored_known n (first_stobj actuals) before os p k;
}
