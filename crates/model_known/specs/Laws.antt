-- What is said of the symbols in what stobjs hold, as laws.
use Rattle.std.specs.Prelude.{ℕ, ◌<◌, ◌≤◌, List}
use Rattle.model_objects.specs.Object.{Object}
use Rattle.model_prims.specs.Kinds.{by_number}
use Rattle.model_lists.specs.Lists.{StobjList}
use Rattle.model_lists.specs.Layouts.{Layout, field_layout}
use Rattle.model_terms.specs.Worlds.{World}
use Rattle.model_terms.specs.declared.role.Role.{Role}
use Rattle.model_eval.specs.Outcomes.{Shown, Stobjs}
use Rattle.model_eval.specs.Keeping.{Loan}
use Rattle.model_eval.specs.ListsKeeping.{lists_keeping}
use Rattle.model_eval.specs.StobjLayouts.{stobj_layout, new_list}
use Rattle.model_eval.specs.GeneratedCalls.{effect}
use Rattle.model_known.specs.Known.{KnowsAll, KnowsList, KnowsStobjs, KnowsLeft, KnowsEffect, KnowsLayout, KnowsStarts}

-- what a generated function reads or writes has the symbols of its arguments, of its stobj's list and of its initial values,
-- and `T` and `NIL`
abbrev pub EffectsKnow : Type 0
EffectsKnow = (n : ℕ) (r : Role) (layout : Layout ℕ) (f : ℕ) (args : List (Object ℕ)) (l : StobjList ℕ) → 1 < n → KnowsLayout n layout → KnowsAll n args → KnowsList n l
    → KnowsEffect n (effect by_number r layout f args l)

-- stobjs that are kept as lists have the symbols that they had, whatever is done with them; only a list that is written or made
-- may bring others
pub record ListsKeepingKnows : Type 0 where
  pub read : (n x : ℕ) (k : Stobjs ℕ) → KnowsStobjs n k → KnowsList n (lists_keeping.read k x)
  pub write : (n x : ℕ) (l : StobjList ℕ) (k : Stobjs ℕ) → KnowsList n l → KnowsStobjs n k → KnowsStobjs n (lists_keeping.write x l k)
  pub hand_over : (n : ℕ) (formals : List ℕ) (actuals : List (Shown ℕ)) (k : Stobjs ℕ) → KnowsStobjs n k → KnowsStobjs n (lists_keeping.hand_over formals actuals k)
  pub hand_back : (n : ℕ) (formals : List ℕ) (actuals : List (Shown ℕ)) (k left : Stobjs ℕ) → KnowsStobjs n k → KnowsStobjs n left → KnowsStobjs n (lists_keeping.hand_back formals actuals k left)
  pub lend : (n : ℕ) (loans : List (Loan ℕ)) (k : Stobjs ℕ) → KnowsStobjs n k → KnowsStobjs n (lists_keeping.lend loans k)
  pub put : (n : ℕ) (loan : Loan ℕ) (k : Stobjs ℕ) → KnowsStobjs n k → KnowsStobjs n (lists_keeping.put loan k)
  pub end_loans : (n m : ℕ) (k : Stobjs ℕ) → KnowsStobjs n k → KnowsStobjs n (lists_keeping.end_loans m k)
  pub make : (n x : ℕ) (l : StobjList ℕ) (k : Stobjs ℕ) → KnowsList n l → KnowsStobjs n k → KnowsStobjs n (lists_keeping.make x l k)
  pub unmake : (n : ℕ) (k : Stobjs ℕ) → KnowsStobjs n k → KnowsStobjs n (lists_keeping.unmake k)
  pub abandon : (n : ℕ) (actuals : List (Shown ℕ)) (left k : Stobjs ℕ) → KnowsStobjs n left → KnowsStobjs n k → KnowsStobjs n (lists_keeping.abandon actuals left k)

-- layouts and new lists have the symbols of what the world's fields begin as
pub record WorldsKnow : Type 0 where
  pub layout : (n : ℕ) (w : World) (x : ℕ) → KnowsStarts n w → KnowsLayout n (stobj_layout (λ (o : Object ℕ). o) w x)
  pub field : (n f : ℕ) (layout : Layout ℕ) → KnowsLayout n layout → KnowsLayout n (field_layout f layout)
  pub list : (n : ℕ) (w : World) (x : ℕ) → KnowsStarts n w → KnowsList n (new_list w x)

-- more symbols may be known
pub record MoreAreKnown : Type 0 where
  pub list : (n m : ℕ) (l : StobjList ℕ) → n ≤ m → KnowsList n l → KnowsList m l
  pub stobjs : (n m : ℕ) (k : Stobjs ℕ) → n ≤ m → KnowsStobjs n k → KnowsStobjs m k
  pub left : (n m : ℕ) (ks : List (Stobjs ℕ)) → n ≤ m → KnowsLeft n ks → KnowsLeft m ks
  pub starts : (n m : ℕ) (w : World) → n ≤ m → KnowsStarts n w → KnowsStarts m w
