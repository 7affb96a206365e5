-- Stobjs kept in place: one list for each root, and for each stobj in scope the place in one of them where its list stands. A
-- call has the places of its stobjs under other names, children are places inside their parents, and a write changes a root's
-- list at the place. So nothing is handed back, and nothing is put back. While the exec function of an export runs, the lists
-- from before it are remembered, for a stop to bring them back (Boyer and Moore, Single-Threaded Objects in ACL2, 2002).
use Rattle.std.specs.Prelude.{ℕ, zero, suc, ◌+◌, ◌-◌, List, [], ◌∷◌, ◌++◌, drop, take, length, Option, Some, None, nat_eq, if◌then◌else◌}
use Rattle.model_objects.specs.Object.{Object}
use Rattle.model_prims.specs.Numbers.{natural_of}
use Rattle.model_lists.specs.Lists.{StobjList, End, item, with_item}
use Rattle.model_eval.specs.Outcomes.{Shown, Plain, StobjNamed}
use Rattle.model_eval.specs.Keeping.{Loan, Keeping}

pub data Place : Type 0 where
  Nowhere : Place
  At : ℕ → List ℕ → Place  -- a root, and the items on the way from its list

-- the place of each stobj in scope by its variable, the innermost first
abbrev pub Places : Type 0
Places = List (ℕ × Place)

-- what the outermost export that runs would bring back at a stop: the lists of the roots, and how many exports run inside it
pub data Journal (S : Type 0) : Type 0 where
  Closed : Journal S
  Open : ℕ → List (StobjList S) → Journal S

-- the stobjs in scope, the lists of the roots, and what is remembered
pub record Store (S : Type 0) : Type 0 where
  pub scope : Places
  pub roots : List (StobjList S)
  pub journal : Journal S

-- ---- places

abbrev pub place_of : Places → ℕ → Place
place_of [] x = Nowhere
place_of (p ∷ ps) x = if nat_eq x p.0 then p.1 else place_of ps x

-- a place further on
abbrev pub below : Place → List ℕ → Place
below Nowhere path = Nowhere
below (At root before) path = At root (before ++ path)

abbrev pub index_path : {S : Type 0} → Option (Object S) → List ℕ
index_path None = []
index_path (Some i) = natural_of i ∷ []

-- where a child stands
abbrev pub child_place : {S : Type 0} → Loan S → Places → Place
child_place loan scope = below (place_of scope loan.parent) (loan.field ∷ index_path loan.index)

abbrev pub lent_places : {S : Type 0} → List (Loan S) → Places → Places
lent_places [] scope = []
lent_places (l ∷ ls) scope = (l.child, child_place l scope) ∷ lent_places ls scope

-- the places that are handed over
abbrev pub inner_places : {S : Type 0} → List ℕ → List (Shown S) → Places → Places
inner_places [] actuals scope = []
inner_places (x ∷ xs) [] scope = []
inner_places (x ∷ xs) (Plain o ∷ vs) scope = inner_places xs vs scope
inner_places (x ∷ xs) (StobjNamed y ∷ vs) scope = (x, place_of scope y) ∷ inner_places xs vs scope

-- ---- lists at places

abbrev pub list_under : {S : Type 0} → List ℕ → StobjList S → StobjList S
list_under [] l = l
list_under (n ∷ path) l = list_under path (item n l)

-- the list with another one under a path
abbrev pub with_under : {S : Type 0} → List ℕ → StobjList S → StobjList S → StobjList S
with_under [] new l = new
with_under (n ∷ path) new l = with_item n (with_under path new (item n l)) l

abbrev pub root_list : {S : Type 0} → List (StobjList S) → ℕ → StobjList S
root_list [] n = End
root_list (l ∷ ls) zero = l
root_list (l ∷ ls) (suc n) = root_list ls n

abbrev pub with_root : {S : Type 0} → ℕ → StobjList S → List (StobjList S) → List (StobjList S)
with_root n new [] = []
with_root zero new (l ∷ ls) = new ∷ ls
with_root (suc n) new (l ∷ ls) = l ∷ with_root n new ls

abbrev pub list_at : {S : Type 0} → List (StobjList S) → Place → StobjList S
list_at roots Nowhere = End
list_at roots (At root path) = list_under path (root_list roots root)

abbrev pub with_list_at : {S : Type 0} → Place → StobjList S → List (StobjList S) → List (StobjList S)
with_list_at Nowhere new roots = roots
with_list_at (At root path) new roots = with_root root (with_under path new (root_list roots root)) roots

-- ---- exports

-- the outermost export remembers the lists
abbrev pub opened_journal : {S : Type 0} → List (StobjList S) → Journal S → Journal S
opened_journal roots Closed = Open 0 roots
opened_journal roots (Open n before) = Open (n + 1) before

abbrev pub closed_journal : {S : Type 0} → Journal S → Journal S
closed_journal Closed = Closed
closed_journal (Open zero before) = Closed
closed_journal (Open (suc n) before) = Open n before

-- the lists after a stop in the exec function of an export
abbrev pub roots_restored : {S : Type 0} → Journal S → List (StobjList S) → List (StobjList S)
roots_restored Closed roots = roots
roots_restored (Open zero before) roots = before
roots_restored (Open (suc n) before) roots = roots

-- ---- the keeping

-- what stays behind at a call is the scope
abbrev pub places_keeping : {S : Type 0} → Keeping S (Store S) Places
places_keeping = record {
  read = λ store x. list_at store.roots (place_of store.scope x);
  write = λ x l store. record store { roots = with_list_at (place_of store.scope x) l store.roots };
  hand_over = λ formals actuals store. record store { scope = inner_places formals actuals store.scope };
  behind = λ store. store.scope;
  hand_back = λ formals actuals inner scope. record inner { scope = scope };
  lend = λ loans store. record store { scope = lent_places loans store.scope ++ store.scope };
  put = λ loan store. store;
  end_loans = λ n store. record store { scope = drop n store.scope };
  make = λ x l store. record store { scope = (x, At (length store.roots) []) ∷ store.scope; roots = store.roots ++ l ∷ [] };
  unmake = λ store. record store { scope = drop 1 store.scope; roots = take (length store.roots - 1) store.roots };
  begin_export = λ store. record store { journal = opened_journal store.roots store.journal };
  commit = λ store. record store { journal = closed_journal store.journal };
  abandon = λ actuals scope store. record store { roots = roots_restored store.journal store.roots; journal = closed_journal store.journal };
}
