-- Known symbols stay known as more are, and in what is made of parts that have known symbols.
use Rattle.std.proofs.Common.{ℕ, zero, suc, ◌<◌, ◌≤◌, List, [], ◌∷◌, ◌++◌, map, drop, Bool, true, false, Option, Some, None, arith}
use Rattle.std.specs.Prelude.{nat_eq, if◌then◌else◌}
use Rattle.model_objects.specs.Object.{Object}
use Rattle.model_objects.specs.Named.{Knows}
use Rattle.model_symbols.specs.Symbols.{QualifiedName, Package}
use Rattle.model_symbols.specs.Opening.{nil}
use Rattle.model_prims.specs.Kinds.{by_number}
use Rattle.model_lists.specs.Types.{ValueType, Anything, Nothing, Integers, Recognized, OneOf, Either, Both, Other}
use Rattle.model_lists.specs.Lists.{StobjList, item}
use Rattle.model_lists.specs.Layouts.{Layout, Scalar, Array, Hash, Children, NoField, Field}
use Rattle.model_eval.specs.Outcomes.{Shown, Plain, StobjNamed, Stobjs}
use Rattle.model_eval.specs.Variables.{Variables, variable_in, bound, single, object_of, outer_value, inner_variables, inner_stobjs, handed_back, list_of, with_list}
use Rattle.model_eval.specs.Lending.{Loan, child_in, with_child_in, with_child, lent, put_into_parent}
use Rattle.model_eval.specs.ListsKeeping.{list_restored, all_put}
use Rattle.model_follows.specs.FollowedWorlds.{TypeSymbols, LayoutSymbols, KnowsList}
use Rattle.model_follows.specs.Follows.{KnowsShown, KnowsAll}
use Rattle.model_follows.proofs.ThingLemmas.{knows_more, knows_list_more}
use Rattle.model_follows.proofs.EffectThings.{item_known, with_known}
use Rattle.model_made_logic.specs.Known.{KnowsStobjs, KnowsVariables, Grows}

-- ---- more symbols

pub shown_more : (m n : ℕ) → m ≤ n → (v : Shown ℕ) → KnowsShown m v → KnowsShown n v
shown_more m n l (Plain o) h = knows_more m n o l h
shown_more m n l (StobjNamed x) h = tt

pub all_more : (m n : ℕ) → m ≤ n → (vs : List (Shown ℕ)) → KnowsAll m vs → KnowsAll n vs
all_more m n l [] h = tt
all_more m n l (v ∷ vs) h = (shown_more m n l v h.0, all_more m n l vs h.1)

pub stobjs_more : (m n : ℕ) → m ≤ n → (os : Stobjs ℕ) → KnowsStobjs m os → KnowsStobjs n os
stobjs_more m n l [] h = tt
stobjs_more m n l (o ∷ os) h = (knows_list_more m n o.1 l h.0, stobjs_more m n l os h.1)

pub variables_more : (m n : ℕ) → m ≤ n → (vs : Variables ℕ) → KnowsVariables m vs → KnowsVariables n vs
variables_more m n l [] h = tt
variables_more m n l (v ∷ vs) h = (shown_more m n l v.1 h.0, variables_more m n l vs h.1)

type_more : (m n : ℕ) → m ≤ n → (t : ValueType ℕ) → TypeSymbols (λ s. s < m) t → TypeSymbols (λ s. s < n) t
type_more m n l Anything k = tt
type_more m n l Nothing k = tt
type_more m n l (Integers low high) k = tt
type_more m n l (Recognized r) k = tt
type_more m n l (OneOf o) k = knows_more m n o l k
type_more m n l (Either a b) k = (type_more m n l a k.0, type_more m n l b k.1)
type_more m n l (Both a b) k = (type_more m n l a k.0, type_more m n l b k.1)
type_more m n l (Other a) k = type_more m n l a k

pub layout_more : (m n : ℕ) → m ≤ n → (l : Layout ℕ) → LayoutSymbols (λ s. s < m) l → LayoutSymbols (λ s. s < n) l
layout_more m n l (Scalar t o) k = (type_more m n l t k.0, knows_more m n o l k.1)
layout_more m n l (Array t o size resizable) k = (type_more m n l t k.0, knows_more m n o l k.1)
layout_more m n l (Hash test) k = tt
layout_more m n l (Children size child) k = layout_more m n l child k
layout_more m n l NoField k = tt
layout_more m n l (Field first others) k = (layout_more m n l first k.0, layout_more m n l others k.1)

pub grows_same : (packages : List Package) (symbols : List QualifiedName) → Grows packages symbols symbols
grows_same packages symbols = record { longer = omega arith; table = λ h. h }

pub grows_then : (packages : List Package) (a b c : List QualifiedName) → Grows packages a b → Grows packages b c → Grows packages a c
grows_then packages a b c g h = record { longer = omega (arith, g.longer, h.longer); table = λ t. h.table (g.table t) }

-- ---- variables and values

module _ (n : ℕ) (two : 2 ≤ n) where
  at_nil : nil < n
  at_nil = omega (arith, two)

  pub variable_known : (vs : Variables ℕ) (x : ℕ) → KnowsVariables n vs → KnowsShown n (variable_in by_number vs x)
  variable_known [] x h = at_nil
  variable_known (v ∷ vs) x h = go (nat_eq x v.0) (variable_known vs x h.1)
    where
      go : (b : Bool) → KnowsShown n (variable_in by_number vs x) → KnowsShown n (if b then v.1 else variable_in by_number vs x)
      go true later = h.0
      go false later = later

  pub single_known : (vs : List (Shown ℕ)) → KnowsAll n vs → KnowsShown n (single by_number vs)
  single_known [] h = at_nil
  single_known (v ∷ vs) h = h.0

  pub object_known : (v : Shown ℕ) → KnowsShown n v → Knows n (object_of by_number v)
  object_known (Plain o) h = h
  object_known (StobjNamed x) h = at_nil

pub last_known : (n : ℕ) (vs : List (Shown ℕ)) (v : Shown ℕ) → KnowsAll n vs → KnowsShown n v → KnowsAll n (vs ++ v ∷ [])
last_known n [] v h k = (k, tt)
last_known n (u ∷ us) v h k = (h.0, last_known n us v h.1 k)

pub bound_known : (n : ℕ) (xs : List ℕ) (vs : List (Shown ℕ)) (variables : Variables ℕ) → KnowsAll n vs → KnowsVariables n variables → KnowsVariables n (bound xs vs variables)
bound_known n [] vs variables h k = k
bound_known n (x ∷ xs) [] variables h k = k
bound_known n (x ∷ xs) (Plain o ∷ vs) variables h k = (h.0, bound_known n xs vs variables h.1 k)
bound_known n (x ∷ xs) (StobjNamed y ∷ vs) variables h k = bound_known n xs vs variables h.1 k

pub inner_known : (n : ℕ) (xs : List ℕ) (vs : List (Shown ℕ)) → KnowsAll n vs → KnowsVariables n (inner_variables xs vs)
inner_known n [] vs h = tt
inner_known n (x ∷ xs) [] h = tt
inner_known n (x ∷ xs) (Plain o ∷ vs) h = (h.0, inner_known n xs vs h.1)
inner_known n (x ∷ xs) (StobjNamed y ∷ vs) h = (tt, inner_known n xs vs h.1)

pub outer_known : (n : ℕ) (xs : List ℕ) (actuals vs : List (Shown ℕ)) → KnowsAll n vs → KnowsAll n (map (outer_value xs actuals) vs)
outer_known n xs actuals [] h = tt
outer_known n xs actuals (Plain o ∷ vs) h = (h.0, outer_known n xs actuals vs h.1)
outer_known n xs actuals (StobjNamed y ∷ vs) h = (tt, outer_known n xs actuals vs h.1)

-- ---- lists of stobjs

pub list_known : (n : ℕ) (os : Stobjs ℕ) (x : ℕ) → KnowsStobjs n os → KnowsList n (list_of os x)
list_known n [] x h = tt
list_known n (o ∷ os) x h = go (nat_eq x o.0) (list_known n os x h.1)
  where
    go : (b : Bool) → KnowsList n (list_of os x) → KnowsList n (if b then o.1 else list_of os x)
    go true later = h.0
    go false later = later

pub with_list_known : (n x : ℕ) (l : StobjList ℕ) (os : Stobjs ℕ) → KnowsList n l → KnowsStobjs n os → KnowsStobjs n (with_list x l os)
with_list_known n x l [] k h = tt
with_list_known n x l (o ∷ os) k h = go (nat_eq x o.0) (with_list_known n x l os k h.1)
  where
    go : (b : Bool) → KnowsStobjs n (with_list x l os) → KnowsStobjs n (if b then (o.0, l) ∷ os else o ∷ with_list x l os)
    go true later = (k, h.1)
    go false later = (h.0, later)

pub inner_stobjs_known : (n : ℕ) (xs : List ℕ) (vs : List (Shown ℕ)) (os : Stobjs ℕ) → KnowsStobjs n os → KnowsStobjs n (inner_stobjs xs vs os)
inner_stobjs_known n [] vs os h = tt
inner_stobjs_known n (x ∷ xs) [] os h = tt
inner_stobjs_known n (x ∷ xs) (Plain o ∷ vs) os h = inner_stobjs_known n xs vs os h
inner_stobjs_known n (x ∷ xs) (StobjNamed y ∷ vs) os h = (list_known n os y h, inner_stobjs_known n xs vs os h)

pub handed_known : (n : ℕ) (xs : List ℕ) (vs : List (Shown ℕ)) (inner os : Stobjs ℕ) → KnowsStobjs n inner → KnowsStobjs n os → KnowsStobjs n (handed_back xs vs inner os)
handed_known n [] vs inner os g h = h
handed_known n (x ∷ xs) [] inner os g h = h
handed_known n (x ∷ xs) (Plain o ∷ vs) inner os g h = handed_known n xs vs inner os g h
handed_known n (x ∷ xs) (StobjNamed y ∷ vs) inner os g h = handed_known n xs vs inner (with_list y (list_of inner x) os) g (with_list_known n y (list_of inner x) os (list_known n inner x g) h)

pub restored_known : (n : ℕ) (x : Option ℕ) (before os : Stobjs ℕ) → KnowsStobjs n before → KnowsStobjs n os → KnowsStobjs n (list_restored x before os)
restored_known n None before os g h = h
restored_known n (Some x) before os g h = with_list_known n x (list_of before x) os (list_known n before x g) h

pub both_known : (n : ℕ) (os ps : Stobjs ℕ) → KnowsStobjs n os → KnowsStobjs n ps → KnowsStobjs n (os ++ ps)
both_known n [] ps g h = h
both_known n (o ∷ os) ps g h = (g.0, both_known n os ps g.1 h)

pub drop_known : (n k : ℕ) (os : Stobjs ℕ) → KnowsStobjs n os → KnowsStobjs n (drop k os)
drop_known n zero os h = h
drop_known n (suc k) [] h = tt
drop_known n (suc k) (o ∷ os) h = drop_known n k os h.1

-- ---- children

child_known : (n : ℕ) (i : Option (Object ℕ)) (field : StobjList ℕ) → KnowsList n field → KnowsList n (child_in i field)
child_known n None field h = h
child_known n (Some i) field h = item_known (λ s. s < n) _ field h

with_child_known : (n : ℕ) (i : Option (Object ℕ)) (child field : StobjList ℕ) → KnowsList n child → KnowsList n field → KnowsList n (with_child_in i child field)
with_child_known n None child field g h = g
with_child_known n (Some i) child field g h = with_known (λ s. s < n) _ child field g h

pub lent_known : (n : ℕ) (loans : List (Loan ℕ)) (os : Stobjs ℕ) → KnowsStobjs n os → KnowsStobjs n (lent loans os)
lent_known n [] os h = tt
lent_known n (l ∷ ls) os h =
    (child_known n l.index (item l.field (list_of os l.parent)) (item_known (λ s. s < n) l.field (list_of os l.parent) (list_known n os l.parent h)), lent_known n ls os h)

pub put_known : (n : ℕ) (loan : Loan ℕ) (os : Stobjs ℕ) → KnowsStobjs n os → KnowsStobjs n (put_into_parent loan os)
put_known n loan os h =
    let parent = list_of os loan.parent in
    let child = list_of os loan.child in
    let parent_known : KnowsList n parent = list_known n os loan.parent h in
    let field_known : KnowsList n (item loan.field parent) = item_known (λ s. s < n) loan.field parent parent_known in
    with_list_known n loan.parent (with_child loan child parent) os
    (with_known (λ s. s < n) loan.field (with_child_in loan.index child (item loan.field parent)) parent (with_child_known n loan.index child (item loan.field parent) (list_known n os loan.child h) field_known) parent_known) h

pub all_put_known : (n : ℕ) (loans : List (Loan ℕ)) (os : Stobjs ℕ) → KnowsStobjs n os → KnowsStobjs n (all_put loans os)
all_put_known n [] os h = h
all_put_known n (l ∷ ls) os h = all_put_known n ls (put_into_parent l os) (put_known n l os h)

pub loaned_known : (n : ℕ) (loans : List (Loan ℕ)) (vs : Variables ℕ) → KnowsVariables n vs → KnowsVariables n (map (λ (l : Loan ℕ). (l.child, StobjNamed l.child)) loans ++ vs)
loaned_known n [] vs h = h
loaned_known n (l ∷ ls) vs h = (tt, loaned_known n ls vs h)
