-- Children that are lent and put back.
use Rattle.std.proofs.Common.{◌≡◌, ℕ, List, [], ◌∷◌, ◌++◌, Bool, true, false, Option, Some, None, refl, sym, ap, ◌∙◌}
use Rattle.std.specs.Prelude.{◌≢◌, ◌||◌, nat_eq, if◌then◌else◌}
use Rattle.std.proofs.lemmas.Bool.{eqb-true}
use Rattle.model_objects.specs.Object.{Object}
use Rattle.model_lists.specs.Lists.{StobjList, item, with_item}
use Rattle.model_terms.specs.Classes.{has, repeats}
use Rattle.model_eval.specs.Outcomes.{Stobjs}
use Rattle.model_eval.specs.Keeping.{Loan}
use Rattle.model_eval.specs.PlacesKeeping.{Places, place_of, below, index_path, child_place, lent_places, list_under, with_under}
use Rattle.model_eval.specs.Variables.{list_of, with_list}
use Rattle.model_eval.specs.Lending.{child_in, with_child_in, with_child, lent, put_into_parent}
use Rattle.model_eval.specs.ListsKeeping.{all_put}
use Rattle.model_eval_laws.specs.Scope.{names, is_among}
use Rattle.model_eval_laws.proofs.Lists.{same_number, names_write, list_widened}
use Rattle.model_places.specs.Places.{ArePathsApart}
use Rattle.model_accepted.specs.Loans.{children, path_of, path_for, HaveParent, IsApartFrom, HaveApartPaths, merged, raised}
use Rattle.model_accepted.proofs.AcceptLemmas.{false_true, true_false, neither}
use Rattle.model_places.proofs.PathLemmas.{swapped, under_unchanged, under_twice, under_commutes}
use Rattle.model_in_place.proofs.ObjectLemmas.{not_equal, list_written, list_other, written_twice, written_same}

-- ---- one child

child_in_is : (i : Option (Object ℕ)) (field : StobjList ℕ) → child_in i field ≡ list_under (index_path i) field
child_in_is None field = refl
child_in_is (Some i) field = refl

with_child_in_is : (i : Option (Object ℕ)) (new field : StobjList ℕ) → with_child_in i new field ≡ with_under (index_path i) new field
with_child_in_is None new field = refl
with_child_in_is (Some i) new field = refl

pub with_child_is : (l : Loan ℕ) (new parent : StobjList ℕ) → with_child l new parent ≡ with_under (path_of l) new parent
with_child_is l new parent = ap (λ (k : StobjList ℕ). with_item l.field k parent) (with_child_in_is l.index new (item l.field parent))

-- ---- children by name

pub names_lent : (ls : List (Loan ℕ)) (os : Stobjs ℕ) → names (lent ls os) ≡ children ls
names_lent [] os = refl
names_lent (l ∷ ls) os = ap (λ (ns : List ℕ). l.child ∷ ns) (names_lent ls os)

pub list_kid : (p : ℕ) (ls : List (Loan ℕ)) (os more : Stobjs ℕ) (x : ℕ) → HaveParent p ls → has (children ls) x ≡ true → list_of (lent ls os ++ more) x ≡ list_under (path_for ls x) (list_of os p)
list_kid p [] os more x h i = false_true i
list_kid p (l ∷ ls) os more x h i = go (nat_eq x l.child) i (list_kid p ls os more x h.1)
  where
    go : (b : Bool) → (b || has (children ls) x) ≡ true → (has (children ls) x ≡ true → list_of (lent ls os ++ more) x ≡ list_under (path_for ls x) (list_of os p))
        → (if b then child_in l.index (item l.field (list_of os l.parent)) else list_of (lent ls os ++ more) x) ≡ list_under (if b then path_of l else path_for ls x) (list_of os p)
    go true e later = child_in_is l.index (item l.field (list_of os l.parent)) ∙ ap (λ (z : ℕ). list_under (path_of l) (list_of os z)) h.0
    go false e later = later e

pub place_kid : (p : ℕ) (ls : List (Loan ℕ)) (scope more : Places) (x : ℕ) → HaveParent p ls → has (children ls) x ≡ true → place_of (lent_places ls scope ++ more) x ≡ below (place_of scope p) (path_for ls x)
place_kid p [] scope more x h i = false_true i
place_kid p (l ∷ ls) scope more x h i = go (nat_eq x l.child) i (place_kid p ls scope more x h.1)
  where
    go : (b : Bool) → (b || has (children ls) x) ≡ true → (has (children ls) x ≡ true → place_of (lent_places ls scope ++ more) x ≡ below (place_of scope p) (path_for ls x))
        → (if b then child_place l scope else place_of (lent_places ls scope ++ more) x) ≡ below (place_of scope p) (if b then path_of l else path_for ls x)
    go true e later = ap (λ (z : ℕ). below (place_of scope z) (path_of l)) h.0
    go false e later = later e

pub list_beside : (kids more : Stobjs ℕ) (x : ℕ) → is_among x (names kids) ≡ false → list_of (kids ++ more) x ≡ list_of more x
list_beside [] more x h = refl
list_beside (k ∷ kids) more x h =
    let parts : (nat_eq x k.0 ≡ false) × (is_among x (names kids) ≡ false) = neither (nat_eq x k.0) (is_among x (names kids)) h in
    rw parts.0 (list_beside kids more x parts.1)

pub place_beside : (ls : List (Loan ℕ)) (scope more : Places) (x : ℕ) → has (children ls) x ≡ false → place_of (lent_places ls scope ++ more) x ≡ place_of more x
place_beside [] scope more x h = refl
place_beside (l ∷ ls) scope more x h =
    let parts : (nat_eq x l.child ≡ false) × (has (children ls) x ≡ false) = neither (nat_eq x l.child) (has (children ls) x) h in
    rw parts.0 (place_beside ls scope more x parts.1)

pub write_beside : (kids more : Stobjs ℕ) (x : ℕ) (l : StobjList ℕ) → is_among x (names kids) ≡ false → with_list x l (kids ++ more) ≡ kids ++ with_list x l more
write_beside [] more x l h = refl
write_beside (k ∷ kids) more x l h =
    let parts : (nat_eq x k.0 ≡ false) × (is_among x (names kids) ≡ false) = neither (nat_eq x k.0) (is_among x (names kids)) h in
    rw parts.0 (ap (λ (ks : Stobjs ℕ). k ∷ ks) (write_beside kids more x l parts.1))

pub write_missing : (kids : Stobjs ℕ) (x : ℕ) (l : StobjList ℕ) → is_among x (names kids) ≡ false → with_list x l kids ≡ kids
write_missing [] x l h = refl
write_missing (k ∷ kids) x l h =
    let parts : (nat_eq x k.0 ≡ false) × (is_among x (names kids) ≡ false) = neither (nat_eq x k.0) (is_among x (names kids)) h in
    rw parts.0 (ap (λ (ks : Stobjs ℕ). k ∷ ks) (write_missing kids x l parts.1))

-- ---- paths apart

apart_from : (path : List ℕ) (ls : List (Loan ℕ)) (x : ℕ) → IsApartFrom path ls → has (children ls) x ≡ true → ArePathsApart path (path_for ls x)
apart_from path [] x h i = false_true i
apart_from path (l ∷ ls) x h i = go (nat_eq x l.child) i (apart_from path ls x h.1)
  where
    go : (b : Bool) → (b || has (children ls) x) ≡ true → (has (children ls) x ≡ true → ArePathsApart path (path_for ls x)) → ArePathsApart path (if b then path_of l else path_for ls x)
    go true e later = h.0
    go false e later = later e

pub paths_apart : (ls : List (Loan ℕ)) (x y : ℕ) → HaveApartPaths ls → has (children ls) x ≡ true → has (children ls) y ≡ true → x ≢ y → ArePathsApart (path_for ls x) (path_for ls y)
paths_apart [] x y h i j d = false_true i
paths_apart (l ∷ ls) x y h i j d = go (nat_eq x l.child) refl (nat_eq y l.child) refl i j (paths_apart ls x y h.1)
  where
    go : (a : Bool) → nat_eq x l.child ≡ a → (b : Bool) → nat_eq y l.child ≡ b → (a || has (children ls) x) ≡ true → (b || has (children ls) y) ≡ true
        → (has (children ls) x ≡ true → has (children ls) y ≡ true → x ≢ y → ArePathsApart (path_for ls x) (path_for ls y))
        → ArePathsApart (if a then path_of l else path_for ls x) (if b then path_of l else path_for ls y)
    go true e true f g k later = absurd (d (eqb-true x l.child e ∙ sym (eqb-true y l.child f)))
    go true e false f g k later = apart_from (path_of l) ls y h.0 k
    go false e true f g k later = swapped (path_of l) (path_for ls x) (apart_from (path_of l) ls x h.0 g)
    go false e false f g k later = later g k d

-- ---- putting back

merged_commutes : (path : List ℕ) (new : StobjList ℕ) (ls : List (Loan ℕ)) (kids : Stobjs ℕ) (parent : StobjList ℕ) → IsApartFrom path ls → merged ls kids (with_under path new parent) ≡ with_under path new (merged ls kids parent)
merged_commutes path new [] kids parent h = refl
merged_commutes path new (l ∷ ls) kids parent h =
    ap (merged ls kids) (sym (under_commutes path (path_of l) new (list_of kids l.child) parent h.0)) ∙ merged_commutes path new ls kids (with_under (path_of l) (list_of kids l.child) parent) h.1

merged_other : (x : ℕ) (new : StobjList ℕ) (ls : List (Loan ℕ)) (kids : Stobjs ℕ) (parent : StobjList ℕ) → has (children ls) x ≡ false → merged ls (with_list x new kids) parent ≡ merged ls kids parent
merged_other x new [] kids parent h = refl
merged_other x new (l ∷ ls) kids parent h =
    let parts : (nat_eq x l.child ≡ false) × (has (children ls) x ≡ false) = neither (nat_eq x l.child) (has (children ls) x) h in
    ap (λ (k : StobjList ℕ). merged ls (with_list x new kids) (with_under (path_of l) k parent)) (list_other l.child x new kids (λ e. true_false (sym (same_number x) ∙ (ap (nat_eq x) (sym e) ∙ parts.0))))
    ∙ merged_other x new ls kids (with_under (path_of l) (list_of kids l.child) parent) parts.1

-- a child's new list is put back as it is written into the parent
pub merged_write : (x : ℕ) (new : StobjList ℕ) (ls : List (Loan ℕ)) (kids : Stobjs ℕ) (parent : StobjList ℕ) → HaveApartPaths ls → repeats (children ls) ≡ false → has (children ls) x ≡ true → is_among x (names kids) ≡ true
    → merged ls (with_list x new kids) parent ≡ with_under (path_for ls x) new (merged ls kids parent)
merged_write x new [] kids parent h r i k = false_true i
merged_write x new (l ∷ ls) kids parent h r i k =
    let parts : (has (children ls) l.child ≡ false) × (repeats (children ls) ≡ false) = neither (has (children ls) l.child) (repeats (children ls)) r in
    go (nat_eq x l.child) refl i parts.0 (merged_write x new ls kids (with_under (path_of l) (list_of kids l.child) parent) h.1 parts.1)
  where
    go : (b : Bool) → nat_eq x l.child ≡ b → (b || has (children ls) x) ≡ true → has (children ls) l.child ≡ false
        → (has (children ls) x ≡ true → is_among x (names kids) ≡ true → merged ls (with_list x new kids) (with_under (path_of l) (list_of kids l.child) parent) ≡ with_under (path_for ls x) new (merged ls kids (with_under (path_of l) (list_of kids l.child) parent)))
        → merged ls (with_list x new kids) (with_under (path_of l) (list_of (with_list x new kids) l.child) parent) ≡ with_under (if b then path_of l else path_for ls x) new (merged ls kids (with_under (path_of l) (list_of kids l.child) parent))
    go true e f d later =
        let same : x ≡ l.child = eqb-true x l.child e in
        ap (λ (k : StobjList ℕ). merged ls (with_list x new kids) (with_under (path_of l) k parent)) (ap (list_of (with_list x new kids)) (sym same) ∙ list_written x new kids k)
        ∙ (merged_other x new ls kids (with_under (path_of l) new parent) (ap (has (children ls)) same ∙ d)
        ∙ (ap (merged ls kids) (sym (under_twice (path_of l) new (list_of kids l.child) parent))
        ∙ merged_commutes (path_of l) new ls kids (with_under (path_of l) (list_of kids l.child) parent) h.0))
    go false e f d later =
        ap (λ (k : StobjList ℕ). merged ls (with_list x new kids) (with_under (path_of l) k parent)) (list_other l.child x new kids (λ g. true_false (sym (same_number x) ∙ (ap (nat_eq x) (sym g) ∙ e))))
        ∙ later f k

-- what was put back before is put back again
pub merged_again : (x : ℕ) (ls : List (Loan ℕ)) (kids : Stobjs ℕ) (parent : StobjList ℕ) → HaveApartPaths ls → has (children ls) x ≡ true
    → merged ls kids (with_under (path_for ls x) (list_of kids x) parent) ≡ merged ls kids parent
merged_again x [] kids parent h i = false_true i
merged_again x (l ∷ ls) kids parent h i = go (nat_eq x l.child) refl i (merged_again x ls kids (with_under (path_of l) (list_of kids l.child) parent) h.1)
  where
    go : (b : Bool) → nat_eq x l.child ≡ b → (b || has (children ls) x) ≡ true
        → (has (children ls) x ≡ true → merged ls kids (with_under (path_for ls x) (list_of kids x) (with_under (path_of l) (list_of kids l.child) parent)) ≡ merged ls kids (with_under (path_of l) (list_of kids l.child) parent))
        → merged ls kids (with_under (path_of l) (list_of kids l.child) (with_under (if b then path_of l else path_for ls x) (list_of kids x) parent)) ≡ merged ls kids (with_under (path_of l) (list_of kids l.child) parent)
    go true e f later = ap (merged ls kids) (under_twice (path_of l) (list_of kids l.child) (list_of kids x) parent)
    go false e f later = ap (merged ls kids) (under_commutes (path_of l) (path_for ls x) (list_of kids l.child) (list_of kids x) parent (apart_from (path_of l) ls x h.0 f)) ∙ later f

-- these loans are among those
abbrev pub AreWithin : List (Loan ℕ) → List (Loan ℕ) → Type 0
AreWithin ls [] = Unit {0}
AreWithin ls (q ∷ qs) = (path_of q ≡ path_for ls q.child) × (has (children ls) q.child ≡ true) × AreWithin ls qs

within_more : (l : Loan ℕ) (ls qs : List (Loan ℕ)) → has (children qs) l.child ≡ false → AreWithin ls qs → AreWithin (l ∷ ls) qs
within_more l ls [] d h = tt
within_more l ls (q ∷ qs) d h =
    let parts : (nat_eq l.child q.child ≡ false) × (has (children qs) l.child ≡ false) = neither (nat_eq l.child q.child) (has (children qs) l.child) d in
    let other : nat_eq q.child l.child ≡ false = not_equal q.child l.child (λ e. true_false (sym (same_number l.child) ∙ (ap (nat_eq l.child) (sym e) ∙ parts.0))) in
    (h.0 ∙ path_later other, has_later other h.1, within_more l ls qs parts.1 h.2)
  where
    path_later : nat_eq q.child l.child ≡ false → path_for ls q.child ≡ path_for (l ∷ ls) q.child
    path_later e = rw e refl

    has_later : nat_eq q.child l.child ≡ false → has (children ls) q.child ≡ true → has (children (l ∷ ls)) q.child ≡ true
    has_later e f = rw e f

pub within_itself : (ls : List (Loan ℕ)) → repeats (children ls) ≡ false → AreWithin ls ls
within_itself [] r = tt
within_itself (l ∷ ls) r =
    let parts : (has (children ls) l.child ≡ false) × (repeats (children ls) ≡ false) = neither (has (children ls) l.child) (repeats (children ls)) r in
    (first_path, first_has, within_more l ls ls parts.0 (within_itself ls parts.1))
  where
    first_path : path_of l ≡ path_for (l ∷ ls) l.child
    first_path = rw (same_number l.child) refl

    first_has : has (children (l ∷ ls)) l.child ≡ true
    first_has = rw (same_number l.child) refl

-- a parent whose children are unchanged is unchanged
pub merged_same : (ls qs : List (Loan ℕ)) (kids : Stobjs ℕ) (parent : StobjList ℕ) → AreWithin ls qs → ((x : ℕ) → has (children ls) x ≡ true → list_of kids x ≡ list_under (path_for ls x) parent) → merged qs kids parent ≡ parent
merged_same ls [] kids parent h k = refl
merged_same ls (q ∷ qs) kids parent h k =
    ap (merged qs kids) (ap (λ (m : StobjList ℕ). with_under (path_of q) m parent) (k q.child h.1 ∙ ap (λ (path : List ℕ). list_under path parent) (sym h.0)) ∙ under_unchanged (path_of q) parent)
    ∙ merged_same ls qs kids parent h.2 k

-- children put into their parent
pub put_one : (p : ℕ) (l : Loan ℕ) (kids os : Stobjs ℕ) → l.parent ≡ p → is_among l.child (names kids) ≡ true → is_among p (names kids) ≡ false
    → put_into_parent l (kids ++ os) ≡ kids ++ with_list p (with_under (path_of l) (list_of kids l.child) (list_of os p)) os
put_one p l kids os e k d =
    let parent : list_of (kids ++ os) l.parent ≡ list_of os p = ap (list_of (kids ++ os)) e ∙ list_beside kids os p d in
    let new : with_child l (list_of (kids ++ os) l.child) (list_of (kids ++ os) l.parent) ≡ with_under (path_of l) (list_of kids l.child) (list_of os p)
    = with_child_is l (list_of (kids ++ os) l.child) (list_of (kids ++ os) l.parent)
    ∙ (ap (λ (m : StobjList ℕ). with_under (path_of l) m (list_of (kids ++ os) l.parent)) (list_widened kids os l.child k) ∙ ap (with_under (path_of l) (list_of kids l.child)) parent) in
    ap (λ (m : StobjList ℕ). with_list l.parent m (kids ++ os)) new
    ∙ (ap (λ (x : ℕ). with_list x (with_under (path_of l) (list_of kids l.child) (list_of os p)) (kids ++ os)) e
    ∙ write_beside kids os p (with_under (path_of l) (list_of kids l.child) (list_of os p)) d)

abbrev pub AreKids : Stobjs ℕ → List (Loan ℕ) → Type 0
AreKids kids [] = Unit {0}
AreKids kids (l ∷ ls) = (is_among l.child (names kids) ≡ true) × AreKids kids ls

pub put_merged : (p : ℕ) (ls : List (Loan ℕ)) (kids os : Stobjs ℕ) → HaveParent p ls → AreKids kids ls → is_among p (names kids) ≡ false → is_among p (names os) ≡ true
    → all_put ls (kids ++ os) ≡ kids ++ raised p ls kids os
put_merged p [] kids os h a d i = ap (λ (o : Stobjs ℕ). kids ++ o) (sym (written_same p os))
put_merged p (l ∷ ls) kids os h a d i =
    let new : StobjList ℕ = with_under (path_of l) (list_of kids l.child) (list_of os p) in
    ap (all_put ls) (put_one p l kids os h.0 a.0 d)
    ∙ (put_merged p ls kids (with_list p new os) h.1 a.1 d (ap (is_among p) (names_write p new os) ∙ i)
    ∙ ap (λ (o : Stobjs ℕ). kids ++ o)
    (ap (λ (m : StobjList ℕ). with_list p (merged ls kids m) (with_list p new os)) (list_written p new os i) ∙ written_twice p (merged ls kids new) new os))
