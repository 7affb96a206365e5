-- The actuals of a call: how loops over them go on, and what they are seen as.
use Rattle.std.proofs.Common.{◌≡◌, ℕ, zero, suc, ◌+◌, ◌-◌, ◌<◌, ◌≤◌, List, [], ◌∷◌, ◌++◌, length, map, take, drop, set, get_or, refl, sym, ap, ◌∙◌, arith}
use Rattle.std.specs.Prelude.{nat_eq, if◌then◌else◌, true, false, Bool, Option, Some, None, unwrap_or, min, slice_index_or}
use Rattle.std.proofs.lemmas.List.{append-nil, append_assoc, length-append}
use Rattle.std.proofs.Math.Nat.{min-zero, zero-min, suc-min-suc}
use Rattle.std.proofs.lemmas.Bool.Decides.{nat_tests}
use Rattle.acl_heap.specs.Objects.{Objects, object_of}
use Rattle.model_eval.specs.Outcomes as outcomes
use Rattle.model_eval.specs.Keeping.{actual_for, outer_value}
use Rattle.model_slots.specs.Laws.{as_formals}
use Rattle.model_window.specs.Windows.{renamed, stobj_names, actuals_at}
use Rattle.acl_terms.specs.Forms.{numbers}
use Rattle.acl_keep.specs.Seen.{all_seen}
use Rattle.acl_base.specs.declared.SymId.{SymId}
use Rattle.acl_base.specs.declared.Word.{Word}
use Rattle.acl_terms.specs.declared.outcome.Shown.{Shown}
use Rattle.acl_terms.specs.declared.outcome.Shown.TheVariants as shown
use Rattle.acl_machine.specs.declared.machine.Machine.{Machine}
use Rattle.acl_machine.specs.Cells.{cell, cells_from, memory_of, top, below, Writes}
use Rattle.acl_machine.specs.Actuals.{names_of, with_names, under_formal, under_formals, name_at, outer_name, outer_shown, actuals_in}
use Rattle.acl_machine.proofs.BeginLemmas.{read_cells}
use Rattle.acl_machine.proofs.MemoryLemmas.{WritesFrom, writes_none, writes_one}

-- ---- objects under names

pub named_value : (v : Shown) (w : Word) (ns : List SymId) (vs : List Shown) → v ≡ shown.Value w → with_names (v ∷ vs) ns ≡ shown.Value w ∷ with_names vs ns
named_value v w ns vs e = ap (λ u. with_names (u ∷ vs) ns) e

pub named_next : (v : Shown) (x : SymId) (ns : List SymId) (used : ℕ) (d : SymId) (vs : List Shown) → v ≡ shown.Object x → used < length ns
    → with_names (v ∷ vs) (drop used ns) ≡ shown.Object (slice_index_or ns used d) ∷ with_names vs (drop (used + 1) ns)
named_next v x ns used d vs e l = ap (λ u. with_names (u ∷ vs) (drop used ns)) e ∙ go ns used l
  where
    go : (ns : List SymId) (used : ℕ) → used < length ns → with_names (shown.Object x ∷ vs) (drop used ns) ≡ shown.Object (slice_index_or ns used d) ∷ with_names vs (drop (used + 1) ns)
    go [] used l = absurd (omega arith)
    go (n ∷ ns) zero l = refl
    go (n ∷ ns) (suc used) l =
        let e : suc (used + 1) ≡ suc used + 1 = omega arith in
        go ns used (omega arith) ∙ ap (λ k. shown.Object (slice_index_or ns used d) ∷ with_names vs (drop k (n ∷ ns))) e

pub named_past : (v : Shown) (x : SymId) (ns : List SymId) (used : ℕ) (vs : List Shown) → v ≡ shown.Object x → length ns ≤ used
    → with_names (v ∷ vs) (drop used ns) ≡ shown.Object x ∷ with_names vs (drop used ns)
named_past v x ns used vs e l = ap (λ u. with_names (u ∷ vs) (drop used ns)) e ∙ go ns used l
  where
    go : (ns : List SymId) (used : ℕ) → length ns ≤ used → with_names (shown.Object x ∷ vs) (drop used ns) ≡ shown.Object x ∷ with_names vs (drop used ns)
    go [] zero l = refl
    go [] (suc used) l = refl
    go (n ∷ ns) zero l = absurd (omega arith)
    go (n ∷ ns) (suc used) l = go ns used (omega arith)

-- the actuals so far, then those that are left
pub copied_start : (vs : List Shown) (at count : ℕ) (ns : List SymId) → [] ++ with_names (cells_from vs (at + 0) (count - 0)) ns ≡ with_names (cells_from vs at count) ns
copied_start vs at count ns =
    let one : at + 0 ≡ at = omega arith in
    let two : count - 0 ≡ count = omega arith in
    ap (λ n. with_names (cells_from vs n (count - 0)) ns) one ∙ ap (λ n. with_names (cells_from vs at n) ns) two

pub copied_step : (vs done all new : List Shown) (at k count i : ℕ) (ns ms : List SymId) (u v : Shown) → k < count → i ≡ at + k → u ≡ cell vs i
    → ((us : List Shown) → with_names (u ∷ us) ns ≡ v ∷ with_names us ms)
    → new ≡ done ++ v ∷ [] → done ++ with_names (cells_from vs (at + k) (count - k)) ns ≡ all
    → new ++ with_names (cells_from vs (at + (k + 1)) (count - (k + 1))) ms ≡ all
copied_step vs done all new at k count i ns ms u v h place is named more e =
    ap (λ l. l ++ with_names (cells_from vs (at + (k + 1)) (count - (k + 1))) ms) more
    ∙ append_assoc done (v ∷ []) (with_names (cells_from vs (at + (k + 1)) (count - (k + 1))) ms)
    ∙ ap (λ l. done ++ l) (sym (named (cells_from vs (at + (k + 1)) (count - (k + 1)))))
    ∙ ap (λ w. done ++ with_names (w ∷ cells_from vs (at + (k + 1)) (count - (k + 1))) ns) (is ∙ ap (cell vs) place)
    ∙ ap (λ l. done ++ with_names l ns) (sym (one_more h)) ∙ e
  where
    one_more : k < count → cells_from vs (at + k) (count - k) ≡ cell vs (at + k) ∷ cells_from vs (at + (k + 1)) (count - (k + 1))
    one_more h =
        let n : count - k ≡ suc (count - (k + 1)) = omega arith in
        let m : (at + k) + 1 ≡ at + (k + 1) = omega arith in
        ap (cells_from vs (at + k)) n ∙ ap (λ i. cell vs (at + k) ∷ cells_from vs i (count - (k + 1))) m

pub copied_end : (vs done : List Shown) (at k count : ℕ) (ns : List SymId) → count ≤ k → done ++ with_names (cells_from vs (at + k) (count - k)) ns ≡ done
copied_end vs done at k count ns h = let n : count - k ≡ 0 = omega arith in ap (λ m. done ++ with_names (cells_from vs (at + k) m) ns) n ∙ append-nil done

-- ---- under the formals

pub under_length : (fs : List SymId) (vs : List Shown) → length (under_formals fs vs) ≡ min (length fs) (length vs)
under_length [] vs = sym (zero-min (length vs))
under_length (f ∷ fs) [] = sym (min-zero (suc (length fs)))
under_length (f ∷ fs) (v ∷ vs) = ap suc (under_length fs vs) ∙ sym (suc-min-suc (length fs) (length vs))

pub under_cell : (fs : List SymId) (vs : List Shown) (k : ℕ) (d : SymId) (e : Shown) → k < min (length fs) (length vs) → cell (under_formals fs vs) k ≡ under_formal (slice_index_or fs k d) (slice_index_or vs k e)
under_cell [] vs k d e h = absurd (omega arith)
under_cell (f ∷ fs) [] k d e h = absurd (omega arith)
under_cell (f ∷ fs) (v ∷ vs) zero d e h = refl
under_cell (f ∷ fs) (v ∷ vs) (suc k) d e h = under_cell fs vs k d e (omega arith)

pub under_none : (at : ℕ) (fs : List SymId) (vs old : List Shown) → WritesFrom at (min (length fs) (length vs)) (under_formals fs vs) old old
under_none at fs vs old = writes_none at (min (length fs) (length vs)) (under_formals fs vs) old (sym (under_length fs vs))

pub under_one : (at k : ℕ) (fs : List SymId) (vs old new newer : List Shown) (v : Shown) (d : SymId) (u : Shown) → 0 < k → k ≤ min (length fs) (length vs) → WritesFrom at k (under_formals fs vs) old new
    → v ≡ under_formal (slice_index_or fs (k - 1) d) (slice_index_or vs (k - 1) u) → Writes (at + (k - 1)) v new newer → WritesFrom at (k - 1) (under_formals fs vs) old newer
under_one at k fs vs old new newer v d u h g w e x =
    let same : v ≡ cell (under_formals fs vs) (k - 1) = e ∙ sym (under_cell fs vs (k - 1) d u (omega (arith, h, g))) in
    writes_one at k (under_formals fs vs) old new newer h (omega (arith, g, under_length fs vs)) w (record { cells = λ i. x.cells i ∙ ap (λ (y : Shown). if nat_eq i (at + (k - 1)) then y else cell new i) same })

-- ---- names

names_one : (ns : List SymId) (v : Shown) (vs : List Shown) → (ns ++ names_of (v ∷ [])) ++ names_of vs ≡ ns ++ names_of (v ∷ vs)
names_one ns (shown.Value w) vs = ap (λ l. l ++ names_of vs) (append-nil ns)
names_one ns (shown.Object x) vs = append_assoc ns (x ∷ []) (names_of vs)

names_more : (vs : List Shown) (i : ℕ) (d : Shown) → i < length vs → drop i vs ≡ get_or vs i d ∷ drop (i + 1) vs
names_more [] i d h = absurd (omega arith)
names_more (v ∷ vs) zero d h = refl
names_more (v ∷ vs) (suc i) d h =
    let e : suc (i + 1) ≡ suc i + 1 = omega arith in
    names_more vs i d (omega arith) ∙ ap (λ n. get_or vs i d ∷ drop n (v ∷ vs)) e

pub names_step : (all ns new : List SymId) (vs : List Shown) (i : ℕ) (d : Shown) → i < length vs → new ≡ ns ++ names_of (get_or vs i d ∷ []) → ns ++ names_of (drop i vs) ≡ all → new ++ names_of (drop (i + 1) vs) ≡ all
names_step all ns new vs i d h e f = ap (λ l. l ++ names_of (drop (i + 1) vs)) e ∙ names_one ns (get_or vs i d) (drop (i + 1) vs) ∙ ap (λ l. ns ++ names_of l) (sym (names_more vs i d h)) ∙ f

names_past : (vs : List Shown) (i : ℕ) → length vs ≤ i → drop i vs ≡ []
names_past [] zero h = refl
names_past [] (suc i) h = refl
names_past (v ∷ vs) zero h = absurd (omega arith)
names_past (v ∷ vs) (suc i) h = names_past vs i (omega arith)

pub names_ended : (all ns : List SymId) (vs : List Shown) (i : ℕ) → length vs ≤ i → ns ++ names_of (drop i vs) ≡ all → ns ≡ all
names_ended all ns vs i h f = sym (append-nil ns) ∙ ap (λ l. ns ++ names_of l) (sym (names_past vs i h)) ∙ f

-- ---- the name outside

same_name : (x y : ℕ) → x ≡ y → nat_eq x y ≡ true
same_name x y e = grind (arith, nat_tests)

other_name : (x y : ℕ) → (x ≡ y → ⊥) → nat_eq x y ≡ false
other_name x y n = grind (arith, nat_tests)

pub outside_value : (f : SymId) (v : Shown) (w : Word) (x later : SymId) → v ≡ shown.Value w → name_at f v x later ≡ later
outside_value f v w x later e = ap (λ u. name_at f u x later) e

pub outside_same : (f : SymId) (v : Shown) (z x later : SymId) → v ≡ shown.Object z → x.0 ≡ f.0 → name_at f v x later ≡ z
outside_same f v z x later e h = ap (λ u. name_at f u x later) e ∙ ap (λ b. if b then z else later) (same_name x.0 f.0 h)

pub outside_other : (f : SymId) (v : Shown) (z x later : SymId) → v ≡ shown.Object z → (x.0 ≡ f.0 → ⊥) → name_at f v x later ≡ later
outside_other f v z x later e h = ap (λ u. name_at f u x later) e ∙ ap (λ b. if b then z else later) (other_name x.0 f.0 h)

pub outer_more : (fs : List SymId) (vs : List Shown) (x : SymId) (k : ℕ) (d : SymId) (u : Shown) → k < min (length fs) (length vs)
    → outer_name (drop k fs) (drop k vs) x ≡ name_at (slice_index_or fs k d) (slice_index_or vs k u) x (outer_name (drop (k + 1) fs) (drop (k + 1) vs) x)
outer_more [] vs x k d u h = absurd (omega arith)
outer_more (f ∷ fs) [] x k d u h = absurd (omega arith)
outer_more (f ∷ fs) (v ∷ vs) x zero d u h = refl
outer_more (f ∷ fs) (v ∷ vs) x (suc k) d u h =
    let e : suc (k + 1) ≡ suc k + 1 = omega arith in
    outer_more fs vs x k d u (omega arith) ∙ ap (λ n. name_at (slice_index_or fs k d) (slice_index_or vs k u) x (outer_name (drop n (f ∷ fs)) (drop n (v ∷ vs)) x)) e

pub outer_ended : (fs : List SymId) (vs : List Shown) (x : SymId) (k : ℕ) → min (length fs) (length vs) ≤ k → outer_name (drop k fs) (drop k vs) x ≡ x
outer_ended [] vs x zero h = refl
outer_ended [] vs x (suc k) h = refl
outer_ended (f ∷ fs) [] x zero h = refl
outer_ended (f ∷ fs) [] x (suc k) h = past (drop k fs)
  where
    past : (fs : List SymId) → outer_name fs [] x ≡ x
    past [] = refl
    past (f ∷ fs) = refl
outer_ended (f ∷ fs) (v ∷ vs) x zero h = absurd (omega arith)
outer_ended (f ∷ fs) (v ∷ vs) x (suc k) h = outer_ended fs vs x k (omega arith)

pub outer_found : (fs : List SymId) (vs : List Shown) (x : SymId) (k : ℕ) (d : SymId) (u : Shown) (r : Option SymId) (o : SymId) → k < min (length fs) (length vs)
    → ((later : SymId) → name_at (slice_index_or fs k d) (slice_index_or vs k u) x later ≡ unwrap_or r later) → r ≡ Some o
    → outer_name (drop k fs) (drop k vs) x ≡ outer_name fs vs x → o ≡ outer_name fs vs x
outer_found fs vs x k d u r o h at is same =
    let later : SymId = outer_name (drop (k + 1) fs) (drop (k + 1) vs) x in
    sym (sym same ∙ outer_more fs vs x k d u h ∙ at later ∙ ap (λ s. unwrap_or s later) is)

pub outer_passed : (fs : List SymId) (vs : List Shown) (x : SymId) (k : ℕ) (d : SymId) (u : Shown) (r : Option SymId) → k < min (length fs) (length vs)
    → ((later : SymId) → name_at (slice_index_or fs k d) (slice_index_or vs k u) x later ≡ unwrap_or r later) → r ≡ None
    → outer_name (drop k fs) (drop k vs) x ≡ outer_name fs vs x → outer_name (drop (k + 1) fs) (drop (k + 1) vs) x ≡ outer_name fs vs x
outer_passed fs vs x k d u r h at is same =
    let later : SymId = outer_name (drop (k + 1) fs) (drop (k + 1) vs) x in
    sym (outer_more fs vs x k d u h ∙ at later ∙ ap (λ s. unwrap_or s later) is) ∙ same

pub outer_none : (fs : List SymId) (vs : List Shown) (x : SymId) (k : ℕ) → min (length fs) (length vs) ≤ k → outer_name (drop k fs) (drop k vs) x ≡ outer_name fs vs x → x ≡ outer_name fs vs x
outer_none fs vs x k h same = sym (outer_ended fs vs x k h) ∙ same

-- ---- values that are changed in place, the last one first

pub changed_none : (f : Shown → Shown) (vs : List Shown) → vs ≡ take (length vs) vs ++ map f (drop (length vs) vs)
changed_none f [] = refl
changed_none f (v ∷ vs) = ap (λ l. v ∷ l) (changed_none f vs)

pub changed_one : (f : Shown → Shown) (vs : List Shown) (k : ℕ) → 0 < k → k ≤ length vs
    → set (take k vs ++ map f (drop k vs)) (k - 1) (f (cell (take k vs ++ map f (drop k vs)) (k - 1))) ≡ take (k - 1) vs ++ map f (drop (k - 1) vs)
changed_one f vs zero h g = absurd (omega arith)
changed_one f [] (suc k) h g = absurd (omega arith)
changed_one f (v ∷ vs) (suc zero) h g = refl
changed_one f (v ∷ vs) (suc (suc k)) h g =
    let e : suc k ≡ suc (suc k) - 1 = omega arith in
    let d : suc k - 1 ≡ k = omega arith in
    ap (λ n. set (take (suc (suc k)) (v ∷ vs) ++ map f (drop (suc (suc k)) (v ∷ vs))) n (f (cell (take (suc (suc k)) (v ∷ vs) ++ map f (drop (suc (suc k)) (v ∷ vs))) n))) (sym e)
    ∙ ap (λ l. v ∷ l) (ap (λ n. set (take (suc k) vs ++ map f (drop (suc k) vs)) n (f (cell (take (suc k) vs ++ map f (drop (suc k) vs)) n))) (sym d) ∙ changed_one f vs (suc k) (omega arith) (omega arith) ∙ ap (λ n. take n vs ++ map f (drop n vs)) d)
    ∙ ap (λ n. take n (v ∷ vs) ++ map f (drop n (v ∷ vs))) e

pub changed_step : (f : Shown → Shown) (old values new : List Shown) (k : ℕ) (u v : Shown) → 0 < k → k ≤ length old → values ≡ take k old ++ map f (drop k old) → u ≡ cell values (k - 1) → v ≡ f u → new ≡ set values (k - 1) v
    → new ≡ take (k - 1) old ++ map f (drop (k - 1) old)
changed_step f old values new k u v h g so_far read is q =
    q ∙ ap (set values (k - 1)) is ∙ ap (λ w. set values (k - 1) (f w)) read ∙ ap (λ l. set l (k - 1) (f (cell l (k - 1)))) so_far ∙ changed_one f old k h g

pub changed_length : (f : Shown → Shown) (vs : List Shown) (k : ℕ) → length (take k vs ++ map f (drop k vs)) ≡ length vs
changed_length f [] zero = refl
changed_length f [] (suc k) = refl
changed_length f (v ∷ vs) zero = ap suc (changed_length f vs zero ∙ refl)
changed_length f (v ∷ vs) (suc k) = ap suc (changed_length f vs k)

-- ---- what they are seen as

pub named_seen : (h : Objects) (vs : List Shown) (ns : List SymId) → all_seen h (with_names vs ns) ≡ renamed (all_seen h vs) (numbers ns)
named_seen h [] ns = refl
named_seen h (shown.Value w ∷ vs) ns = ap (λ l. outcomes.Plain (object_of h w) ∷ l) (named_seen h vs ns)
named_seen h (shown.Object x ∷ vs) [] = ap (λ l. outcomes.StobjNamed x.0 ∷ l) (named_seen h vs [])
named_seen h (shown.Object x ∷ vs) (y ∷ ys) = ap (λ l. outcomes.StobjNamed y.0 ∷ l) (named_seen h vs ys)

pub names_seen : (h : Objects) (vs : List Shown) → numbers (names_of vs) ≡ stobj_names (all_seen h vs)
names_seen h [] = refl
names_seen h (shown.Value w ∷ vs) = names_seen h vs
names_seen h (shown.Object x ∷ vs) = ap (λ l. x.0 ∷ l) (names_seen h vs)

pub formals_seen : (h : Objects) (fs : List SymId) (vs : List Shown) → all_seen h (under_formals fs vs) ≡ as_formals (numbers fs) (all_seen h vs)
formals_seen h [] vs = refl
formals_seen h (f ∷ fs) [] = refl
formals_seen h (f ∷ fs) (shown.Value w ∷ vs) = ap (λ l. outcomes.Plain (object_of h w) ∷ l) (formals_seen h fs vs)
formals_seen h (f ∷ fs) (shown.Object x ∷ vs) = ap (λ l. outcomes.StobjNamed f.0 ∷ l) (formals_seen h fs vs)

-- the actuals of a call in its window
pub actuals_seen : (h : Objects) (m : Machine) (base count n : ℕ) → all_seen h (actuals_in m base count n) ≡ actuals_at (memory_of h m.values) base count (numbers (top n m.names))
actuals_seen h m base count n =
    let z : base + 0 ≡ base = omega arith in
    named_seen h (cells_from m.values base count) (top n m.names)
    ∙ ap (λ vs. renamed vs (numbers (top n m.names))) (sym (read_cells h m.values base 0 count ∙ ap (λ i. all_seen h (cells_from m.values i count)) z))

outer_name_seen : (h : Objects) (fs : List SymId) (vs : List Shown) (x : SymId) → (outer_name fs vs x).0 ≡ actual_for (numbers fs) (all_seen h vs) x.0
outer_name_seen h [] vs x = refl
outer_name_seen h (f ∷ fs) [] x = refl
outer_name_seen h (f ∷ fs) (shown.Value w ∷ vs) x = outer_name_seen h fs vs x
outer_name_seen h (f ∷ fs) (shown.Object z ∷ vs) x = by_test (nat_eq x.0 f.0) ∙ ap (λ n. if nat_eq x.0 f.0 then z.0 else n) (outer_name_seen h fs vs x)
  where
    by_test : (b : Bool) → (if b then z else outer_name fs vs x).0 ≡ (if b then z.0 else (outer_name fs vs x).0)
    by_test true = refl
    by_test false = refl

pub outer_seen : (h : Objects) (fs : List SymId) (vs values : List Shown) → all_seen h (map (outer_shown fs vs) values) ≡ map (outer_value (numbers fs) (all_seen h vs)) (all_seen h values)
outer_seen h fs vs [] = refl
outer_seen h fs vs (shown.Value w ∷ values) = ap (λ l. outcomes.Plain (object_of h w) ∷ l) (outer_seen h fs vs values)
outer_seen h fs vs (shown.Object x ∷ values) =
    ap (λ n. outcomes.StobjNamed n ∷ all_seen h (map (outer_shown fs vs) values)) (outer_name_seen h fs vs x)
    ∙ ap (λ l. outcomes.StobjNamed (actual_for (numbers fs) (all_seen h vs) x.0) ∷ l) (outer_seen h fs vs values)

-- names on top of others
drop_all : {X : Type 0} (xs ys : List X) → drop (length xs) (xs ++ ys) ≡ ys
drop_all [] ys = refl
drop_all (x ∷ xs) ys = drop_all xs ys

take_all : {X : Type 0} (xs ys : List X) → take (length xs) (xs ++ ys) ≡ xs
take_all [] [] = refl
take_all [] (y ∷ ys) = refl
take_all (x ∷ xs) ys = ap (λ l. x ∷ l) (take_all xs ys)

pub top_of_both : {X : Type 0} (xs ys : List X) → top (length ys) (xs ++ ys) ≡ ys
top_of_both xs ys = let e : length (xs ++ ys) - length ys ≡ length xs = (let l = length-append xs ys in omega arith) in ap (λ n. drop n (xs ++ ys)) e ∙ drop_all xs ys

pub below_both : {X : Type 0} (xs ys : List X) → below (length ys) (xs ++ ys) ≡ xs
below_both xs ys = let e : length (xs ++ ys) - length ys ≡ length xs = (let l = length-append xs ys in omega arith) in ap (λ n. take n (xs ++ ys)) e ∙ take_all xs ys

-- how many names were added
pub names_added : (ns : List SymId) (vs : List Shown) (all : List SymId) → all ≡ ns ++ names_of vs → length all - length ns ≡ length (names_of vs)
names_added ns vs all e = let l = length-append ns (names_of vs) in let m = ap length e in omega arith
