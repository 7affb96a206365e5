-- Tables that grow and are cut, and their trees.
use Rattle.std.specs.Prelude.{◌≡◌, ℕ, zero, suc, ◌+◌, ◌<◌, ◌≤◌, List, [], ◌∷◌, ◌++◌, length, map, take, drop, get_or, Option, Some, None, slice_get, option_map, max, refl}
use Rattle.std.specs.Option.{option_map_or}
use Rattle.std.proofs.Common.{sym, ap, ◌∙◌, arith, subst, length-append, append_assoc, inl, inr}
use Rattle.std.proofs.lemmas.List.{get_or_append_left, append-nil}
use Rattle.std.proofs.Math.Seq.{get_or-append_seam}
use Rattle.acl_base.specs.declared.TermId.{TermId}
use Rattle.model_symbols.proofs.Positions.{slice_get-push}
use Rattle.model_slots.specs.Trees.{Tree}
use Rattle.acl_base.specs.declared.Word.{Word}
use Rattle.acl_heap.specs.Objects.{Objects, Extends, object_of, reach}
use Rattle.model_slots.specs.Trees as trees
use Rattle.acl_terms.specs.Forms.{most}
use Rattle.acl_code.specs.declared.term.Operand.{Operand}
use Rattle.acl_code.specs.declared.term.Operand.TheVariants as operand
use Rattle.acl_code.specs.declared.term.Child.{Child}
use Rattle.acl_code.specs.declared.term.Parts.{Parts}
use Rattle.acl_code.specs.declared.term.Term.{Term}
use Rattle.acl_code.specs.declared.term.Term.TheVariants as term
use Rattle.acl_code.specs.Tables.{seen_operand, seen_child, tree_in, tree_over, trees_after, forest, tree_at, StandsOver, IsTable, Grown, no_tree, trees_in, EndBelow, operand_reach, child_reach, term_reach, TermLies, TermsLie}

-- ---- what holds of every table

pub empty_table : IsTable []
empty_table = record { over = λ i t h. cc }

pub table_push : (ts : List Term) (t : Term) → IsTable ts → StandsOver (length ts) t → IsTable (ts ++ t ∷ [])
table_push ts t i s = record {
  over = λ n u h. elim (slice_get-push ts t n u h) [
    | inl a ↦ i.over n u a
    | inr b ↦ subst (λ m. StandsOver m u) (sym b.0) (subst (λ v. StandsOver (length ts) v) (sym b.1) s)
  ];
}

pub get_taken : {X : Type 0} (n : ℕ) (xs : List X) (i : ℕ) (x : X) → slice_get (take n xs) i ≡ Some x → slice_get xs i ≡ Some x
get_taken zero xs i x h = cc
get_taken (suc n) [] i x h = cc
get_taken (suc n) (y ∷ xs) zero x h = h
get_taken (suc n) (y ∷ xs) (suc i) x h = get_taken n xs i x h

pub table_take : (n : ℕ) (ts : List Term) → IsTable ts → IsTable (take n ts)
table_take n ts i = record { over = λ k t h. i.over k t (get_taken n ts k t h) }

-- ---- growth

take_left : {X : Type 0} (n : ℕ) (xs ys : List X) → n ≤ length xs → take n (xs ++ ys) ≡ take n xs
take_left zero xs ys l = refl
take_left (suc n) [] ys l = absurd (omega arith)
take_left (suc n) (x ∷ xs) ys l = ap (λ zs. x ∷ zs) (take_left n xs ys (omega arith))

take_all : {X : Type 0} (xs : List X) → take (length xs) xs ≡ xs
take_all [] = refl
take_all (x ∷ xs) = ap (λ ys. x ∷ ys) (take_all xs)

take_less : {X : Type 0} (m n : ℕ) (xs : List X) → m ≤ n → take m (take n xs) ≡ take m xs
take_less zero n xs l = refl
take_less (suc m) zero xs l = absurd (omega arith)
take_less (suc m) (suc n) [] l = refl
take_less (suc m) (suc n) (x ∷ xs) l = ap (λ ys. x ∷ ys) (take_less m n xs (omega arith))

take_drop : {X : Type 0} (n : ℕ) (xs : List X) → xs ≡ take n xs ++ drop n xs
take_drop zero xs = refl
take_drop (suc n) [] = refl
take_drop (suc n) (x ∷ xs) = ap (λ ys. x ∷ ys) (take_drop n xs)

pub grown_same : (ts : List Term) → Grown ts ts
grown_same ts = record { longer = omega arith; same = take_all ts }

pub grown_none : (old new : List Term) → new ≡ old → Grown old new
grown_none old new e = rw e (grown_same old)

pub grown_push : (old new : List Term) (t : Term) → new ≡ old ++ t ∷ [] → Grown old new
grown_push old new t e = rw e (record { longer = omega (arith, length-append old (t ∷ [])); same = take_left (length old) old (t ∷ []) (omega arith) ∙ take_all old })

pub grown_then : (a b c : List Term) → Grown a b → Grown b c → Grown a c
grown_then a b c p q = record {
  longer = omega (arith, p.longer, q.longer);
  same = sym (take_less (length a) (length b) c p.longer) ∙ (ap (take (length a)) q.same ∙ p.same);
}

-- ---- trees

module _ (h : Objects) where
  after_join : (done : List Tree) (ts us : List Term) → trees_after h done (ts ++ us) ≡ trees_after h (trees_after h done ts) us
  after_join done [] us = refl
  after_join done (t ∷ ts) us = after_join (done ++ tree_over h done t ∷ []) ts us

  after_length : (done : List Tree) (ts : List Term) → length (trees_after h done ts) ≡ length done + length ts
  after_length done [] = omega arith
  after_length done (u ∷ ts) = omega (arith, after_length (done ++ tree_over h done u ∷ []) ts, length-append done (tree_over h done u ∷ []))

  after_earlier : (done : List Tree) (ts : List Term) (i : ℕ) → i < length done → get_or (trees_after h done ts) i no_tree ≡ get_or done i no_tree
  after_earlier done [] i l = refl
  after_earlier done (t ∷ ts) i l =
      after_earlier (done ++ tree_over h done t ∷ []) ts i (omega (arith, length-append done (tree_over h done t ∷ [])))
      ∙ get_or_append_left done (tree_over h done t ∷ []) no_tree i l

  pub forest_length : (ts : List Term) → length (forest h ts) ≡ length ts
  unfolding forest
  forest_length ts = let e : length (trees_after h [] ts) ≡ 0 + length ts = after_length [] ts in omega (arith, e)

  pub forest_push : (ts : List Term) (t : Term) → forest h (ts ++ t ∷ []) ≡ forest h ts ++ tree_over h (forest h ts) t ∷ []
  unfolding forest
  forest_push ts t = after_join [] ts (t ∷ [])

  forest_join : (ts us : List Term) → forest h (ts ++ us) ≡ trees_after h (forest h ts) us
  unfolding forest
  forest_join ts us = after_join [] ts us

  -- a number of the table stands for the same tree in a grown table
  pub tree_later : (old new : List Term) (t : TermId) → Grown old new → t.0 < length old → tree_at h new t ≡ tree_at h old t
  tree_later old new t g l =
      let e : new ≡ old ++ drop (length old) new = take_drop (length old) new ∙ ap (λ ts. ts ++ drop (length old) new) g.same in
      let n : length (forest h old) ≡ length old = forest_length old in
      ap (λ ts. get_or (forest h ts) t.0 no_tree) e
      ∙ (ap (λ ts. get_or ts t.0 no_tree) (forest_join old (drop (length old) new))
      ∙ after_earlier (forest h old) (drop (length old) new) t.0 (omega (arith, n)))

  -- a number stands for its term over the terms before it
  pub tree_seam : (before after : List Term) (term : Term) (t : TermId) → t.0 ≡ length before → tree_at h (before ++ term ∷ after) t ≡ tree_over h (forest h before) term
  tree_seam before after term t e =
      let n : length (forest h before) ≡ length before = forest_length before in
      let m : length (forest h before ++ tree_over h (forest h before) term ∷ []) ≡ length (forest h before) + 1 = length-append (forest h before) (tree_over h (forest h before) term ∷ []) in
      ap (λ ts. get_or ts t.0 no_tree) (forest_join before (term ∷ after))
      ∙ (after_earlier (forest h before ++ tree_over h (forest h before) term ∷ []) after t.0 (omega (arith, n, m, e))
      ∙ (ap (λ i. get_or (forest h before ++ tree_over h (forest h before) term ∷ []) i no_tree) (e ∙ sym n)
      ∙ get_or-append_seam (forest h before) (tree_over h (forest h before) term) [] no_tree))

  pub tree_pushed : (old new : List Term) (term : Term) (t : TermId) → new ≡ old ++ term ∷ [] → t.0 ≡ length old → tree_at h new t ≡ tree_over h (forest h old) term
  tree_pushed old new term t e n = rw e (tree_seam old [] term t n)

  -- ---- a look at a term

  get_split : (n : ℕ) (ts : List Term) (u : Term) → slice_get ts n ≡ Some u → (ts ≡ take n ts ++ u ∷ drop (suc n) ts) × (n ≡ length (take n ts))
  get_split n [] u e = cc
  get_split zero (t ∷ ts) u e = let s : t ≡ u = cc in (ap (λ v. v ∷ ts) s, refl)
  get_split (suc n) (t ∷ ts) u e = let r = get_split n ts u e in (ap (λ vs. t ∷ vs) r.0, ap suc r.1)

  there : (ts : List Term) (u : Term) (t : TermId) → slice_get ts t.0 ≡ Some u → tree_at h ts t ≡ tree_over h (forest h (take t.0 ts)) u
  there ts u t e =
      let r = get_split t.0 ts u e in
      ap (λ vs. tree_at h vs t) r.0 ∙ tree_seam (take t.0 ts) (drop (suc t.0) ts) u t r.1

  pub slot_there : (ts : List Term) (s : ℕ) (t : TermId) → slice_get ts t.0 ≡ Some (term.Slot s) → trees.Leaf (trees.Slot s) ≡ tree_at h ts t
  slot_there ts s t e = sym (there ts (term.Slot s) t e)

  pub const_there : (ts : List Term) (w : Word) (t : TermId) → slice_get ts t.0 ≡ Some (term.Const w) → trees.Leaf (trees.Const (object_of h w)) ≡ tree_at h ts t
  const_there ts w t e = sym (there ts (term.Const w) t e)

  -- ---- parts

  pub last_within : (old new : List Term) (u : Term) (t : TermId) → new ≡ old ++ u ∷ [] → t.0 ≡ length old → t.0 < length new
  last_within old new u t e n = rw e (omega (arith, n, length-append old (u ∷ [])))

  pub forest_put : (old new : List Term) (u : Term) (tree : Tree) → new ≡ old ++ u ∷ [] → tree_over h (forest h old) u ≡ tree → forest h new ≡ forest h old ++ tree ∷ []
  forest_put old new u tree e s = ap (forest h) e ∙ (forest_push old u ∙ ap (λ v. forest h old ++ v ∷ []) s)

  -- ---- over the trees of the table

  get_early : (done : List Tree) (more : List Tree) (n : ℕ) (t : TermId) → n ≤ length done → t.0 < n → tree_in (done ++ more) t ≡ tree_in done t
  get_early done more n t l b = get_or_append_left done more no_tree t.0 (omega (arith, l, b))

  range_left : {X : Type 0} (i n : ℕ) (xs ys : List X) → i + n ≤ length xs → take n (drop i (xs ++ ys)) ≡ take n (drop i xs)
  range_left zero n xs ys l = take_left n xs ys (omega arith)
  range_left (suc i) n [] ys l = let z : n ≡ 0 = omega arith in rw z refl
  range_left (suc i) n (x ∷ xs) ys l = range_left i n xs ys (omega arith)

  range_early : (done more : List Tree) (n : ℕ) (p : Parts) → n ≤ length done → EndBelow n p → trees_in (done ++ more) p ≡ trees_in done p
  range_early done more n p l b = range_left p.first.0 p.count done more (omega (arith, l, b))

  over_early : (done more : List Tree) (n : ℕ) (u : Term) → n ≤ length done → StandsOver n u → tree_over h (done ++ more) u ≡ tree_over h done u
  over_early done more n (term.Slot s) l o = refl
  over_early done more n (term.Const w) l o = refl
  over_early done more n (term.Part t) l o = get_early done more n t l o
  over_early done more n (term.If at test then other) l o = rw (get_early done more n test l o.0, get_early done more n then l o.1, get_early done more n other l o.2) refl
  over_early done more n (term.Let at bound body) l o = rw (range_early done more n bound l o.0, get_early done more n body l o.1) refl
  over_early done more n (term.Mv at parts) l o = rw (range_early done more n parts l o) refl
  over_early done more n (term.MvLet at bound body) l o = rw (get_early done more n bound l o.0, get_early done more n body l o.1) refl
  over_early done more n (term.StobjLet at children producer consumer) l o = rw (get_early done more n producer l o.0, get_early done more n consumer l o.1) refl
  over_early done more n (term.WithLocal at stobj producer body) l o = rw (get_early done more n producer l o.0, get_early done more n body l o.1) refl
  over_early done more n (term.MustBeEqual logic) l o = rw (get_early done more n logic l o) refl
  over_early done more n (term.Call at function actuals) l o = rw (range_early done more n actuals l o) refl

  after_rest : (done : List Tree) (ts : List Term) → (more : List Tree) × (trees_after h done ts ≡ done ++ more)
  after_rest done [] = ([], sym (append-nil done))
  after_rest done (t ∷ ts) =
      let r = after_rest (done ++ tree_over h done t ∷ []) ts in
      (tree_over h done t ∷ r.0, r.1 ∙ append_assoc done (tree_over h done t ∷ []) r.0)

  pub tree_over_table : (ts : List Term) (u : Term) (t : TermId) → IsTable ts → slice_get ts t.0 ≡ Some u → tree_at h ts t ≡ tree_over h (forest h ts) u
  tree_over_table ts u t i e =
      let s = get_split t.0 ts u e in
      let r = after_rest (forest h (take t.0 ts)) (u ∷ drop (suc t.0) ts) in
      let n : length (forest h (take t.0 ts)) ≡ length (take t.0 ts) = forest_length (take t.0 ts) in
      let all : forest h ts ≡ forest h (take t.0 ts) ++ r.0 = ap (forest h) s.0 ∙ (forest_join (take t.0 ts) (u ∷ drop (suc t.0) ts) ∙ r.1) in
      there ts u t e
      ∙ (sym (over_early (forest h (take t.0 ts)) r.0 t.0 u (omega (arith, n, s.1)) (i.over t.0 u e))
      ∙ ap (λ vs. tree_over h vs u) (sym all))

-- ---- words

pub most_push : {X : Type 0} (reach_of : X → ℕ) (xs : List X) (x : X) → most (map reach_of (xs ++ x ∷ [])) ≡ max (most (map reach_of xs)) (reach_of x)
most_push reach_of [] x = omega arith
most_push reach_of (y ∷ xs) x = let e = most_push reach_of xs x in omega (arith, e)

pub lies_put : (h : Objects) (old new : List Term) (t : Term) → new ≡ old ++ t ∷ [] → TermsLie h old → TermLies h t → TermsLie h new
lies_put h old new t e l m = rw e (record { all = omega (arith, l.all, m, most_push term_reach old t) })

pub lies_none : (h : Objects) (old new : List Term) → new ≡ old → TermsLie h old → TermsLie h new
lies_none h old new e l = rw e l

pub reach_at : (ts : List Term) (i : ℕ) (t : Term) → slice_get ts i ≡ Some t → term_reach t ≤ most (map term_reach ts)
reach_at [] i t e = cc
reach_at (u ∷ ts) zero t e = let s : u ≡ t = cc in subst (λ v. term_reach v ≤ max (term_reach u) (most (map term_reach ts))) s (omega arith)
reach_at (u ∷ ts) (suc i) t e = let r = reach_at ts i t e in omega (arith, r)

pub const_lies : (h : Objects) (ts : List Term) (w : Word) (t : TermId) → TermsLie h ts → slice_get ts t.0 ≡ Some (term.Const w) → reach w ≤ length h
const_lies h ts w t l e = let r : reach w ≤ most (map term_reach ts) = reach_at ts t.0 (term.Const w) e in omega (arith, r, l.all)

reach_taken : (n : ℕ) (ts : List Term) → most (map term_reach (take n ts)) ≤ most (map term_reach ts)
reach_taken zero ts = omega arith
reach_taken (suc n) [] = omega arith
reach_taken (suc n) (t ∷ ts) = let r = reach_taken n ts in omega (arith, r)

pub lies_taken : (h : Objects) (n : ℕ) (ts : List Term) → TermsLie h ts → TermsLie h (take n ts)
lies_taken h n ts l = record { all = omega (arith, l.all, reach_taken n ts) }

pub lies_later : (h h' : Objects) (ts : List Term) → Extends h h' → TermsLie h ts → TermsLie h' ts
lies_later h h' ts e l = record { all = omega (arith, l.all, e.longer) }

-- ---- a heap that grows

module _ (h h' : Objects) (e : Extends h h') where
  operand_kept : (o : Operand) → operand_reach o ≤ length h → seen_operand h' o ≡ seen_operand h o
  operand_kept (operand.Slot s) l = refl
  operand_kept (operand.Const w) l = ap trees.Const (e.same w l)

  index_kept : (o : Option Operand) → option_map_or operand_reach o 0 ≤ length h → option_map (seen_operand h') o ≡ option_map (seen_operand h) o
  index_kept None l = refl
  index_kept (Some o) l = ap Some (operand_kept o l)

  child_kept : (c : Child) → child_reach c ≤ length h → seen_child h' c ≡ seen_child h c
  child_kept c l = rw (index_kept c.index (omega (arith, l)), operand_kept c.parent (omega (arith, l))) refl

  children_kept : (cs : List Child) → most (map child_reach cs) ≤ length h → map (seen_child h') cs ≡ map (seen_child h) cs
  children_kept [] l = refl
  children_kept (c ∷ cs) l = rw (child_kept c (omega (arith, l)), children_kept cs (omega (arith, l))) refl

  over_kept : (done : List Tree) (t : Term) → TermLies h t → tree_over h' done t ≡ tree_over h done t
  over_kept done (term.Slot s) l = refl
  over_kept done (term.Const w) l = ap (λ o. trees.Leaf (trees.Const o)) (e.same w l)
  over_kept done (term.Part t) l = refl
  over_kept done (term.If at test then other) l = refl
  over_kept done (term.Let at bound body) l = refl
  over_kept done (term.Mv at parts) l = refl
  over_kept done (term.MvLet at bound body) l = refl
  over_kept done (term.StobjLet at children producer consumer) l = ap (λ cs. trees.StobjLet at cs (tree_in done producer) (tree_in done consumer)) (children_kept children l)
  over_kept done (term.WithLocal at stobj producer body) l = refl
  over_kept done (term.MustBeEqual logic) l = refl
  over_kept done (term.Call at function actuals) l = refl

  after_kept : (done : List Tree) (ts : List Term) → most (map term_reach ts) ≤ length h → trees_after h' done ts ≡ trees_after h done ts
  after_kept done [] l = refl
  after_kept done (t ∷ ts) l =
      ap (λ tree. trees_after h' (done ++ tree ∷ []) ts) (over_kept done t (omega (arith, l)))
      ∙ after_kept (done ++ tree_over h done t ∷ []) ts (omega (arith, l))

pub forest_kept : (h h' : Objects) (ts : List Term) → Extends h h' → TermsLie h ts → forest h' ts ≡ forest h ts
unfolding forest
forest_kept h h' ts e l = after_kept h h' e [] ts l.all
