-- Calls that are entered and left.
use Rattle.std.specs.Prelude.{◌≡◌, ℕ, suc, ◌<◌, List, [], ◌∷◌, ◌++◌, length, drop, Option, Some, None, slice_get, refl}
use Rattle.std.proofs.Common.{sym, ap, ◌∙◌, arith, inl, inr}
use Rattle.model_eval.specs.Outcomes.{Stobjs}
use Rattle.model_eval.specs.Variables.{list_of, with_list, inner_stobjs, handed_back, first_stobj}
use Rattle.acl_base.specs.declared.SymId.{SymId}
use Rattle.acl_base.specs.declared.Word.{Word}
use Rattle.acl_heap.specs.Objects.{Objects}
use Rattle.acl_terms.specs.Forms.{numbers}
use Rattle.acl_terms.specs.declared.outcome.Shown.{Shown}
use Rattle.acl_terms.specs.declared.outcome.Shown.TheVariants as shown
use Rattle.acl_keep.specs.Seen.{all_seen}
use Rattle.acl_lists.specs.declared.cell.ListId.{ListId}
use Rattle.acl_lists.specs.declared.cell.Cell.{Cell}
use Rattle.acl_lists.specs.Pairs.{Within}
use Rattle.acl_list_scope.specs.declared.binding.Binding.{Binding}
use Rattle.acl_list_parts.specs.Parts.{list_given}
use Rattle.acl_list_scope.specs.Scopes.{scope, AreWithin, IsOver, IsBack, IsShort}
use Rattle.acl_list_scope.proofs.ScopeLemmas.{get_here, scope_push, within_push, within_none, scope_empty, drop_all}

no_formals : (h : Objects) (vs : List Shown) (os : Stobjs ℕ) → [] ≡ inner_stobjs [] (all_seen h vs) os
no_formals h vs os = refl

no_actuals : (xs : List ℕ) (os : Stobjs ℕ) → [] ≡ inner_stobjs xs [] os
no_actuals [] os = refl
no_actuals (x ∷ xs) os = refl

same_actuals : (xs : List ℕ) (inner os : Stobjs ℕ) → handed_back xs [] inner os ≡ os
same_actuals [] inner os = refl
same_actuals (x ∷ xs) inner os = refl

pub fewer_formals : (m n least : ℕ) → m < n → least ≡ m → IsShort m n least
fewer_formals m n least l e = record { first = omega (arith, e); second = omega (arith, e, l); one = inl (omega (arith, e)) }

pub fewer_actuals : (m n least : ℕ) → (m < n → ⊥) → least ≡ n → IsShort m n least
fewer_actuals m n least l e = record { first = omega (arith, e, l); second = omega (arith, e); one = inr (omega (arith, e)) }

pub over_start : (outer : List Binding) (xs : List SymId) (vs : List Shown) (n : ℕ) → IsShort (length xs) (length vs) n → IsOver outer xs vs [] n
over_start outer xs vs n s = record {
  is = λ cs h. scope_empty cs ∙ elim s.one [
    | inl a ↦ sym (ap (λ ys. inner_stobjs (numbers ys) (all_seen h (drop n vs)) (scope cs outer)) (drop_all n xs a))
    | inr b ↦ sym (ap (λ ws. inner_stobjs (numbers (drop n xs)) (all_seen h ws) (scope cs outer)) (drop_all n vs b) ∙ sym (no_actuals (numbers (drop n xs)) (scope cs outer)))
  ];
  within = λ cs w. within_none cs;
}

pub over_plain : (outer made : List Binding) (xs : List SymId) (vs : List Shown) (n at : ℕ) (x : SymId) (v : Word) → n ≡ suc at → slice_get xs at ≡ Some x → slice_get vs at ≡ Some (shown.Value v)
    → IsOver outer xs vs made n → IsOver outer xs vs made at
over_plain outer made xs vs n at x v e f a i = record {
  is = λ cs h. i.is cs h
      ∙ (ap (λ k. inner_stobjs (numbers (drop k xs)) (all_seen h (drop k vs)) (scope cs outer)) e
      ∙ (sym (ap (λ ys. inner_stobjs (numbers ys) (all_seen h (shown.Value v ∷ drop (suc at) vs)) (scope cs outer)) (get_here xs at x f))
      ∙ ap (λ ws. inner_stobjs (numbers (drop at xs)) (all_seen h ws) (scope cs outer)) (sym (get_here vs at (shown.Value v) a))));
  within = i.within;
}

pub over_object : (outer made more : List Binding) (xs : List SymId) (vs : List Shown) (n at : ℕ) (x y : SymId) (b : Binding) → n ≡ suc at → slice_get xs at ≡ Some x → slice_get vs at ≡ Some (shown.Object y)
    → b.variable ≡ x → ((cs : List Cell) → list_given cs b.list ≡ list_of (scope cs outer) y.0) → ((cs : List Cell) → AreWithin cs outer → Within cs b.list) → more ≡ made ++ b ∷ []
    → IsOver outer xs vs made n → IsOver outer xs vs more at
over_object outer made more xs vs n at x y b e f a named-x given within m i = record {
  is = λ cs h. scope_push cs made more b m
      ∙ (ap (λ l. (b.variable.0, l) ∷ scope cs made) (given cs)
      ∙ (ap (λ (z : SymId). (z.0, list_of (scope cs outer) y.0) ∷ scope cs made) named-x
      ∙ (ap (λ os. (x.0, list_of (scope cs outer) y.0) ∷ os) (i.is cs h ∙ ap (λ k. inner_stobjs (numbers (drop k xs)) (all_seen h (drop k vs)) (scope cs outer)) e)
      ∙ (sym (ap (λ ys. inner_stobjs (numbers ys) (all_seen h (shown.Object y ∷ drop (suc at) vs)) (scope cs outer)) (get_here xs at x f))
      ∙ ap (λ ws. inner_stobjs (numbers (drop at xs)) (all_seen h ws) (scope cs outer)) (sym (get_here vs at (shown.Object y) a))))));
  within = λ cs w. within_push cs made more b (i.within cs w) (within cs w) m;
}

-- ---- back

pub back_start : (old inner : List Binding) (xs : List SymId) (vs : List Shown) → IsBack old old inner xs vs 0
back_start old inner xs vs = record { is = λ cs h. refl; within = λ cs v w. w }

pub back_plain : (old now inner : List Binding) (xs : List SymId) (vs : List Shown) (at : ℕ) (x : SymId) (v : Word) → slice_get xs at ≡ Some x → slice_get vs at ≡ Some (shown.Value v)
    → IsBack old now inner xs vs at → IsBack old now inner xs vs (suc at)
back_plain old now inner xs vs at x v f a i = record {
  is = λ cs h. sym (ap (λ ws. handed_back (numbers (drop at xs)) (all_seen h ws) (scope cs inner) (scope cs now)) (get_here vs at (shown.Value v) a)
      ∙ ap (λ ys. handed_back (numbers ys) (all_seen h (shown.Value v ∷ drop (suc at) vs)) (scope cs inner) (scope cs now)) (get_here xs at x f)) ∙ i.is cs h;
  within = i.within;
}

pub back_object : (old now new inner : List Binding) (xs : List SymId) (vs : List Shown) (at : ℕ) (x y : SymId) (l : Option ListId) → slice_get xs at ≡ Some x → slice_get vs at ≡ Some (shown.Object y)
    → ((cs : List Cell) → list_given cs l ≡ list_of (scope cs inner) x.0) → ((cs : List Cell) → AreWithin cs inner → Within cs l)
    → ((cs : List Cell) → scope cs new ≡ with_list y.0 (list_given cs l) (scope cs now)) → ((cs : List Cell) → AreWithin cs now → Within cs l → AreWithin cs new)
    → IsBack old now inner xs vs at → IsBack old new inner xs vs (suc at)
back_object old now new inner xs vs at x y l f a given within writes stays i = record {
  is = λ cs h. ap (λ os. handed_back (numbers (drop (suc at) xs)) (all_seen h (drop (suc at) vs)) (scope cs inner) os) (writes cs ∙ ap (λ k. with_list y.0 k (scope cs now)) (given cs))
      ∙ (sym (ap (λ ws. handed_back (numbers (drop at xs)) (all_seen h ws) (scope cs inner) (scope cs now)) (get_here vs at (shown.Object y) a)
      ∙ ap (λ ys. handed_back (numbers ys) (all_seen h (shown.Object y ∷ drop (suc at) vs)) (scope cs inner) (scope cs now)) (get_here xs at x f)) ∙ i.is cs h);
  within = λ cs v w. stays cs (i.within cs v w) (within cs v);
}

pub back_whole : (old now inner : List Binding) (xs : List SymId) (vs : List Shown) (n : ℕ) (cs : List Cell) (h : Objects) → IsShort (length xs) (length vs) n → IsBack old now inner xs vs n
    → scope cs now ≡ handed_back (numbers xs) (all_seen h vs) (scope cs inner) (scope cs old)
back_whole old now inner xs vs n cs h s i = elim s.one [
  | inl a ↦ sym (ap (λ ys. handed_back (numbers ys) (all_seen h (drop n vs)) (scope cs inner) (scope cs now)) (drop_all n xs a)) ∙ i.is cs h
  | inr b ↦ sym (ap (λ ws. handed_back (numbers (drop n xs)) (all_seen h ws) (scope cs inner) (scope cs now)) (drop_all n vs b) ∙ same_actuals (numbers (drop n xs)) (scope cs inner) (scope cs now)) ∙ i.is cs h
]

-- ---- the first object

pub first_none : (h : Objects) (vs : List Shown) → first_stobj (all_seen h (drop (length vs) vs)) ≡ None
first_none h [] = refl
first_none h (v ∷ vs) = first_none h vs

pub first_more : (h : Objects) (vs : List Shown) (i : ℕ) (w : Word) → slice_get vs i ≡ Some (shown.Value w) → first_stobj (all_seen h (drop i vs)) ≡ first_stobj (all_seen h (drop (suc i) vs))
first_more h vs i w a = ap (λ ws. first_stobj (all_seen h ws)) (get_here vs i (shown.Value w) a)

pub first_here : (h : Objects) (vs : List Shown) (i : ℕ) (x : SymId) → slice_get vs i ≡ Some (shown.Object x) → first_stobj (all_seen h (drop i vs)) ≡ Some x.0
first_here h vs i x a = ap (λ ws. first_stobj (all_seen h ws)) (get_here vs i (shown.Object x) a)
