-- Parts of a table of terms.
use Rattle.std.proofs.Common.{◌≡◌, ℕ, zero, suc, ◌<◌, ◌≤◌, List, [], ◌∷◌, length, refl, sym, ◌∙◌, arith}
use Rattle.std.specs.Prelude.{Some, None, slice_get}
use Rattle.acl_base.specs.declared.SymId.{SymId}
use Rattle.acl_base.specs.declared.TermId.{TermId}
use Rattle.acl_heap.specs.Objects.{Objects}
use Rattle.acl_code.specs.declared.term.Term.{Term}
use Rattle.acl_code.specs.declared.term.Term.TheVariants as term
use Rattle.acl_code.specs.Tables.{tree_at, IsTable}
use Rattle.acl_code.proofs.TableLemmas.{tree_over_table}
use Rattle.acl_machine.specs.Steps.{IsNoPart, IsOwn, IsOpenedAlone}

pub part_tree : (h : Objects) (ts : List Term) (t u : TermId) → IsTable ts → slice_get ts t.0 ≡ Some (term.Part u) → tree_at h ts u ≡ tree_at h ts t
part_tree h ts t u i e = sym (tree_over_table h ts (term.Part u) t i e)

pub part_earlier : (ts : List Term) (t u : TermId) → IsTable ts → slice_get ts t.0 ≡ Some (term.Part u) → u.0 < t.0
part_earlier ts t u i e = i.over t.0 (term.Part u) e

pub own_by : (ts : List Term) (n : ℕ) (x : Term) → slice_get ts n ≡ Some x → IsNoPart x → IsOwn (slice_get ts n)
own_by ts n x e np = record { own = λ u f. by_cases x np u (sym e ∙ f) }
  where
    by_cases : (x : Term) → IsNoPart x → (u : TermId) → Some x ≡ Some (term.Part u) → ⊥
    by_cases (term.Slot s) np u f = cc
    by_cases (term.Const w) np u f = cc
    by_cases (term.Part t) np u f = np
    by_cases (term.If at test held other) np u f = cc
    by_cases (term.Let at bound body) np u f = cc
    by_cases (term.Mv at parts) np u f = cc
    by_cases (term.MvLet at bound body) np u f = cc
    by_cases (term.StobjLet at children producer consumer) np u f = cc
    by_cases (term.WithLocal at stobj producer body) np u f = cc
    by_cases (term.MustBeEqual logic) np u f = cc
    by_cases (term.Call at function actuals) np u f = cc

none_past : (ts : List Term) (n : ℕ) → length ts ≤ n → slice_get ts n ≡ None
none_past [] n h = refl
none_past (t ∷ ts) zero h = absurd (omega arith)
none_past (t ∷ ts) (suc n) h = none_past ts n (omega arith)

pub own_past : (ts : List Term) (n : ℕ) → length ts ≤ n → IsOwn (slice_get ts n)
own_past ts n h = record { own = λ u f. past u (sym (none_past ts n h) ∙ f) }
  where
    past : (u : TermId) → None ≡ Some (term.Part u) → ⊥
    past u f = cc

pub own_part : (ts : List Term) (n : ℕ) (u : TermId) → slice_get ts n ≡ Some (term.Part u) → IsOwn (slice_get ts n) → ⊥
own_part ts n u e own = own.own u e

pub alone_part : (ts : List Term) (n : ℕ) (u : TermId) → slice_get ts n ≡ Some (term.Part u) → IsOpenedAlone (slice_get ts n) → ⊥
alone_part ts n u e own = own.own u e

pub alone_local : (ts : List Term) (n at : ℕ) (stobj : SymId) (x y : TermId) → slice_get ts n ≡ Some (term.WithLocal at stobj x y) → IsOpenedAlone (slice_get ts n) → ⊥
alone_local ts n at stobj x y e own = own.alone at stobj x y e
