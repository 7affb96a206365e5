-- Terms that make no object.
use Rattle.std.proofs.Common.{◌≡◌, ℕ, zero, suc, ◌≤◌, List, [], ◌∷◌, length, refl, sym, ◌∙◌, arith}
use Rattle.std.specs.Prelude.{Some, None, slice_get}
use Rattle.acl_base.specs.declared.SymId.{SymId}
use Rattle.acl_base.specs.declared.TermId.{TermId}
use Rattle.acl_code.specs.declared.term.Term.{Term}
use Rattle.acl_code.specs.declared.term.Term.TheVariants as term
use Rattle.acl_machine.specs.Steps.{IsOwn, IsOpenedAlone}

abbrev pub MakesNone : Term → Type 0
MakesNone (term.Slot s) = Unit {0}
MakesNone (term.Const w) = Unit {0}
MakesNone (term.Part t) = Unit {0}
MakesNone (term.If at test held other) = Unit {0}
MakesNone (term.Let at bound body) = Unit {0}
MakesNone (term.Mv at parts) = Unit {0}
MakesNone (term.MvLet at bound body) = Unit {0}
MakesNone (term.StobjLet at children producer consumer) = Unit {0}
MakesNone (term.WithLocal at stobj producer body) = ⊥
MakesNone (term.MustBeEqual logic) = Unit {0}
MakesNone (term.Call at function actuals) = Unit {0}

pub alone_by : (ts : List Term) (n : ℕ) (x : Term) → IsOwn (slice_get ts n) → slice_get ts n ≡ Some x → MakesNone x → IsOpenedAlone (slice_get ts n)
alone_by ts n x own e none = record { own = own.own; alone = λ at stobj producer body f. by_cases x none at stobj producer body (sym e ∙ f) }
  where
    by_cases : (x : Term) → MakesNone x → (at : ℕ) (stobj : SymId) (producer body : TermId) → Some x ≡ Some (term.WithLocal at stobj producer body) → ⊥
    by_cases (term.Slot s) p at stobj producer body f = cc
    by_cases (term.Const w) p at stobj producer body f = cc
    by_cases (term.Part t) p at stobj producer body f = cc
    by_cases (term.If a test held other) p at stobj producer body f = cc
    by_cases (term.Let a bound b) p at stobj producer body f = cc
    by_cases (term.Mv a parts) p at stobj producer body f = cc
    by_cases (term.MvLet a bound b) p at stobj producer body f = cc
    by_cases (term.StobjLet a children c d) p at stobj producer body f = cc
    by_cases (term.WithLocal a x c d) p at stobj producer body f = p
    by_cases (term.MustBeEqual logic) p at stobj producer body f = cc
    by_cases (term.Call a function actuals) p at stobj producer body f = cc

none_past : (ts : List Term) (n : ℕ) → length ts ≤ n → slice_get ts n ≡ None
none_past [] n h = refl
none_past (t ∷ ts) zero h = absurd (omega arith)
none_past (t ∷ ts) (suc n) h = none_past ts n (omega arith)

pub alone_past : (ts : List Term) (n : ℕ) → IsOwn (slice_get ts n) → length ts ≤ n → IsOpenedAlone (slice_get ts n)
alone_past ts n own h = record { own = own.own; alone = λ at stobj producer body f. past at stobj producer body (sym (none_past ts n h) ∙ f) }
  where
    past : (at : ℕ) (stobj : SymId) (producer body : TermId) → None ≡ Some (term.WithLocal at stobj producer body) → ⊥
    past at stobj producer body f = cc
