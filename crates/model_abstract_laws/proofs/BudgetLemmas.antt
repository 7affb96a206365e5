-- A budget that suffices is as good as a larger one.
use Rattle.std.proofs.Common.{◌≡◌, ℕ, zero, suc, ◌+◌, ◌≤◌, List, [], ◌∷◌, ◌++◌, length, Bool, true, false, Option, Some, None, refl, sym, ap, ◌∙◌, arith, inl, inr}
use Rattle.std.specs.Prelude.{nat_le, if◌then◌else◌}
use Rattle.std.proofs.lemmas.Bool.Decides.{nat_tests}
use Rattle.std.proofs.lemmas.Bool.{cases_lt}
use Rattle.model_prims.specs.Kinds.{by_name, is_nil}
use Rattle.model_terms.specs.Cores.{Core, Cores, Var, Const, If, Let, Mv, MvLet, StobjLet, WithLocal, MustBeEqual, Call, none, more}
use Rattle.model_terms.specs.Worlds.{Definition, definition, Primitive, Defined, Macro, Constant, Concrete, Generated, Abstract, OfAbstract, Named, Signed}
use Rattle.model_logic.specs.Logic.{Theory, Thing, Values, Found, then_found, found, bind, bind_others, element_values, parts_for, Caller, spending, creator_of, logic_loans, with_children, put_loans, with_parent, form_value, form_values, defined_value, logic_of_abstract, call_within, logic_call, logic}
use Rattle.model_abstract_laws.specs.Budgets.{IsSameAtLargerBudgets}

-- the second is the first, where the first is a value
abbrev pub More : Option Found → Option Found → Type 0
More None y = Unit {0}
More (Some f) y = y ≡ Some f

more_same : (x : Option Found) → More x x
more_same None = tt
more_same (Some f) = refl

more_then : (x y : Option Found) (go to : Thing → ℕ → Option Found) → More x y → ((v : Thing) (n : ℕ) → More (go v n) (to v n)) → More (then_found x go) (then_found y to)
more_then None y go to h k = tt
more_then (Some f) y go to h k = rw h (k f.value f.calls)

more_if : (b : Bool) (x y z w : Option Found) → More x z → More y w → More (if b then x else y) (if b then z else w)
more_if true x y z w h k = h
more_if false x y z w h k = k

within_larger : (n k l : ℕ) → k ≤ l → nat_le n k ≡ true → nat_le n l ≡ true
within_larger n k l h e = grind (arith, nat_tests)

module _ (b : Theory) (k l : ℕ) (larger : k ≤ l) where
  more_spending : (n calls : ℕ) (go to : ℕ → Option Found) → ((m : ℕ) → More (go m) (to m)) → More (spending k n calls go) (spending l n calls to)
  more_spending n calls go to h = by_test (nat_le (calls + n) k) refl
    where
      by_test : (q : Bool) → nat_le (calls + n) k ≡ q → More (if q then go (calls + n) else None) (spending l n calls to)
      by_test true e = rw (within_larger (calls + n) k l larger e) (h (calls + n))
      by_test false e = tt

  abbrev pub CallMore : Caller → Caller → Type 0
  CallMore call to = (name : ℕ) (args : List Thing) (n : ℕ) → More (call name args n) (to name args n)

  module _ (call to : Caller) (c : CallMore call to) where
    mutual
      unfolding form_value form_values

      more_form : (form : Core) (values : Values) (n : ℕ) → More (form_value b k call form values n) (form_value b l to form values n)
      more_form (Var x) values n = refl
      more_form (Const o) values n = refl
      more_form (If test p q) values n =
          more_then _ _ _ _ (more_form test values n) (λ v m. more_if (is_nil by_name v) _ _ _ _ (more_form q values m) (more_form p values m))
      more_form (Let names forms body) values n =
          more_forms forms values [] _ _ (λ os m. more_form body (bind names os values) m) n
      more_form (Mv parts) values n = more_forms parts values [] _ _ (λ os m. refl) n
      more_form (MvLet names form body) values n =
          more_then _ _ _ _ (more_form form values n) (λ v m. more_form body (bind names (element_values names 0 v) values) m)
      more_form (StobjLet names forms vars producer consumer) values n =
          let loans = logic_loans b names forms values in
          let put = put_loans vars loans in
          more_spending (length loans) n _ _ (λ m.
          more_then _ _ _ _ (more_form producer (with_children loans values) m) (λ v m.
          more_spending (length put) m _ _ (λ m.
          more_form consumer (bind vars (parts_for vars v) [] ++ with_parent put (bind vars (parts_for vars v) []) values) m)))
      more_form (WithLocal stobj names producer body) values n =
          more_then _ _ _ _ (c (creator_of (definition b.world stobj)) [] n) (λ list m.
          more_then _ _ _ _ (more_form producer ((stobj, list) ∷ values) m) (λ v m.
          more_form body (bind_others stobj names (element_values names 0 v) values) m))
      more_form (MustBeEqual first exec) values n = more_form first values n
      more_form (Call f actuals) values n = more_forms actuals values [] _ _ (c f) n

      more_forms : (forms : Cores) (values : Values) (done : List Thing) (go end : List Thing → ℕ → Option Found) → ((os : List Thing) (n : ℕ) → More (go os n) (end os n)) → (n : ℕ) → More (form_values b k call forms values done go n) (form_values b l to forms values done end n)
      more_forms none values done go end h n = h done n
      more_forms (more form forms) values done go end h n =
          more_then _ _ _ _ (more_form form values n) (λ v m. more_forms forms values (done ++ v ∷ []) go end h m)

    more_defined : (go end : ℕ → List Thing → ℕ → Option Found) → ((name : ℕ) (args : List Thing) (n : ℕ) → More (go name args n) (end name args n)) → (d : Option Definition) (args : List Thing) (n : ℕ) → More (defined_value b k call go d args n) (defined_value b l to end d args n)
    more_defined go end h None args n = tt
    more_defined go end h (Some (Primitive name row)) args n = refl
    more_defined go end h (Some (Defined f)) args n = more_form f.body (bind f.formals args []) n
    more_defined go end h (Some (Macro name formals body)) args n = tt
    more_defined go end h (Some (Constant name value)) args n = tt
    more_defined go end h (Some (Concrete d class)) args n = tt
    more_defined go end h (Some (Generated g)) args n = refl
    more_defined go end h (Some (Abstract d)) args n = tt
    more_defined go end h (Some (OfAbstract f)) args n = h f.logic args n
    more_defined go end h (Some (Named name formals)) args n = tt
    more_defined go end h (Some (Signed name formals signature executable)) args n = tt

    more_abstract : (name : ℕ) (args : List Thing) (n : ℕ) → More (logic_of_abstract b k call name args n) (logic_of_abstract b l to name args n)
    more_abstract name args n = more_defined _ _ (λ logic os m. tt) (definition b.world name) args n

  pub more_call : (n m : ℕ) → n ≤ m → CallMore (call_within b k n) (call_within b l m)
  unfolding call_within
  more_call zero m h name args calls = tt
  more_call (suc n) zero h name args calls = absurd (omega arith)
  more_call (suc n) (suc m) h name args calls =
      more_spending 1 calls _ _
      (more_defined (call_within b k n) (call_within b l m) (more_call n m (omega arith)) _ _ (more_abstract (call_within b k n) (call_within b l m) (more_call n m (omega arith))) (definition b.world name) args)

  more_logic : (form : Core) (values : Values) → More (logic b k form values) (logic b l form values)
  more_logic form values = more_form (logic_call b k) (logic_call b l) (more_call k l larger) form values 0

from_more : (x y : Option Found) (f : Found) → More x y → x ≡ Some f → y ≡ Some f
from_more None y f h e = cc
from_more (Some g) y f h e = h ∙ e

same_form : (b : Theory) (k l : ℕ) (form : Core) (values : Values) (f : Found) → k ≤ l → logic b k form values ≡ Some f → logic b l form values ≡ Some f
same_form b k l form values f h e = from_more _ _ f (more_logic b k l h form values) e

same_call : (b : Theory) (k l name : ℕ) (args : List Thing) (calls : ℕ) (f : Found) → k ≤ l → logic_call b k name args calls ≡ Some f → logic_call b l name args calls ≡ Some f
same_call b k l name args calls f h e = from_more _ _ f (more_call b k l h k l h name args calls) e

same_value : (u v : Thing) (m n : ℕ) → found u m ≡ found v n → u ≡ v
same_value u v m n e = ap value_or e
  where
    value_or : Option Found → Thing
    value_or None = u
    value_or (Some f) = f.value

-- of two budgets the larger gives both values
one_value : (go : ℕ → Option Found) → ((k l : ℕ) (f : Found) → k ≤ l → go k ≡ Some f → go l ≡ Some f) → (u v : Thing) → (k : ℕ) × (n : ℕ) × (go k ≡ found u n) → (k : ℕ) × (n : ℕ) × (go k ≡ found v n) → u ≡ v
one_value go same u v x y = elim (cases_lt x.0 y.0) [
  | inl h ↦ same_value u v x.1 y.1 (sym (same x.0 y.0 _ (omega (arith, h)) x.2) ∙ y.2)
  | inr h ↦ same_value u v x.1 y.1 (sym x.2 ∙ same y.0 x.0 _ h y.2)
]

pub is_same_at_larger_budgets : IsSameAtLargerBudgets
is_same_at_larger_budgets = record {
  form = same_form;
  call = same_call;
  one = λ b form values. one_value (λ k. logic b k form values) (λ k l f. same_form b k l form values f);
  one_call = λ b name args. one_value (λ k. logic_call b k name args 0) (λ k l f. same_call b k l name args 0 f);
}
