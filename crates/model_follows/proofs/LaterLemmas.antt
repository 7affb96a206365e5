-- A value of the logic that some budget gives costs as many calls from any start, within any budget that has room for them.
use Rattle.std.proofs.Common.{◌≡◌, ℕ, zero, suc, ◌+◌, ◌≤◌, List, [], ◌∷◌, ◌++◌, length, Bool, true, false, Option, Some, None, refl, sym, ap, ◌∙◌, subst, arith}
use Rattle.std.specs.Prelude.{nat_le, if◌then◌else◌}
use Rattle.std.proofs.lemmas.Bool.Decides.{nat_tests}
use Rattle.model_prims.specs.Kinds.{by_name, is_nil}
use Rattle.model_terms.specs.Cores.{Core, Cores, Var, Const, If, Let, Mv, MvLet, StobjLet, WithLocal, MustBeEqual, Call, none, more}
use Rattle.model_terms.specs.Worlds.{Definition, definition, Primitive, Defined, Macro, Constant, Concrete, Generated, Abstract, OfAbstract, Named, Signed}
use Rattle.model_logic.specs.Logic.{Theory, Thing, Values, Found, then_found, found, bind, bind_others, element_values, parts_for, Caller, spending, creator_of, logic_loans, with_children, put_loans, with_parent, form_value, form_values, defined_value, logic_of_abstract, call_within, logic_call, EndsWith, CallEndsWith}
use Rattle.model_follows.specs.CostLaw.{CallsCost, FormsCost}
use Rattle.model_follows.specs.Costs.{caller, form_counted, Ends}

within : (m n : ℕ) → m ≤ n → nat_le m n ≡ true
within m n l = grind (arith, nat_tests)

module _ (b : Theory) (k l j : ℕ) where
  -- what the first gives from a start the second gives j calls later, where its budget and its depth have room
  abbrev Later : ℕ → ℕ → Option Found → Option Found → Type 0
  Later m start None y = Unit {0}
  Later m start (Some f) y = (start ≤ f.calls) × (f.calls + j ≤ l → f.calls ≤ start + m → y ≡ found f.value (f.calls + j))

  later_now : (m start : ℕ) (v : Thing) → Later m start (found v start) (found v (start + j))
  later_now m start v = (omega arith, λ r d. refl)

  later_then : (m start : ℕ) (x y : Option Found) (go to : Thing → ℕ → Option Found) → Later m start x y → ((v : Thing) (n : ℕ) → Later m n (go v n) (to v (n + j))) → Later m start (then_found x go) (then_found y to)
  later_then m start None y go to h g = tt
  later_then m start (Some f) y go to h g = by_rest (go f.value f.calls) (g f.value f.calls)
    where
      by_rest : (z : Option Found) → Later m f.calls z (to f.value (f.calls + j)) → Later m start z (then_found y to)
      by_rest None i = tt
      by_rest (Some e) i =
          let first : start ≤ f.calls = h.0 in
          let second : f.calls ≤ e.calls = i.0 in (
            omega (arith, first, second),
            λ r d. rw (h.1 (omega (arith, r, second)) (omega (arith, d, second))) (i.1 r (omega (arith, d, first))),
          )

  later_if : (m start : ℕ) (q : Bool) (x y z w : Option Found) → Later m start x z → Later m start y w → Later m start (if q then x else y) (if q then z else w)
  later_if m start true x y z w h g = h
  later_if m start false x y z w h g = g

  -- the depth grows by as many as are spent at a call
  later_spending : (m deeper n calls : ℕ) (go to : ℕ → Option Found) → deeper ≤ n → ((c : ℕ) → Later m c (go c) (to (c + j))) → Later (m + deeper) calls (spending k n calls go) (spending l n (calls + j) to)
  later_spending m deeper n calls go to e h = by_test (nat_le (calls + n) k) (go (calls + n)) (h (calls + n))
    where
      same : calls + n + j ≡ calls + j + n
      same = omega arith

      by_test : (q : Bool) (x : Option Found) → Later m (calls + n) x (to (calls + n + j)) → Later (m + deeper) calls (if q then x else None) (spending l n (calls + j) to)
      by_test false x i = tt
      by_test true None i = tt
      by_test true (Some f) i =
          let spent : calls + n ≤ f.calls = i.0 in (
            omega (arith, spent),
            λ r d. rw (within (calls + j + n) l (omega (arith, spent, r)))
                (ap to (sym same) ∙ i.1 r (omega (arith, d, e))),
          )

  later_less : (m n start : ℕ) (x y : Option Found) → m ≡ n → Later m start x y → Later n start x y
  later_less m n start x y e h = subst (λ (z : ℕ). Later z start x y) e h

  abbrev CallLater : ℕ → Caller → Caller → Type 0
  CallLater m call to = (name : ℕ) (args : List Thing) (n : ℕ) → Later m n (call name args n) (to name args (n + j))

  module _ (m : ℕ) (call to : Caller) (c : CallLater m call to) where
    later_pay : (n calls : ℕ) (go end : ℕ → Option Found) → ((z : ℕ) → Later m z (go z) (end (z + j))) → Later m calls (spending k n calls go) (spending l n (calls + j) end)
    later_pay n calls go end h = later_less (m + 0) m calls (spending k n calls go) (spending l n (calls + j) end) (omega arith) (later_spending m 0 n calls go end (omega arith) h)

    mutual
      unfolding form_value form_values

      later_form : (form : Core) (values : Values) (n : ℕ) → Later m n (form_value b k call form values n) (form_value b l to form values (n + j))
      later_form (Var x) values n = later_now m n _
      later_form (Const o) values n = later_now m n _
      later_form (If test p q) values n =
          later_then m n _ _ _ _ (later_form test values n) (λ v z. later_if m z (is_nil by_name v) _ _ _ _ (later_form q values z) (later_form p values z))
      later_form (Let names forms body) values n =
          later_forms forms values [] _ _ (λ os z. later_form body (bind names os values) z) n
      later_form (Mv parts) values n = later_forms parts values [] _ _ (λ os z. later_now m z _) n
      later_form (MvLet names form body) values n =
          later_then m n _ _ _ _ (later_form form values n) (λ v z. later_form body (bind names (element_values names 0 v) values) z)
      later_form (StobjLet names forms vars producer consumer) values n =
          let loans = logic_loans b names forms values in
          let put = put_loans vars loans in
          let last : (Thing → ℕ → Option Found) = λ v x. form_value b l to consumer (bind vars (parts_for vars v) [] ++ with_parent put (bind vars (parts_for vars v) []) values) x in
          later_pay (length loans) n _ (λ x. then_found (form_value b l to producer (with_children loans values) x) (λ v y. spending l (length put) y (last v))) (λ z.
          later_then m z _ _ _ (λ v y. spending l (length put) y (last v)) (later_form producer (with_children loans values) z) (λ v y.
          later_pay (length put) y _ (last v) (λ x.
          later_form consumer (bind vars (parts_for vars v) [] ++ with_parent put (bind vars (parts_for vars v) []) values) x)))
      later_form (WithLocal stobj names producer body) values n =
          later_then m n _ _ _ _ (c (creator_of (definition b.world stobj)) [] n) (λ list z.
          later_then m z _ _ _ _ (later_form producer ((stobj, list) ∷ values) z) (λ v y.
          later_form body (bind_others stobj names (element_values names 0 v) values) y))
      later_form (MustBeEqual first exec) values n = later_form first values n
      later_form (Call f actuals) values n = later_forms actuals values [] _ _ (c f) n

      later_forms : (forms : Cores) (values : Values) (done : List Thing) (go end : List Thing → ℕ → Option Found) → ((os : List Thing) (n : ℕ) → Later m n (go os n) (end os (n + j))) → (n : ℕ)
          → Later m n (form_values b k call forms values done go n) (form_values b l to forms values done end (n + j))
      later_forms none values done go end h n = h done n
      later_forms (more form forms) values done go end h n =
          later_then m n _ _ _ _ (later_form form values n) (λ v z. later_forms forms values (done ++ v ∷ []) go end h z)

    later_defined : (go end : ℕ → List Thing → ℕ → Option Found) → ((name : ℕ) (args : List Thing) (n : ℕ) → Later m n (go name args n) (end name args (n + j))) → (d : Option Definition) (args : List Thing) (n : ℕ)
        → Later m n (defined_value b k call go d args n) (defined_value b l to end d args (n + j))
    later_defined go end h None args n = tt
    later_defined go end h (Some (Primitive name row)) args n = later_now m n _
    later_defined go end h (Some (Defined f)) args n = later_form f.body (bind f.formals args []) n
    later_defined go end h (Some (Macro name formals body)) args n = tt
    later_defined go end h (Some (Constant name value)) args n = tt
    later_defined go end h (Some (Concrete d class)) args n = tt
    later_defined go end h (Some (Generated g)) args n = later_now m n _
    later_defined go end h (Some (Abstract d)) args n = tt
    later_defined go end h (Some (OfAbstract f)) args n = h f.logic args n
    later_defined go end h (Some (Named name formals)) args n = tt
    later_defined go end h (Some (Signed name formals signature executable)) args n = tt

    later_abstract : (name : ℕ) (args : List Thing) (n : ℕ) → Later m n (logic_of_abstract b k call name args n) (logic_of_abstract b l to name args (n + j))
    later_abstract name args n = later_defined _ _ (λ logic os z. tt) (definition b.world name) args n

  -- what costs a call does not come from none
  none_left : (n calls : ℕ) (go to : ℕ → Option Found) (y : Option Found) → ((c : ℕ) → Later n c (go c) (to (c + j))) → Later 0 calls (spending k 1 calls go) y
  none_left n calls go to y h = by_test (nat_le (calls + 1) k) (go (calls + 1)) (h (calls + 1))
    where
      by_test : (q : Bool) (x : Option Found) → Later n (calls + 1) x (to (calls + 1 + j)) → Later 0 calls (if q then x else None) y
      by_test false x i = tt
      by_test true None i = tt
      by_test true (Some f) i = let spent : calls + 1 ≤ f.calls = i.0 in (omega (arith, spent), λ r d. absurd (omega (arith, spent, d)))

  later_call : (n m : ℕ) → CallLater m (call_within b k n) (call_within b l m)
  unfolding call_within
  later_call zero m name args calls = tt
  later_call (suc n) zero name args calls =
      none_left 0 calls _ (defined_value b l (call_within b l zero) (logic_of_abstract b l (call_within b l zero)) (definition b.world name) args) None
      (later_defined 0 (call_within b k n) (call_within b l zero) (later_call n zero) _ (logic_of_abstract b l (call_within b l zero)) (later_abstract 0 (call_within b k n) (call_within b l zero) (later_call n zero)) (definition b.world name) args)
  later_call (suc n) (suc m) name args calls =
      later_less (m + 1) (suc m) calls _ _ (omega arith)
      (later_spending m 1 1 calls _ (defined_value b l (call_within b l m) (logic_of_abstract b l (call_within b l m)) (definition b.world name) args) (omega arith)
      (later_defined m (call_within b k n) (call_within b l m) (later_call n m) _ (logic_of_abstract b l (call_within b l m)) (later_abstract m (call_within b k n) (call_within b l m) (later_call n m)) (definition b.world name) args))

-- from a value that some budget gives to what it costs
pub call_costs : (b : Theory) (name : ℕ) (args : List Thing) (v : Thing) → CallEndsWith b name args v → Ends (λ budget nest start. caller b budget nest name args start) v
call_costs b name args v h = (h.1, record { gives = λ budget nest start r d. gives budget nest start r d (logic_call b h.0 name args 0) refl (later_call b h.0 budget start h.0 nest name args 0) })
  where
    gives : (budget nest start : ℕ) → start + h.1 ≤ budget → h.1 ≤ nest → (x : Option Found) → logic_call b h.0 name args 0 ≡ x → Later b h.0 budget start nest 0 x (call_within b budget nest name args (0 + start)) → call_within b budget nest name args start ≡ found v (start + h.1)
    gives budget nest start r d None e i = none_found (sym h.2 ∙ e)
      where
        none_found : found v h.1 ≡ None → call_within b budget nest name args start ≡ found v (start + h.1)
        none_found g = cc
    gives budget nest start r d (Some f) e i =
        let same : (f.value ≡ v) × (f.calls ≡ h.1) = fields (sym e ∙ h.2) in
        let from : 0 + start ≡ start = omega arith in
        ap (call_within b budget nest name args) (sym from)
        ∙ (i.1 (omega (arith, same.1, r)) (omega (arith, same.1, d)) ∙ (ap (λ (z : Thing). found z (f.calls + start)) same.0 ∙ ap (λ (z : ℕ). found v z) (omega (arith, same.1))))
      where
        fields : Some f ≡ found v h.1 → (f.value ≡ v) × (f.calls ≡ h.1)
        fields g = (ap value_or g, ap calls_or g)
          where
            value_or : Option Found → Thing
            value_or None = v
            value_or (Some z) = z.value

            calls_or : Option Found → ℕ
            calls_or None = h.1
            calls_or (Some z) = z.calls

-- the same of a form
pub form_costs : (b : Theory) (form : Core) (values : Values) (v : Thing) → EndsWith b form values v → Ends (form_counted b form values) v
form_costs b form values v h = (
  h.1,
  record {
    gives = λ budget nest start r d.
        gives budget nest start r d (form_value b h.0 (call_within b h.0 h.0) form values 0) refl
        (later_form b h.0 budget start nest (call_within b h.0 h.0) (call_within b budget nest) (later_call b h.0 budget start h.0 nest) form values 0);
  },
)
  where
    gives : (budget nest start : ℕ) → start + h.1 ≤ budget → h.1 ≤ nest → (x : Option Found) → form_value b h.0 (call_within b h.0 h.0) form values 0 ≡ x
        → Later b h.0 budget start nest 0 x (form_value b budget (call_within b budget nest) form values (0 + start)) → form_value b budget (call_within b budget nest) form values start ≡ found v (start + h.1)
    gives budget nest start r d None e i = none_found (sym h.2 ∙ e)
      where
        none_found : found v h.1 ≡ None → form_value b budget (call_within b budget nest) form values start ≡ found v (start + h.1)
        none_found g = cc
    gives budget nest start r d (Some f) e i =
        let same : (f.value ≡ v) × (f.calls ≡ h.1) = fields (sym e ∙ h.2) in
        let from : 0 + start ≡ start = omega arith in
        ap (form_value b budget (call_within b budget nest) form values) (sym from)
        ∙ (i.1 (omega (arith, same.1, r)) (omega (arith, same.1, d)) ∙ (ap (λ (z : Thing). found z (f.calls + start)) same.0 ∙ ap (λ (z : ℕ). found v z) (omega (arith, same.1))))
      where
        fields : Some f ≡ found v h.1 → (f.value ≡ v) × (f.calls ≡ h.1)
        fields g = (ap value_or g, ap calls_or g)
          where
            value_or : Option Found → Thing
            value_or None = v
            value_or (Some z) = z.value

            calls_or : Option Found → ℕ
            calls_or None = h.1
            calls_or (Some z) = z.calls

pub forms_cost : FormsCost
forms_cost = record { costs = form_costs }

pub calls_cost : CallsCost
calls_cost = record { costs = call_costs }
