-- A value that a call has within some evaluation of the logic it has alone.
use Rattle.std.proofs.Common.{◌≡◌, ℕ, zero, suc, ◌+◌, ◌-◌, ◌≤◌, List, [], ◌∷◌, ◌++◌, length, Bool, true, false, Option, Some, None, refl, sym, ap, ◌∙◌, subst, arith}
use Rattle.std.specs.Prelude.{nat_le, if◌then◌else◌}
use Rattle.std.proofs.lemmas.Bool.Decides.{nat_tests}
use Rattle.model_prims.specs.Kinds.{by_name, is_nil}
use Rattle.model_terms.specs.Cores.{Core, Cores, Var, Const, If, Let, Mv, MvLet, StobjLet, WithLocal, MustBeEqual, Call, none, more}
use Rattle.model_terms.specs.Worlds.{Definition, FunctionOfAbstract, definition, Primitive, Defined, Macro, Constant, Concrete, Generated, Abstract, OfAbstract, Named, Signed}
use Rattle.model_logic.specs.Logic.{Theory, Thing, Values, Found, then_found, found, bind, bind_others, element_values, parts_for, Caller, spending, creator_of, logic_loans, with_children, put_loans, with_parent, form_value, form_values, defined_value, logic_of_abstract, call_within, EndsWith, CallEndsWith}
use Rattle.model_follows.specs.Costs.{Counted, Costs, caller, Ends}
use Rattle.model_follows.specs.CostLaw.{CallsEnd}

within : (m n : ℕ) → m ≤ n → nat_le m n ≡ true
within m n l = grind (arith, nat_tests)

module _ (b : Theory) (k l j : ℕ) where
  -- what the first gives j calls later the second gives from this start, where its budget and its depth have room
  abbrev Earlier : ℕ → ℕ → Option Found → Option Found → Type 0
  Earlier m start None y = Unit {0}
  Earlier m start (Some f) y = (start + j ≤ f.calls) × (f.calls ≤ l + j → f.calls ≤ start + j + m → y ≡ found f.value (f.calls - j))

  earlier_now : (m start : ℕ) (v : Thing) → Earlier m start (found v (start + j)) (found v start)
  earlier_now m start v = (omega arith, λ r d. ap (λ (n : ℕ). found v n) (omega arith))

  earlier_then : (m start : ℕ) (x y : Option Found) (go to : Thing → ℕ → Option Found) → Earlier m start x y → ((v : Thing) (n : ℕ) → Earlier m n (go v (n + j)) (to v n)) → Earlier m start (then_found x go) (then_found y to)
  earlier_then m start None y go to h g = tt
  earlier_then m start (Some f) y go to h g =
      let enough : start + j ≤ f.calls = h.0 in
      let back : f.calls - j + j ≡ f.calls = omega (arith, enough) in
      by_rest (go f.value f.calls) (subst (λ (z : ℕ). Earlier m (f.calls - j) (go f.value z) (to f.value (f.calls - j))) back (g f.value (f.calls - j)))
    where
      by_rest : (z : Option Found) → Earlier m (f.calls - j) z (to f.value (f.calls - j)) → Earlier m start z (then_found y to)
      by_rest None i = tt
      by_rest (Some e) i =
          let first : start + j ≤ f.calls = h.0 in
          let second : f.calls - j + j ≤ e.calls = i.0 in (
            omega (arith, first, second),
            λ r d. rw (h.1 (omega (arith, r, first, second)) (omega (arith, d, first, second))) (i.1 r (omega (arith, d, first))),
          )

  earlier_if : (m start : ℕ) (q : Bool) (x y z w : Option Found) → Earlier m start x z → Earlier m start y w → Earlier m start (if q then x else y) (if q then z else w)
  earlier_if m start true x y z w h g = h
  earlier_if m start false x y z w h g = g

  earlier_spending : (m deeper n calls : ℕ) (go to : ℕ → Option Found) → deeper ≤ n → ((c : ℕ) → Earlier m c (go (c + j)) (to c)) → Earlier (m + deeper) calls (spending k n (calls + j) go) (spending l n calls to)
  earlier_spending m deeper n calls go to e h =
      let same : calls + n + j ≡ calls + j + n = omega arith in
      by_test (nat_le (calls + j + n) k) (go (calls + j + n)) (subst (λ (z : ℕ). Earlier m (calls + n) (go z) (to (calls + n))) same (h (calls + n)))
    where
      by_test : (q : Bool) (x : Option Found) → Earlier m (calls + n) x (to (calls + n)) → Earlier (m + deeper) calls (if q then x else None) (spending l n calls to)
      by_test false x i = tt
      by_test true None i = tt
      by_test true (Some f) i =
          let spent : calls + n + j ≤ f.calls = i.0 in (
            omega (arith, spent),
            λ r d. rw (within (calls + n) l (omega (arith, spent, r))) (i.1 r (omega (arith, d, e))),
          )

  earlier_less : (m n start : ℕ) (x y : Option Found) → m ≡ n → Earlier m start x y → Earlier n start x y
  earlier_less m n start x y e h = subst (λ (z : ℕ). Earlier z start x y) e h

  abbrev CallEarlier : ℕ → Caller → Caller → Type 0
  CallEarlier m call to = (name : ℕ) (args : List Thing) (n : ℕ) → Earlier m n (call name args (n + j)) (to name args n)

  module _ (m : ℕ) (call to : Caller) (c : CallEarlier m call to) where
    earlier_pay : (n calls : ℕ) (go end : ℕ → Option Found) → ((z : ℕ) → Earlier m z (go (z + j)) (end z)) → Earlier m calls (spending k n (calls + j) go) (spending l n calls end)
    earlier_pay n calls go end h = earlier_less (m + 0) m calls (spending k n (calls + j) go) (spending l n calls end) (omega arith) (earlier_spending m 0 n calls go end (omega arith) h)

    mutual
      unfolding form_value form_values

      earlier_form : (form : Core) (values : Values) (n : ℕ) → Earlier m n (form_value b k call form values (n + j)) (form_value b l to form values n)
      earlier_form (Var x) values n = earlier_now m n _
      earlier_form (Const o) values n = earlier_now m n _
      earlier_form (If test p q) values n =
          earlier_then m n _ _ _ _ (earlier_form test values n) (λ v z. earlier_if m z (is_nil by_name v) _ _ _ _ (earlier_form q values z) (earlier_form p values z))
      earlier_form (Let names forms body) values n =
          earlier_forms forms values [] _ _ (λ os z. earlier_form body (bind names os values) z) n
      earlier_form (Mv parts) values n = earlier_forms parts values [] _ _ (λ os z. earlier_now m z _) n
      earlier_form (MvLet names form body) values n =
          earlier_then m n _ _ _ _ (earlier_form form values n) (λ v z. earlier_form body (bind names (element_values names 0 v) values) z)
      earlier_form (StobjLet names forms vars producer consumer) values n =
          let loans = logic_loans b names forms values in
          let put = put_loans vars loans in
          let last : (Thing → ℕ → Option Found) = λ v x. form_value b k call consumer (bind vars (parts_for vars v) [] ++ with_parent put (bind vars (parts_for vars v) []) values) x in
          earlier_pay (length loans) n (λ x. then_found (form_value b k call producer (with_children loans values) x) (λ v y. spending k (length put) y (last v))) _ (λ z.
          earlier_then m z _ _ (λ v y. spending k (length put) y (last v)) _ (earlier_form producer (with_children loans values) z) (λ v y.
          earlier_pay (length put) y (last v) _ (λ x.
          earlier_form consumer (bind vars (parts_for vars v) [] ++ with_parent put (bind vars (parts_for vars v) []) values) x)))
      earlier_form (WithLocal stobj names producer body) values n =
          earlier_then m n _ _ _ _ (c (creator_of (definition b.world stobj)) [] n) (λ list z.
          earlier_then m z _ _ _ _ (earlier_form producer ((stobj, list) ∷ values) z) (λ v y.
          earlier_form body (bind_others stobj names (element_values names 0 v) values) y))
      earlier_form (MustBeEqual first exec) values n = earlier_form first values n
      earlier_form (Call f actuals) values n = earlier_forms actuals values [] _ _ (c f) n

      earlier_forms : (forms : Cores) (values : Values) (done : List Thing) (go end : List Thing → ℕ → Option Found) → ((os : List Thing) (n : ℕ) → Earlier m n (go os (n + j)) (end os n)) → (n : ℕ)
          → Earlier m n (form_values b k call forms values done go (n + j)) (form_values b l to forms values done end n)
      earlier_forms none values done go end h n = h done n
      earlier_forms (more form forms) values done go end h n =
          earlier_then m n _ _ _ _ (earlier_form form values n) (λ v z. earlier_forms forms values (done ++ v ∷ []) go end h z)

    earlier_defined : (go end : ℕ → List Thing → ℕ → Option Found) → ((name : ℕ) (args : List Thing) (n : ℕ) → Earlier m n (go name args (n + j)) (end name args n)) → (d : Option Definition) (args : List Thing) (n : ℕ)
        → Earlier m n (defined_value b k call go d args (n + j)) (defined_value b l to end d args n)
    earlier_defined go end h None args n = tt
    earlier_defined go end h (Some (Primitive name row)) args n = earlier_now m n _
    earlier_defined go end h (Some (Defined f)) args n = earlier_form f.body (bind f.formals args []) n
    earlier_defined go end h (Some (Macro name formals body)) args n = tt
    earlier_defined go end h (Some (Constant name value)) args n = tt
    earlier_defined go end h (Some (Concrete d class)) args n = tt
    earlier_defined go end h (Some (Generated g)) args n = earlier_now m n _
    earlier_defined go end h (Some (Abstract d)) args n = tt
    earlier_defined go end h (Some (OfAbstract f)) args n = h f.logic args n
    earlier_defined go end h (Some (Named name formals)) args n = tt
    earlier_defined go end h (Some (Signed name formals signature executable)) args n = tt

    earlier_abstract : (name : ℕ) (args : List Thing) (n : ℕ) → Earlier m n (logic_of_abstract b k call name args (n + j)) (logic_of_abstract b l to name args n)
    earlier_abstract name args n = earlier_defined _ _ (λ logic os z. tt) (definition b.world name) args n

  -- what costs a call does not come from none
  none_left : (n calls : ℕ) (go to : ℕ → Option Found) (y : Option Found) → ((c : ℕ) → Earlier n c (go (c + j)) (to c)) → Earlier 0 calls (spending k 1 (calls + j) go) y
  none_left n calls go to y h =
      let same : calls + 1 + j ≡ calls + j + 1 = omega arith in
      by_test (nat_le (calls + j + 1) k) (go (calls + j + 1)) (subst (λ (z : ℕ). Earlier n (calls + 1) (go z) (to (calls + 1))) same (h (calls + 1)))
    where
      by_test : (q : Bool) (x : Option Found) → Earlier n (calls + 1) x (to (calls + 1)) → Earlier 0 calls (if q then x else None) y
      by_test false x i = tt
      by_test true None i = tt
      by_test true (Some f) i = let spent : calls + 1 + j ≤ f.calls = i.0 in (omega (arith, spent), λ r d. absurd (omega (arith, spent, d)))

  earlier_call : (n m : ℕ) → CallEarlier m (call_within b k n) (call_within b l m)
  unfolding call_within
  earlier_call zero m name args calls = tt
  earlier_call (suc n) zero name args calls =
      none_left 0 calls (defined_value b k (call_within b k n) (logic_of_abstract b k (call_within b k n)) (definition b.world name) args) _ None
      (earlier_defined 0 (call_within b k n) (call_within b l zero) (earlier_call n zero) (logic_of_abstract b k (call_within b k n)) _ (earlier_abstract 0 (call_within b k n) (call_within b l zero) (earlier_call n zero)) (definition b.world name) args)
  earlier_call (suc n) (suc m) name args calls =
      earlier_less (m + 1) (suc m) calls _ _ (omega arith)
      (earlier_spending m 1 1 calls (defined_value b k (call_within b k n) (logic_of_abstract b k (call_within b k n)) (definition b.world name) args) _ (omega arith)
      (earlier_defined m (call_within b k n) (call_within b l m) (earlier_call n m) (logic_of_abstract b k (call_within b k n)) _ (earlier_abstract m (call_within b k n) (call_within b l m) (earlier_call n m)) (definition b.world name) args))

-- a value of a call, from wherever it was found
pub call_anywhere : (b : Theory) (k nest start name : ℕ) (args : List Thing) (v : Thing) (n : ℕ) → call_within b k nest name args start ≡ found v n → CallEndsWith b name args v
call_anywhere b k nest start name args v n e =
    (n, n - start, by_value (call_within b k nest name args (0 + start)) (ap (call_within b k nest name args) from ∙ e) (earlier_call b k n start nest n name args 0))
  where
    from : 0 + start ≡ start
    from = omega arith

    by_value : (x : Option Found) → x ≡ found v n → Earlier b k n start n 0 x (call_within b n n name args 0) → call_within b n n name args 0 ≡ found v (n - start)
    by_value x g i = has_it (subst (λ (z : Option Found). Earlier b k n start n 0 z (call_within b n n name args 0)) g i)
      where
        has_it : Earlier b k n start n 0 (found v n) (call_within b n n name args 0) → call_within b n n name args 0 ≡ found v (n - start)
        has_it m = m.1 (omega arith) (omega arith)

-- the same of a form
pub form_anywhere : (b : Theory) (k nest start : ℕ) (form : Core) (values : Values) (v : Thing) (n : ℕ) → form_value b k (call_within b k nest) form values start ≡ found v n → EndsWith b form values v
form_anywhere b k nest start form values v n e = (
  n,
  n - start,
  by_value (form_value b k (call_within b k nest) form values (0 + start)) (ap (form_value b k (call_within b k nest) form values) from ∙ e)
      (earlier_form b k n start n (call_within b k nest) (call_within b n n) (earlier_call b k n start nest n) form values 0),
)
  where
    from : 0 + start ≡ start
    from = omega arith

    by_value : (x : Option Found) → x ≡ found v n → Earlier b k n start n 0 x (form_value b n (call_within b n n) form values 0) → form_value b n (call_within b n n) form values 0 ≡ found v (n - start)
    by_value x g i = has_it (subst (λ (z : Option Found). Earlier b k n start n 0 z (form_value b n (call_within b n n) form values 0)) g i)
      where
        has_it : Earlier b k n start n 0 (found v n) (form_value b n (call_within b n n) form values 0) → form_value b n (call_within b n n) form values 0 ≡ found v (n - start)
        has_it m = m.1 (omega arith) (omega arith)

-- ---- a function that is of no abstract stobj, called as one that belongs to such a stobj

same_exported : (b : Theory) (k : ℕ) (call : Caller) (go end : ℕ → List Thing → ℕ → Option Found) (d : Option Definition) (args : List Thing) (n : ℕ) → ((f : FunctionOfAbstract) → d ≡ Some (OfAbstract f) → ⊥)
    → defined_value b k call go d args n ≡ defined_value b k call end d args n
same_exported b k call go end None args n f = refl
same_exported b k call go end (Some (Primitive name row)) args n f = refl
same_exported b k call go end (Some (Defined g)) args n f = refl
same_exported b k call go end (Some (Macro name formals body)) args n f = refl
same_exported b k call go end (Some (Constant name value)) args n f = refl
same_exported b k call go end (Some (Concrete d class)) args n f = refl
same_exported b k call go end (Some (Generated g)) args n f = refl
same_exported b k call go end (Some (Abstract d)) args n f = refl
same_exported b k call go end (Some (OfAbstract g)) args n f = absurd (f g refl)
same_exported b k call go end (Some (Named name formals)) args n f = refl
same_exported b k call go end (Some (Signed name formals signature executable)) args n f = refl

pub logic_function_ends : (b : Theory) (name : ℕ) (args : List Thing) (v : Thing) → ((f : FunctionOfAbstract) → definition b.world name ≡ Some (OfAbstract f) → ⊥) → Ends (λ budget nest start. caller b budget nest name args start) v
    → Ends (λ budget nest start. logic_of_abstract b budget (caller b budget nest) name args start) v
unfolding call_within
logic_function_ends b name args v f h = by_cost h.0 h.1
  where
    none_found : (n : ℕ) → ◌≡◌ {A = Option Found} None (found v n) → ⊥
    none_found n e = cc

    by_cost : (n : ℕ) → Costs (λ budget nest start. caller b budget nest name args start) v n → Ends (λ budget nest start. logic_of_abstract b budget (caller b budget nest) name args start) v
    by_cost zero c = absurd (none_found (0 + 0) (c.gives 0 0 0 (omega arith) (omega arith)))
    by_cost (suc m) c = (m, record { gives = λ budget nest start r d. gives budget nest start r d })
      where
        gives : (budget nest start : ℕ) → start + m ≤ budget → m ≤ nest → logic_of_abstract b budget (call_within b budget nest) name args start ≡ found v (start + m)
        gives budget nest start r d =
            let more : logic_of_abstract b (budget + 1) (call_within b (budget + 1) nest) name args (start + 1) ≡ found v (start + suc m)
            = same_exported b (budget + 1) (call_within b (budget + 1) nest) (λ logic os z. None) (logic_of_abstract b (budget + 1) (call_within b (budget + 1) nest)) (definition b.world name) args (start + 1) f
            ∙ (sym (ap (λ (q : Bool). if q then defined_value b (budget + 1) (call_within b (budget + 1) nest) (logic_of_abstract b (budget + 1) (call_within b (budget + 1) nest)) (definition b.world name) args (start + 1) else None)
            (within (start + 1) (budget + 1) (omega (arith, r))))
            ∙ c.gives (budget + 1) (suc nest) start (omega (arith, r)) (omega (arith, d))) in
            by_value (logic_of_abstract b (budget + 1) (call_within b (budget + 1) nest) name args (start + 1)) more
            (earlier_abstract b (budget + 1) budget 1 nest (call_within b (budget + 1) nest) (call_within b budget nest) (earlier_call b (budget + 1) budget 1 nest nest) name args start)
          where
            by_value : (x : Option Found) → x ≡ found v (start + suc m) → Earlier b (budget + 1) budget 1 nest start x (logic_of_abstract b budget (call_within b budget nest) name args start)
                → logic_of_abstract b budget (call_within b budget nest) name args start ≡ found v (start + m)
            by_value x g i = has_it (subst (λ (z : Option Found). Earlier b (budget + 1) budget 1 nest start z (logic_of_abstract b budget (call_within b budget nest) name args start)) g i)
              where
                has_it : Earlier b (budget + 1) budget 1 nest start (found v (start + suc m)) (logic_of_abstract b budget (call_within b budget nest) name args start)
                    → logic_of_abstract b budget (call_within b budget nest) name args start ≡ found v (start + m)
                has_it q = q.1 (omega (arith, r)) (omega (arith, d)) ∙ ap (λ (z : ℕ). found v z) (omega arith)

-- a computation has one value
pub ends_once : (f : Counted) (v u : Thing) → Ends f v → Ends f u → v ≡ u
ends_once f v u h g =
    value_of_found (sym (h.1.gives (h.0 + g.0) (h.0 + g.0) 0 (omega arith) (omega arith)) ∙ g.1.gives (h.0 + g.0) (h.0 + g.0) 0 (omega arith) (omega arith))
  where
    value_of_found : found v (0 + h.0) ≡ found u (0 + g.0) → v ≡ u
    value_of_found e = ap value_or e
      where
        value_or : Option Found → Thing
        value_or None = v
        value_or (Some z) = z.value

pub calls_end : CallsEnd
calls_end = record { anywhere = call_anywhere }
