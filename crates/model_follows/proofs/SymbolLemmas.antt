-- Values of the logic do not depend on the symbols that a book has beside those of the world's constants and types.
use Rattle.std.proofs.Common.{◌≡◌, ℕ, zero, suc, ◌+◌, List, [], ◌∷◌, ◌++◌, length, Bool, true, false, Option, Some, None, refl, sym, ap, ◌∙◌}
use Rattle.std.specs.Prelude.{nat_le, if◌then◌else◌}
use Rattle.model_objects.specs.Object.{Object}
use Rattle.model_objects.specs.Named.{Knows}
use Rattle.model_symbols.specs.Symbols.{QualifiedName, Table, symbol_at, form_of}
use Rattle.model_symbols.specs.Growth.{Extends}
use Rattle.model_prims.specs.Kinds.{by_name, is_nil}
use Rattle.model_lists.specs.Layouts.{Layout}
use Rattle.model_terms.specs.Cores.{Core, Cores, Reached, Var, Const, If, Let, Mv, MvLet, StobjLet, WithLocal, MustBeEqual, Call, none, more, reached, reached_from, variable}
use Rattle.model_terms.specs.Worlds.{World, Definition, Function, definition, Primitive, Defined, Macro, Constant, Concrete, Generated, Abstract, OfAbstract, Named, Signed}
use Rattle.model_eval.specs.StobjLayouts.{stobj_layout}
use Rattle.model_eval.specs.Keeping.{Loan}
use Rattle.model_logic.specs.LogicFunctions.{logic_generated}
use Rattle.model_logic.specs.Logic.{Theory, Thing, Values, Found, then_found, found, bind, bind_others, element_values, parts_for, Caller, spending, creator_of, index_value, with_loan, logic_loans, with_children, put_loans, with_parent, form_value, form_values, defined_value, logic_of_abstract, call_within, CallEndsWith}
use Rattle.model_accepted.specs.Threaded.{layout_of}
use Rattle.model_follows.specs.Follows.{table_of}
use Rattle.model_follows.specs.Corresponding.{theory_with}
use Rattle.model_follows.specs.SymbolLaw.{KnowsForm, KnowsForms, IsWritten, SymbolsNoMatter}
use Rattle.model_follows.proofs.ThingLemmas.{form_stays}
use Rattle.model_follows.proofs.LayoutThings.{layout_named}
use Rattle.model_follows.proofs.EffectFollowing.{layout_stays}

same_then : (x y : Option Found) (go to : Thing → ℕ → Option Found) → x ≡ y → ((v : Thing) (n : ℕ) → go v n ≡ to v n) → then_found x go ≡ then_found y to
same_then x y go to e h = ap (λ (z : Option Found). then_found z go) e ∙ by_value y
  where
    by_value : (z : Option Found) → then_found z go ≡ then_found z to
    by_value None = refl
    by_value (Some f) = h f.value f.calls

same_if : (q : Bool) (x y z u : Option Found) → x ≡ z → y ≡ u → (if q then x else y) ≡ (if q then z else u)
same_if true x y z u e f = e
same_if false x y z u e f = f

same_spending : (budget n calls : ℕ) (go to : ℕ → Option Found) → ((z : ℕ) → go z ≡ to z) → spending budget n calls go ≡ spending budget n calls to
same_spending budget n calls go to h = ap (λ (z : Option Found). if nat_le (calls + n) budget then z else None) (h (calls + n))

module _ (w : World) (base : Table) (first second : List QualifiedName) (one : Extends base (table_of base.packages first)) (two : Extends base (table_of base.packages second)) (written : IsWritten w (length base.symbols)) where
  abbrev n : ℕ
  n = length base.symbols

  abbrev b1 : Theory
  b1 = theory_with w base first

  abbrev b2 : Theory
  b2 = theory_with w base second

  constant_same : (o : Object ℕ) → Knows (length base.symbols) o → form_of first o ≡ form_of second o
  constant_same o k = form_stays base (table_of base.packages first) one o k ∙ sym (form_stays base (table_of base.packages second) two o k)

  layout_same : (x : ℕ) → stobj_layout (λ (o : Object ℕ). form_of first o) w x ≡ stobj_layout (λ (o : Object ℕ). form_of second o) w x
  layout_same x =
      layout_named (symbol_at first) w x
      ∙ (layout_stays base (table_of base.packages first) one (layout_of w x) (written.layouts x)
      ∙ (sym (layout_stays base (table_of base.packages second) two (layout_of w x) (written.layouts x)) ∙ sym (layout_named (symbol_at second) w x)))

  -- ---- loans

  index_alike : (form : Core) (values : Values) → KnowsForm (length base.symbols) form → index_value b1 (Some form) values ≡ index_value b2 (Some form) values
  unfolding KnowsForm
  index_alike (Var x) values k = refl
  index_alike (Const o) values k = ap (λ (v : Thing). Some v) (constant_same o k)
  index_alike (If a c d) values k = refl
  index_alike (Let names bound body) values k = refl
  index_alike (Mv parts) values k = refl
  index_alike (MvLet names bound body) values k = refl
  index_alike (StobjLet names bound vars producer consumer) values k = refl
  index_alike (WithLocal stobj names producer body) values k = refl
  index_alike (MustBeEqual logic exec) values k = refl
  index_alike (Call f actuals) values k = refl

  from_alike : (x f : ℕ) (index : Option Core) (parent : Core) (values : Values) (loans : List (Loan QualifiedName)) → index_value b1 index values ≡ index_value b2 index values
      → with_loan b1 x (reached_from f index parent) values loans ≡ with_loan b2 x (reached_from f index parent) values loans
  from_alike x f index parent values loans e = go (variable parent)
    where
      reached_of : Option ℕ → Option Reached
      reached_of None = None
      reached_of (Some p) = Some (record { accessor = f; index = index; parent = p })

      go : (p : Option ℕ) → with_loan b1 x (reached_of p) values loans ≡ with_loan b2 x (reached_of p) values loans
      go None = refl
      go (Some p) = rw e refl

  loan_alike : (x : ℕ) (form : Core) (values : Values) (loans : List (Loan QualifiedName)) → KnowsForm (length base.symbols) form → with_loan b1 x (reached form) values loans ≡ with_loan b2 x (reached form) values loans
  unfolding KnowsForm KnowsForms
  loan_alike x (Var y) values loans k = refl
  loan_alike x (Const o) values loans k = refl
  loan_alike x (If a c d) values loans k = refl
  loan_alike x (Let names bound body) values loans k = refl
  loan_alike x (Mv parts) values loans k = refl
  loan_alike x (MvLet names bound body) values loans k = refl
  loan_alike x (StobjLet names bound vars producer consumer) values loans k = refl
  loan_alike x (WithLocal stobj names producer body) values loans k = refl
  loan_alike x (MustBeEqual logic exec) values loans k = refl
  loan_alike x (Call f none) values loans k = refl
  loan_alike x (Call f (more p none)) values loans k = from_alike x f None p values loans refl
  loan_alike x (Call f (more index (more p none))) values loans k = from_alike x f (Some index) p values loans (index_alike index values k.0)
  loan_alike x (Call f (more a (more c (more d rest)))) values loans k = refl

  loans_alike : (names : List ℕ) (forms : Cores) (values : Values) → KnowsForms (length base.symbols) forms → logic_loans b1 names forms values ≡ logic_loans b2 names forms values
  unfolding KnowsForms
  loans_alike names none values k = refl
  loans_alike [] (more form forms) values k = refl
  loans_alike (x ∷ xs) (more form forms) values k =
      ap (with_loan b1 x (reached form) values) (loans_alike xs forms values k.1) ∙ loan_alike x form values (logic_loans b2 xs forms values) k.0

  -- ---- forms and calls

  module _ (budget : ℕ) (call to : Caller) (c : (name : ℕ) (args : List Thing) (m : ℕ) → call name args m ≡ to name args m) where
    mutual
      unfolding form_value form_values KnowsForm KnowsForms

      same_form : (form : Core) (values : Values) (m : ℕ) → KnowsForm (length base.symbols) form → form_value b1 budget call form values m ≡ form_value b2 budget to form values m
      same_form (Var x) values m k = refl
      same_form (Const o) values m k = ap (λ (v : Thing). found v m) (constant_same o k)
      same_form (If test p q) values m k =
          same_then _ _ _ _ (same_form test values m k.0) (λ v z. same_if (is_nil by_name v) _ _ _ _ (same_form q values z k.2) (same_form p values z k.1))
      same_form (Let names forms body) values m k = same_forms forms values [] _ _ (λ os z. same_form body (bind names os values) z k.1) m k.0
      same_form (Mv parts) values m k = same_forms parts values [] _ _ (λ os z. refl) m k
      same_form (MvLet names form body) values m k =
          same_then _ _ _ _ (same_form form values m k.0) (λ v z. same_form body (bind names (element_values names 0 v) values) z k.1)
      same_form (StobjLet names forms vars producer consumer) values m k =
          let after : (List (Loan QualifiedName) → Option Found) = λ loans.
          spending budget (length loans) m (λ x. then_found (form_value b1 budget call producer (with_children loans values) x) (λ v y. spending budget (length (put_loans vars loans)) y
          (λ z. form_value b1 budget call consumer (bind vars (parts_for vars v) [] ++ with_parent (put_loans vars loans) (bind vars (parts_for vars v) []) values) z))) in
          let loans : List (Loan QualifiedName) = logic_loans b2 names forms values in
          ap after (loans_alike names forms values k.0)
          ∙ same_spending budget (length loans) m _ _ (λ x.
          same_then _ _ _ _ (same_form producer (with_children loans values) x k.1) (λ v y.
          same_spending budget (length (put_loans vars loans)) y _ _ (λ z.
          same_form consumer (bind vars (parts_for vars v) [] ++ with_parent (put_loans vars loans) (bind vars (parts_for vars v) []) values) z k.2)))
      same_form (WithLocal stobj names producer body) values m k =
          same_then _ _ _ _ (c (creator_of (definition w stobj)) [] m) (λ l z.
          same_then _ _ _ _ (same_form producer ((stobj, l) ∷ values) z k.0) (λ v y.
          same_form body (bind_others stobj names (element_values names 0 v) values) y k.1))
      same_form (MustBeEqual logic exec) values m k = same_form logic values m k
      same_form (Call f actuals) values m k = same_forms actuals values [] _ _ (c f) m k

      same_forms : (forms : Cores) (values : Values) (done : List Thing) (go end : List Thing → ℕ → Option Found) → ((os : List Thing) (m : ℕ) → go os m ≡ end os m) → (m : ℕ) → KnowsForms (length base.symbols) forms
          → form_values b1 budget call forms values done go m ≡ form_values b2 budget to forms values done end m
      same_forms none values done go end h m k = h done m
      same_forms (more form forms) values done go end h m k =
          same_then _ _ _ _ (same_form form values m k.0) (λ v z. same_forms forms values (done ++ v ∷ []) go end h z k.1)

    same_defined : (go end : ℕ → List Thing → ℕ → Option Found) → ((name : ℕ) (args : List Thing) (m : ℕ) → go name args m ≡ end name args m) → (d : Option Definition) (args : List Thing) (m : ℕ)
        → ((f : Function) → d ≡ Some (Defined f) → KnowsForm (length base.symbols) f.body) → defined_value b1 budget call go d args m ≡ defined_value b2 budget to end d args m
    same_defined go end h None args m k = refl
    same_defined go end h (Some (Primitive name row)) args m k = refl
    same_defined go end h (Some (Defined f)) args m k = same_form f.body (bind f.formals args []) m (k f refl)
    same_defined go end h (Some (Macro name formals body)) args m k = refl
    same_defined go end h (Some (Constant name value)) args m k = refl
    same_defined go end h (Some (Concrete d class)) args m k = refl
    same_defined go end h (Some (Generated g)) args m k = ap (λ (l : Layout QualifiedName). found (logic_generated by_name g l args) m) (layout_same g.stobj)
    same_defined go end h (Some (Abstract d)) args m k = refl
    same_defined go end h (Some (OfAbstract f)) args m k = h f.logic args m
    same_defined go end h (Some (Named name formals)) args m k = refl
    same_defined go end h (Some (Signed name formals signature executable)) args m k = refl

    same_abstract : (name : ℕ) (args : List Thing) (m : ℕ) → logic_of_abstract b1 budget call name args m ≡ logic_of_abstract b2 budget to name args m
    same_abstract name args m = same_defined (λ logic os z. None) (λ logic os z. None) (λ logic os z. refl) (definition w name) args m (λ f e. written.bodies name f e)

  same_call : (budget depth : ℕ) (name : ℕ) (args : List Thing) (m : ℕ) → call_within b1 budget depth name args m ≡ call_within b2 budget depth name args m
  unfolding call_within
  same_call budget zero name args m = refl
  same_call budget (suc depth) name args m =
      same_spending budget 1 m _ _ (λ z.
      same_defined budget (call_within b1 budget depth) (call_within b2 budget depth) (same_call budget depth) _ _
      (same_abstract budget (call_within b1 budget depth) (call_within b2 budget depth) (same_call budget depth)) (definition w name) args z (λ f e. written.bodies name f e))

  pub call_stays : (name : ℕ) (args : List Thing) (v : Thing) → CallEndsWith b1 name args v → CallEndsWith b2 name args v
  call_stays name args v h = (h.0, h.1, sym (same_call h.0 h.0 name args 0) ∙ h.2)

pub symbols_no_matter : SymbolsNoMatter
symbols_no_matter = record { calls = λ w base first second one two written name args v e. call_stays w base first second one two written name args v e }
