-- The logic value of a form: no guard, no bound on integers, weight or symbols, and a budget of calls. Symbols are named, and
-- stobjs are lists in the variables (ACL2's manual, topic LOGIC).
use Rattle.std.specs.Prelude.{◌≡◌, ℕ, zero, suc, ◌+◌, List, [], ◌∷◌, ◌++◌, length, Option, Some, None, nat_le, nat_eq, if◌then◌else◌}
use Rattle.std.specs.List.{list_any}
use Rattle.model_objects.specs.Object.{Object}
use Rattle.model_symbols.specs.Symbols.{QualifiedName, Package, form_of}
use Rattle.model_prims.specs.Kinds.{by_name, nil_of, is_nil}
use Rattle.model_prims.specs.Lists.{element}
use Rattle.model_prims.specs.Applied.{value_of}
use Rattle.model_terms.specs.Cores.{Core, Cores, Reached, Var, Const, If, Let, Mv, MvLet, StobjLet, WithLocal, MustBeEqual, Call, none, more, reached}
use Rattle.model_terms.specs.Worlds.{World, Definition, definition, Primitive, Defined, Macro, Constant, Concrete, Generated, Abstract, OfAbstract, Named, Signed}
use Rattle.model_eval.specs.StobjLayouts.{stobj_layout}
use Rattle.model_eval.specs.Lending.{Loan, field_number}
use Rattle.model_logic.specs.LogicFunctions.{as_list, logic_generated, child_stobj, with_child_stobj}

-- a world, the packages, and the symbols that the world's constants and types are written with
pub record Theory : Type 0 where
  pub world : World
  pub packages : List Package
  pub symbols : List QualifiedName

-- an object of the logic
abbrev pub Thing : Type 0
Thing = Object QualifiedName

-- variables with their values, the innermost first
abbrev pub Values : Type 0
Values = List (ℕ × Thing)

-- a value, and the calls that were counted
pub record Found : Type 0 where
  pub value : Thing
  pub calls : ℕ

-- None: the budget does not suffice
abbrev pub then_found : Option Found → (Thing → ℕ → Option Found) → Option Found
then_found None go = None
then_found (Some f) go = go f.value f.calls

abbrev pub found : Thing → ℕ → Option Found
found value calls = Some (record { value = value; calls = calls })

abbrev pub value_in : Values → ℕ → Thing
value_in [] x = nil_of by_name
value_in (v ∷ vs) x = if nat_eq x v.0 then v.1 else value_in vs x

abbrev pub bind : List ℕ → List Thing → Values → Values
bind [] os values = values
bind (x ∷ xs) [] values = values
bind (x ∷ xs) (o ∷ os) values = (x, o) ∷ bind xs os values

-- the same, without the variable of this name
abbrev pub bind_others : ℕ → List ℕ → List Thing → Values → Values
bind_others stobj [] os values = values
bind_others stobj (x ∷ xs) [] values = values
bind_others stobj (x ∷ xs) (o ∷ os) values =
    if nat_eq x stobj then bind_others stobj xs os values else (x, o) ∷ bind_others stobj xs os values

-- so many parts of a value that is a list of several
abbrev pub element_values : List ℕ → ℕ → Thing → List Thing
element_values [] n value = []
element_values (x ∷ xs) n value = element by_name n value ∷ element_values xs (n + 1) value

-- the values of these variables: one is the value itself, several are its parts
abbrev pub parts_for : List ℕ → Thing → List Thing
parts_for [] value = []
parts_for (x ∷ []) value = value ∷ []
parts_for (x ∷ (y ∷ ys)) value = element_values (x ∷ (y ∷ ys)) 0 value

-- what calls a function: its name, its arguments and the calls so far
abbrev pub Caller : Type 0
Caller = ℕ → List Thing → ℕ → Option Found

-- so many more calls within a budget, and then the rest
abbrev pub spending : ℕ → ℕ → ℕ → (ℕ → Option Found) → Option Found
spending budget n calls go = if nat_le (calls + n) budget then go (calls + n) else None

-- the function that makes a new stobj
abbrev pub creator_of : Option Definition → ℕ
creator_of None = 0
creator_of (Some (Primitive name row)) = 0
creator_of (Some (Defined f)) = 0
creator_of (Some (Macro name formals body)) = 0
creator_of (Some (Constant name value)) = 0
creator_of (Some (Concrete d class)) = d.creator
creator_of (Some (Generated g)) = 0
creator_of (Some (Abstract d)) = d.creator.name
creator_of (Some (OfAbstract f)) = 0
creator_of (Some (Named name formals)) = 0
creator_of (Some (Signed name formals signature executable)) = 0

-- ---- children

-- the children as variables
abbrev pub with_children : List (Loan QualifiedName) → Values → Values
with_children [] values = values
with_children (l ∷ ls) values = (l.child, child_stobj by_name l.field l.index (value_in values l.parent)) ∷ with_children ls values

-- the children that are to be put back
abbrev pub put_loans : List ℕ → List (Loan QualifiedName) → List (Loan QualifiedName)
put_loans vars [] = []
put_loans vars (l ∷ ls) = if list_any (nat_eq l.child) vars then l ∷ put_loans vars ls else put_loans vars ls

-- the parent with these children, whose values are those of the variables
abbrev pub with_parent : List (Loan QualifiedName) → Values → Values → Values
with_parent [] vars values = values
with_parent (l ∷ ls) vars values =
    with_parent ls vars ((l.parent, with_child_stobj by_name l.field l.index (value_in vars l.child) (value_in values l.parent)) ∷ values)

module _ (b : Theory) where
  abbrev pub seen : Object ℕ → Thing
  seen o = form_of b.symbols o

  abbrev pub leaf_value : Core → Values → Thing
  leaf_value (Var x) values = value_in values x
  leaf_value (Const o) values = seen o
  leaf_value (If a c d) values = nil_of by_name
  leaf_value (Let names bound body) values = nil_of by_name
  leaf_value (Mv parts) values = nil_of by_name
  leaf_value (MvLet names bound body) values = nil_of by_name
  leaf_value (StobjLet names bound vars producer consumer) values = nil_of by_name
  leaf_value (WithLocal stobj names producer body) values = nil_of by_name
  leaf_value (MustBeEqual logic exec) values = nil_of by_name
  leaf_value (Call f actuals) values = nil_of by_name

  abbrev pub index_value : Option Core → Values → Option Thing
  index_value None values = None
  index_value (Some form) values = Some (leaf_value form values)

  abbrev pub logic_loan : ℕ → Reached → Values → Loan QualifiedName
  logic_loan child by values = record {
    child = child;
    parent = by.parent;
    field = field_number (definition b.world by.accessor);
    index = index_value by.index values;
  }

  abbrev pub with_loan : ℕ → Option Reached → Values → List (Loan QualifiedName) → List (Loan QualifiedName)
  with_loan child None values loans = loans
  with_loan child (Some by) values loans = logic_loan child by values ∷ loans

  abbrev pub logic_loans : List ℕ → Cores → Values → List (Loan QualifiedName)
  logic_loans names none values = []
  logic_loans [] (more form forms) values = []
  logic_loans (x ∷ xs) (more form forms) values = with_loan x (reached form) values (logic_loans xs forms values)

module _ (b : Theory) (budget : ℕ) where
  -- ---- forms; `call` calls functions

  unfoldable mutual
    pub form_value : Caller → Core → Values → ℕ → Option Found
    form_value call (Var x) values calls = found (value_in values x) calls
    form_value call (Const o) values calls = found (seen b o) calls
    form_value call (If test a c) values calls =
        then_found (form_value call test values calls) (λ v calls. if is_nil by_name v then form_value call c values calls else form_value call a values calls)
    form_value call (Let names forms body) values calls =
        form_values call forms values [] (λ os calls. form_value call body (bind names os values) calls) calls
    form_value call (Mv parts) values calls = form_values call parts values [] (λ os calls. found (as_list by_name os) calls) calls
    form_value call (MvLet names form body) values calls =
        then_found (form_value call form values calls) (λ v calls. form_value call body (bind names (element_values names 0 v) values) calls)
    form_value call (StobjLet names forms vars producer consumer) values calls =
        let loans = logic_loans b names forms values in
        let put = put_loans vars loans in
        spending budget (length loans) calls (λ calls.
        then_found (form_value call producer (with_children loans values) calls) (λ v calls.
        spending budget (length put) calls (λ calls.
        let bindings = bind vars (parts_for vars v) [] in
        form_value call consumer (bindings ++ with_parent put bindings values) calls)))
    form_value call (WithLocal stobj names producer body) values calls =
        then_found (call (creator_of (definition b.world stobj)) [] calls) (λ l calls.
        then_found (form_value call producer ((stobj, l) ∷ values) calls) (λ v calls.
        form_value call body (bind_others stobj names (element_values names 0 v) values) calls))
    form_value call (MustBeEqual logic exec) values calls = form_value call logic values calls
    form_value call (Call f actuals) values calls = form_values call actuals values [] (call f) calls

    pub form_values : Caller → Cores → Values → List Thing → (List Thing → ℕ → Option Found) → ℕ → Option Found
    form_values call none values done go calls = go done calls
    form_values call (more form forms) values done go calls =
        then_found (form_value call form values calls) (λ v calls. form_values call forms values (done ++ v ∷ []) go calls)

  -- ---- calls

  -- a call by what the function is; `exported` is the value of a function of an abstract stobj
  abbrev pub defined_value : Caller → (ℕ → List Thing → ℕ → Option Found) → Option Definition → List Thing → ℕ → Option Found
  defined_value call exported None args calls = None
  defined_value call exported (Some (Primitive name row)) args calls = found (value_of b.packages row.prim args) calls
  defined_value call exported (Some (Defined f)) args calls = form_value call f.body (bind f.formals args []) calls
  defined_value call exported (Some (Macro name formals body)) args calls = None
  defined_value call exported (Some (Constant name value)) args calls = None
  defined_value call exported (Some (Concrete d class)) args calls = None
  defined_value call exported (Some (Generated g)) args calls =
      found (logic_generated by_name g (stobj_layout (seen b) b.world g.stobj) args) calls
  defined_value call exported (Some (Abstract d)) args calls = None
  defined_value call exported (Some (OfAbstract f)) args calls = exported f.logic args calls
  defined_value call exported (Some (Named name formals)) args calls = None
  defined_value call exported (Some (Signed name formals signature executable)) args calls = None

  -- the logic function of a function of an abstract stobj, which is none itself
  abbrev pub logic_of_abstract : Caller → ℕ → List Thing → ℕ → Option Found
  logic_of_abstract call name args calls = defined_value call (λ logic os n. None) (definition b.world name) args calls

  -- calls nested so deep at most
  unfoldable pub call_within : ℕ → Caller
  call_within zero name args calls = None
  call_within (suc n) name args calls =
      spending budget 1 calls (defined_value (call_within n) (logic_of_abstract (call_within n)) (definition b.world name) args)

  -- no calls are nested deeper than the budget has calls
  abbrev pub logic_call : Caller
  logic_call name args calls = call_within budget name args calls

  abbrev pub logic : Core → Values → Option Found
  logic form values = form_value logic_call form values 0

-- some budget gives the value
abbrev pub EndsWith : Theory → Core → Values → Thing → Type 0
EndsWith b form values v = (budget : ℕ) × (calls : ℕ) × (logic b budget form values ≡ found v calls)

-- the same of a call
abbrev pub CallEndsWith : Theory → ℕ → List Thing → Thing → Type 0
CallEndsWith b name args v = (budget : ℕ) × (calls : ℕ) × (logic_call b budget name args 0 ≡ found v calls)
