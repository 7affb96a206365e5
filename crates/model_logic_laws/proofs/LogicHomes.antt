-- The logic makes only symbols of known packages.
use Rattle.std.proofs.Common.{◌≡◌, ℕ, zero, suc, ◌+◌, ◌<◌, List, [], ◌∷◌, ◌++◌, length, Bool, true, false, Option, Some, None, refl, sym, ap, ◌∙◌, subst}
use Rattle.std.specs.Prelude.{slice_get, nat_eq, nat_le, unwrap_or, if◌then◌else◌}
use Rattle.std.specs.Str.{bytes_eq}
use Rattle.std.proofs.lemmas.Option.{slice_get_within}
use Rattle.model_objects.specs.Object.{Object, Symbol, named}
use Rattle.model_objects.specs.Named.{Symbols}
use Rattle.model_symbols.specs.Symbols.{QualifiedName, Package, Table, package_number, package_at, import_of, symbol_in, symbol_at, form_of}
use Rattle.model_symbols.specs.Growth.{IsSymbol, IsPackage}
use Rattle.model_symbols.specs.Tables.{IsTable}
use Rattle.model_symbols.specs.Opening.{truth, nil, truth_name, nil_name}
use Rattle.model_symbols.proofs.NameLemmas.{symbol-at, package-Some, package_at-is}
use Rattle.model_prims.specs.Kinds.{by_name, is_nil}
use Rattle.model_prims.specs.Lists.{updated, element}
use Rattle.model_prims.specs.Values.{Wanted, Old, Number, Made, Power, Shift, Update, Interned, wanted}
use Rattle.model_prims.specs.Applied.{argument, logic_value, value_of, package_called, package_or}
use Rattle.model_prims.specs.Laws.{NamesTruth}
use Rattle.model_prims.specs.declared.prim.Prim.{Prim}
use Rattle.model_lists.specs.Layouts.{Layout}
use Rattle.model_terms.specs.Cores.{Core, Cores, Reached, Var, Const, If, Let, Mv, MvLet, StobjLet, WithLocal, MustBeEqual, Call, none, more, reached}
use Rattle.model_terms.specs.Worlds.{World, Definition, Function, GeneratedFunction, definition, Primitive, Defined, Macro, Constant, Concrete, Generated, Abstract, OfAbstract, Named, Signed}
use Rattle.model_eval.specs.Keeping.{Loan}
use Rattle.model_eval.specs.StobjLayouts.{stobj_layout}
use Rattle.model_logic.specs.Logic.{Theory, Values, Found, then_found, found, value_in, bind, bind_others, element_values, parts_for, Caller, spending, creator_of, logic_loan, logic_loans, with_loan, with_children, put_loans, with_parent, form_value, form_values, defined_value, logic_of_abstract, call_within, CallEndsWith}
use Rattle.model_logic.specs.LogicFunctions.{as_list, logic_generated}
use Rattle.model_abstract.specs.Corresponding.{HasPackage}
use Rattle.model_accepted.specs.Threaded.{layout_of}
use Rattle.model_follows.specs.Abstract.{HaveHomes}
use Rattle.model_follows.specs.Follows.{table_of}
use Rattle.model_follows.specs.SymbolLaw.{KnowsForm, KnowsForms, IsWritten}
use Rattle.model_follows.proofs.LayoutThings.{named_layout, layout_named}
use Rattle.model_follows.proofs.KidParts.{bound_before}
use Rattle.model_logic_laws.specs.Homes.{CallsKeepHomes}
use Rattle.model_logic_laws.proofs.PrimHomes.{either, WantedSymbols, wanted_homes, updated_homes, element_homes}
use Rattle.model_logic_laws.proofs.EffectHomes.{Thing, All, named_homes, argument_homes, list_homes, Initials, layout_homes, effect_homes, child_homes, with_child_homes}

module _ (b : Theory) (table : IsTable (table_of b.packages b.symbols)) (names : NamesTruth (table_of b.packages b.symbols)) (written : IsWritten b.world (length b.symbols)) where
  abbrev P : QualifiedName → Type 0
  P q = HasPackage b q

  abbrev Homes : Thing → Type 0
  Homes o = Symbols P o

  abbrev AllHomes : List Thing → Type 0
  AllHomes os = All P os

  at_truth : P truth_name
  at_truth = table.homes truth truth_name names.at_truth

  at_nil : P nil_name
  at_nil = table.homes nil nil_name names.at_nil

  -- ---- constants and primitives

  known_home : (s : ℕ) → s < length b.symbols → P (symbol_at b.symbols s)
  known_home s l = table.homes s (symbol_at b.symbols s) (symbol-at b.symbols s l)

  constant_homes : (o : Object ℕ) → Symbols (λ s. s < length b.symbols) o → Homes (form_of b.symbols o)
  constant_homes o k = named_homes P at_truth at_nil (length b.symbols) (symbol_at b.symbols) known_home o k

  import_at : (ss : List QualifiedName) (name : List ℕ) (q : QualifiedName) → import_of ss name ≡ Some q → (k : ℕ) × (slice_get ss k ≡ Some q)
  import_at [] name q e = cc
  import_at (s ∷ ss) name q e = go (bytes_eq name s.name) e (import_at ss name q)
    where
      go : (t : Bool) → (if t then Some s else import_of ss name) ≡ Some q → (import_of ss name ≡ Some q → (k : ℕ) × (slice_get ss k ≡ Some q)) → (k : ℕ) × (slice_get (s ∷ ss) k ≡ Some q)
      go true f later = (0, f)
      go false f later = let rest = later f in (suc rest.0, rest.1)

  -- what a known package has under a name
  interned_home : (home name : List ℕ) → (n : ℕ) × (package_number b.packages home ≡ Some n) → P (symbol_in (package_called b.packages home) name)
  interned_home home name h =
      let at : (p : Package) × IsPackage b.packages h.0 p × (p.name ≡ home) = package-Some b.packages home h.0 h.1 in
      let called : package_called b.packages home ≡ at.0 = ap (package_or b.packages home) h.1 ∙ package_at-is b.packages h.0 at.0 at.1 in
      subst (λ (p : Package). P (symbol_in p name)) (sym called) (by_import at.0 at.1 at.2 (import_of at.0.imports name) refl)
    where
      by_import : (p : Package) → IsPackage b.packages h.0 p → p.name ≡ home → (v : Option QualifiedName) → import_of p.imports name ≡ v → P (unwrap_or v (record { home = p.name; name = name }))
      by_import p i e None f = (h.0, ap (package_number b.packages) e ∙ h.1)
      by_import p i e (Some q) f =
          let place = import_at p.imports name q f in
          let known = table.imports h.0 place.0 p q i place.1 in
          table.homes known.0 q known.1

  logic_value_homes : (w : Wanted QualifiedName) → WantedSymbols P w → Homes (logic_value b.packages w)
  logic_value_homes (Old o) h = h
  logic_value_homes (Number n) h = tt
  logic_value_homes (Made o) h = h
  logic_value_homes (Power i n) h = tt
  logic_value_homes (Shift i c) h = tt
  logic_value_homes (Update n o l) h = updated_homes P at_truth at_nil n o l h.0 h.1
  logic_value_homes (Interned name s) h = interned_home s.home name h

  value_homes : (p : Prim) (args : List Thing) → AllHomes args → Homes (value_of b.packages p args)
  value_homes p args h =
      logic_value_homes (wanted by_name (λ (s : QualifiedName). s) p (argument by_name args 0) (argument by_name args 1) (argument by_name args 2))
      (wanted_homes P at_truth at_nil (λ s. s) p (argument by_name args 0) (argument by_name args 1) (argument by_name args 2)
      (argument_homes P at_truth at_nil args 0 h) (argument_homes P at_truth at_nil args 1 h) (argument_homes P at_truth at_nil args 2 h))

  generated_homes : (g : GeneratedFunction) (args : List Thing) → AllHomes args → Homes (logic_generated by_name g (stobj_layout (λ (o : Object ℕ). form_of b.symbols o) b.world g.stobj) args)
  generated_homes g args h =
      effect_homes P at_truth at_nil (unwrap_or g.field 0) args h g.role (stobj_layout (λ (o : Object ℕ). form_of b.symbols o) b.world g.stobj)
      (subst (Initials P) (sym (layout_named (symbol_at b.symbols) b.world g.stobj))
      (layout_homes P at_truth at_nil (length b.symbols) (symbol_at b.symbols) known_home (layout_of b.world g.stobj) (written.layouts g.stobj)))

  -- ---- values of variables

  abbrev HomelyValues : Values → Type 0
  HomelyValues values = (x : ℕ) → Homes (value_in values x)

  bound_homes : (x : ℕ) (o : Thing) (values : Values) → Homes o → HomelyValues values → HomelyValues ((x, o) ∷ values)
  bound_homes x o values h k y = either P (nat_eq y x) o (value_in values y) h (k y)

  nothing_homes : HomelyValues []
  nothing_homes x = at_nil

  bind_homes : (xs : List ℕ) (os : List Thing) (values : Values) → AllHomes os → HomelyValues values → HomelyValues (bind xs os values)
  bind_homes [] os values h k = k
  bind_homes (x ∷ xs) [] values h k = k
  bind_homes (x ∷ xs) (o ∷ os) values h k = bound_homes x o (bind xs os values) h.0 (bind_homes xs os values h.1 k)

  others_homes : (stobj : ℕ) (xs : List ℕ) (os : List Thing) (values : Values) → AllHomes os → HomelyValues values → HomelyValues (bind_others stobj xs os values)
  others_homes stobj [] os values h k = k
  others_homes stobj (x ∷ xs) [] values h k = k
  others_homes stobj (x ∷ xs) (o ∷ os) values h k = go (nat_eq x stobj) (others_homes stobj xs os values h.1 k)
    where
      go : (t : Bool) → HomelyValues (bind_others stobj xs os values) → HomelyValues (if t then bind_others stobj xs os values else ((x, o) ∷ bind_others stobj xs os values))
      go true later = later
      go false later = bound_homes x o (bind_others stobj xs os values) h.0 later

  elements_homes : (xs : List ℕ) (n : ℕ) (v : Thing) → Homes v → AllHomes (element_values xs n v)
  elements_homes [] n v h = tt
  elements_homes (x ∷ xs) n v h = (element_homes P at_truth at_nil n v h, elements_homes xs (n + 1) v h)

  parts_homes : (xs : List ℕ) (v : Thing) → Homes v → AllHomes (parts_for xs v)
  parts_homes [] v h = tt
  parts_homes (x ∷ []) v h = (h, tt)
  parts_homes (x ∷ (y ∷ ys)) v h = elements_homes (x ∷ (y ∷ ys)) 0 v h

  more_homes : (os : List Thing) (v : Thing) → AllHomes os → Homes v → AllHomes (os ++ v ∷ [])
  more_homes [] v h k = (k, tt)
  more_homes (o ∷ os) v h k = (h.0, more_homes os v h.1 k)

  children_homes : (ls : List (Loan QualifiedName)) (values : Values) → HomelyValues values → HomelyValues (with_children ls values)
  children_homes [] values k = k
  children_homes (l ∷ ls) values k = bound_homes l.child _ (with_children ls values) (child_homes P at_truth at_nil l.field l.index (value_in values l.parent) (k l.parent)) (children_homes ls values k)

  parent_homes : (ls : List (Loan QualifiedName)) (vars values : Values) → HomelyValues vars → HomelyValues values → HomelyValues (with_parent ls vars values)
  parent_homes [] vars values h k = k
  parent_homes (l ∷ ls) vars values h k =
      parent_homes ls vars _ h (bound_homes l.parent _ values (with_child_homes P at_truth at_nil l.field l.index (value_in vars l.child) (value_in values l.parent) (h l.child) (k l.parent)) k)

  -- ---- forms

  abbrev Homely : Option Found → Type 0
  Homely None = Unit {0}
  Homely (Some f) = Homes f.value

  homely_then : (x : Option Found) (go : Thing → ℕ → Option Found) → Homely x → ((v : Thing) (n : ℕ) → Homes v → Homely (go v n)) → Homely (then_found x go)
  homely_then None go h k = tt
  homely_then (Some f) go h k = k f.value f.calls h

  homely_if : (t : Bool) (x y : Option Found) → Homely x → Homely y → Homely (if t then x else y)
  homely_if true x y h k = h
  homely_if false x y h k = k

  homely_spending : (budget n calls : ℕ) (go : ℕ → Option Found) → ((c : ℕ) → Homely (go c)) → Homely (spending budget n calls go)
  homely_spending budget n calls go h = homely_if (nat_le (calls + n) budget) (go (calls + n)) None (h (calls + n)) tt

  module _ (budget : ℕ) (call : Caller) (c : (name : ℕ) (args : List Thing) (n : ℕ) → AllHomes args → Homely (call name args n)) where
    mutual
      unfolding form_value form_values KnowsForm KnowsForms

      form_homes : (form : Core) (values : Values) (n : ℕ) → KnowsForm (length b.symbols) form → HomelyValues values → Homely (form_value b budget call form values n)
      form_homes (Var x) values n k h = h x
      form_homes (Const o) values n k h = constant_homes o k
      form_homes (If test p q) values n k h =
          homely_then (form_value b budget call test values n) _ (form_homes test values n k.0 h) (λ v z i. homely_if (is_nil by_name v) (form_value b budget call q values z) (form_value b budget call p values z) (form_homes q values z k.2 h) (form_homes p values z k.1 h))
      form_homes (Let xs forms body) values n k h = forms_homes forms values [] _ k.0 h tt (λ os z i. form_homes body (bind xs os values) z k.1 (bind_homes xs os values i h)) n
      form_homes (Mv parts) values n k h = forms_homes parts values [] _ k h tt (λ os z i. list_homes P at_truth at_nil os i) n
      form_homes (MvLet xs form body) values n k h =
          homely_then (form_value b budget call form values n) _ (form_homes form values n k.0 h) (λ v z i. form_homes body (bind xs (element_values xs 0 v) values) z k.1 (bind_homes xs (element_values xs 0 v) values (elements_homes xs 0 v i) h))
      form_homes (StobjLet xs forms vars producer consumer) values n k h =
          let loans = logic_loans b xs forms values in
          let put = put_loans vars loans in
          homely_spending budget (length loans) n _ (λ z.
          homely_then (form_value b budget call producer (with_children loans values) z) _ (form_homes producer (with_children loans values) z k.1 (children_homes loans values h)) (λ v y i.
          homely_spending budget (length put) y _ (λ u.
          form_homes consumer (bind vars (parts_for vars v) [] ++ with_parent put (bind vars (parts_for vars v) []) values) u k.2
          (subst HomelyValues (sym (bound_before vars (parts_for vars v) (with_parent put (bind vars (parts_for vars v) []) values)))
          (bind_homes vars (parts_for vars v) (with_parent put (bind vars (parts_for vars v) []) values) (parts_homes vars v i)
          (parent_homes put (bind vars (parts_for vars v) []) values (bind_homes vars (parts_for vars v) [] (parts_homes vars v i) nothing_homes) h))))))
      form_homes (WithLocal stobj xs producer body) values n k h =
          homely_then (call (creator_of (definition b.world stobj)) [] n) _ (c (creator_of (definition b.world stobj)) [] n tt) (λ l z i.
          homely_then (form_value b budget call producer ((stobj, l) ∷ values) z) _ (form_homes producer ((stobj, l) ∷ values) z k.0 (bound_homes stobj l values i h)) (λ v y j.
          form_homes body (bind_others stobj xs (element_values xs 0 v) values) y k.1 (others_homes stobj xs (element_values xs 0 v) values (elements_homes xs 0 v j) h)))
      form_homes (MustBeEqual logic exec) values n k h = form_homes logic values n k h
      form_homes (Call f actuals) values n k h = forms_homes actuals values [] (call f) k h tt (λ os z i. c f os z i) n

      forms_homes : (forms : Cores) (values : Values) (done : List Thing) (go : List Thing → ℕ → Option Found) → KnowsForms (length b.symbols) forms → HomelyValues values → AllHomes done
          → ((os : List Thing) (n : ℕ) → AllHomes os → Homely (go os n)) → (n : ℕ) → Homely (form_values b budget call forms values done go n)
      forms_homes none values done go k h d r n = r done n d
      forms_homes (more form forms) values done go k h d r n =
          homely_then (form_value b budget call form values n) _ (form_homes form values n k.0 h) (λ v z i. forms_homes forms values (done ++ v ∷ []) go k.1 h (more_homes done v d i) r z)

    defined_homes : (exported : ℕ → List Thing → ℕ → Option Found) → ((name : ℕ) (args : List Thing) (n : ℕ) → AllHomes args → Homely (exported name args n)) → (name : ℕ) (d : Option Definition) → definition b.world name ≡ d → (args : List Thing) (n : ℕ) → AllHomes args
        → Homely (defined_value b budget call exported d args n)
    defined_homes exported e name None there args n h = tt
    defined_homes exported e name (Some (Primitive own row)) there args n h = value_homes row.prim args h
    defined_homes exported e name (Some (Defined f)) there args n h = form_homes f.body (bind f.formals args []) n (written.bodies name f there) (bind_homes f.formals args [] h nothing_homes)
    defined_homes exported e name (Some (Macro own formals body)) there args n h = tt
    defined_homes exported e name (Some (Constant own value)) there args n h = tt
    defined_homes exported e name (Some (Concrete d class)) there args n h = tt
    defined_homes exported e name (Some (Generated g)) there args n h = generated_homes g args h
    defined_homes exported e name (Some (Abstract d)) there args n h = tt
    defined_homes exported e name (Some (OfAbstract f)) there args n h = e f.logic args n h
    defined_homes exported e name (Some (Named own formals)) there args n h = tt
    defined_homes exported e name (Some (Signed own formals signature executable)) there args n h = tt

  call_homes : (budget nest name : ℕ) (args : List Thing) (n : ℕ) → AllHomes args → Homely (call_within b budget nest name args n)
  unfolding call_within
  call_homes budget zero name args n h = tt
  call_homes budget (suc m) name args n h =
      homely_spending budget 1 n _ (λ z.
      defined_homes budget (call_within b budget m) (call_homes budget m) (logic_of_abstract b budget (call_within b budget m))
      (λ logic os y i. defined_homes budget (call_within b budget m) (call_homes budget m) (λ other ps q. None) (λ other ps q j. tt) logic (definition b.world logic) refl os y i) name (definition b.world name) refl args z h)

  all_of : (os : List Thing) → HaveHomes b os → AllHomes os
  all_of [] h = tt
  all_of (o ∷ os) h = (h.0, all_of os h.1)

  ended_homes : (name : ℕ) (args : List Thing) (v : Thing) → HaveHomes b args → CallEndsWith b name args v → Homes v
  ended_homes name args v h e = subst Homely e.2 (call_homes e.0 e.0 name args 0 (all_of args h))

pub calls_keep_homes : CallsKeepHomes
calls_keep_homes = record { homes = λ b table names written name args v h e. ended_homes b table names written name args v h e }
