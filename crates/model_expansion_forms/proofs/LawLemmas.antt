-- The laws of the core forms that an expansion makes.
use Rattle.std.specs.Prelude.{unwrap_or}
use Rattle.std.proofs.Common.{◌≡◌, ℕ, ◌≤◌, List, [], ◌∷◌, Option, Some, subst, arith}
use Rattle.model_objects.specs.Object.{Object, Integer, Symbol, Text, Pair}
use Rattle.model_objects.specs.Named.{Symbols}
use Rattle.model_terms.specs.Cores.{Core, Var, Const, If, Let, Mv, MvLet, StobjLet, WithLocal, MustBeEqual, Call}
use Rattle.model_terms.specs.Worlds.{World, OptionalFormal, MacroFormals, Macro, definition}
use Rattle.model_eval.specs.Outcomes.{Outcome, Gives, Stops, Unknown}
use Rattle.model_expansion.specs.TypeTerms.{depth_of, type_term, declared_test}
use Rattle.model_expansion.specs.Layers.{GuardItem, FormHolds, Meets, Form, Guard}
use Rattle.model_expansion.specs.Expansion.{deepest_core, Setting, Progress, Expanded, Makes, macro_values, body_value, expanded, expanded_guard}
use Rattle.model_expansion_laws.proofs.NestingLemmas.{cores_are_not_too_deep}
use Rattle.model_expansion_forms.specs.Nodes.{EachNode, IsOwnCall, HasForms, HasSeveral, HasConstant, IsBelow, IsWellCalled}
use Rattle.model_expansion_forms.specs.Rows.{HasRowFunctions, AreShapedItems, AreKnownItems, AllKnown, AreKnownDefaults, IsKnownValue, Supplies}
use Rattle.model_expansion_forms.specs.Laws.{FormsAreWellCalled, FormsAreKnown, TestsAreShaped}
use Rattle.model_expansion_forms.proofs.NodeLemmas.{each_wider, each_both, IsShapedNode, IsShaped, IsNode, IsGood}
use Rattle.model_expansion_forms.proofs.PartLemmas.{AllHave, AllHaveIfAny}
use Rattle.model_expansion_forms.proofs.TypeLemmas.{ShapedIfAny, term_shaped, test_shaped}
use Rattle.model_expansion_forms.proofs.RowLemmas.{AreGoodItems}
use Rattle.model_expansion_forms.proofs.TableLemmas.{symbols_wider}
use Rattle.model_expansion_forms.proofs.PlaceLemmas.{size, IsGiven, Keeps}
use Rattle.model_expansion_forms.proofs.GrownLemmas.{IsGoodForm, grown_good}
use Rattle.model_expansion_forms.proofs.ValueLemmas.{DefaultsHave, values_have}

-- ---- whatever the symbols are

abbrev Any : ℕ → Type 0
Any s = Unit {0}

any_symbols : (o : Object ℕ) → Symbols Any o
any_symbols (Integer n) = tt
any_symbols (Symbol s) = tt
any_symbols (Text bytes) = tt
any_symbols (Pair a d) = (any_symbols a, any_symbols d)

any_constant : (f : Core) → HasConstant Any f
any_constant (Var x) = tt
any_constant (Const o) = any_symbols o
any_constant (If a b c) = tt
any_constant (Let names bound body) = tt
any_constant (Mv parts) = tt
any_constant (MvLet names bound body) = tt
any_constant (StobjLet names bound vars producer consumer) = tt
any_constant (WithLocal stobj names producer body) = tt
any_constant (MustBeEqual logic exec) = tt
any_constant (Call f actuals) = tt

any_given : (e : Outcome ℕ) → IsGiven (λ m. Any) e
any_given (Gives values state) = any_symbols _
any_given (Stops stop inside state) = tt
any_given Unknown = tt

any_keeps : (x : Setting) → Keeps (λ m. Any) x 0
any_keeps x = record {
  later = λ a b s l h. tt;
  true_symbol = tt;
  nil_symbol = tt;
  constants = λ s name value e. any_symbols value;
  given = λ s name formals body e os p enough h values f. any_given (body_value x formals body values p);
}

shaped_of : (f : Core) → EachNode HasForms f → EachNode HasSeveral f → IsShaped Any f
shaped_of f h k = each_both HasForms HasSeveral (IsShapedNode Any) (λ g a b. record { forms = a; several = b; constant = any_constant g }) f h k

any_items : (w : World) (gs : List GuardItem) → AreShapedItems gs → AreGoodItems w Any gs
any_items w [] h = tt
any_items w (FormHolds o ∷ gs) h = (any_symbols o, any_items w gs h.1)
any_items w (Meets f ∷ gs) h = (shaped_of f h.0.0 h.0.1, any_items w gs h.1)

-- ---- known symbols

all_have : (n : ℕ) (os : List (Object ℕ)) → AllHave (IsBelow n) os → AllKnown n os
all_have n [] h = tt
all_have n (o ∷ os) h = (h.0, all_have n os h.1)

known_later : (a b : ℕ) → a ≤ b → (s : ℕ) → IsBelow a s → IsBelow b s
known_later a b l s h = omega (arith, l, h)

defaults_later : (a b : ℕ) → a ≤ b → (fs : List OptionalFormal) → AreKnownDefaults a fs → DefaultsHave (IsBelow b) fs
defaults_later a b l [] h = tt
defaults_later a b l (f ∷ fs) h = (symbols_wider (IsBelow a) (IsBelow b) (known_later a b l) f.default h.0, defaults_later a b l fs h.1)

known_given : (e : Outcome ℕ) → IsKnownValue e → IsGiven IsBelow e
known_given (Gives values state) h = h
known_given (Stops stop inside state) h = tt
known_given Unknown h = tt

module _ (x : Setting) (n : ℕ) (s : Supplies x n) where
  defaults_known : (p : Progress) → n ≤ size p → (fs : List OptionalFormal) → AreKnownDefaults n fs → DefaultsHave (IsBelow (size p)) fs
  defaults_known p enough fs h = defaults_later n (size p) enough fs h

  below_given : (f name : ℕ) (formals : MacroFormals) (body : Core) → definition x.world f ≡ Some (Macro name formals body) → (os : List (Object ℕ)) (p : Progress)
      → n ≤ size p → AllHave (IsBelow (size p)) os → (values : List (Object ℕ)) → macro_values p.symbols formals os ≡ Some values → IsGiven IsBelow (body_value x formals body values p)
  below_given f name formals body e os p enough h values same =
      let two : 2 ≤ n = s.enough in
      let all : AllHaveIfAny (IsBelow (size p)) (macro_values p.symbols formals os) =
      values_have (IsBelow (size p)) (omega (arith, two, enough)) (omega (arith, two, enough)) p.symbols formals
      (defaults_known p enough formals.optional (s.optional f name formals body e)) (defaults_known p enough (unwrap_or formals.keys []) (s.keys f name formals body e)) os h in
      let given : AllHaveIfAny (IsBelow (size p)) (Some values) = subst (λ (v : Option (List (Object ℕ))). AllHaveIfAny (IsBelow (size p)) v) same all in
      known_given (body_value x formals body values p) (s.values f name formals body e values p enough (all_have (size p) values given))

  below_keeps : Keeps IsBelow x n
  below_keeps =
      let two : 2 ≤ n = s.enough in
      record {
        later = known_later_symbol;
        true_symbol = omega (arith, two);
        nil_symbol = omega (arith, two);
        constants = s.constants;
        given = below_given;
      }
    where
      known_later_symbol : (a b t : ℕ) → a ≤ b → IsBelow a t → IsBelow b t
      known_later_symbol a b t l h = known_later a b l t h

-- a shaped form whose constants are known
shaped_with : (P : ℕ → Type 0) (f : Core) → EachNode HasForms f → EachNode HasSeveral f → EachNode (HasConstant P) f → IsShaped P f
shaped_with P f h k c =
    each_both (IsShapedNode Any) (HasConstant P) (IsShapedNode P) (λ g a b. record { forms = a.forms; several = a.several; constant = b }) f (shaped_of f h k) c

known_items : (w : World) (n : ℕ) (gs : List GuardItem) → AreShapedItems gs → AreKnownItems n gs → AreGoodItems w (IsBelow n) gs
known_items w n [] h k = tt
known_items w n (FormHolds o ∷ gs) h k = (k.0, known_items w n gs h.1 k.1)
known_items w n (Meets f ∷ gs) h k = (shaped_with (IsBelow n) f h.0.0 h.0.1 k.0, known_items w n gs h.1 k.1)

-- ---- the laws

module _ (x : Setting) (r : HasRowFunctions x.world) where
  good_form : (o : Object ℕ) (p : Progress) → IsGoodForm x (λ m. Any) 0 (any_keeps x) r p (expanded x o p)
  good_form o p = grown_good x (λ m. Any) 0 (any_keeps x) r deepest_core (Form o) p (omega arith) (any_symbols o)

  good_guard : (gs : List GuardItem) (p : Progress) → AreShapedItems gs → IsGoodForm x (λ m. Any) 0 (any_keeps x) r p (expanded_guard x gs p)
  good_guard gs p h = grown_good x (λ m. Any) 0 (any_keeps x) r deepest_core (Guard gs) p (omega arith) (any_items x.world gs h)

  well_called : (f : Core) → IsGood x.world Any f → depth_of f ≤ deepest_core → IsWellCalled x.world f
  well_called f h d = record {
    closed = each_wider (IsNode x.world Any) (IsOwnCall x.world) (λ g k. k.own) f h;
    formed = each_wider (IsNode x.world Any) HasForms (λ g k. k.shaped.forms) f h;
    several = each_wider (IsNode x.world Any) HasSeveral (λ g k. k.shaped.several) f h;
    depth = d;
  }

  called_form : (o : Object ℕ) (p q : Progress) (f : Core) → expanded x o p ≡ Makes f q → IsWellCalled x.world f
  called_form o p q f e = well_called f (subst (λ (y : Expanded Core). IsGoodForm x (λ m. Any) 0 (any_keeps x) r p y) e (good_form o p)).1 (cores_are_not_too_deep.form x o p q f e)

  called_guard : (gs : List GuardItem) → AreShapedItems gs → (p q : Progress) (f : Core) → expanded_guard x gs p ≡ Makes f q → IsWellCalled x.world f
  called_guard gs h p q f e =
      well_called f (subst (λ (y : Expanded Core). IsGoodForm x (λ m. Any) 0 (any_keeps x) r p y) e (good_guard gs p h)).1 (cores_are_not_too_deep.guard x gs p q f e)

  module _ (n : ℕ) (s : Supplies x n) where
    known_of : (p q : Progress) (f : Core) (e : Expanded Core) → e ≡ Makes f q → IsGoodForm x IsBelow n (below_keeps x n s) r p e → EachNode (HasConstant (IsBelow (size q))) f
    known_of p q f e same h =
        each_wider (IsNode x.world (IsBelow (size q))) (HasConstant (IsBelow (size q))) (λ g k. k.shaped.constant) f
        (subst (λ (y : Expanded Core). IsGoodForm x IsBelow n (below_keeps x n s) r p y) same h).1

    known_form : (o : Object ℕ) (p q : Progress) (f : Core) → n ≤ size p → Symbols (IsBelow (size p)) o → expanded x o p ≡ Makes f q → EachNode (HasConstant (IsBelow (size q))) f
    known_form o p q f enough h e = known_of p q f (expanded x o p) e (grown_good x IsBelow n (below_keeps x n s) r deepest_core (Form o) p enough h)

    known_guard : (gs : List GuardItem) → AreShapedItems gs → (p q : Progress) (f : Core) → n ≤ size p → AreKnownItems (size p) gs → expanded_guard x gs p ≡ Makes f q → EachNode (HasConstant (IsBelow (size q))) f
    known_guard gs h p q f enough k e =
        known_of p q f (expanded_guard x gs p) e (grown_good x IsBelow n (below_keeps x n s) r deepest_core (Guard gs) p enough (known_items x.world (size p) gs h k))

pub forms_are_well_called : FormsAreWellCalled
forms_are_well_called = record { form = called_form; guard = called_guard }

pub forms_are_known : FormsAreKnown
forms_are_known = record {
  form = λ x n r s. known_form x r n s;
  guard = λ x n r s. known_guard x r n s;
}

-- ---- tests of types

shaped_some : (P : ℕ → Type 0) (r : Option Core) (f : Core) → r ≡ Some f → ShapedIfAny P r → IsShaped P f
shaped_some P r f e h = subst (λ (v : Option Core). ShapedIfAny P v) e h

both_shapes : (f : Core) → IsShaped Any f → EachNode HasForms f × EachNode HasSeveral f
both_shapes f h = (each_wider (IsShapedNode Any) HasForms (λ g k. k.forms) f h, each_wider (IsShapedNode Any) HasSeveral (λ g k. k.several) f h)

shaped_term : (written : Object ℕ) (x f : Core) → EachNode HasForms x → EachNode HasSeveral x → type_term written x ≡ Some f → EachNode HasForms f × EachNode HasSeveral f
shaped_term written x f h k e = both_shapes f (shaped_some Any (type_term written x) f e (term_shaped Any tt tt x (shaped_of x h k) written (any_symbols written)))

shaped_declared : (written : Object ℕ) (x f : Core) → EachNode HasForms x → EachNode HasSeveral x → declared_test x written ≡ Some f → EachNode HasForms f × EachNode HasSeveral f
shaped_declared written x f h k e = both_shapes f (shaped_some Any (declared_test x written) f e (test_shaped Any tt tt x (shaped_of x h k) written (any_symbols written)))

module _ (n : ℕ) (two : 2 ≤ n) (written : Object ℕ) (x f : Core) (known : Symbols (IsBelow n) written) (h : EachNode HasForms x) (k : EachNode HasSeveral x) (c : EachNode (HasConstant (IsBelow n)) x) where
  constants_of : IsShaped (IsBelow n) f → EachNode (HasConstant (IsBelow n)) f
  constants_of s = each_wider (IsShapedNode (IsBelow n)) (HasConstant (IsBelow n)) (λ g l. l.constant) f s

  known_term : type_term written x ≡ Some f → EachNode (HasConstant (IsBelow n)) f
  known_term e =
      constants_of (shaped_some (IsBelow n) (type_term written x) f e (term_shaped (IsBelow n) (omega (arith, two)) (omega (arith, two)) x (shaped_with (IsBelow n) x h k c) written known))

  known_declared : declared_test x written ≡ Some f → EachNode (HasConstant (IsBelow n)) f
  known_declared e =
      constants_of (shaped_some (IsBelow n) (declared_test x written) f e (test_shaped (IsBelow n) (omega (arith, two)) (omega (arith, two)) x (shaped_with (IsBelow n) x h k c) written known))

pub tests_are_shaped : TestsAreShaped
tests_are_shaped = record {
  term = shaped_term;
  test = shaped_declared;
  known_term = λ n written x f two known h k c. known_term n two written x f known h k c;
  known_test = λ n written x f two known h k c. known_declared n two written x f known h k c;
}
