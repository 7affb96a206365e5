-- What is known of a form in which no rule fails.
use Rattle.std.proofs.Common.{◌≡◌, ℕ, ◌+◌, List, [], ◌∷◌, ◌++◌, refl, ap}
use Rattle.std.specs.Prelude.{Option, None, Bool, true, false, ◌&&◌, ◌||◌, not, ◌≢◌, map}
use Rattle.std.proofs.lemmas.Bool.{eqb-true}
use Rattle.model_terms.specs.declared.rule.Rule.TheVariants.{S1, S2, S3, S4, S6, S8, S9, S11, S12, S13, S14, S15, S16}
use Rattle.model_terms.specs.declared.rule.Mode.{Mode}
use Rattle.model_terms.specs.declared.rule.Mode.TheVariants.{Executable, Logic, Macro}
use Rattle.model_terms.specs.Cores.{Core, Cores, none, more, Var, If, Let, Mv, MvLet, StobjLet, WithLocal, MustBeEqual, Call, count}
use Rattle.model_terms.specs.Worlds.{World, Out, Ordinary, Stobj, Scope}
use Rattle.model_terms.specs.Classes.{is_stobj_name}
use Rattle.model_terms.specs.Scopes.{in_scope, kind_of, name_kinds, binding, producer_scope, consumer_scope, local_scope, body_scope}
use Rattle.model_terms.specs.Sites.{Placed, down, here, below, below_parts, below_actuals, one_ordinary, parent_in, first_kind, other_kinds, formal_stobj, actual_expected, ins_of}
use Rattle.model_terms.specs.Nested.{same_kind, same_kinds}
use Rattle.model_terms.specs.Rules.{rule_fails, is_misplaced}
use Rattle.model_terms.specs.Accessors.{runs}
use Rattle.model_terms.specs.Faults.{first_fault}
use Rattle.model_terms_laws.specs.Laws.{AllHold}
use Rattle.model_accepted.specs.Accepted.{Hold, Accepted, PartsAccepted, ActualsAccepted}
use Rattle.model_terms_laws.proofs.FirstLemmas.{finds_first}

pub false_true : {A : Type 0} → false ≡ true → A
false_true e = cc

pub true_false : {A : Type 0} → true ≡ false → A
true_false e = cc

pub both_true : (a b : Bool) → (a && b) ≡ true → (a ≡ true) × (b ≡ true)
both_true true true e = (refl, refl)
both_true true false e = false_true e
both_true false b e = false_true e

pub neither : (a b : Bool) → (a || b) ≡ false → (a ≡ false) × (b ≡ false)
neither true b e = true_false e
neither false b e = (refl, e)

pub not_false : (a : Bool) → not a ≡ false → a ≡ true
not_false true e = refl
not_false false e = true_false e

pub not_true : (a : Bool) → not a ≡ true → a ≡ false
not_true true e = false_true e
not_true false e = refl

-- ---- kinds

pub kind_same : (a b : Out) → same_kind a b ≡ true → a ≡ b
kind_same Ordinary Ordinary e = refl
kind_same Ordinary (Stobj y) e = false_true e
kind_same (Stobj x) Ordinary e = false_true e
kind_same (Stobj x) (Stobj y) e = ap Stobj (eqb-true x y e)

pub kinds_same : (a b : List Out) → same_kinds a b ≡ true → a ≡ b
kinds_same [] [] e = refl
kinds_same [] (y ∷ ys) e = false_true e
kinds_same (x ∷ xs) [] e = false_true e
kinds_same (x ∷ xs) (y ∷ ys) e =
    let both : (same_kind x y ≡ true) × (same_kinds xs ys ≡ true) = both_true (same_kind x y) (same_kinds xs ys) e in
    let first : x ≡ y = kind_same x y both.0 in
    let others : xs ≡ ys = kinds_same xs ys both.1 in
    rw (first, others) refl

-- ---- accepted forms

pub accepted_first : (c : World) (mode : Mode) (scope : Scope) (f : Core) (expected : List Out) → first_fault c mode scope f expected ≡ None → Accepted c mode scope f None expected
accepted_first c mode scope f expected e = (finds_first.missing c mode scope f expected).0 e

all_down : (c : World) (mode : Mode) (k : ℕ) (ps : List Placed) → Hold c mode (map (down k) ps) → Hold c mode ps
all_down c mode k [] all = tt
all_down c mode k (p ∷ ps) all = (all.0, all_down c mode k ps all.1)

all_both : (c : World) (mode : Mode) (ps qs : List Placed) → Hold c mode (ps ++ qs) → Hold c mode ps × Hold c mode qs
all_both c mode [] qs all = (tt, all)
all_both c mode (p ∷ ps) qs all = let rest : Hold c mode ps × Hold c mode qs = all_both c mode ps qs all.1 in ((all.0, rest.0), rest.1)

-- the places of child number k, from its root
abbrev kid : World → ℕ → Scope → Core → Option ℕ → List Out → List Placed
kid c k scope f formal expected = map (down k) (here f scope formal expected ∷ below c scope f expected)

last_kid : (c : World) (mode : Mode) (k : ℕ) (scope : Scope) (f : Core) (formal : Option ℕ) (expected : List Out) → Hold c mode (kid c k scope f formal expected) → Accepted c mode scope f formal expected
last_kid c mode k scope f formal expected all = all_down c mode k (here f scope formal expected ∷ below c scope f expected) all

first_kid : (c : World) (mode : Mode) (k : ℕ) (scope : Scope) (f : Core) (formal : Option ℕ) (expected : List Out) (qs : List Placed) → Hold c mode (kid c k scope f formal expected ++ qs)
    → Accepted c mode scope f formal expected × Hold c mode qs
first_kid c mode k scope f formal expected qs all =
    let both : Hold c mode (kid c k scope f formal expected) × Hold c mode qs = all_both c mode (kid c k scope f formal expected) qs all in
    (last_kid c mode k scope f formal expected both.0, both.1)

two_kids : (c : World) (mode : Mode) (inner outer : Scope) (f g : Core) (first second : List Out) → Hold c mode (kid c 0 inner f None first ++ kid c 1 outer g None second)
    → Accepted c mode inner f None first × Accepted c mode outer g None second
two_kids c mode inner outer f g first second all =
    let both : Accepted c mode inner f None first × Hold c mode (kid c 1 outer g None second) = first_kid c mode 0 inner f None first (kid c 1 outer g None second) all in
    (both.0, last_kid c mode 1 outer g None second both.1)

parts_accepted : (c : World) (mode : Mode) (scope : Scope) (kinds : List Out) (k : ℕ) (fs : Cores) → Hold c mode (below_parts c scope kinds k fs) → PartsAccepted c mode scope kinds fs
unfolding below
parts_accepted c mode scope kinds k none all = tt
parts_accepted c mode scope kinds k (more f fs) all =
    let both : Accepted c mode scope f None (first_kind kinds ∷ []) × Hold c mode (below_parts c scope (other_kinds kinds) (k + 1) fs)
    = first_kid c mode k scope f None (first_kind kinds ∷ []) (below_parts c scope (other_kinds kinds) (k + 1) fs) all in
    (both.0, parts_accepted c mode scope (other_kinds kinds) (k + 1) fs both.1)

actuals_accepted : (c : World) (mode : Mode) (scope : Scope) (ins : List Out) (k : ℕ) (fs : Cores) → Hold c mode (below_actuals c scope ins k fs) → ActualsAccepted c mode scope ins fs
unfolding below
actuals_accepted c mode scope ins k none all = tt
actuals_accepted c mode scope ins k (more f fs) all =
    let both : Accepted c mode scope f (formal_stobj (first_kind ins)) (actual_expected (first_kind ins) f) × Hold c mode (below_actuals c scope (other_kinds ins) (k + 1) fs)
    = first_kid c mode k scope f (formal_stobj (first_kind ins)) (actual_expected (first_kind ins) f) (below_actuals c scope (other_kinds ins) (k + 1) fs) all in
    (both.0, actuals_accepted c mode scope (other_kinds ins) (k + 1) fs both.1)

module _ (c : World) (mode : Mode) (scope : Scope) (formal : Option ℕ) (expected : List Out) where
  pub of_if : (a b d : Core) → Accepted c mode scope (If a b d) formal expected → Accepted c mode scope a None one_ordinary × Accepted c mode scope b None expected × Accepted c mode scope d None expected
  unfolding below
  of_if a b d all =
      let test : Accepted c mode scope a None one_ordinary × Hold c mode (kid c 1 scope b None expected ++ kid c 2 scope d None expected)
      = first_kid c mode 0 scope a None one_ordinary (kid c 1 scope b None expected ++ kid c 2 scope d None expected) all.1 in
      let branch : Accepted c mode scope b None expected × Hold c mode (kid c 2 scope d None expected)
      = first_kid c mode 1 scope b None expected (kid c 2 scope d None expected) test.1 in
      (test.0, branch.0, last_kid c mode 2 scope d None expected branch.1)

  pub of_let : (names : List ℕ) (bound : Cores) (body : Core) → Accepted c mode scope (Let names bound body) formal expected
      → PartsAccepted c mode scope (name_kinds c names) bound × Accepted c mode (binding c scope names) body None expected
  unfolding below
  of_let names bound body all =
      let both : Hold c mode (below_parts c scope (name_kinds c names) 0 bound) × Hold c mode (kid c (count bound) (binding c scope names) body None expected)
      = all_both c mode (below_parts c scope (name_kinds c names) 0 bound) (kid c (count bound) (binding c scope names) body None expected) all.1 in
      (parts_accepted c mode scope (name_kinds c names) 0 bound both.0, last_kid c mode (count bound) (binding c scope names) body None expected both.1)

  pub of_mv : (parts : Cores) → Accepted c mode scope (Mv parts) formal expected → PartsAccepted c mode scope expected parts
  unfolding below
  of_mv parts all = parts_accepted c mode scope expected 0 parts all.1

  pub of_mv_let : (names : List ℕ) (bound body : Core) → Accepted c mode scope (MvLet names bound body) formal expected
      → Accepted c mode scope bound None (name_kinds c names) × Accepted c mode (binding c scope names) body None expected
  unfolding below
  of_mv_let names bound body all = two_kids c mode scope (binding c scope names) bound body (name_kinds c names) expected all.1

  pub of_stobj_let : (names : List ℕ) (bound : Cores) (vars : List ℕ) (producer consumer : Core) → Accepted c mode scope (StobjLet names bound vars producer consumer) formal expected
      → Accepted c mode (producer_scope c scope (parent_in bound) names) producer None (name_kinds c vars) × Accepted c mode (consumer_scope c scope names vars) consumer None expected
  unfolding below
  of_stobj_let names bound vars producer consumer all =
      two_kids c mode (producer_scope c scope (parent_in bound) names) (consumer_scope c scope names vars) producer consumer (name_kinds c vars) expected all.1

  pub of_with_local : (stobj : ℕ) (names : List ℕ) (producer body : Core) → Accepted c mode scope (WithLocal stobj names producer body) formal expected
      → Accepted c mode (local_scope c scope stobj) producer None (name_kinds c names) × Accepted c mode (body_scope c scope stobj names) body None expected
  unfolding below
  of_with_local stobj names producer body all =
      two_kids c mode (local_scope c scope stobj) (body_scope c scope stobj names) producer body (name_kinds c names) expected all.1

  pub of_must_be_equal : (logic exec : Core) → Accepted c mode scope (MustBeEqual logic exec) formal expected
      → Accepted c mode scope logic None expected × Accepted c mode scope exec None expected
  unfolding below
  of_must_be_equal logic exec all = two_kids c mode scope scope logic exec expected expected all.1

  pub of_call : (f : ℕ) (actuals : Cores) → Accepted c mode scope (Call f actuals) formal expected → ActualsAccepted c mode scope (ins_of c f) actuals
  unfolding below
  of_call f actuals all = actuals_accepted c mode scope (ins_of c f) 0 actuals all.1

-- ---- rules

module _ (c : World) (mode : Mode) (p : Placed) (n : mode ≢ Logic) (all : AllHold c mode p) where
  pub s1 : rule_fails c S1 p.site ≡ false
  s1 = go mode n all where
    go : (m : Mode) → m ≢ Logic → AllHold c m p → rule_fails c S1 p.site ≡ false
    go Executable n all = all S1
    go Macro n all = all S1
    go Logic n all = absurd (n refl)

  pub s2 : rule_fails c S2 p.site ≡ false
  s2 = go mode n all where
    go : (m : Mode) → m ≢ Logic → AllHold c m p → rule_fails c S2 p.site ≡ false
    go Executable n all = all S2
    go Macro n all = all S2
    go Logic n all = absurd (n refl)

  pub s3 : rule_fails c S3 p.site ≡ false
  s3 = go mode n all where
    go : (m : Mode) → m ≢ Logic → AllHold c m p → rule_fails c S3 p.site ≡ false
    go Executable n all = all S3
    go Macro n all = all S3
    go Logic n all = absurd (n refl)

  pub s4 : rule_fails c S4 p.site ≡ false
  s4 = go mode n all where
    go : (m : Mode) → m ≢ Logic → AllHold c m p → rule_fails c S4 p.site ≡ false
    go Executable n all = all S4
    go Macro n all = all S4
    go Logic n all = absurd (n refl)

  pub s6 : rule_fails c S6 p.site ≡ false
  s6 = go mode n all where
    go : (m : Mode) → m ≢ Logic → AllHold c m p → rule_fails c S6 p.site ≡ false
    go Executable n all = all S6
    go Macro n all = all S6
    go Logic n all = absurd (n refl)

  pub s8 : rule_fails c S8 p.site ≡ false
  s8 = go mode n all where
    go : (m : Mode) → m ≢ Logic → AllHold c m p → rule_fails c S8 p.site ≡ false
    go Executable n all = all S8
    go Macro n all = all S8
    go Logic n all = absurd (n refl)

  pub s9 : rule_fails c S9 p.site ≡ false
  s9 = go mode n all where
    go : (m : Mode) → m ≢ Logic → AllHold c m p → rule_fails c S9 p.site ≡ false
    go Executable n all = all S9
    go Macro n all = all S9
    go Logic n all = absurd (n refl)

  pub s12 : rule_fails c S12 p.site ≡ false
  s12 = go mode n all where
    go : (m : Mode) → m ≢ Logic → AllHold c m p → rule_fails c S12 p.site ≡ false
    go Executable n all = all S12
    go Macro n all = all S12
    go Logic n all = absurd (n refl)

  pub s13 : rule_fails c S13 p.site ≡ false
  s13 = go mode n all where
    go : (m : Mode) → m ≢ Logic → AllHold c m p → rule_fails c S13 p.site ≡ false
    go Executable n all = all S13
    go Macro n all = all S13
    go Logic n all = absurd (n refl)

  pub s14 : rule_fails c S14 p.site ≡ false
  s14 = go mode n all where
    go : (m : Mode) → m ≢ Logic → AllHold c m p → rule_fails c S14 p.site ≡ false
    go Executable n all = all S14
    go Macro n all = all S14
    go Logic n all = absurd (n refl)

-- a variable is in scope
pub var_in_scope : (c : World) (mode : Mode) (scope : Scope) (x : ℕ) (formal : Option ℕ) (expected : List Out) → mode ≢ Logic → AllHold c mode (here (Var x) scope formal expected) → in_scope scope x ≡ true
var_in_scope c Executable scope x formal expected n all = not_false (in_scope scope x) (all S11)
var_in_scope c Macro scope x formal expected n all = go (in_scope scope x) (is_stobj_name c x) (all S11) (all S15)
  where
    go : (a b : Bool) → (not a && not b) ≡ false → b ≡ false → a ≡ true
    go true b e f = refl
    go false true e f = true_false f
    go false false e f = true_false e
var_in_scope c Logic scope x formal expected n all = absurd (n refl)

-- the kind of a variable is expected
pub var_kind : (c : World) (mode : Mode) (scope : Scope) (x : ℕ) (formal : Option ℕ) (expected : List Out) → mode ≢ Logic → AllHold c mode (here (Var x) scope formal expected) → kind_of scope x ∷ [] ≡ expected
var_kind c mode scope x formal expected n all =
    kinds_same (kind_of scope x ∷ []) expected
    (go (is_misplaced scope expected x) (same_kinds (kind_of scope x ∷ []) expected) (s3 c mode (here (Var x) scope formal expected) n all) (s8 c mode (here (Var x) scope formal expected) n all))
  where
    go : (a b : Bool) → a ≡ false → (not a && not b) ≡ false → b ≡ true
    go true b e h = true_false e
    go false true e h = refl
    go false false e h = true_false h

-- a function that is called runs
pub call_runs : (c : World) (mode : Mode) (scope : Scope) (f : ℕ) (actuals : Cores) (formal : Option ℕ) (expected : List Out) → mode ≢ Logic → AllHold c mode (here (Call f actuals) scope formal expected) → runs c f ≡ true
call_runs c Executable scope f actuals formal expected n all = not_false (runs c f) (all S16)
call_runs c Macro scope f actuals formal expected n all = not_false (runs c f) (all S16)
call_runs c Logic scope f actuals formal expected n all = absurd (n refl)
