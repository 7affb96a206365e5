-- A form in which no rule fails gives the expected outputs.
use Rattle.std.proofs.Common.{◌≡◌, ℕ, ◌+◌, List, [], ◌∷◌, ◌++◌, length, refl, ap, arith}
use Rattle.std.specs.Prelude.{Option, Some, None, Bool, true, false, ◌&&◌, ◌||◌, not, ◌≢◌, nat_eq, map, unwrap_or}
use Rattle.std.specs.Option.{option_or, option_map_or}
use Rattle.std.specs.List.{AllByRecursion}
use Rattle.std.proofs.lemmas.Bool.{eqb-true}
use Rattle.model_terms.specs.declared.rule.Rule.TheVariants.{S3, S8, S9}
use Rattle.model_terms.specs.declared.rule.Mode.{Mode}
use Rattle.model_terms.specs.declared.rule.Mode.TheVariants.{Executable, Logic, Macro}
use Rattle.model_terms.specs.Cores.{Core, Cores, none, more, Var, Const, If, Let, Mv, MvLet, StobjLet, WithLocal, MustBeEqual, Call, variable, count}
use Rattle.model_terms.specs.Worlds.{World, Out, Ordinary, Stobj, Scope}
use Rattle.model_terms.specs.Classes.{stobjs, repeats}
use Rattle.model_terms.specs.Scopes.{kind_of, name_kinds, binding, producer_scope, consumer_scope, local_scope, body_scope}
use Rattle.model_terms.specs.Outputs.{outputs, outs, part_kinds}
use Rattle.model_terms.specs.Sites.{Placed, down, here, below, below_parts, one_ordinary, parent_in}
use Rattle.model_terms.specs.Nested.{same_kind, same_kinds}
use Rattle.model_terms.specs.Rules.{is_misplaced, is_wrong_part, any_wrong_part, rule_fails}
use Rattle.model_terms_laws.specs.Laws.{AllHold, GivesExpected}
use Rattle.model_terms_laws.proofs.FirstLemmas.{finds_first}

false_true : {A : Type 0} → false ≡ true → A
false_true e = cc

true_false : {A : Type 0} → true ≡ false → A
true_false e = cc

-- ---- kinds

kind_same : (a b : Out) → same_kind a b ≡ true → a ≡ b
kind_same Ordinary Ordinary e = refl
kind_same Ordinary (Stobj y) e = false_true e
kind_same (Stobj x) Ordinary e = false_true e
kind_same (Stobj x) (Stobj y) e = ap Stobj (eqb-true x y e)

both_true : (a b : Bool) → (a && b) ≡ true → (a ≡ true) × (b ≡ true)
both_true true true e = (refl, refl)
both_true true false e = false_true e
both_true false b e = false_true e

kinds_same : (a b : List Out) → same_kinds a b ≡ true → a ≡ b
kinds_same [] [] e = refl
kinds_same [] (y ∷ ys) e = false_true e
kinds_same (x ∷ xs) [] e = false_true e
kinds_same (x ∷ xs) (y ∷ ys) e =
    let both : (same_kind x y ≡ true) × (same_kinds xs ys ≡ true) = both_true (same_kind x y) (same_kinds xs ys) e in
    let first : x ≡ y = kind_same x y both.0 in
    let others : xs ≡ ys = kinds_same xs ys both.1 in
    rw (first, others) refl

-- ---- what holds at a site

holds_at : (w : World) (mode : Mode) (p : Placed) → mode ≢ Logic → AllHold w mode p → (rule_fails w S3 p.site ≡ false) × (rule_fails w S8 p.site ≡ false) × (rule_fails w S9 p.site ≡ false)
holds_at w Executable p n all = (all S3, all S8, all S9)
holds_at w Macro p n all = (all S3, all S8, all S9)
holds_at w Logic p n all = absurd (n refl)

not_false : (a : Bool) → not a ≡ false → a ≡ true
not_false true e = refl
not_false false e = true_false e

not_misplaced : (a b : Bool) → a ≡ false → (not a && not b) ≡ false → b ≡ true
not_misplaced true b e h = true_false e
not_misplaced false true e h = refl
not_misplaced false false e h = true_false h

neither : (a b : Bool) → (a || b) ≡ false → (a ≡ false) × (b ≡ false)
neither true b e = true_false e
neither false b e = (refl, e)

-- ---- places of children

all_down : (w : World) (mode : Mode) (k : ℕ) (ps : List Placed) → AllByRecursion (AllHold w mode) (map (down k) ps) → AllByRecursion (AllHold w mode) ps
all_down w mode k [] all = tt
all_down w mode k (p ∷ ps) all = (all.0, all_down w mode k ps all.1)

all_both : (w : World) (mode : Mode) (ps qs : List Placed) → AllByRecursion (AllHold w mode) (ps ++ qs) → AllByRecursion (AllHold w mode) ps × AllByRecursion (AllHold w mode) qs
all_both w mode [] qs all = (tt, all)
all_both w mode (p ∷ ps) qs all = let rest : AllByRecursion (AllHold w mode) ps × AllByRecursion (AllHold w mode) qs = all_both w mode ps qs all.1 in ((all.0, rest.0), rest.1)

-- ---- forms

either_branch : (b c : Option (List Out)) (expected : List Out) → unwrap_or b one_ordinary ≡ expected → unwrap_or c one_ordinary ≡ expected → unwrap_or (option_or b c) one_ordinary ≡ expected
either_branch None c expected first second = second
either_branch (Some os) c expected first second = first

part_gives : (w : World) (scope : Scope) (kind : Out) (f : Core) → is_wrong_part kind f ≡ false → outs w scope f ≡ kind ∷ [] → option_map_or (kind_of scope) (variable f) Ordinary ≡ kind
unfolding outputs
part_gives w scope kind (Var x) right e = cc
part_gives w scope Ordinary f right e = refl
part_gives w scope (Stobj x) f right e = true_false right

-- the places of child number k, from its root
abbrev child : World → ℕ → Scope → Core → List Out → List Placed
child w k scope f expected = map (down k) (here f scope None expected ∷ below w scope f expected)

-- all rules hold at each of some places
abbrev Hold : World → Mode → List Placed → Type 0
Hold w mode ps = AllByRecursion (AllHold w mode) ps

-- all rules hold at the form and at each place below it
abbrev Accepted : World → Mode → Scope → Core → Option ℕ → List Out → Type 0
Accepted w mode scope f formal expected = Hold w mode (here f scope formal expected ∷ below w scope f expected)

last_child : (w : World) (mode : Mode) (k : ℕ) (scope : Scope) (f : Core) (expected : List Out) → Hold w mode (child w k scope f expected) → Accepted w mode scope f None expected
last_child w mode k scope f expected all = all_down w mode k (here f scope None expected ∷ below w scope f expected) all

-- of a child, and of what comes after it
first_child : (w : World) (mode : Mode) (k : ℕ) (scope : Scope) (f : Core) (expected : List Out) (qs : List Placed) → Hold w mode (child w k scope f expected ++ qs)
    → Accepted w mode scope f None expected × Hold w mode qs
first_child w mode k scope f expected qs all =
    let both : Hold w mode (child w k scope f expected) × Hold w mode qs = all_both w mode (child w k scope f expected) qs all in
    (last_child w mode k scope f expected both.0, both.1)

-- S3, S8 and S9 hold at the form
abbrev Three : World → Placed → Type 0
Three w p = (rule_fails w S3 p.site ≡ false) × (rule_fails w S8 p.site ≡ false) × (rule_fails w S9 p.site ≡ false)

mutual
  unfolding outputs below

  gives : (w : World) (mode : Mode) (scope : Scope) (f : Core) (formal : Option ℕ) (expected : List Out) → mode ≢ Logic → Accepted w mode scope f formal expected → outs w scope f ≡ expected
  gives w mode scope (Var x) formal expected n all =
      let rules : Three w (here (Var x) scope formal expected) = holds_at w mode (here (Var x) scope formal expected) n all.0 in
      kinds_same (kind_of scope x ∷ []) expected (not_misplaced (is_misplaced scope expected x) (same_kinds (kind_of scope x ∷ []) expected) rules.0 rules.1)
  gives w mode scope (Const o) formal expected n all =
      let rules : Three w (here (Const o) scope formal expected) = holds_at w mode (here (Const o) scope formal expected) n all.0 in
      kinds_same one_ordinary expected (not_false (same_kinds one_ordinary expected) rules.1)
  gives w mode scope (If a b c) formal expected n all =
      let test : Accepted w mode scope a None one_ordinary × Hold w mode (child w 1 scope b expected ++ child w 2 scope c expected) = first_child w mode 0 scope a one_ordinary (child w 1 scope b expected ++ child w 2 scope c expected) all.1 in
      let branch : Accepted w mode scope b None expected × Hold w mode (child w 2 scope c expected) = first_child w mode 1 scope b expected (child w 2 scope c expected) test.1 in
      either_branch (outputs w [] scope b) (outputs w [] scope c) expected (gives w mode scope b None expected n branch.0) (gives w mode scope c None expected n (last_child w mode 2 scope c expected branch.1))
  gives w mode scope (Let names bound body) formal expected n all =
      let both : Hold w mode (below_parts w scope (name_kinds w names) 0 bound) × Hold w mode (child w (count bound) (binding w scope names) body expected)
      = all_both w mode (below_parts w scope (name_kinds w names) 0 bound) (child w (count bound) (binding w scope names) body expected) all.1 in
      gives w mode (binding w scope names) body None expected n (last_child w mode (count bound) (binding w scope names) body expected both.1)
  gives w mode scope (Mv parts) formal expected n all =
      let rules : Three w (here (Mv parts) scope formal expected) = holds_at w mode (here (Mv parts) scope formal expected) n all.0 in
      let counted : (not (nat_eq (count parts) (length expected)) ≡ false) × ((any_wrong_part expected parts || repeats (stobjs expected)) ≡ false) = neither _ _ rules.2 in
      let right : (any_wrong_part expected parts ≡ false) × (repeats (stobjs expected) ≡ false) = neither _ _ counted.1 in
      parts_give w mode scope expected 0 parts n (eqb-true (count parts) (length expected) (not_false (nat_eq (count parts) (length expected)) counted.0)) right.0 all.1
  gives w mode scope (MvLet names bound body) formal expected n all =
      let both : Accepted w mode scope bound None (name_kinds w names) × Hold w mode (child w 1 (binding w scope names) body expected)
      = first_child w mode 0 scope bound (name_kinds w names) (child w 1 (binding w scope names) body expected) all.1 in
      gives w mode (binding w scope names) body None expected n (last_child w mode 1 (binding w scope names) body expected both.1)
  gives w mode scope (StobjLet names bound vars producer consumer) formal expected n all =
      let both : Accepted w mode (producer_scope w scope (parent_in bound) names) producer None (name_kinds w vars) × Hold w mode (child w 1 (consumer_scope w scope names vars) consumer expected)
      = first_child w mode 0 (producer_scope w scope (parent_in bound) names) producer (name_kinds w vars) (child w 1 (consumer_scope w scope names vars) consumer expected) all.1 in
      gives w mode (consumer_scope w scope names vars) consumer None expected n (last_child w mode 1 (consumer_scope w scope names vars) consumer expected both.1)
  gives w mode scope (WithLocal stobj names producer body) formal expected n all =
      let both : Accepted w mode (local_scope w scope stobj) producer None (name_kinds w names) × Hold w mode (child w 1 (body_scope w scope stobj names) body expected)
      = first_child w mode 0 (local_scope w scope stobj) producer (name_kinds w names) (child w 1 (body_scope w scope stobj names) body expected) all.1 in
      gives w mode (body_scope w scope stobj names) body None expected n (last_child w mode 1 (body_scope w scope stobj names) body expected both.1)
  gives w mode scope (MustBeEqual logic exec) formal expected n all =
      let both : Accepted w mode scope logic None expected × Hold w mode (child w 1 scope exec expected) = first_child w mode 0 scope logic expected (child w 1 scope exec expected) all.1 in
      gives w mode scope logic None expected n both.0
  gives w mode scope (Call f actuals) formal expected n all =
      let rules : Three w (here (Call f actuals) scope formal expected) = holds_at w mode (here (Call f actuals) scope formal expected) n all.0 in
      kinds_same (outs w scope (Call f actuals)) expected (not_false (same_kinds (outs w scope (Call f actuals)) expected) rules.1)

  parts_give : (w : World) (mode : Mode) (scope : Scope) (kinds : List Out) (k : ℕ) (parts : Cores) → mode ≢ Logic → count parts ≡ length kinds → any_wrong_part kinds parts ≡ false
      → Hold w mode (below_parts w scope kinds k parts) → part_kinds scope parts ≡ kinds
  parts_give w mode scope [] k none n c right all = refl
  parts_give w mode scope (kind ∷ kinds) k none n c right all = absurd (omega (arith, c))
  parts_give w mode scope [] k (more f fs) n c right all = absurd (omega (arith, c))
  parts_give w mode scope (kind ∷ kinds) k (more f fs) n c right all =
      let both : Accepted w mode scope f None (kind ∷ []) × Hold w mode (below_parts w scope kinds (k + 1) fs) = first_child w mode k scope f (kind ∷ []) (below_parts w scope kinds (k + 1) fs) all in
      let rights : (is_wrong_part kind f ≡ false) × (any_wrong_part kinds fs ≡ false) = neither _ _ right in
      let first : option_map_or (kind_of scope) (variable f) Ordinary ≡ kind = part_gives w scope kind f rights.0 (gives w mode scope f None (kind ∷ []) n both.0) in
      let fewer : count fs ≡ length kinds = omega (arith, c) in
      let others : part_kinds scope fs ≡ kinds = parts_give w mode scope kinds (k + 1) fs n fewer rights.1 both.1 in
      rw (first, others) refl

pub gives_expected : GivesExpected
gives_expected =
    record { given = λ w mode scope f expected n e. gives w mode scope f None expected n ((finds_first.missing w mode scope f expected).0 e) }
