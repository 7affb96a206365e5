-- Lists of stobjs, and more stobjs behind them.
use Rattle.std.proofs.Common.{◌≡◌, ℕ, zero, suc, ◌+◌, ◌≤◌, List, [], ◌∷◌, ◌++◌, map, length, drop, Bool, true, false, Option, Some, None, refl, sym, ap, ◌∙◌, subst, arith}
use Rattle.std.specs.Prelude.{nat_eq, ◌||◌, if◌then◌else◌}
use Rattle.std.proofs.lemmas.Bool.Decides.{nat_tests}
use Rattle.std.proofs.lemmas.List.{drop-append-le, length-append}
use Rattle.std.proofs.Math.Seq.{drop-append_seam}
use Rattle.model_prims.specs.Kinds.{SymbolKind}
use Rattle.model_lists.specs.Lists.{StobjList}
use Rattle.model_eval.specs.Outcomes.{Shown, Plain, StobjNamed, Stobjs}
use Rattle.model_eval.specs.Variables.{Variables, variable_in, bound, list_of, with_list, inner_variables, inner_stobjs, handed_back, actual_for, outer_value, first_stobj, plain}
use Rattle.model_eval.specs.GeneratedCalls.{list_or_none}
use Rattle.model_eval.specs.Lending.{Loan, lent, put_into_parent, with_child}
use Rattle.model_eval.specs.ListsKeeping.{lists_keeping, list_restored, all_put}
use Rattle.model_eval_laws.specs.Scope.{names, is_among, InScope, AllInScope}

pub same_number : (x : ℕ) → nat_eq x x ≡ true
same_number x = grind (arith, nat_tests)

either_true : (b c : Bool) → c ≡ true → (b || c) ≡ true
either_true true c e = refl
either_true false c e = e

-- ---- names

pub among_more : (x : ℕ) (ms ns : List ℕ) → is_among x ns ≡ true → is_among x (ms ++ ns) ≡ true
among_more x [] ns e = e
among_more x (m ∷ ms) ns e = either_true (nat_eq x m) (is_among x (ms ++ ns)) (among_more x ms ns e)

pub among_first : (x : ℕ) (ms ns : List ℕ) → is_among x ms ≡ true → is_among x (ms ++ ns) ≡ true
among_first x [] ns e = cc
among_first x (m ∷ ms) ns e = go (nat_eq x m) (among_first x ms ns) e
  where
    go : (b : Bool) → (is_among x ms ≡ true → is_among x (ms ++ ns) ≡ true) → (b || is_among x ms) ≡ true → (b || is_among x (ms ++ ns)) ≡ true
    go true h e = refl
    go false h e = h e

-- a stobj, if it is one, is among these
abbrev pub OptionIn : List ℕ → Option ℕ → Type 0
OptionIn ns None = Unit {0}
OptionIn ns (Some x) = is_among x ns ≡ true

module _ {S : Type 0} where
  -- each value is in scope
  abbrev pub ValuesIn : List ℕ → List (Shown S) → Type 0
  ValuesIn ns [] = Unit {0}
  ValuesIn ns (v ∷ vs) = InScope ns v × ValuesIn ns vs

  pub scope_more : (ms ns : List ℕ) (v : Shown S) → InScope ns v → InScope (ms ++ ns) v
  scope_more ms ns (Plain o) h = tt
  scope_more ms ns (StobjNamed x) h = among_more x ms ns h

  pub variables_more : (ms ns : List ℕ) (vs : Variables S) → AllInScope ns vs → AllInScope (ms ++ ns) vs
  variables_more ms ns [] h = tt
  variables_more ms ns (v ∷ vs) h = (scope_more ms ns v.1 h.0, variables_more ms ns vs h.1)

  pub scope_variable : (k : SymbolKind S) (ns : List ℕ) (vs : Variables S) (x : ℕ) → AllInScope ns vs → InScope ns (variable_in k vs x)
  scope_variable k ns [] x h = tt
  scope_variable k ns (v ∷ vs) x h = go (nat_eq x v.0) (scope_variable k ns vs x h.1)
    where
      go : (b : Bool) → InScope ns (variable_in k vs x) → InScope ns (if b then v.1 else variable_in k vs x)
      go true i = h.0
      go false i = i

  pub scope_bound : (ns xs : List ℕ) (values : List (Shown S)) (vs : Variables S) → AllInScope ns vs → AllInScope ns (bound xs values vs)
  scope_bound ns [] values vs h = h
  scope_bound ns (x ∷ xs) [] vs h = h
  scope_bound ns (x ∷ xs) (Plain o ∷ values) vs h = (tt, scope_bound ns xs values vs h)
  scope_bound ns (x ∷ xs) (StobjNamed y ∷ values) vs h = scope_bound ns xs values vs h

  pub values_append : (ns : List ℕ) (vs : List (Shown S)) (v : Shown S) → ValuesIn ns vs → InScope ns v → ValuesIn ns (vs ++ v ∷ [])
  values_append ns [] v h i = (i, tt)
  values_append ns (u ∷ vs) v h i = (h.0, values_append ns vs v h.1 i)

  pub values_plain : (ns : List ℕ) (os : List _) → ValuesIn ns (plain {S = S} os)
  values_plain ns [] = tt
  values_plain ns (o ∷ os) = (tt, values_plain ns os)

  -- ---- lists

  pub list_widened : (os more : Stobjs S) (x : ℕ) → is_among x (names os) ≡ true → list_of (os ++ more) x ≡ list_of os x
  list_widened [] more x e = cc
  list_widened (o ∷ os) more x e = go (nat_eq x o.0) (list_widened os more x) e
    where
      go : (b : Bool) → (is_among x (names os) ≡ true → list_of (os ++ more) x ≡ list_of os x) → (b || is_among x (names os)) ≡ true → (if b then o.1 else list_of (os ++ more) x) ≡ (if b then o.1 else list_of os x)
      go true h e = refl
      go false h e = h e

  pub write_widened : (x : ℕ) (l : StobjList S) (os more : Stobjs S) → is_among x (names os) ≡ true → with_list x l (os ++ more) ≡ with_list x l os ++ more
  write_widened x l [] more e = cc
  write_widened x l (o ∷ os) more e = go (nat_eq x o.0) (write_widened x l os more) e
    where
      go : (b : Bool) → (is_among x (names os) ≡ true → with_list x l (os ++ more) ≡ with_list x l os ++ more) → (b || is_among x (names os)) ≡ true
          → (if b then (o.0, l) ∷ (os ++ more) else o ∷ with_list x l (os ++ more)) ≡ (if b then (o.0, l) ∷ os else o ∷ with_list x l os) ++ more
      go true h e = refl
      go false h e = ap (λ (ps : Stobjs S). o ∷ ps) (h e)

  pub names_write : (x : ℕ) (l : StobjList S) (os : Stobjs S) → names (with_list x l os) ≡ names os
  names_write x l [] = refl
  names_write x l (o ∷ os) = go (nat_eq x o.0) (names_write x l os)
    where
      go : (b : Bool) → names (with_list x l os) ≡ names os → names (if b then (o.0, l) ∷ os else o ∷ with_list x l os) ≡ o.0 ∷ names os
      go true h = refl
      go false h = ap (λ (ns : List ℕ). o.0 ∷ ns) h

  -- ---- calls

  pub handed_widened : (xs : List ℕ) (vs : List (Shown S)) (os more : Stobjs S) → ValuesIn (names os) vs → inner_stobjs xs vs (os ++ more) ≡ inner_stobjs xs vs os
  handed_widened [] vs os more h = refl
  handed_widened (x ∷ xs) [] os more h = refl
  handed_widened (x ∷ xs) (Plain o ∷ vs) os more h = handed_widened xs vs os more h.1
  handed_widened (x ∷ xs) (StobjNamed y ∷ vs) os more h = rw (list_widened os more y h.0, handed_widened xs vs os more h.1) refl

  pub back_widened : (xs : List ℕ) (vs : List (Shown S)) (inner os more : Stobjs S) → ValuesIn (names os) vs → handed_back xs vs inner (os ++ more) ≡ handed_back xs vs inner os ++ more
  back_widened [] vs inner os more h = refl
  back_widened (x ∷ xs) [] inner os more h = refl
  back_widened (x ∷ xs) (Plain o ∷ vs) inner os more h = back_widened xs vs inner os more h.1
  back_widened (x ∷ xs) (StobjNamed y ∷ vs) inner os more h =
      rw (write_widened y (list_of inner x) os more h.0)
      (back_widened xs vs inner (with_list y (list_of inner x) os) more (subst (λ ns. ValuesIn ns vs) (sym (names_write y (list_of inner x) os)) h.1))

  pub names_back : (xs : List ℕ) (vs : List (Shown S)) (inner os : Stobjs S) → names (handed_back xs vs inner os) ≡ names os
  names_back [] vs inner os = refl
  names_back (x ∷ xs) [] inner os = refl
  names_back (x ∷ xs) (Plain o ∷ vs) inner os = names_back xs vs inner os
  names_back (x ∷ xs) (StobjNamed y ∷ vs) inner os =
      names_back xs vs inner (with_list y (list_of inner x) os) ∙ names_write y (list_of inner x) os

  pub scope_inner : (xs : List ℕ) (vs : List (Shown S)) (os : Stobjs S) → AllInScope (names (inner_stobjs xs vs os)) (inner_variables xs vs)
  scope_inner [] vs os = tt
  scope_inner (x ∷ xs) [] os = tt
  scope_inner (x ∷ xs) (Plain o ∷ vs) os = (tt, scope_inner xs vs os)
  scope_inner (x ∷ xs) (StobjNamed y ∷ vs) os =
      (among_first x (x ∷ []) _ (rw (same_number x) refl), variables_more (x ∷ []) _ (inner_variables xs vs) (scope_inner xs vs os))

  scope_actual : (ns xs : List ℕ) (vs : List (Shown S)) (os : Stobjs S) (x : ℕ) → ValuesIn ns vs → is_among x (names (inner_stobjs xs vs os)) ≡ true → is_among (actual_for xs vs x) ns ≡ true
  scope_actual ns [] vs os x h e = cc
  scope_actual ns (y ∷ ys) [] os x h e = cc
  scope_actual ns (y ∷ ys) (Plain o ∷ vs) os x h e = scope_actual ns ys vs os x h.1 e
  scope_actual ns (y ∷ ys) (StobjNamed z ∷ vs) os x h e = go (nat_eq x y) (scope_actual ns ys vs os x h.1) e
    where
      go : (b : Bool) → (is_among x (names (inner_stobjs ys vs os)) ≡ true → is_among (actual_for ys vs x) ns ≡ true) → (b || is_among x (names (inner_stobjs ys vs os))) ≡ true
          → is_among (if b then z else actual_for ys vs x) ns ≡ true
      go true i e = h.0
      go false i e = i e

  scope_outer : (ns xs : List ℕ) (vs : List (Shown S)) (os : Stobjs S) (v : Shown S) → ValuesIn ns vs → InScope (names (inner_stobjs xs vs os)) v → InScope ns (outer_value xs vs v)
  scope_outer ns xs vs os (Plain o) h i = tt
  scope_outer ns xs vs os (StobjNamed x) h i = scope_actual ns xs vs os x h i

  pub values_outer : (ns xs : List ℕ) (vs : List (Shown S)) (os : Stobjs S) (us : List (Shown S)) → ValuesIn ns vs → ValuesIn (names (inner_stobjs xs vs os)) us → ValuesIn ns (map (outer_value xs vs) us)
  values_outer ns xs vs os [] h i = tt
  values_outer ns xs vs os (u ∷ us) h i = (scope_outer ns xs vs os u h i.0, values_outer ns xs vs os us h i.1)

  -- ---- one stobj

  pub scope_first : (ns : List ℕ) (vs : List (Shown S)) → ValuesIn ns vs → OptionIn ns (first_stobj vs)
  scope_first ns [] h = tt
  scope_first ns (Plain o ∷ vs) h = scope_first ns vs h.1
  scope_first ns (StobjNamed x ∷ vs) h = h.0

  pub option_widened : (k : SymbolKind S) (os more : Stobjs S) (x : Option ℕ) → OptionIn (names os) x → list_or_none lists_keeping (os ++ more) x ≡ list_or_none lists_keeping os x
  option_widened k os more None h = refl
  option_widened k os more (Some x) h = list_widened os more x h

  pub restored_widened : (x : Option ℕ) (before os more : Stobjs S) → OptionIn (names before) x → OptionIn (names os) x → list_restored x (before ++ more) (os ++ more) ≡ list_restored x before os ++ more
  restored_widened None before os more h i = refl
  restored_widened (Some x) before os more h i = rw (list_widened before more x h) (write_widened x (list_of before x) os more i)

  pub names_restored : (x : Option ℕ) (before os : Stobjs S) → names (list_restored x before os) ≡ names os
  names_restored None before os = refl
  names_restored (Some x) before os = names_write x (list_of before x) os

  -- ---- children

  abbrev pub children : List (Loan S) → List ℕ
  children loans = map (λ (l : Loan S). l.child) loans

  abbrev pub LoansIn : List ℕ → List (Loan S) → Type 0
  LoansIn ns [] = Unit {0}
  LoansIn ns (l ∷ ls) = (is_among l.parent ns ≡ true) × LoansIn ns ls

  -- the children too
  abbrev pub KidsIn : List ℕ → List (Loan S) → Type 0
  KidsIn ns [] = Unit {0}
  KidsIn ns (l ∷ ls) = (is_among l.child ns ≡ true) × (is_among l.parent ns ≡ true) × KidsIn ns ls

  pub loans_append : (ns : List ℕ) (ls : List (Loan S)) (l : Loan S) → LoansIn ns ls → is_among l.parent ns ≡ true → LoansIn ns (ls ++ l ∷ [])
  loans_append ns [] l h i = (i, tt)
  loans_append ns (m ∷ ls) l h i = (h.0, loans_append ns ls l h.1 i)

  kids_more : (m : ℕ) (ns : List ℕ) (ls : List (Loan S)) → KidsIn ns ls → KidsIn (m ∷ ns) ls
  kids_more m ns [] h = tt
  kids_more m ns (l ∷ ls) h = (among_more l.child (m ∷ []) ns h.0, among_more l.parent (m ∷ []) ns h.1, kids_more m ns ls h.2)

  pub kids_in : (ns : List ℕ) (ls : List (Loan S)) → LoansIn ns ls → KidsIn (children ls ++ ns) ls
  kids_in ns [] h = tt
  kids_in ns (l ∷ ls) h =
      (among_first l.child (l.child ∷ []) _ (rw (same_number l.child) refl), among_more l.parent (children (l ∷ ls)) ns h.0, kids_more l.child (children ls ++ ns) ls (kids_in ns ls h.1))

  pub lent_widened : (ls : List (Loan S)) (os more : Stobjs S) → LoansIn (names os) ls → lent ls (os ++ more) ≡ lent ls os
  lent_widened [] os more h = refl
  lent_widened (l ∷ ls) os more h = rw (list_widened os more l.parent h.0, lent_widened ls os more h.1) refl

  pub names_append : (os ps : Stobjs S) → names (os ++ ps) ≡ names os ++ names ps
  names_append [] ps = refl
  names_append (o ∷ os) ps = ap (λ (ns : List ℕ). o.0 ∷ ns) (names_append os ps)

  pub names_lent : (ls : List (Loan S)) (os : Stobjs S) → names (lent ls os) ≡ children ls
  names_lent [] os = refl
  names_lent (l ∷ ls) os = ap (λ (ns : List ℕ). l.child ∷ ns) (names_lent ls os)

  pub put_widened : (l : Loan S) (os more : Stobjs S) → is_among l.child (names os) ≡ true → is_among l.parent (names os) ≡ true → put_into_parent l (os ++ more) ≡ put_into_parent l os ++ more
  put_widened l os more c p = rw (list_widened os more l.child c, list_widened os more l.parent p) (write_widened l.parent _ os more p)

  pub names_put : (l : Loan S) (os : Stobjs S) → names (put_into_parent l os) ≡ names os
  names_put l os = names_write l.parent (with_child l (list_of os l.child) (list_of os l.parent)) os

  pub all_put_widened : (ls : List (Loan S)) (os more : Stobjs S) → KidsIn (names os) ls → all_put ls (os ++ more) ≡ all_put ls os ++ more
  all_put_widened [] os more h = refl
  all_put_widened (l ∷ ls) os more h =
      rw (put_widened l os more h.0 h.1) (all_put_widened ls (put_into_parent l os) more (subst (λ ns. KidsIn ns ls) (sym (names_put l os)) h.2))

  pub names_all_put : (ls : List (Loan S)) (os : Stobjs S) → names (all_put ls os) ≡ names os
  names_all_put [] os = refl
  names_all_put (l ∷ ls) os = names_all_put ls (put_into_parent l os) ∙ names_put l os

  -- ---- the innermost stobjs

  length_names : (os : Stobjs S) → length os ≡ length (names os)
  length_names [] = refl
  length_names (o ∷ os) = ap (λ (n : ℕ). suc n) (length_names os)

  names-drop : (n : ℕ) (os : Stobjs S) → names (drop n os) ≡ drop n (names os)
  names-drop zero os = refl
  names-drop (suc n) [] = refl
  names-drop (suc n) (o ∷ os) = names-drop n os

  pub drop_widened : (ms ns : List ℕ) (os more : Stobjs S) → names os ≡ ms ++ ns → drop (length ms) (os ++ more) ≡ drop (length ms) os ++ more
  drop_widened ms ns os more e =
      let all : length os ≡ length ms + length ns = length_names os ∙ (ap (λ (l : List ℕ). length l) e ∙ length-append ms ns) in
      let within : length ms ≤ length os = omega (arith, all) in
      drop-append-le (length ms) os more within

  pub names_drop : (ms ns : List ℕ) (os : Stobjs S) → names os ≡ ms ++ ns → names (drop (length ms) os) ≡ ns
  names_drop ms ns os e = names-drop (length ms) os ∙ (ap (drop (length ms)) e ∙ drop-append_seam ms ns)

  pub length_children : (ls : List (Loan S)) → length (children ls) ≡ length ls
  length_children [] = refl
  length_children (l ∷ ls) = ap (λ (n : ℕ). suc n) (length_children ls)
