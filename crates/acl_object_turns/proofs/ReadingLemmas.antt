-- What is read of a `STOBJ-LET`.
use Rattle.std.proofs.Common.{◌≡◌, ℕ, zero, suc, ◌+◌, ◌<◌, ◌≤◌, List, [], ◌∷◌, length, map, drop, get_or, refl, sym, ap, ◌∙◌, arith, subst}
use Rattle.std.specs.Prelude.{Option, Some, None, slice_get}
use Rattle.model_symbols.specs.Symbols.{Table}
use Rattle.model_slots.specs.Trees as trees
use Rattle.model_slots.specs.Trees.{Tree}
use Rattle.acl_base.specs.declared.TermId.{TermId}
use Rattle.acl_heap.specs.Objects.{Objects}
use Rattle.acl_terms.specs.declared.definition.Definition.{Definition}
use Rattle.acl_terms.specs.declared.definition.Definition.TheVariants as definition
use Rattle.acl_code.specs.declared.term.Child.{Child}
use Rattle.acl_code.specs.declared.term.Term.{Term}
use Rattle.acl_code.specs.declared.term.Term.TheVariants as term
use Rattle.acl_code.specs.Tables.{seen_child, tree_in, tree_at, forest, no_tree, IsTable}
use Rattle.acl_code.proofs.TableLemmas.{tree_over_table, forest_length}
use Rattle.acl_machine.specs.Constants.{IndexIsWhole, IndicesAreWhole, ConstantsAreWhole}
use Rattle.acl_machine.specs.Views.{children_of, producer_of, consumer_of}
use Rattle.acl_object_turns.specs.Children.{field_at}

-- a term that is no `STOBJ-LET` and no part
abbrev pub BindsNone : Term → Type 0
BindsNone (term.Slot s) = Unit {0}
BindsNone (term.Const w) = Unit {0}
BindsNone (term.Part t) = ⊥
BindsNone (term.If at test held other) = Unit {0}
BindsNone (term.Let at bound body) = Unit {0}
BindsNone (term.Mv at parts) = Unit {0}
BindsNone (term.MvLet at bound body) = Unit {0}
BindsNone (term.StobjLet at children producer consumer) = ⊥
BindsNone (term.WithLocal at stobj producer body) = Unit {0}
BindsNone (term.MustBeEqual logic) = Unit {0}
BindsNone (term.Call at function actuals) = Unit {0}

-- a tree that binds no children
pub record IsBare (t : Tree) : Type 0 where
  pub children : children_of t ≡ []
  pub producer : producer_of t ≡ no_tree
  pub consumer : consumer_of t ≡ no_tree

bare_tree : (h : Objects) (ts : List Term) (t : TermId) (x : Term) → IsTable ts → slice_get ts t.0 ≡ Some x → BindsNone x → IsBare (tree_at h ts t)
bare_tree h ts t x i e b = by_term x b e
  where
    by_term : (x : Term) → BindsNone x → slice_get ts t.0 ≡ Some x → IsBare (tree_at h ts t)
    by_term (term.Slot s) b e = subst IsBare (sym (tree_over_table h ts (term.Slot s) t i e)) (record { children = refl; producer = refl; consumer = refl })
    by_term (term.Const w) b e = subst IsBare (sym (tree_over_table h ts (term.Const w) t i e)) (record { children = refl; producer = refl; consumer = refl })
    by_term (term.Part u) b e = absurd b
    by_term (term.If at test held other) b e = subst IsBare (sym (tree_over_table h ts (term.If at test held other) t i e)) (record { children = refl; producer = refl; consumer = refl })
    by_term (term.Let at bound body) b e = subst IsBare (sym (tree_over_table h ts (term.Let at bound body) t i e)) (record { children = refl; producer = refl; consumer = refl })
    by_term (term.Mv at parts) b e = subst IsBare (sym (tree_over_table h ts (term.Mv at parts) t i e)) (record { children = refl; producer = refl; consumer = refl })
    by_term (term.MvLet at bound body) b e = subst IsBare (sym (tree_over_table h ts (term.MvLet at bound body) t i e)) (record { children = refl; producer = refl; consumer = refl })
    by_term (term.StobjLet at children producer consumer) b e = absurd b
    by_term (term.WithLocal at stobj producer body) b e = subst IsBare (sym (tree_over_table h ts (term.WithLocal at stobj producer body) t i e)) (record { children = refl; producer = refl; consumer = refl })
    by_term (term.MustBeEqual logic) b e = subst IsBare (sym (tree_over_table h ts (term.MustBeEqual logic) t i e)) (record { children = refl; producer = refl; consumer = refl })
    by_term (term.Call at function actuals) b e = subst IsBare (sym (tree_over_table h ts (term.Call at function actuals) t i e)) (record { children = refl; producer = refl; consumer = refl })

past : (ts : List Tree) (n : ℕ) → length ts ≤ n → get_or ts n no_tree ≡ no_tree
past [] n l = refl
past (t ∷ ts) zero l = absurd (omega arith)
past (t ∷ ts) (suc n) l = past ts n (omega arith)

past_tree : (h : Objects) (ts : List Term) (n : ℕ) → length ts ≤ n → get_or (forest h ts) n no_tree ≡ no_tree
past_tree h ts n l = past (forest h ts) n (subst (λ k. k ≤ n) (sym (forest_length h ts)) l)

past_bare : (h : Objects) (ts : List Term) (t : TermId) → length ts ≤ t.0 → IsBare (tree_at h ts t)
past_bare h ts t l = subst IsBare (sym (past_tree h ts t.0 l)) (record { children = refl; producer = refl; consumer = refl })

-- ---- children

none_left : (n : ℕ) (cs : List trees.Child) → cs ≡ [] → drop n cs ≡ []
none_left zero [] e = refl
none_left (suc n) [] e = refl
none_left n (c ∷ cs) e = absurd (cc)

pub none_there : (h : Objects) (ts : List Term) (t own : TermId) (x : Term) (bound : ℕ) → IsTable ts → slice_get ts own.0 ≡ Some x → BindsNone x → tree_at h ts own ≡ tree_at h ts t → drop bound (children_of (tree_at h ts t)) ≡ []
none_there h ts t own x bound i e b q = none_left bound _ (sym (ap children_of q) ∙ (bare_tree h ts own x i e b).children)

pub none_past : (h : Objects) (ts : List Term) (t own : TermId) (bound : ℕ) → length ts ≤ own.0 → tree_at h ts own ≡ tree_at h ts t → drop bound (children_of (tree_at h ts t)) ≡ []
none_past h ts t own bound l q = none_left bound _ (sym (ap children_of q) ∙ (past_bare h ts own l).children)

-- those of a `STOBJ-LET`
own_children : (h : Objects) (ts : List Term) (t own : TermId) (at : ℕ) (cs : List Child) (p c : TermId) → IsTable ts → slice_get ts own.0 ≡ Some (term.StobjLet at cs p c) → tree_at h ts own ≡ tree_at h ts t → children_of (tree_at h ts t) ≡ map (seen_child h) cs
own_children h ts t own at cs p c i e q = ap children_of (sym q ∙ tree_over_table h ts (term.StobjLet at cs p c) own i e)

drop_some : (h : Objects) (cs : List Child) (n : ℕ) (c : Child) → slice_get cs n ≡ Some c → drop n (map (seen_child h) cs) ≡ seen_child h c ∷ drop (n + 1) (map (seen_child h) cs)
drop_some h [] n c e = absurd (cc)
drop_some h (x ∷ xs) zero c e = ap (λ y. seen_child h y ∷ map (seen_child h) xs) (same x c e)
  where
    same : (x c : Child) → Some x ≡ Some c → x ≡ c
    same x c e = cc
drop_some h (x ∷ xs) (suc n) c e =
    let s : suc (n + 1) ≡ suc n + 1 = omega arith in
    drop_some h xs n c e ∙ ap (λ k. seen_child h c ∷ drop k (map (seen_child h) (x ∷ xs))) s

drop_none : (h : Objects) (cs : List Child) (n : ℕ) → slice_get cs n ≡ None → drop n (map (seen_child h) cs) ≡ []
drop_none h [] zero e = refl
drop_none h [] (suc n) e = refl
drop_none h (x ∷ xs) zero e = absurd (cc)
drop_none h (x ∷ xs) (suc n) e = drop_none h xs n e

pub child_there : (h : Objects) (ts : List Term) (t own : TermId) (at : ℕ) (cs : List Child) (p q : TermId) (bound : ℕ) (c : Child) → IsTable ts → slice_get ts own.0 ≡ Some (term.StobjLet at cs p q) → tree_at h ts own ≡ tree_at h ts t → slice_get cs bound ≡ Some c
    → drop bound (children_of (tree_at h ts t)) ≡ seen_child h c ∷ drop (bound + 1) (children_of (tree_at h ts t))
child_there h ts t own at cs p q bound c i e same s =
    let are = own_children h ts t own at cs p q i e same in
    ap (drop bound) are ∙ drop_some h cs bound c s ∙ ap (λ l. seen_child h c ∷ drop (bound + 1) l) (sym are)

pub no_more : (h : Objects) (ts : List Term) (t own : TermId) (at : ℕ) (cs : List Child) (p q : TermId) (bound : ℕ) → IsTable ts → slice_get ts own.0 ≡ Some (term.StobjLet at cs p q) → tree_at h ts own ≡ tree_at h ts t → slice_get cs bound ≡ None
    → drop bound (children_of (tree_at h ts t)) ≡ []
no_more h ts t own at cs p q bound i e same s = ap (drop bound) (own_children h ts t own at cs p q i e same) ∙ drop_none h cs bound s

nth_whole : (t : Table) (h : Objects) (cs : List Child) (n : ℕ) (c : Child) → IndicesAreWhole t h cs → slice_get cs n ≡ Some c → IndexIsWhole t h c.index
nth_whole t h [] n c a e = absurd (cc)
nth_whole t h (x ∷ xs) zero c a e = subst (λ y. IndexIsWhole t h y.index) (same x c e) a.0
  where
    same : (x c : Child) → Some x ≡ Some c → x ≡ c
    same x c e = cc
nth_whole t h (x ∷ xs) (suc n) c a e = nth_whole t h xs n c a.1 e

pub child_whole : (t : Table) (h : Objects) (ts : List Term) (own : TermId) (at : ℕ) (cs : List Child) (p q : TermId) (bound : ℕ) (c : Child) → ConstantsAreWhole t h ts → slice_get ts own.0 ≡ Some (term.StobjLet at cs p q) → slice_get cs bound ≡ Some c → IndexIsWhole t h c.index
child_whole t h ts own at cs p q bound c w e s = nth_whole t h cs bound c (w.whole own.0 (term.StobjLet at cs p q) e) s

-- ---- the ends

pub producer_there : (h : Objects) (ts : List Term) (t own : TermId) (at : ℕ) (cs : List Child) (p q : TermId) → IsTable ts → slice_get ts own.0 ≡ Some (term.StobjLet at cs p q) → tree_at h ts own ≡ tree_at h ts t → tree_at h ts p ≡ producer_of (tree_at h ts t)
producer_there h ts t own at cs p q i e same = sym (ap producer_of (sym same ∙ tree_over_table h ts (term.StobjLet at cs p q) own i e))

pub consumer_there : (h : Objects) (ts : List Term) (t own : TermId) (at : ℕ) (cs : List Child) (p q : TermId) → IsTable ts → slice_get ts own.0 ≡ Some (term.StobjLet at cs p q) → tree_at h ts own ≡ tree_at h ts t → tree_at h ts q ≡ consumer_of (tree_at h ts t)
consumer_there h ts t own at cs p q i e same = sym (ap consumer_of (sym same ∙ tree_over_table h ts (term.StobjLet at cs p q) own i e))

pub no_producer : (h : Objects) (ts : List Term) (t own p : TermId) (x : Term) → IsTable ts → slice_get ts own.0 ≡ Some x → BindsNone x → tree_at h ts own ≡ tree_at h ts t → p.0 ≡ length ts → tree_at h ts p ≡ producer_of (tree_at h ts t)
no_producer h ts t own p x i e b q l = past_tree h ts p.0 (omega (arith, l)) ∙ sym (sym (ap producer_of q) ∙ (bare_tree h ts own x i e b).producer)

pub no_consumer : (h : Objects) (ts : List Term) (t own p : TermId) (x : Term) → IsTable ts → slice_get ts own.0 ≡ Some x → BindsNone x → tree_at h ts own ≡ tree_at h ts t → p.0 ≡ length ts → tree_at h ts p ≡ consumer_of (tree_at h ts t)
no_consumer h ts t own p x i e b q l = past_tree h ts p.0 (omega (arith, l)) ∙ sym (sym (ap consumer_of q) ∙ (bare_tree h ts own x i e b).consumer)

pub past_producer : (h : Objects) (ts : List Term) (t own p : TermId) → length ts ≤ own.0 → tree_at h ts own ≡ tree_at h ts t → p.0 ≡ length ts → tree_at h ts p ≡ producer_of (tree_at h ts t)
past_producer h ts t own p l q e = past_tree h ts p.0 (omega (arith, e)) ∙ sym (sym (ap producer_of q) ∙ (past_bare h ts own l).producer)

pub past_consumer : (h : Objects) (ts : List Term) (t own p : TermId) → length ts ≤ own.0 → tree_at h ts own ≡ tree_at h ts t → p.0 ≡ length ts → tree_at h ts p ≡ consumer_of (tree_at h ts t)
past_consumer h ts t own p l q e = past_tree h ts p.0 (omega (arith, e)) ∙ sym (sym (ap consumer_of q) ∙ (past_bare h ts own l).consumer)

-- ---- functions

pub field_by : (ds : List Definition) (n k : ℕ) (x : Definition) → slice_get ds n ≡ Some x → k ≡ field_at (Some x) → k ≡ field_at (slice_get ds n)
field_by ds n k x e q = q ∙ sym (ap field_at e)
