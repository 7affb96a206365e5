-- The evaluation of a form over live objects.
use Rattle.std.specs.Prelude.{◌≡◌, ℕ, zero, suc, ◌<◌, List, [], ◌∷◌, length}
use Rattle.std.proofs.Common.{sym, subst, arith}
use Rattle.model_symbols.specs.Symbols.{Table}
use Rattle.model_eval.specs.Outcomes.{Stobjs}
use Rattle.model_live_forms.specs.Laws.{LiveFormsEnd}
use Rattle.acl_base.specs.declared.TermId.{TermId}
use Rattle.acl_heap.specs.Objects.{Objects}
use Rattle.acl_terms.specs.declared.outcome.Shown.{Shown}
use Rattle.acl_terms.specs.declared.outcome.Shown.TheVariants as shown
use Rattle.acl_worlds.specs.Contents.{Content, seen_world}
use Rattle.acl_code.specs.declared.term.Term.{Term}
use Rattle.acl_code.specs.Tables.{forest, tree_at}
use Rattle.acl_engine.specs.declared.outcome.Outcome.{Outcome}
use Rattle.acl_engine.specs.Outcomes.{seen_outcome}
use Rattle.acl_list_scope.specs.declared.binding.Binding.{Binding}
use Rattle.acl_list_scope.specs.Scopes.{last_first, scope}
use Rattle.acl_list_keeper.specs.declared.keeper.ListKeeper.{ListKeeper}
use Rattle.acl_list_keeper.specs.Sound.{IsSound}
use Rattle.acl_machine.specs.Cells.{cell, memory_of, ShownWhole, AreWholeCells}
use Rattle.acl_machine.specs.Views.{around, code_with}
use Rattle.acl_evaluate.specs.Evaluating.{lists_in, IsAtRest, Evaluates}
use Rattle.acl_pure.specs.Fitting.{Fits}
use Rattle.acl_live_lists.specs.Live.{live_lists, AreLive, object_bound, objects_bound}
use Rattle.acl_live_lists.specs.Outcomes.{EvaluatesLive}
use Rattle.acl_live_lists.proofs.ObjectLemmas.{objects_lie}

-- ---- the objects are whole

AreObjects : List Shown → Type 0
AreObjects [] = Unit {0}
AreObjects (shown.Value w ∷ vs) = ⊥
AreObjects (shown.Object x ∷ vs) = AreObjects vs

objects_are : (bs : List Binding) (vs : List Shown) → AreObjects vs → AreObjects (last_first object_bound vs bs)
unfolding AreObjects
objects_are [] vs a = a
objects_are (b ∷ bs) vs a = objects_are bs (object_bound b ∷ vs) a

cells_whole : (t : Table) (h : Objects) → 1 < length t.symbols → (vs : List Shown) → AreObjects vs → (i : ℕ) → ShownWhole t h (cell vs i)
unfolding AreObjects
cells_whole t h some [] a i = record { lies = omega arith; known = some }
cells_whole t h some (shown.Value w ∷ vs) a i = elim a [ ]
cells_whole t h some (shown.Object x ∷ vs) a zero = tt
cells_whole t h some (shown.Object x ∷ vs) a (suc i) = cells_whole t h some vs a i

pub objects_whole : (t : Table) (h : Objects) (w : Content) (k : ListKeeper) (vs : List Shown) (bs : List Binding) → vs ≡ objects_bound bs → AreLive k h w (length t.symbols) → AreWholeCells t h vs
unfolding AreObjects
objects_whole t h w k vs bs e l =
    subst (λ (xs : List Shown). AreWholeCells t h xs) (sym e) (record { whole = cells_whole t h l.sound.world.some (objects_bound bs) (objects_are bs [] tt) })

-- ---- the outcome

pub evaluates_live : LiveFormsEnd → (terms : List Term) (h h' : Objects) (w : Content) (t t' : Table) (limit used depth : ℕ) (k k' : ListKeeper) (term : TermId) (vs : List Shown) (bs : List Binding) (o : Outcome)
    → Fits terms h w t → bs ≡ k.scoped.bindings.items → vs ≡ objects_bound bs
    → Evaluates (around h w terms t limit) (around h' w terms t' limit) term vs (lists_in k.scoped) (lists_in k'.scoped) used depth o
    → EvaluatesLive (around h w terms t limit) (around h' w terms t' limit) term (live_lists k) (live_lists k') used depth o
evaluates_live ends terms h h' w t t' limit used depth k k' term vs bs o f b v ev =
    let all : vs ≡ objects_bound k.scoped.bindings.items = subst (λ (xs : List Binding). vs ≡ objects_bound xs) b v in
    let on : Evaluates (around h w terms t limit) (around h' w terms t' limit) term (objects_bound k.scoped.bindings.items) (lists_in k.scoped) (lists_in k'.scoped) used depth o =
    subst (λ (xs : List Shown). Evaluates (around h w terms t limit) (around h' w terms t' limit) term xs (lists_in k.scoped) (lists_in k'.scoped) used depth o) all ev in
    record {
      is = λ form has.
          ends.alone (seen_world h w) t.packages limit (code_with (forest h terms) w.definitions) f.runs (lists_in k.scoped) form (tree_at h terms term) has
          (memory_of h (objects_bound k.scoped.bindings.items)) (objects_lie h k.scoped.lists k.scoped.bindings.items) depth t.symbols used on.count
          (seen_outcome h' t'.symbols (lists_in k'.scoped) o) on.ends;
    }

pub live_there : (h : Objects) (w : Content) (n : ℕ) (k : ListKeeper) → IsSound k.scoped k.ready h w n → IsAtRest k.scoped → AreLive k h w n
live_there h w n k s r = record { sound = s; rests = r }
