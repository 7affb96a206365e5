-- An object that begins to be live.
use Rattle.std.specs.Prelude.{◌≡◌, ℕ, zero, suc, ◌<◌, List, [], ◌∷◌, ◌++◌, length, Option, Some, None, slice_get, refl}
use Rattle.std.proofs.Common.{sym, ap, ◌∙◌, subst}
use Rattle.model_lists.specs.Lists.{StobjList}
use Rattle.model_eval.specs.Outcomes.{Stobjs}
use Rattle.model_eval.specs.StobjLayouts.{new_list}
use Rattle.model_known.specs.Known.{KnowsList, KnowsStobjs}
use Rattle.model_known.proofs.WorldLemmas.{worlds_know}
use Rattle.acl_base.specs.declared.SymId.{SymId}
use Rattle.acl_heap.specs.Objects.{Objects}
use Rattle.acl_worlds.specs.Contents.{Content, seen_world}
use Rattle.acl_lists.specs.declared.cell.ListId.{ListId}
use Rattle.acl_lists.specs.declared.cell.Cell.{Cell}
use Rattle.acl_lists.specs.Tables.{list_at, Grown}
use Rattle.acl_lists.specs.Pairs.{Within}
use Rattle.acl_list_scope.specs.declared.binding.Binding.{Binding}
use Rattle.acl_list_scope.specs.declared.binding.Scope.{Scope}
use Rattle.acl_list_scope.specs.Scopes.{named, scope, AreWithin}
use Rattle.acl_list_scope.specs.Keeping.{IsKept}
use Rattle.acl_list_scope.proofs.ScopeLemmas.{scope_later}
use Rattle.acl_list_scope.proofs.KeptLemmas.{kept_grown}
use Rattle.acl_list_keeper.specs.declared.ready.Ready.{Ready}
use Rattle.acl_list_keeper.specs.declared.keeper.ListKeeper.{ListKeeper}
use Rattle.acl_list_keeper.specs.Sound.{ReadyFits, IsSound}
use Rattle.acl_live_lists.specs.Live.{live_lists, AreLive}
use Rattle.acl_live_lists.proofs.ObjectLemmas.{first_behind}

-- ---- one more, as the outermost

abbrev pub bound_to : SymId → ListId → Binding
bound_to x m = record { variable = x; list = Some m }

within_outermost : (cs : List Cell) (bs : List Binding) (x : SymId) (m : ListId) → m.0 < length cs → AreWithin cs bs → AreWithin cs (bound_to x m ∷ bs)
within_outermost cs bs x m l w = record { each = one }
  where
    one : (i : ℕ) (b : Binding) → slice_get (bound_to x m ∷ bs) i ≡ Some b → Within cs b.list
    one zero b e = let same : bound_to x m ≡ b = cc in subst (λ (c : Binding). Within cs c.list) same l
    one (suc i) b e = w.each i b e

scope_outermost : (cs : List Cell) (bs : List Binding) (x : SymId) (m : ListId) → scope cs (bound_to x m ∷ bs) ≡ scope cs bs ++ (x.0, list_at cs m) ∷ []
unfolding scope
scope_outermost cs bs x m = first_behind (named cs) (named cs (bound_to x m) ∷ []) bs

known_more : (n : ℕ) (os : Stobjs ℕ) (x : ℕ) (l : StobjList ℕ) → KnowsStobjs n os → KnowsList n l → KnowsStobjs n (os ++ (x, l) ∷ [])
known_more n [] x l a k = (k, tt)
known_more n (o ∷ os) x l a k = (a.0, known_more n os x l a.1 k)

-- ---- what is kept

kept_created : (old new : List Cell) (bs more : List Binding) (ss left : List Scope) (x : SymId) (m : ListId) → Grown old new → m.0 < length new → more ≡ bound_to x m ∷ bs → left ≡ ss
    → IsKept old bs ss (scope old bs) [] → IsKept new more left (scope new more) []
kept_created old new bs more ss left x m g l e f i =
    let j : IsKept new bs ss (scope old bs) [] = kept_grown old new bs ss (scope old bs) [] g i in
    let k : IsKept new (bound_to x m ∷ bs) ss (scope new (bound_to x m ∷ bs)) [] = record { within = within_outermost new bs x m l j.within; all = j.all; is = refl; lefts = j.lefts } in
    subst (λ (ys : List Scope). IsKept new more ys (scope new more) []) (sym f) (subst (λ (xs : List Binding). IsKept new xs ss (scope new xs) []) (sym e) k)

kept_refused : (old new : List Cell) (bs more : List Binding) (ss left : List Scope) → Grown old new → more ≡ bs → left ≡ ss → IsKept old bs ss (scope old bs) [] → IsKept new more left (scope new more) []
kept_refused old new bs more ss left g e f i =
    let j : IsKept new bs ss (scope old bs) [] = kept_grown old new bs ss (scope old bs) [] g i in
    let k : IsKept new bs ss (scope new bs) [] = record { within = j.within; all = j.all; is = refl; lefts = j.lefts } in
    subst (λ (ys : List Scope). IsKept new more ys (scope new more) []) (sym f) (subst (λ (xs : List Binding). IsKept new xs ss (scope new xs) []) (sym e) k)

pub lists_created : (h : Objects) (w : Content) (n : ℕ) (k k' : ListKeeper) (x : SymId) (m : ListId) → AreLive k h w n → Grown k.scoped.lists k'.scoped.lists
    → k'.scoped.bindings.items ≡ bound_to x m ∷ k.scoped.bindings.items → list_at k'.scoped.lists m ≡ new_list (seen_world h w) x.0
    → live_lists k' ≡ live_lists k ++ (x.0, new_list (seen_world h w) x.0) ∷ []
lists_created h w n k k' x m a g e at =
    ap (scope k'.scoped.lists) e
    ∙ (scope_outermost k'.scoped.lists k.scoped.bindings.items x m
    ∙ (ap (λ os. os ++ (x.0, list_at k'.scoped.lists m) ∷ []) (scope_later k.scoped.lists k'.scoped.lists k.scoped.bindings.items g a.rests.keeps.within)
    ∙ ap (λ l. live_lists k ++ (x.0, l) ∷ []) at))

pub lists_refused : (h : Objects) (w : Content) (n : ℕ) (k : ListKeeper) (new : List Cell) → AreLive k h w n → Grown k.scoped.lists new → scope new k.scoped.bindings.items ≡ live_lists k
lists_refused h w n k new a g = scope_later k.scoped.lists new k.scoped.bindings.items g a.rests.keeps.within

known_before : (h : Objects) (w : Content) (n : ℕ) (k : ListKeeper) → AreLive k h w n → KnowsStobjs n (live_lists k)
known_before h w n k a = subst (λ (os : Stobjs ℕ). KnowsStobjs n os) (sym a.sound.keeps.is) a.sound.known

pub live_created : (h : Objects) (w : Content) (n : ℕ) (k k' : ListKeeper) (x : SymId) (m : ListId) → AreLive k h w n → Grown k.scoped.lists k'.scoped.lists → m.0 < length k'.scoped.lists
    → k'.scoped.bindings.items ≡ bound_to x m ∷ k.scoped.bindings.items → list_at k'.scoped.lists m ≡ new_list (seen_world h w) x.0 → k'.scoped.behind.items ≡ k.scoped.behind.items → k'.ready ≡ None → AreLive k' h w n
live_created h w n k k' x m a g l e at f r =
    let kept : IsKept k'.scoped.lists k'.scoped.bindings.items k'.scoped.behind.items (live_lists k') [] =
    kept_created k.scoped.lists k'.scoped.lists k.scoped.bindings.items k'.scoped.bindings.items k.scoped.behind.items k'.scoped.behind.items x m g l e f a.rests.keeps in
    record {
      sound = record {
        kept = live_lists k';
        lefts = [];
        keeps = kept;
        known = subst (λ (os : Stobjs ℕ). KnowsStobjs n os) (sym (lists_created h w n k k' x m a g e at))
            (known_more n (live_lists k) x.0 (new_list (seen_world h w) x.0) (known_before h w n k a) (worlds_know.list n (seen_world h w) x.0 a.sound.world.knows));
        known_lefts = tt;
        readies = subst (λ (o : Option Ready). ReadyFits k'.scoped.lists h n o) (sym r) tt;
        world = a.sound.world;
      };
      rests = record { keeps = kept };
    }

pub live_refused : (h : Objects) (w : Content) (n : ℕ) (k k' : ListKeeper) → AreLive k h w n → Grown k.scoped.lists k'.scoped.lists → k'.scoped.bindings.items ≡ k.scoped.bindings.items → k'.scoped.behind.items ≡ k.scoped.behind.items
    → k'.ready ≡ None → AreLive k' h w n
live_refused h w n k k' a g e f r =
    let kept : IsKept k'.scoped.lists k'.scoped.bindings.items k'.scoped.behind.items (live_lists k') [] =
    kept_refused k.scoped.lists k'.scoped.lists k.scoped.bindings.items k'.scoped.bindings.items k.scoped.behind.items k'.scoped.behind.items g e f a.rests.keeps in
    record {
      sound = record {
        kept = live_lists k';
        lefts = [];
        keeps = kept;
        known = subst (λ (os : Stobjs ℕ). KnowsStobjs n os) (sym (ap (scope k'.scoped.lists) e ∙ lists_refused h w n k k'.scoped.lists a g)) (known_before h w n k a);
        known_lefts = tt;
        readies = subst (λ (o : Option Ready). ReadyFits k'.scoped.lists h n o) (sym r) tt;
        world = a.sound.world;
      };
      rests = record { keeps = kept };
    }
