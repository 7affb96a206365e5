-- What is kept, and what was left behind.
use Rattle.std.specs.Prelude.{◌≡◌, ℕ, zero, suc, List, [], ◌∷◌, ◌++◌, Some, slice_get, refl}
use Rattle.std.proofs.Common.{sym, ap, ◌∙◌, subst, inl, inr}
use Rattle.model_symbols.proofs.Positions.{slice_get-push}
use Rattle.model_eval.specs.Outcomes.{Stobjs}
use Rattle.acl_lists.specs.declared.cell.Cell.{Cell}
use Rattle.acl_lists.specs.Tables.{Grown}
use Rattle.acl_list_scope.specs.declared.binding.Binding.{Binding}
use Rattle.acl_list_scope.specs.declared.binding.Scope.{Scope}
use Rattle.acl_list_scope.specs.Scopes.{last_first, scope, AreWithin}
use Rattle.acl_list_scope.specs.Keeping.{lefts, IsKept}
use Rattle.acl_list_scope.proofs.ScopeLemmas.{first_join, scope_empty, within_none, scope_later, within_later}

lefts_push : (cs : List Cell) (ss : List Scope) (s : Scope) → lefts cs (ss ++ s ∷ []) ≡ scope cs s.bindings.items ∷ lefts cs ss
unfolding lefts
lefts_push cs ss s = first_join (λ (s : Scope). scope cs s.bindings.items) [] ss (s ∷ [])

no_lefts : (cs : List Cell) → lefts cs [] ≡ []
unfolding lefts
no_lefts cs = refl

-- another scope in place of the one that is kept
pub kept_with : (cs : List Cell) (old new : List Binding) (ss : List Scope) (k l : Stobjs ℕ) (ls : List (Stobjs ℕ)) → IsKept cs old ss k ls → scope cs new ≡ l → AreWithin cs new → IsKept cs new ss l ls
kept_with cs old new ss k l ls i e w = record { within = w; all = i.all; is = e; lefts = i.lefts }

-- a scope is left behind
pub kept_behind : (cs : List Cell) (old new : List Binding) (ss more : List Scope) (s : Scope) (k l : Stobjs ℕ) (ls : List (Stobjs ℕ)) → more ≡ ss ++ s ∷ [] → s.bindings.items ≡ old
    → IsKept cs old ss k ls → scope cs new ≡ l → AreWithin cs new → IsKept cs new more l (k ∷ ls)
kept_behind cs old new ss more s k l ls m e i n w = record {
  within = w;
  all = λ j t h. elim (slice_get-push ss s j t (subst (λ ys. slice_get ys j ≡ Some t) m h)) [
    | inl a ↦ i.all j t a
    | inr b ↦ subst (λ (u : Scope). AreWithin cs u.bindings.items) (sym b.1) (subst (AreWithin cs) (sym e) i.within)
  ];
  is = n;
  lefts = ap (lefts cs) m ∙ (lefts_push cs ss s ∙ (ap (λ bs. scope cs bs ∷ lefts cs ss) e ∙ (ap (λ o. o ∷ lefts cs ss) i.is ∙ ap (λ os. k ∷ os) i.lefts)));
}

heads : (a b : Stobjs ℕ) (xs ys : List (Stobjs ℕ)) → a ∷ xs ≡ b ∷ ys → a ≡ b
heads a b xs ys e = cc

tails : (a b : Stobjs ℕ) (xs ys : List (Stobjs ℕ)) → a ∷ xs ≡ b ∷ ys → xs ≡ ys
tails a b xs ys e = cc

get_left : {X : Type 0} (xs ys : List X) (i : ℕ) (x : X) → slice_get xs i ≡ Some x → slice_get (xs ++ ys) i ≡ Some x
get_left [] ys i x h = cc
get_left (z ∷ xs) ys zero x h = h
get_left (z ∷ xs) ys (suc i) x h = get_left xs ys i x h

get_last : {X : Type 0} (xs : List X) (x : X) → (i : ℕ) × (slice_get (xs ++ x ∷ []) i ≡ Some x)
get_last [] x = (zero, refl)
get_last (z ∷ xs) x = let r = get_last xs x in (suc r.0, r.1)

-- what was left behind last, with what was left before it
pub kept_before : (cs : List Cell) (now : List Binding) (ss fewer : List Scope) (s : Scope) (k l : Stobjs ℕ) (ls : List (Stobjs ℕ)) → ss ≡ fewer ++ s ∷ []
    → IsKept cs now ss k (l ∷ ls) → IsKept cs s.bindings.items fewer l ls
kept_before cs now ss fewer s k l ls m i =
    let both : scope cs s.bindings.items ∷ lefts cs fewer ≡ l ∷ ls = sym (lefts_push cs fewer s) ∙ (ap (lefts cs) (sym m) ∙ i.lefts) in
    let r = get_last fewer s in
    record {
      within = i.all r.0 s (subst (λ ys. slice_get ys r.0 ≡ Some s) (sym m) r.1);
      all = λ j t h. i.all j t (subst (λ ys. slice_get ys j ≡ Some t) (sym m) (get_left fewer (s ∷ []) j t h));
      is = heads _ _ _ _ both;
      lefts = tails _ _ _ _ both;
    }

pub none_behind : (cs : List Cell) (now : List Binding) (ss : List Scope) (k l : Stobjs ℕ) (ls : List (Stobjs ℕ)) → ss ≡ [] → IsKept cs now ss k (l ∷ ls) → ⊥
none_behind cs now ss k l ls e i = let n : [] ≡ l ∷ ls = sym (no_lefts cs) ∙ (ap (lefts cs) (sym e) ∙ i.lefts) in cc

-- a table that grows
later_lefts : (old new : List Cell) (os : List (Stobjs ℕ)) (ss : List Scope) → Grown old new → ((i : ℕ) (s : Scope) → slice_get ss i ≡ Some s → AreWithin old s.bindings.items)
    → last_first (λ (s : Scope). scope new s.bindings.items) os ss ≡ last_first (λ (s : Scope). scope old s.bindings.items) os ss
later_lefts old new os [] g w = refl
later_lefts old new os (s ∷ ss) g w =
    ap (λ o. last_first (λ (s : Scope). scope new s.bindings.items) (o ∷ os) ss) (scope_later old new s.bindings.items g (w zero s refl))
    ∙ later_lefts old new (scope old s.bindings.items ∷ os) ss g (λ i t h. w (suc i) t h)

pub kept_grown : (old new : List Cell) (now : List Binding) (ss : List Scope) (k : Stobjs ℕ) (ls : List (Stobjs ℕ)) → Grown old new → IsKept old now ss k ls → IsKept new now ss k ls
unfolding lefts
kept_grown old new now ss k ls g i = record {
  within = within_later old new now g i.within;
  all = λ j s h. within_later old new s.bindings.items g (i.all j s h);
  is = scope_later old new now g i.within ∙ i.is;
  lefts = later_lefts old new [] ss g i.all ∙ i.lefts;
}

pub kept_same : (cs : List Cell) (old new : List Binding) (ss more : List Scope) (k : Stobjs ℕ) (ls : List (Stobjs ℕ)) → new ≡ old → more ≡ ss → IsKept cs old ss k ls → IsKept cs new more k ls
kept_same cs old new ss more k ls e m i = subst (λ bs. IsKept cs bs more k ls) (sym e) (subst (λ ys. IsKept cs old ys k ls) (sym m) i)

pub nothing_kept : (cs : List Cell) (now : List Binding) (ss : List Scope) → now ≡ [] → ss ≡ [] → IsKept cs now ss [] []
nothing_kept cs now ss e m = subst (λ bs. IsKept cs bs ss [] []) (sym e) (subst (λ ys. IsKept cs [] ys [] []) (sym m) (record {
  within = within_none cs;
  all = λ i s h. cc;
  is = scope_empty cs;
  lefts = no_lefts cs;
}))

pub some_behind : (cs : List Cell) (now : List Binding) (ss fewer : List Scope) (s : Scope) (k : Stobjs ℕ) → ss ≡ fewer ++ s ∷ [] → IsKept cs now ss k [] → ⊥
some_behind cs now ss fewer s k m i =
    let n : scope cs s.bindings.items ∷ lefts cs fewer ≡ [] = sym (lefts_push cs fewer s) ∙ (ap (lefts cs) (sym m) ∙ i.lefts) in cc
