-- Roots and lists after the same writes.
use Rattle.std.proofs.Common.{arith, ◌≡◌, ℕ, zero, suc, ◌+◌, List, [], ◌∷◌, ◌++◌, length, map, Bool, true, false, refl, sym, ap, ◌∙◌}
use Rattle.std.specs.Prelude.{nat_eq, if◌then◌else◌}
use Rattle.std.proofs.lemmas.List.{append_assoc, length-append}
use Rattle.model_symbols.specs.Symbols.{QualifiedName}
use Rattle.model_lists.specs.Lists.{StobjList}
use Rattle.model_terms.specs.Worlds.{World, Out, Scope}
use Rattle.model_eval.specs.Outcomes.{Stobjs, StateOf, State, OutcomeOf, Outcome, Gives, Stops, Unknown}
use Rattle.model_eval.specs.PlacesKeeping.{Place, Nowhere, At, Places, Store, place_of, with_list_at, with_root}
use Rattle.model_eval.specs.Variables.{with_list}
use Rattle.model_eval.specs.Checked.{begun}
use Rattle.model_eval.specs.InPlace.{roots_from, begun_in_place}
use Rattle.model_eval_laws.specs.Scope.{names}
use Rattle.model_eval_laws.proofs.Lists.{names_write}
use Rattle.model_in_place.specs.Standing.{AreSame}
use Rattle.model_in_place.specs.Writes.{Write, stobjs_after, roots_after}
use Rattle.model_in_place.specs.Agreement.{Agrees, Ends}
use Rattle.model_in_place_books.specs.Commands.{lists_of_roots, state_read, outcome_read}
use Rattle.model_in_place_books.specs.Laws.{RootsAreRead}

abbrev roots : Stobjs ℕ → List (StobjList ℕ)
roots os = map (λ (o : ℕ × StobjList ℕ). o.1) os

first_same : (x y : ℕ) (xs ys : List ℕ) → x ∷ xs ≡ y ∷ ys → x ≡ y
first_same x y xs ys e = cc

rest_same : (x y : ℕ) (xs ys : List ℕ) → x ∷ xs ≡ y ∷ ys → xs ≡ ys
rest_same x y xs ys e = cc

-- the roots of the names are the lists
read_back : (stobjs os : Stobjs ℕ) → names os ≡ names stobjs → lists_of_roots stobjs (roots os) ≡ os
read_back [] [] e = refl
read_back [] (o ∷ os) e = cc
read_back (s ∷ ss) [] e = cc
read_back (s ∷ ss) (o ∷ os) e =
    rw (sym (first_same o.0 s.0 (names os) (names ss) e), read_back ss os (rest_same o.0 s.0 (names os) (names ss) e)) refl

root_written : (before : List (StobjList ℕ)) (n : ℕ) (new old : StobjList ℕ) (ls : List (StobjList ℕ)) → length before ≡ n
    → with_root n new (before ++ old ∷ ls) ≡ before ++ new ∷ ls
root_written [] zero new old ls e = refl
root_written [] (suc n) new old ls e = cc
root_written (l ∷ before) zero new old ls e = cc
root_written (l ∷ before) (suc n) new old ls e = ap (λ (rest : List (StobjList ℕ)). l ∷ rest) (root_written before n new old ls (omega (arith, e)))

one_longer : (before : List (StobjList ℕ)) (l : StobjList ℕ) (n : ℕ) → length before ≡ n → length (before ++ l ∷ []) ≡ n + 1
one_longer before l n e = length-append before (l ∷ []) ∙ ap (λ (m : ℕ). m + 1) e

-- a write to a stobj is one to its root
one_write : (stobjs os : Stobjs ℕ) (before : List (StobjList ℕ)) (n x : ℕ) (l : StobjList ℕ) → names os ≡ names stobjs → length before ≡ n
    → with_list_at (place_of (roots_from n stobjs) x) l (before ++ roots os) ≡ before ++ roots (with_list x l os)
one_write [] [] before n x l e k = refl
one_write [] (o ∷ os) before n x l e k = cc
one_write (s ∷ ss) [] before n x l e k = cc
one_write (s ∷ ss) (o ∷ os) before n x l e k =
    rw (sym (first_same o.0 s.0 (names os) (names ss) e)) (go (nat_eq x o.0) (one_write ss os (before ++ o.1 ∷ []) (n + 1) x l (rest_same o.0 s.0 (names os) (names ss) e) (one_longer before o.1 n k)))
  where
    go : (b : Bool)
        → with_list_at (place_of (roots_from (n + 1) ss) x) l ((before ++ o.1 ∷ []) ++ roots os) ≡ (before ++ o.1 ∷ []) ++ roots (with_list x l os)
        → with_list_at (if b then At n [] else place_of (roots_from (n + 1) ss) x) l (before ++ o.1 ∷ roots os)
        ≡ before ++ roots (if b then (o.0, l) ∷ os else o ∷ with_list x l os)
    go true later = root_written before n l o.1 (roots os) k
    go false later =
        ap (λ (ls : List (StobjList ℕ)). with_list_at (place_of (roots_from (n + 1) ss) x) l ls) (sym (append_assoc before (o.1 ∷ []) (roots os)))
        ∙ (later
        ∙ append_assoc before (o.1 ∷ []) (roots (with_list x l os)))

all_writes : (stobjs os : Stobjs ℕ) (us : List Write) → names os ≡ names stobjs → roots_after (roots_from 0 stobjs) us (roots os) ≡ roots (stobjs_after us os)
all_writes stobjs os [] e = refl
all_writes stobjs os (u ∷ us) e =
    ap (λ (ls : List (StobjList ℕ)). roots_after (roots_from 0 stobjs) us ls) (one_write stobjs os [] 0 u.0 u.1 e refl)
    ∙ all_writes stobjs (with_list u.0 u.1 os) us (names_write u.0 u.1 os ∙ e)

names_after : (us : List Write) (os : Stobjs ℕ) → names (stobjs_after us os) ≡ names os
names_after [] os = refl
names_after (u ∷ us) os = names_after us (with_list u.0 u.1 os) ∙ names_write u.0 u.1 os

all_read : (stobjs : Stobjs ℕ) (us : List Write) → lists_of_roots stobjs (roots_after (roots_from 0 stobjs) us (roots stobjs)) ≡ stobjs_after us stobjs
all_read stobjs us =
    ap (λ (ls : List (StobjList ℕ)). lists_of_roots stobjs ls) (all_writes stobjs stobjs us refl) ∙ read_back stobjs (stobjs_after us stobjs) (names_after us stobjs)

module _ (w : World) (scope : Scope) (expected : List Out) (stobjs : Stobjs ℕ) (symbols : List QualifiedName) (used : ℕ) where
  state_same : (u : State ℕ) (v : StateOf (Store ℕ)) → Ends w scope (begun symbols stobjs used) (begun_in_place symbols stobjs used) u v → state_read stobjs v ≡ u
  state_same u v ends =
      let told : lists_of_roots stobjs v.stobjs.roots ≡ u.stobjs =
      ap (λ (ls : List (StobjList ℕ)). lists_of_roots stobjs ls) ends.stores ∙ (all_read stobjs ends.writes ∙ sym ends.lists)
      in
      rw (told, ends.same.symbols, ends.same.calls, ends.same.outer) refl

  read_same : (a : Outcome ℕ) (b : OutcomeOf ℕ (Store ℕ)) → Agrees w scope expected (begun symbols stobjs used) (begun_in_place symbols stobjs used) a b → outcome_read stobjs b ≡ a
  read_same (Gives values u) (Gives others v) h = rw (h.0, state_same u v h.2) refl
  read_same (Gives values u) (Stops stop origin v) h = absurd h
  read_same (Gives values u) Unknown h = absurd h
  read_same (Stops stop origin u) (Gives others v) h = absurd h
  read_same (Stops stop origin u) (Stops other from v) h = rw (h.0, h.1, state_same u v h.2) refl
  read_same (Stops stop origin u) Unknown h = absurd h
  read_same Unknown r h = absurd h

pub roots_are_read : RootsAreRead
roots_are_read = record { same = λ w scope expected stobjs symbols used a b h. read_same w scope expected stobjs symbols used a b h }
