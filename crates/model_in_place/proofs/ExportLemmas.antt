-- How an export ends: what is remembered is as it was before, and after a stop the stobj has its list again.
use Rattle.std.proofs.Common.{◌≡◌, ℕ, List, [], ◌∷◌, length, Bool, true, false, Some, None, refl, sym, ap, ◌∙◌, subst, add-one}
use Rattle.std.specs.Prelude.{nat_eq, if◌then◌else◌}
use Rattle.std.proofs.lemmas.Bool.{eqb-true}
use Rattle.model_lists.specs.Lists.{StobjList}
use Rattle.model_terms.specs.Worlds.{World, Out, Ordinary, Scope}
use Rattle.model_terms.specs.Worlds as worlds
use Rattle.model_eval.specs.Outcomes.{Shown, Plain, StobjNamed, Stobjs}
use Rattle.model_eval.specs.PlacesKeeping.{Journal, Closed, Open, opened_journal, closed_journal, roots_restored}
use Rattle.model_eval.specs.Variables.{list_of, with_list}
use Rattle.model_eval_laws.proofs.Lists.{same_number}
use Rattle.model_accepted.specs.StobjScopes.{IsStobj}
use Rattle.model_in_place.specs.Writes.{Write, stobjs_after, AreWrites}
use Rattle.model_in_place.specs.Calls.{names_in, AreArguments}
use Rattle.model_accepted.proofs.ScopeLemmas.{none_some}
use Rattle.model_in_place.proofs.ObjectLemmas.{written_twice, written_same}

-- ---- what is remembered

pub closed_opened : (roots : List (StobjList ℕ)) (j : Journal ℕ) → closed_journal (opened_journal roots j) ≡ j
closed_opened roots Closed = refl
closed_opened roots (Open n before) = ap (λ (m : ℕ). closed_journal (Open m before)) (add-one n)

-- the outermost export brings the roots back
pub back_at_stop : (j after : Journal ℕ) (roots others : List (StobjList ℕ)) → after ≡ opened_journal roots j → j ≡ Closed → roots_restored after others ≡ roots
back_at_stop j after roots others e c = ap (λ (k : Journal ℕ). roots_restored k others) (e ∙ ap (opened_journal roots) c)

pub count_at_stop : (j after : Journal ℕ) (roots others : List (StobjList ℕ)) → after ≡ opened_journal roots j → length others ≡ length roots → length (roots_restored after others) ≡ length roots
count_at_stop Closed after roots others e f = ap (λ (k : Journal ℕ). length (roots_restored k others)) e
count_at_stop (Open n before) after roots others e f = ap (λ (k : Journal ℕ). length (roots_restored k others)) (e ∙ ap (λ (m : ℕ). Open m before) (add-one n)) ∙ f

-- ---- the stobj's list

only_written : (w : World) (y : ℕ) (us : List Write) (stobjs : Stobjs ℕ) (l : StobjList ℕ) → AreWrites w (λ x. x ≡ y) us → with_list y l (stobjs_after us stobjs) ≡ with_list y l stobjs
only_written w y [] stobjs l a = refl
only_written w y (u ∷ us) stobjs l a =
    only_written w y us (with_list u.0 u.1 stobjs) l a.2 ∙ (ap (λ (x : ℕ). with_list y l (with_list x u.1 stobjs)) a.0 ∙ written_twice y l u.1 stobjs)

pub list_is_back : (w : World) (y : ℕ) (us : List Write) (stobjs : Stobjs ℕ) → AreWrites w (λ x. x ≡ y) us → with_list y (list_of stobjs y) (stobjs_after us stobjs) ≡ stobjs
list_is_back w y us stobjs a = only_written w y us stobjs (list_of stobjs y) a ∙ written_same y stobjs

-- ---- one stobj alone in scope

abbrev pub only : ℕ → Scope
only y = record { name = y; kind = worlds.Stobj y } ∷ []

pub only_object : (y : ℕ) → IsStobj (only y) y
only_object y = rw (same_number y) refl

pub only_is : (y x : ℕ) → IsStobj (only y) x → x ≡ y
only_is y x h = go (nat_eq x y) refl h
  where
    go : (b : Bool) → nat_eq x y ≡ b → (if b then Some (worlds.Stobj y) else None) ≡ Some (worlds.Stobj x) → x ≡ y
    go true e f = eqb-true x y e
    go false e f = none_some f

abbrev AreAll : ℕ → List ℕ → Type 0
AreAll y [] = Unit {0}
AreAll y (n ∷ ns) = (n ≡ y) × AreAll y ns

arguments_by : (w : World) (scope : Scope) (y : ℕ) (ins : List Out) (values : List (Shown ℕ)) → AreAll y (names_in values) → AreArguments w scope ins values → AreArguments w (only y) ins values
arguments_by w scope y [] [] i a = tt
arguments_by w scope y [] (v ∷ vs) i a = absurd a
arguments_by w scope y (k ∷ ks) [] i a = absurd a
arguments_by w scope y (Ordinary ∷ ks) (Plain o ∷ vs) i a = (tt, arguments_by w scope y ks vs i a.1)
arguments_by w scope y (Ordinary ∷ ks) (StobjNamed z ∷ vs) i a = absurd a.0
arguments_by w scope y (worlds.Stobj x ∷ ks) (Plain o ∷ vs) i a = absurd a.0
arguments_by w scope y (worlds.Stobj x ∷ ks) (StobjNamed z ∷ vs) i a = ((subst (IsStobj (only y)) (sym i.0) (only_object y), a.0.1), arguments_by w scope y ks vs i.1 a.1)

-- arguments of which this is the only stobj
pub only_arguments : (w : World) (scope : Scope) (y : ℕ) (ins : List Out) (values : List (Shown ℕ)) → names_in values ≡ y ∷ [] → AreArguments w scope ins values → AreArguments w (only y) ins values
only_arguments w scope y ins values e a = arguments_by w scope y ins values (subst (AreAll y) (sym e) (refl, tt)) a
