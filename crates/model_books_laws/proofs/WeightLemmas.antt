-- The first obligation that is too heavy.
use Rattle.std.proofs.Common.{◌≡◌, ◌<◌, List, [], ◌∷◌, ◌++◌, Bool, true, false, Some, None, refl, sym, ap, ◌∙◌}
use Rattle.std.specs.Prelude.{nat_le, if◌then◌else◌}
use Rattle.std.specs.List.{AllByRecursion}
use Rattle.std.proofs.lemmas.Bool.{le-leb, lt-leb, leb-true, leb-false}
use Rattle.model_objects.specs.Object.{weight, max_weight}
use Rattle.model_expansion.specs.Faults.{Refusal, TooLarge}
use Rattle.model_stobjs.specs.Obligations.{Obligation, too_large, obligation_form}
use Rattle.model_books_laws.specs.Refusals.{IsLight, IsOfTheFirst, TooLargeIsTheFirst}

all_light : (os : List Obligation) → too_large os ≡ None → AllByRecursion IsLight os
all_light [] e = tt
all_light (o ∷ os) e = go (nat_le (weight (obligation_form o)) max_weight) refl e (all_light os)
  where
    go : (b : Bool) → nat_le (weight (obligation_form o)) max_weight ≡ b → (if b then too_large os else Some (TooLarge o.owner)) ≡ None
        → (too_large os ≡ None → AllByRecursion IsLight os) → IsLight o × AllByRecursion IsLight os
    go true t e rest = (leb-true (weight (obligation_form o)) max_weight t, rest e)
    go false t e rest = cc

none_heavy : (os : List Obligation) → AllByRecursion IsLight os → too_large os ≡ None
none_heavy [] h = refl
none_heavy (o ∷ os) h = rw (le-leb (weight (obligation_form o)) max_weight h.0) (none_heavy os h.1)

the_first : (os : List Obligation) (r : Refusal) → too_large os ≡ Some r → IsOfTheFirst os r
the_first [] r e = cc
the_first (o ∷ os) r e = go (nat_le (weight (obligation_form o)) max_weight) refl e (the_first os r)
  where
    later : IsLight o → IsOfTheFirst os r → IsOfTheFirst (o ∷ os) r
    later l f = record { light = o ∷ f.light; heavy = f.heavy; others = f.others; all = ap (λ xs. o ∷ xs) f.all; before = (l, f.before); above = f.above; owner = f.owner }

    refusal_is : Some (TooLarge o.owner) ≡ Some r → r ≡ TooLarge o.owner
    refusal_is h = cc

    go : (b : Bool) → nat_le (weight (obligation_form o)) max_weight ≡ b → (if b then too_large os else Some (TooLarge o.owner)) ≡ Some r
        → (too_large os ≡ Some r → IsOfTheFirst os r) → IsOfTheFirst (o ∷ os) r
    go true t e rest = later (leb-true (weight (obligation_form o)) max_weight t) (rest e)
    go false t e rest =
        record { light = []; heavy = o; others = os; all = refl; before = tt; above = leb-false (weight (obligation_form o)) max_weight t; owner = refusal_is e }

past_light : (light : List Obligation) (heavy : Obligation) (others : List Obligation) → AllByRecursion IsLight light → max_weight < weight (obligation_form heavy)
    → too_large (light ++ heavy ∷ others) ≡ Some (TooLarge heavy.owner)
past_light [] heavy others h above = rw (lt-leb (weight (obligation_form heavy)) max_weight above) refl
past_light (o ∷ light) heavy others h above = rw (le-leb (weight (obligation_form o)) max_weight h.0) (past_light light heavy others h.1 above)

refused_at_first : (os : List Obligation) (r : Refusal) → IsOfTheFirst os r → too_large os ≡ Some r
refused_at_first os r f = ap too_large f.all ∙ (past_light f.light f.heavy f.others f.before f.above ∙ ap Some (sym f.owner))

pub too_large_is_the_first : TooLargeIsTheFirst
too_large_is_the_first = record { none = λ os. (all_light os, none_heavy os); some = λ os r. (the_first os r, refused_at_first os r) }
