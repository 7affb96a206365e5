-- What a computation of the logic ends with where C gave values: a value that has them as its parts. Where no function is of an
-- abstract stobj it is their very list.
use Rattle.std.proofs.Common.{◌≡◌, ℕ, suc, ◌+◌, ◌≤◌, List, [], ◌∷◌, map, length, Some, refl, sym, ap, ◌∙◌, subst, arith}
use Rattle.model_prims.specs.Kinds.{by_name}
use Rattle.model_prims.specs.Lists.{element}
use Rattle.model_terms.specs.Worlds.{World, FunctionOfAbstract, OfAbstract, Out, definition}
use Rattle.model_logic.specs.Logic.{Theory, Thing, element_values, parts_for}
use Rattle.model_abstract.specs.Rules.{out_parts}
use Rattle.model_follows.specs.Costs.{Counted, Ends}
use Rattle.model_follows.specs.Follows.{one_thing}
use Rattle.model_follows.proofs.KidParts.{parts_are}

abbrev pub HasNoAbstracts : World → Type 0
HasNoAbstracts w = (x : ℕ) (f : FunctionOfAbstract) → definition w x ≡ Some (OfAbstract f) → ⊥

-- as many places as there are parts
abbrev pub places : List Thing → List ℕ
places os = map (λ (o : Thing). 0) os

pub record Ended (w : World) (logic : Counted) (os : List Thing) : Type 0 where
  pub value : Thing
  pub ends : Ends logic value
  pub parts : parts_for (places os) value ≡ os
  pub exact : HasNoAbstracts w → value ≡ one_thing os

length_places : (os : List Thing) → length (places os) ≡ length os
length_places [] = refl
length_places (o ∷ os) = ap (λ (n : ℕ). suc n) (length_places os)

pub ended_one : (w : World) (logic : Counted) (os : List Thing) → Ends logic (one_thing os) → Ended w logic os
ended_one w logic os e = record { value = one_thing os; ends = e; parts = parts_are (places os) os (length_places os); exact = λ n. refl }

-- the same of another computation
pub ended_as : (w : World) (logic whole : Counted) (os : List Thing) → ((v : Thing) → Ends logic v → Ends whole v) → Ended w logic os → Ended w whole os
ended_as w logic whole os f e = record { value = e.value; ends = f e.value e.ends; parts = e.parts; exact = e.exact }

pub ended_single : (w : World) (logic : Counted) (o : Thing) → Ended w logic (o ∷ []) → Ends logic o
ended_single w logic o e = subst (Ends logic) (same e.parts) e.ends
  where
    same : e.value ∷ [] ≡ o ∷ [] → e.value ≡ o
    same q = cc

-- ---- the parts by whatever there are as many of

elements_alike : (xs ys : List ℕ) (n : ℕ) (v : Thing) → length xs ≡ length ys → element_values xs n v ≡ element_values ys n v
elements_alike [] [] n v e = refl
elements_alike [] (y ∷ ys) n v e = absurd (omega (arith, e))
elements_alike (x ∷ xs) [] n v e = absurd (omega (arith, e))
elements_alike (x ∷ xs) (y ∷ ys) n v e = ap (λ (os : List Thing). element by_name n v ∷ os) (elements_alike xs ys (n + 1) v (omega (arith, e)))

parts_alike : (xs ys : List ℕ) (v : Thing) → length xs ≡ length ys → parts_for xs v ≡ parts_for ys v
parts_alike [] [] v e = refl
parts_alike [] (y ∷ ys) v e = absurd (omega (arith, e))
parts_alike (x ∷ xs) [] v e = absurd (omega (arith, e))
parts_alike (x ∷ []) (y ∷ []) v e = refl
parts_alike (x ∷ []) (y ∷ (z ∷ zs)) v e = absurd (omega (arith, e))
parts_alike (x ∷ (y ∷ ys)) (z ∷ []) v e = absurd (omega (arith, e))
parts_alike (x ∷ (y ∷ ys)) (z ∷ (u ∷ us)) v e = elements_alike (x ∷ (y ∷ ys)) (z ∷ (u ∷ us)) 0 v e

pub ended_parts : (w : World) (logic : Counted) (os : List Thing) (e : Ended w logic os) (names : List ℕ) → length names ≡ length os → parts_for names e.value ≡ os
ended_parts w logic os e names l = parts_alike names (places os) e.value (l ∙ sym (length_places os)) ∙ e.parts

pub ended_elements : (w : World) (logic : Counted) (os : List Thing) (e : Ended w logic os) (names : List ℕ) → length names ≡ length os → 2 ≤ length names → element_values names 0 e.value ≡ os
ended_elements w logic os e [] l m = absurd (omega arith)
ended_elements w logic os e (x ∷ []) l m = absurd (omega arith)
ended_elements w logic os e (x ∷ (y ∷ ys)) l m = ended_parts w logic os e (x ∷ (y ∷ ys)) l

abbrev zeros : List Out → List ℕ
zeros outs = map (λ (q : Out). 0) outs

outs_places : (b : Theory) (outs : List Out) (v : Thing) → out_parts b 0 outs v ≡ parts_for (zeros outs) v
outs_places b [] v = refl
outs_places b (o ∷ []) v = refl
outs_places b (o ∷ (p ∷ ps)) v = refl

length_zeros : (outs : List Out) → length (zeros outs) ≡ length outs
length_zeros [] = refl
length_zeros (o ∷ os) = ap (λ (n : ℕ). suc n) (length_zeros os)

-- the parts by outputs
pub ended_outs : (w : World) (logic : Counted) (os : List Thing) (e : Ended w logic os) (b : Theory) (outs : List Out) → length outs ≡ length os → out_parts b 0 outs e.value ≡ os
ended_outs w logic os e b outs l = outs_places b outs e.value ∙ ended_parts w logic os e (zeros outs) (length_zeros outs ∙ l)

-- what has these parts by outputs
pub ended_by : (w : World) (logic : Counted) (os : List Thing) (b : Theory) (outs : List Out) (v : Thing) → Ends logic v → length outs ≡ length os → out_parts b 0 outs v ≡ os → (HasNoAbstracts w → ⊥) → Ended w logic os
ended_by w logic os b outs v e l p n = record {
  value = v;
  ends = e;
  parts = parts_alike (places os) (zeros outs) v (length_places os ∙ (sym l ∙ sym (length_zeros outs))) ∙ (sym (outs_places b outs v) ∙ p);
  exact = λ h. absurd (n h);
}
