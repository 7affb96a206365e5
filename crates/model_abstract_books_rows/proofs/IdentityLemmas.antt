-- The obligations of the book's stobj hold.
use Rattle.std.proofs.Common.{refl, ◌≡◌, ℕ, Bool, true, false, Option, List, [], sym, subst}
use Rattle.std.specs.Prelude.{codes}
use Rattle.model_objects.specs.Object.{Object, Integer, Symbol, Text, Pair}
use Rattle.model_symbols.proofs.NameLemmas.{same_name-Decides}
use Rattle.model_prims.specs.Kinds.{by_name, is_nil, nil_of, truth_of, same_object, is_integer}
use Rattle.model_prims.specs.Lists.{car, element, updated}
use Rattle.model_lists_laws.proofs.NormalLemmas.{same_itself, same_tells}
use Rattle.model_terms.specs.Cores.{Core}
use Rattle.model_logic.specs.Logic.{Thing, Values, Found, found}
use Rattle.model_abstract_laws.proofs.BudgetLemmas.{is_same_at_larger_budgets}
use Rattle.model_stobjs.specs.Obligations.{Claim, Correspondence, GuardTheorem, Preserved, Obligation}
use Rattle.model_abstract_books.specs.Holding.{Holds, EndsMet, AllHold}
use Rattle.model_abstract_books_rows.proofs.IdentityForms.{obligation, read_hypothesis, write_hypothesis, kept_hypothesis, known_obligations, integer_core, read_supposed, write_supposed, kept_supposed, created_core, created_well_core, read_core, written_core, written_well_core}
use Rattle.model_abstract_books_rows.proofs.IdentityValues.{object_value, well_formed_later, known_book, budget, value, concrete_in, abstract_in, element_in, told, where_met, is_list, is_single, has_integer, well_formed_value, corresponding_value, alike, created_value, created_well_value, read_value, written_value, integer_value, written_well_value, read_supposed_value, write_supposed_value, kept_supposed_value}

abbrev Met : Claim → Core → Values → Type 0
Met claim f values = EndsMet known_book claim f values

-- ---- what is supposed

not_nil : (f : Core) (values : Values) (calls : ℕ) → value f values ≡ found (nil_of by_name) calls → Met Correspondence f values → ⊥
not_nil f values calls e met =
    let same : met.0 ≡ nil_of by_name = is_same_at_larger_budgets.one known_book f values met.0 (nil_of by_name) met.1 (budget, calls, e) in
    absurd_test (subst (λ (v : Thing). is_nil by_name v ≡ false) same met.2)
  where
    absurd_test : true ≡ false → ⊥
    absurd_test e = cc

read_needs : (values : Values) (go : ℕ → Option Found) (p : Bool) → value read_supposed values ≡ corresponding_value p go → Met Correspondence read_supposed values → p ≡ true
read_needs values go true e met = refl
read_needs values go false e met = absurd (not_nil read_supposed values _ e met)

write_needs : (values : Values) (go : ℕ → Option Found) (p i : Bool) → value write_supposed values ≡ corresponding_value p (λ calls. where_met (told i calls) go) → Met Correspondence write_supposed values → (p ≡ true) × (i ≡ true)
write_needs values go true true e met = (refl, refl)
write_needs values go true false e met = absurd (not_nil write_supposed values _ e met)
write_needs values go false i e met = absurd (not_nil write_supposed values _ e met)

kept_needs : (values : Values) (go : ℕ → Option Found) (t l n i : Bool) → value kept_supposed values ≡ where_met (well_formed_value t l n 0) (λ calls. where_met (told i calls) go) → Met Correspondence kept_supposed values → (t ≡ true) × (l ≡ true) × (i ≡ true)
kept_needs values go true true true true e met = (refl, refl, refl)
kept_needs values go true true true false e met = absurd (not_nil kept_supposed values _ e met)
kept_needs values go true true false i e met = absurd (not_nil kept_supposed values _ e met)
kept_needs values go true false n i e met = absurd (not_nil kept_supposed values _ e met)
kept_needs values go false l n i e met = absurd (not_nil kept_supposed values _ e met)

-- ---- what follows

met_by : (claim : Claim) (f : Core) (values : Values) (calls : ℕ) (b : Bool) → value f values ≡ found (truth_of by_name b) calls → b ≡ true → Met claim f values
met_by Preserved f values calls b e h = (truth_of by_name true, (budget, calls, subst (λ c. value f values ≡ found (truth_of by_name c) calls) h e), refl)
met_by Correspondence f values calls b e h = (truth_of by_name true, (budget, calls, subst (λ c. value f values ≡ found (truth_of by_name c) calls) h e), refl)
met_by GuardTheorem f values calls b e h = (truth_of by_name true, (budget, calls, subst (λ c. value f values ≡ found (truth_of by_name c) calls) h e), refl)

-- the first element of any stobj
first_is_car : (o : Thing) → car by_name o ≡ element by_name 0 o
first_is_car (Integer n) = refl
first_is_car (Symbol s) = refl
first_is_car (Text bytes) = refl
first_is_car (Pair a d) = refl

alike_are_one : (values : Values) → alike values ≡ true → concrete_in values ≡ abstract_in values
alike_are_one values e = same_tells by_name same_name-Decides (concrete_in values) (abstract_in values) e

read_same : (c a : Thing) → c ≡ a → same_object by_name (car by_name a) (element by_name 0 c) ≡ true
read_same c a e =
    subst (λ (x : Thing). same_object by_name (car by_name a) (element by_name 0 x) ≡ true) (sym e)
    (subst (λ (x : Thing). same_object by_name (car by_name a) x ≡ true) (first_is_car a) (same_itself by_name same_name-Decides (car by_name a)))

written_same : (v c a : Thing) → c ≡ a → same_object by_name (updated by_name 0 v c) (updated by_name 0 v a) ≡ true
written_same v c a e =
    subst (λ (x : Thing). same_object by_name (updated by_name 0 v x) (updated by_name 0 v a) ≡ true) (sym e) (same_itself by_name same_name-Decides (updated by_name 0 v a))

-- a list of one element stays one
written_is_well : (v a : Thing) → is_list a ≡ true → is_single a ≡ true → is_integer v ≡ true → (is_list (updated by_name 0 v a) ≡ true) × (is_single (updated by_name 0 v a) ≡ true) × (has_integer (updated by_name 0 v a) ≡ true)
written_is_well v (Integer n) t l i = cc
written_is_well v (Symbol s) t l i = cc
written_is_well v (Text bytes) t l i = cc
written_is_well v (Pair x d) t l i = (t, l, i)

well_met : (f : Core) (values : Values) (t l n : Bool) → value f values ≡ well_formed_value t l n 2 → (t ≡ true) × (l ≡ true) × (n ≡ true) → Met Preserved f values
well_met f values true true true e h = (truth_of by_name true, (budget, _, e), refl)
well_met f values true true false e h = cc
well_met f values true false n e h = cc
well_met f values false l n e h = cc

-- ---- each of them

abbrev Kept : Obligation → Type 0
Kept o = Holds known_book o

created_holds : Kept (obligation 217 Correspondence (codes "CREATE-ST{CORRESPONDENCE}") [] created_core)
created_holds = record { holds = λ values s. met_by Correspondence created_core values _ true (created_value values) refl }

created_well_holds : Kept (obligation 217 Preserved (codes "CREATE-ST{PRESERVED}") [] created_well_core)
created_well_holds = record { holds = λ values s. met_by Preserved created_well_core values _ true (created_well_value values) refl }

read_holds : Kept (obligation 214 Correspondence (codes "VAL{CORRESPONDENCE}") read_hypothesis read_core)
read_holds = record {
  holds = λ values s.
      let p = read_needs values (object_value values) (alike values) (read_supposed_value values) s in
      met_by Correspondence read_core values _ _ (read_value values) (read_same (concrete_in values) (abstract_in values) (alike_are_one values p));
}

written_holds : Kept (obligation 215 Correspondence (codes "UPDATE-VAL{CORRESPONDENCE}") write_hypothesis written_core)
written_holds = record {
  holds = λ values s.
      let p = write_needs values (object_value values) (alike values) (is_integer (element_in values)) (write_supposed_value values) s in
      met_by Correspondence written_core values _ _ (written_value values) (written_same (element_in values) (concrete_in values) (abstract_in values) (alike_are_one values p.0));
}

integer_holds : Kept (obligation 215 GuardTheorem (codes "UPDATE-VAL{GUARD-THM}") write_hypothesis integer_core)
integer_holds = record {
  holds = λ values s.
      let p = write_needs values (object_value values) (alike values) (is_integer (element_in values)) (write_supposed_value values) s in
      met_by GuardTheorem integer_core values _ _ (integer_value values) p.1;
}

written_well_holds : Kept (obligation 215 Preserved (codes "UPDATE-VAL{PRESERVED}") kept_hypothesis written_well_core)
written_well_holds = record {
  holds = λ values s.
      let p = kept_needs values (well_formed_later (abstract_in values)) (is_list (abstract_in values)) (is_single (abstract_in values)) (has_integer (abstract_in values)) (is_integer (element_in values)) (kept_supposed_value values) s in
      well_met written_well_core values _ _ _ (written_well_value values) (written_is_well (element_in values) (abstract_in values) p.0 p.1 p.2);
}

pub all_hold : AllHold known_book known_obligations
all_hold = (created_holds, (created_well_holds, (read_holds, (written_holds, (integer_holds, (written_well_holds, tt))))))
