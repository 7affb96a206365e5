-- The rules of abstract evaluation keep each outcome at larger budgets.
use Rattle.std.proofs.Common.{◌≡◌, ◌∙◌, ℕ, ◌≤◌, List, [], map, Option, Some, None, refl, ap}
use Rattle.std.specs.Option.{option_map}
use Rattle.model_symbols.specs.Symbols.{QualifiedName}
use Rattle.model_lists.specs.Lists.{StobjList, Value}
use Rattle.model_terms.specs.Cores.{Core}
use Rattle.model_terms.specs.Worlds.{Definition, FunctionOfAbstract, definition, Primitive, Defined, Macro, Constant, Concrete, Generated, Abstract, OfAbstract, Named, Signed}
use Rattle.model_eval.specs.Outcomes.{Shown, State, Outcome, Gives, Stops, Unknown}
use Rattle.model_eval.specs.Variables.{Variables}
use Rattle.model_logic.specs.Logic.{Theory, Thing, Found}
use Rattle.model_abstract.specs.Rules.{logic_value_of, fresh_defined, logic_actual, abstract_export, abstract_rules, abstractly}
use Rattle.model_abstract_laws.specs.Budgets.{HasOutcome, AbstractBudgetsAgree}
use Rattle.model_abstract_laws.proofs.BudgetLemmas.{More, more_call}
use Rattle.model_abstract_laws.proofs.Kept.{Kept, ListKept, Keeps, kept_evaluated}

-- the second is the first, where the first is a value
abbrev ThingKept : Option Thing → Option Thing → Type 0
ThingKept None v = Unit {0}
ThingKept (Some v) w = w ≡ Some v

value_kept : (x y : Option Found) → More x y → ThingKept (option_map (λ (f : Found). f.value) x) (option_map (λ (f : Found). f.value) y)
value_kept None y h = tt
value_kept (Some f) y h = ap (option_map (λ (f : Found). f.value)) h

list_kept : (x y : Option Thing) → ThingKept x y → ListKept (option_map Value x) (option_map Value y)
list_kept None y h = tt
list_kept (Some v) y h = ap (option_map Value) h

module _ (b : Theory) (m n : ℕ) (larger : m ≤ n) where
  logic_value_kept : (name : ℕ) (args : List Thing) → ThingKept (logic_value_of b m name args) (logic_value_of b n name args)
  logic_value_kept name args = value_kept _ _ (more_call b m n larger m n larger name args 0)

  defined_kept : (x : ℕ) (d : Option Definition) → ListKept (fresh_defined b m x d) (fresh_defined b n x d)
  defined_kept x None = refl
  defined_kept x (Some (Primitive name row)) = refl
  defined_kept x (Some (Defined f)) = refl
  defined_kept x (Some (Macro name formals body)) = refl
  defined_kept x (Some (Constant name value)) = refl
  defined_kept x (Some (Concrete d class)) = refl
  defined_kept x (Some (Generated g)) = refl
  defined_kept x (Some (Abstract d)) = list_kept _ _ (logic_value_kept d.creator.logic [])
  defined_kept x (Some (OfAbstract f)) = refl
  defined_kept x (Some (Named name formals)) = refl
  defined_kept x (Some (Signed name formals signature executable)) = refl

  export_kept : (f : FunctionOfAbstract) (values : List (Shown QualifiedName)) (state : State QualifiedName) (x y : Option Thing) → ThingKept x y → Kept (abstract_export b m f values state x) (abstract_export b n f values state y)
  export_kept f values state None y h = tt
  export_kept f values state (Some v) y h = ap (abstract_export b n f values state) h

  rules_keep : (k : ℕ) → Keeps (abstract_rules b m k) (abstract_rules b n k).fresh (abstract_rules b n k).export
  rules_keep k = record {
    freshly = λ x. defined_kept x (definition b.world x);
    exports = λ f values before go to h state. export_kept f values state _ _ (logic_value_kept f.logic (map (logic_actual b m state.stobjs) values));
  }

  abstractly_kept : (k d : ℕ) (form : Core) (variables : Variables QualifiedName) (state : State QualifiedName) → Kept (abstractly b m k d form variables state) (abstractly b n k d form variables state)
  abstractly_kept k d form variables state = kept_evaluated (abstract_rules b m k) _ _ (rules_keep k) d form variables state

kept_outcome : (r s : Outcome QualifiedName) → Kept r s → HasOutcome r → s ≡ r
kept_outcome (Gives values state) s e h = e
kept_outcome (Stops stop origin state) s e h = e
kept_outcome Unknown s e h = absurd h

kept_list : (x y : Option (StobjList QualifiedName)) (l : StobjList QualifiedName) → ListKept x y → x ≡ Some l → y ≡ Some l
kept_list None y l h e = cc
kept_list (Some k) y l h e = h ∙ e

pub abstract_budgets_agree : AbstractBudgetsAgree
abstract_budgets_agree = record {
  same = λ b m n k d form variables state larger. kept_outcome _ _ (abstractly_kept b m n larger k d form variables state);
  fresh = λ b m n x l larger. kept_list _ _ l (defined_kept b m n larger x (definition b.world x));
}
