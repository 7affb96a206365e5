-- The evaluation of a term over words, no object being in scope.
use Rattle.std.specs.Prelude.{ℕ, List, []}
use Rattle.model_eval.specs.Outcomes.{Stobjs}
use Rattle.acl_base.specs.declared.TermId.{TermId}
use Rattle.acl_base.specs.declared.Word.{Word}
use Rattle.acl_engine.specs.declared.outcome.Outcome.{Outcome}
use Rattle.acl_machine.specs.Views.{Around}
use Rattle.acl_evaluate.specs.Begun.{all_values}
use Rattle.acl_evaluate.specs.Evaluating.{Evaluates}

-- no stobj is in scope at first
pub record EvaluatesAlone (a after : Around) (t : TermId) (words : List Word) (used depth : ℕ) (o : Outcome) : Type 0 where
  pub later : Stobjs ℕ
  pub is : Evaluates a after t (all_values words) [] later used depth o
