-- What the evaluation of a form over live objects gives.
use Rattle.std.specs.Prelude.{◌≡◌, ℕ}
use Rattle.model_terms.specs.Cores.{Core}
use Rattle.model_eval.specs.Outcomes.{Stobjs}
use Rattle.model_live_forms.specs.Trees.{HasLiveTree}
use Rattle.model_live_forms.specs.Laws.{live_value}
use Rattle.acl_base.specs.declared.TermId.{TermId}
use Rattle.acl_code.specs.Tables.{tree_in}
use Rattle.acl_engine.specs.declared.outcome.Outcome.{Outcome}
use Rattle.acl_engine.specs.Outcomes.{seen_outcome}
use Rattle.acl_machine.specs.Views.{Around, world_of, trees_of}

-- for each accepted form over the live objects whose tree the term stands for, the outcome is that of checked evaluation over their
-- lists, which are then those that it leaves
pub record EvaluatesLive (a after : Around) (t : TermId) (before later : Stobjs ℕ) (used depth : ℕ) (o : Outcome) : Type 0 where
  pub is : (form : Core) → HasLiveTree (world_of a) before form (tree_in (trees_of a) t)
      → seen_outcome after.heap after.table.symbols later o ≡ live_value (world_of a) a.table.packages a.limit depth form before a.table.symbols used
