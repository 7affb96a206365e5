-- A term that is evaluated with no object in scope.
use Rattle.std.proofs.Common.{◌≡◌, ℕ, List, [], length, sym, subst}
use Rattle.model_symbols.specs.Symbols.{Table}
use Rattle.model_eval.specs.Outcomes.{Stobjs}
use Rattle.acl_base.specs.declared.TermId.{TermId}
use Rattle.acl_base.specs.declared.Word.{Word}
use Rattle.acl_heap.specs.Objects.{Objects}
use Rattle.acl_forms.specs.Forms.{AreWhole}
use Rattle.acl_terms.specs.declared.outcome.Shown.{Shown}
use Rattle.acl_worlds.specs.Contents.{Content}
use Rattle.acl_list_scope.specs.declared.scoped.ScopedLists.{ScopedLists}
use Rattle.acl_list_scope.specs.Kept.{Keeps}
use Rattle.acl_list_keeper.specs.Sound.{WorldFits}
use Rattle.acl_engine.specs.declared.outcome.Outcome.{Outcome}
use Rattle.acl_machine.specs.Cells.{AreWholeCells}
use Rattle.acl_machine.specs.Views.{Around}
use Rattle.acl_evaluate.specs.Begun.{all_values}
use Rattle.acl_evaluate.specs.Evaluating.{lists_in, IsAtRest, Evaluates}
use Rattle.acl_evaluate.proofs.EvaluateLemmas.{words_whole}
use Rattle.acl_pure.specs.Alone.{EvaluatesAlone}

pub nothing_in : (s : ScopedLists) → Keeps s [] [] → lists_in s ≡ []
nothing_in s k = k.is

pub empty_rests : (s : ScopedLists) → Keeps s [] [] → IsAtRest s
empty_rests s k = record { keeps = subst (λ (l : Stobjs ℕ). Keeps s l []) (sym k.is) k }

pub values_whole : (t : Table) (h : Objects) (w : Content) (vs : List Shown) (ws : List Word) → vs ≡ all_values ws → AreWhole t h ws → WorldFits h w (length t.symbols) → AreWholeCells t h vs
values_whole t h w vs ws e a f = subst (λ (xs : List Shown). AreWholeCells t h xs) (sym e) (words_whole t h f.some ws a)

pub evaluates_alone : (a after : Around) (t : TermId) (vs : List Shown) (ws : List Word) (before later : Stobjs ℕ) (used depth : ℕ) (o : Outcome)
    → vs ≡ all_values ws → before ≡ [] → Evaluates a after t vs before later used depth o → EvaluatesAlone a after t ws used depth o
evaluates_alone a after t vs ws before later used depth o e n ev = record {
  later = later;
  is = subst (λ (xs : List Shown). Evaluates a after t xs [] later used depth o) e (subst (λ (l : Stobjs ℕ). Evaluates a after t vs l later used depth o) n ev);
}
