-- Turns that follow one another are turns of the machine over trees.
use Rattle.std.proofs.Common.{◌≡◌, ℕ, zero, suc, List, refl, sym, ap, ◌∙◌, subst}
use Rattle.model_symbols.specs.Symbols.{QualifiedName}
use Rattle.model_eval.specs.Outcomes.{OutcomeOf}
use Rattle.model_eval.specs.Keeping.{Keeping}
use Rattle.model_eval.specs.Evaluated.{RulesOf}
use Rattle.model_eval.specs.Checked.{checked_keeping}
use Rattle.model_window.specs.Frames as windows
use Rattle.model_window.specs.Frames.{Code}
use Rattle.model_window.specs.Turns.{turn}
use Rattle.model_window.specs.Laws.{Leads, EndsIn}
use Rattle.acl_heap.specs.Objects.{Objects, Extends}
use Rattle.acl_forms.specs.Forms.{Grown}
use Rattle.acl_forms.specs.Growth.{Grown-self, Grown-then}
use Rattle.acl_terms.specs.Growth.{seen_definitions-later}
use Rattle.acl_worlds.specs.Contents.{WorldLies}
use Rattle.acl_code.specs.Tables.{TermsLie}
use Rattle.acl_code.proofs.TableLemmas.{forest_kept}
use Rattle.acl_machine.specs.Views.{Around, world_of, trees_of, code_of, code_with, machine_of}
use Rattle.acl_machine.specs.declared.machine.Machine.{Machine}
use Rattle.acl_machine.specs.Turns.{rules_of, IsOver, ended_by}
use Rattle.acl_turns.specs.Runs.{Moment, moment, Turning, Runs, RunsTo, EndsTo}
use Rattle.acl_turns.specs.Laws.{RunsLead}

-- ---- what is around

module _ {O B : Type 0} (keeping : Keeping ℕ O B) where
  -- heap and symbols have grown
  abbrev later : Around → Objects → List QualifiedName → Around
  later a h symbols = record a { heap = h; table = record { packages = a.table.packages; symbols = symbols } }

  same_rules : (a : Around) (h : Objects) (symbols : List QualifiedName) → Extends a.heap h → WorldLies a.heap a.content → rules_of keeping (later a h symbols) ≡ rules_of keeping a
  same_rules a h symbols e l = ap (λ w. checked_keeping keeping w a.table.packages a.limit) (seen_definitions-later e a.content.definitions l)

  same_code : (a : Around) (h : Objects) (symbols : List QualifiedName) → Extends a.heap h → TermsLie a.heap a.terms → code_of (later a h symbols) ≡ code_of a
  same_code a h symbols e l = ap (λ ts. code_with ts a.content.definitions) (forest_kept a.heap h a.terms e l)

  module _ (d : B) where
    grown_after : (n : ℕ) (start now : Moment O B) → Runs keeping d n start now → Grown start.there.table now.there.table start.there.heap now.there.heap
    grown_after zero start now runs = subst (λ (x : Moment O B). Grown start.there.table x.there.table start.there.heap x.there.heap) runs (Grown-self start.there.table start.there.heap)
    grown_after (suc n) start now runs = Grown-then (grown_after n start runs.0 runs.1) runs.2.grows

    around_after : (n : ℕ) (start now : Moment O B) → Runs keeping d n start now → now.there ≡ later start.there now.there.heap now.there.table.symbols
    around_after zero start now runs = subst (λ (x : Moment O B). x.there ≡ later start.there x.there.heap x.there.table.symbols) runs refl
    around_after (suc n) start now runs = runs.2.stays ∙ ap (λ (x : Around). later x now.there.heap now.there.table.symbols) (around_after n start runs.0 runs.1)

  -- ---- turns

  module _ (r : RulesOf keeping) (code : Code) where
    lead_more : (n : ℕ) (start : windows.Turned ℕ O B) (m m' : windows.Machine ℕ O B) → Leads r code n start m → turn r code m ≡ windows.Going m' → Leads r code (suc n) start m'
    lead_more n (windows.Over last) m m' l e = absurd (never n l)
      where
        never : (n : ℕ) → Leads r code n (windows.Over last) m → ⊥
        never zero l = l
        never (suc n) l = l
    lead_more zero (windows.Going s) m m' l e = subst (λ t. Leads r code zero t m') (sym (ap (turn r code) l ∙ e)) refl
    lead_more (suc n) (windows.Going s) m m' l e = lead_more n (turn r code s) m m' l e

    lead_ends : (n : ℕ) (start : windows.Turned ℕ O B) (m : windows.Machine ℕ O B) (o : OutcomeOf ℕ O) → Leads r code n start m → turn r code m ≡ windows.Over o → EndsIn r code (suc n) start o
    lead_ends n (windows.Over last) m o l e = absurd (never n l)
      where
        never : (n : ℕ) → Leads r code n (windows.Over last) m → ⊥
        never zero l = l
        never (suc n) l = l
    lead_ends zero (windows.Going s) m o l e = subst (λ t. EndsIn r code zero t o) (sym (ap (turn r code) l ∙ e)) refl
    lead_ends (suc n) (windows.Going s) m o l e = lead_ends n (turn r code s) m o l e

  module _ (d : B) where
    abbrev trees_at : Moment O B → windows.Machine ℕ O B
    trees_at x = machine_of x.there d x.kept x.lefts x.machine

    -- a turn by the rules that held at first
    by_first : (a b : Around) (m : windows.Machine ℕ O B) (t : windows.Turned ℕ O B) → Extends a.heap b.heap → WorldLies a.heap a.content → TermsLie a.heap a.terms → b ≡ later a b.heap b.table.symbols
        → turn (rules_of keeping b) (code_of b) m ≡ t → turn (rules_of keeping a) (code_of a) m ≡ t
    by_first a b m t e world lie stays is =
        ap (λ r. turn r (code_of a) m) (sym rules) ∙ (ap (λ c. turn (rules_of keeping b) c m) (sym codes) ∙ is)
      where
        rules : rules_of keeping b ≡ rules_of keeping a
        rules = ap (rules_of keeping) stays ∙ same_rules a b.heap b.table.symbols e world

        codes : code_of b ≡ code_of a
        codes = ap code_of stays ∙ same_code a b.heap b.table.symbols e lie

    lead : (n : ℕ) (start now : Moment O B) → WorldLies start.there.heap start.there.content → TermsLie start.there.heap start.there.terms → Runs keeping d n start now
        → Leads (rules_of keeping start.there) (code_of start.there) n (windows.Going (trees_at start)) (trees_at now)
    lead zero start now world lie runs = ap trees_at runs
    lead (suc n) start now world lie runs =
        lead_more (rules_of keeping start.there) (code_of start.there) n (windows.Going (trees_at start)) (trees_at runs.0) (trees_at now) (lead n start runs.0 world lie runs.1)
        (by_first start.there runs.0.there (trees_at runs.0) (windows.Going (trees_at now)) (grown_after d n start runs.0 runs.1).heap world lie (around_after d n start runs.0 runs.1) runs.2.is)

    abbrev outcome_at : Moment O B → OutcomeOf ℕ O
    outcome_at x = ended_by (trees_at x).control (trees_at x).state

    end : (n : ℕ) (start now : Moment O B) → WorldLies start.there.heap start.there.content → TermsLie start.there.heap start.there.terms → Runs keeping d n start now → IsOver keeping now.there now.machine
        → EndsIn (rules_of keeping start.there) (code_of start.there) (suc n) (windows.Going (trees_at start)) (outcome_at now)
    end n start now world lie runs over =
        lead_ends (rules_of keeping start.there) (code_of start.there) n (windows.Going (trees_at start)) (trees_at now) (outcome_at now) (lead n start now world lie runs)
        (by_first start.there now.there (trees_at now) (windows.Over (outcome_at now)) (grown_after d n start now runs).heap world lie (around_after d n start now runs) (over.over d now.kept now.lefts))

  pub runs_lead : RunsLead keeping
  runs_lead = record { leads = lead; ends = end }

  -- where turns lead to a machine that is over, they are those to its end
  pub run_ends : (Before After : O → List B → Type 0) (a after : Around) (m n : Machine) → WorldLies a.heap a.content → TermsLie a.heap a.terms → RunsTo keeping Before After a after m n → IsOver keeping after n
      → EndsTo keeping Before After a after m n
  run_ends Before After a after m n world lie runs over = record {
    to = λ d kept lefts goes.
        let last = runs.to d kept lefts goes in
        record {
          later = last.later;
          left = last.left;
          goes = last.goes;
          count = suc last.count;
          ends = end d last.count (moment a m kept lefts) (moment after n last.later last.left) world lie last.runs over;
        };
  }
