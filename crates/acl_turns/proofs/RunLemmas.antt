-- Turns that follow one another.
use Rattle.std.proofs.Common.{◌≡◌, ℕ, zero, suc, List, length, refl, sym, ap, subst}
use Rattle.model_symbols.specs.Symbols.{Table}
use Rattle.model_terms.specs.Worlds.{World}
use Rattle.model_eval.specs.Keeping as keepings
use Rattle.model_eval.specs.Keeping.{Keeping}
use Rattle.acl_heap.specs.Objects.{Objects}
use Rattle.acl_forms.specs.Forms.{Grown}
use Rattle.acl_worlds.specs.Contents.{Content}
use Rattle.acl_code.specs.declared.term.Term.{Term}
use Rattle.acl_keep.specs.Calls.{Called}
use Rattle.acl_machine.specs.declared.machine.Machine.{Machine}
use Rattle.acl_machine.specs.Views.{Around, around}
use Rattle.acl_machine.specs.Keeping.{all_lefts, Goes, TurnsTo}
use Rattle.acl_turns.specs.Asking.{MayTurn}
use Rattle.acl_turns.specs.Leaving.{MayLeave}
use Rattle.acl_machine.specs.declared.frame.Turn.{Turn}
use Rattle.acl_machine.specs.declared.frame.Turn.TheVariants as did
use Rattle.acl_turns.specs.Taking.{Ended, Taken}
use Rattle.acl_turns.specs.Runs.{Moment, moment, Turning, Runs, RunTo, FailsAfter, RunsTo, Fails, MayRun}
use Rattle.acl_turns.proofs.LeaveLemmas.{leaves_nothing}

module _ {O B : Type 0} (keeping : Keeping ℕ O B) where
  pub run_starts : (Keeps : O → List B → Type 0) (a : Around) (m : Machine) → RunsTo keeping Keeps Keeps a a m m
  run_starts Keeps a m = record { to = λ d kept lefts goes. record { later = kept; left = lefts; goes = goes; count = zero; runs = refl } }

  pub run_more : (Before Mid After : O → List B → Type 0) (a : Around) (h h' : Objects) (w : Content) (ts : List Term) (t t' : Table) (limit : ℕ) (m n o : Machine)
      → RunsTo keeping Before Mid a (around h w ts t limit) m n → Grown t t' h h' → t'.packages ≡ t.packages → TurnsTo keeping Mid After (around h w ts t limit) (around h' w ts t' limit) n o
      → RunsTo keeping Before After a (around h' w ts t' limit) m o
  run_more Before Mid After a h h' w ts t t' limit m n o runs grows packages turns = record {
    to = λ d kept lefts goes.
        let there = runs.to d kept lefts goes in
        let then_there = turns.turns d there.later there.left there.goes in
        record {
          later = then_there.later;
          left = then_there.left;
          goes = then_there.goes;
          count = suc there.count;
          runs = (moment (around h w ts t limit) n there.later there.left, there.runs, record { grows = grows; stays = ap (λ ps. around h' w ts (record { packages = ps; symbols = t'.symbols }) limit) packages; behind = then_there.goes.behind; is = then_there.is });
        };
  }

  module _ (Before Mid After : O → List B → Type 0) (a there after : Around) (m n o : Machine) where
    pub run_ended : RunsTo keeping Before Mid a there m n → Ended keeping Mid After there after n o → RunsTo keeping Before After a after m o
    run_ended runs ended =
        subst (λ b. RunsTo keeping Before After a b m o) (sym ended.there)
        (subst (λ x. RunsTo keeping Before After a there m x) (sym ended.same)
        (record {
          to = λ d kept lefts goes.
              let last = runs.to d kept lefts goes in
              record {
                later = last.later;
                left = last.left;
                goes = record { keeps = ended.still last.later last.left last.goes.keeps; behind = last.goes.behind };
                count = last.count;
                runs = last.runs;
              };
        }))

  pub run_fails : (Before Mid After : O → List B → Type 0) (a there : Around) (m n : Machine) → RunsTo keeping Before Mid a there m n → MayLeave keeping Mid After there n → Fails keeping Before After a m
  run_fails Before Mid After a there m n runs leave = record {
    after = λ d kept lefts goes.
        let last = runs.to d kept lefts goes in
        record { last = moment there n last.later last.left; count = last.count; runs = last.runs; leaves = leave.leaves last.later last.left last.goes };
  }

  pub run_stays : (Before Mid : O → List B → Type 0) (a there : Around) (m n : Machine) → RunsTo keeping Before Mid a there m n → Fails keeping Before Mid a m
  run_stays Before Mid a there m n runs = run_fails Before Mid Mid a there m n runs (leaves_nothing keeping Mid there n)

  module _ (MayCall : Called → O → List B → Type 0) (MayReach : ℕ → ℕ → O → List B → Type 0) (MayLend : List (keepings.Loan ℕ) → O → List B → Type 0) (MayMake : World → ℕ → O → List B → Type 0) (MayUnmake MayAbandon : O → List B → Type 0) where
    pub may_next : (Before Mid : O → List B → Type 0) (a there : Around) (m n : Machine) → MayRun keeping MayCall MayReach MayLend MayMake MayUnmake MayAbandon Before a m → RunsTo keeping Before Mid a there m n
        → MayTurn keeping MayCall MayReach MayLend MayMake MayUnmake MayAbandon Mid there n
    may_next Before Mid a there m n may runs = record {
      may = (
          let last = runs.to may.default may.kept may.lefts may.goes in
          record { kept = last.later; lefts = last.left; goes = last.goes; may = may.may last.count (moment there n last.later last.left) last.runs });
    }

-- what a turn did, where it is known
module _ {O B : Type 0} (keeping : Keeping ℕ O B) (Before After : O → List B → Type 0) (a after : Around) (m n : Machine) where
  pub taken_going : (t : Turn) → t ≡ did.Going → Taken keeping Before After a after m n t → TurnsTo keeping Before After a after m n
  taken_going t e taken = subst (Taken keeping Before After a after m n) e taken

  pub taken_over : (t : Turn) → t ≡ did.Over → Taken keeping Before After a after m n t → Ended keeping Before After a after m n
  taken_over t e taken = subst (Taken keeping Before After a after m n) e taken
