-- A term that begins is the one that it stands for.
use Rattle.std.proofs.Common.{◌≡◌, ℕ, List, length, refl, sym, ap, ◌∙◌, subst}
use Rattle.model_symbols.specs.Symbols.{Table}
use Rattle.model_terms.specs.Worlds.{World}
use Rattle.model_eval.specs.Keeping.{Keeping}
use Rattle.model_slots.specs.Trees.{Tree}
use Rattle.model_window.specs.Frames as windows
use Rattle.model_window.specs.Turns.{turn}
use Rattle.acl_base.specs.declared.TermId.{TermId}
use Rattle.acl_heap.specs.Objects.{Objects}
use Rattle.acl_worlds.specs.Contents.{Content}
use Rattle.acl_code.specs.declared.term.Term.{Term}
use Rattle.acl_code.specs.Tables.{tree_at}
use Rattle.acl_machine.specs.declared.frame.Control.{Control}
use Rattle.acl_machine.specs.declared.frame.Control.TheVariants as control
use Rattle.acl_machine.specs.declared.machine.Machine.{Machine}
use Rattle.acl_machine.specs.Views.{Around, around, trees_of, code_of, seen_control, seen_origin, machine_of}
use Rattle.acl_machine.specs.Turns.{rules_of, turned}
use Rattle.acl_machine.specs.Steps.{beginning, IsSound}
use Rattle.acl_machine.specs.Keeping.{Goes, TurnsTo, MayGo}
use Rattle.acl_turns.specs.Asking.{AsksBeginning}

pub sound_own : (t : Table) (h : Objects) (m n : Machine) (u : TermId) (base : ℕ) → n ≡ beginning u base m → IsSound t h m → IsSound t h n
sound_own t h m n u base q i = subst (IsSound t h) (sym q) (record { values = i.values; given = i.given; loans = i.loans })

module _ {O B : Type 0} (MayMake : World → ℕ → O → List B → Type 0) (Keeps : O → List B → Type 0) (h : Objects) (w : Content) (ts : List Term) (t : Table) (limit : ℕ) where
  pub may_own : (m n : Machine) (u v : TermId) (base : ℕ) → n ≡ beginning v base m → tree_at h ts v ≡ tree_at h ts u
      → MayGo Keeps (AsksBeginning MayMake (around h w ts t limit) (tree_at h ts u)) m → MayGo Keeps (AsksBeginning MayMake (around h w ts t limit) (tree_at h ts v)) n
  may_own m n u v base q e may = subst (λ x. MayGo Keeps (AsksBeginning MayMake (around h w ts t limit) (tree_at h ts v)) x) (sym q) (record {
    kept = may.kept;
    lefts = may.lefts;
    goes = record { keeps = may.goes.keeps; behind = may.goes.behind };
    may = subst (λ tree. AsksBeginning MayMake (around h w ts t limit) tree may.kept may.lefts) (sym e) may.may;
  })

module _ {O B : Type 0} (keeping : Keeping ℕ O B) where
  same_seen : (a : Around) (m : Machine) (u v : TermId) (base : ℕ) (d : B) (kept : O) (ls : List B) → m.control ≡ control.Begin u base → tree_at a.heap a.terms v ≡ tree_at a.heap a.terms u
      → machine_of a d kept ls (beginning v base m) ≡ machine_of a d kept ls m
  same_seen a m u v base d kept ls c e =
      ap (λ (tree : Tree). record (machine_of a d kept ls m) { control = windows.Begin tree base }) e
      ∙ ap (λ (x : Control). record (machine_of a d kept ls m) { control = seen_control a.heap (trees_of a) m.given (seen_origin m.inside m.cut) x }) (sym c)

  pub turns_own : (Before After : O → List B → Type 0) (a after : Around) (m n o : Machine) (u v : TermId) (base : ℕ) → m.control ≡ control.Begin u base → n ≡ beginning v base m → tree_at a.heap a.terms v ≡ tree_at a.heap a.terms u
      → TurnsTo keeping Before After a after n o → TurnsTo keeping Before After a after m o
  turns_own Before After a after m n o u v base c q e turns = from_there (subst (λ x. TurnsTo keeping Before After a after x o) q turns)
    where
      from_there : TurnsTo keeping Before After a after (beginning v base m) o → TurnsTo keeping Before After a after m o
      from_there turns = record {
        turns = λ d kept ls goes.
            let there = turns.turns d kept ls (record { keeps = goes.keeps; behind = goes.behind }) in
            record {
              later = there.later;
              left = there.left;
              goes = there.goes;
              is = ap (turn (rules_of keeping a) (code_of a)) (sym (same_seen a m u v base d kept ls c e)) ∙ there.is;
            };
      }
