-- What is kept where memory is refused.
use Rattle.std.proofs.Common.{ℕ, ◌<◌, ◌^◌, List, ◌∷◌, length}
use Rattle.model_eval.specs.Keeping.{Keeping}
use Rattle.acl_machine.specs.declared.machine.Machine.{Machine}
use Rattle.acl_machine.specs.Keeping.{StillKeeps}
use Rattle.acl_exec_turns.specs.Execs.{StillGoes}
use Rattle.acl_exec_turns.proofs.LeftLemmas.{few_lefts}

module _ {O B : Type 0} where
  pub same_goes : (Keeps : O → List B → Type 0) (m : Machine) → StillGoes Keeps Keeps m
  same_goes Keeps m = record { keeps = λ kept lefts goes. goes.keeps }

  -- what was remembered is forgotten
  pub forgets : (keeping : Keeping ℕ O B) (Before Remembered Refused After : O → List B → Type 0)
      → ((k : O) (ls : List B) → Before k ls → Remembered k (keeping.behind k ∷ ls)) → StillKeeps Remembered Refused → ((k : O) (l : B) (ls : List B) → Refused k (l ∷ ls) → After k ls) → StillKeeps Before After
  forgets keeping Before Remembered Refused After remembers still forget kept lefts b = forget kept (keeping.behind kept) lefts (still kept (keeping.behind kept ∷ lefts) (remembers kept lefts b))

  -- the beginning of an export is taken back
  pub cancels : (keeping : Keeping ℕ O B) (Before Begun Refused After : O → List B → Type 0) (m : Machine) → length m.frames < 2 ^ 63
      → ((k : O) (ls : List B) → Before k ls → length ls < 2 ^ 64 → Begun (keeping.begin_export k) ls) → StillKeeps Begun Refused → ((k : O) (ls : List B) → Refused (keeping.begin_export k) ls → After k ls) → StillGoes Before After m
  cancels keeping Before Begun Refused After m few begins still cancel = record {
    keeps = λ kept lefts goes. cancel kept lefts (still (keeping.begin_export kept) lefts (begins kept lefts goes.keeps (few_lefts m (length lefts) few goes.behind)));
  }
