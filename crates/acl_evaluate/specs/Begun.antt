-- A machine that is begun on a term, over values.
use Rattle.std.specs.Prelude.{ℕ, List, [], ◌∷◌, None}
use Rattle.acl_base.specs.declared.TermId.{TermId}
use Rattle.acl_base.specs.declared.Word.{Word}
use Rattle.acl_terms.specs.declared.outcome.Shown.{Shown}
use Rattle.acl_terms.specs.declared.outcome.Shown.TheVariants as shown
use Rattle.acl_machine.specs.declared.frame.Control.TheVariants as control
use Rattle.acl_machine.specs.declared.machine.Machine.{Machine}

-- the values of words
abbrev pub all_values : List Word → List Shown
all_values [] = []
all_values (w ∷ ws) = shown.Value w ∷ all_values ws

-- nothing is open, the values lie one behind the other, and so many calls were counted before
abbrev pub begun_machine : TermId → List Shown → ℕ → ℕ → Machine
begun_machine term values used depth = record {
  room = depth;
  frames = [];
  values = values;
  names = [];
  loans = [];
  control = control.Begin term 0;
  given = [];
  actuals = [];
  outer_actuals = [];
  inside = None;
  cut = 0;
  calls = used;
  outer = 0;
}
