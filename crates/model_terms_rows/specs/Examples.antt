-- A form in its context, and its first fault, worked out by hand.
use Rattle.std.specs.Prelude.{◌≡◌, ℕ, List, ◌++◌, map, Option, Some, None}
use Rattle.model_terms.specs.Cores.{Core}
use Rattle.model_terms.specs.Worlds.{Out, Entry, Scope}
use Rattle.model_terms.specs.declared.rule.Rule.{Rule}
use Rattle.model_terms.specs.declared.rule.Mode.{Mode}
use Rattle.model_terms.specs.declared.rule.Mode.TheVariants.{Executable, Logic, Macro}
use Rattle.model_terms.specs.Sites.{one_ordinary}
use Rattle.model_terms.specs.Outputs.{outs}
use Rattle.model_terms.specs.Faults.{Fault, first_fault}
use Rattle.model_terms_rows.specs.Book.{book, all_objects}

pub record Example : Type 0 where
  pub mode : Mode
  pub scope : Scope
  pub form : Core
  pub expected : List Out
  pub answer : Option Fault

abbrev pub answer_to : Example → Option Fault
answer_to e = first_fault book e.mode e.scope e.form e.expected

-- the definitions give each answer
pub record AreRight (examples : List Example) : Type 0 where
  pub all : map answer_to examples ≡ map (λ (e : Example). e.answer) examples

-- ---- to write examples by

abbrev pub holds : Option Fault
holds = None

abbrev pub fault : Rule → List ℕ → Option Fault
fault r place = Some (record { rule = r; place = place })

-- an expression: every stobj and these names are in scope, and its own outputs are expected
abbrev pub expression : List Entry → Core → Option Fault → Example
expression names f answer =
    record { mode = Executable; scope = all_objects ++ names; form = f; expected = outs book (all_objects ++ names) f; answer = answer }

-- a body of which these outputs are expected
abbrev pub body : List Entry → Core → List Out → Option Fault → Example
body names f expected answer = record { mode = Executable; scope = names; form = f; expected = expected; answer = answer }

-- the body of a macro with these formals
abbrev pub of_macro : List Entry → Core → Option Fault → Example
of_macro names f answer = record { mode = Macro; scope = names; form = f; expected = one_ordinary; answer = answer }

-- the body of a function that does not run
abbrev pub of_logic : List Entry → Core → Option Fault → Example
of_logic names f answer = record { mode = Logic; scope = names; form = f; expected = one_ordinary; answer = answer }
