-- The guard of a generated function, as it is printed in obligations, and what the function does on lists.
use Rattle.std.specs.Prelude.{◌≡◌, ℕ, zero, suc, ◌-◌, List, [], ◌∷◌, map, length, drop, Bool, true, false, Option, Some, None, nat_eq, option_and_then, if◌then◌else◌}
use Rattle.model_objects.specs.Object.{Object}
use Rattle.model_symbols.specs.Symbols.{QualifiedName, number_of}
use Rattle.model_symbols.specs.Opening.{acl2}
use Rattle.model_text.specs.Next.{Next, Stands, Nothing, End, Faulty, next_at}
use Rattle.model_terms.specs.Cores.{Core, Var, Const, StobjLet, cores}
use Rattle.model_terms.specs.Worlds.{Out, Ordinary, Stobj, Definition, Generated, GeneratedFunction, definition}
use Rattle.model_terms.specs.Accessors.{HeldStobjs, One, Many, ChildAccessor, child_accessor}
use Rattle.model_eval.specs.Outcomes.{Guard, Outcome, Gives, Stops, Unknown}
use Rattle.model_eval.specs.Checked.{checked, begun, live}
use Rattle.model_expansion.specs.TypeTerms.{call_core, false_core}
use Rattle.model_stobjs.specs.Guards.{generated_guard}
use Rattle.model_events.specs.Events.{Limits}
use Rattle.model_books.specs.Opening.{Session, opening_session}
use Rattle.model_books.specs.Commands.{command}
use Rattle.model_books.specs.Lines.{Bytes}
use Rattle.model_books.specs.Output.{lines, numbered}
use Rattle.model_books_laws.specs.TypeTests.{truth_given}

-- a function that a stobj comes with, its ordinary arguments, and whether it may be called on them
pub record Question : Type 0 where
  pub function : List ℕ
  pub arguments : List (Object QualifiedName)
  pub answer : Bool

-- ---- the session after some commands

abbrev pub limits : Limits
limits = record { steps = 100; depth = 250 }

abbrev pub session_then : Session → (ℕ → Session → Session) → Next → Session
session_then s go (Stands f end symbols) = go end (command limits (record s { symbols = symbols }) (numbered symbols f)).session
session_then s go Nothing = s
session_then s go End = s
session_then s go (Faulty c offset) = s

-- after the commands in the bytes that begin at an offset of the input, no more commands than this
unfoldable pub session_after : ℕ → ℕ → Bytes → Session → Session
session_after zero offset bytes s = s
session_after (suc n) offset bytes s =
    session_then s (λ end. session_after n end (drop (end - offset) bytes)) (next_at s.environment.packages s.environment.current s.symbols offset bytes true)

-- after these lines, a command each
abbrev pub session_of : List Bytes → Session
session_of commands = session_after (length commands) 0 (lines commands) opening_session

-- ---- calls

-- the arguments in the order of the formals; a stobj is the live one of that name
abbrev pub actuals_for : List Out → List (Object ℕ) → List Core
actuals_for [] os = []
actuals_for (Ordinary ∷ ins) [] = []
actuals_for (Ordinary ∷ ins) (o ∷ os) = Const o ∷ actuals_for ins os
actuals_for (Stobj x ∷ ins) os = Var x ∷ actuals_for ins os

abbrev pub generated_in : Definition → Option GeneratedFunction
generated_in (Generated g) = Some g
generated_in d = None

abbrev pub held : HeldStobjs → ℕ
held (One x) = x
held (Many x) = x

-- a call stands alone; the accessor of a child stands where the child is bound
abbrev pub calling : Option ChildAccessor → Core → Core
calling None f = f
calling (Some a) f = StobjLet (held a.holds ∷ []) (cores (f ∷ [])) [] false_core false_core

-- whether a call is not stopped by the guard of this function; None after any other stop
abbrev pub passed : ℕ → Outcome ℕ → Option Bool
passed f (Gives values state) = Some true
passed f (Stops (Guard g values) inside state) = if nat_eq f g then Some false else None
passed f (Stops stop inside state) = None
passed f Unknown = None

module _ (s : Session) where
  abbrev pub evaluated_in : Core → Outcome ℕ
  evaluated_in f = checked s.environment.world s.environment.packages limits.steps limits.depth f (live s.stobjs) (begun s.symbols s.stobjs 0)

  -- the function of this name in the package `ACL2`
  abbrev pub function_named : List ℕ → Option GeneratedFunction
  function_named name = option_and_then generated_in (option_and_then (definition s.environment.world) (number_of s.symbols (record { home = acl2; name = name })))

  abbrev pub actuals_of : GeneratedFunction → Question → List Core
  actuals_of g q = actuals_for g.signature.ins (map (numbered s.symbols) q.arguments)

  abbrev pub guard_of : GeneratedFunction → List Core → Option Bool
  guard_of g actuals = truth_given (evaluated_in (generated_guard s.environment.world g actuals))

  abbrev pub effect_of : GeneratedFunction → List Core → Option Bool
  effect_of g actuals = passed g.name (evaluated_in (calling (child_accessor s.environment.world g.name) (call_core g.name actuals)))

  -- whether the guard holds
  abbrev pub by_guard : Question → Option Bool
  by_guard q = option_and_then (λ (g : GeneratedFunction). guard_of g (actuals_of g q)) (function_named q.function)

  -- whether the call is let through
  abbrev pub by_effect : Question → Option Bool
  by_effect q = option_and_then (λ (g : GeneratedFunction). effect_of g (actuals_of g q)) (function_named q.function)

unfoldable pub guard_answers : List Bytes → List Question → List (Option Bool)
guard_answers commands questions = map (by_guard (session_of commands)) questions

unfoldable pub effect_answers : List Bytes → List Question → List (Option Bool)
effect_answers commands questions = map (by_effect (session_of commands)) questions

unfoldable pub answers_wanted : List Question → List (Option Bool)
answers_wanted questions = map (λ (q : Question). Some q.answer) questions

-- after these commands the guards hold exactly where they are to
pub record GuardsSay (commands : List Bytes) (questions : List Question) : Type 0 where
  pub guards : guard_answers commands questions ≡ answers_wanted questions

-- and so are the calls let through
pub record GuardsAgree (commands : List Bytes) (questions : List Question) : Type 0 where
  pub guards : guard_answers commands questions ≡ answers_wanted questions
  pub effects : effect_answers commands questions ≡ answers_wanted questions
