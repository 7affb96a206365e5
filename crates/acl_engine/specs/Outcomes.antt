-- The outcomes that those of the program stand for, and the evaluation of a macro's body.
use Rattle.std.specs.Prelude.{◌≡◌, ◌≢◌, ℕ, ◌≤◌, List, [], ◌∷◌, length, map, Option, Some, None}
use Rattle.std.specs.List.{Contains}
use Rattle.model_objects.specs.Object.{Object}
use Rattle.model_symbols.specs.Symbols.{QualifiedName, Table}
use Rattle.model_terms.specs.Cores as cores
use Rattle.model_terms.specs.Worlds as worlds
use Rattle.model_terms.specs.Faults.{formal_names}
use Rattle.model_eval.specs.Outcomes as outcomes
use Rattle.model_eval.specs.Variables.{bound, plain}
use Rattle.model_eval.specs.Checked.{checked, begun}
use Rattle.acl_base.specs.declared.Word.{Word}
use Rattle.acl_heap.specs.Objects.{Objects, object_of, reach}
use Rattle.acl_terms.specs.declared.definition.Macro.{Macro}
use Rattle.acl_terms.specs.declared.definition.Definition.TheVariants as definition
use Rattle.acl_terms.specs.declared.outcome.Shown.{Shown}
use Rattle.acl_terms.specs.declared.outcome.Shown.TheVariants as shown
use Rattle.acl_terms.specs.declared.outcome.Stop.{Stop}
use Rattle.acl_terms.specs.declared.outcome.Stop.TheVariants as stop
use Rattle.acl_engine.specs.declared.outcome.Outcome.{Outcome}
use Rattle.acl_terms.specs.Forms.{most, seen_core}
use Rattle.acl_terms.specs.Signatures.{seen_name}
use Rattle.acl_worlds.specs.Contents.{Content}

-- ---- words

abbrev pub words_at : Objects → List Word → List (Object ℕ)
words_at h ws = map (object_of h) ws

-- ---- values and stops

abbrev pub seen_shown : Objects → Shown → outcomes.Shown ℕ
seen_shown h (shown.Value w) = outcomes.Plain (object_of h w)
seen_shown h (shown.Object s) = outcomes.StobjNamed s.0

abbrev pub shown_reach : Shown → ℕ
shown_reach (shown.Value w) = reach w
shown_reach (shown.Object s) = 0

abbrev pub all_shown : Objects → List Shown → List (outcomes.Shown ℕ)
all_shown h vs = map (seen_shown h) vs

abbrev pub all_shown_reach : List Shown → ℕ
all_shown_reach vs = most (map shown_reach vs)

-- the words among values
abbrev pub shown_words : List Shown → List Word
shown_words [] = []
shown_words (shown.Value w ∷ vs) = w ∷ shown_words vs
shown_words (shown.Object s ∷ vs) = shown_words vs

-- want of memory is no stop of an evaluation
abbrev pub seen_stop : Objects → Stop → outcomes.Stop ℕ
seen_stop h (stop.Guard f args) = outcomes.Guard f.0 (all_shown h args)
seen_stop h stop.Steps = outcomes.Steps
seen_stop h stop.Depth = outcomes.Depth
seen_stop h (stop.Range f) = outcomes.Range f.0
seen_stop h (stop.Large f) = outcomes.Large f.0
seen_stop h (stop.Symbols f) = outcomes.Symbols f.0
seen_stop h stop.Memory = outcomes.Steps

abbrev pub stop_reach : Stop → ℕ
stop_reach (stop.Guard f args) = all_shown_reach args
stop_reach stop.Steps = 0
stop_reach stop.Depth = 0
stop_reach (stop.Range f) = 0
stop_reach (stop.Large f) = 0
stop_reach (stop.Symbols f) = 0
stop_reach stop.Memory = 0

-- the words of its arguments
abbrev pub stop_words : Stop → List Word
stop_words (stop.Guard f args) = shown_words args
stop_words stop.Steps = []
stop_words stop.Depth = []
stop_words (stop.Range f) = []
stop_words (stop.Large f) = []
stop_words (stop.Symbols f) = []
stop_words stop.Memory = []

-- ---- outcomes

abbrev pub state_at : List QualifiedName → outcomes.Stobjs ℕ → Outcome → outcomes.State ℕ
state_at symbols stobjs o = record { stobjs = stobjs; symbols = symbols; calls = o.calls; outer = o.outer }

abbrev pub origin_at : Outcome → outcomes.Origin
origin_at o = record { inside = seen_name o.inside; cut = o.cut }

-- with these symbols and lists at the end
abbrev pub ended : Objects → List QualifiedName → outcomes.Stobjs ℕ → Outcome → Option Stop → outcomes.Outcome ℕ
ended h symbols stobjs o None = outcomes.Gives (all_shown h o.values.items) (state_at symbols stobjs o)
ended h symbols stobjs o (Some s) = outcomes.Stops (seen_stop h s) (origin_at o) (state_at symbols stobjs o)

abbrev pub ended_reach : Outcome → Option Stop → ℕ
ended_reach o None = all_shown_reach o.values.items
ended_reach o (Some s) = stop_reach s

abbrev pub seen_outcome : Objects → List QualifiedName → outcomes.Stobjs ℕ → Outcome → outcomes.Outcome ℕ
seen_outcome h symbols stobjs o = ended h symbols stobjs o o.stop

-- the words of what is given, or of the arguments of the stop
abbrev pub ended_words : Outcome → Option Stop → List Word
ended_words o None = shown_words o.values.items
ended_words o (Some s) = stop_words s

abbrev pub outcome_words : Outcome → List Word
outcome_words o = ended_words o o.stop

-- the outcome is this one, whose words lie in the heap, unless memory was refused
pub record IsOutcome (h : Objects) (symbols : List QualifiedName) (stobjs : outcomes.Stobjs ℕ) (o : Outcome) (e : outcomes.Outcome ℕ) : Type 0 where
  pub is : o.stop ≢ Some stop.Memory → seen_outcome h symbols stobjs o ≡ e
  pub lies : ended_reach o o.stop ≤ length h

-- ---- macros

-- a macro of the world
abbrev pub IsMacroOf : Content → Macro → Type 0
IsMacroOf w m = Contains w.definitions (definition.Macro m)

abbrev pub seen_body : Objects → Macro → cores.Core
seen_body h m = seen_core h m.body

-- the outcome of a macro's body over a value of each formal, no form being open and no stobj in scope
abbrev pub macro_value : worlds.World → Table → ℕ → ℕ → worlds.MacroFormals → cores.Core → List (Object ℕ) → ℕ → outcomes.Outcome ℕ
macro_value w t steps depth formals body values used =
    checked w t.packages steps depth body (bound (formal_names formals) (plain values) []) (begun t.symbols [] used)
