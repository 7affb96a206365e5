-- What an event ends with, and how refusals come in order (ACL2's manual, topic EVENTS).
use Rattle.std.specs.Prelude.{ℕ, List, [], ◌∷◌, Bool, true, false, Option, Some, None}
use Rattle.model_eval.specs.Outcomes.{Stop}
use Rattle.model_expansion.specs.Faults.{Refusal, Expand}
use Rattle.model_expansion.specs.Expansion.{Progress, Expanded, Makes, Fails}

pub data EventResult (A : Type 0) : Type 0 where
  Grants : A → Progress → EventResult A
  Refuses : Refusal → Progress → EventResult A
  Halts : Stop ℕ → Option ℕ → Progress → EventResult A  -- an evaluation stopped; also the export that it is inside

abbrev pub then_grant : {A B : Type 0} → EventResult A → (A → Progress → EventResult B) → EventResult B
then_grant (Grants a p) go = go a p
then_grant (Refuses r p) go = Refuses r p
then_grant (Halts stop inside p) go = Halts stop inside p

-- a refusal where there is one, else the next step
abbrev pub unless : {A : Type 0} → Option Refusal → (Progress → EventResult A) → Progress → EventResult A
unless None go p = go p
unless (Some r) go p = Refuses r p

-- a part that is there, else a refusal
abbrev pub needing : {A B : Type 0} → Option A → Refusal → (A → Progress → EventResult B) → Progress → EventResult B
needing None r go p = Refuses r p
needing (Some a) r go p = go a p

-- an expansion, whose fault is a refusal
abbrev pub expanding : {A B : Type 0} → Expanded A → (A → Progress → EventResult B) → EventResult B
expanding (Makes a p) go = go a p
expanding (Fails f p) go = Refuses (Expand f) p

-- the first that a test gives
abbrev pub first_given : {A B : Type 0} → (A → Option B) → List A → Option B
first_given f [] = None
first_given f (x ∷ xs) = given_or (f x) (first_given f xs) where
  given_or : {B : Type 0} → Option B → Option B → Option B
  given_or None later = later
  given_or (Some y) later = Some y
