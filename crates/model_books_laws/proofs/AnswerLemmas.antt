-- The steps of an event count, one after another.
use Rattle.std.proofs.Common.{ℕ, [], Bool, true, false, Option, Some, None}
use Rattle.std.specs.Prelude.{if◌then◌else◌}
use Rattle.model_objects.specs.Object.{Object}
use Rattle.model_eval.specs.Outcomes.{Outcome, Gives, Stops, Unknown, here}
use Rattle.model_eval.specs.Checked.{begun}
use Rattle.model_eval_laws.specs.Counting.{Counts}
use Rattle.model_expansion.specs.Faults.{Refusal}
use Rattle.model_expansion.specs.Expansion.{Progress, evaluated_to, Expanded, Makes, Fails}
use Rattle.model_expansion_laws.specs.Counting.{Advanced, Advances}
use Rattle.model_expansion_laws.proofs.CountLemmas.{advanced_same, advanced_then, advanced_to}
use Rattle.model_stobjs.specs.Answers.{EventResult, Grants, Refuses, Halts, then_grant, unless, needing, expanding}
use Rattle.model_events.specs.Constants.{valued}

module _ (limit : ℕ) where
  -- an event ends with a later progress
  abbrev pub Answers : {A : Type 0} → Progress → EventResult A → Type 0
  Answers old (Grants a new) = Advanced limit old new
  Answers old (Refuses r new) = Advanced limit old new
  Answers old (Halts stop inside new) = Advanced limit old new

  pub answers_later : {A : Type 0} (a b : Progress) (r : EventResult A) → Advanced limit a b → Answers b r → Answers a r
  answers_later a b (Grants v p) g h = advanced_then limit a b p g h
  answers_later a b (Refuses r p) g h = advanced_then limit a b p g h
  answers_later a b (Halts stop inside p) g h = advanced_then limit a b p g h

  pub answers_then : {A B : Type 0} (a : Progress) (r : EventResult A) (go : A → Progress → EventResult B) → Answers a r → ((v : A) (p : Progress) → Answers p (go v p)) → Answers a (then_grant r go)
  answers_then a (Grants v p) go h k = answers_later a p (go v p) h (k v p)
  answers_then a (Refuses r p) go h k = h
  answers_then a (Halts stop inside p) go h k = h

  pub answers_unless : {A : Type 0} (r : Option Refusal) (go : Progress → EventResult A) (p : Progress) → Answers p (go p) → Answers p (unless r go p)
  answers_unless None go p h = h
  answers_unless (Some r) go p h = advanced_same limit p

  pub answers_needing : {A B : Type 0} (v : Option A) (r : Refusal) (go : A → Progress → EventResult B) (p : Progress) → ((a : A) → Answers p (go a p)) → Answers p (needing v r go p)
  answers_needing None r go p h = advanced_same limit p
  answers_needing (Some a) r go p h = h a

  pub answers_expanding : {A B : Type 0} (a : Progress) (r : Expanded A) (go : A → Progress → EventResult B) → Advances limit a r → ((v : A) (p : Progress) → Answers p (go v p)) → Answers a (expanding r go)
  answers_expanding a (Makes v p) go h k = answers_later a p (go v p) h (k v p)
  answers_expanding a (Fails fault p) go h k = h.0

  pub answers_valued : {A : Type 0} (p : Progress) (r : Outcome ℕ) (go : Object ℕ → Progress → EventResult A) → Counts limit (begun p.symbols [] p.calls) r → ((o : Object ℕ) (q : Progress) → Answers q (go o q)) → Answers p (valued r go p)
  answers_valued p (Gives values state) go h k =
      answers_later p (evaluated_to p (here state) state) (go _ (evaluated_to p (here state) state)) (advanced_to limit p (here state) state h) (k _ (evaluated_to p (here state) state))
  answers_valued p (Stops stop origin state) go h k = advanced_to limit p origin state h.0
  answers_valued p Unknown go h k = absurd h

  pub answers_if : {A : Type 0} (p : Progress) (b : Bool) (r s : EventResult A) → Answers p r → Answers p s → Answers p (if b then r else s)
  answers_if p true r s h k = h
  answers_if p false r s h k = k
