-- In place equals applicative in sessions that commands have made: of expressions, and of whole commands.
use Rattle.std.proofs.Common.{◌≡◌, ℕ, List, Option, Some, None, refl, ap}
use Rattle.std.specs.Option.{option_map_or}
use Rattle.std.specs.Prelude.{if◌then◌else◌}
use Rattle.model_objects.specs.Object.{Object, Integer, Symbol, Text, Pair}
use Rattle.model_symbols.specs.Symbols.{QualifiedName}
use Rattle.model_terms.specs.Cores.{Core}
use Rattle.model_terms.specs.Outputs.{outs}
use Rattle.model_terms.specs.Classes.{has}
use Rattle.model_terms.specs.Faults.{Fault, expression_fault}
use Rattle.model_eval.specs.Outcomes.{Outcome}
use Rattle.model_eval.specs.Checked.{checked, begun, live}
use Rattle.model_eval.specs.InPlace.{in_place, begun_in_place}
use Rattle.model_in_place.proofs.BeginLemmas.{commands_agree}
use Rattle.model_expansion.specs.Expansion.{Progress, Expanded, Makes, Fails, at_start, expanded}
use Rattle.model_expansion.specs.Forms.{symbol, is_keyword}
use Rattle.model_expansion.specs.Faults.{NotSupported}
use Rattle.model_expansion_forms.proofs.LawLemmas.{forms_are_well_called}
use Rattle.model_stobjs.specs.Heads.{event_heads, is_skipped, is_unsupported}
use Rattle.model_events.specs.Events.{Limits, setting}
use Rattle.model_books.specs.Opening.{Session}
use Rattle.model_books.specs.Commands.{Ways, way_of, headed_way, keyword_way, ways, live_scope, evaluated_outcome, core_outcome, expanded_outcome, command}
use Rattle.model_made.specs.Made.{IsMade}
use Rattle.model_made.proofs.FormLemmas.{formed_of}
use Rattle.model_made.proofs.CommandLemmas.{made_sessions_lawful}
use Rattle.model_in_place_books.specs.Commands.{core_in_place, expanded_in_place, command_in_place}
use Rattle.model_in_place_books.proofs.RootLemmas.{roots_are_read}
use Rattle.model_headline.specs.InPlace.{InPlaceEqualsApplicative, CommandsInPlace}

pub in_place_equals_applicative : InPlaceEqualsApplicative
in_place_equals_applicative = record {
  agrees = λ k s symbols form f p made e accepted.
      let l = made_sessions_lawful.lawful s made in
      let h = forms_are_well_called.form (setting s.environment k) l.world.functions form (at_start symbols) p f e in
      commands_agree.same s.environment.world (made_sessions_lawful.threaded s made) (made_sessions_lawful.suits s made) s.stobjs l.fits f accepted
      (formed_of s.environment.world l.world.made f h.closed h.formed) s.environment.packages p.symbols k.steps k.depth p.calls;
}

-- ---- two ways of commands that differ in how an expression is answered

module _ {O : Type 0} (v : Ways O) (other : Object ℕ → O) (symbols : List QualifiedName) (same : (form : Object ℕ) → other form ≡ v.expression form) where
  abbrev w : Ways O
  w = record v { expression = other }

  same_headed : (head : ℕ) (d : Object ℕ) → headed_way w symbols head d ≡ headed_way v symbols head d
  same_headed head d =
      ap
      (λ (o : O).
      if has event_heads head then v.event head d
      else if is_skipped head then v.skipped
      else if is_unsupported head then v.refused (NotSupported head)
      else if is_keyword symbols head then keyword_way v symbols head d
      else o) (same (Pair (Symbol head) d))

  same_symbol : (a d : Object ℕ) (x : Option ℕ)
      → option_map_or (λ head. headed_way w symbols head d) x (other (Pair a d)) ≡ option_map_or (λ head. headed_way v symbols head d) x (v.expression (Pair a d))
  same_symbol a d None = same (Pair a d)
  same_symbol a d (Some head) = same_headed head d

  same_way : (form : Object ℕ) → way_of w symbols form ≡ way_of v symbols form
  same_way (Integer n) = same (Integer n)
  same_way (Symbol x) = same (Symbol x)
  same_way (Text bytes) = same (Text bytes)
  same_way (Pair a d) = same_symbol a d (symbol a)

-- ---- commands

module _ (bounds : Limits) (s : Session) (symbols : List QualifiedName) (made : IsMade s) where
  abbrev now : Session
  now = record s { symbols = symbols }

  core_same : (form : Object ℕ) (f : Core) (p : Progress) → expanded (setting s.environment bounds) form (at_start symbols) ≡ Makes f p → (fault : Option Fault)
      → expression_fault s.environment.world (live_scope s.stobjs) f ≡ fault → core_in_place bounds now f p fault ≡ core_outcome bounds now f p fault
  core_same form f p e (Some fault) g = refl
  core_same form f p e None g =
      ap (λ (a : Outcome ℕ). evaluated_outcome bounds now p a)
      (roots_are_read.same s.environment.world (live_scope s.stobjs) (outs s.environment.world (live_scope s.stobjs) f) s.stobjs p.symbols p.calls
      (checked s.environment.world s.environment.packages bounds.steps bounds.depth f (live s.stobjs) (begun p.symbols s.stobjs p.calls))
      (in_place s.environment.world s.environment.packages bounds.steps bounds.depth f (live s.stobjs) (begun_in_place p.symbols s.stobjs p.calls))
      (in_place_equals_applicative.agrees bounds s symbols form f p made e g))

  expanded_same : (form : Object ℕ) (x : Expanded Core) → expanded (setting s.environment bounds) form (at_start symbols) ≡ x → expanded_in_place bounds now x ≡ expanded_outcome bounds now x
  expanded_same form (Makes f p) e = core_same form f p e (expression_fault s.environment.world (live_scope s.stobjs) f) refl
  expanded_same form (Fails fault p) e = refl

  pub command_same : (form : Object ℕ) → command_in_place bounds now form ≡ command bounds now form
  unfolding command_in_place command
  command_same form =
      same_way (ways bounds now) (λ f. expanded_in_place bounds now (expanded (setting s.environment bounds) f (at_start symbols))) symbols
      (λ f. expanded_same f (expanded (setting s.environment bounds) f (at_start symbols)) refl) form

pub commands_in_place : CommandsInPlace
commands_in_place = record { same = λ bounds s symbols form made. command_same bounds s symbols made form }
