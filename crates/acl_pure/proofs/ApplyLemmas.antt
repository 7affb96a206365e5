-- The body of a macro as the engine evaluates it.
use Rattle.std.proofs.Common.{◌≡◌, ◌≢◌, ℕ, suc, ◌+◌, ◌≤◌, List, [], ◌∷◌, length, refl, sym, ap, ◌∙◌, arith, subst, inl, inr}
use Rattle.std.specs.Prelude.{Option, Some, None, ◌⊎◌}
use Rattle.model_symbols.specs.Symbols.{QualifiedName, Table}
use Rattle.model_terms.specs.Faults.{formal_names}
use Rattle.model_eval.specs.Outcomes.{Shown, Stobjs, Outcome}
use Rattle.model_eval.specs.Variables.{plain}
use Rattle.model_slots.specs.Laws.{Holds}
use Rattle.model_macro_bodies.specs.Counts.{IsCounted, EndsCounted}
use Rattle.model_macro_bodies.specs.Laws.{MacroBodiesEnd, PlainFormsCount}
use Rattle.acl_base.specs.declared.Word.{Word}
use Rattle.acl_heap.specs.Objects.{Objects}
use Rattle.acl_forms.specs.Forms.{Grown, AreWhole}
use Rattle.acl_terms.specs.Definitions.{seen_formals}
use Rattle.acl_terms.specs.Forms.{seen_core}
use Rattle.acl_terms.specs.declared.definition.Macro.{Macro}
use Rattle.acl_terms.specs.declared.outcome.Stop.{Stop}
use Rattle.acl_terms.specs.declared.outcome.Stop.TheVariants as stop
use Rattle.acl_worlds.specs.Contents.{Content, seen_world}
use Rattle.acl_code.specs.declared.term.Term.{Term}
use Rattle.acl_code.specs.Tables.{forest, tree_at}
use Rattle.acl_engine.specs.declared.outcome.Outcome as engine
use Rattle.acl_engine.specs.Outcomes.{words_at, seen_outcome, ended, state_at, outcome_words, IsOutcome, IsMacroOf, macro_value, seen_body}
use Rattle.acl_keep.specs.Seen.{seen_shown}
use Rattle.acl_machine.specs.Cells.{cell, memory_of}
use Rattle.acl_machine.specs.Constants.{KnownAreWhole}
use Rattle.acl_machine.specs.Views.{around, code_with}
use Rattle.acl_list_keeper.specs.Sound.{WorldFits}
use Rattle.acl_turns.specs.Surroundings.{Surrounds}
use Rattle.acl_evaluate.specs.Begun.{all_values}
use Rattle.acl_evaluate.specs.Ended.{IsRefused}
use Rattle.acl_evaluate.specs.Evaluating.{IsWholeEnd}
use Rattle.acl_pure.specs.Alone.{EvaluatesAlone}
use Rattle.acl_pure.specs.Fitting.{Fits}
use Rattle.acl_pure.specs.Stays.{fits_later}

-- ---- what the evaluation asks

pub surrounds_of : (terms : List Term) (h : Objects) (w : Content) (t : Table) → KnownAreWhole → Fits terms h w t → Surrounds t h w terms
surrounds_of terms h w t k f = record { world = f.world.lies; lie = f.lie; constants = k.whole t h terms f.lie f.known; primitives = f.primitives; opens = f.opens }

pub world_of : (terms : List Term) (h : Objects) (w : Content) (t : Table) → Fits terms h w t → WorldFits h w (length t.symbols)
world_of terms h w t f = f.world

pub fits_grown : (terms : List Term) (h h' : Objects) (w : Content) (t t' : Table) → Grown t t' h h' → Fits terms h w t → Fits terms h' w t'
fits_grown terms h h' w t t' g f = fits_later terms h h' w t t' g.heap g.table f

pub whole_words : (t : Table) (h : Objects) (o : engine.Outcome) → IsWholeEnd t h o → AreWhole t h (outcome_words o)
whole_words t h o e = e.whole

-- ---- the values lie in the first slots

holds_from : (h : Objects) (ws : List Word) (window : ℕ → Shown ℕ) (s : ℕ) → ((i : ℕ) → window (s + i) ≡ seen_shown h (cell (all_values ws) i)) → Holds window s (plain (words_at h ws))
holds_from h [] window s same = tt
holds_from h (w ∷ ws) window s same =
    let here : s ≡ s + 0 = omega arith in
    (ap window here ∙ same 0, holds_from h ws window (s + 1) (λ i. let next : (s + 1) + i ≡ s + suc i = omega arith in ap window next ∙ same (suc i)))

holds : (h : Objects) (ws : List Word) → Holds (memory_of h (all_values ws)) 0 (plain (words_at h ws))
holds h ws = holds_from h ws (memory_of h (all_values ws)) 0 (λ i. let e : 0 + i ≡ i = omega arith in ap (memory_of h (all_values ws)) e)

many_words : (h : Objects) (ws : List Word) → length (words_at h ws) ≡ length ws
many_words h [] = refl
many_words h (w ∷ ws) = ap suc (many_words h ws)

-- ---- outcomes

told_or : (s : Option Stop) → (s ≡ Some stop.Memory) ⊎ (s ≢ Some stop.Memory)
told_or None = inr (λ e. cc)
told_or (Some (stop.Guard f args)) = inr (λ e. cc)
told_or (Some stop.Steps) = inr (λ e. cc)
told_or (Some stop.Depth) = inr (λ e. cc)
told_or (Some (stop.Range f)) = inr (λ e. cc)
told_or (Some (stop.Large f)) = inr (λ e. cc)
told_or (Some (stop.Symbols f)) = inr (λ e. cc)
told_or (Some stop.Memory) = inl refl

counted_state : (limit used : ℕ) (symbols now : List QualifiedName) (h : Objects) (later : Stobjs ℕ) (o : engine.Outcome) (s : Option Stop) → EndsCounted limit used symbols (ended h now later o s) → IsCounted limit used symbols (state_at now later o)
counted_state limit used symbols now h later o None c = c
counted_state limit used symbols now h later o (Some s) c = c

module _ (bodies : MacroBodiesEnd) (counts : PlainFormsCount) (terms : List Term) (h h' : Objects) (w : Content) (t t' : Table) (f : Fits terms h w t) (m : Macro) (of : IsMacroOf w m)
    (ws : List Word) (count : length ws ≡ length (formal_names (seen_formals h m.formals))) (limit used depth : ℕ) (some : used ≤ limit) (o : engine.Outcome) where
  abbrev value : Outcome ℕ
  value = macro_value (seen_world h w) t limit depth (seen_formals h m.formals) (seen_body h m) (words_at h ws) used

  abbrev Told : Type 0
  Told = EvaluatesAlone (around h w terms t limit) (around h' w terms t' limit) m.body_term ws used depth o

  is_value : (ev : Told) → seen_outcome h' t'.symbols ev.later o ≡ value
  is_value ev =
      bodies.alone (seen_world h w) t.packages limit (code_with (forest h terms) w.definitions) f.runs (seen_formals h m.formals) (seen_core h m.body) (tree_at h terms m.body_term) (f.bodies m of)
      (words_at h ws) (many_words h ws ∙ count) (memory_of h (all_values ws)) (holds h ws) depth t.symbols used ev.is.count (seen_outcome h' t'.symbols ev.later o) ev.is.ends

  counted : (ev : Told) → IsCounted limit used t.symbols (state_at t'.symbols ev.later o)
  counted ev =
      counted_state limit used t.symbols t'.symbols h' ev.later o o.stop
      (subst (λ (x : Outcome ℕ). EndsCounted limit used t.symbols x) (sym (is_value ev))
      (counts.body (seen_world h w) t.packages limit depth (seen_formals h m.formals) (seen_core h m.body) (words_at h ws) t.symbols used some))

  abbrev Ends : Type 0
  Ends = (o.stop ≢ Some stop.Memory) → Told

  abbrev Refuses : Type 0
  Refuses = (o.stop ≡ Some stop.Memory) → IsRefused used o

  pub calls_within : Ends → Refuses → o.calls ≤ limit
  calls_within ends refuses = go (told_or o.stop)
    where
      go : (o.stop ≡ Some stop.Memory) ⊎ (o.stop ≢ Some stop.Memory) → o.calls ≤ limit
      go (inl e) = let r = (refuses e).calls in rw r some
      go (inr n) = (counted (ends n)).within

  pub outer_within : Ends → Refuses → used + o.outer ≤ o.calls
  outer_within ends refuses = go (told_or o.stop)
    where
      go : (o.stop ≡ Some stop.Memory) ⊎ (o.stop ≢ Some stop.Memory) → used + o.outer ≤ o.calls
      go (inl e) = let r = refuses e in let c = r.calls in let u = r.outer in omega (arith, c, u)
      go (inr n) = (counted (ends n)).outer

  pub is_outcome : Ends → IsWholeEnd t' h' o → IsOutcome h' t'.symbols [] o value
  is_outcome ends whole = record {
    is = λ n. subst (λ (l : Stobjs ℕ). seen_outcome h' t'.symbols l o ≡ value) (counted (ends n)).stobjs (is_value (ends n));
    lies = whole.lies;
  }
