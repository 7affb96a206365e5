-- What a turn makes of a machine whose innermost form calls an exec function that an object comes with.
use Rattle.std.proofs.Common.{◌≡◌, ℕ, ◌+◌, ◌<◌, ◌^◌, List, [], ◌∷◌, length, refl, sym, ap, ◌∙◌, subst}
use Rattle.std.specs.Prelude.{Option, Some, None, slice_get}
use Rattle.model_eval.specs.Outcomes as outcomes
use Rattle.model_eval.specs.Outcomes.{StateOf, OutcomeOf}
use Rattle.model_eval.specs.Keeping.{Keeping}
use Rattle.model_window.specs.Frames as windows
use Rattle.model_window.specs.Turns.{done}
use Rattle.acl_base.specs.declared.SymId.{SymId}
use Rattle.acl_base.specs.declared.FnId.{FnId}
use Rattle.acl_heap.specs.Objects.{Objects, Extends}
use Rattle.acl_terms.specs.Definitions.{seen_generated}
use Rattle.acl_terms.specs.declared.outcome.Shown.{Shown}
use Rattle.acl_terms.specs.declared.definition.GeneratedFunction.{GeneratedFunction}
use Rattle.acl_terms.specs.declared.definition.Definition.TheVariants as definition
use Rattle.acl_worlds.specs.Laws.{AreWorlds}
use Rattle.acl_worlds.specs.Contents.{Content, seen_world}
use Rattle.acl_keep.specs.Seen.{seen_shown, all_seen}
use Rattle.acl_keep.specs.Calls.{Called, called_from, answered, IsAnswered, MayBe}
use Rattle.acl_keep.specs.declared.effect.Effect.{Effect}
use Rattle.acl_keep.specs.declared.effect.Effect.TheVariants as effect
use Rattle.acl_machine.specs.declared.frame.Inside.{Inside}
use Rattle.acl_machine.specs.declared.frame.Step.TheVariants as step
use Rattle.acl_machine.specs.declared.frame.Frame.{Frame}
use Rattle.acl_machine.specs.declared.frame.Halt.TheVariants as halt
use Rattle.acl_machine.specs.declared.frame.Control.TheVariants as control
use Rattle.acl_machine.specs.declared.machine.Machine.{Machine}
use Rattle.acl_machine.specs.Cells.{memory_of}
use Rattle.acl_machine.specs.Actuals.{actuals_in}
use Rattle.acl_machine.specs.Views.{Around, world_of, code_of, first_left, seen_inside, machine_of}
use Rattle.acl_machine.specs.Turns.{rules_of, IsFirst, with_frame}
use Rattle.acl_machine.specs.Keeping.{all_lefts, TurnsTo, MayGo}
use Rattle.acl_machine.specs.Steps.{stopped, giving}
use Rattle.acl_machine.proofs.CallLemmas.{replaced_as}
use Rattle.acl_machine.proofs.PrimLemmas.{LiesAll}
use Rattle.acl_machine.proofs.WholeLemmas.{actuals_whole}
use Rattle.acl_object_turns.proofs.CallLemmas.{call_of}
use Rattle.acl_export_turns.specs.Steps.{inside_of, holding_actuals}
use Rattle.acl_exec_turns.specs.Exports.{Reads}
use Rattle.acl_exec_turns.specs.Execs.{exec_number, definition_of, export_actuals, MayRun, MayExec}
use Rattle.acl_exec_turns.specs.Steps.{called, answered_inside, with_two}
use Rattle.acl_exec_turns.proofs.LeftLemmas.{few_lefts}
use Rattle.acl_exec_turns.proofs.RunLemmas.{around_it, begun, at_defined, behind_inside}
use Rattle.acl_exec_turns.proofs.PrimitiveLemmas.{same_values, inside_going, inside_grown}

module _ {O B : Type 0} (keeping : Keeping ℕ O B) where
  -- what may be asked of a keeper on what it keeps once the export has begun
  pub may_run : (MayCall : Called → O → List B → Type 0) (Before Mid : O → List B → Type 0) (h : Objects) (w : Content) (function g : FnId) (fn : GeneratedFunction) (m : Machine) (base names : ℕ) (name exec : SymId) (count : ℕ) (values : List Shown)
      → MayGo Before (MayExec keeping MayCall h w function base names m) m → length m.frames < 2 ^ 63
      → Reads (slice_get w.definitions function.0) name exec count → exec_number w function ≡ Some g.0 → slice_get w.definitions g.0 ≡ Some (definition.Generated fn)
      → values ≡ actuals_in m base count names
      → ((k : O) (ls : List B) → Before k ls → length ls < 2 ^ 64 → Mid (keeping.begin_export k) ls)
      → MayBe Mid (MayCall (record { world = seen_world h w; function = seen_generated fn; values = all_seen h values }))
  may_run MayCall Before Mid h w function g fn m base names name exec count values may few reads numbered is actuals begins = record {
    kept = keeping.begin_export may.kept;
    lefts = may.lefts;
    keeps = begins may.kept may.lefts may.goes.keeps (few_lefts m (length may.lefts) few may.goes.behind);
    may =
        subst (λ vs. MayCall (record { world = seen_world h w; function = seen_generated fn; values = all_seen h vs }) (keeping.begin_export may.kept) may.lefts) (sym (actuals ∙ ap (λ n. actuals_in m base n names) reads.count_is))
        (subst (λ o. MayRun keeping MayCall (seen_world h w) (all_seen h (export_actuals w function base names m)) o may.kept may.lefts) (ap (definition_of w.definitions) numbered ∙ is) may.may);
  }

  pub exec_answers : (Before Mid After : O → List B → Type 0) (a : Around) (h' : Objects) (m n : Machine) (f : Frame) (function : FnId) (names number : ℕ) (name exec : SymId) (count : ℕ) (g : FnId) (fn : GeneratedFunction) (e : Effect)
      → m.control ≡ control.Give → IsFirst f m.frames → f.step ≡ step.Exporting function names number → m.calls < a.limit → length m.frames < 2 ^ 63
      → Reads (slice_get a.content.definitions function.0) name exec count → exec_number a.content function ≡ Some g.0 → slice_get a.content.definitions g.0 ≡ Some (definition.Generated fn)
      → AreWorlds → LiesAll a m → Extends a.heap h'
      → ((k : O) (ls : List B) → Before k ls → length ls < 2 ^ 64 → Mid (keeping.begin_export k) ls)
      → ((k : O) (ls : List B) → Mid k ls → IsAnswered keeping After h' (call_of h' (world_of (record a { heap = h' })) fn (actuals_in m f.base count names)) e k ls)
      → n ≡ answered_inside e fn.name (inside_of name count names number m) f.base (with_two (called f.base count names m)) → TurnsTo keeping Before After a (record a { heap = h' }) m n
  exec_answers Before Mid After a h' m n f function names number name exec count g fn e given first s left few reads numbered what worlds lie grows begins answers q =
      subst (λ x. TurnsTo keeping Before After a after m x) (sym q) (record {
        turns = λ d kept ls goes.
            let is = answers (keeping.begin_export kept) ls (begins kept ls goes.keeps (few_lefts m (length ls) few goes.behind)) in
            record {
              later = is.later;
              left = ls;
              goes = record { keeps = is.keeps; behind = behind_inside keeping a m f function names number inside (length ls) first s goes.behind ∙ same_lefts e };
              is =
                  at_defined keeping a m f function names number name exec count g (definition.Generated fn) d kept ls given first s left reads numbered what
                  ∙ ap (λ c. ended d ls (called_from keeping c (state (keeping.begin_export kept)))) same_call
                  ∙ ap (ended d ls) (is.answers (state (keeping.begin_export kept)))
                  ∙ by_effect d ls is.later e;
            };
      })
    where
      after : Around
      after = record a { heap = h' }

      inside : Inside
      inside = inside_of name count names number m

      actuals : List Shown
      actuals = actuals_in m f.base count names

      x : B → List B → Option (windows.Export B)
      x d ls = seen_inside (first_left d ls) m.names (Some inside)

      state : O → StateOf O
      state kept = record (begun keeping a m f function names number kept) { stobjs = kept }

      ended : B → List B → OutcomeOf ℕ O → windows.Turned ℕ O B
      ended d ls outcome = done (rules_of keeping a) (code_of a) (x d ls) m.room f.base (around_it keeping a m f function names number d ls first.rest) (memory_of a.heap m.values) outcome

      same_actuals : all_seen h' actuals ≡ all_seen a.heap actuals
      same_actuals = same_values a.table a.heap h' actuals grows (actuals_whole a.table a.heap m f.base count names lie.values)

      same_call : call_of a.heap (world_of a) fn actuals ≡ call_of h' (world_of after) fn actuals
      same_call =
          ap (λ w. call_of a.heap w fn actuals) (sym (worlds.later a.heap h' a.content grows lie.world))
          ∙ ap (λ vs. record { world = world_of after; function = seen_generated fn; values = vs }) (sym same_actuals)

      ready : Machine
      ready = with_two (called f.base count names m)

      same_lefts : (e : Effect) → all_lefts (with_frame (record { step = step.Last (Some inside); base = f.base }) m.frames) ≡ all_lefts (answered_inside e fn.name inside f.base ready).frames
      same_lefts effect.Refuses = refl
      same_lefts (effect.Gives v) = refl
      same_lefts (effect.GivesBoth v u) = refl

      grown : (d : B) (ls : List B) (c : windows.Control ℕ) (later : O)
          → inside_going keeping a m f function names number (x d ls) c (state later) (around_it keeping a m f function names number d ls first.rest) (memory_of a.heap m.values)
          ≡ inside_going keeping a m f function names number (x d ls) c (state later) (around_it keeping after m f function names number d ls first.rest) (memory_of h' m.values)
      grown d ls c later = inside_grown keeping a m f function names number h' a.table.symbols (x d ls) c (state later) d ls first.rest worlds lie grows

      by_effect : (d : B) (ls : List B) (later : O) (e : Effect)
          → ended d ls (answered h' (call_of h' (world_of after) fn actuals) e (state later)) ≡ windows.Going (machine_of after d later ls (answered_inside e fn.name inside f.base ready))
      by_effect d ls later effect.Refuses =
          grown d ls (windows.Stopped (outcomes.Guard fn.name.0 (all_seen h' actuals)) (record { inside = None; cut = (m.outer + 1) + 1 })) later
          ∙ replaced_as keeping after (stopped (halt.Guard fn.name) (holding_actuals ready)) f (step.Last (Some inside)) f.base d later ls first
      by_effect d ls later (effect.Gives v) =
          grown d ls (windows.Give (seen_shown h' v ∷ [])) later
          ∙ replaced_as keeping after (giving (v ∷ []) ready) f (step.Last (Some inside)) f.base d later ls first
      by_effect d ls later (effect.GivesBoth v u) =
          grown d ls (windows.Give (seen_shown h' v ∷ seen_shown h' u ∷ [])) later
          ∙ replaced_as keeping after (giving (v ∷ u ∷ []) ready) f (step.Last (Some inside)) f.base d later ls first
