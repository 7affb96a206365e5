-- What a turn makes of a machine whose innermost form calls a function that an object comes with.
use Rattle.std.proofs.Common.{◌≡◌, ℕ, zero, suc, ◌+◌, ◌<◌, ◌≤◌, List, [], ◌∷◌, ◌++◌, length, take, refl, sym, ap, ◌∙◌, arith, subst}
use Rattle.std.specs.Prelude.{Option, Some, None, slice_get}
use Rattle.std.specs.List.{filter_map}
use Rattle.model_symbols.specs.Symbols.{Table}
use Rattle.model_terms.specs.Worlds.{World}
use Rattle.model_prims.specs.Kinds.{by_number}
use Rattle.model_eval.specs.Outcomes as outcomes
use Rattle.model_eval.specs.Outcomes.{StateOf, OutcomeOf, one_more_call}
use Rattle.model_eval.specs.Keeping.{Keeping}
use Rattle.model_window.specs.Frames as windows
use Rattle.model_window.specs.Turns.{done}
use Rattle.acl_base.specs.declared.SymId.{SymId}
use Rattle.acl_base.specs.declared.FnId.{FnId}
use Rattle.acl_base.specs.declared.Word.{Word}
use Rattle.acl_heap.specs.Objects.{Objects, Extends}
use Rattle.acl_forms.specs.Forms.{AreWhole}
use Rattle.acl_forms.specs.Growth.{Grown-heap}
use Rattle.acl_terms.specs.Definitions.{seen_generated}
use Rattle.acl_terms.specs.declared.outcome.Shown.{Shown}
use Rattle.acl_terms.specs.declared.outcome.Shown.TheVariants as shown
use Rattle.acl_terms.specs.declared.definition.GeneratedFunction.{GeneratedFunction}
use Rattle.acl_terms.specs.declared.definition.Definition.TheVariants as definition
use Rattle.acl_worlds.specs.Laws.{AreWorlds}
use Rattle.acl_keep.specs.Seen.{seen_shown, all_seen, words_in, answer_words}
use Rattle.acl_keep.specs.Calls.{Called, called_from, answered, IsAnswered}
use Rattle.acl_keep.specs.declared.effect.Effect.{Effect}
use Rattle.acl_keep.specs.declared.effect.Effect.TheVariants as effect
use Rattle.acl_machine.specs.declared.frame.Step.TheVariants as step
use Rattle.acl_machine.specs.declared.frame.Frame.{Frame}
use Rattle.acl_machine.specs.declared.frame.Halt.TheVariants as halt
use Rattle.acl_machine.specs.declared.frame.Control.TheVariants as control
use Rattle.acl_machine.specs.declared.machine.Machine.{Machine}
use Rattle.acl_machine.specs.Cells.{nil_there, cell, cells_from, memory_of, ShownWhole, AreWholeCells}
use Rattle.acl_machine.specs.Views.{Around, world_of, code_of, machine_of}
use Rattle.acl_machine.specs.Turns.{rules_of, turned, IsFirst}
use Rattle.acl_machine.specs.Keeping.{lefts_in, all_lefts, TurnsTo}
use Rattle.acl_machine.specs.Steps.{stopped, giving, replaced, counted, holding, IsSound}
use Rattle.acl_machine.proofs.BeginLemmas.{state_of, frames_of}
use Rattle.acl_machine.proofs.CallLemmas.{at_counted, replaced_as}
use Rattle.acl_machine.proofs.GrowthLemmas.{same_memory, same_cells}
use Rattle.acl_machine.proofs.PrimLemmas.{grown_around, LiesAll, parts_going, frames_grown}
use Rattle.acl_machine.proofs.SoundLemmas.{nil_whole, one_whole, copied_whole, cells_grown, loans_grown}
use Rattle.acl_object_turns.specs.Steps.{given_by, with_room}
use Rattle.acl_object_turns.proofs.FrameLemmas.{lefts_replaced}

-- ---- actuals, with room behind them

cells_count : (vs : List Shown) (base n : ℕ) → length (cells_from vs base n) ≡ n
cells_count vs base zero = refl
cells_count vs base (suc n) = ap suc (cells_count vs (base + 1) n)

longer : (xs : List Shown) → length (xs ++ nil_there ∷ nil_there ∷ []) ≡ length xs + 2
longer [] = refl
longer (x ∷ xs) = let e : suc (length xs + 2) ≡ suc (length xs) + 2 = omega arith in ap suc (longer xs) ∙ e

pub has_room : (vs : List Shown) (base n : ℕ) → 1 < length (with_room vs base n)
has_room vs base n = let e : length (with_room vs base n) ≡ length (cells_from vs base n) + 2 = longer (cells_from vs base n) in omega (arith, e)

pub within_room : (given vs : List Shown) (base n : ℕ) → given ≡ with_room vs base n → n ≤ length given
within_room given vs base n q =
    let e : length given ≡ length (cells_from vs base n) + 2 = ap length q ∙ longer (cells_from vs base n) in
    let f : length (cells_from vs base n) ≡ n = cells_count vs base n in
    omega (arith, e, f)

first_taken : (vs : List Shown) (base n : ℕ) (ys : List Shown) → take n (cells_from vs base n ++ ys) ≡ cells_from vs base n
first_taken vs base zero [] = refl
first_taken vs base zero (y ∷ ys) = refl
first_taken vs base (suc n) ys = ap (λ l. cell vs base ∷ l) (first_taken vs (base + 1) n ys)

pub first_with_room : (given vs : List Shown) (base n : ℕ) → given ≡ with_room vs base n → take n given ≡ cells_from vs base n
first_with_room given vs base n q = ap (take n) q ∙ first_taken vs base n (nil_there ∷ nil_there ∷ [])

-- ---- their words

words_whole : (t : Table) (h : Objects) (vs : List Shown) (base n : ℕ) → AreWholeCells t h vs → AreWhole t h (words_in (cells_from vs base n))
words_whole t h vs base zero a = tt
words_whole t h vs base (suc n) a = by_value (cell vs base) (a.whole base) (words_whole t h vs (base + 1) n a)
  where
    by_value : (v : Shown) → ShownWhole t h v → AreWhole t h (words_in (cells_from vs (base + 1) n)) → AreWhole t h (words_in (v ∷ cells_from vs (base + 1) n))
    by_value (shown.Value w) p others = (p, others)
    by_value (shown.Object x) p others = others

pub actuals_whole : (t : Table) (h : Objects) (vs actuals : List Shown) (base n : ℕ) → AreWholeCells t h vs → actuals ≡ cells_from vs base n → AreWhole t h (words_in actuals)
actuals_whole t h vs actuals base n a q = subst (λ l. AreWhole t h (words_in l)) (sym q) (words_whole t h vs base n a)

value_whole : (t : Table) (h : Objects) (v : Shown) (vs : List Shown) → AreWhole t h (words_in (v ∷ vs)) → ShownWhole t h v × AreWhole t h (words_in vs)
value_whole t h (shown.Value w) vs p = (p.0, p.1)
value_whole t h (shown.Object x) vs p = (tt, p)

-- ---- the machine after a call

-- with what the call answered
abbrev pub after_call : Effect → SymId → ℕ → ℕ → Machine → Machine
after_call effect.Refuses name base count m = stopped (halt.Guard name) (counted (holding (cells_from m.values base count) (replaced (step.Last None) base m)))
after_call (effect.Gives value) name base count m = giving (value ∷ []) (counted (replaced (step.Last None) base m))
after_call (effect.GivesBoth value bound) name base count m = giving (value ∷ bound ∷ []) (counted (replaced (step.Last None) base m))

abbrev pub before_answer : ℕ → ℕ → Machine → Machine
before_answer base count m = counted (holding (with_room m.values base count) (replaced (step.Last None) base m))

pub answer_given : (e : Effect) (name : SymId) (base count : ℕ) (m : Machine) → given_by e name count ((m.outer + 1) + 1) (before_answer base count m) ≡ after_call e name base count m
answer_given effect.Refuses name base count m = ap (λ l. stopped (halt.Guard name) (counted (holding l (replaced (step.Last None) base m)))) (first_taken m.values base count (nil_there ∷ nil_there ∷ []))
answer_given (effect.Gives value) name base count m = refl
answer_given (effect.GivesBoth value bound) name base count m = refl

-- ---- words after a call

pub sound_answered : (t : Table) (h h' : Objects) (e : Effect) (name : SymId) (base count : ℕ) (m n : Machine) → Extends h h' → IsSound t h m → AreWhole t h' (answer_words e)
    → n ≡ given_by e name count ((m.outer + 1) + 1) (before_answer base count m) → IsSound t h' n
sound_answered t h h' e name base count m n grows i whole q =
    subst (IsSound t h') (sym (q ∙ answer_given e name base count m)) (by_effect e whole)
  where
    values : AreWholeCells t h' m.values
    values = cells_grown t t h h' m.values (Grown-heap grows) i.values

    two_whole : (v u : Shown) → ShownWhole t h' v → ShownWhole t h' u → AreWholeCells t h' (v ∷ u ∷ [])
    two_whole v u p q = record { whole = go }
      where
        go : (k : ℕ) → ShownWhole t h' (cell (v ∷ u ∷ []) k)
        go zero = p
        go (suc zero) = q
        go (suc (suc k)) = nil_whole t h' m.values values k

    by_effect : (e : Effect) → AreWhole t h' (answer_words e) → IsSound t h' (after_call e name base count m)
    by_effect effect.Refuses p = record { values = values; given = copied_whole t h' m.values base count values; loans = loans_grown t t h h' m.loans (Grown-heap grows) i.loans }
    by_effect (effect.Gives v) p = record { values = values; given = one_whole t h' m.values v values (value_whole t h' v [] p).0; loans = loans_grown t t h h' m.loans (Grown-heap grows) i.loans }
    by_effect (effect.GivesBoth v u) p =
        let first = value_whole t h' v (u ∷ []) p in
        record { values = values; given = two_whole v u first.0 (value_whole t h' u [] first.1).0; loans = loans_grown t t h h' m.loans (Grown-heap grows) i.loans }

-- ---- the turn

abbrev pub call_of : Objects → World → GeneratedFunction → List Shown → Called
call_of h w g values = record { world = w; function = seen_generated g; values = all_seen h values }

module _ {O B : Type 0} (keeping : Keeping ℕ O B) where
  pub calls_generated : (Before After : O → List B → Type 0) (a : Around) (h' : Objects) (m n : Machine) (f : Frame) (at : ℕ) (g : FnId) (count : ℕ) (fn : GeneratedFunction) (e : Effect)
      → m.control ≡ control.Give → IsFirst f m.frames → f.step ≡ step.Calling at g count → m.calls < a.limit → slice_get a.content.definitions g.0 ≡ Some (definition.Generated fn)
      → AreWorlds → LiesAll a m → Extends a.heap h'
      → ((kept : O) (ls : List B) → Before kept ls → IsAnswered keeping After h' (call_of h' (world_of (record a { heap = h' })) fn (cells_from m.values (f.base + at) count)) e kept ls)
      → n ≡ given_by e fn.name count ((m.outer + 1) + 1) (before_answer (f.base + at) count m) → TurnsTo keeping Before After a (record a { heap = h' }) m n
  calls_generated Before After a h' m n f at g count fn e given first s l what worlds lie grows answers q =
      subst (λ x. TurnsTo keeping Before After a after m x) (sym (q ∙ answer_given e fn.name (f.base + at) count m)) (record {
        turns = λ d kept ls goes.
            let is = answers kept ls goes.keeps in
            record {
              later = is.later;
              left = ls;
              goes = record { keeps = is.keeps; behind = goes.behind ∙ sym (lefts_by e) };
              is = at_counted keeping a m f at g count (definition.Generated fn) d kept ls given first s l what
                  ∙ ap (λ c. ended d ls (called_from keeping c (state kept))) same_call
                  ∙ ap (ended d ls) (is.answers (state kept))
                  ∙ by_effect d ls is.later e;
            };
      })
    where
      after : Around
      after = record a { heap = h' }

      cells : List Shown
      cells = cells_from m.values (f.base + at) count

      state : O → StateOf O
      state kept = one_more_call (state_of keeping a kept m)

      ended : B → List B → OutcomeOf ℕ O → windows.Turned ℕ O B
      ended d ls outcome = done (rules_of keeping a) (code_of a) None m.room (f.base + at) (frames_of keeping a d ls m first.rest) (memory_of a.heap m.values) outcome

      same_call : call_of a.heap (world_of a) fn cells ≡ call_of h' (world_of after) fn cells
      same_call =
          ap (λ w. call_of a.heap w fn cells) (sym (worlds.later a.heap h' a.content grows lie.world))
          ∙ ap (λ vs. record { world = world_of after; function = seen_generated fn; values = vs }) (sym (same_cells a.heap h' grows a.table m.values (f.base + at) count lie.values))

      lefts_by : (e : Effect) → all_lefts (after_call e fn.name (f.base + at) count m).frames ≡ all_lefts m.frames
      lefts_by effect.Refuses = lefts_replaced (record { step = step.Last None; base = f.base + at }) f m.frames first (sym (ap lefts_in s))
      lefts_by (effect.Gives v) = lefts_replaced (record { step = step.Last None; base = f.base + at }) f m.frames first (sym (ap lefts_in s))
      lefts_by (effect.GivesBoth v u) = lefts_replaced (record { step = step.Last None; base = f.base + at }) f m.frames first (sym (ap lefts_in s))

      grown : (d : B) (ls : List B) (c : windows.Control ℕ) (x : StateOf O)
          → parts_going keeping m.room (f.base + at) c x (frames_of keeping a d ls m first.rest) (memory_of a.heap m.values)
          ≡ parts_going keeping m.room (f.base + at) c x (frames_of keeping after d ls m first.rest) (memory_of h' m.values)
      grown d ls c x =
          ap (λ fs. parts_going keeping m.room (f.base + at) c x fs (memory_of a.heap m.values)) (sym (frames_grown keeping a h' a.table.symbols m first.rest d ls worlds grows lie))
          ∙ ap (parts_going keeping m.room (f.base + at) c x (frames_of keeping after d ls m first.rest)) (sym (same_memory a.heap h' grows a.table m.values lie.values))

      by_effect : (d : B) (ls : List B) (later : O) (e : Effect)
          → ended d ls (answered h' (call_of h' (world_of after) fn cells) e (state later)) ≡ windows.Going (machine_of after d later ls (after_call e fn.name (f.base + at) count m))
      by_effect d ls later effect.Refuses =
          grown d ls (windows.Stopped (outcomes.Guard fn.name.0 (all_seen h' cells)) (record { inside = None; cut = (m.outer + 1) + 1 })) (state later)
          ∙ replaced_as keeping after (stopped (halt.Guard fn.name) (counted (holding cells m))) f (step.Last None) (f.base + at) d later ls first
      by_effect d ls later (effect.Gives v) =
          grown d ls (windows.Give (seen_shown h' v ∷ [])) (state later)
          ∙ replaced_as keeping after (giving (v ∷ []) (counted m)) f (step.Last None) (f.base + at) d later ls first
      by_effect d ls later (effect.GivesBoth v u) =
          grown d ls (windows.Give (seen_shown h' v ∷ seen_shown h' u ∷ [])) (state later)
          ∙ replaced_as keeping after (giving (v ∷ u ∷ []) (counted m)) f (step.Last None) (f.base + at) d later ls first
