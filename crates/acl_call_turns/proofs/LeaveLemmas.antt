-- What a turn makes of a machine whose innermost form is a call that has its values.
use Rattle.std.proofs.Common.{◌≡◌, ℕ, suc, ◌+◌, List, [], ◌∷◌, length, map, refl, sym, ap, ◌∙◌, arith, subst, add-one}
use Rattle.std.specs.Prelude.{Option, Some, None, Bool, true, false, slice_get, if◌then◌else◌}
use Rattle.std.proofs.lemmas.List.{length-map}
use Rattle.acl_base.specs.declared.SymId.{SymId}
use Rattle.acl_base.specs.declared.FnId.{FnId}
use Rattle.acl_base.specs.declared.TermId.{TermId}
use Rattle.acl_heap.specs.Objects.{Objects}
use Rattle.acl_terms.specs.Forms.{numbers}
use Rattle.acl_terms.specs.declared.outcome.Shown.{Shown}
use Rattle.model_prims.specs.Kinds.{by_number, is_nil}
use Rattle.model_eval.specs.Outcomes as outcomes
use Rattle.model_eval.specs.Outcomes.{StateOf}
use Rattle.model_eval.specs.Keeping.{Keeping, outer_value, entering, leaving}
use Rattle.model_eval.specs.Variables.{object_of, single}
use Rattle.model_eval.specs.Evaluated.{is_false}
use Rattle.model_slots.specs.Trees.{Tree}
use Rattle.model_window.specs.Frames as windows
use Rattle.model_window.specs.Windows.{actuals_at}
use Rattle.model_window.specs.Turns.{refuse, next, called_name}
use Rattle.acl_code.specs.Tables.{tree_in}
use Rattle.acl_keep.specs.Seen.{seen_shown, all_seen}
use Rattle.acl_machine.specs.declared.frame.Inside.{Inside}
use Rattle.acl_machine.specs.declared.frame.Step.{Step}
use Rattle.acl_machine.specs.declared.frame.Step.TheVariants as step
use Rattle.acl_machine.specs.declared.frame.Frame.{Frame}
use Rattle.acl_machine.specs.declared.frame.Control.TheVariants as control
use Rattle.acl_machine.specs.declared.machine.Machine.{Machine}
use Rattle.acl_machine.specs.Cells.{cell, memory_of, top, below}
use Rattle.acl_machine.specs.Actuals.{outer_shown}
use Rattle.acl_machine.specs.Views.{Around, world_of, trees_of, code_of, body_of, formals_of, first_left, lefts_inside, below_inside, seen_inside, seen_frames, seen_origin, seen_control, machine_of}
use Rattle.acl_machine.specs.Turns.{rules_of, turned, IsFirst, with_frame}
use Rattle.acl_machine.specs.Keeping.{lefts_in, all_lefts, Goes, GoesTo, TurnsTo}
use Rattle.acl_machine.proofs.BeginLemmas.{state_of}
use Rattle.acl_machine.proofs.GoLemmas.{at_give}
use Rattle.acl_machine.proofs.MemoryLemmas.{single_cell}
use Rattle.acl_machine.proofs.CallLemmas.{replaced_as}
use Rattle.acl_machine.proofs.ActualLemmas.{actuals_seen, outer_seen}
use Rattle.acl_call_turns.specs.Calls.{name_in_option, body_in, formals_at, actuals_for, dropping, running, returned, refused, rest_of, closing, leaving as left_by, HandsOver, HandsBack}
use Rattle.acl_call_turns.proofs.WorldLemmas.{formals_seen_at, name_seen_at, body_seen}
use Rattle.acl_call_turns.proofs.FormLemmas.{lefts_first, lefts_with, lefts_rest}
use Rattle.acl_call_turns.proofs.EnterLemmas.{frames_around}

-- the actuals of a call as the turn has them
pub actuals_as : (a : Around) (m : Machine) (base : ℕ) (g : FnId) (n : ℕ)
    → actuals_at (memory_of a.heap m.values) base (length (formals_of (slice_get (world_of a) g.0))) (numbers (top n m.names)) ≡ all_seen a.heap (actuals_for a.content g base n m)
actuals_as a m base g n =
    ap (λ l. actuals_at (memory_of a.heap m.values) base l (numbers (top n m.names))) (ap length (formals_seen_at a.heap a.content g) ∙ length-map (formals_at a.content g) (λ (s : SymId). s.0))
    ∙ sym (actuals_seen a.heap m base (length (formals_at a.content g)) n)

module _ {O B : Type 0} (keeping : Keeping ℕ O B) where
  module _ (Before After : O → List B → Type 0) (a : Around) (m : Machine) (f : Frame) (inside : Option Inside) (g : FnId) (n : ℕ) where
    abbrev formals : List ℕ
    formals = numbers (formals_at a.content g)

    abbrev actuals : List (outcomes.Shown ℕ)
    actuals = all_seen a.heap (actuals_for a.content g f.base n m)

    -- what is kept once the call is left
    abbrev back : O → B → O
    back kept left = keeping.hand_back formals actuals kept left

    -- how much is left behind around it
    behind_left : (s : Step) (lefts : ℕ) (first : IsFirst f m.frames) → f.step ≡ s → suc lefts ≡ all_lefts m.frames → lefts_in s ≡ lefts_in (step.Last inside) + 1 → lefts ≡ lefts_in (step.Last inside) + all_lefts first.rest
    behind_left s lefts first e h k = let x = lefts_first f m.frames s first e in omega arith

    abbrev given_formals : List ℕ
    given_formals = formals_of (slice_get (world_of a) g.0)

    abbrev given_actuals : List (outcomes.Shown ℕ)
    given_actuals = actuals_at (memory_of a.heap m.values) f.base (length given_formals) (numbers (top n m.names))

    -- the frames around it
    abbrev rest_seen : B → List B → IsFirst f m.frames → List (windows.Frame ℕ B)
    rest_seen d ls first = frames_around keeping a d (lefts_inside inside ls) (below_inside inside (below n m.names)) m first.rest

    abbrev export_seen : B → List B → Option (windows.Export B)
    export_seen d ls = seen_inside (first_left d ls) (below n m.names) inside

    -- a guard that is not met, and one that is
    abbrev stops : B → List B → IsFirst f m.frames → O → List ℕ → List (outcomes.Shown ℕ) → ℕ → B → windows.Turned ℕ O B
    stops d ls first kept formals' actuals' name left =
        refuse (rules_of keeping a) (code_of a) (export_seen d ls) m.room f.base (rest_seen d ls first) (memory_of a.heap m.values) name actuals' (leaving keeping formals' actuals' left (state_of keeping a kept m))

    abbrev goes_on : B → List B → IsFirst f m.frames → O → List ℕ → List (outcomes.Shown ℕ) → Tree → B → windows.Turned ℕ O B
    goes_on d ls first kept formals' actuals' body left =
        let later = leaving keeping formals' actuals' left (state_of keeping a kept m) in
        next (rules_of keeping a) (code_of a) m.room f.base (rest_seen d ls first) (memory_of a.heap m.values)
        (windows.Running (export_seen d ls) given_formals (numbers (top n m.names)) (keeping.behind later.stobjs)) (windows.Begin body f.base) (entering keeping formals' actuals' later)

    is_false_as : (b : Bool) → is_nil by_number (object_of by_number (seen_shown a.heap (cell m.given 0))) ≡ b → is_false (rules_of keeping a) (all_seen a.heap m.given) ≡ b
    is_false_as b e = ap (λ v. is_nil by_number (object_of by_number v)) (single_cell a.heap m.given) ∙ e

    -- ---- a guard that is not met

    pub refuses : m.control ≡ control.Give → IsFirst f m.frames → f.step ≡ step.Guarding inside g n → is_nil by_number (object_of by_number (seen_shown a.heap (cell m.given 0))) ≡ true
        → (name : SymId) → name.0 ≡ name_in_option (slice_get a.content.definitions g.0) → HandsBack keeping Before After formals actuals
        → (x : Machine) → x ≡ refused inside n f.base name (actuals_for a.content g f.base n m) (record m { actuals = m.given }) → TurnsTo keeping Before After a a m x
    refuses e first s fails name named hands x q = subst (λ y. TurnsTo keeping Before After a a m y) (sym q) (record { turns = goes_to })
      where
        after : Machine
        after = refused inside n f.base name (actuals_for a.content g f.base n m) (record m { actuals = m.given })

        at : (d : B) (kept : O) (left : B) (ls : List B) → turned keeping a d kept (left ∷ ls) m ≡ windows.Going (machine_of a d (back kept left) ls after)
        at d kept left ls =
            at_give keeping a m f (step.Guarding inside g n) d kept (left ∷ ls) e first s
            ∙ ap (λ (b : Bool). if b then stops d ls first kept given_formals given_actuals (called_name (world_of a) g.0) left else goes_on d ls first kept given_formals given_actuals ((code_of a).body g.0) left) (is_false_as true fails)
            ∙ ap (λ xs. stops d ls first kept given_formals xs (called_name (world_of a) g.0) left) (actuals_as a m f.base g n)
            ∙ ap (λ fs. stops d ls first kept fs actuals (called_name (world_of a) g.0) left) (formals_seen_at a.heap a.content g)
            ∙ ap (λ i. stops d ls first kept formals actuals i left) (name_seen_at a.heap a.content g ∙ sym named)
            ∙ replaced_as keeping a (record after { frames = m.frames }) f (step.Last inside) f.base d (back kept left) ls first

        goes_to : (d : B) (kept : O) (lefts : List B) → Goes Before m kept lefts → GoesTo keeping After a a m after d kept lefts
        goes_to d kept [] goes = absurd (let x = lefts_first f m.frames (step.Guarding inside g n) first s in let y = goes.behind in omega arith)
        goes_to d kept (left ∷ ls) goes = record {
          later = back kept left;
          left = ls;
          goes = record {
            keeps = hands kept left ls goes.keeps;
            behind = behind_left (step.Guarding inside g n) (length ls) first s goes.behind refl ∙ sym (lefts_with f m.frames (record { step = step.Last inside; base = f.base }) first);
          };
          is = at d kept left ls;
        }

    -- ---- a guard that is met

    pub runs : m.control ≡ control.Give → IsFirst f m.frames → f.step ≡ step.Guarding inside g n → is_nil by_number (object_of by_number (seen_shown a.heap (cell m.given 0))) ≡ false
        → (Mid : O → List B → Type 0) → HandsBack keeping Before Mid formals actuals → HandsOver keeping Mid After formals actuals
        → (body : TermId) → body.0 ≡ body_in (length a.terms) (slice_get a.content.definitions g.0)
        → (x : Machine) → x ≡ running inside g n f.base body (record m { actuals = actuals_for a.content g f.base n m }) → TurnsTo keeping Before After a a m x
    runs e first s holds Mid hands over body is x q = subst (λ y. TurnsTo keeping Before After a a m y) (sym q) (record { turns = goes_to })
      where
        after : Machine
        after = running inside g n f.base body (record m { actuals = actuals_for a.content g f.base n m })

        entered_again : O → B → O
        entered_again kept left = keeping.hand_over formals actuals (back kept left)

        body_as : (code_of a).body g.0 ≡ tree_in (trees_of a) body
        body_as = sym (ap (λ i. tree_in (trees_of a) (record { 0 = i })) is ∙ body_seen a.heap a.terms (slice_get a.content.definitions g.0))

        at : (d : B) (kept : O) (left : B) (ls : List B) → turned keeping a d kept (left ∷ ls) m ≡ windows.Going (machine_of a d (entered_again kept left) (keeping.behind (back kept left) ∷ ls) after)
        at d kept left ls =
            at_give keeping a m f (step.Guarding inside g n) d kept (left ∷ ls) e first s
            ∙ ap (λ (b : Bool). if b then stops d ls first kept given_formals given_actuals (called_name (world_of a) g.0) left else goes_on d ls first kept given_formals given_actuals ((code_of a).body g.0) left) (is_false_as false holds)
            ∙ ap (λ xs. goes_on d ls first kept given_formals xs ((code_of a).body g.0) left) (actuals_as a m f.base g n)
            ∙ ap (λ fs. goes_on d ls first kept fs actuals ((code_of a).body g.0) left) (formals_seen_at a.heap a.content g)
            ∙ ap (λ t. goes_on d ls first kept formals actuals t left) body_as
            ∙ replaced_as keeping a (record after { frames = m.frames }) f (step.Running inside g n) f.base d (entered_again kept left) (keeping.behind (back kept left) ∷ ls) first

        goes_to : (d : B) (kept : O) (lefts : List B) → Goes Before m kept lefts → GoesTo keeping After a a m after d kept lefts
        goes_to d kept [] goes = absurd (let x = lefts_first f m.frames (step.Guarding inside g n) first s in let y = goes.behind in omega arith)
        goes_to d kept (left ∷ ls) goes = record {
          later = entered_again kept left;
          left = keeping.behind (back kept left) ∷ ls;
          goes = record {
            keeps = over (back kept left) ls (hands kept left ls goes.keeps);
            behind = (let x = lefts_first f m.frames (step.Guarding inside g n) first s in let y = lefts_with f m.frames (record { step = step.Running inside g n; base = f.base }) first in let z = goes.behind in omega arith);
          };
          is = at d kept left ls;
        }

    -- ---- a body

    pub returns : m.control ≡ control.Give → IsFirst f m.frames → f.step ≡ step.Running inside g n → HandsBack keeping Before After formals actuals
        → (x : Machine) → x ≡ returned inside n f.base (map (outer_shown (formals_at a.content g) (actuals_for a.content g f.base n m)) m.given) (record m { actuals = actuals_for a.content g f.base n m }) → TurnsTo keeping Before After a a m x
    returns e first s hands x q = subst (λ y. TurnsTo keeping Before After a a m y) (sym q) (record { turns = goes_to })
      where
        after : Machine
        after = returned inside n f.base (map (outer_shown (formals_at a.content g) (actuals_for a.content g f.base n m)) m.given) (record m { actuals = actuals_for a.content g f.base n m })

        gives : B → List B → O → List ℕ → List (outcomes.Shown ℕ) → B → windows.Turned ℕ O B
        gives d ls kept formals' actuals' left =
            next (rules_of keeping a) (code_of a) m.room f.base (rest_seen d ls first) (memory_of a.heap m.values) (windows.Last (export_seen d ls)) (windows.Give (map (outer_value formals' actuals') (all_seen a.heap m.given)))
            (leaving keeping formals' actuals' left (state_of keeping a kept m))

        gives_by : B → List B → O → B → windows.Control ℕ → windows.Turned ℕ O B
        gives_by d ls kept left c =
            next (rules_of keeping a) (code_of a) m.room f.base (rest_seen d ls first) (memory_of a.heap m.values) (windows.Last (export_seen d ls)) c (leaving keeping formals actuals left (state_of keeping a kept m))

        at : (d : B) (kept : O) (left : B) (ls : List B) → turned keeping a d kept (left ∷ ls) m ≡ windows.Going (machine_of a d (back kept left) ls after)
        at d kept left ls =
            at_give keeping a m f (step.Running inside g n) d kept (left ∷ ls) e first s
            ∙ ap (λ xs. gives d ls kept given_formals xs left) (actuals_as a m f.base g n)
            ∙ ap (λ fs. gives d ls kept fs actuals left) (formals_seen_at a.heap a.content g)
            ∙ ap (λ vs. gives_by d ls kept left (windows.Give vs)) (sym (outer_seen a.heap (formals_at a.content g) (actuals_for a.content g f.base n m) m.given))
            ∙ ap (λ c. gives_by d ls kept left (seen_control a.heap (trees_of a) after.given (seen_origin m.inside m.cut) c)) (sym e)
            ∙ replaced_as keeping a (record after { frames = m.frames }) f (step.Last inside) f.base d (back kept left) ls first

        goes_to : (d : B) (kept : O) (lefts : List B) → Goes Before m kept lefts → GoesTo keeping After a a m after d kept lefts
        goes_to d kept [] goes = absurd (let x = lefts_first f m.frames (step.Running inside g n) first s in let y = goes.behind in omega arith)
        goes_to d kept (left ∷ ls) goes = record {
          later = back kept left;
          left = ls;
          goes = record {
            keeps = hands kept left ls goes.keeps;
            behind = behind_left (step.Running inside g n) (length ls) first s goes.behind refl ∙ sym (lefts_with f m.frames (record { step = step.Last inside; base = f.base }) first);
          };
          is = at d kept left ls;
        }

  -- ---- an export

  pub commits : (Before After : O → List B → Type 0) (a : Around) (m : Machine) (f : Frame) (x : Inside) → m.control ≡ control.Give → IsFirst f m.frames → f.step ≡ step.Last (Some x)
      → ((kept : O) (left : B) (ls : List B) → Before kept (left ∷ ls) → After (keeping.commit kept) ls)
      → (y : Machine) → y ≡ left_by x (closing m) → TurnsTo keeping Before After a a m y
  commits Before After a m f x e first s commit y q = subst (λ z. TurnsTo keeping Before After a a m z) (sym q) (record { turns = goes_to })
    where
      after : Machine
      after = left_by x (closing m)

      -- with this much room, these frames and this control
      gives : B → List B → O → ℕ → List Frame → windows.Control ℕ → windows.Turned ℕ O B
      gives d ls kept room fs c = windows.Going (record (machine_of a d (keeping.commit kept) ls (record after { frames = fs })) { room = room; control = c })

      at : (d : B) (kept : O) (left : B) (ls : List B) → turned keeping a d kept (left ∷ ls) m ≡ windows.Going (machine_of a d (keeping.commit kept) ls after)
      at d kept left ls =
          at_give keeping a m f (step.Last (Some x)) d kept (left ∷ ls) e first s
          ∙ ap (λ n. gives d ls kept n first.rest (windows.Give (all_seen a.heap m.given))) (sym (add-one m.room))
          ∙ ap (λ c. gives d ls kept (m.room + 1) first.rest (seen_control a.heap (trees_of a) m.given (seen_origin m.inside m.cut) c)) (sym e)
          ∙ ap (λ fs. gives d ls kept (m.room + 1) (rest_of fs) (seen_control a.heap (trees_of a) m.given (seen_origin m.inside m.cut) m.control)) (sym first.is)

      goes_to : (d : B) (kept : O) (lefts : List B) → Goes Before m kept lefts → GoesTo keeping After a a m after d kept lefts
      goes_to d kept [] goes = absurd (let z = lefts_first f m.frames (step.Last (Some x)) first s in let w = goes.behind in omega arith)
      goes_to d kept (left ∷ ls) goes = record {
        later = keeping.commit kept;
        left = ls;
        goes = record {
          keeps = commit kept left ls goes.keeps;
          behind = (let z = lefts_first f m.frames (step.Last (Some x)) first s in let v = lefts_rest f m.frames first in let w = goes.behind in omega arith);
        };
        is = at d kept left ls;
      }
