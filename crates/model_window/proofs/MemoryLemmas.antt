-- What is written on the stack, and what stays as it was.
use Rattle.std.specs.Prelude.{◌≡◌, ℕ, zero, suc, ◌+◌, ◌<◌, ◌≤◌, List, [], ◌∷◌, ◌++◌, length, true, false, nat_eq, refl}
use Rattle.std.proofs.Common.{sym, ap, ◌∙◌, arith, subst}
use Rattle.std.proofs.lemmas.Bool.Decides.{nat_tests}
use Rattle.model_eval.specs.Outcomes.{Shown, Plain, StobjNamed}
use Rattle.model_slots.specs.Environments.{Environment, variables_in}
use Rattle.model_slots.specs.Laws.{Holds, as_formals}
use Rattle.model_window.specs.Windows.{Memory, window, written, all_written, read, stobj_names, renamed, actuals_at}

-- below this number both have the same values
pub record Agrees {S : Type 0} (old new : Memory S) (inner : ℕ) : Type 0 where
  pub same : (i : ℕ) → i < inner → new i ≡ old i

tells_same : (i : ℕ) → nat_eq i i ≡ true
tells_same i = grind (arith, nat_tests)

tells_below : (i at : ℕ) → i < at → nat_eq i at ≡ false
tells_below i at h = grind (arith, nat_tests)

tells_above : (i at : ℕ) → at < i → nat_eq i at ≡ false
tells_above i at h = grind (arith, nat_tests)

module _ {S : Type 0} where
  pub written_at : (at : ℕ) (v : Shown S) (memory : Memory S) → written at v memory at ≡ v
  written_at at v memory = rw (tells_same at) refl

  pub written_below : (i at : ℕ) (v : Shown S) (memory : Memory S) → i < at → written at v memory i ≡ memory i
  written_below i at v memory h = rw (tells_below i at h) refl

  written_above : (i at : ℕ) (v : Shown S) (memory : Memory S) → at < i → written at v memory i ≡ memory i
  written_above i at v memory h = rw (tells_above i at h) refl

  pub all_written_below : (i at : ℕ) (vs : List (Shown S)) (memory : Memory S) → i < at → all_written at vs memory i ≡ memory i
  all_written_below i at [] memory h = refl
  all_written_below i at (v ∷ vs) memory h = written_below i at v (all_written (at + 1) vs memory) h ∙ all_written_below i (at + 1) vs memory (omega arith)

  pub agrees_written : (at : ℕ) (v : Shown S) (memory : Memory S) → Agrees memory (written at v memory) at
  agrees_written at v memory = record { same = λ i h. written_below i at v memory h }

  pub agrees_all : (at : ℕ) (vs : List (Shown S)) (memory : Memory S) → Agrees memory (all_written at vs memory) at
  agrees_all at vs memory = record { same = λ i h. all_written_below i at vs memory h }

  pub agrees_lower : (old new : Memory S) (low inner : ℕ) → low ≤ inner → Agrees old new inner → Agrees old new low
  agrees_lower old new low inner h a = record { same = λ i k. a.same i (omega arith) }

  -- ---- values that lie

  -- the same values, where the windows have the same in these slots
  holds_same : (old new : Memory S) (s : ℕ) (vs : List (Shown S)) → ((i : ℕ) → s ≤ i → i < s + length vs → new i ≡ old i) → Holds old s vs → Holds new s vs
  holds_same old new s [] same h = tt
  holds_same old new s (v ∷ vs) same h = (same s (omega arith) (omega arith) ∙ h.0, holds_same old new (s + 1) vs (λ i k l. same i (omega arith) (omega arith)) h.1)

  pub holds_kept : (old new : Memory S) (base s inner : ℕ) (vs : List (Shown S)) → Agrees old new inner → base + (s + length vs) ≤ inner → Holds (window old base) s vs → Holds (window new base) s vs
  holds_kept old new base s inner vs a b h = holds_same (window old base) (window new base) s vs (λ i k l. a.same (base + i) (omega arith)) h

  -- values lie where they were written
  holds_written : (base s at : ℕ) (vs : List (Shown S)) (memory : Memory S) → at ≡ base + s → Holds (window (all_written at vs memory) base) s vs
  holds_written base s at [] memory e = tt
  holds_written base s at (v ∷ vs) memory e = (
    ap (all_written at (v ∷ vs) memory) (sym e) ∙ written_at at v (all_written (at + 1) vs memory),
    holds_same (window (all_written (at + 1) vs memory) base) (window (all_written at (v ∷ vs) memory) base) (s + 1) vs
        (λ i k l. written_above (base + i) at v (all_written (at + 1) vs memory) (omega arith))
        (holds_written base (s + 1) (at + 1) vs memory (omega arith)),
  )

  pub holds_all : (base s : ℕ) (vs : List (Shown S)) (memory : Memory S) → Holds (window (all_written (base + s) vs memory) base) s vs
  holds_all base s vs memory = holds_written base s (base + s) vs memory refl

  pub holds_first : (base : ℕ) (vs : List (Shown S)) (memory : Memory S) → Holds (window (all_written base vs memory) base) 0 vs
  holds_first base vs memory = holds_written base 0 base vs memory (omega arith)

  -- one more
  holds_last : (memory : Memory S) (s : ℕ) (vs : List (Shown S)) (v : Shown S) → Holds memory s vs → memory (s + length vs) ≡ v → Holds memory s (vs ++ v ∷ [])
  holds_last memory s [] v h e = let d : s ≡ s + 0 = omega arith in (ap memory d ∙ e, tt)
  holds_last memory s (w ∷ vs) v h e = let d : (s + 1) + length vs ≡ s + suc (length vs) = omega arith in (h.0, holds_last memory (s + 1) vs v h.1 (ap memory d ∙ e))

  pub holds_more : (memory : Memory S) (base s count : ℕ) (vs : List (Shown S)) (v : Shown S) → length vs ≡ count → Holds (window memory base) s vs
      → Holds (window (written (base + (s + count)) v memory) base) s (vs ++ v ∷ [])
  holds_more memory base s count vs v e h =
      holds_last (window (written (base + (s + count)) v memory) base) s vs v
      (holds_kept memory (written (base + (s + count)) v memory) base s (base + (s + count)) vs (agrees_written (base + (s + count)) v memory) (omega arith) h)
      (let d : base + (s + length vs) ≡ base + (s + count) = omega arith in ap (written (base + (s + count)) v memory) d ∙ written_at (base + (s + count)) v memory)

  -- the window of a callee
  moved_from : (memory : Memory S) (base s t : ℕ) (vs : List (Shown S)) → Holds (window memory base) (s + t) vs → Holds (window memory (base + s)) t vs
  moved_from memory base s t [] h = tt
  moved_from memory base s t (v ∷ vs) h =
      let d : (base + s) + t ≡ base + (s + t) = omega arith in
      let e : (s + t) + 1 ≡ s + (t + 1) = omega arith in
      (ap memory d ∙ h.0, moved_from memory base s (t + 1) vs (subst (λ i. Holds (window memory base) i vs) e h.1))

  pub holds_moved : (memory : Memory S) (base s : ℕ) (vs : List (Shown S)) → Holds (window memory base) s vs → Holds (window memory (base + s)) 0 vs
  holds_moved memory base s vs h = let e : s ≡ s + 0 = omega arith in moved_from memory base s 0 vs (subst (λ i. Holds (window memory base) i vs) e h)

  -- ---- values that are read

  pub read_held : (memory : Memory S) (s n : ℕ) (vs : List (Shown S)) → length vs ≡ n → Holds memory s vs → read memory s n ≡ vs
  read_held memory s zero [] e h = refl
  read_held memory s (suc n) [] e h = absurd (omega arith)
  read_held memory s zero (v ∷ vs) e h = absurd (omega arith)
  read_held memory s (suc n) (v ∷ vs) e h = rw (h.0, read_held memory (s + 1) n vs (omega arith) h.1) refl

  read_same : (old new : Memory S) (s n : ℕ) → ((i : ℕ) → i < s + n → new i ≡ old i) → read new s n ≡ read old s n
  read_same old new s zero same = refl
  read_same old new s (suc n) same = rw (same s (omega arith), read_same old new (s + 1) n (λ i h. same i (omega arith))) refl

  pub actuals_kept : (old new : Memory S) (base inner count : ℕ) (names : List ℕ) → Agrees old new inner → base + count ≤ inner → actuals_at new base count names ≡ actuals_at old base count names
  actuals_kept old new base inner count names a h = ap (λ vs. renamed vs names) (read_same (window old base) (window new base) 0 count (λ i k. a.same (base + i) (omega arith)))

  -- ---- actuals

  pub renamed_formals : (formals : List ℕ) (actuals : List (Shown S)) → length formals ≡ length actuals → renamed (as_formals formals actuals) (stobj_names actuals) ≡ actuals
  renamed_formals [] [] e = refl
  renamed_formals [] (v ∷ vs) e = absurd (omega arith)
  renamed_formals (x ∷ xs) [] e = absurd (omega arith)
  renamed_formals (x ∷ xs) (Plain o ∷ vs) e = ap (λ us. Plain o ∷ us) (renamed_formals xs vs (omega arith))
  renamed_formals (x ∷ xs) (StobjNamed y ∷ vs) e = ap (λ us. StobjNamed y ∷ us) (renamed_formals xs vs (omega arith))

  pub as_many : (formals : List ℕ) (actuals : List (Shown S)) → length formals ≡ length actuals → length (as_formals formals actuals) ≡ length formals
  as_many [] actuals e = refl
  as_many (x ∷ xs) [] e = absurd (omega arith)
  as_many (x ∷ xs) (Plain o ∷ vs) e = ap suc (as_many xs vs (omega arith))
  as_many (x ∷ xs) (StobjNamed y ∷ vs) e = ap suc (as_many xs vs (omega arith))

  pub actuals_held : (memory : Memory S) (base : ℕ) (formals : List ℕ) (actuals : List (Shown S)) → length formals ≡ length actuals → Holds (window memory base) 0 (as_formals formals actuals)
      → actuals ≡ actuals_at memory base (length formals) (stobj_names actuals)
  actuals_held memory base formals actuals e h =
      sym (ap (λ vs. renamed vs (stobj_names actuals)) (read_held (window memory base) 0 (length formals) (as_formals formals actuals) (as_many formals actuals e) h) ∙ renamed_formals formals actuals e)

  -- a window at number 0 is the stack
  pub window_first : (memory : Memory S) (env : Environment) → variables_in memory env ≡ variables_in (window memory 0) env
  window_first memory [] = refl
  window_first memory (e ∷ es) = let d : e.1 ≡ 0 + e.1 = omega arith in rw (window_first memory es) (ap (λ i. (e.0, memory i) ∷ variables_in (window memory 0) es) d)
