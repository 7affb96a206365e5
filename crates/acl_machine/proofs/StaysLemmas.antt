-- What holds of a machine between its turns stays where nothing is called.
use Rattle.std.proofs.Common.{◌≡◌, ℕ, zero, suc, ◌+◌, List, [], ◌∷◌, length, refl, sym, subst}
use Rattle.std.specs.Prelude.{Some, Bool, true, false, nat_eq, if◌then◌else◌, slice_get}
use Rattle.model_symbols.specs.Symbols.{Table}
use Rattle.acl_base.specs.declared.TermId.{TermId}
use Rattle.acl_base.specs.declared.FnId.{FnId}
use Rattle.acl_code.specs.declared.term.Parts.{Parts}
use Rattle.acl_base.specs.declared.Word.{Word}
use Rattle.acl_heap.specs.Objects.{Objects}
use Rattle.acl_code.specs.declared.term.Term.{Term}
use Rattle.acl_code.specs.declared.term.Term.TheVariants as term
use Rattle.acl_terms.specs.declared.outcome.Shown.{Shown}
use Rattle.acl_terms.specs.declared.outcome.Shown.TheVariants as shown
use Rattle.acl_machine.specs.declared.frame.Goal.{Goal}
use Rattle.acl_machine.specs.declared.frame.Goal.TheVariants as goal
use Rattle.acl_machine.specs.declared.frame.Step.{Step}
use Rattle.acl_machine.specs.declared.frame.Frame.{Frame}
use Rattle.acl_machine.specs.declared.frame.Halt.{Halt}
use Rattle.acl_machine.specs.declared.frame.Halt.TheVariants as halt
use Rattle.acl_machine.specs.declared.machine.Machine.{Machine}
use Rattle.acl_machine.specs.Cells.{cell, cells_from, all_cells, Writes, WritesAll, ShownWhole, AreWholeCells}
use Rattle.acl_machine.specs.Constants.{ConstantsAreWhole}
use Rattle.acl_machine.specs.Steps.{stopped, giving, pushed, opened_to, again, beginning, has_next, goal_done, parts_step, parts_next, closed, replaced, counted, holding, IsSound}
use Rattle.acl_machine.proofs.SoundLemmas.{nil_whole, one_whole, copied_whole}

module _ (t : Table) (h : Objects) where
  none_whole : (vs : List Shown) → AreWholeCells t h vs → AreWholeCells t h []
  none_whole vs a = record { whole = nil_whole t h vs a }

  if_whole : (b : Bool) (v u : Shown) → ShownWhole t h v → ShownWhole t h u → ShownWhole t h (if b then v else u)
  if_whole true v u p q = p
  if_whole false v u p q = q

  pub cells_whole : (at : ℕ) (vs : List Shown) (cells : ℕ → Shown) → ((i : ℕ) → ShownWhole t h (cell vs i)) → ((i : ℕ) → ShownWhole t h (cells i)) → (i : ℕ) → ShownWhole t h (all_cells at vs cells i)
  cells_whole at [] cells a b i = b i
  cells_whole at (v ∷ vs) cells a b i = if_whole (nat_eq i at) v (all_cells (at + 1) vs cells i) (a 0) (cells_whole (at + 1) vs cells (λ k. a (suc k)) b i)

  pub written_whole : (at : ℕ) (vs old new : List Shown) → AreWholeCells t h vs → AreWholeCells t h old → WritesAll at vs old new → AreWholeCells t h new
  written_whole at vs old new a o w = record { whole = λ i. subst (ShownWhole t h) (sym (w.cells i)) (cells_whole at vs (cell old) a.whole o.whole i) }

  pub one_written : (at : ℕ) (v : Shown) (old new : List Shown) → ShownWhole t h v → AreWholeCells t h old → Writes at v old new → AreWholeCells t h new
  one_written at v old new a o w = record { whole = λ i. subst (ShownWhole t h) (sym (w.cells i)) (if_whole (nat_eq i at) v (cell old i) a (o.whole i)) }

  either : (b : Bool) (x y : Machine) → IsSound t h x → IsSound t h y → IsSound t h (if b then x else y)
  either true x y p q = p
  either false x y p q = q

  stopped_sound : (why : Halt) (m : Machine) → IsSound t h m → IsSound t h (stopped why m)
  stopped_sound why m i = record { values = i.values; given = i.given; loans = i.loans }

  pub beginning_sound : (x : TermId) (base : ℕ) (m : Machine) → IsSound t h m → IsSound t h (beginning x base m)
  beginning_sound x base m i = record { values = i.values; given = i.given; loans = i.loans }

  pub giving_sound : (vs : List Shown) (m : Machine) → IsSound t h m → AreWholeCells t h vs → IsSound t h (giving vs m)
  giving_sound vs m i a = record { values = i.values; given = a; loans = i.loans }

  pub nothing_sound : (m : Machine) → IsSound t h m → IsSound t h (giving [] m)
  nothing_sound m i = giving_sound [] m i (none_whole m.values i.values)

  pushed_sound : (s : Step) (base : ℕ) (m : Machine) → IsSound t h m → IsSound t h (pushed s base m)
  pushed_sound s base m i = record { values = i.values; given = i.given; loans = i.loans }

  pub opened_sound : (s : Step) (base : ℕ) (next : Machine → Machine) (m : Machine) → ((x : Machine) → IsSound t h x → IsSound t h (next x)) → IsSound t h m → IsSound t h (opened_to s base next m)
  opened_sound s base next m f i = either (nat_eq m.room 0) (stopped halt.Depth m) (next (pushed s base m)) (stopped_sound halt.Depth m i) (f (pushed s base m) (pushed_sound s base m i))

  done_sound : (base at count : ℕ) (g : Goal) (m : Machine) → IsSound t h m → IsSound t h (goal_done base at count g m)
  done_sound base at count (goal.Body x) m i = beginning_sound x base m i
  done_sound base at count goal.Values m i = giving_sound _ m i (copied_whole t h m.values (base + at) count i.values)
  done_sound base at count (goal.Call f) m i = nothing_sound m i

  pub parts_sound : (terms base at count : ℕ) (next : TermId) (left : ℕ) (g : Goal) (m : Machine) → IsSound t h m → IsSound t h (parts_next terms base at count next left g m)
  parts_sound terms base at count next left g m i = either (has_next terms next left) (beginning next base m) (goal_done base at count g m) (beginning_sound next base m i) (done_sound base at count g m i)

  -- ---- each arm, by the machine that it makes

  pub sound_slot : (m : Machine) (at : ℕ) → IsSound t h m → (n : Machine) → n ≡ giving (cell m.values at ∷ []) m → IsSound t h n
  sound_slot m at i n q = subst (IsSound t h) (sym q) (giving_sound _ m i (one_whole t h m.values (cell m.values at) i.values (i.values.whole at)))

  pub sound_const : (ts : List Term) (m : Machine) (u : ℕ) (w : Word) → ConstantsAreWhole t h ts → slice_get ts u ≡ Some (term.Const w) → IsSound t h m → (n : Machine) → n ≡ giving (shown.Value w ∷ []) m → IsSound t h n
  sound_const ts m u w c e i n q = subst (IsSound t h) (sym q) (giving_sound _ m i (one_whole t h m.values (shown.Value w) i.values (c.whole u (term.Const w) e)))

  pub sound_begun : (m : Machine) (s : Step) (x : TermId) (base : ℕ) → IsSound t h m → (n : Machine) → n ≡ opened_to s base (beginning x base) m → IsSound t h n
  sound_begun m s x base i n q = subst (IsSound t h) (sym q) (opened_sound s base (beginning x base) m (λ y j. beginning_sound x base y j) i)

  pub sound_waiting : (m : Machine) (s : Step) (base : ℕ) → IsSound t h m → (n : Machine) → n ≡ opened_to s base (giving []) m → IsSound t h n
  sound_waiting m s base i n q = subst (IsSound t h) (sym q) (opened_sound s base (giving []) m (λ y j. nothing_sound y j) i)

  pub sound_parts : (m : Machine) (s : Step) (terms base at : ℕ) (next : TermId) (left : ℕ) (g : Goal) → IsSound t h m → (n : Machine) → n ≡ opened_to s base (parts_next terms base at 0 next left g) m → IsSound t h n
  sound_parts m s terms base at next left g i n q = subst (IsSound t h) (sym q) (opened_sound s base (parts_next terms base at 0 next left g) m (λ y j. parts_sound terms base at 0 next left g y j) i)

  pub sound_let : (ts : List Term) (m : Machine) (u base at : ℕ) (p : Parts) (x : TermId) → slice_get ts u ≡ Some (term.Let at p x) → IsSound t h m
      → (n : Machine) → n ≡ opened_to (parts_step (length ts) at 0 p.first p.count (goal.Body x)) base (parts_next (length ts) base at 0 p.first p.count (goal.Body x)) m → IsSound t h n
  sound_let ts m u base at p x e i n q = sound_parts m (parts_step (length ts) at 0 p.first p.count (goal.Body x)) (length ts) base at p.first p.count (goal.Body x) i n q

  pub sound_mv : (ts : List Term) (m : Machine) (u base at : ℕ) (p : Parts) → slice_get ts u ≡ Some (term.Mv at p) → IsSound t h m
      → (n : Machine) → n ≡ opened_to (parts_step (length ts) at 0 p.first p.count goal.Values) base (parts_next (length ts) base at 0 p.first p.count goal.Values) m → IsSound t h n
  sound_mv ts m u base at p e i n q = sound_parts m (parts_step (length ts) at 0 p.first p.count goal.Values) (length ts) base at p.first p.count goal.Values i n q

  pub sound_call : (ts : List Term) (m : Machine) (u base at : ℕ) (f : FnId) (p : Parts) → slice_get ts u ≡ Some (term.Call at f p) → IsSound t h m
      → (n : Machine) → n ≡ opened_to (parts_step (length ts) at 0 p.first p.count (goal.Call f)) base (parts_next (length ts) base at 0 p.first p.count (goal.Call f)) m → IsSound t h n
  sound_call ts m u base at f p e i n q = sound_parts m (parts_step (length ts) at 0 p.first p.count (goal.Call f)) (length ts) base at p.first p.count (goal.Call f) i n q

  pub sound_test : (m : Machine) (s : Step) (x : TermId) (base : ℕ) → IsSound t h m → (n : Machine) → n ≡ beginning x base (again s m) → IsSound t h n
  sound_test m s x base i n q = subst (IsSound t h) (sym q) (record { values = i.values; given = i.given; loans = i.loans })

  pub sound_part : (m : Machine) (s : Step) (terms base at count : ℕ) (next : TermId) (left : ℕ) (g : Goal) (values : List Shown) (slot : ℕ) → IsSound t h m → Writes slot (cell m.given 0) m.values values
      → (n : Machine) → n ≡ parts_next terms base at count next left g (again s (record m { values = values })) → IsSound t h n
  sound_part m s terms base at count next left g values slot i w n q = subst (IsSound t h) (sym q)
      (parts_sound terms base at count next left g (again s (record m { values = values })) (record { values = one_written slot (cell m.given 0) m.values values (i.given.whole 0) i.values w; given = i.given; loans = i.loans }))

  pub sound_several : (m : Machine) (s : Step) (x : TermId) (base : ℕ) (values : List Shown) (slot : ℕ) → IsSound t h m → WritesAll slot m.given m.values values → (n : Machine) → n ≡ beginning x base (again s (record m { values = values })) → IsSound t h n
  sound_several m s x base values slot i w n q = subst (IsSound t h) (sym q) (record { values = written_whole slot m.given m.values values i.given i.values w; given = i.given; loans = i.loans })

  pub sound_closed : (m : Machine) (rest : List Frame) → IsSound t h m → (n : Machine) → n ≡ closed rest m → IsSound t h n
  sound_closed m rest i n q = subst (IsSound t h) (sym q) (record { values = i.values; given = i.given; loans = i.loans })

  pub sound_many : (m : Machine) (s : Step) (base : ℕ) (why : Halt) → IsSound t h m → (n : Machine) → n ≡ stopped why (replaced s base m) → IsSound t h n
  sound_many m s base why i n q = subst (IsSound t h) (sym q) (record { values = i.values; given = i.given; loans = i.loans })

  pub sound_refused : (m : Machine) (s : Step) (base at count : ℕ) (why : Halt) → IsSound t h m → (n : Machine) → n ≡ stopped why (counted (holding (cells_from m.values at count) (replaced s base m))) → IsSound t h n
  sound_refused m s base at count why i n q = subst (IsSound t h) (sym q) (record { values = i.values; given = copied_whole t h m.values at count i.values; loans = i.loans })
