-- What a turn makes of a machine that puts the children of a `STOBJ-LET` back.
use Rattle.std.proofs.Common.{◌≡◌, ℕ, zero, suc, ◌+◌, ◌<◌, ◌≤◌, List, [], ◌∷◌, ◌-◌, length, map, take, drop, refl, sym, ap, ◌∙◌, arith, subst}
use Rattle.std.specs.Prelude.{Option, Some, None, Bool, slice_get, nat_lt, true, false, if◌then◌else◌}
use Rattle.std.proofs.lemmas.List.{length-map}
use Rattle.model_symbols.specs.Symbols.{Table}
use Rattle.model_eval.specs.Outcomes.{StateOf, Steps, here, one_more_call}
use Rattle.model_eval.specs.Keeping as keepings
use Rattle.model_eval.specs.Keeping.{Keeping, ending_loans}
use Rattle.model_window.specs.Frames as windows
use Rattle.model_window.specs.Windows.{Memory, all_written}
use Rattle.model_window.specs.Turns.{loans_of, next, last_form, put_next}
use Rattle.acl_base.specs.declared.TermId.{TermId}
use Rattle.acl_base.specs.declared.Word.{Word}
use Rattle.acl_heap.specs.Objects.{Objects}
use Rattle.acl_forms.specs.Forms.{AreWhole}
use Rattle.acl_code.specs.Tables.{tree_in}
use Rattle.acl_keep.specs.Seen.{seen_loan, seen_loans, index_words, loan_words}
use Rattle.acl_keep.specs.Calls.{ArePut, SomeArePut}
use Rattle.acl_keep.specs.declared.effect.Loan.{Loan}
use Rattle.acl_machine.specs.declared.frame.Borrowed.{Borrowed}
use Rattle.acl_machine.specs.declared.frame.Step.{Step}
use Rattle.acl_machine.specs.declared.frame.Step.TheVariants as step
use Rattle.acl_machine.specs.declared.frame.Frame.{Frame}
use Rattle.acl_machine.specs.declared.frame.Halt.{Halt}
use Rattle.acl_machine.specs.declared.frame.Halt.TheVariants as halt
use Rattle.acl_machine.specs.declared.frame.Control.TheVariants as control
use Rattle.acl_machine.specs.declared.machine.Machine.{Machine}
use Rattle.acl_machine.specs.Cells.{memory_of, top, below}
use Rattle.acl_machine.specs.Views.{Around, world_of, trees_of, code_of, seen_borrowed, all_borrowed, seen_frames, seen_origin, seen_stop, machine_of}
use Rattle.acl_machine.specs.Turns.{rules_of, turned, IsFirst, with_step}
use Rattle.acl_machine.specs.Keeping.{lefts_in, all_lefts, Goes, TurnsTo}
use Rattle.acl_machine.specs.Steps.{stopped, giving, again, beginning, counted, LoanWhole, LoansWhole}
use Rattle.acl_machine.proofs.BeginLemmas.{state_of, frames_of}
use Rattle.acl_machine.proofs.CallLemmas.{not_below, is_below}
use Rattle.acl_machine.proofs.GoLemmas.{at_give, again_as}
use Rattle.acl_machine.proofs.MemoryLemmas.{memory_all_written}
use Rattle.acl_object_turns.specs.Steps.{WritesGiven, closed_first}
use Rattle.acl_object_turns.specs.Children.{loans_in, HasLent, PutTo, PutsTo}
use Rattle.acl_object_turns.proofs.FrameLemmas.{lefts_again, lefts_closed, changes, at_stop, closed_as}
use Rattle.acl_object_turns.proofs.LendLemmas.{loans_seen}

-- ---- the children left

behind_one : (h : Objects) (bs : List Borrowed) (n : ℕ) (b : Borrowed) → slice_get bs n ≡ Some b → drop n (all_borrowed h bs) ≡ seen_borrowed h b ∷ drop (n + 1) (all_borrowed h bs)
behind_one h [] n b e = absurd (cc)
behind_one h (x ∷ xs) zero b e = ap (λ y. seen_borrowed h y ∷ all_borrowed h xs) (same x b e)
  where
    same : (x b : Borrowed) → Some x ≡ Some b → x ≡ b
    same x b e = cc
behind_one h (x ∷ xs) (suc n) b e =
    let s : suc (n + 1) ≡ suc n + 1 = omega arith in
    behind_one h xs n b e ∙ ap (λ k. seen_borrowed h b ∷ drop k (all_borrowed h (x ∷ xs))) s

behind_all : (h : Objects) (bs : List Borrowed) (n : ℕ) → length bs ≤ n → drop n (all_borrowed h bs) ≡ []
behind_all h [] zero l = refl
behind_all h [] (suc n) l = refl
behind_all h (x ∷ xs) zero l = absurd (omega arith)
behind_all h (x ∷ xs) (suc n) l = behind_all h xs n (omega arith)

drop_zero : {X : Type 0} (xs : List X) → drop 0 xs ≡ xs
drop_zero [] = refl
drop_zero (x ∷ xs) = refl

pub none_behind : (bs : List Borrowed) (n : ℕ) → slice_get bs n ≡ None → length bs ≤ n
none_behind [] n e = omega arith
none_behind (x ∷ xs) zero e = absurd (cc)
none_behind (x ∷ xs) (suc n) e = let l : length xs ≤ n = none_behind xs n e in omega (arith, l)

-- ---- words

pub whole_taken : (t : Table) (h : Objects) (n : ℕ) (bs : List Borrowed) → LoansWhole t h bs → LoansWhole t h (take n bs)
whole_taken t h zero [] a = tt
whole_taken t h zero (b ∷ bs) a = tt
whole_taken t h (suc n) [] a = tt
whole_taken t h (suc n) (b ∷ bs) a = (a.0, whole_taken t h n bs a.1)

pub whole_dropped : (t : Table) (h : Objects) (n : ℕ) (bs : List Borrowed) → LoansWhole t h bs → LoansWhole t h (drop n bs)
whole_dropped t h zero [] a = tt
whole_dropped t h zero (b ∷ bs) a = a
whole_dropped t h (suc n) [] a = tt
whole_dropped t h (suc n) (b ∷ bs) a = whole_dropped t h n bs a.1

pub whole_words : (t : Table) (h : Objects) (bs : List Borrowed) → LoansWhole t h bs → AreWhole t h (loan_words (loans_in bs))
whole_words t h [] a = tt
whole_words t h (b ∷ bs) a = by_index b.loan.index a.0 (whole_words t h bs a.1)
  where
    by_index : (i : Option Word) → LoanWhole t h i → AreWhole t h (loan_words (loans_in bs)) → AreWhole t h (loan_words (record { child = b.loan.child; parent = b.loan.parent; field = b.loan.field; index = i } ∷ loans_in bs))
    by_index None p others = others
    by_index (Some w) p others = (p, others)

one_whole : (t : Table) (h : Objects) (bs : List Borrowed) (n : ℕ) (b : Borrowed) → LoansWhole t h bs → slice_get bs n ≡ Some b → AreWhole t h (index_words b.loan.index)
one_whole t h [] n b a e = absurd (cc)
one_whole t h (x ∷ xs) zero b a e = subst (λ (y : Borrowed). AreWhole t h (index_words y.loan.index)) (same x b e) (by_index x.loan.index a.0)
  where
    same : (x b : Borrowed) → Some x ≡ Some b → x ≡ b
    same x b e = cc

    by_index : (i : Option Word) → LoanWhole t h i → AreWhole t h (index_words i)
    by_index None p = tt
    by_index (Some w) p = (p, tt)
one_whole t h (x ∷ xs) (suc n) b a e = one_whole t h xs n b a.1 e

-- the word of a child that is lent
pub index_whole : (t : Table) (h : Objects) (bs : List Borrowed) (n k : ℕ) (b : Borrowed) → LoansWhole t h bs → slice_get (top n bs) k ≡ Some b → AreWhole t h (index_words b.loan.index)
index_whole t h bs n k b a e = one_whole t h (top n bs) k b (whole_dropped t h (length bs - n) bs a) e

-- those of all that are lent
pub lent_whole : (t : Table) (h : Objects) (bs : List Borrowed) (n : ℕ) (loans : List Loan) → LoansWhole t h bs → loans ≡ loans_in (top n bs) → AreWhole t h (loan_words loans)
lent_whole t h bs n loans a e = subst (λ l. AreWhole t h (loan_words l)) (sym e) (whole_words t h (top n bs) (whole_dropped t h (length bs - n) bs a))

-- ---- the next child, or the consumer

abbrev pub first_of : (f : Frame) (frames rest : List Frame) → frames ≡ f ∷ rest → IsFirst f frames
first_of f frames rest e = record { rest = rest; is = e }

module _ {O B : Type 0} (keeping : Keeping ℕ O B) where
  -- with these children left
  abbrev pub putting : Around → Machine → ℕ → ℕ → ℕ → TermId → List Frame → List (windows.Borrowed ℕ) → B → O → List B → windows.Turned ℕ O B
  putting a m base at n consumer rest left d kept ls =
      put_next (rules_of keeping a) (code_of a) m.room base (seen_frames a.heap (world_of a) (trees_of a) (code_of a) d ls m.names (below n m.loans) rest) (memory_of a.heap m.values) at left (all_borrowed a.heap (top n m.loans)) (tree_in (trees_of a) consumer) (state_of keeping a kept m)

  -- a step whose forms have left nothing
  same_lefts : (s : Step) (f : Frame) (frames rest : List Frame) → frames ≡ f ∷ rest → lefts_in s ≡ 0 → all_lefts (with_step s frames) ≡ all_lefts rest
  same_lefts s f frames rest e z =
      let one : all_lefts (with_step s frames) ≡ lefts_in s + all_lefts rest = ap (λ l. all_lefts (with_step s l)) e in
      omega (arith, one, z)

  pub ends_loans : (Before After : O → List B → Type 0) (a : Around) (m k : Machine) (f : Frame) (at put n count : ℕ) (consumer : TermId) (rest : List Frame) → m.frames ≡ f ∷ rest
      → length (top n m.loans) ≤ put → count ≡ length (top n m.loans)
      → k ≡ beginning consumer f.base (again (step.Last None) (record m { loans = below n m.loans }))
      → ((kept : O) (ls : List B) → Before kept ls → After (keeping.end_loans count kept) ls) → PutsTo keeping Before After a f.base at put n consumer rest m k
  ends_loans Before After a m k f at put n count consumer rest first l c q keeps = subst (λ x. PutsTo keeping Before After a f.base at put n consumer rest m x) (sym q) (record {
    behind = same_lefts (step.Last None) f m.frames rest first refl;
    puts = λ d kept ls before. record {
      later = keeping.end_loans count kept;
      keeps = keeps kept ls before;
      is = ap (λ left. putting a m f.base at n consumer rest left d kept ls) (behind_all a.heap (top n m.loans) put l)
          ∙ ap (λ i. last_form (rules_of keeping a) (code_of a) m.room f.base (seen_frames a.heap (world_of a) (trees_of a) (code_of a) d ls m.names (below n m.loans) rest) (memory_of a.heap m.values) (tree_in (trees_of a) consumer) (ending_loans keeping i (state_of keeping a kept m))) (length-map (top n m.loans) (seen_borrowed a.heap) ∙ sym c)
          ∙ again_as keeping a (record m { loans = below n m.loans; control = control.Begin consumer f.base }) f (step.Last None) d (keeping.end_loans count kept) ls (first_of f m.frames rest first);
    };
  })

  -- by whether the next child is given back, and whether a call is left
  abbrev pub putting_one : Around → Machine → ℕ → ℕ → ℕ → ℕ → TermId → List Frame → keepings.Loan ℕ → Bool → Bool → B → O → List B → windows.Turned ℕ O B
  putting_one a m base at put n consumer rest loan returns left d kept ls =
      let frames = seen_frames a.heap (world_of a) (trees_of a) (code_of a) d ls m.names (below n m.loans) rest in
      let later = windows.Putting at (drop (put + 1) (all_borrowed a.heap (top n m.loans))) (all_borrowed a.heap (top n m.loans)) (tree_in (trees_of a) consumer) in
      if returns then (if left then next (rules_of keeping a) (code_of a) m.room base frames (memory_of a.heap m.values) later (windows.Give []) (record (one_more_call (state_of keeping a kept m)) { stobjs = keeping.put loan kept })
      else next (rules_of keeping a) (code_of a) m.room base frames (memory_of a.heap m.values) later (windows.Stopped Steps (here (state_of keeping a kept m))) (state_of keeping a kept m))
      else next (rules_of keeping a) (code_of a) m.room base frames (memory_of a.heap m.values) later (windows.Give []) (state_of keeping a kept m)

  at_one : (a : Around) (m : Machine) (base at put n : ℕ) (consumer : TermId) (rest : List Frame) (b : Borrowed) (returns left : Bool) (d : B) (kept : O) (ls : List B)
      → slice_get (top n m.loans) put ≡ Some b → b.returns ≡ returns → nat_lt m.calls a.limit ≡ left
      → putting a m base at n consumer rest (drop put (all_borrowed a.heap (top n m.loans))) d kept ls ≡ putting_one a m base at put n consumer rest (seen_loan a.heap b.loan) returns left d kept ls
  at_one a m base at put n consumer rest b returns left d kept ls s r l =
      ap (λ left. putting a m base at n consumer rest left d kept ls) (behind_one a.heap (top n m.loans) put b s)
      ∙ ap (λ x. putting_one a m base at put n consumer rest (seen_loan a.heap b.loan) x (nat_lt m.calls a.limit) d kept ls) r
      ∙ ap (λ x. putting_one a m base at put n consumer rest (seen_loan a.heap b.loan) returns x d kept ls) l

  pub passes : (Keeps : O → List B → Type 0) (a : Around) (m k : Machine) (f : Frame) (at put n : ℕ) (consumer : TermId) (rest : List Frame) (b : Borrowed) → m.frames ≡ f ∷ rest
      → slice_get (top n m.loans) put ≡ Some b → b.returns ≡ false → k ≡ giving [] (again (step.Putting at (put + 1) n consumer) m) → PutsTo keeping Keeps Keeps a f.base at put n consumer rest m k
  passes Keeps a m k f at put n consumer rest b first s r q = subst (λ x. PutsTo keeping Keeps Keeps a f.base at put n consumer rest m x) (sym q) (record {
    behind = same_lefts (step.Putting at (put + 1) n consumer) f m.frames rest first refl;
    puts = λ d kept ls before. record {
      later = kept;
      keeps = before;
      is = at_one a m f.base at put n consumer rest b false _ d kept ls s r refl ∙ again_as keeping a (giving [] m) f (step.Putting at (put + 1) n consumer) d kept ls (first_of f m.frames rest first);
    };
  })

  pub stops_putting : (Keeps : O → List B → Type 0) (a : Around) (m k : Machine) (f : Frame) (at put n : ℕ) (consumer : TermId) (rest : List Frame) (b : Borrowed) → m.frames ≡ f ∷ rest
      → slice_get (top n m.loans) put ≡ Some b → b.returns ≡ true → a.limit ≤ m.calls → k ≡ stopped halt.Steps (again (step.Putting at (put + 1) n consumer) m) → PutsTo keeping Keeps Keeps a f.base at put n consumer rest m k
  stops_putting Keeps a m k f at put n consumer rest b first s r l q = subst (λ x. PutsTo keeping Keeps Keeps a f.base at put n consumer rest m x) (sym q) (record {
    behind = same_lefts (step.Putting at (put + 1) n consumer) f m.frames rest first refl;
    puts = λ d kept ls before. record {
      later = kept;
      keeps = before;
      is = at_one a m f.base at put n consumer rest b true false d kept ls s r (not_below m.calls a.limit l) ∙ again_as keeping a (stopped halt.Steps m) f (step.Putting at (put + 1) n consumer) d kept ls (first_of f m.frames rest first);
    };
  })

  pub puts_back : (Before After : O → List B → Type 0) (a : Around) (m k : Machine) (f : Frame) (at put n : ℕ) (consumer : TermId) (rest : List Frame) (b : Borrowed) → m.frames ≡ f ∷ rest
      → slice_get (top n m.loans) put ≡ Some b → b.returns ≡ true → m.calls < a.limit → k ≡ giving [] (counted (again (step.Putting at (put + 1) n consumer) m))
      → ((kept : O) (ls : List B) → Before kept ls → After (keeping.put (seen_loan a.heap b.loan) kept) ls) → PutsTo keeping Before After a f.base at put n consumer rest m k
  puts_back Before After a m k f at put n consumer rest b first s r l q keeps = subst (λ x. PutsTo keeping Before After a f.base at put n consumer rest m x) (sym q) (record {
    behind = same_lefts (step.Putting at (put + 1) n consumer) f m.frames rest first refl;
    puts = λ d kept ls before. record {
      later = keeping.put (seen_loan a.heap b.loan) kept;
      keeps = keeps kept ls before;
      is = at_one a m f.base at put n consumer rest b true true d kept ls s r (is_below m.calls a.limit l)
          ∙ again_as keeping a (giving [] (counted m)) f (step.Putting at (put + 1) n consumer) d (keeping.put (seen_loan a.heap b.loan) kept) ls (first_of f m.frames rest first);
    };
  })

  -- ---- the turns

  pub goes_putting : (Before After : O → List B → Type 0) (a : Around) (m k : Machine) (f : Frame) (at put n : ℕ) (consumer : TermId)
      → m.control ≡ control.Give → (first : IsFirst f m.frames) → f.step ≡ step.Putting at put n consumer
      → ((rest : List Frame) → m.frames ≡ f ∷ rest → PutsTo keeping Before After a f.base at put n consumer rest m k) → TurnsTo keeping Before After a a m k
  goes_putting Before After a m k f at put n consumer e first g all = record {
    turns = λ d kept ls goes.
        let puts = all first.rest first.is in
        let one = puts.puts d kept ls goes.keeps in
        record {
          later = one.later;
          left = ls;
          goes = record { keeps = one.keeps; behind = goes.behind ∙ ap all_lefts first.is ∙ no_lefts ∙ sym puts.behind };
          is = at_give keeping a m f (step.Putting at put n consumer) d kept ls e first g ∙ one.is;
        };
  }
    where
      no_lefts : lefts_in f.step + all_lefts first.rest ≡ all_lefts first.rest
      no_lefts = let z : lefts_in f.step ≡ 0 = ap lefts_in g in omega (arith, z)

  pub goes_producing : (Before After : O → List B → Type 0) (a : Around) (m j k : Machine) (f : Frame) (at n : ℕ) (consumer : TermId)
      → m.control ≡ control.Give → (first : IsFirst f m.frames) → f.step ≡ step.Producing at n consumer → WritesGiven (f.base + at) m j
      → ((rest : List Frame) → j.frames ≡ f ∷ rest → PutsTo keeping Before After a f.base at 0 n consumer rest j k) → TurnsTo keeping Before After a a m k
  goes_producing Before After a m j k f at n consumer e first g w all = record {
    turns = λ d kept ls goes.
        let puts = written first.rest first.is in
        let one = puts.puts d kept ls goes.keeps in
        record {
          later = one.later;
          left = ls;
          goes = record { keeps = one.keeps; behind = goes.behind ∙ ap all_lefts first.is ∙ no_lefts ∙ sym puts.behind };
          is = at_give keeping a m f (step.Producing at n consumer) d kept ls e first g
              ∙ ap (λ memory. put_next (rules_of keeping a) (code_of a) m.room f.base (seen_frames a.heap (world_of a) (trees_of a) (code_of a) d ls m.names (below n m.loans) first.rest) memory at (all_borrowed a.heap (top n m.loans)) (all_borrowed a.heap (top n m.loans)) (tree_in (trees_of a) consumer) (state_of keeping a kept m))
              (sym (memory_all_written a.heap (f.base + at) m.given m.values w.values w.writes))
              ∙ ap (λ left. putting a (record m { values = w.values }) f.base at n consumer first.rest left d kept ls) (sym (drop_zero (all_borrowed a.heap (top n m.loans))))
              ∙ one.is;
        };
  }
    where
      no_lefts : lefts_in f.step + all_lefts first.rest ≡ all_lefts first.rest
      no_lefts = let z : lefts_in f.step ≡ 0 = ap lefts_in g in omega (arith, z)

      written : (rest : List Frame) → m.frames ≡ f ∷ rest → PutsTo keeping Before After a f.base at 0 n consumer rest (record m { values = w.values }) k
      written rest is = subst (λ (x : Machine). PutsTo keeping Before After a f.base at 0 n consumer rest x k) w.is (all rest (ap (λ (x : Machine). x.frames) w.is ∙ is))

  pub closes_lent : (Before Middle After : O → List B → Type 0) (a : Around) (m k : Machine) (f : Frame) (why : Halt) (n count : ℕ) (loans : List Loan)
      → m.control ≡ control.Stopped why → IsFirst f m.frames → HasLent n f.step → loans ≡ loans_in (top n m.loans) → count ≡ length loans → k ≡ record (closed_first m) { loans = below n m.loans }
      → ((kept : O) (ls : List B) → Before kept ls → Middle (keepings.put_all keeping (seen_loans a.heap loans) kept) ls)
      → ((kept : O) (ls : List B) → Middle kept ls → After (keeping.end_loans count kept) ls) → TurnsTo keeping Before After a a m k
  closes_lent Before Middle After a m k f why n count loans e first has are c q puts ends = subst (λ x. TurnsTo keeping Before After a a m x) (sym q) (by_step f.step refl has)
    where
      change : O → O
      change kept = keeping.end_loans count (keepings.put_all keeping (seen_loans a.heap loans) kept)

      keeps : (kept : O) (ls : List B) → Before kept ls → After (change kept) ls
      keeps kept ls p = ends (keepings.put_all keeping (seen_loans a.heap loans) kept) ls (puts kept ls p)

      -- what the definition does with the loans that lie on the stack
      same_change : (kept : O) → keeping.end_loans (length (all_borrowed a.heap (top n m.loans))) (keepings.put_all keeping (loans_of (all_borrowed a.heap (top n m.loans))) kept) ≡ change kept
      same_change kept =
          ap (λ l. keeping.end_loans (length (all_borrowed a.heap (top n m.loans))) (keepings.put_all keeping l kept)) (loans_seen a.heap (top n m.loans) ∙ sym (ap (seen_loans a.heap) are))
          ∙ ap (λ i. keeping.end_loans i (keepings.put_all keeping (seen_loans a.heap loans) kept)) (length-map (top n m.loans) (seen_borrowed a.heap) ∙ sym (ap length are ∙ length-map (top n m.loans) (λ (b : Borrowed). b.loan)) ∙ sym c)

      after : B → O → List B → O → windows.Turned ℕ O B
      after d kept ls later = windows.Going (record {
        room = suc m.room;
        frames = seen_frames a.heap (world_of a) (trees_of a) (code_of a) d ls m.names (below n m.loans) first.rest;
        memory = memory_of a.heap m.values;
        control = windows.Stopped (seen_stop a.heap m.given why) (seen_origin m.inside m.cut);
        state = state_of keeping a later m;
      })

      by_step : (s : Step) → f.step ≡ s → HasLent n s → TurnsTo keeping Before After a a m (record (closed_first m) { loans = below n m.loans })
      by_step (step.Producing at i consumer) g has = changes keeping Before After change a a m _ (lefts_closed f m.frames first (ap lefts_in g)) keeps
          (λ d kept ls p.
          at_stop keeping a m f (step.Producing at n consumer) why d kept ls e first (g ∙ ap (λ j. step.Producing at j consumer) (sym has))
          ∙ ap (after d kept ls) (same_change kept)
          ∙ closed_as keeping a (record m { loans = below n m.loans }) f why d (change kept) ls e first)
      by_step (step.Putting at put i consumer) g has = changes keeping Before After change a a m _ (lefts_closed f m.frames first (ap lefts_in g)) keeps
          (λ d kept ls p.
          at_stop keeping a m f (step.Putting at put n consumer) why d kept ls e first (g ∙ ap (λ j. step.Putting at put j consumer) (sym has))
          ∙ ap (after d kept ls) (same_change kept)
          ∙ closed_as keeping a (record m { loans = below n m.loans }) f why d (change kept) ls e first)
      by_step (step.Test held other) g has = absurd has
      by_step (step.Parts at count next left goal) g has = absurd has
      by_step (step.Several at body) g has = absurd has
      by_step (step.Calling at function count) g has = absurd has
      by_step (step.Guarding inside function names) g has = absurd has
      by_step (step.Running inside function names) g has = absurd has
      by_step (step.Allowing function names number) g has = absurd has
      by_step (step.Exporting function names number) g has = absurd has
      by_step (step.Borrowing at term bound) g has = absurd has
      by_step (step.Local at body) g has = absurd has
      by_step (step.Last inside) g has = absurd has

  -- none of the children is put yet
  pub none_put : (Keeps : O → List B → Type 0) (loans : List (keepings.Loan ℕ)) → SomeArePut keeping Keeps Keeps loans
  none_put Keeps loans = record { count = 0; put = λ kept ls p. record { keeps = subst (λ l. Keeps (keepings.put_all keeping l kept) ls) (sym (take_none loans)) p } }
    where
      take_none : (ls : List (keepings.Loan ℕ)) → take 0 ls ≡ []
      take_none [] = refl
      take_none (l ∷ ls) = refl

  pub some_put : (Before After : O → List B → Type 0) (h : Objects) (loans all : List Loan) → loans ≡ all → SomeArePut keeping Before After (seen_loans h loans) → SomeArePut keeping Before After (seen_loans h all)
  some_put Before After h loans all e p = subst (λ l. SomeArePut keeping Before After (seen_loans h l)) e p
