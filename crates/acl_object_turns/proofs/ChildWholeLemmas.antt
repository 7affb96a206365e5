-- Words go on to lie in the heap while children are bound, lent and put back.
use Rattle.std.proofs.Common.{◌≡◌, ℕ, zero, suc, ◌+◌, ◌-◌, List, [], ◌∷◌, ◌++◌, length, refl, sym, ap, subst}
use Rattle.std.specs.Prelude.{Option, Some, None, option_map}
use Rattle.model_symbols.specs.Symbols.{Table}
use Rattle.acl_base.specs.declared.SymId.{SymId}
use Rattle.acl_base.specs.declared.TermId.{TermId}
use Rattle.acl_base.specs.declared.Word.{Word}
use Rattle.acl_heap.specs.Objects.{Objects}
use Rattle.acl_forms.specs.Forms.{IsWhole, AreWhole}
use Rattle.acl_terms.specs.declared.definition.Definition.{Definition}
use Rattle.acl_terms.specs.declared.outcome.Shown.{Shown}
use Rattle.acl_terms.specs.declared.outcome.Shown.TheVariants as shown
use Rattle.acl_code.specs.declared.term.Operand.{Operand}
use Rattle.acl_code.specs.declared.term.Operand.TheVariants as operand
use Rattle.acl_code.specs.declared.term.Child.{Child}
use Rattle.acl_keep.specs.Seen.{index_words}
use Rattle.acl_keep.specs.declared.effect.Loan.{Loan}
use Rattle.acl_machine.specs.declared.frame.Borrowed.{Borrowed}
use Rattle.acl_machine.specs.declared.frame.Halt.{Halt}
use Rattle.acl_machine.specs.declared.frame.Step.{Step}
use Rattle.acl_machine.specs.declared.machine.Machine.{Machine}
use Rattle.acl_machine.specs.Cells.{cell, top, below, ShownWhole, AreWholeCells}
use Rattle.acl_machine.specs.Constants.{IndexIsWhole}
use Rattle.acl_machine.specs.Steps.{stopped, giving, beginning, again, counted, LoanWhole, LoansWhole, IsSound}
use Rattle.acl_machine.proofs.SoundLemmas.{nil_whole}
use Rattle.acl_object_turns.specs.Steps.{closed_first}
use Rattle.acl_object_turns.specs.Children.{operand_cell, index_word, loan_from, loans_in, children_in, index_cells, loan_cells, all_indices, LendsAll}
use Rattle.acl_object_turns.proofs.WholeLemmas.{all_written_whole, none_whole}
use Rattle.acl_object_turns.proofs.PutLemmas.{whole_taken, whole_dropped}

module _ (t : Table) (h : Objects) where
  -- ---- the word of an index

  word_whole : (vs : List Shown) (v : Shown) → AreWholeCells t h vs → ShownWhole t h v → IsWhole t h (index_word v)
  word_whole vs (shown.Value w) a p = p
  word_whole vs (shown.Object x) a p = nil_whole t h vs a 0

  index_read : (vs : List Shown) (base : ℕ) (i : Option Operand) → AreWholeCells t h vs → IndexIsWhole t h i → LoanWhole t h (option_map (λ o. index_word (operand_cell vs base o)) i)
  index_read vs base None a p = tt
  index_read vs base (Some (operand.Slot s)) a p = word_whole vs (cell vs (base + s)) a (a.whole (base + s))
  index_read vs base (Some (operand.Const w)) a p = p

  loan_read : (ds : List Definition) (vs : List Shown) (base : ℕ) (p : SymId) (c : Child) (loan : Loan) → AreWholeCells t h vs → IndexIsWhole t h c.index → loan ≡ loan_from ds vs base p c → LoanWhole t h loan.index
  loan_read ds vs base p c loan a i e = subst (λ (x : Loan). LoanWhole t h x.index) (sym e) (index_read vs base c.index a i)

  loan_words_whole : (i : Option Word) → LoanWhole t h i → AreWhole t h (index_words i)
  loan_words_whole None p = tt
  loan_words_whole (Some w) p = (p, tt)

  pub child_index_whole : (ds : List Definition) (vs : List Shown) (base : ℕ) (p : SymId) (c : Child) (loan : Loan) → AreWholeCells t h vs → IndexIsWhole t h c.index → loan ≡ loan_from ds vs base p c → AreWhole t h (index_words loan.index)
  child_index_whole ds vs base p c loan a i e = loan_words_whole loan.index (loan_read ds vs base p c loan a i e)

  -- ---- values, one after the other

  abbrev AreShown : List Shown → Type 0
  AreShown [] = Unit {0}
  AreShown (v ∷ vs) = ShownWhole t h v × AreShown vs

  are_cells : (old vs : List Shown) → AreWholeCells t h old → AreShown vs → AreWholeCells t h vs
  are_cells old vs a s = record { whole = go vs s }
    where
      go : (vs : List Shown) → AreShown vs → (i : ℕ) → ShownWhole t h (cell vs i)
      go [] s i = nil_whole t h old a i
      go (v ∷ vs) s zero = s.0
      go (v ∷ vs) s (suc i) = go vs s.1 i

  index_shown : (i : Option Word) (vs : List Shown) → LoanWhole t h i → AreShown vs → AreShown (index_cells i ++ vs)
  index_shown None vs p s = s
  index_shown (Some w) vs p s = (p, s)

  called_whole : (old : List Shown) (loan : Loan) → AreWholeCells t h old → LoanWhole t h loan.index → AreWholeCells t h (loan_cells loan)
  called_whole old loan a p = are_cells old (loan_cells loan) a (index_shown loan.index (shown.Object loan.parent ∷ []) p (tt, tt))

  indices_shown : (bs : List Borrowed) → LoansWhole t h bs → AreShown (all_indices (loans_in bs))
  indices_shown [] p = tt
  indices_shown (b ∷ bs) p = index_shown b.loan.index (all_indices (loans_in bs)) p.0 (indices_shown bs p.1)

  children_shown : (loans : List Loan) → AreShown (children_in loans)
  children_shown [] = tt
  children_shown (l ∷ ls) = (tt, children_shown ls)

  whole_pushed : (bs : List Borrowed) (b : Borrowed) → LoansWhole t h bs → LoanWhole t h b.loan.index → LoansWhole t h (bs ++ b ∷ [])
  whole_pushed [] b p q = (q, tt)
  whole_pushed (x ∷ xs) b p q = (p.0, whole_pushed xs b p.1 q)

  -- ---- machines

  pub sound_stopped_borrowing : (m n : Machine) (why : Halt) (s : Step) (bound : ℕ) → IsSound t h m → n ≡ stopped why (again s (record m { loans = below bound m.loans })) → IsSound t h n
  sound_stopped_borrowing m n why s bound i q = subst (IsSound t h) (sym q) (record { values = i.values; given = i.given; loans = whole_taken t h (length m.loans - bound) m.loans i.loans })

  pub sound_bound : (m n : Machine) (s : Step) (ds : List Definition) (base : ℕ) (p : SymId) (c : Child) (loan : Loan) (b : Borrowed) → IsSound t h m → IndexIsWhole t h c.index → loan ≡ loan_from ds m.values base p c → b.loan ≡ loan
      → n ≡ giving [] (again s (counted (record m { loans = m.loans ++ b ∷ [] }))) → IsSound t h n
  sound_bound m n s ds base p c loan b i w e f q = subst (IsSound t h) (sym q) (record {
    values = i.values;
    given = none_whole t h m.values i.values;
    loans = whole_pushed m.loans b i.loans (subst (λ (x : Loan). LoanWhole t h x.index) (sym f) (loan_read ds m.values base p c loan i.values w e));
  })

  pub sound_refused : (m n : Machine) (why : Halt) (s : Step) (bound : ℕ) (ds : List Definition) (base : ℕ) (p : SymId) (c : Child) (loan : Loan) → IsSound t h m → IndexIsWhole t h c.index → loan ≡ loan_from ds m.values base p c
      → n ≡ stopped why (again s (record (counted (record m { given = loan_cells loan })) { loans = below bound m.loans })) → IsSound t h n
  sound_refused m n why s bound ds base p c loan i w e q = subst (IsSound t h) (sym q) (record {
    values = i.values;
    given = called_whole m.values loan i.values (loan_read ds m.values base p c loan i.values w e);
    loans = whole_taken t h (length m.loans - bound) m.loans i.loans;
  })

  pub sound_twins : (m n : Machine) (why : Halt) (s : Step) (bound : ℕ) (loans : List Loan) → IsSound t h m → loans ≡ loans_in (top bound m.loans)
      → n ≡ stopped why (again s (record m { given = all_indices loans; loans = below bound m.loans })) → IsSound t h n
  sound_twins m n why s bound loans i e q = subst (IsSound t h) (sym q) (record {
    values = i.values;
    given = are_cells m.values (all_indices loans) i.values (subst (λ l. AreShown (all_indices l)) (sym e) (indices_shown (top bound m.loans) (whole_dropped t h (length m.loans - bound) m.loans i.loans)));
    loans = whole_taken t h (length m.loans - bound) m.loans i.loans;
  })

  pub sound_lent : (m n : Machine) (base at bound : ℕ) (loans : List Loan) (producer consumer : TermId) → IsSound t h m → LendsAll base at bound loans producer consumer m n → IsSound t h n
  sound_lent m n base at bound loans producer consumer i l = subst (IsSound t h) (sym l.is) (record {
    values = all_written_whole t h (base + at) (children_in loans) m.values l.values i.values (are_cells m.values (children_in loans) i.values (children_shown loans)) l.writes;
    given = i.given;
    loans = i.loans;
  })

  pub sound_closed_loans : (m n : Machine) (bound : ℕ) → IsSound t h m → n ≡ record (closed_first m) { loans = below bound m.loans } → IsSound t h n
  sound_closed_loans m n bound i q = subst (IsSound t h) (sym q) (record { values = i.values; given = i.given; loans = whole_taken t h (length m.loans - bound) m.loans i.loans })

  pub sound_ended : (m n : Machine) (base bound : ℕ) (s : Step) (body : TermId) → IsSound t h m → n ≡ beginning body base (again s (record m { loans = below bound m.loans })) → IsSound t h n
  sound_ended m n base bound s body i q = subst (IsSound t h) (sym q) (record { values = i.values; given = i.given; loans = whole_taken t h (length m.loans - bound) m.loans i.loans })

  pub sound_passed : (m n : Machine) (s : Step) → IsSound t h m → n ≡ giving [] (again s m) → IsSound t h n
  sound_passed m n s i q = subst (IsSound t h) (sym q) (record { values = i.values; given = none_whole t h m.values i.values; loans = i.loans })

  pub sound_put : (m n : Machine) (s : Step) → IsSound t h m → n ≡ giving [] (counted (again s m)) → IsSound t h n
  sound_put m n s i q = subst (IsSound t h) (sym q) (record { values = i.values; given = none_whole t h m.values i.values; loans = i.loans })

  pub sound_put_stopped : (m n : Machine) (why : Halt) (s : Step) → IsSound t h m → n ≡ stopped why (again s m) → IsSound t h n
  sound_put_stopped m n why s i q = subst (IsSound t h) (sym q) (record { values = i.values; given = i.given; loans = i.loans })
