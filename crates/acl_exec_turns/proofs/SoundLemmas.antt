-- The words of a machine lie in the heap, and its symbols are known, also after an exec function is called.
use Rattle.std.proofs.Common.{◌≡◌, ℕ, zero, suc, List, [], ◌∷◌, sym, subst}
use Rattle.std.specs.Prelude.{Some}
use Rattle.model_symbols.specs.Symbols.{Table}
use Rattle.acl_base.specs.declared.SymId.{SymId}
use Rattle.acl_base.specs.declared.FnId.{FnId}
use Rattle.acl_base.specs.declared.TermId.{TermId}
use Rattle.acl_base.specs.declared.Word.{Word}
use Rattle.acl_heap.specs.Objects.{Objects, Extends}
use Rattle.acl_forms.specs.Forms.{IsWhole, AreWhole, Grown}
use Rattle.acl_forms.specs.Growth.{Grown-heap}
use Rattle.acl_terms.specs.declared.outcome.Shown.{Shown}
use Rattle.acl_terms.specs.declared.outcome.Shown.TheVariants as shown
use Rattle.acl_keep.specs.Seen.{words_in, answer_words}
use Rattle.acl_keep.specs.declared.effect.Effect.{Effect}
use Rattle.acl_keep.specs.declared.effect.Effect.TheVariants as effect
use Rattle.acl_machine.specs.declared.frame.Inside.{Inside}
use Rattle.acl_machine.specs.declared.frame.Halt.{Halt}
use Rattle.acl_machine.specs.declared.machine.Machine.{Machine}
use Rattle.acl_machine.specs.Cells.{cell, ShownWhole, AreWholeCells, WritesAll}
use Rattle.acl_machine.specs.Actuals.{under_formals, actuals_in}
use Rattle.acl_machine.specs.Steps.{IsSound, LoansWhole}
use Rattle.acl_machine.proofs.SoundLemmas.{nil_whole, one_whole, cells_grown, loans_grown}
use Rattle.acl_machine.proofs.WholeLemmas.{actuals_whole, formals_whole}
use Rattle.acl_call_turns.specs.Calls.{entered}
use Rattle.acl_export_turns.specs.Steps.{stopped_inside}
use Rattle.acl_exec_turns.specs.Steps.{called, given_inside, answered_inside, with_two}

pub entered_sound : (t : Table) (h : Objects) (m n : Machine) (inside : Inside) (g : FnId) (base count names : ℕ) (guard : TermId) (fs : List SymId) (values : List Shown) → IsSound t h m → WritesAll base (under_formals fs (actuals_in m base count names)) m.values values
    → n ≡ entered (Some inside) g base guard values (called base count names m) → IsSound t h n
entered_sound t h m n inside g base count names guard fs values i w q = subst (IsSound t h) (sym q) (record {
  values = formals_whole t h base fs (actuals_in m base count names) m.values values (actuals_whole t h m base count names i.values) i.values w;
  given = i.given;
  loans = i.loans;
})

-- ---- in a heap that has grown

module _ (t t' : Table) (h h' : Objects) (m n : Machine) (grown : Grown t t' h h') (i : IsSound t h m) where
  values_later : AreWholeCells t' h' m.values
  values_later = cells_grown t t' h h' m.values grown i.values

  loans_later : LoansWhole t' h' m.loans
  loans_later = loans_grown t t' h h' m.loans grown i.loans

  pub stopped_sound : (inside : Inside) (why : Halt) (base count names : ℕ) → n ≡ stopped_inside inside why base (called base count names m) → IsSound t' h' n
  stopped_sound inside why base count names q = subst (IsSound t' h') (sym q) (record { values = values_later; given = actuals_whole t' h' m base count names values_later; loans = loans_later })

  pub given_sound : (inside : Inside) (w : Word) (base count names : ℕ) → IsWhole t' h' w → n ≡ given_inside inside (shown.Value w ∷ []) base (called base count names m) → IsSound t' h' n
  given_sound inside w base count names p q = subst (IsSound t' h') (sym q) (record { values = values_later; given = one_whole t' h' m.values (shown.Value w) values_later p; loans = loans_later })

value_whole : (t : Table) (h : Objects) (v : Shown) (vs : List Shown) → AreWhole t h (words_in (v ∷ vs)) → ShownWhole t h v × AreWhole t h (words_in vs)
value_whole t h (shown.Value w) vs p = (p.0, p.1)
value_whole t h (shown.Object x) vs p = (tt, p)

two_whole : (t : Table) (h : Objects) (vs : List Shown) (v u : Shown) → AreWholeCells t h vs → ShownWhole t h v → ShownWhole t h u → AreWholeCells t h (v ∷ u ∷ [])
two_whole t h vs v u a p q = record { whole = go }
  where
    go : (k : ℕ) → ShownWhole t h (cell (v ∷ u ∷ []) k)
    go zero = p
    go (suc zero) = q
    go (suc (suc k)) = nil_whole t h vs a k

pub answered_sound : (t : Table) (h h' : Objects) (m n : Machine) (e : Effect) (name : SymId) (inside : Inside) (base count names : ℕ) → Extends h h' → IsSound t h m → AreWhole t h' (answer_words e)
    → n ≡ answered_inside e name inside base (with_two (called base count names m)) → IsSound t h' n
answered_sound t h h' m n e name inside base count names grows i whole q = subst (IsSound t h') (sym q) (by_effect e whole)
  where
    values : AreWholeCells t h' m.values
    values = cells_grown t t h h' m.values (Grown-heap grows) i.values

    loans : LoansWhole t h' m.loans
    loans = loans_grown t t h h' m.loans (Grown-heap grows) i.loans

    by_effect : (e : Effect) → AreWhole t h' (answer_words e) → IsSound t h' (answered_inside e name inside base (with_two (called base count names m)))
    by_effect effect.Refuses p = record { values = values; given = actuals_whole t h' m base count names values; loans = loans }
    by_effect (effect.Gives v) p = record { values = values; given = one_whole t h' m.values v values (value_whole t h' v [] p).0; loans = loans }
    by_effect (effect.GivesBoth v u) p =
        let first = value_whole t h' v (u ∷ []) p in
        record { values = values; given = two_whole t h' m.values v u values first.0 (value_whole t h' u [] first.1).0; loans = loans }

-- ---- what a keeper is asked with

named_words : (t : Table) (h : Objects) (vs : List Shown) → ((i : ℕ) → ShownWhole t h (cell vs i)) → AreWhole t h (words_in vs)
named_words t h [] p = tt
named_words t h (shown.Value w ∷ vs) p = (p 0, named_words t h vs (λ k. p (suc k)))
named_words t h (shown.Object x ∷ vs) p = named_words t h vs (λ k. p (suc k))

pub actuals_words : (t : Table) (h : Objects) (m : Machine) (base count names : ℕ) (actuals : List Shown) → IsSound t h m → actuals ≡ actuals_in m base count names → AreWhole t h (words_in actuals)
actuals_words t h m base count names actuals i q = subst (λ vs. AreWhole t h (words_in vs)) (sym q) (named_words t h (actuals_in m base count names) (actuals_whole t h m base count names i.values).whole)
