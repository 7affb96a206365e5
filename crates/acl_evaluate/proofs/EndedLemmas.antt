-- The outcome of a machine that is over.
use Rattle.std.proofs.Common.{◌≡◌, ℕ, suc, ◌≤◌, List, [], ◌∷◌, length, refl, sym, ap, ◌∙◌, arith, subst}
use Rattle.std.specs.Prelude.{Option, Some, None}
use Rattle.model_symbols.specs.Symbols.{Table}
use Rattle.model_eval.specs.Outcomes as outcomes
use Rattle.model_eval.specs.Outcomes.{Stobjs}
use Rattle.acl_base.specs.declared.SymId.{SymId}
use Rattle.acl_heap.specs.Objects.{Objects}
use Rattle.acl_forms.specs.Forms.{AreWhole}
use Rattle.acl_terms.specs.declared.outcome.Shown.{Shown}
use Rattle.acl_terms.specs.declared.outcome.Shown.TheVariants as shown
use Rattle.acl_terms.specs.declared.outcome.Stop.{Stop}
use Rattle.acl_terms.specs.declared.outcome.Stop.TheVariants as stop
use Rattle.acl_engine.specs.declared.outcome.Outcome.{Outcome}
use Rattle.acl_keep.specs.Seen.{all_seen}
use Rattle.acl_engine.specs.Outcomes.{all_shown, shown_words, all_shown_reach}
use Rattle.acl_machine.specs.declared.frame.Halt.{Halt}
use Rattle.acl_machine.specs.declared.frame.Halt.TheVariants as halt
use Rattle.acl_machine.specs.declared.frame.Control.{Control}
use Rattle.acl_machine.specs.declared.frame.Control.TheVariants as control
use Rattle.acl_machine.specs.declared.machine.Machine.{Machine}
use Rattle.acl_machine.specs.Cells.{cell, ShownWhole}
use Rattle.acl_machine.specs.Turns.{IsLate}
use Rattle.acl_evaluate.specs.Ended.{IsStop, IsEnd}

-- ---- values

same_values : (h : Objects) (vs : List Shown) → all_shown h vs ≡ all_seen h vs
same_values h [] = refl
same_values h (shown.Value w ∷ vs) = rw (same_values h vs) refl
same_values h (shown.Object x ∷ vs) = rw (same_values h vs) refl

module _ (t : Table) (h : Objects) where
  all_whole : (vs : List Shown) → ((i : ℕ) → ShownWhole t h (cell vs i)) → AreWhole t h (shown_words vs)
  all_whole [] a = tt
  all_whole (shown.Value w ∷ vs) a = (a 0, all_whole vs (λ i. a (suc i)))
  all_whole (shown.Object x ∷ vs) a = all_whole vs (λ i. a (suc i))

  all_lie : (vs : List Shown) → ((i : ℕ) → ShownWhole t h (cell vs i)) → all_shown_reach vs ≤ length h
  all_lie [] a = omega arith
  all_lie (shown.Value w ∷ vs) a = let rest = all_lie vs (λ i. a (suc i)) in let here = (a 0).lies in omega (arith, rest, here)
  all_lie (shown.Object x ∷ vs) a = let rest = all_lie vs (λ i. a (suc i)) in omega (arith, rest)

-- ---- stops

pub guard_stop : (given : List Shown) (f : SymId) (args : List Shown) → args ≡ given → IsStop given (halt.Guard f) (stop.Guard f args)
guard_stop given f args e = subst (λ vs. IsStop given (halt.Guard f) (stop.Guard f vs)) (sym e) (record {
  seen = λ h. ap (outcomes.Guard f.0) (same_values h given);
  told = λ n. cc;
  whole = λ t h a. all_whole t h given a.whole;
  lies = λ t h a. all_lie t h given a.whole;
})

pub steps_stop : (given : List Shown) → IsStop given halt.Steps stop.Steps
steps_stop given = record { seen = λ h. refl; told = λ n. cc; whole = λ t h a. tt; lies = λ t h a. omega arith }

pub depth_stop : (given : List Shown) → IsStop given halt.Depth stop.Depth
depth_stop given = record { seen = λ h. refl; told = λ n. cc; whole = λ t h a. tt; lies = λ t h a. omega arith }

pub range_stop : (given : List Shown) (f : SymId) → IsStop given (halt.Range f) (stop.Range f)
range_stop given f = record { seen = λ h. refl; told = λ n. cc; whole = λ t h a. tt; lies = λ t h a. omega arith }

pub large_stop : (given : List Shown) (f : SymId) → IsStop given (halt.Large f) (stop.Large f)
large_stop given f = record { seen = λ h. refl; told = λ n. cc; whole = λ t h a. tt; lies = λ t h a. omega arith }

pub symbols_stop : (given : List Shown) (f : SymId) → IsStop given (halt.Symbols f) (stop.Symbols f)
symbols_stop given f = record { seen = λ h. refl; told = λ n. cc; whole = λ t h a. tt; lies = λ t h a. omega arith }

-- ---- ends

pub given_end : (m : Machine) (o : Outcome) → m.control ≡ control.Give → o.stop ≡ None → o.values.items ≡ m.given → o.calls ≡ m.calls → o.outer ≡ m.outer → IsEnd m o
given_end m o g n v c u = record {
  told = λ e. none_some (sym n ∙ e);
  seen = λ h ts symbols stobjs. rw (g, n, v, c, u, same_values h m.given) refl;
  whole = λ t h a. rw (n, v) (all_whole t h m.given a.whole);
  lies = λ t h a. rw (n, v) (all_lie t h m.given a.whole);
}
  where
    none_some : ◌≡◌ {A = Option Stop} None (Some stop.Memory) → ⊥
    none_some e = cc

pub stopped_end : (m : Machine) (o : Outcome) (why : Halt) (s : Stop) → m.control ≡ control.Stopped why → IsStop m.given why s → o.stop ≡ Some s → o.calls ≡ m.calls → o.outer ≡ m.outer → o.inside ≡ m.inside → o.cut ≡ m.cut → IsEnd m o
stopped_end m o why s g i e c u x k = record {
  told = λ f. i.told (same_stop s stop.Memory (sym e ∙ f));
  seen = λ h ts symbols stobjs. rw (g, e, c, u, x, k, i.seen h) refl;
  whole = λ t h a. rw e (i.whole t h a);
  lies = λ t h a. rw e (i.lies t h a);
}
  where
    same_stop : (p q : Stop) → Some p ≡ Some q → p ≡ q
    same_stop p q e = cc

pub not_late : (k : Control) (term : _) (base : ℕ) → k ≡ control.Begin term base → IsLate k → ⊥
not_late k term base e l = subst IsLate e l
