-- A machine that is begun over the lists in scope, and what it ends with.
use Rattle.std.proofs.Common.{◌≡◌, ◌≢◌, ℕ, zero, suc, ◌<◌, List, [], ◌∷◌, length, refl, sym, ap, ◌∙◌, arith, subst}
use Rattle.std.specs.Prelude.{Option, Some}
use Rattle.model_symbols.specs.Symbols.{Table}
use Rattle.model_eval.specs.Outcomes.{Stobjs}
use Rattle.model_eval.specs.ListsKeeping.{lists_keeping}
use Rattle.acl_base.specs.declared.TermId.{TermId}
use Rattle.acl_base.specs.declared.Word.{Word}
use Rattle.acl_heap.specs.Objects.{Objects}
use Rattle.acl_forms.specs.Forms.{AreWhole}
use Rattle.acl_terms.specs.declared.outcome.Shown.{Shown}
use Rattle.acl_terms.specs.declared.outcome.Stop.TheVariants as stop
use Rattle.acl_worlds.specs.Contents.{Content}
use Rattle.acl_list_scope.specs.declared.scoped.ScopedLists.{ScopedLists}
use Rattle.acl_list_scope.specs.Kept.{Keeps}
use Rattle.acl_list_keeper.specs.declared.ready.Ready.{Ready}
use Rattle.acl_list_keeper.specs.Sound as lists
use Rattle.acl_engine.specs.declared.outcome.Outcome.{Outcome}
use Rattle.acl_machine.specs.declared.frame.Frame.{Frame}
use Rattle.acl_machine.specs.declared.machine.Machine.{Machine}
use Rattle.acl_machine.specs.Cells.{cell, ShownWhole, AreWholeCells}
use Rattle.acl_machine.specs.Keeping.{all_lefts}
use Rattle.acl_machine.specs.Steps.{IsSound}
use Rattle.acl_machine.specs.Views.{Around, trees_of}
use Rattle.acl_turns.specs.Runs.{EndTo, EndsTo, IsKept}
use Rattle.acl_evaluate.specs.Begun.{all_values, begun_machine}
use Rattle.acl_evaluate.specs.Ended.{IsEnd, IsRefused}
use Rattle.acl_evaluate.specs.Evaluating.{lists_in, IsAtRest, EndsWith, Reaches, Evaluates, IsWholeEnd}

-- ---- the beginning

module _ (t : Table) (h : Objects) (some : 1 < length t.symbols) where
  nil_whole : (i : ℕ) → ShownWhole t h (cell [] i)
  nil_whole i = record { lies = omega arith; known = some }

  words_in : (ws : List Word) → AreWhole t h ws → (i : ℕ) → ShownWhole t h (cell (all_values ws) i)
  words_in [] a i = nil_whole i
  words_in (w ∷ ws) a zero = a.0
  words_in (w ∷ ws) a (suc i) = words_in ws a.1 i

  -- the values of words
  pub words_whole : (ws : List Word) → AreWhole t h ws → AreWholeCells t h (all_values ws)
  words_whole ws a = record { whole = words_in ws a }

pub begun_sound : (t : Table) (h : Objects) (w : Content) (s : ScopedLists) (ready : Option Ready) (m : Machine) (term : TermId) (values : List Shown) (used depth : ℕ)
    → m ≡ begun_machine term values used depth → AreWholeCells t h values → lists.IsSound s ready h w (length t.symbols) → IsSound t h m
begun_sound t h w s ready m term values used depth e a k = subst (IsSound t h) (sym e) (record {
  values = a;
  given = record { whole = nil_whole t h k.world.some };
  loans = tt;
})

pub begun_closed : (m : Machine) (term : TermId) (values : List Shown) (used depth : ℕ) → m ≡ begun_machine term values used depth → m.frames ≡ []
begun_closed m term values used depth e = subst (λ (x : Machine). x.frames ≡ []) (sym e) refl

none_left : (fs : List Frame) → fs ≡ [] → all_lefts fs ≡ 0
none_left fs e = ap all_lefts e

pub rests_kept : (s : ScopedLists) (m : Machine) → m.frames ≡ [] → IsAtRest s → IsKept (Keeps s) m
rests_kept s m e r = record { default = []; kept = lists_in s; lefts = []; goes = record { keeps = r.keeps; behind = sym (none_left m.frames e) } }

-- ---- the end

no_length : {A : Type 0} (xs : List A) → length xs ≡ 0 → xs ≡ []
no_length [] e = refl
no_length (x ∷ xs) e = absurd (omega (arith, e))

module _ (s s' : ScopedLists) (a after : Around) (m new : Machine) (ends : EndsTo lists_keeping (Keeps s) (Keeps s') a after m new) (begins : m.frames ≡ []) (closed : new.frames ≡ []) (rests : IsAtRest s) where
  abbrev leads : EndTo lists_keeping [] (Keeps s') a after m new (lists_in s) []
  leads = ends.to [] (lists_in s) [] (record { keeps = rests.keeps; behind = sym (none_left m.frames begins) })

  same_lists : leads.later ≡ lists_in s'
  same_lists = sym leads.goes.keeps.is

  nothing_left : leads.left ≡ []
  nothing_left = no_length leads.left (leads.goes.behind ∙ none_left new.frames closed)

  pub reached : Reaches a after m new (lists_in s) (lists_in s')
  reached = subst (λ (l : Stobjs ℕ). Reaches a after m new (lists_in s) l) same_lists (record { count = leads.count; ends = leads.ends })

  pub rested : IsAtRest s'
  rested = record {
    keeps = subst (λ (l : Stobjs ℕ). Keeps s' l []) same_lists (subst (λ (ls : List (Stobjs ℕ)). Keeps s' leads.later ls) nothing_left leads.goes.keeps);
  }

pub evaluated : (a after : Around) (m new : Machine) (term : TermId) (values : List Shown) (before later : Stobjs ℕ) (used depth : ℕ) (o : Outcome)
    → m ≡ begun_machine term values used depth → Reaches a after m new before later → IsEnd new o → Evaluates a after term values before later used depth o
evaluated a after m new term values before later used depth o e r end =
    let from : Reaches a after (begun_machine term values used depth) new before later = subst (λ (x : Machine). Reaches a after x new before later) e r in
    record {
      count = from.count;
      ends = subst (λ last. EndsWith a term values before used depth from.count last) (sym (end.seen after.heap (trees_of after) after.table.symbols later)) from.ends;
    }

pub whole_end : (t : Table) (h : Objects) (m : Machine) (o : Outcome) → IsSound t h m → IsEnd m o → IsWholeEnd t h o
whole_end t h m o s e = record { whole = e.whole t h s.given; lies = e.lies t h s.given }

pub end_told : (m : Machine) (o : Outcome) → IsEnd m o → o.stop ≢ Some stop.Memory
end_told m o e = e.told

-- ---- want of memory

pub refused_whole : (t : Table) (h : Objects) (used : ℕ) (o : Outcome) → IsRefused used o → IsWholeEnd t h o
refused_whole t h used o r = record { whole = rw r.stop tt; lies = rw r.stop (omega arith) }

pub refused_stop : (used : ℕ) (o : Outcome) → IsRefused used o → o.stop ≢ Some stop.Memory → ⊥
refused_stop used o r n = n r.stop
