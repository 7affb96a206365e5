-- Where all is met that turns may ask, any turn may be taken.
use Rattle.std.proofs.Common.{◌≡◌, ℕ, zero, suc, ◌+◌, List, [], ◌∷◌, length, drop, refl, sym, ap, ◌∙◌, arith, subst}
use Rattle.std.specs.Prelude.{Option, Some, None, Bool, true, false, slice_get}
use Rattle.model_prims.specs.Kinds.{by_number}
use Rattle.model_terms.specs.Worlds.{World}
use Rattle.model_eval.specs.Outcomes as outcomes
use Rattle.model_eval.specs.Keeping as keepings
use Rattle.model_eval.specs.Keeping.{Keeping}
use Rattle.model_eval.specs.Lending.{field_number, are_twins}
use Rattle.model_slots.specs.Trees as trees
use Rattle.model_slots.specs.Trees.{Tree}
use Rattle.model_window.specs.Windows.{Memory}
use Rattle.acl_base.specs.declared.FnId.{FnId}
use Rattle.acl_terms.specs.Forms.{numbers}
use Rattle.acl_terms.specs.declared.definition.Definition.{Definition}
use Rattle.acl_terms.specs.declared.definition.Definition.TheVariants as definition
use Rattle.acl_worlds.specs.Contents.{seen_world}
use Rattle.acl_code.specs.Tables.{tree_in}
use Rattle.acl_keep.specs.Seen.{all_seen, seen_loans}
use Rattle.acl_keep.specs.Calls.{Called}
use Rattle.acl_machine.specs.declared.frame.Inside.{Inside}
use Rattle.acl_machine.specs.declared.frame.Step.{Step}
use Rattle.acl_machine.specs.declared.frame.Step.TheVariants as step
use Rattle.acl_machine.specs.declared.frame.Frame.{Frame}
use Rattle.acl_machine.specs.declared.frame.Control.{Control}
use Rattle.acl_machine.specs.declared.frame.Control.TheVariants as control
use Rattle.acl_machine.specs.declared.machine.Machine.{Machine}
use Rattle.acl_machine.specs.Cells.{memory_of, top}
use Rattle.acl_machine.specs.Views.{Around, world_of, trees_of, children_of}
use Rattle.acl_machine.specs.Keeping.{lefts_in, all_lefts, Goes}
use Rattle.acl_call_turns.specs.Calls.{formals_at, actuals_for, MayThen}
use Rattle.acl_object_turns.specs.Children.{loans_in, parent_shown, MayReachIn, MayLendOf, MayBorrow}
use Rattle.acl_exec_turns.specs.Execs as execs
use Rattle.acl_exec_turns.specs.Execs.{definition_of, exec_number, export_actuals}
use Rattle.acl_turns.specs.Asking.{AsksBeginning, AsksCalling, AsksResuming, AsksUndoing, AsksClosing, AsksBy, Asks, AsksNothing, MayTurn}
use Rattle.acl_turns.specs.Runs.{Moment, moment, Turning, Runs, MayRun}

module _ {O B : Type 0} (keeping : Keeping ℕ O B) (MayCall : Called → O → List B → Type 0) (MayReach : ℕ → ℕ → O → List B → Type 0) (MayLend : List (keepings.Loan ℕ) → O → List B → Type 0) (MayMake : World → ℕ → O → List B → Type 0) (MayUnmake MayAbandon : O → List B → Type 0)
    (met : AsksNothing keeping MayCall MayReach MayLend MayMake MayUnmake MayAbandon) where
  module _ (a : Around) (m : Machine) (kept : O) (lefts : List B) where
    met_beginning : (tree : Tree) → AsksBeginning MayMake a tree kept lefts
    unfolding AsksBeginning
    met_beginning (trees.Leaf operand) = tt
    met_beginning (trees.If s test held other) = tt
    met_beginning (trees.Let s bound body) = tt
    met_beginning (trees.Mv s parts) = tt
    met_beginning (trees.MvLet s bound body) = tt
    met_beginning (trees.StobjLet s children producer consumer) = tt
    met_beginning (trees.WithLocal s stobj producer body) = met.make (world_of a) stobj kept lefts
    met_beginning (trees.MustBeEqual logic) = tt
    met_beginning (trees.Call s n actuals) = tt

    met_calling : (base count : ℕ) (what : Option Definition) → AsksCalling MayCall a m base count what kept lefts
    unfolding AsksCalling
    met_calling base count None = tt
    met_calling base count (Some (definition.Primitive name row arity)) = tt
    met_calling base count (Some (definition.Function f)) = tt
    met_calling base count (Some (definition.Macro f)) = tt
    met_calling base count (Some (definition.Constant name value)) = tt
    met_calling base count (Some (definition.Object descriptor layout class)) = tt
    met_calling base count (Some (definition.Generated f)) = met.call _ kept lefts
    met_calling base count (Some (definition.Abstract descriptor)) = tt
    met_calling base count (Some (definition.OfAbstract f)) = tt
    met_calling base count (Some (definition.Named name formals)) = tt
    met_calling base count (Some (definition.Signed name formals signature executable)) = tt

    met_running : (w : World) (values : List (outcomes.Shown ℕ)) (what : Option Definition) → execs.MayRun keeping MayCall w values what kept lefts
    met_running w values None = tt
    met_running w values (Some (definition.Primitive name row arity)) = tt
    met_running w values (Some (definition.Function f)) = tt
    met_running w values (Some (definition.Macro f)) = tt
    met_running w values (Some (definition.Constant name value)) = tt
    met_running w values (Some (definition.Object descriptor layout class)) = tt
    met_running w values (Some (definition.Generated f)) = met.call _ (keeping.begin_export kept) lefts
    met_running w values (Some (definition.Abstract descriptor)) = tt
    met_running w values (Some (definition.OfAbstract f)) = tt
    met_running w values (Some (definition.Named name formals)) = tt
    met_running w values (Some (definition.Signed name formals signature executable)) = tt

    met_reaching : (p : outcomes.Shown ℕ) (field : ℕ) → MayReachIn MayReach p field kept lefts
    met_reaching (outcomes.Plain o) field = tt
    met_reaching (outcomes.StobjNamed p) field = met.reach p field kept lefts

    met_lending : (twins : Bool) (loans : List (keepings.Loan ℕ)) → MayLendOf MayLend twins loans kept lefts
    met_lending true loans = tt
    met_lending false loans = met.lend loans kept lefts

    met_borrowing : (w : World) (memory : Memory ℕ) (base : ℕ) (cs : List trees.Child) (loans : List (keepings.Loan ℕ)) → MayBorrow MayReach MayLend w memory base cs loans kept lefts
    met_borrowing w memory base [] loans = met_lending (are_twins by_number loans) loans
    met_borrowing w memory base (c ∷ cs) loans = met_reaching (parent_shown memory base c.parent) (field_number (slice_get w c.accessor))

    met_resuming : (base : ℕ) (s : Step) → AsksResuming keeping MayCall MayReach MayLend MayUnmake a m base s kept lefts
    unfolding AsksResuming
    met_resuming base (step.Test held other) = tt
    met_resuming base (step.Parts at count next left goal) = tt
    met_resuming base (step.Several at body) = tt
    met_resuming base (step.Calling at function count) = met_calling (base + at) count (slice_get a.content.definitions function.0)
    met_resuming base (step.Guarding inside function names) = tt
    met_resuming base (step.Running inside function names) = tt
    met_resuming base (step.Allowing function names number) = tt
    met_resuming base (step.Exporting function names number) =
        met_running (seen_world a.heap a.content) (all_seen a.heap (export_actuals a.content function base names m)) (definition_of a.content.definitions (exec_number a.content function))
    met_resuming base (step.Borrowing at term bound) =
        met_borrowing (world_of a) (memory_of a.heap m.values) base (drop bound (children_of (tree_in (trees_of a) term))) (seen_loans a.heap (loans_in (top bound m.loans)))
    met_resuming base (step.Producing at loans consumer) = tt
    met_resuming base (step.Putting at put loans consumer) = tt
    met_resuming base (step.Local at body) = met.unmake kept lefts
    met_resuming base (step.Last inside) = tt

  met_then : (formals : List ℕ) (actuals : List (outcomes.Shown ℕ)) (kept : O) (lefts : List B) (n : ℕ) → length lefts ≡ suc n → MayThen keeping MayAbandon formals actuals kept lefts
  met_then formals actuals kept [] n e = absurd (omega (arith, e))
  met_then formals actuals kept (left ∷ lefts) n e = met.abandon (keeping.hand_back formals actuals kept left) lefts

  module _ (a : Around) (m : Machine) (kept : O) (lefts : List B) where
    met_undoing : (inside : Option Inside) (g : FnId) (names base n : ℕ) → length lefts ≡ suc n → AsksUndoing keeping MayUnmake MayAbandon a m inside g names base kept lefts
    unfolding AsksUndoing
    met_undoing None g names base n e = tt
    met_undoing (Some x) g names base n e = met_then (numbers (formals_at a.content g)) (all_seen a.heap (actuals_for a.content g base names m)) kept lefts n e

    met_closing : (base : ℕ) (s : Step) (rest : ℕ) → length lefts ≡ lefts_in s + rest → AsksClosing keeping MayUnmake MayAbandon a m base s kept lefts
    unfolding AsksClosing
    met_closing base (step.Test held other) rest e = tt
    met_closing base (step.Parts at count next left goal) rest e = tt
    met_closing base (step.Several at body) rest e = tt
    met_closing base (step.Calling at function count) rest e = tt
    met_closing base (step.Guarding None function names) rest e = met_undoing None function names base rest (omega (arith, e))
    met_closing base (step.Guarding (Some x) function names) rest e = met_undoing (Some x) function names base (suc rest) (omega (arith, e))
    met_closing base (step.Running None function names) rest e = met_undoing None function names base rest (omega (arith, e))
    met_closing base (step.Running (Some x) function names) rest e = met_undoing (Some x) function names base (suc rest) (omega (arith, e))
    met_closing base (step.Allowing function names number) rest e = tt
    met_closing base (step.Exporting function names number) rest e = tt
    met_closing base (step.Borrowing at term bound) rest e = tt
    met_closing base (step.Producing at loans consumer) rest e = tt
    met_closing base (step.Putting at put loans consumer) rest e = tt
    met_closing base (step.Local at body) rest e = met.unmake kept lefts
    met_closing base (step.Last None) rest e = tt
    met_closing base (step.Last (Some x)) rest e = met.abandon kept lefts

    met_by : (c : Control) (fs : List Frame) → length lefts ≡ all_lefts fs → AsksBy keeping MayCall MayReach MayLend MayMake MayUnmake MayAbandon a m c fs kept lefts
    unfolding AsksBy
    met_by (control.Begin t base) fs e = met_beginning a m kept lefts (tree_in (trees_of a) t)
    met_by control.Give [] e = tt
    met_by control.Give (f ∷ fs) e = met_resuming a m kept lefts f.base f.step
    met_by (control.Stopped why) [] e = tt
    met_by (control.Stopped why) (f ∷ fs) e = met_closing f.base f.step (all_lefts fs) e

  pub met_turn : (Keeps : O → List B → Type 0) (a : Around) (m : Machine) (kept : O) (lefts : List B) → Goes Keeps m kept lefts → MayTurn keeping MayCall MayReach MayLend MayMake MayUnmake MayAbandon Keeps a m
  met_turn Keeps a m kept lefts goes = record { may = record { kept = kept; lefts = lefts; goes = goes; may = met_by a m kept lefts m.control m.frames goes.behind } }

  behind_after : (d : B) (n : ℕ) (start now : Moment O B) → length start.lefts ≡ all_lefts start.machine.frames → Runs keeping d n start now → length now.lefts ≡ all_lefts now.machine.frames
  behind_after d zero start now e runs = subst (λ (x : Moment O B). length x.lefts ≡ all_lefts x.machine.frames) runs e
  behind_after d (suc n) start now e runs = runs.2.behind

  pub met_run : (Keeps : O → List B → Type 0) (a : Around) (m : Machine) (d : B) (kept : O) (lefts : List B) → Goes Keeps m kept lefts → MayRun keeping MayCall MayReach MayLend MayMake MayUnmake MayAbandon Keeps a m
  met_run Keeps a m d kept lefts goes = record {
    default = d;
    kept = kept;
    lefts = lefts;
    goes = goes;
    may = λ n now runs. met_by now.there now.machine now.kept now.lefts now.machine.control now.machine.frames (behind_after d n (moment a m kept lefts) now goes.behind runs);
  }
