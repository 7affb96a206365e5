-- A turn that is taken, by what is done next; there is none without a frame.
use Rattle.std.proofs.Common.{◌≡◌, ℕ, List, [], ◌∷◌, refl, sym, ap, ◌∙◌, subst}
use Rattle.model_symbols.specs.Symbols.{Table}
use Rattle.model_terms.specs.Worlds.{World}
use Rattle.model_eval.specs.Keeping as keepings
use Rattle.model_eval.specs.Keeping.{Keeping}
use Rattle.acl_base.specs.declared.TermId.{TermId}
use Rattle.acl_heap.specs.Objects.{Objects}
use Rattle.acl_worlds.specs.Contents.{Content}
use Rattle.acl_code.specs.declared.term.Term.{Term}
use Rattle.acl_code.specs.Tables.{tree_at}
use Rattle.acl_keep.specs.Calls.{Called}
use Rattle.acl_machine.specs.declared.frame.Frame.{Frame}
use Rattle.acl_machine.specs.declared.frame.Halt.{Halt}
use Rattle.acl_machine.specs.declared.frame.Control.{Control}
use Rattle.acl_machine.specs.declared.frame.Control.TheVariants as control
use Rattle.acl_machine.specs.declared.machine.Machine.{Machine}
use Rattle.acl_machine.specs.Views.{Around, around}
use Rattle.acl_machine.specs.Turns.{IsFirst, IsLate}
use Rattle.acl_machine.specs.Keeping.{MayGo}
use Rattle.acl_machine.proofs.GoLemmas.{is_over}
use Rattle.acl_turns.specs.Asking.{AsksBeginning, AsksResuming, AsksClosing, AsksFirst, AsksBy, MayTurn}
use Rattle.acl_turns.specs.Taking.{Ended}

module _ {O B : Type 0} (keeping : Keeping ℕ O B) (MayCall : Called → O → List B → Type 0) (MayReach : ℕ → ℕ → O → List B → Type 0) (MayLend : List (keepings.Loan ℕ) → O → List B → Type 0) (MayMake : World → ℕ → O → List B → Type 0) (MayUnmake MayAbandon Keeps : O → List B → Type 0)
    (h : Objects) (w : Content) (ts : List Term) (t : Table) (limit : ℕ) (m : Machine) where
  may_by : (c : Control) → m.control ≡ c → MayTurn keeping MayCall MayReach MayLend MayMake MayUnmake MayAbandon Keeps (around h w ts t limit) m → MayGo Keeps (AsksBy keeping MayCall MayReach MayLend MayMake MayUnmake MayAbandon (around h w ts t limit) m c m.frames) m
  may_by c e may = subst (λ x. MayGo Keeps (AsksBy keeping MayCall MayReach MayLend MayMake MayUnmake MayAbandon (around h w ts t limit) m x m.frames) m) e may.may

  pub may_begin : (u : TermId) (base : ℕ) → m.control ≡ control.Begin u base → MayTurn keeping MayCall MayReach MayLend MayMake MayUnmake MayAbandon Keeps (around h w ts t limit) m
      → MayGo Keeps (AsksBeginning MayMake (around h w ts t limit) (tree_at h ts u)) m
  unfolding AsksBy
  may_begin u base e may = may_by (control.Begin u base) e may

  pub may_give : (f : Frame) → m.control ≡ control.Give → IsFirst f m.frames → MayTurn keeping MayCall MayReach MayLend MayMake MayUnmake MayAbandon Keeps (around h w ts t limit) m
      → MayGo Keeps (AsksResuming keeping MayCall MayReach MayLend MayUnmake (around h w ts t limit) m f.base f.step) m
  unfolding AsksBy
  may_give f e first may = subst (λ fs. MayGo Keeps (AsksFirst (AsksResuming keeping MayCall MayReach MayLend MayUnmake (around h w ts t limit) m) fs) m) first.is (may_by control.Give e may)

  pub may_stop : (f : Frame) (why : Halt) → m.control ≡ control.Stopped why → IsFirst f m.frames → MayTurn keeping MayCall MayReach MayLend MayMake MayUnmake MayAbandon Keeps (around h w ts t limit) m
      → MayGo Keeps (AsksClosing keeping MayUnmake MayAbandon (around h w ts t limit) m f.base f.step) m
  unfolding AsksBy
  may_stop f why e first may = subst (λ fs. MayGo Keeps (AsksFirst (AsksClosing keeping MayUnmake MayAbandon (around h w ts t limit) m) fs) m) first.is (may_by (control.Stopped why) e may)

module _ {O B : Type 0} (keeping : Keeping ℕ O B) (Keeps : O → List B → Type 0) (a : Around) (m : Machine) where
  over_late : m.frames ≡ [] → IsLate m.control → Ended keeping Keeps Keeps a a m m
  over_late none late = record { over = is_over keeping a m none late; late = late; closed = none; same = refl; there = refl; still = λ kept ls k. k }

  pub over_given : m.control ≡ control.Give → m.frames ≡ [] → Ended keeping Keeps Keeps a a m m
  over_given e none = over_late none (subst IsLate (sym e) tt)

  pub over_stopped : (why : Halt) → m.control ≡ control.Stopped why → m.frames ≡ [] → Ended keeping Keeps Keeps a a m m
  over_stopped why e none = over_late none (subst IsLate (sym e) tt)
