-- What may be kept where a turn was refused memory, from what its call says.
use Rattle.std.proofs.Common.{◌≡◌, ℕ, suc, ◌+◌, List, [], ◌∷◌, length, refl, sym, ap, ◌∙◌, arith, inl, inr}
use Rattle.std.specs.declared.alloc.AllocError.{AllocError}
use Rattle.std.specs.Prelude.{◌⊎◌, Result, Ok, Err, OnErr, Option}
use Rattle.model_symbols.specs.Symbols.{Table}
use Rattle.model_eval.specs.Keeping.{Keeping}
use Rattle.acl_base.specs.declared.FnId.{FnId}
use Rattle.acl_heap.specs.Objects.{Objects}
use Rattle.acl_terms.specs.Forms.{numbers}
use Rattle.acl_worlds.specs.Contents.{Content}
use Rattle.acl_code.specs.declared.term.Term.{Term}
use Rattle.acl_keep.specs.Seen.{all_seen, seen_loans}
use Rattle.acl_keep.specs.Calls.{SomeArePut}
use Rattle.acl_machine.specs.declared.frame.Inside.{Inside}
use Rattle.acl_machine.specs.declared.frame.Step.TheVariants as step
use Rattle.acl_machine.specs.declared.frame.Frame.{Frame}
use Rattle.acl_machine.specs.declared.frame.Halt.{Halt}
use Rattle.acl_machine.specs.declared.frame.Control.TheVariants as control
use Rattle.acl_machine.specs.declared.machine.Machine.{Machine}
use Rattle.acl_machine.specs.Cells.{top}
use Rattle.acl_machine.specs.Turns.{IsFirst}
use Rattle.acl_machine.specs.Views.{Around, around}
use Rattle.acl_machine.specs.Keeping.{lefts_in, inside_lefts, all_lefts, Goes, StillKeeps}
use Rattle.acl_call_turns.specs.Calls.{formals_at, actuals_for, HandsBack}
use Rattle.acl_object_turns.specs.Children.{loans_in, HasLent}
use Rattle.acl_exec_turns.specs.Execs.{StillGoes}
use Rattle.acl_turns.specs.Leaving.{Leaves, Still, CallLeft, ChildrenPut, MayLeave}

module _ {O B : Type 0} (keeping : Keeping ℕ O B) (Before After : O → List B → Type 0) (a : Around) (m : Machine) where
  -- all that was kept is kept
  pub leaves_kept : StillKeeps Before After → MayLeave keeping Before After a m
  leaves_kept still = record { leaves = λ kept lefts goes. Still (still kept lefts goes.keeps) }

  pub leaves_still : (r : Result (Unit {0}) AllocError) → OnErr r (StillKeeps Before After) → OnErr r (MayLeave keeping Before After a m)
  leaves_still (Ok u) e = e
  leaves_still (Err x) e = leaves_kept e

  pub leaves_gone : (r : Result (Unit {0}) AllocError) → OnErr r (StillGoes Before After m) → OnErr r (MayLeave keeping Before After a m)
  leaves_gone (Ok u) e = e
  leaves_gone (Err x) e = record { leaves = λ kept lefts goes. Still (e.keeps kept lefts goes) }

module _ {O B : Type 0} (keeping : Keeping ℕ O B) (Keeps : O → List B → Type 0) (a : Around) (m : Machine) where
  pub leaves_nothing : MayLeave keeping Keeps Keeps a m
  leaves_nothing = leaves_kept keeping Keeps Keeps a m (λ kept lefts k. k)

  pub leaves_same : (r : Result (Unit {0}) AllocError) → OnErr r (MayLeave keeping Keeps Keeps a m)
  leaves_same (Ok u) = tt
  leaves_same (Err x) = leaves_nothing

module _ {O B : Type 0} (keeping : Keeping ℕ O B) (Before After : O → List B → Type 0) (h : Objects) (w : Content) (ts : List Term) (t : Table) (limit : ℕ) (m : Machine) (f : Frame) where
  pub leaves_children : (why : Halt) (loans : ℕ) (r : Result (Unit {0}) AllocError) → m.control ≡ control.Stopped why → IsFirst f m.frames → HasLent loans f.step
      → OnErr r (SomeArePut keeping Before After (seen_loans h (loans_in (top loans m.loans)))) → OnErr r (MayLeave keeping Before After (around h w ts t limit) m)
  leaves_children why loans (Ok u) stops first lent e = e
  leaves_children why loans (Err x) stops first lent e = record {
    leaves = λ kept lefts goes. ChildrenPut (record {
      why = why;
      stops = stops;
      frame = f;
      first = first;
      loans = loans;
      lent = lent;
      count = e.count;
      puts = e.put kept lefts goes.keeps;
    });
  }

  pub leaves_guard : (inside : Option Inside) (g : FnId) (n : ℕ) (r : Result (Unit {0}) AllocError) → m.control ≡ control.Give → IsFirst f m.frames → f.step ≡ step.Guarding inside g n
      → OnErr r (StillKeeps Before After ⊎ HandsBack keeping Before After (numbers (formals_at w g)) (all_seen h (actuals_for w g f.base n m))) → OnErr r (MayLeave keeping Before After (around h w ts t limit) m)
  leaves_guard inside g n (Ok u) given first s e = e
  leaves_guard inside g n (Err x) given first s (inl still) = record { leaves = λ kept lefts goes. Still (still kept lefts goes.keeps) }
  leaves_guard inside g n (Err x) given first s (inr hands) = record { leaves = by_lefts }
    where
      by_lefts : (kept : O) (lefts : List B) → Goes Before m kept lefts → Leaves keeping After (around h w ts t limit) m kept lefts
      by_lefts kept [] goes = absurd (
          let x : all_lefts m.frames ≡ lefts_in f.step + all_lefts first.rest = ap all_lefts first.is in
          let y : lefts_in f.step ≡ inside_lefts inside + 1 = ap lefts_in s in
          let z = goes.behind in
          omega (arith, x, y, z))
      by_lefts kept (left ∷ lefts) goes = CallLeft (record {
        given = given;
        frame = f;
        first = first;
        inside = inside;
        function = g;
        count = n;
        guards = s;
        left = left;
        others = lefts;
        behind = refl;
        keeps = hands kept left lefts goes.keeps;
      })
