-- The faults of ready forms are no stops.
use Rattle.std.specs.Prelude.{◌≡◌, ℕ, zero, suc, ◌-◌, Option, Some, None, Bool, true, false, nat_eq, if◌then◌else◌}
use Rattle.std.specs.Option.{option_or}
use Rattle.std.proofs.Common.{sym, subst}
use Rattle.model_terms.specs.Cores as cores
use Rattle.model_terms.specs.Worlds.{definition}
use Rattle.model_expansion.specs.Faults as faults
use Rattle.model_expansion.specs.Expansion.{Setting, ready_fault, ready_faults, if_room, head_fault, arity_of}
use Rattle.acl_heap.specs.Objects.{Objects}
use Rattle.acl_terms.specs.declared.fault.ExpandFault.{ExpandFault}
use Rattle.acl_terms.specs.declared.fault.ExpandFault.TheVariants as fault
use Rattle.acl_expand.specs.Refusals.{IsToldFault}
use Rattle.acl_expand.specs.Looks.{seen_fault}

abbrev pub NoStop : Option faults.ExpandFault → Type 0
NoStop None = Unit {0}
NoStop (Some (faults.MacroArgs s)) = Unit {0}
NoStop (Some (faults.BadShape s)) = Unit {0}
NoStop (Some (faults.MacroStopped s inside)) = ⊥
NoStop (Some (faults.UnknownFunction f)) = Unit {0}
NoStop (Some (faults.Arity f)) = Unit {0}
NoStop (Some faults.TooNested) = Unit {0}

or_no_stop : (a b : Option faults.ExpandFault) → NoStop a → NoStop b → NoStop (option_or a b)
or_no_stop None b h k = k
or_no_stop (Some f) b h k = h

module _ (x : Setting) where
  room_no_stop : (left : ℕ) (e : Option faults.ExpandFault) → NoStop e → NoStop (if_room x left e)
  room_no_stop zero e h = tt
  room_no_stop (suc left) e h = h

  head_no_stop : (f count : ℕ) (arity : Option ℕ) → NoStop (head_fault x f count arity)
  head_no_stop f count None = tt
  head_no_stop f count (Some arity) = go (nat_eq count arity)
    where
      go : (b : Bool) → NoStop (if b then None else Some (faults.Arity f))
      go true = tt
      go false = tt

  mutual
    pub form_no_stop : (c : cores.Core) (left : ℕ) → NoStop (ready_fault x c left)
    form_no_stop (cores.Var v) left = room_no_stop left None tt
    form_no_stop (cores.Const o) left = room_no_stop left None tt
    form_no_stop (cores.If a b c) left = room_no_stop left _ (or_no_stop _ _ (form_no_stop a (left - 1)) (or_no_stop _ _ (form_no_stop b (left - 1)) (form_no_stop c (left - 1))))
    form_no_stop (cores.Let names forms body) left = room_no_stop left _ (or_no_stop _ _ (forms_no_stop forms (left - 1)) (form_no_stop body (left - 1)))
    form_no_stop (cores.Mv fs) left = room_no_stop left _ (forms_no_stop fs (left - 1))
    form_no_stop (cores.MvLet names form body) left = room_no_stop left _ (or_no_stop _ _ (form_no_stop form (left - 1)) (form_no_stop body (left - 1)))
    form_no_stop (cores.StobjLet names forms vars producer consumer) left =
        room_no_stop left _ (or_no_stop _ _ (forms_no_stop forms (left - 1)) (or_no_stop _ _ (form_no_stop producer (left - 1)) (form_no_stop consumer (left - 1))))
    form_no_stop (cores.WithLocal stobj names producer body) left = room_no_stop left _ (or_no_stop _ _ (form_no_stop producer (left - 1)) (form_no_stop body (left - 1)))
    form_no_stop (cores.MustBeEqual logic exec) left = room_no_stop left _ (or_no_stop _ _ (form_no_stop logic (left - 1)) (form_no_stop exec (left - 1)))
    form_no_stop (cores.Call f fs) left = room_no_stop left _ (or_no_stop _ _ (head_no_stop f (cores.count fs) (arity_of (definition x.world f))) (forms_no_stop fs (left - 1)))

    pub forms_no_stop : (fs : cores.Cores) (left : ℕ) → NoStop (ready_faults x fs left)
    forms_no_stop cores.none left = tt
    forms_no_stop (cores.more f fs) left = or_no_stop _ _ (form_no_stop f left) (forms_no_stop fs left)

pub fault_told : (h : Objects) (e : ExpandFault) (o : Option faults.ExpandFault) → Some (seen_fault h None e) ≡ o → NoStop o → IsToldFault e
fault_told h (fault.MacroArgs s) o p k = tt
fault_told h (fault.BadShape s) o p k = tt
fault_told h (fault.MacroStopped s) o p k = absurd (subst NoStop (sym p) k)
fault_told h (fault.UnknownFunction s) o p k = tt
fault_told h (fault.Arity s) o p k = tt
fault_told h fault.TooNested o p k = tt
fault_told h fault.Memory o p k = tt
