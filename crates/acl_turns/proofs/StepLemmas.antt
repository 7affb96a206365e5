-- What a step is, by its kind; what a definition is, by its own.
use Rattle.std.proofs.Common.{◌≡◌, ℕ, sym, refl, subst, inl, inr}
use Rattle.std.specs.Prelude.{Option, Some, None}
use Rattle.acl_base.specs.declared.FnId.{FnId}
use Rattle.acl_base.specs.declared.TermId.{TermId}
use Rattle.acl_terms.specs.declared.definition.Definition.{Definition}
use Rattle.acl_machine.specs.declared.frame.Goal.{Goal}
use Rattle.acl_machine.specs.declared.frame.Inside.{Inside}
use Rattle.acl_machine.specs.declared.frame.Step.{Step}
use Rattle.acl_machine.specs.declared.frame.Step.TheVariants as step
use Rattle.acl_machine.specs.Steps.{IsPlain, IsRefused, MayNotCall}
use Rattle.acl_call_turns.specs.Calls.{IsInCall}
use Rattle.acl_object_turns.specs.Children.{HasLent}

pub plain_test : (s : Step) (held other : TermId) → s ≡ step.Test held other → IsPlain s
plain_test s held other e = subst IsPlain (sym e) tt

pub plain_parts : (s : Step) (at count : ℕ) (next : TermId) (left : ℕ) (goal : Goal) → s ≡ step.Parts at count next left goal → IsPlain s
plain_parts s at count next left goal e = subst IsPlain (sym e) tt

pub plain_several : (s : Step) (at : ℕ) (body : TermId) → s ≡ step.Several at body → IsPlain s
plain_several s at body e = subst IsPlain (sym e) tt

pub plain_calling : (s : Step) (at : ℕ) (function : FnId) (count : ℕ) → s ≡ step.Calling at function count → IsPlain s
plain_calling s at function count e = subst IsPlain (sym e) tt

pub plain_last : (s : Step) → s ≡ step.Last None → IsPlain s
plain_last s e = subst IsPlain (sym e) tt

pub lent_producing : (s : Step) (at loans : ℕ) (consumer : TermId) → s ≡ step.Producing at loans consumer → HasLent loans s
lent_producing s at loans consumer e = subst (HasLent loans) (sym e) refl

pub lent_putting : (s : Step) (at put loans : ℕ) (consumer : TermId) → s ≡ step.Putting at put loans consumer → HasLent loans s
lent_putting s at put loans consumer e = subst (HasLent loans) (sym e) refl

pub in_guard : (s : Step) (inside : Option Inside) (function : FnId) (names : ℕ) → s ≡ step.Guarding inside function names → IsInCall inside function names s
in_guard s inside function names e = inl e

pub in_body : (s : Step) (inside : Option Inside) (function : FnId) (names : ℕ) → s ≡ step.Running inside function names → IsInCall inside function names s
in_body s inside function names e = inr e

-- it may not be called
pub refused_by : (o : Option Definition) (d : Definition) → o ≡ Some d → IsRefused d → MayNotCall o
refused_by o d e r = subst MayNotCall (sym e) r
