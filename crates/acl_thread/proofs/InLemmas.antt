-- Kinds of formals by which actuals are taken alike.
use Rattle.std.specs.Prelude.{◌≡◌, ℕ, zero, suc, ◌+◌, List, [], ◌∷◌, Option, Some, None, replicate, option_and_then, refl}
use Rattle.std.specs.Option.{option_or, option_map_or}
use Rattle.std.proofs.Common.{sym, ap, ◌∙◌, subst}
use Rattle.model_terms.specs.declared.rule.Mode.{Mode}
use Rattle.model_terms.specs.Cores.{Core, Cores, none, more}
use Rattle.model_terms.specs.Worlds.{World, Definition, Out, Ordinary, Stobj, Scope, Signature, definition}
use Rattle.model_terms.specs.Outputs.{signature_in, signature_of, stobj_actuals}
use Rattle.model_terms.specs.Sites.{ins_of, first_kind, other_kinds, formal_stobj, actual_expected}
use Rattle.model_terms.specs.Faults.{first_at}
use Rattle.model_terms_laws.specs.Parts.{actuals_fault, fault_down}
use Rattle.model_terms_laws.proofs.PartLemmas.{goes_down}
use Rattle.acl_thread.specs.Own.{own_ins}
use Rattle.acl_thread.specs.Walks.{AlikeIns}

pub alike_same : (a b : List Out) → a ≡ b → AlikeIns a b
alike_same a b e = record { faults = λ w mode scope k fs. ap (λ ins. actuals_fault w mode scope ins k fs) e; actuals = λ fs. ap (λ ins. stobj_actuals ins fs) e }

plain_faults : (n : ℕ) (w : World) (mode : Mode) (scope : Scope) (k : ℕ) (fs : Cores) → actuals_fault w mode scope [] k fs ≡ actuals_fault w mode scope (replicate n Ordinary) k fs
plain_faults zero w mode scope k fs = refl
plain_faults (suc n) w mode scope k none = goes_down.no_actual w mode scope [] k ∙ sym (goes_down.no_actual w mode scope (replicate (suc n) Ordinary) k)
plain_faults (suc n) w mode scope k (more f fs) =
    goes_down.first_actual w mode scope [] k f fs
    ∙ (ap (option_or (fault_down k (first_at w mode scope f None (actual_expected Ordinary f)))) (plain_faults n w mode scope (k + 1) fs)
    ∙ sym (goes_down.first_actual w mode scope (replicate (suc n) Ordinary) k f fs))

plain_actuals : (n : ℕ) (fs : Cores) → stobj_actuals [] fs ≡ stobj_actuals (replicate n Ordinary) fs
plain_actuals zero fs = refl
plain_actuals (suc n) none = refl
plain_actuals (suc n) (more f fs) = plain_actuals n fs

pub alike_plain : (n : ℕ) → AlikeIns [] (replicate n Ordinary)
alike_plain n = record { faults = plain_faults n; actuals = plain_actuals n }

pub ins_there : (w : World) (f : ℕ) (ins : List Out) (d : Definition) → Some d ≡ definition w f → AlikeIns ins (own_ins (signature_in d)) → AlikeIns ins (ins_of w f)
ins_there w f ins d e a = subst (λ o. AlikeIns ins (own_ins (option_and_then signature_in o))) e a

pub ins_nowhere : (w : World) (f : ℕ) → None ≡ definition w f → AlikeIns [] (ins_of w f)
ins_nowhere w f e = alike_same [] (ins_of w f) (ap (λ o. own_ins (option_and_then signature_in o)) e)
