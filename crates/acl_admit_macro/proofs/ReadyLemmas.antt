-- A macro that is small enough.
use Rattle.std.specs.Prelude.{◌≡◌, ℕ, ◌^◌, List, length, Bool, ◌&&◌, nat_le}
use Rattle.std.proofs.Common.{sym, ap, ◌∙◌}
use Rattle.std.proofs.lemmas.List.{length-map}
use Rattle.model_terms.specs.Cores.{Core}
use Rattle.model_terms.specs.Worlds.{MacroFormals}
use Rattle.model_terms.specs.Faults.{formal_names}
use Rattle.acl_base.specs.declared.SymId.{SymId}
use Rattle.acl_narrow.specs.Narrow.{is_narrow}
use Rattle.acl_terms.specs.Forms.{numbers}
use Rattle.acl_admit_macro.specs.Ready.{is_ready}

pub ready_is : (formals : MacroFormals) (body : Core) (names : List SymId) (narrow : Bool) → numbers names ≡ formal_names formals → narrow ≡ is_narrow 2048 body
    → (nat_le (length names) (2 ^ 32) && narrow) ≡ is_ready formals body
ready_is formals body names narrow e f =
    let long : length (formal_names formals) ≡ length names = ap (λ (xs : List ℕ). length xs) (sym e) ∙ length-map names (λ (s : SymId). s.0) in
    ap (λ n. nat_le n (2 ^ 32) && narrow) (sym long) ∙ ap (λ b. nat_le (length (formal_names formals)) (2 ^ 32) && b) f
