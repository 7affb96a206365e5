-- A macro of one formal, as the tests enter it.
use Rattle.std.specs.Prelude.{◌≡◌, ℕ, [], ◌∷◌, true, None, refl}
use Rattle.std.proofs.Common.{ap, ◌∙◌, sym, arith}
use Rattle.acl_base.specs.declared.SymId.{SymId}
use Rattle.acl_heap.specs.Objects.{Objects}
use Rattle.model_terms.specs.Worlds.{World}
use Rattle.model_stobjs.specs.Heads.{name_in_use}
use Rattle.model_slots_laws.specs.Standing.{functions_stand}
use Rattle.acl_terms.specs.declared.form.Core.TheFolds.{fold-roll-Core}
use Rattle.acl_terms.specs.declared.form.Core.TheOpen as layer
use Rattle.acl_terms.specs.declared.form.Core.TheVariants as variants
use Rattle.acl_terms.specs.Definitions.{formals_reach}
use Rattle.acl_terms.specs.Forms.{seen_core, core_reach, layer_reach}
use Rattle.acl_terms.specs.FormLaws.{seen_var}
use Rattle.acl_admit_macro.specs.declared.expanded.ExpandedMacro.{ExpandedMacro}
use Rattle.acl_admit_macro.specs.Entered.{expanded_reach}

pub unused : name_in_use [] (200 ∷ []) ≡ None
unfolding name_in_use
unused = refl

var_reach : (x : SymId) → core_reach (variants.Var x) ≡ 0
var_reach x = ap core_reach (sym (variants.rolls-Var x)) ∙ fold-roll-Core ℕ layer_reach (layer.Var x)

pub one_reach : (m : ExpandedMacro) (x : SymId) → m.formals.optional ≡ [] → m.formals.keys ≡ None → m.body ≡ variants.Var x → expanded_reach m ≡ 0
one_reach m x e f g =
    let body : core_reach m.body ≡ 0 = ap core_reach g ∙ var_reach x in
    let formals : formals_reach m.formals ≡ 0 = rw (e, f) refl in
    omega (arith, body, formals)

pub one_stands : (h : Objects) (x : SymId) (w : World) → functions_stand w (seen_core h (variants.Var x)) ≡ true
unfolding functions_stand
one_stands h x w = ap (functions_stand w) (seen_var h x)
