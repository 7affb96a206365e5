-- Narrow forms without words may be checked, and their terms made.
use Rattle.std.specs.Prelude.{◌≡◌, ◌^◌, ◌≤◌, true, [], length}
use Rattle.std.proofs.Common.{arith}
use Rattle.acl_heap.specs.Objects.{Objects}
use Rattle.model_terms.specs.Worlds as worlds
use Rattle.acl_terms.specs.declared.form.Core.{Core}
use Rattle.acl_terms.specs.Forms.{seen_core, CoreLies}
use Rattle.acl_thread.specs.Sizes.{Fits}
use Rattle.acl_code.specs.Sizes as code
use Rattle.acl_code.specs.Tables.{TermsLie}
use Rattle.acl_narrow.specs.Narrow.{is_narrow}
use Rattle.acl_narrow.proofs.FitLemmas.{narrow_fit}
use Rattle.acl_form_times.specs.Simple.{IsSimple}

pub may_be_checked : (h : Objects) (w : worlds.World) (f : Core) → is_narrow 2048 (seen_core h f) ≡ true → IsSimple w h f → Fits h f
may_be_checked h w f e s = narrow_fit.checked h f e (omega (arith, s.none))

pub may_be_made : (h : Objects) (w : worlds.World) (f : Core) → is_narrow 2048 (seen_core h f) ≡ true → IsSimple w h f → code.Fits h 1 f
may_be_made h w f e s = narrow_fit.made h 1 f (omega arith) e (omega (arith, s.none))

pub none_lie : (h : Objects) → TermsLie h []
none_lie h = record { all = omega arith }
