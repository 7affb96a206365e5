-- What narrow forms are for, as a law.
use Rattle.std.specs.Prelude.{◌≡◌, ℕ, ◌^◌, ◌≤◌, true}
use Rattle.acl_heap.specs.Objects.{Objects}
use Rattle.acl_terms.specs.declared.form.Core.{Core}
use Rattle.acl_terms.specs.Forms.{seen_core, CoreLies}
use Rattle.acl_thread.specs.Sizes.{Fits}
use Rattle.acl_code.specs.Sizes as code
use Rattle.acl_narrow.specs.Narrow.{is_narrow}

-- a narrow form of at most 2,048 levels may be checked, and its term may be made behind at most 2^32 slots
pub record NarrowFit : Type 0 where
  pub checked : (h : Objects) (f : Core) → is_narrow 2048 (seen_core h f) ≡ true → CoreLies h f → Fits h f
  pub made : (h : Objects) (at : ℕ) (f : Core) → at ≤ 2 ^ 32 → is_narrow 2048 (seen_core h f) ≡ true → CoreLies h f → code.Fits h at f
