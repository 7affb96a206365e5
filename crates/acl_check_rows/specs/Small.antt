-- Forms of at most some depth, by which tests know that what they build may be checked.
use Rattle.std.specs.Prelude.{ℕ, ◌^◌, ◌≤◌, List, map, length}
use Rattle.acl_base.specs.declared.SymId.{SymId}
use Rattle.acl_heap.specs.Objects.{Objects}
use Rattle.model_terms.specs.Cores as cores
use Rattle.acl_terms.specs.declared.form.Core.{Core}
use Rattle.acl_terms.specs.Depths.{depth_of, depth_of_all}
use Rattle.acl_terms.specs.Forms.{core_reach, most, seen_core, seen_cores, seen_bound}
use Rattle.acl_thread.specs.Sizes.{width_of, width_of_all}

pub record Small (h : Objects) (d : ℕ) (f : Core) : Type 0 where
  pub deep : depth_of (seen_core h f) ≤ d
  pub wide : width_of (seen_core h f) ≤ 2 ^ 32
  pub lies : core_reach f ≤ length h

pub record AllSmall (h : Objects) (d : ℕ) (fs : List Core) : Type 0 where
  pub deep : depth_of_all (cores.cores (seen_cores h fs)) ≤ d
  pub wide : width_of_all (cores.cores (seen_cores h fs)) ≤ 2 ^ 32
  pub lies : most (map core_reach fs) ≤ length h

pub record BoundSmall (h : Objects) (d : ℕ) (bs : List (SymId × Core)) : Type 0 where
  pub deep : depth_of_all (cores.cores (seen_bound h bs)) ≤ d
  pub wide : width_of_all (cores.cores (seen_bound h bs)) ≤ 2 ^ 32
  pub lies : most (map (λ (b : SymId × Core). core_reach b.1) bs) ≤ length h
