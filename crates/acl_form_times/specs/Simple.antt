-- Forms without words that may lie nowhere, whose functions stand.
use Rattle.std.specs.Prelude.{◌≡◌, ◌≤◌, List, map, true}
use Rattle.acl_base.specs.declared.SymId.{SymId}
use Rattle.acl_heap.specs.Objects.{Objects}
use Rattle.model_terms.specs.Cores as cores
use Rattle.model_terms.specs.Worlds.{World}
use Rattle.model_slots_laws.specs.Standing.{functions_stand, all_functions_stand}
use Rattle.acl_terms.specs.declared.form.Core.{Core}
use Rattle.acl_terms.specs.Forms.{core_reach, most, seen_core, seen_cores, seen_bound}

pub record IsSimple (w : World) (h : Objects) (f : Core) : Type 0 where
  pub none : core_reach f ≤ 0
  pub stand : functions_stand w (seen_core h f) ≡ true

pub record AreSimple (w : World) (h : Objects) (fs : List Core) : Type 0 where
  pub none : most (map core_reach fs) ≤ 0
  pub stand : all_functions_stand w (cores.cores (seen_cores h fs)) ≡ true

pub record BoundAreSimple (w : World) (h : Objects) (bs : List (SymId × Core)) : Type 0 where
  pub none : most (map (λ (b : SymId × Core). core_reach b.1) bs) ≤ 0
  pub stand : all_functions_stand w (cores.cores (seen_bound h bs)) ≡ true
