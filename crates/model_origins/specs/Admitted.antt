-- Functions that an event admits together, as it found them: new names, guards and bodies that were expanded, and no rule that fails.
use Rattle.std.specs.Prelude.{◌≡◌, List, ◌++◌, map, None}
use Rattle.model_terms.specs.Worlds.{World}
use Rattle.model_terms.specs.Faults.{clique_fault}
use Rattle.model_events.specs.Functions.{Candidate, signatures, signed, defined, members}
use Rattle.model_made.proofs.DraftLemmas.{AreNew}
use Rattle.model_made.proofs.CandidateLemmas.{named, AreExpanded}

-- the world in which they stand by their signatures, and are checked
abbrev pub checking_world : World → List Candidate → World
checking_world w cs = w ++ map (signed (signatures w cs)) cs

-- the world that they enter
abbrev pub world_with : World → List Candidate → World
world_with w cs = w ++ map (defined (signatures w cs)) cs

pub record AreAdmitted (w : World) (cs : List Candidate) : Type 0 where
  pub names : AreNew w (map named cs)
  pub expanded : AreExpanded (w ++ map named cs) cs
  pub accepted : clique_fault (checking_world w cs) 0 (members cs) ≡ None
