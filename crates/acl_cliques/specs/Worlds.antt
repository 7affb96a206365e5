-- The worlds in which functions that are admitted together stand before they are defined, and what the definition answers.
use Rattle.std.specs.Prelude.{◌≡◌, ℕ, List, ◌++◌, map}
use Rattle.model_terms.specs.Worlds.{World, Definition, Named}
use Rattle.model_expansion.specs.Expansion.{Progress}
use Rattle.model_expansion.specs.Faults.{Thread}
use Rattle.model_stobjs.specs.Answers.{Refuses}
use Rattle.model_events.specs.Functions.{Candidate, signatures, signed, candidates_then}
use Rattle.acl_terms.specs.declared.fault.ThreadFault.{ThreadFault}
use Rattle.acl_terms.specs.declared.fault.ThreadFault.TheVariants as fault
use Rattle.acl_check.specs.declared.member.Member.{Member}

abbrev pub names_of : List Member → List ℕ
names_of ms = map (λ (m : Member). m.name.0) ms

abbrev pub named : Candidate → Definition
named c = Named c.member.name c.member.formals

-- the world in which functions are expanded
abbrev pub named_world : World → List Candidate → World
named_world w cs = w ++ map named cs

-- the world in which they are checked
abbrev pub signed_world : World → List Candidate → World
signed_world w cs = w ++ map (signed (signatures w cs)) cs

-- the definition refuses them for this; nothing is said where memory was refused
abbrev pub Refused : World → List Candidate → ThreadFault → Type 0
Refused w cs (fault.Rule rule place) = (p : Progress) → candidates_then w cs p ≡ Refuses (Thread (record { rule = rule; place = place })) p
Refused w cs fault.Memory = Unit {0}
