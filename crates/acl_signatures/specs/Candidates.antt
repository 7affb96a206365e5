-- Functions that are admitted together, and whether each runs, as the definitions see them in a heap.
use Rattle.std.specs.Prelude.{ℕ, List, [], ◌∷◌, map, Bool, Option, Some, None, nat_eq, unwrap_or, if◌then◌else◌}
use Rattle.std.specs.List.{zip}
use Rattle.std.specs.Map.{lookup}
use Rattle.acl_heap.specs.Objects.{Objects}
use Rattle.model_terms.specs.Outputs.{Known}
use Rattle.model_terms.specs.Rounds as rounds
use Rattle.model_terms.specs.Rounds.{clique}
use Rattle.model_terms.specs.Worlds.{World, Out, Ordinary, Signature}
use Rattle.model_events.specs.Functions.{Candidate, running, ordinary_signature}
use Rattle.acl_check.specs.declared.member.Member.{Member}
use Rattle.acl_check.specs.Members.{seen_member, member_signature}

abbrev pub seen_candidate : Objects → Member → Bool → Candidate
seen_candidate h m b = record { member = seen_member h m; executable = b }

-- as far as both lists reach
abbrev pub seen_candidates : Objects → List Member → List Bool → List Candidate
seen_candidates h [] bs = []
seen_candidates h (m ∷ ms) [] = []
seen_candidates h (m ∷ ms) (b ∷ bs) = seen_candidate h m b ∷ seen_candidates h ms bs

-- what is said of a function where it runs
abbrev pub of_running : {A : Type 0} → (rounds.Member → Option A) → Candidate → Option A
of_running f c = if c.executable then f c.member else None

-- a function's name with its signature, by what is known at last
abbrev pub named_signature : World → Known → rounds.Member → Option (ℕ × Signature)
named_signature w known m = Some (m.name, member_signature w known m)

-- the signatures of the functions that run, by the world in which all stand before the rounds
abbrev pub running_signatures : World → List Candidate → List (ℕ × Signature)
running_signatures w cs = zip (map (λ (m : rounds.Member). m.name) (running cs)) (clique w (running cs))

-- as many ordinary kinds as there are names
abbrev pub ordinary_kinds : List ℕ → List Out
ordinary_kinds xs = map (λ x. Ordinary) xs

-- the signature that is known of a name, else one of which all is ordinary
abbrev pub signature_by : Known → ℕ → List ℕ → Signature
signature_by known x formals = unwrap_or (lookup (nat_eq x) known) (ordinary_signature formals)
