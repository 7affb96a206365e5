-- What the expansion of functions ends with, as the definitions see it.
use Rattle.std.specs.Prelude.{◌≡◌, ◌≢◌, ℕ, ◌≤◌, List, Bool, length, Result, Ok, Err}
use Rattle.model_symbols.specs.Symbols.{Table}
use Rattle.model_expansion.specs.Expansion as expansion
use Rattle.model_events.specs.Functions as functions
use Rattle.acl_heap.specs.Objects.{Objects}
use Rattle.acl_terms.specs.declared.fault.ExpandFault.TheVariants as fault
use Rattle.acl_terms.specs.Signatures.{seen_name}
use Rattle.acl_worlds.specs.Contents.{Content, seen_world}
use Rattle.acl_check.specs.declared.member.Member.{Member}
use Rattle.acl_signatures.specs.Candidates.{seen_candidate, seen_candidates}
use Rattle.acl_cliques.specs.Entered.{member_reach}
use Rattle.acl_admit.specs.Ready.{members_reach}
use Rattle.acl_drafts.specs.declared.draft.Draft.{Draft}
use Rattle.acl_drafts.specs.Drafts.{seen_drafts}
use Rattle.acl_expand.specs.declared.progress.Refused.{Refused}
use Rattle.acl_expand.specs.Looks.{seen_fault, setting_at}
use Rattle.acl_candidates.specs.declared.candidates.Candidates.{Candidates}

abbrev pub seen_all : Objects → Candidates → List functions.Candidate
seen_all h c = seen_candidates h c.members.items c.executable.items

-- a function with its guard and body, or the first fault, unless memory was refused
abbrev pub EndsMember : Objects → expansion.Progress → Bool → Result Member Refused → expansion.Expanded functions.Candidate → Type 0
EndsMember h p b (Ok m) o = (o ≡ expansion.Makes (seen_candidate h m b) p) × (member_reach m ≤ length h)
EndsMember h p b (Err r) o = r.fault ≢ fault.Memory → o ≡ expansion.Fails (seen_fault h (seen_name r.inside) r.fault) p

-- the same of functions in order
abbrev pub EndsCandidates : Objects → expansion.Progress → Result Candidates Refused → expansion.Expanded (List functions.Candidate) → Type 0
EndsCandidates h p (Ok c) o = (o ≡ expansion.Makes (seen_all h c) p) × (members_reach c.members.items ≤ length h)
EndsCandidates h p (Err r) o = r.fault ≢ fault.Memory → o ≡ expansion.Fails (seen_fault h (seen_name r.inside) r.fault) p

-- what the expansion of functions goes by: they stand in the world by their names
abbrev pub named_setting : Objects → Content → List Draft → Table → ℕ → ℕ → expansion.Setting
named_setting h w ds t steps depth = record (setting_at h w t steps depth) { world = functions.with_names (seen_world h w) (seen_drafts h ds) }
