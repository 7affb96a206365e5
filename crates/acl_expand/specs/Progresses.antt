-- What is threaded through an expansion, as the definitions thread it.
use Rattle.std.specs.Prelude.{◌≡◌, ◌≢◌, ℕ, ◌≤◌, List, length, option_map, Result, Ok, Err}
use Rattle.model_symbols.specs.Symbols.{QualifiedName}
use Rattle.model_eval.specs.Outcomes as outcomes
use Rattle.model_expansion.specs.Layers as layers
use Rattle.model_expansion.specs.Expansion as expansion
use Rattle.acl_heap.specs.Objects.{Objects}
use Rattle.acl_terms.specs.declared.fault.ExpandFault.TheVariants as fault
use Rattle.acl_terms.specs.Signatures.{seen_name}
use Rattle.acl_layers.specs.declared.layer.Made.{Made}
use Rattle.acl_layers.specs.declared.layer.Found.{Found}
use Rattle.acl_layers.specs.Layers.{seen_made, made_reach, MadeFits, seen_found, found_reach, FoundFits}
use Rattle.acl_expand.specs.declared.progress.Origin.{Origin}
use Rattle.acl_expand.specs.declared.progress.Progress.{Progress}
use Rattle.acl_expand.specs.declared.progress.Refused.{Refused}
use Rattle.acl_expand.specs.Looks.{seen_fault}

abbrev pub seen_origin : Origin → outcomes.Origin
seen_origin o = record { inside = seen_name o.inside; cut = o.cut }

abbrev pub seen_progress : List QualifiedName → Progress → expansion.Progress
seen_progress symbols p = record { calls = p.calls; outer = p.outer; symbols = symbols; last = option_map seen_origin p.last; cut = p.cut }

-- what a use makes of its place, or its fault, unless memory was refused
abbrev pub EndsMade : Objects → expansion.Progress → Result Made Refused → expansion.Expanded layers.Made → Type 0
EndsMade h p (Ok m) o = (o ≡ expansion.Makes (seen_made h m) p) × (made_reach m ≤ length h) × MadeFits h m
EndsMade h p (Err r) o = r.fault ≢ fault.Memory → o ≡ expansion.Fails (seen_fault h (seen_name r.inside) r.fault) p

-- what stands at a place in the end, or its fault, unless memory was refused
abbrev pub EndsFound : Objects → expansion.Progress → Result Found Refused → expansion.Expanded layers.Found → Type 0
EndsFound h p (Ok f) o = (o ≡ expansion.Makes (seen_found h f) p) × (found_reach f ≤ length h) × FoundFits h f
EndsFound h p (Err r) o = r.fault ≢ fault.Memory → o ≡ expansion.Fails (seen_fault h (seen_name r.inside) r.fault) p

-- no more calls are counted than may be, and no outer call that is none of them
pub record IsWithin (p : Progress) (steps : ℕ) : Type 0 where
  pub outer : p.outer ≤ p.calls
  pub calls : p.calls ≤ steps
