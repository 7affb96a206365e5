-- Signatures that count beside those of a world, and lists that are made part by part.
use Rattle.std.specs.Prelude.{ℕ, List, ◌++◌, map, Option, option_map}
use Rattle.acl_base.specs.declared.SymId.{SymId}
use Rattle.model_terms.specs.Outputs.{Known}
use Rattle.acl_terms.specs.declared.signature.Signature.{Signature}
use Rattle.acl_terms.specs.Signatures.{seen_signature}

abbrev pub seen_known : List (SymId × Signature) → Known
seen_known known = map (λ k. (k.0.0, seen_signature k.1)) known

-- what was found, and then what else there is, where it is there
abbrev pub joined : List ℕ → Option (List ℕ) → Option (List ℕ)
joined found rest = option_map (λ xs. found ++ xs) rest
