-- Functions that are being admitted, as the definitions see them in a heap.
use Rattle.std.specs.Prelude.{ℕ, List, [], ◌∷◌, map, Bool, ◌&&◌, not, Option, nat_eq, unwrap_or, option_map}
use Rattle.std.specs.Map.{lookup}
use Rattle.std.specs.Option.{option_map_or}
use Rattle.acl_base.specs.declared.SymId.{SymId}
use Rattle.acl_heap.specs.Objects.{Objects}
use Rattle.model_terms.specs.Classes.{has, is_stobj_name}
use Rattle.model_terms.specs.Outputs.{Known, outputs, signature_in}
use Rattle.model_terms.specs.Rounds as rounds
use Rattle.model_terms.specs.Rounds.{formal_scope, signed}
use Rattle.model_terms.specs.Sites.{one_ordinary}
use Rattle.model_terms.specs.Worlds as worlds
use Rattle.model_terms.specs.Worlds.{World, Out, Ordinary}
use Rattle.acl_terms.specs.declared.signature.Signature.{Signature}
use Rattle.acl_terms.specs.Forms.{numbers, seen_core}
use Rattle.acl_terms.specs.Signatures.{seen_signature}
use Rattle.acl_thread.specs.Sizes.{Fits}
use Rattle.acl_check.specs.declared.member.Member.{Member}

abbrev pub seen_member : Objects → Member → rounds.Member
seen_member h m = record { name = m.name.0; formals = numbers m.formals; stobjs = numbers m.stobjs; guard = seen_core h m.guard; body = seen_core h m.body }

abbrev pub seen_members : Objects → List Member → List rounds.Member
seen_members h ms = map (seen_member h) ms

-- its guard and its body are small enough to be checked
pub record FitsMember (h : Objects) (m : Member) : Type 0 where
  pub guard : Fits h m.guard
  pub body : Fits h m.body

-- a formal names an object and is not declared as one
abbrev pub is_undeclared : World → List ℕ → ℕ → Bool
is_undeclared w stobjs x = is_stobj_name w x && not (has stobjs x)

-- a declared name is no formal that names an object
abbrev pub is_no_formal : World → List ℕ → ℕ → Bool
is_no_formal w formals x = not (has formals x && is_stobj_name w x)

-- the outputs of a definition's signature, one ordinary where it has none
abbrev pub own_outs : worlds.Definition → List Out
own_outs d = option_map_or (λ (s : worlds.Signature). s.outs) (signature_in d) one_ordinary

-- a function and its signature
abbrev pub seen_pair : SymId × Signature → ℕ × worlds.Signature
seen_pair p = (p.0.0, seen_signature p.1)

-- the signature of a function whose body has known outputs
abbrev pub body_learned : World → Known → rounds.Member → Option (ℕ × worlds.Signature)
body_learned w known m = option_map (λ outs. (m.name, signed w m outs)) (outputs w known (formal_scope w m) m.body)

-- the signature that is known of a function, else that with one ordinary output
abbrev pub member_signature : World → Known → rounds.Member → worlds.Signature
member_signature w known m = unwrap_or (lookup (nat_eq m.name) known) (signed w m (Ordinary ∷ []))
