-- The entries of functions before they are defined.
use Rattle.std.specs.Prelude.{◌≡◌, ℕ, ◌+◌, ◌<◌, ◌≤◌, List, [], ◌∷◌, ◌++◌, length, drop, map, nat_eq, unwrap_or, Option, Some, None, refl}
use Rattle.std.specs.Map.{lookup}
use Rattle.std.proofs.Common.{sym, ap, ◌∙◌, get_or, append_assoc}
use Rattle.std.proofs.Math.ListN.{drop_of_length-le}
use Rattle.std.proofs.lemmas.List.{append-nil, map-append}
use Rattle.acl_base.specs.declared.SymId.{SymId}
use Rattle.acl_heap.specs.Objects.{Objects}
use Rattle.model_terms.specs.Worlds as worlds
use Rattle.model_terms.specs.Outputs.{Known}
use Rattle.model_events.specs.Functions.{ordinary_signature}
use Rattle.acl_terms.specs.declared.definition.Definition.{Definition}
use Rattle.acl_terms.specs.Definitions.{seen_definition, seen_definitions}
use Rattle.acl_terms.specs.Forms.{numbers}
use Rattle.acl_outputs.proofs.ListLemmas.{left_at}
use Rattle.acl_signatures.specs.Candidates.{ordinary_kinds, signature_by}

pub kinds_step : (done : List worlds.Out) (ns : List SymId) (i : ℕ) (d : SymId) → i < length ns
    → done ++ ordinary_kinds (numbers (drop i ns)) ≡ (done ++ worlds.Ordinary ∷ []) ++ ordinary_kinds (numbers (drop (i + 1) ns))
kinds_step done ns i d l =
    ap (λ (xs : List SymId). done ++ ordinary_kinds (numbers xs)) (left_at ns i d l) ∙ sym (append_assoc done (worlds.Ordinary ∷ []) (ordinary_kinds (numbers (drop (i + 1) ns))))

pub kinds_end : (done : List worlds.Out) (ns : List SymId) (i : ℕ) → length ns ≤ i → done ++ ordinary_kinds (numbers (drop i ns)) ≡ done
kinds_end done ns i l = ap (λ (xs : List SymId). done ++ ordinary_kinds (numbers xs)) (drop_of_length-le ns l) ∙ append-nil done

pub by_known : (known : Known) (x : ℕ) (formals : List ℕ) (s : worlds.Signature) → Some s ≡ lookup (nat_eq x) known → s ≡ signature_by known x formals
by_known known x formals s e = ap (λ (o : Option worlds.Signature). unwrap_or o (ordinary_signature formals)) e

pub by_none : (known : Known) (x : ℕ) (formals : List ℕ) → None ≡ lookup (nat_eq x) known → ordinary_signature formals ≡ signature_by known x formals
by_none known x formals e = ap (λ (o : Option worlds.Signature). unwrap_or o (ordinary_signature formals)) e

pub entries_push : (h : Objects) (ds : List Definition) (d : Definition) → seen_definitions h (ds ++ d ∷ []) ≡ seen_definitions h ds ++ seen_definition h d ∷ []
entries_push h ds d = map-append (seen_definition h) ds (d ∷ [])
