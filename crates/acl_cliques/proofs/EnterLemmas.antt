-- Functions that are prepared, and that enter.
use Rattle.std.specs.Prelude.{◌≡◌, List, ◌++◌, length, map, Bool, None}
use Rattle.std.specs.List.{All}
use Rattle.std.proofs.Common.{sym, ap, ◌∙◌, subst}
use Rattle.std.proofs.lemmas.List.{length-map}
use Rattle.acl_base.specs.declared.SymId.{SymId}
use Rattle.acl_heap.specs.Objects.{Objects}
use Rattle.model_terms.specs.Faults.{clique_fault}
use Rattle.model_terms.specs.Worlds as worlds
use Rattle.model_events.specs.Functions.{Candidate, members, signatures, signed, defined}
use Rattle.acl_terms.specs.declared.definition.Definition.{Definition}
use Rattle.acl_terms.specs.declared.signature.Signature.{Signature}
use Rattle.acl_worlds.specs.Contents.{Content, seen_world}
use Rattle.acl_outputs.specs.Known.{seen_known}
use Rattle.acl_code.specs.declared.term.Term.{Term}
use Rattle.acl_check.specs.declared.member.Member.{Member}
use Rattle.acl_check.specs.Members.{seen_member, FitsMember}
use Rattle.acl_translate.specs.declared.function_terms.FunctionTerms.{FunctionTerms}
use Rattle.acl_translate.specs.Functions.{all_function_trees, AreFunctions}
use Rattle.acl_definitions.specs.Added.{with_definitions}
use Rattle.acl_signatures.specs.Candidates.{seen_candidates}
use Rattle.acl_cliques.specs.declared.prepared.Prepared.{Prepared}
use Rattle.acl_cliques.specs.Worlds.{signed_world}
use Rattle.acl_cliques.specs.Entered.{IsPrepared, AreDefined, Entered}
use Rattle.acl_cliques.proofs.DefineLemmas.{terms_count, defined_lie}
use Rattle.acl_cliques.proofs.WorldLemmas.{members_are, granted}

-- what was found with these signatures was found with those of the definition
pub prepared_by : (h : Objects) (w v : Content) (ts : List Term) (cs : List Candidate) (known : List (SymId × Signature)) (p : Prepared) → v ≡ w → p.known ≡ known → seen_known known ≡ signatures (seen_world h w) cs
    → clique_fault (seen_world h v ++ map (signed (seen_known known)) cs) 0 (members cs) ≡ None
    → AreFunctions h ts p.terms (all_function_trees (seen_world h v ++ map (signed (seen_known known)) cs) (members cs)) → IsPrepared h (seen_world h w) ts cs p
prepared_by h w v ts cs known p same is e accepted built =
    let worlds_same : seen_world h v ++ map (signed (seen_known known)) cs ≡ signed_world (seen_world h w) cs =
    ap (λ (x : Content). seen_world h x ++ map (signed (seen_known known)) cs) same ∙ ap (λ ks. seen_world h w ++ map (signed ks) cs) e in
    record {
      known = ap seen_known is ∙ e;
      accepted = subst (λ (x : worlds.World). clique_fault x 0 (members cs) ≡ None) worlds_same accepted;
      terms = subst (λ (x : worlds.World). AreFunctions h ts p.terms (all_function_trees x (members cs))) worlds_same built;
    }

pub prepared_count : (h : Objects) (w : worlds.World) (ts : List Term) (ms : List Member) (bs : List Bool) (p : Prepared) → IsPrepared h w ts (seen_candidates h ms bs) p → length bs ≡ length ms → length p.terms ≡ length ms
prepared_count h w ts ms bs p i e =
    terms_count h (signed_world w (seen_candidates h ms bs)) ts p.terms (members (seen_candidates h ms bs)) i.terms
    ∙ (ap length (members_are h ms bs e) ∙ length-map ms (seen_member h))

pub entered : (h : Objects) (w v : Content) (ts : List Term) (cs : List Candidate) (ms : List Member) (known : List (SymId × Signature)) (fs : List FunctionTerms) (ds : List Definition) (p : Prepared)
    → IsPrepared h (seen_world h w) ts cs p → known ≡ p.known → fs ≡ p.terms → AreDefined h (seen_known known) cs ms fs ds → All (FitsMember h) ms → v ≡ with_definitions w ds → Entered h w v ts cs
entered h w v ts cs ms known fs ds p i known_is terms_are d fit is =
    let by : seen_known known ≡ signatures (seen_world h w) cs = ap seen_known known_is ∙ i.known in
    record {
      grants = granted (seen_world h w) cs i.accepted;
      definitions = ds;
      is = is;
      seen = d.seen ∙ ap (λ ks. map (defined ks) cs) by;
      lie = defined_lie h (seen_known known) cs ms fs ds d fit;
      terms = fs;
      have = d.terms;
      stand = subst (λ xs. AreFunctions h ts xs (all_function_trees (signed_world (seen_world h w) cs) (members cs))) (sym terms_are) i.terms;
    }
