-- The rounds in which the signatures of a clique are found.
use Rattle.std.specs.Prelude.{◌≡◌, ℕ, zero, suc, ◌+◌, ◌-◌, ◌<◌, ◌≤◌, List, [], ◌∷◌, ◌++◌, length, drop, map, Bool, true, false, nat_eq, is_some, unwrap_or, Option, Some, None, option_map, option_to_list, refl, if◌then◌else◌}
use Rattle.std.specs.List.{filter_map, cons_option}
use Rattle.std.specs.Map.{lookup}
use Rattle.std.proofs.Common.{sym, ap, ◌∙◌, get_or, append_assoc, arith}
use Rattle.std.proofs.Math.ListN.{drop_of_length-le}
use Rattle.std.proofs.lemmas.List.{append-nil, map-append}
use Rattle.acl_base.specs.declared.SymId.{SymId}
use Rattle.acl_heap.specs.Objects.{Objects}
use Rattle.model_terms.specs.Worlds as worlds
use Rattle.model_terms.specs.Worlds.{World, Out, Ordinary}
use Rattle.model_terms.specs.Outputs.{Known, outputs}
use Rattle.model_terms.specs.Rounds as models
use Rattle.model_terms.specs.Rounds.{formal_scope, signed, learned, round, rounds, known_at_last, clique}
use Rattle.acl_terms.specs.Depths.{depth_of}
use Rattle.acl_terms.specs.Forms.{seen_core}
use Rattle.acl_terms.specs.declared.signature.Signature.{Signature}
use Rattle.acl_terms.specs.Signatures.{seen_signature}
use Rattle.acl_outputs.specs.Known.{seen_known}
use Rattle.acl_outputs.proofs.ListLemmas.{left_at}
use Rattle.acl_check.specs.declared.member.Member.{Member}
use Rattle.acl_check.specs.Members.{seen_member, seen_members, seen_pair, body_learned, member_signature, FitsMember}

pub body_deep : (h : Objects) (m : Member) → FitsMember h m → depth_of (seen_core h m.body) ≤ 2048
body_deep h m f = f.body.deep

module _ (w : World) (known : Known) where
  pub told_none : (m : models.Member) → None ≡ outputs w known (formal_scope w m) m.body → body_learned w known m ≡ None
  told_none m e = ap (option_map (λ outs. (m.name, signed w m outs))) (sym e)

  pub told_some : (m : models.Member) (outs : List Out) → Some outs ≡ outputs w known (formal_scope w m) m.body → body_learned w known m ≡ Some (m.name, signed w m outs)
  told_some m outs e = ap (option_map (λ outs. (m.name, signed w m outs))) (sym e)

  pub learned_before : (m : models.Member) (s : worlds.Signature) → Some s ≡ lookup (nat_eq m.name) known → learned w known m ≡ None
  learned_before m s e = ap (λ (o : Option worlds.Signature). if is_some o then None else body_learned w known m) (sym e)

  pub learned_now : (m : models.Member) → None ≡ lookup (nat_eq m.name) known → learned w known m ≡ body_learned w known m
  learned_now m e = ap (λ (o : Option worlds.Signature). if is_some o then None else body_learned w known m) (sym e)

  pub signature_there : (m : models.Member) (s : worlds.Signature) → Some s ≡ lookup (nat_eq m.name) known → s ≡ member_signature w known m
  signature_there m s e = ap (λ (o : Option worlds.Signature). unwrap_or o (signed w m (Ordinary ∷ []))) e

  pub signature_none : (m : models.Member) → None ≡ lookup (nat_eq m.name) known → signed w m (Ordinary ∷ []) ≡ member_signature w known m
  signature_none m e = ap (λ (o : Option worlds.Signature). unwrap_or o (signed w m (Ordinary ∷ []))) e

-- ---- lists of what is known

pub known_push : (ks : List (SymId × Signature)) (p : SymId × Signature) → seen_known (ks ++ p ∷ []) ≡ seen_known ks ++ seen_pair p ∷ []
known_push ks p = map-append seen_pair ks (p ∷ [])

pub known_same : (ks : Known) → ks ≡ ks ++ []
known_same ks = sym (append-nil ks)

pub known_more : (ks more : List (SymId × Signature)) → seen_known (ks ++ more) ≡ seen_known ks ++ seen_known more
known_more ks more = map-append seen_pair ks more

pub signatures_push : (ss : List Signature) (s : Signature) → map seen_signature (ss ++ s ∷ []) ≡ map seen_signature ss ++ seen_signature s ∷ []
signatures_push ss s = map-append seen_signature ss (s ∷ [])

put_option : {X : Type 0} (v : Option X) (rest : List X) → cons_option v rest ≡ option_to_list v ++ rest
put_option None rest = refl
put_option (Some x) rest = refl

-- ---- a round

module _ (w : World) (h : Objects) where
  pub round_step : (known done : Known) (ms : List Member) (i : ℕ) (m : Member) → i < length ms
      → done ++ filter_map (learned w known) (seen_members h (drop i ms))
      ≡ (done ++ option_to_list (learned w known (seen_member h (get_or ms i m)))) ++ filter_map (learned w known) (seen_members h (drop (i + 1) ms))
  round_step known done ms i m l =
      ap (λ (xs : List Member). done ++ filter_map (learned w known) (seen_members h xs)) (left_at ms i m l)
      ∙ (ap (λ (ks : Known). done ++ ks) (put_option (learned w known (seen_member h (get_or ms i m))) (filter_map (learned w known) (seen_members h (drop (i + 1) ms))))
      ∙ sym (append_assoc done (option_to_list (learned w known (seen_member h (get_or ms i m)))) (filter_map (learned w known) (seen_members h (drop (i + 1) ms)))))

  pub round_end : (known done : Known) (ms : List Member) (i : ℕ) → length ms ≤ i → done ++ filter_map (learned w known) (seen_members h (drop i ms)) ≡ done
  round_end known done ms i l = ap (λ (xs : List Member). done ++ filter_map (learned w known) (seen_members h xs)) (drop_of_length-le ms l) ∙ append-nil done

  pub round_next : (known all done next : Known) (one : Option (ℕ × worlds.Signature)) (ms : List Member) (i : ℕ) (m : Member) → all ≡ done ++ filter_map (learned w known) (seen_members h (drop i ms))
      → i < length ms → m ≡ get_or ms i m → one ≡ learned w known (seen_member h m) → next ≡ done ++ option_to_list one
      → all ≡ next ++ filter_map (learned w known) (seen_members h (drop (i + 1) ms))
  round_next known all done next one ms i m s l at e n =
      let rest = filter_map (learned w known) (seen_members h (drop (i + 1) ms)) in
      s ∙ (round_step known done ms i m l
      ∙ (ap (λ (x : Member). (done ++ option_to_list (learned w known (seen_member h x))) ++ rest) (sym at)
      ∙ (ap (λ (o : Option (ℕ × worlds.Signature)). (done ++ option_to_list o) ++ rest) (sym e) ∙ ap (λ (ks : Known). ks ++ rest) (sym n))))

  -- ---- the signatures

  pub clique_step : (known : Known) (done : List worlds.Signature) (ms : List Member) (i : ℕ) (m : Member) → i < length ms
      → done ++ map (member_signature w known) (seen_members h (drop i ms))
      ≡ (done ++ member_signature w known (seen_member h (get_or ms i m)) ∷ []) ++ map (member_signature w known) (seen_members h (drop (i + 1) ms))
  clique_step known done ms i m l =
      ap (λ (xs : List Member). done ++ map (member_signature w known) (seen_members h xs)) (left_at ms i m l)
      ∙ sym (append_assoc done (member_signature w known (seen_member h (get_or ms i m)) ∷ []) (map (member_signature w known) (seen_members h (drop (i + 1) ms))))

  pub clique_end : (known : Known) (done : List worlds.Signature) (ms : List Member) (i : ℕ) → length ms ≤ i → done ++ map (member_signature w known) (seen_members h (drop i ms)) ≡ done
  clique_end known done ms i l = ap (λ (xs : List Member). done ++ map (member_signature w known) (seen_members h xs)) (drop_of_length-le ms l) ∙ append-nil done

-- ---- rounds

pub rounds_step : (w : World) (ms : List models.Member) (n i : ℕ) (known : Known) → i < n → rounds w ms (n - i) known ≡ rounds w ms (n - (i + 1)) (known ++ filter_map (learned w known) ms)
rounds_step w ms n i known l = let e : n - i ≡ suc (n - (i + 1)) = omega (arith, l) in ap (λ (k : ℕ). rounds w ms k known) e

pub rounds_end : (w : World) (ms : List models.Member) (n i : ℕ) (known : Known) → n ≤ i → rounds w ms (n - i) known ≡ known
rounds_end w ms n i known l = let e : n - i ≡ 0 = omega (arith, l) in ap (λ (k : ℕ). rounds w ms k known) e

pub rounds_next : (w : World) (ms : List models.Member) (n i : ℕ) (all known more next : Known) → all ≡ rounds w ms (n - i) known → i < n → more ≡ filter_map (learned w known) ms → next ≡ known ++ more
    → all ≡ rounds w ms (n - (i + 1)) next
rounds_next w ms n i all known more next s l m e =
    s ∙ (rounds_step w ms n i known l ∙ (ap (λ (ks : Known). rounds w ms (n - (i + 1)) (known ++ ks)) (sym m) ∙ ap (λ (ks : Known). rounds w ms (n - (i + 1)) ks) (sym e)))

pub rounds_start : (w : World) (ms : List models.Member) (n : ℕ) → rounds w ms n [] ≡ rounds w ms (n - 0) []
rounds_start w ms n = let e : n ≡ n - 0 = omega arith in ap (λ (k : ℕ). rounds w ms k []) e

pub length_seen : (h : Objects) (ms : List Member) → length (seen_members h ms) ≡ length ms
length_seen h [] = refl
length_seen h (m ∷ ms) = let e = length_seen h ms in omega (arith, e)
