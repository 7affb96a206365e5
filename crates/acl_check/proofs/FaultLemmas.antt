-- The first faults of forms, of functions and of cliques.
use Rattle.std.specs.Prelude.{◌≡◌, ℕ, ◌+◌, ◌<◌, ◌≤◌, List, [], ◌∷◌, ◌++◌, length, drop, map, Bool, true, false, Option, Some, None, option_map, option_and_then, ⊤, refl, if◌then◌else◌}
use Rattle.std.specs.Option.{option_or, option_map_or}
use Rattle.std.proofs.Common.{sym, ap, ◌∙◌, get_or}
use Rattle.std.proofs.Math.ListN.{drop_of_length-le}
use Rattle.acl_heap.specs.Objects.{Objects}
use Rattle.model_terms.specs.declared.rule.Rule.TheVariants.{S10}
use Rattle.model_terms.specs.declared.rule.Mode.{Mode}
use Rattle.model_terms.specs.Cores.{Core}
use Rattle.model_terms.specs.Worlds as worlds
use Rattle.model_terms.specs.Worlds.{World, Out, Scope, definition}
use Rattle.model_terms.specs.Accessors.{runs}
use Rattle.model_terms.specs.Outputs.{signature_in, outputs}
use Rattle.model_terms.specs.Rounds as rounds
use Rattle.model_terms.specs.Sites.{one_ordinary}
use Rattle.model_terms.specs.Faults as faults
use Rattle.model_terms.specs.Faults.{first_at, first_fault, head_fault, function_fault, logic_fault, member_fault, clique_fault, outs_of, s10_fails, at}
use Rattle.model_terms_laws.specs.Parts.{fault_down}
use Rattle.acl_terms.specs.declared.fault.ThreadFault.{ThreadFault}
use Rattle.acl_terms.specs.declared.fault.ThreadFault.TheVariants as fault
use Rattle.acl_outputs.proofs.ListLemmas.{left_at}
use Rattle.acl_thread.specs.Walks.{Names, IsWalked}
use Rattle.acl_check.specs.declared.member.Member.{Member}
use Rattle.acl_check.specs.Members.{seen_member, seen_members, own_outs}
use Rattle.acl_check.specs.Says.{Says}

first_is : (w : World) (mode : Mode) (scope : Scope) (f : Core) (expected : List Out) → first_at w mode scope f None expected ≡ first_fault w mode scope f expected
unfolding first_at first_fault
first_is w mode scope f expected = refl

pub form_is : (w : World) (mode : Mode) (scope : Scope) (f : Core) (expected : List Out) (os : Option (List Out)) (found : Option faults.Fault)
    → IsWalked w mode scope f None expected os found → found ≡ first_fault w mode scope f expected
form_is w mode scope f expected os found i = i.finds ∙ first_is w mode scope f expected

pub at_two : (a b : ℕ) (found : Option faults.Fault) → fault_down a (fault_down b found) ≡ at (a ∷ b ∷ []) found
at_two a b None = refl
at_two a b (Some f) = refl

-- ---- heads

pub head_there : (w : World) (n : ℕ) (m : rounds.Member) → s10_fails w m.formals m.stobjs ≡ true → head_fault w n m ≡ Some (record { rule = S10; place = n ∷ [] })
head_there w n m e = ap (λ (b : Bool). if b then Some (record { rule = S10; place = n ∷ [] }) else None) e

pub head_none : (w : World) (n : ℕ) (m : rounds.Member) → s10_fails w m.formals m.stobjs ≡ false → head_fault w n m ≡ None
head_none w n m e = ap (λ (b : Bool). if b then Some (record { rule = S10; place = n ∷ [] }) else None) e

-- ---- outputs of signatures

pub outs_there : (w : World) (f : ℕ) (d : worlds.Definition) → Some d ≡ definition w f → own_outs d ≡ outs_of w f
outs_there w f d e = ap (λ (o : Option worlds.Definition). option_map_or (λ (s : worlds.Signature). s.outs) (option_and_then signature_in o) one_ordinary) e

pub outs_nowhere : (w : World) (f : ℕ) → None ≡ definition w f → one_ordinary ≡ outs_of w f
outs_nowhere w f e = ap (λ (o : Option worlds.Definition). option_map_or (λ (s : worlds.Signature). s.outs) (option_and_then signature_in o) one_ordinary) e

-- ---- functions

pub member_runs : (w : World) (n : ℕ) (m : rounds.Member) → runs w m.name ≡ true → member_fault w n m ≡ function_fault w n m (outs_of w m.name)
member_runs w n m e = ap (λ (b : Bool). if b then function_fault w n m (outs_of w m.name) else logic_fault w n m) e

pub member_not : (w : World) (n : ℕ) (m : rounds.Member) → runs w m.name ≡ false → member_fault w n m ≡ logic_fault w n m
member_not w n m e = ap (λ (b : Bool). if b then function_fault w n m (outs_of w m.name) else logic_fault w n m) e

or_again : (a b c : Option faults.Fault) → option_or a (option_or b c) ≡ option_or (option_or a b) c
or_again None b c = refl
or_again (Some f) b c = refl

or_nothing : (a : Option faults.Fault) → option_or a None ≡ a
or_nothing None = refl
or_nothing (Some f) = refl

module _ (w : World) (h : Objects) where
  pub clique_step : (found : Option faults.Fault) (ms : List Member) (n : ℕ) (m : Member) → n < length ms
      → option_or found (clique_fault w n (seen_members h (drop n ms))) ≡ option_or (option_or found (member_fault w n (seen_member h (get_or ms n m)))) (clique_fault w (n + 1) (seen_members h (drop (n + 1) ms)))
  clique_step found ms n m l =
      ap (λ (xs : List Member). option_or found (clique_fault w n (seen_members h xs))) (left_at ms n m l)
      ∙ or_again found (member_fault w n (seen_member h (get_or ms n m))) (clique_fault w (n + 1) (seen_members h (drop (n + 1) ms)))

  pub clique_end : (found : Option faults.Fault) (ms : List Member) (n : ℕ) → length ms ≤ n → option_or found (clique_fault w n (seen_members h (drop n ms))) ≡ found
  clique_end found ms n l = ap (λ (xs : List Member). option_or found (clique_fault w n (seen_members h xs))) (drop_of_length-le ms l) ∙ or_nothing found

  pub clique_next : (all found newer next : Option faults.Fault) (ms : List Member) (n : ℕ) (m : Member) → all ≡ option_or found (clique_fault w n (seen_members h (drop n ms)))
      → n < length ms → m ≡ get_or ms n m → next ≡ member_fault w n (seen_member h m) → newer ≡ option_or found next
      → all ≡ option_or newer (clique_fault w (n + 1) (seen_members h (drop (n + 1) ms)))
  clique_next all found newer next ms n m s l at b r =
      let rest = clique_fault w (n + 1) (seen_members h (drop (n + 1) ms)) in
      s ∙ (clique_step found ms n m l
      ∙ (ap (λ (x : Member). option_or (option_or found (member_fault w n (seen_member h x))) rest) (sym at)
      ∙ (ap (λ (f : Option faults.Fault). option_or (option_or found f) rest) (sym b) ∙ ap (λ (f : Option faults.Fault). option_or f rest) (sym r))))

-- ---- answers

pub says_named : (f : faults.Fault) (e : ThreadFault) → Names f e → Says (Some f) e
says_named f (fault.Rule rule place) n = ap Some n
says_named f fault.Memory n = absurd n
