-- What functions stand in the world in which they are expanded and in the one in which they are checked.
use Rattle.std.specs.Prelude.{◌≡◌, ℕ, List, [], ◌∷◌, ◌++◌, map, Bool, true, false, ◌&&◌, Option, Some, nat_eq, is_some, cond, refl}
use Rattle.std.specs.List.{All, find}
use Rattle.std.proofs.Common.{sym, ap, ◌∙◌, get_or}
use Rattle.acl_heap.specs.Objects.{Objects}
use Rattle.model_terms.specs.Cores as cores
use Rattle.model_terms.specs.Cores.{Core, Cores}
use Rattle.model_terms.specs.Outputs.{Known}
use Rattle.model_terms.specs.Worlds.{World, Definition, definition_name}
use Rattle.model_slots_laws.specs.Standing.{stands, functions_stand, all_functions_stand}
use Rattle.model_events.specs.Functions.{Candidate, signed}
use Rattle.acl_terms.specs.Forms.{seen_core}
use Rattle.acl_check.specs.declared.member.Member.{Member}
use Rattle.acl_translate.specs.Functions.{FunctionsStand}
use Rattle.acl_cliques.specs.Worlds.{named, named_world}

both_alike : (a b c d : Bool) → a ≡ b → c ≡ d → (a && c) ≡ (b && d)
both_alike a b c d e f = ap (λ (x : Bool). x && c) e ∙ ap (λ (x : Bool). b && x) f

mutual
  unfolding functions_stand

  alike : (w v : World) → ((f : ℕ) → stands w f ≡ stands v f) → (f : Core) → functions_stand w f ≡ functions_stand v f
  alike w v s (cores.Var x) = refl
  alike w v s (cores.Const o) = refl
  alike w v s (cores.If a b c) = both_alike _ _ _ _ (alike w v s a) (both_alike _ _ _ _ (alike w v s b) (alike w v s c))
  alike w v s (cores.Let xs bound body) = both_alike _ _ _ _ (all_alike w v s bound) (alike w v s body)
  alike w v s (cores.Mv parts) = all_alike w v s parts
  alike w v s (cores.MvLet xs bound body) = both_alike _ _ _ _ (alike w v s bound) (alike w v s body)
  alike w v s (cores.StobjLet xs bound vars producer consumer) = both_alike _ _ _ _ (alike w v s producer) (alike w v s consumer)
  alike w v s (cores.WithLocal stobj xs producer body) = both_alike _ _ _ _ (alike w v s producer) (alike w v s body)
  alike w v s (cores.MustBeEqual logic exec) = alike w v s logic
  alike w v s (cores.Call f actuals) = both_alike _ _ _ _ (s f) (all_alike w v s actuals)

  all_alike : (w v : World) → ((f : ℕ) → stands w f ≡ stands v f) → (fs : Cores) → all_functions_stand w fs ≡ all_functions_stand v fs
  all_alike w v s cores.none = refl
  all_alike w v s (cores.more f fs) = both_alike _ _ _ _ (alike w v s f) (all_alike w v s fs)

either_found : (b : Bool) (d e : Definition) (o q : Option Definition) → is_some o ≡ is_some q → is_some (cond b (Some d) o) ≡ is_some (cond b (Some e) q)
either_found true d e o q s = refl
either_found false d e o q s = s

module _ (known : Known) (x : ℕ) where
  found_there : (cs : List Candidate) → is_some (find (λ d. nat_eq x (definition_name d)) (map named cs)) ≡ is_some (find (λ d. nat_eq x (definition_name d)) (map (signed known) cs))
  found_there [] = refl
  found_there (c ∷ cs) = either_found (nat_eq x c.member.name) (named c) (signed known c) _ _ (found_there cs)

  found_behind : (w : World) (cs : List Candidate) → is_some (find (λ d. nat_eq x (definition_name d)) (w ++ map named cs)) ≡ is_some (find (λ d. nat_eq x (definition_name d)) (w ++ map (signed known) cs))
  found_behind [] cs = found_there cs
  found_behind (d ∷ w) cs = either_found (nat_eq x (definition_name d)) d d _ _ (found_behind w cs)

pub stand_signed : (h : Objects) (known : Known) (w v : World) (cs : List Candidate) (ms : List Member) → v ≡ w ++ map (signed known) cs → All (FunctionsStand h (named_world w cs)) ms
    → All (FunctionsStand h v) ms
stand_signed h known w v cs ms e all =
    let same : (f : ℕ) → stands v f ≡ stands (named_world w cs) f = λ f. ap (λ (u : World). stands u f) e ∙ sym (found_behind known f w cs) in
    λ k d l. let s = all k d l in record {
      guard = alike v (named_world w cs) same (seen_core h (get_or ms k d).guard) ∙ s.guard;
      body = alike v (named_world w cs) same (seen_core h (get_or ms k d).body) ∙ s.body;
    }
