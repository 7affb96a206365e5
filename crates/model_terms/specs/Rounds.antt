-- The signatures of the functions of a clique, which are found in rounds (ACL2's manual, topic MUTUAL-RECURSION).
use Rattle.std.specs.Prelude.{ℕ, zero, suc, List, [], ◌∷◌, ◌++◌, map, length, Option, None, nat_eq, is_some, unwrap_or, option_map, if◌then◌else◌}
use Rattle.std.specs.List.{filter_map}
use Rattle.std.specs.Map.{lookup}
use Rattle.model_terms.specs.Cores.{Core}
use Rattle.model_terms.specs.Worlds.{World, Out, Ordinary, Signature, Entry, Scope}
use Rattle.model_terms.specs.Classes.{has}
use Rattle.model_terms.specs.Scopes.{name_kind}
use Rattle.model_terms.specs.Outputs.{Known, outputs}

-- a function that is being admitted, and the names declared as stobjs
pub record Member : Type 0 where
  pub name : ℕ
  pub formals : List ℕ
  pub stobjs : List ℕ
  pub guard : Core
  pub body : Core

-- a formal is a stobj where it is declared as one and names one
abbrev pub formal_kind : World → List ℕ → ℕ → Out
formal_kind w stobjs x = if has stobjs x then name_kind w x else Ordinary

abbrev pub formal_kinds : World → Member → List Out
formal_kinds w m = map (formal_kind w m.stobjs) m.formals

abbrev pub formal_entry : World → List ℕ → ℕ → Entry
formal_entry w stobjs x = record { name = x; kind = formal_kind w stobjs x }

abbrev pub formal_scope : World → Member → Scope
formal_scope w m = map (formal_entry w m.stobjs) m.formals

abbrev pub signed : World → Member → List Out → Signature
signed w m outs = record { ins = formal_kinds w m; outs = outs }

-- the signature of a function that was unknown and whose body now has known outputs
abbrev pub learned : World → Known → Member → Option (ℕ × Signature)
learned w known m =
    if is_some (lookup (nat_eq m.name) known) then None
    else option_map (λ outs. (m.name, signed w m outs)) (outputs w known (formal_scope w m) m.body)

-- a round goes by what was known when it began
abbrev pub round : World → List Member → Known → Known
round w ms known = known ++ filter_map (learned w known) ms

abbrev pub rounds : World → List Member → ℕ → Known → Known
rounds w ms zero known = known
rounds w ms (suc n) known = rounds w ms n (round w ms known)

-- each round that changes anything makes one more known, so as many rounds as functions are enough
abbrev pub known_at_last : World → List Member → Known
known_at_last w ms = rounds w ms (length ms) []

-- what is still unknown then has one ordinary output
abbrev pub clique : World → List Member → List Signature
clique w ms = map (λ (m : Member). unwrap_or (lookup (nat_eq m.name) (known_at_last w ms)) (signed w m (Ordinary ∷ []))) ms
