-- Scopes: which names stand where, and of what kind (ACL2's manual, topic STOBJ).
use Rattle.std.specs.Prelude.{ℕ, List, [], ◌∷◌, ◌++◌, map, Bool, not, Option, Some, None, nat_eq, is_some, unwrap_or, option_to_list, if◌then◌else◌}
use Rattle.std.specs.Option.{option_or}
use Rattle.std.specs.List.{filter}
use Rattle.model_terms.specs.Worlds.{World, Out, Ordinary, Stobj, Entry, Scope}
use Rattle.model_terms.specs.Classes.{is_stobj_name, has}

-- the kind of a name that stands in scope
abbrev pub kind_in : Scope → ℕ → Option Out
kind_in [] x = None
kind_in (e ∷ es) x = option_or (kind_in es x) (if nat_eq x e.name then Some e.kind else None)

abbrev pub in_scope : Scope → ℕ → Bool
in_scope scope x = is_some (kind_in scope x)

-- the kind of a name, which is ordinary out of scope
abbrev pub kind_of : Scope → ℕ → Out
kind_of scope x = unwrap_or (kind_in scope x) Ordinary

-- the kind of a name that is bound
abbrev pub name_kind : World → ℕ → Out
name_kind w x = if is_stobj_name w x then Stobj x else Ordinary

abbrev pub name_kinds : World → List ℕ → List Out
name_kinds w names = map (name_kind w) names

abbrev pub entry : World → ℕ → Entry
entry w x = record { name = x; kind = name_kind w x }

-- a scope once these names are bound
abbrev pub binding : World → Scope → List ℕ → Scope
binding w scope names = scope ++ map (entry w) names

abbrev pub without : List ℕ → Scope → Scope
without names scope = filter (λ (e : Entry). not (has names e.name)) scope

abbrev pub ordinary_names : World → List ℕ → List ℕ
ordinary_names w names = filter (λ x. not (is_stobj_name w x)) names

-- ---- of a `STOBJ-LET`

-- the outer names without the parent, and the children
abbrev pub producer_scope : World → Scope → Option ℕ → List ℕ → Scope
producer_scope w scope parent children = binding w (without (option_to_list parent) scope) children

-- the outer names without those of the children, and the ordinary variables
abbrev pub consumer_scope : World → Scope → List ℕ → List ℕ → Scope
consumer_scope w scope children vars = binding w (without children scope) (ordinary_names w vars)

-- ---- of a `WITH-LOCAL-STOBJ`

abbrev pub local_scope : World → Scope → ℕ → Scope
local_scope w scope stobj = binding w scope (stobj ∷ [])

abbrev pub other_names : ℕ → List ℕ → List ℕ
other_names stobj names = filter (λ x. not (nat_eq x stobj)) names

-- the outer names without that of the stobj, and the other names
abbrev pub body_scope : World → Scope → ℕ → List ℕ → Scope
body_scope w scope stobj names = binding w (without (stobj ∷ []) scope) (other_names stobj names)
