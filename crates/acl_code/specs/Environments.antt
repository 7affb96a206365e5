-- The environment that a list of bindings stands for.
use Rattle.std.specs.Prelude.{ℕ, List, [], ◌∷◌, ◌++◌, map}
use Rattle.model_slots.specs.Environments.{Environment}
use Rattle.acl_code.specs.declared.environment.Binding.{Binding}

-- the last binding is the innermost
abbrev pub seen_environment : List Binding → Environment
seen_environment [] = []
seen_environment (b ∷ bs) = seen_environment bs ++ (b.name.0, b.slot) ∷ []

abbrev pub binding_names : List Binding → List ℕ
binding_names bs = map (λ (b : Binding). b.name.0) bs
