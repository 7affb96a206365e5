-- Parts of a node that have names.
use Rattle.std.specs.Prelude.{List, [], ◌∷◌}

-- each of the first parts with a name, and the parts that are left
abbrev pub divided : {A B : Type 0} → List A → List B → List (A × B) × List B
divided [] fs = ([], fs)
divided (n ∷ ns) [] = ([], [])
divided (n ∷ ns) (f ∷ fs) = let r = divided ns fs in ((n, f) ∷ r.0, r.1)
