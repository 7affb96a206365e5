-- Two names that differ.
use Rattle.std.specs.Prelude.{◌≡◌, List, [], ◌∷◌, ◌++◌, nat_eq, refl}
use Rattle.std.specs.List.{IsDistinct, AllByRecursion}
use Rattle.std.proofs.Common.{arith}
use Rattle.acl_terms.specs.declared.definition.Definition.{Definition}
use Rattle.acl_terms.specs.Definitions.{name_in}
use Rattle.acl_worlds.specs.Contents.{names_in}

pub two_distinct : (ds es : List Definition) (a b : Definition) → ds ≡ [] → es ≡ a ∷ b ∷ [] → name_in a ≡ 200 → name_in b ≡ 201 → IsDistinct nat_eq (names_in (ds ++ es))
unfolding IsDistinct
two_distinct ds es a b d e na nb = rw (d, e, na, nb) ((refl, tt), (tt, tt))
