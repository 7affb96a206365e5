-- What is said of definitions that enter a world together, as laws.
use Rattle.std.specs.Prelude.{◌≡◌, List, ◌++◌, None, nat_eq}
use Rattle.std.specs.List.{IsDistinct}
use Rattle.acl_heap.specs.Objects.{Objects}
use Rattle.model_stobjs.specs.Heads.{name_in_use}
use Rattle.acl_terms.specs.declared.definition.Definition.{Definition}
use Rattle.acl_terms.specs.Definitions.{seen_definitions}
use Rattle.acl_worlds.specs.Contents.{Content, IsWorld, seen_world, names_in}
use Rattle.acl_definitions.specs.Added.{with_definitions}

pub record AreAdded : Type 0 where
  -- in every heap a world that took definitions is the world with them
  pub seen : (h : Objects) (w : Content) (ds : List Definition) → seen_world h (with_definitions w ds) ≡ seen_world h w ++ seen_definitions h ds
  -- where no name of theirs is in use, and none comes again, all names are different
  pub fresh : (h : Objects) (w : Content) (ds : List Definition) → IsWorld w → name_in_use (seen_world h w) (names_in ds) ≡ None → IsDistinct nat_eq (names_in (w.definitions ++ ds))
