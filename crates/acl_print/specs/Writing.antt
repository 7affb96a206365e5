-- What a sink took of a text.
use Rattle.std.specs.Prelude.{◌≡◌, ℕ, List, ◌++◌, Option}
use Rattle.acl_edge.specs.Outside.{Takes}

-- a first part of the text was appended, and this is what follows it
pub record Follows (old new : Option (List ℕ)) (text rest : List ℕ) : Type 0 where
  pub part : List ℕ
  pub split : part ++ rest ≡ text
  pub takes : Takes old new part
