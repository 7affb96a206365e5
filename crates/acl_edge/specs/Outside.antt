-- What a call of a source or a sink did. What is told is `Some`; what is not told is `None`, and stays so.
use Rattle.std.specs.Prelude.{◌≡◌, ◌≢◌, ℕ, ◌<◌, List, [], ◌++◌, length, drop, Option, Some, None}

-- these bytes came first
abbrev pub Gives : Option (List ℕ) → Option (List ℕ) → List ℕ → Type 0
Gives None new bytes = new ≡ None
Gives (Some left) new bytes = (new ≡ Some (drop (length bytes) left)) × (left ≡ bytes ++ drop (length bytes) left)

-- nothing is left, as far as is told
abbrev pub IsSpent : Option (List ℕ) → Type 0
IsSpent None = Unit {0}
IsSpent (Some left) = left ≡ []

-- these bytes were appended
abbrev pub Takes : Option (List ℕ) → Option (List ℕ) → List ℕ → Type 0
Takes None new bytes = new ≡ None
Takes (Some written) new bytes = new ≡ Some (written ++ bytes)

-- a first part of these bytes was appended
pub record TakesPart (old new : Option (List ℕ)) (bytes : List ℕ) : Type 0 where
  pub part : List ℕ
  pub rest : List ℕ
  pub split : bytes ≡ part ++ rest
  pub takes : Takes old new part

-- the last value of a count
abbrev pub last_count : ℕ
last_count = 18446744073709551615

-- the count rose; one that stands at its last value is taken as risen
abbrev pub HasRisen : ℕ → ℕ → Type 0
HasRisen old new = new ≢ last_count → old < new
