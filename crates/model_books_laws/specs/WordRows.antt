-- The program's words: which are of the grammar, and what they give.
use Rattle.std.specs.Prelude.{◌≡◌, ℕ, List, [], ◌∷◌, map, Bool, true, false, Option, Some, None, codes}
use Rattle.model_books.specs.ProgramWords.{Given, given}

pub record WordRow : Type 0 where
  pub words : List (List ℕ)
  pub answer : Option Given

abbrev gives : List (List ℕ) → Option ℕ → Option ℕ → Option ℕ → Bool → WordRow
gives words steps depth generate is_pure =
    record { words = words; answer = Some (record { steps = steps; depth = depth; generate = generate; is_pure = is_pure }) }

abbrev refuses : List (List ℕ) → WordRow
refuses words = record { words = words; answer = None }

unfoldable pub word_rows : List WordRow
word_rows =
    gives [] None None None false
    ∷ gives (codes "--steps" ∷ codes "5" ∷ []) (Some 5) None None false
    ∷ gives (codes "--steps=5" ∷ []) (Some 5) None None false
    ∷ gives (codes "--steps" ∷ codes "00000005" ∷ []) (Some 5) None None false
    ∷ gives (codes "--depth" ∷ codes "1" ∷ codes "--steps=1" ∷ []) (Some 1) (Some 1) None false
    ∷ gives (codes "--pure" ∷ codes "--depth=200000" ∷ codes "--steps" ∷ codes "10000000" ∷ codes "--generate=1000000" ∷ [])
    (Some 10000000) (Some 200000) (Some 1000000) true
    -- out of range
    ∷ refuses (codes "--steps" ∷ codes "0" ∷ [])
    ∷ refuses (codes "--steps" ∷ codes "10000001" ∷ [])
    ∷ refuses (codes "--depth" ∷ codes "0" ∷ [])
    ∷ refuses (codes "--depth=200001" ∷ [])
    ∷ refuses (codes "--generate" ∷ codes "0" ∷ [])
    ∷ refuses (codes "--generate=1000001" ∷ [])
    -- no digits, or too many of them
    ∷ refuses (codes "--steps" ∷ codes "000000005" ∷ [])
    ∷ refuses (codes "--steps=" ∷ [])
    ∷ refuses (codes "--steps" ∷ [] ∷ [])
    ∷ refuses (codes "--steps" ∷ codes "-5" ∷ [])
    ∷ refuses (codes "--steps" ∷ codes "+5" ∷ [])
    ∷ refuses (codes "--steps" ∷ codes "5x" ∷ [])
    ∷ refuses (codes "--steps=5=6" ∷ [])
    -- a value that is missing, or that there is none of
    ∷ refuses (codes "--steps" ∷ [])
    ∷ refuses (codes "--pure" ∷ codes "--depth" ∷ [])
    ∷ refuses (codes "--steps" ∷ codes "--pure" ∷ [])
    ∷ refuses (codes "--pure=1" ∷ [])
    ∷ refuses (codes "--pure=" ∷ [])
    -- twice
    ∷ refuses (codes "--steps" ∷ codes "5" ∷ codes "--steps=5" ∷ [])
    ∷ refuses (codes "--pure" ∷ codes "--pure" ∷ [])
    -- other words
    ∷ refuses (codes "--" ∷ [])
    ∷ refuses (codes "-steps" ∷ codes "5" ∷ [])
    ∷ refuses (codes "--step" ∷ codes "5" ∷ [])
    ∷ refuses (codes "--help" ∷ [])
    ∷ refuses (codes "5" ∷ [])
    ∷ refuses ([] ∷ [])
    ∷ []

unfoldable pub words_given : List WordRow → List (Option Given)
words_given rows = map (λ (r : WordRow). given r.words) rows

unfoldable pub word_answers : List WordRow → List (Option Given)
word_answers rows = map (λ (r : WordRow). r.answer) rows

pub record WordsAreRight (rows : List WordRow) : Type 0 where
  pub all : words_given rows ≡ word_answers rows
