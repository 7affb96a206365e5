-- Declarations of which nothing is asked.
use Rattle.std.specs.Prelude.{ℕ, Bool, ◌||◌}
use Rattle.model_objects.specs.Object.{Object}
use Rattle.model_expansion.specs.Words.{ignore_word, ignorable_word, optimize_word}
use Rattle.model_expansion.specs.Forms.{is}

-- the head of one
abbrev pub is_quiet : Object ℕ → Bool
is_quiet h = is ignore_word h || (is ignorable_word h || is optimize_word h)
