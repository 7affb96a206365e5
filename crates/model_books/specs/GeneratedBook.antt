-- The book that `--generate N` runs.
use Rattle.std.specs.Prelude.{ℕ, zero, suc, ◌+◌, ◌*◌, ◌/◌, min, List, [], ◌∷◌, ◌++◌, codes}
use Rattle.std.specs.Fmt.{decimal}

abbrev pub stobj_line : List ℕ
stobj_line = codes "(defstobj st (a :type (array (unsigned-byte 8) (1000000)) :initially 0) (s :type (integer 0 4000000000) :initially 0))"

abbrev pub function_line : List ℕ
function_line =
    codes "(defun put-range (lo hi st) (declare (xargs :stobjs st :guard (and (natp lo) (natp hi) (< lo hi) (<= hi 1000000)))) (if (= (- hi lo) 1) (let ((st (update-ai lo (mod lo 256) st))) (update-s (+ (s st) (ai lo st)) st)) (let ((st (put-range lo (floor (+ lo hi) 2) st))) (put-range (floor (+ lo hi) 2) hi st))))"

abbrev pub most_at_once : ℕ
most_at_once = 1000

-- the line for the range that begins at this number
abbrev pub range_line : ℕ → ℕ → List ℕ
range_line n low = codes "(put-range " ++ (decimal low ++ (codes " " ++ (decimal (min (low + most_at_once) n) ++ codes " st)")))

-- so many ranges, the first of which has this number
abbrev pub range_lines : ℕ → ℕ → ℕ → List (List ℕ)
range_lines n zero i = []
range_lines n (suc count) i = range_line n (i * most_at_once) ∷ range_lines n count (i + 1)

abbrev pub ended_lines : List (List ℕ) → List ℕ
ended_lines [] = []
ended_lines (l ∷ ls) = l ++ 10 ∷ ended_lines ls

-- the bytes of the book of n elements
unfoldable pub generated_book : ℕ → List ℕ
generated_book n = ended_lines (stobj_line ∷ function_line ∷ (range_lines n ((n + 999) / 1000) 0 ++ codes "(s st)" ∷ []))
