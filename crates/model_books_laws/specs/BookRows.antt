-- The generated book, written out.
use Rattle.std.specs.Prelude.{◌≡◌, ℕ, List, [], ◌∷◌, ◌++◌, codes}
use Rattle.model_books.specs.GeneratedBook.{generated_book}
use Rattle.model_books.specs.Output.{lines}

-- a book with these ranges
unfoldable pub theory_with : List (List ℕ) → List ℕ
theory_with ranges =
    lines (codes "(defstobj st (a :type (array (unsigned-byte 8) (1000000)) :initially 0) (s :type (integer 0 4000000000) :initially 0))"
    ∷ codes "(defun put-range (lo hi st) (declare (xargs :stobjs st :guard (and (natp lo) (natp hi) (< lo hi) (<= hi 1000000)))) (if (= (- hi lo) 1) (let ((st (update-ai lo (mod lo 256) st))) (update-s (+ (s st) (ai lo st)) st)) (let ((st (put-range lo (floor (+ lo hi) 2) st))) (put-range (floor (+ lo hi) 2) hi st))))"
    ∷ (ranges ++ codes "(s st)" ∷ []))

pub record BooksAreGenerated : Type 0 where
  pub one : generated_book 1 ≡ theory_with (codes "(put-range 0 1 st)" ∷ [])
  pub one_range : generated_book 1000 ≡ theory_with (codes "(put-range 0 1000 st)" ∷ [])
  pub one_more : generated_book 1001 ≡ theory_with (codes "(put-range 0 1000 st)" ∷ codes "(put-range 1000 1001 st)" ∷ [])
  pub three_ranges : generated_book 2500 ≡ theory_with (codes "(put-range 0 1000 st)" ∷ codes "(put-range 1000 2000 st)" ∷ codes "(put-range 2000 2500 st)" ∷ [])
