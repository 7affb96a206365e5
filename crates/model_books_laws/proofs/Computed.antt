-- The rows, computed.
use Rattle.std.specs.Prelude.{refl}
use Rattle.std.specs.Fmt.{digits}
use Rattle.model_prims.specs.Guards.{recognizer_guard, relation_guard, arithmetic_guard, listing_guard, naming_guard, guard}
use Rattle.model_prims.specs.Applied.{bounded, applied_to}
use Rattle.model_prims.specs.Values.{recognized, related, computed, listed, named_by, wanted}
use Rattle.model_prims.specs.Rows.{table}
use Rattle.model_eval.specs.Evaluated.{called, in_order, evaluated}
use Rattle.model_eval_rows.specs.Types.{type_rows}
use Rattle.model_books.specs.Opening.{opening_world}
use Rattle.model_books.specs.ProgramWords.{given}
use Rattle.model_books.specs.GeneratedBook.{generated_book}
use Rattle.model_books_laws.specs.WordRows.{WordsAreRight, word_rows, words_given, word_answers}
use Rattle.model_books_laws.specs.BookRows.{BooksAreGenerated, theory_with}
use Rattle.model_books_laws.specs.TypeTests.{TestsAreRight, all_tested, type_answers}

pub program_words : WordsAreRight word_rows
unfolding word_rows words_given word_answers given
program_words = record { all = refl }

pub generated_books : BooksAreGenerated
unfolding generated_book theory_with digits
generated_books = record { one = refl; one_range = refl; one_more = refl; three_ranges = refl }

pub type_tests : TestsAreRight type_rows
unfolding type_rows all_tested type_answers opening_world table recognizer_guard relation_guard arithmetic_guard listing_guard naming_guard guard bounded applied_to recognized related computed listed named_by wanted called in_order evaluated
type_tests = record { all = refl }
