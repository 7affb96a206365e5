-- What values and loans stand for in a heap, and the words in them.
use Rattle.std.specs.Prelude.{ℕ, List, [], ◌∷◌, map, Option, Some, None, option_map}
use Rattle.std.specs.List.{filter_map}
use Rattle.acl_base.specs.declared.Word.{Word}
use Rattle.acl_heap.specs.Objects.{Objects, object_of}
use Rattle.model_eval.specs.Outcomes as outcomes
use Rattle.model_eval.specs.Keeping as keeping
use Rattle.acl_terms.specs.declared.outcome.Shown.{Shown}
use Rattle.acl_terms.specs.declared.outcome.Shown.TheVariants as shown
use Rattle.acl_keep.specs.declared.effect.Effect.{Effect}
use Rattle.acl_keep.specs.declared.effect.Effect.TheVariants as effect
use Rattle.acl_keep.specs.declared.effect.Loan.{Loan}

abbrev pub seen_shown : Objects → Shown → outcomes.Shown ℕ
seen_shown h (shown.Value w) = outcomes.Plain (object_of h w)
seen_shown h (shown.Object x) = outcomes.StobjNamed x.0

abbrev pub all_seen : Objects → List Shown → List (outcomes.Shown ℕ)
all_seen h values = map (seen_shown h) values

abbrev pub seen_loan : Objects → Loan → keeping.Loan ℕ
seen_loan h l = record { child = l.child.0; parent = l.parent.0; field = l.field; index = option_map (object_of h) l.index }

abbrev pub seen_loans : Objects → List Loan → List (keeping.Loan ℕ)
seen_loans h loans = map (seen_loan h) loans

-- ---- words

abbrev pub word_in : Shown → Option Word
word_in (shown.Value w) = Some w
word_in (shown.Object x) = None

abbrev pub words_in : List Shown → List Word
words_in values = filter_map word_in values

-- those of an answer
abbrev pub answer_words : Effect → List Word
answer_words effect.Refuses = []
answer_words (effect.Gives value) = words_in (value ∷ [])
answer_words (effect.GivesBoth value bound) = words_in (value ∷ bound ∷ [])

-- that of an index
abbrev pub index_words : Option Word → List Word
index_words None = []
index_words (Some w) = w ∷ []

abbrev pub loan_words : List Loan → List Word
loan_words loans = filter_map (λ (l : Loan). l.index) loans
