-- Obligations that hold and that do not, where a session begins.
use Rattle.std.specs.Prelude.{ℕ, List, [], ◌∷◌, pos}
use Rattle.model_objects.specs.Object.{Integer}
use Rattle.model_terms.specs.Cores.{Core, Var, Const}
use Rattle.model_expansion.specs.Words.{equal_word, integerp_word, hidden_variable_word}
use Rattle.model_stobjs.specs.Obligations.{Claim, Correspondence, Preserved, suffix_of, call_of}
use Rattle.model_logic.specs.Logic.{Theory}
use Rattle.model_books.specs.Opening.{opening_session}
use Rattle.model_abstract_books.specs.Commands.{theory_of}
use Rattle.model_abstract_books.specs.Holding.{Holds}

abbrev pub book_at_first : Theory
book_at_first = theory_of opening_session.environment opening_session.symbols

abbrev pub variable : Core
variable = Var hidden_variable_word

abbrev pub constant : ℕ → Core
constant n = Const (Integer (pos n))

abbrev pub equal : Core → Core → Core
equal x y = call_of equal_word (x ∷ y ∷ [])

-- an obligation with this claim holds where a session begins
abbrev pub HoldsAtFirst : Claim → List Core → Core → Type 0
HoldsAtFirst claim supposed f =
    Holds book_at_first (record { owner = hidden_variable_word; claim = claim; name = suffix_of claim; supposed = supposed; follows = f ∷ [] })

pub record HoldingRows : Type 0 where
  -- `(EQUAL '1 '1)`, and `(IMPLIES (INTEGERP V) (EQUAL V V))`
  pub closed : HoldsAtFirst Correspondence [] (equal (constant 1) (constant 1))
  pub open_one : HoldsAtFirst Correspondence (call_of integerp_word (variable ∷ []) ∷ []) (equal variable variable)
  -- `(EQUAL '1 '2)`
  pub false_one : HoldsAtFirst Correspondence [] (equal (constant 1) (constant 2)) → ⊥
  -- `'1` is not `NIL`, and not `T`
  pub not_nil : HoldsAtFirst Correspondence [] (constant 1)
  pub not_preserved : HoldsAtFirst Preserved [] (constant 1) → ⊥
