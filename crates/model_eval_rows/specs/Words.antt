-- The numbers of the words that rows name.
use Rattle.std.specs.Prelude.{◌≡◌, ℕ, [], ◌∷◌, map, codes}
use Rattle.model_symbols.specs.Symbols.{symbol_at}
use Rattle.model_symbols.specs.Opening.{opening}
use Rattle.model_eval_rows.specs.Undone.{update_nth_word, intern_word}
use Rattle.model_eval_rows.specs.Books.{car_word, cons_word, not_word, integerp_word, below_word, plus_word, minus_word, zp_word, natp_word}

pub record AreNamed : Type 0 where
  pub names : map (λ (n : ℕ). (symbol_at opening.symbols n).name) (car_word ∷ cons_word ∷ not_word ∷ integerp_word ∷ below_word ∷ plus_word ∷ minus_word ∷ zp_word ∷ natp_word ∷ update_nth_word ∷ intern_word ∷ [])
      ≡ codes "CAR" ∷ codes "CONS" ∷ codes "NOT" ∷ codes "INTEGERP" ∷ codes "<" ∷ codes "BINARY-+" ∷ codes "UNARY--" ∷ codes "ZP" ∷ codes "NATP" ∷ codes "UPDATE-NTH" ∷ codes "INTERN-IN-PACKAGE-OF-SYMBOL" ∷ []
