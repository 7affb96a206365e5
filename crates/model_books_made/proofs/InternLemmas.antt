-- Symbols that known packages have become known one after the other: the table stays one, and each of them is in it.
use Rattle.std.proofs.Common.{◌≡◌, ℕ, ◌<◌, List, [], ◌∷◌, ◌++◌, length, Bool, true, false, Option, Some, None, refl, sym, ap, ◌∙◌, subst}
use Rattle.std.specs.Prelude.{◌&&◌, not, nat_lt, is_some}
use Rattle.std.proofs.lemmas.Bool.{and_parts, ltb-true}
use Rattle.std.proofs.lemmas.List.{append_assoc, append-nil}
use Rattle.model_symbols.specs.Symbols.{QualifiedName, Package, Table, number_of, symbol_in, is_known, interned, all_interned, is_one_too_many, most_symbols}
use Rattle.model_symbols.specs.Growth.{IsSymbol}
use Rattle.model_symbols.specs.Tables.{IsTable}
use Rattle.model_symbols.proofs.Positions.{slice_get-left, slice_get-last}
use Rattle.model_symbols.proofs.NameLemmas.{number-Some, is_known-is, interned-known, interned-new}
use Rattle.model_symbols.proofs.TableLemmas.{IsTable-symbol}
use Rattle.model_text_laws.specs.Laws.{have_room}
use Rattle.model_books_made.proofs.TokenLemmas.{IsHad}
use Rattle.model_books_made.proofs.SpellingLemmas.{EachOne}

-- the symbol is known
abbrev pub IsIn : List QualifiedName → QualifiedName → Type 0
IsIn symbols s = (n : ℕ) × IsSymbol symbols n s

pub in_longer : (symbols more : List QualifiedName) (s : QualifiedName) → IsIn symbols s → IsIn (symbols ++ more) s
in_longer symbols more s h = (h.0, slice_get-left symbols more h.0 s h.1)

is_not : (b : Bool) → not b ≡ true → b ≡ false
is_not true h = cc
is_not false h = refl

-- a symbol that is not known has room
has_room : (symbols : List QualifiedName) (s : QualifiedName) → number_of symbols s ≡ None → is_one_too_many symbols s ≡ false → length symbols < most_symbols
has_room symbols s new room =
    let unknown : is_known symbols s ≡ false = is_known-is symbols s ∙ ap is_some new in
    go (is_known symbols s) (nat_lt (length symbols) most_symbols) refl unknown room
  where
    go : (b c : Bool) → nat_lt (length symbols) most_symbols ≡ c → b ≡ false → (not b && not c) ≡ false → length symbols < most_symbols
    go true c e h g = cc
    go false true e h g = ltb-true (length symbols) most_symbols e
    go false false e h g = cc

module _ (packages : List Package) where
  abbrev pub table_with : List QualifiedName → Table
  table_with symbols = record { packages = packages; symbols = symbols }

  -- what symbols are added to is a table still
  pub record Added (old new : List QualifiedName) : Type 0 where
    pub more : List QualifiedName
    pub grown : new ≡ old ++ more
    pub table : IsTable (table_with new)

  one_added : (symbols : List QualifiedName) (s : QualifiedName) → IsTable (table_with symbols) → IsHad packages s → is_one_too_many symbols s ≡ false → Added symbols (interned symbols s) × IsIn (interned symbols s) s
  one_added symbols s is had room = go (number_of symbols s) refl
    where
      go : (o : Option ℕ) → number_of symbols s ≡ o → Added symbols (interned symbols s) × IsIn (interned symbols s) s
      go (Some n) e =
          let same : interned symbols s ≡ symbols = interned-known symbols s n e in (
            record { more = []; grown = same ∙ sym (append-nil symbols); table = subst (λ ss. IsTable (table_with ss)) (sym same) is },
            subst (λ ss. IsIn ss s) (sym same) (n, number-Some symbols s n e),
          )
      go None e =
          let grows : interned symbols s ≡ symbols ++ s ∷ [] = interned-new symbols s e in
          let own : symbols ++ s ∷ [] ≡ symbols ++ symbol_in had.owner had.name ∷ [] = ap (λ x. symbols ++ x ∷ []) had.is in (
            record {
              more = s ∷ [];
              grown = grows;
              table = subst (λ ss. IsTable (table_with ss)) (sym (grows ∙ own))
                  (IsTable-symbol (table_with symbols) is had.number had.owner had.at had.name (subst (λ x. number_of symbols x ≡ None) had.is e) (has_room symbols s e room));
            },
            subst (λ ss. IsIn ss s) (sym grows) (length symbols, slice_get-last symbols s),
          )

  pub all_added : (symbols names : List QualifiedName) → IsTable (table_with symbols) → EachOne (IsHad packages) names → have_room symbols names ≡ true
      → Added symbols (all_interned symbols names) × EachOne (IsIn (all_interned symbols names)) names
  all_added symbols [] is had room = (record { more = []; grown = sym (append-nil symbols); table = is }, tt)
  all_added symbols (s ∷ ss) is had room =
      let rooms = and_parts (not (is_one_too_many symbols s)) (have_room (interned symbols s) ss) room in
      let first = one_added symbols s is had.0 (is_not (is_one_too_many symbols s) rooms.0) in
      let others = all_added (interned symbols s) ss first.0.table had.1 rooms.1 in
      let whole = all_interned (interned symbols s) ss in (
        record {
          more = first.0.more ++ others.0.more;
          grown = others.0.grown ∙ (ap (λ xs. xs ++ others.0.more) first.0.grown ∙ append_assoc symbols first.0.more others.0.more);
          table = others.0.table;
        },
        (subst (λ xs. IsIn xs s) (sym others.0.grown) (in_longer (interned symbols s) others.0.more s first.1), others.1),
      )
