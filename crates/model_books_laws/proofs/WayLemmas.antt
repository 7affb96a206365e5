-- What holds of each kind of command holds of every command.
use Rattle.std.proofs.Common.{ℕ, List, [], ◌∷◌, Bool, true, false, Option, Some, None}
use Rattle.std.specs.Prelude.{codes, unwrap_or, option_and_then, if◌then◌else◌}
use Rattle.std.specs.Option.{option_map_or}
use Rattle.std.specs.Str.{bytes_eq}
use Rattle.model_objects.specs.Object.{Object, Integer, Symbol, Text, Pair}
use Rattle.model_symbols.specs.Symbols.{QualifiedName}
use Rattle.model_expansion.specs.Forms.{elements, symbol, symbol_name, is_keyword}
use Rattle.model_expansion.specs.Faults.{Refusal, NotSupported}
use Rattle.model_stobjs.specs.Heads.{event_heads, is_skipped, is_unsupported}
use Rattle.model_books.specs.Commands.{Ways, bad_shape, only_symbol, cells_way, keyword_way, headed_way, way_of}
use Rattle.model_terms.specs.Classes.{has}

module _ {O : Type 0} (P : O → Type 0) (w : Ways O) (symbols : List QualifiedName) where
  abbrev pub ShowHolds : Option O → Type 0
  ShowHolds None = Unit {0}
  ShowHolds (Some o) = P o

  -- it holds of each kind
  pub record AllWays : Type 0 where
    pub event : (head : ℕ) (d : Object ℕ) → P (w.event head d)
    pub skipped : P w.skipped
    pub refused : (r : Refusal) → P (w.refused r)
    pub expression : (form : Object ℕ) → P (w.expression form)
    pub show : (x : ℕ) → ShowHolds (w.show x)
    pub cells : P w.cells

  module _ (h : AllWays) where
    holds_if : (b : Bool) (x y : O) → P x → P y → P (if b then x else y)
    holds_if true x y p q = p
    holds_if false x y p q = q

    shown_holds : (x : Option O) (other : O) → ShowHolds x → P other → P (unwrap_or x other)
    shown_holds None other p q = q
    shown_holds (Some o) other p q = p

    show_holds : (x : Option ℕ) (other : O) → P other → P (unwrap_or (option_and_then w.show x) other)
    show_holds None other q = q
    show_holds (Some x) other q = shown_holds (w.show x) other (h.show x) q

    cells_hold : (head : ℕ) (os : Option (List (Object ℕ))) → P (cells_way w symbols head os)
    cells_hold head None = h.refused _
    cells_hold head (Some []) = h.cells
    cells_hold head (Some (o ∷ os)) = h.refused _

    keyword_holds : (head : ℕ) (d : Object ℕ) → P (keyword_way w symbols head d)
    keyword_holds head d =
        holds_if (bytes_eq (symbol_name symbols head) (codes "SHOW")) _ _
        (show_holds (only_symbol w symbols (elements d)) (bad_shape w symbols head) (h.refused _))
        (holds_if (bytes_eq (symbol_name symbols head) (codes "CELLS")) _ _ (cells_hold head (elements d)) (h.refused (NotSupported head)))

    headed_holds : (head : ℕ) (d : Object ℕ) → P (headed_way w symbols head d)
    headed_holds head d =
        holds_if (has event_heads head) _ _ (h.event head d)
        (holds_if (is_skipped head) _ _ h.skipped
        (holds_if (is_unsupported head) _ _ (h.refused (NotSupported head))
        (holds_if (is_keyword symbols head) _ _ (keyword_holds head d) (h.expression (Pair (Symbol head) d)))))

    pair_holds : (head : Option ℕ) (a d : Object ℕ) → P (option_map_or (λ x. headed_way w symbols x d) head (w.expression (Pair a d)))
    pair_holds None a d = h.expression (Pair a d)
    pair_holds (Some head) a d = headed_holds head d

    pub way_holds : (form : Object ℕ) → P (way_of w symbols form)
    way_holds (Integer n) = h.expression (Integer n)
    way_holds (Symbol x) = h.expression (Symbol x)
    way_holds (Text bytes) = h.expression (Text bytes)
    way_holds (Pair a d) = pair_holds (symbol a) a d
