-- The table of rows, and what holds of parts once more symbols are known.
use Rattle.std.proofs.Common.{ℕ, List, [], ◌∷◌, Bool, true, false, Option, Some, None}
use Rattle.std.specs.Prelude.{nat_eq, nat_le, ◌&&◌, ◌-◌, if◌then◌else◌, option_map, slice_get}
use Rattle.model_objects.specs.Object.{Object, Integer, Symbol, Text, Pair}
use Rattle.model_objects.specs.Named.{Symbols}
use Rattle.model_symbols.specs.Opening.{nil, quote}
use Rattle.model_lists.specs.Types.{member_word, and_word, or_word}
use Rattle.model_terms.specs.Cores.{Core, Var, Const, If, Let, Mv, MvLet, StobjLet, WithLocal, MustBeEqual, Call}
use Rattle.model_terms.specs.Worlds.{World}
use Rattle.model_expansion.specs.Words.{if_word, let_word, mv_word, mv_let_word, with_local_word, must_be_equal_word, let_star_word, cond_word, case_word, list_word, list_star_word, append_word, member_eq_word, assoc_word, assoc_eq_word, union_eq_word, prog2_word, mbt_word, mbe_word, the_word, plus_word, times_word, minus_word, add_one_word, subtract_one_word, above_word, at_most_word, at_least_word, logand_word, logior_word, logxor_word, caar_word, cddddr_word, first_word, second_word, third_word, fourth_word, fifth_word, rest_word}
use Rattle.model_expansion.specs.Layers as layers
use Rattle.model_expansion.specs.Layers.{MacroRow, Chain, Two, Turned, Negated, Path, core_row, path_text, path_row, arithmetic_row, macro_row, GuardItem, FormHolds, Meets, Part, Form, Ready, Rest, Guard}
use Rattle.model_expansion_forms.specs.Nodes.{HasConstant}
use Rattle.model_expansion_forms.specs.Rows.{HasRowFunctions}
use Rattle.model_expansion_forms.proofs.NodeLemmas.{each_wider, IsShapedNode, IsShaped, IsNode, IsGood}
use Rattle.model_expansion_forms.proofs.PartLemmas.{AllHave}
use Rattle.model_expansion_forms.proofs.RowLemmas.{IsGoodRow, IsGoodItem, AreGoodItems, IsGoodPart, AreGoodParts}
use Rattle.model_eval.specs.Evaluated.{stobj_let_word}

-- ---- more symbols

module _ (P Q : ℕ → Type 0) (h : (s : ℕ) → P s → Q s) where
  pub symbols_wider : (o : Object ℕ) → Symbols P o → Symbols Q o
  symbols_wider (Integer n) k = tt
  symbols_wider (Symbol s) k = h s k
  symbols_wider (Text bytes) k = tt
  symbols_wider (Pair a d) k = (symbols_wider a k.0, symbols_wider d k.1)

  pub all_have_wider : (os : List (Object ℕ)) → AllHave P os → AllHave Q os
  all_have_wider [] k = tt
  all_have_wider (o ∷ os) k = (symbols_wider o k.0, all_have_wider os k.1)

  constant_wider : (f : Core) → HasConstant P f → HasConstant Q f
  constant_wider (Var x) k = tt
  constant_wider (Const o) k = symbols_wider o k
  constant_wider (If a b c) k = tt
  constant_wider (Let names bound body) k = tt
  constant_wider (Mv parts) k = tt
  constant_wider (MvLet names bound body) k = tt
  constant_wider (StobjLet names bound vars producer consumer) k = tt
  constant_wider (WithLocal stobj names producer body) k = tt
  constant_wider (MustBeEqual logic exec) k = tt
  constant_wider (Call f actuals) k = tt

  shaped_node_wider : (f : Core) → IsShapedNode P f → IsShapedNode Q f
  shaped_node_wider f k = record { forms = k.forms; several = k.several; constant = constant_wider f k.constant }

  pub shaped_wider : (f : Core) → IsShaped P f → IsShaped Q f
  shaped_wider f k = each_wider (IsShapedNode P) (IsShapedNode Q) shaped_node_wider f k

  module _ (w : World) where
    node_wider : (f : Core) → IsNode w P f → IsNode w Q f
    node_wider f k = record { own = k.own; shaped = shaped_node_wider f k.shaped }

    pub good_wider : (f : Core) → IsGood w P f → IsGood w Q f
    good_wider f k = each_wider (IsNode w P) (IsNode w Q) node_wider f k

    row_wider : (row : MacroRow) → IsGoodRow w P row → IsGoodRow w Q row
    row_wider layers.Quote k = tt
    row_wider layers.If k = tt
    row_wider layers.Let k = tt
    row_wider layers.Mv k = tt
    row_wider layers.MvLet k = tt
    row_wider layers.StobjLet k = tt
    row_wider layers.WithLocal k = tt
    row_wider layers.MustBeEqual k = tt
    row_wider layers.And k = tt
    row_wider layers.Or k = tt
    row_wider layers.Cond k = tt
    row_wider layers.Case k = tt
    row_wider layers.LetStar k = tt
    row_wider layers.Listing k = tt
    row_wider layers.ListStar k = tt
    row_wider (Chain f unit) k = (k.0, symbols_wider unit k.1)
    row_wider layers.Minus k = tt
    row_wider (layers.Added n) k = tt
    row_wider (Two f) k = k
    row_wider (Turned f) k = k
    row_wider (Negated row) k = row_wider row k
    row_wider (Path ls) k = tt
    row_wider layers.Then k = tt
    row_wider layers.Mbt k = tt
    row_wider layers.Mbe k = tt
    row_wider layers.The k = tt
    row_wider layers.OrTest k = tt
    row_wider layers.CondTest k = tt
    row_wider layers.Clauses k = tt
    row_wider layers.Bindings k = tt
    row_wider layers.Checked k = tt

    item_wider : (g : GuardItem) → IsGoodItem w P g → IsGoodItem w Q g
    item_wider (FormHolds o) k = symbols_wider o k
    item_wider (Meets f) k = shaped_wider f k

    items_wider : (gs : List GuardItem) → AreGoodItems w P gs → AreGoodItems w Q gs
    items_wider [] k = tt
    items_wider (g ∷ gs) k = (item_wider g k.0, items_wider gs k.1)

    pub part_wider : (q : Part) → IsGoodPart w P q → IsGoodPart w Q q
    part_wider (Form o) k = symbols_wider o k
    part_wider (Ready f) k = shaped_wider f k
    part_wider (Rest row os) k = (row_wider row k.0, all_have_wider os k.1)
    part_wider (Guard gs) k = items_wider gs k

    pub parts_wider : (qs : List Part) → AreGoodParts w P qs → AreGoodParts w Q qs
    parts_wider [] k = tt
    parts_wider (q ∷ qs) k = (part_wider q k.0, parts_wider qs k.1)

-- ---- the table

module _ (w : World) (P : ℕ → Type 0) where
  abbrev pub IsGoodRowIfAny : Option MacroRow → Type 0
  IsGoodRowIfAny None = Unit {0}
  IsGoodRowIfAny (Some row) = IsGoodRow w P row

module _ (w : World) (P : ℕ → Type 0) (r : HasRowFunctions w) (no : P nil) where
  row_if : (b : Bool) (x y : Option MacroRow) → IsGoodRowIfAny w P x → IsGoodRowIfAny w P y → IsGoodRowIfAny w P (if b then x else y)
  row_if true x y h k = h
  row_if false x y h k = k

  pub core_good : (s : ℕ) → IsGoodRowIfAny w P (core_row s)
  core_good s =
      row_if (nat_eq s quote) _ _ tt
      (row_if (nat_eq s if_word) _ _ tt
      (row_if (nat_eq s let_word) _ _ tt
      (row_if (nat_eq s mv_word) _ _ tt
      (row_if (nat_eq s mv_let_word) _ _ tt
      (row_if (nat_eq s stobj_let_word) _ _ tt
      (row_if (nat_eq s with_local_word) _ _ tt
      (row_if (nat_eq s must_be_equal_word) _ _ tt tt)))))))

  letters_good : (v : Option (List ℕ)) → IsGoodRowIfAny w P (option_map Path v)
  letters_good None = tt
  letters_good (Some ls) = tt

  path_good : (s : ℕ) → IsGoodRowIfAny w P (path_row s)
  path_good s =
      row_if (nat_le caar_word s && nat_le s cddddr_word) _ _ (letters_good (slice_get path_text (s - caar_word)))
      (row_if (nat_eq s first_word) _ _ tt
      (row_if (nat_eq s second_word) _ _ tt
      (row_if (nat_eq s third_word) _ _ tt
      (row_if (nat_eq s fourth_word) _ _ tt
      (row_if (nat_eq s fifth_word) _ _ tt
      (row_if (nat_eq s rest_word) _ _ tt tt))))))

  arithmetic_good : (s : ℕ) → IsGoodRowIfAny w P (arithmetic_row s)
  arithmetic_good s =
      row_if (nat_eq s plus_word) _ _ (r.plus, tt)
      (row_if (nat_eq s times_word) _ _ (r.times, tt)
      (row_if (nat_eq s minus_word) _ _ tt
      (row_if (nat_eq s add_one_word) _ _ tt
      (row_if (nat_eq s subtract_one_word) _ _ tt
      (row_if (nat_eq s above_word) _ _ r.below
      (row_if (nat_eq s at_most_word) _ _ r.below
      (row_if (nat_eq s at_least_word) _ _ r.below
      (row_if (nat_eq s logand_word) _ _ (r.bits_of_both, tt)
      (row_if (nat_eq s logior_word) _ _ (r.bits_of_either, tt)
      (row_if (nat_eq s logxor_word) _ _ (r.bits_of_one, tt) (path_good s)))))))))))

  pub macro_good : (s : ℕ) → IsGoodRowIfAny w P (macro_row s)
  macro_good s =
      row_if (nat_eq s and_word) _ _ tt
      (row_if (nat_eq s or_word) _ _ tt
      (row_if (nat_eq s cond_word) _ _ tt
      (row_if (nat_eq s case_word) _ _ tt
      (row_if (nat_eq s let_star_word) _ _ tt
      (row_if (nat_eq s list_word) _ _ tt
      (row_if (nat_eq s list_star_word) _ _ tt
      (row_if (nat_eq s append_word) _ _ (r.joined, no)
      (row_if (nat_eq s member_word) _ _ r.member
      (row_if (nat_eq s member_eq_word) _ _ r.member
      (row_if (nat_eq s assoc_word) _ _ r.entry
      (row_if (nat_eq s assoc_eq_word) _ _ r.entry
      (row_if (nat_eq s union_eq_word) _ _ r.union
      (row_if (nat_eq s prog2_word) _ _ tt
      (row_if (nat_eq s mbt_word) _ _ tt
      (row_if (nat_eq s mbe_word) _ _ tt
      (row_if (nat_eq s the_word) _ _ tt (arithmetic_good s)))))))))))))))))
