-- Which names are in use.
use Rattle.std.specs.Prelude.{◌≡◌, ℕ, zero, suc, ◌+◌, ◌<◌, ◌≤◌, List, [], ◌∷◌, length, map, drop, Bool, true, false, not, ◌||◌, nat_eq, Option, Some, None, option_map, is_some, refl, if◌then◌else◌}
use Rattle.std.specs.Option.{option_copied}
use Rattle.std.proofs.Common.{sym, ap, ◌∙◌, get_or, drop-cons, add-one, arith}
use Rattle.std.proofs.Math.ListN.{drop_of_length-le}
use Rattle.std.proofs.lemmas.Bool.Decides.{nat_tests}
use Rattle.model_terms.specs.Worlds as worlds
use Rattle.model_terms.specs.Classes.{has}
use Rattle.model_expansion.specs.Faults.{Refusal, NameInUse}
use Rattle.model_expansion.specs.Layers.{MacroRow, core_row, macro_row}
use Rattle.model_stobjs.specs.Heads.{is_head, is_reserved, is_in_use, name_in_use}
use Rattle.acl_base.specs.declared.SymId.{SymId}
use Rattle.acl_terms.specs.Forms.{numbers}
use Rattle.acl_layers.specs.declared.rows.Row.{Row}
use Rattle.acl_layers.specs.Rows.{seen_row}
use Rattle.acl_layers.proofs.BindingLemmas.{left_at}
use Rattle.acl_names.specs.Places.{last_place}
use Rattle.acl_declare.specs.Places.{is_at}
use Rattle.acl_declare.proofs.TableLemmas.{again}

-- ---- reserved names

pub row_there : (r : Option Row) (o : Option MacroRow) (b : Bool) → option_map seen_row r ≡ o → is_some r ≡ b → is_some o ≡ b
row_there None o b e f = rw (sym e) f
row_there (Some m) o b e f = rw (sym e) f

pub reserved_head : (s : ℕ) → is_head s ≡ true → is_reserved s ≡ true
reserved_head s e = rw e refl

pub reserved_core : (s : ℕ) (r : Option Row) → is_head s ≡ false → option_map seen_row r ≡ core_row s → is_some r ≡ true → is_reserved s ≡ true
reserved_core s r e f g = let h : is_some (core_row s) ≡ true = row_there r (core_row s) true f g in rw (e, h) refl

pub reserved_macro : (s : ℕ) (r m : Option Row) → is_head s ≡ false → option_map seen_row r ≡ core_row s → is_some r ≡ false → option_map seen_row m ≡ macro_row s → is_some m ≡ is_reserved s
reserved_macro s r m e f g i =
    let h : is_some (core_row s) ≡ false = row_there r (core_row s) false f g in
    let k : is_some (macro_row s) ≡ is_some m = row_there m (macro_row s) (is_some m) i refl in
    rw (e, h) (sym k)

-- ---- names of definitions

pub defined : (d : worlds.Definition) (o : Option worlds.Definition) → Some d ≡ o → is_some o ≡ true
defined d o e = ap is_some (sym e)

pub undefined : (o : Option worlds.Definition) → None ≡ o → is_some o ≡ false
undefined o e = ap is_some (sym e)

-- ---- places

pub placed : (x i j : ℕ) (ns : List ℕ) → Some j ≡ last_place x ns → not (is_at i (last_place x ns)) ≡ not (nat_eq j i)
placed x i j ns e = ap (λ o. not (is_at i o)) (sym e)

pub not_placed : (x i : ℕ) (ns : List ℕ) → None ≡ last_place x ns → not (is_at i (last_place x ns)) ≡ true
not_placed x i ns e = ap (λ o. not (is_at i o)) (sym e)

-- ---- all names

at_number : (ns : List SymId) (i : ℕ) (d : SymId) → i < length ns → get_or (numbers ns) i d.0 ≡ (get_or ns i d).0
at_number [] i d l = omega arith
at_number (n ∷ ns) zero d l = refl
at_number (n ∷ ns) (suc i) d l = at_number ns i d (omega arith)

number_count : (ns : List SymId) → length (numbers ns) ≡ length ns
number_count [] = refl
number_count (n ∷ ns) = ap suc (number_count ns)

number_drop : (ns : List SymId) (i : ℕ) → numbers (drop i ns) ≡ drop i (numbers ns)
number_drop ns zero = refl
number_drop [] (suc i) = refl
number_drop (n ∷ ns) (suc i) = number_drop ns i

module _ (w : worlds.World) where
  opened : (s : ℕ) (ss : List ℕ) → name_in_use w (s ∷ ss) ≡ (if is_in_use w ss s then Some (NameInUse s) else name_in_use w ss)
  unfolding name_in_use
  opened s ss = refl

  opened_at : (ns : List SymId) (i : ℕ) (d : SymId) → i < length ns
      → name_in_use w (numbers (drop i ns)) ≡ (if is_in_use w (numbers (drop (i + 1) ns)) (get_or ns i d).0 then Some (NameInUse (get_or ns i d).0) else name_in_use w (numbers (drop (i + 1) ns)))
  opened_at ns i d l = ap (λ xs. name_in_use w (numbers xs)) (left_at ns i d l) ∙ opened (get_or ns i d).0 (numbers (drop (i + 1) ns))

  comes : (ns : List SymId) (i : ℕ) (d : SymId) → i < length ns → has (numbers (drop (i + 1) ns)) (get_or ns i d).0 ≡ not (is_at i (last_place (get_or ns i d).0 (numbers ns)))
  comes ns i d l =
      let e : i + 1 ≡ suc i = omega arith in
      let k : length (numbers ns) ≡ length ns = number_count ns in
      let m : i < length (numbers ns) = rw k l in
      ap (λ j. has (numbers (drop j ns)) (get_or ns i d).0) e
      ∙ (ap (λ xs. has xs (get_or ns i d).0) (number_drop ns (suc i))
      ∙ again (get_or ns i d).0 i d.0 (numbers ns) m (at_number ns i d l))

  pub name_defined : (ns : List SymId) (i : ℕ) (d : SymId) → i < length ns → is_some (worlds.definition w (get_or ns i d).0) ≡ true → name_in_use w (numbers (drop i ns)) ≡ Some (NameInUse (get_or ns i d).0)
  name_defined ns i d l e = opened_at ns i d l ∙ rw e refl

  pub name_reserved : (ns : List SymId) (i : ℕ) (d : SymId) → i < length ns → is_some (worlds.definition w (get_or ns i d).0) ≡ false → is_reserved (get_or ns i d).0 ≡ true
      → name_in_use w (numbers (drop i ns)) ≡ Some (NameInUse (get_or ns i d).0)
  name_reserved ns i d l e f = opened_at ns i d l ∙ rw (e, f) refl

  pub name_again : (ns : List SymId) (i : ℕ) (d : SymId) (t : List ℕ) → i < length ns → is_some (worlds.definition w (get_or ns i d).0) ≡ false → is_reserved (get_or ns i d).0 ≡ false → t ≡ numbers ns
      → not (is_at i (last_place (get_or ns i d).0 t)) ≡ true → name_in_use w (numbers (drop i ns)) ≡ Some (NameInUse (get_or ns i d).0)
  name_again ns i d t l e f g k =
      let c : has (numbers (drop (i + 1) ns)) (get_or ns i d).0 ≡ true = comes ns i d l ∙ (rw g at k) in
      opened_at ns i d l ∙ rw (e, f, c) refl

  pub name_free : (ns : List SymId) (i : ℕ) (d : SymId) (t : List ℕ) → i < length ns → is_some (worlds.definition w (get_or ns i d).0) ≡ false → is_reserved (get_or ns i d).0 ≡ false → t ≡ numbers ns
      → not (is_at i (last_place (get_or ns i d).0 t)) ≡ false → name_in_use w (numbers (drop i ns)) ≡ name_in_use w (numbers (drop (i + 1) ns))
  name_free ns i d t l e f g k =
      let c : has (numbers (drop (i + 1) ns)) (get_or ns i d).0 ≡ false = comes ns i d l ∙ (rw g at k) in
      opened_at ns i d l ∙ rw (e, f, c) refl

  pub names_end : (ns : List SymId) (i : ℕ) → length ns ≤ i → name_in_use w (numbers (drop i ns)) ≡ None
  unfolding name_in_use
  names_end ns i l = rw (drop_of_length-le ns l) refl
