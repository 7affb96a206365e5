-- Which names come again.
use Rattle.std.specs.Prelude.{◌≡◌, ℕ, zero, suc, ◌+◌, ◌-◌, ◌<◌, ◌≤◌, List, [], ◌∷◌, length, drop, Bool, true, false, ◌||◌, nat_eq, Option, Some, slice_set, IfSome, if◌then◌else◌, refl}
use Rattle.std.proofs.Common.{sym, ap, ◌∙◌, subst, arith, get_or}
use Rattle.std.specs.Option.{option_map}
use Rattle.std.proofs.lemmas.Bool.Decides.{Decides-eqb}
use Rattle.std.specs.List.{list_any}
use Rattle.std.proofs.lemmas.List.{drop_more, get_or-set_same, get_or-set_other}
use Rattle.model_symbols.specs.Symbols.{Table, is_known}
use Rattle.model_symbols.specs.Tables.{IsTable}
use Rattle.model_output_so_far.specs.Events.{first_in_use}
use Rattle.model_output_so_far.specs.Reserved.{is_reserved}
use Rattle.acl_base.specs.declared.SymId.{SymId}
use Rattle.acl_answers.specs.Views.{name_of, names_of}
use Rattle.acl_answers.specs.Whole.{IsKnown, AreKnown}
use Rattle.acl_answers.proofs.AllLemmas.{all_first, all_rest}
use Rattle.acl_answers.proofs.StobjLemmas.{same_number}

eqb-true : (m n : ℕ) → nat_eq m n ≡ true → m ≡ n
eqb-true m n e = (Decides-eqb m n).0 e

eqb-false : (m n : ℕ) → nat_eq m n ≡ false → m ≡ n → ⊥
eqb-false m n e d = cc_no (sym e ∙ (Decides-eqb m n).1 d) where
  cc_no : false ≡ true → ⊥
  cc_no h = cc

-- the number is that of one of these symbols
abbrev pub is_among : ℕ → List SymId → Bool
is_among n ids = list_any (λ (s : SymId). nat_eq n s.0) ids

pub among_names : (t : Table) → IsTable t → (s : SymId) → IsKnown t s → (ids : List SymId) → AreKnown t ids → is_known (names_of t ids) (name_of t s) ≡ is_among s.0 ids
among_names t i s k [] a = refl
among_names t i s k (r ∷ ids) a = rw (same_number t i s.0 r.0 k (all_first (IsKnown t) r ids a), among_names t i s k ids (all_rest (IsKnown t) r ids a)) refl

-- what stands at a place of a list, whatever would stand past its end
pub other_default : {X : Type 0} (xs : List X) (i : ℕ) (a b : X) → i < length xs → get_or xs i a ≡ get_or xs i b
other_default [] i a b l = absurd (omega arith)
other_default (x ∷ xs) zero a b l = refl
other_default (x ∷ xs) (suc i) a b l = other_default xs i a b (omega (arith, l))

-- ---- one name earlier

module _ (t : Table) (table : IsTable t) (names : List SymId) (known : AreKnown t names) (left : ℕ) (within : left ≤ length names) (some : 0 < left) (s none : SymId) (here : get_or names (left - 1) none ≡ s) where
  rest_is : drop (left - 1) names ≡ s ∷ drop left names
  rest_is =
      let l : left - 1 < length names = omega (arith, within, some) in
      let n : (left - 1) + 1 ≡ left = omega (arith, some) in
      drop_more names (left - 1) none l ∙ (ap (λ (r : SymId). r ∷ drop ((left - 1) + 1) names) here ∙ ap (λ (k : ℕ). s ∷ drop k names) n)

  pub name_known : IsKnown t s
  name_known = subst (λ (r : SymId). IsKnown t r) here (known (left - 1) none (omega (arith, within, some)))

  pub known_before : (b : Bool) (found : Option SymId) → IfSome found (IsKnown t) → IfSome (if b then Some s else found) (IsKnown t)
  known_before true found k = name_known
  known_before false found k = k

  rest_known : AreKnown t (drop left names)
  rest_known = all_rest (IsKnown t) s (drop left names) (subst (AreKnown t) rest_is (known_dropped names known (left - 1))) where
    known_dropped : (ns : List SymId) → AreKnown t ns → (k : ℕ) → AreKnown t (drop k ns)
    known_dropped [] a zero = a
    known_dropped [] a (suc k) = a
    known_dropped (n ∷ ns) a zero = a
    known_dropped (n ∷ ns) a (suc k) = known_dropped ns (all_rest (IsKnown t) n ns a) k

  module _ (later : List Bool) (size : length later ≡ length t.symbols) (seen : (n : ℕ) → n < length t.symbols → get_or later n false ≡ is_among n (drop left names)) where
    pub seen_more : (n : ℕ) → n < length t.symbols → get_or (slice_set later s.0 true) n false ≡ is_among n (drop (left - 1) names)
    seen_more n l = go (nat_eq n s.0) refl ∙ sym (ap (is_among n) rest_is) where
      go : (b : Bool) → nat_eq n s.0 ≡ b → get_or (slice_set later s.0 true) n false ≡ (nat_eq n s.0 || is_among n (drop left names))
      go true e =
          let same : n ≡ s.0 = eqb-true n s.0 e in
          rw (e, same) (get_or-set_same later s.0 true false (omega (arith, size, name_known)))
      go false e = rw e (get_or-set_other later s.0 n true false (λ d. eqb-false n s.0 e d) ∙ seen n l)

    pub in_use_more : (found : Option SymId) → option_map (name_of t) found ≡ first_in_use (names_of t (drop left names))
        → option_map (name_of t) (if is_reserved (name_of t s) || get_or later s.0 false then Some s else found) ≡ first_in_use (names_of t (drop (left - 1) names))
    in_use_more found e =
        ap (λ b. option_map (name_of t) (if is_reserved (name_of t s) || b then Some s else found)) (seen s.0 name_known ∙ sym (among_names t table s name_known (drop left names) rest_known))
        ∙ (go (is_reserved (name_of t s) || is_known (names_of t (drop left names)) (name_of t s)) ∙ sym (ap (λ (l : List SymId). first_in_use (names_of t l)) rest_is)) where
          go : (b : Bool) → option_map (name_of t) (if b then Some s else found) ≡ (if b then Some (name_of t s) else first_in_use (names_of t (drop left names)))
          go true = refl
          go false = e
