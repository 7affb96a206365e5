-- Names that are made one after another.
use Rattle.std.specs.Prelude.{◌≡◌, ℕ, suc, ◌+◌, ◌<◌, List, [], ◌∷◌, ◌++◌, length, map, Bool, true, false, Option, Some, None, unwrap_or, if◌then◌else◌, refl}
use Rattle.std.proofs.Common.{sym, ap, ◌∙◌, append_assoc, arith}
use Rattle.std.proofs.lemmas.List.{append-nil}
use Rattle.model_symbols.specs.Symbols.{QualifiedName, Package, Table, symbol_at, symbol_in, package_at, package_number, number_of, interned, is_one_too_many}
use Rattle.model_symbols.specs.Growth.{AreDistinct}
use Rattle.model_symbols.specs.Tables.{symbol_under}
use Rattle.model_symbols.proofs.NameLemmas.{number-known}
use Rattle.model_prims.specs.Applied.{package_or, package_called, number_then}
use Rattle.model_expansion.specs.Forms.{home_of}
use Rattle.model_stobjs.specs.Descriptors.{Making, MadeNames, with_number, symbol_beside, new_name, name_made, names_made}
use Rattle.acl_syms.specs.Answers.{Interns}
use Rattle.acl_stobj.specs.declared.making.Unmade.{Unmade}
use Rattle.acl_stobj.specs.declared.making.Unmade.TheVariants as unmade
use Rattle.acl_stobj.specs.Making.{all_made, AreMade, IsFull, IsPart, UnmadeBy}

abbrev with_numbers : List ℕ → MadeNames → MadeNames
with_numbers ns m = record { numbers = ns ++ m.numbers; symbols = m.symbols; have_room = m.have_room }

abbrev then_made_if : Bool → MadeNames → MadeNames → MadeNames
then_made_if b m later = if b then with_numbers m.numbers later else m

module _ (packages : List Package) (ren : List (ℕ × ℕ)) where
  abbrev made : List Making → List QualifiedName → MadeNames
  made ms sy = names_made packages ren ms sy

  abbrev beside : List QualifiedName → Making → QualifiedName
  beside sy m = symbol_beside packages ren sy m

  -- ---- one name

  pub none_made : (sy : List QualifiedName) → made [] sy ≡ all_made [] sy
  unfolding names_made
  none_made sy = refl

  pub first_made : (m : Making) (ms : List Making) (sy : List QualifiedName) → made (m ∷ ms) sy ≡ name_made packages ren (new_name packages ren sy (beside sy m)) sy (beside sy m) (made ms)
  unfolding names_made
  first_made m ms sy = refl

  -- ---- names behind others

  abbrev BothMade : List Making → List Making → List QualifiedName → Type 0
  BothMade ms ns sy = made (ms ++ ns) sy ≡ then_made_if (made ms sy).have_room (made ms sy) (made ns (made ms sy).symbols)

  numbered : (n : ℕ) (a m later : MadeNames) → a ≡ then_made_if m.have_room m later → with_number n a ≡ then_made_if m.have_room (with_number n m) later
  numbered n a m later e = by m.have_room e
    where
      by : (b : Bool) → a ≡ then_made_if b m later → with_number n a ≡ then_made_if b (with_number n m) later
      by true e = rw e refl
      by false e = rw e refl

  -- where there may be no room for a name
  abbrev unless_full : Bool → List QualifiedName → QualifiedName → List Making → MadeNames
  unless_full b sy q ms = if b then record { numbers = []; symbols = sy; have_room = false } else with_number (number_then sy q) (made ms (interned sy q))

  full_by : (b : Bool) (ms ns : List Making) (sy : List QualifiedName) (q : QualifiedName) → ((sy : List QualifiedName) → BothMade ms ns sy)
      → unless_full b sy q (ms ++ ns) ≡ then_made_if (unless_full b sy q ms).have_room (unless_full b sy q ms) (made ns (unless_full b sy q ms).symbols)
  full_by true ms ns sy q later = refl
  full_by false ms ns sy q later = numbered (number_then sy q) (made (ms ++ ns) (interned sy q)) (made ms (interned sy q)) (made ns (made ms (interned sy q)).symbols) (later (interned sy q))

  both_by : (x : Option ℕ) (ms ns : List Making) (sy : List QualifiedName) (q : QualifiedName) → ((sy : List QualifiedName) → BothMade ms ns sy)
      → name_made packages ren x sy q (made (ms ++ ns)) ≡ then_made_if (name_made packages ren x sy q (made ms)).have_room (name_made packages ren x sy q (made ms)) (made ns (name_made packages ren x sy q (made ms)).symbols)
  both_by (Some n) ms ns sy q later = numbered n (made (ms ++ ns) sy) (made ms sy) (made ns (made ms sy).symbols) (later sy)
  both_by None ms ns sy q later = full_by (is_one_too_many sy q) ms ns sy q later

  pub both_made : (ms ns : List Making) (sy : List QualifiedName) → BothMade ms ns sy
  both_made [] ns sy = rw (none_made sy) refl
  both_made (m ∷ ms) ns sy =
      first_made m (ms ++ ns) sy ∙ rw (first_made m ms sy) (both_by (new_name packages ren sy (beside sy m)) ms ns sy (beside sy m) (λ s. both_made ms ns s))

  behind : (ms ns : List Making) (a b : List QualifiedName) (xs : List ℕ) → AreMade packages ren ms a xs b → made (ms ++ ns) a ≡ with_numbers xs (made ns b)
  behind ms ns a b xs m = both_made ms ns a ∙ rw m.is refl

  pub made_then : (ms ns : List Making) (a b c : List QualifiedName) (xs ys : List ℕ) → AreMade packages ren ms a xs b → AreMade packages ren ns b ys c → AreMade packages ren (ms ++ ns) a (xs ++ ys) c
  made_then ms ns a b c xs ys m n = record { is = behind ms ns a b xs m ∙ rw n.is refl }

  pub full_then : (ms ns : List Making) (a b c : List QualifiedName) (xs : List ℕ) → AreMade packages ren ms a xs b → IsFull packages ren ns b c → IsFull packages ren (ms ++ ns) a c
  full_then ms ns a b c xs m f = record {
    room = ap (λ (x : MadeNames). x.have_room) (behind ms ns a b xs m) ∙ f.room;
    symbols = ap (λ (x : MadeNames). x.symbols) (behind ms ns a b xs m) ∙ f.symbols;
  }

  pub full_first : (ms ns : List Making) (a c : List QualifiedName) → IsFull packages ren ms a c → IsFull packages ren (ms ++ ns) a c
  full_first ms ns a c f =
      let all : made (ms ++ ns) a ≡ made ms a = both_made ms ns a ∙ rw f.room refl in
      record { room = ap (λ (x : MadeNames). x.have_room) all ∙ f.room; symbols = ap (λ (x : MadeNames). x.symbols) all ∙ f.symbols }

  pub part_then : (ms ns : List Making) (a b c : List QualifiedName) (xs : List ℕ) → AreMade packages ren ms a xs b → IsPart packages ren ns b c → IsPart packages ren (ms ++ ns) a c
  part_then ms ns a b c xs m p = record {
    first = ms ++ p.first;
    rest = p.rest;
    whole = append_assoc ms p.first p.rest ∙ ap (λ ls. ms ++ ls) p.whole;
    symbols = ap (λ (x : MadeNames). x.symbols) (behind ms p.first a b xs m) ∙ p.symbols;
  }

  pub part_first : (ms ns : List Making) (a c : List QualifiedName) → IsPart packages ren ms a c → IsPart packages ren (ms ++ ns) a c
  part_first ms ns a c p = record {
    first = p.first;
    rest = p.rest ++ ns;
    whole = sym (append_assoc p.first p.rest ns) ∙ ap (λ ls. ls ++ ns) p.whole;
    symbols = p.symbols;
  }

  pub part_made : (ms : List Making) (a b : List QualifiedName) (xs : List ℕ) → AreMade packages ren ms a xs b → IsPart packages ren ms a b
  part_made ms a b xs m = record { first = ms; rest = []; whole = append-nil ms; symbols = ap (λ (x : MadeNames). x.symbols) m.is }

  pub nothing_made : (ms : List Making) (a : List QualifiedName) → IsPart packages ren ms a a
  nothing_made ms a = record { first = []; rest = ms; whole = refl; symbols = ap (λ (x : MadeNames). x.symbols) (none_made a) }

  pub nothing_new : (ms : List Making) (old new : Table) → new ≡ old → IsPart packages ren ms old.symbols new.symbols
  nothing_new ms old new e = record { first = []; rest = ms; whole = refl; symbols = ap (λ (x : MadeNames). x.symbols) (none_made old.symbols) ∙ sym (ap (λ (u : Table). u.symbols) e) }

  pub unmade_first : (ms ns : List Making) (a c : List QualifiedName) (u : Unmade) → UnmadeBy packages ren ms a c u → UnmadeBy packages ren (ms ++ ns) a c u
  unmade_first ms ns a c unmade.Full f = full_first ms ns a c f
  unmade_first ms ns a c unmade.Memory p = part_first ms ns a c p

  pub unmade_then : (ms ns : List Making) (a b c : List QualifiedName) (xs : List ℕ) (u : Unmade) → AreMade packages ren ms a xs b → UnmadeBy packages ren ns b c u → UnmadeBy packages ren (ms ++ ns) a c u
  unmade_then ms ns a b c xs unmade.Full m f = full_then ms ns a b c xs m f
  unmade_then ms ns a b c xs unmade.Memory m p = part_then ms ns a b c xs m p

-- ---- a name that is put for another, one that is made, and one for which there is no room

module _ (ren : List (ℕ × ℕ)) (t : Table) (s p : ℕ) (text : List ℕ) where
  beside_is : package_number t.packages (symbol_at t.symbols s).home ≡ Some p → symbol_beside t.packages ren t.symbols (s, text) ≡ symbol_under t p text
  beside_is e = ap (λ o. symbol_in (package_or t.packages (symbol_at t.symbols s).home o) text) e

  made_by : (o : Option ℕ) → package_number t.packages (symbol_at t.symbols s).home ≡ Some p → new_name t.packages ren t.symbols (symbol_under t p text) ≡ o
      → names_made t.packages ren ((s, text) ∷ []) t.symbols ≡ name_made t.packages ren o t.symbols (symbol_under t p text) (names_made t.packages ren [])
  made_by o e n = first_made t.packages ren (s, text) [] t.symbols ∙ rw (beside_is e, n) refl

  pub renamed_made : (x : ℕ) → package_number t.packages (symbol_at t.symbols s).home ≡ Some p → new_name t.packages ren t.symbols (symbol_under t p text) ≡ Some x
      → AreMade t.packages ren ((s, text) ∷ []) t.symbols (x ∷ []) t.symbols
  renamed_made x e n = record { is = made_by (Some x) e n ∙ ap (with_number x) (none_made t.packages ren t.symbols) }

  pub one_made : (new : Table) (x : ℕ) → package_number t.packages (symbol_at t.symbols s).home ≡ Some p → new_name t.packages ren t.symbols (symbol_under t p text) ≡ None
      → Interns t new p text x → AreDistinct new.symbols → AreMade t.packages ren ((s, text) ∷ []) t.symbols (x ∷ []) new.symbols
  one_made new x e n i d =
      let q = symbol_under t p text in
      let symbols : interned t.symbols q ≡ new.symbols = sym (ap (λ (u : Table). u.symbols) i.table) in
      let number : number_of new.symbols q ≡ Some x = number-known new.symbols q x d i.number in
      let same : number_then t.symbols q ≡ x = ap (λ ss. unwrap_or (number_of ss q) 0) symbols ∙ ap (λ o. unwrap_or o 0) number in
      record { is = made_by None e n ∙ rw (i.room, same, symbols, none_made t.packages ren new.symbols) refl }

  pub one_full : (new : Table) → new ≡ t → package_number t.packages (symbol_at t.symbols s).home ≡ Some p → new_name t.packages ren t.symbols (symbol_under t p text) ≡ None
      → is_one_too_many t.symbols (symbol_under t p text) ≡ true → IsFull t.packages ren ((s, text) ∷ []) t.symbols new.symbols
  one_full new same e n many =
      let is : names_made t.packages ren ((s, text) ∷ []) t.symbols ≡ record { numbers = []; symbols = t.symbols; have_room = false } = made_by None e n ∙ rw many refl in
      record { room = ap (λ (x : MadeNames). x.have_room) is; symbols = ap (λ (x : MadeNames). x.symbols) is ∙ sym (ap (λ (u : Table). u.symbols) same) }
