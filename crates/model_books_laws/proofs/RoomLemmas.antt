-- Whether there is room for the names of a stobj.
use Rattle.std.proofs.Common.{◌≡◌, ℕ, ◌<◌, ◌≤◌, length, List, [], ◌∷◌, ◌++◌, Bool, true, false, nat_lt, Option, Some, None, refl, sym, ap, ◌∙◌, subst, arith}
use Rattle.std.specs.Prelude.{nat_le, not, ◌&&◌, ◌≢◌, ◌↔◌, is_some, option_map, cond, if◌then◌else◌}
use Rattle.std.specs.Option.{option_or}
use Rattle.std.specs.List.{AllByRecursion, find}
use Rattle.std.proofs.lemmas.Bool.{le-leb, lt-leb, leb-false}
use Rattle.std.proofs.lemmas.Bool.Decides.{nat_tests}
use Rattle.std.proofs.lemmas.List.{length_push, get_or_append_left, append_assoc, append-nil}
use Rattle.std.proofs.lemmas.Option.{unwrap_or-slice_get}
use Rattle.model_symbols.specs.Symbols.{QualifiedName, Package, symbol_at, no_name, symbol_in, same_name, is_known, interned, all_interned, most_symbols}
use Rattle.model_prims.specs.Applied.{package_called, number_then}
use Rattle.model_terms.specs.Worlds.{World, Descriptor}
use Rattle.model_expansion.specs.Faults.{Refusal, NameInUse, CongruenceMismatch, SymbolLimit}
use Rattle.model_expansion.specs.Expansion.{Progress}
use Rattle.model_stobjs.specs.Answers.{EventResult, Grants, Refuses, unless}
use Rattle.model_stobjs.specs.Heads.{name_in_use, is_in_use}
use Rattle.model_stobjs.specs.Descriptors.{Making, MadeNames, ShapedField, WrittenStobj, symbol_beside, new_name, name_made, names_made, room_for, names_then, with_number, named_descriptor, descriptor_with, new_names, mismatch, stobj_makings}
use Rattle.model_books_laws.specs.Refusals.{AreKnown, symbols_named, symbols_with, SymbolLimitIsExact}
use Rattle.model_expansion.specs.Forms.{symbol_or_nil}

-- ---- tests of numbers

below_when : (a b : ℕ) → nat_lt a b ≡ true → a < b
below_when a b e = grind (arith, nat_tests)

not_below_when : (a b : ℕ) → nat_lt a b ≡ false → b ≤ a
not_below_when a b e = grind (arith, nat_tests)

not_both : (a b : ℕ) → nat_le a b ≡ true → b < a → ⊥
not_both a b e l = grind (arith, nat_tests)

-- ---- tables that grow

interned_longer : (xs : List QualifiedName) (q : QualifiedName) → length xs ≤ length (interned xs q)
interned_longer xs q = go (is_known xs q)
  where
    go : (b : Bool) → length xs ≤ length (if b then xs else xs ++ q ∷ [])
    go true = omega arith
    go false = omega (arith, length_push xs q)

all_longer : (xs qs : List QualifiedName) → length xs ≤ length (all_interned xs qs)
all_longer xs [] = omega arith
all_longer xs (q ∷ qs) =
    let one = interned_longer xs q in
    let others = all_longer (interned xs q) qs in
    omega (arith, one, others)

room_for_one : (xs : List QualifiedName) (q : QualifiedName) (most : ℕ) → nat_lt (length xs) most ≡ true → length (xs ++ q ∷ []) ≤ most
room_for_one xs q most e =
    let l = below_when (length xs) most e in
    omega (arith, l, length_push xs q)

none_for_one : (xs qs : List QualifiedName) (q : QualifiedName) (most : ℕ) → nat_lt (length xs) most ≡ false → most < length (all_interned (xs ++ q ∷ []) qs)
none_for_one xs qs q most e =
    let l = not_below_when (length xs) most e in
    let others = all_longer (xs ++ q ∷ []) qs in
    omega (arith, l, others, length_push xs q)

symbol_stays : (start more : List QualifiedName) (n : ℕ) → n < length start → symbol_at (start ++ more) n ≡ symbol_at start n
symbol_stays start more n l = unwrap_or-slice_get (start ++ more) n no_name ∙ (get_or_append_left start more no_name n l ∙ sym (unwrap_or-slice_get start n no_name))

found_alike : {X : Type 0} (f g : X → Bool) (xs : List X) → AllByRecursion (λ x. f x ≡ g x) xs → find f xs ≡ find g xs
found_alike f g [] h = refl
found_alike f g (x ∷ xs) h = ap (λ b. cond b (Some x) (find f xs)) h.0 ∙ ap (λ o. cond (g x) (Some x) o) (found_alike f g xs h.1)

all_of : {X : Type 0} (P Q : X → Type 0) → ((x : X) → P x → Q x) → (xs : List X) → AllByRecursion P xs → AllByRecursion Q xs
all_of P Q f [] h = tt
all_of P Q f (x ∷ xs) h = (f x h.0, all_of P Q f xs h.1)

-- ---- the names of a stobj

-- there was room for all of these symbols, and then they are known
record HasNames (m : MadeNames) (all : List QualifiedName) : Type 0 where
  room : m.have_room ≡ nat_le (length all) most_symbols
  known : m.have_room ≡ true → m.symbols ≡ all

-- a table that has grown from this one
abbrev Continues : List QualifiedName → List QualifiedName → Type 0
Continues start now = (more : List QualifiedName) × (now ≡ start ++ more)

module _ (packages : List Package) (renaming : List (ℕ × ℕ)) (start : List QualifiedName) where
  beside_stays : (now : List QualifiedName) (m : Making) → Continues start now → m.0 < length start → symbol_beside packages renaming now m ≡ symbol_beside packages renaming start m
  beside_stays now m c l =
      ap (λ ss. symbol_beside packages renaming ss m) c.1 ∙ ap (λ (s : QualifiedName). symbol_in (package_called packages s.home) m.1) (symbol_stays start c.0 m.0 l)

  name_stays : (now : List QualifiedName) (q : QualifiedName) → Continues start now → AllByRecursion (λ (p : ℕ × ℕ). p.0 < length start) renaming
      → new_name packages renaming now q ≡ new_name packages renaming start q
  name_stays now q c h =
      ap (λ ss. new_name packages renaming ss q) c.1
      ∙ ap (option_map (λ (p : ℕ × ℕ). p.1)) (found_alike (λ (p : ℕ × ℕ). same_name (symbol_at (start ++ c.0) p.0) q) (λ (p : ℕ × ℕ). same_name (symbol_at start p.0) q) renaming
      (all_of (λ (p : ℕ × ℕ). p.0 < length start) _ (λ p l. ap (λ s. same_name s q) (symbol_stays start c.0 p.0 l)) renaming h))

  -- one name, and then the others
  name_step : (o : Option ℕ) (now rest : List QualifiedName) (q : QualifiedName) (go : List QualifiedName → MadeNames) → Continues start now → length now ≤ most_symbols
      → ((later : List QualifiedName) → Continues start later → length later ≤ most_symbols → HasNames (go later) (all_interned later rest))
      → HasNames (name_made packages renaming o now q go) (all_interned now (if is_some o then rest else q ∷ rest))
  name_step (Some n) now rest q go c l h = record { room = (h now c l).room; known = (h now c l).known }
  name_step None now rest q go c l h = by_test (is_known now q) (nat_lt (length now) most_symbols) refl
    where
      pushed : Continues start (now ++ q ∷ [])
      pushed = (c.0 ++ q ∷ [], ap (λ xs. xs ++ q ∷ []) c.1 ∙ append_assoc start c.0 (q ∷ []))

      by_test : (b d : Bool) → nat_lt (length now) most_symbols ≡ d
          → HasNames (if not b && not d then record { numbers = []; symbols = now; have_room = false } else with_number (number_then now q) (go (if b then now else now ++ q ∷ []))) (all_interned (if b then now else now ++ q ∷ []) rest)
      by_test true d e = record { room = (h now c l).room; known = (h now c l).known }
      by_test false true e =
          let fits : length (now ++ q ∷ []) ≤ most_symbols = room_for_one now q most_symbols e in
          record { room = (h (now ++ q ∷ []) pushed fits).room; known = (h (now ++ q ∷ []) pushed fits).known }
      by_test false false e = record { room = sym (lt-leb (length (all_interned (now ++ q ∷ []) rest)) most_symbols (none_for_one now rest q most_symbols e)); known = λ k. cc }

  names_have : (ms : List Making) (now : List QualifiedName) → Continues start now → length now ≤ most_symbols
      → AllByRecursion (λ (m : Making). m.0 < length start) ms → AllByRecursion (λ (p : ℕ × ℕ). p.0 < length start) renaming
      → HasNames (names_made packages renaming ms now) (all_interned now (symbols_named packages renaming start ms))
  unfolding names_made
  names_have [] now c l b r = record { room = sym (le-leb (length now) most_symbols l); known = λ k. refl }
  names_have (m ∷ ms) now c l b r =
      let q = symbol_beside packages renaming start m in
      subst (λ s. HasNames (name_made packages renaming (new_name packages renaming now s) now s (names_made packages renaming ms)) (all_interned now (symbols_named packages renaming start (m ∷ ms))))
      (sym (beside_stays now m c b.0))
      (subst (λ o. HasNames (name_made packages renaming o now q (names_made packages renaming ms)) (all_interned now (symbols_named packages renaming start (m ∷ ms))))
      (sym (name_stays now q c r))
      (name_step (new_name packages renaming start q) now (symbols_named packages renaming start ms) q (names_made packages renaming ms) c l
      (λ later d k. names_have ms later d k b.1 r)))

-- ---- the refusal

limit_when : (m : MadeNames) (all : List QualifiedName) → HasNames m all → (room_for m ≡ Some SymbolLimit) ↔ (most_symbols < length all)
limit_when m all h = go m.have_room h.room
  where
    go : (b : Bool) → b ≡ nat_le (length all) most_symbols → ((if b then None else Some SymbolLimit) ≡ Some SymbolLimit) ↔ (most_symbols < length all)
    go true e = (λ k. cc, λ l. absurd (not_both (length all) most_symbols (sym e) l))
    go false e = (λ k. leb-false (length all) most_symbols (sym e), λ l. refl)

room_when : (m : MadeNames) → room_for m ≡ None → m.have_room ≡ true
room_when m e = go m.have_room e
  where
    go : (b : Bool) → (if b then None else Some SymbolLimit) ≡ None → b ≡ true
    go true h = refl
    go false h = cc

-- ---- other refusals of a definition

in_use_is_other : (w : World) (ns : List ℕ) → name_in_use w ns ≢ Some SymbolLimit
unfolding name_in_use
in_use_is_other w [] e = cc
in_use_is_other w (s ∷ ss) e = go (is_in_use w ss s) e (in_use_is_other w ss)
  where
    go : (b : Bool) → (if b then Some (NameInUse s) else name_in_use w ss) ≡ Some SymbolLimit → name_in_use w ss ≢ Some SymbolLimit → ⊥
    go true h rest = cc
    go false h rest = rest h

mismatch_is_other : (o : Option ℕ) → option_map CongruenceMismatch o ≢ Some SymbolLimit
mismatch_is_other None e = cc
mismatch_is_other (Some k) e = cc

either_is_other : (a b : Option Refusal) → a ≢ Some SymbolLimit → b ≢ Some SymbolLimit → option_or a b ≢ Some SymbolLimit
either_is_other None b h k e = k e
either_is_other (Some r) b h k e = h e

granted_or_other : (r : Option Refusal) (d : Descriptor) (q after : Progress) → r ≢ Some SymbolLimit → unless r (Grants d) q ≢ Refuses SymbolLimit after
granted_or_other None d q after h e = cc
granted_or_other (Some r) d q after h e = h (ap Some (refusal_of e))
  where
    refusal_of : ◌≡◌ {A = EventResult Descriptor} (Refuses r q) (Refuses SymbolLimit after) → r ≡ SymbolLimit
    refusal_of k = cc

descriptor_is_other : (w : World) (d : Descriptor) (q after : Progress) → named_descriptor w d q ≢ Refuses SymbolLimit after
descriptor_is_other w d q after =
    granted_or_other (option_or (name_in_use w (new_names d)) (mismatch w d)) d q after (either_is_other (name_in_use w (new_names d)) (mismatch w d) (in_use_is_other w (new_names d)) (mismatch_is_other _))

object_when : (w : World) (packages : List Package) (o : WrittenStobj) (fields : List ShapedField) (p : Progress)
    → ((after : Progress) × (names_then w packages o fields p ≡ Refuses SymbolLimit after))
    ↔ (room_for (names_made packages o.renaming (stobj_makings p.symbols (symbol_or_nil o.name) fields) p.symbols) ≡ Some SymbolLimit)
object_when w packages o fields p = (λ s. there m.have_room s.0 s.1, λ e. (record p { symbols = m.symbols }, ap (λ r. unless r (named_descriptor w (descriptor_with o fields m.numbers)) (record p { symbols = m.symbols })) e))
  where
    m : MadeNames
    m = names_made packages o.renaming (stobj_makings p.symbols (symbol_or_nil o.name) fields) p.symbols

    there : (b : Bool) (after : Progress)
        → unless (if b then None else Some SymbolLimit) (named_descriptor w (descriptor_with o fields m.numbers)) (record p { symbols = m.symbols }) ≡ Refuses SymbolLimit after
        → (if b then None else Some SymbolLimit) ≡ Some SymbolLimit
    there true after e = absurd (descriptor_is_other w (descriptor_with o fields m.numbers) (record p { symbols = m.symbols }) after e)
    there false after e = refl

names_found : (packages : List Package) (renaming : List (ℕ × ℕ)) (symbols : List QualifiedName) (makings : List Making) → length symbols ≤ most_symbols → AreKnown symbols renaming makings
    → HasNames (names_made packages renaming makings symbols) (symbols_with packages renaming symbols makings)
names_found packages renaming symbols makings l k = names_have packages renaming symbols makings symbols ([], sym (append-nil symbols)) l k.beside k.renamed

pub symbol_limit_is_exact : SymbolLimitIsExact
symbol_limit_is_exact = record {
  refused = λ packages renaming symbols makings l k. limit_when _ _ (names_found packages renaming symbols makings l k);
  made = λ packages renaming symbols makings l k e. (names_found packages renaming symbols makings l k).known (room_when (names_made packages renaming makings symbols) e);
  stobj = λ w packages o fields p l k.
      let first = object_when w packages o fields p in
      let second = limit_when _ _ (names_found packages o.renaming p.symbols (stobj_makings p.symbols (symbol_or_nil o.name) fields) l k) in
      (λ s. second.0 (first.0 s), λ n. first.1 (second.1 n));
}
