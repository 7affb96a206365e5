-- Names that become known, one after another.
use Rattle.std.specs.Prelude.{◌≡◌, ℕ, ◌<◌, codes, List, [], ◌∷◌, ◌++◌, length, true, false, not, ◌&&◌, Some, is_some, nat_lt, refl}
use Rattle.std.proofs.Common.{sym, ap, ◌∙◌, subst, arith}
use Rattle.std.proofs.lemmas.List.{append_assoc}
use Rattle.model_symbols.specs.Symbols.{QualifiedName, Table, symbol_in, package_number, interned, is_known, is_one_too_many, most_symbols}
use Rattle.model_symbols.specs.Growth.{Extends}
use Rattle.model_symbols.specs.Tables.{symbol_under, IsTable}
use Rattle.model_symbols.proofs.NameLemmas.{symbol_at-is, symbol-at, number-known, is_known-is, interned-known}
use Rattle.model_symbols.proofs.TableLemmas.{Extends-self, Extends-then}
use Rattle.model_prims.specs.Applied.{package_or}
use Rattle.model_output_so_far.specs.Events.{beside, with_names, recognizer, creator, updater, field_names}
use Rattle.acl_syms.specs.Answers.{Interns}
use Rattle.acl_forms.specs.Growth.{symbol_later}
use Rattle.acl_base.specs.declared.SymId.{SymId}
use Rattle.acl_answers.specs.Views.{name_of, names_of}
use Rattle.acl_answers.specs.Whole.{IsKnown, AreKnown}
use Rattle.acl_answers.specs.Making.{Makes, IsFull}
use Rattle.std.proofs.lemmas.List.Elements.{All-nil}
use Rattle.acl_answers.proofs.AllLemmas.{all_first, all_rest, all_both, all_one, all_map}

-- the package of a symbol, by its number
beside_is : (t : Table) (s : QualifiedName) (p : ℕ) (name : List ℕ) → package_number t.packages s.home ≡ Some p → beside t.packages s name ≡ symbol_under t p name
beside_is t s p name e = ap (λ o. symbol_in (package_or t.packages s.home o) name) e

room_one : (symbols : List QualifiedName) (s : QualifiedName) (rest : List QualifiedName) → is_one_too_many symbols s ≡ false → with_names symbols (s ∷ rest) ≡ with_names (interned symbols s) rest
room_one symbols s rest e = rw e refl

full_here : (symbols : List QualifiedName) (s : QualifiedName) (rest : List QualifiedName) → is_one_too_many symbols s ≡ true → with_names symbols (s ∷ rest) ≡ record { symbols = symbols; is_full = true }
full_here symbols s rest e = rw e refl

-- the name beside a symbol has become known
pub made_one : (old new : Table) (s : QualifiedName) (p : ℕ) (name : List ℕ) (id : SymId) → package_number old.packages s.home ≡ Some p → Interns old new p name id.0 → id.0 < length new.symbols → Extends old new
    → Makes old new (beside old.packages s name ∷ []) (id ∷ [])
made_one old new s p name id e i k g =
    let b = beside_is old s p name e in
    record {
      grows = g;
      packages = ap (λ (t : Table). t.packages) i.table;
      room = λ rest. rw (b, i.table) (room_one old.symbols (symbol_under old p name) rest i.room);
      named = ap (λ (q : QualifiedName). q ∷ []) (symbol_at-is new.symbols id.0 (symbol_under old p name) i.number ∙ sym b);
      known = all_one (IsKnown new) id k;
    }

-- there was no room for it
pub full_one : (t : Table) (s : QualifiedName) (p : ℕ) (name : List ℕ) → package_number t.packages s.home ≡ Some p → is_one_too_many t.symbols (symbol_under t p name) ≡ true → IsFull t t (beside t.packages s name ∷ [])
full_one t s p name e full = record {
  grows = Extends-self t;
  packages = refl;
  room = λ rest. rw (beside_is t s p name e) (full_here t.symbols (symbol_under t p name) rest full);
}

-- a symbol that is known stays as it is
known_room : (t : Table) → IsTable t → (s : SymId) → IsKnown t s → (rest : List QualifiedName) → with_names t.symbols (name_of t s ∷ rest) ≡ with_names t.symbols rest
known_room t i s k rest =
    let n = number-known t.symbols (name_of t s) s.0 i.distinct (symbol-at t.symbols s.0 k) in
    let known : is_known t.symbols (name_of t s) ≡ true = is_known-is t.symbols (name_of t s) ∙ ap is_some n in
    let few : is_one_too_many t.symbols (name_of t s) ≡ false = ap (λ b. not b && not (nat_lt (length t.symbols) most_symbols)) known in
    room_one t.symbols (name_of t s) rest few ∙ ap (λ ss. with_names ss rest) (interned-known t.symbols (name_of t s) s.0 n)

pub made_known : (t : Table) → IsTable t → (s : SymId) → IsKnown t s → Makes t t (name_of t s ∷ []) (s ∷ [])
made_known t i s k = record { grows = Extends-self t; packages = refl; room = known_room t i s k; named = refl; known = all_one (IsKnown t) s k }

names_later : (a b : Table) → Extends a b → (ids : List SymId) → AreKnown a ids → names_of b ids ≡ names_of a ids
names_later a b g [] k = refl
names_later a b g (s ∷ ids) k = rw (symbol_later g s.0 (all_first (IsKnown a) s ids k), names_later a b g ids (all_rest (IsKnown a) s ids k)) refl

known_later : (a b : Table) → Extends a b → (ids : List SymId) → AreKnown a ids → AreKnown b ids
known_later a b g ids k = all_map (IsKnown a) (IsKnown b) (λ s l. omega (arith, g.longer, l)) ids k

names_both : (t : Table) (xs ys : List SymId) → names_of t (xs ++ ys) ≡ names_of t xs ++ names_of t ys
names_both t [] ys = refl
names_both t (x ∷ xs) ys = ap (λ (l : List QualifiedName). name_of t x ∷ l) (names_both t xs ys)

pub made_then : (a b c : Table) (xs ys : List QualifiedName) (is js : List SymId) → Makes a b xs is → Makes b c ys js → Makes a c (xs ++ ys) (is ++ js)
made_then a b c xs ys is js p q = record {
  grows = Extends-then p.grows q.grows;
  packages = q.packages ∙ p.packages;
  room = λ rest. ap (with_names a.symbols) (append_assoc xs ys rest) ∙ (p.room (ys ++ rest) ∙ q.room rest);
  named = names_both c is js ∙ (ap (λ (l : List QualifiedName). l ++ names_of c js) (names_later b c q.grows is p.known ∙ p.named) ∙ ap (λ (l : List QualifiedName). xs ++ l) q.named);
  known = all_both (IsKnown c) is js (known_later b c q.grows is p.known) q.known;
}

pub made_nothing : (t : Table) → Makes t t [] []
made_nothing t = record { grows = Extends-self t; packages = refl; room = λ rest. refl; named = refl; known = All-nil (IsKnown t) }

pub full_then : (a b c : Table) (xs ys : List QualifiedName) (is : List SymId) → Makes a b xs is → IsFull b c ys → IsFull a c (xs ++ ys)
full_then a b c xs ys is p q = record {
  grows = Extends-then p.grows q.grows;
  packages = q.packages ∙ p.packages;
  room = λ rest. ap (with_names a.symbols) (append_assoc xs ys rest) ∙ (p.room (ys ++ rest) ∙ q.room rest);
}

pub full_more : (a b : Table) (xs ys : List QualifiedName) → IsFull a b xs → IsFull a b (xs ++ ys)
full_more a b xs ys q = record { grows = q.grows; packages = q.packages; room = λ rest. ap (with_names a.symbols) (append_assoc xs ys rest) ∙ q.room (ys ++ rest) }

-- ---- the functions of a field, and of an object

-- the name of a symbol beside which another was made
same_later : (a b : Table) → Extends a b → b.packages ≡ a.packages → (s : SymId) → IsKnown a s → (name : List ℕ) → beside b.packages (name_of b s) name ≡ beside a.packages (name_of a s) name
same_later a b g p s k name = rw (p, symbol_later g s.0 k) refl

pub field_full : (t t' : Table) (f : QualifiedName) (name : List ℕ) → name ≡ f.name ++ codes "P" → IsFull t t' (beside t.packages f name ∷ []) → IsFull t t' (field_names t.packages f)
field_full t t' f name e q =
    full_more t t' (recognizer t.packages f ∷ []) (f ∷ updater t.packages f ∷ []) (subst (λ (n : List ℕ). IsFull t t' (beside t.packages f n ∷ [])) e q)

-- the recognizer and the field itself
field_made : (a b : Table) (f r : SymId) (name : List ℕ) → IsKnown a f → IsTable b → name ≡ (name_of a f).name ++ codes "P" → Makes a b (beside a.packages (name_of a f) name ∷ []) (r ∷ [])
    → Makes a b (recognizer a.packages (name_of a f) ∷ name_of a f ∷ []) (r ∷ f ∷ [])
field_made a b f r name k i e m =
    let P : List ℕ → Type 0 = λ n. Makes a b (beside a.packages (name_of a f) n ∷ []) (r ∷ []) in
    let known : Makes b b (name_of a f ∷ []) (f ∷ []) =
    subst (λ (q : QualifiedName). Makes b b (q ∷ []) (f ∷ [])) (symbol_later m.grows f.0 k) (made_known b i f (omega (arith, m.grows.longer, k))) in
    made_then a b b (recognizer a.packages (name_of a f) ∷ []) (name_of a f ∷ []) (r ∷ []) (f ∷ []) (subst P e m) known

pub updater_full : (a b c : Table) (f r : SymId) (name other : List ℕ) → IsKnown a f → IsTable b → name ≡ (name_of a f).name ++ codes "P" → other ≡ codes "UPDATE-" ++ (name_of a f).name
    → Makes a b (beside a.packages (name_of a f) name ∷ []) (r ∷ []) → IsFull b c (beside b.packages (name_of b f) other ∷ []) → IsFull a c (field_names a.packages (name_of a f))
updater_full a b c f r name other k i e g m q =
    let here = same_later a b m.grows m.packages f k other ∙ ap (beside a.packages (name_of a f)) g in
    full_then a b c (recognizer a.packages (name_of a f) ∷ name_of a f ∷ []) (updater a.packages (name_of a f) ∷ []) (r ∷ f ∷ []) (field_made a b f r name k i e m)
    (subst (λ (s : QualifiedName). IsFull b c (s ∷ [])) here q)

pub field_all : (a b c : Table) (f r u : SymId) (name other : List ℕ) → IsKnown a f → IsTable b → name ≡ (name_of a f).name ++ codes "P" → other ≡ codes "UPDATE-" ++ (name_of a f).name
    → Makes a b (beside a.packages (name_of a f) name ∷ []) (r ∷ []) → Makes b c (beside b.packages (name_of b f) other ∷ []) (u ∷ []) → Makes a c (field_names a.packages (name_of a f)) (r ∷ f ∷ u ∷ [])
field_all a b c f r u name other k i e g m q =
    let here = same_later a b m.grows m.packages f k other ∙ ap (beside a.packages (name_of a f)) g in
    made_then a b c (recognizer a.packages (name_of a f) ∷ name_of a f ∷ []) (updater a.packages (name_of a f) ∷ []) (r ∷ f ∷ []) (u ∷ []) (field_made a b f r name k i e m)
    (subst (λ (s : QualifiedName). Makes b c (s ∷ []) (u ∷ [])) here q)

-- an object's name and its recognizer
object_made : (a b : Table) (s r : SymId) (name : List ℕ) → IsKnown a s → IsTable a → name ≡ (name_of a s).name ++ codes "P" → Makes a b (beside a.packages (name_of a s) name ∷ []) (r ∷ [])
    → Makes a b (name_of a s ∷ recognizer a.packages (name_of a s) ∷ []) (s ∷ r ∷ [])
object_made a b s r name k i e m =
    let P : List ℕ → Type 0 = λ n. Makes a b (beside a.packages (name_of a s) n ∷ []) (r ∷ []) in
    made_then a a b (name_of a s ∷ []) (recognizer a.packages (name_of a s) ∷ []) (s ∷ []) (r ∷ []) (made_known a i s k) (subst P e m)

pub object_full : (a b : Table) (s : SymId) (name : List ℕ) → IsKnown a s → IsTable a → name ≡ (name_of a s).name ++ codes "P" → IsFull a b (beside a.packages (name_of a s) name ∷ [])
    → IsFull a b (name_of a s ∷ recognizer a.packages (name_of a s) ∷ creator a.packages (name_of a s) ∷ [])
object_full a b s name k i e q =
    let P : List ℕ → Type 0 = λ n. IsFull a b (beside a.packages (name_of a s) n ∷ []) in
    full_more a b (name_of a s ∷ recognizer a.packages (name_of a s) ∷ []) (creator a.packages (name_of a s) ∷ [])
    (full_then a a b (name_of a s ∷ []) (recognizer a.packages (name_of a s) ∷ []) (s ∷ []) (made_known a i s k) (subst P e q))

pub creator_full : (a b c : Table) (s r : SymId) (name other : List ℕ) → IsKnown a s → IsTable a → name ≡ (name_of a s).name ++ codes "P" → other ≡ codes "CREATE-" ++ (name_of a s).name
    → Makes a b (beside a.packages (name_of a s) name ∷ []) (r ∷ []) → IsFull b c (beside b.packages (name_of b s) other ∷ []) → IsFull a c (name_of a s ∷ recognizer a.packages (name_of a s) ∷ creator a.packages (name_of a s) ∷ [])
creator_full a b c s r name other k i e g m q =
    let here = same_later a b m.grows m.packages s k other ∙ ap (beside a.packages (name_of a s)) g in
    full_then a b c (name_of a s ∷ recognizer a.packages (name_of a s) ∷ []) (creator a.packages (name_of a s) ∷ []) (s ∷ r ∷ []) (object_made a b s r name k i e m)
    (subst (λ (q : QualifiedName). IsFull b c (q ∷ [])) here q)

pub object_all : (a b c : Table) (s r u : SymId) (name other : List ℕ) → IsKnown a s → IsTable a → name ≡ (name_of a s).name ++ codes "P" → other ≡ codes "CREATE-" ++ (name_of a s).name
    → Makes a b (beside a.packages (name_of a s) name ∷ []) (r ∷ []) → Makes b c (beside b.packages (name_of b s) other ∷ []) (u ∷ [])
    → Makes a c (name_of a s ∷ recognizer a.packages (name_of a s) ∷ creator a.packages (name_of a s) ∷ []) (s ∷ r ∷ u ∷ [])
object_all a b c s r u name other k i e g m q =
    let here = same_later a b m.grows m.packages s k other ∙ ap (beside a.packages (name_of a s)) g in
    made_then a b c (name_of a s ∷ recognizer a.packages (name_of a s) ∷ []) (creator a.packages (name_of a s) ∷ []) (s ∷ r ∷ []) (u ∷ []) (object_made a b s r name k i e m)
    (subst (λ (q : QualifiedName). Makes b c (q ∷ []) (u ∷ [])) here q)
