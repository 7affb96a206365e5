-- Names that are made in a loop.
use Rattle.std.specs.Prelude.{◌≡◌, ℕ, ◌+◌, ◌<◌, List, [], ◌∷◌, ◌++◌, length, map, refl}
use Rattle.std.proofs.Common.{sym, ap, ◌∙◌, append_assoc, subst, arith}
use Rattle.std.proofs.lemmas.List.{append-nil}
use Rattle.model_symbols.specs.Symbols.{QualifiedName, Package, Table, symbol_at}
use Rattle.model_symbols.specs.Growth.{Extends}
use Rattle.model_expansion.specs.Forms.{symbol_name}
use Rattle.model_stobjs.specs.Descriptors.{Making}
use Rattle.acl_base.specs.declared.SymId.{SymId}
use Rattle.acl_forms.specs.Growth.{symbol_later}
use Rattle.acl_stobj.specs.declared.making.Unmade.{Unmade}
use Rattle.acl_stobj.specs.declared.making.Unmade.TheVariants as unmade
use Rattle.acl_stobj.specs.declared.texts.Purpose.{Purpose}
use Rattle.acl_stobj.specs.Texts.{text_of, makings_of}
use Rattle.acl_stobj.specs.Making.{AreMade, IsPart, UnmadeBy, AreMaking}
use Rattle.acl_stobj.proofs.MakingLemmas.{none_made, made_then, part_first, part_made, unmade_then, unmade_first}

module _ (packages : List Package) (ren : List (ℕ × ℕ)) where
  pub making_starts : (all : List Making) (old : List QualifiedName) → AreMaking packages ren all old [] all old
  making_starts all old = record { done = []; whole = refl; made = record { is = none_made packages ren old } }

  pub making_more : (all ms rest : List Making) (old now new : List QualifiedName) (xs ys : List ℕ) → AreMaking packages ren all old xs (ms ++ rest) now → AreMade packages ren ms now ys new
      → AreMaking packages ren all old (xs ++ ys) rest new
  making_more all ms rest old now new xs ys g m = record {
    done = g.done ++ ms;
    whole = append_assoc g.done ms rest ∙ g.whole;
    made = made_then packages ren g.done ms old now new xs ys g.made m;
  }

  pub making_ends : (all : List Making) (old now : List QualifiedName) (xs : List ℕ) → AreMaking packages ren all old xs [] now → AreMade packages ren all old xs now
  making_ends all old now xs g = subst (λ ms. AreMade packages ren ms old xs now) (sym (append-nil g.done) ∙ g.whole) g.made

  pub making_fails : (all ms rest : List Making) (old now new : List QualifiedName) (xs : List ℕ) (u : Unmade) → AreMaking packages ren all old xs (ms ++ rest) now → UnmadeBy packages ren ms now new u
      → UnmadeBy packages ren all old new u
  making_fails all ms rest old now new xs u g f =
      subst (λ ls. UnmadeBy packages ren ls old new u) g.whole
      (unmade_then packages ren g.done (ms ++ rest) old now new xs u g.made (unmade_first packages ren ms rest now new u f))

  pub making_refused : (all rest : List Making) (old now : List QualifiedName) (xs : List ℕ) → AreMaking packages ren all old xs rest now → IsPart packages ren all old now
  making_refused all rest old now xs g = subst (λ ls. IsPart packages ren ls old now) g.whole (part_first packages ren g.done rest old now (part_made packages ren g.done old now xs g.made))

pushed_length : (xs : List SymId) (x : SymId) → length (xs ++ x ∷ []) ≡ length xs + 1
pushed_length [] x = refl
pushed_length (y ∷ ys) x = let q : length (ys ++ x ∷ []) ≡ length ys + 1 = pushed_length ys x in omega (arith, q)

pub many_more : (names new : List SymId) (x : SymId) (p : Purpose) (rest others : List Purpose) (n : ℕ) → length names + length rest ≡ n → rest ≡ p ∷ others → new ≡ names ++ x ∷ [] → length new + length others ≡ n
many_more names new x p rest others n g e i =
    let l : length names + length (p ∷ others) ≡ n = rw e at g in
    let m : length new ≡ length names + 1 = ap length i ∙ pushed_length names x in
    omega (arith, l, m)

-- ---- a name by its text

module _ (packages : List Package) (ren : List (ℕ × ℕ)) (old new : List QualifiedName) (s : ℕ) (p : Purpose) (name text : List ℕ) where
  one_text : name ≡ symbol_name old s → text ≡ text_of p name → (s, text) ∷ [] ≡ makings_of old s (p ∷ [])
  one_text e f = ap (λ xs. (s, xs) ∷ []) (f ∙ ap (text_of p) e)

  pub text_made : (xs : List ℕ) → name ≡ symbol_name old s → text ≡ text_of p name → AreMade packages ren ((s, text) ∷ []) old xs new → AreMade packages ren (makings_of old s (p ∷ [])) old xs new
  text_made xs e f m = subst (λ ms. AreMade packages ren ms old xs new) (one_text e f) m

  pub text_unmade : (u : Unmade) → name ≡ symbol_name old s → text ≡ text_of p name → UnmadeBy packages ren ((s, text) ∷ []) old new u → UnmadeBy packages ren (makings_of old s (p ∷ [])) old new u
  text_unmade u e f m = subst (λ ms. UnmadeBy packages ren ms old new u) (one_text e f) m

-- ---- the names of one symbol

pub same_makings : (old now : Table) (s : ℕ) (ps : List Purpose) → Extends old now → s < length old.symbols → makings_of now.symbols s ps ≡ makings_of old.symbols s ps
same_makings old now s ps g l = ap (λ (q : QualifiedName). map (λ p. (s, text_of p q.name)) ps) (symbol_later g s l)

module _ (ren : List (ℕ × ℕ)) (old now : Table) (s : ℕ) (p : Purpose) (rest others all : List Purpose) (xs : List ℕ) where
  split : rest ≡ p ∷ others → AreMaking old.packages ren (makings_of old.symbols s all) old.symbols xs (makings_of old.symbols s rest) now.symbols
      → AreMaking old.packages ren (makings_of old.symbols s all) old.symbols xs (makings_of old.symbols s (p ∷ []) ++ makings_of old.symbols s others) now.symbols
  split e g = subst (λ ps. AreMaking old.packages ren (makings_of old.symbols s all) old.symbols xs (makings_of old.symbols s ps) now.symbols) e g

  pub names_more : (new : Table) (x : ℕ) → Extends old now → s < length old.symbols → now.packages ≡ old.packages
      → AreMaking old.packages ren (makings_of old.symbols s all) old.symbols xs (makings_of old.symbols s rest) now.symbols → rest ≡ p ∷ others
      → AreMade now.packages ren (makings_of now.symbols s (p ∷ [])) now.symbols (x ∷ []) new.symbols
      → AreMaking old.packages ren (makings_of old.symbols s all) old.symbols (xs ++ x ∷ []) (makings_of old.symbols s others) new.symbols
  names_more new x grown l k g e m =
      let here : AreMade old.packages ren (makings_of old.symbols s (p ∷ [])) now.symbols (x ∷ []) new.symbols =
      subst (λ ms. AreMade old.packages ren ms now.symbols (x ∷ []) new.symbols) (same_makings old now s (p ∷ []) grown l)
      (subst (λ ps. AreMade ps ren (makings_of now.symbols s (p ∷ [])) now.symbols (x ∷ []) new.symbols) k m) in
      making_more old.packages ren (makings_of old.symbols s all) (makings_of old.symbols s (p ∷ [])) (makings_of old.symbols s others) old.symbols now.symbols new.symbols xs (x ∷ []) (split e g) here

  pub names_fail : (new : Table) (u : Unmade) → Extends old now → s < length old.symbols → now.packages ≡ old.packages
      → AreMaking old.packages ren (makings_of old.symbols s all) old.symbols xs (makings_of old.symbols s rest) now.symbols → rest ≡ p ∷ others
      → UnmadeBy now.packages ren (makings_of now.symbols s (p ∷ [])) now.symbols new.symbols u → UnmadeBy old.packages ren (makings_of old.symbols s all) old.symbols new.symbols u
  names_fail new u grown l k g e f =
      let here : UnmadeBy old.packages ren (makings_of old.symbols s (p ∷ [])) now.symbols new.symbols u =
      subst (λ ms. UnmadeBy old.packages ren ms now.symbols new.symbols u) (same_makings old now s (p ∷ []) grown l)
      (subst (λ ps. UnmadeBy ps ren (makings_of now.symbols s (p ∷ [])) now.symbols new.symbols u) k f) in
      making_fails old.packages ren (makings_of old.symbols s all) (makings_of old.symbols s (p ∷ [])) (makings_of old.symbols s others) old.symbols now.symbols new.symbols xs u (split e g) here

  -- where memory was refused once the name was made
  pub names_refused : (new : Table) (x : ℕ) → Extends old now → s < length old.symbols → now.packages ≡ old.packages
      → AreMaking old.packages ren (makings_of old.symbols s all) old.symbols xs (makings_of old.symbols s rest) now.symbols → rest ≡ p ∷ others
      → AreMade now.packages ren (makings_of now.symbols s (p ∷ [])) now.symbols (x ∷ []) new.symbols → IsPart old.packages ren (makings_of old.symbols s all) old.symbols new.symbols
  names_refused new x grown l k g e m =
      making_refused old.packages ren (makings_of old.symbols s all) (makings_of old.symbols s others) old.symbols new.symbols (xs ++ x ∷ []) (names_more new x grown l k g e m)

pub names_end : (ren : List (ℕ × ℕ)) (old now : Table) (s : ℕ) (rest all : List Purpose) (xs : List ℕ)
    → AreMaking old.packages ren (makings_of old.symbols s all) old.symbols xs (makings_of old.symbols s rest) now.symbols → rest ≡ []
    → AreMade old.packages ren (makings_of old.symbols s all) old.symbols xs now.symbols
names_end ren old now s rest all xs g e =
    making_ends old.packages ren (makings_of old.symbols s all) old.symbols now.symbols xs
    (subst (λ ps. AreMaking old.packages ren (makings_of old.symbols s all) old.symbols xs (makings_of old.symbols s ps) now.symbols) e g)
