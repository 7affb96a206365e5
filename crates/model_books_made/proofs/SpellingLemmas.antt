-- What a spelling spells: integers of 128 bits, and the symbols that it collects.
use Rattle.std.proofs.Common.{◌≡◌, ℕ, ◌<◌, List, [], ◌∷◌, ◌++◌, length, Bool, true, false, refl, subst}
use Rattle.std.specs.Prelude.{◌||◌, if◌then◌else◌}
use Rattle.model_objects.specs.Object.{Integer, Symbol, Text, Pair, fits_128, has_narrow_integers}
use Rattle.model_objects.specs.Named.{Symbols}
use Rattle.model_symbols.specs.Symbols.{QualifiedName}
use Rattle.model_symbols.specs.Opening.{quote_name, nil_name}
use Rattle.model_text.specs.Token.{Form, Packages}
use Rattle.model_text.specs.Backquote.{Template, Constant, Comma, CommaAt, Both, has_comma, form_of, expansion, pair_expansion, cons_name, append_name}
use Rattle.model_text.specs.Spelling.{Sort, AForm, ARest, Spells}
use Rattle.model_text.specs.Spelling as spelling
use Rattle.model_books_made.proofs.TokenLemmas.{IsHad, IsRight, token_right}

module _ (P : QualifiedName → Type 0) where
  -- integers are narrow, and the symbols have the property
  abbrev pub IsFit : Form → Type 0
  IsFit (Integer n) = fits_128 n ≡ true
  IsFit (Symbol s) = P s
  IsFit (Text bytes) = Unit {0}
  IsFit (Pair a d) = IsFit a × IsFit d

  pub fit_narrow : (f : Form) → IsFit f → has_narrow_integers f ≡ true
  fit_narrow (Integer n) h = h
  fit_narrow (Symbol s) h = refl
  fit_narrow (Text bytes) h = refl
  fit_narrow (Pair a d) h = rw (fit_narrow a h.0, fit_narrow d h.1) refl

  pub fit_symbols : (f : Form) → IsFit f → Symbols P f
  fit_symbols (Integer n) h = tt
  fit_symbols (Symbol s) h = h
  fit_symbols (Text bytes) h = tt
  fit_symbols (Pair a d) h = (fit_symbols a h.0, fit_symbols d h.1)

  abbrev IsFitTemplate : Template → Type 0
  IsFitTemplate (Constant f) = IsFit f
  IsFitTemplate (Comma f) = IsFit f
  IsFitTemplate (CommaAt f) = IsFit f
  IsFitTemplate (Both a d) = IsFitTemplate a × IsFitTemplate d

  pub fit_form : (t : Template) → IsFitTemplate t → IsFit (form_of t)
  fit_form (Constant f) h = h
  fit_form (Comma f) h = h
  fit_form (CommaAt f) h = h
  fit_form (Both a d) h = (fit_form a h.0, fit_form d h.1)

  -- the symbols that quotes and backquotes stand for
  pub record AreBuiltIn : Type 0 where
    pub quote : P quote_name
    pub nil : P nil_name
    pub cons : P cons_name
    pub append : P append_name

  module _ (b : AreBuiltIn) where
    fit_pair : (a : Template) (x d : Form) → IsFitTemplate a → IsFit x → IsFit d → IsFit (pair_expansion a x d)
    fit_pair (Constant f) x d h g k = (b.cons, (g, (k, b.nil)))
    fit_pair (Comma f) x d h g k = (b.cons, (g, (k, b.nil)))
    fit_pair (CommaAt f) x d h g k = (b.append, (h, (k, b.nil)))
    fit_pair (Both f c) x d h g k = (b.cons, (g, (k, b.nil)))

    fit_if : (c : Bool) (x y : Form) → IsFit x → IsFit y → IsFit (if c then x else y)
    fit_if true x y h g = h
    fit_if false x y h g = g

    fit_expansion : (t : Template) → IsFitTemplate t → IsFit (expansion t)
    fit_expansion (Constant f) h = (b.quote, (h, b.nil))
    fit_expansion (Comma f) h = h
    fit_expansion (CommaAt f) h = h
    fit_expansion (Both a d) h =
        fit_if (has_comma a || has_comma d) _ _ (fit_pair a (expansion a) (expansion d) h.0 (fit_expansion a h.0) (fit_expansion d h.1))
        (b.quote, ((fit_form a h.0, fit_form d h.1), b.nil))

-- each of them has the property
abbrev pub EachOne : {A : Type 0} → (A → Type 0) → List A → Type 0
EachOne R [] = Unit {0}
EachOne R (x ∷ xs) = R x × EachOne R xs

each_both : {A : Type 0} (R : A → Type 0) (xs ys : List A) → EachOne R xs → EachOne R ys → EachOne R (xs ++ ys)
each_both R [] ys h k = k
each_both R (x ∷ xs) ys h k = (h.0, each_both R xs ys h.1 k)

each_left : {A : Type 0} (R : A → Type 0) (xs ys : List A) → EachOne R (xs ++ ys) → EachOne R xs
each_left R [] ys h = tt
each_left R (x ∷ xs) ys h = (h.0, each_left R xs ys h.1)

each_right : {A : Type 0} (R : A → Type 0) (xs ys : List A) → EachOne R (xs ++ ys) → EachOne R ys
each_right R [] ys h = h
each_right R (x ∷ xs) ys h = each_right R xs ys h.1

module _ (k : Packages) (current : k.current < length k.all) where
  -- a known package has each symbol that a spelling collects
  pub names_had : (q : Bool) (sort : Sort) (bs : List ℕ) (t : Template) (names : List QualifiedName) (n : ℕ) → Spells k q sort bs t names n → EachOne (IsHad k.all) names
  names_had q sort bs t names n (spelling.integer p cs i h e) = tt
  names_had q sort bs t names n (spelling.symbol p cs s h e) = (subst (IsRight k.all) e (token_right k current cs), tt)
  names_had q sort bs t names n (spelling.string p cs held h) = tt
  names_had q sort bs t names n (spelling.quote p c gap cs u ms m g s) = names_had p (AForm c) cs u ms m s
  names_had q sort bs t names n (spelling.backquote c gap cs u ms m g s) = names_had true (AForm c) cs u ms m s
  names_had q sort bs t names n (spelling.comma c gap cs u ms m g a s) = names_had false (AForm c) cs u ms m s
  names_had q sort bs t names n (spelling.listed p cs u ms m s) = names_had p (ARest false) cs u ms m s
  names_had q sort bs t names n (spelling.close p b gap g) = tt
  names_had q sort bs t names n (spelling.element p b c gap cs rest u v ms more m m2 g s f s2) =
      each_both (IsHad k.all) ms more (names_had p (AForm c) cs u ms m s) (names_had p (ARest true) rest v more m2 s2)
  names_had q sort bs t names n (spelling.spliced b c gap inner cs rest u v ms more m m2 g i s f s2) =
      each_both (IsHad k.all) ms more (names_had false (AForm c) cs u ms m s) (names_had true (ARest true) rest v more m2 s2)
  names_had q sort bs t names n (spelling.dot p c gap inner cs last u ms m g i l s f f2) = names_had p (AForm c) cs u ms m s

  module _ (P : QualifiedName → Type 0) (b : AreBuiltIn P) where
    -- what holds of the symbols that a spelling collects holds of those that it spells
    pub spelled_fits : (q : Bool) (sort : Sort) (bs : List ℕ) (t : Template) (names : List QualifiedName) (n : ℕ) → Spells k q sort bs t names n → EachOne P names → IsFitTemplate P t
    spelled_fits q sort bs t names n (spelling.integer p cs i h e) all = subst (IsRight k.all) e (token_right k current cs)
    spelled_fits q sort bs t names n (spelling.symbol p cs s h e) all = all.0
    spelled_fits q sort bs t names n (spelling.string p cs held h) all = tt
    spelled_fits q sort bs t names n (spelling.quote p c gap cs u ms m g s) all = (b.quote, (spelled_fits p (AForm c) cs u ms m s all, b.nil))
    spelled_fits q sort bs t names n (spelling.backquote c gap cs u ms m g s) all = fit_expansion P b u (spelled_fits true (AForm c) cs u ms m s all)
    spelled_fits q sort bs t names n (spelling.comma c gap cs u ms m g a s) all = fit_form P u (spelled_fits false (AForm c) cs u ms m s all)
    spelled_fits q sort bs t names n (spelling.listed p cs u ms m s) all = spelled_fits p (ARest false) cs u ms m s all
    spelled_fits q sort bs t names n (spelling.close p c gap g) all = b.nil
    spelled_fits q sort bs t names n (spelling.element p d c gap cs rest u v ms more m m2 g s f s2) all =
        (spelled_fits p (AForm c) cs u ms m s (each_left P ms more all), spelled_fits p (ARest true) rest v more m2 s2 (each_right P ms more all))
    spelled_fits q sort bs t names n (spelling.spliced d c gap inner cs rest u v ms more m m2 g i s f s2) all =
        (fit_form P u (spelled_fits false (AForm c) cs u ms m s (each_left P ms more all)), spelled_fits true (ARest true) rest v more m2 s2 (each_right P ms more all))
    spelled_fits q sort bs t names n (spelling.dot p c gap inner cs last u ms m g i l s f f2) all = spelled_fits p (AForm c) cs u ms m s all
