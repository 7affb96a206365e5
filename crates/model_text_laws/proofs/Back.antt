-- What is printed is read back.
use Rattle.std.specs.Prelude.{◌≡◌, ℕ, ◌+◌, ◌≤◌, nat_le, max, List, [], ◌∷◌, ◌++◌, length, Bool, true, false, refl}
use Rattle.std.specs.Fmt.{signed_decimal}
use Rattle.std.proofs.Common.{sym, ap, ◌∙◌, arith, subst}
use Rattle.std.proofs.lemmas.Bool.{leb-true}
use Rattle.model_objects.specs.Object.{Integer, Symbol, Text, Pair, weight, max_weight, has_narrow_integers}
use Rattle.model_objects.specs.Named.{Symbols}
use Rattle.model_symbols.specs.Symbols.{QualifiedName, Package, interned, all_interned, is_known, is_one_too_many, same_name}
use Rattle.model_symbols.specs.Opening.{nil_name}
use Rattle.model_text.specs.Token.{Form}
use Rattle.model_text.specs.Backquote.{Template, Constant, Both, form_of}
use Rattle.model_text.specs.Text.{text, spelled, symbol_text, string_text, end_text, escaped}
use Rattle.model_text.specs.Spelling.{AForm, ARest, Follows, begins_apart, Spells}
use Rattle.model_text.specs.Spelling as spelling
use Rattle.model_text_laws.specs.Laws.{packages_of, have_room, IsReadable, nesting, ReadsBack, Stops}
use Rattle.model_text_laws.proofs.Names.{both}
use Rattle.model_text_laws.proofs.Found.{spelled_stands}
use Rattle.model_text_laws.proofs.Printed.{symbol_read, integer_read, string_quoted, same_is}

abbrev is_apart : Form → Bool
is_apart (Integer n) = true
is_apart (Symbol s) = true
is_apart (Text bytes) = false
is_apart (Pair a d) = false

abbrev template : Form → Template
template (Integer n) = Constant (Integer n)
template (Symbol s) = Constant (Symbol s)
template (Text bytes) = Constant (Text bytes)
template (Pair a d) = Both (template a) (template d)

template_form : (o : Form) → form_of (template o) ≡ o
template_form (Integer n) = refl
template_form (Symbol s) = refl
template_form (Text bytes) = refl
template_form (Pair a d) = rw (template_form a, template_form d) refl

-- symbols that are all known
abbrev AreKnown : List QualifiedName → List QualifiedName → Type 0
AreKnown symbols [] = Unit {0}
AreKnown symbols (s ∷ ss) = (is_known symbols s ≡ true) × AreKnown symbols ss

known_append : (symbols xs ys : List QualifiedName) → AreKnown symbols xs → AreKnown symbols ys → AreKnown symbols (xs ++ ys)
known_append symbols [] ys h g = g
known_append symbols (x ∷ xs) ys h g = (h.0, known_append symbols xs ys h.1 g)

known_stays : (symbols names : List QualifiedName) → AreKnown symbols names → (all_interned symbols names ≡ symbols) × (have_room symbols names ≡ true)
known_stays symbols [] h = (refl, refl)
known_stays symbols (s ∷ ss) h =
    let r = known_stays symbols ss h.1 in
    let e : interned symbols s ≡ symbols = rw h.0 refl in
    let m : is_one_too_many symbols s ≡ false = rw h.0 refl in (
      ap (λ (x : List QualifiedName). all_interned x ss) e ∙ r.0,
      rw (m, e) r.1,
    )

module _ (all : List Package) (current : ℕ) (symbols : List QualifiedName) where
  -- a text is the rest of a list that spells this
  record Rest (bs : List ℕ) (t : Template) (n : ℕ) : Type 0 where
    names : List QualifiedName
    spells : Spells (packages_of all current) false (ARest true) bs t names n
    known : AreKnown symbols names
    apart : begins_apart bs ≡ true

  -- the text of the object, and of the rest of a list that it is
  record Texts (o : Form) : Type 0 where
    names : List QualifiedName
    form : Spells (packages_of all current) false (AForm (is_apart o)) (spelled (packages_of all current) o false) (template o) names (nesting o false)
    known : AreKnown symbols names
    rest : Rest (spelled (packages_of all current) o true) (template o) (nesting o true)

  -- an atom behind a dot
  dotted_atom : (c : Bool) (bs : List ℕ) (t : Template) (names : List QualifiedName) → Spells (packages_of all current) false (AForm c) bs t names 0
      → Spells (packages_of all current) false (ARest true) (end_text false bs) t names 0
  dotted_atom c bs t names s =
      spelling.dot false c (32 ∷ []) (32 ∷ []) bs [] t names 0 (spelling.blank 32 [] refl spelling.nothing) (spelling.blank 32 [] refl spelling.nothing) spelling.nothing s refl (follows c) where
        follows : (c : Bool) → Follows c (41 ∷ [])
        follows true = refl
        follows false = tt

  symbol_rest : (s : QualifiedName) → Spells (packages_of all current) false (AForm true) (symbol_text (packages_of all current) s) (Constant (Symbol s)) (s ∷ []) 0
      → is_known symbols s ≡ true → (b : Bool) → same_name s nil_name ≡ b → Rest (end_text b (symbol_text (packages_of all current) s)) (Constant (Symbol s)) 0
  symbol_rest s f k true e = record {
    names = [];
    spells =
        let P : QualifiedName → Type 0 = λ t. Spells (packages_of all current) false (ARest true) (41 ∷ []) (Constant (Symbol t)) [] 0 in
        subst P (sym (same_is s nil_name e)) (spelling.close false true [] spelling.nothing);
    known = tt;
    apart = refl;
  }
  symbol_rest s f k false e = record { names = s ∷ []; spells = dotted_atom true (symbol_text (packages_of all current) s) (Constant (Symbol s)) (s ∷ []) f; known = (k, tt); apart = refl }

  follows_apart : (c : Bool) (bs : List ℕ) → begins_apart bs ≡ true → Follows c bs
  follows_apart false bs h = tt
  follows_apart true bs h = h

  text_spelled : (o : Form) → has_narrow_integers o ≡ true → Symbols (IsReadable all symbols) o → Texts o
  text_spelled (Integer n) v r =
      let q = integer_read (packages_of all current) n v in
      let s = spelling.integer false (signed_decimal n) n q.0 q.1 in
      record { names = []; form = s; known = tt; rest = record { names = []; spells = dotted_atom true (signed_decimal n) (Constant (Integer n)) [] s; known = tt; apart = refl } }
  text_spelled (Symbol s) v r =
      let q = symbol_read all current symbols s r in
      let f = spelling.symbol false (symbol_text (packages_of all current) s) s q.0 q.1 in
      record { names = s ∷ []; form = f; known = (r.known, tt); rest = symbol_rest s f r.known (same_name s nil_name) refl }
  text_spelled (Text bytes) v r =
      let s = spelling.string false (escaped 34 bytes ++ 34 ∷ []) bytes (string_quoted bytes) in
      record { names = []; form = s; known = tt; rest = record { names = []; spells = dotted_atom false (string_text bytes) (Constant (Text bytes)) [] s; known = tt; apart = refl } }
  text_spelled (Pair a d) v r =
      let k = packages_of all current in
      let vs = both (has_narrow_integers a) (has_narrow_integers d) v in
      let x = text_spelled a vs.0 r.0 in
      let y = (text_spelled d vs.1 r.1).rest in
      let w = follows_apart (is_apart a) (spelled k d true) y.apart in
      let names = x.names ++ y.names in
      let known = known_append symbols x.names y.names x.known y.known in
      let blank = spelling.blank 32 [] refl spelling.nothing in
      let a_text = spelled k a false in
      let d_text = spelled k d true in
      record {
        names = names;
        form = spelling.listed false (a_text ++ d_text) (Both (template a) (template d)) names (max (nesting a false) (nesting d true))
            (spelling.element false false (is_apart a) [] a_text d_text (template a) (template d) x.names y.names (nesting a false) (nesting d true) spelling.nothing x.form w y.spells);
        known = known;
        rest = record {
          names = names;
          spells = spelling.element false true (is_apart a) (32 ∷ []) a_text d_text (template a) (template d) x.names y.names (nesting a false) (nesting d true) blank x.form w y.spells;
          known = known;
          apart = refl;
        };
      }

pub reads_back : ReadsBack
reads_back all current symbols o offset b rest ended v r e deep short input =
    let bs = text all current o in
    let vs = both (has_narrow_integers o) (nat_le (weight o) max_weight) v in
    let x = text_spelled all current symbols o vs.0 r in
    let k = known_stays symbols x.names x.known in
    let light : weight o ≤ max_weight = leb-true (weight o) max_weight vs.1 in
    spelled_stands all current symbols offset (bs ++ b ∷ rest) ended o (offset + length bs) symbols
    (record {
      gap = [];
      text = bs;
      rest = b ∷ rest;
      apart = is_apart o;
      template = template o;
      names = x.names;
      depth = nesting o false;
      split = refl;
      blank = spelling.nothing;
      spells = x.form;
      form = template_form o;
      ends = omega arith;
      stops = stops (is_apart o);
      knows = sym k.0;
      deep = deep;
      short = short;
      input = omega (arith, input);
      light = light;
      room = k.1;
    }) where
      stops : (c : Bool) → Stops ended c (offset + length (text all current o)) (b ∷ rest)
      stops true = (e, omega (arith, input))
      stops false = tt
