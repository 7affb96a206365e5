-- What was read stays read as packages and symbols grow.
use Rattle.std.specs.Prelude.{◌≡◌, ℕ, ◌+◌, ◌-◌, ◌==◌, nat_lt, nat_le, List, [], ◌∷◌, ◌++◌, length, map, Bool, true, false, ◌&&◌, ◌||◌, if◌then◌else◌, refl, Option, Some, None, ℤ}
use Rattle.std.specs.Char.{to_ascii_uppercase}
use Rattle.std.specs.List.{list_any}
use Rattle.std.specs.Str.{bytes_eq}
use Rattle.std.proofs.Common.{sym, ap, ◌∙◌, subst}
use Rattle.model_objects.specs.Object.{Integer, Symbol, Text, weight, max_weight}
use Rattle.model_symbols.specs.Symbols.{QualifiedName, interned, is_known, is_one_too_many, package_number, symbol_in, same_name}
use Rattle.model_symbols.specs.Opening.{hidden}
use Rattle.model_text.specs.Token.{Form, Packages, is_empty, is_bar, is_graphic, ends_token, Token, Number, Name, Wrong, token_of, with_room, Written, Plainly, Within, Wrongly, written, written_token, numbered_token, nameable, letters, Outside, number_token, other_token, bare_token, integer_of, is_ratio, is_float, are_dots}
use Rattle.model_text.specs.Token as token
use Rattle.model_text.specs.Parts.{Lexeme, Atom, Open, Close, Dot, Quote, Backquote, Part, Put, Parts, Whole, Bad, full_dot, unless_full, in_backquote, put}
use Rattle.model_text.specs.Parts as lexeme
use Rattle.model_text.specs.Next.{Inside, Free, Bars, BarsEscape, String, StringEscape, Line, Block, BlockHash, BlockBar, AfterComma, State, Step, Goes, Gives, Fails, after, first_of, has_room, counted, goes_on, placed, token_put, token_ended, letter, is_open_question, comma_begun, comma_ended, mark, free_byte, string_byte, in_block, block_ended, taken_inside, taken, if_in_input, is_after_comma, step, run, nothing_read, most_input}
use Rattle.std.proofs.lemmas.Slice.Eq.{bytes_eq-Decides}
use Rattle.model_text_laws.specs.Laws.{Grow, Knows_more, with_symbols, StaysRead}
use Rattle.model_text_laws.proofs.Going.{st}
use Rattle.model_text_laws.proofs.Names.{any_append}
use Rattle.model_text.specs.declared.TextCause.TheVariants.{BadToken, TooManySymbols, FormTooLong, TooLarge}

abbrev seen : List QualifiedName → Step → Step
seen symbols (Goes t) = Goes (with_symbols symbols t)
seen symbols (Gives f n known) = Gives f n symbols
seen symbols (Fails c n) = Fails c n

-- the bytes' effect does not depend on the symbols
counted_seen : (symbols : List QualifiedName) (x : Put) (i : Inside) (held : List ℕ) (n : ℕ) (s : State) → counted x i held n (with_symbols symbols s) ≡ seen symbols (counted x i held n s)
counted_seen symbols (Parts ps) i held n s = go (has_room s n) where
  go : (r : Bool) → (if r then Goes (record { parts = ps; inside = i; token = held; at = n + 1; first = first_of s; symbols = symbols }) else Fails FormTooLong n)
      ≡ seen symbols (if r then Goes (record { parts = ps; inside = i; token = held; at = n + 1; first = first_of s; symbols = s.symbols }) else Fails FormTooLong n)
  go true = refl
  go false = refl
counted_seen symbols (Whole f) i held n s = go (has_room s n) (nat_le (weight f) max_weight) where
  go : (r w : Bool) → (if r then (if w then Gives f (n + 1) symbols else Fails TooLarge (first_of s)) else Fails FormTooLong n)
      ≡ seen symbols (if r then (if w then Gives f (n + 1) s.symbols else Fails TooLarge (first_of s)) else Fails FormTooLong n)
  go true true = refl
  go true false = refl
  go false w = refl
counted_seen symbols (Bad c k) i held n s = refl

pick : (symbols : List QualifiedName) (b : Bool) (r q r2 q2 : Step) → r2 ≡ seen symbols r → q2 ≡ seen symbols q → (if b then r2 else q2) ≡ seen symbols (if b then r else q)
pick symbols true r q r2 q2 h g = h
pick symbols false r q r2 q2 h g = g

letter_seen : (symbols : List QualifiedName) (b : ℕ) (s : State) → letter b (with_symbols symbols s) ≡ seen symbols (letter b s)
letter_seen symbols b s =
    pick symbols (bytes_eq s.token (35 ∷ []) && is_bar b) _ _ _ _ (counted_seen symbols (Parts s.parts) (Block 1) [] s.at s)
    (pick symbols (is_open_question s.token b) _ _ _ _ (counted_seen symbols (Parts s.parts) Free (s.token ++ b ∷ []) s.at s)
    (counted_seen symbols (unless_full (full_dot s.parts) (Parts s.parts)) (if is_bar b then Bars else Free) (s.token ++ b ∷ []) s.at s))

comma_seen : (symbols : List QualifiedName) (s : State) → comma_begun (with_symbols symbols s) ≡ seen symbols (comma_begun s)
comma_seen symbols s = go (full_dot s.parts) refl (in_backquote s.parts) refl where
  go : (d : Option ℕ) → full_dot s.parts ≡ d → (q : Bool) → in_backquote s.parts ≡ q → comma_begun (with_symbols symbols s) ≡ seen symbols (comma_begun s)
  go None e true f = rw (e, f) refl
  go None e false f = rw (e, f) refl
  go (Some n) e q f = rw e refl

mark_seen : (symbols : List QualifiedName) (b : ℕ) (s : State) → mark b (with_symbols symbols s) ≡ seen symbols (mark b s)
mark_seen symbols b s =
    pick symbols (b == 40) _ _ _ _ (counted_seen symbols (put Open s.at s.parts) Free [] s.at s)
    (pick symbols (b == 41) _ _ _ _ (counted_seen symbols (put Close s.at s.parts) Free [] s.at s)
    (pick symbols (b == 39) _ _ _ _ (counted_seen symbols (put Quote s.at s.parts) Free [] s.at s)
    (pick symbols (b == 96) _ _ _ _ (counted_seen symbols (put Backquote s.at s.parts) Free [] s.at s)
    (pick symbols (b == 44) _ _ _ _ (comma_seen symbols s)
    (pick symbols (b == 34) _ _ _ _ (counted_seen symbols (unless_full (full_dot s.parts) (Parts s.parts)) String [] s.at s)
    (pick symbols (b == 59) _ _ _ _ (counted_seen symbols (Parts s.parts) Line [] s.at s) (counted_seen symbols (Parts s.parts) Free [] s.at s)))))))

-- ---- tokens

abbrev is_right : Token → Bool
is_right token.Dot = true
is_right (Number n) = true
is_right (Name s) = true
is_right (Wrong c) = false

written_later : (k l : Packages) → Grow k l → (w : Written) → is_right (written_token k w) ≡ true → written_token l w ≡ written_token k w
written_later k l g (Plainly name) h = ap (λ p. Name (symbol_in p name)) g.current
written_later k l g (Within home name) h = go (bytes_eq home hidden) (package_number k.all home) refl h where
  go : (x : Bool) (n : Option ℕ) → package_number k.all home ≡ n → is_right (numbered_token k (if x then None else n) name) ≡ true
      → numbered_token l (if x then None else package_number l.all home) name ≡ numbered_token k (if x then None else n) name
  go true n e h = cc
  go false None e h = cc
  go false (Some n) e h = ap (λ o. numbered_token l o name) (g.number home n e) ∙ ap (λ p. Name (symbol_in p name)) (g.package_same home n e)
written_later k l g Wrongly h = refl

token_later : (k l : Packages) → Grow k l → (bs : List ℕ) → is_right (token_of k bs) ≡ true → token_of l bs ≡ token_of k bs
unfolding token_of
token_later k l g bs h = go (list_any is_bar bs) h where
  ups : List ℕ
  ups = map to_ascii_uppercase bs

  other : (x y : Bool) → is_right (if x then token.Dot else (if y then Wrong BadToken else written_token k (written (letters Outside ups)))) ≡ true
      → (if x then token.Dot else (if y then Wrong BadToken else written_token l (written (letters Outside ups)))) ≡ (if x then token.Dot else (if y then Wrong BadToken else written_token k (written (letters Outside ups))))
  other true y h = refl
  other false true h = refl
  other false false h = written_later k l g (written (letters Outside ups)) h

  bare : (n : Option ℤ) → is_right (bare_token k ups n) ≡ true → bare_token l ups n ≡ bare_token k ups n
  bare None h = other (bytes_eq ups (46 ∷ [])) (is_ratio ups || (is_float ups || are_dots ups)) h
  bare (Some n) h = refl

  go : (x : Bool) → is_right (if x then written_token k (written (letters Outside bs)) else bare_token k ups (integer_of ups)) ≡ true
      → (if x then written_token l (written (letters Outside bs)) else bare_token l ups (integer_of ups)) ≡ (if x then written_token k (written (letters Outside bs)) else bare_token k ups (integer_of ups))
  go true h = written_later k l g (written (letters Outside bs)) h
  go false h = bare (integer_of ups) h

-- ---- steps

-- the same step, where all that it makes known is known already
abbrev Later : List QualifiedName → Step → Step → Type 0
Later symbols (Goes t) r = Knows_more t.symbols symbols → r ≡ Goes (with_symbols symbols t)
Later symbols (Gives f n known) r = Unit {0}
Later symbols (Fails c n) r = Unit {0}

-- nothing is forgotten
abbrev Keeps : List QualifiedName → Step → Type 0
Keeps symbols (Goes t) = Knows_more symbols t.symbols
Keeps symbols (Gives f n known) = Unit {0}
Keeps symbols (Fails c n) = Unit {0}

seen_later : (symbols : List QualifiedName) (r q : Step) → q ≡ seen symbols r → Later symbols r q
seen_later symbols (Goes t) q e = λ k. e
seen_later symbols (Gives f n known) q e = tt
seen_later symbols (Fails c n) q e = tt

symbols_of : Step → List QualifiedName
symbols_of (Goes t) = t.symbols
symbols_of (Gives f n known) = known
symbols_of (Fails c n) = []

seen_keeps : (symbols : List QualifiedName) (r : Step) → r ≡ seen symbols r → Keeps symbols r
unfolding symbols_of
seen_keeps symbols (Goes t) e = λ s h. subst (λ (l : List QualifiedName). is_known l s ≡ true) (sym (ap symbols_of e)) h
seen_keeps symbols (Gives f n known) e = tt
seen_keeps symbols (Fails c n) e = tt

after_later : (symbols : List QualifiedName) (r q : Step) (f g : State → Step) → Later symbols r q → ((t : State) → Later symbols (f t) (g (with_symbols symbols t))) → ((t : State) → Keeps t.symbols (f t))
    → Later symbols (after r f) (after q g)
after_later symbols (Goes t) q f g h k m = go (f t) (k t) (m t) where
  go : (u : Step) → Later symbols u (g (with_symbols symbols t)) → Keeps t.symbols u → Later symbols u (after q g)
  go (Goes u) a b = λ s. ap (λ x. after x g) (h (λ y i. s y (b y i))) ∙ a s
  go (Gives o n known) a b = tt
  go (Fails c n) a b = tt
after_later symbols (Gives o n known) q f g h k m = tt
after_later symbols (Fails c n) q f g h k m = tt

after_keeps : (symbols : List QualifiedName) (r : Step) (f : State → Step) → Keeps symbols r → ((t : State) → Keeps t.symbols (f t)) → Keeps symbols (after r f)
after_keeps symbols (Goes t) f h k = go (f t) (k t) where
  go : (u : Step) → Keeps t.symbols u → Keeps symbols u
  go (Goes u) a = λ s i. a s (h s i)
  go (Gives o n known) a = tt
  go (Fails c n) a = tt
after_keeps symbols (Gives o n known) f h k = tt
after_keeps symbols (Fails c n) f h k = tt

itself : (symbols : List QualifiedName) → Knows_more symbols symbols
itself symbols s h = h

placed_keeps : (x : Put) (symbols : List QualifiedName) (s : State) → Keeps symbols (placed x symbols s)
placed_keeps (Parts ps) symbols s = itself symbols
placed_keeps (Whole f) symbols s = go (nat_le (weight f) max_weight) where
  go : (b : Bool) → Keeps symbols (if b then Gives f s.at symbols else Fails TooLarge s.first)
  go true = tt
  go false = tt
placed_keeps (Bad c n) symbols s = tt

placed_later : (symbols : List QualifiedName) (x : Put) (old : List QualifiedName) (s : State) → Later symbols (placed x old s) (placed x symbols (with_symbols symbols s))
placed_later symbols (Parts ps) old s = λ k. refl
placed_later symbols (Whole f) old s = go (nat_le (weight f) max_weight) where
  go : (b : Bool) → Later symbols (if b then Gives f s.at old else Fails TooLarge s.first) (if b then Gives f s.at symbols else Fails TooLarge s.first)
  go true = tt
  go false = tt
placed_later symbols (Bad c n) old s = tt

same_self : (s : QualifiedName) → same_name s s ≡ true
same_self s = rw ((bytes_eq-Decides s.home s.home).1 refl, (bytes_eq-Decides s.name s.name).1 refl) refl

or_true : (b : Bool) → (b || true) ≡ true
or_true true = refl
or_true false = refl

known_self : (symbols : List QualifiedName) (s : QualifiedName) → is_known (interned symbols s) s ≡ true
known_self symbols s = go (is_known symbols s) refl where
  go : (b : Bool) → is_known symbols s ≡ b → is_known (if b then symbols else symbols ++ s ∷ []) s ≡ true
  go true e = e
  go false e = any_append (same_name s) symbols (s ∷ []) ∙ (rw (same_self s) (or_true (is_known symbols s)))

known_more : (symbols : List QualifiedName) (s : QualifiedName) → Knows_more symbols (interned symbols s)
known_more symbols s t h = go (is_known symbols s) where
  go : (b : Bool) → is_known (if b then symbols else symbols ++ s ∷ []) t ≡ true
  go true = h
  go false = any_append (same_name t) symbols (s ∷ []) ∙ (rw h refl)

name_later : (symbols : List QualifiedName) (q : QualifiedName) (start : ℕ) (s : State) (p : Put) → put (Atom (Symbol q)) start s.parts ≡ p
    → Later symbols (placed p (interned s.symbols q) s) (token_put (with_room symbols (Name q)) start (with_symbols symbols s))
name_later symbols q start s (Parts ps) e = λ k.
    let known = k q (known_self s.symbols q) in
    let few : is_one_too_many symbols q ≡ false = rw known refl in
    let same : interned symbols q ≡ symbols = rw known refl in
    ap (λ (b : Bool). token_put (if b then Wrong TooManySymbols else Name q) start (with_symbols symbols s)) few
    ∙ (ap (λ p. placed p (interned symbols q) (with_symbols symbols s)) e
    ∙ ap (λ (l : List QualifiedName). Goes (st ps Free [] s.at s.first l)) same)
name_later symbols q start s (Whole f) e = go (nat_le (weight f) max_weight) where
  go : (b : Bool) → Later symbols (if b then Gives f s.at (interned s.symbols q) else Fails TooLarge s.first) (token_put (with_room symbols (Name q)) start (with_symbols symbols s))
  go true = tt
  go false = tt
name_later symbols q start s (Bad c n) e = tt

token_put_later : (k l : Packages) → Grow k l → (symbols : List QualifiedName) (held : List ℕ) (start : ℕ) (s : State)
    → Later symbols (token_put (with_room s.symbols (token_of k held)) start s) (token_put (with_room symbols (token_of l held)) start (with_symbols symbols s))
token_put_later k l g symbols held start s = go (token_of k held) refl where
  same : (x : Token) → token_of k held ≡ x → is_right x ≡ true → token_of l held ≡ x
  same x e h = token_later k l g held (ap is_right e ∙ h) ∙ e

  as_same : (x : Token) → token_of l held ≡ x → (r : Step) → Later symbols r (token_put (with_room symbols x) start (with_symbols symbols s))
      → Later symbols r (token_put (with_room symbols (token_of l held)) start (with_symbols symbols s))
  as_same x e r h = subst (λ y. Later symbols r (token_put (with_room symbols y) start (with_symbols symbols s))) (sym e) h

  go : (x : Token) → token_of k held ≡ x → Later symbols (token_put (with_room s.symbols x) start s) (token_put (with_room symbols (token_of l held)) start (with_symbols symbols s))
  go token.Dot e = as_same token.Dot (same token.Dot e refl) (placed (put Dot start s.parts) s.symbols s) (placed_later symbols (put Dot start s.parts) s.symbols s)
  go (Number n) e = as_same (Number n) (same (Number n) e refl) (placed (put (Atom (Integer n)) start s.parts) s.symbols s) (placed_later symbols (put (Atom (Integer n)) start s.parts) s.symbols s)
  go (Name q) e = as_same (Name q) (same (Name q) e refl) (token_put (with_room s.symbols (Name q)) start s) (few (is_one_too_many s.symbols q)) where
    few : (b : Bool) → Later symbols (token_put (if b then Wrong TooManySymbols else Name q) start s) (token_put (with_room symbols (Name q)) start (with_symbols symbols s))
    few true = tt
    few false = name_later symbols q start s (put (Atom (Symbol q)) start s.parts) refl
  go (Wrong c) e = tt

token_put_keeps : (symbols : List QualifiedName) (x : Token) (start : ℕ) (s : State) → s.symbols ≡ symbols → Keeps symbols (token_put (with_room symbols x) start s)
token_put_keeps symbols token.Dot start s e = subst (λ (l : List QualifiedName). Keeps l (placed (put Dot start s.parts) s.symbols s)) e (placed_keeps (put Dot start s.parts) s.symbols s)
token_put_keeps symbols (Number n) start s e = subst (λ (l : List QualifiedName). Keeps l (placed (put (Atom (Integer n)) start s.parts) s.symbols s)) e (placed_keeps (put (Atom (Integer n)) start s.parts) s.symbols s)
token_put_keeps symbols (Name q) start s e = go (is_one_too_many symbols q) where
  weaker : (r : Step) → Keeps (interned s.symbols q) r → Keeps symbols r
  weaker (Goes t) h = λ x i. h x (known_more s.symbols q x (subst (λ (l : List QualifiedName). is_known l x ≡ true) (sym e) i))
  weaker (Gives f n known) h = tt
  weaker (Fails c n) h = tt

  go : (b : Bool) → Keeps symbols (token_put (if b then Wrong TooManySymbols else Name q) start s)
  go true = tt
  go false = weaker (placed (put (Atom (Symbol q)) start s.parts) (interned s.symbols q) s) (placed_keeps (put (Atom (Symbol q)) start s.parts) (interned s.symbols q) s)
token_put_keeps symbols (Wrong c) start s e = tt

token_ended_later : (k l : Packages) → Grow k l → (symbols : List QualifiedName) (s : State) → Later symbols (token_ended k s) (token_ended l (with_symbols symbols s))
token_ended_later k l g symbols s = go (is_empty s.token) where
  go : (b : Bool) → Later symbols (if b then Goes s else token_put (with_room s.symbols (token_of k s.token)) (s.at - length s.token) s)
      (if b then Goes (with_symbols symbols s) else token_put (with_room symbols (token_of l s.token)) (s.at - length s.token) (with_symbols symbols s))
  go true = λ h. refl
  go false = token_put_later k l g symbols s.token (s.at - length s.token) s

token_ended_keeps : (k : Packages) (s : State) → Keeps s.symbols (token_ended k s)
token_ended_keeps k s = go (is_empty s.token) where
  go : (b : Bool) → Keeps s.symbols (if b then Goes s else token_put (with_room s.symbols (token_of k s.token)) (s.at - length s.token) s)
  go true = itself s.symbols
  go false = token_put_keeps s.symbols (token_of k s.token) (s.at - length s.token) s refl

-- ---- bytes

pick_later : (symbols : List QualifiedName) (b : Bool) (r q r2 q2 : Step) → Later symbols r r2 → Later symbols q q2 → Later symbols (if b then r else q) (if b then r2 else q2)
pick_later symbols true r q r2 q2 h g = h
pick_later symbols false r q r2 q2 h g = g

pick_keeps : (symbols : List QualifiedName) (b : Bool) (r q : Step) → Keeps symbols r → Keeps symbols q → Keeps symbols (if b then r else q)
pick_keeps symbols true r q h g = h
pick_keeps symbols false r q h g = g

free_later : (k l : Packages) → Grow k l → (symbols : List QualifiedName) (b : ℕ) (s : State) → Later symbols (free_byte k b s) (free_byte l b (with_symbols symbols s))
free_later k l g symbols b s =
    pick_later symbols (ends_token b) _ _ _ _
    (after_later symbols (token_ended k s) (token_ended l (with_symbols symbols s)) (mark b) (mark b) (token_ended_later k l g symbols s)
    (λ t. seen_later symbols (mark b t) (mark b (with_symbols symbols t)) (mark_seen symbols b t)) (λ t. seen_keeps t.symbols (mark b t) (mark_seen t.symbols b t)))
    (pick_later symbols (is_graphic b) _ _ _ _ (seen_later symbols (letter b s) (letter b (with_symbols symbols s)) (letter_seen symbols b s)) tt)

free_keeps : (k : Packages) (b : ℕ) (s : State) → Keeps s.symbols (free_byte k b s)
free_keeps k b s =
    pick_keeps s.symbols (ends_token b) _ _ (after_keeps s.symbols (token_ended k s) (mark b) (token_ended_keeps k s) (λ t. seen_keeps t.symbols (mark b t) (mark_seen t.symbols b t)))
    (pick_keeps s.symbols (is_graphic b) _ _ (seen_keeps s.symbols (letter b s) (letter_seen s.symbols b s)) tt)

string_seen : (symbols : List QualifiedName) (b : ℕ) (s : State) → string_byte b (with_symbols symbols s) ≡ seen symbols (string_byte b s)
string_seen symbols b s =
    pick symbols (b == 34) _ _ _ _ (counted_seen symbols (put (Atom (Text s.token)) s.at s.parts) Free [] s.at s)
    (pick symbols (b == 92) _ _ _ _ (counted_seen symbols (Parts s.parts) StringEscape s.token s.at s) (counted_seen symbols (Parts s.parts) String (s.token ++ b ∷ []) s.at s))

goes_on_later : (symbols : List QualifiedName) (i : Inside) (held : List ℕ) (s : State) → Later symbols (goes_on i held s) (goes_on i held (with_symbols symbols s))
goes_on_later symbols i held s = seen_later symbols (goes_on i held s) (goes_on i held (with_symbols symbols s)) (counted_seen symbols (Parts s.parts) i held s.at s)

goes_on_keeps : (i : Inside) (held : List ℕ) (s : State) → Keeps s.symbols (goes_on i held s)
goes_on_keeps i held s = seen_keeps s.symbols (goes_on i held s) (counted_seen s.symbols (Parts s.parts) i held s.at s)

inside_later : (k l : Packages) → Grow k l → (symbols : List QualifiedName) (b : ℕ) (s : State) (i : Inside) → Later symbols (taken_inside k b s i) (taken_inside l b (with_symbols symbols s) i)
inside_later k l g symbols b s Free = free_later k l g symbols b s
inside_later k l g symbols b s Bars = goes_on_later symbols (if is_bar b then Free else (if b == 92 then BarsEscape else Bars)) (s.token ++ b ∷ []) s
inside_later k l g symbols b s BarsEscape = goes_on_later symbols Bars (s.token ++ b ∷ []) s
inside_later k l g symbols b s String = seen_later symbols (string_byte b s) (string_byte b (with_symbols symbols s)) (string_seen symbols b s)
inside_later k l g symbols b s StringEscape = goes_on_later symbols String (s.token ++ b ∷ []) s
inside_later k l g symbols b s Line = goes_on_later symbols (if b == 10 then Free else Line) [] s
inside_later k l g symbols b s (Block n) = goes_on_later symbols (in_block n b) [] s
inside_later k l g symbols b s (BlockHash n) = goes_on_later symbols (if is_bar b then Block (n + 1) else in_block n b) [] s
inside_later k l g symbols b s (BlockBar n) = goes_on_later symbols (if b == 35 then block_ended n else in_block n b) [] s
inside_later k l g symbols b s AfterComma = goes_on_later symbols Free [] s

inside_keeps : (k : Packages) (b : ℕ) (s : State) (i : Inside) → Keeps s.symbols (taken_inside k b s i)
inside_keeps k b s Free = free_keeps k b s
inside_keeps k b s Bars = goes_on_keeps (if is_bar b then Free else (if b == 92 then BarsEscape else Bars)) (s.token ++ b ∷ []) s
inside_keeps k b s BarsEscape = goes_on_keeps Bars (s.token ++ b ∷ []) s
inside_keeps k b s String = seen_keeps s.symbols (string_byte b s) (string_seen s.symbols b s)
inside_keeps k b s StringEscape = goes_on_keeps String (s.token ++ b ∷ []) s
inside_keeps k b s Line = goes_on_keeps (if b == 10 then Free else Line) [] s
inside_keeps k b s (Block n) = goes_on_keeps (in_block n b) [] s
inside_keeps k b s (BlockHash n) = goes_on_keeps (if is_bar b then Block (n + 1) else in_block n b) [] s
inside_keeps k b s (BlockBar n) = goes_on_keeps (if b == 35 then block_ended n else in_block n b) [] s
inside_keeps k b s AfterComma = goes_on_keeps Free [] s

step_later : (k l : Packages) → Grow k l → (symbols : List QualifiedName) (b : ℕ) (s : State) → Later symbols (step k s b) (step l (with_symbols symbols s) b)
unfolding step
step_later k l g symbols b s =
    let t = with_symbols symbols s in
    pick_later symbols (is_after_comma s.inside) _ _ _ _
    (pick_later symbols (b == 64) _ _ _ _
    (after_later symbols (comma_ended lexeme.CommaAt s) (comma_ended lexeme.CommaAt t) (λ u. if_in_input u (goes_on Free [] u)) (λ u. if_in_input u (goes_on Free [] u))
    (seen_later symbols (comma_ended lexeme.CommaAt s) (comma_ended lexeme.CommaAt t) (counted_seen symbols (put lexeme.CommaAt (s.at - 1) s.parts) Free [] (s.at - 1) s))
    (λ u. pick_later symbols (nat_lt u.at most_input) _ _ _ _ (goes_on_later symbols Free [] u) tt)
    (λ u. pick_keeps u.symbols (nat_lt u.at most_input) _ _ (goes_on_keeps Free [] u) tt))
    (after_later symbols (comma_ended lexeme.Comma s) (comma_ended lexeme.Comma t) (λ u. if_in_input u (taken k b u)) (λ u. if_in_input u (taken l b u))
    (seen_later symbols (comma_ended lexeme.Comma s) (comma_ended lexeme.Comma t) (counted_seen symbols (put lexeme.Comma (s.at - 1) s.parts) Free [] (s.at - 1) s))
    (λ u. pick_later symbols (nat_lt u.at most_input) _ _ _ _ (inside_later k l g symbols b u u.inside) tt)
    (λ u. pick_keeps u.symbols (nat_lt u.at most_input) _ _ (inside_keeps k b u u.inside) tt)))
    (pick_later symbols (nat_lt s.at most_input) _ _ _ _ (inside_later k l g symbols b s s.inside) tt)

step_keeps : (k : Packages) (b : ℕ) (s : State) → Keeps s.symbols (step k s b)
unfolding step
step_keeps k b s =
    pick_keeps s.symbols (is_after_comma s.inside) _ _
    (pick_keeps s.symbols (b == 64) _ _
    (after_keeps s.symbols (comma_ended lexeme.CommaAt s) (λ u. if_in_input u (goes_on Free [] u))
    (seen_keeps s.symbols (comma_ended lexeme.CommaAt s) (counted_seen s.symbols (put lexeme.CommaAt (s.at - 1) s.parts) Free [] (s.at - 1) s))
    (λ u. pick_keeps u.symbols (nat_lt u.at most_input) _ _ (goes_on_keeps Free [] u) tt))
    (after_keeps s.symbols (comma_ended lexeme.Comma s) (λ u. if_in_input u (taken k b u))
    (seen_keeps s.symbols (comma_ended lexeme.Comma s) (counted_seen s.symbols (put lexeme.Comma (s.at - 1) s.parts) Free [] (s.at - 1) s))
    (λ u. pick_keeps u.symbols (nat_lt u.at most_input) _ _ (inside_keeps k b u u.inside) tt)))
    (pick_keeps s.symbols (nat_lt s.at most_input) _ _ (inside_keeps k b s s.inside) tt)

run_keeps : (k : Packages) (s : State) (bs : List ℕ) → Keeps s.symbols (run k s bs)
run_keeps k s [] = itself s.symbols
run_keeps k s (b ∷ bs) = after_keeps s.symbols (step k s b) (λ t. run k t bs) (step_keeps k b s) (λ t. run_keeps k t bs)

run_later : (k l : Packages) → Grow k l → (symbols : List QualifiedName) (s : State) (bs : List ℕ) → Later symbols (run k s bs) (run l (with_symbols symbols s) bs)
run_later k l g symbols s [] = λ h. refl
run_later k l g symbols s (b ∷ bs) =
    after_later symbols (step k s b) (step l (with_symbols symbols s) b) (λ t. run k t bs) (λ t. run l t bs) (step_later k l g symbols b s)
    (λ t. run_later k l g symbols t bs) (λ t. run_keeps k t bs)

pub stays_read : StaysRead
stays_read old new symbols more offset bytes s g e known =
    let h = subst (λ r. Later more r (run new (nothing_read more offset) bytes)) e (run_later old new g more (nothing_read symbols offset) bytes) in
    h known
