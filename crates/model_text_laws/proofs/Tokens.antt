-- A token, and a string, from its first byte to its last.
use Rattle.std.specs.Prelude.{◌≡◌, ℕ, ◌+◌, ◌-◌, ◌<◌, ◌≤◌, ◌==◌, nat_le, List, [], ◌∷◌, ◌++◌, length, Bool, true, false, ◌&&◌, ◌||◌, not, if◌then◌else◌, refl, None}
use Rattle.std.specs.Str.{bytes_eq}
use Rattle.std.proofs.Common.{sym, ap, ◌∙◌, arith, subst}
use Rattle.std.proofs.lemmas.List.{append_assoc, append-nil, length_push}
use Rattle.std.proofs.lemmas.Bool.Decides.{nat_tests}
use Rattle.model_objects.specs.Object.{Text, weight, max_weight}
use Rattle.model_symbols.specs.Symbols.{QualifiedName}
use Rattle.model_text.specs.Token.{Form, Packages, is_empty, is_bar, is_graphic, ends_token, Place, Outside, Between, Escaped, token_of, with_room}
use Rattle.model_text.specs.Backquote.{Plain}
use Rattle.model_text.specs.Parts.{Part, Put, Parts, Whole, Bad, full_dot, delivered}
use Rattle.model_text.specs.Next.{Inside, Free, Bars, BarsEscape, String, StringEscape, Line, Block, BlockHash, BlockBar, AfterComma, State, Step, Goes, Gives, Fails, after, step, most_input, most_bytes, first_of, goes_on, whole, mark, letter, token_put, token_ended, ended_step, taken_inside, is_after_comma, is_open_question}
use Rattle.model_text.specs.Spelling.{IsToken, goes_on_as_token, begins_block, Quoted}
use Rattle.model_text.specs.Spelling as spelling
use Rattle.model_text.specs.declared.TextCause.TheVariants.{TooLarge}
use Rattle.model_text_laws.specs.Laws.{Stops}
use Rattle.model_text_laws.proofs.Going.{st, free, begin, done, going, room_of, first_token, goes_on_room, step_inside, counted_done}
use Rattle.model_text_laws.proofs.Gaps.{mark_step, goes_on_step}

both : (s t : Bool) → (s && t) ≡ true → (s ≡ true) × (t ≡ true)
both true t h = (refl, h)
both false t h = cc

not_true : (x : Bool) → not x ≡ true → x ≡ false
not_true true h = cc
not_true false h = refl

-- ---- the bytes of a token

abbrev pub inside_of : Place → Inside
inside_of Outside = Free
inside_of Between = Bars
inside_of Escaped = BarsEscape

abbrev pub next_place : Place → ℕ → Place
next_place Outside b = if is_bar b then Between else Outside
next_place Between b = if is_bar b then Outside else (if b == 92 then Escaped else Between)
next_place Escaped b = Between

goes_next : (p : Place) (b : ℕ) (bs : List ℕ) → goes_on_as_token p (b ∷ bs) ≡ true → goes_on_as_token (next_place p b) bs ≡ true
goes_next Outside b bs h = go (is_bar b) h where
  go : (x : Bool) → (if x then goes_on_as_token Between bs else (not (ends_token b) && (is_graphic b && goes_on_as_token Outside bs))) ≡ true → goes_on_as_token (if x then Between else Outside) bs ≡ true
  go true h = h
  go false h = (both (is_graphic b) (goes_on_as_token Outside bs) (both (not (ends_token b)) (is_graphic b && goes_on_as_token Outside bs) h).1).1
goes_next Between b bs h = go (is_bar b) (b == 92) h where
  go : (x y : Bool) → (if x then goes_on_as_token Outside bs else (if y then goes_on_as_token Escaped bs else goes_on_as_token Between bs)) ≡ true
      → goes_on_as_token (if x then Outside else (if y then Escaped else Between)) bs ≡ true
  go true y h = h
  go false true h = h
  go false false h = h
goes_next Escaped b bs h = h

-- outside bars, the byte may stand in a token
free_letter : (b : ℕ) (bs : List ℕ) → goes_on_as_token Outside (b ∷ bs) ≡ true → (ends_token b ≡ false) × (is_graphic b ≡ true)
free_letter b bs h = go (is_bar b) refl h where
  go : (x : Bool) → is_bar b ≡ x → (if x then goes_on_as_token Between bs else (not (ends_token b) && (is_graphic b && goes_on_as_token Outside bs))) ≡ true → (ends_token b ≡ false) × (is_graphic b ≡ true)
  go true e h = let bar : b ≡ 124 = grind (arith, nat_tests) in
      let P : ℕ → Type 0 = λ c. (ends_token c ≡ false) × (is_graphic c ≡ true) in
      subst P (sym bar) (refl, refl)
  go false e h =
      let q = both (not (ends_token b)) (is_graphic b && goes_on_as_token Outside bs) h in
      (not_true (ends_token b) q.0, (both (is_graphic b) (goes_on_as_token Outside bs) q.1).0)

-- a byte of a token that is no comment, where no second form stands behind a dot
letter_goes : (b : ℕ) (ps : List Part) (token : List ℕ) (at first : ℕ) (symbols : List QualifiedName) → (bytes_eq token (35 ∷ []) && is_bar b) ≡ false → full_dot ps ≡ None
    → letter b (st ps Free token at first symbols) ≡ goes_on (if is_bar b then Bars else Free) (token ++ b ∷ []) (st ps Free token at first symbols)
letter_goes b ps token at first symbols h d = rw (h, d) (go (is_open_question token b) refl) where
  no_bar : is_open_question token b ≡ true → is_bar b ≡ false
  no_bar e = let q = both (is_empty token) ((b == 46) || (b == 35)) e in grind (arith, nat_tests)

  go : (q : Bool) → is_open_question token b ≡ q
      → (if q then goes_on Free (token ++ b ∷ []) (st ps Free token at first symbols) else goes_on (if is_bar b then Bars else Free) (token ++ b ∷ []) (st ps Free token at first symbols))
      ≡ goes_on (if is_bar b then Bars else Free) (token ++ b ∷ []) (st ps Free token at first symbols)
  go true e = ap (λ (x : Bool). goes_on (if x then Bars else Free) (token ++ b ∷ []) (st ps Free token at first symbols)) (sym (no_bar e))
  go false e = refl

inside_outside : (x : Bool) → (if x then Bars else Free) ≡ inside_of (if x then Between else Outside)
inside_outside true = refl
inside_outside false = refl

inside_between : (x y : Bool) → (if x then Free else (if y then BarsEscape else Bars)) ≡ inside_of (if x then Outside else (if y then Escaped else Between))
inside_between true y = refl
inside_between false true = refl
inside_between false false = refl

-- how many bytes there may be up to an offset
pub record Upto (to first : ℕ) : Type 0 where
  pub input : to ≤ most_input
  pub bytes : to ≤ first + most_bytes

after_whole : (f : Form) (at first : ℕ) (symbols : List QualifiedName) (k : State → Step) → after (whole f at first symbols) k ≡ whole f at first symbols
after_whole f at first symbols k = go (nat_le (weight f) max_weight) where
  go : (b : Bool) → after (if b then Gives f at symbols else Fails TooLarge first) k ≡ (if b then Gives f at symbols else Fails TooLarge first)
  go true = refl
  go false = refl

not_comment : (token : List ℕ) (b : ℕ) (bs : List ℕ) → begins_block (token ++ b ∷ bs) ≡ false → (bytes_eq token (35 ∷ []) && is_bar b) ≡ false
not_comment [] b bs h = refl
not_comment (c ∷ []) b bs h = grind (arith, nat_tests)
not_comment (c ∷ d ∷ token) b bs h = grind (arith, nat_tests)

abbrev is_string : Inside → Bool
is_string Free = false
is_string Bars = false
is_string BarsEscape = false
is_string String = true
is_string StringEscape = true
is_string Line = false
is_string (Block n) = false
is_string (BlockHash n) = false
is_string (BlockBar n) = false
is_string AfterComma = false

string_first : (ps : List Part) (i : Inside) (token : List ℕ) (at first : ℕ) (symbols : List QualifiedName) → is_string i ≡ true
    → (is_after_comma i ≡ false) × (first_of (st ps i token at first symbols) ≡ first)
string_first ps Free token at first symbols h = cc
string_first ps Bars token at first symbols h = cc
string_first ps BarsEscape token at first symbols h = cc
string_first ps String token at first symbols h = (refl, grind (arith, nat_tests))
string_first ps StringEscape token at first symbols h = (refl, grind (arith, nat_tests))
string_first ps Line token at first symbols h = cc
string_first ps (Block n) token at first symbols h = cc
string_first ps (BlockHash n) token at first symbols h = cc
string_first ps (BlockBar n) token at first symbols h = cc
string_first ps AfterComma token at first symbols h = cc

module _ (packages : Packages) (ended : Bool) where
  -- one byte of a token
  token_step : (p : Place) (b : ℕ) (bs : List ℕ) (ps : List Part) (token : List ℕ) (at first : ℕ) (symbols : List QualifiedName)
      → goes_on_as_token p (b ∷ bs) ≡ true → (bytes_eq token (35 ∷ []) && is_bar b) ≡ false → full_dot ps ≡ None → at < most_input
      → step packages (st ps (inside_of p) token at first symbols) b ≡ goes_on (inside_of (next_place p b)) (token ++ b ∷ []) (st ps (inside_of p) token at first symbols)
  token_step Outside b bs ps token at first symbols h k d l =
      let s = st ps Free token at first symbols in
      let q = free_letter b bs h in
      step_inside packages ps Free token at first symbols b refl l
      ∙ (rw (q.0, q.1) (letter_goes b ps token at first symbols k d)
      ∙ ap (λ i. goes_on i (token ++ b ∷ []) s) (inside_outside (is_bar b)))
  token_step Between b bs ps token at first symbols h k d l =
      step_inside packages ps Bars token at first symbols b refl l
      ∙ ap (λ i. goes_on i (token ++ b ∷ []) (st ps Bars token at first symbols)) (inside_between (is_bar b) (b == 92))
  token_step Escaped b bs ps token at first symbols h k d l = step_inside packages ps BarsEscape token at first symbols b refl l

  -- the rest of a token, of which some bytes stand before
  more_token : (p : Place) (bs : List ℕ) (ps : List Part) (token : List ℕ) (at first : ℕ) (symbols : List QualifiedName) (rest : List ℕ)
      → 0 < length token → goes_on_as_token p bs ≡ true → begins_block (token ++ bs) ≡ false → full_dot ps ≡ None → Upto (at + length bs) first
      → going packages ended (st ps (inside_of p) token at first symbols) (bs ++ rest) ≡ going packages ended (st ps Free (token ++ bs) (at + length bs) first symbols) rest
  more_token Outside [] ps token at first symbols rest t h k d r =
      let z : at ≡ at + 0 = omega arith in
      ap (λ n. going packages ended (st ps Free token n first symbols) rest) z
      ∙ ap (λ (x : List ℕ). going packages ended (st ps Free x (at + 0) first symbols) rest) (sym (append-nil token))
  more_token Between [] ps token at first symbols rest t h k d r = cc
  more_token Escaped [] ps token at first symbols rest t h k d r = cc
  more_token p (b ∷ bs) ps token at first symbols rest t h k d r =
      let s = st ps (inside_of p) token at first symbols in
      let q = next_place p b in
      let f = first_token ps (inside_of p) token at first symbols t in
      let a : at < most_input = omega (arith, r.input) in
      let a' : at - first < most_bytes = omega (arith, r.bytes) in
      let z : (at + 1) + length bs ≡ at + length (b ∷ bs) = omega arith in
      let t' : 0 < length (token ++ b ∷ []) = omega (arith, length_push token b) in
      let r' : Upto ((at + 1) + length bs) first = record { input = omega (arith, z, r.input); bytes = omega (arith, z, r.bytes) } in
      let same = append_assoc token (b ∷ []) bs in
      ap (λ x. after x (λ u. going packages ended u (bs ++ rest)))
      (token_step p b bs ps token at first symbols h (not_comment token b bs k) d a
      ∙ (goes_on_room (inside_of q) (token ++ b ∷ []) s (room_of s at (omega (arith, f, a')))
      ∙ ap (λ n. Goes (st ps (inside_of q) (token ++ b ∷ []) (at + 1) n symbols)) f))
      ∙ (more_token q bs ps (token ++ b ∷ []) (at + 1) first symbols rest t' (goes_next p b bs h) (ap begins_block same ∙ k) d r'
      ∙ (ap (λ (x : List ℕ). going packages ended (st ps Free x ((at + 1) + length bs) first symbols) rest) same
      ∙ ap (λ n. going packages ended (st ps Free (token ++ b ∷ bs) n first symbols) rest) z))

  -- a whole token
  pub letters_going : (bs : List ℕ) (ps : List Part) (at first : ℕ) (symbols : List QualifiedName) (rest : List ℕ)
      → IsToken bs → full_dot ps ≡ None → Upto (at + length bs) (begin ps at first)
      → going packages ended (free ps at first symbols) (bs ++ rest) ≡ going packages ended (st ps Free bs (at + length bs) (begin ps at first) symbols) rest
  letters_going [] ps at first symbols rest h d r = absurd (omega (arith, h.some))
  letters_going (b ∷ bs) ps at first symbols rest h d r =
      let first' = begin ps at first in
      let q = next_place Outside b in
      let a : at < most_input = omega (arith, r.input) in
      let a' : at < first' + most_bytes = omega (arith, r.bytes) in
      let one : 0 < length (b ∷ []) = omega arith in
      let z : (at + 1) + length bs ≡ at + length (b ∷ bs) = omega arith in
      let r' : Upto ((at + 1) + length bs) first' = record { input = omega (arith, z, r.input); bytes = omega (arith, z, r.bytes) } in
      ap (λ x. after x (λ u. going packages ended u (bs ++ rest)))
      (token_step Outside b bs ps [] at first symbols h.whole refl d a ∙ goes_on_step packages ended ps (inside_of q) (b ∷ []) at first symbols a')
      ∙ (more_token q bs ps (b ∷ []) (at + 1) first' symbols rest one (goes_next Outside b bs h.whole) h.apart d r'
      ∙ ap (λ n. going packages ended (st ps Free (b ∷ bs) n first' symbols) rest) z)

  -- what was done before a delimiter comes
  done_mark : (p : Put) (at first b : ℕ) (symbols : List QualifiedName) (k : State → Step) → ends_token b ≡ true → at < most_input
      → after (after (done p at first symbols) (mark b)) k ≡ after (done p at first symbols) (λ t. after (step packages t b) k)
  done_mark (Parts ps) at first b symbols k e l = ap (λ x. after x k) (sym (mark_step packages ended ps at first b symbols e l))
  done_mark (Whole f) at first b symbols k e l =
      ap (λ x. after x k) (after_whole f at first symbols (mark b))
      ∙ (after_whole f at first symbols k ∙ sym (after_whole f at first symbols (λ t. after (step packages t b) k)))
  done_mark (Bad c n) at first b symbols k e l = refl

  done_end : (p : Put) (at first : ℕ) (symbols : List QualifiedName) → done p at first symbols ≡ after (done p at first symbols) (λ t. ended_step packages true (Goes t))
  done_end (Parts ps) at first symbols = refl
  done_end (Whole f) at first symbols = sym (after_whole f at first symbols (λ t. ended_step packages true (Goes t)))
  done_end (Bad c n) at first symbols = refl

  token_is : (token : List ℕ) (ps : List Part) (at first : ℕ) (symbols : List QualifiedName) → 0 < length token
      → token_ended packages (st ps Free token at first symbols) ≡ token_put (with_room symbols (token_of packages token)) (at - length token) (st ps Free token at first symbols)
  token_is token ps at first symbols l = let e : is_empty token ≡ false = grind (arith, nat_tests) in rw e refl

  -- the token that has begun ends here, and does this
  token_stops : (token : List ℕ) (ps : List Part) (at first : ℕ) (symbols symbols' : List QualifiedName) (p : Put) (rest : List ℕ) → 0 < length token → Stops ended true at rest
      → token_put (with_room symbols (token_of packages token)) (at - length token) (st ps Free token at first symbols) ≡ done p at first symbols'
      → going packages ended (st ps Free token at first symbols) rest ≡ after (done p at first symbols') (λ t. going packages ended t rest)
  token_stops token ps at first symbols symbols' p [] l h d =
      let s = st ps Free token at first symbols in
      ap (λ (e : Bool). ended_step packages e (Goes s)) h
      ∙ (token_is token ps at first symbols l ∙ (d ∙ (done_end p at first symbols'
      ∙ ap (λ (e : Bool). after (done p at first symbols') (λ t. ended_step packages e (Goes t))) (sym h))))
  token_stops token ps at first symbols symbols' p (b ∷ rest) l h d =
      let s = st ps Free token at first symbols in
      ap (λ x. after x (λ t. going packages ended t rest))
      (step_inside packages ps Free token at first symbols b refl h.1
      ∙ (rw h.0 (ap (λ x. after x (mark b)) (token_is token ps at first symbols l ∙ d))))
      ∙ done_mark p at first b symbols' (λ t. going packages ended t rest) h.0 h.1

  -- a whole token, which does this
  pub token_going : (bs : List ℕ) (ps : List Part) (at first : ℕ) (symbols symbols' : List QualifiedName) (p : Put) (rest : List ℕ)
      → IsToken bs → full_dot ps ≡ None → Upto (at + length bs) (begin ps at first) → Stops ended true (at + length bs) rest
      → ((s : State) → s.parts ≡ ps → s.symbols ≡ symbols → token_put (with_room symbols (token_of packages bs)) at s ≡ done p s.at s.first symbols')
      → going packages ended (free ps at first symbols) (bs ++ rest) ≡ after (done p (at + length bs) (begin ps at first) symbols') (λ t. going packages ended t rest)
  token_going bs ps at first symbols symbols' p rest h d r w does =
      let first' = begin ps at first in
      let s = st ps Free bs (at + length bs) first' symbols in
      let z : (at + length bs) - length bs ≡ at = omega arith in
      letters_going bs ps at first symbols rest h d r
      ∙ token_stops bs ps (at + length bs) first' symbols symbols' p rest h.some w
      (ap (λ n. token_put (with_room symbols (token_of packages bs)) n s) z ∙ does s refl refl)

  -- ---- strings

  string_step : (b : ℕ) (i j : Inside) (ps : List Part) (token more : List ℕ) (at first : ℕ) (symbols : List QualifiedName) → is_string i ≡ true
      → taken_inside packages b (st ps i token at first symbols) i ≡ goes_on j more (st ps i token at first symbols) → Upto (at + 1) first
      → step packages (st ps i token at first symbols) b ≡ Goes (st ps j more (at + 1) first symbols)
  string_step b i j ps token more at first symbols h t r =
      let s = st ps i token at first symbols in
      let f = string_first ps i token at first symbols h in
      step_inside packages ps i token at first symbols b f.0 (omega (arith, r.input))
      ∙ (t ∙ (goes_on_room j more s (room_of s at (omega (arith, f.1, r.bytes)))
      ∙ ap (λ n. Goes (st ps j more (at + 1) n symbols)) f.1))

  -- the rest of a string
  string_going : (bs more : List ℕ) → Quoted bs more → (ps : List Part) (held : List ℕ) (at first : ℕ) (symbols : List QualifiedName) (rest : List ℕ)
      → Upto (at + length bs) first
      → going packages ended (st ps String held at first symbols) (bs ++ rest)
      ≡ after (done (delivered (Plain (Text (held ++ more))) ps) (at + length bs) first symbols) (λ t. going packages ended t rest)
  string_going bs more spelling.end ps held at first symbols rest r =
      let s = st ps String held at first symbols in
      let f = string_first ps String held at first symbols refl in
      ap (λ x. after x (λ t. going packages ended t rest))
      (step_inside packages ps String held at first symbols 34 refl (omega (arith, r.input))
      ∙ (counted_done (delivered (Plain (Text held)) ps) at s (room_of s at (omega (arith, f.1, r.bytes)))
      ∙ (ap (λ n. done (delivered (Plain (Text held)) ps) (at + 1) n symbols) f.1
      ∙ ap (λ (x : List ℕ). done (delivered (Plain (Text x)) ps) (at + 1) first symbols) (sym (append-nil held)))))
  string_going bs more (spelling.byte b cs more' h k q) ps held at first symbols rest r =
      let z : (at + 1) + length cs ≡ at + length (b ∷ cs) = omega arith in
      let l : at + 1 ≤ at + length (b ∷ cs) = omega arith in
      let s = st ps String held at first symbols in
      ap (λ x. after x (λ t. going packages ended t (cs ++ rest)))
      (string_step b String String ps held (held ++ b ∷ []) at first symbols refl (rw (h, k) refl) (record { input = omega (arith, l, r.input); bytes = omega (arith, l, r.bytes) }))
      ∙ (string_going cs more' q ps (held ++ b ∷ []) (at + 1) first symbols rest (record { input = omega (arith, z, r.input); bytes = omega (arith, z, r.bytes) })
      ∙ (ap (λ (x : List ℕ). after (done (delivered (Plain (Text x)) ps) ((at + 1) + length cs) first symbols) (λ t. going packages ended t rest)) (append_assoc held (b ∷ []) more')
      ∙ ap (λ n. after (done (delivered (Plain (Text (held ++ b ∷ more'))) ps) n first symbols) (λ t. going packages ended t rest)) z))
  string_going bs more (spelling.escape b cs more' q) ps held at first symbols rest r =
      let z : ((at + 1) + 1) + length cs ≡ at + length (92 ∷ b ∷ cs) = omega arith in
      let l : at + 1 ≤ at + length (92 ∷ b ∷ cs) = omega arith in
      let m : (at + 1) + 1 ≤ at + length (92 ∷ b ∷ cs) = omega arith in
      ap (λ x. after x (λ t. after (step packages t b) (λ u. going packages ended u (cs ++ rest))))
      (string_step 92 String StringEscape ps held held at first symbols refl refl (record { input = omega (arith, l, r.input); bytes = omega (arith, l, r.bytes) }))
      ∙ (ap (λ x. after x (λ u. going packages ended u (cs ++ rest)))
      (string_step b StringEscape String ps held (held ++ b ∷ []) (at + 1) first symbols refl refl (record { input = omega (arith, m, r.input); bytes = omega (arith, m, r.bytes) }))
      ∙ (string_going cs more' q ps (held ++ b ∷ []) ((at + 1) + 1) first symbols rest (record { input = omega (arith, z, r.input); bytes = omega (arith, z, r.bytes) })
      ∙ (ap (λ (x : List ℕ). after (done (delivered (Plain (Text x)) ps) (((at + 1) + 1) + length cs) first symbols) (λ t. going packages ended t rest)) (append_assoc held (b ∷ []) more')
      ∙ ap (λ n. after (done (delivered (Plain (Text (held ++ b ∷ more'))) ps) n first symbols) (λ t. going packages ended t rest)) z)))

  -- a whole string
  pub text_going : (bs held : List ℕ) → Quoted bs held → (ps : List Part) (at first : ℕ) (symbols : List QualifiedName) (rest : List ℕ)
      → full_dot ps ≡ None → Upto (at + length (34 ∷ bs)) (begin ps at first)
      → going packages ended (free ps at first symbols) ((34 ∷ bs) ++ rest)
      ≡ after (done (delivered (Plain (Text held)) ps) (at + length (34 ∷ bs)) (begin ps at first) symbols) (λ t. going packages ended t rest)
  text_going bs held q ps at first symbols rest d r =
      let first' = begin ps at first in
      let z : (at + 1) + length bs ≡ at + length (34 ∷ bs) = omega arith in
      let l : at + 1 ≤ at + length (34 ∷ bs) = omega arith in
      ap (λ x. after x (λ t. going packages ended t (bs ++ rest)))
      (mark_step packages ended ps at first 34 symbols refl (omega (arith, l, r.input))
      ∙ (rw d refl ∙ goes_on_step packages ended ps String [] at first symbols (omega (arith, l, r.bytes))))
      ∙ (string_going bs held q ps [] (at + 1) first' symbols rest (record { input = omega (arith, z, r.input); bytes = omega (arith, z, r.bytes) })
      ∙ ap (λ n. after (done (delivered (Plain (Text held)) ps) n first' symbols) (λ t. going packages ended t rest)) z)
