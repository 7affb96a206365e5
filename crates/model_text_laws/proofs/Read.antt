-- What is spelled is read.
use Rattle.std.specs.Prelude.{◌≡◌, ℕ, ◌+◌, ◌-◌, ◌<◌, ◌≤◌, ◌==◌, max, List, [], ◌∷◌, ◌++◌, length, Bool, true, false, ◌&&◌, not, refl, None, ℤ}
use Rattle.std.proofs.Common.{sym, ap, ◌∙◌, arith, length-append, subst}
use Rattle.std.proofs.lemmas.List.{append_assoc, length_push}
use Rattle.std.proofs.lemmas.Bool.{lt-ltb}
use Rattle.std.proofs.lemmas.Bool.Decides.{nat_tests}
use Rattle.model_objects.specs.Object.{Integer, Symbol, Text}
use Rattle.model_symbols.specs.Symbols.{QualifiedName, interned, all_interned, is_one_too_many}
use Rattle.model_text.specs.Token.{Packages, ends_token, token_of, with_room, Token, Number, Name}
use Rattle.model_text.specs.Token as token
use Rattle.model_text.specs.Backquote.{Template, Constant, Comma, CommaAt, Both, form_of, expansion, has_comma, Item, Plain, Made, Spliced, joined_onto, item_of, nil_form}
use Rattle.model_text.specs.Parts.{Lexeme, Atom, Open, Close, Dot, Quote, Backquote, Part, Quoted, Backquoted, Unquoted, Splicing, Opened, Dotted, Ended, Put, Parts, Whole, Bad, most_parts, full_dot, unless_full, in_backquote, opened, delivered, closed, put}
use Rattle.model_text.specs.Parts as lexeme
use Rattle.model_text.specs.Next.{Free, AfterComma, State, Goes, after, step, most_input, most_bytes, first_of, goes_on, mark, marked, token_put, counted, comma_ended, if_in_input, taken}
use Rattle.model_text.specs.Spelling.{Gap, IsToken, Sort, AForm, ARest, begins_apart, Follows, begins_with_at, quoted_template, Spells}
use Rattle.model_text.specs.Spelling as spelling
use Rattle.model_text_laws.specs.Laws.{have_room, Stops}
use Rattle.model_text_laws.proofs.Going.{st, free, begin, begin_is, done, going, room_of, counted_done, placed_done}
use Rattle.model_text_laws.proofs.Gaps.{mark_step, goes_on_step, free_room, gap_going}
use Rattle.model_text_laws.proofs.Tokens.{Upto, token_going, text_going}
use Rattle.model_text_laws.proofs.Templates.{form_is, expansion_is, joined_push}

both : (s t : Bool) → (s && t) ≡ true → (s ≡ true) × (t ≡ true)
both true t h = (refl, h)
both false t h = cc

not_true : (x : Bool) → not x ≡ true → x ≡ false
not_true true h = cc
not_true false h = refl

-- ---- symbols

pub interned_append : (symbols xs ys : List QualifiedName) → all_interned symbols (xs ++ ys) ≡ all_interned (all_interned symbols xs) ys
interned_append symbols [] ys = refl
interned_append symbols (x ∷ xs) ys = interned_append (interned symbols x) xs ys

pub room_append : (symbols xs ys : List QualifiedName) → have_room symbols (xs ++ ys) ≡ true → (have_room symbols xs ≡ true) × (have_room (all_interned symbols xs) ys ≡ true)
room_append symbols [] ys h = (refl, h)
room_append symbols (x ∷ xs) ys h =
    let p = both (not (is_one_too_many symbols x)) (have_room (interned symbols x) (xs ++ ys)) h in
    let q = room_append (interned symbols x) xs ys p.1 in
    (rw (p.0, q.0) refl, q.1)

-- ---- what spellings have

pub some_bytes : {packages : Packages} (q : Bool) (sort : Sort) (bs : List ℕ) (t : Template) (names : List QualifiedName) (n : ℕ) → Spells packages q sort bs t names n → 0 < length bs
some_bytes q sort bs t names n (spelling.integer p xs z k e) = k.some
some_bytes q sort bs t names n (spelling.symbol p xs s k e) = k.some
some_bytes q sort bs t names n (spelling.string p xs held h) = omega arith
some_bytes q sort bs t names n (spelling.quote p c gap xs u ns m g h) = omega arith
some_bytes q sort bs t names n (spelling.backquote c gap xs u ns m g h) = omega arith
some_bytes q sort bs t names n (spelling.comma c gap xs u ns m g b h) = omega arith
some_bytes q sort bs t names n (spelling.listed p xs u ns m h) = omega arith
some_bytes q sort bs t names n (spelling.close p b gap g) = omega (arith, length-append gap (41 ∷ []))
some_bytes q sort bs t names n (spelling.element p b c gap xs rest u v ns more m k g h f i) = omega (arith, some_bytes p (AForm c) xs u ns m h, length-append gap (xs ++ rest), length-append xs rest)
some_bytes q sort bs t names n (spelling.spliced b c gap inner xs rest u v ns more m k g g2 h f i) = omega (arith, length-append gap (44 ∷ 64 ∷ (inner ++ (xs ++ rest))))
some_bytes q sort bs t names n (spelling.dot p c gap inner xs last u ns m g g2 g3 h f f2) = omega (arith, length-append gap (46 ∷ (inner ++ (xs ++ (last ++ 41 ∷ [])))))

-- outside backquotes there are no commas
pub no_comma : {packages : Packages} (q : Bool) (sort : Sort) (bs : List ℕ) (t : Template) (names : List QualifiedName) (n : ℕ) → Spells packages q sort bs t names n → q ≡ false → has_comma t ≡ false
no_comma q sort bs t names n (spelling.integer p xs z k e) f = refl
no_comma q sort bs t names n (spelling.symbol p xs s k e) f = refl
no_comma q sort bs t names n (spelling.string p xs held h) f = refl
no_comma q sort bs t names n (spelling.quote p c gap xs u ns m g h) f = rw (no_comma p (AForm c) xs u ns m h f) refl
no_comma q sort bs t names n (spelling.backquote c gap xs u ns m g h) f = refl
no_comma q sort bs t names n (spelling.comma c gap xs u ns m g b h) f = cc
no_comma q sort bs t names n (spelling.listed p xs u ns m h) f = no_comma p (ARest false) xs u ns m h f
no_comma q sort bs t names n (spelling.close p b gap g) f = refl
no_comma q sort bs t names n (spelling.element p b c gap xs rest u v ns more m k g h w i) f = rw (no_comma p (AForm c) xs u ns m h f, no_comma p (ARest true) rest v more k i f) refl
no_comma q sort bs t names n (spelling.spliced b c gap inner xs rest u v ns more m k g g2 h w i) f = cc
no_comma q sort bs t names n (spelling.dot p c gap inner xs last u ns m g g2 g3 h w w2) f = no_comma p (AForm c) xs u ns m h f

pub follows_more : (c : Bool) (xs ys : List ℕ) → Follows c xs → Follows c (xs ++ ys)
follows_more false xs ys f = tt
follows_more true [] ys f = cc
follows_more true (x ∷ xs) ys f = f

pub stops : (ended c : Bool) (at : ℕ) (xs : List ℕ) → Follows c xs → at < most_input → Stops ended c at xs
stops ended false at xs f l = tt
stops ended true at [] f l = cc
stops ended true at (x ∷ xs) f l = (f, l)

opened_is : (p : Part) (at : ℕ) (ps : List Part) → length ps < most_parts → opened p at ps ≡ Parts (p ∷ ps)
opened_is p at ps l = rw (lt-ltb (length ps) most_parts l) refl

upto_less : (a b first : ℕ) → a ≤ b → Upto b first → Upto a first
upto_less a b first l r = record { input = omega (arith, l, r.input); bytes = omega (arith, l, r.bytes) }

module _ (packages : Packages) (ended : Bool) where
  -- a byte that is a whole lexeme
  mark_done : (l : Lexeme) (b : ℕ) (ps : List Part) (at first : ℕ) (symbols : List QualifiedName) → ends_token b ≡ true → mark b (free ps at first symbols) ≡ marked l (free ps at first symbols)
      → Upto (at + 1) (begin ps at first) → step packages (free ps at first symbols) b ≡ done (put l at ps) (at + 1) (begin ps at first) symbols
  mark_done l b ps at first symbols e m r =
      let s = free ps at first symbols in
      mark_step packages ended ps at first b symbols e (omega (arith, r.input))
      ∙ (m ∙ (counted_done (put l at ps) at s (free_room ps at first symbols (omega (arith, r.bytes)))
      ∙ ap (λ n. done (put l at ps) (at + 1) n symbols) (begin_is ps at first symbols)))

  -- a byte that opens a part
  open_going : (l : Lexeme) (b : ℕ) (p : Part) (ps : List Part) (at first : ℕ) (symbols : List QualifiedName) (rest : List ℕ) → ends_token b ≡ true → mark b (free ps at first symbols) ≡ marked l (free ps at first symbols)
      → put l at ps ≡ Parts (p ∷ ps) → Upto (at + 1) (begin ps at first)
      → going packages ended (free ps at first symbols) (b ∷ rest) ≡ going packages ended (free (p ∷ ps) (at + 1) (begin ps at first) symbols) rest
  open_going l b p ps at first symbols rest e m i r =
      ap (λ x. after x (λ t. going packages ended t rest))
      (mark_done l b ps at first symbols e m r ∙ ap (λ x. done x (at + 1) (begin ps at first) symbols) i)

  -- a gap where a part is open
  gap_in : (p : Part) (ps : List Part) (at first : ℕ) (symbols : List QualifiedName) (gap rest : List ℕ) → Gap gap → Upto (at + length gap) first
      → going packages ended (free (p ∷ ps) at first symbols) (gap ++ rest) ≡ going packages ended (free (p ∷ ps) (at + length gap) first symbols) rest
  gap_in p ps at first symbols gap rest g r =
      let q = gap_going packages ended gap g (p ∷ ps) at first symbols r.input r.bytes in
      q.passes rest ∙ ap (λ n. going packages ended (free (p ∷ ps) (at + length gap) n symbols) rest) (q.same 0)

  abbrev HasSome : Bool → List Item → Type 0
  HasSome false is = Unit {0}
  HasSome true is = 0 < length is

  -- what is spelled goes where it belongs
  abbrev IsRead : Bool → Sort → List ℕ → Template → List QualifiedName → ℕ → Type 0
  IsRead q (AForm c) bs t names n =
      (ps : List Part) (at first : ℕ) (symbols : List QualifiedName) (rest : List ℕ) → full_dot ps ≡ None → in_backquote ps ≡ q → length ps + n ≤ most_parts
      → Upto (at + length bs) (begin ps at first) → have_room symbols names ≡ true → Stops ended c (at + length bs) rest
      → going packages ended (free ps at first symbols) (bs ++ rest)
      ≡ after (done (delivered (item_of t) ps) (at + length bs) (begin ps at first) (all_interned symbols names)) (λ t. going packages ended t rest)
  IsRead q (ARest b) bs u names n =
      (is : List Item) (ps : List Part) (at first : ℕ) (symbols : List QualifiedName) (rest : List ℕ) → HasSome b is → in_backquote ps ≡ q → (length ps + 1) + n ≤ most_parts
      → Upto (at + length bs) first → have_room symbols names ≡ true
      → going packages ended (free (Opened is ∷ ps) at first symbols) (bs ++ rest)
      ≡ after (done (delivered (joined_onto is (item_of u)) ps) (at + length bs) first (all_interned symbols names)) (λ t. going packages ended t rest)

  read_integer : (q : Bool) (bs : List ℕ) (n : ℤ) → IsToken bs → token_of packages bs ≡ Number n → IsRead q (AForm true) bs (Constant (Integer n)) [] 0
  read_integer q bs n k e ps at first symbols rest d i l r h w =
      token_going packages ended bs ps at first symbols symbols (delivered (Plain (Integer n)) ps) rest k d r w
      (λ s p y. ap (λ x. token_put (with_room symbols x) at s) e
      ∙ (placed_done (delivered (Plain (Integer n)) s.parts) s.symbols s
      ∙ (ap (λ x. done (delivered (Plain (Integer n)) x) s.at s.first s.symbols) p ∙ ap (λ x. done (delivered (Plain (Integer n)) ps) s.at s.first x) y)))

  read_symbol : (q : Bool) (bs : List ℕ) (n : QualifiedName) → IsToken bs → token_of packages bs ≡ Name n → IsRead q (AForm true) bs (Constant (Symbol n)) (n ∷ []) 0
  read_symbol q bs n k e ps at first symbols rest d i l r h w =
      let few = not_true (is_one_too_many symbols n) (both (not (is_one_too_many symbols n)) true h).0 in
      let named : with_room symbols (token_of packages bs) ≡ Name n = ap (with_room symbols) e ∙ (rw few refl) in
      token_going packages ended bs ps at first symbols (interned symbols n) (delivered (Plain (Symbol n)) ps) rest k d r w
      (λ s p y. ap (λ x. token_put x at s) named
      ∙ (placed_done (delivered (Plain (Symbol n)) s.parts) (interned s.symbols n) s
      ∙ (ap (λ x. done (delivered (Plain (Symbol n)) x) s.at s.first (interned s.symbols n)) p ∙ ap (λ x. done (delivered (Plain (Symbol n)) ps) s.at s.first (interned x n)) y)))

  read_string : (q : Bool) (bs held : List ℕ) → spelling.Quoted bs held → IsRead q (AForm false) (34 ∷ bs) (Constant (Text held)) [] 0
  read_string q bs held h ps at first symbols rest d i l r k w = text_going packages ended bs held h ps at first symbols rest d r

  -- a form behind a mark that opens a part for it
  read_behind : (p : Part) (c q2 : Bool) (gap bs : List ℕ) (t : Template) (names : List QualifiedName) (n : ℕ) → Gap gap → IsRead q2 (AForm c) bs t names n
      → (ps : List Part) (at first : ℕ) (symbols : List QualifiedName) (rest : List ℕ) → full_dot (p ∷ ps) ≡ None → in_backquote (p ∷ ps) ≡ q2 → length ps + (n + 1) ≤ most_parts
      → Upto ((at + length gap) + length bs) first → have_room symbols names ≡ true → Stops ended c ((at + length gap) + length bs) rest
      → going packages ended (free (p ∷ ps) at first symbols) ((gap ++ bs) ++ rest)
      ≡ after (done (delivered (item_of t) (p ∷ ps)) ((at + length gap) + length bs) first (all_interned symbols names)) (λ t. going packages ended t rest)
  read_behind p c q2 gap bs t names n g h ps at first symbols rest d i k r f w =
      let a : at + length gap ≤ (at + length gap) + length bs = omega arith in
      ap (going packages ended (free (p ∷ ps) at first symbols)) (append_assoc gap bs rest)
      ∙ (gap_in p ps at first symbols gap (bs ++ rest) g (upto_less (at + length gap) ((at + length gap) + length bs) first a r)
      ∙ h (p ∷ ps) (at + length gap) first symbols rest d i (omega (arith, k)) r f w)

  -- the places and the room behind a mark
  behind : (at : ℕ) (gap bs : List ℕ) (m : ℕ) → ((at + 1) + length gap) + length bs ≡ at + length (m ∷ (gap ++ bs))
  behind at gap bs m = omega (arith, length-append gap bs)

  read_mark : (m : ℕ) (l : Lexeme) (p : Part) (c q q2 : Bool) (gap bs : List ℕ) (t u : Template) (names : List QualifiedName) (n : ℕ)
      → ends_token m ≡ true → ((s : State) → mark m s ≡ marked l s)
      → ((ps : List Part) (at : ℕ) → full_dot ps ≡ None → in_backquote ps ≡ q → length ps < most_parts → put l at ps ≡ Parts (p ∷ ps))
      → ((ps : List Part) → in_backquote ps ≡ q → (full_dot (p ∷ ps) ≡ None) × (in_backquote (p ∷ ps) ≡ q2) × (delivered (item_of t) (p ∷ ps) ≡ delivered (item_of u) ps))
      → Gap gap → IsRead q2 (AForm c) bs t names n → IsRead q (AForm c) (m ∷ (gap ++ bs)) u names (n + 1)
  read_mark m l p c q q2 gap bs t u names n e mk pt part g h ps at first symbols rest d i k r f w =
      let first' = begin ps at first in
      let z = behind at gap bs m in
      let a : at + 1 ≤ at + length (m ∷ (gap ++ bs)) = omega arith in
      let x = part ps i in
      open_going l m p ps at first symbols ((gap ++ bs) ++ rest) e (mk (free ps at first symbols)) (pt ps at d i (omega (arith, k))) (upto_less (at + 1) (at + length (m ∷ (gap ++ bs))) first' a r)
      ∙ (read_behind p c q2 gap bs t names n g h ps (at + 1) first' symbols rest x.0 x.1 (omega (arith, k)) (record { input = omega (arith, z, r.input); bytes = omega (arith, z, r.bytes) }) f
      (subst (λ (y : ℕ). Stops ended c y rest) (sym z) w)
      ∙ (ap (λ y. after (done y (((at + 1) + length gap) + length bs) first' (all_interned symbols names)) (λ t. going packages ended t rest)) x.2
      ∙ ap (λ y. after (done (delivered (item_of u) ps) y first' (all_interned symbols names)) (λ t. going packages ended t rest)) z))

  read_quote : (q c : Bool) (gap bs : List ℕ) (t : Template) (names : List QualifiedName) (n : ℕ) → Gap gap → IsRead q (AForm c) bs t names n → IsRead q (AForm c) (39 ∷ (gap ++ bs)) (quoted_template t) names (n + 1)
  read_quote q c gap bs t names n g h =
      read_mark 39 Quote Quoted c q q gap bs t (quoted_template t) names n refl (λ s. refl)
      (λ ps at d i l. rw d (opened_is Quoted at ps l))
      (λ ps i. (refl, i, refl)) g h

  read_backquote : (c : Bool) (gap bs : List ℕ) (t : Template) (names : List QualifiedName) (n : ℕ) → Gap gap → IsRead true (AForm c) bs t names n → IsRead false (AForm c) (96 ∷ (gap ++ bs)) (Constant (expansion t)) names (n + 1)
  read_backquote c gap bs t names n g h =
      read_mark 96 Backquote Backquoted c false true gap bs t (Constant (expansion t)) names n refl (λ s. refl)
      (λ ps at d i l. rw (d, i) (opened_is Backquoted at ps l))
      (λ ps i. (refl, refl, ap (λ x. delivered (Plain x) ps) (expansion_is t))) g h

  read_listed : (q : Bool) (bs : List ℕ) (t : Template) (names : List QualifiedName) (n : ℕ) → IsRead q (ARest false) bs t names n → IsRead q (AForm false) (40 ∷ bs) t names (n + 1)
  read_listed q bs t names n h ps at first symbols rest d i k r f w =
      let first' = begin ps at first in
      let a : at + 1 ≤ at + length (40 ∷ bs) = omega arith in
      let z : (at + 1) + length bs ≡ at + length (40 ∷ bs) = omega arith in
      open_going Open 40 (Opened []) ps at first symbols (bs ++ rest) refl refl (rw d (opened_is (Opened []) at ps (omega (arith, k)))) (upto_less (at + 1) (at + length (40 ∷ bs)) first' a r)
      ∙ (h [] ps (at + 1) first' symbols rest tt i (omega (arith, k)) (record { input = omega (arith, z, r.input); bytes = omega (arith, z, r.bytes) }) f
      ∙ ap (λ y. after (done (delivered (item_of t) ps) y first' (all_interned symbols names)) (λ t. going packages ended t rest)) z)

  -- a bracket closes
  close_going : (p : Part) (ps : List Part) (at first : ℕ) (symbols : List QualifiedName) (rest : List ℕ) → Upto (at + 1) first
      → going packages ended (free (p ∷ ps) at first symbols) (41 ∷ rest) ≡ after (done (closed at (p ∷ ps)) (at + 1) first symbols) (λ t. going packages ended t rest)
  close_going p ps at first symbols rest r = ap (λ x. after x (λ t. going packages ended t rest)) (mark_done Close 41 (p ∷ ps) at first symbols refl refl r)

  read_close : (q b : Bool) (gap : List ℕ) → Gap gap → IsRead q (ARest b) (gap ++ 41 ∷ []) (Constant nil_form) [] 0
  read_close q b gap g is ps at first symbols rest s i k r f =
      let to = at + length (gap ++ 41 ∷ []) in
      let len = length-append gap (41 ∷ []) in
      let z : (at + length gap) + 1 ≡ to = omega (arith, len) in
      let a : at + length gap ≤ to = omega (arith, len) in
      ap (going packages ended (free (Opened is ∷ ps) at first symbols)) (append_assoc gap (41 ∷ []) rest)
      ∙ (gap_in (Opened is) ps at first symbols gap (41 ∷ rest) g (upto_less (at + length gap) to first a r)
      ∙ (close_going (Opened is) ps (at + length gap) first symbols rest (record { input = omega (arith, z, r.input); bytes = omega (arith, z, r.bytes) })
      ∙ ap (λ y. after (done (delivered (joined_onto is (Plain nil_form)) ps) y first symbols) (λ t. going packages ended t rest)) z))

  read_element : (q b c : Bool) (gap bs more : List ℕ) (t u : Template) (names names2 : List QualifiedName) (m n : ℕ) → Gap gap → IsRead q (AForm c) bs t names m → Follows c more → 0 < length more
      → IsRead q (ARest true) more u names2 n → IsRead q (ARest b) (gap ++ (bs ++ more)) (Both t u) (names ++ names2) (max m n)
  read_element q b c gap bs more t u names names2 m n g h w l h2 is ps at first symbols rest s i k r f =
      let to = at + length (gap ++ (bs ++ more)) in
      let len = length-append gap (bs ++ more) in
      let len2 = length-append bs more in
      let at1 = at + length gap in
      let at2 = at1 + length bs in
      let a1 : at1 ≤ to = omega (arith, len) in
      let a2 : at2 ≤ to = omega (arith, len, len2) in
      let z : at2 + length more ≡ to = omega (arith, len, len2) in
      let a3 : at2 < most_input = omega (arith, z, l, r.input) in
      let rooms = room_append symbols names names2 f in
      let some : 0 < length (is ++ item_of t ∷ []) = omega (arith, length_push is (item_of t)) in
      let symbols2 = all_interned symbols names in
      ap (going packages ended (free (Opened is ∷ ps) at first symbols)) (append_assoc gap (bs ++ more) rest ∙ ap (λ (x : List ℕ). gap ++ x) (append_assoc bs more rest))
      ∙ (gap_in (Opened is) ps at first symbols gap (bs ++ (more ++ rest)) g (upto_less at1 to first a1 r)
      ∙ (h (Opened is ∷ ps) at1 first symbols (more ++ rest) refl i (omega (arith, k)) (upto_less at2 to first a2 r) rooms.0 (stops ended c at2 (more ++ rest) (follows_more c more rest w) a3)
      ∙ (h2 (is ++ item_of t ∷ []) ps at2 first symbols2 rest some i (omega (arith, k)) (record { input = omega (arith, z, r.input); bytes = omega (arith, z, r.bytes) }) rooms.1
      ∙ (ap (λ y. after (done (delivered y ps) (at2 + length more) first (all_interned symbols2 names2)) (λ t. going packages ended t rest)) (joined_push is (item_of t) (item_of u))
      ∙ (ap (λ y. after (done (delivered (joined_onto is (item_of (Both t u))) ps) y first (all_interned symbols2 names2)) (λ t. going packages ended t rest)) z
      ∙ ap (λ y. after (done (delivered (joined_onto is (item_of (Both t u))) ps) to first y) (λ t. going packages ended t rest)) (sym (interned_append symbols names names2)))))))

  -- ---- commas

  begin_in : (ps : List Part) (at first : ℕ) → in_backquote ps ≡ true → begin ps at first ≡ first
  begin_in [] at first h = cc
  begin_in (p ∷ ps) at first h = refl

  first_comma : (ps : List Part) (at first : ℕ) (symbols : List QualifiedName) → first_of (st ps AfterComma [] at first symbols) ≡ first
  first_comma ps at first symbols = grind (arith, nat_tests)

  -- the comma opens a part once the byte behind it is there
  comma_ended_is : (l : Lexeme) (ps : List Part) (at first : ℕ) (symbols : List QualifiedName) → at < first + most_bytes
      → comma_ended l (st ps AfterComma [] (at + 1) first symbols) ≡ done (put l at ps) (at + 1) first symbols
  comma_ended_is l ps at first symbols r =
      let s = st ps AfterComma [] (at + 1) first symbols in
      let z : (at + 1) - 1 ≡ at = omega arith in
      let f = first_comma ps (at + 1) first symbols in
      ap (λ n. counted (put l n ps) Free [] n s) z
      ∙ (counted_done (put l at ps) at s (room_of s at (omega (arith, f, r)))
      ∙ ap (λ n. done (put l at ps) (at + 1) n symbols) f)

  comma_step : (b : ℕ) (ps : List Part) (at first : ℕ) (symbols : List QualifiedName) → (b == 64) ≡ false
      → step packages (st ps AfterComma [] at first symbols) b ≡ after (comma_ended lexeme.Comma (st ps AfterComma [] at first symbols)) (λ t. if_in_input t (taken packages b t))
  unfolding step
  comma_step b ps at first symbols h = rw h refl

  at_step : (ps : List Part) (at first : ℕ) (symbols : List QualifiedName)
      → step packages (st ps AfterComma [] at first symbols) 64 ≡ after (comma_ended lexeme.CommaAt (st ps AfterComma [] at first symbols)) (λ t. if_in_input t (goes_on Free [] t))
  unfolding step
  at_step ps at first symbols = refl

  step_again : (b : ℕ) (ps : List Part) (at first : ℕ) (symbols : List QualifiedName)
      → if_in_input (free ps at first symbols) (taken packages b (free ps at first symbols)) ≡ step packages (free ps at first symbols) b
  unfolding step
  step_again b ps at first symbols = refl

  comma_opens : (ps : List Part) (at first : ℕ) (symbols : List QualifiedName) → full_dot ps ≡ None → in_backquote ps ≡ true → at < most_input
      → step packages (free ps at first symbols) 44 ≡ Goes (st ps AfterComma [] (at + 1) first symbols)
  comma_opens ps at first symbols d i l = mark_step packages ended ps at first 44 symbols refl l ∙ (rw (d, i) refl)

  -- a comma, with the byte behind it
  comma_going : (ps : List Part) (at first : ℕ) (symbols : List QualifiedName) (xs : List ℕ) → 0 < length xs → begins_with_at xs ≡ false
      → full_dot ps ≡ None → in_backquote ps ≡ true → length ps < most_parts → Upto (at + 1) first
      → going packages ended (free ps at first symbols) (44 ∷ xs) ≡ going packages ended (free (Unquoted ∷ ps) (at + 1) first symbols) xs
  comma_going ps at first symbols [] l h d i k r = absurd (omega (arith, l))
  comma_going ps at first symbols (b ∷ xs) l h d i k r =
      let opens : put lexeme.Comma at ps ≡ Parts (Unquoted ∷ ps) = rw (d, i) (opened_is Unquoted at ps k) in
      ap (λ x. after x (λ t. going packages ended t (b ∷ xs))) (comma_opens ps at first symbols d i (omega (arith, r.input)))
      ∙ ap (λ x. after x (λ t. going packages ended t xs))
      (comma_step b ps (at + 1) first symbols h
      ∙ (ap (λ x. after x (λ t. if_in_input t (taken packages b t))) (comma_ended_is lexeme.Comma ps at first symbols (omega (arith, r.bytes)) ∙ ap (λ x. done x (at + 1) first symbols) opens)
      ∙ step_again b (Unquoted ∷ ps) (at + 1) first symbols))

  at_going : (is : List Item) (ps : List Part) (at first : ℕ) (symbols : List QualifiedName) (xs : List ℕ) → in_backquote ps ≡ true → length ps + 1 < most_parts → Upto ((at + 1) + 1) first
      → going packages ended (free (Opened is ∷ ps) at first symbols) (44 ∷ 64 ∷ xs) ≡ going packages ended (free (Splicing ∷ Opened is ∷ ps) ((at + 1) + 1) first symbols) xs
  at_going is ps at first symbols xs i k r =
      let qs = Opened is ∷ ps in
      let t = free (Splicing ∷ qs) (at + 1) first symbols in
      let opens : put lexeme.CommaAt at qs ≡ Parts (Splicing ∷ qs) = rw i (opened_is Splicing at qs (omega (arith, k))) in
      let l : at + 1 < most_input = omega (arith, r.input) in
      let f = begin_is (Splicing ∷ qs) (at + 1) first symbols in
      ap (λ x. after x (λ u. going packages ended u (64 ∷ xs))) (comma_opens qs at first symbols refl i (omega (arith, r.input)))
      ∙ ap (λ x. after x (λ u. going packages ended u xs))
      (at_step qs (at + 1) first symbols
      ∙ (ap (λ x. after x (λ u. if_in_input u (goes_on Free [] u))) (comma_ended_is lexeme.CommaAt qs at first symbols (omega (arith, r.bytes)) ∙ ap (λ x. done x (at + 1) first symbols) opens)
      ∙ (rw (lt-ltb (at + 1) most_input l) refl
      ∙ goes_on_step packages ended (Splicing ∷ qs) Free [] (at + 1) first symbols (omega (arith, r.bytes)))))

  read_comma : (c : Bool) (gap bs : List ℕ) (t : Template) (names : List QualifiedName) (n : ℕ) → Gap gap → begins_with_at (gap ++ bs) ≡ false → 0 < length bs → has_comma t ≡ false
      → IsRead false (AForm c) bs t names n → IsRead true (AForm c) (44 ∷ (gap ++ bs)) (Comma (form_of t)) names (n + 1)
  read_comma c gap bs t names n g h l p e ps at first symbols rest d i k r f w =
      let z = behind at gap bs 44 in
      let first' = begin_in ps at first i in
      let a : at + 1 ≤ at + length (44 ∷ (gap ++ bs)) = omega arith in
      let r1 : Upto (at + length (44 ∷ (gap ++ bs))) first = record { input = r.input; bytes = omega (arith, r.bytes, first') } in
      let some : 0 < length ((gap ++ bs) ++ rest) = omega (arith, l, length-append gap bs, length-append (gap ++ bs) rest) in
      comma_going ps at first symbols ((gap ++ bs) ++ rest) some (still (gap ++ bs) rest (omega (arith, l, length-append gap bs)) h) d i (omega (arith, k)) (upto_less (at + 1) (at + length (44 ∷ (gap ++ bs))) first a r1)
      ∙ (read_behind Unquoted c false gap bs t names n g e ps (at + 1) first symbols rest refl refl (omega (arith, k)) (record { input = omega (arith, z, r1.input); bytes = omega (arith, z, r1.bytes) }) f
      (subst (λ (y : ℕ). Stops ended c y rest) (sym z) w)
      ∙ (ap (λ y. after (done (delivered (Made y) ps) (((at + 1) + length gap) + length bs) first (all_interned symbols names)) (λ t. going packages ended t rest)) (form_is t p)
      ∙ (ap (λ y. after (done (delivered (Made (form_of t)) ps) y first (all_interned symbols names)) (λ t. going packages ended t rest)) z
      ∙ ap (λ y. after (done (delivered (Made (form_of t)) ps) (at + length (44 ∷ (gap ++ bs))) y (all_interned symbols names)) (λ t. going packages ended t rest)) (sym first')))) where
        still : (xs ys : List ℕ) → 0 < length xs → begins_with_at xs ≡ false → begins_with_at (xs ++ ys) ≡ false
        still [] ys l h = absurd (omega (arith, l))
        still (x ∷ xs) ys l h = h

  read_spliced : (b c : Bool) (gap inner bs more : List ℕ) (t u : Template) (names names2 : List QualifiedName) (m n : ℕ) → Gap gap → Gap inner → has_comma t ≡ false → IsRead false (AForm c) bs t names m
      → Follows c more → 0 < length more → IsRead true (ARest true) more u names2 n
      → IsRead true (ARest b) (gap ++ (44 ∷ 64 ∷ (inner ++ (bs ++ more)))) (Both (CommaAt (form_of t)) u) (names ++ names2) (max (m + 1) n)
  read_spliced b c gap inner bs more t u names names2 m n g g2 e h w l h2 is ps at first symbols rest s i k r f =
      let to = at + length (gap ++ (44 ∷ 64 ∷ (inner ++ (bs ++ more)))) in
      let len = length-append gap (44 ∷ 64 ∷ (inner ++ (bs ++ more))) in
      let len1 = length-append inner (bs ++ more) in
      let len2 = length-append bs more in
      let at1 = at + length gap in
      let at2 = (at1 + 1) + 1 in
      let at3 = at2 + length inner in
      let at4 = at3 + length bs in
      let a1 : at1 ≤ to = omega (arith, len) in
      let a2 : at2 ≤ to = omega (arith, len) in
      let a3 : at3 ≤ to = omega (arith, len, len1) in
      let a4 : at4 ≤ to = omega (arith, len, len1, len2) in
      let z : at4 + length more ≡ to = omega (arith, len, len1, len2) in
      let a5 : at4 < most_input = omega (arith, z, l, r.input) in
      let rooms = room_append symbols names names2 f in
      let some : 0 < length (is ++ Spliced (form_of t) ∷ []) = omega (arith, length_push is (Spliced (form_of t))) in
      let symbols2 = all_interned symbols names in
      let both_is = item_of (Both (CommaAt (form_of t)) u) in
      ap (going packages ended (free (Opened is ∷ ps) at first symbols))
      (append_assoc gap (44 ∷ 64 ∷ (inner ++ (bs ++ more))) rest
      ∙ ap (λ (x : List ℕ). gap ++ (44 ∷ 64 ∷ x)) (append_assoc inner (bs ++ more) rest ∙ ap (λ (x : List ℕ). inner ++ x) (append_assoc bs more rest)))
      ∙ (gap_in (Opened is) ps at first symbols gap (44 ∷ 64 ∷ (inner ++ (bs ++ (more ++ rest)))) g (upto_less at1 to first a1 r)
      ∙ (at_going is ps at1 first symbols (inner ++ (bs ++ (more ++ rest))) i (omega (arith, k)) (upto_less at2 to first a2 r)
      ∙ (gap_in Splicing (Opened is ∷ ps) at2 first symbols inner (bs ++ (more ++ rest)) g2 (upto_less at3 to first a3 r)
      ∙ (h (Splicing ∷ Opened is ∷ ps) at3 first symbols (more ++ rest) refl refl (omega (arith, k)) (upto_less at4 to first a4 r) rooms.0 (stops ended c at4 (more ++ rest) (follows_more c more rest w) a5)
      ∙ (ap (λ y. going packages ended (free (Opened (is ++ Spliced y ∷ []) ∷ ps) at4 first symbols2) (more ++ rest)) (form_is t e)
      ∙ (h2 (is ++ Spliced (form_of t) ∷ []) ps at4 first symbols2 rest some i (omega (arith, k)) (record { input = omega (arith, z, r.input); bytes = omega (arith, z, r.bytes) }) rooms.1
      ∙ (ap (λ y. after (done (delivered y ps) (at4 + length more) first (all_interned symbols2 names2)) (λ t. going packages ended t rest)) (joined_push is (Spliced (form_of t)) (item_of u))
      ∙ (ap (λ y. after (done (delivered (joined_onto is both_is) ps) y first (all_interned symbols2 names2)) (λ t. going packages ended t rest)) z
      ∙ ap (λ y. after (done (delivered (joined_onto is both_is) ps) to first y) (λ t. going packages ended t rest)) (sym (interned_append symbols names names2))))))))))

  dot_token : token_of packages (46 ∷ []) ≡ token.Dot
  unfolding token_of
  dot_token = refl

  dot_going : (i : Item) (is : List Item) (ps : List Part) (at first : ℕ) (symbols : List QualifiedName) (rest : List ℕ) → Upto (at + 1) first → Stops ended true (at + 1) rest
      → going packages ended (free (Opened (i ∷ is) ∷ ps) at first symbols) (46 ∷ rest) ≡ going packages ended (free (Dotted (i ∷ is) at ∷ ps) (at + 1) first symbols) rest
  dot_going i is ps at first symbols rest r w =
      token_going packages ended (46 ∷ []) (Opened (i ∷ is) ∷ ps) at first symbols symbols (Parts (Dotted (i ∷ is) at ∷ ps)) rest
      (record { some = omega arith; whole = refl; apart = refl }) refl r w
      (λ s p y. ap (λ x. token_put (with_room symbols x) at s) dot_token
      ∙ (placed_done (put Dot at s.parts) s.symbols s
      ∙ (ap (λ x. done (put Dot at x) s.at s.first s.symbols) p ∙ ap (λ x. done (Parts (Dotted (i ∷ is) at ∷ ps)) s.at s.first x) y)))

  read_dot : (q c : Bool) (gap inner bs last : List ℕ) (t : Template) (names : List QualifiedName) (n : ℕ) → Gap gap → Gap inner → Gap last → IsRead q (AForm c) bs t names n
      → Follows true (inner ++ bs) → Follows c (last ++ 41 ∷ [])
      → IsRead q (ARest true) (gap ++ (46 ∷ (inner ++ (bs ++ (last ++ 41 ∷ []))))) t names n
  read_dot q c gap inner bs last t names n g g2 g3 h w w2 [] ps at first symbols rest s i k r f = absurd (omega (arith, s))
  read_dot q c gap inner bs last t names n g g2 g3 h w w2 (i0 ∷ is) ps at first symbols rest s i k r f =
      let all = i0 ∷ is in
      let tail = last ++ 41 ∷ [] in
      let to = at + length (gap ++ (46 ∷ (inner ++ (bs ++ tail)))) in
      let len = length-append gap (46 ∷ (inner ++ (bs ++ tail))) in
      let len1 = length-append inner (bs ++ tail) in
      let len2 = length-append bs tail in
      let len3 = length-append last (41 ∷ []) in
      let at1 = at + length gap in
      let at2 = (at1 + 1) + length inner in
      let at3 = at2 + length bs in
      let at4 = at3 + length last in
      let a1 : at1 ≤ to = omega (arith, len) in
      let a1' : at1 + 1 ≤ to = omega (arith, len) in
      let a2 : at2 ≤ to = omega (arith, len, len1) in
      let a3 : at3 ≤ to = omega (arith, len, len1, len2) in
      let a4 : at4 ≤ to = omega (arith, len, len1, len2, len3) in
      let z : at4 + 1 ≡ to = omega (arith, len, len1, len2, len3) in
      let l1 : at1 + 1 < most_input = omega (arith, len, len1, len2, len3, r.input) in
      let l3 : at3 < most_input = omega (arith, z, r.input) in
      let symbols2 = all_interned symbols names in
      let apart : begins_apart (inner ++ (bs ++ (tail ++ rest))) ≡ true = ap begins_apart (sym (append_assoc inner bs (tail ++ rest))) ∙ follows_more true (inner ++ bs) (tail ++ rest) w in
      ap (going packages ended (free (Opened all ∷ ps) at first symbols))
      (append_assoc gap (46 ∷ (inner ++ (bs ++ tail))) rest
      ∙ ap (λ (x : List ℕ). gap ++ (46 ∷ x)) (append_assoc inner (bs ++ tail) rest ∙ ap (λ (x : List ℕ). inner ++ x) (append_assoc bs tail rest)))
      ∙ (gap_in (Opened all) ps at first symbols gap (46 ∷ (inner ++ (bs ++ (tail ++ rest)))) g (upto_less at1 to first a1 r)
      ∙ (dot_going i0 is ps at1 first symbols (inner ++ (bs ++ (tail ++ rest))) (upto_less (at1 + 1) to first a1' r) (stops ended true (at1 + 1) (inner ++ (bs ++ (tail ++ rest))) apart l1)
      ∙ (gap_in (Dotted all at1) ps (at1 + 1) first symbols inner (bs ++ (tail ++ rest)) g2 (upto_less at2 to first a2 r)
      ∙ (h (Dotted all at1 ∷ ps) at2 first symbols (tail ++ rest) refl i (omega (arith, k)) (upto_less at3 to first a3 r) f (stops ended c at3 (tail ++ rest) (follows_more c tail rest w2) l3)
      ∙ (ap (going packages ended (free (Ended all at1 (item_of t) ∷ ps) at3 first symbols2)) (append_assoc last (41 ∷ []) rest)
      ∙ (gap_in (Ended all at1 (item_of t)) ps at3 first symbols2 last (41 ∷ rest) g3 (upto_less at4 to first a4 r)
      ∙ (close_going (Ended all at1 (item_of t)) ps at4 first symbols2 rest (record { input = omega (arith, z, r.input); bytes = omega (arith, z, r.bytes) })
      ∙ ap (λ y. after (done (delivered (joined_onto all (item_of t)) ps) y first symbols2) (λ t. going packages ended t rest)) z)))))))

  -- every spelling is read
  pub spelling_read : (q : Bool) (sort : Sort) (bs : List ℕ) (t : Template) (names : List QualifiedName) (n : ℕ) → Spells packages q sort bs t names n → IsRead q sort bs t names n
  spelling_read q sort bs t names n (spelling.integer p xs z k e) = read_integer p xs z k e
  spelling_read q sort bs t names n (spelling.symbol p xs s k e) = read_symbol p xs s k e
  spelling_read q sort bs t names n (spelling.string p xs held h) = read_string p xs held h
  spelling_read q sort bs t names n (spelling.quote p c gap xs u ns m g h) = read_quote p c gap xs u ns m g (spelling_read p (AForm c) xs u ns m h)
  spelling_read q sort bs t names n (spelling.backquote c gap xs u ns m g h) = read_backquote c gap xs u ns m g (spelling_read true (AForm c) xs u ns m h)
  spelling_read q sort bs t names n (spelling.comma c gap xs u ns m g b h) =
      read_comma c gap xs u ns m g b (some_bytes false (AForm c) xs u ns m h) (no_comma false (AForm c) xs u ns m h refl) (spelling_read false (AForm c) xs u ns m h)
  spelling_read q sort bs t names n (spelling.listed p xs u ns m h) = read_listed p xs u ns m (spelling_read p (ARest false) xs u ns m h)
  spelling_read q sort bs t names n (spelling.close p b gap g) = read_close p b gap g
  spelling_read q sort bs t names n (spelling.element p b c gap xs rest u v ns more m k g h w i) =
      read_element p b c gap xs rest u v ns more m k g (spelling_read p (AForm c) xs u ns m h) w (some_bytes p (ARest true) rest v more k i) (spelling_read p (ARest true) rest v more k i)
  spelling_read q sort bs t names n (spelling.spliced b c gap inner xs rest u v ns more m k g g2 h w i) =
      read_spliced b c gap inner xs rest u v ns more m k g g2 (no_comma false (AForm c) xs u ns m h refl) (spelling_read false (AForm c) xs u ns m h) w
      (some_bytes true (ARest true) rest v more k i) (spelling_read true (ARest true) rest v more k i)
  spelling_read q sort bs t names n (spelling.dot p c gap inner xs last u ns m g g2 g3 h w w2) = read_dot p c gap inner xs last u ns m g g2 g3 (spelling_read p (AForm c) xs u ns m h) w w2
