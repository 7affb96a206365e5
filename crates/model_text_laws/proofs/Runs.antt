-- What is found is spelled.
use Rattle.std.specs.Prelude.{◌≡◌, ℕ, ◌+◌, ◌-◌, ◌<◌, ◌≤◌, ◌==◌, nat_lt, nat_le, List, [], ◌∷◌, ◌++◌, length, Bool, true, false, ◌&&◌, if◌then◌else◌, refl, Option, Some, None}
use Rattle.std.proofs.Common.{sym, ap, ◌∙◌, arith, length-append, subst, inl, inr}
use Rattle.std.proofs.lemmas.List.{append_assoc, append-nil, length_push}
use Rattle.std.proofs.lemmas.Bool.{ltb-true, leb-true, eqb-true}
use Rattle.std.proofs.lemmas.Bool.Decides.{nat_tests}
use Rattle.model_objects.specs.Object.{weight, max_weight}
use Rattle.model_symbols.specs.Symbols.{QualifiedName}
use Rattle.model_text.specs.Token.{Form, Packages, is_empty, token_of, with_room}
use Rattle.model_text.specs.Parts.{Lexeme, Atom, Open, Close, Dot, Quote, Backquote, Part, Put, Parts, Whole, Bad, full_dot, unless_full, in_backquote, delivered, put}
use Rattle.model_text.specs.Parts as lexeme
use Rattle.model_text.specs.Next.{Inside, Free, Bars, BarsEscape, String, StringEscape, Line, Block, BlockHash, BlockBar, AfterComma, State, Step, Goes, Gives, Fails, after, is_idle, first_of, has_room, counted, goes_on, placed, token_put, token_ended, free_byte, most_input}
use Rattle.model_text.specs.Spelling.{Gap, AForm, IsToken, Follows, begins_apart, goes_on_as_token, begins_block, is_line, Quoted, begins_with_at}
use Rattle.model_text.specs.Spelling as spelling
use Rattle.model_text.specs.declared.TextCause.{TextCause}
use Rattle.model_text.specs.declared.TextCause.TheVariants.{TooLarge, FormTooLong, BadDot, CommaOutside}
use Rattle.model_text_laws.proofs.Going.{st, free, first_token}
use Rattle.model_text_laws.proofs.Sound.{Sound, Settled, Delivers, IsSpelled, settled_more}
use Rattle.model_text_laws.proofs.Holding.{Situation, Holds, Finds, Comes}
use Rattle.model_symbols.specs.Symbols.{Package}
use Rattle.model_text.specs.Parts.{Unquoted, Splicing, opened, takes_element, most_parts}
use Rattle.model_text.specs.Next.{is_after_comma, comma_ended, comma_byte, if_in_input, taken, taken_inside, step, run, ended_inside, ended_step, at_end, answer, Stands, End, Faulty, next_at, nothing_read, may_end}
use Rattle.model_text.specs.declared.TextCause.TheVariants.{TooDeep, InputTooLong, Unfinished}
use Rattle.model_text_laws.specs.Laws.{packages_of, BeginsWith, StandsSpelled, Stops}
use Rattle.model_text_laws.proofs.Sound.{begun}
use Rattle.model_text_laws.proofs.Holding.{result}
use Rattle.model_text_laws.proofs.Bytes.{Ready, free_comes, token_does}
use Rattle.model_text_laws.proofs.Inner.{bars_comes, escape_comes, string_comes, string_escape_comes, line_comes, block_comes, block_hash_comes, block_bar_comes}

-- what a comma does
comma_does : (R : Put → Type 0) (n : ℕ) (ps : List Part) → (length ps < most_parts → in_backquote ps ≡ true → R (Parts (Unquoted ∷ ps))) → ((c : TextCause) (m : ℕ) → R (Bad c m)) → R (put lexeme.Comma n ps)
comma_does R n ps opens bad = go (full_dot ps) where
  open_test : in_backquote ps ≡ true → (x : Bool) → nat_lt (length ps) most_parts ≡ x → R (if x then Parts (Unquoted ∷ ps) else Bad TooDeep n)
  open_test e true h = opens (ltb-true (length ps) most_parts h) e
  open_test e false h = bad TooDeep n

  inside : (x : Bool) → in_backquote ps ≡ x → R (if x then opened Unquoted n ps else Bad CommaOutside n)
  inside true e = open_test e (nat_lt (length ps) most_parts) refl
  inside false e = bad CommaOutside n

  go : (d : Option ℕ) → R (unless_full d (if in_backquote ps then opened Unquoted n ps else Bad CommaOutside n))
  go None = inside (in_backquote ps) refl
  go (Some d) = bad BadDot d

comma_at_does : (R : Put → Type 0) (n : ℕ) (ps : List Part) → (length ps < most_parts → in_backquote ps ≡ true → takes_element ps ≡ true → R (Parts (Splicing ∷ ps))) → ((c : TextCause) (m : ℕ) → R (Bad c m))
    → R (put lexeme.CommaAt n ps)
comma_at_does R n ps opens bad = go (full_dot ps) where
  open_test : in_backquote ps ≡ true → takes_element ps ≡ true → (x : Bool) → nat_lt (length ps) most_parts ≡ x → R (if x then Parts (Splicing ∷ ps) else Bad TooDeep n)
  open_test e f true h = opens (ltb-true (length ps) most_parts h) e f
  open_test e f false h = bad TooDeep n

  inside : (x y : Bool) → in_backquote ps ≡ x → takes_element ps ≡ y → R (if x then (if y then opened Splicing n ps else Bad CommaOutside n) else Bad CommaOutside n)
  inside true true e f = open_test e f (nat_lt (length ps) most_parts) refl
  inside true false e f = bad CommaOutside n
  inside false y e f = bad CommaOutside n

  go : (d : Option ℕ) → R (unless_full d (if in_backquote ps then (if takes_element ps then opened Splicing n ps else Bad CommaOutside n) else Bad CommaOutside n))
  go None = inside (in_backquote ps) (takes_element ps) refl refl
  go (Some d) = bad BadDot d

first_in : (p : Part) (ps : List Part) (at first : ℕ) (symbols : List QualifiedName) → first_of (free (p ∷ ps) at first symbols) ≡ first
first_in p ps at first symbols = grind (arith, nat_tests)

module _ (packages : Packages) (o : ℕ) (known : List QualifiedName) where
  -- ---- the byte behind a comma

  behind_comma : (b : ℕ) (ps : List Part) (held : List ℕ) (at first : ℕ) (symbols : List QualifiedName) (xs : List ℕ) → Holds packages o known (st ps AfterComma held at first symbols) xs
      → Comes packages o known xs b (comma_byte packages b (st ps AfterComma held at first symbols))
  behind_comma b ps held at first symbols xs h = go (b == 64) refl where
    s : State
    s = st ps AfterComma held at first symbols

    n : ℕ
    n = at - 1

    xs_is : xs ≡ h.before ++ 44 ∷ []
    xs_is = h.split ∙ ap (λ (y : List ℕ). h.before ++ y) h.lexing.0

    again : n + 1 ≡ at
    again = omega (arith, h.place.offset, ap length xs_is, length_push h.before 44)

    -- the state behind the comma, where this part opened
    situated : (p : Part) → Situation packages o known h.gap xs h.names (n + 1) (first_of (free (p ∷ ps) (n + 1) (first_of s) symbols)) symbols
    situated p = record { blank = h.place.blank; offset = again ∙ h.place.offset; begins = first_in p ps (n + 1) (first_of s) symbols ∙ h.place.begins; knows = h.place.knows; room = h.place.room }

    plain : (b == 64) ≡ false → length ps < most_parts → in_backquote ps ≡ true → (n + 1) < most_input → Comes packages o known xs b (free_byte packages b (free (Unquoted ∷ ps) (n + 1) (first_of s) symbols))
    plain f l e k =
        let P : List ℕ → Type 0 = λ y. (sd : Sound packages h.gap (Unquoted ∷ ps) y false h.names) × Settled packages h.gap (Unquoted ∷ ps) y false h.names sd (b ∷ []) in
        let here : P (h.before ++ 44 ∷ []) = ((begun packages h.gap (44 ∷ []) h.before ps h.apart h.names h.sound l, e), (omega arith, f)) in
        let x : P xs = subst P (sym xs_is) here in
        free_comes packages o known b (Unquoted ∷ ps) [] (n + 1) (first_of s) symbols xs (record {
          gap = h.gap;
          before = xs;
          part = [];
          apart = false;
          names = h.names;
          split = sym (append-nil xs);
          sound = x.0;
          follows = tt;
          settled = x.1;
          now = λ z. absurd (omega (arith, z));
          lexing = (refl, ((λ rest. refl), refl));
          place = situated Unquoted;
          short = λ z. absurd (omega (arith, z));
          input = k;
        })

    spliced : b ≡ 64 → length ps < most_parts → in_backquote ps ≡ true → takes_element ps ≡ true → (n + 1) < most_input → Comes packages o known xs b (goes_on Free [] (free (Splicing ∷ ps) (n + 1) (first_of s) symbols))
    spliced q l e f k = room (has_room t (n + 1)) refl where
      t : State
      t = free (Splicing ∷ ps) (n + 1) (first_of s) symbols

      ys_is : h.before ++ 44 ∷ 64 ∷ [] ≡ xs ++ b ∷ []
      ys_is = sym (append_assoc h.before (44 ∷ []) (64 ∷ [])) ∙ (ap (λ (y : List ℕ). y ++ 64 ∷ []) (sym xs_is) ∙ ap (λ (x : ℕ). xs ++ x ∷ []) (sym q))

      sound : Sound packages h.gap (Splicing ∷ ps) (xs ++ b ∷ []) false h.names
      sound = subst (λ (y : List ℕ). Sound packages h.gap (Splicing ∷ ps) y false h.names) ys_is (begun packages h.gap (44 ∷ 64 ∷ []) h.before ps h.apart h.names h.sound l, e, f)

      busy : is_idle (free (Splicing ∷ ps) ((n + 1) + 1) (first_of t) symbols) ≡ true → xs ++ b ∷ [] ≡ h.gap
      busy i = let x : is_idle (free (Splicing ∷ ps) ((n + 1) + 1) (first_of t) symbols) ≡ false = grind (arith, nat_tests) in absurd (let y : true ≡ false = sym i ∙ x in cc)

      room : (r : Bool) → has_room t (n + 1) ≡ r → Comes packages o known xs b (if r then Goes (free (Splicing ∷ ps) ((n + 1) + 1) (first_of t) symbols) else Fails FormTooLong (n + 1))
      room true r =
          result packages o known (Splicing ∷ ps) (Splicing ∷ ps) Free Free [] [] (n + 1) (first_of s) b symbols xs h.gap (xs ++ b ∷ []) [] false h.names (situated Splicing) k r (λ z. refl)
          (sym (append-nil (xs ++ b ∷ []))) sound tt tt (refl, ((λ rest. refl), refl)) busy
      room false r = tt

    in_input : (x : Bool) (r : Step) → nat_lt (n + 1) most_input ≡ x → ((n + 1) < most_input → Comes packages o known xs b r) → Comes packages o known xs b (if x then r else Fails InputTooLong (n + 1))
    in_input true r e f = f (ltb-true (n + 1) most_input e)
    in_input false r e f = tt

    go : (x : Bool) → (b == 64) ≡ x
        → Comes packages o known xs b (if x then after (comma_ended lexeme.CommaAt s) (λ t. if_in_input t (goes_on Free [] t)) else after (comma_ended lexeme.Comma s) (λ t. if_in_input t (taken packages b t)))
    go true q =
        comma_at_does (λ x. Comes packages o known xs b (after (counted x Free [] n s) (λ t. if_in_input t (goes_on Free [] t)))) n ps
        (λ l e f. room (has_room s n) (λ k. in_input (nat_lt (n + 1) most_input) (goes_on Free [] (free (Splicing ∷ ps) (n + 1) (first_of s) symbols)) refl (λ i. spliced (eqb-true b 64 q) l e f i)))
        (λ c m. tt) where
          room : (r : Bool) → (Unit {0} → Comes packages o known xs b (if_in_input (free (Splicing ∷ ps) (n + 1) (first_of s) symbols) (goes_on Free [] (free (Splicing ∷ ps) (n + 1) (first_of s) symbols))))
              → Comes packages o known xs b (after (if r then Goes (free (Splicing ∷ ps) (n + 1) (first_of s) symbols) else Fails FormTooLong n) (λ t. if_in_input t (goes_on Free [] t)))
          room true f = f tt
          room false f = tt
    go false q =
        comma_does (λ x. Comes packages o known xs b (after (counted x Free [] n s) (λ t. if_in_input t (taken packages b t)))) n ps
        (λ l e. room (has_room s n) (λ k. in_input (nat_lt (n + 1) most_input) (taken packages b (free (Unquoted ∷ ps) (n + 1) (first_of s) symbols)) refl (λ i. plain q l e i)))
        (λ c m. tt) where
          room : (r : Bool) → (Unit {0} → Comes packages o known xs b (if_in_input (free (Unquoted ∷ ps) (n + 1) (first_of s) symbols) (taken packages b (free (Unquoted ∷ ps) (n + 1) (first_of s) symbols))))
              → Comes packages o known xs b (after (if r then Goes (free (Unquoted ∷ ps) (n + 1) (first_of s) symbols) else Fails FormTooLong n) (λ t. if_in_input t (taken packages b t)))
          room true f = f tt
          room false f = tt

  -- ---- one byte more

  ready : (b : ℕ) (ps : List Part) (i : Inside) (held : List ℕ) (at first : ℕ) (symbols : List QualifiedName) (xs : List ℕ) → Holds packages o known (st ps i held at first symbols) xs → at < most_input
      → Ready packages o known b ps i held at first symbols xs
  ready b ps i held at first symbols xs h l = record {
    gap = h.gap;
    before = h.before;
    part = h.part;
    apart = h.apart;
    names = h.names;
    split = h.split;
    sound = h.sound;
    follows = h.follows;
    settled = settled_more packages h.gap ps h.before h.apart h.names h.sound h.part (b ∷ []) h.settled;
    now = λ z. h.settled;
    lexing = h.lexing;
    place = h.place;
    short = h.short;
    input = l;
  }

  inside_comes : (b : ℕ) (ps : List Part) (i : Inside) (held : List ℕ) (at first : ℕ) (symbols : List QualifiedName) (xs : List ℕ) → is_after_comma i ≡ false → Ready packages o known b ps i held at first symbols xs
      → Comes packages o known xs b (taken_inside packages b (st ps i held at first symbols) i)
  inside_comes b ps Free held at first symbols xs n r = free_comes packages o known b ps held at first symbols xs r
  inside_comes b ps Bars held at first symbols xs n r = bars_comes packages o known b ps held at first symbols xs r
  inside_comes b ps BarsEscape held at first symbols xs n r = escape_comes packages o known b ps held at first symbols xs r
  inside_comes b ps String held at first symbols xs n r = string_comes packages o known b ps held at first symbols xs r
  inside_comes b ps StringEscape held at first symbols xs n r = string_escape_comes packages o known b ps held at first symbols xs r
  inside_comes b ps Line held at first symbols xs n r = line_comes packages o known b ps held at first symbols xs r
  inside_comes b ps (Block k) held at first symbols xs n r = block_comes packages o known k b ps held at first symbols xs r
  inside_comes b ps (BlockHash k) held at first symbols xs n r = block_hash_comes packages o known k b ps held at first symbols xs r
  inside_comes b ps (BlockBar k) held at first symbols xs n r = block_bar_comes packages o known k b ps held at first symbols xs r
  inside_comes b ps AfterComma held at first symbols xs n r = cc

  after_comma_is : (i : Inside) → is_after_comma i ≡ true → i ≡ AfterComma
  after_comma_is Free h = cc
  after_comma_is Bars h = cc
  after_comma_is BarsEscape h = cc
  after_comma_is String h = cc
  after_comma_is StringEscape h = cc
  after_comma_is Line h = cc
  after_comma_is (Block n) h = cc
  after_comma_is (BlockHash n) h = cc
  after_comma_is (BlockBar n) h = cc
  after_comma_is AfterComma h = refl

  step_comes : (b : ℕ) (ps : List Part) (i : Inside) (held : List ℕ) (at first : ℕ) (symbols : List QualifiedName) (xs : List ℕ) → Holds packages o known (st ps i held at first symbols) xs
      → Comes packages o known xs b (step packages (st ps i held at first symbols) b)
  unfolding step
  step_comes b ps i held at first symbols xs h = go (is_after_comma i) refl where
    s : State
    s = st ps i held at first symbols

    in_input : is_after_comma i ≡ false → (x : Bool) → nat_lt at most_input ≡ x → Comes packages o known xs b (if x then taken_inside packages b s i else Fails InputTooLong at)
    in_input n true e = inside_comes b ps i held at first symbols xs n (ready b ps i held at first symbols xs h (ltb-true at most_input e))
    in_input n false e = tt

    comma : i ≡ AfterComma → Comes packages o known xs b (comma_byte packages b s)
    comma e =
        let P : Inside → Type 0 = λ j. Holds packages o known (st ps j held at first symbols) xs → Comes packages o known xs b (comma_byte packages b (st ps j held at first symbols)) in
        subst P (sym e) (λ k. behind_comma b ps held at first symbols xs k) h

    go : (x : Bool) → is_after_comma i ≡ x → Comes packages o known xs b (if x then comma_byte packages b s else if_in_input s (taken packages b s))
    go true e = comma (after_comma_is i e)
    go false e = in_input e (nat_lt at most_input) refl

  -- ---- all bytes

  -- a form was found in these bytes, before the rest of them
  record Found (ended : Bool) (bytes : List ℕ) (f : Form) (n : ℕ) (symbols : List QualifiedName) : Type 0 where
    ys : List ℕ
    rest : List ℕ
    apart : Bool
    split : bytes ≡ ys ++ rest
    finds : Finds packages o known ys apart f n symbols
    stops : Stops ended apart n rest

  abbrev Leads : Bool → List ℕ → Step → Type 0
  Leads ended bytes (Goes t) = Holds packages o known t bytes
  Leads ended bytes (Gives f n symbols) = Found ended bytes f n symbols
  Leads ended bytes (Fails c n) = Unit {0}

  run_leads : (ended : Bool) (bytes : List ℕ) (s : State) (xs : List ℕ) → Holds packages o known s xs → Leads ended (xs ++ bytes) (run packages s bytes)
  run_leads ended [] s xs h = subst (λ (y : List ℕ). Holds packages o known s y) (sym (append-nil xs)) h
  run_leads ended (b ∷ bs) s xs h =
      come (step packages s b) (step_comes b s.parts s.inside s.token s.at s.first s.symbols xs h) (λ t k. run_leads ended bs t (xs ++ b ∷ []) k) where
        come : (r : Step) → Comes packages o known xs b r → ((t : State) → Holds packages o known t (xs ++ b ∷ []) → Leads ended ((xs ++ b ∷ []) ++ bs) (run packages t bs)) → Leads ended (xs ++ b ∷ bs) (after r (λ t. run packages t bs))
        come (Goes t) k again = subst (λ (y : List ℕ). Leads ended y (run packages t bs)) (append_assoc xs (b ∷ []) bs) (again t k)
        come (Gives f n symbols) k again = elim k [
          | inl q ↦ record { ys = xs; rest = b ∷ bs; apart = true; split = refl; finds = q.0; stops = (q.1, q.2) }
          | inr q ↦ record { ys = xs ++ b ∷ []; rest = bs; apart = false; split = sym (append_assoc xs (b ∷ []) bs); finds = q; stops = tt }
        ]
        come (Fails c n) k again = tt

  -- ---- the end of the input

  token_finds : (ps : List Part) (held : List ℕ) (at first : ℕ) (symbols : List QualifiedName) (xs : List ℕ) → Holds packages o known (st ps Free held at first symbols) xs → (f : Form) (n : ℕ) (symbols2 : List QualifiedName)
      → token_ended packages (st ps Free held at first symbols) ≡ Gives f n symbols2 → Finds packages o known xs true f n symbols2
  token_finds ps held at first symbols xs h f n symbols2 e = go (is_empty held) refl e where
    s : State
    s = st ps Free held at first symbols

    placed_finds : 0 < length held → (x : Put) (symbols3 ns : List QualifiedName) → Situation packages o known h.gap xs ns at first symbols3 → Delivers packages [] h.gap x xs true ns
        → placed x symbols3 s ≡ Gives f n symbols2 → Finds packages o known xs true f n symbols2
    placed_finds l (Parts qs) symbols3 ns m d e = cc
    placed_finds l (Whole g) symbols3 ns m d e = test (nat_le (weight g) max_weight) refl e where
      first_is : first_of s ≡ first
      first_is = first_token ps Free held at first symbols l

      test : (x : Bool) → nat_le (weight g) max_weight ≡ x → (if x then Gives g at symbols3 else Fails TooLarge first) ≡ Gives f n symbols2 → Finds packages o known xs true f n symbols2
      test true w e =
          let same : g ≡ f = cc in
          let place : at ≡ n = cc in
          let knows : symbols3 ≡ symbols2 = cc in
          let short = h.short l in
          record {
            gap = h.gap;
            names = ns;
            blank = m.blank;
            spelled = subst (λ (y : Form). IsSpelled packages h.gap xs y true ns) same d;
            ends = sym place ∙ m.offset;
            knows = sym knows ∙ m.knows;
            room = m.room;
            light = subst (λ (y : Form). weight y ≤ max_weight) same (leb-true (weight g) max_weight w);
            short = omega (arith, short, first_is, m.offset, m.begins);
            input = omega (arith, h.input, place);
          }
      test false w e = cc
    placed_finds l (Bad c k) symbols3 ns m d e = cc

    some : is_empty held ≡ false → token_put (with_room symbols (token_of packages held)) (at - length held) s ≡ Gives f n symbols2 → Finds packages o known xs true f n symbols2
    some k =
        let l : 0 < length held = grind (arith, nat_tests) in
        let fi = first_token ps Free held at first symbols l in
        let part_is = h.lexing.0 in
        token_does packages o known (λ r. r ≡ Gives f n symbols2 → Finds packages o known xs true f n symbols2) ps held at first symbols xs h.gap h.before h.apart h.names
        (λ x m e. cc) (λ x symbols3 ns m d e. placed_finds l x symbols3 ns m d e)
        (record { blank = h.place.blank; offset = h.place.offset; begins = sym fi ∙ h.place.begins; knows = h.place.knows; room = h.place.room })
        l h.lexing.1 (h.split ∙ ap (λ (y : List ℕ). h.before ++ y) part_is) h.sound
        (subst (λ (y : List ℕ). Follows h.apart y) part_is h.follows) (subst (λ (y : List ℕ). Settled packages h.gap ps h.before h.apart h.names h.sound y) part_is h.settled) (at - length held)

    go : (x : Bool) → is_empty held ≡ x → (if x then Goes s else token_put (with_room symbols (token_of packages held)) (at - length held) s) ≡ Gives f n symbols2 → Finds packages o known xs true f n symbols2
    go true k e = cc
    go false k e = some k e

  no_form : (x : Put) → ((g : Form) → x ≡ Whole g → ⊥) → (i : Inside) (held : List ℕ) (at : ℕ) (s : State) (f : Form) (n : ℕ) (symbols : List QualifiedName) → counted x i held at s ≡ Gives f n symbols → ⊥
  no_form (Parts ps) w i held at s f n symbols e = go (has_room s at) e where
    go : (r : Bool) → (if r then Goes (record { parts = ps; inside = i; token = held; at = at + 1; first = first_of s; symbols = s.symbols }) else Fails FormTooLong at) ≡ Gives f n symbols → ⊥
    go true e = cc
    go false e = cc
  no_form (Whole g) w i held at s f n symbols e = w g refl
  no_form (Bad c k) w i held at s f n symbols e = cc

  end_finds : (s : State) (xs : List ℕ) → Holds packages o known s xs → (f : Form) (n : ℕ) (symbols : List QualifiedName) → ended_inside packages s s.inside ≡ Gives f n symbols → Finds packages o known xs true f n symbols
  end_finds s xs h f n symbols e = go s.inside s.parts s.token s.at s.first s.symbols h e where
    go : (i : Inside) (ps : List Part) (held : List ℕ) (at first : ℕ) (symbols2 : List QualifiedName) → Holds packages o known (st ps i held at first symbols2) xs
        → ended_inside packages (st ps i held at first symbols2) i ≡ Gives f n symbols → Finds packages o known xs true f n symbols
    go Free ps held at first symbols2 h e = token_finds ps held at first symbols2 xs h f n symbols e
    go Bars ps held at first symbols2 h e = cc
    go BarsEscape ps held at first symbols2 h e = cc
    go String ps held at first symbols2 h e = cc
    go StringEscape ps held at first symbols2 h e = cc
    go Line ps held at first symbols2 h e = cc
    go (Block k) ps held at first symbols2 h e = cc
    go (BlockHash k) ps held at first symbols2 h e = cc
    go (BlockBar k) ps held at first symbols2 h e = cc
    go AfterComma ps held at first symbols2 h e =
        absurd (no_form (put lexeme.Comma (at - 1) ps) (λ g q. comma_does (λ x. x ≡ Whole g → ⊥) (at - 1) ps (λ l i z. cc) (λ c m z. cc) q) Free [] (at - 1) (st ps AfterComma held at first symbols2) f n symbols e)

-- ---- the law

found_begins : (all : List Package) (current o : ℕ) (known : List QualifiedName) (ended : Bool) (bytes : List ℕ) (f : Form) (n : ℕ) (symbols : List QualifiedName)
    → Found (packages_of all current) o known ended bytes f n symbols → BeginsWith all current known o bytes ended f n symbols
found_begins all current o known ended bytes f n symbols q =
    let k = q.finds in
    let s = k.spelled in
    let lengths : length q.ys ≡ length k.gap + length s.text = ap length s.split ∙ length-append k.gap s.text in
    record {
      gap = k.gap;
      text = s.text;
      rest = q.rest;
      apart = q.apart;
      template = s.template;
      names = k.names;
      depth = s.spelled.depth;
      split = q.split ∙ (ap (λ (y : List ℕ). y ++ q.rest) s.split ∙ append_assoc k.gap s.text q.rest);
      blank = k.blank;
      spells = s.spelled.spells;
      form = s.form;
      ends = omega (arith, k.ends, lengths);
      stops = q.stops;
      knows = k.knows;
      deep = omega (arith, s.spelled.deep);
      short = omega (arith, k.short, lengths);
      input = k.input;
      light = k.light;
      room = k.room;
    }

begins_at : (packages : Packages) (o : ℕ) (known : List QualifiedName) → o ≤ most_input → Holds packages o known (nothing_read known o) []
begins_at packages o known l = record {
  gap = [];
  before = [];
  part = [];
  apart = false;
  names = [];
  split = refl;
  sound = (refl, refl, refl);
  follows = tt;
  settled = tt;
  lexing = (refl, ((λ rest. refl), refl));
  place = record { blank = spelling.nothing; offset = omega arith; begins = omega arith; knows = refl; room = refl };
  short = λ z. absurd (omega (arith, z));
  input = l;
}

no_stand : (s : State) (f : Form) (n : ℕ) (symbols : List QualifiedName) → at_end s ≡ Stands f n symbols → ⊥
no_stand s f n symbols e = go (is_empty s.parts && may_end s.inside) e where
  go : (x : Bool) → (if x then End else Faulty Unfinished s.first) ≡ Stands f n symbols → ⊥
  go true e = cc
  go false e = cc

-- a form that was given is this one
given : (all : List Package) (current o : ℕ) (known : List QualifiedName) (bytes : List ℕ) (ended : Bool) (g f : Form) (m n : ℕ) (s t : List QualifiedName)
    → Found (packages_of all current) o known ended bytes g m s → Stands g m s ≡ Stands f n t → BeginsWith all current known o bytes ended f n t
given all current o known bytes ended g f m n s t q e =
    let a : g ≡ f = cc in
    let b : m ≡ n = cc in
    let c : s ≡ t = cc in
    let x = found_begins all current o known ended bytes g m s q in
    let y = subst (λ (u : Form). BeginsWith all current known o bytes ended u m s) a x in
    let z = subst (λ (u : ℕ). BeginsWith all current known o bytes ended f u s) b y in
    subst (λ (u : List QualifiedName). BeginsWith all current known o bytes ended f n u) c z

at_end_found : (all : List Package) (current o : ℕ) (known : List QualifiedName) (bytes : List ℕ) (s : State) (r : Step) (f : Form) (n : ℕ) (symbols : List QualifiedName)
    → Holds (packages_of all current) o known s bytes → ended_inside (packages_of all current) s s.inside ≡ r → answer true r ≡ Stands f n symbols → BeginsWith all current known o bytes true f n symbols
at_end_found all current o known bytes s (Goes t) f n symbols h q e = absurd (no_stand t f n symbols e)
at_end_found all current o known bytes s (Gives g m u) f n symbols h q e =
    given all current o known bytes true g f m n u symbols
    (record { ys = bytes; rest = []; apart = true; split = sym (append-nil bytes); finds = end_finds (packages_of all current) o known s bytes h g m u q; stops = refl }) e
at_end_found all current o known bytes s (Fails c k) f n symbols h q e = cc

not_found : (all : List Package) (current o : ℕ) (known : List QualifiedName) (bytes : List ℕ) (ended : Bool) (r : Step) (f : Form) (n : ℕ) (symbols : List QualifiedName)
    → Leads (packages_of all current) o known ended bytes r → answer ended (ended_step (packages_of all current) ended r) ≡ Stands f n symbols → BeginsWith all current known o bytes ended f n symbols
not_found all current o known bytes false (Goes s) f n symbols l e = cc
not_found all current o known bytes true (Goes s) f n symbols l e = at_end_found all current o known bytes s (ended_inside (packages_of all current) s s.inside) f n symbols l refl e
not_found all current o known bytes false (Gives g m s) f n symbols l e = given all current o known bytes false g f m n s symbols l e
not_found all current o known bytes true (Gives g m s) f n symbols l e = given all current o known bytes true g f m n s symbols l e
not_found all current o known bytes false (Fails c k) f n symbols l e = cc
not_found all current o known bytes true (Fails c k) f n symbols l e = cc

-- behind the limit on an input nothing is found
too_far : (packages : Packages) (symbols : List QualifiedName) (offset : ℕ) (bytes : List ℕ) (ended : Bool) (f : Form) (n : ℕ) (known : List QualifiedName) → nat_lt offset most_input ≡ false
    → answer ended (ended_step packages ended (run packages (nothing_read symbols offset) bytes)) ≡ Stands f n known → ⊥
unfolding step
too_far packages symbols offset [] false f n known h e = cc
too_far packages symbols offset [] true f n known h e = cc
too_far packages symbols offset (b ∷ bs) false f n known h e = let x = rw h at e in cc
too_far packages symbols offset (b ∷ bs) true f n known h e = let x = rw h at e in cc

pub stands_spelled : StandsSpelled
unfolding next_at
stands_spelled all current symbols offset bytes ended f n known e = go (nat_lt offset most_input) refl where
  k : Packages
  k = packages_of all current

  go : (x : Bool) → nat_lt offset most_input ≡ x → BeginsWith all current symbols offset bytes ended f n known
  go true h =
      let l : offset < most_input = ltb-true offset most_input h in
      not_found all current offset symbols bytes ended (run k (nothing_read symbols offset) bytes) f n known
      (run_leads k offset symbols ended bytes (nothing_read symbols offset) [] (begins_at k offset symbols (omega (arith, l)))) e
  go false h = absurd (too_far k symbols offset bytes ended f n known h e)
