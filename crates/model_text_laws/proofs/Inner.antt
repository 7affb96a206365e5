-- What one byte more leads to in bars, strings and comments, as spelled.
use Rattle.std.specs.Prelude.{zero, suc, ◌≡◌, ℕ, ◌+◌, ◌-◌, ◌<◌, ◌==◌, nat_le, List, [], ◌∷◌, ◌++◌, length, Bool, true, false, ◌&&◌, not, if◌then◌else◌, refl}
use Rattle.std.specs.Str.{bytes_eq}
use Rattle.std.proofs.Common.{sym, ap, ◌∙◌, arith, subst}
use Rattle.std.proofs.lemmas.List.{append_assoc, append-nil}
use Rattle.std.proofs.lemmas.Bool.{eqb-true}
use Rattle.std.proofs.lemmas.Bool.Decides.{nat_tests}
use Rattle.std.proofs.lemmas.Slice.Eq.{bytes_eq-Decides}
use Rattle.model_objects.specs.Object.{Text}
use Rattle.model_symbols.specs.Symbols.{QualifiedName}
use Rattle.model_text.specs.Token.{Packages, is_empty, is_bar, Place, Outside, Between, Escaped}
use Rattle.model_text.specs.Backquote.{Constant, Plain}
use Rattle.model_text.specs.Parts.{Atom, Part, in_backquote, delivered}
use Rattle.model_text.specs.Next.{Inside, Free, Bars, BarsEscape, String, StringEscape, Line, Block, BlockHash, BlockBar, State, is_free, counted, goes_on, marked}
use Rattle.model_text.specs.Spelling.{Gap, AForm, IsToken, Follows, begins_apart, goes_on_as_token, begins_block, is_line, Quoted, begins_with_at}
use Rattle.model_text.specs.Spelling as spelling
use Rattle.model_text_laws.proofs.Going.{st}
use Rattle.model_text_laws.proofs.Sound.{Delivers, In, deliver_sound, settled_not_at, room_ok}
use Rattle.model_text_laws.proofs.Holding.{TokenSoFar, Lexing, Comes, stays, lexeme_comes, gap_comes}
use Rattle.model_text.specs.Next.{bars_byte, string_byte, in_block, block_ended}
use Rattle.model_text.specs.Spelling.{marks_block, is_block_mark}
use Rattle.model_text_laws.proofs.Holding.{MarkSoFar}
use Rattle.model_text_laws.proofs.Bytes.{both, Ready, kept_comes, bars_to, escape_to, free_to, follows_push}

and_false : (b : Bool) → (b && false) ≡ false
and_false true = refl
and_false false = refl

module _ (packages : Packages) (o : ℕ) (known : List QualifiedName) where
  -- ---- bars

  no_hash : (p : Place) (held : List ℕ) (x : Bool) → goes_on_as_token p [] ≡ false → TokenSoFar p held → (bytes_eq held (35 ∷ []) && x) ≡ false
  no_hash p held x h t = go (bytes_eq held (35 ∷ [])) refl where
    go : (y : Bool) → bytes_eq held (35 ∷ []) ≡ y → (y && x) ≡ false
    go true e =
        let q : held ≡ 35 ∷ [] = (bytes_eq-Decides held (35 ∷ [])).0 e in
        let a : goes_on_as_token Outside (35 ∷ []) ≡ false = ap (λ (z : List ℕ). goes_on_as_token Outside (z ++ [])) (sym q) ∙ (t.0 [] ∙ h) in
        cc
    go false e = refl

  pub bars_comes : (b : ℕ) (ps : List Part) (held : List ℕ) (at first : ℕ) (symbols : List QualifiedName) (xs : List ℕ) → Ready packages o known b ps Bars held at first symbols xs
      → Comes packages o known xs b (bars_byte b (st ps Bars held at first symbols))
  bars_comes b ps held at first symbols xs r = go (is_bar b) refl (b == 92) refl where
    n : (bytes_eq held (35 ∷ []) && is_bar b) ≡ false
    n = no_hash Between held (is_bar b) refl r.lexing.1

    go : (x : Bool) → is_bar b ≡ x → (y : Bool) → (b == 92) ≡ y → Comes packages o known xs b (goes_on (if x then Free else (if y then BarsEscape else Bars)) (held ++ b ∷ []) (st ps Bars held at first symbols))
    go true e y f = kept_comes packages o known Between Outside Bars Free b ps held at first symbols xs r refl (free_to packages o known) (λ h part x. x) (λ rest. rw e refl) n
    go false e true f = kept_comes packages o known Between Escaped Bars BarsEscape b ps held at first symbols xs r refl (escape_to packages o known) (λ h part x. x) (λ rest. rw (e, f) refl) n
    go false e false f = kept_comes packages o known Between Between Bars Bars b ps held at first symbols xs r refl (bars_to packages o known) (λ h part x. x) (λ rest. rw (e, f) refl) n

  pub escape_comes : (b : ℕ) (ps : List Part) (held : List ℕ) (at first : ℕ) (symbols : List QualifiedName) (xs : List ℕ) → Ready packages o known b ps BarsEscape held at first symbols xs
      → Comes packages o known xs b (goes_on Bars (held ++ b ∷ []) (st ps BarsEscape held at first symbols))
  escape_comes b ps held at first symbols xs r =
      kept_comes packages o known Escaped Between BarsEscape Bars b ps held at first symbols xs r refl (bars_to packages o known) (λ h part x. x) (λ rest. refl) (no_hash Escaped held (is_bar b) refl r.lexing.1)

  -- ---- strings

  push_cons : (m : ℕ) (part raw : List ℕ) (b : ℕ) → part ≡ m ∷ raw → part ++ b ∷ [] ≡ m ∷ (raw ++ b ∷ [])
  push_cons m part raw b e = ap (λ (y : List ℕ). y ++ b ∷ []) e

  pub string_comes : (b : ℕ) (ps : List Part) (held : List ℕ) (at first : ℕ) (symbols : List QualifiedName) (xs : List ℕ) → Ready packages o known b ps String held at first symbols xs
      → Comes packages o known xs b (string_byte b (st ps String held at first symbols))
  string_comes b ps held at first symbols xs r = go (b == 34) refl (b == 92) refl where
    s : State
    s = st ps String held at first symbols

    raw : List ℕ
    raw = r.lexing.0

    follows : Follows r.apart (r.part ++ b ∷ [])
    follows = follows_push packages o known r.apart r.part b r.follows

    pushed : r.part ++ b ∷ [] ≡ 34 ∷ (raw ++ b ∷ [])
    pushed = push_cons 34 r.part raw b r.lexing.1

    closes : b ≡ 34 → Comes packages o known xs b (counted (delivered (Plain (Text held)) ps) Free [] at s)
    closes e =
        let bs = r.part ++ b ∷ [] in
        let q0 : Quoted (raw ++ 34 ∷ []) (held ++ []) = r.lexing.2 (34 ∷ []) [] spelling.end in
        let q : Quoted (raw ++ 34 ∷ []) held = subst (λ (y : List ℕ). Quoted (raw ++ 34 ∷ []) y) (append-nil held) q0 in
        let text_is : 34 ∷ (raw ++ 34 ∷ []) ≡ bs = ap (λ (x : ℕ). 34 ∷ (raw ++ x ∷ [])) (sym e) ∙ sym pushed in
        let deep = room_ok packages r.gap ps r.before r.apart r.names r.sound in
        let i0 : In packages (length ps) (in_backquote ps) (AForm false) (34 ∷ (raw ++ 34 ∷ [])) (Constant (Text held)) [] = record { depth = 0; deep = omega (arith, deep); spells = spelling.string (in_backquote ps) (raw ++ 34 ∷ []) held q } in
        let i = subst (λ (y : List ℕ). In packages (length ps) (in_backquote ps) (AForm false) y (Constant (Text held)) []) text_is i0 in
        let d = deliver_sound packages ps r.gap r.before bs (Constant (Text held)) r.apart false r.names [] r.sound i follows (settled_not_at packages r.gap ps r.before r.apart r.names r.sound bs r.settled) in
        let split : r.before ++ bs ≡ xs ++ b ∷ [] = sym (append_assoc r.before r.part (b ∷ [])) ∙ ap (λ (y : List ℕ). y ++ b ∷ []) (sym r.split) in
        let d1 = subst (λ (y : List ℕ). Delivers packages [] r.gap (delivered (Plain (Text held)) ps) y false (r.names ++ [])) split d in
        let d2 = subst (λ (y : List QualifiedName). Delivers packages [] r.gap (delivered (Plain (Text held)) ps) (xs ++ b ∷ []) false y) (append-nil r.names) d1 in
        lexeme_comes packages o known (delivered (Plain (Text held)) ps) ps String held at first b symbols xs r.gap r.names r.place r.input refl d2

    go : (x : Bool) → (b == 34) ≡ x → (y : Bool) → (b == 92) ≡ y
        → Comes packages o known xs b (if x then marked (Atom (Text held)) s else (if y then goes_on StringEscape held s else goes_on String (held ++ b ∷ []) s))
    go true e y f = closes (eqb-true b 34 e)
    go false e true f =
        let q : b ≡ 92 = eqb-true b 92 f in
        stays packages o known ps String StringEscape held held at first b symbols xs r.gap r.before r.part r.apart r.names r.place r.input (λ z. refl) r.split r.sound follows r.settled
        (raw, (pushed ∙ ap (λ (x : ℕ). 34 ∷ (raw ++ x ∷ [])) q), r.lexing.2) (and_false (is_empty held))
    go false e false f =
        stays packages o known ps String String held (held ++ b ∷ []) at first b symbols xs r.gap r.before r.part r.apart r.names r.place r.input (λ z. refl) r.split r.sound follows r.settled (
          (raw ++ b ∷ []),
          pushed,
          (λ rest more q.
              subst (λ (y : List ℕ). Quoted y ((held ++ b ∷ []) ++ more)) (sym (append_assoc raw (b ∷ []) rest))
              (subst (λ (y : List ℕ). Quoted (raw ++ b ∷ rest) y) (sym (append_assoc held (b ∷ []) more)) (r.lexing.2 (b ∷ rest) (b ∷ more) (spelling.byte b rest more e f q)))),
        )
        (and_false (is_empty (held ++ b ∷ [])))

  pub string_escape_comes : (b : ℕ) (ps : List Part) (held : List ℕ) (at first : ℕ) (symbols : List QualifiedName) (xs : List ℕ) → Ready packages o known b ps StringEscape held at first symbols xs
      → Comes packages o known xs b (goes_on String (held ++ b ∷ []) (st ps StringEscape held at first symbols))
  string_escape_comes b ps held at first symbols xs r =
      let raw = r.lexing.0 in
      let follows = follows_push packages o known r.apart r.part b r.follows in
      stays packages o known ps StringEscape String held (held ++ b ∷ []) at first b symbols xs r.gap r.before r.part r.apart r.names r.place r.input (λ z. refl) r.split r.sound follows r.settled (
        ((raw ++ 92 ∷ []) ++ b ∷ []),
        push_cons 34 r.part (raw ++ 92 ∷ []) b r.lexing.1,
        (λ rest more q.
            subst (λ (y : List ℕ). Quoted y ((held ++ b ∷ []) ++ more)) (sym (append_assoc (raw ++ 92 ∷ []) (b ∷ []) rest ∙ append_assoc raw (92 ∷ []) (b ∷ rest)))
            (subst (λ (y : List ℕ). Quoted (raw ++ 92 ∷ b ∷ rest) y) (sym (append_assoc held (b ∷ []) more)) (r.lexing.2 (92 ∷ b ∷ rest) (b ∷ more) (spelling.escape b rest more q)))),
      )
      (and_false (is_empty (held ++ b ∷ [])))

  -- ---- comments

  none : {A : Type 0} → 0 < length {A = ℕ} [] → A
  none z = absurd (omega (arith, z))

  line_push : (bs : List ℕ) (b : ℕ) → is_line bs ≡ true → (b == 10) ≡ false → is_line (bs ++ b ∷ []) ≡ true
  line_push [] b h e = rw e refl
  line_push (c ∷ bs) b h e = let q = both (not (c == 10)) (is_line bs) h in rw (q.0, line_push bs b q.1 e) refl

  pub line_comes : (b : ℕ) (ps : List Part) (held : List ℕ) (at first : ℕ) (symbols : List QualifiedName) (xs : List ℕ) → Ready packages o known b ps Line held at first symbols xs
      → Comes packages o known xs b (goes_on (if b == 10 then Free else Line) [] (st ps Line held at first symbols))
  line_comes b ps held at first symbols xs r = go (b == 10) refl where
    raw : List ℕ
    raw = r.lexing.0

    follows : Follows r.apart (r.part ++ b ∷ [])
    follows = follows_push packages o known r.apart r.part b r.follows

    pushed : r.part ++ b ∷ [] ≡ 59 ∷ (raw ++ b ∷ [])
    pushed = push_cons 59 r.part raw b r.lexing.1

    go : (x : Bool) → (b == 10) ≡ x → Comes packages o known xs b (goes_on (if x then Free else Line) [] (st ps Line held at first symbols))
    go true e =
        let q : b ≡ 10 = eqb-true b 10 e in
        let part_is : 59 ∷ (raw ++ 10 ∷ []) ≡ r.part ++ b ∷ [] = ap (λ (x : ℕ). 59 ∷ (raw ++ x ∷ [])) (sym q) ∙ sym pushed in
        gap_comes packages o known ps Line held at first b symbols xs r.gap r.before r.part r.apart r.names r.place r.input r.split r.sound follows r.settled
        (subst Gap part_is (spelling.line raw [] r.lexing.2 spelling.nothing))
    go false e =
        stays packages o known ps Line Line held [] at first b symbols xs r.gap r.before r.part r.apart r.names r.place r.input none r.split r.sound follows r.settled
        ((raw ++ b ∷ []), pushed, line_push raw b r.lexing.2 e, refl) refl

  push_block : (part raw : List ℕ) (b : ℕ) → part ≡ 35 ∷ 124 ∷ raw → part ++ b ∷ [] ≡ 35 ∷ 124 ∷ (raw ++ b ∷ [])
  push_block part raw b e = ap (λ (y : List ℕ). y ++ b ∷ []) e

  no_mark : (b : ℕ) (rest : List ℕ) → (b == 35) ≡ false → (b == 124) ≡ false → marks_block b rest ≡ false
  no_mark b [] e f = refl
  no_mark b (c ∷ cs) e f = rw (e, f) refl

  -- a byte in block comments, which may be half of a mark
  in_block_comes : (i : Inside) (n b : ℕ) (raw : List ℕ) (ps : List Part) (held : List ℕ) (at first : ℕ) (symbols : List QualifiedName) (xs : List ℕ) (r : Ready packages o known b ps i held at first symbols xs)
      → r.part ++ b ∷ [] ≡ 35 ∷ 124 ∷ (raw ++ b ∷ []) → MarkSoFar b n raw → Comes packages o known xs b (goes_on (in_block n b) [] (st ps i held at first symbols))
  in_block_comes i n b raw ps held at first symbols xs r e t = go (b == 35) refl (b == 124) refl where
    follows : Follows r.apart (r.part ++ b ∷ [])
    follows = follows_push packages o known r.apart r.part b r.follows

    here : (j : Inside) → is_free j ≡ false → Lexing j [] (r.part ++ b ∷ []) → Comes packages o known xs b (goes_on j [] (st ps i held at first symbols))
    here j f l = stays packages o known ps i j held [] at first b symbols xs r.gap r.before r.part r.apart r.names r.place r.input none r.split r.sound follows r.settled l (rw f refl)

    go : (x : Bool) → (b == 35) ≡ x → (y : Bool) → (b == 124) ≡ y → Comes packages o known xs b (goes_on (if x then BlockHash n else (if y then BlockBar n else Block n)) [] (st ps i held at first symbols))
    go true f y g =
        let q : b ≡ 35 = eqb-true b 35 f in
        let P : ℕ → Type 0 = λ c. MarkSoFar c n raw in
        here (BlockHash n) refl (raw, (e ∙ ap (λ (x : ℕ). 35 ∷ 124 ∷ (raw ++ x ∷ [])) q), subst P q t, refl)
    go false f true g =
        let q : b ≡ 124 = eqb-true b 124 g in
        let P : ℕ → Type 0 = λ c. MarkSoFar c n raw in
        here (BlockBar n) refl (raw, (e ∙ ap (λ (x : ℕ). 35 ∷ 124 ∷ (raw ++ x ∷ [])) q), subst P q t, refl)
    go false f false g =
        here (Block n) refl (
          (raw ++ b ∷ []),
          e,
          (
            t.0,
            t.1,
            (λ rest k.
                subst (λ (y : List ℕ). spelling.Block 0 y) (sym (append_assoc raw (b ∷ []) rest)) (t.2 rest (spelling.byte t.0 b rest (no_mark b rest f g) k))),
          ),
          refl,
        )

  pub block_comes : (n b : ℕ) (ps : List Part) (held : List ℕ) (at first : ℕ) (symbols : List QualifiedName) (xs : List ℕ) → Ready packages o known b ps (Block n) held at first symbols xs
      → Comes packages o known xs b (goes_on (in_block n b) [] (st ps (Block n) held at first symbols))
  block_comes n b ps held at first symbols xs r =
      let t = r.lexing.2 in
      in_block_comes (Block n) n b r.lexing.0 ps held at first symbols xs r (push_block r.part r.lexing.0 b r.lexing.1) (t.0, t.1, (λ rest k. t.2 (b ∷ rest) k))

  -- a byte that makes no mark of the half before it
  past_half : (c n b : ℕ) (raw : List ℕ) → is_block_mark c b ≡ false → MarkSoFar c n raw → MarkSoFar b n (raw ++ c ∷ [])
  past_half c n b raw e t = (t.0, t.1, (λ rest k. subst (λ (y : List ℕ). spelling.Block 0 y) (sym (append_assoc raw (c ∷ []) (b ∷ rest))) (t.2 (b ∷ rest) (spelling.byte t.0 c (b ∷ rest) e k))))

  two_more : (raw rest : List ℕ) (b c : ℕ) → raw ++ b ∷ c ∷ rest ≡ ((raw ++ b ∷ []) ++ c ∷ []) ++ rest
  two_more raw rest b c = sym (append_assoc (raw ++ b ∷ []) (c ∷ []) rest ∙ append_assoc raw (b ∷ []) (c ∷ rest))

  pub block_hash_comes : (n b : ℕ) (ps : List Part) (held : List ℕ) (at first : ℕ) (symbols : List QualifiedName) (xs : List ℕ) → Ready packages o known b ps (BlockHash n) held at first symbols xs
      → Comes packages o known xs b (goes_on (if is_bar b then Block (n + 1) else in_block n b) [] (st ps (BlockHash n) held at first symbols))
  block_hash_comes n b ps held at first symbols xs r = go (is_bar b) refl where
    raw : List ℕ
    raw = r.lexing.0

    pushed : r.part ++ b ∷ [] ≡ 35 ∷ 124 ∷ ((raw ++ 35 ∷ []) ++ b ∷ [])
    pushed = push_block r.part (raw ++ 35 ∷ []) b r.lexing.1

    go : (x : Bool) → is_bar b ≡ x → Comes packages o known xs b (goes_on (if x then Block (n + 1) else in_block n b) [] (st ps (BlockHash n) held at first symbols))
    go true e =
        let t = r.lexing.2 in
        let q : b ≡ 124 = eqb-true b 124 e in
        let part_is = pushed ∙ ap (λ (x : ℕ). 35 ∷ 124 ∷ ((raw ++ 35 ∷ []) ++ x ∷ [])) q in
        stays packages o known ps (BlockHash n) (Block (n + 1)) held [] at first b symbols xs r.gap r.before r.part r.apart r.names r.place r.input none r.split r.sound
        (follows_push packages o known r.apart r.part b r.follows) r.settled (
          ((raw ++ 35 ∷ []) ++ 124 ∷ []),
          part_is,
          (
            (t.0 + 1),
            ap (λ x. x + 1) t.1,
            (λ rest k.
                subst (λ (y : List ℕ). spelling.Block 0 y) (two_more raw rest 35 124) (t.2 (124 ∷ rest) (spelling.enter t.0 rest k))),
          ),
          refl,
        ) refl
    go false e =
        in_block_comes (BlockHash n) n b (raw ++ 35 ∷ []) ps held at first symbols xs r pushed (past_half 35 n b raw (rw e refl) r.lexing.2)

  pub block_bar_comes : (n b : ℕ) (ps : List Part) (held : List ℕ) (at first : ℕ) (symbols : List QualifiedName) (xs : List ℕ) → Ready packages o known b ps (BlockBar n) held at first symbols xs
      → Comes packages o known xs b (goes_on (if b == 35 then block_ended n else in_block n b) [] (st ps (BlockBar n) held at first symbols))
  block_bar_comes n b ps held at first symbols xs r = go (b == 35) refl where
    raw : List ℕ
    raw = r.lexing.0

    follows : Follows r.apart (r.part ++ b ∷ [])
    follows = follows_push packages o known r.apart r.part b r.follows

    pushed : r.part ++ b ∷ [] ≡ 35 ∷ 124 ∷ ((raw ++ 124 ∷ []) ++ b ∷ [])
    pushed = push_block r.part (raw ++ 124 ∷ []) b r.lexing.1

    ends : (m : ℕ) → n ≡ m + 1 → ((rest : List ℕ) → spelling.Block m (124 ∷ rest) → spelling.Block 0 (raw ++ 124 ∷ rest)) → b ≡ 35
        → Comes packages o known xs b (goes_on (block_ended n) [] (st ps (BlockBar n) held at first symbols))
    ends zero e t q =
        let last : block_ended n ≡ Free = ap block_ended e in
        let k0 : spelling.Block 0 (raw ++ 124 ∷ 35 ∷ []) = t (35 ∷ []) spelling.end in
        let g0 : Gap (35 ∷ 124 ∷ ((raw ++ 124 ∷ 35 ∷ []) ++ [])) = spelling.block (raw ++ 124 ∷ 35 ∷ []) [] k0 spelling.nothing in
        let part_is : 35 ∷ 124 ∷ ((raw ++ 124 ∷ 35 ∷ []) ++ []) ≡ r.part ++ b ∷ [] =
        ap (λ (y : List ℕ). 35 ∷ 124 ∷ y) (append-nil (raw ++ 124 ∷ 35 ∷ []) ∙ (two_more raw [] 124 35 ∙ append-nil ((raw ++ 124 ∷ []) ++ 35 ∷ [])))
        ∙ (ap (λ (x : ℕ). 35 ∷ 124 ∷ ((raw ++ 124 ∷ []) ++ x ∷ [])) (sym q) ∙ sym pushed) in
        subst (λ (j : Inside). Comes packages o known xs b (goes_on j [] (st ps (BlockBar n) held at first symbols))) (sym last)
        (gap_comes packages o known ps (BlockBar n) held at first b symbols xs r.gap r.before r.part r.apart r.names r.place r.input r.split r.sound follows r.settled (subst Gap part_is g0))
    ends (suc m) e t q =
        let more : nat_le n 1 ≡ false = grind (arith, nat_tests) in
        let less : n - 1 ≡ m + 1 = omega (arith, e) in
        let one : m + 1 ≡ suc m = omega arith in
        let last : block_ended n ≡ Block (n - 1) = rw more refl in
        let part_is = pushed ∙ ap (λ (x : ℕ). 35 ∷ 124 ∷ ((raw ++ 124 ∷ []) ++ x ∷ [])) q in
        subst (λ (j : Inside). Comes packages o known xs b (goes_on j [] (st ps (BlockBar n) held at first symbols))) (sym last)
        (stays packages o known ps (BlockBar n) (Block (n - 1)) held [] at first b symbols xs r.gap r.before r.part r.apart r.names r.place r.input none r.split r.sound follows r.settled (
          ((raw ++ 124 ∷ []) ++ 35 ∷ []),
          part_is,
          (
            m,
            less,
            (λ rest k.
                subst (λ (y : List ℕ). spelling.Block 0 y) (two_more raw rest 124 35)
                (t (35 ∷ rest) (subst (λ (x : ℕ). spelling.Block x (124 ∷ 35 ∷ rest)) one (spelling.leave m rest k)))),
          ),
          refl,
        ) refl)

    go : (x : Bool) → (b == 35) ≡ x → Comes packages o known xs b (goes_on (if x then block_ended n else in_block n b) [] (st ps (BlockBar n) held at first symbols))
    go true e = let t = r.lexing.2 in ends t.0 t.1 t.2 (eqb-true b 35 e)
    go false e =
        in_block_comes (BlockBar n) n b (raw ++ 124 ∷ []) ps held at first symbols xs r pushed (past_half 124 n b raw (rw e refl) r.lexing.2)
