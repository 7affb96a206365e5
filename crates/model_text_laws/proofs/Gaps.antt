-- Blanks and comments leave everything as it was.
use Rattle.std.specs.Prelude.{◌≡◌, ℕ, ◌+◌, ◌-◌, ◌<◌, ◌≤◌, ◌==◌, List, [], ◌∷◌, ◌++◌, length, Bool, true, false, ◌&&◌, ◌||◌, not, if◌then◌else◌, refl}
use Rattle.std.proofs.Common.{ap, ◌∙◌, arith, length-append}
use Rattle.std.proofs.lemmas.List.{append_assoc}
use Rattle.std.proofs.lemmas.Bool.Decides.{nat_tests}
use Rattle.model_symbols.specs.Symbols.{QualifiedName}
use Rattle.model_text.specs.Token.{Packages, is_empty, is_blank, ends_token}
use Rattle.model_text.specs.Parts.{Part}
use Rattle.model_text.specs.Next.{Inside, Free, Bars, BarsEscape, String, StringEscape, Line, Block, BlockHash, BlockBar, AfterComma, State, Goes, after, step, most_input, most_bytes, first_of, has_room, goes_on, is_after_comma, taken_inside, is_comment, is_free, mark, in_block, block_ended}
use Rattle.model_text.specs.Spelling.{Gap, nothing, blank, line, block, is_line, marks_block, is_block_mark}
use Rattle.model_text.specs.Spelling as spelling
use Rattle.model_text_laws.proofs.Going.{st, free, begin, begin_is, going, room_of, first_token, goes_on_room, step_inside}

and_false : (b : Bool) → (b && false) ≡ false
and_false true = refl
and_false false = refl

both : (s t : Bool) → (s && t) ≡ true → (s ≡ true) × (t ≡ true)
both true t h = (refl, h)
both false t h = cc

not_free : (i : Inside) → is_comment i ≡ true → (is_free i ≡ false) × (is_after_comma i ≡ false)
not_free Free h = cc
not_free Bars h = cc
not_free BarsEscape h = cc
not_free String h = cc
not_free StringEscape h = cc
not_free Line h = (refl, refl)
not_free (Block n) h = (refl, refl)
not_free (BlockHash n) h = (refl, refl)
not_free (BlockBar n) h = (refl, refl)
not_free AfterComma h = cc

first_comment : (ps : List Part) (i : Inside) (at first : ℕ) (symbols : List QualifiedName) → is_free i ≡ false → first_of (st ps i [] at first symbols) ≡ first
first_comment ps i at first symbols h = rw (h, and_false (is_empty ps)) refl

-- the byte at this offset is in the form, if there is one
pub record Fits (ps : List Part) (at first : ℕ) : Type 0 where
  pub input : at < most_input
  pub bytes : at < begin ps at first + most_bytes

pub comment_room : (ps : List Part) (i : Inside) (at first : ℕ) (symbols : List QualifiedName) → is_comment i ≡ true → at < begin ps at first + most_bytes → has_room (st ps i [] at first symbols) at ≡ true
comment_room [] i at first symbols h l = rw h refl
comment_room (p ∷ ps) i at first symbols h l =
    let f = first_comment (p ∷ ps) i at first symbols (not_free i h).0 in
    room_of (st (p ∷ ps) i [] at first symbols) at (omega (arith, f, l))

pub free_room : (ps : List Part) (at first : ℕ) (symbols : List QualifiedName) → at < begin ps at first + most_bytes → has_room (free ps at first symbols) at ≡ true
free_room ps at first symbols l =
    let f = begin_is ps at first symbols in
    room_of (free ps at first symbols) at (omega (arith, f, l))

-- the bytes before this offset are not too many for the form that begins at `first`, if parts are open
abbrev pub Within : List Part → ℕ → ℕ → Type 0
Within [] to first = Unit {0}
Within (p ∷ ps) to first = to ≤ first + most_bytes

pub within_less : (ps : List Part) (a b first : ℕ) → a ≤ b → Within ps b first → Within ps a first
within_less [] a b first l w = tt
within_less (p ∷ ps) a b first l w = omega (arith, l, w)

pub fits : (ps : List Part) (at to first : ℕ) → at < to → to ≤ most_input → Within ps to first → Fits ps at first
fits [] at to first l m w = record { input = omega (arith, l, m); bytes = omega arith }
fits (p ∷ ps) at to first l m w = record { input = omega (arith, l, m); bytes = omega (arith, l, w) }

module _ (packages : Packages) (ended : Bool) where
  -- one byte of a comment
  comment_step : (ps : List Part) (i j : Inside) (at first b : ℕ) (symbols : List QualifiedName) → is_comment i ≡ true
      → taken_inside packages b (st ps i [] at first symbols) i ≡ goes_on j [] (st ps i [] at first symbols) → Fits ps at first
      → step packages (st ps i [] at first symbols) b ≡ Goes (st ps j [] (at + 1) first symbols)
  comment_step ps i j at first b symbols h t r =
      let s = st ps i [] at first symbols in
      step_inside packages ps i [] at first symbols b (not_free i h).1 r.input
      ∙ (t ∙ (goes_on_room j [] s (comment_room ps i at first symbols h r.bytes)
      ∙ ap (λ f. Goes (st ps j [] (at + 1) f symbols)) (first_comment ps i at first symbols (not_free i h).0)))

  hash_forgotten : (ps : List Part) (m at first c : ℕ) (symbols : List QualifiedName) → (c == 124) ≡ false
      → step packages (st ps (BlockHash m) [] at first symbols) c ≡ step packages (st ps (Block m) [] at first symbols) c
  unfolding step
  hash_forgotten ps m at first c symbols h = rw h refl

  bar_forgotten : (ps : List Part) (m at first c : ℕ) (symbols : List QualifiedName) → (c == 35) ≡ false
      → step packages (st ps (BlockBar m) [] at first symbols) c ≡ step packages (st ps (Block m) [] at first symbols) c
  unfolding step
  bar_forgotten ps m at first c symbols h = rw h refl

  or_false : (s t : Bool) → (s || t) ≡ false → (s ≡ false) × (t ≡ false)
  or_false true t h = cc
  or_false false t h = (refl, h)

  -- where a byte and the next are no mark, the byte may be forgotten
  forgotten : (ps : List Part) (m at first b : ℕ) (bs rest : List ℕ) (symbols : List QualifiedName) → 0 < length bs → marks_block b bs ≡ false
      → going packages ended (st ps (in_block m b) [] at first symbols) (bs ++ rest) ≡ going packages ended (st ps (Block m) [] at first symbols) (bs ++ rest)
  forgotten ps m at first b [] rest symbols l h = absurd (omega (arith, l))
  forgotten ps m at first b (c ∷ cs) rest symbols l h = ap (λ r. after r (λ t. going packages ended t (cs ++ rest))) (go (b == 35) (b == 124) h) where
    go : (x y : Bool) → ((x && (c == 124)) || (y && (c == 35))) ≡ false
        → step packages (st ps (if x then BlockHash m else (if y then BlockBar m else Block m)) [] at first symbols) c ≡ step packages (st ps (Block m) [] at first symbols) c
    go true y h = hash_forgotten ps m at first c symbols (or_false (c == 124) (y && (c == 35)) h).0
    go false true h = bar_forgotten ps m at first c symbols h
    go false false h = refl

  block_some : (n : ℕ) (bs : List ℕ) → spelling.Block n bs → 0 < length bs
  block_some n bs spelling.end = omega arith
  block_some n bs (spelling.leave m cs k) = omega arith
  block_some n bs (spelling.enter m cs k) = omega arith
  block_some n bs (spelling.byte m b cs h k) = omega arith

  not_false : (x : Bool) → not x ≡ true → x ≡ false
  not_false true h = cc
  not_false false h = refl

  last_block : (m : ℕ) → block_ended ((m + 1) + 1) ≡ Block (m + 1)
  last_block m = grind (arith, nat_tests)

  -- a block comment, up to its end
  block_going : (n : ℕ) (bs : List ℕ) → spelling.Block n bs → (ps : List Part) (at first : ℕ) (symbols : List QualifiedName) (rest : List ℕ)
      → at + length bs ≤ most_input → Within ps (at + length bs) first
      → going packages ended (st ps (Block (n + 1)) [] at first symbols) (bs ++ rest) ≡ going packages ended (free ps (at + length bs) first symbols) rest
  block_going n bs spelling.end ps at first symbols rest l r =
      let z : (at + 1) + 1 ≡ at + 2 = omega arith in
      ap (λ x. after x (λ t. after (step packages t 35) (λ u. going packages ended u rest)))
      (comment_step ps (Block 1) (BlockBar 1) at first 124 symbols refl refl (fits ps at (at + 2) first (omega arith) l r))
      ∙ (ap (λ x. after x (λ t. going packages ended t rest)) (comment_step ps (BlockBar 1) Free (at + 1) first 35 symbols refl refl (fits ps (at + 1) (at + 2) first (omega arith) l r))
      ∙ ap (λ n. going packages ended (free ps n first symbols) rest) z)
  block_going n bs (spelling.leave m cs k) ps at first symbols rest l r =
      let to = at + length (124 ∷ 35 ∷ cs) in
      let i : at < to = omega arith in
      let j : at + 1 < to = omega arith in
      let z : ((at + 1) + 1) + length cs ≡ to = omega arith in
      let s = st ps (BlockBar ((m + 1) + 1)) [] (at + 1) first symbols in
      ap (λ x. after x (λ t. after (step packages t 35) (λ u. going packages ended u (cs ++ rest))))
      (comment_step ps (Block ((m + 1) + 1)) (BlockBar ((m + 1) + 1)) at first 124 symbols refl refl (fits ps at to first i l r))
      ∙ (ap (λ x. after x (λ t. going packages ended t (cs ++ rest)))
      (comment_step ps (BlockBar ((m + 1) + 1)) (Block (m + 1)) (at + 1) first 35 symbols refl (ap (λ i. goes_on i [] s) (last_block m)) (fits ps (at + 1) to first j l r))
      ∙ (block_going m cs k ps ((at + 1) + 1) first symbols rest (omega (arith, z, l)) (within_less ps (((at + 1) + 1) + length cs) to first (omega (arith, z)) r)
      ∙ ap (λ n. going packages ended (free ps n first symbols) rest) z))
  block_going n bs (spelling.enter m cs k) ps at first symbols rest l r =
      let to = at + length (35 ∷ 124 ∷ cs) in
      let i : at < to = omega arith in
      let j : at + 1 < to = omega arith in
      let z : ((at + 1) + 1) + length cs ≡ to = omega arith in
      ap (λ x. after x (λ t. after (step packages t 124) (λ u. going packages ended u (cs ++ rest))))
      (comment_step ps (Block (n + 1)) (BlockHash (n + 1)) at first 35 symbols refl refl (fits ps at to first i l r))
      ∙ (ap (λ x. after x (λ t. going packages ended t (cs ++ rest)))
      (comment_step ps (BlockHash (n + 1)) (Block ((n + 1) + 1)) (at + 1) first 124 symbols refl refl (fits ps (at + 1) to first j l r))
      ∙ (block_going (n + 1) cs k ps ((at + 1) + 1) first symbols rest (omega (arith, z, l)) (within_less ps (((at + 1) + 1) + length cs) to first (omega (arith, z)) r)
      ∙ ap (λ n. going packages ended (free ps n first symbols) rest) z))
  block_going n bs (spelling.byte m b cs h k) ps at first symbols rest l r =
      let to = at + length (b ∷ cs) in
      let i : at < to = omega arith in
      let z : (at + 1) + length cs ≡ to = omega arith in
      ap (λ x. after x (λ t. going packages ended t (cs ++ rest))) (comment_step ps (Block (n + 1)) (in_block (n + 1) b) at first b symbols refl refl (fits ps at to first i l r))
      ∙ (forgotten ps (n + 1) (at + 1) first b cs rest symbols (block_some n cs k) h
      ∙ (block_going n cs k ps (at + 1) first symbols rest (omega (arith, z, l)) (within_less ps ((at + 1) + length cs) to first (omega (arith, z)) r)
      ∙ ap (λ n. going packages ended (free ps n first symbols) rest) z))

  -- a line comment, up to its end
  line_going : (bs : List ℕ) (ps : List Part) (at first : ℕ) (symbols : List QualifiedName) (rest : List ℕ) → is_line bs ≡ true
      → (at + length bs) + 1 ≤ most_input → Within ps ((at + length bs) + 1) first
      → going packages ended (st ps Line [] at first symbols) (bs ++ 10 ∷ rest) ≡ going packages ended (free ps ((at + length bs) + 1) first symbols) rest
  line_going [] ps at first symbols rest h l r =
      let z : at + 1 ≡ (at + 0) + 1 = omega arith in
      ap (λ x. after x (λ t. going packages ended t rest)) (comment_step ps Line Free at first 10 symbols refl refl (fits ps at ((at + 0) + 1) first (omega arith) l r))
      ∙ ap (λ n. going packages ended (free ps n first symbols) rest) z
  line_going (b ∷ bs) ps at first symbols rest h l r =
      let q = both (not (b == 10)) (is_line bs) h in
      let to = (at + length (b ∷ bs)) + 1 in
      let i : at < to = omega arith in
      let z : ((at + 1) + length bs) + 1 ≡ to = omega arith in
      let e : (b == 10) ≡ false = not_false (b == 10) q.0 in
      let s = st ps Line [] at first symbols in
      ap (λ x. after x (λ t. going packages ended t (bs ++ 10 ∷ rest)))
      (comment_step ps Line Line at first b symbols refl (ap (λ x. goes_on (if x then Free else Line) [] s) e) (fits ps at to first i l r))
      ∙ (line_going bs ps (at + 1) first symbols rest q.1 (omega (arith, z, l)) (within_less ps (((at + 1) + length bs) + 1) to first (omega (arith, z)) r)
      ∙ ap (λ n. going packages ended (free ps n first symbols) rest) z)

  -- ---- gaps

  pub mark_step : (ps : List Part) (at first b : ℕ) (symbols : List QualifiedName) → ends_token b ≡ true → at < most_input
      → step packages (free ps at first symbols) b ≡ mark b (free ps at first symbols)
  mark_step ps at first b symbols e l = step_inside packages ps Free [] at first symbols b refl l ∙ rw e refl

  -- a byte that only goes on
  pub goes_on_step : (ps : List Part) (i : Inside) (token : List ℕ) (at first : ℕ) (symbols : List QualifiedName) → at < begin ps at first + most_bytes
      → goes_on i token (free ps at first symbols) ≡ Goes (st ps i token (at + 1) (begin ps at first) symbols)
  goes_on_step ps i token at first symbols r =
      goes_on_room i token (free ps at first symbols) (free_room ps at first symbols r)
      ∙ ap (λ f. Goes (st ps i token (at + 1) f symbols)) (begin_is ps at first symbols)

  blank_marks : (b : ℕ) (s : State) → is_blank b ≡ true → mark b s ≡ goes_on Free [] s
  blank_marks b s h = rw (other b 40 h refl, other b 41 h refl, other b 39 h refl, other b 96 h refl, other b 44 h refl, other b 34 h refl, other b 59 h refl) refl where
    other : (b c : ℕ) → is_blank b ≡ true → is_blank c ≡ false → (b == c) ≡ false
    other b c h k = grind (arith, nat_tests)

  begin_twice : (ps : List Part) (n at first : ℕ) → begin ps n (begin ps at first) ≡ begin ps n first
  begin_twice [] n at first = refl
  begin_twice (p ∷ ps) n at first = refl

  within_begin : (ps : List Part) (to at first : ℕ) → Within ps to first → Within ps to (begin ps at first)
  within_begin [] to at first w = tt
  within_begin (p ∷ ps) to at first w = w

  -- the bar that makes a block comment of a `#`
  block_begun : (ps : List Part) (at first : ℕ) (symbols : List QualifiedName) (to : ℕ) → at + 1 < to → to ≤ most_input → Within ps to first
      → step packages (st ps Free (35 ∷ []) (at + 1) (begin ps at first) symbols) 124 ≡ Goes (st ps (Block 1) [] ((at + 1) + 1) (begin ps at first) symbols)
  block_begun ps at first symbols to j l r =
      let hash : List ℕ = 35 ∷ [] in
      let s = st ps Free hash (at + 1) (begin ps at first) symbols in
      let f : first_of s ≡ begin ps at first = first_token ps Free hash (at + 1) (begin ps at first) symbols (omega arith) in
      let b : (at + 1) - begin ps at first < most_bytes = hash_room ps at to first j r in
      step_inside packages ps Free hash (at + 1) (begin ps at first) symbols 124 refl (omega (arith, j, l))
      ∙ (goes_on_room (Block 1) [] s (room_of s (at + 1) (omega (arith, f, b)))
      ∙ ap (λ n. Goes (st ps (Block 1) [] ((at + 1) + 1) n symbols)) f) where
        hash_room : (qs : List Part) (at to first : ℕ) → at + 1 < to → Within qs to first → (at + 1) - begin qs at first < most_bytes
        hash_room [] at to first j r = omega arith
        hash_room (p ∷ qs) at to first j r = omega (arith, j, r)

  -- where the outermost form begins stays the same, in a form
  pub record Passed (ps : List Part) (at first : ℕ) (symbols : List QualifiedName) (gap : List ℕ) : Type 0 where
    pub first' : ℕ
    pub same : (n : ℕ) → begin ps n first' ≡ begin ps n first
    pub passes : (rest : List ℕ) → going packages ended (free ps at first symbols) (gap ++ rest) ≡ going packages ended (free ps (at + length gap) first' symbols) rest

  pub gap_going : (gap : List ℕ) → Gap gap → (ps : List Part) (at first : ℕ) (symbols : List QualifiedName) → at + length gap ≤ most_input → Within ps (at + length gap) first
      → Passed ps at first symbols gap
  gap_going gap nothing ps at first symbols l r = record {
    first' = first;
    same = λ n. refl;
    passes = λ rest. let z : at ≡ at + 0 = omega arith in ap (λ n. going packages ended (free ps n first symbols) rest) z;
  }
  gap_going gap (blank b more h g) ps at first symbols l r =
      let to = at + length (b ∷ more) in
      let i : at < to = omega arith in
      let z : (at + 1) + length more ≡ to = omega arith in
      let f = fits ps at to first i l r in
      let first1 = begin ps at first in
      let q = gap_going more g ps (at + 1) first1 symbols (omega (arith, z, l)) (within_less ps ((at + 1) + length more) to first1 (omega (arith, z)) (within_begin ps to at first r)) in
      record {
        first' = q.first';
        same = λ n. q.same n ∙ begin_twice ps n at first;
        passes = λ rest.
            ap (λ x. after x (λ t. going packages ended t (more ++ rest)))
            (mark_step ps at first b symbols (rw h refl) f.input ∙ (blank_marks b (free ps at first symbols) h ∙ goes_on_step ps Free [] at first symbols f.bytes))
            ∙ (q.passes rest ∙ ap (λ n. going packages ended (free ps n q.first' symbols) rest) z);
      }
  gap_going gap (line bs more h g) ps at first symbols l r =
      let to = at + length (59 ∷ (bs ++ 10 ∷ more)) in
      let len = length-append bs (10 ∷ more) in
      let i : at < to = omega arith in
      let f = fits ps at to first i l r in
      let first1 = begin ps at first in
      let r1 = within_begin ps to at first r in
      let at1 = ((at + 1) + length bs) + 1 in
      let z : at1 + length more ≡ to = omega (arith, len) in
      let m : at1 ≤ to = omega (arith, z) in
      let q = gap_going more g ps at1 first1 symbols (omega (arith, z, l)) (within_less ps (at1 + length more) to first1 (omega (arith, z)) r1) in
      record {
        first' = q.first';
        same = λ n. q.same n ∙ begin_twice ps n at first;
        passes = λ rest.
            ap (λ x. after x (λ t. going packages ended t ((bs ++ 10 ∷ more) ++ rest)))
            (mark_step ps at first 59 symbols refl f.input ∙ goes_on_step ps Line [] at first symbols f.bytes)
            ∙ (ap (going packages ended (st ps Line [] (at + 1) first1 symbols)) (append_assoc bs (10 ∷ more) rest)
            ∙ (line_going bs ps (at + 1) first1 symbols (more ++ rest) h (omega (arith, m, l)) (within_less ps at1 to first1 m r1)
            ∙ (q.passes rest ∙ ap (λ n. going packages ended (free ps n q.first' symbols) rest) z)));
      }
  gap_going gap (block bs more h g) ps at first symbols l r =
      let to = at + length (35 ∷ 124 ∷ (bs ++ more)) in
      let len = length-append bs more in
      let i : at < to = omega arith in
      let j : at + 1 < to = omega arith in
      let f = fits ps at to first i l r in
      let first1 = begin ps at first in
      let r1 = within_begin ps to at first r in
      let hash : List ℕ = 35 ∷ [] in
      let at1 = ((at + 1) + 1) + length bs in
      let z : at1 + length more ≡ to = omega (arith, len) in
      let m : at1 ≤ to = omega (arith, z) in
      let q = gap_going more g ps at1 first1 symbols (omega (arith, z, l)) (within_less ps (at1 + length more) to first1 (omega (arith, z)) r1) in
      record {
        first' = q.first';
        same = λ n. q.same n ∙ begin_twice ps n at first;
        passes = λ rest.
            ap (λ x. after x (λ t. after (step packages t 124) (λ u. going packages ended u ((bs ++ more) ++ rest))))
            (step_inside packages ps Free [] at first symbols 35 refl f.input ∙ goes_on_step ps Free hash at first symbols f.bytes)
            ∙ (ap (λ x. after x (λ u. going packages ended u ((bs ++ more) ++ rest))) (block_begun ps at first symbols to j l r)
            ∙ (ap (going packages ended (st ps (Block 1) [] ((at + 1) + 1) first1 symbols)) (append_assoc bs more rest)
            ∙ (block_going 0 bs h ps ((at + 1) + 1) first1 symbols (more ++ rest) (omega (arith, m, l)) (within_less ps at1 to first1 m r1)
            ∙ (q.passes rest ∙ ap (λ n. going packages ended (free ps n q.first' symbols) rest) z))));
      }
