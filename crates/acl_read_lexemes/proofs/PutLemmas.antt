-- The frames say what a lexeme does to the parts.
use Rattle.std.specs.Prelude.{◌≡◌, ℕ, List, [], ◌∷◌, ◌++◌, length, map, Bool, true, false, nat_lt, if◌then◌else◌, Ok, refl}
use Rattle.std.proofs.Common.{sym, ap, ◌∙◌}
use Rattle.std.proofs.lemmas.List.{map_push, length-map}
use Rattle.model_symbols.specs.Symbols.{QualifiedName}
use Rattle.model_text.specs.Backquote.{Item, Plain, Made, nil_form, item_form, item_expansion, quoted_item, joined_onto}
use Rattle.model_text.specs.Backquote as backquote
use Rattle.model_text.specs.Parts as parts
use Rattle.model_text.specs.Parts.{Part, Quoted, Backquoted, Unquoted, Splicing, Opened, Dotted, Ended, Put, Parts, Whole, Bad, most_parts, put, put_all, after_put}
use Rattle.model_text.proofs.RunLemmas.{put_all_append}
use Rattle.model_text.specs.declared.TextFault.{TextFault}
use Rattle.model_text.specs.declared.TextCause.{TextCause}
use Rattle.model_text.specs.declared.TextCause.TheVariants.{BadToken, CommaOutside, TooDeep}
use Rattle.acl_read_lexemes.specs.declared.Frame.{Frame}
use Rattle.acl_read_lexemes.specs.declared.Frame.TheVariants as frame
use Rattle.acl_read_lexemes.specs.declared.Lexeme.{Lexeme}
use Rattle.acl_read_lexemes.specs.declared.Lexeme.TheVariants as lexeme
use Rattle.acl_read_lexemes.specs.declared.Placed.{Placed}
use Rattle.acl_read_lexemes.specs.declared.Progress.{Progress}
use Rattle.acl_read_lexemes.specs.declared.Progress.TheVariants as progress
use Rattle.acl_read_lexemes.specs.Lexemes.{lexeme_at, placed_at, put_of, open_parts, parts_of, whole_form, form_of, IsKnown, AreKnown}
use Rattle.acl_read_lexemes.specs.Frames as frames
use Rattle.acl_read_lexemes.specs.Frames.{FramePut, Frames, Done, Wrong, frame_of, frames_of, shaped, frame_put, inmost_first}
use Rattle.acl_read_lexemes.specs.Opening.{IsFault, PutsFrames, IsOpen, IsForm, Puts}

pub same_backquote : (ps : List Part) → parts.in_backquote ps ≡ frames.in_backquote (frames_of ps)
same_backquote [] = refl
same_backquote (Quoted ∷ ps) = same_backquote ps
same_backquote (Backquoted ∷ ps) = refl
same_backquote (Unquoted ∷ ps) = refl
same_backquote (Splicing ∷ ps) = refl
same_backquote (Opened [] ∷ ps) = same_backquote ps
same_backquote (Opened (i ∷ is) ∷ ps) = same_backquote ps
same_backquote (Dotted is d ∷ ps) = same_backquote ps
same_backquote (Ended is d i ∷ ps) = same_backquote ps

same_element : (ps : List Part) → parts.takes_element ps ≡ frames.takes_element (frames_of ps)
same_element [] = refl
same_element (Quoted ∷ ps) = refl
same_element (Backquoted ∷ ps) = refl
same_element (Unquoted ∷ ps) = refl
same_element (Splicing ∷ ps) = refl
same_element (Opened [] ∷ ps) = refl
same_element (Opened (i ∷ is) ∷ ps) = refl
same_element (Dotted is d ∷ ps) = refl
same_element (Ended is d i ∷ ps) = refl

pub same_dot : (ps : List Part) → parts.full_dot ps ≡ frames.full_dot (frames_of ps)
same_dot [] = refl
same_dot (Quoted ∷ ps) = refl
same_dot (Backquoted ∷ ps) = refl
same_dot (Unquoted ∷ ps) = refl
same_dot (Splicing ∷ ps) = refl
same_dot (Opened [] ∷ ps) = refl
same_dot (Opened (i ∷ is) ∷ ps) = refl
same_dot (Dotted is d ∷ ps) = refl
same_dot (Ended is d i ∷ ps) = refl

holding : (is : List Item) (i : Item) → frame_of (Opened (is ++ i ∷ [])) ≡ frame.Holding
holding [] i = refl
holding (j ∷ is) i = refl

shaped_delivered : (i : Item) (ps : List Part) → shaped (parts.delivered i ps) ≡ frames.delivered (frames_of ps)
shaped_delivered i [] = refl
shaped_delivered i (Quoted ∷ ps) = shaped_delivered (quoted_item i) ps
shaped_delivered i (Backquoted ∷ ps) = shaped_delivered (Plain (item_expansion i)) ps
shaped_delivered i (Unquoted ∷ ps) = shaped_delivered (Made (item_form i)) ps
shaped_delivered i (Splicing ∷ ps) = shaped_delivered (backquote.Spliced (item_form i)) ps
shaped_delivered i (Opened [] ∷ ps) = refl
shaped_delivered i (Opened (j ∷ is) ∷ ps) = ap (λ (f : Frame). Frames (f ∷ frames_of ps)) (holding (j ∷ is) i)
shaped_delivered i (Dotted is d ∷ ps) = refl
shaped_delivered i (Ended is d j ∷ ps) = refl

opened_if : (b : Bool) (p : Part) (at : ℕ) (ps : List Part) → shaped (if b then Parts (p ∷ ps) else Bad TooDeep at) ≡ (if b then Frames (frame_of p ∷ frames_of ps) else Wrong TooDeep at)
opened_if true p at ps = refl
opened_if false p at ps = refl

shaped_opened : (p : Part) (at : ℕ) (ps : List Part) → shaped (parts.opened p at ps) ≡ frames.opened (frame_of p) at (frames_of ps)
shaped_opened p at ps =
    opened_if (nat_lt (length ps) most_parts) p at ps
    ∙ ap (λ n. if nat_lt n most_parts then Frames (frame_of p ∷ frames_of ps) else Wrong TooDeep at) (sym (length-map ps frame_of))

shaped_closed : (at : ℕ) (ps : List Part) → shaped (parts.closed at ps) ≡ frames.closed at (frames_of ps)
shaped_closed at [] = refl
shaped_closed at (Quoted ∷ ps) = refl
shaped_closed at (Backquoted ∷ ps) = refl
shaped_closed at (Unquoted ∷ ps) = refl
shaped_closed at (Splicing ∷ ps) = refl
shaped_closed at (Opened [] ∷ ps) = shaped_delivered (joined_onto [] (Plain nil_form)) ps
shaped_closed at (Opened (i ∷ is) ∷ ps) = shaped_delivered (joined_onto (i ∷ is) (Plain nil_form)) ps
shaped_closed at (Dotted is d ∷ ps) = refl
shaped_closed at (Ended is d i ∷ ps) = shaped_delivered (joined_onto is i) ps

shaped_dotted : (at : ℕ) (ps : List Part) → shaped (parts.dotted at ps) ≡ frames.dotted at (frames_of ps)
shaped_dotted at [] = refl
shaped_dotted at (Quoted ∷ ps) = refl
shaped_dotted at (Backquoted ∷ ps) = refl
shaped_dotted at (Unquoted ∷ ps) = refl
shaped_dotted at (Splicing ∷ ps) = refl
shaped_dotted at (Opened [] ∷ ps) = refl
shaped_dotted at (Opened (i ∷ is) ∷ ps) = refl
shaped_dotted at (Dotted is d ∷ ps) = refl
shaped_dotted at (Ended is d i ∷ ps) = refl

shaped_unless : (ps : List Part) (p : Put) (q : FramePut) → shaped p ≡ q → shaped (parts.unless_full (parts.full_dot ps) p) ≡ frames.unless_full (frames.full_dot (frames_of ps)) q
shaped_unless [] p q e = e
shaped_unless (Quoted ∷ ps) p q e = e
shaped_unless (Backquoted ∷ ps) p q e = e
shaped_unless (Unquoted ∷ ps) p q e = e
shaped_unless (Splicing ∷ ps) p q e = e
shaped_unless (Opened [] ∷ ps) p q e = e
shaped_unless (Opened (i ∷ is) ∷ ps) p q e = e
shaped_unless (Dotted is d ∷ ps) p q e = e
shaped_unless (Ended is d i ∷ ps) p q e = refl

shaped_if : (b c : Bool) (p q : Put) (f g : FramePut) → b ≡ c → shaped p ≡ f → shaped q ≡ g → shaped (if b then p else q) ≡ (if c then f else g)
shaped_if b c p q f g e d h = ap (λ x. shaped (if x then p else q)) e ∙ go c where
  go : (x : Bool) → shaped (if x then p else q) ≡ (if x then f else g)
  go true = d
  go false = h

-- what a lexeme does to the frames of the parts
pub shaped_put : (symbols : List QualifiedName) (l : Lexeme) (at : ℕ) (ps : List Part) → shaped (put (lexeme_at symbols l) at ps) ≡ frame_put l at (frames_of ps)
shaped_put symbols (lexeme.Number n) at ps = shaped_delivered _ ps
shaped_put symbols (lexeme.Name s) at ps = shaped_delivered _ ps
shaped_put symbols (lexeme.Text bytes) at ps = shaped_delivered _ ps
shaped_put symbols lexeme.Open at ps = shaped_unless ps _ _ (shaped_opened (Opened []) at ps)
shaped_put symbols lexeme.Close at ps = shaped_closed at ps
shaped_put symbols lexeme.Dot at ps = shaped_dotted at ps
shaped_put symbols lexeme.Quote at ps = shaped_unless ps _ _ (shaped_opened Quoted at ps)
shaped_put symbols lexeme.Backquote at ps =
    shaped_unless ps _ _ (shaped_if _ _ (Bad BadToken at) (parts.opened Backquoted at ps) (Wrong BadToken at) (frames.opened frame.Backquoted at (frames_of ps)) (same_backquote ps) refl (shaped_opened Backquoted at ps))
shaped_put symbols lexeme.Comma at ps =
    shaped_unless ps _ _ (shaped_if _ _ (parts.opened Unquoted at ps) (Bad CommaOutside at) (frames.opened frame.Unquoted at (frames_of ps)) (Wrong CommaOutside at) (same_backquote ps) (shaped_opened Unquoted at ps) refl)
shaped_put symbols lexeme.CommaAt at ps =
    shaped_unless ps _ _ (shaped_if _ _ _ (Bad CommaOutside at) _ (Wrong CommaOutside at) (same_backquote ps)
    (shaped_if _ _ (parts.opened Splicing at ps) (Bad CommaOutside at) (frames.opened frame.Splicing at (frames_of ps)) (Wrong CommaOutside at) (same_element ps) (shaped_opened Splicing at ps) refl) refl)

-- ---- one lexeme more

after_one : (p : Put) → after_put p (λ qs. put_all qs []) ≡ p
after_one (Parts ps) = refl
after_one (Whole f) = refl
after_one (Bad c n) = refl

put_more : (symbols : List QualifiedName) (ls : List Placed) (p : Placed) → put_of symbols ls ≡ Parts (parts_of symbols ls)
    → put_of symbols (ls ++ p ∷ []) ≡ put (lexeme_at symbols p.lexeme) p.at (parts_of symbols ls)
put_more symbols ls p e =
    ap (put_all []) (map_push (placed_at symbols) ls p)
    ∙ (put_all_append [] (map (placed_at symbols) ls) (placed_at symbols p ∷ [])
    ∙ (ap (λ (r : Put). after_put r (λ qs. put_all qs (placed_at symbols p ∷ []))) e
    ∙ after_one (put (lexeme_at symbols p.lexeme) p.at (parts_of symbols ls))))

pub AreKnown-push : (n : ℕ) (ls : List Placed) (p : Placed) → AreKnown n ls → IsKnown n p.lexeme → AreKnown n (ls ++ p ∷ [])
AreKnown-push n [] p a k = (k, tt)
AreKnown-push n (q ∷ ls) p a k = (a.0, AreKnown-push n ls p a.1 k)

going : (symbols : List QualifiedName) (fs : List Frame) (ls : List Placed) (p : Put) → put_of symbols ls ≡ p → shaped p ≡ Frames (inmost_first fs) → AreKnown (length symbols) ls
    → (p ≡ Parts (parts_of symbols ls)) × IsOpen symbols fs ls
going symbols fs ls (Parts qs) e h k =
    let q : Parts (parts_of symbols ls) ≡ Parts qs = ap (λ (r : Put). Parts (open_parts r)) e in
    let s : frames_of qs ≡ inmost_first fs = cc in
    (sym q, record { open_parts = e ∙ sym q; shape = sym s ∙ sym (ap (λ (r : Put). frames_of (open_parts r)) e); known = k })
going symbols fs ls (Whole f) e h k = cc
going symbols fs ls (Bad c n) e h k = cc

ended : (symbols : List QualifiedName) (ls : List Placed) (p : Put) → put_of symbols ls ≡ p → shaped p ≡ Done → AreKnown (length symbols) ls
    → (p ≡ Whole (form_of symbols ls)) × IsForm symbols ls
ended symbols ls (Parts qs) e h k = cc
ended symbols ls (Whole f) e h k =
    let q : Whole (form_of symbols ls) ≡ Whole f = ap (λ (r : Put). Whole (whole_form r)) e in
    (sym q, record { whole = e ∙ sym q; known = k })
ended symbols ls (Bad c n) e h k = cc

wrong : (p : Put) (c : TextCause) (n : ℕ) → shaped p ≡ Wrong c n → p ≡ Bad c n
wrong (Parts qs) c n h = cc
wrong (Whole f) c n h = cc
wrong (Bad d m) c n h = let e : d ≡ c = cc in let f : m ≡ n = cc in ap (λ (x : TextCause). Bad x m) e ∙ ap (Bad c) f

module _ (symbols : List QualifiedName) (l : Lexeme) (at : ℕ) where
  at_frames : (fs : List Frame) (ls : List Placed) → IsOpen symbols fs ls → shaped (put (lexeme_at symbols l) at (parts_of symbols ls)) ≡ frame_put l at (inmost_first fs)
  at_frames fs ls o = shaped_put symbols l at (parts_of symbols ls) ∙ ap (frame_put l at) (sym o.shape)

  pub added : (fs gs : List Frame) (ls ms : List Placed) (r : Progress) → IsOpen symbols fs ls → IsKnown (length symbols) l → ms ≡ ls ++ record { lexeme = l; at = at } ∷ []
      → PutsFrames gs (frame_put l at (inmost_first fs)) (Ok r) → Puts symbols gs ms (put (lexeme_at symbols l) at (parts_of symbols ls)) (Ok r)
  added fs gs ls ms progress.Going o k e p =
      going symbols gs ms (put (lexeme_at symbols l) at (parts_of symbols ls)) (ap (put_of symbols) e ∙ put_more symbols ls (record { lexeme = l; at = at }) o.open_parts)
      (at_frames fs ls o ∙ p) (rw e (AreKnown-push (length symbols) ls (record { lexeme = l; at = at }) o.known k))
  added fs gs ls ms progress.Ended o k e p =
      ended symbols ms (put (lexeme_at symbols l) at (parts_of symbols ls)) (ap (put_of symbols) e ∙ put_more symbols ls (record { lexeme = l; at = at }) o.open_parts)
      (at_frames fs ls o ∙ p) (rw e (AreKnown-push (length symbols) ls (record { lexeme = l; at = at }) o.known k))

  pub refused : (fs : List Frame) (ls : List Placed) (e : TextFault) → IsOpen symbols fs ls → IsFault (frame_put l at (inmost_first fs)) Wrong e
      → IsFault (put (lexeme_at symbols l) at (parts_of symbols ls)) Bad e
  refused fs ls e o f n = wrong (put (lexeme_at symbols l) at (parts_of symbols ls)) e.cause e.offset (at_frames fs ls o ∙ f n)
