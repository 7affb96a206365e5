-- What is known of what has been read.
use Rattle.std.specs.Prelude.{◌≡◌, ℕ, ◌-◌, ◌<◌, Bool, false, if◌then◌else◌, Ok, List, [], ◌∷◌, length, map, unwrap_or, refl}
use Rattle.std.proofs.Common.{sym, ap, ◌∙◌, arith, get_or}
use Rattle.std.proofs.lemmas.Option.{slice_get-get_or}
use Rattle.model_objects.specs.Object.{Integer, Symbol}
use Rattle.std.proofs.lemmas.List.{length-reverse, length-map}
use Rattle.model_symbols.specs.Symbols.{QualifiedName, Table, symbol_at, no_name}
use Rattle.model_symbols.specs.Growth.{Extends}
use Rattle.model_text.specs.Parts as parts
use Rattle.model_text.specs.Parts.{put}
use Rattle.model_text.specs.Next.{State, Goes, placed, token_put, token_ended}
use Rattle.model_text.specs.Token.{Token, is_empty, token_of, with_room}
use Rattle.std.proofs.lemmas.Bool.Decides.{nat_tests}
use Rattle.acl_base.specs.declared.PkgId.{PkgId}
use Rattle.acl_read_lexemes.specs.declared.Frame.{Frame}
use Rattle.acl_read_lexemes.specs.declared.Placed.{Placed}
use Rattle.acl_read_lexemes.specs.declared.Lexeme.{Lexeme}
use Rattle.acl_read_lexemes.specs.declared.Lexeme.TheVariants as lexeme
use Rattle.acl_read_lexemes.specs.Lexemes.{lexeme_at, placed_at, put_of, open_parts, parts_of, IsKnown, AreKnown}
use Rattle.acl_read_lexemes.specs.Frames as frames
use Rattle.acl_read_lexemes.specs.Frames.{frame_of, frames_of, inmost_first}
use Rattle.acl_read_lexemes.specs.Opening.{IsOpen}
use Rattle.acl_read_scan.specs.declared.Built.{Built}
use Rattle.acl_read_scan.specs.declared.tokens.Standing.{Standing}
use Rattle.acl_read_scan.specs.declared.tokens.Standing.TheVariants.{Dot, Number, Name}
use Rattle.acl_read_scan.specs.Built.{IsBuilt, Grows, state_at, packages_of}
use Rattle.acl_read_scan.specs.Tokens.{token_for, lexeme_for, symbols_behind, Stands}
use Rattle.acl_read_lexemes.proofs.PutLemmas.{same_dot, same_backquote}

-- there are as many frames as parts
pub open_count : (symbols : List QualifiedName) (fs : List Frame) (ls : List Placed) → IsOpen symbols fs ls → length (parts_of symbols ls) ≡ length fs
open_count symbols fs ls o =
    sym (length-map (parts_of symbols ls) frame_of) ∙ (ap length (sym o.shape) ∙ length-reverse fs)

pub open_dot : (symbols : List QualifiedName) (fs : List Frame) (ls : List Placed) → IsOpen symbols fs ls → parts.full_dot (parts_of symbols ls) ≡ frames.full_dot (inmost_first fs)
open_dot symbols fs ls o = same_dot (parts_of symbols ls) ∙ ap frames.full_dot (sym o.shape)

pub open_backquote : (symbols : List QualifiedName) (fs : List Frame) (ls : List Placed) → IsOpen symbols fs ls → parts.in_backquote (parts_of symbols ls) ≡ frames.in_backquote (inmost_first fs)
open_backquote symbols fs ls o = same_backquote (parts_of symbols ls) ∙ ap frames.in_backquote (sym o.shape)

-- ---- more symbols

symbol_later : (t u : Table) (n : ℕ) → Extends t u → n < length t.symbols → symbol_at u.symbols n ≡ symbol_at t.symbols n
symbol_later t u n e l =
    let g = slice_get-get_or t.symbols n no_name l in
    ap (λ o. unwrap_or o no_name) (e.same n (get_or t.symbols n no_name) g ∙ sym g)

lexeme_later : (t u : Table) (l : Lexeme) → Extends t u → IsKnown (length t.symbols) l → (lexeme_at u.symbols l ≡ lexeme_at t.symbols l) × IsKnown (length u.symbols) l
lexeme_later t u (lexeme.Number n) e k = (refl, tt)
lexeme_later t u (lexeme.Name s) e k = (ap (λ q. parts.Atom (Symbol q)) (symbol_later t u s.0 e k), omega (arith, k, e.longer))
lexeme_later t u (lexeme.Text bytes) e k = (refl, tt)
lexeme_later t u lexeme.Open e k = (refl, tt)
lexeme_later t u lexeme.Close e k = (refl, tt)
lexeme_later t u lexeme.Dot e k = (refl, tt)
lexeme_later t u lexeme.Quote e k = (refl, tt)
lexeme_later t u lexeme.Backquote e k = (refl, tt)
lexeme_later t u lexeme.Comma e k = (refl, tt)
lexeme_later t u lexeme.CommaAt e k = (refl, tt)

lexemes_later : (t u : Table) (ls : List Placed) → Extends t u → AreKnown (length t.symbols) ls → (map (placed_at u.symbols) ls ≡ map (placed_at t.symbols) ls) × AreKnown (length u.symbols) ls
lexemes_later t u [] e k = (refl, tt)
lexemes_later t u (p ∷ ps) e k =
    let one = lexeme_later t u p.lexeme e k.0 in
    let rest = lexemes_later t u ps e k.1 in
    (ap (λ (l : parts.Lexeme). record { lexeme = l; at = p.at } ∷ map (placed_at u.symbols) ps) one.0 ∙ ap (λ (ls : List parts.Placed). placed_at t.symbols p ∷ ls) rest.0, (one.1, rest.1))

pub put_later : (t u : Table) (ls : List Placed) → Extends t u → AreKnown (length t.symbols) ls → put_of u.symbols ls ≡ put_of t.symbols ls
put_later t u ls e k = ap (parts.put_all []) (lexemes_later t u ls e k).0

pub parts_later : {t u : Table} {fs : List Frame} {ls : List Placed} → Grows t u → IsOpen t.symbols fs ls → parts_of u.symbols ls ≡ parts_of t.symbols ls
parts_later {t} {u} {fs} {ls} g o = ap open_parts (put_later t u ls g.extends o.known)

open_later : (t u : Table) (fs : List Frame) (ls : List Placed) → Extends t u → IsOpen t.symbols fs ls → IsOpen u.symbols fs ls
open_later t u fs ls e o =
    let p = put_later t u ls e o.known in
    let q : parts_of u.symbols ls ≡ parts_of t.symbols ls = ap open_parts p in
    record {
      open_parts = p ∙ (o.open_parts ∙ ap parts.Parts (sym q));
      shape = o.shape ∙ ap frames_of (sym q);
      known = (lexemes_later t u ls e o.known).1;
    }

pub built_later : {t u : Table} {b : Built} → Grows t u → IsBuilt t b → IsBuilt u b
built_later {t} {u} {b} g i = record { opens = open_later t u b.frames.items b.lexemes.items g.extends i.opens; deep = i.deep; within = i.within }

Extends-then : {a b c : Table} → Extends a b → Extends b c → Extends a c
Extends-then {a} {b} {c} e f = record {
  longer = omega (arith, e.longer, f.longer);
  same = λ n s h. f.same n s (e.same n s h);
  more_packages = omega (arith, e.more_packages, f.more_packages);
  same_package = λ n p h. f.same_package n p (e.same_package n p h);
}

pub Grows-then : {a b c : Table} → Grows a b → Grows b c → Grows a c
Grows-then {a} {b} {c} g h = record { extends = Extends-then g.extends h.extends; packages = h.packages ∙ g.packages }

pub Grows-self : (t : Table) → Grows t t
Grows-self t = record { extends = record { longer = omega arith; same = λ n s h. h; more_packages = omega arith; same_package = λ n p h. h }; packages = refl }

-- ---- a token ends

placed_same : (p : parts.Put) (symbols : List QualifiedName) (s u : State) → s.at ≡ u.at → s.first ≡ u.first → placed p symbols s ≡ placed p symbols u
placed_same p symbols s u e f =
    ap (λ (x : ℕ). placed p symbols (record { parts = s.parts; inside = s.inside; token = s.token; at = x; first = s.first; symbols = s.symbols })) e
    ∙ (ap (λ (x : ℕ). placed p symbols (record { parts = s.parts; inside = s.inside; token = s.token; at = u.at; first = x; symbols = s.symbols })) f
    ∙ go p)
  where
    go : (q : parts.Put) → placed q symbols (record { parts = s.parts; inside = s.inside; token = s.token; at = u.at; first = u.first; symbols = s.symbols }) ≡ placed q symbols u
    go (parts.Parts ps) = refl
    go (parts.Whole f) = refl
    go (parts.Bad c n) = refl

put_standing : (symbols : List QualifiedName) (x : Standing) (start : ℕ) (s : State) → symbols ≡ symbols_behind s.symbols (token_for symbols x)
    → token_put (token_for symbols x) start s ≡ placed (put (lexeme_at symbols (lexeme_for x)) start s.parts) symbols s
put_standing symbols Dot start s e = ap (λ (q : List QualifiedName). placed (put parts.Dot start s.parts) q s) (sym e)
put_standing symbols (Number n) start s e = ap (λ (q : List QualifiedName). placed (put (parts.Atom (Integer n)) start s.parts) q s) (sym e)
put_standing symbols (Name k) start s e = ap (λ (q : List QualifiedName). placed (put (parts.Atom (Symbol (symbol_at symbols k.0))) start s.parts) q s) (sym e)

pub token_step : (t u : Table) (b : Built) (p : PkgId) (x : Standing) (l : Lexeme) (bytes : List ℕ) (start : ℕ) → Grows t u → IsBuilt t b → 0 < length b.token.items
    → bytes ≡ b.token.items → start ≡ b.at - length b.token.items → l ≡ lexeme_for x → Stands t u start (token_of (packages_of t p) bytes) (Ok x)
    → token_ended (packages_of t p) (state_at t b) ≡ placed (put (lexeme_at u.symbols l) start (parts_of u.symbols b.lexemes.items)) u.symbols (state_at u b)
token_step t u b p x l bytes start g i some e f k h =
    let s : State = state_at t b in
    let tok : List ℕ → Token = λ bs. with_room t.symbols (token_of (packages_of t p) bs) in
    let empty : is_empty b.token.items ≡ false = grind (arith, nat_tests) in
    let one : token_ended (packages_of t p) s ≡ token_put (tok b.token.items) (b.at - length b.token.items) s = ap (λ (c : Bool). if c then Goes s else token_put (tok b.token.items) (b.at - length b.token.items) s) empty in
    let two : token_put (tok b.token.items) (b.at - length b.token.items) s ≡ token_put (tok bytes) start s = ap (λ (bs : List ℕ). token_put (tok bs) (b.at - length b.token.items) s) (sym e) ∙ ap (λ n. token_put (tok bytes) n s) (sym f) in
    let three : token_put (tok bytes) start s ≡ token_put (token_for u.symbols x) start s = ap (λ y. token_put y start s) h.0 in
    let four = put_standing u.symbols x start s (h.1 ∙ ap (symbols_behind t.symbols) h.0) in
    let five : placed (put (lexeme_at u.symbols (lexeme_for x)) start (parts_of t.symbols b.lexemes.items)) u.symbols s ≡ placed (put (lexeme_at u.symbols l) start (parts_of t.symbols b.lexemes.items)) u.symbols s
    = ap (λ y. placed (put (lexeme_at u.symbols y) start (parts_of t.symbols b.lexemes.items)) u.symbols s) (sym k) in
    let six : placed (put (lexeme_at u.symbols l) start (parts_of t.symbols b.lexemes.items)) u.symbols s ≡ placed (put (lexeme_at u.symbols l) start (parts_of u.symbols b.lexemes.items)) u.symbols s
    = ap (λ ps. placed (put (lexeme_at u.symbols l) start ps) u.symbols s) (sym (parts_later g i.opens)) in
    one ∙ (two ∙ (three ∙ (four ∙ (five ∙ (six ∙ placed_same (put (lexeme_at u.symbols l) start (parts_of u.symbols b.lexemes.items)) u.symbols s (state_at u b) refl refl)))))
