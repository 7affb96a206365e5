-- What bytes lead to, with the end of the input behind them.
use Rattle.std.specs.Prelude.{◌≡◌, ℕ, ◌+◌, ◌-◌, ◌<◌, List, [], ◌∷◌, length, Bool, true, false, ◌&&◌, ◌||◌, refl}
use Rattle.std.proofs.Common.{◌∙◌, arith}
use Rattle.std.proofs.lemmas.Bool.{lt-ltb}
use Rattle.std.proofs.lemmas.Bool.Decides.{nat_tests}
use Rattle.model_symbols.specs.Symbols.{QualifiedName}
use Rattle.model_text.specs.Token.{Packages, is_empty}
use Rattle.model_text.specs.Parts.{Part, Put, Parts, Whole, Bad}
use Rattle.model_text.specs.Next.{Inside, Free, State, Step, Goes, Gives, Fails, after, step, run, ended_step, most_input, most_bytes, first_of, has_room, whole, counted, goes_on, placed, is_after_comma, taken_inside, is_comment}

abbrev pub st : List Part → Inside → List ℕ → ℕ → ℕ → List QualifiedName → State
st ps i token at first symbols = record { parts = ps; inside = i; token = token; at = at; first = first; symbols = symbols }

-- no token has begun
abbrev pub free : List Part → ℕ → ℕ → List QualifiedName → State
free ps at first symbols = st ps Free [] at first symbols

-- where the outermost form begins, if the byte at this offset belongs to it
abbrev pub begin : List Part → ℕ → ℕ → ℕ
begin [] at first = at
begin (p ∷ ps) at first = first

-- what was done, with the offset behind it, where the outermost form begins, and the symbols then known
abbrev pub done : Put → ℕ → ℕ → List QualifiedName → Step
done (Parts ps) at first symbols = Goes (free ps at first symbols)
done (Whole f) at first symbols = whole f at first symbols
done (Bad c n) at first symbols = Fails c n

abbrev pub going : Packages → Bool → State → List ℕ → Step
going packages ended s [] = ended_step packages ended (Goes s)
going packages ended s (b ∷ bs) = after (step packages s b) (λ t. going packages ended t bs)

ended_after : (packages : Packages) (ended : Bool) (r : Step) (k : State → Step) → ended_step packages ended (after r k) ≡ after r (λ t. ended_step packages ended (k t))
ended_after packages true (Goes s) k = refl
ended_after packages true (Gives f n symbols) k = refl
ended_after packages true (Fails c n) k = refl
ended_after packages false (Goes s) k = refl
ended_after packages false (Gives f n symbols) k = refl
ended_after packages false (Fails c n) k = refl

after_same : (r : Step) (f g : State → Step) → ((s : State) → f s ≡ g s) → after r f ≡ after r g
after_same (Goes s) f g h = h s
after_same (Gives o n symbols) f g h = refl
after_same (Fails c n) f g h = refl

pub going_is : (packages : Packages) (ended : Bool) (s : State) (bs : List ℕ) → ended_step packages ended (run packages s bs) ≡ going packages ended s bs
going_is packages ended s [] = refl
going_is packages ended s (b ∷ bs) =
    ended_after packages ended (step packages s b) (λ t. run packages t bs)
    ∙ after_same (step packages s b) (λ t. ended_step packages ended (run packages t bs)) (λ t. going packages ended t bs) (λ t. going_is packages ended t bs)

-- ---- one step

or_true : (b : Bool) → (b || true) ≡ true
or_true true = refl
or_true false = refl

pub begin_is : (ps : List Part) (at first : ℕ) (symbols : List QualifiedName) → first_of (free ps at first symbols) ≡ begin ps at first
begin_is [] at first symbols = refl
begin_is (p ∷ ps) at first symbols = grind (arith, nat_tests)

-- a state in which something has begun
pub first_token : (ps : List Part) (i : Inside) (token : List ℕ) (at first : ℕ) (symbols : List QualifiedName) → 0 < length token → first_of (st ps i token at first symbols) ≡ first
first_token ps i token at first symbols l = grind (arith, nat_tests)

pub room_of : (s : State) (n : ℕ) → n - first_of s < most_bytes → has_room s n ≡ true
room_of s n l = rw (lt-ltb (n - first_of s) most_bytes l) (or_true (is_empty s.parts && is_comment s.inside))

pub counted_done : (p : Put) (n : ℕ) (s : State) → has_room s n ≡ true → counted p Free [] n s ≡ done p (n + 1) (first_of s) s.symbols
counted_done (Parts ps) n s h = rw h refl
counted_done (Whole f) n s h = rw h refl
counted_done (Bad c k) n s h = refl

pub placed_done : (p : Put) (symbols : List QualifiedName) (s : State) → placed p symbols s ≡ done p s.at s.first symbols
placed_done (Parts ps) symbols s = refl
placed_done (Whole f) symbols s = refl
placed_done (Bad c n) symbols s = refl

pub goes_on_room : (i : Inside) (token : List ℕ) (s : State) → has_room s s.at ≡ true → goes_on i token s ≡ Goes (st s.parts i token (s.at + 1) (first_of s) s.symbols)
goes_on_room i token s h = rw h refl

pub step_inside : (packages : Packages) (ps : List Part) (i : Inside) (token : List ℕ) (at first : ℕ) (symbols : List QualifiedName) (b : ℕ)
    → is_after_comma i ≡ false → at < most_input → step packages (st ps i token at first symbols) b ≡ taken_inside packages b (st ps i token at first symbols) i
unfolding step
step_inside packages ps i token at first symbols b h l = rw (h, lt-ltb at most_input l) refl
