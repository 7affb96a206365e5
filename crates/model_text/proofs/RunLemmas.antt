-- Cutting the bytes, or the lexemes, into pieces.
use Rattle.std.specs.Prelude.{◌≡◌, ℕ, List, [], ◌∷◌, ◌++◌, refl}
use Rattle.std.proofs.Common.{sym, ◌∙◌}
use Rattle.model_text.specs.Token.{Packages}
use Rattle.model_text.specs.Parts.{Part, Put, Parts, Whole, Bad, after_put, put, put_all, Placed}
use Rattle.model_text.specs.Next.{State, Step, Goes, Gives, Fails, after, step, run}

pub after_assoc : (r : Step) (f g : State → Step) → after (after r f) g ≡ after r (λ s. after (f s) g)
after_assoc (Goes s) f g = refl
after_assoc (Gives o n symbols) f g = refl
after_assoc (Fails c n) f g = refl

pub after_put_assoc : (r : Put) (f g : List Part → Put) → after_put (after_put r f) g ≡ after_put r (λ ps. after_put (f ps) g)
after_put_assoc (Parts ps) f g = refl
after_put_assoc (Whole h) f g = refl
after_put_assoc (Bad c n) f g = refl

pub after_same : (r : Step) (f g : State → Step) → ((s : State) → f s ≡ g s) → after r f ≡ after r g
after_same (Goes s) f g h = h s
after_same (Gives o n symbols) f g h = refl
after_same (Fails c n) f g h = refl

pub after_put_same : (r : Put) (f g : List Part → Put) → ((ps : List Part) → f ps ≡ g ps) → after_put r f ≡ after_put r g
after_put_same (Parts ps) f g h = h ps
after_put_same (Whole o) f g h = refl
after_put_same (Bad c n) f g h = refl

-- what the bytes xs and then ys lead to
pub run_append : (packages : Packages) (s : State) (xs ys : List ℕ) → run packages s (xs ++ ys) ≡ after (run packages s xs) (λ t. run packages t ys)
run_append packages s [] ys = refl
run_append packages s (b ∷ xs) ys =
    after_same (step packages s b) (λ t. run packages t (xs ++ ys)) (λ t. after (run packages t xs) (λ u. run packages u ys)) (λ t. run_append packages t xs ys)
    ∙ sym (after_assoc (step packages s b) (λ t. run packages t xs) (λ u. run packages u ys))

-- what the lexemes ls and then ms do
pub put_all_append : (ps : List Part) (ls ms : List Placed) → put_all ps (ls ++ ms) ≡ after_put (put_all ps ls) (λ qs. put_all qs ms)
put_all_append ps [] ms = refl
put_all_append ps (l ∷ ls) ms =
    after_put_same (put l.lexeme l.at ps) (λ qs. put_all qs (ls ++ ms)) (λ qs. after_put (put_all qs ls) (λ rs. put_all rs ms)) (λ qs. put_all_append qs ls ms)
    ∙ sym (after_put_assoc (put l.lexeme l.at ps) (λ qs. put_all qs ls) (λ rs. put_all rs ms))
