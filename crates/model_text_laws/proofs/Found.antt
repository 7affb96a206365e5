-- What is spelled is found, once, and stays found.
use Rattle.std.specs.Prelude.{◌≡◌, ℕ, ◌+◌, ◌≤◌, List, [], ◌++◌, length, Bool, true, false, refl}
use Rattle.std.proofs.Common.{sym, ap, ◌∙◌, arith, subst}
use Rattle.std.proofs.lemmas.Bool.{le-leb}
use Rattle.model_objects.specs.Object.{weight, max_weight}
use Rattle.model_symbols.specs.Symbols.{QualifiedName, all_interned}
use Rattle.model_text.specs.Token.{Form, Packages}
use Rattle.model_text.specs.Backquote.{form_of}
use Rattle.model_text.specs.Next.{State, Step, Goes, Gives, Fails, after, run, nothing_read, ended_step, answer, Stands, next_at, whole, most_input}
use Rattle.model_text.specs.Spelling.{AForm}
use Rattle.model_text.proofs.RunLemmas.{run_append}
use Rattle.model_text_laws.specs.Laws.{packages_of, SpelledStands, IsUnambiguous, StaysFound, ExpandsAlike, Stops}
use Rattle.model_text_laws.proofs.Going.{free, going, going_is}
use Rattle.model_text_laws.proofs.Gaps.{gap_going}
use Rattle.model_text_laws.proofs.Templates.{form_is, expansion_is}
use Rattle.model_text_laws.proofs.Read.{no_comma, spelling_read}

whole_is : (f : Form) (at first : ℕ) (symbols : List QualifiedName) → weight f ≤ max_weight → whole f at first symbols ≡ Gives f at symbols
whole_is f at first symbols l = rw (le-leb (weight f) max_weight l) refl

gives_stands : (ended : Bool) (f : Form) (n : ℕ) (symbols : List QualifiedName) → answer ended (Gives f n symbols) ≡ Stands f n symbols
gives_stands true f n symbols = refl
gives_stands false f n symbols = refl

pub spelled_stands : SpelledStands
unfolding next_at
spelled_stands all current symbols offset bytes ended f n known b =
    let k = packages_of all current in
    let gap = b.gap in
    let text = b.text in
    let at1 = offset + length gap in
    let at2 = at1 + length text in
    let l1 : at1 ≤ most_input = omega (arith, b.input, b.ends) in
    let q = gap_going k ended gap b.blank [] offset offset symbols l1 tt in
    let e = no_comma false (AForm b.apart) text b.template b.names b.depth b.spells refl in
    let stops = subst (λ x. Stops ended b.apart x b.rest) b.ends b.stops in
    let light : weight (form_of b.template) ≤ max_weight = subst (λ (x : Form). weight x ≤ max_weight) (sym b.form) b.light in
    let tail = λ (t : State). going k ended t b.rest in
    ap (answer ended)
    (going_is k ended (nothing_read symbols offset) bytes
    ∙ (ap (going k ended (free [] offset offset symbols)) b.split
    ∙ (q.passes (text ++ b.rest)
    ∙ (spelling_read k ended false (AForm b.apart) text b.template b.names b.depth b.spells [] at1 q.first' symbols b.rest refl refl (omega (arith, b.deep))
    (record { input = omega (arith, b.input, b.ends); bytes = omega (arith, b.short) }) b.room stops
    ∙ (ap (λ (x : Form). after (whole x at2 at1 (all_interned symbols b.names)) tail) (form_is b.template e)
    ∙ ap (λ x. after x tail) (whole_is (form_of b.template) at2 at1 (all_interned symbols b.names) light))))))
    ∙ (gives_stands ended (form_of b.template) at2 (all_interned symbols b.names)
    ∙ (ap (λ x. Stands x at2 (all_interned symbols b.names)) b.form
    ∙ (ap (λ x. Stands f x (all_interned symbols b.names)) (sym b.ends) ∙ ap (Stands f n) (sym b.knows))))

stands_same : (f g : Form) (m n : ℕ) (s t : List QualifiedName) → Stands f m s ≡ Stands g n t → (f ≡ g) × (m ≡ n) × (s ≡ t)
stands_same f g m n s t e = (cc, cc, cc)

pub is_unambiguous : IsUnambiguous
is_unambiguous all current symbols offset bytes ended f g m n known known2 a b =
    stands_same f g m n known known2
    (sym (spelled_stands all current symbols offset bytes ended f m known a) ∙ spelled_stands all current symbols offset bytes ended g n known2 b)

answer_gives : (r : Step) (f : Form) (n : ℕ) (known : List QualifiedName) → answer false r ≡ Stands f n known → r ≡ Gives f n known
answer_gives (Goes s) f n known e = cc
answer_gives (Gives g m s) f n known e = cc
answer_gives (Fails c m) f n known e = cc

gives_more : (k : Packages) (ended : Bool) (g : State → Step) (f : Form) (n : ℕ) (known : List QualifiedName) → answer ended (ended_step k ended (after (Gives f n known) g)) ≡ Stands f n known
gives_more k true g f n known = refl
gives_more k false g f n known = refl

pub stays_found : StaysFound
unfolding next_at
stays_found all current symbols offset bytes more ended f n known e =
    let k = packages_of all current in
    let s = nothing_read symbols offset in
    ap (λ r. answer ended (ended_step k ended r))
    (run_append k s bytes more ∙ ap (λ r. after r (λ t. run k t more)) (answer_gives (run k s bytes) f n known e))
    ∙ gives_more k ended (λ t. run k t more) f n known

pub expands_alike : ExpandsAlike
expands_alike t = expansion_is t
