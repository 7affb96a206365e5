-- The last frame with another step.
use Rattle.std.proofs.Common.{◌≡◌, ℕ, suc, ◌-◌, ◌<◌, List, [], ◌∷◌, ◌++◌, length, get_or, set, reverse, refl, sym, ap, ◌∙◌, arith, subst}
use Rattle.std.proofs.lemmas.List.{reverse-append, length-reverse}
use Rattle.acl_machine.specs.declared.frame.Step.{Step}
use Rattle.acl_machine.specs.declared.frame.Frame.{Frame}
use Rattle.acl_machine.specs.Turns.{IsFirst, with_step, with_frame}

set_last : (xs : List Frame) (y z : Frame) → set (xs ++ y ∷ []) (length xs) z ≡ xs ++ z ∷ []
set_last [] y z = refl
set_last (x ∷ xs) y z = ap (λ l. x ∷ l) (set_last xs y z)

get_last : (xs : List Frame) (y d : Frame) → get_or (xs ++ y ∷ []) (length xs) d ≡ y
get_last [] y d = refl
get_last (x ∷ xs) y d = get_last xs y d

-- frames with a last one
first_frames : (x : Frame) (xs : List Frame) → List Frame
first_frames x [] = []
first_frames x (y ∷ ys) = x ∷ first_frames y ys

last_frame : (x : Frame) (xs : List Frame) → Frame
last_frame x [] = x
last_frame x (y ∷ ys) = last_frame y ys

apart : (x : Frame) (xs : List Frame) → x ∷ xs ≡ first_frames x xs ++ last_frame x xs ∷ []
unfolding first_frames last_frame
apart x [] = refl
apart x (y ∷ ys) = ap (λ l. x ∷ l) (apart y ys)

many_first : (x : Frame) (xs : List Frame) → length (first_frames x xs) ≡ length xs
unfolding first_frames
many_first x [] = refl
many_first x (y ∷ ys) = ap suc (many_first y ys)

reversed_last : (xs : List Frame) (y d : Frame) (step : Step) → reverse (set (xs ++ y ∷ []) (length xs) (record (get_or (xs ++ y ∷ []) (length xs) d) { step = step })) ≡ with_step step (reverse (xs ++ y ∷ []))
reversed_last xs y d step =
    ap (λ f. reverse (set (xs ++ y ∷ []) (length xs) (record f { step = step }))) (get_last xs y d)
    ∙ ap reverse (set_last xs y (record y { step = step }))
    ∙ reverse-append xs (record y { step = step } ∷ [])
    ∙ sym (ap (with_step step) (reverse-append xs (y ∷ [])))

pub again_reversed : (xs : List Frame) (d : Frame) (step : Step) → (length xs ≡ 0 → ⊥) → reverse (set xs (length xs - 1) (record (get_or xs (length xs - 1) d) { step = step })) ≡ with_step step (reverse xs)
again_reversed [] d step h = absurd (h refl)
again_reversed (x ∷ xs) d step h =
    let at : length (x ∷ xs) - 1 ≡ length (first_frames x xs) = (let m = many_first x xs in omega arith) in
    ap (λ n. reverse (set (x ∷ xs) n (record (get_or (x ∷ xs) n d) { step = step }))) at
    ∙ ap (λ l. reverse (set l (length (first_frames x xs)) (record (get_or l (length (first_frames x xs)) d) { step = step }))) (apart x xs)
    ∙ reversed_last (first_frames x xs) (last_frame x xs) d step
    ∙ sym (ap (λ l. with_step step (reverse l)) (apart x xs))

pub none_reversed : (xs : List Frame) (step : Step) → length xs ≡ 0 → reverse xs ≡ with_step step (reverse xs)
none_reversed [] step h = refl
none_reversed (x ∷ xs) step h = absurd (omega arith)

pub first_reversed : (xs : List Frame) (d f : Frame) → (length xs ≡ 0 → ⊥) → get_or xs (length xs - 1) d ≡ f → IsFirst f (reverse xs)
first_reversed [] d f h e = absurd (h refl)
first_reversed (x ∷ xs) d f h e =
    let at : length (x ∷ xs) - 1 ≡ length (first_frames x xs) = (let m = many_first x xs in omega arith) in
    let same : last_frame x xs ≡ f = sym (ap (λ n. get_or (x ∷ xs) n d) at ∙ ap (λ l. get_or l (length (first_frames x xs)) d) (apart x xs) ∙ get_last (first_frames x xs) (last_frame x xs) d) ∙ e in
    record {
      rest = reverse (first_frames x xs);
      is = ap reverse (apart x xs) ∙ reverse-append (first_frames x xs) (last_frame x xs ∷ []) ∙ ap (λ l. l ∷ reverse (first_frames x xs)) same;
    }

pub none_first : (xs : List Frame) → length xs ≡ 0 → reverse xs ≡ []
none_first [] h = refl
none_first (x ∷ xs) h = absurd (omega arith)

pub replaced_reversed : (xs : List Frame) (z : Frame) → (length xs ≡ 0 → ⊥) → reverse (set xs (length xs - 1) z) ≡ with_frame z (reverse xs)
replaced_reversed [] z h = absurd (h refl)
replaced_reversed (x ∷ xs) z h =
    let at : length (x ∷ xs) - 1 ≡ length (first_frames x xs) = (let m = many_first x xs in omega arith) in
    ap (λ n. reverse (set (x ∷ xs) n z)) at
    ∙ ap (λ l. reverse (set l (length (first_frames x xs)) z)) (apart x xs)
    ∙ ap reverse (set_last (first_frames x xs) (last_frame x xs) z)
    ∙ reverse-append (first_frames x xs) (z ∷ [])
    ∙ sym (ap (λ l. with_frame z (reverse l)) (apart x xs) ∙ ap (with_frame z) (reverse-append (first_frames x xs) (last_frame x xs ∷ [])))

pub none_replaced : (xs : List Frame) (z : Frame) → length xs ≡ 0 → reverse xs ≡ with_frame z (reverse xs)
none_replaced [] z h = refl
none_replaced (x ∷ xs) z h = absurd (omega arith)

pub some_first : (xs : List Frame) → (length xs ≡ 0 → ⊥) → reverse xs ≡ [] → ⊥
some_first [] h e = h refl
some_first (x ∷ xs) h e = no_end (reverse (first_frames x xs)) (sym (ap reverse (apart x xs) ∙ reverse-append (first_frames x xs) (last_frame x xs ∷ [])) ∙ e)
  where
    no_end : (ys : List Frame) → last_frame x xs ∷ ys ≡ [] → ⊥
    no_end ys e = cc

pub few_reversed : (xs : List Frame) (n : ℕ) → length xs < n → length (reverse xs) < n
few_reversed xs n h = subst (λ k. k < n) (sym (length-reverse xs)) h
