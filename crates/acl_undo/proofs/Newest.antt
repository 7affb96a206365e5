-- The newest part comes first.
use Rattle.std.proofs.Common.{◌≡◌, List, [], ◌∷◌, ◌++◌, reverse, sym, ap, subst, ◌∙◌, refl}
use Rattle.std.proofs.lemmas.List.{reverse-append}
use Rattle.acl_undo.specs.Parts.{after_all, AllFit}

module _ {X S : Type 0} (fits : X → S → Type 0) (apply : X → S → S) where
  pub newest : (xs ys : List X) (p : X) → xs ≡ ys ++ p ∷ [] → reverse xs ≡ p ∷ reverse ys
  newest xs ys p e = ap reverse e ∙ reverse-append ys (p ∷ [])

  pub newest_fits : (xs ys : List X) (p : X) (s : S) → xs ≡ ys ++ p ∷ [] → AllFit fits apply (reverse xs) s → fits p s × AllFit fits apply (reverse ys) (apply p s)
  newest_fits xs ys p s e fit = subst (λ l. AllFit fits apply l s) (newest xs ys p e) fit

  pub after_newest : (xs ys : List X) (p : X) (s : S) → xs ≡ ys ++ p ∷ [] → after_all apply (reverse xs) s ≡ after_all apply (reverse ys) (apply p s)
  after_newest xs ys p s e = ap (λ l. after_all apply l s) (newest xs ys p e)

  pub after_none : (xs : List X) (s : S) → xs ≡ [] → s ≡ after_all apply (reverse xs) s
  after_none xs s e = ap (λ l. after_all apply (reverse l) s) (sym e)

  -- a part that leads from the state after a write back to the one before it is noted
  pub noted : (ps : List X) (p : X) (before after : S) → fits p after → apply p after ≡ before → AllFit fits apply (reverse ps) before
      → AllFit fits apply (reverse (ps ++ p ∷ [])) after × (after_all apply (reverse (ps ++ p ∷ [])) after ≡ after_all apply (reverse ps) before)
  noted ps p before after fit leads rest =
      let first = newest (ps ++ p ∷ []) ps p refl in (
        subst (λ l. AllFit fits apply l after) (sym first) (fit, subst (AllFit fits apply (reverse ps)) (sym leads) rest),
        ap (λ l. after_all apply l after) first ∙ ap (after_all apply (reverse ps)) leads,
      )
