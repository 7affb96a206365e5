-- Formals, one after another.
use Rattle.std.specs.Prelude.{◌≡◌, ℕ, List, [], ◌∷◌, ◌++◌, Bool, true, false, Option, Some, None, option_map, is_none, refl}
use Rattle.std.proofs.Common.{sym, ap, ◌∙◌, append_assoc}
use Rattle.std.proofs.lemmas.List.{append-nil}
use Rattle.model_objects.specs.Object.{Object, Pair}
use Rattle.model_symbols.specs.Symbols.{QualifiedName}
use Rattle.model_expansion.specs.Forms.{symbol, variable_name}
use Rattle.model_expansion.specs.Faults.{Refusal, BadName}
use Rattle.model_stobjs.specs.Answers.{first_given}
use Rattle.model_events.specs.Declarations.{repeated_among, bad_formal, formals_of, formals_fault}
use Rattle.acl_base.specs.declared.SymId.{SymId}
use Rattle.acl_layers.specs.Lists.{items_along}

module _ (sy : List QualifiedName) where
  pub formals_more : (done : List ℕ) (o a d : Object ℕ) (x : ℕ) → o ≡ Pair a d → symbol a ≡ Some x → done ++ formals_of sy (items_along o) ≡ (done ++ x ∷ []) ++ formals_of sy (items_along d)
  formals_more done o a d x e f = rw (e, f) (sym (append_assoc done (x ∷ []) (formals_of sy (items_along d))))

  pub formals_other : (done : List ℕ) (o a d : Object ℕ) → o ≡ Pair a d → symbol a ≡ None → done ++ formals_of sy (items_along o) ≡ done ++ formals_of sy (items_along d)
  formals_other done o a d e f = rw (e, f) refl

  pub formals_end : (done : List ℕ) (os : List (Object ℕ)) → os ≡ [] → done ++ formals_of sy os ≡ done
  formals_end done os e = rw e (append-nil done)

  good : (a : Object ℕ) (v : Option SymId) → option_map (λ (s : SymId). s.0) v ≡ variable_name sy a → is_none v ≡ false → bad_formal sy a ≡ None
  good a None e f = cc
  good a (Some s) e f = rw (sym e) refl

  not_good : (a : Object ℕ) (v : Option SymId) → option_map (λ (s : SymId). s.0) v ≡ variable_name sy a → is_none v ≡ true → bad_formal sy a ≡ Some (BadName a)
  not_good a None e f = rw (sym e) refl
  not_good a (Some s) e f = cc

  pub bad_more : (o a d : Object ℕ) (v : Option SymId) → o ≡ Pair a d → option_map (λ (s : SymId). s.0) v ≡ variable_name sy a → is_none v ≡ false
      → first_given (bad_formal sy) (items_along o) ≡ first_given (bad_formal sy) (items_along d)
  bad_more o a d v e f g = rw (e, good a v f g) refl

  pub bad_found : (o a d : Object ℕ) (v : Option SymId) → o ≡ Pair a d → option_map (λ (s : SymId). s.0) v ≡ variable_name sy a → is_none v ≡ true
      → first_given (bad_formal sy) (items_along o) ≡ Some (BadName a)
  bad_found o a d v e f g = rw (e, not_good a v f g) refl

  pub bad_end : (os : List (Object ℕ)) → os ≡ [] → first_given (bad_formal sy) os ≡ None
  bad_end os e = rw e refl

  pub fault_bad : (os : List (Object ℕ)) (r : Refusal) → first_given (bad_formal sy) os ≡ Some r → formals_fault sy os ≡ Some r
  fault_bad os r e = rw e refl

  pub fault_repeated : (os : List (Object ℕ)) (xs : List ℕ) (r : Refusal) → first_given (bad_formal sy) os ≡ None → xs ≡ formals_of sy os → repeated_among [] xs ≡ Some r
      → formals_fault sy os ≡ Some r
  fault_repeated os xs r e f g = rw e (ap (repeated_among []) (sym f) ∙ g)

  pub fault_none : (os : List (Object ℕ)) (xs : List ℕ) → first_given (bad_formal sy) os ≡ None → xs ≡ formals_of sy os → repeated_among [] xs ≡ None → formals_fault sy os ≡ None
  fault_none os xs e f g = rw e (ap (repeated_among []) (sym f) ∙ g)
