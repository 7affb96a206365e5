-- Which names may be given to constants.
use Rattle.std.specs.Prelude.{◌≡◌, ℕ, ℤ, List, [], ◌∷◌, Bool, true, false, Option, Some, None, refl, if◌then◌else◌}
use Rattle.std.specs.Option.{option_or}
use Rattle.std.proofs.Common.{sym, ap, ◌∙◌}
use Rattle.model_objects.specs.Object.{Object, Integer, Symbol, Text, Pair}
use Rattle.model_symbols.specs.Symbols.{QualifiedName}
use Rattle.model_terms.specs.Worlds.{World}
use Rattle.model_expansion.specs.Forms.{has_stars, symbol_or_nil}
use Rattle.model_expansion.specs.Faults as faults
use Rattle.model_expansion.specs.Faults.{Refusal, BadName}
use Rattle.model_stobjs.specs.Heads.{name_in_use}
use Rattle.model_events.specs.Constants.{bad_constant_name}
use Rattle.acl_base.specs.declared.SymId.{SymId}
use Rattle.acl_terms.specs.Forms.{numbers}
use Rattle.acl_constants.specs.Drafts.{name_refusal}

module _ (sy : List QualifiedName) where
  pub of_symbol : (o : Object ℕ) (s : ℕ) (b : Bool) → o ≡ Symbol s → b ≡ has_stars sy s → bad_constant_name sy o ≡ (if b then None else Some (BadName o))
  of_symbol o s b e f = rw (e, f) refl

  pub of_integer : (o : Object ℕ) (n : ℤ) → o ≡ Integer n → bad_constant_name sy o ≡ Some (BadName o)
  of_integer o n e = rw e refl

  pub of_text : (o : Object ℕ) (bytes : List ℕ) → o ≡ Text bytes → bad_constant_name sy o ≡ Some (BadName o)
  of_text o bytes e = rw e refl

  pub of_pair : (o a d : Object ℕ) → o ≡ Pair a d → bad_constant_name sy o ≡ Some (BadName o)
  of_pair o a d e = rw e refl

pub only_name : (w : World) (x : ℕ) (s : SymId) (xs ys : List SymId) (r : Option Refusal) → x ≡ s.0 → xs ≡ s ∷ [] → ys ≡ xs → name_in_use w (numbers ys) ≡ r → name_in_use w (x ∷ []) ≡ r
only_name w x s xs ys r e f g i = ap (λ y. name_in_use w (y ∷ [])) e ∙ (ap (λ zs. name_in_use w (numbers zs)) (sym (g ∙ f)) ∙ i)

module _ (w : World) (sy : List QualifiedName) (o : Object ℕ) (b : Bool) (e : bad_constant_name sy o ≡ (if b then None else Some (BadName o))) where
  pub refused_bad : b ≡ false → name_refusal w sy o ≡ Some (BadName o)
  refused_bad f = ap (λ r. option_or r (name_in_use w (symbol_or_nil o ∷ []))) (e ∙ ap (λ c. if c then None else Some (BadName o)) f)

  good : b ≡ true → name_refusal w sy o ≡ name_in_use w (symbol_or_nil o ∷ [])
  good f = ap (λ r. option_or r (name_in_use w (symbol_or_nil o ∷ []))) (e ∙ ap (λ c. if c then None else Some (BadName o)) f)

  pub refused_used : (r : Refusal) → b ≡ true → name_in_use w (symbol_or_nil o ∷ []) ≡ Some r → name_refusal w sy o ≡ Some r
  refused_used r f g = good f ∙ g

  pub not_refused : b ≡ true → name_in_use w (symbol_or_nil o ∷ []) ≡ None → name_refusal w sy o ≡ None
  not_refused f g = good f ∙ g
