-- What an expansion is of an outcome.
use Rattle.std.specs.Prelude.{◌≡◌, ℕ, [], List, true, false, Option, Some, None, Result, refl}
use Rattle.std.proofs.Common.{ap, ◌∙◌, subst}
use Rattle.model_symbols.specs.Symbols.{QualifiedName}
use Rattle.model_eval.specs.Outcomes as outcomes
use Rattle.model_terms.specs.Cores as cores
use Rattle.model_terms.specs.Worlds as worlds
use Rattle.model_expansion.specs.Faults.{BadShape, MacroArgs}
use Rattle.model_expansion.specs.Forms.{elements}
use Rattle.model_expansion.specs.Expansion.{Setting, Fails, again, used, body_value, macro_values}
use Rattle.model_expansion.specs.Expansion as expansion
use Rattle.acl_heap.specs.Objects.{Objects}
use Rattle.acl_engine.specs.declared.outcome.Outcome.{Outcome}
use Rattle.acl_terms.specs.declared.outcome.Stop.{Stop}
use Rattle.model_objects.specs.Object.{Object}
use Rattle.model_prims.specs.Kinds.{by_number}
use Rattle.model_prims.specs.Lists.{is_true_list}
use Rattle.acl_layers.specs.Lists.{items_along}
use Rattle.acl_layers.proofs.ListLemmas.{elements_are, no_list}
use Rattle.acl_layers.specs.declared.layer.Made.{Made}
use Rattle.acl_engine.specs.Outcomes.{ended, seen_outcome}
use Rattle.acl_expand.specs.declared.progress.Progress.{Progress}
use Rattle.acl_expand.specs.declared.progress.Refused.{Refused}
use Rattle.acl_expand.specs.Progresses.{seen_progress, EndsMade}

-- the symbols before it do not count
alike : (h : Objects) (sy sy' : List QualifiedName) (p : Progress) (o : Outcome) (s : Option Stop) → again (seen_progress sy' p) (ended h sy' [] o s) ≡ again (seen_progress sy p) (ended h sy' [] o s)
alike h sy sy' p o None = refl
alike h sy sy' p o (Some s) = refl

pub ends : (h : Objects) (q : expansion.Progress) (r : Result Made Refused) (sy sy' : List QualifiedName) (p : Progress) (o : Outcome) (e : outcomes.Outcome ℕ)
    → seen_outcome h sy' [] o ≡ e → EndsMade h q r (again (seen_progress sy' p) (seen_outcome h sy' [] o)) → EndsMade h q r (again (seen_progress sy p) e)
ends h q r sy sy' p o e same k = subst (λ x. EndsMade h q r x) (alike h sy sy' p o o.stop ∙ ap (again (seen_progress sy p)) same) k

module _ (x : Setting) (s : ℕ) (formals : worlds.MacroFormals) (body : cores.Core) (p : expansion.Progress) where
  pub no_elements : (o : Object ℕ) → is_true_list by_number o ≡ false → used x s formals body (elements o) p ≡ Fails (BadShape s) p
  no_elements o e = rw (no_list o e) refl

  opened : (o : Object ℕ) → is_true_list by_number o ≡ true → used x s formals body (elements o) p ≡ used x s formals body (Some (items_along o)) p
  opened o e = let k : elements o ≡ Some (items_along o) = elements_are o ∙ rw e refl in ap (λ t. used x s formals body t p) k

  pub no_values : (o : Object ℕ) → is_true_list by_number o ≡ true → macro_values p.symbols formals (items_along o) ≡ None → used x s formals body (elements o) p ≡ Fails (MacroArgs s) p
  no_values o e f = opened o e ∙ rw f refl

  pub with_values : (o : Object ℕ) (vs : List (Object ℕ)) → is_true_list by_number o ≡ true → macro_values p.symbols formals (items_along o) ≡ Some vs
      → used x s formals body (elements o) p ≡ again p (body_value x formals body vs p)
  with_values o vs e f = opened o e ∙ rw f refl
