-- The first refusal before declarations are read.
use Rattle.std.specs.Prelude.{◌≡◌, ℕ, List, [], ◌∷◌, map, true, false, Option, Some, None, refl}
use Rattle.std.specs.Option.{option_or}
use Rattle.std.proofs.Common.{sym, ap, ◌∙◌, subst}
use Rattle.model_objects.specs.Object.{Object}
use Rattle.model_symbols.specs.Symbols.{QualifiedName}
use Rattle.model_terms.specs.Worlds.{World}
use Rattle.model_expansion.specs.Words.{defmacro_word}
use Rattle.model_expansion.specs.Forms.{symbol_or_nil}
use Rattle.model_expansion.specs.Faults as faults
use Rattle.model_expansion.specs.Faults.{Refusal}
use Rattle.model_stobjs.specs.Heads.{name_in_use, is_good_name, bad_name}
use Rattle.model_events.specs.Declarations.{formals_fault}
use Rattle.model_events.specs.Macros as written
use Rattle.model_events.specs.Macros.{formal_objects, bad_declaration, written_fault}
use Rattle.acl_base.specs.declared.SymId.{SymId}
use Rattle.acl_heap.specs.Objects.{Objects}
use Rattle.acl_terms.specs.Forms.{numbers}
use Rattle.acl_drafts.specs.declared.fault.DraftFault.{DraftFault}
use Rattle.acl_drafts.specs.declared.fault.DraftFault.TheVariants as fault
use Rattle.acl_drafts.specs.Refusals.{RefusedBy, FirstRefusal}
use Rattle.acl_macros.specs.Drafts.{early_refusal}

pub only_name : (w : World) (x : ℕ) (s : SymId) (xs ys : List SymId) (r : Option Refusal) → x ≡ s.0 → xs ≡ s ∷ [] → ys ≡ xs → name_in_use w (numbers ys) ≡ r → name_in_use w (x ∷ []) ≡ r
only_name w x s xs ys r e f g i = ap (λ y. name_in_use w (y ∷ [])) e ∙ (ap (λ zs. name_in_use w (numbers zs)) (sym (g ∙ f)) ∙ i)

module _ (w : World) (sy : List QualifiedName) (o : Object ℕ) (os : List (Object ℕ)) where
  pub early_name : is_good_name sy o ≡ false → early_refusal w sy o os ≡ Some (faults.BadName o)
  early_name e = rw e refl

  good : is_good_name sy o ≡ true → bad_name sy (o ∷ []) ≡ None
  good e = rw e refl

  after_name : is_good_name sy o ≡ true → early_refusal w sy o os ≡ option_or (name_in_use w (symbol_or_nil o ∷ [])) (formals_fault sy os)
  after_name e = ap (λ r. option_or r (option_or (name_in_use w (symbol_or_nil o ∷ [])) (formals_fault sy os))) (good e)

  pub early_used : (r : Refusal) → is_good_name sy o ≡ true → name_in_use w (symbol_or_nil o ∷ []) ≡ Some r → early_refusal w sy o os ≡ Some r
  early_used r e f = after_name e ∙ ap (λ x. option_or x (formals_fault sy os)) f

  pub early_formals : (h : Objects) (r : Option DraftFault) → is_good_name sy o ≡ true → name_in_use w (symbol_or_nil o ∷ []) ≡ None → FirstRefusal h defmacro_word r (formals_fault sy os)
      → FirstRefusal h defmacro_word r (early_refusal w sy o os)
  early_formals h r e f g = subst (FirstRefusal h defmacro_word r) (sym (after_name e ∙ ap (λ x. option_or x (formals_fault sy os)) f)) g

module _ (w : World) (sy : List QualifiedName) (m : written.WrittenMacro) (os : List (Object ℕ)) (i : os ≡ formal_objects m.formals) where
  by_steps : (a b c d : Option Refusal) → option_or a (option_or b (option_or c d)) ≡ option_or (option_or a (option_or b c)) d
  by_steps None None None d = refl
  by_steps None None (Some r) d = refl
  by_steps None (Some r) c d = refl
  by_steps (Some r) b c d = refl

  steps : written_fault sy w m ≡ option_or (early_refusal w sy m.name os) (bad_declaration sy m)
  steps =
      by_steps (bad_name sy (m.name ∷ [])) (name_in_use w (symbol_or_nil m.name ∷ [])) (formals_fault sy (formal_objects m.formals)) (bad_declaration sy m)
      ∙ ap (λ xs. option_or (early_refusal w sy m.name xs) (bad_declaration sy m)) (sym i)

  pub then_declarations : early_refusal w sy m.name os ≡ None → written_fault sy w m ≡ bad_declaration sy m
  then_declarations e = steps ∙ ap (λ x. option_or x (bad_declaration sy m)) e

  pub refused_later : (h : Objects) (f : DraftFault) → early_refusal w sy m.name os ≡ None → RefusedBy h defmacro_word (bad_declaration sy m) f → RefusedBy h defmacro_word (written_fault sy w m) f
  refused_later h f e g = subst (λ o. RefusedBy h defmacro_word o f) (sym (then_declarations e)) g

  before : (r : Refusal) → early_refusal w sy m.name os ≡ Some r → written_fault sy w m ≡ Some r
  before r e = steps ∙ ap (λ x. option_or x (bad_declaration sy m)) e

  pub refused_early : (h : Objects) (f : DraftFault) → RefusedBy h defmacro_word (early_refusal w sy m.name os) f → RefusedBy h defmacro_word (written_fault sy w m) f
  refused_early h fault.BadShape g = before _ g
  refused_early h (fault.BadName x) g = before _ g
  refused_early h (fault.NameInUse s) g = before _ g
  refused_early h (fault.DuplicateFormal s) g = before _ g
  refused_early h (fault.BadDeclare s) g = before _ g
  refused_early h fault.Memory g = tt
