-- The first refusal before declarations are read.
use Rattle.std.specs.Prelude.{◌≡◌, ℕ, ◌≤◌, List, [], ◌∷◌, ◌++◌, length, map, max, true, false, Option, Some, None, refl}
use Rattle.std.specs.Option.{option_or}
use Rattle.std.proofs.Common.{sym, ap, ◌∙◌, subst, append_assoc, arith}
use Rattle.std.proofs.lemmas.List.{append-nil}
use Rattle.model_objects.specs.Object.{Object}
use Rattle.model_symbols.specs.Symbols.{QualifiedName}
use Rattle.model_terms.specs.Worlds.{World}
use Rattle.model_expansion.specs.Forms.{symbol_or_nil}
use Rattle.model_expansion.specs.Faults as faults
use Rattle.model_expansion.specs.Faults.{Refusal}
use Rattle.model_stobjs.specs.Answers.{first_given}
use Rattle.model_stobjs.specs.Heads.{name_in_use, is_good_name, bad_name}
use Rattle.model_events.specs.Declarations.{formals_fault}
use Rattle.model_events.specs.Functions as written
use Rattle.model_events.specs.Functions.{bad_declaration, written_fault}
use Rattle.acl_base.specs.declared.SymId.{SymId}
use Rattle.acl_base.specs.declared.Word.{Word}
use Rattle.acl_heap.specs.Objects.{Objects, object_of, reach}
use Rattle.acl_layers.specs.Lists.{items_along}
use Rattle.acl_declare.specs.declared.formals.FormalFault.{FormalFault}
use Rattle.acl_declare.specs.declared.formals.FormalFault.TheVariants as formal
use Rattle.acl_declare.specs.Formals.{seen_fault, fault_reach}
use Rattle.acl_drafts.specs.declared.written.WrittenFunction.{WrittenFunction}
use Rattle.acl_drafts.specs.declared.fault.DraftFault.{DraftFault}
use Rattle.acl_drafts.specs.declared.fault.DraftFault.TheVariants as fault
use Rattle.acl_drafts.specs.Functions.{seen_function, seen_functions, function_reach, functions_reach}
use Rattle.acl_drafts.specs.Names.{names_at, numbers_at}
use Rattle.acl_drafts.specs.Refusals.{RefusedBy, FirstRefusal, formals_refusal, early_refusal}

-- ---- words

module _ (f : WrittenFunction) (rest others : List WrittenFunction) (n : ℕ) (e : rest ≡ f ∷ others) (l : functions_reach rest ≤ n) where
  opened : functions_reach (f ∷ others) ≤ n
  opened = rw e at l

  pub first_lies : function_reach f ≤ n
  first_lies = let i = opened in omega (arith, i)

  pub name_lies : reach f.name ≤ n
  name_lies = let i = opened in omega (arith, i)

  pub formals_lie : reach f.formals ≤ n
  formals_lie = let i = opened in omega (arith, i)

  pub others_lie : functions_reach others ≤ n
  others_lie = let i = opened in omega (arith, i)

module _ (sy : List QualifiedName) (h : Objects) where
  -- ---- names that may be given

  pub name_good : (f : WrittenFunction) (rest others : List WrittenFunction) → rest ≡ f ∷ others → is_good_name sy (object_of h f.name) ≡ true → bad_name sy (names_at h rest) ≡ bad_name sy (names_at h others)
  name_good f rest others e g = rw (e, g) refl

  pub name_bad : (f : WrittenFunction) (rest others : List WrittenFunction) → rest ≡ f ∷ others → is_good_name sy (object_of h f.name) ≡ false → bad_name sy (names_at h rest) ≡ Some (faults.BadName (object_of h f.name))
  name_bad f rest others e g = rw (e, g) refl

  pub name_end : (rest : List WrittenFunction) → rest ≡ [] → bad_name sy (names_at h rest) ≡ None
  name_end rest e = rw e refl

  -- ---- formals

  pub formals_right : (f : WrittenFunction) (rest others : List WrittenFunction) → rest ≡ f ∷ others → formals_fault sy (items_along (object_of h f.formals)) ≡ None
      → formals_refusal sy (seen_functions h rest) ≡ formals_refusal sy (seen_functions h others)
  formals_right f rest others e g = rw (e, g) refl

  pub formals_wrong : (f : WrittenFunction) (rest others : List WrittenFunction) (r : Refusal) → rest ≡ f ∷ others → formals_fault sy (items_along (object_of h f.formals)) ≡ Some r
      → formals_refusal sy (seen_functions h rest) ≡ Some r
  formals_wrong f rest others r e g = rw (e, g) refl

  pub formals_end : (rest : List WrittenFunction) → rest ≡ [] → formals_refusal sy (seen_functions h rest) ≡ None
  formals_end rest e = rw e refl

-- ---- names

pub numbers_more : (h : Objects) (done : List ℕ) (x : ℕ) (f : WrittenFunction) (rest others : List WrittenFunction) → rest ≡ f ∷ others → symbol_or_nil (object_of h f.name) ≡ x
    → done ++ numbers_at h rest ≡ (done ++ x ∷ []) ++ numbers_at h others
numbers_more h done x f rest others e g = rw (e, g) (sym (append_assoc done (x ∷ []) (numbers_at h others)))

pub numbers_end : (h : Objects) (done : List ℕ) (rest : List WrittenFunction) → rest ≡ [] → done ++ numbers_at h rest ≡ done
numbers_end h done rest e = rw e (append-nil done)

-- ---- in their order

pub given_name : (h : Objects) (o : Option Refusal) (f : FormalFault) (x : Word) → o ≡ Some (seen_fault h f) → f ≡ formal.BadName x → o ≡ Some (faults.BadName (object_of h x))
given_name h o f x e g = e ∙ rw g refl

pub given_twice : (h : Objects) (o : Option Refusal) (f : FormalFault) (s : SymId) → o ≡ Some (seen_fault h f) → f ≡ formal.DuplicateFormal s → o ≡ Some (faults.DuplicateFormal s.0)
given_twice h o f s e g = e ∙ rw g refl

pub given_lies : (f : FormalFault) (x : Word) (n : ℕ) → fault_reach f ≤ n → f ≡ formal.BadName x → reach x ≤ n
given_lies f x n l g = let i : fault_reach (formal.BadName x) ≤ n = rw g at l in i

names_are : (h : Objects) (fs : List WrittenFunction) → map (λ (f : written.WrittenFunction). f.name) (seen_functions h fs) ≡ names_at h fs
names_are h [] = refl
names_are h (f ∷ fs) = ap (λ os. object_of h f.name ∷ os) (names_are h fs)

numbers_are : (h : Objects) (fs : List WrittenFunction) → map (λ (f : written.WrittenFunction). symbol_or_nil f.name) (seen_functions h fs) ≡ numbers_at h fs
numbers_are h [] = refl
numbers_are h (f ∷ fs) = ap (λ xs. symbol_or_nil (object_of h f.name) ∷ xs) (numbers_are h fs)

module _ (w : World) (sy : List QualifiedName) (h : Objects) (fs : List WrittenFunction) where
  early : early_refusal w sy (seen_functions h fs) ≡ option_or (bad_name sy (names_at h fs)) (option_or (name_in_use w (numbers_at h fs)) (formals_refusal sy (seen_functions h fs)))
  early = rw (names_are h fs, numbers_are h fs) refl

  pub early_name : (r : Refusal) → bad_name sy (names_at h fs) ≡ Some r → early_refusal w sy (seen_functions h fs) ≡ Some r
  early_name r e = early ∙ rw e refl

  pub early_used : (r : Refusal) → bad_name sy (names_at h fs) ≡ None → name_in_use w (numbers_at h fs) ≡ Some r → early_refusal w sy (seen_functions h fs) ≡ Some r
  early_used r e f = early ∙ rw (e, f) refl

  pub early_formals : (head : ℕ) (r : Option DraftFault) → bad_name sy (names_at h fs) ≡ None → name_in_use w (numbers_at h fs) ≡ None → FirstRefusal h head r (formals_refusal sy (seen_functions h fs))
      → FirstRefusal h head r (early_refusal w sy (seen_functions h fs))
  early_formals head r e f g = subst (FirstRefusal h head r) (sym (early ∙ rw (e, f) refl)) g

module _ (w : World) (sy : List QualifiedName) (fs : List written.WrittenFunction) where
  by_steps : (a b c d : Option Refusal) → option_or a (option_or b (option_or c d)) ≡ option_or (option_or a (option_or b c)) d
  by_steps None None None d = refl
  by_steps None None (Some r) d = refl
  by_steps None (Some r) c d = refl
  by_steps (Some r) b c d = refl

  steps : written_fault sy w fs ≡ option_or (early_refusal w sy fs) (first_given (bad_declaration sy) fs)
  unfolding written_fault
  steps = by_steps (bad_name sy (map (λ (f : written.WrittenFunction). f.name) fs)) (name_in_use w (map (λ (f : written.WrittenFunction). symbol_or_nil f.name) fs)) (formals_refusal sy fs) (first_given (bad_declaration sy) fs)

  pub then_declarations : early_refusal w sy fs ≡ None → written_fault sy w fs ≡ first_given (bad_declaration sy) fs
  then_declarations e = steps ∙ rw e refl

  pub refused_later : (h : Objects) (head : ℕ) (f : DraftFault) → early_refusal w sy fs ≡ None → RefusedBy h head (first_given (bad_declaration sy) fs) f → RefusedBy h head (written_fault sy w fs) f
  refused_later h head f e g = subst (λ o. RefusedBy h head o f) (sym (then_declarations e)) g

  before : (r : Refusal) → early_refusal w sy fs ≡ Some r → written_fault sy w fs ≡ Some r
  before r e = steps ∙ rw e refl

  pub refused_early : (h : Objects) (head : ℕ) (f : DraftFault) → RefusedBy h head (early_refusal w sy fs) f → RefusedBy h head (written_fault sy w fs) f
  refused_early h head fault.BadShape g = before _ g
  refused_early h head (fault.BadName x) g = before _ g
  refused_early h head (fault.NameInUse s) g = before _ g
  refused_early h head (fault.DuplicateFormal s) g = before _ g
  refused_early h head (fault.BadDeclare s) g = before _ g
  refused_early h head fault.Memory g = tt
