-- All formals of a macro in the order of text.
use Rattle.std.specs.Prelude.{◌≡◌, ℕ, ◌≤◌, List, [], ◌∷◌, ◌++◌, length, map, max, Bool, true, false, Option, Some, None, option_map, is_none, unwrap_or, refl}
use Rattle.std.specs.Option.{option_to_list}
use Rattle.std.proofs.Common.{sym, ap, ◌∙◌, append_assoc, arith}
use Rattle.std.proofs.lemmas.List.{append-nil}
use Rattle.model_objects.specs.Object.{Object}
use Rattle.model_symbols.specs.Symbols.{QualifiedName}
use Rattle.model_expansion.specs.Forms.{symbol, variable_name}
use Rattle.model_expansion.specs.Faults.{BadName}
use Rattle.model_stobjs.specs.Answers.{first_given}
use Rattle.model_events.specs.Declarations.{bad_formal, formals_of}
use Rattle.model_events.specs.Macros.{optional_objects, formal_objects}
use Rattle.acl_base.specs.declared.SymId.{SymId}
use Rattle.acl_base.specs.declared.Word.{Word}
use Rattle.acl_heap.specs.Objects.{Objects, object_of, reach}
use Rattle.acl_declare.specs.Said.{words_at, words_reach}
use Rattle.acl_macros.specs.declared.written.WrittenOptional.{WrittenOptional}
use Rattle.acl_macros.specs.declared.written.WrittenFormals.{WrittenFormals}
use Rattle.acl_macros.specs.Written.{seen_word, seen_optional, seen_optionals, optional_reach, optionals_reach, seen_keys, seen_formals}

module _ (h : Objects) where
  pub optionals_more : (done more : List (Object ℕ)) (f : WrittenOptional) (rest others : List WrittenOptional) → rest ≡ f ∷ others → more ≡ done ++ optional_objects (seen_optionals h (f ∷ []))
      → done ++ optional_objects (seen_optionals h rest) ≡ more ++ optional_objects (seen_optionals h others)
  optionals_more done more f rest others e g =
      let one = optional_objects (seen_optionals h (f ∷ [])) in
      let left = optional_objects (seen_optionals h others) in
      let i : optional_objects (seen_optionals h (f ∷ others)) ≡ one ++ left = ap (λ xs. xs ++ left) (sym (append-nil (object_of h f.name ∷ option_to_list (seen_word h f.supplied)))) in
      ap (λ xs. done ++ optional_objects (seen_optionals h xs)) e ∙ (ap (λ xs. done ++ xs) i ∙ (sym (append_assoc done one left) ∙ ap (λ xs. xs ++ left) (sym g)))

  pub optionals_end : (done : List (Object ℕ)) (rest : List WrittenOptional) → rest ≡ [] → done ++ optional_objects (seen_optionals h rest) ≡ done
  optionals_end done rest e = rw e (append-nil done)

pub optional_lies : (f : WrittenOptional) (rest others : List WrittenOptional) (n : ℕ) → rest ≡ f ∷ others → optionals_reach rest ≤ n → optionals_reach (f ∷ []) ≤ n
optional_lies f rest others n e l = let i : optionals_reach (f ∷ others) ≤ n = rw e at l in omega (arith, i)

pub optionals_lie : (f : WrittenOptional) (rest others : List WrittenOptional) (n : ℕ) → rest ≡ f ∷ others → optionals_reach rest ≤ n → optionals_reach others ≤ n
optionals_lie f rest others n e l = let i : optionals_reach (f ∷ others) ≤ n = rw e at l in omega (arith, i)

pub all_objects : (h : Objects) (f : WrittenFormals) (a b c d : List (Object ℕ)) → a ≡ words_at h f.required → b ≡ a ++ optional_objects (seen_optionals h f.optional) → c ≡ b ++ option_to_list (seen_word h f.rest)
    → d ≡ c ++ optional_objects (unwrap_or (seen_keys h f.keys) []) → d ≡ formal_objects (seen_formals h f)
all_objects h f a b c d e i j k =
    let r = words_at h f.required in
    let o = optional_objects (seen_optionals h f.optional) in
    let w = option_to_list (seen_word h f.rest) in
    let s = optional_objects (unwrap_or (seen_keys h f.keys) []) in
    let l : c ≡ (r ++ o) ++ w = j ∙ ap (λ xs. xs ++ w) (i ∙ ap (λ xs. xs ++ o) e) in
    k ∙ (ap (λ xs. xs ++ s) l ∙ (append_assoc (r ++ o) w s ∙ append_assoc r o (w ++ s)))

-- ---- words one after another

module _ (w : Word) (rest others : List Word) (n : ℕ) (e : rest ≡ w ∷ others) (l : words_reach rest ≤ n) where
  pub word_lies : reach w ≤ n
  word_lies = let i : words_reach (w ∷ others) ≤ n = rw e at l in omega (arith, i)

  pub words_lie : words_reach others ≤ n
  words_lie = let i : words_reach (w ∷ others) ≤ n = rw e at l in omega (arith, i)

module _ (sy : List QualifiedName) (h : Objects) where
  good : (a : Object ℕ) (v : Option SymId) → option_map (λ (s : SymId). s.0) v ≡ variable_name sy a → is_none v ≡ false → bad_formal sy a ≡ None
  good a None e f = cc
  good a (Some s) e f = rw (sym e) refl

  not_good : (a : Object ℕ) (v : Option SymId) → option_map (λ (s : SymId). s.0) v ≡ variable_name sy a → is_none v ≡ true → bad_formal sy a ≡ Some (BadName a)
  not_good a None e f = rw (sym e) refl
  not_good a (Some s) e f = cc

  pub bad_more : (w : Word) (rest others : List Word) (v : Option SymId) → rest ≡ w ∷ others → option_map (λ (s : SymId). s.0) v ≡ variable_name sy (object_of h w) → is_none v ≡ false
      → first_given (bad_formal sy) (words_at h rest) ≡ first_given (bad_formal sy) (words_at h others)
  bad_more w rest others v e f g = rw (e, good (object_of h w) v f g) refl

  pub bad_found : (w : Word) (rest others : List Word) (v : Option SymId) → rest ≡ w ∷ others → option_map (λ (s : SymId). s.0) v ≡ variable_name sy (object_of h w) → is_none v ≡ true
      → first_given (bad_formal sy) (words_at h rest) ≡ Some (BadName (object_of h w))
  bad_found w rest others v e f g = rw (e, not_good (object_of h w) v f g) refl

  pub bad_end : (rest : List Word) → rest ≡ [] → first_given (bad_formal sy) (words_at h rest) ≡ None
  bad_end rest e = rw e refl

  pub symbols_more : (done : List ℕ) (w : Word) (rest others : List Word) (x : ℕ) → rest ≡ w ∷ others → symbol (object_of h w) ≡ Some x
      → done ++ formals_of sy (words_at h rest) ≡ (done ++ x ∷ []) ++ formals_of sy (words_at h others)
  symbols_more done w rest others x e f = rw (e, f) (sym (append_assoc done (x ∷ []) (formals_of sy (words_at h others))))

  pub symbols_other : (done : List ℕ) (w : Word) (rest others : List Word) → rest ≡ w ∷ others → symbol (object_of h w) ≡ None → done ++ formals_of sy (words_at h rest) ≡ done ++ formals_of sy (words_at h others)
  symbols_other done w rest others e f = rw (e, f) refl

  pub symbols_end : (done : List ℕ) (rest : List Word) → rest ≡ [] → done ++ formals_of sy (words_at h rest) ≡ done
  symbols_end done rest e = rw e (append-nil done)
