-- Formals of a macro by their names.
use Rattle.std.specs.Prelude.{◌≡◌, ℕ, ◌≤◌, List, [], ◌∷◌, ◌++◌, length, map, max, Option, Some, None, option_map, refl}
use Rattle.std.proofs.Common.{sym, ap, ◌∙◌, append_assoc, arith}
use Rattle.std.proofs.lemmas.List.{append-nil, map-append}
use Rattle.model_objects.specs.Object.{Object}
use Rattle.model_terms.specs.Worlds as worlds
use Rattle.model_expansion.specs.Forms.{symbol_or_nil}
use Rattle.model_events.specs.Macros.{optional_formal, macro_formals}
use Rattle.acl_base.specs.declared.SymId.{SymId}
use Rattle.acl_base.specs.declared.Word.{Word}
use Rattle.acl_heap.specs.Objects.{Objects, object_of, reach}
use Rattle.acl_terms.specs.Forms.{numbers, most}
use Rattle.acl_terms.specs.Signatures.{seen_name}
use Rattle.acl_terms.specs.Definitions as definitions
use Rattle.acl_terms.specs.declared.definition.OptionalFormal.{OptionalFormal}
use Rattle.acl_terms.specs.declared.definition.MacroFormals.{MacroFormals}
use Rattle.acl_layers.proofs.BindingLemmas.{most_append}
use Rattle.acl_declare.specs.Said.{words_at}
use Rattle.acl_macros.specs.declared.written.WrittenOptional.{WrittenOptional}
use Rattle.acl_macros.specs.declared.written.WrittenFormals.{WrittenFormals}
use Rattle.acl_macros.specs.Written.{seen_word, seen_optional, optional_reach, seen_optionals, optionals_reach, seen_keys, seen_formals}
use Rattle.acl_macros.specs.Drafts.{named_formals, defaults_reach}

pub names_more : (h : Objects) (done : List ℕ) (x : ℕ) (w : Word) (rest others : List Word) → rest ≡ w ∷ others → symbol_or_nil (object_of h w) ≡ x
    → done ++ map symbol_or_nil (words_at h rest) ≡ (done ++ x ∷ []) ++ map symbol_or_nil (words_at h others)
names_more h done x w rest others e f = rw (e, f) (sym (append_assoc done (x ∷ []) (map symbol_or_nil (words_at h others))))

pub names_end : (h : Objects) (done : List ℕ) (rest : List Word) → rest ≡ [] → done ++ map symbol_or_nil (words_at h rest) ≡ done
names_end h done rest e = rw e (append-nil done)

pub named_there : (o : Object ℕ) (s : SymId) → symbol_or_nil o ≡ s.0 → option_map symbol_or_nil (Some o) ≡ Some s.0
named_there o s e = ap (λ x. Some x) e

pub formal_is : (h : Objects) (f : WrittenOptional) (s : SymId) (d : Word) (v : Option SymId) → symbol_or_nil (object_of h f.name) ≡ s.0 → d ≡ f.default → option_map symbol_or_nil (seen_word h f.supplied) ≡ seen_name v
    → definitions.seen_optional h (record { name = s; default = d; supplied = v }) ≡ optional_formal (seen_optional h f)
formal_is h f s d v e i g = rw (e, i, g) refl

pub formal_pushed : (h : Objects) (fs : List OptionalFormal) (f : OptionalFormal) → named_formals h (fs ++ f ∷ []) ≡ named_formals h fs ++ definitions.seen_optional h f ∷ []
formal_pushed h fs f = map-append (definitions.seen_optional h) fs (f ∷ [])

pub defaults_pushed : (fs : List OptionalFormal) (f : OptionalFormal) → defaults_reach (fs ++ f ∷ []) ≡ max (defaults_reach fs) (reach f.default)
defaults_pushed fs f = ap most (map-append (λ (o : OptionalFormal). reach o.default) fs (f ∷ [])) ∙ most_append (map (λ (o : OptionalFormal). reach o.default) fs) (reach f.default)

module _ (h : Objects) where
  pub formals_more : (done more : List worlds.OptionalFormal) (x : worlds.OptionalFormal) (f : WrittenOptional) (rest others : List WrittenOptional) → rest ≡ f ∷ others → x ≡ optional_formal (seen_optional h f) → more ≡ done ++ x ∷ []
      → done ++ map optional_formal (seen_optionals h rest) ≡ more ++ map optional_formal (seen_optionals h others)
  formals_more done more x f rest others e g i =
      let left = map optional_formal (seen_optionals h others) in
      ap (λ fs. done ++ map optional_formal (seen_optionals h fs)) e
      ∙ (ap (λ y. done ++ y ∷ left) (sym g) ∙ (sym (append_assoc done (x ∷ []) left) ∙ ap (λ xs. xs ++ left) (sym i)))

  pub formals_end : (done : List worlds.OptionalFormal) (rest : List WrittenOptional) → rest ≡ [] → done ++ map optional_formal (seen_optionals h rest) ≡ done
  formals_end done rest e = rw e (append-nil done)

  pub keys_named : (fs : List OptionalFormal) (ks : List WrittenOptional) → named_formals h fs ≡ map optional_formal (seen_optionals h ks) → definitions.seen_optionals h (Some fs) ≡ option_map (map optional_formal) (seen_keys h (Some ks))
  keys_named fs ks e = ap (λ xs. Some xs) e

  pub all_named : (f : WrittenFormals) (g : MacroFormals) → numbers g.required ≡ map symbol_or_nil (words_at h f.required) → named_formals h g.optional ≡ map optional_formal (seen_optionals h f.optional)
      → option_map symbol_or_nil (seen_word h f.rest) ≡ seen_name g.rest → definitions.seen_optionals h g.keys ≡ option_map (map optional_formal) (seen_keys h f.keys)
      → macro_formals (seen_formals h f) ≡ definitions.seen_formals h g
  all_named f g a b c d = rw (sym a, sym b, c, sym d) refl

pub all_lie : (f : MacroFormals) (n : ℕ) → defaults_reach f.optional ≤ n → definitions.optionals_reach f.keys ≤ n → definitions.formals_reach f ≤ n
all_lie f n a b = omega (arith, a, b)

pub formal_lies : (f : WrittenOptional) (rest others : List WrittenOptional) (n : ℕ) → rest ≡ f ∷ others → optionals_reach rest ≤ n → optional_reach f ≤ n
formal_lies f rest others n e l = let i : optionals_reach (f ∷ others) ≤ n = rw e at l in omega (arith, i)

pub formals_lie : (f : WrittenOptional) (rest others : List WrittenOptional) (n : ℕ) → rest ≡ f ∷ others → optionals_reach rest ≤ n → optionals_reach others ≤ n
formals_lie f rest others n e l = let i : optionals_reach (f ∷ others) ≤ n = rw e at l in omega (arith, i)
