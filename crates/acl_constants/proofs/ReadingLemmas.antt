-- The draft of a constant.
use Rattle.std.specs.Prelude.{◌≡◌, ◌≢◌, ℕ, zero, suc, ◌<◌, List, [], ◌∷◌, length, Bool, true, false, Option, Some, None, is_some, option_map, option_and_then, slice_get, position, nat_eq, refl, if◌then◌else◌}
use Rattle.std.specs.Option.{option_or}
use Rattle.std.proofs.Common.{sym, ap, ◌∙◌, subst, arith}
use Rattle.std.proofs.lemmas.List.{length-map}
use Rattle.std.proofs.lemmas.List.Quantifiers.{position-Some}
use Rattle.model_objects.specs.Object.{Object}
use Rattle.model_symbols.specs.Symbols.{QualifiedName}
use Rattle.model_terms.specs.Worlds as worlds
use Rattle.model_terms.specs.Worlds.{World}
use Rattle.model_expansion.specs.Words.{defconst_word}
use Rattle.model_expansion.specs.Forms.{elements, symbol_or_nil}
use Rattle.model_expansion.specs.Faults as faults
use Rattle.model_expansion.specs.Faults.{NameInUse}
use Rattle.model_stobjs.specs.Heads.{is_reserved, is_in_use, name_in_use}
use Rattle.model_events.specs.Constants.{name_and_form, bad_constant_name}
use Rattle.acl_base.specs.declared.SymId.{SymId}
use Rattle.acl_base.specs.declared.Word.{Word}
use Rattle.acl_heap.specs.Objects.{Objects, object_of, Lies}
use Rattle.acl_terms.specs.declared.definition.Definition.{Definition}
use Rattle.acl_terms.specs.Definitions.{name_in, seen_definition}
use Rattle.acl_worlds.specs.Contents.{Content, seen_world, number_of, names_in}
use Rattle.acl_worlds.proofs.WorldLemmas.{definition_at}
use Rattle.acl_drafts.specs.declared.fault.DraftFault.{DraftFault}
use Rattle.acl_drafts.specs.Refusals.{RefusedBy, FirstRefusal}
use Rattle.acl_packages.specs.Named.{SeenNamed}
use Rattle.acl_constants.specs.declared.draft.ConstantDraft.{ConstantDraft}
use Rattle.acl_constants.specs.Drafts.{name_refusal, shape_refusal, constant_refusal, named, ReadsConstant}

abbrev parts_of : Object ℕ → Option (Object ℕ × Object ℕ)
parts_of o = option_and_then name_and_form (elements o)

module _ (w : World) (sy : List QualifiedName) (o : Object ℕ) where
  pub refused_shape : parts_of o ≡ None → constant_refusal w sy o ≡ Some (faults.Expand (faults.BadShape defconst_word))
  refused_shape e = ap (shape_refusal w sy) e

  behind : (c : Object ℕ × Object ℕ) → parts_of o ≡ Some c → constant_refusal w sy o ≡ name_refusal w sy c.0
  behind c e = ap (shape_refusal w sy) e

  pub refused_name : (h : Objects) (c : Object ℕ × Object ℕ) (f : DraftFault) → parts_of o ≡ Some c → RefusedBy h defconst_word (name_refusal w sy c.0) f → RefusedBy h defconst_word (constant_refusal w sy o) f
  refused_name h c f e r = subst (λ x. RefusedBy h defconst_word x f) (sym (behind c e)) r

  pub reads : (h : Objects) (name form : Word) (s : SymId) → parts_of o ≡ Some (object_of h name, object_of h form) → Lies h form → name_refusal w sy (object_of h name) ≡ None → symbol_or_nil (object_of h name) ≡ s.0
      → ReadsConstant w sy o h (record { name = s; form = form })
  reads h name form s e l r n = record {
    right = behind (object_of h name, object_of h form) e ∙ r;
    parts = ap (option_map named) e ∙ ap (λ x. Some (x, object_of h form)) n;
    lies = l;
  }

-- ---- no definition has the name

opened : (w : World) (s : ℕ) → name_in_use w (s ∷ []) ≡ (if is_in_use w [] s then Some (NameInUse s) else name_in_use w [])
unfolding name_in_use
opened w s = refl

undefined : (w : World) (s : ℕ) → name_in_use w (s ∷ []) ≡ None → is_some (worlds.definition w s) ≡ false
undefined w s e = by (is_some (worlds.definition w s)) refl
  where
    by : (b : Bool) → is_some (worlds.definition w s) ≡ b → is_some (worlds.definition w s) ≡ false
    by false f = f
    by true f = let g : name_in_use w (s ∷ []) ≡ Some (NameInUse s) = opened w s ∙ rw f refl in let no : ⊥ = cc in elim no [ ]

got : (h : Objects) (ds : List Definition) (n : ℕ) → n < length ds → is_some (option_map (seen_definition h) (slice_get ds n)) ≡ true
got h [] n l = let no : ⊥ = omega (arith, l) in elim no [ ]
got h (d ∷ ds) zero l = refl
got h (d ∷ ds) (suc n) l = got h ds n (omega (arith, l))

there : (h : Objects) (ds : List Definition) (n x : ℕ) → position (nat_eq x) (names_in ds) ≡ Some n → is_some (option_map (seen_definition h) (slice_get ds n)) ≡ true
there h ds n x e = let p = position-Some (nat_eq x) (names_in ds) n 0 e in got h ds n (subst (λ m. n < m) (length-map ds name_in) p.0)

fresh : (h : Objects) (w : Content) (x : ℕ) → name_in_use (seen_world h w) (x ∷ []) ≡ None → number_of w x ≡ None
fresh h w x e = by (number_of w x) refl
  where
    by : (o : Option ℕ) → number_of w x ≡ o → number_of w x ≡ None
    by None f = f
    by (Some n) f =
        let g : is_some (worlds.definition (seen_world h w) x) ≡ false = undefined (seen_world h w) x e in
        let i : is_some (option_map (seen_definition h) (option_and_then (slice_get w.definitions) (number_of w x))) ≡ false = ap is_some (sym (definition_at h w x)) ∙ g in
        let j : is_some (option_map (seen_definition h) (slice_get w.definitions n)) ≡ false = ap (λ o. is_some (option_map (seen_definition h) (option_and_then (slice_get w.definitions) o))) (sym f) ∙ i in
        let k : is_some (option_map (seen_definition h) (slice_get w.definitions n)) ≡ true = there h w.definitions n x f in
        let no : ⊥ = cc in
        elim no [ ]

unused : (w : World) (sy : List QualifiedName) (o : Object ℕ) → name_refusal w sy o ≡ None → name_in_use w (symbol_or_nil o ∷ []) ≡ None
unused w sy o e = by (bad_constant_name sy o) refl e
  where
    by : (r : Option faults.Refusal) → bad_constant_name sy o ≡ r → option_or r (name_in_use w (symbol_or_nil o ∷ [])) ≡ None → name_in_use w (symbol_or_nil o ∷ []) ≡ None
    by None f g = g
    by (Some r) f g = cc

pub fresh_name : (h : Objects) (w : Content) (sy : List QualifiedName) (o : Object ℕ) (s : SymId) → name_refusal (seen_world h w) sy o ≡ None → symbol_or_nil o ≡ s.0 → number_of w s.0 ≡ None
fresh_name h w sy o s e f = subst (λ x. number_of w x ≡ None) f (fresh h w (symbol_or_nil o) (unused (seen_world h w) sy o e))
