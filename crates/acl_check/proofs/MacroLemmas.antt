-- The formals of macros.
use Rattle.std.specs.Prelude.{◌≡◌, ℕ, ◌+◌, ◌<◌, ◌≤◌, List, [], ◌∷◌, ◌++◌, length, drop, map, Bool, true, false, Option, Some, None, option_to_list, unwrap_or, refl, if◌then◌else◌}
use Rattle.std.specs.List.{list_any}
use Rattle.std.proofs.Common.{sym, ap, ◌∙◌, get_or, append_assoc}
use Rattle.std.proofs.Math.ListN.{drop_of_length-le}
use Rattle.std.proofs.lemmas.List.{append-nil}
use Rattle.acl_heap.specs.Objects.{Objects}
use Rattle.model_terms.specs.declared.rule.Rule.TheVariants.{S15}
use Rattle.model_terms.specs.declared.rule.Mode.TheVariants.{Macro}
use Rattle.model_terms.specs.Cores.{Core}
use Rattle.model_terms.specs.Classes.{is_stobj_name}
use Rattle.model_terms.specs.Worlds as worlds
use Rattle.model_terms.specs.Worlds.{World}
use Rattle.model_terms.specs.Sites.{one_ordinary}
use Rattle.model_terms.specs.Faults as faults
use Rattle.model_terms.specs.Faults.{optional_names, formal_names, macro_fault, first_fault, ordinary_scope, at}
use Rattle.acl_terms.specs.declared.definition.OptionalFormal.{OptionalFormal}
use Rattle.acl_terms.specs.Definitions.{seen_optional}
use Rattle.acl_outputs.proofs.ListLemmas.{left_at}

pub one_put : (found : List ℕ) (x : ℕ) (supplied : Option ℕ) (f : worlds.OptionalFormal) → f.name ≡ x → f.supplied ≡ supplied
    → (found ++ x ∷ []) ++ option_to_list supplied ≡ found ++ optional_names (f ∷ [])
one_put found x supplied f n s =
    append_assoc found (x ∷ []) (option_to_list supplied)
    ∙ (ap (λ (y : ℕ). found ++ y ∷ option_to_list supplied) (sym n) ∙ (ap (λ (o : Option ℕ). found ++ f.name ∷ option_to_list o) (sym s)
    ∙ ap (λ (ys : List ℕ). found ++ f.name ∷ ys) (sym (append-nil (option_to_list f.supplied)))))

more_names : (f : worlds.OptionalFormal) (fs : List worlds.OptionalFormal) → optional_names (f ∷ fs) ≡ optional_names (f ∷ []) ++ optional_names fs
more_names f fs = ap (λ (xs : List ℕ). f.name ∷ (xs ++ optional_names fs)) (sym (append-nil (option_to_list f.supplied)))

module _ (h : Objects) where
  pub names_step : (done : List ℕ) (fs : List OptionalFormal) (i : ℕ) (d : OptionalFormal) → i < length fs
      → done ++ optional_names (map (seen_optional h) (drop i fs)) ≡ (done ++ optional_names (seen_optional h (get_or fs i d) ∷ [])) ++ optional_names (map (seen_optional h) (drop (i + 1) fs))
  names_step done fs i d l =
      ap (λ (xs : List OptionalFormal). done ++ optional_names (map (seen_optional h) xs)) (left_at fs i d l)
      ∙ (ap (λ (ys : List ℕ). done ++ ys) (more_names (seen_optional h (get_or fs i d)) (map (seen_optional h) (drop (i + 1) fs)))
      ∙ sym (append_assoc done (optional_names (seen_optional h (get_or fs i d) ∷ [])) (optional_names (map (seen_optional h) (drop (i + 1) fs)))))

  pub names_end : (done : List ℕ) (fs : List OptionalFormal) (i : ℕ) → length fs ≤ i → done ++ optional_names (map (seen_optional h) (drop i fs)) ≡ done
  names_end done fs i l = ap (λ (xs : List OptionalFormal). done ++ optional_names (map (seen_optional h) xs)) (drop_of_length-le fs l) ∙ append-nil done

all_put : (required optional rest keys : List ℕ) → ((required ++ optional) ++ rest) ++ keys ≡ required ++ (optional ++ (rest ++ keys))
all_put required optional rest keys =
    append_assoc (required ++ optional) rest keys ∙ append_assoc required optional (rest ++ keys)

-- the names by their parts
pub keys_put : (formals : worlds.MacroFormals) (required optional rest ks : List ℕ) (keys : List worlds.OptionalFormal) → required ≡ formals.required → optional ≡ required ++ optional_names formals.optional
    → rest ≡ optional ++ option_to_list formals.rest → ks ≡ rest ++ optional_names keys → formals.keys ≡ Some keys → ks ≡ formal_names formals
keys_put formals required optional rest ks keys a b c d e =
    rw (d, c, b, a) (all_put formals.required (optional_names formals.optional) (option_to_list formals.rest) (optional_names keys)
    ∙ ap (λ (o : Option (List worlds.OptionalFormal)). formals.required ++ (optional_names formals.optional ++ (option_to_list formals.rest ++ optional_names (unwrap_or o [])))) (sym e))

pub no_keys_put : (formals : worlds.MacroFormals) (required optional rest : List ℕ) → required ≡ formals.required → optional ≡ required ++ optional_names formals.optional
    → rest ≡ optional ++ option_to_list formals.rest → formals.keys ≡ None → rest ≡ formal_names formals
no_keys_put formals required optional rest a b c e =
    rw (c, b, a) (sym (append-nil ((formals.required ++ optional_names formals.optional) ++ option_to_list formals.rest)) ∙ (all_put formals.required (optional_names formals.optional) (option_to_list formals.rest) []
    ∙ ap (λ (o : Option (List worlds.OptionalFormal)). formals.required ++ (optional_names formals.optional ++ (option_to_list formals.rest ++ optional_names (unwrap_or o [])))) (sym e)))

-- ---- the first fault

pub formal_there : (w : World) (formals : worlds.MacroFormals) (body : Core) (names : List ℕ) → names ≡ formal_names formals → list_any (is_stobj_name w) names ≡ true
    → macro_fault w formals body ≡ Some (record { rule = S15; place = 0 ∷ [] })
formal_there w formals body names n e =
    ap (λ (b : Bool). if b then Some (record { rule = S15; place = 0 ∷ [] }) else at (0 ∷ 1 ∷ []) (first_fault w Macro (ordinary_scope (formal_names formals)) body one_ordinary))
    (ap (list_any (is_stobj_name w)) (sym n) ∙ e)

pub formal_none : (w : World) (formals : worlds.MacroFormals) (body : Core) (names : List ℕ) → names ≡ formal_names formals → list_any (is_stobj_name w) names ≡ false
    → macro_fault w formals body ≡ at (0 ∷ 1 ∷ []) (first_fault w Macro (ordinary_scope names) body one_ordinary)
formal_none w formals body names n e =
    ap (λ (b : Bool). if b then Some (record { rule = S15; place = 0 ∷ [] }) else at (0 ∷ 1 ∷ []) (first_fault w Macro (ordinary_scope (formal_names formals)) body one_ordinary))
    (ap (list_any (is_stobj_name w)) (sym n) ∙ e)
    ∙ ap (λ (ns : List ℕ). at (0 ∷ 1 ∷ []) (first_fault w Macro (ordinary_scope ns) body one_ordinary)) (sym n)
