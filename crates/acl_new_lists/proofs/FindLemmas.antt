-- What is found in a world, and the fields of what is found.
use Rattle.std.specs.Prelude.{◌≡◌, ℕ, zero, suc, ◌+◌, ◌-◌, ◌<◌, ◌≤◌, List, [], ◌∷◌, length, map, max, drop, Some, None, slice_get, option_map, option_and_then}
use Rattle.std.proofs.Common.{sym, ap, ◌∙◌, subst, arith}
use Rattle.acl_heap.specs.Objects.{Objects}
use Rattle.acl_terms.specs.declared.definition.Definition.{Definition}
use Rattle.acl_terms.specs.declared.stobj.FieldDescriptor.{FieldDescriptor}
use Rattle.acl_terms.specs.Forms.{most}
use Rattle.acl_terms.specs.Definitions.{seen_definition, definition_reach, definitions_reach, shape_reach}
use Rattle.model_terms.specs.Worlds as worlds
use Rattle.acl_worlds.specs.Contents.{Content, seen_world, number_of}
use Rattle.acl_worlds.proofs.WorldLemmas.{definition_at}
use Rattle.acl_new_lists.specs.Begun.{FieldsLie}

pub lies_at : (ds : List Definition) (n : ℕ) (d : Definition) → slice_get ds n ≡ Some d → definition_reach d ≤ definitions_reach ds
lies_at [] n d e = cc
lies_at (x ∷ ds) zero d e = let q : x ≡ d = cc in subst (λ y. definition_reach y ≤ max (definition_reach x) (definitions_reach ds)) q (omega arith)
lies_at (x ∷ ds) (suc n) d e = let l : definition_reach d ≤ definitions_reach ds = lies_at ds n d e in omega (arith, l)

pub found_none : (h : Objects) (w : Content) (x : ℕ) → None ≡ number_of w x → None ≡ worlds.definition (seen_world h w) x
found_none h w x e = sym (definition_at h w x ∙ ap (λ o. option_map (seen_definition h) (option_and_then (slice_get w.definitions) o)) (sym e))

pub found_some : (h : Objects) (w : Content) (x n : ℕ) (d : Definition) → Some n ≡ number_of w x → slice_get w.definitions n ≡ Some d → Some (seen_definition h d) ≡ worlds.definition (seen_world h w) x
found_some h w x n d e g =
    sym (definition_at h w x ∙ (ap (λ o. option_map (seen_definition h) (option_and_then (slice_get w.definitions) o)) (sym e)
    ∙ ap (λ o. option_map (seen_definition h) o) g))

drop_at : {X : Type 0} (k : ℕ) (xs : List X) (x : X) → slice_get xs k ≡ Some x → drop k xs ≡ x ∷ drop (suc k) xs
drop_at k [] x e = cc
drop_at zero (y ∷ xs) x e = let q : y ≡ x = cc in ap (λ z. z ∷ xs) q
drop_at (suc k) (y ∷ xs) x e = drop_at k xs x e

pub one_before : (fs : List FieldDescriptor) (done k : ℕ) (f : FieldDescriptor) → done < length fs → k ≡ length fs - 1 - done → slice_get fs k ≡ Some f
    → drop (length fs - (done + 1)) fs ≡ f ∷ drop (length fs - done) fs
one_before fs done k f l i e =
    let a : length fs - (done + 1) ≡ k = omega (arith, l, i) in
    let b : suc k ≡ length fs - done = omega (arith, l, i) in
    ap (λ n. drop n fs) a ∙ (drop_at k fs f e ∙ ap (λ n. f ∷ drop n fs) b)

field_at_lies : (fs : List FieldDescriptor) (k : ℕ) (f : FieldDescriptor) → slice_get fs k ≡ Some f → shape_reach f.shape ≤ most (map (λ (g : FieldDescriptor). shape_reach g.shape) fs)
field_at_lies [] k f e = cc
field_at_lies (g ∷ fs) zero f e =
    let q : g ≡ f = cc in subst (λ (y : FieldDescriptor). shape_reach y.shape ≤ max (shape_reach g.shape) (most (map (λ (g : FieldDescriptor). shape_reach g.shape) fs))) q (omega arith)
field_at_lies (g ∷ fs) (suc k) f e = let l = field_at_lies fs k f e in omega (arith, l)

pub field_lies : (h : Objects) (fs : List FieldDescriptor) (k : ℕ) (f : FieldDescriptor) → FieldsLie h fs → slice_get fs k ≡ Some f → shape_reach f.shape ≤ length h
field_lies h fs k f l e = let m = field_at_lies fs k f e in omega (arith, l, m)
