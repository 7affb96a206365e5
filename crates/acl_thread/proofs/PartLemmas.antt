-- Kinds at a place, and steps of the loops over names, parts and actuals.
use Rattle.std.specs.Prelude.{◌≡◌, ℕ, zero, suc, ◌+◌, ◌<◌, ◌≤◌, List, [], ◌∷◌, ◌++◌, length, drop, map, Bool, true, false, ◌||◌, not, nat_eq, Option, Some, None, option_to_list, refl}
use Rattle.std.specs.List.{list_any, cons_option}
use Rattle.std.proofs.Common.{sym, ap, ◌∙◌, arith, get_or, append_assoc}
use Rattle.std.proofs.Math.ListN.{drop_of_length-le}
use Rattle.std.proofs.Math.Seq.{drop-nil}
use Rattle.std.proofs.lemmas.List.{append-nil}
use Rattle.acl_base.specs.declared.SymId.{SymId}
use Rattle.acl_heap.specs.Objects.{Objects}
use Rattle.model_terms.specs.Cores as cores
use Rattle.model_terms.specs.Cores.{variable}
use Rattle.model_terms.specs.Worlds as worlds
use Rattle.model_terms.specs.Classes.{is_stobj_name}
use Rattle.model_terms.specs.Sites.{first_kind, other_kinds}
use Rattle.model_terms.specs.Classes.{repeats, stobjs}
use Rattle.model_terms.specs.Rules.{is_wrong_part, any_wrong_part, mv_fails}
use Rattle.acl_terms.specs.declared.form.Core.{Core}
use Rattle.acl_terms.specs.declared.signature.Out.{Out}
use Rattle.acl_terms.specs.Forms.{numbers, seen_core, seen_cores}
use Rattle.acl_terms.specs.Signatures.{seen_out, seen_outs}
use Rattle.acl_outputs.proofs.ListLemmas.{left_at}
use Rattle.acl_thread.proofs.SizeLemmas.{length_seen}
use Rattle.acl_thread.specs.Own.{object_variable, object_variables}

pub kind_there : (ks : List Out) (i : ℕ) (d : Out) → i < length ks → first_kind (seen_outs (drop i ks)) ≡ seen_out (get_or ks i d)
kind_there ks i d l = ap (λ xs. first_kind (seen_outs xs)) (left_at ks i d l)

pub kind_past : (ks : List Out) (i : ℕ) → length ks ≤ i → first_kind (seen_outs (drop i ks)) ≡ worlds.Ordinary
kind_past ks i l = ap (λ xs. first_kind (seen_outs xs)) (drop_of_length-le ks l)

pub others_on : (ks : List Out) (i : ℕ) → other_kinds (seen_outs (drop i ks)) ≡ seen_outs (drop (i + 1) ks)
others_on [] i = rw (drop-nil {A = Out} i, drop-nil {A = Out} (i + 1)) refl
others_on (k ∷ ks) zero = refl
others_on (k ∷ ks) (suc i) = let e : suc i + 1 ≡ suc (i + 1) = omega arith in rw e (others_on ks i)

-- ---- names

pub any_step : (w : worlds.World) (ns : List SymId) (i : ℕ) (d : SymId) → i < length ns
    → list_any (is_stobj_name w) (numbers (drop i ns)) ≡ (is_stobj_name w (get_or ns i d).0 || list_any (is_stobj_name w) (numbers (drop (i + 1) ns)))
any_step w ns i d l = rw (left_at ns i d l) refl

pub any_end : (w : worlds.World) (ns : List SymId) (i : ℕ) → length ns ≤ i → list_any (is_stobj_name w) (numbers (drop i ns)) ≡ false
any_end w ns i l = rw (drop_of_length-le ns l) refl

-- ---- parts

module _ (h : Objects) where
  abbrev left : List Core → ℕ → cores.Cores
  left fs i = cores.cores (seen_cores h (drop i fs))

  pub wrong_step : (ks : List Out) (fs : List Core) (i : ℕ) (d : Core) → i < length fs
      → any_wrong_part (seen_outs (drop i ks)) (cores.cores (seen_cores h (drop i fs)))
      ≡ (is_wrong_part (first_kind (seen_outs (drop i ks))) (seen_core h (get_or fs i d)) || any_wrong_part (seen_outs (drop (i + 1) ks)) (cores.cores (seen_cores h (drop (i + 1) fs))))
  wrong_step ks fs i d l =
      ap (λ xs. any_wrong_part (seen_outs (drop i ks)) (cores.cores (seen_cores h xs))) (left_at fs i d l)
      ∙ ap (λ rest. is_wrong_part (first_kind (seen_outs (drop i ks))) (seen_core h (get_or fs i d)) || any_wrong_part rest (left fs (i + 1))) (others_on ks i)

  pub wrong_end : (ks : List worlds.Out) (fs : List Core) (i : ℕ) → length fs ≤ i → any_wrong_part ks (cores.cores (seen_cores h (drop i fs))) ≡ false
  wrong_end ks fs i l = ap (λ xs. any_wrong_part ks (cores.cores (seen_cores h xs))) (drop_of_length-le fs l)

  put_option : (v : Option ℕ) (rest : List ℕ) → cons_option v rest ≡ option_to_list v ++ rest
  put_option None rest = refl
  put_option (Some x) rest = refl

  variables_more : (ks : List worlds.Out) (f : cores.Core) (fs : cores.Cores) → object_variables ks (cores.more f fs) ≡ object_variable (first_kind ks) f ++ object_variables (other_kinds ks) fs
  variables_more [] f fs = refl
  variables_more (worlds.Ordinary ∷ ks) f fs = refl
  variables_more (worlds.Stobj x ∷ ks) f fs = put_option (variable f) (object_variables ks fs)

  pub variables_step : (done : List ℕ) (ks : List Out) (fs : List Core) (i : ℕ) (d : Core) → i < length fs
      → done ++ object_variables (seen_outs (drop i ks)) (cores.cores (seen_cores h (drop i fs)))
      ≡ (done ++ object_variable (first_kind (seen_outs (drop i ks))) (seen_core h (get_or fs i d))) ++ object_variables (seen_outs (drop (i + 1) ks)) (cores.cores (seen_cores h (drop (i + 1) fs)))
  variables_step done ks fs i d l =
      ap (λ xs. done ++ object_variables (seen_outs (drop i ks)) (cores.cores (seen_cores h xs))) (left_at fs i d l)
      ∙ (ap (λ xs. done ++ xs) (variables_more (seen_outs (drop i ks)) (seen_core h (get_or fs i d)) (left fs (i + 1)))
      ∙ (ap (λ rest. done ++ (object_variable (first_kind (seen_outs (drop i ks))) (seen_core h (get_or fs i d)) ++ object_variables rest (left fs (i + 1)))) (others_on ks i)
      ∙ sym (append_assoc done (object_variable (first_kind (seen_outs (drop i ks))) (seen_core h (get_or fs i d))) (object_variables (seen_outs (drop (i + 1) ks)) (left fs (i + 1))))))

  no_variables : (ks : List worlds.Out) → object_variables ks cores.none ≡ []
  no_variables [] = refl
  no_variables (k ∷ ks) = refl

  pub variables_end : (done : List ℕ) (ks : List worlds.Out) (fs : List Core) (i : ℕ) → length fs ≤ i → done ++ object_variables ks (cores.cores (seen_cores h (drop i fs))) ≡ done
  variables_end done ks fs i l =
      ap (λ xs. done ++ object_variables ks (cores.cores (seen_cores h xs))) (drop_of_length-le fs l) ∙ (ap (λ xs. done ++ xs) (no_variables ks) ∙ append-nil done)

  pub wrong_next : (ks : List Out) (fs : List Core) (i : ℕ) (e : Core) (kind : worlds.Out) (all b : Bool)
      → all ≡ any_wrong_part (seen_outs (drop i ks)) (cores.cores (seen_cores h (drop i fs))) → i < length fs → e ≡ get_or fs i e → kind ≡ first_kind (seen_outs (drop i ks))
      → b ≡ is_wrong_part kind (seen_core h e) → b ≡ false → all ≡ any_wrong_part (seen_outs (drop (i + 1) ks)) (cores.cores (seen_cores h (drop (i + 1) fs)))
  wrong_next ks fs i e kind all b s l at k w n =
      s ∙ (wrong_step ks fs i e l ∙ ap (λ t. t || any_wrong_part (seen_outs (drop (i + 1) ks)) (left fs (i + 1)))
      (ap (λ x. is_wrong_part (first_kind (seen_outs (drop i ks))) (seen_core h x)) (sym at) ∙ (ap (λ t. is_wrong_part t (seen_core h e)) (sym k) ∙ (sym w ∙ n))))

  pub variables_next : (ks : List Out) (fs : List Core) (i : ℕ) (e : Core) (kind : worlds.Out) (all done next : List ℕ)
      → all ≡ done ++ object_variables (seen_outs (drop i ks)) (cores.cores (seen_cores h (drop i fs))) → i < length fs → e ≡ get_or fs i e → kind ≡ first_kind (seen_outs (drop i ks))
      → next ≡ done ++ object_variable kind (seen_core h e) → all ≡ next ++ object_variables (seen_outs (drop (i + 1) ks)) (cores.cores (seen_cores h (drop (i + 1) fs)))
  variables_next ks fs i e kind all done next s l at k n =
      s ∙ (variables_step done ks fs i e l ∙ ap (λ xs. xs ++ object_variables (seen_outs (drop (i + 1) ks)) (left fs (i + 1)))
      (ap (λ x. done ++ object_variable (first_kind (seen_outs (drop i ks))) (seen_core h x)) (sym at) ∙ (ap (λ t. done ++ object_variable t (seen_core h e)) (sym k) ∙ sym n)))

  pub variables_last : (ks : List worlds.Out) (fs : List Core) (i : ℕ) (all done : List ℕ) → all ≡ done ++ object_variables ks (cores.cores (seen_cores h (drop i fs))) → length fs ≤ i → all ≡ done
  variables_last ks fs i all done s l = s ∙ variables_end done ks fs i l

  length_outs : (ks : List Out) → length (seen_outs ks) ≡ length ks
  length_outs [] = refl
  length_outs (k ∷ ks) = ap suc (length_outs ks)

  pub mv_is : (ks : List Out) (fs : List Core) → mv_fails (seen_outs ks) (cores.cores (seen_cores h fs))
      ≡ (not (nat_eq (length fs) (length ks)) || (any_wrong_part (seen_outs ks) (cores.cores (seen_cores h fs)) || repeats (stobjs (seen_outs ks))))
  mv_is ks fs = rw (length_seen h fs, length_outs ks) refl
