-- What is wrong with a ready form, one variant at a time.
use Rattle.std.specs.Prelude.{◌≡◌, ℕ, zero, suc, ◌-◌, ◌<◌, ◌≤◌, ◌+◌, drop, get_or, List, [], ◌∷◌, length, Option, Some, None, refl}
use Rattle.std.specs.Option.{option_or}
use Rattle.std.proofs.Common.{ap, sym, ◌∙◌, arith, add-one, drop-cons}
use Rattle.std.proofs.Math.ListN.{drop_of_length-le}
use Rattle.acl_base.specs.declared.SymId.{SymId}
use Rattle.acl_base.specs.declared.Word.{Word}
use Rattle.acl_heap.specs.Objects.{Objects}
use Rattle.model_terms.specs.Cores as cores
use Rattle.model_terms.specs.Worlds.{definition}
use Rattle.model_expansion.specs.Faults as faults
use Rattle.model_expansion.specs.Expansion.{Setting, ready_fault, ready_faults, if_room, head_fault, arity_of}
use Rattle.acl_terms.specs.declared.form.Core.{Core}
use Rattle.acl_terms.specs.declared.form.Core.TheViews as views
use Rattle.acl_terms.specs.declared.form.Core.TheVariants as variants
use Rattle.acl_terms.specs.Forms.{seen_core, seen_cores, seen_bound}
use Rattle.acl_terms.specs.FormLaws.{seen_var, seen_const, seen_if, seen_let, seen_mv, seen_mv_let, seen_stobj_let, seen_with_local, seen_must_be_equal, seen_call}

room : (left : ℕ) (e : Option faults.ExpandFault) (x : Setting) → 0 < left → if_room x left e ≡ e
room zero e x l = absurd (omega (arith, l))
room (suc left) e x l = refl

pub no_room : (x : Setting) (c : cores.Core) → ready_fault x c 0 ≡ Some faults.TooNested
no_room x (cores.Var v) = refl
no_room x (cores.Const o) = refl
no_room x (cores.If a b c) = refl
no_room x (cores.Let names forms body) = refl
no_room x (cores.Mv fs) = refl
no_room x (cores.MvLet names form body) = refl
no_room x (cores.StobjLet names forms vars p c) = refl
no_room x (cores.WithLocal s names p b) = refl
no_room x (cores.MustBeEqual a b) = refl
no_room x (cores.Call f fs) = refl

count_of : (h : Objects) (fs : List Core) → cores.count (cores.cores (seen_cores h fs)) ≡ length fs
count_of h [] = refl
count_of h (f ∷ fs) = let k : cores.count (cores.cores (seen_cores h fs)) ≡ length fs = count_of h fs in omega (arith, k)

module _ (x : Setting) (h : Objects) (left : ℕ) (l : 0 < left) where
  pub fault_var : (v : SymId) → ready_fault x (seen_core h (variants.Var v)) left ≡ None
  fault_var v = ap (λ c. ready_fault x c left) (seen_var h v) ∙ room left None x l

  pub fault_const : (w : Word) → ready_fault x (seen_core h (variants.Const w)) left ≡ None
  fault_const w = ap (λ c. ready_fault x c left) (seen_const h w) ∙ room left None x l

  pub fault_if : (a b c : Core) → ready_fault x (seen_core h (views.If a b c)) left
      ≡ option_or (ready_fault x (seen_core h a) (left - 1)) (option_or (ready_fault x (seen_core h b) (left - 1)) (ready_fault x (seen_core h c) (left - 1)))
  fault_if a b c = ap (λ c. ready_fault x c left) (seen_if h a b c) ∙ room left _ x l

  pub fault_mv : (fs : List Core) → ready_fault x (seen_core h (views.Mv fs)) left ≡ ready_faults x (cores.cores (seen_cores h fs)) (left - 1)
  fault_mv fs = ap (λ c. ready_fault x c left) (seen_mv h fs) ∙ room left _ x l

  pub fault_let : (bs : List (SymId × Core)) (b : Core) → ready_fault x (seen_core h (views.Let bs b)) left
      ≡ option_or (ready_faults x (cores.cores (seen_bound h bs)) (left - 1)) (ready_fault x (seen_core h b) (left - 1))
  fault_let bs b = ap (λ c. ready_fault x c left) (seen_let h bs b) ∙ room left _ x l

  pub fault_mv_let : (names : List SymId) (a b : Core) → ready_fault x (seen_core h (views.MvLet names a b)) left
      ≡ option_or (ready_fault x (seen_core h a) (left - 1)) (ready_fault x (seen_core h b) (left - 1))
  fault_mv_let names a b = ap (λ c. ready_fault x c left) (seen_mv_let h names a b) ∙ room left _ x l

  pub fault_stobj_let : (bs : List (SymId × Core)) (vars : List SymId) (p c : Core) → ready_fault x (seen_core h (views.StobjLet bs vars p c)) left
      ≡ option_or (ready_faults x (cores.cores (seen_bound h bs)) (left - 1)) (option_or (ready_fault x (seen_core h p) (left - 1)) (ready_fault x (seen_core h c) (left - 1)))
  fault_stobj_let bs vars p c = ap (λ c. ready_fault x c left) (seen_stobj_let h bs vars p c) ∙ room left _ x l

  pub fault_local : (s : SymId) (names : List SymId) (a b : Core) → ready_fault x (seen_core h (views.WithLocal s names a b)) left
      ≡ option_or (ready_fault x (seen_core h a) (left - 1)) (ready_fault x (seen_core h b) (left - 1))
  fault_local s names a b = ap (λ c. ready_fault x c left) (seen_with_local h s names a b) ∙ room left _ x l

  pub fault_equal : (a b : Core) → ready_fault x (seen_core h (views.MustBeEqual a b)) left
      ≡ option_or (ready_fault x (seen_core h a) (left - 1)) (ready_fault x (seen_core h b) (left - 1))
  fault_equal a b = ap (λ c. ready_fault x c left) (seen_must_be_equal h a b) ∙ room left _ x l

  pub fault_call : (f : SymId) (fs : List Core) → ready_fault x (seen_core h (views.Call f fs)) left
      ≡ option_or (head_fault x f.0 (length fs) (arity_of (definition x.world f.0))) (ready_faults x (cores.cores (seen_cores h fs)) (left - 1))
  fault_call f fs =
      ap (λ c. ready_fault x c left) (seen_call h f fs) ∙ (room left _ x l
      ∙ ap (λ n. option_or (head_fault x f.0 n (arity_of (definition x.world f.0))) (ready_faults x (cores.cores (seen_cores h fs)) (left - 1))) (count_of h fs))

  -- ---- a fault of what is bound, and none

  pub let_fails : (f : Core) (bs : List (SymId × Core)) (b : Core) (e : faults.ExpandFault) → f ≡ views.Let bs b → Some e ≡ ready_faults x (cores.cores (seen_bound h bs)) (left - 1) → Some e ≡ ready_fault x (seen_core h f) left
  let_fails f bs b e s k = rw (s, fault_let bs b, sym k) refl

  pub let_goes : (f : Core) (bs : List (SymId × Core)) (b : Core) (r : Option faults.ExpandFault) → f ≡ views.Let bs b → None ≡ ready_faults x (cores.cores (seen_bound h bs)) (left - 1)
      → r ≡ ready_fault x (seen_core h b) (left - 1) → r ≡ ready_fault x (seen_core h f) left
  let_goes f bs b r s k j = rw (s, fault_let bs b, sym k) j

  pub stobj_let_fails : (f : Core) (bs : List (SymId × Core)) (vars : List SymId) (p c : Core) (e : faults.ExpandFault) → f ≡ views.StobjLet bs vars p c → Some e ≡ ready_faults x (cores.cores (seen_bound h bs)) (left - 1)
      → Some e ≡ ready_fault x (seen_core h f) left
  stobj_let_fails f bs vars p c e s k = rw (s, fault_stobj_let bs vars p c, sym k) refl

  pub stobj_let_goes : (f : Core) (bs : List (SymId × Core)) (vars : List SymId) (p c : Core) (r : Option faults.ExpandFault) → f ≡ views.StobjLet bs vars p c → None ≡ ready_faults x (cores.cores (seen_bound h bs)) (left - 1)
      → r ≡ option_or (ready_fault x (seen_core h p) (left - 1)) (ready_fault x (seen_core h c) (left - 1)) → r ≡ ready_fault x (seen_core h f) left
  stobj_let_goes f bs vars p c r s k j = rw (s, fault_stobj_let bs vars p c, sym k) j

  pub call_ends : (f : Core) (name : SymId) (fs : List Core) (r : Option faults.ExpandFault) → f ≡ views.Call name fs
      → r ≡ option_or (head_fault x name.0 (length fs) (arity_of (definition x.world name.0))) (ready_faults x (cores.cores (seen_cores h fs)) (left - 1)) → r ≡ ready_fault x (seen_core h f) left
  call_ends f name fs r s j = rw (s, fault_call name fs) j

-- ---- forms in a row

module _ (x : Setting) (h : Objects) (left : ℕ) where
  pub parts_at : (fs : List Core) (i : ℕ) (d : Core) → i < length fs
      → ready_faults x (cores.cores (seen_cores h (drop i fs))) left
      ≡ option_or (ready_fault x (seen_core h (get_or fs i d)) left) (ready_faults x (cores.cores (seen_cores h (drop (i + 1) fs))) left)
  parts_at fs i d l = rw (add-one i, drop-cons fs i d l) refl

  pub parts_past : (fs : List Core) (i : ℕ) → length fs ≤ i → ready_faults x (cores.cores (seen_cores h (drop i fs))) left ≡ None
  parts_past fs i l = rw (drop_of_length-le fs l) refl

  pub bound_at : (fs : List (SymId × Core)) (i : ℕ) (d : SymId × Core) → i < length fs
      → ready_faults x (cores.cores (seen_bound h (drop i fs))) left
      ≡ option_or (ready_fault x (seen_core h (get_or fs i d).1) left) (ready_faults x (cores.cores (seen_bound h (drop (i + 1) fs))) left)
  bound_at fs i d l = rw (add-one i, drop-cons fs i d l) refl

  pub bound_past : (fs : List (SymId × Core)) (i : ℕ) → length fs ≤ i → ready_faults x (cores.cores (seen_bound h (drop i fs))) left ≡ None
  bound_past fs i l = rw (drop_of_length-le fs l) refl

  pub part_fails : (fs : List Core) (i : ℕ) (d g : Core) (e : faults.ExpandFault) → i < length fs → g ≡ get_or fs i d → Some e ≡ ready_fault x (seen_core h g) left
      → ready_faults x (cores.cores (seen_cores h (drop i fs))) left ≡ Some e
  part_fails fs i d g e l s k = parts_at fs i d l ∙ rw (sym s, sym k) refl

  pub part_goes : (fs : List Core) (i : ℕ) (d g : Core) → i < length fs → g ≡ get_or fs i d → None ≡ ready_fault x (seen_core h g) left
      → ready_faults x (cores.cores (seen_cores h (drop i fs))) left ≡ ready_faults x (cores.cores (seen_cores h (drop (i + 1) fs))) left
  part_goes fs i d g l s k = parts_at fs i d l ∙ rw (sym s, sym k) refl

  pub binding_fails : (fs : List (SymId × Core)) (i : ℕ) (d g : SymId × Core) (e : faults.ExpandFault) → i < length fs → g ≡ get_or fs i d → Some e ≡ ready_fault x (seen_core h g.1) left
      → ready_faults x (cores.cores (seen_bound h (drop i fs))) left ≡ Some e
  binding_fails fs i d g e l s k = bound_at fs i d l ∙ rw (sym s, sym k) refl

  pub binding_goes : (fs : List (SymId × Core)) (i : ℕ) (d g : SymId × Core) → i < length fs → g ≡ get_or fs i d → None ≡ ready_fault x (seen_core h g.1) left
      → ready_faults x (cores.cores (seen_bound h (drop i fs))) left ≡ ready_faults x (cores.cores (seen_bound h (drop (i + 1) fs))) left
  binding_goes fs i d g l s k = bound_at fs i d l ∙ rw (sym s, sym k) refl
