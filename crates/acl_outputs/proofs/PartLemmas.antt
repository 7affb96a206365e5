-- What the parts of a form are, and the steps of the loops over them.
use Rattle.std.specs.Prelude.{◌≡◌, ℕ, ◌+◌, ◌<◌, ◌≤◌, List, [], ◌∷◌, ◌++◌, length, drop, true, false, Option, Some, None, nat_eq, option_map, option_and_then, refl}
use Rattle.std.specs.Option.{option_map_or}
use Rattle.std.specs.Map.{lookup}
use Rattle.std.proofs.Common.{sym, ap, ◌∙◌, get_or, append_assoc}
use Rattle.std.proofs.Math.ListN.{drop_of_length-le}
use Rattle.std.proofs.lemmas.List.{append-nil}
use Rattle.acl_base.specs.declared.SymId.{SymId}
use Rattle.acl_base.specs.declared.Word.{Word}
use Rattle.acl_heap.specs.Objects.{Objects}
use Rattle.model_terms.specs.Cores as cores
use Rattle.model_terms.specs.Cores.{variable}
use Rattle.model_terms.specs.Worlds as worlds
use Rattle.model_terms.specs.Scopes.{kind_of}
use Rattle.model_terms.specs.Outputs.{stobj_actuals, all_there, part_kinds}
use Rattle.acl_terms.specs.declared.form.Core.{Core}
use Rattle.acl_terms.specs.declared.form.Core.TheViews as views
use Rattle.acl_terms.specs.declared.form.Core.TheVariants as variants
use Rattle.acl_terms.specs.declared.signature.Out.{Out}
use Rattle.acl_terms.specs.declared.signature.Signature.{Signature}
use Rattle.acl_terms.specs.Forms.{seen_core, seen_cores}
use Rattle.acl_terms.specs.FormLaws.{seen_var, seen_const, seen_if, seen_let, seen_mv, seen_mv_let, seen_stobj_let, seen_with_local, seen_must_be_equal, seen_call}
use Rattle.acl_terms.specs.Signatures.{seen_out, seen_outs, seen_signature}
use Rattle.acl_outputs.specs.Known.{seen_known, joined}
use Rattle.acl_outputs.proofs.ListLemmas.{left_at}

module _ (h : Objects) where
  pub variable_var : (x : SymId) → variable (seen_core h (variants.Var x)) ≡ Some x.0
  variable_var x = ap variable (seen_var h x)

  pub variable_const : (w : Word) → variable (seen_core h (variants.Const w)) ≡ None
  variable_const w = ap variable (seen_const h w)

  pub variable_if : (a b c : Core) → variable (seen_core h (views.If a b c)) ≡ None
  variable_if a b c = ap variable (seen_if h a b c)

  pub variable_let : (bs : List (SymId × Core)) (b : Core) → variable (seen_core h (views.Let bs b)) ≡ None
  variable_let bs b = ap variable (seen_let h bs b)

  pub variable_mv : (parts : List Core) → variable (seen_core h (views.Mv parts)) ≡ None
  variable_mv parts = ap variable (seen_mv h parts)

  pub variable_mv_let : (names : List SymId) (a b : Core) → variable (seen_core h (views.MvLet names a b)) ≡ None
  variable_mv_let names a b = ap variable (seen_mv_let h names a b)

  pub variable_stobj_let : (bs : List (SymId × Core)) (vars : List SymId) (p c : Core) → variable (seen_core h (views.StobjLet bs vars p c)) ≡ None
  variable_stobj_let bs vars p c = ap variable (seen_stobj_let h bs vars p c)

  pub variable_with_local : (stobj : SymId) (names : List SymId) (a b : Core) → variable (seen_core h (views.WithLocal stobj names a b)) ≡ None
  variable_with_local stobj names a b = ap variable (seen_with_local h stobj names a b)

  pub variable_must_be_equal : (a b : Core) → variable (seen_core h (views.MustBeEqual a b)) ≡ None
  variable_must_be_equal a b = ap variable (seen_must_be_equal h a b)

  pub variable_call : (f : SymId) (parts : List Core) → variable (seen_core h (views.Call f parts)) ≡ None
  variable_call f parts = ap variable (seen_call h f parts)

-- ---- actuals

pub there_ordinary : (found : List ℕ) (f : cores.Core) → joined found (all_there (stobj_actuals (worlds.Ordinary ∷ []) (cores.more f cores.none))) ≡ Some found
there_ordinary found f = ap Some (append-nil found)

pub there_some : (found : List ℕ) (o : ℕ) (f : cores.Core) (x : ℕ) → variable f ≡ Some x → joined found (all_there (stobj_actuals (worlds.Stobj o ∷ []) (cores.more f cores.none))) ≡ Some (found ++ x ∷ [])
there_some found o f x h = rw h refl

pub there_none : (found : List ℕ) (o : ℕ) (f : cores.Core) → variable f ≡ None → joined found (all_there (stobj_actuals (worlds.Stobj o ∷ []) (cores.more f cores.none))) ≡ None
there_none found o f h = rw h refl

joined_on : (found : List ℕ) (x : ℕ) (rest : Option (List ℕ)) → joined found (option_map (λ xs. x ∷ xs) rest) ≡ joined (found ++ x ∷ []) rest
joined_on found x None = refl
joined_on found x (Some xs) = ap Some (sym (append_assoc found (x ∷ []) xs))

joined_after : (found : List ℕ) (ins : List worlds.Out) (parts : cores.Cores) (v : Option ℕ)
    → joined found (all_there (v ∷ stobj_actuals ins parts)) ≡ option_and_then (λ gs. joined gs (all_there (stobj_actuals ins parts))) (joined found (all_there (v ∷ [])))
joined_after found ins parts None = refl
joined_after found ins parts (Some x) = joined_on found x (all_there (stobj_actuals ins parts))

one_on : (found : List ℕ) (k : worlds.Out) (ins : List worlds.Out) (f : cores.Core) (parts : cores.Cores)
    → joined found (all_there (stobj_actuals (k ∷ ins) (cores.more f parts)))
    ≡ option_and_then (λ gs. joined gs (all_there (stobj_actuals ins parts))) (joined found (all_there (stobj_actuals (k ∷ []) (cores.more f cores.none))))
one_on found worlds.Ordinary ins f parts = ap (λ gs. joined gs (all_there (stobj_actuals ins parts))) (sym (append-nil found))
one_on found (worlds.Stobj o) ins f parts = joined_after found ins parts (variable f)

-- what is found once i are gone through, and what is left
pub record ActualsSoFar (all : Option (List ℕ)) (h : Objects) (ins : List Out) (parts : List Core) (i : ℕ) (found : List ℕ) : Type 0 where
  pub is : all ≡ joined found (all_there (stobj_actuals (seen_outs (drop i ins)) (cores.cores (seen_cores h (drop i parts)))))

joined_nothing : (o : Option (List ℕ)) → o ≡ joined [] o
joined_nothing None = refl
joined_nothing (Some xs) = refl

module _ (h : Objects) (ins : List Out) (parts : List Core) where
  abbrev whole : Option (List ℕ)
  whole = all_there (stobj_actuals (seen_outs ins) (cores.cores (seen_cores h parts)))

  pub actuals_start : ActualsSoFar (all_there (stobj_actuals (seen_outs ins) (cores.cores (seen_cores h parts)))) h ins parts 0 []
  actuals_start = record { is = joined_nothing whole }

  module _ (all : Option (List ℕ)) (i : ℕ) (found : List ℕ) (s : ActualsSoFar all h ins parts i found) where
    pub actuals_end : length ins ≤ i → all ≡ Some found
    actuals_end l = s.is ∙ rw (drop_of_length-le ins l) (ap Some (append-nil found))

    no_parts : (ks : List worlds.Out) → stobj_actuals ks cores.none ≡ []
    no_parts [] = refl
    no_parts (k ∷ ks) = refl

    pub actuals_past : length parts ≤ i → all ≡ Some found
    actuals_past l =
        s.is ∙ (ap (λ ps. joined found (all_there (stobj_actuals (seen_outs (drop i ins)) (cores.cores (seen_cores h ps))))) (drop_of_length-le parts l)
        ∙ (ap (λ vs. joined found (all_there vs)) (no_parts (seen_outs (drop i ins))) ∙ ap Some (append-nil found)))

    abbrev next : Out → Core → Option (List ℕ)
    next d e = joined found (all_there (stobj_actuals (seen_out (get_or ins i d) ∷ []) (cores.more (seen_core h e) cores.none)))

    -- what is left after item i
    abbrev rest : List ℕ → Option (List ℕ)
    rest gs = joined gs (all_there (stobj_actuals (seen_outs (drop (i + 1) ins)) (cores.cores (seen_cores h (drop (i + 1) parts)))))

    on : (d : Out) (e : Core) → i < length ins → i < length parts → e ≡ get_or parts i e → all ≡ option_and_then rest (next d e)
    on d e l m at =
        s.is ∙ (ap (λ ks. joined found (all_there (stobj_actuals (seen_outs ks) (cores.cores (seen_cores h (drop i parts)))))) (left_at ins i d l)
        ∙ (ap (λ ps. joined found (all_there (stobj_actuals (seen_outs (get_or ins i d ∷ drop (i + 1) ins)) (cores.cores (seen_cores h ps))))) (left_at parts i e m)
        ∙ (one_on found (seen_out (get_or ins i d)) (seen_outs (drop (i + 1) ins)) (seen_core h (get_or parts i e)) (cores.cores (seen_cores h (drop (i + 1) parts)))
        ∙ ap (λ x. option_and_then rest (next d x)) (sym at))))

    pub actuals_step : (d : Out) (e : Core) (gs : List ℕ) → i < length ins → i < length parts → e ≡ get_or parts i e
        → Some gs ≡ joined found (all_there (stobj_actuals (seen_out (get_or ins i d) ∷ []) (cores.more (seen_core h e) cores.none))) → ActualsSoFar all h ins parts (i + 1) gs
    actuals_step d e gs l m at n = record { is = on d e l m at ∙ ap (option_and_then rest) (sym n) }

    pub actuals_none : (d : Out) (e : Core) → i < length ins → i < length parts → e ≡ get_or parts i e
        → None ≡ joined found (all_there (stobj_actuals (seen_out (get_or ins i d) ∷ []) (cores.more (seen_core h e) cores.none))) → all ≡ None
    actuals_none d e l m at n = on d e l m at ∙ ap (option_and_then rest) (sym n)

-- ---- the parts of an `MV`

module _ (h : Objects) (scope : worlds.Scope) where
  pub kinds_step : (done : List worlds.Out) (parts : List Core) (i : ℕ) (d : Core) → i < length parts
      → done ++ part_kinds scope (cores.cores (seen_cores h (drop i parts)))
      ≡ (done ++ option_map_or (kind_of scope) (variable (seen_core h (get_or parts i d))) worlds.Ordinary ∷ []) ++ part_kinds scope (cores.cores (seen_cores h (drop (i + 1) parts)))
  kinds_step done parts i d l =
      ap (λ ps. done ++ part_kinds scope (cores.cores (seen_cores h ps))) (left_at parts i d l)
      ∙ sym (append_assoc done (option_map_or (kind_of scope) (variable (seen_core h (get_or parts i d))) worlds.Ordinary ∷ []) (part_kinds scope (cores.cores (seen_cores h (drop (i + 1) parts)))))

  pub kinds_end : (done : List worlds.Out) (parts : List Core) (i : ℕ) → length parts ≤ i → done ++ part_kinds scope (cores.cores (seen_cores h (drop i parts))) ≡ done
  kinds_end done parts i l = rw (drop_of_length-le parts l) (append-nil done)

-- ---- signatures that are known

pub known_here : (known : List (SymId × Signature)) (i x : ℕ) (d : SymId × Signature) → i < length known → nat_eq x (get_or known i d).0.0 ≡ true
    → lookup (nat_eq x) (seen_known (drop i known)) ≡ Some (seen_signature (get_or known i d).1)
known_here known i x d l h = rw (left_at known i d l, h) refl

pub known_step : (known : List (SymId × Signature)) (i x : ℕ) (d : SymId × Signature) → i < length known → nat_eq x (get_or known i d).0.0 ≡ false
    → lookup (nat_eq x) (seen_known (drop i known)) ≡ lookup (nat_eq x) (seen_known (drop (i + 1) known))
known_step known i x d l h = rw (left_at known i d l, h) refl

pub known_end : (known : List (SymId × Signature)) (i x : ℕ) → length known ≤ i → lookup (nat_eq x) (seen_known (drop i known)) ≡ None
known_end known i x l = rw (drop_of_length-le known l) refl
