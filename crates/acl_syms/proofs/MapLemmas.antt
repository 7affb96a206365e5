-- A map from names to numbers that takes one more name.
use Rattle.std.specs.Prelude.{◌≡◌, ℕ, List, [], ◌∷◌, ◌++◌, Bool, true, false, Option, Some, None, Result, Ok, Err, OnErr, refl, cond, if◌then◌else◌}
use Rattle.std.proofs.Common.{ap, ◌∙◌}
use Rattle.std.specs.HashMap.{HashMap, get_by}
use Rattle.std.specs.Map.{lookup}
use Rattle.std.specs.Option.{option_or}
use Rattle.std.specs.Str.{bytes_eq}
use Rattle.std.proofs.lemmas.Slice.Eq.{bytes_eq-Decides}
use Rattle.indexmap.specs.IndexMap.{insert_entry}
use Rattle.indexmap.proofs.CallerLemmas.{insert_entry-new}
use Rattle.acl_syms.specs.Fields.{Learns}

-- what holds after any error
pub on_err : {T E : Type 0} (r : Result T E) {P : Type 0} → P → OnErr r P
on_err (Ok x) p = tt
on_err (Err e) p = p

lookup-push : {K : Type 0} (test : K → Bool) (es : List (K × ℕ)) (k : K) (v : ℕ) → lookup test (es ++ (k, v) ∷ []) ≡ option_or (lookup test es) (cond (test k) (Some v) None)
lookup-push test [] k v = refl
lookup-push test (e ∷ es) k v = go (test e.0) (lookup-push test es k v)
  where
    go : (b : Bool) → lookup test (es ++ (k, v) ∷ []) ≡ option_or (lookup test es) (cond (test k) (Some v) None)
        → cond b (Some e.1) (lookup test (es ++ (k, v) ∷ [])) ≡ option_or (cond b (Some e.1) (lookup test es)) (cond (test k) (Some v) None)
    go true h = refl
    go false h = h

or_none : (o : Option ℕ) → option_or o None ≡ o
or_none (Some n) = refl
or_none None = refl

pub learns : {K S : Type 0} (items : K → List ℕ) (old new : HashMap K ℕ S) (key : K) (name : List ℕ) (number : ℕ) → items key ≡ name
    → get_by (λ k. bytes_eq name (items k)) old ≡ None → new.entries ≡ insert_entry (λ a b. bytes_eq (items a) (items b)) old.entries key number → Learns items old new name number
learns items old new key name number e none h other =
    let none' : lookup (λ k. bytes_eq (items key) (items k)) old.entries ≡ None = ap (λ n. lookup (λ k. bytes_eq n (items k)) old.entries) e ∙ none in
    ap (lookup (λ k. bytes_eq other (items k))) (h ∙ insert_entry-new (λ a b. bytes_eq (items a) (items b)) old key number none')
    ∙ (lookup-push (λ k. bytes_eq other (items k)) old.entries key number
    ∙ (ap (λ n. option_or (lookup (λ k. bytes_eq other (items k)) old.entries) (cond (bytes_eq other n) (Some number) None)) e
    ∙ go (bytes_eq other name) refl))
  where
    go : (b : Bool) → bytes_eq other name ≡ b
        → option_or (lookup (λ k. bytes_eq other (items k)) old.entries) (cond b (Some number) None) ≡ (if b then Some number else lookup (λ k. bytes_eq other (items k)) old.entries)
    go true p = ap (λ o. option_or o (Some number)) (ap (λ n. lookup (λ k. bytes_eq n (items k)) old.entries) ((bytes_eq-Decides other name).0 p) ∙ none)
    go false p = or_none (lookup (λ k. bytes_eq other (items k)) old.entries)
