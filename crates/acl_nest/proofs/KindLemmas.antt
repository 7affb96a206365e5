-- Steps of the loops over kinds.
use Rattle.std.specs.Prelude.{◌≡◌, ℕ, ◌+◌, ◌<◌, ◌≤◌, List, [], ◌∷◌, ◌++◌, length, drop, true, false, ◌&&◌, refl}
use Rattle.std.specs.List.{list_all}
use Rattle.std.proofs.Common.{sym, ap, ◌∙◌, get_or, append_assoc}
use Rattle.std.proofs.Math.ListN.{drop_of_length-le}
use Rattle.std.proofs.lemmas.List.{append-nil}
use Rattle.acl_base.specs.declared.SymId.{SymId}
use Rattle.model_terms.specs.Worlds as worlds
use Rattle.model_terms.specs.Classes.{has}
use Rattle.model_terms.specs.Scopes.{name_kind, name_kinds}
use Rattle.model_terms.specs.Nested.{same_kind, same_kinds}
use Rattle.acl_terms.specs.declared.signature.Out.{Out}
use Rattle.acl_terms.specs.Forms.{numbers}
use Rattle.acl_terms.specs.Signatures.{seen_out, seen_outs}
use Rattle.acl_outputs.proofs.ListLemmas.{left_at}

pub same_step : (fs xs : List Out) (i : ℕ) (d e : Out) → i < length fs → i < length xs
    → same_kinds (seen_outs (drop i fs)) (seen_outs (drop i xs)) ≡ (same_kind (seen_out (get_or fs i d)) (seen_out (get_or xs i e)) && same_kinds (seen_outs (drop (i + 1) fs)) (seen_outs (drop (i + 1) xs)))
same_step fs xs i d e l m = rw (left_at fs i d l, left_at xs i e m) refl

pub same_short : (fs xs : List Out) (i : ℕ) (d : Out) → i < length fs → length xs ≤ i → same_kinds (seen_outs (drop i fs)) (seen_outs (drop i xs)) ≡ false
same_short fs xs i d l m = rw (left_at fs i d l, drop_of_length-le xs m) refl

pub same_end : (fs xs : List Out) (i : ℕ) → length fs ≤ i → length xs ≤ i → same_kinds (seen_outs (drop i fs)) (seen_outs (drop i xs)) ≡ true
same_end fs xs i l m = rw (drop_of_length-le fs l, drop_of_length-le xs m) refl

pub same_long : (fs xs : List Out) (i : ℕ) (d : Out) → length fs ≤ i → i < length xs → same_kinds (seen_outs (drop i fs)) (seen_outs (drop i xs)) ≡ false
same_long fs xs i d l m = rw (drop_of_length-le fs l, left_at xs i d m) refl

pub kinds_step : (w : worlds.World) (done : List worlds.Out) (ns : List SymId) (i : ℕ) (d : SymId) → i < length ns
    → done ++ name_kinds w (numbers (drop i ns)) ≡ (done ++ name_kind w (get_or ns i d).0 ∷ []) ++ name_kinds w (numbers (drop (i + 1) ns))
kinds_step w done ns i d l =
    ap (λ xs. done ++ name_kinds w (numbers xs)) (left_at ns i d l) ∙ sym (append_assoc done (name_kind w (get_or ns i d).0 ∷ []) (name_kinds w (numbers (drop (i + 1) ns))))

pub kinds_end : (w : worlds.World) (done : List worlds.Out) (ns : List SymId) (i : ℕ) → length ns ≤ i → done ++ name_kinds w (numbers (drop i ns)) ≡ done
kinds_end w done ns i l = rw (drop_of_length-le ns l) (append-nil done)

pub among_step : (xs : List ℕ) (ns : List SymId) (i : ℕ) (d : SymId) → i < length ns
    → list_all (has xs) (numbers (drop i ns)) ≡ (has xs (get_or ns i d).0 && list_all (has xs) (numbers (drop (i + 1) ns)))
among_step xs ns i d l = rw (left_at ns i d l) refl

pub among_end : (xs : List ℕ) (ns : List SymId) (i : ℕ) → length ns ≤ i → list_all (has xs) (numbers (drop i ns)) ≡ true
among_end xs ns i l = rw (drop_of_length-le ns l) refl
