-- Steps of the loops over formals and declared names.
use Rattle.std.specs.Prelude.{◌≡◌, ℕ, ◌+◌, ◌<◌, ◌≤◌, List, [], ◌∷◌, ◌++◌, length, map, drop, false, ◌||◌, refl}
use Rattle.std.specs.List.{list_any}
use Rattle.std.proofs.Common.{sym, ap, ◌∙◌, get_or, append_assoc}
use Rattle.std.proofs.Math.ListN.{drop_of_length-le}
use Rattle.std.proofs.lemmas.List.{append-nil}
use Rattle.acl_base.specs.declared.SymId.{SymId}
use Rattle.model_terms.specs.Worlds as worlds
use Rattle.model_terms.specs.Faults.{ordinary_scope}
use Rattle.model_terms.specs.Rounds.{formal_kind, formal_entry}
use Rattle.acl_terms.specs.Forms.{numbers}
use Rattle.acl_outputs.proofs.ListLemmas.{left_at}
use Rattle.acl_check.specs.Members.{is_undeclared, is_no_formal}

step : {Y : Type 0} (f : ℕ → Y) (done : List Y) (ns : List SymId) (i : ℕ) (d : SymId) → i < length ns
    → done ++ map f (numbers (drop i ns)) ≡ (done ++ f (get_or ns i d).0 ∷ []) ++ map f (numbers (drop (i + 1) ns))
step f done ns i d l =
    ap (λ (xs : List SymId). done ++ map f (numbers xs)) (left_at ns i d l) ∙ sym (append_assoc done (f (get_or ns i d).0 ∷ []) (map f (numbers (drop (i + 1) ns))))

end : {Y : Type 0} (f : ℕ → Y) (done : List Y) (ns : List SymId) (i : ℕ) → length ns ≤ i → done ++ map f (numbers (drop i ns)) ≡ done
end f done ns i l = ap (λ (xs : List SymId). done ++ map f (numbers xs)) (drop_of_length-le ns l) ∙ append-nil done

module _ (w : worlds.World) (names : List ℕ) where
  pub kinds_step : (done : List worlds.Out) (ns : List SymId) (i : ℕ) (d : SymId) → i < length ns
      → done ++ map (formal_kind w names) (numbers (drop i ns)) ≡ (done ++ formal_kind w names (get_or ns i d).0 ∷ []) ++ map (formal_kind w names) (numbers (drop (i + 1) ns))
  kinds_step done ns i d l = step (formal_kind w names) done ns i d l

  pub kinds_end : (done : List worlds.Out) (ns : List SymId) (i : ℕ) → length ns ≤ i → done ++ map (formal_kind w names) (numbers (drop i ns)) ≡ done
  kinds_end done ns i l = end (formal_kind w names) done ns i l

  pub entries_step : (done : worlds.Scope) (ns : List SymId) (i : ℕ) (d : SymId) → i < length ns
      → done ++ map (formal_entry w names) (numbers (drop i ns)) ≡ (done ++ formal_entry w names (get_or ns i d).0 ∷ []) ++ map (formal_entry w names) (numbers (drop (i + 1) ns))
  entries_step done ns i d l = step (formal_entry w names) done ns i d l

  pub entries_end : (done : worlds.Scope) (ns : List SymId) (i : ℕ) → length ns ≤ i → done ++ map (formal_entry w names) (numbers (drop i ns)) ≡ done
  entries_end done ns i l = end (formal_entry w names) done ns i l

  pub undeclared_step : (ns : List SymId) (i : ℕ) (d : SymId) → i < length ns
      → list_any (is_undeclared w names) (numbers (drop i ns)) ≡ (is_undeclared w names (get_or ns i d).0 || list_any (is_undeclared w names) (numbers (drop (i + 1) ns)))
  undeclared_step ns i d l = ap (λ (xs : List SymId). list_any (is_undeclared w names) (numbers xs)) (left_at ns i d l)

  pub undeclared_end : (ns : List SymId) (i : ℕ) → length ns ≤ i → list_any (is_undeclared w names) (numbers (drop i ns)) ≡ false
  undeclared_end ns i l = ap (λ (xs : List SymId). list_any (is_undeclared w names) (numbers xs)) (drop_of_length-le ns l)

  pub no_formal_step : (ns : List SymId) (i : ℕ) (d : SymId) → i < length ns
      → list_any (is_no_formal w names) (numbers (drop i ns)) ≡ (is_no_formal w names (get_or ns i d).0 || list_any (is_no_formal w names) (numbers (drop (i + 1) ns)))
  no_formal_step ns i d l = ap (λ (xs : List SymId). list_any (is_no_formal w names) (numbers xs)) (left_at ns i d l)

  pub no_formal_end : (ns : List SymId) (i : ℕ) → length ns ≤ i → list_any (is_no_formal w names) (numbers (drop i ns)) ≡ false
  no_formal_end ns i l = ap (λ (xs : List SymId). list_any (is_no_formal w names) (numbers xs)) (drop_of_length-le ns l)

abbrev ordinary_entry : ℕ → worlds.Entry
ordinary_entry x = record { name = x; kind = worlds.Ordinary }

pub ordinary_step : (done : worlds.Scope) (ns : List SymId) (i : ℕ) (d : SymId) → i < length ns
    → done ++ ordinary_scope (numbers (drop i ns)) ≡ (done ++ record { name = (get_or ns i d).0; kind = worlds.Ordinary } ∷ []) ++ ordinary_scope (numbers (drop (i + 1) ns))
ordinary_step done ns i d l = step ordinary_entry done ns i d l

pub ordinary_end : (done : worlds.Scope) (ns : List SymId) (i : ℕ) → length ns ≤ i → done ++ ordinary_scope (numbers (drop i ns)) ≡ done
ordinary_end done ns i l = end ordinary_entry done ns i l
