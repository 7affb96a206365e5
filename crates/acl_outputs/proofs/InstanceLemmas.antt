-- What an instance of a signature is.
use Rattle.std.specs.Prelude.{◌≡◌, ℕ, List, map, true, false, Some, None, refl}
use Rattle.std.specs.List.{zip}
use Rattle.std.proofs.Common.{sym, ap, ◌∙◌}
use Rattle.model_terms.specs.Worlds as worlds
use Rattle.model_terms.specs.Classes.{stobjs, all_congruent, repeats, renamed_out, instance_of}

module _ (w : worlds.World) (s : worlds.Signature) (xs formals : List ℕ) (are : formals ≡ stobjs s.ins) where
  pub instance_apart : all_congruent w formals xs ≡ false → instance_of w s xs ≡ None
  instance_apart h = rw (ap (λ fs. all_congruent w fs xs) (sym are) ∙ h) refl

  pub instance_twice : all_congruent w formals xs ≡ true → repeats xs ≡ true → instance_of w s xs ≡ None
  instance_twice h r = rw (ap (λ fs. all_congruent w fs xs) (sym are) ∙ h, r) refl

  pub instance_there : (ins outs : List worlds.Out) → all_congruent w formals xs ≡ true → repeats xs ≡ false
      → ins ≡ map (renamed_out (zip formals xs)) s.ins → outs ≡ map (renamed_out (zip formals xs)) s.outs → instance_of w s xs ≡ Some (record { ins = ins; outs = outs })
  instance_there ins outs h r i o =
      rw (ap (λ fs. all_congruent w fs xs) (sym are) ∙ h, r, i, o, are) refl
