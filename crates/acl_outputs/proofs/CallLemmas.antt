-- The outputs of calls.
use Rattle.std.specs.Prelude.{◌≡◌, ℕ, List, [], ◌∷◌, Bool, true, false, ◌&&◌, not, Option, Some, None, nat_eq, replicate, option_map, option_and_then, refl, if◌then◌else◌}
use Rattle.std.specs.List.{zip}
use Rattle.std.specs.Map.{lookup}
use Rattle.std.specs.Option.{option_or, option_map_or}
use Rattle.std.proofs.Common.{ap, ◌∙◌}
use Rattle.model_terms.specs.Cores as cores
use Rattle.model_terms.specs.Worlds as worlds
use Rattle.model_terms.specs.Worlds.{definition}
use Rattle.model_terms.specs.Classes.{stobjs, all_congruent, repeats, renamed, instance_of}
use Rattle.model_terms.specs.Outputs.{Known, stobj_actuals, all_there, call_outs, signature_in, signature_of}

module _ (w : worlds.World) (s : worlds.Signature) (actuals : cores.Cores) where
  -- another form stands in an object position
  pub call_other : None ≡ all_there (stobj_actuals s.ins actuals) → s.outs ≡ call_outs w s actuals
  call_other h = ap (λ o. option_map_or (λ (i : worlds.Signature). i.outs) (option_and_then (instance_of w s) o) s.outs) h

  pub call_apart : (names : List ℕ) → Some names ≡ all_there (stobj_actuals s.ins actuals) → None ≡ instance_of w s names → s.outs ≡ call_outs w s actuals
  call_apart names h i =
      ap (λ o. option_map_or (λ (i : worlds.Signature). i.outs) o s.outs) i
      ∙ ap (λ o. option_map_or (λ (i : worlds.Signature). i.outs) (option_and_then (instance_of w s) o) s.outs) h

  pub call_instance : (names : List ℕ) (j : worlds.Signature) → Some names ≡ all_there (stobj_actuals s.ins actuals) → Some j ≡ instance_of w s names → j.outs ≡ call_outs w s actuals
  call_instance names j h i =
      ap (λ o. option_map_or (λ (i : worlds.Signature). i.outs) o s.outs) i
      ∙ ap (λ o. option_map_or (λ (i : worlds.Signature). i.outs) (option_and_then (instance_of w s) o) s.outs) h

  instance_plain : (names : List ℕ) (b : Bool) → s.outs ≡ worlds.Ordinary ∷ []
      → option_map_or (λ (i : worlds.Signature). i.outs) (if b then Some (renamed (zip (stobjs s.ins) names) s) else None) s.outs ≡ worlds.Ordinary ∷ []
  instance_plain names true h = rw h refl
  instance_plain names false h = h

  there_plain : (o : Option (List ℕ)) → s.outs ≡ worlds.Ordinary ∷ [] → option_map_or (λ (i : worlds.Signature). i.outs) (option_and_then (instance_of w s) o) s.outs ≡ worlds.Ordinary ∷ []
  there_plain None h = h
  there_plain (Some names) h = instance_plain names (all_congruent w (stobjs s.ins) names && not (repeats names)) h

  outs_plain : s.outs ≡ worlds.Ordinary ∷ [] → call_outs w s actuals ≡ worlds.Ordinary ∷ []
  outs_plain h = there_plain (all_there (stobj_actuals s.ins actuals)) h

-- of a primitive
pub call_plain : (w : worlds.World) (n : ℕ) (actuals : cores.Cores) → call_outs w (record { ins = replicate n worlds.Ordinary; outs = worlds.Ordinary ∷ [] }) actuals ≡ worlds.Ordinary ∷ []
call_plain w n actuals = outs_plain w (record { ins = replicate n worlds.Ordinary; outs = worlds.Ordinary ∷ [] }) actuals refl

module _ (w : worlds.World) (known : Known) (f : ℕ) (actuals : cores.Cores) where
  abbrev outs_by : Option worlds.Signature → Option (List worlds.Out)
  outs_by o = option_map (λ s. call_outs w s actuals) o

  pub called_known : (s : worlds.Signature) (outs : List worlds.Out) → Some s ≡ lookup (nat_eq f) known → outs ≡ call_outs w s actuals
      → Some outs ≡ option_map (λ s. call_outs w s actuals) (signature_of w known f)
  called_known s outs k o = ap Some o ∙ ap (λ m. outs_by (option_or m (option_and_then signature_in (definition w f)))) k

  pub called_defined : (d : worlds.Definition) (outs : Option (List worlds.Out)) → None ≡ lookup (nat_eq f) known → Some d ≡ definition w f
      → outs ≡ option_map (λ s. call_outs w s actuals) (signature_in d) → outs ≡ option_map (λ s. call_outs w s actuals) (signature_of w known f)
  called_defined d outs k e o =
      o ∙ (ap (λ m. outs_by (option_and_then signature_in m)) e ∙ ap (λ m. outs_by (option_or m (option_and_then signature_in (definition w f)))) k)

  pub called_nowhere : None ≡ lookup (nat_eq f) known → None ≡ definition w f → None ≡ option_map (λ s. call_outs w s actuals) (signature_of w known f)
  called_nowhere k e = ap (λ m. outs_by (option_and_then signature_in m)) e ∙ ap (λ m. outs_by (option_or m (option_and_then signature_in (definition w f)))) k
