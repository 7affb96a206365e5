-- The fields of an object.
use Rattle.std.specs.Prelude.{◌≡◌, ℕ, List, Option, Some, None, map, slice_get, option_map, option_and_then}
use Rattle.std.proofs.Common.{sym, ap, ◌∙◌}
use Rattle.std.proofs.lemmas.Option.{slice_get-map}
use Rattle.acl_heap.specs.Objects.{Objects}
use Rattle.model_terms.specs.Worlds as worlds
use Rattle.model_terms.specs.Accessors.{HeldStobjs, held_by}
use Rattle.acl_terms.specs.declared.stobj.FieldDescriptor.{FieldDescriptor}
use Rattle.acl_terms.specs.Definitions.{seen_shape, seen_field}

module _ (h : Objects) (fields : List FieldDescriptor) (k : ℕ) where
  abbrev held : Option worlds.Field → Option HeldStobjs
  held o = option_and_then (λ (e : worlds.Field). held_by e.shape) o

  pub held_there : (f : FieldDescriptor) → Some f ≡ slice_get fields k → option_and_then (λ (e : worlds.Field). held_by e.shape) (slice_get (map (seen_field h) fields) k) ≡ held_by (seen_shape h f.shape)
  held_there f e = ap held (slice_get-map (seen_field h) fields k) ∙ ap (λ o. held (option_map (seen_field h) o)) (sym e)

  pub held_nowhere : None ≡ slice_get fields k → option_and_then (λ (e : worlds.Field). held_by e.shape) (slice_get (map (seen_field h) fields) k) ≡ None
  held_nowhere e = ap held (slice_get-map (seen_field h) fields k) ∙ ap (λ o. held (option_map (seen_field h) o)) (sym e)
