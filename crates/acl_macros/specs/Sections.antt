-- What stands between the marks of formals, as it is read in a heap.
use Rattle.std.specs.Prelude.{◌≡◌, ℕ, ◌≤◌, List, [], length, unwrap_or, Option, Some, None, option_and_then}
use Rattle.model_objects.specs.Object.{Object}
use Rattle.model_expansion.specs.Words.{key_word}
use Rattle.model_events.specs.Macros as written
use Rattle.model_events.specs.Macros.{marked_section, rest_section, all_taken}
use Rattle.acl_base.specs.declared.Word.{Word}
use Rattle.acl_heap.specs.Objects.{Objects, object_of, Lies}
use Rattle.acl_layers.specs.Lists.{items_along, option_reach}
use Rattle.acl_declare.specs.Said.{words_at, words_reach}
use Rattle.acl_macros.specs.declared.written.WrittenOptional.{WrittenOptional}
use Rattle.acl_macros.specs.Written.{seen_word, seen_optionals, optionals_reach, seen_keys, keys_reach}

-- words up to a mark, and the list from there on
abbrev pub SeenBefore : Objects → List Word × Word → List (Object ℕ) → List (Object ℕ) → Type 0
SeenBefore h p os rest = (os ≡ words_at h p.0) × (words_reach p.0 ≤ length h) × Lies h p.1 × (rest ≡ items_along (object_of h p.1))

abbrev pub SeenOptionals : Objects → Option (List WrittenOptional × Word) → Option (List written.WrittenOptional) → List (Object ℕ) → Type 0
SeenOptionals h None o rest = o ≡ None
SeenOptionals h (Some p) o rest = (o ≡ Some (seen_optionals h p.0)) × (optionals_reach p.0 ≤ length h) × Lies h p.1 × (rest ≡ items_along (object_of h p.1))

abbrev pub SeenSection : Objects → Option (Option (List WrittenOptional) × Word) → Option (Option (List written.WrittenOptional) × List (Object ℕ)) → Type 0
SeenSection h None o = o ≡ None
SeenSection h (Some p) o = (o ≡ Some (seen_keys h p.0, items_along (object_of h p.1))) × (keys_reach p.0 ≤ length h) × Lies h p.1

abbrev pub SeenRest : Objects → Option (Option Word × Word) → Option (Option (Object ℕ) × List (Object ℕ)) → Type 0
SeenRest h None o = o ≡ None
SeenRest h (Some p) o = (o ≡ Some (seen_word h p.0, items_along (object_of h p.1))) × (option_reach p.0 ≤ length h) × Lies h p.1

-- ---- formals, once the first marks are passed

abbrev pub parts : List (Object ℕ) → Option (List written.WrittenOptional) → Option (Object ℕ) → Option (List written.WrittenOptional) → written.WrittenFormals
parts required optional rest keys = record { required = required; optional = unwrap_or optional []; rest = rest; keys = keys }

abbrev pub after_rest : List (Object ℕ) → Option (List written.WrittenOptional) → Option (Object ℕ) → List (Object ℕ) → Option written.WrittenFormals
after_rest required optional rest os =
    option_and_then (λ (ks : Option (List written.WrittenOptional) × List (Object ℕ)). all_taken (parts required optional rest ks.0) ks.1) (marked_section key_word os)

abbrev pub after_optional : List (Object ℕ) → Option (List written.WrittenOptional) → List (Object ℕ) → Option written.WrittenFormals
after_optional required optional os =
    option_and_then (λ (r : Option (Object ℕ) × List (Object ℕ)). after_rest required optional r.0 r.1) (rest_section os)
