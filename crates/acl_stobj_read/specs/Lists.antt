-- Lists of two or three.
use Rattle.std.specs.Prelude.{◌≡◌, ℕ, List, [], ◌∷◌, Option, Some, None, option_and_then}
use Rattle.model_objects.specs.Object.{Object}
use Rattle.acl_base.specs.declared.Word.{Word}
use Rattle.acl_heap.specs.Objects.{Objects, object_of, Lies}

abbrev pub two_or_three : List (Object ℕ) → Option (Object ℕ × Object ℕ × Option (Object ℕ))
two_or_three [] = None
two_or_three (a ∷ []) = None
two_or_three (a ∷ (b ∷ [])) = Some (a, b, None)
two_or_three (a ∷ (b ∷ (c ∷ []))) = Some (a, b, Some c)
two_or_three (a ∷ (b ∷ (c ∷ (d ∷ os)))) = None

-- the elements of a true list of two or three
abbrev pub SeenListed : Objects → Option (Word × Word × Option Word) → Option (List (Object ℕ)) → Type 0
SeenListed h None o = option_and_then two_or_three o ≡ None
SeenListed h (Some (a, b, None)) o = (o ≡ Some (object_of h a ∷ (object_of h b ∷ []))) × Lies h a × Lies h b
SeenListed h (Some (a, b, Some c)) o = (o ≡ Some (object_of h a ∷ (object_of h b ∷ (object_of h c ∷ [])))) × Lies h a × Lies h b × Lies h c
