-- The texts of the names of a field.
use Rattle.std.specs.Prelude.{◌≡◌, ℕ, List, length, map, refl}
use Rattle.std.proofs.Common.{ap}
use Rattle.std.proofs.lemmas.List.{append-nil}
use Rattle.model_terms.specs.Worlds.{Shape, Scalar, Array, Hash, Child, Children}
use Rattle.model_symbols.specs.Symbols.{QualifiedName}
use Rattle.model_expansion.specs.Forms.{symbol_name}
use Rattle.model_stobjs.specs.Descriptors.{Making, field_texts, made_count}
use Rattle.acl_stobj.specs.declared.texts.Purpose.{Purpose}
use Rattle.acl_stobj.specs.Texts.{text_of, purposes_of, makings_of, makings_in}

module _ (s : ℕ) (f : List ℕ) where
  abbrev made_for : Purpose → Making
  made_for p = (s, text_of p f)

  abbrev made_as : List ℕ → Making
  made_as text = (s, text)

  by_shape : (shape : Shape) → map made_for (purposes_of shape) ≡ map made_as (field_texts f shape)
  by_shape (Scalar t o) = rw (append-nil f) refl
  by_shape (Array t o n resizable) = rw (append-nil f) refl
  by_shape (Hash test) = refl
  by_shape (Child stobj) = rw (append-nil f) refl
  by_shape (Children stobj n) = rw (append-nil f) refl

pub purposes_are : (sy : List QualifiedName) (s : ℕ) (shape : Shape) → makings_of sy s (purposes_of shape) ≡ makings_in sy (s, shape)
purposes_are sy s shape = by_shape s (symbol_name sy s) shape

pub purpose_count : (shape : Shape) → length (purposes_of shape) ≡ made_count shape
purpose_count (Scalar t o) = refl
purpose_count (Array t o n resizable) = refl
purpose_count (Hash test) = refl
purpose_count (Child stobj) = refl
purpose_count (Children stobj n) = refl
