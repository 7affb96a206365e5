-- The texts of made names, by the name that they are made of.
use Rattle.std.specs.Prelude.{ℕ, List, [], ◌∷◌, ◌++◌, map, codes}
use Rattle.model_symbols.specs.Symbols.{QualifiedName}
use Rattle.model_terms.specs.Worlds.{Shape, Scalar, Array, Hash, Child, Children}
use Rattle.model_expansion.specs.Forms.{symbol_name}
use Rattle.model_stobjs.specs.Descriptors.{Making, ShapedField, field_texts}
use Rattle.acl_stobj.specs.declared.texts.Purpose.{Purpose}
use Rattle.acl_stobj.specs.declared.texts.Purpose.TheVariants as purpose

-- what stands before the name, and behind it
abbrev pub before_of : Purpose → List ℕ
before_of purpose.Recognizer = []
before_of purpose.Creator = codes "CREATE-"
before_of purpose.Access = []
before_of purpose.Update = codes "UPDATE-"
before_of purpose.Length = []
before_of purpose.Resize = codes "RESIZE-"
before_of purpose.Element = []
before_of purpose.UpdateElement = codes "UPDATE-"
before_of purpose.Get = []
before_of purpose.IsBound = []
before_of purpose.GetBound = []
before_of purpose.Put = []
before_of purpose.Remove = []
before_of purpose.Count = []
before_of purpose.Clear = []

abbrev pub behind_of : Purpose → List ℕ
behind_of purpose.Recognizer = codes "P"
behind_of purpose.Creator = []
behind_of purpose.Access = []
behind_of purpose.Update = []
behind_of purpose.Length = codes "-LENGTH"
behind_of purpose.Resize = []
behind_of purpose.Element = codes "I"
behind_of purpose.UpdateElement = codes "I"
behind_of purpose.Get = codes "-GET"
behind_of purpose.IsBound = codes "-BOUNDP"
behind_of purpose.GetBound = codes "-GET?"
behind_of purpose.Put = codes "-PUT"
behind_of purpose.Remove = codes "-REM"
behind_of purpose.Count = codes "-COUNT"
behind_of purpose.Clear = codes "-CLEAR"

abbrev pub text_of : Purpose → List ℕ → List ℕ
text_of p f = before_of p ++ (f ++ behind_of p)

-- names of these purposes beside a symbol
abbrev pub makings_of : List QualifiedName → ℕ → List Purpose → List Making
makings_of symbols s ps = map (λ p. (s, text_of p (symbol_name symbols s))) ps

-- the names of a field
abbrev pub makings_in : List QualifiedName → ShapedField → List Making
makings_in symbols f = map (λ text. (f.0, text)) (field_texts (symbol_name symbols f.0) f.1)

-- what the functions of a field are for, in their order
abbrev pub one_value : List Purpose
one_value = purpose.Recognizer ∷ purpose.Access ∷ purpose.Update ∷ []

abbrev pub many_values : List Purpose
many_values = purpose.Recognizer ∷ purpose.Length ∷ purpose.Resize ∷ purpose.Element ∷ purpose.UpdateElement ∷ []

abbrev pub hash_values : List Purpose
hash_values =
    purpose.Recognizer ∷ purpose.Get ∷ purpose.IsBound ∷ purpose.GetBound ∷ purpose.Put ∷ purpose.Remove ∷ purpose.Count
    ∷ purpose.Clear ∷ []

abbrev pub purposes_of : Shape → List Purpose
purposes_of (Scalar t o) = one_value
purposes_of (Array t o n resizable) = many_values
purposes_of (Hash test) = hash_values
purposes_of (Child stobj) = one_value
purposes_of (Children stobj n) = many_values

-- the names of a stobj's recognizer and of its creator
abbrev pub own_makings : List QualifiedName → ℕ → List Making
own_makings symbols s = makings_of symbols s (purpose.Recognizer ∷ []) ++ makings_of symbols s (purpose.Creator ∷ [])
