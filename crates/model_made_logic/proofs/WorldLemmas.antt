-- What evaluation and expansion take from a world whose definitions have known symbols.
use Rattle.std.proofs.Common.{◌≡◌, ℕ, zero, suc, ◌<◌, ◌≤◌, List, [], ◌∷◌, ◌++◌, Bool, true, false, Option, Some, None, refl, inl, inr}
use Rattle.std.specs.Prelude.{nat_eq, ℤ, unwrap_or, if◌then◌else◌}
use Rattle.model_objects.specs.Object.{Object, Integer, Symbol, Text, Pair}
use Rattle.model_objects.specs.Named.{Symbols}
use Rattle.model_symbols.specs.Opening.{truth, nil}
use Rattle.model_prims.specs.Kinds.{by_number}
use Rattle.model_prims.specs.Lists.{is_true_list}
use Rattle.model_lists.specs.Types.{ValueType, Anything, OneOf, Either, Both, word_type, only_element, range_of, bound_of, range_between, bits_of, unsigned_type, signed_type, Reading, joined, denied, headed_type, listed_type, reading, type_of, bit_word, symbol_word, string_word, cons_word, atom_word, null_word, boolean_word, or_word, and_word, not_word, integer_word, unsigned_byte_word, signed_byte_word, member_word}
use Rattle.model_lists.specs.Layouts.{Layout}
use Rattle.model_terms.specs.Worlds.{World, Definition, Shape, Scalar, Array, Hash, Child, Children, Field, OptionalFormal, definition, Primitive, Defined, Macro, Constant, Concrete, Generated, Abstract, OfAbstract, Named, Signed}
use Rattle.model_terms.specs.Cores.{Core, Var, Const, If, Let, Mv, MvLet, StobjLet, WithLocal, MustBeEqual, Call}
use Rattle.model_eval.specs.StobjLayouts.{most_nested, field_type, shape_layout, fields_layout, defined_layout, layout_within}
use Rattle.model_expansion_forms.specs.Nodes.{HasConstant, IsBelow}
use Rattle.model_expansion_forms.specs.Rows.{AreKnownDefaults}
use Rattle.model_expansion_forms.proofs.NodeLemmas.{each_wider}
use Rattle.model_follows.specs.FollowedWorlds.{TypeSymbols, LayoutSymbols}
use Rattle.model_follows.proofs.ThingLemmas.{knows_more}
use Rattle.model_made.proofs.WorldLemmas.{EachDefinition, each_found, definition_is}
use Rattle.model_made_logic.specs.Known.{KnowsForm, KnowsShape, KnowsFields, KnowsDefinition, KnowsDefinitions, KnowsWorld}

-- ---- types

abbrev same : Object ℕ → Object ℕ
same o = o

module _ (P : ℕ → Type 0) where
  abbrev TypeIfAny : Option (ValueType ℕ) → Type 0
  TypeIfAny None = Unit {0}
  TypeIfAny (Some t) = TypeSymbols P t

  type_if : (b : Bool) (x y : Option (ValueType ℕ)) → TypeIfAny x → TypeIfAny y → TypeIfAny (if b then x else y)
  type_if true x y h k = h
  type_if false x y h k = k

  type_bits : (n : Option ℕ) → TypeIfAny (unsigned_type n)
  type_bits None = tt
  type_bits (Some n) = tt

  type_signed : (n : Option ℕ) → TypeIfAny (signed_type n)
  type_signed None = tt
  type_signed (Some n) = tt

  type_between : (low high : Option (Option ℤ)) → TypeIfAny (range_between low high)
  type_between None high = tt
  type_between (Some low) None = tt
  type_between (Some low) (Some high) = tt

  abbrev high_of : Option (Option ℤ) → Option (Object ℕ) → Option (ValueType ℕ)
  high_of low None = None
  high_of low (Some high) = range_between low (bound_of high)

  type_range : (d : Object ℕ) → TypeIfAny (range_of d)
  type_range (Integer n) = tt
  type_range (Symbol s) = tt
  type_range (Text bytes) = tt
  type_range (Pair low d) = go (bound_of low) (only_element d)
    where
      go : (l : Option (Option ℤ)) (e : Option (Object ℕ)) → TypeIfAny (high_of l e)
      go l None = tt
      go l (Some high) = type_between l (bound_of high)

  type_denied : (e : Option (Object ℕ)) (t : Option (ValueType ℕ)) → TypeIfAny t → TypeIfAny (denied e t)
  type_denied None t h = tt
  type_denied (Some e) None h = tt
  type_denied (Some e) (Some t) h = h

  type_either : (a b : Option (ValueType ℕ)) → TypeIfAny a → TypeIfAny b → TypeIfAny (joined Either a b)
  type_either None b h k = tt
  type_either (Some a) None h k = tt
  type_either (Some a) (Some b) h k = (h, k)

  type_both : (a b : Option (ValueType ℕ)) → TypeIfAny a → TypeIfAny b → TypeIfAny (joined Both a b)
  type_both None b h k = tt
  type_both (Some a) None h k = tt
  type_both (Some a) (Some b) h k = (h, k)

  type_word : (s : ℕ) → TypeIfAny (word_type s)
  type_word s =
      type_if (nat_eq s truth) _ _ tt
      (type_if (nat_eq s integer_word) _ _ tt
      (type_if (nat_eq s signed_byte_word) _ _ tt
      (type_if (nat_eq s unsigned_byte_word) _ _ tt
      (type_if (nat_eq s bit_word) _ _ tt
      (type_if (nat_eq s symbol_word) _ _ tt
      (type_if (nat_eq s string_word) _ _ tt
      (type_if (nat_eq s cons_word) _ _ tt (type_if (nat_eq s atom_word) _ _ tt (type_if (nat_eq s null_word) _ _ tt (type_if (nat_eq s boolean_word) _ _ tt tt))))))))))

  record ReadingHas (r : Reading ℕ) : Type 0 where
    one : TypeIfAny r.one
    any : TypeIfAny r.any
    all : TypeIfAny r.all

  type_headed : (s : ℕ) (d : Object ℕ) (rest : Reading ℕ) → Symbols P d → ReadingHas rest → TypeIfAny (headed_type same s d rest)
  type_headed s d rest h r =
      type_if (nat_eq s or_word) _ _ r.any
      (type_if (nat_eq s and_word) _ _ r.all
      (type_if (nat_eq s not_word) _ _ (type_denied (only_element d) rest.any r.any)
      (type_if (nat_eq s integer_word) _ _ (type_range d)
      (type_if (nat_eq s unsigned_byte_word) _ _ (type_bits (bits_of 127 (only_element d)))
      (type_if (nat_eq s signed_byte_word) _ _ (type_signed (bits_of 128 (only_element d)))
      (type_if (nat_eq s member_word) _ _ (type_if (is_true_list by_number d) (Some (OneOf d)) None h tt) tt))))))

  type_listed : (a d : Object ℕ) (rest : Reading ℕ) → Symbols P d → ReadingHas rest → TypeIfAny (listed_type same a d rest)
  type_listed (Integer n) d rest h r = tt
  type_listed (Symbol s) d rest h r = type_headed s d rest h r
  type_listed (Text bytes) d rest h r = tt
  type_listed (Pair a b) d rest h r = tt

  reading_has : (o : Object ℕ) → Symbols P o → ReadingHas (reading same o)
  reading_has (Integer n) h = record { one = tt; any = tt; all = tt }
  reading_has (Symbol s) h = record { one = type_word s; any = type_if (nat_eq s nil) _ _ tt tt; all = type_if (nat_eq s nil) _ _ tt tt }
  reading_has (Text bytes) h = record { one = tt; any = tt; all = tt }
  reading_has (Pair a d) h =
      let first : ReadingHas (reading same a) = reading_has a h.0 in
      let rest : ReadingHas (reading same d) = reading_has d h.1 in
      record {
        one = type_listed a d (reading same d) h.1 rest;
        any = type_either (reading same a).one (reading same d).any first.one rest.any;
        all = type_both (reading same a).one (reading same d).all first.one rest.all;
      }

  type_known : (o : Object ℕ) → Symbols P o → TypeSymbols P (field_type same o)
  type_known o h = go (type_of same o) (reading_has o h).one
    where
      go : (t : Option (ValueType ℕ)) → TypeIfAny t → TypeSymbols P (unwrap_or t Anything)
      go None k = tt
      go (Some t) k = k

-- ---- layouts

module _ (w : World) (n : ℕ) (known : KnowsDefinitions w n) where
  abbrev Below : ℕ → Type 0
  Below s = s < n

  shape_known : (child : ℕ → Layout ℕ) (s : Shape) → ((x : ℕ) → LayoutSymbols Below (child x)) → KnowsShape n s → LayoutSymbols Below (shape_layout same child s)
  shape_known child (Scalar t o) c h = (type_known Below t h.0, h.1)
  shape_known child (Array t o size resizable) c h = (type_known Below t h.0, h.1)
  shape_known child (Hash test) c h = tt
  shape_known child (Child x) c h = c x
  shape_known child (Children x size) c h = c x

  fields_known : (child : ℕ → Layout ℕ) (fs : List Field) → ((x : ℕ) → LayoutSymbols Below (child x)) → KnowsFields n fs → LayoutSymbols Below (fields_layout same child fs)
  fields_known child [] c h = tt
  fields_known child (f ∷ fs) c h = (shape_known child f.shape c h.0, fields_known child fs c h.1)

  defined_known : (child : ℕ → Layout ℕ) (x : ℕ) (d : Option Definition) → definition w x ≡ d → ((x : ℕ) → LayoutSymbols Below (child x)) → LayoutSymbols Below (defined_layout same child d)
  defined_known child x None e c = tt
  defined_known child x (Some (Primitive name row)) e c = tt
  defined_known child x (Some (Defined f)) e c = tt
  defined_known child x (Some (Macro name formals body)) e c = tt
  defined_known child x (Some (Constant name value)) e c = tt
  defined_known child x (Some (Concrete d class)) e c = fields_known child d.fields c (known.each x (Concrete d class) e)
  defined_known child x (Some (Generated f)) e c = tt
  defined_known child x (Some (Abstract d)) e c = c d.foundation
  defined_known child x (Some (OfAbstract f)) e c = tt
  defined_known child x (Some (Named name formals)) e c = tt
  defined_known child x (Some (Signed name formals signature executable)) e c = tt

  within_known : (d x : ℕ) → LayoutSymbols Below (layout_within same w d x)
  unfolding layout_within
  within_known zero x = tt
  within_known (suc d) x = defined_known (layout_within same w d) x (definition w x) refl (within_known d)

  pub definitions_world : KnowsWorld w n
  definitions_world = record {
    functions = λ x f e. known.each x (Defined f) e;
    exports = λ x f e. known.each x (OfAbstract f) e;
    layouts = λ x. within_known (suc most_nested) x;
  }

-- ---- more symbols

module _ (m n : ℕ) (l : m ≤ n) where
  constant_more : (f : Core) → HasConstant (IsBelow m) f → HasConstant (IsBelow n) f
  constant_more (Var x) h = tt
  constant_more (Const o) h = knows_more m n o l h
  constant_more (If a b c) h = tt
  constant_more (Let names bound body) h = tt
  constant_more (Mv parts) h = tt
  constant_more (MvLet names bound body) h = tt
  constant_more (StobjLet names bound vars producer consumer) h = tt
  constant_more (WithLocal stobj names producer body) h = tt
  constant_more (MustBeEqual logic exec) h = tt
  constant_more (Call f actuals) h = tt

  pub form_more : (f : Core) → KnowsForm m f → KnowsForm n f
  form_more f h = each_wider (HasConstant (IsBelow m)) (HasConstant (IsBelow n)) constant_more f h

  pub defaults_more : (fs : List OptionalFormal) → AreKnownDefaults m fs → AreKnownDefaults n fs
  defaults_more [] h = tt
  defaults_more (f ∷ fs) h = (knows_more m n f.default l h.0, defaults_more fs h.1)

  shape_more : (s : Shape) → KnowsShape m s → KnowsShape n s
  shape_more (Scalar t o) h = (knows_more m n t l h.0, knows_more m n o l h.1)
  shape_more (Array t o size resizable) h = (knows_more m n t l h.0, knows_more m n o l h.1)
  shape_more (Hash test) h = tt
  shape_more (Child x) h = tt
  shape_more (Children x size) h = tt

  pub fields_more : (fs : List Field) → KnowsFields m fs → KnowsFields n fs
  fields_more [] h = tt
  fields_more (f ∷ fs) h = (shape_more f.shape h.0, fields_more fs h.1)

  pub definition_more : (d : Definition) → KnowsDefinition m d → KnowsDefinition n d
  definition_more (Primitive name row) h = tt
  definition_more (Defined f) h = (form_more f.guard h.0, form_more f.body h.1)
  definition_more (Macro name formals body) h = (defaults_more formals.optional h.0, defaults_more (unwrap_or formals.keys []) h.1, form_more body h.2)
  definition_more (Constant name value) h = knows_more m n value l h
  definition_more (Concrete d class) h = fields_more d.fields h
  definition_more (Generated g) h = tt
  definition_more (Abstract d) h = tt
  definition_more (OfAbstract f) h = form_more f.guard h
  definition_more (Named name formals) h = tt
  definition_more (Signed name formals signature executable) h = tt

  pub definitions_more : (w : World) → KnowsDefinitions w m → KnowsDefinitions w n
  definitions_more w h = record { each = λ x d e. definition_more d (h.each x d e) }

-- ---- more definitions

pub definitions_with : (w new : World) (n : ℕ) → KnowsDefinitions w n → EachDefinition (KnowsDefinition n) new → KnowsDefinitions (w ++ new) n
definitions_with w new n h k = record {
  each = λ x d e. elim (definition_is w new x d e) [ inl old ↦ h.each x d old | inr fresh ↦ each_found (KnowsDefinition n) new k x d fresh.1 ];
}
