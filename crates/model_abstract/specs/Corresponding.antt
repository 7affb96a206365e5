-- When the lists of stobjs in checked evaluation and those in abstract evaluation correspond (ACL2's manual, topic
-- DEFABSSTOBJ).
use Rattle.std.specs.Prelude.{◌≡◌, ℕ, ◌<◌, length, List, [], ◌∷◌, map, true, false, Option, Some, None}
use Rattle.model_objects.specs.Object.{Object, Symbol}
use Rattle.model_objects.specs.Named.{Symbols}
use Rattle.model_symbols.specs.Symbols.{QualifiedName, package_number, form_of}
use Rattle.model_symbols.specs.Opening.{truth_name}
use Rattle.model_prims.specs.Kinds.{by_name, by_number, is_nil}
use Rattle.model_prims.specs.declared.prim.Prim.{Prim}
use Rattle.model_lists.specs.Lists.{StobjList, Value, Pairs, End, Item, as_object}
use Rattle.model_lists.specs.Layouts.{recognizes}
use Rattle.model_lists.specs.LiveLists.{HasFields, ListSymbols}
use Rattle.model_terms.specs.Worlds.{Definition, AbstractDescriptor, definition, Primitive, Defined, Macro, Constant, Concrete, Generated, Abstract, OfAbstract, Named, Signed}
use Rattle.model_eval.specs.Outcomes.{Stobjs}
use Rattle.model_eval.specs.StobjLayouts.{stobj_layout}
use Rattle.model_logic.specs.Logic.{Theory, Thing, CallEndsWith}

-- a list with its symbols by name
abbrev pub named_list : List QualifiedName → StobjList ℕ → StobjList QualifiedName
named_list symbols (Value o) = Value (form_of symbols o)
named_list symbols (Pairs ps) = Pairs (map (λ p. (form_of symbols p.0, form_of symbols p.1)) ps)
named_list symbols End = End
named_list symbols (Item first rest) = Item (named_list symbols first) (named_list symbols rest)

-- a value other than `NIL`
abbrev pub CallHolds : Theory → ℕ → List Thing → Type 0
CallHolds b name args = (v : Thing) × CallEndsWith b name args v × (is_nil by_name v ≡ false)

-- a list that a stobj of this name may have: it has the fields of the stobj's layout, it is what the recognizer wants,
-- and its symbols are known
pub record Fits (b : Theory) (stobj : ℕ) (l : StobjList ℕ) : Type 0 where
  pub fields : HasFields (stobj_layout (λ (o : Object ℕ). o) b.world stobj) l
  pub recognized : recognizes by_number (stobj_layout (λ (o : Object ℕ). o) b.world stobj) (as_object by_number l) ≡ true
  pub known : ListSymbols (λ s. s < length b.symbols) l

-- a package of this name is known
abbrev pub HasPackage : Theory → QualifiedName → Type 0
HasPackage b q = (n : ℕ) × (package_number b.packages q.home ≡ Some n)

-- a foundation's list and an abstract one, whose symbols are of known packages: what another package that becomes known
-- imports is then no matter to it
pub record IsAbstracted (b : Theory) (d : AbstractDescriptor) (c : StobjList ℕ) (a : StobjList QualifiedName) : Type 0 where
  pub fits : Fits b d.foundation c
  pub corresponding : CallHolds b d.corr (as_object by_name (named_list b.symbols c) ∷ as_object by_name a ∷ [])
  pub well_formed : CallEndsWith b d.recognizer.logic (as_object by_name a ∷ []) (Symbol truth_name)
  pub homes : Symbols (HasPackage b) (as_object by_name a)

pub record IsConcrete (b : Theory) (stobj : ℕ) (c : StobjList ℕ) (a : StobjList QualifiedName) : Type 0 where
  pub fits : Fits b stobj c
  pub equal : named_list b.symbols c ≡ a

-- the list of a stobj in checked evaluation, and that in abstract evaluation
abbrev pub CorrespondAs : Theory → ℕ → Option Definition → StobjList ℕ → StobjList QualifiedName → Type 0
CorrespondAs b x None c a = ⊥
CorrespondAs b x (Some (Primitive name row)) c a = ⊥
CorrespondAs b x (Some (Defined f)) c a = ⊥
CorrespondAs b x (Some (Macro name formals body)) c a = ⊥
CorrespondAs b x (Some (Constant name value)) c a = ⊥
CorrespondAs b x (Some (Concrete d class)) c a = IsConcrete b x c a
CorrespondAs b x (Some (Generated g)) c a = ⊥
CorrespondAs b x (Some (Abstract d)) c a = IsAbstracted b d c a
CorrespondAs b x (Some (OfAbstract f)) c a = ⊥
CorrespondAs b x (Some (Named name formals)) c a = ⊥
CorrespondAs b x (Some (Signed name formals signature executable)) c a = ⊥

-- the lists of the same stobjs, one after another
abbrev pub Correspond : Theory → Stobjs ℕ → Stobjs QualifiedName → Type 0
Correspond b [] [] = Unit {0}
Correspond b [] (a ∷ others) = ⊥
Correspond b (c ∷ cs) [] = ⊥
Correspond b (c ∷ cs) (a ∷ others) = (c.0 ≡ a.0) × CorrespondAs b c.0 (definition b.world c.0) c.1 a.1 × Correspond b cs others
