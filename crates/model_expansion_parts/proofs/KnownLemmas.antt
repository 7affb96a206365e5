-- Known symbols in lists and forms, and once more symbols are known.
use Rattle.std.specs.Prelude.{unwrap_or}
use Rattle.std.proofs.Common.{ℕ, ◌≤◌, List, [], ◌∷◌, arith}
use Rattle.model_objects.specs.Object.{Object}
use Rattle.model_objects.specs.Named.{Knows}
use Rattle.model_terms.specs.Cores.{Core, Var, Const, If, Let, Mv, MvLet, StobjLet, WithLocal, MustBeEqual, Call}
use Rattle.model_terms.specs.Worlds.{World, OptionalFormal}
use Rattle.model_expansion.specs.Layers as layers
use Rattle.model_expansion.specs.Layers.{MacroRow, Chain, Two, Turned, Negated, Path, GuardItem, FormHolds, Meets, Part, Form, Ready, Rest, Guard, Found, Leaf, Node}
use Rattle.model_expansion_forms.specs.Nodes.{HasConstant, IsBelow}
use Rattle.model_expansion_forms.specs.Rows.{AllKnown, AreKnownItems, AreKnownDefaults}
use Rattle.model_expansion_forms.proofs.NodeLemmas.{each_wider}
use Rattle.model_expansion_forms.proofs.PartLemmas.{AllHave}
use Rattle.model_expansion_forms.proofs.TableLemmas.{symbols_wider}
use Rattle.model_expansion_forms.proofs.ValueLemmas.{DefaultsHave}
use Rattle.model_expansion_parts.specs.Known.{KnowsForm, KnowsRow, KnowsPart, KnowsParts, KnowsFound, KnowsSupplies}

module _ (n : ℕ) where
  pub known_all : (os : List (Object ℕ)) → AllHave (IsBelow n) os → AllKnown n os
  known_all [] h = tt
  known_all (o ∷ os) h = (h.0, known_all os h.1)

  pub have_all : (os : List (Object ℕ)) → AllKnown n os → AllHave (IsBelow n) os
  have_all [] h = tt
  have_all (o ∷ os) h = (h.0, have_all os h.1)

  pub have_defaults : (fs : List OptionalFormal) → AreKnownDefaults n fs → DefaultsHave (IsBelow n) fs
  have_defaults [] h = tt
  have_defaults (f ∷ fs) h = (h.0, have_defaults fs h.1)

-- ---- more symbols

module _ (m n : ℕ) (l : m ≤ n) where
  below_later : (s : ℕ) → IsBelow m s → IsBelow n s
  below_later s h = omega (arith, l, h)

  pub knows_later : (o : Object ℕ) → Knows m o → Knows n o
  knows_later o h = symbols_wider (IsBelow m) (IsBelow n) below_later o h

  pub all_later : (os : List (Object ℕ)) → AllKnown m os → AllKnown n os
  all_later [] h = tt
  all_later (o ∷ os) h = (knows_later o h.0, all_later os h.1)

  pub defaults_later : (fs : List OptionalFormal) → AreKnownDefaults m fs → AreKnownDefaults n fs
  defaults_later [] h = tt
  defaults_later (f ∷ fs) h = (knows_later f.default h.0, defaults_later fs h.1)

  constant_later : (f : Core) → HasConstant (IsBelow m) f → HasConstant (IsBelow n) f
  constant_later (Var x) h = tt
  constant_later (Const o) h = knows_later o h
  constant_later (If a b c) h = tt
  constant_later (Let names bound body) h = tt
  constant_later (Mv parts) h = tt
  constant_later (MvLet names bound body) h = tt
  constant_later (StobjLet names bound vars producer consumer) h = tt
  constant_later (WithLocal stobj names producer body) h = tt
  constant_later (MustBeEqual logic exec) h = tt
  constant_later (Call f actuals) h = tt

  pub form_later : (f : Core) → KnowsForm m f → KnowsForm n f
  form_later f h = each_wider (HasConstant (IsBelow m)) (HasConstant (IsBelow n)) constant_later f h

  row_later : (row : MacroRow) → KnowsRow m row → KnowsRow n row
  row_later layers.Quote h = tt
  row_later layers.If h = tt
  row_later layers.Let h = tt
  row_later layers.Mv h = tt
  row_later layers.MvLet h = tt
  row_later layers.StobjLet h = tt
  row_later layers.WithLocal h = tt
  row_later layers.MustBeEqual h = tt
  row_later layers.And h = tt
  row_later layers.Or h = tt
  row_later layers.Cond h = tt
  row_later layers.Case h = tt
  row_later layers.LetStar h = tt
  row_later layers.Listing h = tt
  row_later layers.ListStar h = tt
  row_later (Chain f unit) h = knows_later unit h
  row_later layers.Minus h = tt
  row_later (layers.Added k) h = tt
  row_later (Two f) h = tt
  row_later (Turned f) h = tt
  row_later (Negated row) h = row_later row h
  row_later (Path ls) h = tt
  row_later layers.Then h = tt
  row_later layers.Mbt h = tt
  row_later layers.Mbe h = tt
  row_later layers.The h = tt
  row_later layers.OrTest h = tt
  row_later layers.CondTest h = tt
  row_later layers.Clauses h = tt
  row_later layers.Bindings h = tt
  row_later layers.Checked h = tt

  items_later : (gs : List GuardItem) → AreKnownItems m gs → AreKnownItems n gs
  items_later [] h = tt
  items_later (FormHolds o ∷ gs) h = (knows_later o h.0, items_later gs h.1)
  items_later (Meets f ∷ gs) h = (form_later f h.0, items_later gs h.1)

  pub part_later : (q : Part) → KnowsPart m q → KnowsPart n q
  part_later (Form o) h = knows_later o h
  part_later (Ready f) h = form_later f h
  part_later (Rest row os) h = (row_later row h.0, all_later os h.1)
  part_later (Guard gs) h = items_later gs h

  pub parts_later : (qs : List Part) → KnowsParts m qs → KnowsParts n qs
  parts_later [] h = tt
  parts_later (q ∷ qs) h = (part_later q h.0, parts_later qs h.1)

  pub found_later : (f : Found) → KnowsFound m f → KnowsFound n f
  found_later (Leaf f) h = form_later f h
  found_later (Node k qs) h = parts_later qs h

  pub supplies_later : (w : World) → KnowsSupplies m w → KnowsSupplies n w
  supplies_later w h = let two : 2 ≤ m = h.enough in
      record {
        enough = omega (arith, two, l);
        constants = λ s name value e. knows_later value (h.constants s name value e);
        macros = λ s name formals body e. let k = h.macros s name formals body e in (defaults_later formals.optional k.0, defaults_later (unwrap_or formals.keys []) k.1);
      }
