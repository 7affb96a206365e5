-- The layers that those of the program stand for in a heap, and how far their words reach.
use Rattle.std.specs.Prelude.{◌≡◌, ℕ, ◌≤◌, List, [], ◌∷◌, length, map, true, unwrap_or, Option, Some, None}
use Rattle.model_objects.specs.Object.{Object}
use Rattle.model_symbols.specs.Symbols.{QualifiedName}
use Rattle.model_terms.specs.Cores as cores
use Rattle.model_expansion.specs.Words.{hidden_variable_word}
use Rattle.model_expansion.specs.TypeTerms.{type_term, false_core}
use Rattle.model_expansion.specs.Layers as layers
use Rattle.model_expansion.specs.Layers.{key_test, are_cond_clauses}
use Rattle.acl_heap.specs.Objects.{Objects, object_of, reach}
use Rattle.acl_terms.specs.Forms.{most, numbers}
use Rattle.acl_layers.specs.declared.rows.Row.{Row}
use Rattle.acl_layers.specs.declared.rows.Row.TheVariants as row
use Rattle.acl_layers.specs.declared.layer.Left.{Left}
use Rattle.acl_layers.specs.declared.layer.Ready.{Ready}
use Rattle.acl_layers.specs.declared.layer.Ready.TheVariants as ready
use Rattle.acl_layers.specs.declared.layer.Part.{Part}
use Rattle.acl_layers.specs.declared.layer.Part.TheVariants as part
use Rattle.acl_layers.specs.declared.layer.Kind.{Kind}
use Rattle.acl_layers.specs.declared.layer.Kind.TheVariants as kind
use Rattle.acl_layers.specs.declared.layer.Found.{Found}
use Rattle.acl_layers.specs.declared.layer.Found.TheVariants as found
use Rattle.acl_layers.specs.declared.layer.Made.{Made}
use Rattle.acl_layers.specs.declared.layer.Made.TheVariants as made
use Rattle.acl_layers.specs.Rows.{seen_row}
use Rattle.acl_layers.specs.Lists.{seen_left, left_reach}

-- ---- parts

-- the test of a type over the hidden variable; of what is no type, one that never holds
abbrev pub hidden_test : Object ℕ → cores.Core
hidden_test o = unwrap_or (type_term o (cores.Var hidden_variable_word)) false_core

abbrev pub seen_ready : Objects → Ready → cores.Core
seen_ready h (ready.Variable x) = cores.Var x.0
seen_ready h (ready.Constant w) = cores.Const (object_of h w)
seen_ready h (ready.KeyTest w) = key_test [] (object_of h w)
seen_ready h (ready.TypeTest w) = hidden_test (object_of h w)

abbrev pub ready_reach : Ready → ℕ
ready_reach (ready.Variable x) = 0
ready_reach (ready.Constant w) = reach w
ready_reach (ready.KeyTest w) = reach w
ready_reach (ready.TypeTest w) = reach w

abbrev pub seen_part : Objects → Part → layers.Part
seen_part h (part.Form w) = layers.Form (object_of h w)
seen_part h (part.Ready r) = layers.Ready (seen_ready h r)
seen_part h (part.Rest m l) = layers.Rest (seen_row m) (seen_left h l)

abbrev pub seen_parts : Objects → List Part → List layers.Part
seen_parts h ps = map (seen_part h) ps

abbrev pub part_reach : Part → ℕ
part_reach (part.Form w) = reach w
part_reach (part.Ready r) = ready_reach r
part_reach (part.Rest m l) = left_reach l

abbrev pub parts_reach : List Part → ℕ
parts_reach ps = most (map part_reach ps)

-- ---- what is known of what is left

-- clauses of a COND that were looked at
pub record AreClauses (os : List (Object ℕ)) : Type 0 where
  pub all : (symbols : List QualifiedName) → are_cond_clauses symbols os ≡ true

-- what is left of this row fits it
abbrev pub RestFits : Objects → Row → Left → Type 0
RestFits h row.CondRest l = AreClauses (seen_left h l)
RestFits h row.CondTest l = AreClauses (seen_left h l)
RestFits h m l = Unit {0}

-- a row of the table, and not what is left of one
abbrev pub IsWhole : Row → Type 0
IsWhole row.OrTest = ⊥
IsWhole row.CondTest = ⊥
IsWhole row.CondRest = ⊥
IsWhole row.Clauses = ⊥
IsWhole row.Bindings = ⊥
IsWhole row.Checked = ⊥
IsWhole m = Unit {0}

abbrev pub PartFits : Objects → Part → Type 0
PartFits h (part.Form w) = Unit {0}
PartFits h (part.Ready r) = Unit {0}
PartFits h (part.Rest m l) = RestFits h m l

abbrev pub PartsFit : Objects → List Part → Type 0
PartsFit h [] = Unit {0}
PartsFit h (p ∷ ps) = PartFits h p × PartsFit h ps

-- parts stand for these, their words lie in the heap, and what is left of a row fits it
pub record StandsParts (h : Objects) (ps : List Part) (os : List layers.Part) : Type 0 where
  pub is : seen_parts h ps ≡ os
  pub lies : parts_reach ps ≤ length h
  pub fits : PartsFit h ps

-- ---- layers

abbrev pub seen_kind : Kind → layers.Kind
seen_kind kind.If = layers.IfNode
seen_kind (kind.Let names) = layers.LetNode (numbers names)
seen_kind kind.Mv = layers.MvNode
seen_kind (kind.MvLet names) = layers.MvLetNode (numbers names)
seen_kind (kind.StobjLet children vars) = layers.StobjLetNode (numbers children) (numbers vars)
seen_kind (kind.WithLocal stobj names) = layers.WithLocalNode stobj.0 (numbers names)
seen_kind kind.MustBeEqual = layers.MustBeEqualNode
seen_kind (kind.Call f) = layers.CallNode f.0

abbrev pub seen_found : Objects → Found → layers.Found
seen_found h (found.Leaf r) = layers.Leaf (seen_ready h r)
seen_found h (found.Node k ps) = layers.Node (seen_kind k) (seen_parts h ps)

abbrev pub found_reach : Found → ℕ
found_reach (found.Leaf r) = ready_reach r
found_reach (found.Node k ps) = parts_reach ps

abbrev pub FoundFits : Objects → Found → Type 0
FoundFits h (found.Leaf r) = Unit {0}
FoundFits h (found.Node k ps) = PartsFit h ps

abbrev pub seen_made : Objects → Made → layers.Made
seen_made h (made.Again w) = layers.Again (object_of h w)
seen_made h (made.Stays f) = layers.Stays (seen_found h f)

abbrev pub made_reach : Made → ℕ
made_reach (made.Again w) = reach w
made_reach (made.Stays f) = found_reach f

abbrev pub MadeFits : Objects → Made → Type 0
MadeFits h (made.Again w) = Unit {0}
MadeFits h (made.Stays f) = FoundFits h f

-- what a row makes, or that its shape is wrong; words lie in the heap, and what is left of a row fits it
abbrev pub StandsMade : Objects → Option Made → Option layers.Made → Type 0
StandsMade h None o = o ≡ None
StandsMade h (Some m) o = (o ≡ Some (seen_made h m)) × (made_reach m ≤ length h) × MadeFits h m
