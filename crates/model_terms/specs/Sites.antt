-- Each place of a core form in its context, in preorder (ACL2's manual, topic STOBJ).
use Rattle.std.specs.Prelude.{ℕ, ◌+◌, List, [], ◌∷◌, ◌++◌, map, Option, Some, None, option_map}
use Rattle.std.specs.Option.{option_map_or}
use Rattle.model_terms.specs.Cores.{Core, Cores, none, more, Var, Const, If, Let, Mv, MvLet, StobjLet, WithLocal, MustBeEqual, Call, Place, variable, count, reached}
use Rattle.model_terms.specs.Worlds.{World, Out, Ordinary, Stobj, Scope, Signature}
use Rattle.model_terms.specs.Scopes.{name_kinds, binding, producer_scope, consumer_scope, local_scope, body_scope}
use Rattle.model_terms.specs.Outputs.{signature_of}

-- a core form with the names in scope and the outputs that are expected of it; of an actual in a stobj position, the stobj of the formal
pub record Site : Type 0 where
  pub form : Core
  pub scope : Scope
  pub formal : Option ℕ
  pub expected : List Out

pub record Placed : Type 0 where
  pub place : Place
  pub site : Site

abbrev pub down : ℕ → Placed → Placed
down i p = record { place = i ∷ p.place; site = p.site }

abbrev pub one_ordinary : List Out
one_ordinary = Ordinary ∷ []

-- the first of some kinds, ordinary where there is none; the others
abbrev pub first_kind : List Out → Out
first_kind [] = Ordinary
first_kind (o ∷ os) = o

abbrev pub other_kinds : List Out → List Out
other_kinds [] = []
other_kinds (o ∷ os) = os

-- the kinds of a function's formals
abbrev pub ins_of : World → ℕ → List Out
ins_of w f = option_map_or (λ (s : Signature). s.ins) (signature_of w [] f) []

abbrev pub formal_stobj : Out → Option ℕ
formal_stobj Ordinary = None
formal_stobj (Stobj x) = Some x

-- in a stobj position, the stobj whose variable the actual is
abbrev pub actual_kind : Out → Option ℕ → Out
actual_kind Ordinary v = Ordinary
actual_kind (Stobj x) None = Stobj x
actual_kind (Stobj x) (Some y) = Stobj y

abbrev pub actual_expected : Out → Core → List Out
actual_expected kind f = actual_kind kind (variable f) ∷ []

-- the variable of the parent that the first binding of a `STOBJ-LET` names
abbrev pub parent_in : Cores → Option ℕ
parent_in none = None
parent_in (more f fs) = option_map (λ r. r.parent) (reached f)

abbrev pub here : Core → Scope → Option ℕ → List Out → Placed
here f scope formal expected = record { place = []; site = record { form = f; scope = scope; formal = formal; expected = expected } }

-- the places of child number k: its root, and those below it
abbrev pub child : ℕ → Core → Scope → List Out → List Placed → List Placed
child i f scope expected inner = map (down i) (here f scope None expected ∷ inner)

unfoldable mutual
  -- the places below a form
  pub below : World → Scope → Core → List Out → List Placed
  below w scope (Var x) expected = []
  below w scope (Const o) expected = []
  below w scope (If a b c) expected =
      child 0 a scope one_ordinary (below w scope a one_ordinary) ++ (child 1 b scope expected (below w scope b expected) ++ child 2 c scope expected (below w scope c expected))
  below w scope (Let names bound body) expected =
      below_parts w scope (name_kinds w names) 0 bound ++ child (count bound) body (binding w scope names) expected (below w (binding w scope names) body expected)
  below w scope (Mv parts) expected = below_parts w scope expected 0 parts
  below w scope (MvLet names bound body) expected =
      child 0 bound scope (name_kinds w names) (below w scope bound (name_kinds w names)) ++ child 1 body (binding w scope names) expected (below w (binding w scope names) body expected)
  below w scope (StobjLet names bound vars producer consumer) expected =
      child 0 producer (producer_scope w scope (parent_in bound) names) (name_kinds w vars) (below w (producer_scope w scope (parent_in bound) names) producer (name_kinds w vars))
      ++ child 1 consumer (consumer_scope w scope names vars) expected (below w (consumer_scope w scope names vars) consumer expected)
  below w scope (WithLocal stobj names producer body) expected =
      child 0 producer (local_scope w scope stobj) (name_kinds w names) (below w (local_scope w scope stobj) producer (name_kinds w names))
      ++ child 1 body (body_scope w scope stobj names) expected (below w (body_scope w scope stobj names) body expected)
  below w scope (MustBeEqual logic exec) expected = child 0 logic scope expected (below w scope logic expected) ++ child 1 exec scope expected (below w scope exec expected)
  below w scope (Call f actuals) expected = below_actuals w scope (ins_of w f) 0 actuals

  -- forms of which each is expected to give one output: those bound to names, and the parts of an `MV`
  pub below_parts : World → Scope → List Out → ℕ → Cores → List Placed
  below_parts w scope kinds i none = []
  below_parts w scope kinds i (more f fs) =
      child i f scope (first_kind kinds ∷ []) (below w scope f (first_kind kinds ∷ [])) ++ below_parts w scope (other_kinds kinds) (i + 1) fs

  -- the actuals of a call
  pub below_actuals : World → Scope → List Out → ℕ → Cores → List Placed
  below_actuals w scope ins i none = []
  below_actuals w scope ins i (more f fs) =
      map (down i) (here f scope (formal_stobj (first_kind ins)) (actual_expected (first_kind ins) f) ∷ below w scope f (actual_expected (first_kind ins) f))
      ++ below_actuals w scope (other_kinds ins) (i + 1) fs

-- all places of a form, from its root
abbrev pub sites : World → Scope → Core → List Out → List Placed
sites w scope f expected = here f scope None expected ∷ below w scope f expected
