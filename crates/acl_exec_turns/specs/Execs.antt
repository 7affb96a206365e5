-- The exec function of an export: which it is, the actuals of its call, and what that asks of a keeper.
use Rattle.std.specs.Prelude.{◌≡◌, ◌<◌, ℕ, List, length, Option, Some, None, slice_get}
use Rattle.model_prims.specs.Rows.{table}
use Rattle.model_terms.specs.Worlds.{World}
use Rattle.model_eval.specs.Outcomes as outcomes
use Rattle.model_eval.specs.Keeping.{Keeping}
use Rattle.acl_base.specs.declared.FnId.{FnId}
use Rattle.acl_base.specs.declared.SymId.{SymId}
use Rattle.acl_heap.specs.Objects.{Objects}
use Rattle.acl_terms.specs.declared.outcome.Shown.{Shown}
use Rattle.acl_terms.specs.declared.definition.Definition.{Definition}
use Rattle.acl_terms.specs.declared.definition.Definition.TheVariants as definition
use Rattle.acl_terms.specs.Definitions.{seen_generated}
use Rattle.acl_worlds.specs.Contents.{Content, seen_world, number_of}
use Rattle.acl_keep.specs.Seen.{all_seen}
use Rattle.acl_keep.specs.Calls.{Called}
use Rattle.acl_machine.specs.declared.machine.Machine.{Machine}
use Rattle.acl_machine.specs.Actuals.{actuals_in}
use Rattle.acl_machine.specs.Keeping.{Goes}
use Rattle.acl_export_turns.specs.Exports.{abstract_in, exec_of, formals_of}
use Rattle.acl_export_turns.specs.Steps.{MayNotRun}

-- ---- what a world has of it

-- its number, by the export's
abbrev pub exec_number : Content → FnId → Option ℕ
exec_number w f = number_of w (exec_of (abstract_in (slice_get w.definitions f.0)))

abbrev pub definition_of : List Definition → Option ℕ → Option Definition
definition_of ds None = None
definition_of ds (Some n) = slice_get ds n

-- the actuals of the export's call, in a window, with so many objects among them
abbrev pub export_actuals : Content → FnId → ℕ → ℕ → Machine → List Shown
export_actuals w f base names m = actuals_in m base (length (formals_of (abstract_in (slice_get w.definitions f.0)))) names

-- each primitive has a row of the table
pub record PrimitivesStand (w : Content) : Type 0 where
  pub rows : (n : ℕ) (name : SymId) (row arity : ℕ) → slice_get w.definitions n ≡ Some (definition.Primitive name row arity) → row < length table

-- there is no definition of this number that an export may run
pub record IsNoneToRun (ds : List Definition) (n : Option ℕ) : Type 0 where
  pub none : MayNotRun ds n

-- ---- what is kept

module _ {O B : Type 0} (keeping : Keeping ℕ O B) (MayCall : Called → O → List B → Type 0) where
  -- a function of this definition may be called with these values inside an export that begins: a keeper is asked for functions
  -- that objects come with, and for nothing else
  abbrev pub MayRun : World → List (outcomes.Shown ℕ) → Option Definition → O → List B → Type 0
  MayRun w values None kept lefts = Unit {0}
  MayRun w values (Some (definition.Primitive name row arity)) kept lefts = Unit {0}
  MayRun w values (Some (definition.Function f)) kept lefts = Unit {0}
  MayRun w values (Some (definition.Macro m)) kept lefts = Unit {0}
  MayRun w values (Some (definition.Constant name value)) kept lefts = Unit {0}
  MayRun w values (Some (definition.Object descriptor layout class)) kept lefts = Unit {0}
  MayRun w values (Some (definition.Generated f)) kept lefts =
      MayCall (record { world = w; function = seen_generated f; values = values }) (keeping.begin_export kept) lefts
  MayRun w values (Some (definition.Abstract descriptor)) kept lefts = Unit {0}
  MayRun w values (Some (definition.OfAbstract f)) kept lefts = Unit {0}
  MayRun w values (Some (definition.Named name formals)) kept lefts = Unit {0}
  MayRun w values (Some (definition.Signed name formals signature executable)) kept lefts = Unit {0}

  -- the exec function of an export may be called, whose call has its window here and so many objects among its actuals
  abbrev pub MayExec : Objects → Content → FnId → ℕ → ℕ → Machine → O → List B → Type 0
  MayExec h w f base names m = MayRun (seen_world h w) (all_seen h (export_actuals w f base names m)) (definition_of w.definitions (exec_number w f))

-- what was kept with a machine is kept still
pub record StillGoes {O B : Type 0} (Before After : O → List B → Type 0) (m : Machine) : Type 0 where
  pub keeps : (kept : O) (lefts : List B) → Goes Before m kept lefts → After kept lefts
