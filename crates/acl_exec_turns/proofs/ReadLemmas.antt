-- What is read of an export, and what stands at the number of its exec function.
use Rattle.std.proofs.Common.{◌≡◌, ℕ, zero, suc, ◌≤◌, ◌<◌, List, [], ◌∷◌, length, map, get_or, refl, sym, ap, ◌∙◌, arith, subst}
use Rattle.std.specs.Prelude.{Option, Some, None, slice_get, option_map}
use Rattle.std.proofs.lemmas.List.{length-map}
use Rattle.model_prims.specs.Rows.{table}
use Rattle.model_slots.specs.Resolved.{number_in}
use Rattle.acl_base.specs.declared.FnId.{FnId}
use Rattle.acl_base.specs.declared.SymId.{SymId}
use Rattle.acl_heap.specs.Objects.{Objects}
use Rattle.acl_terms.specs.Definitions.{seen_definition, FitsTable}
use Rattle.acl_terms.specs.declared.definition.Definition.{Definition}
use Rattle.acl_terms.specs.declared.definition.Definition.TheVariants as definition
use Rattle.acl_worlds.specs.Contents.{Content, IsWorld, number_of}
use Rattle.acl_machine.specs.Views.{Around, world_of}
use Rattle.acl_export_turns.specs.Exports.{abstract_in, name_of, exec_of, formals_of, export_at}
use Rattle.acl_export_turns.specs.Steps.{IsNoExec, MayNotRun}
use Rattle.acl_export_turns.proofs.ExportLemmas.{none_there, export_name, export_exec, export_formals, number_seen}
use Rattle.acl_exec_turns.specs.Exports.{Reads}
use Rattle.acl_exec_turns.specs.Execs.{exec_number, IsNoneToRun, PrimitivesStand}

-- ---- an export

pub reads_past : (ds : List Definition) (n : ℕ) (name exec : SymId) (count : ℕ) → length ds ≤ n → name.0 ≡ 0 → exec.0 ≡ 0 → count ≡ 0 → Reads (slice_get ds n) name exec count
reads_past ds n name exec count l x y z =
    let none : None ≡ abstract_in (slice_get ds n) = none_there ds n l in
    record { name_is = x ∙ ap name_of none; exec_is = y ∙ ap exec_of none; count_is = z ∙ ap (λ f. length (formals_of f)) none }

pub reads_there : (d : Option Definition) (e : Definition) (name exec : SymId) (count : ℕ) → d ≡ Some e → name.0 ≡ name_of (abstract_in (Some e)) → exec.0 ≡ exec_of (abstract_in (Some e)) → count ≡ length (formals_of (abstract_in (Some e))) → Reads d name exec count
reads_there d e name exec count is x y z = record {
  name_is = x ∙ ap (λ d. name_of (abstract_in d)) (sym is);
  exec_is = y ∙ ap (λ d. exec_of (abstract_in d)) (sym is);
  count_is = z ∙ ap (λ d. length (formals_of (abstract_in d))) (sym is);
}

pub exec_found : (w : Content) (f : FnId) (name exec : SymId) (count : ℕ) (n : Option ℕ) → Reads (slice_get w.definitions f.0) name exec count → n ≡ number_of w exec.0 → n ≡ exec_number w f
exec_found w f name exec count n reads e = e ∙ ap (number_of w) reads.exec_is

module _ (a : Around) (f : FnId) (name exec : SymId) (count : ℕ) (reads : Reads (slice_get a.content.definitions f.0) name exec count) where
  pub name_read : name.0 ≡ (export_at a f.0).name
  name_read = reads.name_is ∙ sym (export_name a f.0)

  pub exec_read : exec.0 ≡ (export_at a f.0).exec
  exec_read = reads.exec_is ∙ sym (export_exec a f.0)

  pub count_read : count ≡ length (export_at a f.0).formals
  count_read = reads.count_is ∙ sym (length-map (formals_of (abstract_in (slice_get a.content.definitions f.0))) (λ (s : SymId). s.0)) ∙ sym (ap length (export_formals a f.0))

-- the number of its exec function
pub number_read : (a : Around) (f : FnId) → number_in (world_of a) (export_at a f.0).exec ≡ exec_number a.content f
number_read a f = ap (number_in (world_of a)) (export_exec a f.0) ∙ number_seen a.heap a.content (exec_of (abstract_in (slice_get a.content.definitions f.0)))

-- ---- what stands at a number

pub seen_option : (h : Objects) (ds : List Definition) (n : ℕ) → slice_get (map (seen_definition h) ds) n ≡ option_map (seen_definition h) (slice_get ds n)
seen_option h [] n = refl
seen_option h (d ∷ ds) zero = refl
seen_option h (d ∷ ds) (suc n) = seen_option h ds n

-- each primitive of a world has a row
pub row_there : (w : Content) (n : ℕ) (name : SymId) (row arity : ℕ) → PrimitivesStand w → slice_get w.definitions n ≡ Some (definition.Primitive name row arity) → row < length table
row_there w n name row arity stand e = stand.rows n name row arity e

same_there : (d e : Definition) → Some d ≡ Some e → d ≡ e
same_there d e q = cc

read_there : (ds : List Definition) (n : ℕ) (d : Definition) → slice_get ds n ≡ Some d → (n < length ds) × (get_or ds n d ≡ d)
read_there [] n d e = absurd (nothing e)
  where
    nothing : None ≡ Some d → ⊥
    nothing q = cc
read_there (x ∷ xs) zero d e = (omega arith, same_there x d e)
read_there (x ∷ xs) (suc n) d e = let r = read_there xs n d e in (omega (arith, r.0), r.1)

-- as every world has it
pub primitives_stand : (w : Content) → IsWorld w → PrimitivesStand w
primitives_stand w world = record { rows = λ n name row arity e. has_row name row arity n e }
  where
    fits : (d : Definition) (n : ℕ) → slice_get w.definitions n ≡ Some d → FitsTable d
    fits d n e = let r = read_there w.definitions n d e in subst FitsTable r.1 (world.fit n d r.0)

    has_row : (name : SymId) (row arity n : ℕ) → slice_get w.definitions n ≡ Some (definition.Primitive name row arity) → row < length table
    has_row name row arity n e = (fits (definition.Primitive name row arity) n e).0

-- ---- no exec function

pub none_runs : (ds : List Definition) (n : Option ℕ) → n ≡ None → IsNoneToRun ds n
none_runs ds n e = record { none = subst (MayNotRun ds) (sym e) tt }

pub none_found : (ds : List Definition) (r : Option FnId) (n : Option ℕ) → r ≡ None → option_map (λ (f : FnId). f.0) r ≡ n → IsNoneToRun ds n
none_found ds r n e f = none_runs ds n (sym f ∙ ap (option_map (λ (f : FnId). f.0)) e)

-- and one that is found
pub some_found : (r : Option FnId) (g : FnId) (n : Option ℕ) → r ≡ Some g → option_map (λ (f : FnId). f.0) r ≡ n → n ≡ Some g.0
some_found r g n e f = sym f ∙ ap (option_map (λ (f : FnId). f.0)) e

pub not_run : (ds : List Definition) (n : Option ℕ) (k : ℕ) (d : Definition) → n ≡ Some k → slice_get ds k ≡ Some d → IsNoExec d → IsNoneToRun ds n
not_run ds n k d e is bars = record { none = subst (MayNotRun ds) (sym e) (λ x q. subst IsNoExec (same_there d x (sym is ∙ q)) bars) }
