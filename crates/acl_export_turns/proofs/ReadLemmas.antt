-- What a turn reads of an export, and the actuals that it takes.
use Rattle.std.proofs.Common.{◌≡◌, ℕ, ◌+◌, List, [], ◌∷◌, ◌++◌, length, refl, sym, ap, ◌∙◌, subst}
use Rattle.std.specs.Prelude.{Option, Some, None, slice_get}
use Rattle.std.proofs.lemmas.List.{length-map}
use Rattle.acl_base.specs.declared.SymId.{SymId}
use Rattle.acl_heap.specs.Objects.{Objects}
use Rattle.model_eval.specs.Outcomes as outcomes
use Rattle.model_slots.specs.Laws.{as_formals}
use Rattle.model_window.specs.Windows.{actuals_at, all_written, stobj_names}
use Rattle.acl_terms.specs.Forms.{numbers}
use Rattle.acl_terms.specs.declared.definition.AbstractFunction.{AbstractFunction}
use Rattle.acl_terms.specs.declared.outcome.Shown.{Shown}
use Rattle.acl_keep.specs.Seen.{all_seen}
use Rattle.acl_machine.specs.declared.machine.Machine.{Machine}
use Rattle.acl_machine.specs.Actuals.{actuals_in, names_of, under_formals, naming}
use Rattle.acl_machine.specs.Cells.{memory_of, top, below, WritesAll}
use Rattle.acl_machine.specs.Views.{Around}
use Rattle.acl_machine.proofs.ActualLemmas.{actuals_seen, names_seen, formals_seen, top_of_both, below_both}
use Rattle.acl_machine.proofs.MemoryLemmas.{memory_all_written}
use Rattle.acl_export_turns.specs.Exports.{abstract_in, name_of, exec_of, formals_of, export_at}
use Rattle.acl_export_turns.proofs.ExportLemmas.{export_name, export_exec, export_formals}

module _ (a : Around) (function : ℕ) (of : Option AbstractFunction) (is : of ≡ abstract_in (slice_get a.content.definitions function)) where
  pub name_read : (x : SymId) → x.0 ≡ name_of of → x.0 ≡ (export_at a function).name
  name_read x e = e ∙ ap name_of is ∙ sym (export_name a function)

  pub exec_read : (x : SymId) → x.0 ≡ exec_of of → x.0 ≡ (export_at a function).exec
  exec_read x e = e ∙ ap exec_of is ∙ sym (export_exec a function)

  pub formals_read : (fs : List SymId) → fs ≡ formals_of of → numbers fs ≡ (export_at a function).formals
  formals_read fs e = ap numbers (e ∙ ap formals_of is) ∙ sym (export_formals a function)

  pub count_read : (fs : List SymId) → fs ≡ formals_of of → length fs ≡ length (export_at a function).formals
  count_read fs e = sym (length-map fs (λ (s : SymId). s.0)) ∙ ap length (formals_read fs e)

  pub actuals_read : (fs : List SymId) → fs ≡ formals_of of → (m : Machine) (base names : ℕ) (acts : List Shown) → acts ≡ actuals_in m base (length fs) names
      → all_seen a.heap acts ≡ actuals_at (memory_of a.heap m.values) base (length (export_at a function).formals) (numbers (top names m.names))
  actuals_read fs e m base names acts f =
      ap (all_seen a.heap) f ∙ actuals_seen a.heap m base (length fs) names
      ∙ ap (λ n. actuals_at (memory_of a.heap m.values) base n (numbers (top names m.names))) (count_read fs e)

-- ---- actuals that are written

pub written_read : (h : Objects) (at : ℕ) (fs : List SymId) (acts old new : List Shown) → WritesAll at (under_formals fs acts) old new → memory_of h new ≡ all_written at (as_formals (numbers fs) (all_seen h acts)) (memory_of h old)
written_read h at fs acts old new w = memory_all_written h at (under_formals fs acts) old new w ∙ ap (λ vs. all_written at vs (memory_of h old)) (formals_seen h fs acts)

pub names_read : (h : Objects) (old : List SymId) (acts : List Shown) (n : ℕ) → n ≡ length (names_of acts) → numbers (top n (old ++ names_of acts)) ≡ stobj_names (all_seen h acts)
names_read h old acts n e = ap (λ k. numbers (top k (old ++ names_of acts))) e ∙ ap numbers (top_of_both old (names_of acts)) ∙ names_seen h acts

pub others_read : (old : List SymId) (acts : List Shown) (n : ℕ) → n ≡ length (names_of acts) → below n (old ++ names_of acts) ≡ old
others_read old acts n e = ap (λ k. below k (old ++ names_of acts)) e ∙ below_both old (names_of acts)
