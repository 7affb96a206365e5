-- A ready form, where it may stand and where it may not.
use Rattle.std.specs.Prelude.{◌≡◌, ◌≤◌, length, None}
use Rattle.std.proofs.Common.{sym, ap, ◌∙◌, subst}
use Rattle.model_expansion.specs.Layers as layers
use Rattle.model_expansion.specs.Expansion as expansion
use Rattle.model_expansion_parts.specs.Known.{KnowsForm}
use Rattle.acl_terms.specs.declared.form.Core.{Core}
use Rattle.acl_terms.specs.Forms.{seen_core, core_reach}
use Rattle.acl_terms.specs.Signatures.{seen_name}
use Rattle.acl_expand.specs.declared.progress.Refused.{Refused}
use Rattle.acl_expand.specs.Refusals.{IsTold}
use Rattle.acl_expand.specs.Looks.{setting_at, seen_fault}
use Rattle.acl_expand.specs.Progresses.{seen_progress}
use Rattle.acl_growing.proofs.ToldLemmas.{form_no_stop, fault_told}
use Rattle.acl_guards.proofs.ItemLemmas.{ready_stands, ready_fails}
use Rattle.acl_guards.proofs.item.grow_ready.Goals as goal

pub returns-in-Some-clause-ends : goal.returns-in-Some-clause-ends
returns-in-Some-clause-ends c = λ known.
    let x = setting_at c.args.heap.now c.args.world.now c.args.syms.now c.args.limits.steps c.args.limits.depth in
    subst (λ (r : Refused). expansion.grown x c.args.left (layers.Ready (seen_core c.args.heap.now c.args.core.now)) (seen_progress c.args.syms.now.symbols c.args._progress)
    ≡ expansion.Fails (seen_fault c.args.heap.now (seen_name r.inside) r.fault) (seen_progress c.args.syms.now.symbols c.args._progress)) (sym c.no_stop.ensures)
    (ready_fails x c.args.left (seen_core c.args.heap.now c.args.core.now) (seen_progress c.args.syms.now.symbols c.args._progress) (seen_fault c.args.heap.now None c.in-Some.fault) c.in-Some.ensures)

pub returns-in-Some-clause-told : goal.returns-in-Some-clause-told
returns-in-Some-clause-told c =
    let x = setting_at c.args.heap.now c.args.world.now c.args.syms.now c.args.limits.steps c.args.limits.depth in
    subst IsTold (sym c.no_stop.ensures) (fault_told c.args.heap.now _ _ c.in-Some.ensures (form_no_stop x (seen_core c.args.heap.now c.args.core.now) c.args.left))

pub returns-in_ok-copy-in-None-clause-ends : goal.returns-in_ok-copy-in-None-clause-ends
returns-in_ok-copy-in-None-clause-ends c =
    let x = setting_at c.args.heap.now c.args.world.now c.args.syms.now c.args.limits.steps c.args.limits.depth in (
      ready_stands x c.args.left (seen_core c.args.heap.now c.args.core.now) (seen_progress c.args.syms.now.symbols c.args._progress) c.in-None.ensures
          ∙ ap (λ (f : Core). expansion.Makes (seen_core c.args.heap.now f) (seen_progress c.args.syms.now.symbols c.args._progress)) (sym c.in_ok-copy-in-None.ensures),
      subst (λ (f : Core). core_reach f ≤ length c.args.heap.now) (sym c.in_ok-copy-in-None.ensures) c.requires.core,
    )

pub returns-in_ok-copy-in-None-clause-known : goal.returns-in_ok-copy-in-None-clause-known
returns-in_ok-copy-in-None-clause-known c = subst (λ (f : Core). KnowsForm (length c.args.syms.now.symbols) (seen_core c.args.heap.now f)) (sym c.in_ok-copy-in-None.ensures) c.requires.known
