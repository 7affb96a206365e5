-- A ready form at its place.
use Rattle.std.specs.Prelude.{◌≡◌, length}
use Rattle.std.proofs.Common.{sym, subst}
use Rattle.model_terms.specs.Cores as cores
use Rattle.model_expansion.specs.Expansion as expansion
use Rattle.model_expansion_parts.specs.Known.{KnowsForm}
use Rattle.acl_terms.specs.Forms.{seen_core}
use Rattle.acl_terms.specs.Signatures.{seen_name}
use Rattle.acl_layers.specs.Layers.{seen_ready}
use Rattle.acl_expand.specs.declared.progress.Refused.{Refused}
use Rattle.acl_expand.specs.Refusals.{IsTold}
use Rattle.acl_expand.specs.Looks.{setting_at, seen_fault}
use Rattle.acl_expand.specs.Progresses.{seen_progress}
use Rattle.acl_growing.proofs.PlaceLemmas.{leaf_stands, leaf_fails}
use Rattle.acl_growing.proofs.ToldLemmas.{form_no_stop, fault_told}
use Rattle.acl_growing.proofs.placing.ready_placed.Goals as goal

pub returns-in-Some-clause-ends : goal.returns-in-Some-clause-ends
returns-in-Some-clause-ends c = λ known.
    subst (λ (r : Refused). expansion.ready (setting_at c.args.heap.now c.args.world.now c.args.syms.now c.args.limits.steps c.args.limits.depth) c.args.left (seen_ready c.args.heap.now c.args.ready) (seen_progress c.args.syms.now.symbols c.args._progress)
    ≡ expansion.Fails (seen_fault c.core_of.new.heap (seen_name r.inside) r.fault) (seen_progress c.args.syms.now.symbols c.args._progress)) (sym c.no_stop.ensures)
    (leaf_fails c.core_of.ensures.grows c.args.world.now c.args.syms.now c.args.limits.steps c.args.limits.depth c.requires.world c.args.left (seen_core c.core_of.new.heap c.in_ok-core.core) (seen_ready c.args.heap.now c.args.ready) (seen_progress c.args.syms.now.symbols c.args._progress)
    c.in_ok-core.ensures.ok.0 _ c.in-Some.ensures)

pub returns-in-None-clause-ends : goal.returns-in-None-clause-ends
returns-in-None-clause-ends c = (
  leaf_stands c.core_of.ensures.grows c.args.world.now c.args.syms.now c.args.limits.steps c.args.limits.depth c.requires.world c.args.left (seen_core c.core_of.new.heap c.in_ok-core.core) (seen_ready c.args.heap.now c.args.ready) (seen_progress c.args.syms.now.symbols c.args._progress)
      c.in_ok-core.ensures.ok.0 c.in-None.ensures,
  c.in_ok-core.ensures.ok.1,
)

pub returns-in-None-clause-known : goal.returns-in-None-clause-known
returns-in-None-clause-known c =
    subst (λ (f : cores.Core). KnowsForm (length c.args.syms.now.symbols) f) (sym c.in_ok-core.ensures.ok.0) c.requires.known

pub returns-in-Some-clause-told : goal.returns-in-Some-clause-told
returns-in-Some-clause-told c =
    let x = setting_at c.core_of.new.heap c.args.world.now c.args.syms.now c.args.limits.steps c.args.limits.depth in
    subst IsTold (sym c.no_stop.ensures) (fault_told c.core_of.new.heap _ _ c.in-Some.ensures (form_no_stop x (seen_core c.core_of.new.heap c.in_ok-core.core) c.args.left))
