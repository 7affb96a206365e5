-- The step that ends a place, and one that does not.
use Rattle.std.specs.Prelude.{◌≡◌}
use Rattle.std.proofs.Common.{sym, ◌∙◌, subst, arith}
use Rattle.model_expansion.specs.Expansion as expansion
use Rattle.acl_forms.specs.Growth.{Grown-then}
use Rattle.acl_heap.specs.Objects.{object_of}
use Rattle.acl_terms.specs.Signatures.{seen_name}
use Rattle.acl_layers.specs.Layers.{seen_found}
use Rattle.acl_expand.specs.declared.progress.Refused.{Refused}
use Rattle.acl_expand.specs.Looks.{setting_at, seen_fault}
use Rattle.acl_expand.specs.Progresses.{seen_progress}
use Rattle.acl_expand.proofs.KnownLemmas.{supplies_there}
use Rattle.acl_expand.proofs.SettleLemmas.{step_there, settled_stays, settled_fails, settled_last, settled_again}
use Rattle.acl_expand.proofs.stepping.settle.Goals as goal

pub step-requires-clause-supplies : goal.step-requires-clause-supplies
step-requires-clause-supplies g c = supplies_there c.uses.invariant.1 c.args.world.now c.requires.world c.requires.supplies

pub returns-in-Err-clause-ends : goal.returns-in-Err-clause-ends
returns-in-Err-clause-ends g c = λ known.
    c.uses.invariant.6 ∙ settled_fails (setting_at c.args.heap.now c.args.world.now c.args.syms.now c.args.limits.steps c.args.limits.depth) c.uses.left (object_of c.uses.heap c.uses.at) (seen_progress c.uses.syms.symbols c.uses.progress) (seen_progress c.step.new.syms.symbols c.step.new.progress) (seen_fault c.step.new.heap (seen_name c.in-Err.refused.inside) c.in-Err.refused.fault)
    (step_there c.uses.invariant.1.heap c.args.world.now c.args.syms.now c.uses.syms c.args.limits.steps c.args.limits.depth c.requires.world c.uses.invariant.2 (object_of c.uses.heap c.uses.at) (seen_progress c.uses.syms.symbols c.uses.progress) _ (c.in-Err.ensures.ends known))

pub returns-in-Stays-clause-ends : goal.returns-in-Stays-clause-ends
returns-in-Stays-clause-ends g c =
    let made = rw c.in-Stays.is at c.in-Ok.ensures.ends in (
      c.uses.invariant.6 ∙ settled_stays (setting_at c.args.heap.now c.args.world.now c.args.syms.now c.args.limits.steps c.args.limits.depth) c.uses.left (object_of c.uses.heap c.uses.at) (seen_progress c.uses.syms.symbols c.uses.progress) (seen_progress c.step.new.syms.symbols c.step.new.progress) (seen_found c.step.new.heap c.in-Stays.found)
          (step_there c.uses.invariant.1.heap c.args.world.now c.args.syms.now c.uses.syms c.args.limits.steps c.args.limits.depth c.requires.world c.uses.invariant.2 (object_of c.uses.heap c.uses.at) (seen_progress c.uses.syms.symbols c.uses.progress) _ made.0),
      made.1,
      made.2,
    )

pub returns-then-left-eq0-clause-ends : goal.returns-then-left-eq0-clause-ends
returns-then-left-eq0-clause-ends g c = λ known.
    let made = rw c.in-Again.is at c.in-Ok.ensures.ends in
    subst (λ (r : Refused). expansion.settle (setting_at c.args.heap.now c.args.world.now c.args.syms.now c.args.limits.steps c.args.limits.depth) (object_of c.args.heap.now c.args.form) (seen_progress c.args.syms.now.symbols c.args.progress.now)
    ≡ expansion.Fails (seen_fault c.step.new.heap (seen_name r.inside) r.fault) (seen_progress c.step.new.syms.symbols c.step.new.progress)) (sym c.at_stop.ensures)
    (c.uses.invariant.6 ∙ settled_last (setting_at c.args.heap.now c.args.world.now c.args.syms.now c.args.limits.steps c.args.limits.depth) c.uses.left (object_of c.uses.heap c.uses.at) (object_of c.step.new.heap c.in-Again.word) (seen_progress c.uses.syms.symbols c.uses.progress) (seen_progress c.step.new.syms.symbols c.step.new.progress) (omega arith)
    (step_there c.uses.invariant.1.heap c.args.world.now c.args.syms.now c.uses.syms c.args.limits.steps c.args.limits.depth c.requires.world c.uses.invariant.2 (object_of c.uses.heap c.uses.at) (seen_progress c.uses.syms.symbols c.uses.progress) _ made.0))

pub uses-preserved : goal.uses-preserved
uses-preserved g c =
    let made = rw c.in-Again.is at c.in-Ok.ensures.ends in (
      made.1,
      Grown-then c.uses.invariant.1 c.step.ensures.grows,
      c.step.ensures.packages ∙ c.uses.invariant.2,
      c.step.ensures.live ∙ c.uses.invariant.3,
      c.step.ensures.fits,
      c.step.ensures.counts,
      c.uses.invariant.6 ∙ settled_again (setting_at c.args.heap.now c.args.world.now c.args.syms.now c.args.limits.steps c.args.limits.depth) c.uses.left (object_of c.uses.heap c.uses.at) (object_of c.step.new.heap c.in-Again.word) (seen_progress c.uses.syms.symbols c.uses.progress) (seen_progress c.step.new.syms.symbols c.step.new.progress) (omega arith)
          (step_there c.uses.invariant.1.heap c.args.world.now c.args.syms.now c.uses.syms c.args.limits.steps c.args.limits.depth c.requires.world c.uses.invariant.2 (object_of c.uses.heap c.uses.at) (seen_progress c.uses.syms.symbols c.uses.progress) _ made.0),
      rw c.in-Again.is at c.in-Ok.ensures.known,
    )
