-- Functions that are expanded by their names.
use Rattle.std.specs.Prelude.{map}
use Rattle.std.proofs.Common.{◌∙◌, length}
use Rattle.acl_definitions.specs.Added.{with_definitions}
use Rattle.acl_cliques.proofs.WorldLemmas.{cut_back}
use Rattle.acl_expand.specs.Progresses.{seen_progress}
use Rattle.acl_candidates.specs.Names.{named, with_named}
use Rattle.acl_candidates.proofs.NameLemmas.{named_lies}
use Rattle.acl_candidates.proofs.ReadLemmas.{ends_named, if_fresh, if_stand, named_supplies}
use Rattle.acl_candidates.proofs.reading.read_functions.Goals as goal

pub expand_drafts-found-requires-clause-fits : goal.expand_drafts-found-requires-clause-fits
expand_drafts-found-requires-clause-fits g c = rw c.in_ok-enter_names.ensures.is c.requires.fits

pub returns-clause-fits : goal.returns-clause-fits
returns-clause-fits g c = rw c.in_ok-enter_names.ensures.is at c.expand_drafts-found.ensures.fits

pub expand_drafts-found-requires-clause-supplies : goal.expand_drafts-found-requires-clause-supplies
expand_drafts-found-requires-clause-supplies g c =
    named_supplies c.args.heap.now c.args.world.now c.enter_names.new.world c.args.drafts.now (length c.args.syms.now.symbols) c.in_ok-enter_names.ensures.is c.requires.supplies

pub returns-clause-world : goal.returns-clause-world
returns-clause-world g c =
    c.cut_to.ensures ∙ cut_back c.args.world.now c.enter_names.new.world (map named c.args.drafts.now) c.mark-mark.result.definitions c.mark-mark.result.layouts c.in_ok-enter_names.ensures.is c.mark-mark.ensures.definitions c.mark-mark.ensures.layouts

pub returns-clause-ends : goal.returns-clause-ends
returns-clause-ends g c =
    ends_named c.args.heap.now c.args.world.now c.args.drafts.now c.args.syms.now c.args.limits.steps c.args.limits.depth c.enter_names.new.world c.expand_drafts-found.new.heap _ _ c.expand_drafts-found.result
    c.in_ok-enter_names.ensures.is c.expand_drafts-found.ensures.ends

pub returns-clause-fresh : goal.returns-clause-fresh
returns-clause-fresh g c =
    let old = c.args.heap.now in
    let back = c.cut_to.ensures ∙ cut_back c.args.world.now c.enter_names.new.world (map named c.args.drafts.now) c.mark-mark.result.definitions c.mark-mark.result.layouts c.in_ok-enter_names.ensures.is c.mark-mark.ensures.definitions c.mark-mark.ensures.layouts in
    let p = seen_progress c.args.syms.now.symbols c.args.progress.now in
    let q = seen_progress c.expand_drafts-found.new.syms.symbols c.expand_drafts-found.new.progress in
    let ends = ends_named old c.args.world.now c.args.drafts.now c.args.syms.now c.args.limits.steps c.args.limits.depth c.enter_names.new.world c.expand_drafts-found.new.heap p q c.expand_drafts-found.result
    c.in_ok-enter_names.ensures.is c.expand_drafts-found.ensures.ends in
    if_fresh old c.args.world.now c.args.drafts.now c.args.syms.now c.args.limits.steps c.args.limits.depth c.expand_drafts-found.new.heap c.expand_drafts-found.ensures.grows.heap c.cut_to.new.self back c.requires.world p q c.expand_drafts-found.result ends c.expand_drafts-found.ensures.same c.requires.fresh

pub returns-clause-stand : goal.returns-clause-stand
returns-clause-stand g c =
    let old = c.args.heap.now in
    let back = c.cut_to.ensures ∙ cut_back c.args.world.now c.enter_names.new.world (map named c.args.drafts.now) c.mark-mark.result.definitions c.mark-mark.result.layouts c.in_ok-enter_names.ensures.is c.mark-mark.ensures.definitions c.mark-mark.ensures.layouts in
    let p = seen_progress c.args.syms.now.symbols c.args.progress.now in
    let q = seen_progress c.expand_drafts-found.new.syms.symbols c.expand_drafts-found.new.progress in
    let ends = ends_named old c.args.world.now c.args.drafts.now c.args.syms.now c.args.limits.steps c.args.limits.depth c.enter_names.new.world c.expand_drafts-found.new.heap p q c.expand_drafts-found.result
    c.in_ok-enter_names.ensures.is c.expand_drafts-found.ensures.ends in
    if_stand old c.args.world.now c.args.drafts.now c.args.syms.now c.args.limits.steps c.args.limits.depth c.expand_drafts-found.new.heap c.expand_drafts-found.ensures.grows.heap c.cut_to.new.self back c.requires.world p q c.expand_drafts-found.result ends c.requires.rows c.requires.shaped
