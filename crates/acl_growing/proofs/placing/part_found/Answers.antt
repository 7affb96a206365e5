-- Heap and symbols as they grow, and what is known of parts.
use Rattle.std.proofs.Common.{◌≤◌, length, subst, arith}
use Rattle.model_symbols.proofs.TableLemmas.{Extends-self}
use Rattle.model_expansion.specs.Layers as layers
use Rattle.model_expansion_parts.specs.Known.{KnowsFound}
use Rattle.acl_forms.specs.Growth.{Grown-then, Grown-heap}
use Rattle.acl_growing.proofs.placing.part_found.Goals as goal

pub returns-in_err-q-in-Ok-clause-grows : goal.returns-in_err-q-in-Ok-clause-grows
returns-in_err-q-in-Ok-clause-grows g c = Grown-then c.settle.ensures.grows (Grown-heap c.placed.ensures.grows)

pub returns-in_err-q-in-Ok-rest_found-clause-grows : goal.returns-in_err-q-in-Ok-rest_found-clause-grows
returns-in_err-q-in-Ok-rest_found-clause-grows g c = Grown-then c.rest_found.ensures.grows (Grown-heap c.placed-in-Ok-rest_found.ensures.grows)

pub returns-in_ok-q-in-Ok-clause-grows : goal.returns-in_ok-q-in-Ok-clause-grows
returns-in_ok-q-in-Ok-clause-grows g c = Grown-then c.settle.ensures.grows (Grown-heap c.placed.ensures.grows)

pub returns-in_ok-q-in-Ok-rest_found-clause-grows : goal.returns-in_ok-q-in-Ok-rest_found-clause-grows
returns-in_ok-q-in-Ok-rest_found-clause-grows g c = Grown-then c.rest_found.ensures.grows (Grown-heap c.placed-in-Ok-rest_found.ensures.grows)

pub returns-in-Err-ready_placed-clause-grows : goal.returns-in-Err-ready_placed-clause-grows
returns-in-Err-ready_placed-clause-grows g c = Grown-heap c.ready_placed.ensures.grows

pub returns-in-Ok-ready_placed-clause-grows : goal.returns-in-Ok-ready_placed-clause-grows
returns-in-Ok-ready_placed-clause-grows g c = Grown-heap c.ready_placed.ensures.grows

pub settle-requires-clause-known : goal.settle-requires-clause-known
settle-requires-clause-known g c = rw c.in-Form.is at c.requires.known

pub ready_placed-requires-clause-known : goal.ready_placed-requires-clause-known
ready_placed-requires-clause-known g c = rw c.in-Ready.is at c.requires.known

pub rest_found-requires-clause-row_known : goal.rest_found-requires-clause-row_known
rest_found-requires-clause-row_known g c = (rw c.in-Rest.is at c.requires.known).0

pub rest_found-requires-clause-known : goal.rest_found-requires-clause-known
rest_found-requires-clause-known g c = (rw c.in-Rest.is at c.requires.known).1

pub returns-in_err-q-in-Ok-clause-fits : goal.returns-in_err-q-in-Ok-clause-fits
returns-in_err-q-in-Ok-clause-fits g c = g.met.E.Engine.stays_fit c.settle.new.engine c.settle.new.heap c.placed.new.heap c.args.world.now c.settle.new.syms c.settle.new.syms c.placed.ensures.grows (Extends-self c.settle.new.syms) c.settle.ensures.fits

pub returns-in_ok-q-in-Ok-clause-fits : goal.returns-in_ok-q-in-Ok-clause-fits
returns-in_ok-q-in-Ok-clause-fits g c = g.met.E.Engine.stays_fit c.settle.new.engine c.settle.new.heap c.placed.new.heap c.args.world.now c.settle.new.syms c.settle.new.syms c.placed.ensures.grows (Extends-self c.settle.new.syms) c.settle.ensures.fits

pub returns-in_err-q-in-Ok-rest_found-clause-fits : goal.returns-in_err-q-in-Ok-rest_found-clause-fits
returns-in_err-q-in-Ok-rest_found-clause-fits g c = g.met.E.Engine.stays_fit c.rest_found.new.engine c.rest_found.new.heap c.placed-in-Ok-rest_found.new.heap c.args.world.now c.rest_found.new.syms c.rest_found.new.syms c.placed-in-Ok-rest_found.ensures.grows (Extends-self c.rest_found.new.syms) c.rest_found.ensures.fits

pub returns-in_ok-q-in-Ok-rest_found-clause-fits : goal.returns-in_ok-q-in-Ok-rest_found-clause-fits
returns-in_ok-q-in-Ok-rest_found-clause-fits g c = g.met.E.Engine.stays_fit c.rest_found.new.engine c.rest_found.new.heap c.placed-in-Ok-rest_found.new.heap c.args.world.now c.rest_found.new.syms c.rest_found.new.syms c.placed-in-Ok-rest_found.ensures.grows (Extends-self c.rest_found.new.syms) c.rest_found.ensures.fits

pub returns-in-Err-ready_placed-clause-fits : goal.returns-in-Err-ready_placed-clause-fits
returns-in-Err-ready_placed-clause-fits g c = g.met.E.Engine.stays_fit c.args.engine.now c.args.heap.now c.ready_placed.new.heap c.args.world.now c.args.syms.now c.args.syms.now c.ready_placed.ensures.grows (Extends-self c.args.syms.now) c.requires.fits

pub returns-in-Ok-ready_placed-clause-fits : goal.returns-in-Ok-ready_placed-clause-fits
returns-in-Ok-ready_placed-clause-fits g c = g.met.E.Engine.stays_fit c.args.engine.now c.args.heap.now c.ready_placed.new.heap c.args.world.now c.args.syms.now c.args.syms.now c.ready_placed.ensures.grows (Extends-self c.args.syms.now) c.requires.fits

pub returns-in_ok-q-in-Ok-clause-known : goal.returns-in_ok-q-in-Ok-clause-known
returns-in_ok-q-in-Ok-clause-known g c = subst (λ (f : layers.Found). KnowsFound (length c.settle.new.syms.symbols) f) c.in_ok-q-in-Ok.ensures.ok.0 c.in-Ok.ensures.known

pub returns-in_ok-q-in-Ok-rest_found-clause-known : goal.returns-in_ok-q-in-Ok-rest_found-clause-known
returns-in_ok-q-in-Ok-rest_found-clause-known g c = subst (λ (f : layers.Found). KnowsFound (length c.rest_found.new.syms.symbols) f) c.in_ok-q-in-Ok-rest_found.ensures.ok.0 c.in-Ok-rest_found.ensures.known
