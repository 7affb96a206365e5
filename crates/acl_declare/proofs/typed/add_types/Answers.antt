use Rattle.std.proofs.Common.{rules, ◌≡◌, ◌∷◌, ◌∙◌}
use Rattle.acl_heap.specs.Growth.{Extends-then}
use Rattle.acl_declare.specs.Said.{seen_declared}
use Rattle.acl_declare.proofs.TypedLemmas.{types_more}
use Rattle.acl_declare.proofs.typed.add_types.Goals as goal

pub names-preserved : goal.names-preserved
names-preserved c =
    let added = c.in_ok-add_type.ensures in
    let e : c.names.rest.now ≡ c.in-Some.name.now ∷ c.in-Some.others.now = search rules in
    record {
      grows = Extends-then c.names.invariant.grows added.grows;
      reach = added.reach;
      same = c.names.invariant.same ∙ types_more c.args.syms.now.symbols c.names.invariant.grows c.args.spec c.requires.spec (seen_declared c.names.heap c.names.said)
          (seen_declared c.add_type.new.heap c.add_type.new.said) c.in_ok-add_type.field-0 c.in-Some.name.now c.names.rest.now c.in-Some.others.now e added.is c.if-not-branch.false;
    }
