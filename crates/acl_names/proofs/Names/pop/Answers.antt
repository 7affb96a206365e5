use Rattle.std.proofs.Common.{subst}
use Rattle.acl_names.specs.Fields.{AreFields}
use Rattle.acl_names.proofs.FieldLemmas.{place_there, fields_pop}
use Rattle.acl_names.proofs.Names.pop.Goals as goal

pub put_back-requires : goal.put_back-requires
put_back-requires c =
    place_there c.pop.new.self.items c.self.inside.latest.entries c.in-Some.named (subst (λ ns. AreFields ns c.self.inside.latest.entries) c.in-Some.ensures.items c.self.invariant)

pub invariant_of-self : goal.invariant_of-self
invariant_of-self c =
    fields_pop c.pop.new.self.items c.self.inside.latest.entries c.put_back.new.latest.entries c.in-Some.named
    (subst (λ ns. AreFields ns c.self.inside.latest.entries) c.in-Some.ensures.items c.self.invariant) c.put_back.ensures
