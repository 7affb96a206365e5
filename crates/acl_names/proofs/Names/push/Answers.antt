use Rattle.std.proofs.Common.{rules, ◌≡◌, sym, subst, Some, length}
use Rattle.acl_names.specs.declared.named.Named.{Named}
use Rattle.acl_names.specs.Places.{last_place}
use Rattle.acl_names.specs.Fields.{names_of, Sets, AreFields}
use Rattle.acl_names.proofs.FieldLemmas.{fields_push}
use Rattle.acl_names.proofs.Names.push.Goals as goal

pub invariant_of-self-in-Ok : goal.invariant_of-self-in-Ok
invariant_of-self-in-Ok c =
    let n : Named = record { name = c.args.name; earlier = c.find-earlier.result } in
    let earlier : c.find-earlier.result ≡ last_place c.args.name (names_of c.self.inside.named.items) = search rules in
    let sets : Sets c.self.inside.latest.entries c.put.new.latest.entries c.args.name (Some (length c.self.inside.named.items)) = search rules in
    subst (λ ns. AreFields ns c.put.new.latest.entries) (sym c.in_ok-push.ensures.items)
    (fields_push c.self.inside.named.items c.self.inside.latest.entries c.put.new.latest.entries n c.self.invariant earlier sets)
