use Rattle.std.specs.Prelude.{slice_get, option_map, option_and_then}
use Rattle.std.proofs.Common.{sym, ap, ◌∙◌}
use Rattle.acl_terms.specs.Definitions.{seen_definition}
use Rattle.acl_worlds.proofs.WorldLemmas.{definition_at}
use Rattle.acl_worlds.proofs.World.look.Goals as goal

pub returns-in-Some : goal.returns-in-Some
returns-in-Some c = record {
  found =
      ap (option_map (seen_definition c.args._heap.now)) (sym c.at.ensures ∙ ap (option_and_then (slice_get c.args.self.now.definitions)) c.in-Some.ensures.found)
      ∙ sym (definition_at c.args._heap.now c.args.self.now c.args.name.0);
}

pub returns-in-None : goal.returns-in-None
returns-in-None c = record {
  found =
      ap (λ o. option_map (seen_definition c.args._heap.now) (option_and_then (slice_get c.args.self.now.definitions) o)) c.in-None.ensures.found
      ∙ sym (definition_at c.args._heap.now c.args.self.now c.args.name.0);
}
