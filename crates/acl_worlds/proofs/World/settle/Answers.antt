use Rattle.std.specs.Prelude.{slice_get}
use Rattle.std.proofs.Common.{sym, ap, ◌∙◌, subst}
use Rattle.acl_worlds.specs.Contents.{Content, names_in}
use Rattle.acl_worlds.specs.Fields.{AreFields}
use Rattle.acl_worlds.proofs.WorldLemmas.{fields_set}
use Rattle.acl_worlds.proofs.World.settle.Goals as goal

pub invariant_of-self : goal.invariant_of-self
invariant_of-self c =
    subst (λ ds. AreFields ds c.self.inside.layouts.items c.self.inside.names.keys) (sym c.replace.ensures)
    (fields_set c.self.inside.definitions.items c.self.inside.layouts.items c.self.inside.names.keys c.args.f.0 c.args.d c.self.invariant
    (ap (λ (w : Content). slice_get (names_in w.definitions) c.args.f.0) c.self.view_is ∙ c.requires.name) c.requires.fits)
