use Rattle.std.specs.Prelude.{◌∷◌, [], ◌++◌}
use Rattle.std.proofs.Common.{sym, ap, ◌∙◌, subst}
use Rattle.acl_terms.specs.Definitions.{name_in}
use Rattle.acl_worlds.specs.Contents.{Content, number_of}
use Rattle.acl_worlds.specs.Fields.{AreFields}
use Rattle.acl_worlds.proofs.WorldLemmas.{fields_push}
use Rattle.acl_worlds.proofs.World.add.Goals as goal

pub invariant_of-self-in-Ok : goal.invariant_of-self-in-Ok
invariant_of-self-in-Ok c =
    let ds = c.self.inside.definitions.items in
    let ls = c.self.inside.layouts.items in
    let names = c.self.inside.names.keys in
    let made = fields_push ds ls names c.args.d c.self.invariant (ap (λ (w : Content). number_of w (name_in c.args.d)) c.self.view_is ∙ c.requires.fresh) c.requires.fits in
    subst (λ xs. AreFields xs ls c.enlist.new.names.keys) (sym c.in_ok-push.ensures.items)
    (subst (λ ks. AreFields (ds ++ c.args.d ∷ []) ls ks) (sym (c.in-Ok.ensures.ok ∙ ap (λ n. names ++ n ∷ []) c.name-name.ensures)) made)
