use Rattle.std.specs.Prelude.{take}
use Rattle.std.proofs.Common.{sym, ap, ◌∙◌, subst}
use Rattle.acl_worlds.specs.Contents.{Content, cut, with_layouts}
use Rattle.acl_worlds.specs.Fields.{content_of, AreFields}
use Rattle.acl_worlds.proofs.WorldLemmas.{fields_take, layouts_take}
use Rattle.acl_worlds.proofs.World.cut_to.Goals as goal

pub invariant_of-self : goal.invariant_of-self
invariant_of-self c =
    let ds = c.self.inside.definitions.items in
    let ls = c.self.inside.layouts.items in
    let names = c.self.inside.names.keys in
    let n = c.args.mark.definitions in
    subst (λ xs. AreFields xs c.truncate-3.new.self.items c.truncate-2.new.self.keys) (sym c.truncate.ensures.items)
    (subst (λ ks. AreFields (take n ds) c.truncate-3.new.self.items ks) (sym c.truncate-2.ensures.keys) (fields_take ds ls c.truncate-3.new.self.items names n c.self.invariant))

pub returns : goal.returns
returns c =
    let ds = c.self.inside.definitions.items in
    let ls = c.self.inside.layouts.items in
    let n = c.args.mark.definitions in
    let k = c.args.mark.layouts in
    ap (λ xs. content_of xs c.truncate-3.new.self.items) c.truncate.ensures.items
    ∙ (ap (content_of (take n ds)) c.truncate-3.ensures.items
    ∙ (ap (λ ms. with_layouts (take n ds) ms) (layouts_take k ls) ∙ ap (λ (w : Content). cut w n k) c.self.view_is))
