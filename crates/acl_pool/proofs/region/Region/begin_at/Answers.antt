use Rattle.std.specs.Prelude.{◌≡◌, ◌+◌, ◌/◌, length, false}
use Rattle.std.specs.Int.{w128}
use Rattle.std.proofs.Common.{rules, refl, sym, ap, subst, ◌∙◌, to_z, of_z, get_or}
use Rattle.model_objects.specs.Object.{Object, Integer, Text, fits_64}
use Rattle.acl_heap.specs.Objects.{nothing, IsCellObject}
use Rattle.acl_pool.specs.Copying.{Starts}
use Rattle.acl_pool.proofs.BeginLemmas.{starts_gives, starts_wide}
use Rattle.acl_pool.proofs.region.Region.begin_at.Goals as goal

pub returns-in-Text : goal.returns-in-Text
returns-in-Text c =
    let bytes = c.in-Text.bytes.now in
    subst (λ (o : Object _). Starts c.args.heap.now c.args.self.now c.copy_text.new.self c.args.waiting.now c.args.waiting.now c.copy_text.result o) (sym c.in-Text.ensures.sees)
    (starts_gives c.args.heap.now c.args.self.now c.copy_text.new.self c.args.waiting.now c.copy_text.result (Text bytes) (1 + (length bytes + 7) / 8) c.copy_text.ensures.gives refl c.copy_text.ensures.narrow)

pub returns-in-Integer : goal.returns-in-Integer
returns-in-Integer c =
    let n = c.in-Integer.n in
    let back : to_z w128 (of_z w128 n) ≡ n = search rules in
    let cell : IsCellObject (get_or c.args.heap.now c.args.n nothing) = c.is_heap.ensures.cell c.args.n c.requires.lies in
    let wide : fits_64 n ≡ false = (subst IsCellObject c.in-Integer.ensures.sees cell).0 in
    subst (λ (o : Object _). Starts c.args.heap.now c.args.self.now c.copy_wide.new.self c.args.waiting.now c.args.waiting.now c.copy_wide.result o) (ap Integer back ∙ sym c.in-Integer.ensures.sees)
    (starts_wide c.args.heap.now c.args.self.now c.copy_wide.new.self c.args.waiting.now c.copy_wide.result (to_z w128 (of_z w128 n)) c.copy_wide.ensures.gives (ap fits_64 back ∙ wide) c.copy_wide.ensures.narrow)
