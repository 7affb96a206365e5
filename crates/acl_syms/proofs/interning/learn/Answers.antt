use Rattle.std.proofs.Common.{refl}
use Rattle.acl_syms.proofs.MapLemmas.{learns}
use Rattle.acl_syms.proofs.interning.learn.Goals as goal

pub returns-clause-learns : goal.returns-clause-learns
returns-clause-learns c =
    learns (λ k. k.items) c.args.known.now c.insert.new.self c.args.name c.args.name.items c.args.number refl c.requires c.in_ok-insert.ensures.entries
