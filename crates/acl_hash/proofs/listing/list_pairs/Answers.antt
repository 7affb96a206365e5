use Rattle.std.proofs.Common.{ap, sym, ◌∙◌, subst}
use Rattle.acl_hash.specs.Sorting.{pairs_in, named_pairs, KnowsPairs}
use Rattle.acl_hash.proofs.ListLemmas.{field_known, is_listing}
use Rattle.acl_hash.proofs.listing.list_pairs.Goals as goal

pub sorted-requires-clause-known : goal.sorted-requires-clause-known
sorted-requires-clause-known c =
    subst (KnowsPairs c.args.syms.now.symbols) (sym (ap (pairs_in c.copy_entries.new.heap) c.as_slice.ensures.value ∙ c.in_ok-copied.ensures.pairs))
    (field_known c.args.syms.now.symbols c.args.pool.now c.args.places.now.entries c.requires.known c.copy_entries.ensures.distinct)

pub returns-clause-ok : goal.returns-clause-ok
returns-clause-ok c =
    is_listing c.is_table.ensures.distinct c.requires.fits c.requires.known c.copy_entries.ensures.distinct c.in_ok-pairs.ensures.lie
    (c.in_ok-pairs.ensures.pairs ∙ ap (named_pairs c.args.syms.now.symbols) (ap (pairs_in c.copy_entries.new.heap) c.as_slice.ensures.value ∙ c.in_ok-copied.ensures.pairs))
