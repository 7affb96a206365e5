use Rattle.std.proofs.Common.{ap, sym, ◌∙◌, subst}
use Rattle.acl_hash.specs.Sorting.{pairs_in, named_pairs, KnowsPairs}
use Rattle.acl_maps.proofs.ListLemmas.{listed_known, is_listing}
use Rattle.acl_maps.proofs.listing.list_pairs.Goals as goal

pub sorted-requires-clause-known : goal.sorted-requires-clause-known
sorted-requires-clause-known c =
    subst (KnowsPairs c.args.syms.now.symbols) (sym (ap (pairs_in c.copy_entries.new.heap) c.as_slice.ensures.value ∙ c.in_ok-copied.ensures.pairs))
    (listed_known c.args.syms.now.symbols c.args.places.now.entries c.copy_entries.ensures.distinct c.requires.keyed c.requires.known)

pub returns-clause-ok : goal.returns-clause-ok
returns-clause-ok c =
    is_listing c.args.syms.now.symbols c.args.places.now.entries c.copy_entries.new.heap c.in_ok-pairs.pairs.items c.is_table.ensures.distinct c.copy_entries.ensures.distinct c.requires.keyed c.requires.known c.in_ok-pairs.ensures.lie
    (c.in_ok-pairs.ensures.pairs ∙ ap (named_pairs c.args.syms.now.symbols) (ap (pairs_in c.copy_entries.new.heap) c.as_slice.ensures.value ∙ c.in_ok-copied.ensures.pairs))
