use Rattle.acl_heap.specs.Growth as heaps
use Rattle.model_symbols.proofs.TableLemmas as tables
use Rattle.acl_forms.specs.Growth.{Grown-both}
use Rattle.acl_client.proofs.entry.Goals as goal

pub returns-in_err-_more-clause-grows : goal.returns-in_err-_more-clause-grows
returns-in_err-_more-clause-grows c =
    Grown-both (heaps.Extends-then c.in_ok-value.ensures.grows (heaps.Extends-then c.in_ok-pair.ensures.grows c.in_err-_more.ensures.grows)) (tables.Extends-then c.in_ok-key.ensures.grows c.in_ok-_other.ensures.grows)

pub returns-clause-grows : goal.returns-clause-grows
returns-clause-grows c =
    Grown-both (heaps.Extends-then c.in_ok-value.ensures.grows (heaps.Extends-then c.in_ok-pair.ensures.grows c.in_ok-_more.ensures.grows)) (tables.Extends-then c.in_ok-key.ensures.grows c.in_ok-_other.ensures.grows)
