mod ArgumentLemmas
mod PlainLemmas
mod ReadLemmas
mod WriteLemmas
mod HashLemmas
mod RoleLemmas
