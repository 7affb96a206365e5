pub mod CliqueLemmas
pub mod FaultLemmas
pub mod MacroLemmas
pub mod MemberLemmas
