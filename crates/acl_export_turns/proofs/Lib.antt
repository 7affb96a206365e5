pub mod ExportLemmas
pub mod StepLemmas
pub mod AllowLemmas
pub mod EnterLemmas
pub mod SoundLemmas
pub mod ReadLemmas
