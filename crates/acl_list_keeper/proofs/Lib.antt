mod ReadyLemmas
mod SoundLemmas
