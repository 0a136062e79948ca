pub mod CutLemmas
pub mod PrefixLemmas
pub mod MovesLemmas
pub mod ReadersLemmas
