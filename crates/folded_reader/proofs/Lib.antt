pub mod LineLemmas
pub mod FrameLemmas
pub mod ExactLemmas
pub mod Examples
