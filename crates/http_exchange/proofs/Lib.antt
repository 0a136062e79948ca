pub mod BodyLemmas
mod Examples
pub mod HeadLemmas
pub mod Steps
mod StreamExamples
pub mod TextsLemmas
pub mod PhraseLemmas
