pub mod Examples
pub mod Known
pub mod Outcomes
pub mod Writes
pub mod SinkLemmas
mod OnLemmas
