mod GivenLemmas
mod NoneLemmas
mod Runs
pub mod Taken
mod Unread
