mod OverFiles
pub mod PrintedLemmas
pub mod SessionLemmas
pub mod WorkLemmas
