pub mod Finished
pub mod Kept
pub mod PartSums
pub mod States
