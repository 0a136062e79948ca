mod Making
mod Changes
mod Begins
mod Concluding
mod Keeping
mod RunLines
mod Serving
pub mod NumberOfName
pub mod PartSums
pub mod States
pub mod Taken
