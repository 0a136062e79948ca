pub mod Cuts
mod Entries
pub mod FileIndexes
pub mod FileTables
pub mod Prefixes
mod Steps
mod EntrySteps
mod IndexCuts
mod Turns
