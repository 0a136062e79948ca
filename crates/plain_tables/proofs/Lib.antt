pub mod Lists
pub mod Numbering
pub mod Runs
