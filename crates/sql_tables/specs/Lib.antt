pub mod Calls
pub mod Contents
pub mod Queries
pub mod States
pub mod Walks
