pub mod Clearing
pub mod Columns
mod Editing
mod Failing
mod Naming
mod Places
pub mod RemovalPlaces
mod Results
mod Seeking
