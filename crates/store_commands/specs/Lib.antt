pub mod Changes
pub mod FromTables
pub mod Lists
pub mod Refused
