pub mod Enough
pub mod InStep
pub mod Rows
