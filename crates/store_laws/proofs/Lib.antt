pub mod Alike
pub mod Bounds
pub mod Columns
pub mod Examples
pub mod Exports
pub mod FilesAlike
mod Handing
pub mod HeldRuns
mod Keeping
pub mod Reports
pub mod RowSums
pub mod Widths
