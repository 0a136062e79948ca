pub mod CellSums
pub mod Checked
pub mod Compared
pub mod Reported
pub mod Annotated
pub mod CsvRuns
pub mod FoldedRuns
