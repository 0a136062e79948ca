pub mod Erased
pub mod RowsUnder
