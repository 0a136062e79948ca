pub mod LastLemmas
pub mod ColumnsLemmas
