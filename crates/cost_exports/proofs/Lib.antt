pub mod AmountLemmas
pub mod ColumnLemmas
pub mod CsvReadLemmas
pub mod HeldLemmas
pub mod KnownLemmas
pub mod LineLemmas
pub mod PieceLemmas
pub mod ReadBackLemmas
pub mod SlotLemmas
pub mod SpreadLemmas
pub mod StackLemmas
mod Examples
