pub mod Examples
pub mod Fed
pub mod ReadersLemmas
pub mod SumsLemmas
pub mod TotalsLemmas
