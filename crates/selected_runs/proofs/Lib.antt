pub mod AddedLemmas
pub mod AnyLemmas
pub mod AskLemmas
mod CountedLemmas
pub mod EventLemmas
pub mod RunLemmas
pub mod SelectLemmas
pub mod EnoughLemmas
pub mod EnoughNamed
pub mod Examples
pub mod NamedLemmas
pub mod NamedRowLemmas
pub mod NamedSums
pub mod NumberLemmas
pub mod OnceNamed
pub mod SlotLemmas
pub mod ToldLemmas
pub mod Walks
