pub mod SearchLemmas
pub mod LinesLemmas
pub mod FieldsLemmas
pub mod NumbersLemmas
pub mod JoinedLemmas
pub mod Examples
pub mod TextsLemmas
