pub mod PlansLemmas
pub mod CommandLemmas
pub mod NoPlanLemmas
mod GrammarLemmas
