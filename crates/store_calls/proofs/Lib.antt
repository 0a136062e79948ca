mod FunctionLemmas
mod InclusiveLemmas
mod KeptLemmas
mod KindLemmas
mod PartLemmas
mod WeightLemmas
