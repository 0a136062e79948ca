pub mod AddedLemmas
pub mod CallCostLemmas
pub mod CallLemmas
pub mod CostLemmas
pub mod CutLemmas
pub mod DifferenceLemmas
pub mod EnoughLemmas
pub mod FrameLemmas
pub mod FunctionLemmas
pub mod InclusiveLemmas
pub mod KeyLemmas
pub mod PairLemmas
pub mod RankLemmas
pub mod RowLemmas
pub mod SameSums
mod StepLemmas
mod CallExamples
mod DifferenceExamples
mod Examples
