pub mod FunctionCalls
pub mod InclusiveParts
pub mod InclusiveRuns
pub mod KeptCalls
