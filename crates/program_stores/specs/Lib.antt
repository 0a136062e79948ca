pub mod Asked
pub mod Jobs
pub mod Theorem
pub mod Remarks
pub mod Sessions
pub mod Works
