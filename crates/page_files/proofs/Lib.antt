pub mod Causes
pub mod Editing
pub mod LastRows
mod Opened
mod Props
pub mod Reading
mod Results
pub mod Standing
pub mod Steps
pub mod FilledLemmas
pub mod NewCells
pub mod Rising
pub mod Thinning
pub mod TrimmedRows
pub mod Trimming
pub mod Rewritten
pub mod Ranges
pub mod Ways
pub mod Losing
pub mod Seeking
pub mod Placing
pub mod Filling
pub mod Ordered
pub mod Nothing
