pub mod Changes
pub mod Files
pub mod Labels
pub mod Lists
pub mod RunRows
pub mod Sound
pub mod Tables
