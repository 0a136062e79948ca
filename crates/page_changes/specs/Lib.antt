pub mod Causes
pub mod Changes
pub mod Named
pub mod Removed
pub mod Shown
