mod Lines
mod Opening
pub mod Readings
pub mod Told
pub mod Creates
pub mod Defines
pub mod Finds
pub mod Means
pub mod Moves
pub mod Names
pub mod Parts
pub mod Rows
pub mod RunRows
pub mod Sound
pub mod Values
pub mod Within
