pub mod Cut
pub mod Backwards
pub mod Kept
pub mod LineIs
pub mod Moves
pub mod Readers
