pub mod Records
pub mod Lent
pub mod Marks
pub mod Stacks
pub mod Frames
pub mod Kinds
pub mod Columns
