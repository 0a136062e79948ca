pub mod Lines
pub mod Views
pub mod Files
pub mod Looking
pub mod Representation
pub mod Heads
pub mod Reads
