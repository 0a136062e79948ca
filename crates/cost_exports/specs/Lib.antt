pub mod Pieces
pub mod ReadBack
pub mod Views
