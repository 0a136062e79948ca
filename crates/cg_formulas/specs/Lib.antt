pub mod EventLines
pub mod EventViews
pub mod Formulas
pub mod Definitions
pub mod Rows
pub mod Flats
pub mod Held
pub mod Errors
