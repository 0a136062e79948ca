pub mod Commands
pub mod Grammar
pub mod Plans
pub mod Table
