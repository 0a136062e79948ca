pub mod Tests
pub mod Under
