pub mod Exchanges
pub mod Performed
pub mod Replies
pub mod Served
