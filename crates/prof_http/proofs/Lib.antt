mod Examples
pub mod Heads
pub mod SendingLemmas
pub mod Served
pub mod Unread
