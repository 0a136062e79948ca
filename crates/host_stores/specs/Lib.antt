pub mod Causes
pub mod Files
pub mod NewStores
pub mod Stores
