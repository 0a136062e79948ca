pub mod Databases
pub mod First
pub mod Pages
pub mod SameFiles
