pub mod Histories
pub mod Machinery
pub mod Passes
