pub mod Parts
pub mod Escaped
pub mod Waiting
