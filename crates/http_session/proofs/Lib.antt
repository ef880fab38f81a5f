pub mod Stretches
pub mod Unique
