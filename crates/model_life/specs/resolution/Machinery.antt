pub mod Families
pub mod Reaching
pub mod Counting
