pub mod Flat
pub mod Ordered
pub mod Kept
pub mod After
pub mod Opened
