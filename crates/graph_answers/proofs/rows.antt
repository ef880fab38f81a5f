pub mod Ascending
pub mod Keys
pub mod Standing
pub mod Tuples
pub mod Pages
