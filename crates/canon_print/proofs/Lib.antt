pub mod Parts
pub mod Plain
pub mod Lists
pub mod Sizes
