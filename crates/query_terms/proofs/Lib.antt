pub mod Weights
pub mod Parts
