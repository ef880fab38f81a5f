-- What ties functions to the conditions that they take apart.
pub mod Weights
pub mod Parts
