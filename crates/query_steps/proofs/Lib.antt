pub mod Negations
pub mod Sizes
pub mod Endings
