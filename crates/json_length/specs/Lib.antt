-- What public contracts cite.
pub mod Lengths
