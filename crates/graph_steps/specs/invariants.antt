-- What public contracts cite.
pub mod Frozen
