-- What public contracts cite.
pub mod Batches
