-- What public contracts cite, and what serves the proofs alone.
pub mod Models
pub mod Views
pub mod Machinery
