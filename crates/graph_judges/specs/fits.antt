-- What public contracts cite.
pub mod Ill
-- What proofs alone rest on: no public contract speaks of it.
pub mod Machinery
