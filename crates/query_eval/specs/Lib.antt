-- What public contracts cite.
pub mod Entries
-- What proofs alone rest on: no public contract speaks of it.
pub mod Machinery
pub mod values
pub mod conditions
