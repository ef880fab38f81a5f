-- What public contracts cite.
pub mod Rows
pub mod Found
-- What proofs alone rest on: no public contract speaks of it.
pub mod Machinery
