-- What public contracts cite.
pub mod Grammar
pub mod Faults
-- What proofs alone rest on: no public contract speaks of it.
pub mod Machinery
