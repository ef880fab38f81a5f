-- What public contracts cite.
pub mod Kept
pub mod Bodies
-- What proofs alone rest on: no public contract speaks of it.
pub mod Machinery
