-- What public contracts cite.
pub mod Held
pub mod Judged
-- What proofs alone rest on: no public contract speaks of it.
pub mod Machinery
