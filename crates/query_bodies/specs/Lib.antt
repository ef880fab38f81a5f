-- What public contracts cite.
pub mod Breaches
pub mod Outcomes
-- What proofs alone rest on: no public contract speaks of it.
pub mod Machinery
