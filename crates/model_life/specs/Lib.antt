pub mod Models
pub mod Sums
pub mod Refusals
-- What proofs alone rest on: no public contract speaks of it.
pub mod Machinery
pub mod sets
pub mod resolution
