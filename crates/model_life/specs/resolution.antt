pub mod Resolving
-- What proofs alone rest on: no public contract speaks of it.
pub mod Machinery
